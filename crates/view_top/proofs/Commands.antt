-- The command is one whose matches and faults are known as functions of its words.
use Rattle.std.proofs.Common.{refl, ◌≡◌, true}
use Rattle.clap.specs.Words.{is_simple_and_free}
use Rattle.clap.proofs.OnLiterals.{clap_on_literals}
use Rattle.view_top.specs.Command.{view_command}

pub is_free : is_simple_and_free view_command ≡ true
unfolding view_command clap_on_literals
is_free = refl

-- The command is one whose matches and faults are known as functions of its words.
use Rattle.std.proofs.Common.{refl, ◌≡◌, true}
use Rattle.clap.specs.Words.{is_simple_and_free}
use Rattle.clap.proofs.OnLiterals.{clap_on_literals}
use Rattle.dn_top.specs.Command.{command}

pub is_free : is_simple_and_free command ≡ true
unfolding command clap_on_literals
is_free = refl

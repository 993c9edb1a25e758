-- The command is one whose matches and faults are known as functions of its words.
use Rattle.std.proofs.Common.{refl, ◌≡◌, true}
use Rattle.clap.specs.Words.{is_simple_and_free}
use Rattle.clap.proofs.OnLiterals.{clap_on_literals}
use Rattle.sweep_top.specs.Command.{sweep_command}

pub is_free : is_simple_and_free sweep_command ≡ true
unfolding sweep_command clap_on_literals
is_free = refl

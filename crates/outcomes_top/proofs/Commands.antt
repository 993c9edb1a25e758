-- The command is one whose matches and faults are known as functions of its words.
use Rattle.std.proofs.Common.{refl, ◌≡◌, true}
use Rattle.clap.specs.Words.{is_simple_and_free}
use Rattle.clap.proofs.OnLiterals.{clap_on_literals}
use Rattle.outcomes_top.specs.Command.{outcomes_command}

pub is_free : is_simple_and_free outcomes_command ≡ true
unfolding outcomes_command clap_on_literals
is_free = refl

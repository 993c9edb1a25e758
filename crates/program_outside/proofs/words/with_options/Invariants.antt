use Rattle.std.proofs.Common.{◌≡◌, drop}
use Rattle.clap.specs.Words.{app_of}
use Rattle.program_outside.specs.Words.{with_rules}
use Rattle.program_outside.proofs.words.with_options.Given as goal

abbrev pub invariant-loop-option : goal.invariant-loop-option
invariant-loop-option l = with_rules (app_of l.made) (drop l.option-index l.options) ≡ with_rules (app_of l.fn.command) l.options

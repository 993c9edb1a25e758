use Rattle.std.proofs.Common.{◌≡◌, drop}
use Rattle.std.specs.List.{find}
use Rattle.sentences.specs.Examples.{takes}
use Rattle.sentences.proofs.examples.first_taken.Given as goal

-- the word takes none so far
abbrev pub invariant-loop-form : goal.invariant-loop-form
invariant-loop-form l = find (takes l.version l.word) (drop l.form-index l.forms) ≡ find (takes l.version l.word) l.forms

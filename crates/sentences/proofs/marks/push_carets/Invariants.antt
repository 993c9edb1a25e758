use Rattle.std.proofs.Common.{◌≡◌, ◌++◌, replicate}
use Rattle.sentences.proofs.marks.push_carets.Given as goal

abbrev pub invariant-loop-caret : goal.invariant-loop-caret
invariant-loop-caret l = l.out.items ≡ l.initial.out.items ++ replicate l.caret 94

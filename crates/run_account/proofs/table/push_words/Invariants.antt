use Rattle.std.proofs.Common.{◌≡◌, ◌++◌, replicate}
use Rattle.run_account.proofs.table.push_words.Given as goal

abbrev pub invariant-loop-word : goal.invariant-loop-word
invariant-loop-word l = l.words ≡ l.fn.words ++ replicate l._word l.region

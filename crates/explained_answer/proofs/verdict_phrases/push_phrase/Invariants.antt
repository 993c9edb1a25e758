use Rattle.std.proofs.Common.{◌≡◌, ◌≤◌, ◌++◌, drop}
use Rattle.explained_answer.specs.Verdicts.{phrased}
use Rattle.explained_answer.proofs.verdict_phrases.push_phrase.Given as goal

abbrev pub invariant-loop-mark : goal.invariant-loop-mark
invariant-loop-mark l =
    (l.next ≤ l.mark-index)
    × (l.out.items ++ phrased l.located l.found l.next (drop l.mark-index l.phrase) ≡ l.fn.out.items ++ phrased l.located l.found 0 l.phrase)

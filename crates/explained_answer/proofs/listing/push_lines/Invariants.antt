use Rattle.std.proofs.Common.{◌≡◌, ◌++◌, drop, map}
use Rattle.sentences.specs.Quotes.{span_bytes}
use Rattle.explained_answer.specs.Listing.{explained_from}
use Rattle.explained_answer.proofs.listing.push_lines.Given as goal

abbrev pub invariant-loop-number : goal.invariant-loop-number
invariant-loop-number l =
    l.out.items ++ explained_from l.text l.located l.first l.number (map (span_bytes l.answer) (drop l.number l.lines))
    ≡ l.fn.out.items ++ explained_from l.text l.located l.first 0 (map (span_bytes l.answer) l.lines)

use Rattle.std.proofs.Common.{◌≡◌, ◌+◌, ◌*◌, ◌++◌, drop}
use Rattle.rv_listing.specs.Listing.{addressed_lines, text_of}
use Rattle.rv_listing.proofs.writing.push_addressed.Given as goal

abbrev pub invariant-loop-word : goal.invariant-loop-word
invariant-loop-word l = record {
  place : l.address ≡ l.fn.first + 4 * l.word-index;
  left : l.out.items ++ text_of (addressed_lines l.address (drop l.word-index l.code)) ≡ l.fn.out.items ++ text_of (addressed_lines l.fn.first l.code);
}

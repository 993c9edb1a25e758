use Rattle.std.proofs.Common.{◌≡◌, ◌++◌, drop, map}
use Rattle.rv_listing.specs.Instruction.{code_line}
use Rattle.rv_listing.specs.Listing.{text_of}
use Rattle.rv_listing.proofs.writing.push_words.Given as goal

abbrev pub invariant-loop-word : goal.invariant-loop-word
invariant-loop-word l =
    l.out.items ++ text_of (map code_line (drop l.word-index l.code)) ≡ l.fn.out.items ++ text_of (map code_line l.code)

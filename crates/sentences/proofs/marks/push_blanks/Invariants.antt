use Rattle.std.proofs.Common.{◌≡◌, ◌++◌, map, take}
use Rattle.sentences.specs.Marks.{blank_under}
use Rattle.sentences.proofs.marks.push_blanks.Given as goal

-- a blank for each byte so far
abbrev pub invariant-loop-byte : goal.invariant-loop-byte
invariant-loop-byte l = l.out.items ≡ l.initial.out.items ++ map blank_under (take l.byte-index l.bytes)

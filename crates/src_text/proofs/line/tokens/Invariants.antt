use Rattle.std.proofs.Common.{length, ◌++◌, ◌≡◌}
use Rattle.src_text.specs.Line.{lines_of}
use Rattle.src_text.proofs.line.tokens.Given as goal

abbrev pub invariant-loop-lines : goal.invariant-loop-lines
invariant-loop-lines l = l.lines.items ++ l.reader ≡ lines_of l.text

abbrev pub decreases-loop-lines : goal.decreases-loop-lines
decreases-loop-lines l = length l.reader

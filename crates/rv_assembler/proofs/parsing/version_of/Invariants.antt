use Rattle.std.proofs.Common.{length, ◌≡◌}
use Rattle.src_text.specs.Line.{lines_of}
use Rattle.rv_assembler.specs.Reading.{version_line}
use Rattle.rv_assembler.proofs.parsing.version_of.Given as goal

-- the lines so far are blank
abbrev pub invariant-loop-line : goal.invariant-loop-line
invariant-loop-line l = version_line l.text l.reader ≡ version_line l.text (lines_of l.text)

abbrev pub decreases-loop-line : goal.decreases-loop-line
decreases-loop-line l = length l.reader

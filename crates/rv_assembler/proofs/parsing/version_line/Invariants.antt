use Rattle.std.proofs.Common.{◌≡◌, drop}
use Rattle.rv_assembler.specs.Reading.{version_line}
use Rattle.rv_assembler.proofs.parsing.version_line.Given as goal

abbrev pub invariant-loop-line : goal.invariant-loop-line
invariant-loop-line l = version_line l.text (drop l.line-index l.lines) ≡ version_line l.text l.lines

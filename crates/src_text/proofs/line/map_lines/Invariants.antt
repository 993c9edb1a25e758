use Rattle.std.proofs.Common.{length, ◌++◌, List}
use Rattle.std.specs.List.{AllZip}
use Rattle.std.specs.Fn.{FnReturnsAt}
use Rattle.src_text.specs.Line.{lines_of}
use Rattle.src_text.proofs.line.map_lines.Given as goal

-- what is made of the lines that are left goes behind what is made of those so far
abbrev pub invariant-loop-made : goal.invariant-loop-made
invariant-loop-made g l = (more : List _) → AllZip (FnReturnsAt g.F.Fn l.f) l.reader more → AllZip (FnReturnsAt g.F.Fn l.f) (lines_of l.text) (l.made.items ++ more)

abbrev pub decreases-loop-made : goal.decreases-loop-made
decreases-loop-made g l = length l.reader

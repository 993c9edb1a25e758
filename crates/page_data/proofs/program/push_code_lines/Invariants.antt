use Rattle.std.proofs.Common.{◌≡◌, ◌++◌, drop}
use Rattle.page_data.specs.Program.{code_lines}
use Rattle.page_data.proofs.program.push_code_lines.Given as goal

abbrev pub invariant-loop-word : goal.invariant-loop-word
invariant-loop-word l = l.lines.items ++ code_lines (drop l.word-index l.code) ≡ l.fn.lines.items ++ code_lines l.code

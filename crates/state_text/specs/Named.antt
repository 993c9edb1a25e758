-- A text with its lines, as it is passed between calls.
use Rattle.std.specs.Prelude.{◌≡◌}
use Rattle.src_text.specs.Line.{lines_of}
use Rattle.rv_assembler.specs.Reading.{version_line}
use Rattle.state_text.specs.declared.answer_tasks.NamedSource.{NamedSource}

-- the lines are those of the text, and the number is that of its version line
pub record HasLinesOfText (s : NamedSource) : Type 0 where
  pub lines : s.lines.now ≡ lines_of s.text.now
  pub version : s.version ≡ version_line s.text.now (lines_of s.text.now)

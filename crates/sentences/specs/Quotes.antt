-- Where the lines of a text stand in it.
use Rattle.std.specs.Prelude.{◌≡◌, ℕ, ◌≤◌, List, length, map, slice_range}
use Rattle.std.specs.List.{All}
use Rattle.src_text.specs.Line.{cut}
use Rattle.src_text.specs.declared.token.Span.{Span}

abbrev pub span_bytes : List ℕ → Span → List ℕ
span_bytes text s = slice_range text s.start s.end

abbrev pub IsSpanOf : List ℕ → Span → Type 0
IsSpanOf text s = (s.start ≤ s.end) × (s.end ≤ length text)

-- these are the places of the text's lines, without their newlines
pub record AreSpans (text : List ℕ) (spans : List Span) : Type 0 where
  pub within : All (IsSpanOf text) spans
  pub lines : map (span_bytes text) spans ≡ cut text

-- The places of a text's lines, line by line.
use Rattle.std.proofs.Common.{◌≡◌, ℕ, zero, suc, ◌+◌, ◌-◌, ◌<◌, ◌≤◌, List, [], ◌∷◌, ◌++◌, length, map, take, drop, slice_get, Some, None, refl, sym, ap, ◌∙◌, arith, append_assoc}
use Rattle.std.specs.List.{All, before_first, position_or_len}
use Rattle.std.specs.Option.{option_map}
use Rattle.std.proofs.lemmas.List.{append-nil, drop-drop, drop_all, length-drop, length-take-le}
use Rattle.std.proofs.lemmas.Option.{slice_get-map}
use Rattle.std.proofs.lemmas.List.Elements.{All-append, All-cons, All-nil}
use Rattle.src_text.specs.Byte.{is_newline}
use Rattle.src_text.specs.Line.{cut}
use Rattle.src_text.proofs.LineLemmas.{cut-first}
use Rattle.text_places.specs.Texts.{quoted_by, quoted_line}
use Rattle.src_text.specs.declared.token.Span.{Span}
use Rattle.sentences.specs.Quotes.{span_bytes, IsSpanOf, AreSpans}

-- the places of the lines before a place, where a line begins
pub record AreSpansTo (text : List ℕ) (spans : List Span) (start : ℕ) : Type 0 where
  pub place : start ≤ length text + 1
  pub within : All (IsSpanOf text) spans
  pub lines : map (span_bytes text) spans ++ cut (drop start text) ≡ cut text

pub no-spans : (text : List ℕ) → AreSpansTo text [] 0
no-spans text = record { place = omega arith; within = All-nil (IsSpanOf text); lines = refl }

map-one : (text : List ℕ) (spans : List Span) (s : Span) → map (span_bytes text) (spans ++ s ∷ []) ≡ map (span_bytes text) spans ++ span_bytes text s ∷ []
map-one text [] s = refl
map-one text (t ∷ ts) s = ap (λ ls. span_bytes text t ∷ ls) (map-one text ts s)

-- the line that begins at a place
pub one-span : (text : List ℕ) (spans : List Span) (start size : ℕ) → AreSpansTo text spans start → start < length text → size ≤ length (drop start text)
    → size ≡ position_or_len is_newline (drop start text) → AreSpansTo text (spans ++ record { start = start; end = start + size } ∷ []) (start + size + 1)
one-span text spans start size so_far some fits is =
    let s : Span = record { start = start; end = start + size } in
    let rest = drop start text in
    let left : length rest ≡ length text - start = length-drop start text in
    let width : start + size - start ≡ size = omega arith in
    let bytes : span_bytes text s ≡ before_first is_newline rest = ap (λ k. take k rest) width ∙ ap (λ k. take k rest) is in
    let long : length (before_first is_newline rest) ≡ size = ap length (sym (ap (λ k. take k rest) is)) ∙ length-take-le size rest fits in
    let behind : drop (length (before_first is_newline rest) + 1) rest ≡ drop (start + size + 1) text =
    drop-drop (length (before_first is_newline rest) + 1) start text ∙ ap (λ k. drop k text) (omega (arith, long)) in
    let here : cut rest ≡ span_bytes text s ∷ cut (drop (start + size + 1) text) =
    cut-first rest (omega arith) ∙ ap (λ w. before_first is_newline rest ∷ cut w) behind ∙ ap (λ b. b ∷ cut (drop (start + size + 1) text)) (sym bytes) in
    record {
      place = omega arith;
      within = All-append (IsSpanOf text) spans (s ∷ []) so_far.within (All-cons (IsSpanOf text) s [] (omega arith, omega arith) (All-nil (IsSpanOf text)));
      lines =
          ap (λ ls. ls ++ cut (drop (start + size + 1) text)) (map-one text spans s)
          ∙ append_assoc (map (span_bytes text) spans) (span_bytes text s ∷ []) (cut (drop (start + size + 1) text))
          ∙ ap (λ ls. map (span_bytes text) spans ++ ls) (sym here)
          ∙ so_far.lines;
    }

-- no line begins behind the text
pub all-spans : (text : List ℕ) (spans : List Span) (start : ℕ) → AreSpansTo text spans start → length text ≤ start → AreSpans text spans
all-spans text spans start so_far past =
    record {
      within = so_far.within;
      lines =
          sym (append-nil (map (span_bytes text) spans))
          ∙ ap (λ w. map (span_bytes text) spans ++ cut w) (sym (drop_all start text past))
          ∙ so_far.lines;
    }

-- ---- a line that is looked for

pub quoted-some : (text : List ℕ) (spans : List Span) (line : ℕ) (s : Span) → AreSpans text spans → 0 < line → slice_get spans (line - 1) ≡ Some s
    → quoted_by line (Some (span_bytes text s)) ≡ quoted_line text line
quoted-some text spans zero s are some is = absurd (omega arith)
quoted-some text spans (suc n) s are some is =
    let same : suc n - 1 ≡ n = omega arith in
    ap (quoted_by (suc n))
    (ap (option_map (span_bytes text)) (sym is ∙ ap (slice_get spans) same) ∙ sym (slice_get-map (span_bytes text) spans n) ∙ ap (λ ls. slice_get ls n) are.lines)

pub quoted-none : (text : List ℕ) (spans : List Span) (line : ℕ) → AreSpans text spans → 0 < line → slice_get spans (line - 1) ≡ None → [] ≡ quoted_line text line
quoted-none text spans zero are some is = absurd (omega arith)
quoted-none text spans (suc n) are some is =
    let same : suc n - 1 ≡ n = omega arith in
    ap (quoted_by (suc n))
    (ap (option_map (span_bytes text)) (sym is ∙ ap (slice_get spans) same) ∙ sym (slice_get-map (span_bytes text) spans n) ∙ ap (λ ls. slice_get ls n) are.lines)

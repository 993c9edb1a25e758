-- The lines of a verdict, one after the other.
use Rattle.std.proofs.Common.{◌≡◌, ℕ, ◌+◌, ◌<◌, Bool, true, false, List, [], ◌∷◌, ◌++◌, length, drop, slice_index_or, Option, Some, None, Ok, refl, sym, ap, ◌∙◌}
use Rattle.std.specs.List.{before_first}
use Rattle.std.specs.Cmp.Lexicographic.{same_text}
use Rattle.std.proofs.lemmas.Bool.{false≢true}
use Rattle.std.proofs.lemmas.Option.{none-some, same_Some}
use Rattle.src_text.specs.Byte.{is_newline}
use Rattle.src_text.specs.Laws.{ended}
use Rattle.src_text.specs.Line.{cut}
use Rattle.src_text.proofs.LineLemmas.{cut-first}
use Rattle.rv_assembler.specs.Source.{source}
use Rattle.text_places.specs.declared.places.Located.{Located}
use Rattle.text_places.specs.Lines.{numbered_line}
use Rattle.text_places.specs.Places.{text_places}
use Rattle.explained_answer.specs.declared.explaining.Explained.{Explained}
use Rattle.explained_answer.specs.declared.explaining.Explained as explained
use Rattle.explained_answer.specs.declared.verdict_rows.VerdictRow.{VerdictRow}
use Rattle.explained_answer.specs.Verdicts.{form_of, phrase_of, pieces, verdict_row, piece_number, phrased, quoted_piece, is_line, is_numbered, quotes_piece, quotes, said_if, row_said, said_line, onward, verdict_from, located_verdict, verdict_by, explained_verdict}

module _ (text : List ℕ) (l : Located) (on_answer : Bool) (number : ℕ) (before rest line : List ℕ) (some : 0 < length rest) (first : line ≡ before_first is_newline rest) where
  here : cut rest ≡ line ∷ cut (drop (length line + 1) rest)
  here = rw first (cut-first rest some)

  pub line-said : (said : List ℕ) → said_line text l on_answer line ≡ Some said
      → verdict_from text l on_answer (number + 1) (before ++ said) (cut (drop (length line + 1) rest)) ≡ verdict_from text l on_answer number before (cut rest)
  line-said said is =
      sym
      (ap (verdict_from text l on_answer number before) here
      ∙ ap (λ (o : Option (List ℕ)). onward number o (λ (s : List ℕ). verdict_from text l on_answer (number + 1) (before ++ s) (cut (drop (length line + 1) rest)))) is)

  pub line-refused : said_line text l on_answer line ≡ None → explained.TheVariants.Refused number ≡ verdict_from text l on_answer number before (cut rest)
  line-refused is =
      sym
      (ap (verdict_from text l on_answer number before) here
      ∙ ap (λ (o : Option (List ℕ)). onward number o (λ (s : List ℕ). verdict_from text l on_answer (number + 1) (before ++ s) (cut (drop (length line + 1) rest)))) is)

pub lines-end : (text : List ℕ) (l : Located) (on_answer : Bool) (number : ℕ) (before rest : List ℕ) → length rest ≡ 0
    → explained.TheVariants.Text before ≡ verdict_from text l on_answer number before (cut rest)
lines-end text l on_answer number before [] none = refl
lines-end text l on_answer number before (b ∷ bs) none = absurd (cc)

pub located-explained : (text answer : List ℕ) (l : Located) → source text ≡ Ok l.program → l.places ≡ text_places text → located_verdict text l answer ≡ explained_verdict text answer
unfolding explained_verdict
located-explained text answer l is places =
    let same : l ≡ record { program = l.program; places = text_places text } = λ i. record { program = l.program; places = places i } in
    ap (λ (x : Located). located_verdict text x answer) same ∙ sym (ap (verdict_by text answer) is)

-- ---- what is said of a line

pub line-repeated : (text : List ℕ) (l : Located) (on_answer : Bool) (line said : List ℕ) → said_line text l on_answer line ≡ Some said → (more : List ℕ) × (said ≡ ended line ++ more)
line-repeated text l on_answer line said is = by_row (verdict_row on_answer line) is
  where
    by_test : (r : VerdictRow) (b : Bool) → said_if b l r line (pieces (form_of r) line) ≡ Some said → (more : List ℕ) × (said ≡ ended line ++ more)
    by_test r true e = (phrased l (pieces (form_of r) line) 0 (phrase_of r), sym (same_Some (ended line ++ phrased l (pieces (form_of r) line) 0 (phrase_of r)) said e))
    by_test r false e = absurd (none-some said e)

    by_row : (o : Option VerdictRow) → row_said text l line o ≡ Some said → (more : List ℕ) × (said ≡ ended line ++ more)
    by_row None e = absurd (none-some said e)
    by_row (Some r) e = by_test r (quotes text r (pieces (form_of r) line)) e

-- what a line quotes is a line of the text
abbrev IsQuoted : (text piece bytes : List ℕ) → Type 0
IsQuoted text piece bytes = (n : ℕ) × (piece_number piece ≡ Some n) × (numbered_line text n ≡ Some bytes)

numbered-quoted : (text piece bytes : List ℕ) → is_numbered text (piece_number piece) bytes ≡ true → IsQuoted text piece bytes
numbered-quoted text piece bytes is = by_number (piece_number piece) refl is
  where
    by_line : (n : ℕ) → piece_number piece ≡ Some n → (o : Option (List ℕ)) → numbered_line text n ≡ o → is_line o bytes ≡ true → IsQuoted text piece bytes
    by_line n number None there e = absurd (false≢true e)
    by_line n number (Some line) there e = (n, number, there ∙ ap Some (same_text line bytes (sym e)))

    by_number : (o : Option ℕ) → piece_number piece ≡ o → is_numbered text o bytes ≡ true → IsQuoted text piece bytes
    by_number None number e = absurd (false≢true e)
    by_number (Some n) number e = by_line n number (numbered_line text n) refl e

pub line-quoted : (text : List ℕ) (l : Located) (on_answer : Bool) (line said : List ℕ) (r : VerdictRow) (k : ℕ) → said_line text l on_answer line ≡ Some said → verdict_row on_answer line ≡ Some r
    → quoted_piece r ≡ Some k → IsQuoted text (slice_index_or (pieces (form_of r) line) k []) (slice_index_or (pieces (form_of r) line) (k + 1) [])
line-quoted text l on_answer line said r k is row quoting = by_test (quotes text r found) refl (sym (ap (row_said text l line) row) ∙ is)
  where
    found : List (List ℕ)
    found = pieces (form_of r) line

    by_test : (b : Bool) → quotes text r found ≡ b → said_if b l r line found ≡ Some said → IsQuoted text (slice_index_or found k []) (slice_index_or found (k + 1) [])
    by_test true test e =
        numbered-quoted text (slice_index_or found k []) (slice_index_or found (k + 1) []) (sym (ap (quotes_piece text found) quoting) ∙ test)
    by_test false test e = absurd (none-some said e)

-- The tokens of a text as parts of it.
use Rattle.std.proofs.Common.{◌≡◌, inl, inr, ℕ, ◌+◌, ◌-◌, ◌<◌, ◌≤◌, true, List, [], ◌∷◌, ◌++◌, length, take, drop, get_or, Option, Some, None, refl, sym, ◌∙◌, ap, subst, append_assoc, arith}
use Rattle.std.specs.List.{All, slice_range, filter_map, AllZip, position_or_len}
use Rattle.std.proofs.lemmas.Bool.{cases_lt}
use Rattle.std.proofs.lemmas.Option.{same_Some, slice_get-get_or}
use Rattle.std.proofs.lemmas.List.{take-append-drop, length-drop, drop-append-le, drop-drop, get_or_past, take_at}
use Rattle.std.proofs.lemmas.List.Elements.{All-nil, All-cons, All-head, All-tail, All-weaker}
use Rattle.src_text.specs.Byte.{is_hash}
use Rattle.src_text.specs.Lexeme.{Lexeme, begins_token, front, lexemes_of, before_comment, token_kind_of, token_of}
use Rattle.src_text.specs.Line.{cut, line_of, line_with, lines_of, fault_of}
use Rattle.src_text.specs.Laws.{line_start, StandsAt, IsTokenOf, IsSliceOf}
use Rattle.src_text.specs.declared.token.Token.{Token}
use Rattle.src_text.specs.declared.line.Line.{Line}
use Rattle.src_text.specs.declared.line.LineFault.{LineFault}
use Rattle.src_text.proofs.LawLemmas.{AreLexemesOf-lexemes_of, AreTokensOf-line_of, IsLongest-front}
use Rattle.src_text.proofs.CutLemmas.{AreNumbered-lines_of}

-- the front of what stands at a place of the code begins what stands there in the text
front_of_more : (bs more : List ℕ) → 0 < length bs → take (length (front bs)) (bs ++ more) ≡ front bs
front_of_more [] more some = absurd (omega arith)
front_of_more (b ∷ bs) more some =
    let first = (IsLongest-front b bs).first in
    let split : b ∷ bs ≡ front (b ∷ bs) ++ drop (length (front (b ∷ bs))) (b ∷ bs) = sym (take-append-drop (length (front (b ∷ bs))) (b ∷ bs)) ∙ ap (λ (w : List ℕ). w ++ drop (length (front (b ∷ bs))) (b ∷ bs)) first in
    ap (λ (w : List ℕ). take (length (front (b ∷ bs))) (w ++ more)) split
    ∙ ap (take (length (front (b ∷ bs)))) (append_assoc (front (b ∷ bs)) (drop (length (front (b ∷ bs))) (b ∷ bs)) more)
    ∙ take_at (front (b ∷ bs)) (drop (length (front (b ∷ bs))) (b ∷ bs) ++ more) (length (front (b ∷ bs))) refl

-- a place where a token begins is within the code
pub within_code : (p : ℕ) (code : List ℕ) → begins_token (get_or (32 ∷ code) p 0) (get_or code p 0) ≡ true → p < length code
within_code p code begun = elim (cases_lt p (length code)) [
  | inl within ↦ within
  | inr past ↦ absurd (nothing (get_or (32 ∷ code) p 0) (get_or code p 0) (get_or_past code p 0 past) begun)
]
  where
    nothing : (before b : ℕ) → b ≡ 0 → begins_token before b ≡ true → ⊥
    nothing before b none begun = let zeroed = ap (begins_token before) none in cc

drop_some : (p : ℕ) (code : List ℕ) → p < length code → 0 < length (drop p code)
drop_some p code within = omega (arith, length-drop p code)

-- a lexeme that stands in the code of a line that stands in the text
pub slice_of_lexeme : (text line code more rest : List ℕ) (place p : ℕ) (l : Lexeme) → line ≡ code ++ more → drop place text ≡ line ++ rest → StandsAt place p code l → slice_range text l.start (l.start + length l.bytes) ≡ l.bytes
slice_of_lexeme text line code more rest place p l in_line in_text stands =
    let within = within_code p code stands.begun in
    let low : p ≤ length code = omega arith in
    let here : drop l.start text ≡ drop p code ++ (more ++ rest) =
    ap (λ (n : ℕ). drop n text) stands.start
    ∙ sym (drop-drop p place text)
    ∙ ap (drop p) (in_text ∙ ap (λ (w : List ℕ). w ++ rest) in_line ∙ append_assoc code more rest)
    ∙ drop-append-le p code (more ++ rest) low in
    let count : l.start + length l.bytes - l.start ≡ length (front (drop p code)) = omega (arith, ap length stands.bytes) in
    ap (λ (n : ℕ). take n (drop l.start text)) count
    ∙ ap (take (length (front (drop p code)))) here
    ∙ front_of_more (drop p code) (more ++ rest) (drop_some p code within)
    ∙ sym stands.bytes

slice_of_token : (text : List ℕ) (l : Lexeme) (t : Token) → slice_range text l.start (l.start + length l.bytes) ≡ l.bytes → IsTokenOf l t → IsSliceOf text t
slice_of_token text l t slice is =
    ap token_kind_of (ap (λ (n : ℕ). slice_range text n t.end) is.start ∙ ap (slice_range text l.start) is.end ∙ slice) ∙ is.kind

slices : (text : List ℕ) (ls : List Lexeme) (ts : List Token) → All (λ l. slice_range text l.start (l.start + length l.bytes) ≡ l.bytes) ls → AllZip IsTokenOf ls ts → All (IsSliceOf text) ts
slices text [] [] all zip = All-nil (IsSliceOf text)
slices text [] (t ∷ ts) all zip = absurd zip
slices text (l ∷ ls) [] all zip = absurd zip
slices text (l ∷ ls) (t ∷ ts) all zip =
    All-cons (IsSliceOf text) t ts
    (slice_of_token text l t (All-head (λ (l : Lexeme). slice_range text l.start (l.start + length l.bytes) ≡ l.bytes) l ls all) zip.0)
    (slices text ls ts (All-tail (λ (l : Lexeme). slice_range text l.start (l.start + length l.bytes) ≡ l.bytes) l ls all) zip.1)

by_fault : (text : List ℕ) (number : ℕ) (ts : List Token) (f : Option LineFault) → (f ≡ None → All (IsSliceOf text) ts) → All (IsSliceOf text) (line_with number ts f).tokens
by_fault text number ts None good = good refl
by_fault text number ts (Some f) good = All-nil (IsSliceOf text)

pub same_tokens : (number : ℕ) (ts : List Token) (f : Option LineFault) → f ≡ None → ts ≡ (line_with number ts f).tokens
same_tokens number ts f none = ap (λ (g : Option LineFault). (line_with number ts g).tokens) (sym none)

slices_of_line : (text line rest : List ℕ) (number place : ℕ) → drop place text ≡ line ++ rest → All (IsSliceOf text) (line_of number place line).tokens
slices_of_line text line rest number place in_text =
    let ls = lexemes_of place line in
    let stand = All-weaker (λ (l : Lexeme). (p : ℕ) × StandsAt place p (before_comment line) l) (λ (l : Lexeme). slice_range text l.start (l.start + length l.bytes) ≡ l.bytes)
    (λ l s. slice_of_lexeme text line (before_comment line) (drop (position_or_len is_hash line) line) rest place s.0 l (sym (take-append-drop (position_or_len is_hash line) line)) in_text s.1) ls (AreLexemesOf-lexemes_of place line).stand in
    by_fault text number (filter_map token_of ls) (fault_of number line)
    (λ none. slices text ls (filter_map token_of ls) stand
    (subst (AllZip IsTokenOf ls) (sym (same_tokens number (filter_map token_of ls) (fault_of number line) none)) (AreTokensOf-line_of number place line none)))

-- what a line of a text begins
pub in_the_text : (text line : List ℕ) (place : ℕ) → slice_range text place (place + length line) ≡ line → drop place text ≡ line ++ drop (length line) (drop place text)
in_the_text text line place slice =
    let count : place + length line - place ≡ length line = omega arith in
    sym (take-append-drop (length line) (drop place text))
    ∙ ap (λ (w : List ℕ). w ++ drop (length line) (drop place text)) (sym (ap (λ (n : ℕ). take n (drop place text)) count) ∙ slice)

pub AreSlices-lines_of : (text : List ℕ) → All (λ line. All (IsSliceOf text) line.tokens) (lines_of text)
AreSlices-lines_of text = λ k d short.
    let numbered = AreNumbered-lines_of text in
    let line = get_or (cut text) k [] in
    let place = line_start k (cut text) in
    let within : k < length (cut text) = omega (arith, numbered.count) in
    let is : get_or (lines_of text) k d ≡ line_of (k + 1) place line = same_Some _ _ (sym (slice_get-get_or (lines_of text) k d short) ∙ numbered.each k within) in
    subst (λ (l : Line). All (IsSliceOf text) l.tokens) (sym is) (slices_of_line text line (drop (length line) (drop place text)) (k + 1) place (in_the_text text line place (numbered.bytes k within)))

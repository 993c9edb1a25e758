-- The lines that are left behind some lines of a text.
use Rattle.std.proofs.Common.{◌≡◌, ◌≢◌, ℕ, zero, suc, ◌+◌, ◌-◌, ◌<◌, ◌≤◌, List, [], ◌∷◌, length, drop, Some, None, refl, sym, ap, ◌∙◌, slice_get, ◌⊎◌, inl, inr, ⊎_elim, arith}
use Rattle.std.specs.List.{before_first}
use Rattle.std.proofs.lemmas.List.{drop-drop, length-drop}
use Rattle.std.proofs.lemmas.Bool.{cases_lt}
use Rattle.src_text.specs.Byte.{is_newline}
use Rattle.src_text.specs.Line.{cut}
use Rattle.src_text.proofs.LineLemmas.{cut-first}
use Rattle.text_places.specs.Lines.{numbered_line}

-- the line that is looked for is among those that are left, or else is before them and there is no such line
abbrev pub IsLeft : List ℕ → ℕ → ℕ → ℕ → Type 0
IsLeft text line number start =
    ((number ≤ line) × (slice_get (cut (drop start text)) (line - number) ≡ numbered_line text line)) ⊎ ((line < number) × (numbered_line text line ≡ None))

pub left-first : (text : List ℕ) (line : ℕ) → IsLeft text line 1 0
left-first text zero = inr (omega arith, refl)
left-first text (suc n) = inl (omega arith, ap (slice_get (cut text)) (omega arith))

module _ (text : List ℕ) (line number start : ℕ) (bytes : List ℕ) (some : start < length text) (is : bytes ≡ before_first is_newline (drop start text)) where
  cut-here : cut (drop start text) ≡ bytes ∷ cut (drop (start + (length bytes + 1)) text)
  cut-here =
      let more : 0 < length (drop start text) = omega (arith, length-drop start text) in
      let first : cut (drop start text) ≡ bytes ∷ cut (drop (length bytes + 1) (drop start text)) = rw is (cut-first (drop start text) more) in
      first ∙ ap (λ (w : List ℕ). bytes ∷ cut w) (drop-drop (length bytes + 1) start text)

  pub left-here : line ≡ number → IsLeft text line number start → Some bytes ≡ numbered_line text line
  left-here same h =
      ⊎_elim
      (λ h. let none : line - number ≡ 0 = omega arith in sym (ap (λ (ls : List (List ℕ)). slice_get ls 0) cut-here) ∙ ap (slice_get (cut (drop start text))) (sym none) ∙ h.1)
      (λ h. let less = h.0 in absurd (omega arith))
      h

  pub left-more : line ≢ number → IsLeft text line number start → IsLeft text line (number + 1) (start + (length bytes + 1))
  left-more other h =
      ⊎_elim
      (λ h.
      let most = h.0 in
      ⊎_elim
      (λ (l : number < line).
      let step : line - number ≡ suc (line - (number + 1)) = omega arith in
      inl (omega arith, ap (λ (ls : List (List ℕ)). slice_get ls (suc (line - (number + 1)))) (sym cut-here) ∙ ap (slice_get (cut (drop start text))) (sym step) ∙ h.1))
      (λ (l : line ≤ number). let same : line ≡ number = omega arith in absurd (other same))
      (cases_lt number line))
      (λ h. let less = h.0 in inr (omega arith, h.1))
      h

drop-all : {X : Type 0} (n : ℕ) (xs : List X) → length xs ≤ n → drop n xs ≡ []
drop-all zero [] l = refl
drop-all zero (x ∷ xs) l = absurd (omega arith)
drop-all (suc n) [] l = refl
drop-all (suc n) (x ∷ xs) l = drop-all n xs (omega arith)

pub left-none : (text : List ℕ) (line number start : ℕ) → length text ≤ start → IsLeft text line number start → None ≡ numbered_line text line
left-none text line number start past h =
    ⊎_elim
    (λ h. sym (ap (λ (bs : List ℕ). slice_get (cut bs) (line - number)) (drop-all start text past)) ∙ h.1)
    (λ h. sym h.1)
    h

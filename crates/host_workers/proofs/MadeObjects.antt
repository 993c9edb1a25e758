-- Objects of a hall that are made one after the other, from the last of what they are made of.
use Rattle.std.proofs.Common.{◌≡◌, ℕ, ◌+◌, ◌≤◌, List, [], ◌∷◌, ◌++◌, length, map, take, get_or, sym, ap, ◌∙◌, arith}
use Rattle.std.proofs.lemmas.List.{take_more, append_assoc, map-append}

module _ {X Y : Type 0} where
  -- one more object was made of the last of what is left
  pub made-more : (row : Y → X) (xs left : List X) (x : X) (made made' : List Y) (y : Y) (first : List X) → xs ≡ left ++ x ∷ [] → made' ≡ y ∷ made → row y ≡ x → xs ++ map row made ≡ first → left ++ map row made' ≡ first
  made-more row xs left x made made' y first split inserted is had =
      ap (λ l. left ++ map row l) inserted
      ∙ ap (λ z. left ++ z ∷ map row made) is
      ∙ sym (append_assoc left (x ∷ []) (map row made))
      ∙ ap (λ l. l ++ map row made) (sym split)
      ∙ had

module _ {X Y : Type 0} where
  -- the last of what is left was taken apart, and put before what was taken before
  pub taken-more : (part : X → Y) (xs left : List X) (x : X) (taken taken' first : List Y) → xs ≡ left ++ x ∷ [] → taken' ≡ part x ∷ taken → map part xs ++ taken ≡ first → map part left ++ taken' ≡ first
  taken-more part xs left x taken taken' first split inserted had =
      ap (λ l. map part left ++ l) inserted
      ∙ sym (append_assoc (map part left) (part x ∷ []) taken)
      ∙ ap (λ l. l ++ taken) (sym (map-append part left (x ∷ [])) ∙ ap (map part) (sym split))
      ∙ had

-- the last of the numbers up to a place
pub last-number : (numbers : List ℕ) (n place : ℕ) → n ≡ place + 1 → n ≤ length numbers → take n numbers ≡ take place numbers ++ get_or numbers place 0 ∷ []
last-number numbers n place is within = ap (λ k. take k numbers) is ∙ take_more numbers place 0 (omega (arith, is, within))

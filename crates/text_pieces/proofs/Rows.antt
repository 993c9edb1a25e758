-- The same line over and over is read in one way.
use Rattle.std.proofs.Common.{◌≡◌, ℕ, suc, ◌<◌, All, List, [], ◌∷◌, ◌++◌, flat_map, inl, inr, length, refl, sym, ap, ◌∙◌, arith, append_assoc}
use Rattle.std.proofs.lemmas.Bool.{cases_lt}
use Rattle.std.proofs.lemmas.List.{append-nil}
use Rattle.std.proofs.lemmas.List.Elements.{All-push}
use Rattle.std.proofs.lemmas.Grind.{flat_map-append}
use Rattle.text_pieces.specs.Field.{Stands, NoneStands}
use Rattle.text_pieces.specs.Parts.{StandAll, IsBrokenAt}
use Rattle.text_pieces.proofs.Forms.{IsOne}

pub all-none : {X : Type 0} (Fits : X → Type 0) (write : X → List ℕ) (bytes : List ℕ) → StandAll Fits write bytes [] bytes
all-none Fits write bytes = record { fits = λ k d low. absurd (omega (arith, low)); parts = refl }

pub all-more : {X : Type 0} (Fits : X → Type 0) (write : X → List ℕ) (bytes : List ℕ) (xs : List X) (rest : List ℕ) (x : X) (more : List ℕ) → StandAll Fits write bytes xs rest → Stands Fits write rest x more
    → StandAll Fits write bytes (xs ++ x ∷ []) more
all-more Fits write bytes xs rest x more stand found =
    record {
      fits = All-push Fits xs x stand.fits found.fits;
      parts =
          stand.parts ∙ ap (λ r. flat_map write xs ++ r) (found.parts ∙ ap (λ l. l ++ more) (sym (append-nil (write x))))
          ∙ sym (append_assoc (flat_map write xs) (write x ++ []) more) ∙ ap (λ l. l ++ more) (sym (flat_map-append write xs (x ∷ [])));
    }

module _ {X : Type 0} (Fits : X → Type 0) (write : X → List ℕ) (one : IsOne Fits write) where
  fits-rest : (x : X) (xs : List X) → All Fits (x ∷ xs) → All Fits xs
  fits-rest x xs all = λ k d low. all (suc k) d (omega (arith, low))

  fits-first : (x : X) (xs : List X) → All Fits (x ∷ xs) → Fits x
  fits-first x xs all = all 0 x (omega arith)

  first-row : (x y : X) (xs ys : List X) (r q : List ℕ) → All Fits (x ∷ xs) → All Fits (y ∷ ys) → flat_map write (x ∷ xs) ++ r ≡ flat_map write (y ∷ ys) ++ q
      → (x ≡ y) × (flat_map write xs ++ r ≡ flat_map write ys ++ q)
  first-row x y xs ys r q tx ty is =
      one x y (flat_map write xs ++ r) (flat_map write ys ++ q) (fits-first x xs tx) (fits-first y ys ty)
      (sym (append_assoc (write x) (flat_map write xs) r) ∙ is ∙ append_assoc (write y) (flat_map write ys) q)

  pub rows-one : (xs ys : List X) (r q : List ℕ) → All Fits xs → All Fits ys → flat_map write xs ++ r ≡ flat_map write ys ++ q → length xs ≡ length ys → (xs ≡ ys) × (r ≡ q)
  rows-one [] [] r q tx ty is same = (refl, is)
  rows-one [] (y ∷ ys) r q tx ty is same = absurd (omega (arith, same))
  rows-one (x ∷ xs) [] r q tx ty is same = absurd (omega (arith, same))
  rows-one (x ∷ xs) (y ∷ ys) r q tx ty is same =
      let first = first-row x y xs ys r q tx ty is in
      let rest = rows-one xs ys r q (fits-rest x xs tx) (fits-rest y ys ty) first.1 (omega (arith, same)) in
      (λ i. first.0 i ∷ rest.0 i, rest.1)

  rows-less : (xs ys : List X) (r q : List ℕ) → All Fits xs → All Fits ys → flat_map write xs ++ r ≡ flat_map write ys ++ q → length xs < length ys → NoneStands Fits write r → ⊥
  rows-less [] [] r q tx ty is less none = omega (arith, less)
  rows-less [] (y ∷ ys) r q tx ty is less none =
      none y (flat_map write ys ++ q) (record { fits = fits-first y ys ty; parts = is ∙ append_assoc (write y) (flat_map write ys) q })
  rows-less (x ∷ xs) [] r q tx ty is less none = omega (arith, less)
  rows-less (x ∷ xs) (y ∷ ys) r q tx ty is less none =
      let first = first-row x y xs ys r q tx ty is in
      rows-less xs ys r q (fits-rest x xs tx) (fits-rest y ys ty) first.1 (omega (arith, less)) none

  -- so many values stand there in one way
  pub all-one : (bytes : List ℕ) (xs ys : List X) (r q : List ℕ) → StandAll Fits write bytes xs r → StandAll Fits write bytes ys q → length xs ≡ length ys → (xs ≡ ys) × (r ≡ q)
  all-one bytes xs ys r q a b same = rows-one xs ys r q a.fits b.fits (sym a.parts ∙ b.parts) same

  -- where all are there none is the first that isn't
  pub all-broken : (bytes : List ℕ) (xs : List X) (r q : List ℕ) (count number : ℕ) → StandAll Fits write bytes xs r → length xs ≡ count → IsBrokenAt Fits write bytes count number q → ⊥
  all-broken bytes xs r q count number a all b =
      rows-less b.before xs q r b.stand.fits a.fits (sym b.stand.parts ∙ a.parts) (omega (arith, b.place, b.announced, all)) b.none

  broken-less : (bytes : List ℕ) (count m n : ℕ) (r q : List ℕ) → IsBrokenAt Fits write bytes count m r → IsBrokenAt Fits write bytes count n q → m < n → ⊥
  broken-less bytes count m n r q a b less =
      rows-less a.before b.before r q a.stand.fits b.stand.fits (sym a.stand.parts ∙ b.stand.parts) (omega (arith, less, a.place, b.place)) a.none

  -- there is one first that isn't there
  pub broken-one : (bytes : List ℕ) (count m n : ℕ) (r q : List ℕ) → IsBrokenAt Fits write bytes count m r → IsBrokenAt Fits write bytes count n q → (m ≡ n) × (r ≡ q)
  broken-one bytes count m n r q a b = elim (cases_lt m n) [
    | inl less ↦ absurd (broken-less bytes count m n r q a b less)
    | inr most ↦ elim (cases_lt n m) [
      | inl less ↦ absurd (broken-less bytes count n m q r b a less)
      | inr least ↦
          let same : m ≡ n = omega arith in
          (same, (all-one bytes a.before b.before r q a.stand b.stand (omega (arith, same, a.place, b.place))).1)
    ]
  ]

-- The names of a program differ from one another, so each is found.
use Rattle.std.proofs.Common.{◌≡◌, ◌≢◌, ℕ, suc, ◌+◌, List, [], ◌∷◌, ◌++◌, Option, ◌∙◌, arith}
use Rattle.std.specs.List.{All, AllPairs}
use Rattle.std.proofs.lemmas.List.Elements.{All-head, All-tail}
use Rattle.region_table.specs.declared.declared.Region.{Region}
use Rattle.rv_assembler.specs.declared.names.Meaning.{Meaning}
use Rattle.rv_listing.proofs.DeclarationLemmas.{DiffersFrom, AreDistinct, EachDiffers, region_names, KnowLocks}

differs-from : (x : List ℕ) (xs : List (List ℕ)) → All (λ (y : List ℕ). x ≢ y) xs → DiffersFrom x xs
differs-from x [] h = tt
differs-from x (y ∷ xs) h = (All-head (λ (z : List ℕ). x ≢ z) y xs h, differs-from x xs (All-tail (λ (z : List ℕ). x ≢ z) y xs h))

pub distinct : (xs : List (List ℕ)) → AllPairs (λ (a b : List ℕ). a ≢ b) xs → AreDistinct xs
distinct [] h = tt
distinct (x ∷ xs) h = (differs-from x xs (λ k d l. h 0 (suc k) d (omega arith) (omega arith)), distinct xs (λ i j d l m. h (suc i) (suc j) d (omega arith) (omega arith)))

differs-front : (q : List ℕ) (a b : List (List ℕ)) → DiffersFrom q (a ++ b) → DiffersFrom q a
differs-front q [] b h = tt
differs-front q (x ∷ a) b h = (h.0, differs-front q a b h.1)

differs-back : (q : List ℕ) (a b : List (List ℕ)) → DiffersFrom q (a ++ b) → DiffersFrom q b
differs-back q [] b h = h
differs-back q (x ∷ a) b h = differs-back q a b h.1

pub distinct-front : (a b : List (List ℕ)) → AreDistinct (a ++ b) → AreDistinct a
distinct-front [] b h = tt
distinct-front (x ∷ a) b h = (differs-front x a b h.0, distinct-front a b h.1)

pub distinct-back : (a b : List (List ℕ)) → AreDistinct (a ++ b) → AreDistinct b
distinct-back [] b h = h
distinct-back (x ∷ a) b h = distinct-back a b h.1

-- each name differs from those of the regions
abbrev pub AreOthers : List Region → List (List ℕ) → Type 0
AreOthers rs [] = Unit {0}
AreOthers rs (l ∷ ls) = EachDiffers l rs × AreOthers rs ls

others-none : (ls : List (List ℕ)) → AreOthers [] ls
others-none [] = tt
others-none (l ∷ ls) = (tt, others-none ls)

others-more : (r : Region) (rs : List Region) (ls : List (List ℕ)) → DiffersFrom r.name ls → AreOthers rs ls → AreOthers (r ∷ rs) ls
others-more r rs [] d h = tt
others-more r rs (l ∷ ls) d h = ((d.0, h.0), others-more r rs ls d.1 h.1)

pub others : (rs : List Region) (ls : List (List ℕ)) → AreDistinct (region_names rs ++ ls) → AreOthers rs ls
others [] ls h = others-none ls
others (r ∷ rs) ls h = others-more r rs ls (differs-back r.name (region_names rs) ls h.0) (others rs ls h.1)

pub know-locks-by : (f g : List ℕ → Option Meaning) (rs : List Region) (k : ℕ) (ls : List (List ℕ)) → ((q : List ℕ) → EachDiffers q rs → f q ≡ g q) → AreOthers rs ls → KnowLocks g k ls → KnowLocks f k ls
know-locks-by f g rs k [] h d w = tt
know-locks-by f g rs k (l ∷ ls) h d w = (h l d.0 ∙ w.0, know-locks-by f g rs (k + 1) ls h d.1 w.1)

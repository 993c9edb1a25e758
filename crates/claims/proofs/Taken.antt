-- What holds of each element that a loop has passed holds of all, once it has passed them all.
use Rattle.std.proofs.Common.{ℕ, ◌≤◌, List, length, take, subst}
use Rattle.std.specs.List.{All}
use Rattle.std.proofs.lemmas.List.{take_all}

pub all-taken : {X : Type 0} (P : X → Type 0) (i : ℕ) (xs : List X) → length xs ≤ i → All P (take i xs) → All P xs
all-taken P i xs l h = subst (All P) (take_all i xs l) h

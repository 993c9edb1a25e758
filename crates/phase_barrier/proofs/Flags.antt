-- The marks of the cores that have arrived.
use Rattle.std.proofs.Common.{◌≡◌, ℕ, ◌≤◌, false, [], ◌∷◌, take}
use Rattle.std.specs.Prelude.{replicate}
use Rattle.std.proofs.lemmas.List.{take-replicate}

-- sixteen marks that are not set
pub no_marks : (n : ℕ) → n ≤ 16 → take n (false ∷ false ∷ false ∷ false ∷ false ∷ false ∷ false ∷ false ∷ false ∷ false ∷ false ∷ false ∷ false ∷ false ∷ false ∷ false ∷ []) ≡ replicate n false
no_marks n within = take-replicate n 16 false within

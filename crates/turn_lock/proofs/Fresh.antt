-- Passes that were just dealt out.
use Rattle.std.proofs.Common.{◌≡◌, ℕ, zero, suc, ◌+◌, List, [], ◌∷◌, ◌++◌, length, sym, subst, arith}
use Rattle.std.specs.List.{All}
use Rattle.std.proofs.lemmas.List.Elements.{All-nil, All-cons}
use mathlib.Core.Option.{some, some-injective, some-ne-none}
use lib.ListN.{get_elem?}
use Rattle.turn_lock.specs.Passes.{Sharing, Token, IsPassOf, IsUnusedPass, AreUnusedPasses}

module _ {O I U : Type 0} where
  pub AreUnusedPasses-push : (turn : Sharing O) (number last : ℕ) (ps : List (Token O I U)) (p : Token O I U) → AreUnusedPasses turn number ps → number + length ps ≡ last → IsUnusedPass turn last p → AreUnusedPasses turn number (ps ++ p ∷ [])
  AreUnusedPasses-push turn number last [] p all is fresh = (subst (λ k. IsUnusedPass turn k p) (omega arith) fresh, tt)
  AreUnusedPasses-push turn number last (q ∷ qs) p all is fresh = (all.0, AreUnusedPasses-push turn (number + 1) last qs p all.1 (omega arith) fresh)

  -- the pass at a place has the number of that place
  pub AreUnusedPasses-at : (turn : Sharing O) (number : ℕ) (ps : List (Token O I U)) (i : ℕ) (p : Token O I U) → AreUnusedPasses turn number ps → get_elem? ps i ≡ some p → IsUnusedPass turn (number + i) p
  AreUnusedPasses-at turn number [] i p all at = absurd (some-ne-none p (sym at))
  AreUnusedPasses-at turn number (q ∷ qs) zero p all at = subst (λ k. IsUnusedPass turn k p) (omega arith) (subst (IsUnusedPass turn number) (some-injective q p at) all.0)
  AreUnusedPasses-at turn number (q ∷ qs) (suc i) p all at = subst (λ k. IsUnusedPass turn k p) (omega arith) (AreUnusedPasses-at turn (number + 1) qs i p all.1 at)

  -- they are passes of the turn
  pub AreUnusedPasses-all : (turn : Sharing O) (number : ℕ) (ps : List (Token O I U)) → AreUnusedPasses turn number ps → All (IsPassOf turn) ps
  AreUnusedPasses-all turn number [] all = All-nil (IsPassOf turn)
  AreUnusedPasses-all turn number (q ∷ qs) all = All-cons (IsPassOf turn) q qs all.0.0 (AreUnusedPasses-all turn (number + 1) qs all.1)

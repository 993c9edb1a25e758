-- The items of a list, each with the items before it.
use Rattle.std.specs.Prelude.{List, [], ◌∷◌, ◌++◌}

pub record Placed (X : Type 0) : Type 0 where
  pub before : List X
  pub here : X

-- the items of a list, where those of `before` stand before all of them
abbrev pub placed_behind : {X : Type 0} → List X → List X → List (Placed X)
placed_behind before [] = []
placed_behind before (x ∷ xs) = record { before = before; here = x } ∷ placed_behind (before ++ x ∷ []) xs

abbrev pub placed : {X : Type 0} → List X → List (Placed X)
placed xs = placed_behind [] xs

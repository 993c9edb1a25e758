-- A sink that holds its bytes, as contracts see it.
use Rattle.std.specs.Prelude.{ℕ, Bool, List}

-- the bytes that it took, whether all of them were flushed, and how many of its calls failed
pub record HeldBytes : Type 0 where
  pub bytes : List ℕ
  pub flushed : Bool
  pub faults : ℕ

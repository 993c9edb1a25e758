-- A source or sink over a device of the host, as contracts see it.
use Rattle.std.specs.Prelude.{ℕ}

-- the reader or writer inside, and how many of its calls have failed
pub record HostDevice (D : Type 0) : Type 0 where
  pub inner : D
  pub faults : ℕ

-- The source and the sink in memory, as contracts see them.
use Rattle.std.specs.Prelude.{ℕ, ◌+◌, Bool, List, min}

-- a source in memory: the bytes that are left, how many bytes a read gives at most, the numbers of the calls that fail, how
-- many calls were made, and how many of them failed
pub record GivenText : Type 0 where
  pub left : List ℕ
  pub per_read : ℕ
  pub fail_at : List ℕ
  pub calls : ℕ
  pub faults : ℕ

-- a sink in memory: the bytes that it took, whether all of them were flushed, how many it has room for, how many a write takes
-- at most, the numbers of the calls that fail, how many calls were made, and how many of them failed
pub record TakenBytes : Type 0 where
  pub held : List ℕ
  pub flushed : Bool
  pub room : ℕ
  pub per_write : ℕ
  pub fail_at : List ℕ
  pub calls : ℕ
  pub faults : ℕ

-- one call more; the count stays at its greatest value
abbrev pub one_more : ℕ → ℕ
one_more calls = min (calls + 1) 18446744073709551615

-- For each event, the event after which it can begin: that which finishes last of those on which it depends.
use Rattle.std.specs.Prelude.{◌≡◌, ℕ, zero, suc, ◌<◌, List, slice_index_or, Option, Some, None}

-- the event that a stored number stands for: none for 0, otherwise the event with the number less 1
abbrev pub decoded_before : ℕ → Option ℕ
decoded_before zero = None
decoded_before (suc i) = Some i

-- each event comes after an earlier one, if after any
abbrev pub IsEarlier : List (Option ℕ) → Type 0
IsEarlier befores = (i p : ℕ) → slice_index_or befores i None ≡ Some p → p < i

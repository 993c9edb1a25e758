-- What it means that parts stand in bytes, with any lines between them.
use Rattle.std.specs.Prelude.{◌≡◌, ◌⊎◌, ℕ, ◌-◌, ◌≤◌, List, [], ◌∷◌, length, take, drop, slice_index}

-- a line begins after the first k bytes
abbrev pub BeginsLine : List ℕ → ℕ → Type 0
BeginsLine bytes k = (k ≡ 0) ⊎ (slice_index bytes (k - 1) ≡ 10)

-- after some whole lines the rest is of this kind
abbrev pub BehindLines : (List ℕ → Type 0) → List ℕ → Type 0
BehindLines P bytes = (k : ℕ) × (k ≤ length bytes) × BeginsLine bytes k × P (drop k bytes)

-- the first part stands at the start, the last at the end, and any lines stand between the parts
abbrev pub StandIn : List (List ℕ) → List ℕ → Type 0
StandIn [] bytes = bytes ≡ []
StandIn (part ∷ []) bytes = bytes ≡ part
StandIn (part ∷ next ∷ others) bytes =
    (take (length part) bytes ≡ part) × BehindLines (StandIn (next ∷ others)) (drop (length part) bytes)

-- Data races, as the memory models of programming languages define them: accesses that conflict and aren't ordered by happens
-- before (Lamport 1978, Adve and Hill 1990).
use Rattle.std.specs.Prelude.{◌≡◌, ◌≢◌, ◌⊎◌, ℕ, ◌+◌, ◌<◌, List, [], ◌∷◌, None}
use Rattle.machine_rules.specs.Actions.{Access, LockAction, BarrierAction, Action, accesses, acquires, releases, arrives, starts, acting_core, acting_phase}
use Rattle.machine_rules.specs.Consistent.{IsAt, IsSequentialOrder}

-- two accesses conflict: they are of one word by different cores, and one of them is a store
pub record Conflicts (a b : Access) : Type 0 where
  pub cores : a.core ≢ b.core
  pub word : a.word ≡ b.word
  pub store : (a.written ≢ None) ⊎ (b.written ≢ None)

-- a release of a lock synchronizes with a later acquire of it, and an arrival at the barrier with the start of the next phase
abbrev pub SynchronizesWith : Action → Action → Type 0
SynchronizesWith (releases x) (acquires y) = x.lock ≡ y.lock
SynchronizesWith (arrives x) (starts y) = x.phase + 1 ≡ y.phase
SynchronizesWith _ _ = ⊥

-- the action at one place comes before that at another, and is of the same core or synchronizes with it
pub record Orders (actions : List Action) (i j : ℕ) : Type 0 where
  pub earlier : i < j
  pub first : Action
  pub second : Action
  pub at_first : IsAt actions i first
  pub at_second : IsAt actions j second
  pub by : (acting_core first ≡ acting_core second) ⊎ SynchronizesWith first second

-- one place happens before another: such steps lead from it to the other, through these places between them
abbrev pub IsPath : List Action → ℕ → List ℕ → ℕ → Type 0
IsPath actions i [] j = Orders actions i j
IsPath actions i (k ∷ through) j = Orders actions i k × IsPath actions k through j

abbrev pub HappensBefore : List Action → ℕ → ℕ → Type 0
HappensBefore actions i j = (through : List ℕ) × IsPath actions i through j

-- of any two accesses that conflict the earlier happens before the later
abbrev pub IsDataRaceFree : List Action → Type 0
IsDataRaceFree actions =
    (i j : ℕ) (a b : Access) → i < j → IsAt actions i (accesses a) → IsAt actions j (accesses b) → Conflicts a b → HappensBefore actions i j

-- two cores never hold a lock at once: between two acquires of a lock its first holder releases it
abbrev pub IsMutuallyExclusive : List Action → Type 0
IsMutuallyExclusive actions =
    (i j : ℕ) (x y : LockAction) → i < j → IsAt actions i (acquires x) → IsAt actions j (acquires y) → x.lock ≡ y.lock
    → (k : ℕ) × (z : LockAction) × (i < k) × (k < j) × IsAt actions k (releases z) × (z.lock ≡ x.lock) × (z.core ≡ x.core)

-- phases don't overlap: an action of a phase comes after each core's arrival in each phase before it
abbrev pub ArePhasesApart : List Action → Type 0
ArePhasesApart actions =
    (i j : ℕ) (a : Action) (x : BarrierAction) → IsAt actions i (arrives x) → IsAt actions j a → x.phase < acting_phase a → i < j

-- the actions of a run have no data race, and they stand in a sequential order
pub record IsDataRaceFreeAndSequential (cores : ℕ) (first : List ℕ) (actions : List Action) : Type 0 where
  pub race_free : IsDataRaceFree actions
  pub sequential : IsSequentialOrder cores first actions actions

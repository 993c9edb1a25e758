-- Sequential consistency, as Lamport defined it in 1979, with locks and barriers: there is one order of all actions in which
-- those of each core stand in the order of its program, each load reads what the last store to its word before it has written,
-- and each lock and the barrier allow what is done with them.
use Rattle.std.specs.Prelude.{◌≡◌, ◌⊎◌, ℕ, ◌+◌, ◌<◌, ◌==◌, if◌then◌else◌, Bool, true, false, List, [], ◌∷◌, ◌++◌, slice_get, slice_index, Option, Some, None, unwrap_or}
use Rattle.std.specs.Option.{option_or, is_none}
use Rattle.std.specs.List.{AllPairs}
use Rattle.std.specs.List.Sorted.{IsPermutation}
use Rattle.machine_rules.specs.Actions.{Access, BarrierAction, Action, accesses, acquires, releases, arrives, starts, acting_core, acting_phase, PrecedesInProgram}

-- the action at a place of a list
abbrev pub IsAt : List Action → ℕ → Action → Type 0
IsAt actions i a = slice_get actions i ≡ Some a

-- an action of this kind stands before a place of a list
abbrev pub StandsBefore : List Action → ℕ → Action → Type 0
StandsBefore actions j a = (i : ℕ) × (i < j) × IsAt actions i a

-- ---- memory

-- what an action writes to a word, if it is a store to it
abbrev pub written_to : ℕ → Access → Option ℕ
written_to w a = if a.word == w then a.written else None

abbrev pub stores_to : ℕ → Action → Option ℕ
stores_to w (accesses a) = written_to w a
stores_to w _ = None

-- what the last store to a word among some actions has written
abbrev pub last_stored : ℕ → List Action → Option ℕ
last_stored w [] = None
last_stored w (a ∷ later) = option_or (last_stored w later) (stores_to w a)

-- the value of a word after some actions: that of the last store to it, or else its value in the first memory
abbrev pub word_after : List ℕ → List Action → ℕ → ℕ
word_after first before w = unwrap_or (last_stored w before) (slice_index first w)

-- each access that reads reads what the last store to its word before it has written
abbrev pub ReadsLastStores : List ℕ → List Action → Type 0
ReadsLastStores first order =
    (before after : List Action) (a : Access) (value : ℕ) → order ≡ before ++ accesses a ∷ after → a.read ≡ Some value → value ≡ word_after first before a.word

-- ---- locks

-- a lock is free or is held by a core. Whether it allows an action, and who holds it then
abbrev pub allows : ℕ → Option ℕ → Action → Bool
allows lock holder (acquires x) = if x.lock == lock then is_none holder else true
allows lock holder (releases x) = if x.lock == lock then is_by x.core holder else true
  where
    is_by : ℕ → Option ℕ → Bool
    is_by core None = false
    is_by core (Some c) = c == core
allows lock holder _ = true

abbrev pub holder_after : ℕ → Option ℕ → Action → Option ℕ
holder_after lock holder (acquires x) = if x.lock == lock then Some x.core else holder
holder_after lock holder (releases x) = if x.lock == lock then None else holder
holder_after lock holder _ = holder

-- a lock allows each of some actions in its turn
abbrev pub AllowsEach : ℕ → Option ℕ → List Action → Type 0
AllowsEach lock holder [] = Unit {0}
AllowsEach lock holder (a ∷ later) = (allows lock holder a ≡ true) × AllowsEach lock (holder_after lock holder a) later

-- each lock is free first, and allows all actions
abbrev pub AreLocksLegal : List Action → Type 0
AreLocksLegal order = (lock : ℕ) → AllowsEach lock None order

-- ---- the barrier between phases

pub record IsBarrierLegal (cores : ℕ) (order : List Action) : Type 0 where
  -- a core starts a phase after every core has arrived in the phase before it
  pub together : (j : ℕ) (x : BarrierAction) (core : ℕ) → IsAt order j (starts x) → core < cores
      → (y : BarrierAction) × (y.core ≡ core) × (y.phase + 1 ≡ x.phase) × StandsBefore order j (arrives y)
  -- it does nothing else in a phase after the first before it has started it
  pub begun : (j : ℕ) (a : Action) → IsAt order j a → 0 < acting_phase a
      → ((x : BarrierAction) × (a ≡ starts x)) ⊎ ((x : BarrierAction) × (x.core ≡ acting_core a) × (x.phase ≡ acting_phase a) × StandsBefore order j (starts x))
  -- there are no other cores
  pub within : (j : ℕ) (a : Action) → IsAt order j a → acting_core a < cores

-- ---- all of it

-- the actions of each core stand in the order of its program
abbrev pub KeepsProgramOrder : List Action → Type 0
KeepsProgramOrder order = AllPairs (λ (a b : Action). acting_core a ≡ acting_core b → PrecedesInProgram a b) order

-- an order of the actions of this many cores, on a memory that has these words first
pub record IsSequentialOrder (cores : ℕ) (first : List ℕ) (actions order : List Action) : Type 0 where
  pub all : IsPermutation actions order
  pub program : KeepsProgramOrder order
  pub reads : ReadsLastStores first order
  pub locks : AreLocksLegal order
  pub barrier : IsBarrierLegal cores order

-- some order of the actions is such
abbrev pub IsSequentiallyConsistent : ℕ → List ℕ → List Action → Type 0
IsSequentiallyConsistent cores first actions = (order : List Action) × IsSequentialOrder cores first actions order

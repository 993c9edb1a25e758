-- What the steps of a turn tell the seat that makes them. `history` is that of the slot's value.
use Rattle.std.specs.Prelude.{◌≡◌, ◌≢◌, ℕ, ◌==◌, List, [], ◌∷◌, filter, Some}
use Rattle.atomic_table.specs.Table.{Me, Step}
use Rattle.turn_lock.specs.declared.view.Stage.{Stage}
use Rattle.turn_lock.specs.declared.view.Stage.TheVariants.{Idle, Waiting, Inside, Gone}
use Rattle.turn_lock.specs.declared.view.View.{View}
use Rattle.turn_lock.specs.History.{BeginsWith}
use Rattle.turn_lock.specs.Standing.{claim}

-- The seat has the turn: the slot's value is with it, and it knows the whole history, of which its own claim holds
pub record HasTurn {S X E : Type 0} (by : E → ℕ) (Good : X → List E → S → Type 0) (v : View X E) (t : ℕ) (me : Me S (View X E)) : Type 0 where
  pub opening : X
  pub log : List E
  pub value : S
  pub from : v.opening ≡ Some opening
  pub me_is : me ≡ (record v { stage = Inside t log }, (0, value) ∷ [])
  pub good : Good opening log value
  pub seen : BeginsWith log v.own.seen
  pub mine : filter (λ e. by e == v.own.number) log ≡ v.own.mine

module _ {S X E : Type 0} where
  -- the ticket is the number found
  abbrev pub drew : Step S → Me S (View X E) → ℕ → Me S (View X E) → Type 0
  drew s me found after = after ≡ (record me.0 { stage = Waiting found }, me.1)

  abbrev pub looked_at : (E → ℕ) → (X → List E → S → Type 0) → View X E → Stage E → Me S (View X E) → ℕ → Me S (View X E) → Type 0
  looked_at by Good v Idle me found after = Unit {0}
  looked_at by Good v (Waiting t) me found after = (found ≡ t → HasTurn by Good v t after) × (found ≢ t → after ≡ me)
  looked_at by Good v (Inside t known) me found after = Unit {0}
  looked_at by Good v Gone me found after = Unit {0}

  -- where the number found is the seat's ticket, the same step takes the slot; else nothing changed
  abbrev pub looked : (E → ℕ) → (X → List E → S → Type 0) → Step S → Me S (View X E) → ℕ → Me S (View X E) → Type 0
  looked by Good s me found after = looked_at by Good me.0 me.0.stage me found after

  -- the turn is passed on with nothing said: the slot is given back, and the seat knows what it knew
  abbrev pub left : Step S → Me S (View X E) → ℕ → Me S (View X E) → Type 0
  left s me found after = after ≡ (record me.0 { stage = Idle }, [])

  abbrev pub told : (E → ℕ) → (S → List E) → View X E → List (ℕ × S) → View X E
  told by history v [] = v
  told by history v (held ∷ rest) = record v { stage = Idle; own = claim v.own.number (history held.1) (filter (λ e. by e == v.own.number) (history held.1)) }

  -- the turn is passed on with a call: the slot is given back, and the seat has seen its whole history
  abbrev pub passed : (E → ℕ) → (S → List E) → Step S → Me S (View X E) → ℕ → Me S (View X E) → Type 0
  passed by history s me found after = after ≡ (told by history me.0 me.1, [])

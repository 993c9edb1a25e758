-- What holds of a seat and of the object that a caller has in its hands, between the steps of one call.
use Rattle.std.specs.Prelude.{◌≡◌, ℕ, List, [], ◌∷◌, ◌++◌, All, Option, None}
use Rattle.atomic_table.specs.Table.{Me}
use Rattle.atomic_table.specs.declared.shared.Seat.{Seat}
use Rattle.turn_lock.specs.declared.desk.Desk.{Desk}
use Rattle.turn_lock.specs.declared.entry.Entry.{Entry}
use Rattle.turn_lock.specs.declared.view.Stage.TheVariants.{Idle, Waiting, Inside}
use Rattle.turn_lock.specs.declared.view.View.{View}
use Rattle.turn_lock.specs.History.{Legal}
use Rattle.turn_lock.specs.Standing.{standing}

module _ {S V : Type 0} where
  abbrev pub IsSameSeat : Seat S V → Seat S V → Type 0
  IsSameSeat old new = (new.table_id ≡ old.table_id) × (new.id ≡ old.id)

module _ {S X E : Type 0} where
  -- a seat of the turn of x that has no ticket
  abbrev pub IsIdle : X → Me S (View X E) → Type 0
  IsIdle x me = me ≡ (standing x me.0.own me.0.next Idle, [])

  abbrev pub WaitsForTurn : X → ℕ → Me S (View X E) → Type 0
  WaitsForTurn x ticket me = me ≡ (standing x me.0.own me.0.next (Waiting ticket), [])

-- The seat has the turn and nothing in its slot. The caller's desk has these calls of its pass after those that the seat knows
pub record InHand {O I U C : Type 0} (content : O → C) (answer : C → I → U) (next : C → I → C) (x : O) (me : Me (Option (Desk O I U)) (View O (Entry O I U))) (more : List (Entry O I U)) (desk : Desk O I U) : Type 0 where
  pub ticket : ℕ
  pub log : List (Entry O I U)
  pub me_is : me ≡ (standing x me.0.own me.0.next (Inside ticket log), (0, None) ∷ [])
  pub longer : desk.history.items ≡ log ++ more
  pub theirs : All (λ e. e.pass ≡ me.0.own.number) more
  pub legal : Legal answer next (content x) desk.history.items (content desk.object)

-- What holds of the seat that deals out the passes, and of the one that takes them in again.
use Rattle.std.specs.Prelude.{◌≡◌, ℕ, ◌+◌, List, [], All, Any, length}
use mathlib.Core.Option.{some}
use lib.ListN.{get_elem?}
use Rattle.atomic_table.specs.Table.{Me}
use Rattle.turn_lock.specs.declared.entry.Entry.{Entry}
use Rattle.turn_lock.specs.declared.view.Claim.{Claim}
use Rattle.turn_lock.specs.declared.view.Stage.TheVariants.{Idle}
use Rattle.turn_lock.specs.declared.view.View.{View}
use Rattle.turn_lock.specs.History.{BeginsWith, calls_by}
use Rattle.turn_lock.specs.Passes.{Token, IsTold}
use Rattle.turn_lock.specs.Standing.{dealer}
use Rattle.turn_lock.specs.Turns.{HasSeen}

-- it may deal out this many more passes, the next with this number
abbrev pub Deals : {S X E : Type 0} → X → ℕ → ℕ → Me S (View X E) → Type 0
Deals x next spare me = me ≡ (dealer x next spare, [])

module _ {O I U : Type 0} where
  -- a claim is true of this history
  abbrev pub IsTrueClaim : List (Entry O I U) → Claim (Entry O I U) → Type 0
  IsTrueClaim history c = BeginsWith history c.seen × (calls_by c.number history ≡ c.mine)

-- The seat has taken in all of `passes` but those in `left`. Some pass has seen what its claims and the passes left have seen.
-- If its claims are true of a history and all of `left` tell that history, then all of `passes` tell it
pub record Gathers {S O I U : Type 0} (passes left : List (Token O I U)) (me : Me S (View O (Entry O I U))) : Type 0 where
  pub slot : me.1 ≡ []
  pub stage : me.0.stage ≡ Idle
  pub spare : me.0.spare ≡ 0
  pub count : 1 + length me.0.joined + length left ≡ length passes
  pub claims : (history : List (Entry O I U)) → HasSeen history me.0 → Any (λ p. p.seen ≡ history) passes
  pub others : (history : List (Entry O I U)) (place : ℕ) (p : Token O I U) → get_elem? left place ≡ some p → p.seen ≡ history → Any (λ p. p.seen ≡ history) passes
  pub told : (history : List (Entry O I U)) → IsTrueClaim history me.0.own → All (IsTrueClaim history) me.0.joined → All (IsTold history) left → All (IsTold history) passes

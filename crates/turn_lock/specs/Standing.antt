-- What the seats of a turn know. X is what the shared object is made of, and E is one call.
use Rattle.std.specs.Prelude.{ℕ, ◌+◌, ◌-◌, List, [], ◌∷◌, ◌++◌, length, Option, Some, None}
use mathlib.Core.Option as maybe
use mathlib.Core.Option.{some, none}
use Rattle.turn_lock.specs.declared.view.Claim.{Claim}
use Rattle.turn_lock.specs.declared.view.Stage.{Stage}
use Rattle.turn_lock.specs.declared.view.Stage.TheVariants.{Idle, Waiting, Inside, Gone}
use Rattle.turn_lock.specs.declared.view.View.{View}

module _ {E : Type 0} where
  abbrev pub claim : ℕ → List E → List E → Claim E
  claim number seen mine = record { number = number; seen = seen; mine = mine }

  -- the ticket of a seat that waits, or is being served
  abbrev pub ticket : Stage E → maybe.Option ℕ
  ticket Idle = none
  ticket (Waiting t) = some t
  ticket (Inside t known) = some t
  ticket Gone = none

  -- 1 for a seat with a ticket
  abbrev pub in_line : Stage E → ℕ
  in_line Idle = 0
  in_line (Waiting t) = 1
  in_line (Inside t known) = 1
  in_line Gone = 0

  abbrev pub passes_at : Stage E → ℕ → ℕ
  passes_at Idle others = 1 + others
  passes_at (Waiting t) others = 1 + others
  passes_at (Inside t known) others = 1 + others
  passes_at Gone others = 0

module _ {X E : Type 0} where
  -- how many passes a seat stands for: its own, those that it may still deal out, and those that it took in
  abbrev pub weight : View X E → ℕ
  weight v = passes_at v.stage (v.spare + length v.joined)

  -- a seat that deals out no passes and has taken none in
  abbrev pub standing : X → Claim E → ℕ → Stage E → View X E
  standing x own next stage = record { opening = Some x; own = own; next = next; spare = 0; stage = stage; joined = [] }

  -- the same between calls, read from the seat itself
  abbrev pub resting : Option X → Claim E → ℕ → View X E
  resting opening own next = record { opening = opening; own = own; next = next; spare = 0; stage = Idle; joined = [] }

  -- the first seat, which has pass 0 and deals out the others: it may deal this many more, the next with this number
  abbrev pub dealer : X → ℕ → ℕ → View X E
  dealer x next spare = record { opening = Some x; own = claim 0 [] []; next = next; spare = spare; stage = Idle; joined = [] }

  -- dealing out a pass: the next number goes to a new seat, which has seen as much
  abbrev pub dealt : View X E → View X E
  dealt v = record v { next = v.next + 1; spare = v.spare - 1 }

  abbrev pub newcomer : View X E → View X E
  newcomer v = record { opening = v.opening; own = claim v.next v.own.seen []; next = 0; spare = 0; stage = Idle; joined = [] }

  -- taking in another seat's passes
  abbrev pub gathered : View X E → View X E → View X E
  gathered v w = record v { joined = v.joined ++ w.own ∷ w.joined }

  abbrev pub spent : View X E
  spent = record { opening = None; own = claim 0 [] []; next = 0; spare = 0; stage = Gone; joined = [] }

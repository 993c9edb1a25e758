-- What lies in a turn's slot: the object, beside a history that led to it.
use Rattle.std.specs.Prelude.{◌≡◌, List, [], Option, Some, None}
use Rattle.turn_lock.specs.declared.desk.Desk.{Desk}
use Rattle.turn_lock.specs.declared.entry.Entry.{Entry}
use Rattle.turn_lock.specs.History.{Legal}

module _ {O I U : Type 0} where
  abbrev pub history_in_slot : Option (Desk O I U) → List (Entry O I U)
  history_in_slot None = []
  history_in_slot (Some d) = d.history.items

  -- the object in the slot is what this history makes of the object x
  abbrev pub Lies : {C : Type 0} → (O → C) → (C → I → U) → (C → I → C) → O → List (Entry O I U) → Option (Desk O I U) → Type 0
  Lies content answer next x log None = ⊥
  Lies content answer next x log (Some d) = (d.history.items ≡ log) × Legal answer next (content x) log (content d.object)

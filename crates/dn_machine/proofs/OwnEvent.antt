-- The own event of a core, by the row of own events.
use Rattle.std.proofs.Common.{◌≡◌, ℕ, zero, suc, true, List, [], ◌∷◌, ◌++◌, map, get_or, replicate, slice_get, Option, Some, None, refl}
use Rattle.std.proofs.lemmas.Option.{none-some}
use Rattle.message_net.specs.declared.event.Event.{Event}
use Rattle.registration_protocol.specs.Node.{NodeParts, Setting}
use Rattle.registration_protocol.specs.OwnEvents.{own_event}
use Rattle.machine_rules.specs.State.{State}
use Rattle.machine_rules.specs.Next.{enabled}
use Rattle.machine_rules.specs.Sound.{IsMachine}
use Rattle.dn_machine.specs.Pick.{own_event_of, own_event_in}
use Rattle.dn_machine.proofs.PickLaws.{own-comes}

none-there : (n core : ℕ) → get_or (replicate n (let o : Option Event = None in o)) core None ≡ None
none-there zero core = refl
none-there (suc n) zero = refl
none-there (suc n) (suc core) = none-there n core

pub row-at : (C : Setting) (nodes : List NodeParts) (n core : ℕ) → get_or (map (own_event C) nodes ++ replicate n None) core None ≡ own_event_of C (slice_get nodes core)
row-at C [] n core = none-there n core
row-at C (x ∷ xs) n zero = refl
row-at C (x ∷ xs) n (suc core) = row-at C xs n core

-- it may come
pub own-event-comes : (S : State) (core : ℕ) (e : Event) → IsMachine S → own_event_in S core ≡ Some e → enabled S e ≡ true
unfolding own_event_in
own-event-comes S core e good is = by_node (slice_get S.nodes core) refl is where
  by_node : (o : Option NodeParts) → slice_get S.nodes core ≡ o → own_event_of S.setting o ≡ Some e → enabled S e ≡ true
  by_node None there own = absurd (none-some e own)
  by_node (Some n) there own = own-comes S core n e there (good.node core n there).core own

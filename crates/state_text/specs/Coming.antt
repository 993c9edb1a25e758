-- The events that may come in a state, in a fixed order.
use Rattle.std.specs.Prelude.{ℕ, List, [], ◌∷◌, ◌++◌, flat_map, if◌then◌else◌}
use Rattle.std.specs.List.{filter, range_with_len}
use Rattle.message_net.specs.declared.event.Event.{Event}
use Rattle.message_net.specs.declared.event.Event.TheVariants.{Instr, Evict, Arrive}
use Rattle.word_cache.specs.Cache.{Cache, Pair, in_set}
use Rattle.registration_protocol.specs.Node.{NodeParts}
use Rattle.registration_protocol.specs.OwnEvents.{me}
use Rattle.machine_rules.specs.State.{State}
use Rattle.machine_rules.specs.Next.{enabled}
use Rattle.dn_machine.specs.Pick.{handlings}

-- the pairs of a set of a cache, and those of all its sets, set by set: in each set the least recently used word comes first
abbrev pub set_pairs : Cache → ℕ → List Pair
set_pairs c set = filter (in_set c.sets set) c.pairs

abbrev pub pairs_by_set : Cache → List Pair
pairs_by_set c = flat_map (set_pairs c) (range_with_len 0 c.sets)

-- an event, if it may come
abbrev pub if_enabled : State → Event → List Event
if_enabled S e = if enabled S e then e ∷ [] else []

-- the eviction of a word that a core has an entry of, if it may come
abbrev pub enabled_eviction : State → NodeParts → Pair → List Event
enabled_eviction S n p = if_enabled S (Evict (me n) p.0)

-- those of a core's own events that may come: its instruction, its evictions, its arrival
abbrev pub enabled_own : State → NodeParts → List Event
enabled_own S n =
    if_enabled S (Instr (me n)) ++ (flat_map (enabled_eviction S n) (pairs_by_set n.cache) ++ if_enabled S (Arrive (me n)))

-- the events that may come: the cores' own events, core by core, and then the handling of each mail in flight
unfoldable pub enabled_events : State → List Event
enabled_events S = flat_map (enabled_own S) S.nodes ++ handlings S.mails

-- The row of the own events of the cores.
use Rattle.std.proofs.Common.{◌≡◌, ℕ, zero, suc, ◌+◌, ◌-◌, ◌<◌, ◌≤◌, List, [], ◌∷◌, ◌++◌, length, map, take, set, replicate, slice_get, Option, Some, None, refl, ap, ◌∙◌, arith, length-append}
use Rattle.std.proofs.lemmas.List.{map-append, length-map, length-take-le, set-append_left}
use Rattle.std.proofs.Math.ListN.{length-set}
use Rattle.message_net.specs.declared.event.Event.{Event}
use Rattle.registration_protocol.specs.Node.{NodeParts, Setting}
use Rattle.registration_protocol.specs.OwnEvents.{own_event}
use Rattle.dn_machine.specs.Content.{in_row}
use Rattle.dn_machine.specs.Pick.{known_events}
use Rattle.dn_machine.proofs.ListItems.{take-more}

-- a core's own event is put in its place
pub row-set : (own : List (Option Event)) (core : ℕ) (o : Option Event) → core < length own → set (in_row own) core o ≡ in_row (set own core o)
row-set own core o within = set-append_left own (replicate (16 - length own) None) core o within ∙ (rw (length-set own core o) refl)

-- the next core's own event is put behind the others
put-behind : (own rest : List (Option Event)) (place : ℕ) (free o : Option Event) → length own ≡ place → set (own ++ free ∷ rest) place o ≡ (own ++ o ∷ []) ++ rest
put-behind [] rest zero free o long = refl
put-behind [] rest (suc place) free o long = absurd (omega (arith, long))
put-behind (x ∷ xs) rest zero free o long = absurd (omega (arith, long))
put-behind (x ∷ xs) rest (suc place) free o long = ap (λ (l : List (Option Event)). x ∷ l) (put-behind xs rest place free o (omega (arith, long)))

row-more : (own : List (Option Event)) (place : ℕ) (o : Option Event) → length own ≡ place → place < 16 → set (in_row own) place o ≡ in_row (own ++ o ∷ [])
row-more own place o long within =
    let one : 16 - length own ≡ suc (16 - length (own ++ o ∷ [])) = omega (arith, long, within, length-append own (o ∷ [])) in
    rw one (put-behind own (replicate (16 - length (own ++ o ∷ [])) None) place None o long)

-- the own event of one node more
pub row-next : (C : Setting) (nodes : List NodeParts) (place : ℕ) (n : NodeParts) → length nodes ≤ 16 → slice_get nodes place ≡ Some n → place < length nodes
    → set (in_row (map (own_event C) (take place nodes))) place (own_event C n) ≡ in_row (map (own_event C) (take (place + 1) nodes))
row-next C nodes place n most here within =
    let long : length (map (own_event C) (take place nodes)) ≡ place = length-map (take place nodes) (own_event C) ∙ length-take-le place nodes (omega (arith, within)) in
    rw (take-more nodes place n here, map-append (own_event C) (take place nodes) (n ∷ []))
    (row-more (map (own_event C) (take place nodes)) place (own_event C n) long (omega (arith, most, within)))

-- the places without a core have no event
no-more : (n : ℕ) → known_events (replicate n None) ≡ []
no-more zero = refl
no-more (suc n) = no-more n

known-behind : (own rest : List (Option Event)) → known_events rest ≡ [] → known_events (own ++ rest) ≡ known_events own
known-behind [] rest none = none
known-behind (None ∷ os) rest none = known-behind os rest none
known-behind (Some e ∷ os) rest none = ap (λ (l : List Event). e ∷ l) (known-behind os rest none)

pub known-row : (own : List (Option Event)) → known_events (in_row own) ≡ known_events own
known-row own = known-behind own (replicate (16 - length own) None) (no-more (16 - length own))

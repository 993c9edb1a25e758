use Rattle.std.proofs.Common.{◌≡◌, ◌≤◌, map, take, length}
use Rattle.registration_protocol.specs.OwnEvents.{own_event}
use Rattle.registration_protocol.specs.Setting.{setting}
use Rattle.dn_machine.specs.Content.{in_row}
use Rattle.dn_machine.proofs.starting.own_events.Given as goal

abbrev pub invariant-loop-place : goal.invariant-loop-place
invariant-loop-place l =
    (l.place ≤ length l.fn.nodes) × (l.own ≡ in_row (map (own_event (setting l.fn.context)) (take l.place l.fn.nodes)))

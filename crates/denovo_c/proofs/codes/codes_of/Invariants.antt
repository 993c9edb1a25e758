use Rattle.std.proofs.Common.{◌≡◌, map, take}
use Rattle.denovo_c.specs.Codes.{event_code}
use Rattle.denovo_c.proofs.codes.codes_of.Given as goal

abbrev pub invariant-loop-event : goal.invariant-loop-event
invariant-loop-event l = l.codes.items ≡ map event_code (take l.event-index l.events)

use Rattle.std.proofs.lemmas.List.Elements.{All-nil}
use Rattle.turn_lock.proofs.turn.Turn.close.Goals as goal

pub returns-clause-told : goal.returns-clause-told
returns-clause-told g c = c.gather-seat.ensures.gathers.told _ c.end-object.ensures.told.0 c.end-object.ensures.told.1 (All-nil _)

pub returns-clause-longest : goal.returns-clause-longest
returns-clause-longest g c = c.gather-seat.ensures.gathers.claims _ c.end-object.ensures.longest

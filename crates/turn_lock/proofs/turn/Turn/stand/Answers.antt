use Rattle.std.proofs.Common.{sym, ◌∙◌, subst}
use Rattle.std.proofs.lemmas.Bool.{false≢true}
use Rattle.std.specs.Option.{IsSome}
use Rattle.turn_lock.specs.Calling.{WaitsForTurn}
use Rattle.turn_lock.proofs.Moves.{unchanged}
use Rattle.turn_lock.proofs.turn.Turn.stand.Goals.{in-None, in-Some+then-served-ticket}
use Rattle.turn_lock.proofs.turn.Turn.stand.Goals as goal

pub look-served-requires : goal.look-served-requires
look-served-requires g c = (
  c.loop.invariant.same.0 ∙ c.requires.0,
  subst (WaitsForTurn c.args.self.now.opening c.args.ticket) (sym c.loop.invariant.me) c.requires.1,
)

pub loop-preserved : goal.loop-preserved
loop-preserved g c = record {
  can = tt;
  ends = tt;
  same = (c.look-served.ensures.same.0 ∙ c.loop.invariant.same.0, c.look-served.ensures.same.1 ∙ c.loop.invariant.same.1);
  me = c.look-served.ensures.wait c.if-served-ticket.false ∙ c.loop.invariant.me;
}

pub returns : goal.returns
returns g c = elim c.match-next.branch [
  | in-None w ↦ absurd (false≢true (subst IsSome w.in-None.is c.next.ensures.steps))
  | in-Some+then-served-ticket w ↦ rw w.seat-is (record {
    same = (w.look-served.ensures.same.0 ∙ c.loop.invariant.same.0, w.look-served.ensures.same.1 ∙ c.loop.invariant.same.1);
    turn = unchanged _ _ _ c.args.seat.now.me _ _ c.loop.invariant.me (w.look-served.ensures.turn w.if-served-ticket.true);
  })
]

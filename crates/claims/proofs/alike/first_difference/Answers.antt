use Rattle.std.proofs.Common.{sym, ◌∙◌, arith}
use Rattle.claims.proofs.Places.{from_start, from_more, from_here, from_short}
use Rattle.claims.proofs.alike.first_difference.Goals as goal

pub loop-place-init : goal.loop-place-init
loop-place-init g c = from_start g.T.Alike.same c.args.claimed.now c.args.right.now

pub loop-place-preserved : goal.loop-place-preserved
loop-place-preserved g c =
    c.loop-place.invariant
    ∙ from_more g.T.Alike.same c.args.claimed.now c.args.right.now c.loop-place.place c.index-claimed-place.result c.index-right-place.result (omega arith) (omega arith) c.index-claimed-place.is c.index-right-place.is (sym c.is_alike.ensures ∙ c.if-not-is_alike.false)

pub returns-then-not-is_alike-clause-value : goal.returns-then-not-is_alike-clause-value
returns-then-not-is_alike-clause-value g c =
    sym (c.loop-place.invariant
    ∙ from_here g.T.Alike.same c.args.claimed.now c.args.right.now c.loop-place.place c.index-claimed-place.result c.index-right-place.result (omega arith) (omega arith) c.index-claimed-place.is c.index-right-place.is (sym c.is_alike.ensures ∙ c.if-not-is_alike.true))

pub returns-else-claimed-right-clause-value : goal.returns-else-claimed-right-clause-value
returns-else-claimed-right-clause-value g c =
    sym (c.loop-place.invariant
    ∙ from_short g.T.Alike.same c.args.claimed.now c.args.right.now c.loop-place.place c.min-both.result (omega arith) (omega arith) c.if-claimed-right.false)

use Rattle.std.proofs.Common.{◌≡◌, ◌+◌, ◌-◌, Option, sym, ap, ◌∙◌, subst, arith}
use Rattle.atomic_table.specs.Table.{Me}
use Rattle.turn_lock.specs.declared.desk.Desk.{Desk}
use Rattle.turn_lock.specs.declared.entry.Entry.{Entry}
use Rattle.turn_lock.specs.declared.view.View.{View}
use Rattle.turn_lock.specs.Dealing.{Deals}
use Rattle.turn_lock.specs.Passes.{AreUnusedPasses}
use Rattle.turn_lock.proofs.Fresh.{AreUnusedPasses-push}
use Rattle.turn_lock.proofs.turn.Turn.deal_others.Goals as goal

pub loop-number-preserved : goal.loop-number-preserved
loop-number-preserved g c =
    let had = c.loop-number.invariant in
    let spare = ap (λ (m : Me (Option (Desk g.row.O.Denot g.row.O-In.Denot g.row.O-Out.Denot)) (View g.row.O.Denot (Entry g.row.O.Denot g.row.O-In.Denot g.row.O-Out.Denot))). m.0.spare) had.dealer in
    let fewer : c.loop-number.seat.me.0.spare - 1 ≡ c.args.passes - (c.loop-number.number + 1) = omega (arith, spare) in record {
      same = (c.deal.ensures.seat.0 ∙ had.same.0, c.deal.ensures.seat.1 ∙ had.same.1);
      dealer = subst (λ k. Deals c.args.self.now.opening (c.loop-number.number + 1) k c.deal.new.seat.me) fewer c.deal.ensures.dealer;
      fresh = subst (AreUnusedPasses c.args.self.now 1) (sym c.push_reserved.ensures.items) (AreUnusedPasses-push c.args.self.now 1 c.loop-number.number c.loop-number.all.items c.deal.result had.fresh had.count c.deal.ensures.fresh);
      count = omega (arith, had.count, c.push_reserved.ensures.len, c.push_reserved.new.self.ok.0, c.loop-number.all.ok.0);
      room = omega (arith, had.room, c.push_reserved.ensures.capacity);
    }

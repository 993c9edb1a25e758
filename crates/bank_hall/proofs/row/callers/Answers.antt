use Rattle.std.proofs.Common.{◌+◌, [], sym, refl, ap, ◌∙◌, subst, arith}
use Rattle.bank_hall.specs.Rows.{AreNew}
use Rattle.bank_hall.proofs.StartLemmas.{no_passes, AreNew-push, length-pushed}
use Rattle.bank_hall.proofs.row.callers.Goals as goal

pub loop-number-preserved : goal.loop-number-preserved
loop-number-preserved g c =
    let had = c.loop-number.invariant in record {
      new = subst (AreNew {O = g.row.O.Denot} [] 0) (sym c.in_ok-push.ensures.items) (AreNew-push {O = g.row.O.Denot} [] 0 c.loop-number.number c.loop-number.all.items _ had.new (omega (arith, had.count)) (no_passes [] c.loop-number.number _ refl (ap (λ ps. record { number = c.loop-number.number; passes = ps }) c.new.ensures.items)));
      count = length-pushed _ _ _ c.in_ok-push.ensures.items ∙ ap (λ n. n + 1) had.count;
    }

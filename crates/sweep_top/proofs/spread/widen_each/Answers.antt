use Rattle.std.proofs.Common.{List, get_or, set, sym, ap, ◌∙◌, arith}
use Rattle.sweep_top.specs.declared.spread.Spread.{Spread}
use Rattle.sweep_top.specs.Kept.{widened}
use Rattle.sweep_top.proofs.Tallies.{widened_each-at, widened_each-none}
use Rattle.sweep_top.proofs.spread.widen_each.Goals as goal

pub loop-i-init : goal.loop-i-init
loop-i-init c = record { within = omega arith; is = sym (widened_each-none c.args.before c.args.spreads.now) }

pub loop-i-preserved : goal.loop-i-preserved
loop-i-preserved c =
    let i = c.loop-i.i in
    let n = c.args.before in
    let xs = c.args.numbers.now in
    let d : Spread = record { least = 0; most = 0 } in
    record {
      within = omega (arith, c.loop-i-test.true);
      is =
          ap (λ (q : Spread). set c.loop-i.spreads i q) c.with.ensures
          ∙ ap (λ (qs : List Spread). set qs i (widened n (get_or qs i d) (get_or xs i 0))) c.loop-i.invariant.is
          ∙ widened_each-at n c.args.spreads.now xs i d (omega (arith, c.loop-i-test.true, c.told-spreads)) (omega (arith, c.loop-i-test.true, c.told-numbers));
    }

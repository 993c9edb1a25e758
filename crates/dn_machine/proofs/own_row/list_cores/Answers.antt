use Rattle.std.proofs.Common.{◌<◌, length, sym, ◌∙◌, arith}
use Rattle.dn_machine.proofs.Listed.{lists-one, lists-none}
use Rattle.dn_machine.proofs.own_row.list_cores.Goals as goal
use Rattle.dn_machine.proofs.own_row.list_cores.Goals.{then-is_some, else-is_some}

pub loop-core-preserved : goal.loop-core-preserved
loop-core-preserved c =
    let within : c.loop-core.core < length c.args.own.now = omega (arith, c.told-own, c.loop-core-test.true) in
    let room : c.loop-core.count < length c.loop-core.cores = omega (arith, c.told-cores, c.loop-core-test.true, c.loop-core.invariant.seen) in
    elim c.if-is_some.branch [
      | then-is_some w ↦
          (record {
            seen = omega (arith, w.count-is, c.loop-core.invariant.seen);
            within = omega (arith, c.loop-core-test.true);
            listed = rw w.count-is (lists-one c.args.own.now c.loop-core.cores c.loop-core.core c.loop-core.count within room c.loop-core.invariant.listed (sym c.is_some.ensures ∙ w.if-is_some.true));
          })
      | else-is_some w ↦
          (record {
            seen = omega (arith, w.count-is, c.loop-core.invariant.seen);
            within = omega (arith, c.loop-core-test.true);
            listed = rw w.count-is (lists-none c.args.own.now c.loop-core.cores c.loop-core.core c.loop-core.count within c.loop-core.invariant.listed (sym c.is_some.ensures ∙ w.if-is_some.false));
          })
    ]

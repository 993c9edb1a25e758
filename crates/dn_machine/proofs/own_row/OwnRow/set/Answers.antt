use Rattle.std.proofs.Common.{sym, ◌∙◌}
use Rattle.std.proofs.Math.ListN.{length-set}
use Rattle.dn_machine.proofs.Listed.{cores-same, not-other}
use Rattle.dn_machine.proofs.own_row.OwnRow.set.Goals as goal

pub invariant_of-self-else-is_some-had : goal.invariant_of-self-else-is_some-had
invariant_of-self-else-is_some-had c =
    let same = sym c.is_some.ensures ∙ not-other c.is_some.result c.is_some-had.result c.if-is_some-had.false ∙ c.is_some-had.ensures in
    record {
      whole = length-set c.self.inside.own c.args.core c.args.event ∙ c.self.invariant.whole;
      listed = c.self.invariant.listed ∙ sym (cores-same 0 c.args.core c.self.inside.own c.args.event same);
      most = c.self.invariant.most;
    }

use Rattle.dn_machine.proofs.Listed.{listed-count}
use Rattle.dn_machine.proofs.own_row.OwnRow.count.Goals as goal

pub returns-clause-count : goal.returns-clause-count
returns-clause-count c =
    rw (← c.self.view_is) (listed-count c.self.inside.own c.self.inside.cores c.self.inside.count c.self.invariant c.self.told)

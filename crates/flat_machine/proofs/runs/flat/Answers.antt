use Rattle.std.proofs.Common.{sym, subst}
use Rattle.flat_machine.specs.Refused.{IsRunBy}
use Rattle.flat_machine.proofs.RefusedLemmas.{refused_none}
use Rattle.flat_machine.proofs.runs.flat.Goals as goal

pub returns-in-Refused-clause-value : goal.returns-in-Refused-clause-value
returns-in-Refused-clause-value c =
    sym (refused_none c.args.checked.now c.args.fuel c.args.grants.now c.in-Refused.place
    (subst (IsRunBy c.args.checked.now c.args.fuel c.args.grants.now) c.in-Refused.is c.in_ok-end.ensures.value))

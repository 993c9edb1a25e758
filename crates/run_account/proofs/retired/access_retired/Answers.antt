use Rattle.std.proofs.Common.{sym}
use Rattle.run_account.proofs.Retires.{retired_is}
use Rattle.run_account.proofs.retired.access_retired.Goals as goal

pub returns : goal.returns
returns c =
    let need = c.needs.ensures c.args.machine.now.state.setting (sym c.program.ensures) (sym c.fuel.ensures) in
    rw (c.access_of_need.ensures, need) (retired_is c.args.machine.now.state c.args.core c.args.node.now c.requires)

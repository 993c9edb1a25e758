use Rattle.std.proofs.Common.{sym}
use Rattle.state_text.proofs.standing.need.Goals as goal

pub returns : goal.returns
returns c = c.needs.ensures c.args.machine.now.state.setting (sym c.program.ensures) (sym c.fuel.ensures)

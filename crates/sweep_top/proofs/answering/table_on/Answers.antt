use Rattle.sweep_top.proofs.TallyTexts.{runs-listed-if}
use Rattle.sweep_top.proofs.answering.table_on.Goals as goal

pub returns : goal.returns
returns c = runs-listed-if c.args.machine.now.state.setting.program c.args.options.now c.table.result c.table.ensures

use Rattle.sweep_top.proofs.TallyTexts.{summed-up-if}
use Rattle.sweep_top.proofs.answering.summary_on.Goals as goal

pub returns : goal.returns
returns c = summed-up-if c.args.machine.now.state.setting.program c.args.options.now c.summary.result c.in_ok-tally_of_seeds.field-0 c.in_ok-tally_of_seeds.ensures c.summary.ensures

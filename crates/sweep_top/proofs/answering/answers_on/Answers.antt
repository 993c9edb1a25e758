use Rattle.sweep_top.proofs.TallyTexts.{answers-listed-if}
use Rattle.sweep_top.proofs.answering.answers_on.Goals as goal

pub returns : goal.returns
returns c = answers-listed-if c.args.machine.now.state.setting.program c.args.options.now c.answer_table.result c.in_ok-tally_of_seeds.field-0 c.in_ok-tally_of_seeds.ensures c.answer_table.ensures

use Rattle.sweep_top.proofs.RowLemmas.{sweep-made}
use Rattle.sweep_top.proofs.answering.sweep_on.Goals as goal

pub returns : goal.returns
returns c =
    sweep-made c.args.machine.now.state.setting.program c.args.options.now c.in_ok-text_on.field-0.items c.reply_with.result c.in_ok-text_on.ensures c.reply_with.ensures

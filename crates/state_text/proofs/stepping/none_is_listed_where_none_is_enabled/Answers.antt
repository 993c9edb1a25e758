use Rattle.state_text.proofs.Listed.{none-listed, in-place}
use Rattle.state_text.proofs.stepping.none_is_listed_where_none_is_enabled.Goals as goal

pub returns : goal.returns
returns c over = none-listed c.args.machine.now.state (in-place c.args.machine.now.state c.a_machine_is_kept.ensures.sound.machine) over

use Rattle.std.proofs.Common.{sym, ap, ◌∙◌}
use Rattle.run_chart.specs.Choosing.{begins}
use Rattle.run_chart.proofs.Chosen.{begins_front, begins_none}
use Rattle.run_chart.proofs.choosing.begins.Goals as goal

pub returns-in-Some : goal.returns-in-Some
returns-in-Some c = c.ends_name.ensures ∙ sym (ap (begins c.args.name.now) c.in-Some.ensures.some ∙ begins_front c.args.name.now c.in-Some.rest.now)

pub returns-in-None : goal.returns-in-None
returns-in-None c = sym (begins_none c.args.name.now c.args.list.now c.in-None.ensures.none)

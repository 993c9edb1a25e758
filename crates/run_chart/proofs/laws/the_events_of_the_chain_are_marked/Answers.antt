use Rattle.run_chart.proofs.RangeRows.{marked-rows}
use Rattle.run_chart.proofs.laws.the_events_of_the_chain_are_marked.Goals as goal

pub returns : goal.returns
returns c = marked-rows

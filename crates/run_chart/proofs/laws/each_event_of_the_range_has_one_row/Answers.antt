use Rattle.run_chart.proofs.RangeRows.{numbered-rows}
use Rattle.run_chart.proofs.laws.each_event_of_the_range_has_one_row.Goals as goal

pub returns : goal.returns
returns c = numbered-rows

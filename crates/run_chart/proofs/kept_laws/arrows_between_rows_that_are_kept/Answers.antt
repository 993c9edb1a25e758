use Rattle.machine_rules.specs.State.{initial_state}
use Rattle.run_chart.specs.Arrows.{end_of_range}
use Rattle.run_chart.specs.Charts.{chart_of}
use Rattle.run_chart.specs.Keeping.{line_after}
use Rattle.run_chart.proofs.KeptArrows.{mails-leave-kept, rows-tell-kept}
use Rattle.run_chart.proofs.RangeRows.{below-rows}
use Rattle.run_chart.proofs.Shown.{rows-act, rows-tell, mails-leave}
use Rattle.run_chart.proofs.kept_laws.arrows_between_rows_that_are_kept.Goals as goal

pub returns-clause-rows : goal.returns-clause-rows
returns-clause-rows c = λ C events range chain columns K shown fit note i row ready run here.
    let chart = chart_of C events range chain columns in
    rows-tell-kept (initial_state C) events K chart.shape chart.rows (below-rows chain C events range columns) (rows-tell C events ready run range chain columns) i row here

pub returns-clause-leaving : goal.returns-clause-leaving
returns-clause-leaving c = λ C events range chain columns K shown fit note i mail ready run here.
    let chart = chart_of C events range chain columns in
    mails-leave-kept (initial_state C) events K chart.shape chart.rows (below-rows chain C events range columns) (rows-tell C events ready run range chain columns) (rows-act C events ready run range chain columns)
    (end_of_range range events) (line_after K chart.shape 0 chart.rows) chart.leaving
    (mails-leave C events ready run range chain columns) i mail here

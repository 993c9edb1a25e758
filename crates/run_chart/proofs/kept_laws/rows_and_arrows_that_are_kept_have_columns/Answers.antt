use Rattle.machine_rules.specs.State.{initial_state}
use Rattle.run_chart.specs.Arrows.{end_of_range}
use Rattle.run_chart.specs.Charts.{chart_of}
use Rattle.run_chart.specs.Keeping.{line_after}
use Rattle.run_chart.proofs.KeptArrows.{mails-leave-kept}
use Rattle.run_chart.proofs.KeptColumns.{kept-leaving-shown, kept-mail-shown, kept-row-shown, kept-waiting-shown}
use Rattle.run_chart.proofs.RangeRows.{below-rows}
use Rattle.run_chart.proofs.Shown.{leaving-shown, mails-leave, mails-shown, rows-act, rows-shown, rows-tell, waiting-shown}
use Rattle.run_chart.proofs.kept_laws.rows_and_arrows_that_are_kept_have_columns.Goals as goal

pub returns-clause-rows : goal.returns-clause-rows
returns-clause-rows c = λ C events range chain columns K shown fit note i row ready run here.
    kept-row-shown K shown fit note (chart_of C events range chain columns) (rows-shown C events ready run range chain columns) i row here

pub returns-clause-mails : goal.returns-clause-mails
returns-clause-mails c = λ C events range chain columns K shown fit note i row mail ready run here is.
    kept-mail-shown K shown fit note (chart_of C events range chain columns) (mails-shown C events ready run range chain columns) i row mail here is

pub returns-clause-leaving : goal.returns-clause-leaving
returns-clause-leaving c = λ C events range chain columns K shown fit note i mail ready run here.
    let chart = chart_of C events range chain columns in
    kept-leaving-shown K shown fit note chart (initial_state C) events (end_of_range range events) (rows-shown C events ready run range chain columns) (rows-act C events ready run range chain columns)
    (λ j left there. (leaving-shown C events ready run range chain columns j left there).1) i mail here
    (mails-leave-kept (initial_state C) events K chart.shape chart.rows (below-rows chain C events range columns) (rows-tell C events ready run range chain columns) (rows-act C events ready run range chain columns)
    (end_of_range range events) (line_after K chart.shape 0 chart.rows) chart.leaving
    (mails-leave C events ready run range chain columns) i mail here)

pub returns-clause-waiting : goal.returns-clause-waiting
returns-clause-waiting c = λ C events range chain columns K shown fit note i task ready run here.
    kept-waiting-shown K shown fit note (chart_of C events range chain columns) (waiting-shown C events ready run range chain columns) i task here

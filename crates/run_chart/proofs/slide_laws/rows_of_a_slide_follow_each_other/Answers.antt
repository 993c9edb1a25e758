use Rattle.run_chart.specs.Charts.{chart_of}
use Rattle.run_chart.proofs.Follow.{rows-follow, run-rises}
use Rattle.run_chart.proofs.slide_laws.rows_of_a_slide_follow_each_other.Goals as goal

pub returns : goal.returns
returns c = λ C events range chain columns K shown fit note count run none.
    rows-follow K (chart_of C events range chain columns) none (run-rises C events range chain columns run) shown fit note count

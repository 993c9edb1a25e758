use Rattle.std.proofs.Common.{◌≡◌, ◌+◌, ◌++◌, ◌≤◌, ℕ, subst, arith}
use Rattle.run_chart.specs.declared.parts.ChartRow.{ChartRow}
use Rattle.run_chart.specs.Keeping.{kept_rows, line_after, mails_behind, with_origin}
use Rattle.run_chart.proofs.KeptArrows.{left-line}
use Rattle.run_chart.proofs.KeptRows.{kept-ends, map-there}
use Rattle.run_chart.proofs.kept_laws.arrows_without_a_receiver_end_on_lines_of_their_own.Goals as goal

pub returns-clause-below : goal.returns-clause-below
returns-clause-below c = λ K columns fit note chart i j row mail here there.
    let kept = kept_rows K chart in
    let end = line_after K chart.shape 0 chart.rows in
    let placed = map-there (with_origin chart.rows kept) kept i row here in
    let ends : row.line + row.lines ≤ end = subst (λ (x : ChartRow). x.line + x.lines ≤ end) placed.2 (kept-ends K chart.shape 0 chart.rows i placed.0 placed.1) in
    let at : mail.line ≡ end + j = left-line chart.rows kept end (mails_behind K.window chart.rows ++ chart.leaving) j mail there in
    omega (arith, ends, at)

pub returns-clause-apart : goal.returns-clause-apart
returns-clause-apart c = λ K columns fit note chart i j a b less here there.
    let kept = kept_rows K chart in
    let end = line_after K chart.shape 0 chart.rows in
    let mails = mails_behind K.window chart.rows ++ chart.leaving in
    let first : a.line ≡ end + i = left-line chart.rows kept end mails i a here in
    let second : b.line ≡ end + j = left-line chart.rows kept end mails j b there in
    omega (arith, less, first, second)

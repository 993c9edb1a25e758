-- What one more row adds to the bands.
use Rattle.std.proofs.Common.{◌≡◌, ℕ, ◌+◌, ◌<◌, List, ◌++◌, length, get_or, drop, Option, Some, sym, ap, ◌∙◌, append_assoc}
use Rattle.dn_base.specs.declared.ids.PhaseId.{PhaseId}
use Rattle.run_chart.specs.declared.parts.Chart.{Chart}
use Rattle.run_chart.specs.declared.parts.ChartRow.{ChartRow}
use Rattle.run_chart.specs.Picture.{band, bands, phase_if_new}
use Rattle.run_chart.proofs.Each.{drop-item}

pub bands-step : (chart : Chart) (before : Option PhaseId) (out : List ℕ) (rows : List ChartRow) (i : ℕ) (row : ChartRow) (whole : List ℕ)
    → i < length rows → row ≡ get_or rows i row → out ++ bands chart before (drop i rows) ≡ whole
    → (out ++ (band chart row ++ phase_if_new chart before row)) ++ bands chart (Some row.phase) (drop (i + 1) rows) ≡ whole
bands-step chart before out rows i row whole within is so_far =
    append_assoc out (band chart row ++ phase_if_new chart before row) (bands chart (Some row.phase) (drop (i + 1) rows))
    ∙ ap (λ (r : List ℕ). out ++ r) (sym (ap (bands chart before) (drop-item rows i row within is)))
    ∙ so_far

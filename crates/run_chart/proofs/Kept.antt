-- What is kept of a chart is what its rows, its note and the chart made of them are.
use Rattle.std.proofs.Common.{◌≡◌, ℕ, List, [], Result, Ok, Err, IfOk, refl, ap, ◌∙◌}
use Rattle.text_places.specs.declared.places.Located.{Located}
use Rattle.run_chart.specs.declared.finishing.Columns.{Columns}
use Rattle.run_chart.specs.declared.keeping.Keeping.{Keeping}
use Rattle.run_chart.specs.declared.parts.Chart.{Chart}
use Rattle.run_chart.specs.declared.parts.ChartRow.{ChartRow}
use Rattle.run_chart.specs.declared.parts.Fit.{Fit}
use Rattle.run_chart.specs.declared.finishing.Columns.TheVariants.{Used}
use Rattle.run_chart.specs.declared.parts.Fit.TheVariants.{Slide}
use Rattle.run_chart.specs.Choosing.{note_by, note_of}
use Rattle.run_chart.specs.Keeping.{chart_by, kept_chart, kept_rows, line_after, rows_from}
use Rattle.run_chart.specs.Slides.{from_first, slide_of}

pub kept-is : {E : Type 0} (K : Keeping) (columns : Columns) (fit : Fit) (L : Located) (chart : Chart) (given placed a b : List ChartRow) (line : ℕ) (note : List ℕ) (r : Result Chart E) → given ≡ chart.rows
    → a ≡ placed → b ≡ placed → placed ≡ rows_from K chart.shape 0 given → line ≡ line_after K chart.shape 0 given → note ≡ note_by K L chart a
    → IfOk r (λ out. out ≡ chart_by K columns fit note chart b line) → IfOk r (λ out. out ≡ kept_chart K columns fit (note_of K L chart) chart)
kept-is K columns fit L chart given placed a b line note (Err e) whole first second rows_are line_is note_is made = tt
kept-is K columns fit L chart given placed a b line note (Ok out) whole first second rows_are line_is note_is made =
    let kept : placed ≡ kept_rows K chart = rows_are ∙ ap (λ (l : List ChartRow). rows_from K chart.shape 0 l) whole in
    let behind : line ≡ line_after K chart.shape 0 chart.rows = line_is ∙ ap (λ (l : List ChartRow). line_after K chart.shape 0 l) whole in
    let noted : note ≡ note_of K L chart = note_is ∙ ap (λ (l : List ChartRow). note_by K L chart l) (first ∙ kept) in
    made ∙ rw (noted, second ∙ kept, behind) refl

-- the same of a slide
pub slide-is : {E : Type 0} (K : Keeping) (chart : Chart) (given a placed : List ChartRow) (line : ℕ) (note : List ℕ) (r : Result Chart E) → given ≡ chart.rows → a ≡ placed → placed ≡ rows_from K chart.shape 0 given
    → line ≡ line_after K chart.shape 0 given → note ≡ [] → IfOk r (λ out. out ≡ chart_by K Used Slide note chart a line) → IfOk r (λ out. out ≡ slide_of K chart)
slide-is K chart given a placed line note (Err e) whole first rows_are line_is empty made = tt
slide-is K chart given a placed line note (Ok out) whole first rows_are line_is empty made =
    let kept : placed ≡ kept_rows K chart = rows_are ∙ ap (λ (l : List ChartRow). rows_from K chart.shape 0 l) whole in
    let behind : line ≡ line_after K chart.shape 0 chart.rows = line_is ∙ ap (λ (l : List ChartRow). line_after K chart.shape 0 l) whole in
    made ∙ rw (empty, first ∙ kept, behind) refl

-- the rows that it may show are those that are kept, from the first one on
pub from-kept : (K : Keeping) (chart : Chart) (given a placed rows : List ChartRow) → given ≡ chart.rows → a ≡ placed → placed ≡ rows_from K chart.shape 0 given → rows ≡ from_first a → rows ≡ from_first (kept_rows K chart)
from-kept K chart given a placed rows whole first rows_are is = is ∙ ap from_first (first ∙ rows_are ∙ ap (λ (l : List ChartRow). rows_from K chart.shape 0 l) whole)

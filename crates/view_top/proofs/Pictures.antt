-- The picture of a run's chart.
use Rattle.std.proofs.Common.{◌≡◌, inl, ℕ, ◌≤◌, List, Result, Ok, Err, IfOk, refl, sym, ap, subst, ◌∙◌}
use Rattle.region_table.specs.Program.{ProgramParts}
use Rattle.rv_assembler.specs.Source.{source}
use Rattle.text_places.specs.declared.places.Located.{Located}
use Rattle.text_places.specs.Places.{text_places}
use Rattle.run_timing.specs.declared.ticks.Ticks.{Ticks}
use Rattle.run_timing.specs.declared.timing.Link.{Link}
use Rattle.run_timing.specs.declared.timing.Timing.{Timing}
use Rattle.run_timing.specs.Longest.{numbers_in}
use Rattle.run_chart.specs.declared.parts.Chart.{Chart}
use Rattle.run_chart.specs.Picture.{svg_of}
use Rattle.run_chart.specs.declared.drawing.Range.{Range}
use Rattle.run_chart.specs.declared.finishing.Columns.{Columns}
use Rattle.run_chart.specs.declared.keeping.Keeping.{Keeping}
use Rattle.run_chart.specs.Choosing.{keeping_of, note_of}
use Rattle.run_chart.specs.Keeping.{kept_chart}
use Rattle.run_chart.specs.Slides.{columns_on, fitted}
use Rattle.run_chart.specs.Charts.{IsChartOf}
use Rattle.run_report.specs.Texts.{HasProgram}
use Rattle.checked_runs.specs.Documents.{shape_told}
use Rattle.view_top.specs.Status.{Output}
use Rattle.view_top.specs.declared.documents.KeptRun.{KeptRun}
use Rattle.view_top.specs.declared.options.ChartOptions.{ChartOptions}
use Rattle.view_top.specs.Answers.{IsDrawn, IsPicture, chart_ticks, kept_by, kept_by_these, last_number, located, made, range_for}
use Rattle.view_top.specs.Kept.{IsKeptChain, IsKeptTiming}
use Rattle.view_top.proofs.Kept.{at-program}

-- the events of the longest chain, by the ticks that the options give
pub chain-is : {E : Type 0} (k : KeptRun) (o : ChartOptions) (ticks : Ticks) (timing : Timing) (links : List Link) (r : Result (List ℕ) E) → ticks ≡ chart_ticks o → links ≡ timing.links.items → HasProgram k.text (IsKeptTiming k ticks timing)
    → IfOk r (λ numbers. numbers ≡ numbers_in links) → IfOk r (λ chain. HasProgram k.text (IsKeptChain k (chart_ticks o) chain))
chain-is k o ticks timing links (Err e) are same timed numbers = tt
chain-is k o ticks timing links (Ok chain) are same timed numbers =
    let P = timed.program in
    let times = subst (λ (x : Ticks). IsKeptTiming k x timing P) are timed.holds in
    record { program = P; is = timed.is; holds = record { timing = timing; times = times; is = numbers ∙ ap numbers_in same } }

-- what is kept of a chart is what the options keep
pub kept-is : (o : ChartOptions) (L : Located) (chart kept : Chart) (named K : Keeping) (columns : Columns) (words actors : List ℕ) → words ≡ o.words → actors ≡ o.actors
    → named ≡ keeping_of o.picture.plain words actors L chart.shape → K ≡ fitted o.picture.fit named chart → columns ≡ columns_on o.picture.fit o.picture.columns
    → kept ≡ kept_chart K columns o.picture.fit (note_of K L chart) chart → kept ≡ kept_by o L chart
kept-is o L chart kept named K columns words actors these those names keeps across is =
    let listed = ap (λ (ws : List ℕ). keeping_of o.picture.plain ws actors L chart.shape) these in
    let chosen = ap (λ (names : List ℕ). keeping_of o.picture.plain o.words names L chart.shape) those in
    let fit = keeps ∙ ap (λ (k : Keeping). fitted o.picture.fit k chart) (names ∙ listed ∙ chosen) in
    is ∙ ap (λ (c : Columns). kept_chart K c o.picture.fit (note_of K L chart) chart) across ∙ ap (λ (k : Keeping). kept_by_these k o L chart) fit

-- the picture has the names of the text
pub drawn-is : (o : ChartOptions) (text : List ℕ) (chart : Chart) (L : Located) (picture : List ℕ) (out : Output) → source text ≡ Ok L.program → L.places ≡ text_places text → picture ≡ svg_of (kept_by o L chart) L → out ≡ made picture
    → HasProgram text (λ P. out ≡ made (svg_of (kept_by o (located P text) chart) (located P text)))
drawn-is o text chart L picture out is places says answer =
    let here : L ≡ located L.program text = rw (sym places) refl in
    record { program = L.program; is = is; holds = answer ∙ ap made (says ∙ ap (λ (x : Located). svg_of (kept_by o x chart) x) here) }

pub picture-is : {E : Type 0} (k : KeptRun) (o : ChartOptions) (chain numbers : List ℕ) (range : Range) (chart : Chart) (r : Result Output E) → o.first ≤ last_number k.run.events → range ≡ range_for o → numbers ≡ chain
    → HasProgram k.text (IsKeptChain k (chart_ticks o) chain) → HasProgram k.text (λ P. IsChartOf P (shape_told P k.sizes) k.sizes.fuel k.run.events range numbers o.picture.columns chart)
    → IfOk r (λ out. HasProgram k.text (λ P. out ≡ made (svg_of (kept_by o (located P k.text) chart) (located P k.text)))) → IfOk r (λ out. HasProgram k.text (λ P. IsPicture (located P k.text) k.sizes o k.run.events out))
picture-is k o chain numbers range chart (Err e) within range_is same chained charted drawn = tt
picture-is k o chain numbers range chart (Ok out) within range_is same chained charted drawn =
    let P = charted.program in
    let c = at-program k.text P (λ (Q : ProgramParts). IsKeptChain k (chart_ticks o) chain Q) charted.is chained in
    record {
      program = P;
      is = charted.is;
      holds =
          record {
            within = within;
            timing = c.timing;
            times = c.times;
            chart = chart;
            is =
                subst (λ (x : List ℕ). IsChartOf P (shape_told P k.sizes) k.sizes.fuel k.run.events (range_for o) x o.picture.columns chart) (same ∙ c.is)
                (subst (λ (x : Range). IsChartOf P (shape_told P k.sizes) k.sizes.fuel k.run.events x numbers o.picture.columns chart) range_is charted.holds);
            answer = at-program k.text P (λ (Q : ProgramParts). out ≡ made (svg_of (kept_by o (located Q k.text) chart) (located Q k.text))) charted.is drawn;
          };
    }

-- a picture is what is drawn where the first row isn't past the end
pub is-drawn : {E : Type 0} (k : KeptRun) (o : ChartOptions) (r : Result Output E) → IfOk r (λ out. HasProgram k.text (λ P. IsPicture (located P k.text) k.sizes o k.run.events out))
    → IfOk r (λ out. HasProgram k.text (λ P. IsDrawn (located P k.text) k.sizes o k.run out))
is-drawn k o (Err e) pictured = tt
is-drawn k o (Ok out) pictured = record { program = pictured.program; is = pictured.is; holds = inl pictured.holds }

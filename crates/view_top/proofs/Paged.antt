-- The data of the page of a document's run.
use Rattle.std.proofs.Common.{◌≡◌, ℕ, ◌≤◌, List, refl, subst}
use Rattle.region_table.specs.Program.{ProgramParts}
use Rattle.run_timing.specs.declared.ticks.Ticks.{Ticks}
use Rattle.run_timing.specs.declared.timing.Timing.{Timing}
use Rattle.page_data.specs.declared.page.Page.{Page}
use Rattle.page_data.specs.Page.{IsPageOf}
use Rattle.run_report.specs.Texts.{HasProgram}
use Rattle.checked_runs.specs.Documents.{shape_told}
use Rattle.view_top.specs.declared.documents.KeptRun.{KeptRun}
use Rattle.view_top.specs.declared.options.PageOptions.{PageOptions}
use Rattle.view_top.specs.Answers.{last_number, made, page_ticks, IsPageData, IsPageFor}
use Rattle.view_top.specs.Kept.{IsKeptTiming}
use Rattle.view_top.proofs.Kept.{at-program}

pub page-is : (k : KeptRun) (o : PageOptions) (ticks : Ticks) (timing : Timing) (page : Page) (bytes : List ℕ) → ticks ≡ page_ticks o → o.first ≤ last_number k.run.events → HasProgram k.text (IsKeptTiming k ticks timing) → IsPageFor o k.text k.run timing page
    → HasProgram k.text (λ P. IsPageOf P (shape_told P k.sizes) k.sizes.fuel k.run.events page bytes) → HasProgram k.text (λ P. IsPageData P k.sizes k.text o k.run (made bytes))
page-is k o ticks timing page bytes are within timed asked says =
    let P = says.program in
    let times = at-program k.text P (λ (Q : ProgramParts). IsKeptTiming k ticks timing Q) says.is timed in
    record {
      program = P;
      is = says.is;
      holds =
          record {
            within = within;
            timing = timing;
            times = subst (λ (x : Ticks). IsKeptTiming k x timing P) are times;
            page = page;
            asked = asked;
            bytes = bytes;
            is = says.holds;
            answer = refl;
          };
    }

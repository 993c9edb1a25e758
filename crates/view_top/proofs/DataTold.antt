-- The data of a document's run for other programs.
use Rattle.std.proofs.Common.{◌≡◌, ℕ, ◌≤◌, List, refl, ap, subst, ◌∙◌}
use Rattle.region_table.specs.Program.{ProgramParts}
use Rattle.text_places.specs.declared.places.Places.{Places}
use Rattle.text_places.specs.Places.{text_places}
use Rattle.run_timing.specs.declared.ticks.Ticks.{Ticks}
use Rattle.run_timing.specs.declared.timing.Timing.{Timing}
use Rattle.page_data.specs.declared.run_data.RunData.{RunData}
use Rattle.page_data.specs.Data.{IsDataOf}
use Rattle.run_report.specs.Texts.{HasProgram}
use Rattle.checked_runs.specs.Documents.{shape_told}
use Rattle.view_top.specs.declared.documents.KeptRun.{KeptRun}
use Rattle.view_top.specs.declared.options.PageOptions.{PageOptions}
use Rattle.view_top.specs.Answers.{last_number, made, page_ticks, AreDataTold, IsPageFor}
use Rattle.view_top.specs.Kept.{AreKeptFinishes, IsKeptTiming}
use Rattle.view_top.proofs.Kept.{at-program}

pub data-is : (k : KeptRun) (o : PageOptions) (ticks : Ticks) (timing : Timing) (finishes text : List ℕ) (L : Places) (d : RunData) (bytes : List ℕ) → ticks ≡ page_ticks o → o.first ≤ last_number k.run.events
    → HasProgram k.text (IsKeptTiming k ticks timing) → HasProgram k.text (AreKeptFinishes k ticks finishes) → text ≡ k.text → L ≡ text_places text
    → IsPageFor o k.text k.run timing d.page → d.places.now ≡ L.code → d.finishes.now ≡ finishes
    → HasProgram k.text (λ P. IsDataOf P (shape_told P k.sizes) k.sizes.fuel k.run.events d bytes) → HasProgram k.text (λ P. AreDataTold P k.sizes k.text o k.run (made bytes))
data-is k o ticks timing finishes text L d bytes are within timed finished same places page lines each says =
    let P = says.program in
    let times = at-program k.text P (λ (Q : ProgramParts). IsKeptTiming k ticks timing Q) says.is timed in
    let ends = at-program k.text P (λ (Q : ProgramParts). AreKeptFinishes k ticks finishes Q) says.is finished in
    record {
      program = P;
      is = says.is;
      holds =
          record {
            within = within;
            timing = timing;
            times = subst (λ (x : Ticks). IsKeptTiming k x timing P) are times;
            finishes = finishes;
            finish = subst (λ (x : Ticks). AreKeptFinishes k x finishes P) are ends;
            told = d;
            asked = record { page = page; places = lines ∙ ap (λ (x : Places). x.code) (places ∙ ap text_places same); finishes = each };
            bytes = bytes;
            is = says.holds;
            answer = refl;
          };
    }

-- The program and the run of a document, and what is made of them.
use Rattle.std.proofs.Common.{◌≡◌, inr, ℕ, ◌≤◌, List, length, Result, Ok, Err, IfOk, IfErr, sym, ap, subst, ◌∙◌}
use Rattle.region_table.specs.Program.{ProgramParts}
use Rattle.rv_assembler.specs.Source.{source}
use Rattle.effect_checker.specs.Checked.{IsChecked}
use Rattle.message_net.specs.declared.event.Event.{Event}
use Rattle.registration_protocol.specs.Node.{Setting}
use Rattle.machine_rules.specs.State.{initial_state}
use Rattle.machine_rules.specs.Runs.{IsRun}
use Rattle.dn_machine.specs.declared.record.RunRecord.{RunRecord}
use Rattle.dn_machine.specs.Settings.{IsRunOn}
use Rattle.dn_machine.proofs.OneSetting.{same-setting}
use Rattle.run_replay.specs.declared.trace.Trace.{Trace}
use Rattle.run_replay.specs.Document.{IsDocument}
use Rattle.run_report.specs.declared.programs.Stop.{Stop}
use Rattle.run_report.specs.declared.programs.Stop.TheVariants.{Refused, Memory}
use Rattle.run_report.specs.Texts.{HasChecked, HasProgram, IsStop}
use Rattle.checked_runs.specs.Documents.{IsRefusedDocument, shape_told, HasTrace, IsNoRun, IsRunTold}
use Rattle.checked_runs.specs.Runs.{IsPrintable}
use Rattle.run_report.proofs.OneProgram.{one-program}
use Rattle.view_top.specs.Status.{Output}
use Rattle.view_top.specs.declared.documents.DocumentRun.{DocumentRun}
use Rattle.view_top.specs.declared.documents.KeptRun.{KeptRun}
use Rattle.view_top.specs.declared.options.StateOptions.{StateOptions}
use Rattle.view_top.specs.Answers.{HasKeptRun, IsStateShown}
use Rattle.view_top.specs.Kept.{kept_run_of, IsKeptRun, IsViewable}

-- the events of a document's run are a run of its machine
run-on : (P : ProgramParts) (t : Trace) (r : RunRecord) → IsRunTold P t r → IsRunOn P (shape_told P t.shape) t.shape.fuel r.events
run-on P t r is C told =
    let same : is.replay.setting ≡ C = same-setting P (shape_told P t.shape) t.shape.fuel is.replay.setting C is.replay.setting_is told in
    let run : IsRun (initial_state C) t.events = subst (λ (D : Setting). IsRun (initial_state D) t.events) same is.replay.is_true.run.complete.run in
    subst (λ (es : List Event). IsRun (initial_state C) es) (sym is.events) run

module _ (document text : List ℕ) (t : Trace) (P : ProgramParts) where
  pub kept-run : (r : Result DocumentRun Stop) → IsDocument document t → text ≡ t.text → source text ≡ Ok P → IsChecked P → IfOk r (λ d. IsKeptRun P t d.kept)
      → IfOk r (λ d. HasKeptRun document (λ _ x run. d.kept ≡ kept_run_of x run))
  kept-run (Err s) told same is checked h = tt
  kept-run (Ok d) told same is checked h =
      record {
        trace = t;
        is = told;
        holds = record { program = P; is = ap source (sym same) ∙ is; checked = checked; holds = record { run = d.kept.run; told = h.told; holds = h.is } };
      }

  ready : (run : RunRecord) → IsDocument document t → source t.text ≡ Ok P → IsChecked P → IsRunTold P t run → IsPrintable run → IsViewable (kept_run_of t run)
  ready run told is checked tells printable =
      record {
        sizes = told.told.head.shape;
        few = subst (λ (es : List Event). length es ≤ 25169664) (sym tells.events) told.told.head.count;
        run = record { program = P; is = is; checked = checked; holds = run-on P t run tells };
        printable = printable;
      }

  pub viewable : (r : Result DocumentRun Stop) → IsDocument document t → text ≡ t.text → source text ≡ Ok P → IsChecked P → IfOk r (λ d. IsKeptRun P t d.kept) → IfOk r (λ d. IsViewable d.kept)
  viewable (Err s) told same is checked h = tt
  viewable (Ok d) told same is checked h = subst IsViewable (sym h.is) (ready d.kept.run told (ap source (sym same) ∙ is) checked h.told h.printable)

  refused-stop : (s : Stop) → IsDocument document t → text ≡ t.text → source text ≡ Ok P → IsChecked P → IsStop (IsNoRun P t) s → IsStop (IsRefusedDocument document) s
  refused-stop Memory told same is checked h = tt
  refused-stop (Refused line) told same is checked h =
      inr (record { trace = t; is = told; holds = inr (record { program = P; is = ap source (sym same) ∙ is; checked = checked; holds = h }) })

  pub no-run : (r : Result DocumentRun Stop) → IsDocument document t → text ≡ t.text → source text ≡ Ok P → IsChecked P → IfErr r (IsStop (IsNoRun P t)) → IfErr r (IsStop (IsRefusedDocument document))
  no-run (Ok d) told same is checked h = tt
  no-run (Err s) told same is checked h = refused-stop s told same is checked h

  -- what is shown of the document's program and events is shown of the document
  pub state-shown : (o : StateOptions) (out : Output) → IsDocument document t → text ≡ t.text → source text ≡ Ok P → IsChecked P → IsStateShown P t o out
      → HasTrace document (λ x. HasChecked x.text (λ Q. IsStateShown Q x o out))
  state-shown o out told same is checked h = record { trace = t; is = told; holds = record { program = P; is = ap source (sym same) ∙ is; checked = checked; holds = h } }

-- what holds of a text's program holds of each, since it has one
pub at-program : (text : List ℕ) (P : ProgramParts) (Holds : ProgramParts → Type 0) → source text ≡ Ok P → HasProgram text Holds → Holds P
at-program text P Holds is has = subst Holds (one-program text has.program P has.is is) has.holds

-- what holds of the run that is handed on holds of the document's
pub holds-of : (document : List ℕ) (k : KeptRun) (Holds : ProgramParts → KeptRun → Type 0) → HasKeptRun document (λ _ t run. k ≡ kept_run_of t run) → HasProgram k.text (λ P. Holds P k)
    → HasKeptRun document (λ L t run. Holds L.program (kept_run_of t run))
holds-of document k Holds has holds =
    let told = has.holds.holds in
    let here = subst (λ (x : KeptRun). HasProgram x.text (λ P. Holds P x)) told.holds holds in
    let kept = kept_run_of has.trace told.run in
    record {
      trace = has.trace;
      is = has.is;
      holds =
          record {
            program = has.holds.program;
            is = has.holds.is;
            checked = has.holds.checked;
            holds = record { run = told.run; told = told.told; holds = at-program has.trace.text has.holds.program (λ (P : ProgramParts). Holds P kept) has.holds.is here };
          };
    }

-- What is answered to a document, from what is answered to its run.
use Rattle.std.proofs.Common.{◌≡◌, inr, ℕ, List, Result, Ok, Err, IfOk, IfErr, sym, ap, ◌∙◌}
use Rattle.region_table.specs.Program.{ProgramParts}
use Rattle.rv_assembler.specs.Source.{source}
use Rattle.effect_checker.specs.Checked.{IsChecked}
use Rattle.run_replay.specs.declared.trace.Trace.{Trace}
use Rattle.run_replay.specs.Document.{IsDocument}
use Rattle.dn_top.specs.declared.output.Output.{Output}
use Rattle.run_report.specs.declared.programs.Stop.{Stop}
use Rattle.run_report.specs.declared.programs.Stop.TheVariants.{Refused, Memory}
use Rattle.checked_runs.specs.Documents.{IsRefusedDocument, IsNoRun}
use Rattle.dn_top.specs.Answers.{IsReplayed}
use Rattle.run_report.specs.Texts.{IsStop}
use Rattle.dn_top.specs.Documents.{IsReplayedRun}

module _ (document text : List ℕ) (t : Trace) (P : ProgramParts) where
  pub run-replayed : (r : Result Output Stop) → IsDocument document t → text ≡ t.text → source text ≡ Ok P → IsChecked P → IfOk r (IsReplayedRun P t) → IfOk r (IsReplayed document)
  run-replayed (Err s) told same is checked h = tt
  run-replayed (Ok out) told same is checked h =
      record { trace = t; is = told; holds = record { program = P; is = ap source (sym same) ∙ is; checked = checked; holds = h } }

  refused-stop : (s : Stop) → IsDocument document t → text ≡ t.text → source text ≡ Ok P → IsChecked P → IsStop (IsNoRun P t) s → IsStop (IsRefusedDocument document) s
  refused-stop Memory told same is checked h = tt
  refused-stop (Refused line) told same is checked h =
      inr (record { trace = t; is = told; holds = inr (record { program = P; is = ap source (sym same) ∙ is; checked = checked; holds = h }) })

  pub run-refused : (r : Result Output Stop) → IsDocument document t → text ≡ t.text → source text ≡ Ok P → IsChecked P → IfErr r (IsStop (IsNoRun P t)) → IfErr r (IsStop (IsRefusedDocument document))
  run-refused (Ok out) told same is checked h = tt
  run-refused (Err s) told same is checked h = refused-stop s told same is checked h

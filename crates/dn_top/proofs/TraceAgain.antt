-- The document of a run replays as the run.
use Rattle.std.proofs.Common.{◌≡◌, ℕ, List, Some, refl, sym, ap, subst, ◌∙◌}
use Rattle.region_table.specs.Program.{ProgramParts}
use Rattle.dn_machine.specs.declared.record.RunRecord.{RunRecord}
use Rattle.run_replay.specs.declared.replaying.Replayed.TheVariants.{Complete}
use Rattle.dn_top.specs.declared.options.Options.{Options}
use Rattle.dn_top.specs.declared.output.Output.{Output}
use Rattle.dn_top.specs.Answers.{IsReplayed}
use Rattle.run_report.specs.Texts.{HasChecked}
use Rattle.checked_runs.specs.Runs.{reported}
use Rattle.dn_top.specs.Runs.{IsPrintedRun, IsRunFor, output_of_run}
use Rattle.checked_runs.specs.Documents.{IsReplayIn}
use Rattle.dn_top.specs.Documents.{IsTracedRun, IsReplayedRun, trace_of}
use Rattle.dn_top.proofs.OneRun.{one-run}
use Rattle.run_report.proofs.OneProgram.{one-program}

-- the replay of a run's document is that run, complete
replay-of_run : (P : ProgramParts) (o : Options) (text : List ℕ) (r : RunRecord) → IsRunFor P o r → IsReplayIn P (trace_of o text r) (Complete r.ending r.grants r.counts)
replay-of_run P o text r is =
    record {
      setting = is.run.setting;
      setting_is = is.run.setting_is;
      is_true = record { run = is.run.machine; each_kind = is.run.each_kind };
    }

run-again : (P : ProgramParts) (o : Options) (text : List ℕ) (document answer : Output) (is : IsTracedRun P o text document) → answer ≡ output_of_run (reported is.run) is.run
    → IsReplayedRun P (trace_of o text is.run) answer
run-again P o text document answer is e = record { run = is.run; told = record { events = refl; replay = replay-of_run P o text is.run is.is; is = is.is.run }; answer = e }

replays-as : (o : Options) (text : List ℕ) (document answer : Output) (is : HasChecked text (λ P. IsTracedRun P o text document))
    → answer ≡ output_of_run (reported is.holds.run) is.holds.run → IsReplayed document.bytes answer
replays-as o text document answer is e =
    record {
      trace = trace_of o text is.holds.run;
      is = record { told = is.holds.told; is = ap (λ (x : Output). x.bytes) is.holds.answer };
      holds = record { program = is.program; is = is.is; checked = is.checked; holds = run-again is.program o text document answer is.holds e };
    }

-- what is written of a run and the report of that run, as the mode run and the replay give it
record AreOfOneRun (o : Options) (text : List ℕ) (document : Output) (r : RunRecord) : Type 0 where
  reported' : HasChecked text (λ P. IsPrintedRun P o reported (output_of_run (reported r) r))
  replayed : IsReplayed document.bytes (output_of_run (reported r) r)

one-some : (r s : RunRecord) → Some r ≡ Some s → r ≡ s
one-some r s e = cc

pub replays-as_report : (o : Options) (text : List ℕ) (document : Output) (r : RunRecord) → HasChecked text (λ P. IsTracedRun P o text document) → document.run ≡ Some r
    → HasChecked text (λ P. IsPrintedRun P o reported (output_of_run (reported r) r)) × IsReplayed document.bytes (output_of_run (reported r) r)
replays-as_report o text document r is e =
    let same : is.holds.run ≡ r = one-some is.holds.run r (sym (ap (λ (x : Output). x.run) is.holds.answer) ∙ e) in
    let both : AreOfOneRun o text document r =
    subst (λ (s : RunRecord). AreOfOneRun o text document s) same
    (record {
      reported' = record { program = is.program; is = is.is; checked = is.checked; holds = record { run = is.holds.run; is = is.holds.is; answer = refl } };
      replayed = replays-as o text document (output_of_run (reported is.holds.run) is.holds.run) is refl;
    })
    in (both.reported', both.replayed)

pub replays-as_run : (o : Options) (text : List ℕ) (document answer : Output) → o.workers ≡ 1 → HasChecked text (λ P. IsTracedRun P o text document)
    → HasChecked text (λ P. IsPrintedRun P o reported answer) → IsReplayed document.bytes answer
replays-as_run o text document answer one is also =
    let same : also.program ≡ is.program = one-program text also.program is.program also.is is.is in
    let made : IsPrintedRun is.program o reported answer = subst (λ (P : ProgramParts). IsPrintedRun P o reported answer) same also.holds in
    replays-as o text document answer is
    (made.answer ∙ ap (λ (r : RunRecord). output_of_run (reported r) r) (one-run is.program o made.run is.holds.run one made.is is.holds.is))

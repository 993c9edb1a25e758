-- A document has one answer.
use Rattle.std.proofs.Common.{◌≡◌, ◌⊎◌, inl, inr, ℕ, List, Result, Ok, Err, sym, ap, subst, ◌∙◌}
use Rattle.region_table.specs.Program.{ProgramParts}
use Rattle.registration_protocol.specs.Node.{Setting}
use Rattle.machine_rules.specs.State.{initial_state}
use Rattle.dn_machine.specs.Run.{IsRecord}
use Rattle.dn_machine.specs.declared.record.RunRecord.{RunRecord}
use Rattle.dn_machine.proofs.OneSetting.{same-setting}
use Rattle.run_replay.specs.declared.trace.Trace.{Trace}
use Rattle.run_replay.specs.declared.trace.TraceFault.{TraceFault}
use Rattle.run_replay.specs.declared.trace.TraceFault.TheVariants.{Memory as NoMemory}
use Rattle.run_replay.specs.declared.replaying.Replayed.{Replayed}
use Rattle.run_replay.specs.declared.replaying.Replayed.TheVariants.{Complete, NotEnabled, Incomplete}
use Rattle.run_replay.specs.declared.refusal.TraceRefusal as refusal
use Rattle.run_replay.specs.Document.{IsDocument, document_of}
use Rattle.run_replay.specs.Faults.{HasFault}
use Rattle.run_replay.specs.Refusal.{refusal_text}
use Rattle.run_replay.specs.Replay.{IsTrueOf}
use Rattle.run_replay.proofs.Single.{one-trace, one-fault, reads}
use Rattle.run_replay.proofs.UnderWay.{one-replay}
use Rattle.dn_top.specs.declared.options.Options.{Options}
use Rattle.dn_top.specs.declared.output.Output.{Output}
use Rattle.checked_runs.specs.Documents.{IsRefusedDocument, HasTrace, IsNoDocument, IsReplayIn, IsNoRun, refused_by, shape_told}
use Rattle.dn_top.specs.Answers.{IsReplayed}
use Rattle.run_report.specs.Texts.{HasChecked, IsUnfit}
use Rattle.checked_runs.specs.Runs.{reported}
use Rattle.dn_top.specs.Runs.{output_of_run}
use Rattle.dn_top.specs.Documents.{IsReplayedRun, IsTracedRun, trace_of}
use Rattle.dn_top.proofs.OneRun.{one-record, one-run}
use Rattle.run_report.proofs.OneProgram.{one-program, unfit-one, checked-one, checked-fit}

-- ---- the document of a run

-- a program, options and a text have one document
pub traced-one : (P : ProgramParts) (o : Options) (text : List ℕ) (out other : Output) → o.workers ≡ 1 → IsTracedRun P o text out → IsTracedRun P o text other → out ≡ other
traced-one P o text out other one is also =
    is.answer
    ∙ ap (λ (r : RunRecord). output_of_run (document_of (trace_of o text r)) r) (one-run P o is.run also.run one is.is also.is)
    ∙ sym also.answer

-- ---- the bytes

-- a document tells one thing, and what holds of that holds at once
both-told : (bytes : List ℕ) (A B : Trace → Type 0) (X : Type 0) → HasTrace bytes A → HasTrace bytes B → ((t : Trace) → A t → B t → X) → X
both-told bytes A B X a b gives = gives a.trace a.holds (subst B (one-trace bytes b.trace a.trace b.is a.is) b.holds)

-- no document has a fault
pub no-fault_of_document : (bytes : List ℕ) (t : Trace) (f : TraceFault) → IsDocument bytes t → HasFault bytes f → ⊥
no-fault_of_document bytes t f is fault = by_answer (reads bytes (Err f) tt (λ no_memory. fault) t is) where
  by_answer : (◌≡◌ {A = Result Trace TraceFault} (Err f) (Ok t)) ⊎ (◌≡◌ {A = Result Trace TraceFault} (Err f) (Err NoMemory)) → ⊥
  by_answer (inl e) = cc
  by_answer (inr e) = let same : f ≡ NoMemory = cc in subst (HasFault bytes) same fault

no_document-one : (bytes l k : List ℕ) → IsNoDocument bytes l → IsNoDocument bytes k → l ≡ k
no_document-one bytes l k is also =
    is.says ∙ ap (λ (f : TraceFault). refusal_text (refusal.TheVariants.Fault f)) (one-fault bytes is.fault also.fault is.is also.is) ∙ sym also.says

document-or_none : (bytes line : List ℕ) (Holds : Trace → Type 0) → HasTrace bytes Holds → IsNoDocument bytes line → ⊥
document-or_none bytes line Holds is none = no-fault_of_document bytes is.trace none.fault is.is none.is

-- ---- the events

-- the events of a document have one replay
one-replayed : (P : ProgramParts) (t : Trace) (a b : Replayed) → IsReplayIn P t a → IsReplayIn P t b → a ≡ b
one-replayed P t a b is also =
    let same : is.setting ≡ also.setting = same-setting P (shape_told P t.shape) t.shape.fuel is.setting also.setting is.setting_is also.setting_is in
    one-replay also.setting t.events a b (subst (λ (C : Setting). IsTrueOf C t.events a) same is.is_true) also.is_true

replayed_run-one : (P : ProgramParts) (t : Trace) (out other : Output) → IsReplayedRun P t out → IsReplayedRun P t other → out ≡ other
replayed_run-one P t out other is also =
    let first = is.told in
    let second = also.told in
    let same : first.is.setting ≡ second.is.setting = same-setting P (shape_told P t.shape) t.shape.fuel first.is.setting second.is.setting first.is.setting_is second.is.setting_is in
    let run : is.run ≡ also.run =
    one-record (initial_state second.is.setting) is.run also.run (first.events ∙ sym second.events) first.is.each_kind second.is.each_kind
    (subst (λ (C : Setting). IsRecord (initial_state C) is.run) same first.is.machine.is_true)
    second.is.machine.is_true
    in
    is.answer ∙ ap (λ (r : RunRecord). output_of_run (reported r) r) run ∙ sym also.answer

refused_by-one : (r : Replayed) (l k : List ℕ) → refused_by r l → refused_by r k → l ≡ k
refused_by-one (Complete ending grants counts) l k is also = absurd is
refused_by-one (NotEnabled number) l k is also = is ∙ sym also
refused_by-one Incomplete l k is also = is ∙ sym also

no_run-one : (P : ProgramParts) (t : Trace) (l k : List ℕ) → IsNoRun P t l → IsNoRun P t k → l ≡ k
no_run-one P t l k is also =
    let same : is.replayed ≡ also.replayed = one-replayed P t is.replayed also.replayed is.is also.is in
    refused_by-one also.replayed l k (subst (λ (r : Replayed). refused_by r l) same is.says) also.says

run-or_none : (P : ProgramParts) (t : Trace) (line : List ℕ) (out : Output) → IsReplayedRun P t out → IsNoRun P t line → ⊥
run-or_none P t line out is none =
    let same : none.replayed ≡ Complete is.run.ending is.run.grants is.run.counts = one-replayed P t none.replayed _ none.is is.told.replay in
    subst (λ (r : Replayed). refused_by r line) same none.says

-- ---- the answer

pub replayed-one : (bytes : List ℕ) (out other : Output) → IsReplayed bytes out → IsReplayed bytes other → out ≡ other
replayed-one bytes out other is also =
    both-told bytes _ _ (out ≡ other) is also
    (λ t a b. checked-one t.text (λ P x. IsReplayedRun P t x) out other (λ P. replayed_run-one P t out other) a b)

abbrev IsRefusedRun : Trace → List ℕ → Type 0
IsRefusedRun t line = IsUnfit t.text line ⊎ HasChecked t.text (λ P. IsNoRun P t line)

refused_run-one : (t : Trace) (l k : List ℕ) → IsRefusedRun t l → IsRefusedRun t k → l ≡ k
refused_run-one t l k (inl is) (inl also) = unfit-one t.text l k is also
refused_run-one t l k (inl is) (inr also) = absurd (checked-fit t.text l (λ P. IsNoRun P t k) also is)
refused_run-one t l k (inr is) (inl also) = absurd (checked-fit t.text k (λ P. IsNoRun P t l) is also)
refused_run-one t l k (inr is) (inr also) =
    let same : also.program ≡ is.program = one-program t.text also.program is.program also.is is.is in
    no_run-one is.program t l k is.holds (subst (λ (P : ProgramParts). IsNoRun P t k) same also.holds)

pub refused_document-one : (bytes l k : List ℕ) → IsRefusedDocument bytes l → IsRefusedDocument bytes k → l ≡ k
refused_document-one bytes l k (inl is) (inl also) = no_document-one bytes l k is also
refused_document-one bytes l k (inl is) (inr also) = absurd (document-or_none bytes l _ also is)
refused_document-one bytes l k (inr is) (inl also) = absurd (document-or_none bytes k _ is also)
refused_document-one bytes l k (inr is) (inr also) = both-told bytes _ _ (l ≡ k) is also (λ t a b. refused_run-one t l k a b)

run-or_refused : (t : Trace) (line : List ℕ) (out : Output) → HasChecked t.text (λ P. IsReplayedRun P t out) → IsRefusedRun t line → ⊥
run-or_refused t line out is (inl was) = checked-fit t.text line (λ P. IsReplayedRun P t out) is was
run-or_refused t line out is (inr was) =
    let same : was.program ≡ is.program = one-program t.text was.program is.program was.is is.is in
    run-or_none is.program t line out is.holds (subst (λ (P : ProgramParts). IsNoRun P t line) same was.holds)

pub replayed-or_refused : (bytes line : List ℕ) (out : Output) → IsReplayed bytes out → IsRefusedDocument bytes line → ⊥
replayed-or_refused bytes line out is (inl was) = document-or_none bytes line _ is was
replayed-or_refused bytes line out is (inr was) = both-told bytes _ _ ⊥ is was (λ t a b. run-or_refused t line out a b)

-- What a call says by its answer.
use Rattle.std.proofs.Common.{◌≡◌, ◌≢◌, ◌⊎◌, inl, inr, ℕ, true, false, List, Option, Some, None, IfSome, is_some, refl, sym, ap, subst, ◌∙◌}
use Rattle.std.specs.Prelude.{option_and_then}
use Rattle.dn_base.specs.declared.status.Status.{Status}
use Rattle.dn_base.specs.declared.status.Status as status
use Rattle.dn_machine.specs.declared.record.RunRecord.{RunRecord}
use Rattle.dn_top.specs.declared.options.Options.{Options}
use Rattle.dn_top.specs.declared.output.Output.{Output}
use Rattle.dn_top.specs.declared.serving.Answer.{Answer}
use Rattle.dn_top.specs.Answers.{most_read, IsRefusal, IsAnswer, IsOutcome}
use Rattle.program_outside.specs.Outside.{SourceState, SinkState, Devices, SourceFailed, SinkFailed, GaveAtMost, IsUntouched, IsFlushed, Delivered, TookFront}
use Rattle.dn_top.specs.Serving.{text_to_answer, most_asked, IsOutcomeOrRefusal, IsRunWithStatus, HandsBack, HasDone, HasRefused, HasFailed, HasStatus, has_stopped, Serves, IsObtained, obtained_by, IsDoneBy, IsWrittenAnswer, answer_told, output_in, without_run}
use Rattle.program_outside.specs.Serving.{IsWritten, IsReplied, IsUnread, IsUnheld}
use Rattle.dn_top.proofs.Statuses.{fails, outcome_or_refusal-fails, other, outcome-other, answer-other, answer-done, answer-refused, answer-no_run, done-comes, done-plain, done-run}
use Rattle.dn_top.proofs.Fronts.{AnswersAlike, taken-alike}

if-some : {X : Type 0} (o : Option X) (P Q : X → Type 0) → ((x : X) → P x → Q x) → IfSome o P → IfSome o Q
if-some None P Q f h = tt
if-some (Some x) P Q f h = f x h

pub at-some : {X : Type 0} (o : Option X) (x : X) (P : X → Type 0) → o ≡ Some x → IfSome o P → P x
at-some None x P e h = absurd cc
at-some (Some y) x P e h = let same : y ≡ x = cc in subst P same h

-- ---- what a reply says

status_at : (answer other : Answer) → answer ≡ other → answer.status ≡ other.status
status_at answer other e = ap (λ (x : Answer). x.status) e

run_at : (answer other : Answer) → answer ≡ other → answer.run ≡ other.run
run_at answer other e = ap (λ (x : Answer). x.run) e

-- an output has another status than this, which no answer has
unlike : (o : Options) (text : List ℕ) (out : Output) (u : Status) → IsAnswer o text out → other u ≡ true → out.status ≢ u
unlike o text out u is bad e = let plain = answer-other o text out is in let also : other out.status ≡ true = ap other e ∙ bad in cc

source_faults-untouched : (before after : SourceState) → IsUntouched before after → after.faults ≡ before.faults
source_faults-untouched before after same = ap (λ (x : SourceState). x.faults) same

sink_faults-untouched : (before after : SinkState) → IsUntouched before after → after.faults ≡ before.faults
sink_faults-untouched before after same = ap (λ (x : SinkState). x.faults) same

-- the status of an outcome or of a refusal isn't that of a failure
no-failure : (answer : Answer) (s : Status) → answer ≡ without_run s → fails s ≡ true → IsOutcomeOrRefusal answer.status → ⊥
no-failure answer s e bad is =
    let plain = outcome_or_refusal-fails answer.status is in let also : fails answer.status ≡ true = ap fails (status_at answer _ e) ∙ bad in cc

module _ (o : Options) (before after : SinkState) (text : List ℕ) (answer : Answer) where
  record Written : Type 0 where
    out : Output
    is : IsAnswer o text out
    ends : answer.status ≡ out.status
    run : answer.run ≡ out.run
    delivered : Delivered before after out.bytes

  -- a reply with a status that some answer has was written
  written : IsReplied answer_told (IsWrittenAnswer o text) before after answer → other answer.status ≡ false → Written
  written (inl given) plain = by_finish given.written
    where
      by_finish : IsWritten answer_told given.output before after answer → Written
      by_finish (inl (e, delivered)) = record { out = (output_in given.output); is = given.answer; ends = status_at answer _ e; run = run_at answer _ e; delivered = delivered }
      by_finish (inr (e, (failed, front))) = let bad : other answer.status ≡ true = ap other (status_at answer _ e) in cc
  written (inr starved) plain = let bad : other answer.status ≡ true = ap other (status_at answer _ starved.0) in cc

  record Stopped : Type 0 where
    out : Output
    is : IsAnswer o text out
    failed : SinkFailed before after
    front : TookFront before after out.bytes

  -- one with the status WriteFault was cut off
  stopped : IsReplied answer_told (IsWrittenAnswer o text) before after answer → answer.status ≡ status.TheVariants.WriteFault → Stopped
  stopped (inl given) r = by_finish given.written
    where
      by_finish : IsWritten answer_told given.output before after answer → Stopped
      by_finish (inl (e, delivered)) = absurd (unlike o text (output_in given.output) status.TheVariants.WriteFault given.answer refl (sym (status_at answer _ e) ∙ r))
      by_finish (inr (e, (failed, front))) = record { out = (output_in given.output); is = given.answer; failed = failed; front = front }
  stopped (inr starved) r = let bad : status.TheVariants.Memory ≡ status.TheVariants.WriteFault = sym (status_at answer _ starved.0) ∙ r in cc

  -- one with the status Memory left the sink alone
  starved-untouched : IsReplied answer_told (IsWrittenAnswer o text) before after answer → answer.status ≡ status.TheVariants.Memory → IsUntouched before after
  starved-untouched (inl given) r = by_finish given.written
    where
      by_finish : IsWritten answer_told given.output before after answer → IsUntouched before after
      by_finish (inl (e, delivered)) = absurd (unlike o text (output_in given.output) status.TheVariants.Memory given.answer refl (sym (status_at answer _ e) ∙ r))
      by_finish (inr (e, (failed, front))) = let bad : status.TheVariants.WriteFault ≡ status.TheVariants.Memory = sym (status_at answer _ e) ∙ r in cc
  starved-untouched (inr starved) r = starved.1

  -- none has one of these
  never : (u : Status) → IsReplied answer_told (IsWrittenAnswer o text) before after answer → other u ≡ true → u ≢ status.TheVariants.WriteFault → u ≢ status.TheVariants.Memory → answer.status ≢ u
  never u (inl given) bad no_fault no_memory r = by_finish given.written
    where
      by_finish : IsWritten answer_told given.output before after answer → ⊥
      by_finish (inl (e, delivered)) = unlike o text (output_in given.output) u given.answer bad (sym (status_at answer _ e) ∙ r)
      by_finish (inr (e, (failed, front))) = no_fault (sym r ∙ status_at answer _ e)
  never u (inr starved) bad no_fault no_memory r = no_memory (sym r ∙ status_at answer _ starved.0)

  -- one with another status than WriteFault has no fault of the sink
  replied-faultless : IsReplied answer_told (IsWrittenAnswer o text) before after answer → answer.status ≢ status.TheVariants.WriteFault → after.faults ≡ before.faults
  replied-faultless (inl given) no_fault = by_finish given.written
    where
      by_finish : IsWritten answer_told given.output before after answer → after.faults ≡ before.faults
      by_finish (inl (e, delivered)) = delivered.faultless
      by_finish (inr (e, (failed, front))) = absurd (no_fault (status_at answer _ e))
  replied-faultless (inr starved) no_fault = sink_faults-untouched before after starved.1

  -- one with an outcome's or a refusal's status left all flushed
  replied-flushed : IsReplied answer_told (IsWrittenAnswer o text) before after answer → IsOutcomeOrRefusal answer.status → IsFlushed after
  replied-flushed (inl given) is = by_finish given.written
    where
      by_finish : IsWritten answer_told given.output before after answer → IsFlushed after
      by_finish (inl (e, delivered)) = delivered.flushed
      by_finish (inr (e, (failed, front))) = absurd (no-failure answer _ e refl is)
  replied-flushed (inr starved) is = absurd (no-failure answer _ starved.0 refl is)

  -- where the sink has no fault the answer was written, if there was memory
  finished : IsReplied answer_told (IsWrittenAnswer o text) before after answer → (SinkFailed before after → ⊥) → HasStatus o text answer.status ⊎ (answer.status ≡ status.TheVariants.Memory)
  finished (inl given) calm = by_finish given.written
    where
      by_finish : IsWritten answer_told given.output before after answer → HasStatus o text answer.status ⊎ (answer.status ≡ status.TheVariants.Memory)
      by_finish (inl (e, delivered)) = inl (record { out = (output_in given.output); answer = given.answer; ends = status_at answer _ e })
      by_finish (inr (e, (failed, front))) = absurd (calm failed)
  finished (inr starved) calm = inr (status_at answer _ starved.0)

  -- one without an outcome's status hands no run back
  replied-no_run : IsReplied answer_told (IsWrittenAnswer o text) before after answer → (IsOutcome answer.status → ⊥) → answer.run ≡ None
  replied-no_run (inl given) none = by_finish given.written
    where
      by_finish : IsWritten answer_told given.output before after answer → answer.run ≡ None
      by_finish (inl (e, delivered)) =
          run_at answer _ e
          ∙ answer-no_run o text (output_in given.output) given.answer (λ is. none (subst IsOutcome (sym (status_at answer _ e)) is))
      by_finish (inr (e, (failed, front))) = run_at answer _ e
  replied-no_run (inr starved) none = run_at answer _ starved.0

-- ---- what a call with options says

module _ (o : Options) (before after : Devices) (answer : Answer) where
  abbrev Alike : List ℕ → List ℕ → Type 0
  Alike text t = AnswersAlike o.mode o before.source after.source text t

  abbrev NoText : Type 0
  NoText = IsUnread answer_told before after answer ⊎ IsUnheld answer_told before after answer

  no_text-other : NoText → other answer.status ≡ true
  no_text-other (inl is) = ap other (status_at answer _ is.0)
  no_text-other (inr is) = ap other (status_at answer _ is.1.0)

  refusal-alike : (text t : List ℕ) (out : Output) → Alike text t → IsRefusal o text out → IsRefusal o t out
  refusal-alike text t out a r = record { line = r.line; why = a.refused r.line r.why; answer = r.answer }

  answer-alike : (text t : List ℕ) (out : Output) → Alike text t → IsAnswer o text out → IsAnswer o t out
  answer-alike text t out a (inl d) = inl (a.done out d)
  answer-alike text t out a (inr r) = inr (refusal-alike text t out a r)

  done-clause : IsDoneBy o before after answer → IsOutcome answer.status → IfSome (text_to_answer o before.source) (λ t. HasDone o before after t answer)
  done-clause (inr none) is = let plain = outcome-other answer.status is in let bad = no_text-other none in absurd cc
  done-clause (inl served) is =
      let w = written o before.sink after.sink served.text answer served.reply (outcome-other answer.status is) in
      let there : IsOutcome w.out.status = (is.0, sym w.ends ∙ is.1) in
      let done = answer-done o served.text w.out w.is there in
      if-some (text_to_answer o before.source) (λ t. Alike served.text t) (λ t. HasDone o before after t answer)
      (λ t a. record { out = w.out; done = a.done w.out done; read = a.read w.out (a.done w.out done); took = w.delivered.took; ends = w.ends; run = w.run })
      (taken-alike o before.source after.source served.text served.obtained)

  handed_back-clause : IsDoneBy o before after answer → IsOutcome answer.status → HandsBack o answer
  handed_back-clause (inr none) is = let plain = outcome-other answer.status is in let bad = no_text-other none in absurd cc
  handed_back-clause (inl served) is =
      let w = written o before.sink after.sink served.text answer served.reply (outcome-other answer.status is) in
      let there : IsOutcome w.out.status = (is.0, sym w.ends ∙ is.1) in
      let done = answer-done o served.text w.out w.is there in
      let run : IfSome w.out.run (IsRunWithStatus o.mode o answer.status) = subst (λ (s : Status). IfSome w.out.run (IsRunWithStatus o.mode o s)) (sym w.ends) (done-run o.mode o served.text w.out done) in
      record {
        comes = ap is_some w.run ∙ done-comes o.mode o served.text w.out done;
        run = subst (λ (r : Option RunRecord). IfSome r (IsRunWithStatus o.mode o answer.status)) (sym w.run) run;
        done = λ none. w.ends ∙ done-plain o.mode o served.text w.out done none;
      }

  refused-clause : IsDoneBy o before after answer → answer.status ≡ status.TheVariants.SourceRefused → IfSome (text_to_answer o before.source) (λ t. HasRefused o before after t)
  refused-clause (inr none) r = let plain = ap other r in let bad = no_text-other none in absurd cc
  refused-clause (inl served) r =
      let w = written o before.sink after.sink served.text answer served.reply (ap other r) in
      let refused = answer-refused o served.text w.out w.is (sym w.ends ∙ r) in
      if-some (text_to_answer o before.source) (λ t. Alike served.text t) (λ t. HasRefused o before after t)
      (λ t a. record { out = w.out; refusal = refusal-alike served.text t w.out a refused; took = w.delivered.took })
      (taken-alike o before.source after.source served.text served.obtained)

  failed-clause : IsDoneBy o before after answer → answer.status ≡ status.TheVariants.WriteFault → SinkFailed before.sink after.sink × IfSome (text_to_answer o before.source) (λ t. HasFailed o before after t)
  failed-clause (inr (inl is)) r = let bad : status.TheVariants.ReadFault ≡ status.TheVariants.WriteFault = sym (status_at answer _ is.0) ∙ r in absurd cc
  failed-clause (inr (inr is)) r = let bad : status.TheVariants.Memory ≡ status.TheVariants.WriteFault = sym (status_at answer _ is.1.0) ∙ r in absurd cc
  failed-clause (inl served) r =
      let w = stopped o before.sink after.sink served.text answer served.reply r in (
        w.failed,
        if-some (text_to_answer o before.source) (λ t. Alike served.text t) (λ t. HasFailed o before after t)
            (λ t a. record { out = w.out; answer = answer-alike served.text t w.out a w.is; front = w.front })
            (taken-alike o before.source after.source served.text served.obtained),
      )

  read_fault-clause : IsDoneBy o before after answer → answer.status ≡ status.TheVariants.ReadFault → SourceFailed before.source after.source × IsUntouched before.sink after.sink
  read_fault-clause (inl served) r =
      absurd (never o before.sink after.sink served.text answer status.TheVariants.ReadFault served.reply refl (λ x. cc) (λ x. cc) r)
  read_fault-clause (inr (inl is)) r = (is.1.0, is.1.1)
  read_fault-clause (inr (inr is)) r = let bad : status.TheVariants.Memory ≡ status.TheVariants.ReadFault = sym (status_at answer _ is.1.0) ∙ r in absurd cc

  memory-clause : IsDoneBy o before after answer → answer.status ≡ status.TheVariants.Memory → IsUntouched before.sink after.sink
  memory-clause (inl served) r = starved-untouched o before.sink after.sink served.text answer served.reply r
  memory-clause (inr (inl is)) r = is.1.1
  memory-clause (inr (inr is)) r = is.1.1

  taken-faultless : (text : List ℕ) → IsObtained o before.source after.source text → after.source.faults ≡ before.source.faults
  taken-faultless text taken = by_most (most_read o.mode) taken
    where
      by_most : (most : Option ℕ) → obtained_by most o.size before.source after.source text → after.source.faults ≡ before.source.faults
      by_most None generated = source_faults-untouched before.source after.source generated.1
      by_most (Some most) read = read.faultless

  source_faultless-clause : IsDoneBy o before after answer → answer.status ≢ status.TheVariants.ReadFault → after.source.faults ≡ before.source.faults
  source_faultless-clause (inl served) no_fault = taken-faultless served.text served.obtained
  source_faultless-clause (inr (inl is)) no_fault = absurd (no_fault (status_at answer _ is.0))
  source_faultless-clause (inr (inr is)) no_fault = is.0

  sink_faultless-clause : IsDoneBy o before after answer → answer.status ≢ status.TheVariants.WriteFault → after.sink.faults ≡ before.sink.faults
  sink_faultless-clause (inl served) no_fault = replied-faultless o before.sink after.sink served.text answer served.reply no_fault
  sink_faultless-clause (inr (inl is)) no_fault = sink_faults-untouched before.sink after.sink is.1.1
  sink_faultless-clause (inr (inr is)) no_fault = sink_faults-untouched before.sink after.sink is.1.1

  flushed-clause : IsDoneBy o before after answer → IsOutcomeOrRefusal answer.status → IsFlushed after.sink
  flushed-clause (inl served) ends = replied-flushed o before.sink after.sink served.text answer served.reply ends
  flushed-clause (inr (inl is)) ends = absurd (no-failure answer _ is.0 refl ends)
  flushed-clause (inr (inr is)) ends = absurd (no-failure answer _ is.1.0 refl ends)

  usage-clause : IsDoneBy o before after answer → answer.status ≢ status.TheVariants.Usage
  usage-clause (inl served) r =
      never o before.sink after.sink served.text answer status.TheVariants.Usage served.reply refl (λ x. cc) (λ x. cc) r
  usage-clause (inr (inl is)) r = let bad : status.TheVariants.ReadFault ≡ status.TheVariants.Usage = sym (status_at answer _ is.0) ∙ r in cc
  usage-clause (inr (inr is)) r = let bad : status.TheVariants.Memory ≡ status.TheVariants.Usage = sym (status_at answer _ is.1.0) ∙ r in cc

  no_run-clause : IsDoneBy o before after answer → (IsOutcome answer.status → ⊥) → answer.run ≡ None
  no_run-clause (inl served) none = replied-no_run o before.sink after.sink served.text answer served.reply none
  no_run-clause (inr (inl is)) none = run_at answer _ is.0
  no_run-clause (inr (inr is)) none = run_at answer _ is.1.0

  complete-clause : IsDoneBy o before after answer → (t : List ℕ) → text_to_answer o before.source ≡ Some t → (SourceFailed before.source after.source → ⊥) → (SinkFailed before.sink after.sink → ⊥)
      → HasStatus o t answer.status ⊎ (answer.status ≡ status.TheVariants.Memory)
  complete-clause (inr (inl is)) t e calm_source calm_sink = absurd (calm_source is.1.0)
  complete-clause (inr (inr is)) t e calm_source calm_sink = inr (status_at answer _ is.1.0)
  complete-clause (inl served) t e calm_source calm_sink =
      by_reply (finished o before.sink after.sink served.text answer served.reply calm_sink)
    where
      by_reply : HasStatus o served.text answer.status ⊎ (answer.status ≡ status.TheVariants.Memory) → HasStatus o t answer.status ⊎ (answer.status ≡ status.TheVariants.Memory)
      by_reply (inr m) = inr m
      by_reply (inl h) =
          let a = at-some (text_to_answer o before.source) t (λ (x : List ℕ). Alike served.text x) e (taken-alike o before.source after.source served.text served.obtained) in
          inl (record { out = h.out; answer = answer-alike served.text t h.out a h.answer; ends = h.ends })

-- ---- the clauses of a call

no_options : (o : Options) (x : Option Options) → x ≡ Some o → x ≡ None → ⊥
no_options o x e f = cc

pub same_options : (o p : Options) (x : Option Options) → x ≡ Some o → x ≡ Some p → o ≡ p
same_options o p x e f = cc

-- words that ask for options
pub serves-options : (wanted : Option Options) (o : Options) (before after : Devices) (answer : Answer) → wanted ≡ Some o → IsDoneBy o before after answer
    → IfSome (most_read o.mode) (GaveAtMost before.source after.source) → (most_read o.mode ≡ None → IsUntouched before.source after.source) → Serves wanted before after answer
serves-options wanted o before after answer e h few unread =
    record {
      done = λ is. record { options = o; asked = e; text = done-clause o before after answer h is };
      handed_back = λ is. subst (λ (x : Option Options). IfSome x (λ p. HandsBack p answer)) (sym e) (handed_back-clause o before after answer h is);
      no_run = no_run-clause o before after answer h;
      usage = λ r. absurd (usage-clause o before after answer h r);
      usage_comes = λ none. absurd (no_options o wanted e none);
      refused = λ r. record { options = o; asked = e; text = refused-clause o before after answer h r };
      read_fault = read_fault-clause o before after answer h;
      write_fault = λ r. let f = failed-clause o before after answer h r in (
        f.0,
        subst (λ (x : Option Options). has_stopped x before after) (sym e) f.1,
      );
      memory = memory-clause o before after answer h;
      source_faultless = source_faultless-clause o before after answer h;
      sink_faultless = sink_faultless-clause o before after answer h;
      flushed = flushed-clause o before after answer h;
      unread = λ none. unread (subst (λ (x : Option Options). option_and_then (λ (p : Options). most_read p.mode) x ≡ None) e none);
      few = subst (λ (x : Option Options). IfSome (most_asked x) (GaveAtMost before.source after.source)) (sym e) few;
      complete = λ p f text is calm_source calm_sink. by_options p (same_options o p wanted e f) text is calm_source calm_sink;
    }
  where
    by_options : (p : Options) → o ≡ p → (t : List ℕ) → text_to_answer p before.source ≡ Some t → (SourceFailed before.source after.source → ⊥) → (SinkFailed before.sink after.sink → ⊥)
        → HasStatus p t answer.status ⊎ (answer.status ≡ status.TheVariants.Memory)
    by_options p same = subst (λ (p : Options). (t : List ℕ) → text_to_answer p before.source ≡ Some t → (SourceFailed before.source after.source → ⊥) → (SinkFailed before.sink after.sink → ⊥) → HasStatus p t answer.status ⊎ (answer.status ≡ status.TheVariants.Memory)) same (complete-clause o before after answer h)

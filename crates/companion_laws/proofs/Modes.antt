-- What each mode prints of a text is taken, and what refuses the text.
use Rattle.std.proofs.Common.{◌≡◌, ◌⊎◌, inl, inr, ℕ, ◌≤◌, List, ◌∷◌, ◌++◌, length, Ok, refl, sym, ap, subst, ◌∙◌, arith, length-append}
use Rattle.dn_base.specs.declared.status.Status as status
use Rattle.region_table.specs.Program.{ProgramParts}
use Rattle.rv_assembler.specs.Source.{source}
use Rattle.effect_checker.specs.Checked.{IsChecked}
use Rattle.message_net.specs.declared.event.Event.{Event}
use Rattle.machine_rules.specs.State.{initial_state}
use Rattle.run_report.specs.Answer.{answer_of}
use Rattle.run_report.specs.Grants.{grant_lines}
use Rattle.run_report.specs.Summary.{count_line, checked_of}
use Rattle.run_replay.specs.declared.trace.Trace.{Trace}
use Rattle.run_replay.specs.declared.trace.TraceFault.{TraceFault}
use Rattle.run_replay.specs.declared.trace.TraceFault as trace_fault
use Rattle.run_replay.specs.declared.refusal.TraceRefusal as trace_refusal
use Rattle.run_replay.specs.declared.replaying.Replayed.{Replayed}
use Rattle.run_replay.specs.declared.replaying.Replayed.TheVariants.{Complete, NotEnabled, Incomplete}
use Rattle.run_replay.specs.Faults.{HasFault}
use Rattle.run_replay.specs.Refusal.{fault_text, refusal_text}
use Rattle.run_timing.specs.Text.{timing_of}
use Rattle.text_places.specs.declared.places.Located.{Located}
use Rattle.text_places.specs.Places.{text_places}
use Rattle.dn_top.specs.declared.options.Mode.{Mode}
use Rattle.dn_top.specs.declared.options.Mode as mode
use Rattle.dn_top.specs.declared.options.Options.{Options}
use Rattle.dn_top.specs.Command.{OptionsInRange}
use Rattle.run_report.specs.Texts.{HasProgram, HasChecked, IsUnfit}
use Rattle.dn_top.specs.declared.output.Output.{Output}
use Rattle.checked_runs.specs.Runs.{reported, summed_up}
use Rattle.dn_top.specs.Runs.{IsPrintedRun, IsTimedRun, shape_for, ticks_for}
use Rattle.checked_runs.specs.Documents.{IsReplayIn, IsNoRun, shape_told, refused_by, IsRefusedDocument}
use Rattle.dn_top.specs.Documents.{IsTracedRun, trace_of}
use Rattle.dn_top.specs.Answers.{IsAnswer, IsFlatRun, IsListing, IsProof, IsReplayed, answered, done_in, refused_in}
use Rattle.explained_answer.specs.declared.line.AnswerLine as line
use Rattle.explained_answer.specs.declared.line.AnswerLine.{AnswerLine}
use Rattle.explained_answer.specs.declared.line.Count as count
use Rattle.explained_answer.specs.declared.line.FixedLine as fixed
use Rattle.explained_answer.specs.AnswerLines.{answer_line}
use Rattle.explained_answer.specs.Trace.{IsTraceOf}
use Rattle.explained_answer.specs.declared.explaining.Explained.{Explained}
use Rattle.explained_answer.specs.Explained.{IsLocated, IsExplained}
use Rattle.explained_answer.proofs.Unlisted.{document-unlisted}
use Rattle.explained_answer.proofs.WholeAnswers.{listing-taken, trace-repeated}
use Rattle.companion_laws.specs.Taken.{IsTaken, is_beside}
use Rattle.companion_laws.proofs.Ends.{number}
use Rattle.companion_laws.proofs.Runs.{AreLines, lines-append, ending-printed, grants-printed, report-printed, sum-printed}
use Rattle.companion_laws.proofs.Times.{one-line, timing-printed}
use Rattle.companion_laws.proofs.Programs.{proved-printed, size-printed}
use Rattle.companion_laws.proofs.Refused.{IsRefusedOnce, is-taken, no-conflict, lines-of-checked, unfit-taken, no-program-taken, before-taken}

-- a program in its text
abbrev pub located : List ℕ → ProgramParts → Located
located text P = record { program = P; places = text_places text }

pub is-located : (text : List ℕ) (P : ProgramParts) → source text ≡ Ok P → IsLocated text (located text P)
is-located text P is = record { program = is; places = refl }

-- the text of a document has no program that could be run, or its events are no run
abbrev IsTextRefused : Trace → List ℕ → Type 0
IsTextRefused t line = IsUnfit t.text line ⊎ HasChecked t.text (λ P. IsNoRun P t line)

out-bytes : (out other : Output) → out ≡ other → out.bytes ≡ other.bytes
out-bytes out other is = ap (λ (x : Output). x.bytes) is

module _ (once : IsRefusedOnce) where
  -- ---- lines of a checked program

  pub printed-taken : (text : List ℕ) (P : ProgramParts) → source text ≡ Ok P → IsChecked P → (bytes answer : List ℕ) → answer ≡ bytes → AreLines (located text P) bytes
      → (e : Explained) → IsExplained text answer e → IsTaken e
  printed-taken text P is checked bytes answer same printed e h =
      lines-of-checked once text (located text P) (is-located text P is) checked answer (subst (AreLines (located text P)) (sym same) printed) e h

  module _ (o : Options) (most : o.fuel ≤ 32768) (text : List ℕ) (out : Output) (e : Explained) (h : IsExplained text out.bytes e) where
    report-taken : HasChecked text (λ P. IsPrintedRun P o reported out) → IsTaken e
    report-taken has =
        let did = has.holds in
        printed-taken text has.program has.is has.checked (reported did.run) out.bytes (out-bytes out _ did.answer)
        (report-printed text (located text has.program) (is-located text has.program has.is) o.fuel most (shape_for has.program o) did.run did.is.run) e h

    summary-taken : HasChecked text (λ P. IsPrintedRun P o summed_up out) → IsTaken e
    summary-taken has =
        let did = has.holds in
        printed-taken text has.program has.is has.checked (summed_up did.run) out.bytes (out-bytes out _ did.answer)
        (sum-printed text (located text has.program) (is-located text has.program has.is) o.fuel most (shape_for has.program o) did.run did.is.run) e h

    time-taken : HasChecked text (λ P. IsTimedRun P o out) → IsTaken e
    time-taken has =
        let did = has.holds in
        let l = located text has.program in
        let at' = is-located text has.program has.is in
        let sum = sum-printed text l at' o.fuel most (shape_for has.program o) did.run did.is.run in
        let times = did.timed.times in
        let timing = timing-printed l (ticks_for o) (initial_state times.setting) did.run.events did.is.run.machine.few.most did.timed.timing times.longest in
        printed-taken text has.program has.is has.checked (summed_up did.run ++ timing_of did.timed.timing) out.bytes (out-bytes out _ did.timed.answer)
        (lines-append l (summed_up did.run) (timing_of did.timed.timing) sum timing) e h

    flat-taken : HasChecked text (λ P. IsFlatRun P o.fuel out) → IsTaken e
    flat-taken has =
        let did = has.holds in
        let l = located text has.program in
        let at' = is-located text has.program has.is in
        printed-taken text has.program has.is has.checked (answer_of did.end.ending ++ grant_lines did.grants) out.bytes (out-bytes out _ did.answer)
        (lines-append l (answer_of did.end.ending) (grant_lines did.grants) (ending-printed text l at' o.fuel most did.grants did.end did.flat)
        (grants-printed text l at' o.fuel most did.grants did.end did.flat))
        e h

    check-taken : HasChecked text (λ P. out ≡ answered status.TheVariants.Done (checked_of P)) → IsTaken e
    check-taken has =
        printed-taken text has.program has.is has.checked (checked_of has.program) out.bytes (out-bytes out _ has.holds)
        (size-printed text (located text has.program) (is-located text has.program has.is)) e h

    proof-taken : HasChecked text (λ P. IsProof P out) → IsTaken e
    proof-taken has =
        printed-taken text has.program has.is has.checked _ out.bytes (out-bytes out _ has.holds.answer)
        (proved-printed text (located text has.program) (is-located text has.program has.is) has.holds.proved has.holds.right) e h

    list-taken : HasProgram text (λ P. IsListing P o.addresses out) → IsTaken e
    list-taken has =
        is-taken e _
        (listing-taken text out.bytes (located text has.program) (is-located text has.program has.is) (o.addresses, out-bytes out _ has.holds.answer) e h)

    trace-taken : HasChecked text (λ P. IsTracedRun P o text out) → IsTaken e
    trace-taken has =
        let did = has.holds in
        let l = located text has.program in
        let at' = is-located text has.program has.is in
        let t = trace_of o text did.run in
        let is : IsTraceOf text out.bytes t = record { is = record { told = did.told; is = out-bytes out _ did.answer }; of = refl } in
        is-taken e _
        (trace-repeated text out.bytes l at' t (no-conflict once text has.program has.is has.checked) (document-unlisted text l out.bytes t is) is e h)

  -- ---- the mode replay

  -- beside the text of the document
  replay-taken : (document text : List ℕ) (out : Output) (e : Explained) → is_beside mode.TheVariants.Replay document text → IsExplained text out.bytes e → IsReplayed document out → IsTaken e
  replay-taken document text out e beside h has =
      let t = has.trace in
      let told = has.holds in
      let did = told.holds in
      let most = has.is.told.head.shape.fuel.high in
      let l = located t.text told.program in
      let at' = is-located t.text told.program told.is in
      printed-taken t.text told.program told.is told.checked (reported did.run) out.bytes (out-bytes out _ did.answer)
      (report-printed t.text l at' t.shape.fuel most (shape_told told.program t.shape) did.run did.told.is) e
      (subst (λ (x : List ℕ). IsExplained x out.bytes e) (beside t has.is) h)

  -- a line by which the bytes are refused as no document
  too-large-line : refusal_text (trace_refusal.TheVariants.Fault trace_fault.TheVariants.TooLarge) ≡ answer_line (line.TheVariants.Fixed fixed.TheVariants.TooLarge)
  unfolding refusal_text fault_text
  too-large-line = refl

  head-line : refusal_text (trace_refusal.TheVariants.Fault trace_fault.TheVariants.Head) ≡ answer_line (line.TheVariants.Fixed fixed.TheVariants.Head)
  unfolding refusal_text fault_text
  head-line = refl

  rest-line : refusal_text (trace_refusal.TheVariants.Fault trace_fault.TheVariants.Rest) ≡ answer_line (line.TheVariants.Fixed fixed.TheVariants.Rest)
  unfolding refusal_text fault_text
  rest-line = refl

  event-line : (n : ℕ) → refusal_text (trace_refusal.TheVariants.Fault (trace_fault.TheVariants.Line n)) ≡ answer_line (line.TheVariants.Count count.TheVariants.WholeEvents n)
  unfolding refusal_text fault_text count_line
  event-line n = refl

  enabled-line : (n : ℕ) → refusal_text (trace_refusal.TheVariants.NotEnabled n) ≡ answer_line (line.TheVariants.Count count.TheVariants.EnabledEvents n)
  unfolding refusal_text count_line
  enabled-line n = refl

  incomplete-line : refusal_text trace_refusal.TheVariants.Incomplete ≡ answer_line (line.TheVariants.Fixed fixed.TheVariants.Incomplete)
  unfolding refusal_text
  incomplete-line = refl

  no-document-taken : (document text answer : List ℕ) (f : TraceFault) → HasFault document f → answer ≡ refusal_text (trace_refusal.TheVariants.Fault f)
      → (e : Explained) → IsExplained text answer e → IsTaken e
  no-document-taken document text answer trace_fault.TheVariants.TooLarge is says e h =
      before-taken once text answer (line.TheVariants.Fixed fixed.TheVariants.TooLarge) refl tt (λ l. refl) (says ∙ too-large-line) e h
  no-document-taken document text answer trace_fault.TheVariants.Head is says e h =
      before-taken once text answer (line.TheVariants.Fixed fixed.TheVariants.Head) refl tt (λ l. refl) (says ∙ head-line) e h
  no-document-taken document text answer (trace_fault.TheVariants.Line n) is says e h =
      let few = is.begins.head.count in
      let announced = is.announced in
      before-taken once text answer (line.TheVariants.Count count.TheVariants.WholeEvents n) refl (number n (omega (arith, few, announced))) (λ l. refl) (says ∙ event-line n) e h
  no-document-taken document text answer trace_fault.TheVariants.Rest is says e h =
      before-taken once text answer (line.TheVariants.Fixed fixed.TheVariants.Rest) refl tt (λ l. refl) (says ∙ rest-line) e h
  no-document-taken document text answer trace_fault.TheVariants.Memory is says e h = absurd is

  no-run-taken : (t : Trace) (P : ProgramParts) (answer : List ℕ) → length t.events ≤ 25169664 → source t.text ≡ Ok P → IsChecked P → (r : Replayed) → IsReplayIn P t r → refused_by r answer
      → (e : Explained) → IsExplained t.text answer e → IsTaken e
  no-run-taken t P answer few is checked (Complete ending grants counts) replay says e h = absurd says
  no-run-taken t P answer few is checked (NotEnabled n) replay says e h =
      let first = replay.is_true in
      let parts = ap (λ (es : List Event). length es) first.parts in
      let place = first.place in
      let small : n ≤ 4294967295 = omega (arith, few, parts, place, length-append first.before (first.event ∷ first.rest)) in
      printed-taken t.text P is checked answer answer refl
      (one-line (located t.text P) (line.TheVariants.Count count.TheVariants.EnabledEvents n) (record { fits = number n small; of = refl }) answer (says ∙ enabled-line n)) e h
  no-run-taken t P answer few is checked Incomplete replay says e h =
      printed-taken t.text P is checked answer answer refl
      (one-line (located t.text P) (line.TheVariants.Fixed fixed.TheVariants.Incomplete) (record { fits = tt; of = refl }) answer (says ∙ incomplete-line)) e h

  refused-document-taken : (document text answer : List ℕ) (e : Explained) → is_beside mode.TheVariants.Replay document text → IsRefusedDocument document answer → IsExplained text answer e → IsTaken e
  refused-document-taken document text answer e beside (inl said) h = no-document-taken document text answer said.fault said.is said.says e h
  refused-document-taken document text answer e beside (inr has) h = by_text has.holds (subst (λ (x : List ℕ). IsExplained x answer e) (beside has.trace has.is) h)
    where
      by_text : IsTextRefused has.trace answer → IsExplained has.trace.text answer e → IsTaken e
      by_text (inl unfit) h = unfit-taken once has.trace.text answer unfit e h
      by_text (inr ran) h =
          no-run-taken has.trace ran.program answer has.is.told.head.count ran.is ran.checked ran.holds.replayed ran.holds.is ran.holds.says e h

  -- ---- all modes

  done-taken : (m : Mode) (o : Options) (asked : List ℕ) (out : Output) (text : List ℕ) (e : Explained) → o.fuel ≤ 32768 → done_in m o asked out → is_beside m asked text
      → IsExplained text out.bytes e → IsTaken e
  done-taken mode.TheVariants.Run o asked out text e most done beside h = report-taken o most asked out e (subst (λ (x : List ℕ). IsExplained x out.bytes e) beside h) done
  done-taken mode.TheVariants.Work o asked out text e most done beside h = summary-taken o most asked out e (subst (λ (x : List ℕ). IsExplained x out.bytes e) beside h) done
  done-taken mode.TheVariants.Check o asked out text e most done beside h = check-taken o most asked out e (subst (λ (x : List ℕ). IsExplained x out.bytes e) beside h) done
  done-taken mode.TheVariants.List o asked out text e most done beside h = list-taken o most asked out e (subst (λ (x : List ℕ). IsExplained x out.bytes e) beside h) done
  done-taken mode.TheVariants.Flat o asked out text e most done beside h = flat-taken o most asked out e (subst (λ (x : List ℕ). IsExplained x out.bytes e) beside h) done
  done-taken mode.TheVariants.Trace o asked out text e most done beside h = trace-taken o most asked out e (subst (λ (x : List ℕ). IsExplained x out.bytes e) beside h) done
  done-taken mode.TheVariants.Replay o asked out text e most done beside h = replay-taken asked text out e beside h done
  done-taken mode.TheVariants.Time o asked out text e most done beside h = time-taken o most asked out e (subst (λ (x : List ℕ). IsExplained x out.bytes e) beside h) done
  done-taken mode.TheVariants.Prove o asked out text e most done beside h = proof-taken o most asked out e (subst (λ (x : List ℕ). IsExplained x out.bytes e) beside h) done

  refused-taken : (m : Mode) (asked line text : List ℕ) (e : Explained) → refused_in m asked line → is_beside m asked text → IsExplained text line e → IsTaken e
  refused-taken mode.TheVariants.Run asked line text e why beside h = unfit-taken once asked line why e (subst (λ (x : List ℕ). IsExplained x line e) beside h)
  refused-taken mode.TheVariants.Work asked line text e why beside h = unfit-taken once asked line why e (subst (λ (x : List ℕ). IsExplained x line e) beside h)
  refused-taken mode.TheVariants.Check asked line text e why beside h = unfit-taken once asked line why e (subst (λ (x : List ℕ). IsExplained x line e) beside h)
  refused-taken mode.TheVariants.List asked line text e why beside h = no-program-taken once asked line why e (subst (λ (x : List ℕ). IsExplained x line e) beside h)
  refused-taken mode.TheVariants.Flat asked line text e why beside h = unfit-taken once asked line why e (subst (λ (x : List ℕ). IsExplained x line e) beside h)
  refused-taken mode.TheVariants.Trace asked line text e why beside h = unfit-taken once asked line why e (subst (λ (x : List ℕ). IsExplained x line e) beside h)
  refused-taken mode.TheVariants.Replay asked line text e why beside h = refused-document-taken asked text line e beside why h
  refused-taken mode.TheVariants.Time asked line text e why beside h = unfit-taken once asked line why e (subst (λ (x : List ℕ). IsExplained x line e) beside h)
  refused-taken mode.TheVariants.Prove asked line text e why beside h = unfit-taken once asked line why e (subst (λ (x : List ℕ). IsExplained x line e) beside h)

  pub answer-taken : (o : Options) (asked : List ℕ) (out : Output) (text : List ℕ) (e : Explained) → OptionsInRange o → IsAnswer o asked out → is_beside o.mode asked text
      → IsExplained text out.bytes e → IsTaken e
  answer-taken o asked out text e range (inl done) beside h = done-taken o.mode o asked out text e range.fuel.1 done beside h
  answer-taken o asked out text e range (inr refusal) beside h =
      refused-taken o.mode asked refusal.line text e refusal.why beside (subst (λ (bytes : List ℕ). IsExplained text bytes e) (out-bytes out _ refusal.answer) h)

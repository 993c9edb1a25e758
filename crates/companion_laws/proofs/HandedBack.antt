-- The claim of any run that denovo hands back agrees.
use Rattle.std.proofs.Common.{◌≡◌, ◌⊎◌, inl, inr, ℕ, true, List, ◌++◌, Option, Some, None, IfSome, is_some, refl, sym, ap, subst, ◌∙◌}
use Rattle.dn_base.specs.declared.ids.Shape.{Shape}
use Rattle.dn_base.specs.declared.ids.Grant.{Grant}
use Rattle.dn_base.specs.declared.status.Outcome as outcome
use Rattle.dn_base.specs.declared.status.Outcome.{Outcome}
use Rattle.dn_base.specs.declared.status.Status as status
use Rattle.dn_base.specs.declared.status.Status.{Status}
use Rattle.region_table.specs.Program.{ProgramParts}
use Rattle.rv_assembler.specs.Source.{source}
use Rattle.registration_protocol.specs.Node.{Setting}
use Rattle.flat_machine.specs.Ending.{flat_end}
use Rattle.machine_rules.specs.State.{initial_state}
use Rattle.machine_rules.specs.Runs.{all_loads}
use Rattle.dn_machine.specs.Settings.{IsSettingOf}
use Rattle.dn_machine.specs.declared.record.RunRecord.{RunRecord}
use Rattle.dn_machine.proofs.OneSetting.{same-setting}
use Rattle.run_report.specs.Answer.{answer_of}
use Rattle.run_report.specs.Run.{run_text, report_of}
use Rattle.run_replay.specs.declared.trace.Trace.{Trace}
use Rattle.run_replay.proofs.Single.{one-trace}
use Rattle.claims.specs.declared.claim.Claim.{Claim}
use Rattle.claims.specs.Claim.{IsClaimDocument}
use Rattle.claims.specs.declared.verdict.Verdict.TheVariants.{Agrees}
use Rattle.claims.specs.Judge.{IsVerdict, AgreesWithRun}
use Rattle.claims.proofs.Verdicts.{run_agrees}
use Rattle.dn_top.specs.declared.options.Mode as mode
use Rattle.dn_top.specs.declared.options.Mode.{Mode}
use Rattle.dn_top.specs.declared.options.Options.{Options}
use Rattle.run_report.specs.Texts.{HasChecked}
use Rattle.program_outside.specs.Outside.{Devices, Took}
use Rattle.dn_top.specs.declared.output.Output.{Output}
use Rattle.dn_top.specs.Answers.{IsOutcome, done_in}
use Rattle.checked_runs.specs.Documents.{HasTrace, shape_told}
use Rattle.dn_top.specs.Laws.{Call}
use Rattle.checked_runs.specs.Runs.{HasFlatRun, IsRunOf, reported}
use Rattle.dn_top.specs.Runs.{shape_for}
use Rattle.dn_top.specs.Serving.{HasDone, ForText, text_to_answer}
use Rattle.referee_top.specs.declared.mode.RefereeMode as referee
use Rattle.referee_top.specs.Answers.{Reply, HasTold, IsAnswer, verdict_reply}
use Rattle.referee_top.proofs.Agreeing.{true-agrees}
use Rattle.referee_top.proofs.Fit.{one-program}
use Rattle.companion_laws.proofs.Agreeing.{loads-claimed}
use Rattle.companion_laws.specs.HandedBack.{IsClaimOfRecord, IsClaimOfRunOf, claims_run_in, HandedBack}

-- ---- a run and its claim

record-agrees : (P : ProgramParts) (machine : Shape) (fuel : ℕ) (r : RunRecord) (C : Setting) (c : Claim) → IsRunOf P machine fuel r → IsSettingOf P machine fuel C → IsClaimOfRecord C r c → AgreesWithRun P c
record-agrees P machine fuel r C c is of told =
    let same : is.setting ≡ C = same-setting P machine fuel is.setting C is.setting_is of in
    let flat : HasFlatRun C r = subst (λ (D : Setting). HasFlatRun D r) same is.flat in
    record {
      end' = flat.end';
      run = ap (λ (Q : ProgramParts). flat_end Q c.question.fuel c.grants) (sym of.program)
          ∙ ap (λ (f : ℕ). flat_end C.program f c.grants) told.fuel
          ∙ ap (λ (gs : List Grant). flat_end C.program C.fuel gs) told.grants
          ∙ flat.value;
      loads = loads-claimed c.loads (all_loads (initial_state C) r.events) flat.end'.loads flat.loads told.loads;
      answer = told.answer ∙ ap answer_of (sym flat.ending);
    }

pub record-verdict : (P : ProgramParts) (machine : Shape) (fuel : ℕ) (r : RunRecord) (C : Setting) (c : Claim) → IsRunOf P machine fuel r → IsSettingOf P machine fuel C → IsClaimOfRecord C r c → IsVerdict P c Agrees
record-verdict P machine fuel r C c is of told = run_agrees P c (record-agrees P machine fuel r C c is of told)

-- a text's run on the machine of this shape
abbrev pub HasRun : List ℕ → (ProgramParts → Shape) → ℕ → RunRecord → Type 0
HasRun text shape_of fuel r = HasChecked text (λ P. IsRunOf P (shape_of P) fuel r)

text-agrees : (text : List ℕ) (shape_of : ProgramParts → Shape) (fuel : ℕ) (r : RunRecord) (c : Claim) → HasRun text shape_of fuel r → IsClaimOfRunOf text shape_of fuel r c
    → HasChecked c.question.text (λ P. AgreesWithRun P c)
text-agrees text shape_of fuel r c ran told =
    let same : told.program ≡ ran.program = one-program text told.program ran.program told.is ran.is in
    let of : IsSettingOf ran.program (shape_of ran.program) fuel told.setting = subst (λ (P : ProgramParts). IsSettingOf P (shape_of P) fuel told.setting) same told.setting_is in
    record {
      program = ran.program;
      is = ap source told.asked ∙ ran.is;
      checked = ran.checked;
      holds = record-agrees ran.program (shape_of ran.program) fuel r told.setting c ran.holds of told.told;
    }

-- there is a claim of it, with all its loads
claim-of : (text : List ℕ) (shape_of : ProgramParts → Shape) (fuel : ℕ) (r : RunRecord) → HasRun text shape_of fuel r → (c : Claim) × (is_some c.loads ≡ true) × IsClaimOfRunOf text shape_of fuel r c
claim-of text shape_of fuel r ran = (
  record { question = record { fuel = fuel; text = text }; grants = r.grants; loads = Some (all_loads (initial_state ran.holds.setting) r.events); answer = answer_of r.ending },
  refl,
  record {
    asked = refl;
    program = ran.program;
    is = ran.is;
    setting = ran.holds.setting;
    setting_is = ran.holds.setting_is;
    told = record { fuel = sym ran.holds.setting_is.fuel; grants = refl; loads = refl; answer = refl };
  },
)

-- ---- a mode's run

abbrev pub ran_in : Mode → Options → List ℕ → RunRecord → Type 0
ran_in mode.TheVariants.Replay o document r = HasTrace document (λ t. HasRun t.text (λ P. shape_told P t.shape) t.shape.fuel r)
ran_in m o text r = HasRun text (λ P. shape_for P o) o.fuel r

one-some : (r s : RunRecord) → Some r ≡ Some s → r ≡ s
one-some r s e = cc

some-none : (r : RunRecord) (run : Option RunRecord) → run ≡ None → run ≡ Some r → ⊥
some-none r run none some = cc

-- what is handed back is the run that was made
made : (P : ProgramParts) (shape : Shape) (fuel : ℕ) (s r : RunRecord) → IsRunOf P shape fuel s → Some s ≡ Some r → IsRunOf P shape fuel r
made P shape fuel s r is e = subst (λ (x : RunRecord). IsRunOf P shape fuel x) (one-some s r e) is

out-run : (out other : Output) (run : Option RunRecord) → out ≡ other → out.run ≡ run → other.run ≡ run
out-run out other run e is = sym (ap (λ (x : Output). x.run) e) ∙ is

mode-ran : (m : Mode) (o : Options) (text : List ℕ) (out : Output) (r : RunRecord) → done_in m o text out → out.run ≡ Some r → ran_in m o text r
mode-ran mode.TheVariants.Run o text out r is e =
    record { program = is.program; is = is.is; checked = is.checked; holds = made is.program (shape_for is.program o) o.fuel is.holds.run r is.holds.is.run (out-run out _ (Some r) is.holds.answer e) }
mode-ran mode.TheVariants.Work o text out r is e =
    record { program = is.program; is = is.is; checked = is.checked; holds = made is.program (shape_for is.program o) o.fuel is.holds.run r is.holds.is.run (out-run out _ (Some r) is.holds.answer e) }
mode-ran mode.TheVariants.Trace o text out r is e =
    record { program = is.program; is = is.is; checked = is.checked; holds = made is.program (shape_for is.program o) o.fuel is.holds.run r is.holds.is.run (out-run out _ (Some r) is.holds.answer e) }
mode-ran mode.TheVariants.Time o text out r is e =
    record { program = is.program; is = is.is; checked = is.checked; holds = made is.program (shape_for is.program o) o.fuel is.holds.run r is.holds.is.run (out-run out _ (Some r) is.holds.timed.answer e) }
mode-ran mode.TheVariants.Replay o document out r is e =
    let by = is.holds in
    record {
      trace = is.trace;
      is = is.is;
      holds = record {
        program = by.program;
        is = by.is;
        checked = by.checked;
        holds = made by.program (shape_told by.program is.trace.shape) is.trace.shape.fuel by.holds.run r by.holds.told.is (out-run out _ (Some r) by.holds.answer e);
      };
    }
mode-ran mode.TheVariants.Check o text out r is e = absurd (some-none r out.run (ap (λ (x : Output). x.run) is.holds) e)
mode-ran mode.TheVariants.List o text out r is e = absurd (some-none r out.run (ap (λ (x : Output). x.run) is.holds.answer) e)
mode-ran mode.TheVariants.Flat o text out r is e = absurd (some-none r out.run (ap (λ (x : Output). x.run) is.holds.answer) e)
mode-ran mode.TheVariants.Prove o text out r is e = absurd (some-none r out.run (ap (λ (x : Output). x.run) is.holds.answer) e)

replay-agrees : (document : List ℕ) (r : RunRecord) (c : Claim) → HasTrace document (λ t. HasRun t.text (λ P. shape_told P t.shape) t.shape.fuel r)
    → HasTrace document (λ t. IsClaimOfRunOf t.text (λ P. shape_told P t.shape) t.shape.fuel r c) → HasChecked c.question.text (λ P. AgreesWithRun P c)
replay-agrees document r c ran told =
    let same : told.trace ≡ ran.trace = one-trace document told.trace ran.trace told.is ran.is in
    text-agrees ran.trace.text (λ P. shape_told P ran.trace.shape) ran.trace.shape.fuel r c ran.holds
    (subst (λ (t : Trace). IsClaimOfRunOf t.text (λ P. shape_told P t.shape) t.shape.fuel r c) same told.holds)

mode-agrees : (m : Mode) (o : Options) (text : List ℕ) (r : RunRecord) (c : Claim) → ran_in m o text r → claims_run_in m o text r c → HasChecked c.question.text (λ P. AgreesWithRun P c)
mode-agrees mode.TheVariants.Run o text r c ran told = text-agrees text (λ P. shape_for P o) o.fuel r c ran told
mode-agrees mode.TheVariants.Work o text r c ran told = text-agrees text (λ P. shape_for P o) o.fuel r c ran told
mode-agrees mode.TheVariants.Check o text r c ran told = text-agrees text (λ P. shape_for P o) o.fuel r c ran told
mode-agrees mode.TheVariants.List o text r c ran told = text-agrees text (λ P. shape_for P o) o.fuel r c ran told
mode-agrees mode.TheVariants.Flat o text r c ran told = text-agrees text (λ P. shape_for P o) o.fuel r c ran told
mode-agrees mode.TheVariants.Trace o text r c ran told = text-agrees text (λ P. shape_for P o) o.fuel r c ran told
mode-agrees mode.TheVariants.Time o text r c ran told = text-agrees text (λ P. shape_for P o) o.fuel r c ran told
mode-agrees mode.TheVariants.Prove o text r c ran told = text-agrees text (λ P. shape_for P o) o.fuel r c ran told
mode-agrees mode.TheVariants.Replay o text r c ran told = replay-agrees text r c ran told

mode-claim : (m : Mode) (o : Options) (text : List ℕ) (r : RunRecord) → ran_in m o text r → (c : Claim) × (is_some c.loads ≡ true) × claims_run_in m o text r c
mode-claim mode.TheVariants.Run o text r ran = claim-of text (λ P. shape_for P o) o.fuel r ran
mode-claim mode.TheVariants.Work o text r ran = claim-of text (λ P. shape_for P o) o.fuel r ran
mode-claim mode.TheVariants.Check o text r ran = claim-of text (λ P. shape_for P o) o.fuel r ran
mode-claim mode.TheVariants.List o text r ran = claim-of text (λ P. shape_for P o) o.fuel r ran
mode-claim mode.TheVariants.Flat o text r ran = claim-of text (λ P. shape_for P o) o.fuel r ran
mode-claim mode.TheVariants.Trace o text r ran = claim-of text (λ P. shape_for P o) o.fuel r ran
mode-claim mode.TheVariants.Time o text r ran = claim-of text (λ P. shape_for P o) o.fuel r ran
mode-claim mode.TheVariants.Prove o text r ran = claim-of text (λ P. shape_for P o) o.fuel r ran
mode-claim mode.TheVariants.Replay o document r ran =
    let c = claim-of ran.trace.text (λ P. shape_told P ran.trace.shape) ran.trace.shape.fuel r ran.holds in
    (c.0, c.1, record { trace = ran.trace; is = ran.is; holds = c.2 })

-- ---- a call

-- what a call did that handed back a run
record HasMade (o : Options) (text : List ℕ) (call : Call) (r : RunRecord) : Type 0 where
  out : Output
  done : done_in o.mode o text out
  run : out.run ≡ Some r
  took : Took call.before.sink call.after.sink out.bytes

same_options : (o p : Options) → Some o ≡ Some p → o ≡ p
same_options o p e = cc

at-some : {X : Type 0} (o : Option X) (x : X) (Holds : X → Type 0) → o ≡ Some x → IfSome o Holds → Holds x
at-some None x Holds e h = absurd cc
at-some (Some y) x Holds e h = let same : y ≡ x = cc in subst Holds same h

-- what is said of the text of the options that are wanted
of_text : (o : Options) (text : List ℕ) (before : Devices) (Holds : Options → List ℕ → Type 0) → text_to_answer o before.source ≡ Some text → ForText (Some o) before.source Holds → Holds o text
of_text o text before Holds about h =
    let same : h.options ≡ o = same_options h.options o (sym h.asked) in
    at-some (text_to_answer o before.source) text (Holds o) about (subst (λ (p : Options). IfSome (text_to_answer p before.source) (Holds p)) same h.text)

refused-no_outcome : (s : Status) → s ≡ status.TheVariants.SourceRefused → IsOutcome s → ⊥
refused-no_outcome s refused (outcome.TheVariants.Done, is) = cc
refused-no_outcome s refused (outcome.TheVariants.Trapped, is) = cc
refused-no_outcome s refused (outcome.TheVariants.Fuel, is) = cc
refused-no_outcome s refused (outcome.TheVariants.Stuck, is) = cc

call-made : (o : Options) (text : List ℕ) (call : Call) (r : RunRecord) → HandedBack o text call r → HasMade o text call r
call-made o text call r h = by_end h.answered.ends
  where
    by_end : IsOutcome call.answer.status ⊎ (call.answer.status ≡ status.TheVariants.SourceRefused) → HasMade o text call r
    by_end (inl ends) =
        let done : HasDone o call.before call.after text call.answer =
        of_text o text call.before (λ p t. HasDone p call.before call.after t call.answer) h.answered.about (h.answered.serves.done ends)
        in
        record { out = done.out; done = done.done; run = sym done.run ∙ h.run; took = done.took }
    by_end (inr refused) = absurd (some-none r call.answer.run (h.answered.serves.no_run (refused-no_outcome call.answer.status refused)) h.run)

pub call-ran : (o : Options) (text : List ℕ) (call : Call) (r : RunRecord) → HandedBack o text call r → ran_in o.mode o text r
call-ran o text call r h = let did = call-made o text call r h in mode-ran o.mode o text did.out r did.done did.run

call-agrees : (o : Options) (text : List ℕ) (call : Call) (r : RunRecord) (c : Claim) → HandedBack o text call r → claims_run_in o.mode o text r c → HasChecked c.question.text (λ P. AgreesWithRun P c)
call-agrees o text call r c h told = mode-agrees o.mode o text r c (call-ran o text call r h) told

pub call-verdict : (o : Options) (text : List ℕ) (call : Call) (r : RunRecord) (c : Claim) → HandedBack o text call r → claims_run_in o.mode o text r c → HasChecked c.question.text (λ P. IsVerdict P c Agrees)
call-verdict o text call r c h told =
    let is = call-agrees o text call r c h told in
    record { program = is.program; is = is.is; checked = is.checked; holds = run_agrees is.program c is.holds }

pub call-said : (o : Options) (text : List ℕ) (call : Call) (r : RunRecord) (document : List ℕ) (out : Reply) → HandedBack o text call r → HasTold IsClaimDocument document (λ c. claims_run_in o.mode o text r c)
    → IsAnswer referee.TheVariants.Judge document out → out ≡ verdict_reply Agrees
call-said o text call r document out h told is =
    true-agrees document out (record { value = told.value; is = told.is; holds = call-agrees o text call r told.value h told.holds }) is

pub call-claim : (o : Options) (text : List ℕ) (call : Call) (r : RunRecord) → HandedBack o text call r → (c : Claim) × (is_some c.loads ≡ true) × claims_run_in o.mode o text r c
call-claim o text call r h = mode-claim o.mode o text r (call-ran o text call r h)

-- ---- what the mode run prints

report-begins : (r : RunRecord) → reported r ≡ answer_of r.ending ++ run_text r.grants r.counts
unfolding report_of
report-begins r = refl

run-bytes : (m : Mode) (o : Options) (text : List ℕ) (out : Output) (r : RunRecord) → m ≡ mode.TheVariants.Run → done_in m o text out → out.run ≡ Some r → out.bytes ≡ reported r
run-bytes mode.TheVariants.Run o text out r asked is e =
    ap (λ (x : Output). x.bytes) is.holds.answer ∙ ap reported (one-some is.holds.run r (out-run out _ (Some r) is.holds.answer e))
run-bytes mode.TheVariants.Work o text out r asked is e = absurd (cc)
run-bytes mode.TheVariants.Check o text out r asked is e = absurd (cc)
run-bytes mode.TheVariants.List o text out r asked is e = absurd (cc)
run-bytes mode.TheVariants.Flat o text out r asked is e = absurd (cc)
run-bytes mode.TheVariants.Trace o text out r asked is e = absurd (cc)
run-bytes mode.TheVariants.Replay o text out r asked is e = absurd (cc)
run-bytes mode.TheVariants.Time o text out r asked is e = absurd (cc)
run-bytes mode.TheVariants.Prove o text out r asked is e = absurd (cc)

pub call-printed : (o : Options) (text : List ℕ) (call : Call) (r : RunRecord) → HandedBack o text call r → o.mode ≡ mode.TheVariants.Run
    → Took call.before.sink call.after.sink (answer_of r.ending ++ run_text r.grants r.counts)
call-printed o text call r h asked =
    let did = call-made o text call r h in
    subst (λ (bytes : List ℕ). Took call.before.sink call.after.sink bytes) (run-bytes o.mode o text did.out r asked did.done did.run ∙ report-begins r) did.took

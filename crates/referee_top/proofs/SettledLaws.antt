-- The referee says in the mode settled that a claim agrees exactly where an ending that has what is common has its answer.
use Rattle.std.proofs.Common.{◌≡◌, inl, inr, ◌↔◌, ℕ, ◌≤◌, List, length, Ok, Some, refl, sym, ap, subst, ◌∙◌}
use Rattle.std.proofs.lemmas.Option.{none-some}
use Rattle.dn_base.specs.declared.ids.Grant.{Grant}
use Rattle.region_table.specs.Program.{ProgramParts, IsProgram}
use Rattle.rv_assembler.specs.Source.{source}
use Rattle.effect_checker.specs.Checked.{IsChecked}
use Rattle.flat_machine.specs.declared.ending.FlatEnd.{FlatEnd}
use Rattle.flat_machine.specs.Ending.{flat_end}
use Rattle.common_outcomes.specs.declared.answer.Common.{Common}
use Rattle.common_outcomes.specs.declared.answer.Outcomes.{Outcomes}
use Rattle.common_outcomes.specs.declared.answer.Outcomes as answer
use Rattle.common_outcomes.specs.Answer.{outcomes}
use Rattle.common_outcomes.specs.Laws.{IsCommonTo}
use Rattle.common_outcomes.proofs.Settling.{every-order}
use Rattle.outcomes_top.specs.Answers.{IsOutcomesPrintable}
use Rattle.outcomes_top.proofs.LimitLemmas.{printable}
use Rattle.claims.specs.declared.claim.Claim.{Claim}
use Rattle.claims.specs.Claim.{IsClaimDocument}
use Rattle.claims.specs.declared.verdict.Verdict.{Verdict}
use Rattle.claims.specs.declared.verdict.Verdict.TheVariants.{Agrees as SaysAgrees, Grants, Tasks, Load, Answer}
use Rattle.claims.proofs.Single.{one-claim, claim-fault}
use Rattle.run_report.specs.Answer.{answer_of}
use Rattle.run_report.specs.Texts.{HasChecked, IsUnfit}
use Rattle.referee_top.specs.declared.mode.RefereeMode as mode
use Rattle.referee_top.specs.declared.status.RefereeStatus.{RefereeStatus}
use Rattle.referee_top.specs.declared.status.RefereeStatus as status
use Rattle.referee_top.specs.Answers.{Reply, HasTold, IsPlainDocument, IsSettledJudged, IsAnswer, reply_beside, verdict_reply, verdict_status, refused_with, surplus}
use Rattle.referee_top.specs.Laws.{AgreesWithCommon, IsClaimOfCommon}
use Rattle.referee_top.specs.Settled.{settled_verdict}
use Rattle.referee_top.proofs.Fit.{one-program, checked-fit}
use Rattle.referee_top.proofs.SettledLemmas.{settled-agrees, answer-agrees}

few-words : (P : ProgramParts) (fuel : ℕ) (common : Common) → IsProgram P → outcomes P fuel ≡ answer.TheVariants.Settled common → length common.memory ≤ 65536
few-words P fuel common well is =
    let limits : IsOutcomesPrintable (answer.TheVariants.Settled common) = subst IsOutcomesPrintable is (printable P fuel well) in limits.0

-- ---- a claim that agrees is answered so

module _ (document : List ℕ) (c : Claim) (is : IsPlainDocument document c) (P : ProgramParts) (assembles : source c.question.text ≡ Ok P) (checked : IsChecked P) where
  by-program : (out : Reply) → HasTold IsPlainDocument document (λ d. HasChecked d.question.text (λ Q. IsSettledJudged Q d out)) → IsSettledJudged P c out
  by-program out told =
      let same : told.value ≡ c = one-claim document told.value c told.is.is is.is in
      let holds : HasChecked c.question.text (λ Q. IsSettledJudged Q c out) = subst (λ (d : Claim). HasChecked d.question.text (λ Q. IsSettledJudged Q d out)) same told.holds in
      let program : holds.program ≡ P = one-program c.question.text holds.program P holds.is assembles in
      subst (λ (Q : ProgramParts). IsSettledJudged Q c out) program holds.holds

  not_surplus : (d : Claim) (line : List ℕ) → IsClaimDocument document d → (f : _) → surplus d ≡ Some f → ⊥
  not_surplus d line document_is f more =
      let same : d ≡ c = one-claim document d c document_is is.is in
      absurd (none-some f (sym is.plain ∙ ap surplus (sym same) ∙ more))

  not_refused : (line : List ℕ) → refused_with mode.TheVariants.Settled document line → ⊥
  not_refused line (inl (inl faulty)) = claim-fault document c faulty.fault is.is faulty.is
  not_refused line (inl (inr told)) = not_surplus told.value line told.is told.holds.fault told.holds.first
  not_refused line (inr told) =
      let same : told.value ≡ c = one-claim document told.value c told.is.is is.is in
      let unfit : IsUnfit c.question.text line = subst (λ (d : Claim). IsUnfit d.question.text line) same told.holds in
      checked-fit c.question.text line (λ Q. Unit {0}) (record { program = P; is = assembles; checked = checked; holds = tt }) unfit

  pub is-judged : (out : Reply) → IsAnswer mode.TheVariants.Settled document out → IsSettledJudged P c out
  is-judged out (inl told) = by-program out told
  is-judged out (inr refusal) = absurd (not_refused refusal.line refusal.why)

  pub said-common : (out : Reply) → AgreesWithCommon P c → IsAnswer mode.TheVariants.Settled document out → out ≡ verdict_reply SaysAgrees
  said-common out agrees answered =
      let by = is-judged out answered in
      let small = few-words P c.question.fuel agrees.common by.well_formed agrees.settled in
      by.answer ∙ ap (λ (o : Outcomes). reply_beside o c.answer) agrees.settled ∙ ap verdict_reply (answer-agrees agrees.common c.answer small agrees.answer)

pub common-said : (document : List ℕ) (out : Reply) → IsClaimOfCommon document → IsAnswer mode.TheVariants.Settled document out → out ≡ verdict_reply SaysAgrees
common-said document out h answered = said-common document h.value h.is h.holds.program h.holds.is h.holds.checked out h.holds.holds answered

-- ---- and no other is

agrees-only : (v : Verdict) → verdict_status v ≡ status.TheVariants.Agrees → v ≡ SaysAgrees
agrees-only SaysAgrees h = refl
agrees-only (Grants grant) h = absurd (cc)
agrees-only Tasks h = absurd (cc)
agrees-only (Load place right) h = absurd (cc)
agrees-only (Answer line right) h = absurd (cc)

beside-agrees : (P : ProgramParts) (c : Claim) (o : Outcomes) → outcomes P c.question.fuel ≡ o → (reply_beside o c.answer).status ≡ status.TheVariants.Agrees → AgreesWithCommon P c
beside-agrees P c (answer.TheVariants.Settled common) is says =
    record { common = common; settled = is; answer = settled-agrees common c.answer (agrees-only (settled_verdict common c.answer) says) }
beside-agrees P c (answer.TheVariants.Open why) is says = absurd (cc)

said-by : (document : List ℕ) (out : Reply) → out.status ≡ status.TheVariants.Agrees → IsAnswer mode.TheVariants.Settled document out → IsClaimOfCommon document
said-by document out says (inl told) =
    let by = told.holds.holds in
    let there = beside-agrees told.holds.program told.value (outcomes told.holds.program told.value.question.fuel) refl (sym (ap (λ (o : Reply). o.status) by.answer) ∙ says) in
    record { value = told.value; is = told.is; holds = record { program = told.holds.program; is = told.holds.is; checked = told.holds.checked; holds = there } }
said-by document out says (inr refusal) =
    let bad : status.TheVariants.Refused ≡ status.TheVariants.Agrees = sym (ap (λ (o : Reply). o.status) refusal.answer) ∙ says in absurd (cc)

pub common-exactly : (document : List ℕ) (out : Reply) → IsAnswer mode.TheVariants.Settled document out → (out.status ≡ status.TheVariants.Agrees) ↔ IsClaimOfCommon document
common-exactly document out answered =
    (λ (says : out.status ≡ status.TheVariants.Agrees). said-by document out says answered, λ (h : IsClaimOfCommon document). ap (λ (o : Reply). o.status) (common-said document out h answered))

-- ---- the answer of any run

pub run-said : (document : List ℕ) (c : Claim) (P : ProgramParts) (common : Common) (gs : List Grant) (e : FlatEnd) (out : Reply) → IsPlainDocument document c → source c.question.text ≡ Ok P → IsChecked P
    → outcomes P c.question.fuel ≡ answer.TheVariants.Settled common → flat_end P c.question.fuel gs ≡ Some e → c.answer ≡ answer_of e.ending → IsAnswer mode.TheVariants.Settled document out
    → out ≡ verdict_reply SaysAgrees
run-said document c P common gs e out is assembles checked settled ends same answered =
    let by = is-judged document c is P assembles checked out answered in
    let has : IsCommonTo common e.ending = every-order P c.question.fuel common gs e (record { program = by.well_formed; numbers = by.words; checked = checked; answer = settled }) ends in
    said-common document c is P assembles checked out (record { common = common; settled = settled; answer = record { ending = e.ending; has = has; is = same } }) answered

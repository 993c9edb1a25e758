-- The referee says of a document that it agrees exactly where it claims what one thread does.
use Rattle.std.proofs.Common.{◌≡◌, ◌≢◌, inl, inr, ◌↔◌, ℕ, List, Ok, refl, sym, ap, subst, ◌∙◌}
use Rattle.region_table.specs.Program.{ProgramParts}
use Rattle.rv_assembler.specs.Source.{source}
use Rattle.effect_checker.specs.Checked.{IsChecked}
use Rattle.claims.specs.declared.claim.Claim.{Claim}
use Rattle.claims.specs.declared.claim.GrantOrder.{GrantOrder}
use Rattle.claims.specs.declared.claim.Question.{Question}
use Rattle.claims.specs.Claim.{IsClaimDocument, claim_text}
use Rattle.claims.proofs.Single.{one-claim, claim-fault}
use Rattle.claims.specs.declared.verdict.Verdict.{Verdict}
use Rattle.claims.specs.declared.verdict.Verdict.TheVariants.{Agrees as SaysAgrees, Grants, Tasks, Load, Answer}
use Rattle.claims.specs.declared.right.RightClaim.{RightClaim}
use Rattle.claims.specs.declared.right.RightClaim.TheVariants.{Whole, Refused as RefusedAt}
use Rattle.claims.specs.Judge.{IsVerdict, AgreesWithRun}
use Rattle.claims.specs.Right.{IsRightClaim, IsRightBy}
use Rattle.claims.proofs.Verdicts.{one_verdict, run_agrees, agrees_run, right_agrees}
use Rattle.run_report.specs.Texts.{HasChecked, IsUnfit}
use Rattle.referee_top.proofs.Fit.{one-program, checked-fit}
use Rattle.referee_top.specs.declared.mode.RefereeMode.{RefereeMode}
use Rattle.referee_top.specs.declared.mode.RefereeMode as mode
use Rattle.referee_top.specs.declared.status.RefereeStatus.{RefereeStatus}
use Rattle.referee_top.specs.declared.status.RefereeStatus as status
use Rattle.referee_top.specs.Answers.{Reply, HasTold, verdict_status, verdict_reply, claim_reply, reply_by, IsJudged, IsReadable, refused_with, IsAnswer}
use Rattle.referee_top.specs.Laws.{IsClaimOfOneThread}

-- ---- a claim that agrees is answered so

module _ (document : List ℕ) (c : Claim) (is : IsClaimDocument document c) (P : ProgramParts) (assembles : source c.question.text ≡ Ok P) (checked : IsChecked P) where
  judged : (out : Reply) → AgreesWithRun P c → HasTold IsClaimDocument document (λ d. HasChecked d.question.text (λ Q. IsJudged Q d out)) → out ≡ verdict_reply SaysAgrees
  judged out agrees told =
      let same : told.value ≡ c = one-claim document told.value c told.is is in
      let holds : HasChecked c.question.text (λ Q. IsJudged Q c out) = subst (λ (d : Claim). HasChecked d.question.text (λ Q. IsJudged Q d out)) same told.holds in
      let program : holds.program ≡ P = one-program c.question.text holds.program P holds.is assembles in
      let by : IsJudged P c out = subst (λ (Q : ProgramParts). IsJudged Q c out) program holds.holds in
      by.answer ∙ ap verdict_reply (one_verdict P c by.verdict SaysAgrees by.right (run_agrees P c agrees))

  not_refused : (line : List ℕ) → refused_with mode.TheVariants.Judge document line → ⊥
  not_refused line (inl faulty) = claim-fault document c faulty.fault is faulty.is
  not_refused line (inr told) =
      let same : told.value ≡ c = one-claim document told.value c told.is is in
      let unfit : IsUnfit c.question.text line = subst (λ (d : Claim). IsUnfit d.question.text line) same told.holds in
      checked-fit c.question.text line (λ Q. Unit {0}) (record { program = P; is = assembles; checked = checked; holds = tt }) unfit

  pub said-agrees : (out : Reply) → AgreesWithRun P c → IsAnswer mode.TheVariants.Judge document out → out ≡ verdict_reply SaysAgrees
  said-agrees out agrees (inl told) = judged out agrees told
  said-agrees out agrees (inr refusal) = absurd (not_refused refusal.line refusal.why)

-- the same, where the claim and its program aren't named
pub true-agrees : (document : List ℕ) (out : Reply) → IsClaimOfOneThread document → IsAnswer mode.TheVariants.Judge document out → out ≡ verdict_reply SaysAgrees
true-agrees document out h is =
    said-agrees document h.value h.is h.holds.program h.holds.is h.holds.checked out h.holds.holds is

-- ---- and no other is

agrees-only : (v : Verdict) → verdict_status v ≡ status.TheVariants.Agrees → v ≡ SaysAgrees
agrees-only SaysAgrees h = refl
agrees-only (Grants grant) h = absurd (cc)
agrees-only Tasks h = absurd (cc)
agrees-only (Load place right) h = absurd (cc)
agrees-only (Answer line right) h = absurd (cc)

agrees-true : (document : List ℕ) (out : Reply) → out.status ≡ status.TheVariants.Agrees → IsAnswer mode.TheVariants.Judge document out → IsClaimOfOneThread document
agrees-true document out says (inl told) =
    let by = told.holds.holds in
    let verdict : by.verdict ≡ SaysAgrees = agrees-only by.verdict (sym (ap (λ (o : Reply). o.status) by.answer) ∙ says) in
    let right : IsVerdict told.holds.program told.value SaysAgrees = subst (IsVerdict told.holds.program told.value) verdict by.right in
    record { value = told.value; is = told.is; holds = record { program = told.holds.program; is = told.holds.is; checked = told.holds.checked; holds = agrees_run told.holds.program told.value right } }
agrees-true document out says (inr refusal) =
    let bad : status.TheVariants.Refused ≡ status.TheVariants.Agrees = sym (ap (λ (o : Reply). o.status) refusal.answer) ∙ says in absurd (cc)

pub agrees-exactly : (document : List ℕ) (out : Reply) → IsAnswer mode.TheVariants.Judge document out → (out.status ≡ status.TheVariants.Agrees) ↔ IsClaimOfOneThread document
agrees-exactly document out is =
    (λ (says : out.status ≡ status.TheVariants.Agrees). agrees-true document out says is, λ (h : IsClaimOfOneThread document). ap (λ (o : Reply). o.status) (true-agrees document out h is))

-- ---- what the referee prints

-- a claim that is right was printed
printed-said : (text : List ℕ) (P : ProgramParts) (q : Question) (gs : List _) (c : Claim) (printed out : Reply) → source text ≡ Ok P → IsChecked P → q.text ≡ text → IsRightClaim P q gs c
    → IsClaimDocument (claim_text c) c → printed ≡ claim_reply c → IsAnswer mode.TheVariants.Judge printed.bytes out → out ≡ verdict_reply SaysAgrees
printed-said text P q gs c printed out assembles checked of right again answer is =
    let asked : c.question ≡ q = ap (λ (d : Claim). d.question) right.is in
    let its : source c.question.text ≡ Ok P = ap (λ (p : Question). source p.text) asked ∙ ap source of ∙ assembles in
    let bytes : printed.bytes ≡ claim_text c = ap (λ (o : Reply). o.bytes) answer in
    said-agrees (claim_text c) c again P its checked out (agrees_run P c (right_agrees P q gs c right))
    (subst (λ (b : List ℕ). IsAnswer mode.TheVariants.Judge b out) bytes is)

-- the first grant that may not come isn't agreement
differs-not : (place : ℕ) (printed : Reply) → printed ≡ verdict_reply (Grants place) → printed.status ≡ status.TheVariants.Agrees → ⊥
differs-not place printed answer says =
    let bad : status.TheVariants.Differs ≡ status.TheVariants.Agrees = sym (ap (λ (o : Reply). o.status) answer) ∙ says in cc

refused-not : (line : List ℕ) (printed : Reply) → printed ≡ record { status = status.TheVariants.Refused; bytes = line } → printed.status ≡ status.TheVariants.Agrees → ⊥
refused-not line printed answer says =
    let bad : status.TheVariants.Refused ≡ status.TheVariants.Agrees = sym (ap (λ (o : Reply). o.status) answer) ∙ says in cc

ordered-said : (P : ProgramParts) (o : GrantOrder) (claim : RightClaim) (printed out : Reply) → source o.question.text ≡ Ok P → IsChecked P → IsRightBy P o.question o.grants claim
    → IsReadable claim → printed ≡ reply_by claim → printed.status ≡ status.TheVariants.Agrees → IsAnswer mode.TheVariants.Judge printed.bytes out → out ≡ verdict_reply SaysAgrees
ordered-said P o (Whole c) printed out assembles checked right again answer says is =
    printed-said o.question.text P o.question o.grants c printed out assembles checked refl right again answer is
ordered-said P o (RefusedAt place) printed out assembles checked right again answer says is = absurd (differs-not place printed answer says)

pub printed-agrees : (m : RefereeMode) (document : List ℕ) (printed out : Reply) → m ≢ mode.TheVariants.Judge → m ≢ mode.TheVariants.Diagnose → m ≢ mode.TheVariants.Settled → IsAnswer m document printed → printed.status ≡ status.TheVariants.Agrees
    → IsAnswer mode.TheVariants.Judge printed.bytes out → out ≡ verdict_reply SaysAgrees
printed-agrees mode.TheVariants.Judge document printed out other too three made says is = absurd (other refl)
printed-agrees mode.TheVariants.Diagnose document printed out other too three made says is = absurd (too refl)
printed-agrees mode.TheVariants.Settled document printed out other too three made says is = absurd (three refl)
printed-agrees mode.TheVariants.Answer document printed out other too three (inl told) says is =
    let by = told.holds.holds in
    ordered-said told.holds.program told.value by.claim printed out told.holds.is told.holds.checked by.right by.again by.answer says is
printed-agrees mode.TheVariants.Answer document printed out other too three (inr refusal) says is = absurd (refused-not refusal.line printed refusal.answer says)
printed-agrees mode.TheVariants.Least document printed out other too three (inl told) says is =
    let by = told.holds.holds in
    printed-said told.value.text told.holds.program told.value by.claim.grants by.claim printed out told.holds.is told.holds.checked refl by.right.right by.again by.answer is
printed-agrees mode.TheVariants.Least document printed out other too three (inr refusal) says is = absurd (refused-not refusal.line printed refusal.answer says)

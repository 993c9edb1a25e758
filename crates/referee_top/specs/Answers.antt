-- The referee's answer to a mode and a document.
use Rattle.std.specs.Prelude.{◌≡◌, ◌⊎◌, ℕ, ◌<◌, List, [], ◌∷◌, ◌++◌, length, Option, Some, None}
use Rattle.dn_base.specs.declared.ids.Grant.{Grant as GrantOf}
use Rattle.region_table.specs.Program.{ProgramParts, IsProgram}
use Rattle.region_table.specs.Numbers.{HasWords}
use Rattle.flat_machine.specs.declared.ending.TaskLoads.{TaskLoads}
use Rattle.claims.specs.declared.claim.Claim.{Claim}
use Rattle.claims.specs.declared.claim.ClaimFault.{ClaimFault}
use Rattle.claims.specs.declared.claim.ClaimFault.TheVariants.{TooLarge, Grant as NoGrant, Loads as NoLoads}
use Rattle.claims.specs.declared.claim.GrantOrder.{GrantOrder}
use Rattle.claims.specs.declared.claim.Question.{Question}
use Rattle.claims.specs.Alone.{IsQuestionDocument, HasQuestionFault, IsOrderDocument, HasOrderFault}
use Rattle.claims.specs.Claim.{IsClaimDocument, claim_text, most_bytes}
use Rattle.claims.specs.Faults.{HasFault}
use Rattle.claims.specs.Refusal.{refusal_text}
use Rattle.claims.specs.declared.verdict.Verdict.{Verdict}
use Rattle.claims.specs.declared.verdict.Verdict.TheVariants.{Agrees, Grants, Tasks, Load, Answer}
use Rattle.claims.specs.Verdict.{verdict_text}
use Rattle.claims.specs.declared.right.RightClaim.{RightClaim}
use Rattle.claims.specs.declared.right.RightClaim.TheVariants.{Whole, Refused}
use Rattle.claims.specs.Judge.{IsVerdict}
use Rattle.claims.specs.declared.diagnosis.Diagnosis.{Diagnosis}
use Rattle.claims.specs.Diagnosis.{IsDiagnosis}
use Rattle.claims.specs.DiagnosisText.{diagnosis_text}
use Rattle.claims.specs.Right.{IsRightBy, IsRightClaim, IsLeastClaim}
use Rattle.text_places.specs.Places.{text_places}
use Rattle.common_outcomes.specs.declared.answer.Outcomes.{Outcomes}
use Rattle.common_outcomes.specs.declared.answer.Outcomes as common
use Rattle.common_outcomes.specs.Answer.{outcomes}
use Rattle.outcomes_top.specs.Text.{open_line}
use Rattle.run_report.specs.Texts.{HasChecked, IsUnfit}
use Rattle.program_outside.specs.declared.ends.Output.{Output}
use Rattle.referee_top.specs.declared.mode.RefereeMode.{RefereeMode}
use Rattle.referee_top.specs.declared.mode.RefereeMode as mode
use Rattle.referee_top.specs.declared.status.RefereeStatus.{RefereeStatus}
use Rattle.referee_top.specs.declared.status.RefereeStatus as status
use Rattle.referee_top.specs.Settled.{settled_verdict}

-- a status of the referee, and all bytes that are to be written
abbrev pub Reply : Type 0
Reply = Output RefereeStatus

-- ---- a document, and the text that it tells

-- the bytes are the document of a value, and this holds of it
pub record HasTold {X : Type 0} (Is : List ℕ → X → Type 0) (bytes : List ℕ) (Holds : X → Type 0) : Type 0 where
  pub value : X
  pub is : Is bytes value
  pub holds : Holds value

-- the bytes are no such document, and the line says their first fault
pub record IsFaulty (Has : List ℕ → ClaimFault → Type 0) (bytes line : List ℕ) : Type 0 where
  pub fault : ClaimFault
  pub is : Has bytes fault
  pub says : line ≡ refusal_text fault

-- ---- what is printed

abbrev pub verdict_status : Verdict → RefereeStatus
verdict_status Agrees = status.TheVariants.Agrees
verdict_status (Grants grant) = status.TheVariants.Differs
verdict_status Tasks = status.TheVariants.Differs
verdict_status (Load place right) = status.TheVariants.Differs
verdict_status (Answer line right) = status.TheVariants.Differs

-- the lines of a verdict, and the document of a claim that is right
abbrev pub verdict_reply : Verdict → Reply
verdict_reply v = record { status = verdict_status v; bytes = verdict_text v }

abbrev pub claim_reply : Claim → Reply
claim_reply c = record { status = status.TheVariants.Agrees; bytes = claim_text c }

-- the result of a list of grants: its claim, which is written, or its first grant that isn't legal, which is named
abbrev pub reply_by : RightClaim → Reply
reply_by (Whole c) = claim_reply c
reply_by (Refused place) = verdict_reply (Grants place)

-- what is written is the document of the claim: it is within the limits, and can be read again
abbrev pub IsReadable : RightClaim → Type 0
IsReadable (Whole c) = IsClaimDocument (claim_text c) c
IsReadable (Refused place) = Unit {0}

-- ---- what is done with a document

-- the verdict on a claim of a program's run
pub record IsJudged (P : ProgramParts) (c : Claim) (out : Reply) : Type 0 where
  pub verdict : Verdict
  pub right : IsVerdict P c verdict
  pub answer : out ≡ verdict_reply verdict

-- the status and the lines of a verdict, and then the lines of a diagnosis
abbrev pub diagnosis_reply : ProgramParts → Claim → Verdict → Diagnosis → Reply
diagnosis_reply P c v d =
    record { status = verdict_status v; bytes = verdict_text v ++ diagnosis_text c.question.text P.regions (text_places c.question.text) d }

-- the verdict on a claim of a program's run, and what leads from it to the fault
pub record IsDiagnosed (P : ProgramParts) (c : Claim) (out : Reply) : Type 0 where
  pub verdict : Verdict
  pub right : IsVerdict P c verdict
  pub diagnosis : Diagnosis
  pub leads : IsDiagnosis P c verdict diagnosis
  pub answer : out ≡ diagnosis_reply P c verdict diagnosis

-- the verdict on a claimed answer beside what all runs have in common, or why that is open
abbrev pub reply_beside : Outcomes → List ℕ → Reply
reply_beside (common.TheVariants.Settled it) claimed = verdict_reply (settled_verdict it claimed)
reply_beside (common.TheVariants.Open why) claimed = record { status = status.TheVariants.Differs; bytes = open_line why }

-- what is said of a claim of a run of this program, which is well formed and of which each number has 32 bits
pub record IsSettledJudged (P : ProgramParts) (c : Claim) (out : Reply) : Type 0 where
  pub well_formed : IsProgram P
  pub words : HasWords P
  pub answer : out ≡ reply_beside (outcomes P c.question.fuel) c.answer

-- the claim of a program's run by the grants of an order
pub record IsOrdered (P : ProgramParts) (o : GrantOrder) (out : Reply) : Type 0 where
  pub claim : RightClaim
  pub right : IsRightBy P o.question o.grants claim
  pub again : IsReadable claim
  pub answer : out ≡ reply_by claim

-- the claim of a program's run by the least grants
pub record IsLeastReply (P : ProgramParts) (q : Question) (out : Reply) : Type 0 where
  pub claim : Claim
  pub right : IsLeastClaim P q claim
  pub again : IsReadable (Whole claim)
  pub answer : out ≡ claim_reply claim

-- ---- a claim without a document

-- the claim's text has more bytes than a document may have, and the line says so
pub record IsTooLarge (c : Claim) (line : List ℕ) : Type 0 where
  pub large : most_bytes < length (claim_text c)
  pub says : line ≡ refusal_text TooLarge

-- the right claim that is asked for is too large
pub record IsUnwritten (IsRight : Claim → Type 0) (line : List ℕ) : Type 0 where
  pub claim : Claim
  pub right : IsRight claim
  pub large : IsTooLarge claim line

-- the text of a question has no program that may be run, or the claim of its program is too large
abbrev pub IsUnanswered : Question → (ProgramParts → Claim → Type 0) → List ℕ → Type 0
IsUnanswered q IsRight line = IsUnfit q.text line ⊎ HasChecked q.text (λ P. IsUnwritten (IsRight P) line)

-- ---- a claim of more than an answer

-- the first thing that is told beside a question and an answer
abbrev pub surplus_of : List GrantOf → Option (List TaskLoads) → Option ClaimFault
surplus_of (g ∷ gs) loads = Some (NoGrant 0)
surplus_of [] (Some tasks) = Some NoLoads
surplus_of [] None = None

abbrev pub surplus : Claim → Option ClaimFault
surplus c = surplus_of c.grants c.loads

-- the bytes tell a question and an answer, and say nothing of grants and loads
pub record IsPlainDocument (bytes : List ℕ) (c : Claim) : Type 0 where
  pub is : IsClaimDocument bytes c
  pub plain : surplus c ≡ None

-- the claim tells more, and the line refuses the first such thing
pub record IsSurplus (c : Claim) (line : List ℕ) : Type 0 where
  pub fault : ClaimFault
  pub first : surplus c ≡ Some fault
  pub says : line ≡ refusal_text fault

-- the bytes are no claim, or one that tells more
abbrev pub IsNotPlain : List ℕ → List ℕ → Type 0
IsNotPlain document line = IsFaulty HasFault document line ⊎ HasTold IsClaimDocument document (λ c. IsSurplus c line)

-- ---- a row for each mode

-- what each mode does with a document, whose text has a checked program
abbrev pub mode_done : RefereeMode → List ℕ → Reply → Type 0
mode_done mode.TheVariants.Judge document out = HasTold IsClaimDocument document (λ c. HasChecked c.question.text (λ P. IsJudged P c out))
mode_done mode.TheVariants.Diagnose document out = HasTold IsClaimDocument document (λ c. HasChecked c.question.text (λ P. IsDiagnosed P c out))
mode_done mode.TheVariants.Settled document out = HasTold IsPlainDocument document (λ c. HasChecked c.question.text (λ P. IsSettledJudged P c out))
mode_done mode.TheVariants.Answer document out = HasTold IsOrderDocument document (λ o. HasChecked o.question.text (λ P. IsOrdered P o out))
mode_done mode.TheVariants.Least document out = HasTold IsQuestionDocument document (λ q. HasChecked q.text (λ P. IsLeastReply P q out))

-- which documents each mode refuses, and with which line: the bytes have a fault, or their text has one, or the claim that is
-- asked for would have more bytes than a document may have
abbrev pub refused_with : RefereeMode → List ℕ → List ℕ → Type 0
refused_with mode.TheVariants.Judge document line = IsFaulty HasFault document line ⊎ HasTold IsClaimDocument document (λ c. IsUnfit c.question.text line)
refused_with mode.TheVariants.Diagnose document line = IsFaulty HasFault document line ⊎ HasTold IsClaimDocument document (λ c. IsUnfit c.question.text line)
refused_with mode.TheVariants.Settled document line = IsNotPlain document line ⊎ HasTold IsPlainDocument document (λ c. IsUnfit c.question.text line)
refused_with mode.TheVariants.Answer document line = IsFaulty HasOrderFault document line ⊎ HasTold IsOrderDocument document (λ o. IsUnanswered o.question (λ P. IsRightClaim P o.question o.grants) line)
refused_with mode.TheVariants.Least document line = IsFaulty HasQuestionFault document line ⊎ HasTold IsQuestionDocument document (λ q. IsUnanswered q (λ P. IsLeastClaim P q) line)

-- ---- answers

pub record IsRefusal (m : RefereeMode) (document : List ℕ) (out : Reply) : Type 0 where
  pub line : List ℕ
  pub why : refused_with m document line
  pub answer : out ≡ record { status = status.TheVariants.Refused; bytes = line }

abbrev pub IsAnswer : RefereeMode → List ℕ → Reply → Type 0
IsAnswer m document out = mode_done m document out ⊎ IsRefusal m document out

-- Bytes that are too many for a claim are refused by one line, whatever stands behind the first of them.
use Rattle.std.proofs.Common.{◌≡◌, ◌⊎◌, inl, inr, ℕ, ◌<◌, ◌≤◌, Bool, true, false, List, ◌++◌, length, arith, length-append}
use Rattle.claims.specs.declared.claim.ClaimFault.{ClaimFault}
use Rattle.claims.specs.declared.claim.ClaimFault.TheVariants.{TooLarge, Head as NoHead, Grant as NoGrant, Loads as NoLoads, Task as NoTask, Load as NoLoad, Behind, Memory}
use Rattle.claims.specs.Claim.{most_bytes}
use Rattle.claims.specs.Faults.{HasFrontFault, HasFault}
use Rattle.claims.specs.Alone.{HasQuestionFault, HasOrderFault}
use Rattle.program_outside.specs.Serving.{IsEnough}
use Rattle.referee_top.specs.declared.mode.RefereeMode.{RefereeMode}
use Rattle.referee_top.specs.declared.mode.RefereeMode as mode
use Rattle.referee_top.specs.declared.mode.RefereeOptions.{RefereeOptions}
use Rattle.referee_top.specs.Answers.{Reply, IsAnswer, IsFaulty, IsNotPlain, mode_done, refused_with}
use Rattle.referee_top.specs.Batch.{AreCutReplies, IsWholeReply, IsBatch, answered_by, IsAnswerTo}

-- bytes of this length are too many
abbrev AreTooMany : List ℕ → Type 0
AreTooMany bytes = most_bytes < length bytes

too-many : (bytes : List ℕ) → AreTooMany bytes → length bytes ≤ most_bytes → ⊥
too-many bytes many few = omega (arith, many, few)

-- the one fault of too many bytes is one of all longer ones
front-longer : (x t : List ℕ) (f : ClaimFault) → AreTooMany x → AreTooMany t → HasFrontFault x f → HasFrontFault t f
front-longer x t TooLarge many more is = more
front-longer x t NoHead many more is = absurd (too-many x many is.0)
front-longer x t (NoGrant number) many more (h, behind, rest, begins, broken) = absurd (too-many x many begins.within)
front-longer x t NoLoads many more is = absurd is
front-longer x t (NoTask number) many more is = absurd is
front-longer x t (NoLoad task number) many more is = absurd is
front-longer x t Behind many more is = absurd is
front-longer x t Memory many more is = absurd is

fault-longer : (x t : List ℕ) (f : ClaimFault) → AreTooMany x → AreTooMany t → HasFault x f → HasFault t f
fault-longer x t TooLarge many more is = more
fault-longer x t NoHead many more is = front-longer x t NoHead many more is
fault-longer x t (NoGrant number) many more is = front-longer x t (NoGrant number) many more is
fault-longer x t NoLoads many more (h, gs, rest, begins, none) = absurd (too-many x many begins.head.within)
fault-longer x t (NoTask number) many more (rest, broken, none) = absurd (too-many x many broken.begins.begins.head.within)
fault-longer x t (NoLoad task number) many more (rest, broken, load) = absurd (too-many x many broken.begins.begins.head.within)
fault-longer x t Behind many more is = absurd is
fault-longer x t Memory many more is = absurd is

order-longer : (x t : List ℕ) (f : ClaimFault) → AreTooMany x → AreTooMany t → HasOrderFault x f → HasOrderFault t f
order-longer x t TooLarge many more is = more
order-longer x t NoHead many more is = front-longer x t NoHead many more is
order-longer x t (NoGrant number) many more is = front-longer x t (NoGrant number) many more is
order-longer x t NoLoads many more is = absurd is
order-longer x t (NoTask number) many more is = absurd is
order-longer x t (NoLoad task number) many more is = absurd is
order-longer x t Behind many more (h, gs, rest, begins, some) = absurd (too-many x many begins.head.within)
order-longer x t Memory many more is = absurd is

question-longer : (x t : List ℕ) (f : ClaimFault) → AreTooMany x → AreTooMany t → HasQuestionFault x f → HasQuestionFault t f
question-longer x t TooLarge many more is = more
question-longer x t NoHead many more is = absurd (too-many x many is.0)
question-longer x t (NoGrant number) many more is = absurd is
question-longer x t NoLoads many more is = absurd is
question-longer x t (NoTask number) many more is = absurd is
question-longer x t (NoLoad task number) many more is = absurd is
question-longer x t Behind many more (q, rest, begins, some) = absurd (too-many x many begins.within)
question-longer x t Memory many more is = absurd is

faulty-longer : (Has : List ℕ → ClaimFault → Type 0) (x t line : List ℕ) → ((f : ClaimFault) → Has x f → Has t f) → IsFaulty Has x line → IsFaulty Has t line
faulty-longer Has x t line longer was = record { fault = was.fault; is = longer was.fault was.is; says = was.says }

-- nothing is done with them
done-none : (m : RefereeMode) (x : List ℕ) (out : Reply) → AreTooMany x → mode_done m x out → ⊥
done-none mode.TheVariants.Judge x out many did = too-many x many did.is.within
done-none mode.TheVariants.Diagnose x out many did = too-many x many did.is.within
done-none mode.TheVariants.Settled x out many did = too-many x many did.is.is.within
done-none mode.TheVariants.Answer x out many did = too-many x many did.is.within
done-none mode.TheVariants.Least x out many did = too-many x many did.is.within

plain-longer : (x t line : List ℕ) → AreTooMany x → AreTooMany t → IsNotPlain x line → IsNotPlain t line
plain-longer x t line many more (inl was) = inl (faulty-longer HasFault x t line (λ f. fault-longer x t f many more) was)
plain-longer x t line many more (inr told) = absurd (too-many x many told.is.within)

refused-longer : (m : RefereeMode) (x t line : List ℕ) → AreTooMany x → AreTooMany t → refused_with m x line → refused_with m t line
refused-longer mode.TheVariants.Judge x t line many more (inl was) = inl (faulty-longer HasFault x t line (λ f. fault-longer x t f many more) was)
refused-longer mode.TheVariants.Judge x t line many more (inr told) = absurd (too-many x many told.is.within)
refused-longer mode.TheVariants.Diagnose x t line many more (inl was) = inl (faulty-longer HasFault x t line (λ f. fault-longer x t f many more) was)
refused-longer mode.TheVariants.Diagnose x t line many more (inr told) = absurd (too-many x many told.is.within)
refused-longer mode.TheVariants.Settled x t line many more (inl was) = inl (plain-longer x t line many more was)
refused-longer mode.TheVariants.Settled x t line many more (inr told) = absurd (too-many x many told.is.is.within)
refused-longer mode.TheVariants.Answer x t line many more (inl was) = inl (faulty-longer HasOrderFault x t line (λ f. order-longer x t f many more) was)
refused-longer mode.TheVariants.Answer x t line many more (inr told) = absurd (too-many x many told.is.within)
refused-longer mode.TheVariants.Least x t line many more (inl was) = inl (faulty-longer HasQuestionFault x t line (λ f. question-longer x t f many more) was)
refused-longer mode.TheVariants.Least x t line many more (inr told) = absurd (too-many x many told.is.within)

answer-longer : (m : RefereeMode) (x t : List ℕ) (out : Reply) → AreTooMany x → AreTooMany t → IsAnswer m x out → IsAnswer m t out
answer-longer m x t out many more (inl did) = absurd (done-none m x out many did)
answer-longer m x t out many more (inr was) = inr (record { line = was.line; why = refused-longer m x t was.line many more was.why; answer = was.answer })

batch-longer : (m : RefereeMode) (x t : List ℕ) (out : Reply) → AreTooMany x → AreTooMany t → IsBatch m x out → IsBatch m t out
batch-longer m x t out many more batch = by_cut batch.are
  where
    by_cut : AreCutReplies m x batch.replies ⊎ IsWholeReply m x batch.replies → IsBatch m t out
    by_cut (inl cut) = absurd (too-many x many cut.within)
    by_cut (inr whole) =
        record {
          replies = batch.replies;
          are = inr (record { large = more; reply = whole.reply; is = answer-longer m x t whole.reply many more whole.is; one = whole.one });
          answer = batch.answer;
        }

answered-longer : (batch : Bool) (m : RefereeMode) (x t : List ℕ) (out : Reply) → AreTooMany x → AreTooMany t → answered_by batch m x out → answered_by batch m t out
answered-longer true m x t out many more is = batch-longer m x t out many more is
answered-longer false m x t out many more is = answer-longer m x t out many more is

pub read-enough : (o : RefereeOptions) → IsEnough (IsAnswerTo o) 536870913
read-enough o text rest out full is =
    answered-longer o.batch o.mode text (text ++ rest) out (omega (arith, full)) (omega (arith, full, length-append text rest)) is

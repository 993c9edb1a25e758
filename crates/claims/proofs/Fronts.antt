-- A question, or an order of grants, that stands alone: what the reader puts together, and that it is read in one way.
use Rattle.std.proofs.Common.{◌≡◌, ℕ, ◌≤◌, List, [], ◌++◌, flat_map, length, refl, sym, ap, ◌∙◌, arith, append-nil}
use Rattle.text_pieces.specs.Field.{Stands}
use Rattle.claims.specs.declared.claim.Question.{Question}
use Rattle.claims.specs.declared.claim.GrantOrder.{GrantOrder}
use Rattle.claims.specs.declared.claim.ClaimFault.{ClaimFault}
use Rattle.claims.specs.declared.claim.ClaimFault.TheVariants.{TooLarge, Head as NoHead, Grant as NoGrant, Loads as NoLoads, Task as NoTask, Load as NoLoad, Behind, Memory}
use Rattle.claims.specs.declared.head.Opening.{Opening}
use Rattle.claims.specs.Alone.{IsQuestionDocument, BeginsWithQuestion, HasQuestionFault, head_of_order, order_text, IsOrderDocument, HasOrderFault}
use Rattle.claims.specs.Claim.{most_bytes, IsQuestion, question_text, grant_row}
use Rattle.claims.specs.Faults.{BeginsWithGrants}
use Rattle.claims.specs.Rows.{asked_by}
use Rattle.claims.proofs.Forms.{question-one}
use Rattle.claims.proofs.Parts.{nothing}
use Rattle.claims.proofs.Single.{grants-one, front-excludes, one-front_fault}

-- ---- what is put together

pub question_read : (bytes : List ℕ) (o : Opening) → length bytes ≤ most_bytes → Stands IsQuestion question_text bytes (asked_by o) o.rest.now → length o.rest.now ≤ 0 → IsQuestionDocument bytes (asked_by o)
question_read bytes o within st none =
    record {
      told = st.fits;
      within = within;
      is = st.parts ∙ ap (λ bs. question_text (asked_by o) ++ bs) (nothing o.rest.now none) ∙ append-nil (question_text (asked_by o));
    }

-- ---- in one way

module _ (bytes : List ℕ) where
  questions-one : (q p : Question) (r s : List ℕ) → BeginsWithQuestion bytes q r → BeginsWithQuestion bytes p s → (q ≡ p) × (r ≡ s)
  questions-one q p r s a b = question-one q p r s a.question.fits b.question.fits (sym a.question.parts ∙ b.question.parts)

  question-begins : (q : Question) → IsQuestionDocument bytes q → BeginsWithQuestion bytes q []
  question-begins q doc = record { within = doc.within; question = record { fits = doc.told; parts = doc.is ∙ sym (append-nil (question_text q)) } }

  pub one-question : (q p : Question) → IsQuestionDocument bytes q → IsQuestionDocument bytes p → q ≡ p
  one-question q p a b = (questions-one q p [] [] (question-begins q a) (question-begins p b)).0

  pub question-fault : (q : Question) (f : ClaimFault) → IsQuestionDocument bytes q → HasQuestionFault bytes f → ⊥
  question-fault q TooLarge doc fault = omega (arith, fault, doc.within)
  question-fault q NoHead doc fault = fault.1 q [] (question-begins q doc).question
  question-fault q Behind doc fault =
      let rests = (questions-one q fault.0 [] fault.1 (question-begins q doc) fault.2).1 in
      omega (arith, fault.3, ap length rests)
  question-fault q f doc fault = fault

  pub one-question_fault : (f g : ClaimFault) → HasQuestionFault bytes f → HasQuestionFault bytes g → f ≡ g
  one-question_fault f (NoGrant n) a b = absurd b
  one-question_fault f NoLoads a b = absurd b
  one-question_fault f (NoTask n) a b = absurd b
  one-question_fault f (NoLoad t n) a b = absurd b
  one-question_fault f Memory a b = absurd b
  one-question_fault TooLarge TooLarge a b = refl
  one-question_fault TooLarge NoHead a b = absurd (omega (arith, a, b.0))
  one-question_fault TooLarge Behind a b = absurd (omega (arith, a, b.2.within))
  one-question_fault NoHead TooLarge a b = absurd (omega (arith, b, a.0))
  one-question_fault NoHead NoHead a b = refl
  one-question_fault NoHead Behind a b = absurd (a.1 b.0 b.1 b.2.question)
  one-question_fault Behind TooLarge a b = absurd (omega (arith, b, a.2.within))
  one-question_fault Behind NoHead a b = absurd (b.1 a.0 a.1 a.2.question)
  one-question_fault Behind Behind a b = refl
  one-question_fault f g a b = absurd a

  order-begins : (o : GrantOrder) → IsOrderDocument bytes o → BeginsWithGrants bytes (head_of_order o) o.grants []
  unfolding order_text
  order-begins o doc =
      record {
        behind = flat_map grant_row o.grants;
        head = record { within = doc.within; head = record { fits = doc.told.head; parts = doc.is } };
        grants = record { fits = doc.told.grants; parts = sym (append-nil (flat_map grant_row o.grants)) };
        all = refl;
      }

  pub one-order : (o p : GrantOrder) → IsOrderDocument bytes o → IsOrderDocument bytes p → o ≡ p
  one-order o p a b =
      let grants = grants-one bytes (head_of_order o) (head_of_order p) o.grants p.grants [] [] (order-begins o a) (order-begins p b) in
      λ i. record { question = (grants.0 i).question; grants = grants.1 i }

  pub order-fault : (o : GrantOrder) (f : ClaimFault) → IsOrderDocument bytes o → HasOrderFault bytes f → ⊥
  order-fault o Behind doc fault =
      let rests = (grants-one bytes (head_of_order o) fault.0 o.grants fault.1 [] fault.2 (order-begins o doc) fault.3).2 in
      omega (arith, fault.4, ap length rests)
  order-fault o f doc fault = front-excludes bytes f (head_of_order o) o.grants [] fault (order-begins o doc)

  pub one-order_fault : (f g : ClaimFault) → HasOrderFault bytes f → HasOrderFault bytes g → f ≡ g
  one-order_fault Behind Behind a b = refl
  one-order_fault Behind g a b = absurd (front-excludes bytes g a.0 a.1 a.2 b a.3)
  one-order_fault f Behind a b = absurd (front-excludes bytes f b.0 b.1 b.2 a b.3)
  one-order_fault f g a b = one-front_fault bytes f g a b

-- A question alone, or a question with the order of the grants alone: prefixes of a claim.
use Rattle.std.specs.Prelude.{◌≡◌, ℕ, ◌<◌, ◌≤◌, All, List, ◌++◌, length, flat_map}
use Rattle.dn_base.specs.declared.ids.Grant.{Grant}
use Rattle.text_pieces.specs.Field.{Stands, NoneStands}
use Rattle.claims.specs.declared.claim.Question.{Question}
use Rattle.claims.specs.declared.claim.GrantOrder.{GrantOrder}
use Rattle.claims.specs.declared.claim.ClaimFault.{ClaimFault}
use Rattle.claims.specs.declared.claim.ClaimFault.TheVariants.{TooLarge, Head as NoHead, Behind}
use Rattle.claims.specs.Claim.{most_bytes, Head, IsHead, head_text, IsQuestion, question_text, IsGrant, grant_row}
use Rattle.claims.specs.Faults.{BeginsWithGrants, HasFrontFault}

-- ---- a question

-- the bytes tell the question, and nothing else
pub record IsQuestionDocument (bytes : List ℕ) (q : Question) : Type 0 where
  pub told : IsQuestion q
  pub within : length bytes ≤ most_bytes
  pub is : bytes ≡ question_text q

-- the bytes, which aren't too many, begin with a question, and the rest follows
pub record BeginsWithQuestion (bytes : List ℕ) (q : Question) (rest : List ℕ) : Type 0 where
  pub within : length bytes ≤ most_bytes
  pub question : Stands IsQuestion question_text bytes q rest

-- why the bytes don't tell a question and nothing else
abbrev pub HasQuestionFault : List ℕ → ClaimFault → Type 0
HasQuestionFault bytes TooLarge = most_bytes < length bytes
HasQuestionFault bytes NoHead = (length bytes ≤ most_bytes) × NoneStands IsQuestion question_text bytes
HasQuestionFault bytes Behind = (q : Question) × (rest : List ℕ) × BeginsWithQuestion bytes q rest × (0 < length rest)
HasQuestionFault bytes _ = ⊥

-- ---- a question and the order of the grants

abbrev pub head_of_order : GrantOrder → Head
head_of_order o = record { question = o.question; count = length o.grants }

-- what is told: the numbers are within their limits
pub record IsOrder (o : GrantOrder) : Type 0 where
  pub head : IsHead (head_of_order o)
  pub grants : All IsGrant o.grants

-- the head, and a line for each grant
unfoldable pub order_text : GrantOrder → List ℕ
order_text o = head_text (head_of_order o) ++ flat_map grant_row o.grants

-- the bytes tell the question and the order of the grants, and nothing else
pub record IsOrderDocument (bytes : List ℕ) (o : GrantOrder) : Type 0 where
  pub told : IsOrder o
  pub within : length bytes ≤ most_bytes
  pub is : bytes ≡ order_text o

-- why the bytes don't tell a question and the order of the grants, and nothing else
abbrev pub HasOrderFault : List ℕ → ClaimFault → Type 0
HasOrderFault bytes Behind = (h : Head) × (gs : List Grant) × (rest : List ℕ) × BeginsWithGrants bytes h gs rest × (0 < length rest)
HasOrderFault bytes f = HasFrontFault bytes f

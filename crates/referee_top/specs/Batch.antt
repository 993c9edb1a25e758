-- Several claims that follow each other, and what is said of them.
use Rattle.std.specs.Prelude.{◌≡◌, ◌⊎◌, ℕ, ◌+◌, ◌<◌, ◌≤◌, Bool, true, false, ◌&&◌, ◌||◌, if◌then◌else◌, List, [], ◌∷◌, ◌++◌, length, codes, is_some}
use Rattle.text_pieces.specs.Pieces.{newline}
use Rattle.text_pieces.specs.Field.{field}
use Rattle.src_text.specs.Byte.{is_newline}
use Rattle.claims.specs.Claim.{title, most_bytes}
use Rattle.referee_top.specs.declared.mode.RefereeMode.{RefereeMode}
use Rattle.referee_top.specs.declared.mode.RefereeOptions.{RefereeOptions}
use Rattle.referee_top.specs.declared.status.RefereeStatus.{RefereeStatus}
use Rattle.referee_top.specs.declared.status.RefereeStatus as status
use Rattle.referee_top.specs.Answers.{Reply, IsAnswer}
use Rattle.referee_top.specs.Settled.{behind_prefix}

-- ---- where a claim ends

-- a claim begins with its title, at the beginning of a line
abbrev pub ends_claim : ℕ → List ℕ → Bool
ends_claim byte behind = is_newline byte && is_some (behind_prefix title behind)

-- the first claim of some bytes: all up to the next title
abbrev pub first_claim : List ℕ → List ℕ
first_claim [] = []
first_claim (b ∷ bs) = if ends_claim b bs then b ∷ [] else b ∷ first_claim bs

-- the claims behind it
abbrev pub later_claims : List ℕ → List ℕ
later_claims [] = []
later_claims (b ∷ bs) = if ends_claim b bs then bs else later_claims bs

-- ---- what is said

abbrev pub is_refused : RefereeStatus → Bool
is_refused status.TheVariants.Refused = true
is_refused _ = false

abbrev pub has_none : List ℕ → Bool
has_none [] = true
has_none (b ∷ bs) = false

-- whether nothing more is said: the claim was refused, or no claim follows
abbrev pub ends_batch : Reply → List ℕ → Bool
ends_batch r later = is_refused r.status || has_none later

abbrev pub has_no_more : List Reply → Bool
has_no_more [] = true
has_no_more (r ∷ rs) = false

-- each claim is answered as it is alone, up to the last, or to the first that is refused
abbrev pub AreReplies : RefereeMode → List ℕ → List Reply → Type 0
AreReplies m bytes [] = Unit {0}
AreReplies m bytes (r ∷ rs) = IsAnswer m (first_claim bytes) r × (ends_batch r (later_claims bytes) ≡ has_no_more rs) × AreReplies m (later_claims bytes) rs

-- more bytes than a document may have aren't cut, and are refused so
pub record IsWholeReply (m : RefereeMode) (bytes : List ℕ) (replies : List Reply) : Type 0 where
  pub large : most_bytes < length bytes
  pub reply : Reply
  pub is : IsAnswer m bytes reply
  pub one : replies ≡ reply ∷ []

-- the answers to all claims, of which there is at least one
pub record AreCutReplies (m : RefereeMode) (bytes : List ℕ) (replies : List Reply) : Type 0 where
  pub within : length bytes ≤ most_bytes
  pub some : has_no_more replies ≡ false
  pub are : AreReplies m bytes replies

-- a line with the number of a claim, and what is said of it alone
unfoldable pub claim_part : ℕ → Reply → List ℕ
claim_part number r = field (codes "claim ") newline number ++ r.bytes

-- the claims from this number on
abbrev pub batch_text : ℕ → List Reply → List ℕ
batch_text number [] = []
batch_text number (r ∷ rs) = claim_part number r ++ batch_text (number + 1) rs

-- the status after one more claim: agreement, as long as all agree
abbrev pub status_after : RefereeStatus → RefereeStatus → RefereeStatus
status_after before status.TheVariants.Agrees = before
status_after before now = now

abbrev pub batch_status : RefereeStatus → List Reply → RefereeStatus
batch_status before [] = before
batch_status before (r ∷ rs) = batch_status (status_after before r.status) rs

-- what is said of all claims of some bytes
pub record IsBatch (m : RefereeMode) (bytes : List ℕ) (out : Reply) : Type 0 where
  pub replies : List Reply
  pub are : AreCutReplies m bytes replies ⊎ IsWholeReply m bytes replies
  pub answer : out ≡ record { status = batch_status status.TheVariants.Agrees replies; bytes = batch_text 0 replies }

-- ---- what is asked for

abbrev pub answered_by : Bool → RefereeMode → List ℕ → Reply → Type 0
answered_by true m bytes out = IsBatch m bytes out
answered_by false m bytes out = IsAnswer m bytes out

abbrev pub IsAnswerTo : RefereeOptions → List ℕ → Reply → Type 0
IsAnswerTo o bytes out = answered_by o.batch o.mode bytes out

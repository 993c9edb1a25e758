-- What bytes that should be a claim begin with, part by part, and why some bytes are no claim.
use Rattle.std.specs.Prelude.{◌≡◌, ℕ, ◌<◌, ◌≤◌, List, Option, Some, length}
use Rattle.dn_base.specs.declared.ids.Grant.{Grant}
use Rattle.text_pieces.specs.Field.{Stands, NoneStands}
use Rattle.text_pieces.specs.Parts.{StandAll, IsBrokenAt}
use Rattle.claims.specs.declared.claim.ClaimFault.{ClaimFault}
use Rattle.claims.specs.declared.claim.ClaimFault.TheVariants.{TooLarge, Head as NoHead, Grant as NoGrant, Loads as NoLoads, Task as NoTask, Load as NoLoad}
use Rattle.claims.specs.declared.rows.TaskHead.{TaskHead}
use Rattle.claims.specs.Claim.{most_bytes, Head, IsHead, head_text, IsGrant, grant_row, IsLoadsHead, loads_head_row, IsTask, task_rows, IsTaskHead, task_head_row, IsLoad, load_row}

-- the bytes, which aren't too many, begin with a head, and the rest follows
pub record BeginsWithHead (bytes : List ℕ) (h : Head) (rest : List ℕ) : Type 0 where
  pub within : length bytes ≤ most_bytes
  pub head : Stands IsHead head_text bytes h rest

-- and with the lines of all grants that the head announces
pub record BeginsWithGrants (bytes : List ℕ) (h : Head) (gs : List Grant) (rest : List ℕ) : Type 0 where
  pub behind : List ℕ
  pub head : BeginsWithHead bytes h behind
  pub grants : StandAll IsGrant grant_row behind gs rest
  pub all : length gs ≡ h.count

-- and with the line that says of how many tasks the loads are claimed
pub record BeginsWithLoads (bytes : List ℕ) (count : Option ℕ) (rest : List ℕ) : Type 0 where
  pub head : Head
  pub grants : List Grant
  pub behind : List ℕ
  pub begins : BeginsWithGrants bytes head grants behind
  pub loads : Stands IsLoadsHead loads_head_row behind count rest

-- of these tasks the one of this number, from 0, is the first that isn't complete, and `rest` is there in its place
pub record IsBrokenTask (bytes : List ℕ) (number : ℕ) (rest : List ℕ) : Type 0 where
  pub count : ℕ
  pub behind : List ℕ
  pub begins : BeginsWithLoads bytes (Some count) behind
  pub broken : IsBrokenAt IsTask task_rows behind count number rest

-- of this task's loads the one of this number, from 0, is the first that isn't complete
pub record IsBrokenLoad (bytes : List ℕ) (number : ℕ) : Type 0 where
  pub task : TaskHead
  pub behind : List ℕ
  pub rest : List ℕ
  pub head : Stands IsTaskHead task_head_row bytes task behind
  pub broken : IsBrokenAt IsLoad load_row behind task.count number rest

-- why the bytes don't begin with a head and its grants: they are too many, there is no head, or the line of a grant isn't there.
-- Out of memory says nothing of the bytes
abbrev pub HasFrontFault : List ℕ → ClaimFault → Type 0
HasFrontFault bytes TooLarge = most_bytes < length bytes
HasFrontFault bytes NoHead = (length bytes ≤ most_bytes) × NoneStands IsHead head_text bytes
HasFrontFault bytes (NoGrant number) = (h : Head) × (behind : List ℕ) × (rest : List ℕ) × BeginsWithHead bytes h behind × IsBrokenAt IsGrant grant_row behind h.count number rest
HasFrontFault bytes _ = ⊥

-- why some bytes are no claim: they don't begin with a head and its grants; no line on loads follows these; a task's line isn't
-- there, or one of its loads
abbrev pub HasFault : List ℕ → ClaimFault → Type 0
HasFault bytes NoLoads = (h : Head) × (gs : List Grant) × (rest : List ℕ) × BeginsWithGrants bytes h gs rest × NoneStands IsLoadsHead loads_head_row rest
HasFault bytes (NoTask number) = (rest : List ℕ) × IsBrokenTask bytes number rest × NoneStands IsTaskHead task_head_row rest
HasFault bytes (NoLoad task number) = (rest : List ℕ) × IsBrokenTask bytes task rest × IsBrokenLoad rest number
HasFault bytes f = HasFrontFault bytes f

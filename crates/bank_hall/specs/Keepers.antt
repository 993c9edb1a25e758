-- The keeper that callers share: what one call of it answers, and what it leaves.
use Rattle.std.specs.Prelude.{ℕ, ◌+◌, ◌*◌, List, length, Option, Some, None}
use Rattle.message_net.specs.declared.actor.Actor.TheVariants.{Keeper}
use Rattle.phase_barrier.specs.declared.keeper.Verdict.{Verdict}
use Rattle.phase_barrier.specs.Barrier.{Barrier, keeper_gets}
use Rattle.phase_barrier.specs.Letters.{letter_count}
use Rattle.grant_log.specs.declared.posted.Posted.{Posted}
use Rattle.bank_hall.specs.declared.keeper.KeeperIn.{KeeperIn}
use Rattle.bank_hall.specs.declared.keeper.KeeperIn.TheVariants.{Post, Step}
use Rattle.bank_hall.specs.declared.keeper.KeeperOut.{KeeperOut}
use Rattle.bank_hall.specs.declared.keeper.KeeperOut.TheVariants.{Kept, Stepped}
use Rattle.grant_log.specs.Stamps.{may_handle, stamp_after, handling_note}
use Rattle.grant_log.specs.Inbox.{with_mail, picked_out}
use Rattle.bank_hall.specs.Note.{KeeperNote}

-- a keeper, its inbox, the number of its next mail, and its clock
pub record KeeperState : Type 0 where
  pub keeper : Barrier
  pub inbox : List Posted
  pub next : ℕ
  pub clock : ℕ

-- the same, and for how many more mails its inbox has room
pub record KeeperActorParts : Type 0 where
  pub state : KeeperState
  pub spare : ℕ

-- the number of its next mail after a verdict, which goes to each core or to none
abbrev pub next_after_verdict : KeeperState → Verdict → ℕ
next_after_verdict s verdict = s.next + letter_count verdict * length s.keeper.arrived

-- A mail was taken from the inbox, which is now this one. `row` has the keeper after it, and the verdict
abbrev pub keeper_row : KeeperState → Posted → List Posted → Barrier × Verdict → KeeperState × Option KeeperNote
keeper_row s p inbox row = (
  record { keeper = row.0; inbox = inbox; next = next_after_verdict s row.1; clock = stamp_after s.clock p },
  Some (record { stamped = handling_note Keeper (stamp_after s.clock p) p.mail; verdict = row.1; first = s.next }),
)

abbrev pub keeper_handles : KeeperState → Option Posted × List Posted → KeeperState × Option KeeperNote
keeper_handles s (None, inbox) = (s, None)
keeper_handles s (Some p, inbox) = keeper_row s p inbox (keeper_gets s.keeper p.mail.message)

-- a step takes the mail that the pick names, and handles it; if there is none, or the keeper is spent, it changes nothing
abbrev pub keeper_steps : KeeperState → ℕ → KeeperState × Option KeeperNote
keeper_steps s pick = keeper_handles s (picked_out (may_handle s.clock s.next) s.inbox pick)

abbrev pub keeper_stepped : KeeperState × Option KeeperNote → KeeperState × KeeperOut
keeper_stepped row = (row.0, Stepped row.1)

-- what a call leaves and answers: a mail is put into the inbox, or a step is made
unfoldable pub keeper_call : KeeperState → KeeperIn → KeeperState × KeeperOut
keeper_call s (Post p) = (record s { inbox = with_mail s.inbox p }, Kept)
keeper_call s (Step pick) = keeper_stepped (keeper_steps s pick)

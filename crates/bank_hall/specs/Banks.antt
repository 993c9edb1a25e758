-- A bank that callers share: what one call of it answers, and what it leaves.
use Rattle.std.specs.Prelude.{ℕ, ◌+◌, List, Option, Some, None}
use Rattle.message_net.specs.declared.actor.Actor.{Actor}
use Rattle.message_net.specs.declared.actor.Actor.TheVariants.{Bank}
use Rattle.message_net.specs.declared.message.Outgoing.{Outgoing}
use Rattle.message_net.specs.Mail.{mail_of}
use Rattle.registry_bank.specs.Bank.{BankParts, bank_gets}
use Rattle.grant_log.specs.declared.posted.Posted.{Posted}
use Rattle.bank_hall.specs.declared.bank.Handled.{Handled}
use Rattle.bank_hall.specs.declared.bank.BankIn.{BankIn}
use Rattle.bank_hall.specs.declared.bank.BankIn.TheVariants.{Post, Step}
use Rattle.bank_hall.specs.declared.bank.BankOut.{BankOut}
use Rattle.bank_hall.specs.declared.bank.BankOut.TheVariants.{Kept, Stepped}
use Rattle.grant_log.specs.Stamps.{may_handle, stamp_after, handling_note}
use Rattle.grant_log.specs.Inbox.{with_mail, picked_out}

-- a bank, its inbox, the number of its next mail, and its clock
pub record BankState : Type 0 where
  pub bank : BankParts
  pub inbox : List Posted
  pub next : ℕ
  pub clock : ℕ

-- the same, and for how many more mails its inbox has room
pub record BankActorParts : Type 0 where
  pub state : BankState
  pub spare : ℕ

abbrev pub bank_actor : BankParts → Actor
bank_actor b = Bank (record { 0 = b.bank })

-- the mail that an actor sends with its next number and a stamp, if it sends one
abbrev pub reply_of : Actor → ℕ → ℕ → Option Outgoing → Option Posted
reply_of actor next stamp None = None
reply_of actor next stamp (Some out) = Some (record { mail = mail_of actor next out; stamp = stamp })

-- the number of the actor's next mail after that
abbrev pub next_after : ℕ → Option Outgoing → ℕ
next_after next None = next
next_after next (Some out) = next + 1

-- A mail was taken from the inbox, which is now this one. `row` has the bank after it, and what the bank sends
abbrev pub bank_row : BankState → Posted → List Posted → BankParts × Option Outgoing → BankState × Option Handled
bank_row s p inbox row = (
  record { bank = row.0; inbox = inbox; next = next_after s.next row.1; clock = stamp_after s.clock p },
  Some (record {
    stamped = handling_note (bank_actor s.bank) (stamp_after s.clock p) p.mail;
    reply = reply_of (bank_actor s.bank) s.next (stamp_after s.clock p) row.1;
  }),
)

abbrev pub bank_handles : BankState → Option Posted × List Posted → BankState × Option Handled
bank_handles s (None, inbox) = (s, None)
bank_handles s (Some p, inbox) = bank_row s p inbox (bank_gets s.bank p.mail.message)

-- a step takes the mail that the pick names, and handles it; if there is none, or the bank is spent, it changes nothing
abbrev pub bank_steps : BankState → ℕ → BankState × Option Handled
bank_steps s pick = bank_handles s (picked_out (may_handle s.clock s.next) s.inbox pick)

abbrev pub bank_stepped : BankState × Option Handled → BankState × BankOut
bank_stepped row = (row.0, Stepped row.1)

-- what a call leaves and answers: a mail is put into the inbox, or a step is made
unfoldable pub bank_call : BankState → BankIn → BankState × BankOut
bank_call s (Post p) = (record s { inbox = with_mail s.inbox p }, Kept)
bank_call s (Step pick) = bank_stepped (bank_steps s pick)

-- The entries of each actor in the merged list of a round, by the histories of the hall.
use Rattle.std.specs.Prelude.{◌≡◌, ℕ, ◌<◌, List, filter, filter_map, Option, Some, None, option_map}
use Rattle.message_net.specs.declared.actor.Actor.{Actor}
use Rattle.message_net.specs.declared.actor.Actor.TheVariants.{Keeper}
use Rattle.message_net.specs.declared.actor.MailId.{MailId}
use Rattle.message_net.specs.declared.event.Event.{Event}
use Rattle.message_net.specs.declared.event.Event.TheVariants.{Handle}
use Rattle.grant_log.specs.declared.log.Stamped.{Stamped}
use Rattle.grant_log.specs.Log.{of_actor}
use Rattle.registration_protocol.specs.Node.{Setting}
use Rattle.grant_log.specs.declared.posted.Posted.{Posted}
use Rattle.bank_hall.specs.declared.bank.Handled.{Handled}
use Rattle.bank_hall.specs.Note.{KeeperNote}
use Rattle.bank_hall.specs.Halls.{BankEntry, PortEntry, KeeperEntry}
use Rattle.bank_hall.specs.Handlings.{bank_told, keeper_told, port_took}
use Rattle.host_workers.specs.Rounds.{Round, core_at, bank_at}

-- the entries of an actor in the merged list
abbrev pub entries_of : Round → Actor → List Stamped
entries_of r a = filter (of_actor a) r.merged

-- the entry that a call of a bank answered with, if it did; the keeper's likewise
abbrev pub note_of_bank : Handled → Stamped
note_of_bank handled = handled.stamped

abbrev pub bank_answered : BankEntry → Option Stamped
bank_answered call = option_map note_of_bank (bank_told call.output)

abbrev pub note_of_keeper : KeeperNote → Stamped
note_of_keeper note = note.stamped

abbrev pub keeper_answered : KeeperEntry → Option Stamped
keeper_answered call = option_map note_of_keeper (keeper_told call.output)

-- the mail that a call of a port gave, if it gave one
abbrev pub id_of : Posted → MailId
id_of p = p.mail.id

abbrev pub port_gave : PortEntry → Option MailId
port_gave call = option_map id_of (port_took call.output)

-- the mail whose handling an entry tells, if it tells one
abbrev pub mail_handled : Event → Option MailId
mail_handled (Handle id) = Some id
mail_handled _ = None

abbrev pub handled_by : Stamped → Option MailId
handled_by entry = mail_handled entry.event

-- the entries of each bank, and of the keeper, are exactly the answers of its history, in order
pub record AreAnswers (C : Setting) (r : Round) : Type 0 where
  pub banks : (b : ℕ) → b < C.shape.banks → entries_of r (bank_at b) ≡ filter_map bank_answered (r.histories.banks b)
  pub keeper : entries_of r Keeper ≡ filter_map keeper_answered r.histories.keeper

-- the mails that each core handles are exactly those that the history of its port gave, in order
pub record AreGivenMails (C : Setting) (r : Round) : Type 0 where
  pub cores : (c : ℕ) → c < C.shape.cores → filter_map handled_by (entries_of r (core_at c)) ≡ filter_map port_gave (r.histories.ports c)

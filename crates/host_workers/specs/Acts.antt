-- The acts of a worker: the calls that it makes of a hall, and the events that result.
use Rattle.std.specs.Prelude.{ℕ, Bool, List, [], ◌∷◌, ◌++◌, map, filter, filter_map, Option, Some, None, option_map, option_to_list, if◌then◌else◌}
use Rattle.std.specs.List.{range_with_len}
use Rattle.dn_base.specs.declared.ids.CoreId.{CoreId}
use Rattle.dn_base.specs.declared.ids.BankId.{BankId}
use Rattle.dn_base.specs.declared.ids.Shape.{Shape}
use Rattle.message_net.specs.declared.actor.Actor.{Actor}
use Rattle.message_net.specs.declared.actor.Actor.TheVariants.{Core, Bank, Keeper}
use Rattle.message_net.specs.declared.event.Event.{Event}
use Rattle.message_net.specs.Id.{same_actor}
use Rattle.message_net.specs.Mail.{has_actor}
use Rattle.grant_log.specs.declared.log.Stamped.{Stamped}
use Rattle.turn_lock.specs.History.{entry}
use Rattle.grant_log.specs.declared.posted.Posted.{Posted}
use Rattle.bank_hall.specs.declared.bank.Handled.{Handled}
use Rattle.bank_hall.specs.declared.bank.BankIn as bank_in
use Rattle.bank_hall.specs.declared.bank.BankOut as bank_out
use Rattle.bank_hall.specs.declared.port.PortIn as port_in
use Rattle.bank_hall.specs.declared.port.PortOut as port_out
use Rattle.bank_hall.specs.declared.keeper.KeeperIn as keeper_in
use Rattle.bank_hall.specs.declared.keeper.KeeperOut as keeper_out
use Rattle.bank_hall.specs.Note.{KeeperNote, letter_to}
use Rattle.bank_hall.specs.Halls.{Calls, bank_calls, port_calls, keeper_calls, post_calls}
use Rattle.host_workers.specs.Members.{Handles, Makes}
use Rattle.host_workers.specs.Steps.{Done, Step}

-- one act of a worker
pub data Act : Type 0 where
  -- a take from a core's port, by a pick; if it gave a mail, the core handled it
  Took : CoreId → ℕ → Option (Posted × Done) → Act
  -- an event of a core's own
  Made : CoreId → Event → Done → Act
  -- a step of a bank, and one of the keeper, by a pick, with what each answered
  Stepped : BankId → ℕ → Option Handled → Act
  Kept : ℕ → Option KeeperNote → Act

-- the actor of an act
abbrev pub actor_of : Act → Actor
actor_of (Took core pick taken) = Core core
actor_of (Made core event done) = Core core
actor_of (Stepped bank pick handled) = Bank bank
actor_of (Kept pick answer) = Keeper

abbrev pub is_act_of : Actor → Act → Bool
is_act_of a act = same_actor a (actor_of act)

-- what a bank's step told, with its reply, and what the keeper's told, with its letters to the cores
abbrev pub bank_done : Handled → Done
bank_done h = record { stamped = h.stamped; sent = option_to_list h.reply; end = None }

abbrev pub keeper_done : ℕ → KeeperNote → Done
keeper_done cores note = record { stamped = note.stamped; sent = filter_map (letter_to note) (range_with_len 0 cores); end = None }

abbrev pub taken_done : Posted × Done → Done
taken_done t = t.1

-- the event of an act, if it made one
abbrev pub act_done : Shape → Act → Option Done
act_done shape (Took core pick taken) = option_map taken_done taken
act_done shape (Made core event done) = Some done
act_done shape (Stepped bank pick handled) = option_map bank_done handled
act_done shape (Kept pick answer) = option_map (keeper_done shape.cores) answer

-- the events of all acts, and those of one actor, in their order
abbrev pub events_in : Shape → List Act → List Done
events_in shape acts = filter_map (act_done shape) acts

abbrev pub events_by : Shape → Actor → List Act → List Done
events_by shape a acts = events_in shape (filter (is_act_of a) acts)

abbrev pub note_of : Done → Stamped
note_of d = d.stamped

-- what is noted of an actor's events
abbrev pub notes_by : Shape → Actor → List Act → List Stamped
notes_by shape a acts = map note_of (events_by shape a acts)

-- the step that a core's act was, if it was one
abbrev pub taken_step : Posted × Done → Step
taken_step t = record { deed = Handles t.0; done = t.1 }

abbrev pub core_step : Act → Option Step
core_step (Took core pick taken) = option_map taken_step taken
core_step (Made core event done) = Some (record { deed = Makes event; done = done })
core_step _ = None

-- the steps of a core, in their order
abbrev pub steps_by : CoreId → List Act → List Step
steps_by core acts = filter_map core_step (filter (is_act_of (Core core)) acts)

-- the actor whose object an act takes from or steps, if there is one
abbrev pub tried_in : Act → Option Actor
tried_in (Took core pick taken) = Some (Core core)
tried_in (Made core event done) = None
tried_in (Stepped bank pick handled) = Some (Bank bank)
tried_in (Kept pick answer) = Some Keeper

-- no calls, and calls after others
abbrev pub no_calls : Calls
no_calls = record { banks = λ b. []; ports = λ c. []; keeper = [] }

abbrev pub and_then : Calls → Calls → Calls
and_then first more = record {
  banks = λ b. first.banks b ++ more.banks b;
  ports = λ c. first.ports c ++ more.ports c;
  keeper = first.keeper ++ more.keeper;
}

abbrev pub taken_mail : Posted × Done → Posted
taken_mail t = t.0

-- the take or the step of an act, as a call of the pass with this number
abbrev pub try_calls : ℕ → Act → Calls
try_calls number (Took core pick taken) =
    port_calls core.0 (entry number (port_in.TheVariants.Take pick) (port_out.TheVariants.Taken (option_map taken_mail taken)))
try_calls number (Made core event done) = no_calls
try_calls number (Stepped bank pick handled) =
    bank_calls bank.0 (entry number (bank_in.TheVariants.Step pick) (bank_out.TheVariants.Stepped handled))
try_calls number (Kept pick answer) = keeper_calls (entry number (keeper_in.TheVariants.Step pick) (keeper_out.TheVariants.Stepped answer))

-- a mail is posted if the machine has its receiver
abbrev pub posting : Shape → ℕ → Posted → Calls
posting shape number p = if has_actor shape.cores shape.banks p.mail.to then post_calls number p p.mail.to else no_calls

abbrev pub postings : Shape → ℕ → List Posted → Calls
postings shape number [] = no_calls
postings shape number (p ∷ ps) = and_then (posting shape number p) (postings shape number ps)

abbrev pub posted_by : Option Done → List Posted
posted_by None = []
posted_by (Some d) = d.sent

-- the calls of an act: its take or step, and then the posts of the mails that its event sent
abbrev pub act_calls : Shape → ℕ → Act → Calls
act_calls shape number act = and_then (try_calls number act) (postings shape number (posted_by (act_done shape act)))

-- the calls of all acts, in their order
abbrev pub calls_in : Shape → ℕ → List Act → Calls
calls_in shape number [] = no_calls
calls_in shape number (act ∷ acts) = and_then (act_calls shape number act) (calls_in shape number acts)

-- Where messages go, and which mails they become.
use Rattle.std.specs.Prelude.{ℕ, ◌+◌, ◌%◌, Bool, true, nat_lt, List, [], ◌∷◌, Option, Some, None}
use Rattle.dn_base.specs.declared.ids.CoreId.{CoreId}
use Rattle.message_net.specs.declared.actor.Actor.{Actor}
use Rattle.message_net.specs.declared.actor.Actor.TheVariants.{Core, Bank, Keeper}
use Rattle.message_net.specs.declared.message.Message.{Message}
use Rattle.message_net.specs.declared.message.Mail.{Mail}
use Rattle.message_net.specs.declared.message.Outgoing.{Outgoing}
use Rattle.message_net.specs.Pool.{posted}

-- a message to a core
abbrev pub to_core : CoreId → Message → Option Outgoing
to_core core message = Some (record { to = Core core; message = message })

-- a message to the home of a word or lock: number n has its home at bank `n mod banks`
abbrev pub to_home : ℕ → ℕ → Message → Option Outgoing
to_home banks number message = Some (record { to = Bank (record { 0 = number % banks }); message = message })

-- a message to the keeper
abbrev pub to_keeper : Message → Option Outgoing
to_keeper message = Some (record { to = Keeper; message = message })

-- whether a machine with these numbers of cores and banks has this actor
abbrev pub has_actor : ℕ → ℕ → Actor → Bool
has_actor cores banks (Core core) = nat_lt core.0 cores
has_actor cores banks (Bank bank) = nat_lt bank.0 banks
has_actor cores banks Keeper = true

-- the index of an actor among all of a machine: cores come first, then banks, then the keeper
abbrev pub actor_index : ℕ → ℕ → Actor → ℕ
actor_index cores banks (Core core) = core.0
actor_index cores banks (Bank bank) = cores + bank.0
actor_index cores banks Keeper = cores + banks

-- the mail that a message becomes, with its sender and that sender's number for it
abbrev pub mail_of : Actor → ℕ → Outgoing → Mail
mail_of from number out = record { id = record { sender = from; number = number }; to = out.to; message = out.message }

-- the mails in flight after an actor has sent a message, if it sent one
abbrev pub mails_with : Actor → ℕ → Option Outgoing → List Mail → List Mail
mails_with from number None mails = mails
mails_with from number (Some out) mails = posted (mail_of from number out) mails

-- the mails that several messages of an actor become, with rising numbers
abbrev pub mails_of : Actor → ℕ → List Outgoing → List Mail
mails_of from number [] = []
mails_of from number (out ∷ outs) = mail_of from number out ∷ mails_of from (number + 1) outs

-- the mails in flight after an actor has sent several messages, one after the other
abbrev pub all_mails : Actor → ℕ → List Outgoing → List Mail → List Mail
all_mails from number [] mails = mails
all_mails from number (out ∷ outs) mails = all_mails from (number + 1) outs (posted (mail_of from number out) mails)

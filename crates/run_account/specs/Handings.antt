-- How each lock came to the core to which it was last granted.
use Rattle.std.specs.Prelude.{ℕ, Bool, false, ◌==◌, List, length, map, replicate, slice_get, slice_index_or, Option, Some, None, if◌then◌else◌}
use Rattle.std.specs.List.{enumerate_from}
use Rattle.std.specs.Option.{unwrap_or}
use Rattle.message_net.specs.declared.actor.Actor.{Actor}
use Rattle.message_net.specs.declared.actor.Actor.TheVariants.{Bank}
use Rattle.message_net.specs.declared.event.Event.{Event}
use Rattle.message_net.specs.declared.event.Event.TheVariants.{Handle}
use Rattle.message_net.specs.declared.message.Mail.{Mail}
use Rattle.message_net.specs.declared.message.Message.{Message}
use Rattle.message_net.specs.declared.message.Message.TheVariants.{Acquire, Release, Grant}
use Rattle.message_net.specs.declared.message.Outgoing.{Outgoing}
use Rattle.message_net.specs.Pool.{removed}
use Rattle.registration_protocol.specs.Node.{Setting}
use Rattle.registry_bank.specs.Bank.{BankParts, bank_gets}
use Rattle.machine_rules.specs.State.{State}
use Rattle.run_account.specs.declared.departure.Handing.{Handing}
use Rattle.run_account.specs.declared.departure.Handing.TheVariants.{AtOnce, Queued}

-- whether a message grants the lock
abbrev pub is_grant_of : ℕ → Message → Bool
is_grant_of l (Grant lock signature) = lock.0 == l
is_grant_of l _ = false

abbrev pub grants_lock : ℕ → Option Outgoing → Bool
grants_lock l None = false
grants_lock l (Some out) = is_grant_of l out.message

-- a bank grants a lock at once when it handles an Acquire, and hands it on when it handles a Release
abbrev pub way : Message → Option Handing
way (Acquire lock core) = Some AtOnce
way (Release lock core signature) = Some Queued
way _ = None

-- how a lock is granted at an event, if it is granted there
abbrev pub handed_at_bank : ℕ → Message → Option BankParts → Option Handing
handed_at_bank l message None = None
handed_at_bank l message (Some b) = if grants_lock l (bank_gets b message).1 then way message else None

abbrev pub handed_at : State → ℕ → Actor → Message → Option Handing
handed_at S l (Bank bank) message = handed_at_bank l message (slice_get S.banks bank.0)
handed_at S l _ message = None

abbrev pub handed_with : State → ℕ → Option Mail → Option Handing
handed_with S l None = None
handed_with S l (Some m) = handed_at S l m.to m.message

unfoldable pub handed_in : State → Event → ℕ → Option Handing
handed_in S (Handle id) l = handed_with S l (removed id S.mails).0
handed_in S _ l = None

-- how each lock was last granted, in the order of locks; a lock that wasn't granted yet counts as free
abbrev pub Handings : Type 0
Handings = List Handing

abbrev pub no_handings : Setting → Handings
no_handings C = replicate (length C.program.locks) AtOnce

abbrev pub handing_of : Handings → ℕ → Handing
handing_of H l = slice_index_or H l AtOnce

-- the same after those locks are granted that a function says
unfoldable pub handings_with : (ℕ → Option Handing) → Handings → Handings
handings_with with_handing H = map (λ (last : ℕ × Handing). unwrap_or (with_handing last.0) last.1) (enumerate_from 0 H)

-- the same after an event
abbrev pub handings_after : State → Event → Handings → Handings
handings_after S e H = handings_with (handed_in S e) H

-- What an event sends joins the mails that it leaves in flight.
use Rattle.std.proofs.Common.{◌≡◌, ℕ, zero, suc, ◌+◌, ◌-◌, List, [], ◌∷◌, ◌++◌, length, map, slice_get, slice_index, slice_set, sum_by, Option, Some, None, refl, sym, ap, ◌∙◌, arith}
use Rattle.std.proofs.lemmas.List.Prefix.{front_rest}
use Rattle.std.proofs.lemmas.List.Sums.{sum_by-cons}
use Rattle.std.proofs.lemmas.Option.{none-some, same_Some}
use Rattle.dn_base.specs.declared.ids.CoreId.{CoreId}
use Rattle.message_net.specs.declared.actor.Actor.{Actor}
use Rattle.message_net.specs.declared.actor.Actor.TheVariants.{Core, Bank, Keeper}
use Rattle.message_net.specs.declared.event.Event.{Event}
use Rattle.message_net.specs.declared.event.Event.TheVariants.{Instr, Evict, Arrive, Handle}
use Rattle.message_net.specs.declared.message.Mail.{Mail}
use Rattle.message_net.specs.declared.message.Message.{Message}
use Rattle.message_net.specs.declared.message.Outgoing.{Outgoing}
use Rattle.message_net.specs.Mail.{mails_with, mails_of}
use Rattle.message_net.specs.Pool.{removed}
use Rattle.message_net.proofs.MailLemmas.{all_mails-append}
use Rattle.message_net.proofs.PoolLemmas.{sum_by-taken}
use Rattle.phase_barrier.specs.Barrier.{keeper_gets}
use Rattle.phase_barrier.specs.Letters.{letters}
use Rattle.registry_bank.specs.Bank.{BankParts, bank_gets}
use Rattle.registration_protocol.specs.Node.{NodeParts}
use Rattle.registration_protocol.specs.OwnEvents.{instructed, evicted, arrives}
use Rattle.registration_protocol.specs.Messages.{node_gets}
use Rattle.machine_rules.specs.State.{State}
use Rattle.machine_rules.specs.Next.{next, next_number, actor_index_in, numbers_with, does_instr, does_evict, does_arrive, core_gets, bank_handles, gets, handles}
use Rattle.dn_machine.specs.Actors.{actor_in, receiver_of}
use Rattle.run_changes.specs.Events.{count_left_by, left_in_flight, outgoing_of, sent_in}
use Rattle.run_changes.proofs.Listed.{nothing_behind}

-- mails of an actor stand behind those that are left, and the actor's next number has gone on by as many
record HasSent (S : State) (left : List Mail) (a : Actor) (T : State) : Type 0 where
  outs : List Outgoing
  mails : T.mails ≡ left ++ mails_of a (next_number S a) outs
  numbers : T.numbers ≡ slice_set S.numbers (actor_index_in S a) (next_number S a + length outs)

set-same : (numbers : List ℕ) (place : ℕ) → numbers ≡ slice_set numbers place (slice_index numbers place + 0)
set-same [] place = refl
set-same (x ∷ xs) zero = let same : x ≡ x + 0 = omega arith in ap (λ (y : ℕ). y ∷ xs) same
set-same (x ∷ xs) (suc place) = ap (λ (ys : List ℕ). x ∷ ys) (set-same xs place)

none-sent : (S : State) (a : Actor) → HasSent S S.mails a S
none-sent S a = record { outs = []; mails = sym (nothing_behind S.mails); numbers = set-same S.numbers (actor_index_in S a) }

one-sent : (S T : State) (a : Actor) (sent : Option Outgoing) → T.mails ≡ mails_with a (next_number S a) sent S.mails → T.numbers ≡ numbers_with (actor_index_in S a) sent S.numbers → HasSent S S.mails a T
one-sent S T a None mails numbers =
    record { outs = []; mails = mails ∙ sym (nothing_behind S.mails); numbers = numbers ∙ set-same S.numbers (actor_index_in S a) }
one-sent S T a (Some out) mails numbers = record { outs = out ∷ []; mails = mails; numbers = numbers }

-- what an actor does with a message
by-mail : (S : State) (to : Actor) (m : Message) → HasSent S S.mails to (gets S to m)
by-mail S (Core c) m = at_node (slice_get S.nodes c.0) where
  at_node : (o : Option NodeParts) → HasSent S S.mails (Core c) (core_gets S c m o)
  at_node None = none-sent S (Core c)
  at_node (Some n) = one-sent S (core_gets S c m (Some n)) (Core c) (node_gets S.setting n m).1.sent refl refl
by-mail S (Bank b) m = at_bank (slice_get S.banks b.0) where
  at_bank : (o : Option BankParts) → HasSent S S.mails (Bank b) (bank_handles S (Bank b) b.0 m o)
  at_bank None = none-sent S (Bank b)
  at_bank (Some x) = one-sent S (bank_handles S (Bank b) b.0 m (Some x)) (Bank b) (bank_gets x m).1 refl refl
by-mail S Keeper m =
    record {
      outs = letters S.setting.shape.cores (keeper_gets S.keeper m).1;
      mails = all_mails-append Keeper (next_number S Keeper) (letters S.setting.shape.cores (keeper_gets S.keeper m).1) S.mails;
      numbers = refl;
    }

by-handling : (S : State) (took : Option Mail × List Mail) (a : Actor) → receiver_of took.0 ≡ Some a → HasSent (record S { mails = took.1 }) took.1 a (handles S took)
by-handling S (None, rest) a is = none-sent (record S { mails = rest }) a
by-handling S (Some m, rest) a is = rw (← same_Some m.to a is) (by-mail (record S { mails = rest }) m.to m.message)

by-core : (S T : State) (c : CoreId) (a : Actor) → Some (Core c) ≡ Some a → HasSent S S.mails (Core c) T → HasSent S S.mails a T
by-core S T c a is sent = rw (← same_Some (Core c) a is) sent

in-state : (S T : State) (rest : List Mail) (a : Actor) → HasSent (record S { mails = rest }) rest a T → HasSent S rest a T
in-state S T rest a sent = record { outs = sent.outs; mails = sent.mails; numbers = sent.numbers }

by-event : (S : State) (e : Event) (a : Actor) → actor_in S e ≡ Some a → HasSent S (left_in_flight S e) a (next S e)
unfolding next actor_in
by-event S (Instr c) a is = by-core S (does_instr S c (slice_get S.nodes c.0)) c a is (at_node (slice_get S.nodes c.0)) where
  at_node : (o : Option NodeParts) → HasSent S S.mails (Core c) (does_instr S c o)
  at_node None = none-sent S (Core c)
  at_node (Some n) = one-sent S (does_instr S c (Some n)) (Core c) (instructed S.setting n).1.sent refl refl
by-event S (Evict c word) a is = by-core S (does_evict S c word (slice_get S.nodes c.0)) c a is (at_node (slice_get S.nodes c.0)) where
  at_node : (o : Option NodeParts) → HasSent S S.mails (Core c) (does_evict S c word o)
  at_node None = none-sent S (Core c)
  at_node (Some n) = one-sent S (does_evict S c word (Some n)) (Core c) (evicted S.setting n word).1 refl refl
by-event S (Arrive c) a is = by-core S (does_arrive S c (slice_get S.nodes c.0)) c a is (at_node (slice_get S.nodes c.0)) where
  at_node : (o : Option NodeParts) → HasSent S S.mails (Core c) (does_arrive S c o)
  at_node None = none-sent S (Core c)
  at_node (Some n) = one-sent S (does_arrive S c (Some n)) (Core c) (arrives n).1 refl refl
by-event S (Handle id) a is = in-state S (handles S (removed id S.mails)) (removed id S.mails).1 a (by-handling S (removed id S.mails) a is)

-- the mails carry what was sent
carried : (actor : Actor) (number : ℕ) (outs : List Outgoing) → map outgoing_of (mails_of actor number outs) ≡ outs
carried actor number [] = refl
carried actor number (out ∷ outs) = ap (λ (l : List Outgoing). out ∷ l) (carried actor (number + 1) outs)

-- how many mails are left
ones : (mails : List Mail) → sum_by (λ (m : Mail). 1) mails ≡ length mails
ones [] = refl
ones (m ∷ mails) = omega (arith, sum_by-cons (λ (x : Mail). 1) m mails, ones mails)

left-counted : (S : State) (e : Event) (a : Actor) → actor_in S e ≡ Some a → count_left_by S.mails e ≡ length (left_in_flight S e)
unfolding actor_in
left-counted S (Instr c) a is = refl
left-counted S (Evict c word) a is = refl
left-counted S (Arrive c) a is = refl
left-counted S (Handle id) a is = by_mail (removed id S.mails).0 refl is where
  by_mail : (o : Option Mail) → (removed id S.mails).0 ≡ o → receiver_of o ≡ Some a → length S.mails - 1 ≡ length (removed id S.mails).1
  by_mail None e is = absurd (none-some a is)
  by_mail (Some m) e is = omega (arith, sum_by-taken (λ (x : Mail). 1) id S.mails m e, ones S.mails, ones (removed id S.mails).1)

told : (S : State) (e : Event) (a : Actor) → actor_in S e ≡ Some a → (outs : List Outgoing) → (next S e).mails ≡ left_in_flight S e ++ mails_of a (next_number S a) outs → sent_in S e ≡ outs
unfolding sent_in
told S e a is outs mails =
    rw (left-counted S e a is)
    (ap (map outgoing_of) (front_rest (next S e).mails (left_in_flight S e) (mails_of a (next_number S a) outs) mails) ∙ carried a (next_number S a) outs)

pub sent-joins : (S : State) (e : Event) (a : Actor) → actor_in S e ≡ Some a → (next S e).mails ≡ left_in_flight S e ++ mails_of a (next_number S a) (sent_in S e)
sent-joins S e a is =
    let sent = by-event S e a is in
    sent.mails ∙ ap (λ (outs : List Outgoing). left_in_flight S e ++ mails_of a (next_number S a) outs) (sym (told S e a is sent.outs sent.mails))

pub sent-numbers : (S : State) (e : Event) (a : Actor) → actor_in S e ≡ Some a → (next S e).numbers ≡ slice_set S.numbers (actor_index_in S a) (next_number S a + length (sent_in S e))
sent-numbers S e a is =
    let sent = by-event S e a is in
    sent.numbers ∙ ap (λ (outs : List Outgoing). slice_set S.numbers (actor_index_in S a) (next_number S a + length outs)) (sym (told S e a is sent.outs sent.mails))

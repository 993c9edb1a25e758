-- The mails in flight after an event: those that stay, and behind them those that the event sends.
use Rattle.std.proofs.Common.{◌≡◌, ℕ, zero, suc, ◌+◌, ◌≤◌, List, [], ◌∷◌, ◌++◌, slice_get, Option, Some, None, refl, ap, subst, ◌∙◌, arith}
use Rattle.std.proofs.lemmas.Option.{none-some, same_Some}
use Rattle.message_net.specs.declared.actor.Actor.{Actor}
use Rattle.message_net.specs.declared.actor.Actor.TheVariants.{Core, Bank, Keeper}
use Rattle.message_net.specs.declared.event.Event.{Event}
use Rattle.message_net.specs.declared.event.Event.TheVariants.{Instr, Evict, Arrive, Handle}
use Rattle.message_net.specs.declared.message.Mail.{Mail}
use Rattle.message_net.specs.declared.message.Message.{Message}
use Rattle.message_net.specs.declared.message.Outgoing.{Outgoing}
use Rattle.message_net.specs.Mail.{mails_with, mails_of, mail_of}
use Rattle.message_net.specs.Pool.{removed}
use Rattle.message_net.proofs.MailLemmas.{all_mails-append}
use Rattle.registry_bank.specs.Bank.{BankParts, bank_gets}
use Rattle.phase_barrier.specs.Barrier.{keeper_gets}
use Rattle.phase_barrier.specs.Letters.{letters}
use Rattle.registration_protocol.specs.Node.{NodeParts}
use Rattle.registration_protocol.specs.OwnEvents.{instructed, evicted, arrives}
use Rattle.registration_protocol.specs.Messages.{node_gets}
use Rattle.machine_rules.specs.State.{State}
use Rattle.machine_rules.specs.Next.{next, next_number, does_instr, does_evict, does_arrive, core_gets, bank_handles, gets, delivers}
use Rattle.dn_machine.specs.Actors.{receiver_of, actor_in}
use Rattle.time_order.specs.Flights.{left_by}

pub record IsSent (S T : State) (a : Actor) (left : List Mail) : Type 0 where
  pub outs : List Outgoing
  pub mails : T.mails ≡ left ++ mails_of a (next_number S a) outs

append-none : (xs : List Mail) → xs ≡ xs ++ []
append-none [] = refl
append-none (x ∷ xs) = ap (λ (ys : List Mail). x ∷ ys) (append-none xs)

nothing : (S T : State) (a : Actor) (left : List Mail) → T.mails ≡ left → IsSent S T a left
nothing S T a left is = record { outs = []; mails = is ∙ append-none left }

one : (S T : State) (a : Actor) (left : List Mail) (sent : Option Outgoing) → T.mails ≡ mails_with a (next_number S a) sent left → IsSent S T a left
one S T a left None is = nothing S T a left is
one S T a left (Some out) is = record { outs = out ∷ []; mails = is }

core-own : (S : State) (core : Actor) (o : Option NodeParts) (T : Option NodeParts → State) (sent : NodeParts → Option Outgoing) → (T None).mails ≡ S.mails
    → ((n : NodeParts) → (T (Some n)).mails ≡ mails_with core (next_number S core) (sent n) S.mails) → IsSent S (T o) core S.mails
core-own S core None T sent none some = nothing S (T None) core S.mails none
core-own S core (Some n) T sent none some = one S (T (Some n)) core S.mails (sent n) (some n)

gets-sent : (S : State) (left : List Mail) (to : Actor) (m : Message) → IsSent S (gets (record S { mails = left }) to m) to left
gets-sent S left (Core core) m = by_node (slice_get S.nodes core.0) where
  by_node : (o : Option NodeParts) → IsSent S (core_gets (record S { mails = left }) core m o) (Core core) left
  by_node None = nothing S (record S { mails = left }) (Core core) left refl
  by_node (Some n) = one S (core_gets (record S { mails = left }) core m (Some n)) (Core core) left (node_gets S.setting n m).1.sent refl
gets-sent S left (Bank bank) m = by_bank (slice_get S.banks bank.0) where
  by_bank : (o : Option BankParts) → IsSent S (bank_handles (record S { mails = left }) (Bank bank) bank.0 m o) (Bank bank) left
  by_bank None = nothing S (record S { mails = left }) (Bank bank) left refl
  by_bank (Some b) = one S (bank_handles (record S { mails = left }) (Bank bank) bank.0 m (Some b)) (Bank bank) left (bank_gets b m).1 refl
gets-sent S left Keeper m =
    record {
      outs = letters S.setting.shape.cores (keeper_gets S.keeper m).1;
      mails = all_mails-append Keeper (next_number S Keeper) (letters S.setting.shape.cores (keeper_gets S.keeper m).1) left;
    }

handle-sent : (S : State) (took : Option Mail × List Mail) (a : Actor) → receiver_of took.0 ≡ Some a → IsSent S (delivers (record S { mails = took.1 }) took.0) a took.1
handle-sent S (None, left) a is = absurd (none-some a is)
handle-sent S (Some m, left) a is =
    subst (λ (x : Actor). IsSent S (gets (record S { mails = left }) m.to m.message) x left) (same_Some m.to a is) (gets-sent S left m.to m.message)

pub event-sent : (S : State) (e : Event) (a : Actor) → actor_in S e ≡ Some a → IsSent S (next S e) a (left_by S e)
unfolding next actor_in
event-sent S (Instr core) a is =
    subst (λ (x : Actor). IsSent S (does_instr S core (slice_get S.nodes core.0)) x S.mails) (same_Some (Core core) a is)
    (core-own S (Core core) (slice_get S.nodes core.0) (does_instr S core) (λ n. (instructed S.setting n).1.sent) refl (λ n. refl))
event-sent S (Evict core word) a is =
    subst (λ (x : Actor). IsSent S (does_evict S core word (slice_get S.nodes core.0)) x S.mails) (same_Some (Core core) a is)
    (core-own S (Core core) (slice_get S.nodes core.0) (does_evict S core word) (λ n. (evicted S.setting n word).1) refl (λ n. refl))
event-sent S (Arrive core) a is =
    subst (λ (x : Actor). IsSent S (does_arrive S core (slice_get S.nodes core.0)) x S.mails) (same_Some (Core core) a is)
    (core-own S (Core core) (slice_get S.nodes core.0) (does_arrive S core) (λ n. (arrives n).1) refl (λ n. refl))
event-sent S (Handle id) a is = handle-sent S (removed id S.mails) a is

-- the mails of an actor have its next numbers
pub record IsNumbered (a : Actor) (number : ℕ) (m : Mail) : Type 0 where
  pub sender : m.id.sender ≡ a
  pub past : number ≤ m.id.number

pub numbered : (a : Actor) (number : ℕ) (outs : List Outgoing) (k : ℕ) (m : Mail) → slice_get (mails_of a number outs) k ≡ Some m → IsNumbered a number m
numbered a number [] k m here = absurd (none-some m here)
numbered a number (out ∷ outs) zero m here =
    subst (IsNumbered a number) (same_Some (mail_of a number out) m here) (record { sender = refl; past = omega arith })
numbered a number (out ∷ outs) (suc k) m here =
    let rest = numbered a (number + 1) outs k m here in
    record { sender = rest.sender; past = omega (arith, rest.past) }

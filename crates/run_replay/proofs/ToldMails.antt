-- Every mail in flight has been sent by an actor of the machine.
use Rattle.std.proofs.Common.{◌≡◌, ℕ, ◌+◌, not, nat_lt, Bool, true, false, List, [], ◌∷◌, length, sum_by, slice_get, slice_set, Option, Some, None, refl, arith}
use Rattle.std.proofs.lemmas.Bool.Decides.{nat_tests}
use Rattle.std.proofs.lemmas.Option.{slice_get_within}
use Rattle.std.proofs.lemmas.List.Sums.{sum_by-cons}
use Rattle.dn_base.specs.declared.ids.CoreId.{CoreId}
use Rattle.dn_base.specs.declared.ids.BankId.{BankId}
use Rattle.message_net.specs.declared.actor.Actor.{Actor}
use Rattle.message_net.specs.declared.actor.Actor.TheVariants.{Core, Bank, Keeper}
use Rattle.message_net.specs.declared.event.Event.{Event}
use Rattle.message_net.specs.declared.event.Event.TheVariants.{Instr, Evict, Arrive, Handle}
use Rattle.message_net.specs.declared.message.Mail.{Mail}
use Rattle.message_net.specs.declared.message.Message.{Message}
use Rattle.message_net.specs.declared.message.Outgoing.{Outgoing}
use Rattle.message_net.specs.Mail.{has_actor, mail_of, mails_of}
use Rattle.message_net.specs.Pool.{removed}
use Rattle.message_net.proofs.PoolLemmas.{weight-within}
use Rattle.message_net.proofs.MailLemmas.{weight_sent, sum_by-mails_with, sum_by-all_mails}
use Rattle.registry_bank.specs.Bank.{BankParts, bank_gets}
use Rattle.phase_barrier.specs.Barrier.{keeper_gets}
use Rattle.phase_barrier.specs.Letters.{letters}
use Rattle.registration_protocol.specs.Node.{NodeParts, Setting}
use Rattle.registration_protocol.specs.OwnEvents.{instructed, evicted, arrives}
use Rattle.registration_protocol.specs.Messages.{node_gets}
use Rattle.machine_rules.specs.State.{State, initial_state}
use Rattle.machine_rules.specs.Flight.{bit, weighs}
use Rattle.machine_rules.specs.Next.{next, enabled, next_number, sends, posts, core_does, bank_does, does_instr, does_evict, does_arrive, core_gets, bank_handles, gets, delivers}
use Rattle.machine_rules.specs.Sound.{IsMachine}
use Rattle.machine_rules.proofs.Steps.{Handled, handled, without_mail}

-- 1 for a mail whose sender isn't an actor of the machine
abbrev pub strange : Setting → Mail → ℕ
strange C m = bit (not (has_actor C.shape.cores C.shape.banks m.id.sender))

abbrev pub AreSent : State → Type 0
AreSent S = weighs S (strange S.setting) ≡ 0

abbrev IsThere : State → Actor → Type 0
IsThere S from = has_actor S.setting.shape.cores S.setting.shape.banks from ≡ true

-- ---- what an actor of the machine sends

own-mail : (C : Setting) (from : Actor) (number : ℕ) (out : Outgoing) → has_actor C.shape.cores C.shape.banks from ≡ true → strange C (mail_of from number out) ≡ 0
own-mail C from number out there = rw (there) refl

own-sent : (C : Setting) (from : Actor) (number : ℕ) (sent : Option Outgoing) → has_actor C.shape.cores C.shape.banks from ≡ true → weight_sent (strange C) from number sent ≡ 0
own-sent C from number None there = refl
own-sent C from number (Some out) there = own-mail C from number out there

own-mails : (C : Setting) (from : Actor) (number : ℕ) (outs : List Outgoing) → has_actor C.shape.cores C.shape.banks from ≡ true → sum_by (strange C) (mails_of from number outs) ≡ 0
own-mails C from number [] there = refl
own-mails C from number (out ∷ outs) there =
    omega (
      arith,
      sum_by-cons (strange C) (mail_of from number out) (mails_of from (number + 1) outs),
      own-mail C from number out there,
      own-mails C from (number + 1) outs there,
    )

sent-one : (S : State) (from : Actor) (sent : Option Outgoing) → IsThere S from → AreSent S → AreSent (sends S from sent)
sent-one S from None there good = good
sent-one S from (Some out) there good =
    omega (arith, good, sum_by-mails_with (strange S.setting) from (next_number S from) (Some out) S.mails, own-sent S.setting from (next_number S from) (Some out) there)

sent-all : (S : State) (outs : List Outgoing) → AreSent S → AreSent (posts S outs)
sent-all S outs good =
    omega (arith, good, sum_by-all_mails (strange S.setting) Keeper (next_number S Keeper) outs S.mails, own-mails S.setting Keeper (next_number S Keeper) outs refl)

sent-core : (S : State) (core : CoreId) (m : NodeParts) (sent : Option Outgoing) → IsThere S (Core core) → AreSent S → AreSent (core_does S core m sent)
sent-core S core m sent there good = sent-one (record S { nodes = slice_set S.nodes core.0 m }) (Core core) sent there good

sent-bank : (S : State) (bank : BankId) (b : BankParts) (sent : Option Outgoing) → IsThere S (Bank bank) → AreSent S → AreSent (bank_does S bank.0 b sent (Bank bank))
sent-bank S bank b sent there good = sent-one (record S { banks = slice_set S.banks bank.0 b }) (Bank bank) sent there good

-- ---- every event

core-there : (S : State) (core : CoreId) (n : NodeParts) → IsMachine S → slice_get S.nodes core.0 ≡ Some n → nat_lt core.0 S.setting.shape.cores ≡ true
core-there S core n good found = grind (arith, nat_tests, slice_get_within S.nodes core.0 n found, good.nodes)

sent-gets : (S : State) (to : Actor) (message : Message) → length S.nodes ≡ S.setting.shape.cores → length S.banks ≡ S.setting.shape.banks → AreSent S → AreSent (gets S to message)
sent-gets S (Core core) message nodes banks good = by_node (slice_get S.nodes core.0) refl where
  by_node : (o : Option NodeParts) → slice_get S.nodes core.0 ≡ o → AreSent (core_gets S core message o)
  by_node None is = good
  by_node (Some n) is =
      sent-core S core (node_gets S.setting n message).0 (node_gets S.setting n message).1.sent (grind (arith, nat_tests, slice_get_within S.nodes core.0 n is, nodes)) good
sent-gets S (Bank bank) message nodes banks good = by_bank (slice_get S.banks bank.0) refl where
  by_bank : (o : Option BankParts) → slice_get S.banks bank.0 ≡ o → AreSent (bank_handles S (Bank bank) bank.0 message o)
  by_bank None is = good
  by_bank (Some b) is = sent-bank S bank (bank_gets b message).0 (bank_gets b message).1 (grind (arith, nat_tests, slice_get_within S.banks bank.0 b is, banks)) good
sent-gets S Keeper message nodes banks good =
    let answer = keeper_gets S.keeper message in
    sent-all (record S { keeper = answer.0 }) (letters S.setting.shape.cores answer.1) good

pub sent-next : (S : State) (e : Event) → IsMachine S → enabled S e ≡ true → AreSent S → AreSent (next S e)
unfolding next
sent-next S (Instr core) machine may good = by_node (slice_get S.nodes core.0) refl where
  by_node : (o : Option NodeParts) → slice_get S.nodes core.0 ≡ o → AreSent (does_instr S core o)
  by_node None is = good
  by_node (Some n) is = sent-core S core (instructed S.setting n).0 (instructed S.setting n).1.sent (core-there S core n machine is) good
sent-next S (Evict core word) machine may good = by_node (slice_get S.nodes core.0) refl where
  by_node : (o : Option NodeParts) → slice_get S.nodes core.0 ≡ o → AreSent (does_evict S core word o)
  by_node None is = good
  by_node (Some n) is = sent-core S core (evicted S.setting n word).0 (evicted S.setting n word).1 (core-there S core n machine is) good
sent-next S (Arrive core) machine may good = by_node (slice_get S.nodes core.0) refl where
  by_node : (o : Option NodeParts) → slice_get S.nodes core.0 ≡ o → AreSent (does_arrive S core o)
  by_node None is = good
  by_node (Some n) is = sent-core S core (arrives n).0 (arrives n).1 (core-there S core n machine is) good
sent-next S (Handle id) machine may good = by_mail (handled S id may) where
  rest : State
  rest = without_mail S id

  by_mail : (m : Mail) × Handled S id m → AreSent (delivers rest (removed id S.mails).0)
  by_mail (m, h) = rw (h.took) (sent-gets rest m.to m.message machine.nodes machine.banks (omega (arith, good, h.weights (strange S.setting))))

-- ---- who has sent a mail

pub sender-there : (S : State) (place : ℕ) (m : Mail) → AreSent S → slice_get S.mails place ≡ Some m → has_actor S.setting.shape.cores S.setting.shape.banks m.id.sender ≡ true
sender-there S place m good there = by_bit (has_actor S.setting.shape.cores S.setting.shape.banks m.id.sender) (omega (arith, good, weight-within (strange S.setting) S.mails place m there)) where
  by_bit : (b : Bool) → bit (not b) ≡ 0 → b ≡ true
  by_bit true none = refl
  by_bit false none = absurd (omega (arith, none))

-- no mail is in flight as a run begins
pub opened-sent : (C : Setting) → AreSent (initial_state C)
unfolding initial_state
opened-sent C = refl

-- What an event changes of a state: the node, the bank or the keeper that it is an event of, and the mails in flight.
use Rattle.std.proofs.Common.{◌≡◌, ℕ, ◌+◌, ◌≤◌, ◌==◌, true, cond, List, slice_get, sum_by, Option, Some, None, refl, ap, ◌∙◌, arith}
use Rattle.std.proofs.lemmas.Bool.Decides.{nat_tests}
use Rattle.dn_base.specs.declared.ids.CoreId.{CoreId}
use Rattle.dn_base.specs.declared.ids.WordId.{WordId}
use Rattle.dn_base.specs.declared.ids.BankId.{BankId}
use Rattle.message_net.specs.declared.actor.Actor.{Actor}
use Rattle.message_net.specs.declared.actor.Actor.TheVariants.{Core, Bank, Keeper}
use Rattle.message_net.specs.declared.actor.MailId.{MailId}
use Rattle.message_net.specs.declared.event.Event.TheVariants.{Instr, Evict, Arrive, Handle}
use Rattle.message_net.specs.declared.message.Mail.{Mail}
use Rattle.message_net.specs.declared.message.Message.{Message}
use Rattle.message_net.specs.declared.message.Outgoing.{Outgoing}
use Rattle.message_net.specs.Pool.{count_of, removed}
use Rattle.registry_bank.specs.Bank.{BankParts, bank_gets}
use Rattle.phase_barrier.specs.Barrier.{keeper_gets}
use Rattle.phase_barrier.specs.Letters.{letters}
use Rattle.registration_protocol.specs.Node.{NodeParts}
use Rattle.registration_protocol.specs.OwnEvents.{instructed, evicted, arrives}
use Rattle.registration_protocol.specs.Messages.{node_gets}
use Rattle.machine_rules.specs.State.{State}
use Rattle.machine_rules.specs.Flight.{Test, bit, mail_count, flight, weighs}
use Rattle.machine_rules.specs.Next.{next, enabled, next_number, core_does, bank_does, keeper_handles, posts}
use Rattle.machine_rules.proofs.Bits.{passes}
use Rattle.machine_rules.proofs.Lists.{get-set-there}
use Rattle.message_net.specs.Pool.{IsFound}
use Rattle.message_net.proofs.PoolLemmas.{found-counted, sum_by-taken}
use Rattle.message_net.proofs.MailLemmas.{sum_by-mails_with, weight_sent, sum_by-all_mails, sum_by-mails_of}

-- a mail as it was sent
abbrev pub as_sent : Mail → Outgoing
as_sent m = record { to = m.to; message = m.message }

-- an event of one core: its node n becomes m; `left` is the mail that it handles, if any, and `sent` what it sends
pub record NodeStep (S T : State) (core : ℕ) (n m : NodeParts) (left sent : Option Outgoing) : Type 0 where
  pub setting : T.setting ≡ S.setting
  pub banks : T.banks ≡ S.banks
  pub keeper : T.keeper ≡ S.keeper
  pub found : slice_get S.nodes core ≡ Some n
  pub nodes : (d : ℕ) → slice_get T.nodes d ≡ cond (core == d) (Some m) (slice_get S.nodes d)
  pub flown : (p : Test) → flight T p + passes p left ≡ flight S p + passes p sent

-- an event of one bank, which stands at place `number`
pub record BankStep (S T : State) (number : ℕ) (b : BankParts) (message : Message) (left : Option Outgoing) : Type 0 where
  pub setting : T.setting ≡ S.setting
  pub nodes : T.nodes ≡ S.nodes
  pub keeper : T.keeper ≡ S.keeper
  pub found : slice_get S.banks number ≡ Some b
  pub banks : (i : ℕ) → slice_get T.banks i ≡ cond (number == i) (Some (bank_gets b message).0) (slice_get S.banks i)
  pub flown : (p : Test) → flight T p + passes p left ≡ flight S p + passes p (bank_gets b message).1

-- whether an outgoing message passes a test
abbrev pub letter_bit : Test → Outgoing → ℕ
letter_bit test out = bit (test out.to out.message)

-- an event of the keeper
pub record KeeperStep (S T : State) (message : Message) (left : Option Outgoing) : Type 0 where
  pub setting : T.setting ≡ S.setting
  pub nodes : T.nodes ≡ S.nodes
  pub banks : T.banks ≡ S.banks
  pub keeper : T.keeper ≡ (keeper_gets S.keeper message).0
  pub flown : (p : Test) → flight T p + passes p left ≡ flight S p + sum_by (letter_bit p) (letters S.setting.shape.cores (keeper_gets S.keeper message).1)

-- a mail in flight that is handled next
pub record Handled (S : State) (id : MailId) (m : Mail) : Type 0 where
  pub place : ℕ
  pub there : slice_get S.mails place ≡ Some m
  pub named : m.id ≡ id
  pub took : (removed id S.mails).0 ≡ Some m
  pub weights : (f : Mail → ℕ) → sum_by f (removed id S.mails).1 + f m ≡ weighs S f

id-counted : (S : State) (id : MailId) → enabled S (Handle id) ≡ true → 1 ≤ count_of id S.mails
unfolding enabled
id-counted S id may = grind (arith, nat_tests, may)

-- whose id is in flight is found
pub handled : (S : State) (id : MailId) → enabled S (Handle id) ≡ true → (m : Mail) × Handled S id m
handled S id may = by_found (found-counted id S.mails (id-counted S id may)) where
  by_found : (place : ℕ) × (m : Mail) × IsFound id S.mails place m → (m : Mail) × Handled S id m
  by_found (place, m, found) =
      let took : (removed id S.mails).0 ≡ Some m = rw (found.takes) refl in
      (m, record { place = place; there = found.here; named = found.named; took = took; weights = λ f. sum_by-taken f id S.mails m took })

-- what is sent counts by its address and message
pub sent-passes : (p : Test) (from : Actor) (number : ℕ) (sent : Option Outgoing) → weight_sent (mail_count p) from number sent ≡ passes p sent
sent-passes p from number None = refl
sent-passes p from number (Some out) = refl

-- a core's own event
core-flown : (S : State) (core : CoreId) (m : NodeParts) (sent : Option Outgoing) (p : Test) → flight (core_does S core m sent) p ≡ flight S p + passes p sent
core-flown S core m sent p =
    sum_by-mails_with (mail_count p) (Core core) (next_number S (Core core)) sent S.mails ∙ ap (λ (x : ℕ). flight S p + x) (sent-passes p (Core core) (next_number S (Core core)) sent)

core-acts : (S : State) (core : CoreId) (n m : NodeParts) (sent : Option Outgoing) → slice_get S.nodes core.0 ≡ Some n → NodeStep S (core_does S core m sent) core.0 n m None sent
core-acts S core n m sent found =
    record {
      setting = refl;
      banks = refl;
      keeper = refl;
      found = found;
      nodes = λ d. get-set-there S.nodes core.0 d n m found;
      flown = λ p. omega (arith, core-flown S core m sent p);
    }

-- the instruction of a core, an eviction and an arrival
pub instr-step : (S : State) (core : CoreId) (n : NodeParts) → slice_get S.nodes core.0 ≡ Some n
    → NodeStep S (next S (Instr core)) core.0 n (instructed S.setting n).0 None (instructed S.setting n).1.sent
unfolding next
instr-step S core n found = rw (found) (core-acts S core n (instructed S.setting n).0 (instructed S.setting n).1.sent found)

pub evict-step : (S : State) (core : CoreId) (word : WordId) (n : NodeParts) → slice_get S.nodes core.0 ≡ Some n
    → NodeStep S (next S (Evict core word)) core.0 n (evicted S.setting n word).0 None (evicted S.setting n word).1
unfolding next
evict-step S core word n found = rw (found) (core-acts S core n (evicted S.setting n word).0 (evicted S.setting n word).1 found)

pub arrive-step : (S : State) (core : CoreId) (n : NodeParts) → slice_get S.nodes core.0 ≡ Some n
    → NodeStep S (next S (Arrive core)) core.0 n (arrives n).0 None (arrives n).1
unfolding next
arrive-step S core n found = rw (found) (core-acts S core n (arrives n).0 (arrives n).1 found)

-- a state without the mail of an id
abbrev pub without_mail : State → MailId → State
without_mail S id = record S { mails = (removed id S.mails).1 }

-- how many mails pass a test once a mail has been taken
left-flown : (S : State) (id : MailId) (m : Mail) (p : Test) → Handled S id m → flight (without_mail S id) p + passes p (Some (as_sent m)) ≡ flight S p
left-flown S id m p h = h.weights (mail_count p)

core-got : (S : State) (rest : List Mail) (core : CoreId) (n m : NodeParts) (left : Outgoing) (sent : Option Outgoing) → slice_get S.nodes core.0 ≡ Some n
    → ((p : Test) → flight (record S { mails = rest }) p + passes p (Some left) ≡ flight S p)
    → NodeStep S (core_does (record S { mails = rest }) core m sent) core.0 n m (Some left) sent
core-got S rest core n m left sent found took =
    record {
      setting = refl;
      banks = refl;
      keeper = refl;
      found = found;
      nodes = λ d. get-set-there S.nodes core.0 d n m found;
      flown = λ p. omega (arith, took p, core-flown (record S { mails = rest }) core m sent p);
    }

-- a core handles a message
pub core-step : (S : State) (id : MailId) (m : Mail) (core : CoreId) (n : NodeParts) → Handled S id m → m.to ≡ Core core → slice_get S.nodes core.0 ≡ Some n
    → NodeStep S (next S (Handle id)) core.0 n (node_gets S.setting n m.message).0 (Some (as_sent m)) (node_gets S.setting n m.message).1.sent
unfolding next
core-step S id m core n h to found =
    let step = core-got S (removed id S.mails).1 core n (node_gets S.setting n m.message).0 (as_sent m) (node_gets S.setting n m.message).1.sent found (λ p. left-flown S id m p h) in
    rw (h.took, to, found) (rw (to) at step)

-- a bank handles a message
bank-flown : (S : State) (number : ℕ) (b : BankParts) (sent : Option Outgoing) (from : Actor) (p : Test) → flight (bank_does S number b sent from) p ≡ flight S p + passes p sent
bank-flown S number b sent from p =
    sum_by-mails_with (mail_count p) from (next_number S from) sent S.mails ∙ ap (λ (x : ℕ). flight S p + x) (sent-passes p from (next_number S from) sent)

bank-got : (S : State) (rest : List Mail) (bank : BankId) (b : BankParts) (message : Message) (left : Outgoing) → slice_get S.banks bank.0 ≡ Some b
    → ((p : Test) → flight (record S { mails = rest }) p + passes p (Some left) ≡ flight S p)
    → BankStep S (bank_does (record S { mails = rest }) bank.0 (bank_gets b message).0 (bank_gets b message).1 (Bank bank)) bank.0 b message (Some left)
bank-got S rest bank b message left found took =
    record {
      setting = refl;
      nodes = refl;
      keeper = refl;
      found = found;
      banks = λ i. get-set-there S.banks bank.0 i b (bank_gets b message).0 found;
      flown = λ p. omega (arith, took p, bank-flown (record S { mails = rest }) bank.0 (bank_gets b message).0 (bank_gets b message).1 (Bank bank) p);
    }

pub bank-step : (S : State) (id : MailId) (m : Mail) (bank : BankId) (b : BankParts) → Handled S id m → m.to ≡ Bank bank → slice_get S.banks bank.0 ≡ Some b
    → BankStep S (next S (Handle id)) bank.0 b m.message (Some (as_sent m))
unfolding next
bank-step S id m bank b h to found =
    let step = bank-got S (removed id S.mails).1 bank b m.message (as_sent m) found (λ p. left-flown S id m p h) in
    rw (h.took, to, found) (rw (to) at step)

-- the keeper handles a message
letters-flown : (S : State) (outs : List Outgoing) (p : Test) → flight (posts S outs) p ≡ flight S p + sum_by (letter_bit p) outs
letters-flown S outs p =
    sum_by-all_mails (mail_count p) Keeper (next_number S Keeper) outs S.mails
    ∙ ap (λ (x : ℕ). flight S p + x) (sum_by-mails_of (λ (to : Actor) (message : Message). bit (p to message)) Keeper (next_number S Keeper) outs)

keeper-got : (S : State) (rest : List Mail) (message : Message) (left : Outgoing) → ((p : Test) → flight (record S { mails = rest }) p + passes p (Some left) ≡ flight S p)
    → KeeperStep S (keeper_handles (record S { mails = rest }) (keeper_gets S.keeper message)) message (Some left)
keeper-got S rest message left took =
    record {
      setting = refl;
      nodes = refl;
      banks = refl;
      keeper = refl;
      flown = λ p. omega (arith, took p, letters-flown (record S { mails = rest; keeper = (keeper_gets S.keeper message).0 }) (letters S.setting.shape.cores (keeper_gets S.keeper message).1) p);
    }

pub keeper-step : (S : State) (id : MailId) (m : Mail) → Handled S id m → m.to ≡ Keeper → KeeperStep S (next S (Handle id)) m.message (Some (as_sent m))
unfolding next
keeper-step S id m h to =
    let step = keeper-got S (removed id S.mails).1 m.message (as_sent m) (λ p. left-flown S id m p h) in
    rw (h.took, to) (rw (to) at step)

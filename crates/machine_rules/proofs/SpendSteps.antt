-- What an event of a node, of a bank and of the keeper adds to the events and to what pays for them.
use Rattle.std.proofs.Common.{◌≡◌, ℕ, zero, suc, ◌+◌, ◌*◌, ◌<◌, ◌≤◌, ◌==◌, Bool, true, false, cond, length, sum_by, Option, Some, None, refl, ap, ◌∙◌, arith}
use Rattle.std.proofs.Math.Nat.{mul-le-mul_left}
use Rattle.std.proofs.lemmas.Bool.{eqb-true}
use Rattle.std.proofs.lemmas.Bool.Decides.{nat_tests}
use Rattle.std.proofs.lemmas.List.Sums.{sum_by-le-sum_by}
use Rattle.message_net.specs.declared.actor.Actor.{Actor}
use Rattle.message_net.specs.declared.actor.Actor.TheVariants.{Core}
use Rattle.message_net.specs.declared.message.Mail.{Mail}
use Rattle.message_net.specs.declared.message.Message.{Message}
use Rattle.message_net.specs.declared.message.Message.TheVariants.{ReadReq, ReadFwd, DataReply, RegReq, RegFwd, RegAck, WriteBack, WbAck, Acquire, Release, Grant, Arrived, Go, Halt}
use Rattle.message_net.specs.declared.message.Outgoing.{Outgoing}
use Rattle.queue_lock.specs.Lock.{Lock}
use Rattle.registry_bank.specs.declared.bank.BankWord.{BankWord}
use Rattle.phase_barrier.specs.Barrier.{Barrier, all_arrived}
use Rattle.registration_protocol.specs.Node.{NodeParts}
use Rattle.machine_rules.specs.State.{State, home_at, lock_at}
use Rattle.machine_rules.specs.Flight.{Test, bit, mail_count, flight}
use Rattle.machine_rules.specs.Sound.{IsMachine, rounds}
use Rattle.machine_rules.proofs.Bits.{passes}
use Rattle.machine_rules.proofs.Steps.{NodeStep}
use Rattle.machine_rules.proofs.CopyFrames.{sum-changed}
use Rattle.machine_rules.proofs.Outcomes.{WordStep, LockStep, BarrierStep, to_all}
use Rattle.machine_rules.proofs.WordCore.{same-number}
use Rattle.machine_rules.proofs.Spending.{is_any, is_handed, is_register, is_reply, is_seek, is_pass, is_owned, seeks_owned, mail_cost, cost_of, debt, credit, queue_in, total, queue_cost, Spent}

-- ---- sums over the locks

total-same : (f g : ℕ → ℕ) (n : ℕ) → ((l : ℕ) → f l ≡ g l) → total f n ≡ total g n
total-same f g zero same = refl
total-same f g (suc n) same = omega (arith, total-same f g n same, same n)

-- where one of the numbers from a place on is another
total-past : (f g : ℕ → ℕ) (i n : ℕ) → n ≤ i → ((l : ℕ) → (i == l) ≡ false → f l ≡ g l) → total f n ≡ total g n
total-past f g i zero low others = refl
total-past f g i (suc n) low others =
    let apart : (i == n) ≡ false = grind (arith, nat_tests, low) in
    omega (arith, total-past f g i n (omega (arith, low)) others, others n apart)

total-changed : (f g : ℕ → ℕ) (i n : ℕ) → i < n → ((l : ℕ) → (i == l) ≡ false → f l ≡ g l) → total f n + g i ≡ total g n + f i
total-changed f g i zero low others = absurd (omega (arith, low))
total-changed f g i (suc n) low others = by_test (i == n) refl (total-changed f g i n) where
  by_test : (t : Bool) → (i == n) ≡ t → (i < n → ((l : ℕ) → (i == l) ≡ false → f l ≡ g l) → total f n + g i ≡ total g n + f i) → total f (suc n) + g i ≡ total g (suc n) + f i
  by_test true e rest =
      let same = eqb-true i n e in
      omega (arith, total-past f g i n (omega (arith, same)) others, ap f same, ap g same)
  by_test false e rest =
      let below : i < n = grind (arith, nat_tests, e, low) in
      omega (arith, rest below others, others n e)

-- ---- mails

mails-cost : (S T : State) (left sent : Option Outgoing) → ((p : Test) → flight T p + passes p left ≡ flight S p + passes p sent)
    → flight T (seeks_owned T) ≤ flight T (seeks_owned S) → mail_cost T + cost_of S left ≤ mail_cost S + cost_of S sent
mails-cost S T left sent flown less =
    omega (arith, less, flown is_any, flown is_handed, flown is_register, flown is_reply, flown is_seek, flown is_pass, flown (seeks_owned S))

same-homes : (S T : State) → T.setting ≡ S.setting → T.banks ≡ S.banks → flight T (seeks_owned T) ≤ flight T (seeks_owned S)
same-homes S T setting banks = rw (setting, banks) (omega arith)

same-queues : (S T : State) → T.setting ≡ S.setting → ((l : ℕ) → lock_at T l ≡ lock_at S l) → queue_cost T ≡ queue_cost S
same-queues S T setting same =
    total-same (λ (l : ℕ). queue_in (lock_at T l)) (λ (l : ℕ). queue_in (lock_at S l)) (length T.setting.program.locks) (λ l. ap queue_in (same l))
    ∙ ap (λ C. total (λ (l : ℕ). queue_in (lock_at S l)) (length C.program.locks)) setting

-- ---- a node

pub node-spent : (S T : State) (made past due core : ℕ) (n m : NodeParts) (left sent : Option Outgoing) → NodeStep S T core n m left sent → Spent S made past
    → 1 + (cost_of S sent + debt m + credit n) ≤ cost_of S left + debt n + credit m + due → Spent T (made + 1) (past + due)
node-spent S T made past due core n m left sent step spent enough =
    record {
      paid =
          let mails = mails-cost S T left sent step.flown (same-homes S T step.setting step.banks) in
          let debts = sum-changed debt S.nodes T.nodes core n m step.found step.nodes in
          let credits = sum-changed credit S.nodes T.nodes core n m step.found step.nodes in
          let queues = same-queues S T step.setting (λ l. rw (step.banks, step.setting) refl) in
          let turns : T.setting.shape.cores * rounds T ≡ S.setting.shape.cores * rounds S = rw (step.setting, step.keeper) refl in
          omega (arith, spent.paid, enough, mails, debts, credits, queues, turns);
    }

-- ---- the home of a word

pub word-spent : (S T : State) (made past w : ℕ) (content : BankWord) (left sent : Option Outgoing) → WordStep S T w content left sent → Spent S made past
    → flight T (seeks_owned T) ≤ flight T (seeks_owned S) → 1 + cost_of S sent ≤ cost_of S left → Spent T (made + 1) (past + 0)
word-spent S T made past w content left sent step spent less enough =
    record {
      paid =
          let mails = mails-cost S T left sent step.flown less in
          let queues = same-queues S T step.setting step.locks in
          let turns : T.setting.shape.cores * rounds T ≡ S.setting.shape.cores * rounds S = rw (step.setting, step.keeper) refl in
          omega (arith, spent.paid, enough, mails, ap (sum_by debt) step.nodes, ap (sum_by credit) step.nodes, queues, turns);
    }

-- a home that has no more of a registrant than before
owned-less : (S T : State) (w : ℕ) (content : BankWord) → ((v : ℕ) → home_at T v ≡ cond (w == v) (Some content) (home_at S v)) → bit (is_owned (Some content)) ≤ bit (is_owned (home_at S w))
    → flight T (seeks_owned T) ≤ flight T (seeks_owned S)
owned-less S T w content homes less = sum_by-le-sum_by (mail_count (seeks_owned T)) (mail_count (seeks_owned S)) T.mails each where
  here : (v : ℕ) → bit (is_owned (home_at T v)) ≤ bit (is_owned (home_at S v))
  here v = by_test (w == v) refl where
    by_test : (t : Bool) → (w == v) ≡ t → bit (is_owned (home_at T v)) ≤ bit (is_owned (home_at S v))
    by_test true e =
        let now = rw (e) at (homes v) in
        omega (arith, less, ap (λ (o : Option BankWord). bit (is_owned o)) now, ap (λ (x : ℕ). bit (is_owned (home_at S x))) (eqb-true w v e))
    by_test false e =
        let now = rw (e) at (homes v) in
        omega (arith, ap (λ (o : Option BankWord). bit (is_owned o)) now)

  by_message : (to : Actor) (message : Message) → bit (seeks_owned T to message) ≤ bit (seeks_owned S to message)
  by_message to (ReadReq word reader) = here word.0
  by_message to (ReadFwd word reader) = omega arith
  by_message to (DataReply word value) = omega arith
  by_message to (RegReq word core) = omega arith
  by_message to (RegFwd word core) = omega arith
  by_message to (RegAck word) = omega arith
  by_message to (WriteBack word value core) = omega arith
  by_message to (WbAck word) = omega arith
  by_message to (Acquire lock core) = omega arith
  by_message to (Release lock core s) = omega arith
  by_message to (Grant lock s) = omega arith
  by_message to (Arrived core bad) = omega arith
  by_message to (Go phase) = omega arith
  by_message to Halt = omega arith

  each : (m : Mail) → mail_count (seeks_owned T) m ≤ mail_count (seeks_owned S) m
  each m = by_message m.to m.message

pub content-spent : (S T : State) (made past w : ℕ) (content : BankWord) (left sent : Option Outgoing) → WordStep S T w content left sent → Spent S made past
    → bit (is_owned (Some content)) ≤ bit (is_owned (home_at S w)) → 1 + cost_of S sent ≤ cost_of S left → Spent T (made + 1) (past + 0)
content-spent S T made past w content left sent step spent less enough =
    word-spent S T made past w content left sent step spent (owned-less S T w content step.homes less) enough

-- ---- the home of a lock

pub lock-spent : (S T : State) (made past l : ℕ) (h k : Lock) (left sent : Option Outgoing) → IsMachine S → LockStep S T l k left sent → lock_at S l ≡ Some h → Spent S made past
    → 1 + (cost_of S sent + length k.queue) ≤ cost_of S left + length h.queue → Spent T (made + 1) (past + 0)
lock-spent S T made past l h k left sent machine step was spent enough =
    record {
      paid =
          let mails = mails-cost S T left sent step.flown (sum_by-le-sum_by (mail_count (seeks_owned T)) (mail_count (seeks_owned S)) T.mails each) in
          let turns : T.setting.shape.cores * rounds T ≡ S.setting.shape.cores * rounds S = rw (step.setting, step.keeper) refl in
          let locks = ap (λ C. length C.program.locks) step.setting in
          let same = ap (total (λ (i : ℕ). queue_in (lock_at T i))) locks in
          let queues = total-changed (λ (i : ℕ). queue_in (lock_at T i)) (λ (i : ℕ). queue_in (lock_at S i)) l (length S.setting.program.locks) within others in
          let now = rw (same-number l) at (step.locks l) in
          omega (arith, spent.paid, enough, mails, ap (sum_by debt) step.nodes, ap (sum_by credit) step.nodes, same, queues, turns, ap queue_in was, ap queue_in now);
    }
  where
    within : l < length S.setting.program.locks
    within = let there = machine.locks l in let some = rw (was) at there in grind (arith, nat_tests, some)

    others : (i : ℕ) → (l == i) ≡ false → queue_in (lock_at T i) ≡ queue_in (lock_at S i)
    others i apart = let now = rw (apart) at (step.locks i) in ap queue_in now

    by_message : (to : Actor) (message : Message) → bit (seeks_owned T to message) ≤ bit (seeks_owned S to message)
    by_message to (ReadReq word reader) = omega (arith, ap (λ (o : Option BankWord). bit (is_owned o)) (step.homes word.0))
    by_message to (ReadFwd word reader) = omega arith
    by_message to (DataReply word value) = omega arith
    by_message to (RegReq word core) = omega arith
    by_message to (RegFwd word core) = omega arith
    by_message to (RegAck word) = omega arith
    by_message to (WriteBack word value core) = omega arith
    by_message to (WbAck word) = omega arith
    by_message to (Acquire lock core) = omega arith
    by_message to (Release lock core s) = omega arith
    by_message to (Grant lock s) = omega arith
    by_message to (Arrived core bad) = omega arith
    by_message to (Go phase) = omega arith
    by_message to Halt = omega arith

    each : (m : Mail) → mail_count (seeks_owned T) m ≤ mail_count (seeks_owned S) m
    each m = by_message m.to m.message

-- ---- the keeper

-- a message that is sent to all cores, if one is, costs 1
pub record IsLetter (S : State) (m : Message) : Type 0 where
  pub handed : (to : Actor) → is_handed to m ≡ false
  pub register : (to : Actor) → is_register to m ≡ false
  pub reply : (to : Actor) → is_reply to m ≡ false
  pub seek : (to : Actor) → is_seek to m ≡ false
  pub pass : (to : Actor) → is_pass to m ≡ false
  pub owned : (to : Actor) → seeks_owned S to m ≡ false

to-nobody : (p : Test) (n : ℕ) (m : Message) → ((to : Actor) → p to m ≡ false) → to_all p n (Some m) ≡ 0
to-nobody p zero m none = refl
to-nobody p (suc n) m none = omega (arith, to-nobody p n m none, ap bit (none (Core (record { 0 = n }))))

to-each : (n : ℕ) (m : Message) → to_all is_any n (Some m) ≡ n
to-each zero m = refl
to-each (suc n) m = omega (arith, to-each n m)

to-none : (p : Test) (n : ℕ) → to_all p n None ≡ 0
to-none p zero = refl
to-none p (suc n) = refl

pub quiet-spent : (S T : State) (made past : ℕ) (k : Barrier) (left : Option Outgoing) → BarrierStep S T k left None → Spent S made past
    → rounds S ≤ k.phase + bit (all_arrived k) → 1 ≤ cost_of S left → Spent T (made + 1) (past + 0)
quiet-spent S T made past k left step spent less enough =
    record {
      paid =
          let cores = S.setting.shape.cores in
          let homes = same-homes S T step.setting step.banks in
          let queues = same-queues S T step.setting (λ l. rw (step.banks, step.setting) refl) in
          let turns : T.setting.shape.cores * rounds T ≡ S.setting.shape.cores * (k.phase + bit (all_arrived k)) = rw (step.setting, step.keeper) refl in
          let more = mul-le-mul_left S.setting.shape.cores less in
          omega (
            arith,
            spent.paid,
            enough,
            homes,
            step.flown is_any,
            step.flown is_handed,
            step.flown is_register,
            step.flown is_reply,
            step.flown is_seek,
            step.flown is_pass,
            step.flown (seeks_owned S),
            to-none is_any cores,
            to-none is_handed cores,
            to-none is_register cores,
            to-none is_reply cores,
            to-none is_seek cores,
            to-none is_pass cores,
            to-none (seeks_owned S) cores,
            ap (sum_by debt) step.nodes,
            ap (sum_by credit) step.nodes,
            queues,
            turns,
            more,
          );
    }

pub letters-spent : (S T : State) (made past : ℕ) (k : Barrier) (left : Option Outgoing) (m : Message) → BarrierStep S T k left (Some m) → IsLetter S m → Spent S made past
    → rounds S + 1 ≤ k.phase + bit (all_arrived k) → 1 ≤ cost_of S left → Spent T (made + 1) (past + 0)
letters-spent S T made past k left m step letter spent less enough =
    record {
      paid =
          let cores = S.setting.shape.cores in
          let homes = same-homes S T step.setting step.banks in
          let queues = same-queues S T step.setting (λ l. rw (step.banks, step.setting) refl) in
          let turns : T.setting.shape.cores * rounds T ≡ S.setting.shape.cores * (k.phase + bit (all_arrived k)) = rw (step.setting, step.keeper) refl in
          let more = mul-le-mul_left S.setting.shape.cores less in
          omega (
            arith,
            spent.paid,
            enough,
            homes,
            step.flown is_any,
            step.flown is_handed,
            step.flown is_register,
            step.flown is_reply,
            step.flown is_seek,
            step.flown is_pass,
            step.flown (seeks_owned S),
            to-each cores m,
            to-nobody is_handed cores m letter.handed,
            to-nobody is_register cores m letter.register,
            to-nobody is_reply cores m letter.reply,
            to-nobody is_seek cores m letter.seek,
            to-nobody is_pass cores m letter.pass,
            to-nobody (seeks_owned S) cores m letter.owned,
            ap (sum_by debt) step.nodes,
            ap (sum_by credit) step.nodes,
            queues,
            turns,
            more,
          );
    }

-- Every event that may come is one of the ways.
use Rattle.std.proofs.Common.{◌≡◌, ◌⊎◌, inl, inr, ℕ, zero, suc, ◌+◌, ◌<◌, ◌≤◌, Bool, true, false, length, get_or, slice_get, slice_index_or, sum_by, Option, Some, None, refl, sym, ap, subst, ◌∙◌, arith}
use Rattle.std.proofs.lemmas.Option.{slice_get_cases, get_or_from_slice_get}
use Rattle.std.proofs.lemmas.List.Sums.{sum_by-cons}
use Rattle.dn_base.specs.declared.ids.CoreId.{CoreId}
use Rattle.dn_base.specs.declared.ids.WordId.{WordId}
use Rattle.message_net.specs.declared.actor.Actor.{Actor}
use Rattle.message_net.specs.declared.actor.Actor.TheVariants.{Core, Bank, Keeper}
use Rattle.message_net.specs.declared.actor.MailId.{MailId}
use Rattle.message_net.specs.declared.event.Event.{Event}
use Rattle.message_net.specs.declared.event.Event.TheVariants.{Instr, Evict, Arrive, Handle}
use Rattle.message_net.specs.declared.message.Mail.{Mail}
use Rattle.message_net.specs.declared.message.Message.{Message}
use Rattle.message_net.specs.declared.message.Message.TheVariants.{ReadReq, ReadFwd, DataReply, RegReq, RegFwd, RegAck, WriteBack, WbAck, Acquire, Release, Grant, Arrived, Go, Halt}
use Rattle.phase_barrier.specs.declared.keeper.Verdict.{Verdict}
use Rattle.phase_barrier.specs.declared.keeper.Verdict.TheVariants as verdict
use Rattle.phase_barrier.specs.Barrier.{Barrier, with_arrival, decided, in_next_phase, all_arrived, is_over, keeper_gets}
use Rattle.phase_barrier.specs.Letters.{letters, to_each, to_number}
use Rattle.phase_barrier.proofs.CountLemmas.{keeper_gets-arrived, arrives-new}
use Rattle.registration_protocol.specs.Node.{NodeParts}
use Rattle.machine_rules.specs.State.{State}
use Rattle.machine_rules.specs.Flight.{Test, bit, flight, is_arrival_of}
use Rattle.machine_rules.specs.Next.{next, enabled, seen_in, granted_in}
use Rattle.machine_rules.specs.Memory.{store_in}
use Rattle.machine_rules.specs.Coherent.{is_alive, waits_at_keeper}
use Rattle.machine_rules.proofs.Invariant.{Invariant, is_right}
use Rattle.machine_rules.proofs.Steps.{KeeperStep, letter_bit, Handled, handled, keeper-step}
use Rattle.machine_rules.specs.Fair.{request_in}
use Rattle.machine_rules.specs.Accesses.{synchronization_in}
use Rattle.machine_rules.proofs.Outcomes.{Outcomes, Tells, BarrierStep, to_all, stored_to, at_keeper}
use Rattle.machine_rules.proofs.WordCore.{same-number}
use Rattle.machine_rules.proofs.DispatchOwn.{instr-ways, evict-ways, arrive-ways}
use Rattle.machine_rules.proofs.DispatchCore.{counts, goes-right, core-ways}
use Rattle.machine_rules.proofs.DispatchBank.{bank-ways}
use Rattle.machine_rules.proofs.AddressOutcomes.{there-by}

-- ---- the keeper

-- the letters to all cores, counted from the first
each-all : (p : Test) (message : Message) (first n : ℕ) → to_all p (first + n) (Some message) ≡ to_all p first (Some message) + sum_by (letter_bit p) (to_each first n message)
each-all p message first zero =
    let same : first + zero ≡ first = omega arith in
    omega (arith, ap (λ (x : ℕ). to_all p x (Some message)) same)
each-all p message first (suc n) =
    let place : first + suc n ≡ suc first + n = omega arith in
    let next_one : first + 1 ≡ suc first = omega arith in
    let again = each-all p message (suc first) n in
    let rest : sum_by (letter_bit p) (to_each (first + 1) n message) ≡ sum_by (letter_bit p) (to_each (suc first) n message) = ap (λ (x : ℕ). sum_by (letter_bit p) (to_each x n message)) next_one in
    let all = sum_by-cons (letter_bit p) (to_number first message) (to_each (first + 1) n message) in
    omega (arith, ap (λ (x : ℕ). to_all p x (Some message)) place, again, rest, all)

pub letters-all : (p : Test) (cores : ℕ) (message : Message) → sum_by (letter_bit p) (to_each 0 cores message) ≡ to_all p cores (Some message)
letters-all p cores message =
    let same : 0 + cores ≡ cores = omega arith in
    omega (arith, each-all p message 0 cores, ap (λ (x : ℕ). to_all p x (Some message)) same)

keeper-tells : (S : State) (id : MailId) (m : Mail) (core : CoreId) (bad : Bool) → Handled S id m → m.to ≡ Keeper → m.message ≡ Arrived core bad → Tells S (Handle id) None None None None None
unfolding seen_in granted_in store_in synchronization_in request_in
keeper-tells S id m core bad h to is =
    record { seen_is = refl; granted_is = rw (h.took, to) refl; synchronization_is = rw (h.took, to) refl; request_is = rw (h.took, is) refl; store_is = refl }

no-letters : (cores : ℕ) (p : Test) → 0 ≡ to_all p cores None
no-letters zero p = refl
no-letters (suc c) p = refl

-- the keeper's step, by its verdict
barrier-step : (S : State) (id : MailId) (m : Mail) (core : CoreId) (bad : Bool) (k : Barrier) (v : Verdict) (sent : Option Message) → Handled S id m → m.to ≡ Keeper → m.message ≡ Arrived core bad
    → keeper_gets S.keeper (Arrived core bad) ≡ (k, v) → ((p : Test) → sum_by (letter_bit p) (letters S.setting.shape.cores v) ≡ to_all p S.setting.shape.cores sent)
    → BarrierStep S (next S (Handle id)) k (at_keeper (Arrived core bad)) sent
barrier-step S id m core bad k v sent h to is row all =
    record {
      setting = step.setting;
      nodes = step.nodes;
      banks = step.banks;
      keeper = step.keeper ∙ ap (λ (x : Barrier × Verdict). x.0) row;
      flown = λ p. step.flown p ∙ ap (λ (x : ℕ). flight S p + x) (ap (λ (x : Barrier × Verdict). sum_by (letter_bit p) (letters S.setting.shape.cores x.1)) row ∙ all p);
    }
  where
    step : KeeperStep S (next S (Handle id)) (Arrived core bad) (at_keeper (Arrived core bad))
    step =
        subst (λ (a : Actor). KeeperStep S (next S (Handle id)) (Arrived core bad) (Some (record { to = a; message = Arrived core bad }))) to
        (subst (λ (x : Message). KeeperStep S (next S (Handle id)) x (Some (record { to = m.to; message = x }))) is (keeper-step S id m h to))

alive-one : (o : Option NodeParts) → bit (is_alive o) ≤ 1
alive-one o = by_bit (is_alive o) where
  by_bit : (b : Bool) → bit b ≤ 1
  by_bit true = omega arith
  by_bit false = omega arith

-- a core whose arrival is in flight isn't counted yet
unmarked : (S : State) (M : ℕ → ℕ) (core : ℕ) → Invariant S M → 1 ≤ flight S (is_arrival_of core) → slice_get S.keeper.arrived core ≡ Some false
unmarked S M core inv some = by_case (slice_get_cases S.keeper.arrived core).1 where
  within : core < length S.nodes
  within = there-by S core (λ (o : Option NodeParts). bit (is_alive o)) refl (omega (arith, some, inv.phases.row core))

  not-all : all_arrived S.keeper ≡ false
  not-all = by_all (all_arrived S.keeper) refl where
    by_all : (x : Bool) → all_arrived S.keeper ≡ x → all_arrived S.keeper ≡ false
    by_all true all = absurd (omega (arith, some, inv.phases.over all core))
    by_all false all = all

  waits : waits_at_keeper S core ≡ 0
  waits = omega (arith, some, inv.phases.row core, alive-one (slice_get S.nodes core))

  by_mark : (x : Bool) → slice_get S.keeper.arrived core ≡ Some x → get_or S.keeper.arrived core x ≡ x → slice_get S.keeper.arrived core ≡ Some false
  by_mark false is same = is
  by_mark true is same = absurd (marked is)
    where
      marked : slice_get S.keeper.arrived core ≡ Some true → ⊥
      marked is =
          let here : slice_index_or S.keeper.arrived core false ≡ true = get_or_from_slice_get S.keeper.arrived core true false is in
          let one = rw (not-all, here) at waits in
          omega (arith, one)

  by_case : ((x : Bool) × (core < length S.keeper.arrived) × (slice_get S.keeper.arrived core ≡ Some x) × (get_or S.keeper.arrived core x ≡ x)) ⊎ ((length S.keeper.arrived ≤ core) × (slice_get S.keeper.arrived core ≡ None))
      → slice_get S.keeper.arrived core ≡ Some false
  by_case (inl (x, in_list, is, same)) = by_mark x is same
  by_case (inr (past, is)) = absurd (omega (arith, within, past, inv.machine.nodes, inv.machine.cores))

arrived-way : (S : State) (M : ℕ → ℕ) (id : MailId) (m : Mail) (core : CoreId) (bad : Bool) (G : (ℕ → ℕ) → Type 0) → Invariant S M → Handled S id m → m.to ≡ Keeper → m.message ≡ Arrived core bad
    → Outcomes S M (Handle id) G → G M
arrived-way S M id m core bad G inv h to is outcomes = by_all (all_arrived (with_arrival core.0 bad S.keeper)) refl where
  one : 1 ≤ flight S (is_arrival_of core.0)
  one =
      let counted_here = subst (λ (x : Message). bit (is_arrival_of core.0 m.to x) ≤ flight S (is_arrival_of core.0)) is (counts S id m (is_arrival_of core.0) h) in
      rw (same-number core.0) at counted_here

  new : slice_get S.keeper.arrived core.0 ≡ Some false
  new = unmarked S M core.0 inv one

  row : keeper_gets S.keeper (Arrived core bad) ≡ decided (with_arrival core.0 bad S.keeper)
  row = keeper_gets-arrived S.keeper core bad ∙ arrives-new S.keeper core.0 bad new

  tells : Tells S (Handle id) None None None None None
  tells = keeper-tells S id m core bad h to is

  by_over : all_arrived (with_arrival core.0 bad S.keeper) ≡ true → (x : Bool) → is_over (with_arrival core.0 bad S.keeper) ≡ x → G M
  by_over all true over =
      let now : keeper_gets S.keeper (Arrived core bad) ≡ (with_arrival core.0 bad S.keeper, verdict.Halt) = row ∙ (rw (all, over) refl) in
      outcomes.all_halt core bad new all over tells (barrier-step S id m core bad (with_arrival core.0 bad S.keeper) verdict.Halt (Some Halt) h to is now (λ p. letters-all p S.setting.shape.cores Halt))
  by_over all false over =
      let now : keeper_gets S.keeper (Arrived core bad) ≡ (in_next_phase (with_arrival core.0 bad S.keeper), verdict.Go (record { 0 = S.keeper.phase + 1 })) = row ∙ (rw (all, over) refl) in
      outcomes.all_go core bad new all over tells
      (barrier-step S id m core bad (in_next_phase (with_arrival core.0 bad S.keeper)) (verdict.Go (record { 0 = S.keeper.phase + 1 })) (Some (Go (record { 0 = S.keeper.phase + 1 }))) h to is now
      (λ p. letters-all p S.setting.shape.cores (Go (record { 0 = S.keeper.phase + 1 }))))

  by_all : (x : Bool) → all_arrived (with_arrival core.0 bad S.keeper) ≡ x → G M
  by_all false more =
      let now : keeper_gets S.keeper (Arrived core bad) ≡ (with_arrival core.0 bad S.keeper, verdict.Wait) = row ∙ (rw (more) refl) in
      outcomes.arrived core bad new more tells (barrier-step S id m core bad (with_arrival core.0 bad S.keeper) verdict.Wait None h to is now (λ p. no-letters S.setting.shape.cores p))
  by_all true all = by_over all (is_over (with_arrival core.0 bad S.keeper)) refl

keeper-ways : (S : State) (M : ℕ → ℕ) (id : MailId) (m : Mail) (G : (ℕ → ℕ) → Type 0) → Invariant S M → Handled S id m → m.to ≡ Keeper → Outcomes S M (Handle id) G → G M
keeper-ways S M id m G inv h to outcomes = by_message m.message refl where
  right : is_right S.setting.shape.cores S.setting.shape.banks Keeper m.message ≡ true
  right = subst (λ (a : Actor). is_right S.setting.shape.cores S.setting.shape.banks a m.message ≡ true) to (goes-right S M id m inv h)

  by_message : (message : Message) → m.message ≡ message → G M
  by_message (Arrived core bad) is = arrived-way S M id m core bad G inv h to is outcomes
  by_message (ReadReq word reader) is = let wrong = rw (is) at right in absurd (cc)
  by_message (ReadFwd word reader) is = let wrong = rw (is) at right in absurd (cc)
  by_message (DataReply word value) is = let wrong = rw (is) at right in absurd (cc)
  by_message (RegReq word c) is = let wrong = rw (is) at right in absurd (cc)
  by_message (RegFwd word c) is = let wrong = rw (is) at right in absurd (cc)
  by_message (RegAck word) is = let wrong = rw (is) at right in absurd (cc)
  by_message (WriteBack word value c) is = let wrong = rw (is) at right in absurd (cc)
  by_message (WbAck word) is = let wrong = rw (is) at right in absurd (cc)
  by_message (Acquire lock c) is = let wrong = rw (is) at right in absurd (cc)
  by_message (Release lock c s) is = let wrong = rw (is) at right in absurd (cc)
  by_message (Grant lock s) is = let wrong = rw (is) at right in absurd (cc)
  by_message (Go phase) is = let wrong = rw (is) at right in absurd (cc)
  by_message Halt is = let wrong = rw (is) at right in absurd (cc)

-- ---- all events

-- handling a mail stores nothing
handle-stores : (S : State) (id : MailId) → store_in S (Handle id) ≡ None
unfolding store_in
handle-stores S id = refl

pub ways : (S : State) (M : ℕ → ℕ) (e : Event) (G : (ℕ → ℕ) → Type 0) → Invariant S M → enabled S e ≡ true → Outcomes S M e G → G (stored_to (store_in S e) M)
ways S M (Instr core) G inv may outcomes = instr-ways S M core G inv may outcomes
ways S M (Evict core word) G inv may outcomes = evict-ways S M core word G inv may outcomes
ways S M (Arrive core) G inv may outcomes = arrive-ways S M core G inv may outcomes
ways S M (Handle id) G inv may outcomes = subst (λ (o : Option (WordId × ℕ)). G (stored_to o M)) (sym (handle-stores S id)) (by_mail (handled S id may)) where
  by_mail : (m : Mail) × Handled S id m → G M
  by_mail (m, h) = by_actor m.to refl where
    by_actor : (a : Actor) → m.to ≡ a → G M
    by_actor (Core core) to = core-ways S M id m core G inv h to outcomes
    by_actor (Bank bank) to = bank-ways S M id m bank G inv h to outcomes
    by_actor Keeper to = keeper-ways S M id m G inv h to outcomes

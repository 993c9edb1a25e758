-- The mails in flight between two actors are few: by who sends a message of its kind, and who gets one.
use Rattle.std.proofs.Common.{◌≡◌, ℕ, zero, suc, ◌+◌, ◌≤◌, ◌&&◌, not, Bool, true, false, List, slice_get, Some, refl, sym, subst, ◌∙◌, arith}
use Rattle.std.proofs.lemmas.Bool.{and_parts}
use Rattle.dn_base.specs.declared.ids.CoreId.{CoreId}
use Rattle.dn_base.specs.declared.ids.BankId.{BankId}
use Rattle.message_net.specs.declared.actor.Actor.{Actor}
use Rattle.message_net.specs.declared.actor.Actor.TheVariants.{Core, Bank, Keeper}
use Rattle.message_net.specs.declared.event.Event.{Event}
use Rattle.message_net.specs.declared.message.Mail.{Mail}
use Rattle.message_net.specs.declared.message.Message.{Message}
use Rattle.message_net.specs.declared.message.Message.TheVariants.{ReadReq, ReadFwd, DataReply, RegReq, RegFwd, RegAck, WriteBack, WbAck, Acquire, Release, Grant, Arrived, Go, Halt}
use Rattle.message_net.specs.Id.{same_actor}
use Rattle.message_net.proofs.PoolLemmas.{same_actor-true}
use Rattle.registration_protocol.specs.Node.{Setting}
use Rattle.machine_rules.specs.State.{State, initial_state}
use Rattle.machine_rules.specs.Flight.{bit, mail_count, weighs, flight}
use Rattle.machine_rules.specs.Runs.{after, IsRun}
use Rattle.machine_rules.specs.Sound.{IsWellFormed}
use Rattle.machine_rules.specs.Buffers.{core_mails_most, is_between, between, between_most}
use Rattle.machine_rules.proofs.Invariant.{Invariant, is_core, is_right}
use Rattle.machine_rules.proofs.Found.{item-within, sums-within}
use Rattle.machine_rules.proofs.WordCore.{same-number}
use Rattle.machine_rules.proofs.Spending.{total}
use Rattle.machine_rules.proofs.Totals.{total-part}
use Rattle.machine_rules.proofs.OpenedFacts.{opened-setting}
use Rattle.machine_rules.proofs.OpenedSound.{opened-sound}
use Rattle.machine_rules.proofs.RunsKept.{memory_over, run-setting}
use Rattle.machine_rules.proofs.RunsCoherent.{first_memory, well-all}
use Rattle.machine_rules.proofs.Senders.{is_sent, unsent, AreSent, sent-run, opened-sent}
use Rattle.machine_rules.proofs.Buffers.{is_entry_mail_of, is_awaited_by, is_release, core_of, of_core, sum-none, sum-both, sum-total, total-most, entries-few, awaited-few, releases-few, goes-right, core-there, each-one, cache-few, core-few}

-- ---- the kinds of message between two actors

core-core : (cores banks : ℕ) (a b : CoreId) (message : Message) → is_sent (Core a) message ≡ true → is_right cores banks (Core b) message ≡ true
    → 1 ≤ bit (is_entry_mail_of b.0 (Core b) message) + bit (is_awaited_by b.0 (Core b) message)
core-core cores banks a b (DataReply word value) sent right = rw (same-number b.0) (omega arith)
core-core cores banks a b (RegAck word) sent right = rw (same-number b.0) (omega arith)
core-core cores banks a b (ReadReq word reader) sent right = absurd (cc)
core-core cores banks a b (RegReq word core) sent right = absurd (cc)
core-core cores banks a b (WriteBack word value core) sent right = absurd (cc)
core-core cores banks a b (Acquire lock core) sent right = absurd (cc)
core-core cores banks a b (Release lock core signature) sent right = absurd (cc)
core-core cores banks a b (Arrived core bad) sent right = absurd (cc)
core-core cores banks a b (ReadFwd word reader) sent right = absurd (cc)
core-core cores banks a b (RegFwd word core) sent right = absurd (cc)
core-core cores banks a b (WbAck word) sent right = absurd (cc)
core-core cores banks a b (Grant lock signature) sent right = absurd (cc)
core-core cores banks a b (Go phase) sent right = absurd (cc)
core-core cores banks a b Halt sent right = absurd (cc)

core-bank : (cores banks : ℕ) (a : CoreId) (b : BankId) (message : Message) → is_sent (Core a) message ≡ true → is_right cores banks (Bank b) message ≡ true
    → 1 ≤ bit (is_entry_mail_of a.0 (Bank b) message) + bit (is_awaited_by (core_of (Bank b) message) (Bank b) message) + bit (is_release (Bank b) message)
core-bank cores banks a b (ReadReq word reader) sent right = rw (same-number reader.0) (omega arith)
core-bank cores banks a b (RegReq word core) sent right = rw (sent) (omega arith)
core-bank cores banks a b (WriteBack word value core) sent right = rw (sent) (omega arith)
core-bank cores banks a b (Acquire lock core) sent right = rw (same-number core.0) (omega arith)
core-bank cores banks a b (Release lock core signature) sent right = omega arith
core-bank cores banks a b (DataReply word value) sent right = absurd (cc)
core-bank cores banks a b (RegAck word) sent right = absurd (cc)
core-bank cores banks a b (Arrived core bad) sent right = absurd (cc)
core-bank cores banks a b (ReadFwd word reader) sent right = absurd (cc)
core-bank cores banks a b (RegFwd word core) sent right = absurd (cc)
core-bank cores banks a b (WbAck word) sent right = absurd (cc)
core-bank cores banks a b (Grant lock signature) sent right = absurd (cc)
core-bank cores banks a b (Go phase) sent right = absurd (cc)
core-bank cores banks a b Halt sent right = absurd (cc)

core-keeper : (cores banks : ℕ) (a : CoreId) (message : Message) → is_sent (Core a) message ≡ true → is_right cores banks Keeper message ≡ true → 1 ≤ bit (is_awaited_by a.0 Keeper message)
core-keeper cores banks a (Arrived core bad) sent right = rw (sent) (omega arith)
core-keeper cores banks a (ReadReq word reader) sent right = absurd (cc)
core-keeper cores banks a (RegReq word core) sent right = absurd (cc)
core-keeper cores banks a (WriteBack word value core) sent right = absurd (cc)
core-keeper cores banks a (Acquire lock core) sent right = absurd (cc)
core-keeper cores banks a (Release lock core signature) sent right = absurd (cc)
core-keeper cores banks a (DataReply word value) sent right = absurd (cc)
core-keeper cores banks a (RegAck word) sent right = absurd (cc)
core-keeper cores banks a (ReadFwd word reader) sent right = absurd (cc)
core-keeper cores banks a (RegFwd word core) sent right = absurd (cc)
core-keeper cores banks a (WbAck word) sent right = absurd (cc)
core-keeper cores banks a (Grant lock signature) sent right = absurd (cc)
core-keeper cores banks a (Go phase) sent right = absurd (cc)
core-keeper cores banks a Halt sent right = absurd (cc)

to-core : (cores banks : ℕ) (b : CoreId) (message : Message) → is_right cores banks (Core b) message ≡ true → bit (is_release (Core b) message) ≡ 0
to-core cores banks b (Release lock core signature) right = absurd (cc)
to-core cores banks b (ReadReq word reader) right = refl
to-core cores banks b (ReadFwd word reader) right = refl
to-core cores banks b (DataReply word value) right = refl
to-core cores banks b (RegReq word core) right = refl
to-core cores banks b (RegFwd word core) right = refl
to-core cores banks b (RegAck word) right = refl
to-core cores banks b (WriteBack word value core) right = refl
to-core cores banks b (WbAck word) right = refl
to-core cores banks b (Acquire lock core) right = refl
to-core cores banks b (Grant lock signature) right = refl
to-core cores banks b (Arrived core bad) right = refl
to-core cores banks b (Go phase) right = refl
to-core cores banks b Halt right = refl

keeper-core : (b : CoreId) (message : Message) → is_sent Keeper message ≡ true → 1 ≤ bit (is_awaited_by b.0 (Core b) message)
keeper-core b (Go phase) sent = rw (same-number b.0) (omega arith)
keeper-core b Halt sent = rw (same-number b.0) (omega arith)
keeper-core b (ReadReq word reader) sent = absurd (cc)
keeper-core b (ReadFwd word reader) sent = absurd (cc)
keeper-core b (DataReply word value) sent = absurd (cc)
keeper-core b (RegReq word core) sent = absurd (cc)
keeper-core b (RegFwd word core) sent = absurd (cc)
keeper-core b (RegAck word) sent = absurd (cc)
keeper-core b (WriteBack word value core) sent = absurd (cc)
keeper-core b (WbAck word) sent = absurd (cc)
keeper-core b (Acquire lock core) sent = absurd (cc)
keeper-core b (Release lock core signature) sent = absurd (cc)
keeper-core b (Grant lock signature) sent = absurd (cc)
keeper-core b (Arrived core bad) sent = absurd (cc)

-- no message goes from a bank, or from the keeper, to a bank or to the keeper
bank-none : (cores banks : ℕ) (a : BankId) (to : Actor) (message : Message) → ((k : ℕ) → is_core k to ≡ false) → is_sent (Bank a) message ≡ true → is_right cores banks to message ≡ true → ⊥
bank-none cores banks a to (ReadFwd word reader) away sent right = let never = sym (away cores) ∙ right in absurd (cc)
bank-none cores banks a to (DataReply word value) away sent right = let never = sym (away cores) ∙ right in absurd (cc)
bank-none cores banks a to (RegFwd word core) away sent right = let never = sym (away cores) ∙ right in absurd (cc)
bank-none cores banks a to (RegAck word) away sent right = let never = sym (away cores) ∙ right in absurd (cc)
bank-none cores banks a to (WbAck word) away sent right = let never = sym (away cores) ∙ right in absurd (cc)
bank-none cores banks a to (Grant lock signature) away sent right = let never = sym (away cores) ∙ right in absurd (cc)
bank-none cores banks a to (ReadReq word reader) away sent right = absurd (cc)
bank-none cores banks a to (RegReq word core) away sent right = absurd (cc)
bank-none cores banks a to (WriteBack word value core) away sent right = absurd (cc)
bank-none cores banks a to (Acquire lock core) away sent right = absurd (cc)
bank-none cores banks a to (Release lock core signature) away sent right = absurd (cc)
bank-none cores banks a to (Arrived core bad) away sent right = absurd (cc)
bank-none cores banks a to (Go phase) away sent right = absurd (cc)
bank-none cores banks a to Halt away sent right = absurd (cc)

keeper-none : (cores banks : ℕ) (to : Actor) (message : Message) → ((k : ℕ) → is_core k to ≡ false) → is_sent Keeper message ≡ true → is_right cores banks to message ≡ true → ⊥
keeper-none cores banks to (Go phase) away sent right = let never = sym (away cores) ∙ right in absurd (cc)
keeper-none cores banks to Halt away sent right = let never = sym (away cores) ∙ right in absurd (cc)
keeper-none cores banks to (ReadReq word reader) away sent right = absurd (cc)
keeper-none cores banks to (ReadFwd word reader) away sent right = absurd (cc)
keeper-none cores banks to (DataReply word value) away sent right = absurd (cc)
keeper-none cores banks to (RegReq word core) away sent right = absurd (cc)
keeper-none cores banks to (RegFwd word core) away sent right = absurd (cc)
keeper-none cores banks to (RegAck word) away sent right = absurd (cc)
keeper-none cores banks to (WriteBack word value core) away sent right = absurd (cc)
keeper-none cores banks to (WbAck word) away sent right = absurd (cc)
keeper-none cores banks to (Acquire lock core) away sent right = absurd (cc)
keeper-none cores banks to (Release lock core signature) away sent right = absurd (cc)
keeper-none cores banks to (Grant lock signature) away sent right = absurd (cc)
keeper-none cores banks to (Arrived core bad) away sent right = absurd (cc)

-- ---- all of them

module _ (S : State) (M : ℕ → ℕ) (inv : Invariant S M) (good : AreSent S) where
  is-sent : (b : Bool) → bit (not b) ≤ 0 → b ≡ true
  is-sent true none = refl
  is-sent false none = absurd (omega (arith, none))

  -- by a weight of which each mail between the two has some
  within : (from to : Actor) (w : Mail → ℕ)
      → ((place : ℕ) (m : Mail) → slice_get S.mails place ≡ Some m → m.to ≡ to → is_sent from m.message ≡ true → is_right S.setting.shape.cores S.setting.shape.banks to m.message ≡ true → 1 ≤ w m)
      → between S from to ≤ weighs S w
  within from to w some = sums-within (is_between from to) w S.mails each where
    each : (place : ℕ) (m : Mail) → slice_get S.mails place ≡ Some m → is_between from to m ≤ w m
    each place m there = by_test (same_actor m.id.sender from && same_actor m.to to) refl where
      by_test : (b : Bool) → (same_actor m.id.sender from && same_actor m.to to) ≡ b → bit b ≤ w m
      by_test false e = omega arith
      by_test true e =
          let both = and_parts (same_actor m.id.sender from) (same_actor m.to to) e in
          let sender : m.id.sender ≡ from = same_actor-true m.id.sender from both.0 in
          let receiver : m.to ≡ to = same_actor-true m.to to both.1 in
          let sent = is-sent (is_sent m.id.sender m.message) (omega (arith, good, item-within unsent S.mails place m there)) in
          some place m there receiver (subst (λ (a : Actor). is_sent a m.message ≡ true) sender sent)
          (subst (λ (a : Actor). is_right S.setting.shape.cores S.setting.shape.banks a m.message ≡ true) receiver (goes-right S M inv place m there))

  none : (from to : Actor) → ((message : Message) → is_sent from message ≡ true → is_right S.setting.shape.cores S.setting.shape.banks to message ≡ true → ⊥) → between S from to ≤ 0
  none from to never =
      let all = within from to (λ (m : Mail). 0) (λ place m there receiver sent right. absurd (never m.message sent right)) in
      omega (arith, all, sum-none S.mails)

  pub between-few : (from to : Actor) → between S from to ≤ between_most S.setting from to
  between-few (Core a) (Core b) =
      let all = within (Core a) (Core b) (of_core b.0) (λ place m there receiver sent right. subst (λ (x : Actor). 1 ≤ bit (is_entry_mail_of b.0 x m.message) + bit (is_awaited_by b.0 x m.message)) (sym receiver)
      (core-core S.setting.shape.cores S.setting.shape.banks a b m.message sent right)) in
      omega (arith, all, core-few S M inv b.0)
  between-few (Core a) Keeper =
      let all = within (Core a) Keeper (mail_count (is_awaited_by a.0)) (λ place m there receiver sent right. subst (λ (x : Actor). 1 ≤ bit (is_awaited_by a.0 x m.message)) (sym receiver)
      (core-keeper S.setting.shape.cores S.setting.shape.banks a m.message sent right)) in
      omega (arith, all, awaited-few S M inv a.0)
  between-few Keeper (Core b) =
      let all = within Keeper (Core b) (mail_count (is_awaited_by b.0)) (λ place m there receiver sent right. subst (λ (x : Actor). 1 ≤ bit (is_awaited_by b.0 x m.message)) (sym receiver) (keeper-core b m.message sent)) in
      omega (arith, all, awaited-few S M inv b.0)
  between-few (Bank a) (Core b) =
      let some : Mail → ℕ = λ m. total (λ (c : ℕ). of_core c m) S.setting.shape.cores in
      let all = within (Bank a) (Core b) some (λ place m there receiver sent right.
      let other : bit (is_release m.to m.message) ≡ 0 = subst (λ (x : Actor). bit (is_release x m.message) ≡ 0) (sym receiver) (to-core S.setting.shape.cores S.setting.shape.banks b m.message right) in
      omega (arith, each-one S M inv place m there, other)) in
      omega (arith, all, sum-total of_core S.mails S.setting.shape.cores, total-most (λ (c : ℕ). weighs S (of_core c)) S.setting.shape.cores (core_mails_most S.setting) (core-few S M inv))
  between-few (Core a) (Bank b) =
      let waits : Mail → ℕ = λ m. total (λ (c : ℕ). mail_count (is_awaited_by c) m) S.setting.shape.cores in
      let two : Mail → ℕ = λ m. mail_count (is_entry_mail_of a.0) m + waits m in
      let all = within (Core a) (Bank b) (λ (m : Mail). two m + mail_count is_release m) some in
      omega (
        arith,
        all,
        sum-both two (mail_count is_release) S.mails,
        sum-both (mail_count (is_entry_mail_of a.0)) waits S.mails,
        sum-total (λ (c : ℕ). mail_count (is_awaited_by c)) S.mails S.setting.shape.cores,
        total-most (λ (c : ℕ). flight S (is_awaited_by c)) S.setting.shape.cores 1 (awaited-few S M inv),
        entries-few S M inv a.0,
        cache-few S M inv a.0,
        releases-few S M inv,
      )
    where
      some : (place : ℕ) (m : Mail) → slice_get S.mails place ≡ Some m → m.to ≡ Bank b → is_sent (Core a) m.message ≡ true → is_right S.setting.shape.cores S.setting.shape.banks (Bank b) m.message ≡ true
          → 1 ≤ mail_count (is_entry_mail_of a.0) m + total (λ (c : ℕ). mail_count (is_awaited_by c) m) S.setting.shape.cores + mail_count is_release m
      some place m there receiver sent right = by_count (mail_count (is_awaited_by c) m) refl where
        c : ℕ
        c = core_of m.to m.message

        kind : 1 ≤ mail_count (is_entry_mail_of a.0) m + mail_count (is_awaited_by c) m + mail_count is_release m
        kind =
            subst (λ (x : Actor). 1 ≤ bit (is_entry_mail_of a.0 x m.message) + bit (is_awaited_by (core_of x m.message) x m.message) + bit (is_release x m.message)) (sym receiver)
            (core-bank S.setting.shape.cores S.setting.shape.banks a b m.message sent right)

        by_count : (k : ℕ) → mail_count (is_awaited_by c) m ≡ k → 1 ≤ mail_count (is_entry_mail_of a.0) m + total (λ (x : ℕ). mail_count (is_awaited_by x) m) S.setting.shape.cores + mail_count is_release m
        by_count zero e = omega (arith, kind, e)
        by_count (suc k) e =
            let inside = core-there S M inv place m c there (omega (arith, e)) in
            omega (arith, e, total-part (λ (x : ℕ). mail_count (is_awaited_by x) m) S.setting.shape.cores c inside)
  between-few (Bank a) (Bank b) = none (Bank a) (Bank b) (λ message sent right. bank-none S.setting.shape.cores S.setting.shape.banks a (Bank b) message (λ k. refl) sent right)
  between-few (Bank a) Keeper = none (Bank a) Keeper (λ message sent right. bank-none S.setting.shape.cores S.setting.shape.banks a Keeper message (λ k. refl) sent right)
  between-few Keeper (Bank b) = none Keeper (Bank b) (λ message sent right. keeper-none S.setting.shape.cores S.setting.shape.banks (Bank b) message (λ k. refl) sent right)
  between-few Keeper Keeper = none Keeper Keeper (λ message sent right. keeper-none S.setting.shape.cores S.setting.shape.banks Keeper message (λ k. refl) sent right)

-- ---- every run

pub well-between : (C : Setting) (events : List Event) (from to : Actor) → IsWellFormed C → IsRun (initial_state C) events → between (after (initial_state C) events) from to ≤ between_most C from to
well-between C events from to well run =
    let S : State = after (initial_state C) events in
    let few = between-few S (memory_over (first_memory C) (initial_state C) events) (well-all C events well run).1 (sent-run (initial_state C) 0 events (opened-sound C well) run (opened-sent C)) from to in
    subst (λ (D : Setting). between S from to ≤ between_most D from to) (run-setting (initial_state C) events ∙ opened-setting C) few

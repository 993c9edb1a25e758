-- Every event is paid: by an instruction that has retired, or by what was lent for it.
use Rattle.std.proofs.Common.{◌≡◌, ◌⊎◌, inl, inr, ℕ, zero, suc, ◌+◌, ◌≤◌, ◌==◌, ◌&&◌, ◌||◌, Bool, true, false, cond, [], ◌∷◌, ◌++◌, length, slice_get, Option, Some, None, refl, sym, ap, subst, ◌∙◌, arith, length-append}
use Rattle.std.proofs.lemmas.Bool.Decides.{nat_tests}
use Rattle.std.proofs.lemmas.List.Sums.{sum_by-le-sum_by}
use Rattle.dn_base.specs.declared.ids.WordId.{WordId}
use Rattle.dn_base.specs.declared.ids.CoreId.{CoreId}
use Rattle.dn_base.specs.declared.ids.LockId.{LockId}
use Rattle.dn_base.specs.declared.ids.PhaseId.{PhaseId}
use Rattle.dn_base.specs.declared.ids.BankId.{BankId}
use Rattle.region_table.specs.declared.declared.TaskDecl.{TaskDecl}
use Rattle.region_table.specs.Plan.{uses_plainly}
use Rattle.region_table.specs.Tasks.{declared}
use Rattle.rv_core.specs.declared.task.TaskState.{TaskState}
use Rattle.rv_core.specs.declared.need.Need as need
use Rattle.rv_core.specs.declared.need.Need.{Need}
use Rattle.rv_core.specs.Kinds.{IsLoad, IsAdvance}
use Rattle.rv_core.specs.Need.{need_of}
use Rattle.rv_core.specs.Step.{advanced, loaded_of}
use Rattle.message_net.specs.declared.actor.Actor.{Actor}
use Rattle.message_net.specs.declared.actor.Actor.TheVariants.{Core, Bank}
use Rattle.message_net.specs.declared.event.Event.{Event}
use Rattle.message_net.specs.declared.message.Mail.{Mail}
use Rattle.message_net.specs.declared.message.Message.{Message}
use Rattle.message_net.specs.declared.message.Message.TheVariants.{ReadReq, ReadFwd, DataReply, RegReq, RegFwd, RegAck, WriteBack, WbAck, Acquire, Release, Grant, Arrived, Go, Halt}
use Rattle.message_net.specs.declared.message.Outgoing.{Outgoing}
use Rattle.message_net.specs.Mail.{to_home}
use Rattle.message_net.proofs.PoolLemmas.{weight-somewhere, weight-within, weight-both}
use Rattle.word_cache.specs.declared.row.Entry.{Entry}
use Rattle.word_cache.specs.declared.row.Entry.TheVariants.{Valid, Registered, Leaving}
use Rattle.word_cache.specs.Cache.{AreDifferent, is_fresh}
use Rattle.word_cache.proofs.WeightLemmas.{count-touched, count-fewer}
use Rattle.registry_bank.specs.declared.bank.BankWord.{BankWord}
use Rattle.registry_bank.specs.declared.bank.BankWord.TheVariants.{Home, Reg}
use Rattle.phase_barrier.proofs.CountLemmas.{missing-one}
use Rattle.registration_protocol.specs.Node.{NodeParts, entry_of}
use Rattle.registration_protocol.specs.Messages.{begins, guarded_by, written_in}
use Rattle.machine_rules.specs.State.{State, entry_at, home_at}
use Rattle.machine_rules.specs.Flight.{Test, bit, mail_count, flight, is_reg_req_of, is_read_req_of, is_read_fwd_to}
use Rattle.machine_rules.specs.Next.{next}
use Rattle.machine_rules.specs.Coherent.{owned_value}
use Rattle.machine_rules.proofs.Bits.{passes, pending_bit, settled_bit, leaving_bit, owner_bit}
use Rattle.machine_rules.proofs.BitLemmas.{owner-bit}
use Rattle.machine_rules.proofs.Invariant.{Invariant}
use Rattle.machine_rules.proofs.Steps.{NodeStep}
use Rattle.machine_rules.proofs.Outcomes.{Outcomes, WordStep}
use Rattle.machine_rules.proofs.WordCore.{same-number}
use Rattle.machine_rules.proofs.Spending.{is_owned, seeks_owned, cost_of, debt, credit, works, earned, lent, Spent, Spends, EndsPhase}
use Rattle.machine_rules.proofs.SpendSteps.{node-spent, word-spent, content-spent, lock-spent, quiet-spent, letters-spent}
use Rattle.machine_rules.proofs.SpendNodes.{put-works, changed-works, without-works, phase-works, earned-advanced, earned-loaded, earned-stopped, earned-started, lent-most, ready-lent}

-- an event in which no phase ends for a core
even : (S T : State) (made past : ℕ) → Spent T (made + 1) (past + 0) → Spends S T made past
even S T made past spent = record { due = 0; earns = inl refl; spent = spent }

by-node : (S T : State) (made past : ℕ) {core : ℕ} {n m : NodeParts} {left sent : Option Outgoing} → NodeStep S T core n m left sent → Spent S made past
    → 1 + (cost_of S sent + debt m + credit n) ≤ cost_of S left + debt n + credit m + 0 → Spends S T made past
by-node S T made past {core} {n} {m} {left} {sent} step spent enough = even S T made past (node-spent S T made past 0 core n m left sent step spent enough)

-- ---- a word whose home gets a registrant

abbrev seeks_word : ℕ → Test
seeks_word w to (ReadReq word reader) = word.0 == w
seeks_word w to _ = false

-- who seeks a word
seeker : (w : ℕ) (to : Actor) (message : Message) → 1 ≤ bit (seeks_word w to message) → (c : ℕ) × (1 ≤ bit (is_read_req_of w c to message))
seeker w to (ReadReq word reader) some = (reader.0, rw (same-number reader.0) (by_test (word.0 == w) some)) where
  by_test : (t : Bool) → 1 ≤ bit t → 1 ≤ bit (t && true)
  by_test true some = omega arith
  by_test false some = absurd (omega (arith, some))
seeker w to (ReadFwd word reader) some = absurd (omega (arith, some))
seeker w to (DataReply word value) some = absurd (omega (arith, some))
seeker w to (RegReq word core) some = absurd (omega (arith, some))
seeker w to (RegFwd word core) some = absurd (omega (arith, some))
seeker w to (RegAck word) some = absurd (omega (arith, some))
seeker w to (WriteBack word value core) some = absurd (omega (arith, some))
seeker w to (WbAck word) some = absurd (omega (arith, some))
seeker w to (Acquire lock core) some = absurd (omega (arith, some))
seeker w to (Release lock core s) some = absurd (omega (arith, some))
seeker w to (Grant lock s) some = absurd (omega (arith, some))
seeker w to (Arrived core bad) some = absurd (omega (arith, some))
seeker w to (Go phase) some = absurd (omega (arith, some))
seeker w to Halt some = absurd (omega (arith, some))

none-sought : (S : State) (w : ℕ) → ((c : ℕ) → flight S (is_read_req_of w c) ≡ 0) → flight S (seeks_word w) ≡ 0
none-sought S w none = by_count (flight S (seeks_word w)) refl where
  by_mail : (place : ℕ) × (m : Mail) × (slice_get S.mails place ≡ Some m) × (1 ≤ mail_count (seeks_word w) m) → ⊥
  by_mail (place, m, here, some) =
      let who = seeker w m.to m.message some in
      absurd (omega (arith, who.1, none who.0, weight-within (mail_count (is_read_req_of w who.0)) S.mails place m here))

  by_count : (x : ℕ) → flight S (seeks_word w) ≡ x → flight S (seeks_word w) ≡ 0
  by_count zero is = is
  by_count (suc x) is = absurd (by_mail (weight-somewhere (mail_count (seeks_word w)) S.mails (omega (arith, is))))

-- nobody seeks the word, so no more is to come of the mails in flight
unsought-less : (S T : State) (w : ℕ) (content : BankWord) → ((v : ℕ) → home_at T v ≡ cond (w == v) (Some content) (home_at S v)) → flight T (seeks_word w) ≡ 0
    → flight T (seeks_owned T) ≤ flight T (seeks_owned S)
unsought-less S T w content homes none =
    omega (
      arith,
      none,
      sum_by-le-sum_by (mail_count (seeks_owned T)) (λ (m : Mail). mail_count (seeks_owned S) m + mail_count (seeks_word w) m) T.mails each,
      weight-both (mail_count (seeks_owned S)) (mail_count (seeks_word w)) T.mails,
    )
  where
    bit-most : (b : Bool) → bit b ≤ 1
    bit-most true = omega arith
    bit-most false = omega arith

    here : (v : ℕ) → bit (is_owned (home_at T v)) ≤ bit (is_owned (home_at S v)) + bit (v == w)
    here v = by_test (w == v) refl where
      by_test : (t : Bool) → (w == v) ≡ t → bit (is_owned (home_at T v)) ≤ bit (is_owned (home_at S v)) + bit (v == w)
      by_test true e =
          let one : bit (v == w) ≡ 1 = grind (arith, nat_tests, e) in
          omega (arith, one, bit-most (is_owned (home_at T v)))
      by_test false e =
          let now = rw (e) at (homes v) in
          omega (arith, ap (λ (o : Option BankWord). bit (is_owned o)) now)

    by_message : (to : Actor) (message : Message) → bit (seeks_owned T to message) ≤ bit (seeks_owned S to message) + bit (seeks_word w to message)
    by_message to (ReadReq word reader) = here word.0
    by_message to (ReadFwd word reader) = omega arith
    by_message to (DataReply word value) = omega arith
    by_message to (RegReq word core) = omega arith
    by_message to (RegFwd word core) = omega arith
    by_message to (RegAck word) = omega arith
    by_message to (WriteBack word value core) = omega arith
    by_message to (WbAck word) = omega arith
    by_message to (Acquire lock core) = omega arith
    by_message to (Release lock core s) = omega arith
    by_message to (Grant lock s) = omega arith
    by_message to (Arrived core bad) = omega arith
    by_message to (Go phase) = omega arith
    by_message to Halt = omega arith

    each : (m : Mail) → mail_count (seeks_owned T) m ≤ mail_count (seeks_owned S) m + mail_count (seeks_word w) m
    each m = by_message m.to m.message

register-home : (S T : State) (M : ℕ → ℕ) (made past : ℕ) (bank : BankId) (word : WordId) (core : CoreId) → Invariant S M → Spent S made past
    → WordStep S T word.0 (Reg core) (Some (record { to = Bank bank; message = RegReq word core })) (Some (record { to = Core core; message = RegAck word })) → Spent T (made + 1) (past + 0)
register-home S T M made past bank word core inv spent step =
    word-spent S T made past word.0 (Reg core) _ _ step spent (unsought-less S T word.0 (Reg core) step.homes none) (omega arith)
  where
    asked : 1 ≤ pending_bit (entry_at S core.0 word.0)
    asked =
        let one = rw (same-number word.0, same-number core.0) at (step.flown (is_reg_req_of word.0 core.0)) in
        omega (arith, one, inv.words.row word.0 core.0)

    unread : (c : ℕ) → flight S (is_read_req_of word.0 c) ≡ 0
    unread c = omega (arith, asked, inv.reads.quiet word.0 c core.0, inv.reads.row word.0 c)

    none : flight T (seeks_word word.0) ≡ 0
    none = omega (arith, none-sought S word.0 unread, step.flown (seeks_word word.0))

-- ---- a read that is passed on to a core that has lost the word meets the word at its home

bounced-home : (S T : State) (M : ℕ → ℕ) (core : CoreId) (n : NodeParts) (word : WordId) (sent : Option Outgoing) → Invariant S M → slice_get S.nodes core.0 ≡ Some n → owned_value (entry_of n word.0) ≡ None
    → flight T (is_read_fwd_to word.0 core.0) + bit ((word.0 == word.0) && (core.0 == core.0)) ≡ flight S (is_read_fwd_to word.0 core.0) + passes (is_read_fwd_to word.0 core.0) sent
    → passes (is_read_fwd_to word.0 core.0) sent ≡ 0 → bit (is_owned (home_at S word.0)) ≡ 0
bounced-home S T M core n word sent inv found lost moved none = by_home (home_at S word.0) refl where
  passed : 1 ≤ flight S (is_read_fwd_to word.0 core.0)
  passed = let one = rw (same-number word.0, same-number core.0) at moved in omega (arith, one, none)

  not-his : (e : Option Entry) → owned_value e ≡ None → pending_bit e + settled_bit e + leaving_bit e ≡ 0
  not-his None is = refl
  not-his (Some (Valid value marked)) is = refl
  not-his (Some (Registered value pending)) is = absurd (cc)
  not-his (Some (Leaving value)) is = absurd (cc)

  no-entry : pending_bit (entry_at S core.0 word.0) + settled_bit (entry_at S core.0 word.0) + leaving_bit (entry_at S core.0 word.0) ≡ 0
  no-entry = rw (found) (not-his (entry_of n word.0) lost)

  same-core : (a b : ℕ) → 1 ≤ bit (a == b) → a ≡ b
  same-core a b one = grind (arith, nat_tests, one)

  by_home : (o : Option BankWord) → home_at S word.0 ≡ o → bit (is_owned o) ≡ 0
  by_home None is = refl
  by_home (Some (Home value)) is = refl
  by_home (Some (Reg owner)) is =
      let his = owner-bit owner.0 (home_at S word.0) is in
      let same : core.0 ≡ owner.0 = same-core core.0 owner.0 (omega (arith, his, inv.reads.pair word.0 core.0 owner.0 passed)) in
      let here = ap (λ (c : ℕ). owner_bit c (home_at S word.0)) same in
      absurd (omega (arith, his, here, no-entry, inv.words.row word.0 core.0))

-- ---- a phase ends for a core

gone-on : (S T : State) (made past : ℕ) (core : CoreId) (n : NodeParts) (phase : PhaseId) → NodeStep S T core.0 n (begins S.setting n phase.0) (Some (record { to = Core core; message = Go phase })) None
    → Spent S made past → n.arrived ≡ true → lent n.waiting ≡ 0 → phase.0 ≡ n.phase + 1 → Spends S T made past
gone-on S T made past core n phase step spent arrived none next_is =
    record {
      due = earned n.task;
      earns = inr (core.0, n, begins S.setting n phase.0, ends, refl);
      spent = node-spent S T made past (earned n.task) core.0 n (begins S.setting n phase.0) _ None step spent
          (omega (arith, none, next_is, ap bit arrived, earned-started (declared S.setting.program phase.0 n.core), phase-works (written_in (slice_get S.setting.plans n.phase)) n.cache.pairs));
    }
  where
    ends : EndsPhase S T core.0 n (begins S.setting n phase.0)
    ends = record { found = step.found; now = step.nodes core.0 ∙ rw (same-number core.0) refl; next_phase = next_is }

-- ---- all ways

pub spend-outcomes : (S : State) (M : ℕ → ℕ) (e : Event) (made past : ℕ) → Invariant S M → Spent S made past → Outcomes S M e (λ _. Spends S (next S e) made past)
spend-outcomes S M e made past inv spent =
    record {
      local = λ core n d t acts told step. by-node S T made past step spent (omega (arith, ap earned acts.task, retires d t need.TheVariants.Local acts.wants tt));
      ends = λ core n d t by acts told step. by-node S T made past step spent (omega (arith, ap earned acts.task, earned-stopped by t acts.open'));
      load_copy = λ core n d t word value marked acts is told step. by-node S T made past step spent
          (omega (arith, ap earned acts.task, loads d t word value acts.wants, lent-most n.waiting, put-works n word (Valid value (marked || uses_plainly d word.0)) (Some (Valid value marked)) (apart core.0 n acts.found) is));
      load_own = λ core n d t word value pending acts is told step. by-node S T made past step spent
          (omega (arith, ap earned acts.task, loads d t word value acts.wants, lent-most n.waiting, count-touched works word n.cache.pairs (apart core.0 n acts.found)));
      miss = λ core n d t word needs either acts none room told step. by-node S T made past step spent
          (omega (arith, bit-most (is_owned (home_at S word.0)), ready-lent S M core n d t needs inv acts (missing n word needs either none)));
      store_new = λ core n d t word value acts none room is told step. by-node S T made past step spent
          (omega (
            arith,
            ap earned acts.task,
            retires d t (need.TheVariants.Store word true) acts.wants tt,
            ready-lent S M core n d t (need.TheVariants.Store word true) inv acts (λ v x marked has either. whole word v either),
            put-works n word (Registered value true) None (apart core.0 n acts.found) none,
          ));
      store_copy = λ core n d t word whole old value marked acts was is told step. by-node S T made past step spent
          (omega (arith, ap earned acts.task, retires d t (need.TheVariants.Store word whole) acts.wants tt, lent-most n.waiting, put-works n word (Registered value true) (Some (Valid old marked)) (apart core.0 n acts.found) was));
      store_own = λ core n d t word whole old value pending acts was is told step. by-node S T made past step spent
          (omega (arith, ap earned acts.task, retires d t (need.TheVariants.Store word whole) acts.wants tt, lent-most n.waiting, put-works n word (Registered value pending) (Some (Registered old pending)) (apart core.0 n acts.found) was));
      acquire = λ core n d t lock acts told step. by-node S T made past step spent
          (omega (arith, ready-lent S M core n d t (need.TheVariants.Acquire lock) inv acts (λ v x marked has either. acquires lock v either)));
      release = λ core n d t lock acts settled told step. by-node S T made past step spent
          (omega (arith, ap earned acts.task, retires d t (need.TheVariants.Release lock) acts.wants tt));
      evict_copy = λ core n word value marked found active waits is told step. by-node S T made past step spent (omega (arith, without-works n word.0 (Valid value marked) (apart core.0 n found) is));
      evict_own = λ core n word value found active waits is told step. by-node S T made past step spent (omega (arith, changed-works n word.0 (Leaving value) (Registered value false) (apart core.0 n found) is));
      arrive = λ core n found awake absent over settled told step. by-node S T made past step spent (omega (arith, ap bit absent));
      reply = λ core n word value found waits none room told step. by-node S T made past step spent (omega (arith, ap lent waits, put-works n word (Valid value false) None (apart core.0 n found) none));
      acknowledge = λ core n word value found is told step. by-node S T made past step spent (omega (arith, changed-works n word.0 (Registered value false) (Registered value true) (apart core.0 n found) is));
      forward = λ core other n word value found is told step. by-node S T made past step spent (omega (arith, without-works n word.0 (Registered value false) (apart core.0 n found) is));
      forward_past = λ core other n word found unsettled told step. by-node S T made past step spent (omega arith);
      answer = λ core reader n word value found is told step. by-node S T made past step spent (omega arith);
      bounce = λ core reader n word found is told step. by-node S T made past step spent (omega (arith, bounced-home S T M core n word (to_home S.setting.shape.banks word.0 (ReadReq word reader)) inv found is (step.flown (is_read_fwd_to word.0 core.0)) refl));
      freed = λ core n word value found is told step. by-node S T made past step spent (omega (arith, without-works n word.0 (Leaving value) (apart core.0 n found) is));
      grant = λ core n d t lock s found waits has going declares wants awake absent told step. by-node S T made past step spent
          (omega (arith, ap earned has, ap lent waits, retires d t (need.TheVariants.Acquire lock) wants tt, count-fewer works (is_fresh s n.phase (guarded_by (slice_get S.setting.plans n.phase) lock.0)) n.cache.pairs));
      go = λ core n phase found awake absent right next_is within told step. gone-on S T made past core n phase step spent absent (ap lent ((inv.phases.arrived core.0 n found absent).waiting)) next_is;
      halt = λ core n found awake absent told step. by-node S T made past step spent (omega arith);
      read_home = λ bank word reader value is told step. even S T made past (content-spent S T made past word.0 (Home value) _ _ step spent (omega arith) (omega arith));
      read_owned = λ bank word reader owner is told step. even S T made past (content-spent S T made past word.0 (Reg owner) _ _ step spent (rw (is) (omega arith)) (rw (is) (omega arith)));
      register_home = λ bank word core value is told step. even S T made past (register-home S T M made past bank word core inv spent step);
      register_owned = λ bank word core owner is other told step. even S T made past (content-spent S T made past word.0 (Reg core) _ _ step spent (rw (is) (omega arith)) (omega arith));
      write_back = λ bank word core value is told step. even S T made past (content-spent S T made past word.0 (Home value) _ _ step spent (omega arith) (omega arith));
      write_past = λ bank word core value content is past_it told step. even S T made past (content-spent S T made past word.0 content _ _ step spent (rw (is) (omega arith)) (omega arith));
      acquire_free = λ bank lock core h is free told step. even S T made past (lock-spent S T made past lock.0 h (record h { holder = Some core }) _ _ inv.machine step is spent (omega arith));
      acquire_held = λ bank lock core holder h is has told step. even S T made past
          (lock-spent S T made past lock.0 h (record h { queue = h.queue ++ core ∷ [] }) _ _ inv.machine step is spent (omega (arith, length-append h.queue (core ∷ []))));
      release_last = λ bank lock core holder s h is has same none told step. even S T made past (lock-spent S T made past lock.0 h _ _ _ inv.machine step is spent (omega arith));
      release_on = λ bank lock core holder waiter others s h is has same queue told step. even S T made past
          (lock-spent S T made past lock.0 h _ _ _ inv.machine step is spent (omega (arith, ap length queue)));
      arrived = λ core bad new more told step. even S T made past (quiet-spent S T made past _ _ step spent (omega (arith, ap bit (missing-one S.keeper core.0 new))) (omega arith));
      all_go = λ core bad new all more told step. even S T made past
          (letters-spent S T made past _ _ (Go (record { 0 = S.keeper.phase + 1 })) step
          (record { handed = λ to. refl; register = λ to. refl; reply = λ to. refl; seek = λ to. refl; pass = λ to. refl; owned = λ to. refl }) spent
          (omega (arith, ap bit (missing-one S.keeper core.0 new))) (omega arith));
      all_halt = λ core bad new all over told step. even S T made past
          (letters-spent S T made past _ _ Halt step
          (record { handed = λ to. refl; register = λ to. refl; reply = λ to. refl; seek = λ to. refl; pass = λ to. refl; owned = λ to. refl }) spent
          (omega (arith, ap bit (missing-one S.keeper core.0 new), ap bit all)) (omega arith));
    }
  where
    T : State
    T = next S e

    apart : (core : ℕ) (n : NodeParts) → slice_get S.nodes core ≡ Some n → AreDifferent n.cache.pairs
    apart core n found = (inv.machine.node core n found).fits.cache.apart

    bit-most : (b : Bool) → bit b ≤ 1
    bit-most true = omega arith
    bit-most false = omega arith

    retires : (d : TaskDecl) (t : TaskState) (x : Need) → need_of S.setting.program d S.setting.fuel t ≡ x → IsAdvance x → earned (Some (advanced S.setting.program t)) ≡ earned (Some t) + 12
    retires d t x wants kind = earned-advanced S.setting.program d S.setting.fuel t (subst IsAdvance (sym wants) kind)

    loads : (d : TaskDecl) (t : TaskState) (word : WordId) (value : ℕ) → need_of S.setting.program d S.setting.fuel t ≡ need.TheVariants.Load word
        → earned (Some (loaded_of S.setting.program value t)) ≡ earned (Some t) + 12
    loads d t word value wants = earned-loaded S.setting.program d S.setting.fuel t value (subst IsLoad (sym wants) tt)

    missing : (n : NodeParts) (word : WordId) (needs : Need) → (needs ≡ need.TheVariants.Load word) ⊎ (needs ≡ need.TheVariants.Store word false) → entry_of n word.0 ≡ None
        → (v : WordId) (value : ℕ) (marked : Bool) → entry_of n v.0 ≡ Some (Valid value marked) → (needs ≡ need.TheVariants.Load v) ⊎ (needs ≡ need.TheVariants.Store v false) → ⊥
    missing n word needs (inl a) none v value marked has (inl b) = let same : word ≡ v = cc in let here = subst (λ (x : WordId). entry_of n x.0 ≡ None) same none in cc
    missing n word needs (inl a) none v value marked has (inr b) = cc
    missing n word needs (inr a) none v value marked has (inl b) = cc
    missing n word needs (inr a) none v value marked has (inr b) = let same : word ≡ v = cc in let here = subst (λ (x : WordId). entry_of n x.0 ≡ None) same none in cc

    whole : (word v : WordId) → (need.TheVariants.Store word true ≡ need.TheVariants.Load v) ⊎ (need.TheVariants.Store word true ≡ need.TheVariants.Store v false) → ⊥
    whole word v (inl a) = cc
    whole word v (inr a) = cc

    acquires : (lock : LockId) (v : WordId) → (need.TheVariants.Acquire lock ≡ need.TheVariants.Load v) ⊎ (need.TheVariants.Acquire lock ≡ need.TheVariants.Store v false) → ⊥
    acquires lock v (inl a) = cc
    acquires lock v (inr a) = cc

-- Every event sends what it sends to an actor that is there, and of the right sort.
use Rattle.std.proofs.Common.{◌≡◌, ◌⊎◌, inl, inr, ℕ, zero, suc, ◌+◌, ◌%◌, ◌<◌, ◌≤◌, ◌==◌, ◌&&◌, not, nat_lt, List, ◌∷◌, length, get_or, slice_get, Option, Some, None, refl, ap, arith}
use Rattle.std.proofs.lemmas.Bool.Decides.{nat_tests}
use Rattle.std.proofs.lemmas.Option.{slice_get_cases}
use Rattle.dn_base.specs.declared.ids.WordId.{WordId}
use Rattle.dn_base.specs.declared.ids.CoreId.{CoreId}
use Rattle.dn_base.specs.declared.ids.LockId.{LockId}
use Rattle.message_net.specs.declared.actor.Actor.TheVariants.{Core, Bank}
use Rattle.message_net.specs.declared.event.Event.{Event}
use Rattle.message_net.specs.declared.message.Message.{Message}
use Rattle.message_net.specs.declared.message.Message.TheVariants.{Go, Halt}
use Rattle.message_net.specs.declared.message.Outgoing.{Outgoing}
use Rattle.queue_lock.specs.Lock.{Lock, times_queued}
use Rattle.queue_lock.proofs.LockLemmas.{places_of-cons}
use Rattle.registry_bank.specs.declared.bank.BankWord.{BankWord}
use Rattle.registry_bank.specs.declared.bank.BankWord.TheVariants.{Reg}
use Rattle.phase_barrier.specs.Barrier.{Barrier}
use Rattle.registration_protocol.specs.Node.{NodeParts}
use Rattle.machine_rules.specs.State.{State, entry_in, home_at, lock_at}
use Rattle.machine_rules.specs.Flight.{Test, bit, flight, is_reg_req_of, is_reg_fwd_of, is_write_back_of, is_read_req_of, is_read_fwd_of, is_acquire_of}
use Rattle.machine_rules.specs.Next.{next}
use Rattle.machine_rules.specs.Coherent.{node_is_locking, queued_in}
use Rattle.machine_rules.proofs.Bits.{passes, pending_bit, settled_bit, leaving_bit, reading_in}
use Rattle.machine_rules.proofs.BitLemmas.{owner-bit}
use Rattle.machine_rules.proofs.Invariant.{Invariant, is_lost, is_bank}
use Rattle.machine_rules.proofs.Steps.{NodeStep}
use Rattle.machine_rules.proofs.Outcomes.{Outcomes, WordStep, LockStep, BarrierStep, to_all}
use Rattle.machine_rules.proofs.WordEvents.{Flown}
use Rattle.machine_rules.proofs.WordCore.{same-number}

abbrev pub IsAddressed : State → Type 0
IsAddressed S = flight S (is_lost S.setting.shape.cores S.setting.shape.banks) ≡ 0

-- what is sent, if anything, goes right
abbrev GoesRight : State → Option Outgoing → Type 0
GoesRight S sent = passes (is_lost S.setting.shape.cores S.setting.shape.banks) sent ≡ 0

addressed : (S T : State) (left sent : Option Outgoing) → T.setting ≡ S.setting → IsAddressed S → Flown S T left sent → GoesRight S sent → IsAddressed T
addressed S T left sent setting good flown right =
    let moved = flown (is_lost S.setting.shape.cores S.setting.shape.banks) in
    rw (setting) (omega (arith, good, right, moved))

by-node : (S T : State) {core : ℕ} {n m : NodeParts} {left sent : Option Outgoing} → NodeStep S T core n m left sent → IsAddressed S → GoesRight S sent → IsAddressed T
by-node S T {left = left} {sent = sent} step good right = addressed S T left sent step.setting good step.flown right

by-word : (S T : State) {w : ℕ} {content : BankWord} {left sent : Option Outgoing} → WordStep S T w content left sent → IsAddressed S → GoesRight S sent → IsAddressed T
by-word S T {left = left} {sent = sent} step good right = addressed S T left sent step.setting good step.flown right

by-lock : (S T : State) {l : ℕ} {h : Lock} {left sent : Option Outgoing} → LockStep S T l h left sent → IsAddressed S → GoesRight S sent → IsAddressed T
by-lock S T {left = left} {sent = sent} step good right = addressed S T left sent step.setting good step.flown right

home-right : (banks w : ℕ) → bit (not (is_bank (w % banks) (Bank (record { 0 = w % banks })))) ≡ 0
home-right banks w = rw (same-number (w % banks)) refl

-- a core that something is counted of is there
pub there-by : (S : State) (c : ℕ) (f : Option NodeParts → ℕ) → f None ≡ 0 → 1 ≤ f (slice_get S.nodes c) → c < length S.nodes
there-by S c f none some = by_case (slice_get_cases S.nodes c).1 where
  by_case : ((x : NodeParts) × (c < length S.nodes) × (slice_get S.nodes c ≡ Some x) × (get_or S.nodes c x ≡ x)) ⊎ ((length S.nodes ≤ c) × (slice_get S.nodes c ≡ None)) → c < length S.nodes
  by_case (inl (x, within, is, same)) = within
  by_case (inr (past, is)) = absurd (omega (arith, none, some, ap f is))

core-right : (cores c : ℕ) → c < cores → bit (not (nat_lt c cores)) ≡ 0
core-right cores c within = grind (arith, nat_tests, within)

-- a core below the nodes is one of the machine
is-core : (S : State) (M : ℕ → ℕ) (c : ℕ) → Invariant S M → c < length S.nodes → bit (not (nat_lt c S.setting.shape.cores)) ≡ 0
is-core S M c inv within = core-right S.setting.shape.cores c (omega (arith, within, inv.machine.nodes))

-- a letter to each core
letters-right : (cores banks n : ℕ) (message : Message) → n ≤ cores → ((c : ℕ) → bit (is_lost cores banks (Core (record { 0 = c })) message) ≡ bit (not (nat_lt c cores))) → to_all (is_lost cores banks) n (Some message) ≡ 0
letters-right cores banks zero message within only = refl
letters-right cores banks (suc c) message within only =
    omega (arith, letters-right cores banks c message (omega (arith, within)) only, only c, core-right cores c (omega (arith, within)))

barrier-addressed : (S T : State) (left : Option Outgoing) (sent : Option Message) → T.setting ≡ S.setting → IsAddressed S
    → ((p : Test) → flight T p + passes p left ≡ flight S p + to_all p S.setting.shape.cores sent) → to_all (is_lost S.setting.shape.cores S.setting.shape.banks) S.setting.shape.cores sent ≡ 0 → IsAddressed T
barrier-addressed S T left sent setting good flown right =
    let moved = flown (is_lost S.setting.shape.cores S.setting.shape.banks) in
    rw (setting) (omega (arith, good, right, moved))

no-letters : (cores : ℕ) (p : Test) → to_all p cores None ≡ 0
no-letters zero p = refl
no-letters (suc c) p = refl

by-barrier : (S T : State) {k : Barrier} {left : Option Outgoing} {sent : Option Message} → BarrierStep S T k left sent → IsAddressed S
    → to_all (is_lost S.setting.shape.cores S.setting.shape.banks) S.setting.shape.cores sent ≡ 0 → IsAddressed T
by-barrier S T {left = left} {sent = sent} step good right = barrier-addressed S T left sent step.setting good step.flown right

pub address-outcomes : (S : State) (M : ℕ → ℕ) (e : Event) → Invariant S M → Outcomes S M e (λ _. IsAddressed (next S e))
address-outcomes S M e inv =
    record {
      local = λ core n d t acts told step. by-node S (next S e) step good refl;
      ends = λ core n d t by acts told step. by-node S (next S e) step good refl;
      load_copy = λ core n d t word value marked acts is told step. by-node S (next S e) step good refl;
      load_own = λ core n d t word value pending acts is told step. by-node S (next S e) step good refl;
      miss = λ core n d t word needs either acts none room told step. by-node S (next S e) step good (home-right S.setting.shape.banks word.0);
      store_new = λ core n d t word value acts none room is told step. by-node S (next S e) step good (home-right S.setting.shape.banks word.0);
      store_copy = λ core n d t word whole old value marked acts was is told step. by-node S (next S e) step good (home-right S.setting.shape.banks word.0);
      store_own = λ core n d t word whole old value pending acts was is told step. by-node S (next S e) step good refl;
      acquire = λ core n d t lock acts told step. by-node S (next S e) step good (home-right S.setting.shape.banks lock.0);
      release = λ core n d t lock acts settled told step. by-node S (next S e) step good (home-right S.setting.shape.banks lock.0);
      evict_copy = λ core n word value marked found active waits is told step. by-node S (next S e) step good refl;
      evict_own = λ core n word value found active waits is told step. by-node S (next S e) step good (home-right S.setting.shape.banks word.0);
      arrive = λ core n found awake absent over settled told step. by-node S (next S e) step good refl;
      reply = λ core n word value found waits none room told step. by-node S (next S e) step good refl;
      acknowledge = λ core n word value found is told step. by-node S (next S e) step good refl;
      forward = λ core other n word value found is told step. by-node S (next S e) step good (is-core S M other.0 inv (forwarded-there core other word (step.flown (is_reg_fwd_of word.0 other.0))));
      forward_past = λ core other n word found unsettled told step. by-node S (next S e) step good (is-core S M other.0 inv (forwarded-there core other word (step.flown (is_reg_fwd_of word.0 other.0))));
      answer = λ core reader n word value found is told step. by-node S (next S e) step good (is-core S M reader.0 inv (read-there core reader word (step.flown (is_read_fwd_of word.0 reader.0))));
      bounce = λ core reader n word found is told step. by-node S (next S e) step good (home-right S.setting.shape.banks word.0);
      freed = λ core n word value found is told step. by-node S (next S e) step good refl;
      grant = λ core n d t lock s found waits has going declares wants awake absent told step. by-node S (next S e) step good refl;
      go = λ core n phase found awake absent right next_is within told step. by-node S (next S e) step good refl;
      halt = λ core n found awake absent told step. by-node S (next S e) step good refl;
      read_home = λ bank word reader value is told step. by-word S (next S e) step good (is-core S M reader.0 inv (sought-there word reader (step.flown (is_read_req_of word.0 reader.0))));
      read_owned = λ bank word reader owner is told step. by-word S (next S e) step good (is-core S M owner.0 inv (owner-there word.0 owner is));
      register_home = λ bank word core value is told step. by-word S (next S e) step good (is-core S M core.0 inv (asked-there word core (step.flown (is_reg_req_of word.0 core.0))));
      register_owned = λ bank word core owner is other told step. by-word S (next S e) step good (is-core S M owner.0 inv (owner-there word.0 owner is));
      write_back = λ bank word core value is told step. by-word S (next S e) step good (is-core S M core.0 inv (owner-there word.0 core is));
      write_past = λ bank word core value content is past told step. by-word S (next S e) step good (is-core S M core.0 inv (left-there word value core (step.flown (is_write_back_of word.0 core.0))));
      acquire_free = λ bank lock core h is free told step. by-lock S (next S e) step good (is-core S M core.0 inv (waiting-there lock core (step.flown (is_acquire_of lock.0 core.0))));
      acquire_held = λ bank lock core holder h is has told step. by-lock S (next S e) step good refl;
      release_last = λ bank lock core holder s h is has same none told step. by-lock S (next S e) step good refl;
      release_on = λ bank lock core holder waiter others s h is has same queue told step. by-lock S (next S e) step good (is-core S M waiter.0 inv (queued-there lock waiter others h is queue));
      arrived = λ core bad new more told step. by-barrier S (next S e) step good (no-letters S.setting.shape.cores (is_lost S.setting.shape.cores S.setting.shape.banks));
      all_go = λ core bad new all more told step. by-barrier S (next S e) step good (letters-right S.setting.shape.cores S.setting.shape.banks S.setting.shape.cores (Go (record { 0 = S.keeper.phase + 1 })) (omega arith) (λ c. refl));
      all_halt = λ core bad new all over told step. by-barrier S (next S e) step good (letters-right S.setting.shape.cores S.setting.shape.banks S.setting.shape.cores Halt (omega arith) (λ c. refl));
    }
  where
    good : IsAddressed S
    good = inv.addressed

    owner-there : (w : ℕ) (owner : CoreId) → home_at S w ≡ Some (Reg owner) → owner.0 < length S.nodes
    owner-there w owner is =
        there-by S owner.0 (λ (o : Option NodeParts). pending_bit (entry_in w o) + settled_bit (entry_in w o) + leaving_bit (entry_in w o)) refl
        (omega (arith, inv.words.row w owner.0, owner-bit owner.0 (home_at S w) is))

    asked-there : (word : WordId) (core : CoreId) → flight (next S e) (is_reg_req_of word.0 core.0) + bit ((word.0 == word.0) && (core.0 == core.0)) ≡ flight S (is_reg_req_of word.0 core.0) + 0 → core.0 < length S.nodes
    asked-there word core moved =
        let one = rw (same-number word.0, same-number core.0) at moved in
        there-by S core.0 (λ (o : Option NodeParts). pending_bit (entry_in word.0 o)) refl (omega (arith, inv.words.row word.0 core.0, one))

    forwarded-there : (core other : CoreId) (word : WordId) → flight (next S e) (is_reg_fwd_of word.0 other.0) + bit ((word.0 == word.0) && (other.0 == other.0)) ≡ flight S (is_reg_fwd_of word.0 other.0) + 0 → other.0 < length S.nodes
    forwarded-there core other word moved =
        let one = rw (same-number word.0, same-number other.0) at moved in
        there-by S other.0 (λ (o : Option NodeParts). pending_bit (entry_in word.0 o)) refl (omega (arith, inv.words.row word.0 other.0, one))

    left-there : (word : WordId) (value : ℕ) (core : CoreId) → flight (next S e) (is_write_back_of word.0 core.0) + bit ((word.0 == word.0) && (core.0 == core.0)) ≡ flight S (is_write_back_of word.0 core.0) + 0 → core.0 < length S.nodes
    left-there word value core moved =
        let one = rw (same-number word.0, same-number core.0) at moved in
        there-by S core.0 (λ (o : Option NodeParts). leaving_bit (entry_in word.0 o)) refl (omega (arith, inv.words.row word.0 core.0, one))

    read-there : (core reader : CoreId) (word : WordId) → flight (next S e) (is_read_fwd_of word.0 reader.0) + bit ((word.0 == word.0) && (reader.0 == reader.0)) ≡ flight S (is_read_fwd_of word.0 reader.0) + 0 → reader.0 < length S.nodes
    read-there core reader word moved =
        let one = rw (same-number word.0, same-number reader.0) at moved in
        there-by S reader.0 (reading_in word.0) refl (omega (arith, inv.reads.row word.0 reader.0, one))

    sought-there : (word : WordId) (reader : CoreId) → flight (next S e) (is_read_req_of word.0 reader.0) + bit ((word.0 == word.0) && (reader.0 == reader.0)) ≡ flight S (is_read_req_of word.0 reader.0) + 0 → reader.0 < length S.nodes
    sought-there word reader moved =
        let one = rw (same-number word.0, same-number reader.0) at moved in
        there-by S reader.0 (reading_in word.0) refl (omega (arith, inv.reads.row word.0 reader.0, one))

    waiting-there : (lock : LockId) (core : CoreId) → flight (next S e) (is_acquire_of lock.0 core.0) + bit ((lock.0 == lock.0) && (core.0 == core.0)) ≡ flight S (is_acquire_of lock.0 core.0) + 0 → core.0 < length S.nodes
    waiting-there lock core moved =
        let one = rw (same-number lock.0, same-number core.0) at moved in
        there-by S core.0 (λ (o : Option NodeParts). bit (node_is_locking lock.0 o)) refl (omega (arith, inv.locks.row lock.0 core.0, one))

    queued-there : (lock : LockId) (waiter : CoreId) (others : List CoreId) (h : Lock) → lock_at S lock.0 ≡ Some h → h.queue ≡ waiter ∷ others → waiter.0 < length S.nodes
    queued-there lock waiter others h is queue =
        let first : 1 ≤ times_queued waiter.0 h.queue = rw (queue) (rw (places_of-cons waiter.0 waiter others, same-number waiter.0) (omega arith)) in
        there-by S waiter.0 (λ (o : Option NodeParts). bit (node_is_locking lock.0 o)) refl (omega (arith, inv.locks.row lock.0 waiter.0, first, ap (queued_in waiter.0) is))

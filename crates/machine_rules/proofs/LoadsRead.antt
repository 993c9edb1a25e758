-- Each load reads the memory to which the stores were applied.
use Rattle.std.specs.List.{IsAmong}
use Rattle.std.proofs.Common.{◌≡◌, ◌≢◌, ◌⊎◌, inl, inr, ℕ, zero, suc, ◌+◌, ◌==◌, ◌^◌, ◌&&◌, Bool, true, false, List, [], ◌∷◌, get_or, bit_or, Some, None, refl, sym, ap, subst, ◌∙◌, arith}
use Rattle.std.proofs.lemmas.Bool.{eqb-true, or_left, or_right, and_from}
use Rattle.std.proofs.lemmas.Bool.Decides.{nat_tests}
use Rattle.dn_base.specs.declared.ids.CoreId.{CoreId}
use Rattle.dn_base.specs.declared.ids.WordId.{WordId}
use Rattle.dn_base.specs.declared.ids.LoadSeen.{LoadSeen}
use Rattle.region_table.specs.declared.interval.Interval.{Interval}
use Rattle.region_table.specs.declared.declared.TaskDecl.{TaskDecl}
use Rattle.region_table.specs.declared.declared.Phase.{Phase}
use Rattle.region_table.specs.Words.{has}
use Rattle.region_table.specs.Tasks.{declared}
use Rattle.region_table.proofs.TaskLemmas.{declared-tells}
use Rattle.rv_core.specs.declared.task.TaskState.{TaskState}
use Rattle.rv_core.specs.declared.need.Need as need
use Rattle.rv_core.specs.declared.need.Need.{Need}
use Rattle.rv_core.specs.Access.{is_held, under, may_load, may_store}
use Rattle.rv_core.proofs.Completions.{load-allowed, store-allowed}
use Rattle.rv_core.proofs.HeldLemmas.{holds-none, holds-acquired}
use Rattle.flat_machine.specs.Step.{Started}
use Rattle.flat_machine.proofs.Separation.{AreApart, keeps-out}
use Rattle.flat_machine.proofs.Rights.{store-loads, both-ways}
use Rattle.message_net.specs.declared.event.Event.{Event}
use Rattle.word_cache.specs.declared.row.Entry.TheVariants.{Valid, Registered}
use Rattle.registration_protocol.specs.Node.{NodeParts, entry_of}
use Rattle.machine_rules.specs.State.{State, entry_in, entry_at, home_at}
use Rattle.machine_rules.specs.Next.{enabled, seen_in}
use Rattle.machine_rules.specs.Memory.{word_value}
use Rattle.registry_bank.specs.declared.bank.BankWord.TheVariants.{Reg}
use Rattle.machine_rules.specs.Coherent.{owned_value, IsBehind, HasWriter}
use Rattle.machine_rules.proofs.Bits.{pending_bit, settled_bit}
use Rattle.machine_rules.proofs.BitLemmas.{owner-is}
use Rattle.machine_rules.proofs.Invariant.{Invariant, AllSettled, MayBeOld, MayHaveWritten}
use Rattle.machine_rules.proofs.Outcomes.{Outcomes, IsActing}
use Rattle.machine_rules.proofs.Exclusive.{acting-works, in-phase, load-none-pending}
use Rattle.machine_rules.proofs.ValueEvents.{settled-owner}
use Rattle.machine_rules.proofs.ReadableValues.{value-is}
use Rattle.machine_rules.proofs.Dispatch.{ways}

-- ---- rights

under-from : (ss : List (List Interval)) (first held w place : ℕ) → is_held held (first + place) ≡ true → has (get_or ss place []) w ≡ true → under ss first held w ≡ true
under-from [] first held w place holds there = absurd (both-ways (has [] w) refl there)
under-from (s ∷ ss) first held w zero holds there =
    let here : first + 0 ≡ first = omega arith in
    or_left (is_held held first && has s w) (under ss (first + 1) held w) (and_from (is_held held first) (has s w) (subst (λ (x : ℕ). is_held held x ≡ true) here holds) there)
under-from (s ∷ ss) first held w (suc place) holds there =
    let here : first + suc place ≡ first + 1 + place = omega arith in
    or_right (is_held held first && has s w) (under ss (first + 1) held w) (under-from ss (first + 1) held w place (subst (λ (x : ℕ). is_held held x ≡ true) here holds) there)

-- an instruction that needs the word's value: a load, or a store of a part
abbrev pub IsValueNeed : Need → WordId → Type 0
IsValueNeed needs word = (needs ≡ need.TheVariants.Load word) ⊎ (needs ≡ need.TheVariants.Store word false)

value-right : (S : State) (core : CoreId) (n : NodeParts) (d : TaskDecl) (t : TaskState) (word : WordId) (needs : Need) → IsValueNeed needs word → IsActing S core n d t needs → may_load d t.held word.0 ≡ true
value-right S core n d t word needs (inl load) h = (load-allowed S.setting.program d S.setting.fuel t word (h.wants ∙ load)).1
value-right S core n d t word needs (inr store) h = store-loads d t.held word.0 (store-allowed S.setting.program d S.setting.fuel t word false (h.wants ∙ store)).1

-- what the task of another core may store, with locks that this core doesn't hold, this core may not load
kept-out : (S : State) (M : ℕ → ℕ) (core : CoreId) (n : NodeParts) (d : TaskDecl) (t : TaskState) (word : WordId) (needs : Need) (other : ℕ) (decl : TaskDecl) (held : ℕ) → Invariant S M
    → IsValueNeed needs word → IsActing S core n d t needs → other ≢ core.0 → declared S.setting.program S.keeper.phase other ≡ Some decl → ((lock : ℕ) → is_held held lock ≡ true → is_held t.held lock ≡ true → ⊥)
    → may_store decl held word.0 ≡ true → ⊥
kept-out S M core n d t word needs other decl held inv kind h apart declares unheld stores =
    let here : n.phase ≡ S.keeper.phase = in-phase S M core.0 n d t inv (acting-works S core n d t needs h) in
    let one = declared-tells S.setting.program S.keeper.phase other decl declares in
    let two = declared-tells S.setting.program S.keeper.phase core.0 d (subst (λ (x : ℕ). declared S.setting.program x core.0 ≡ Some d) here h.declares) in
    let both : Some two.phase ≡ Some one.phase = sym two.there ∙ one.there in
    let same : two.phase ≡ one.phase = cc in
    let first : Started = record { phase = record { 0 = n.phase }; decl = decl; state = record t { held = held }; loads = [] } in
    let second : Started = record { phase = record { 0 = n.phase }; decl = d; state = t; loads = [] } in
    let between : AreApart S.setting.program one.phase first second = record {
      checked = inv.machine.checked;
      phase = one.known;
      first = one.among;
      second = subst (λ (p : Phase). IsAmong p.tasks d) same two.among;
      cores = λ e. apart (sym one.own ∙ e ∙ two.own);
      held = unheld;
    } in
    both-ways (may_load d t.held word.0) ((keeps-out S.setting.program one.phase first second between).out word.0 stores) (value-right S core n d t word needs kind h)

-- ---- a copy that is loaded isn't old

-- a core at work isn't behind the keeper
not-behind : (S : State) (M : ℕ → ℕ) (core : CoreId) (n : NodeParts) (d : TaskDecl) (t : TaskState) (word : WordId) (needs : Need) (marked : Bool) → Invariant S M
    → IsActing S core n d t needs → IsBehind S core.0 word.0 marked → ⊥
not-behind S M core n d t word needs marked inv h behind =
    let here : n.phase ≡ S.keeper.phase = in-phase S M core.0 n d t inv (acting-works S core n d t needs h) in
    let both : Some behind.node ≡ Some n = sym behind.found ∙ h.found in
    let same : behind.node ≡ n = cc in
    omega (arith, here, behind.phase, ap (λ (x : NodeParts). x.phase) same)

not-written : (S : State) (M : ℕ → ℕ) (core : CoreId) (n : NodeParts) (d : TaskDecl) (t : TaskState) (word : WordId) (needs : Need) → Invariant S M
    → IsValueNeed needs word → IsActing S core n d t needs → HasWriter S core.0 word.0 → ⊥
not-written S M core n d t word needs inv kind h by =
    kept-out S M core n d t word needs by.core by.decl 0 inv kind h by.other by.declares (λ lock holds also. both-ways (is_held 0 lock) (holds-none lock) holds)
    (or_left (has by.decl.effects.writes word.0) (under by.decl.effects.guarded_writes 0 0 word.0) by.writes)

not-guarded : (S : State) (M : ℕ → ℕ) (core : CoreId) (n : NodeParts) (d : TaskDecl) (t : TaskState) (word : WordId) (needs : Need) → Invariant S M
    → IsValueNeed needs word → IsActing S core n d t needs → MayHaveWritten S core.0 word.0 → ⊥
not-guarded S M core n d t word needs inv kind h by =
    kept-out S M core n d t word needs by.core by.decl (bit_or 0 (2 ^ by.lock)) inv kind h by.other by.declares unheld
    (or_right (has by.decl.effects.writes word.0) (under by.decl.effects.guarded_writes 0 (bit_or 0 (2 ^ by.lock)) word.0)
    (under-from by.decl.effects.guarded_writes 0 (bit_or 0 (2 ^ by.lock)) word.0 by.lock (subst (λ (x : ℕ). is_held (bit_or 0 (2 ^ by.lock)) x ≡ true) (zero-first by.lock) (own-lock by.lock)) by.writes))
  where
    zero-first : (x : ℕ) → x ≡ 0 + x
    zero-first x = omega arith

    own-lock : (lock : ℕ) → is_held (bit_or 0 (2 ^ lock)) lock ≡ true
    own-lock lock = rw (holds-acquired 0 lock lock) (grind (arith, nat_tests))

    not-held : is_held t.held by.lock ≡ false
    not-held = rw (h.found, h.task) at by.unheld

    unheld : (lock : ℕ) → is_held (bit_or 0 (2 ^ by.lock)) lock ≡ true → is_held t.held lock ≡ true → ⊥
    unheld lock one two = by_lock (lock == by.lock) refl where
      by_lock : (x : Bool) → (lock == by.lock) ≡ x → ⊥
      by_lock true e = both-ways (is_held t.held lock) (subst (λ (x : ℕ). is_held t.held x ≡ false) (sym (eqb-true lock by.lock e)) not-held) two
      by_lock false e =
          let none : is_held (bit_or 0 (2 ^ by.lock)) lock ≡ false = rw (holds-acquired 0 by.lock lock, e, holds-none lock) refl in
          both-ways (is_held (bit_or 0 (2 ^ by.lock)) lock) none one

pub copy-loaded : (S : State) (M : ℕ → ℕ) (core : CoreId) (n : NodeParts) (d : TaskDecl) (t : TaskState) (word : WordId) (needs : Need) (value : ℕ) (marked : Bool) → Invariant S M
    → IsValueNeed needs word → IsActing S core n d t needs → entry_of n word.0 ≡ Some (Valid value marked) → value ≡ M word.0
copy-loaded S M core n d t word needs value marked inv kind h is = by_age (inv.copies.fresh core.0 word.0 value marked (ap (entry_in word.0) h.found ∙ is)) where
  by_age : (value ≡ M word.0) ⊎ MayBeOld S core.0 word.0 marked → value ≡ M word.0
  by_age (inl fresh) = fresh
  by_age (inr (inl behind)) = absurd (not-behind S M core n d t word needs marked inv h behind)
  by_age (inr (inr (inl writer))) = absurd (not-written S M core n d t word needs inv kind h writer)
  by_age (inr (inr (inr guarded))) = absurd (not-guarded S M core n d t word needs inv kind h guarded)

-- ---- a registered word that is loaded has the last value

pub own-loaded : (S : State) (M : ℕ → ℕ) (core : CoreId) (n : NodeParts) (d : TaskDecl) (t : TaskState) (word : WordId) (needs : Need) (value : ℕ) (pending : Bool) → Invariant S M
    → IsValueNeed needs word → IsActing S core n d t needs → entry_of n word.0 ≡ Some (Registered value pending) → value ≡ M word.0
own-loaded S M core n d t word needs value true inv kind h is = inv.values.pending core.0 word.0 value (ap (entry_in word.0) h.found ∙ is)
own-loaded S M core n d t word needs value false inv kind h is = inv.values.owner word.0 value core all home (ap owned_value here) where
  here : entry_at S core.0 word.0 ≡ Some (Registered value false)
  here = ap (entry_in word.0) h.found ∙ is

  all : AllSettled S word.0
  all c = by_core (core.0 == c) refl where
    by_core : (x : Bool) → (core.0 == c) ≡ x → pending_bit (entry_at S c word.0) ≡ 0
    by_core true e = subst (λ (x : ℕ). pending_bit (entry_at S x word.0) ≡ 0) (eqb-true core.0 c e) (ap pending_bit here)
    by_core false e = load-none-pending S M core n d t word needs inv kind h c e

  home : home_at S word.0 ≡ Some (Reg core)
  home = owner-is core.0 (home_at S word.0) (omega (arith, settled-owner S word.0 core.0 inv.words all, ap settled_bit here))

-- ---- every event

-- what an event says that it has loaded is what the memory has
abbrev IsTrueLoad : State → (ℕ → ℕ) → Event → Type 0
IsTrueLoad S M e = (seen : LoadSeen) → seen_in S e ≡ Some seen → seen.value ≡ M seen.word.0

none-seen : (S : State) (M : ℕ → ℕ) (e : Event) → seen_in S e ≡ None → IsTrueLoad S M e
none-seen S M e none seen is = absurd (cc)

one-seen : (S : State) (M : ℕ → ℕ) (e : Event) (word : WordId) (value : ℕ) → seen_in S e ≡ Some (record { word = word; value = value }) → value ≡ M word.0 → IsTrueLoad S M e
one-seen S M e word value told right seen is =
    let one : Some (record { word = word; value = value }) ≡ Some seen = sym told ∙ is in
    let same : record { word = word; value = value } ≡ seen = cc in
    subst (λ (x : LoadSeen). x.value ≡ M x.word.0) same right

loads-outcomes : (S : State) (M : ℕ → ℕ) (e : Event) → Invariant S M → Outcomes S M e (λ M'. IsTrueLoad S M e)
loads-outcomes S M e inv =
    record {
      local = λ core n d t acts told step. none-seen S M e told.seen_is;
      ends = λ core n d t by acts told step. none-seen S M e told.seen_is;
      load_copy = λ core n d t word value marked acts is told step. one-seen S M e word value told.seen_is (copy-loaded S M core n d t word (need.TheVariants.Load word) value marked inv (inl refl) acts is);
      load_own = λ core n d t word value pending acts is told step. one-seen S M e word value told.seen_is (own-loaded S M core n d t word (need.TheVariants.Load word) value pending inv (inl refl) acts is);
      miss = λ core n d t word needs which acts none room told step. none-seen S M e told.seen_is;
      store_new = λ core n d t word value acts none room is told step. none-seen S M e told.seen_is;
      store_copy = λ core n d t word whole old value marked acts entry is told step. none-seen S M e told.seen_is;
      store_own = λ core n d t word whole old value pending acts entry is told step. none-seen S M e told.seen_is;
      acquire = λ core n d t lock acts told step. none-seen S M e told.seen_is;
      release = λ core n d t lock acts settled told step. none-seen S M e told.seen_is;
      evict_copy = λ core n word value marked found active waits is told step. none-seen S M e told.seen_is;
      evict_own = λ core n word value found active waits is told step. none-seen S M e told.seen_is;
      arrive = λ core n found awake absent done settled told step. none-seen S M e told.seen_is;
      reply = λ core n word value found waits none room told step. none-seen S M e told.seen_is;
      acknowledge = λ core n word value found is told step. none-seen S M e told.seen_is;
      forward = λ core other n word value found is told step. none-seen S M e told.seen_is;
      forward_past = λ core other n word found none told step. none-seen S M e told.seen_is;
      answer = λ core reader n word value found is told step. none-seen S M e told.seen_is;
      bounce = λ core reader n word found none told step. none-seen S M e told.seen_is;
      freed = λ core n word value found is told step. none-seen S M e told.seen_is;
      grant = λ core n d t lock s found waits task open' declares wants awake absent told step. none-seen S M e told.seen_is;
      go = λ core n phase found awake there right later within told step. none-seen S M e told.seen_is;
      halt = λ core n found awake there told step. none-seen S M e told.seen_is;
      read_home = λ bank word reader value is told step. none-seen S M e told.seen_is;
      read_owned = λ bank word reader owner is told step. none-seen S M e told.seen_is;
      register_home = λ bank word core value is told step. none-seen S M e told.seen_is;
      register_owned = λ bank word core owner is other told step. none-seen S M e told.seen_is;
      write_back = λ bank word core value is told step. none-seen S M e told.seen_is;
      write_past = λ bank word core value content is other told step. none-seen S M e told.seen_is;
      acquire_free = λ bank lock core h is none told step. none-seen S M e told.seen_is;
      acquire_held = λ bank lock core holder h is held told step. none-seen S M e told.seen_is;
      release_last = λ bank lock core holder s h is held same none told step. none-seen S M e told.seen_is;
      release_on = λ bank lock core holder waiter others s h is held same queue told step. none-seen S M e told.seen_is;
      arrived = λ core bad new missing told step. none-seen S M e told.seen_is;
      all_go = λ core bad new whole on told step. none-seen S M e told.seen_is;
      all_halt = λ core bad new whole over told step. none-seen S M e told.seen_is;
    }

pub loads-read : (S : State) (M : ℕ → ℕ) (e : Event) → Invariant S M → enabled S e ≡ true → (seen : LoadSeen) → seen_in S e ≡ Some seen → seen.value ≡ M seen.word.0
loads-read S M e inv may = ways S M e (λ M'. IsTrueLoad S M e) inv may (loads-outcomes S M e inv)

-- so it reads the word's value
pub loads-value : (S : State) (M : ℕ → ℕ) (e : Event) → Invariant S M → enabled S e ≡ true → (seen : LoadSeen) → seen_in S e ≡ Some seen → seen.value ≡ word_value S seen.word.0
loads-value S M e inv may seen is = loads-read S M e inv may seen is ∙ sym (value-is S M inv.words inv.values seen.word.0)

-- Which event comes next: a message is handled if one is in flight, else some core does what it may by itself. Where only
-- acquires are left the state is poised.
use Rattle.std.proofs.Common.{◌≡◌, ◌⊎◌, inl, inr, ℕ, zero, suc, Bool, true, false, List, [], ◌∷◌, slice_get, Option, Some, None, refl, sym, ap, subst, ◌∙◌}
use Rattle.std.specs.List.{All}
use Rattle.std.proofs.lemmas.Bool.{false_from_ne_true}
use Rattle.std.proofs.lemmas.Option.{none-some, same_Some}
use Rattle.std.proofs.lemmas.List.Elements.{All-nil, All-cons}
use Rattle.dn_base.specs.declared.ids.WordId.{WordId}
use Rattle.dn_base.specs.declared.ids.LockId.{LockId}
use Rattle.rv_core.specs.declared.need.Need as need
use Rattle.rv_core.specs.declared.need.Need.{Need}
use Rattle.message_net.specs.declared.event.Event.{Event}
use Rattle.message_net.specs.declared.event.Event.TheVariants.{Instr, Evict, Arrive, Handle}
use Rattle.message_net.specs.declared.message.Mail.{Mail}
use Rattle.word_cache.proofs.CacheLaws.{victim-goes}
use Rattle.registration_protocol.specs.Node.{NodeParts, Setting, need_now, is_running}
use Rattle.registration_protocol.specs.Fit.{Fits}
use Rattle.registration_protocol.specs.Parts.{MayInstruct, MayCome}
use Rattle.registration_protocol.specs.OwnEvents.{may_instr, may_evict, may_arrive, makes_room, wanted_by, victim_for, me, IsStill}
use Rattle.registration_protocol.proofs.InstrLemmas.{may-instruct, may-evict, may-arrive}
use Rattle.registration_protocol.proofs.OwnLemmas.{without-victim, victim-stays}
use Rattle.machine_rules.specs.State.{State, initial_state}
use Rattle.machine_rules.specs.Next.{next, enabled, when_there}
use Rattle.machine_rules.specs.Runs.{after, IsRun, IsOver}
use Rattle.machine_rules.specs.Sound.{IsReady}
use Rattle.machine_rules.proofs.Invariant.{Invariant}
use Rattle.machine_rules.proofs.RunsCoherent.{run-all}
use Rattle.machine_rules.proofs.RestNodes.{mail-enabled}
use Rattle.run_agreement.specs.Reached.{IsHandling, IsEmptied, IsHandledOut, AcquiresNothing, AllAlong, IsCompleted}
use Rattle.run_agreement.proofs.Appending.{after-append, run-append}
use Rattle.run_agreement.proofs.Growing.{Grows, Chooses, grow}

-- ---- a node

-- a node of which nothing but an acquire may come
pub record IsPoisedNode (C : Setting) (n : NodeParts) : Type 0 where
  pub instr : (may_instr C n ≡ false) ⊎ ((lock : LockId) × (need_now C n ≡ Some (need.TheVariants.Acquire lock)))
  pub evict : (w : ℕ) → may_evict C n w ≡ false
  pub arrive : may_arrive n ≡ false

-- a node's event isn't an acquire
abbrev IsOther : Setting → NodeParts → Event → Type 0
IsOther C n (Instr core) = (lock : LockId) → need_now C n ≡ Some (need.TheVariants.Acquire lock) → ⊥
IsOther C n _ = Unit {0}

abbrev ActsOtherwise : Setting → NodeParts → Type 0
ActsOtherwise C n = (e : Event) × MayCome C n e × IsOther C n e

-- a node whose next instruction may come and is an acquire
acquiring : (C : Setting) (n : NodeParts) (lock : LockId) → MayInstruct C n → need_now C n ≡ Some (need.TheVariants.Acquire lock) → IsPoisedNode C n
acquiring C n lock m now =
    record {
      instr = inr (lock, now);
      evict = λ w. false_from_ne_true (may_evict C n w) (λ may. never-room w (may-evict C n w may).room);
      arrive = false_from_ne_true (may_arrive n) (λ may. never-end (may-arrive n may).done);
    }
  where
    never-room : (w : ℕ) → makes_room n w (wanted_by n (need_now C n)) ≡ true → ⊥
    never-room w room = let none = rw (now) at room in absurd (cc)

    never-end : is_running n.task ≡ false → ⊥
    never-end off = let on : is_running n.task ≡ true = rw (m.has, m.going) refl in absurd (cc)

instructs : (C : Setting) (n : NodeParts) → may_instr C n ≡ true → IsPoisedNode C n ⊎ ActsOtherwise C n
instructs C n may = by_need m.needs m.now where
  m : MayInstruct C n
  m = may-instruct C n may

  goes : (x : Need) → need_now C n ≡ Some x → ((lock : LockId) → x ≡ need.TheVariants.Acquire lock → ⊥) → ActsOtherwise C n
  goes x now other = (Instr (me n), (refl, may), λ lock is. other lock (same_Some x (need.TheVariants.Acquire lock) (sym now ∙ is)))

  by_need : (x : Need) → need_now C n ≡ Some x → IsPoisedNode C n ⊎ ActsOtherwise C n
  by_need (need.TheVariants.Acquire lock) now = inl (acquiring C n lock m now)
  by_need need.TheVariants.Local now = inr (goes need.TheVariants.Local now (λ lock e. absurd (cc)))
  by_need (need.TheVariants.End by) now = inr (goes (need.TheVariants.End by) now (λ lock e. absurd (cc)))
  by_need (need.TheVariants.Release l) now = inr (goes (need.TheVariants.Release l) now (λ lock e. absurd (cc)))
  by_need (need.TheVariants.Load word) now = inr (goes (need.TheVariants.Load word) now (λ lock e. absurd (cc)))
  by_need (need.TheVariants.Store word whole) now = inr (goes (need.TheVariants.Store word whole) now (λ lock e. absurd (cc)))

victim-may : (C : Setting) (n : NodeParts) (v : WordId) → Fits C n → may_evict C n v.0 ≡ false → (o : Option WordId) → wanted_by n (need_now C n) ≡ o → victim_for n o ≡ Some v → (w : ℕ) → may_evict C n w ≡ false
victim-may C n v fits stays None wants is = absurd (none-some v is)
victim-may C n v fits stays (Some word) wants is =
    victim-stays C n v (ap (victim_for n) wants ∙ is) (victim-goes n.cache word.0 v fits.cache is).0 stays

-- a node is poised, or may do something else than acquire
pub decide-node : (C : Setting) (n : NodeParts) → Fits C n → IsPoisedNode C n ⊎ ActsOtherwise C n
decide-node C n fits = by_instr (may_instr C n) refl where
  by_arrive : may_instr C n ≡ false → ((w : ℕ) → may_evict C n w ≡ false) → (b : Bool) → may_arrive n ≡ b → IsPoisedNode C n ⊎ ActsOtherwise C n
  by_arrive never evict true may = inr (Arrive (me n), (refl, may), tt)
  by_arrive never evict false arrive = inl (record { instr = inl never; evict = evict; arrive = arrive })

  by_evict : (v : WordId) → victim_for n (wanted_by n (need_now C n)) ≡ Some v → may_instr C n ≡ false → (b : Bool) → may_evict C n v.0 ≡ b → IsPoisedNode C n ⊎ ActsOtherwise C n
  by_evict v is never true may = inr (Evict (me n) v, (refl, may), tt)
  by_evict v is never false stays = by_arrive never (victim-may C n v fits stays (wanted_by n (need_now C n)) refl is) (may_arrive n) refl

  by_victim : (o : Option WordId) → victim_for n (wanted_by n (need_now C n)) ≡ o → may_instr C n ≡ false → IsPoisedNode C n ⊎ ActsOtherwise C n
  by_victim None is never = by_arrive never (without-victim C n is) (may_arrive n) refl
  by_victim (Some v) is never = by_evict v is never (may_evict C n v.0) refl

  by_instr : (b : Bool) → may_instr C n ≡ b → IsPoisedNode C n ⊎ ActsOtherwise C n
  by_instr true may = instructs C n may
  by_instr false never = by_victim (victim_for n (wanted_by n (need_now C n))) refl never

-- a node is still, or may do something
decide-still : (C : Setting) (n : NodeParts) → Fits C n → IsStill C n ⊎ ((e : Event) × MayCome C n e)
decide-still C n fits = by_node (decide-node C n fits) where
  by_instr : IsPoisedNode C n → (b : Bool) → may_instr C n ≡ b → IsStill C n ⊎ ((e : Event) × MayCome C n e)
  by_instr p true may = inr (Instr (me n), (refl, may))
  by_instr p false never = inl (record { instr = never; evict = p.evict; arrive = p.arrive })

  by_node : IsPoisedNode C n ⊎ ActsOtherwise C n → IsStill C n ⊎ ((e : Event) × MayCome C n e)
  by_node (inl p) = by_instr p (may_instr C n) refl
  by_node (inr (e, comes, other)) = inr (e, comes)

-- ---- all nodes

-- a node at its place
pub record IsThere (ns : List NodeParts) (Kind : NodeParts → Type 0) : Type 0 where
  pub place : ℕ
  pub node : NodeParts
  pub found : slice_get ns place ≡ Some node
  pub kind : Kind node

abbrev pub EachIs : List NodeParts → (NodeParts → Type 0) → Type 0
EachIs ns Kind = (c : ℕ) (n : NodeParts) → slice_get ns c ≡ Some n → Kind n

-- each node is of the one kind, or some node is of the other
pub each-or : (ns : List NodeParts) (Kind Other : NodeParts → Type 0) → EachIs ns (λ n. Kind n ⊎ Other n) → EachIs ns Kind ⊎ IsThere ns Other
each-or [] Kind Other decide = inl (λ c n found. absurd (none-some n found))
each-or (n ∷ ns) Kind Other decide = by_first (decide zero n refl) (each-or ns Kind Other (λ c m found. decide (suc c) m found)) where
  all : Kind n → EachIs ns Kind → EachIs (n ∷ ns) Kind
  all first rest zero m found = subst Kind (same_Some n m found) first
  all first rest (suc c) m found = rest c m found

  by_first : Kind n ⊎ Other n → EachIs ns Kind ⊎ IsThere ns Other → EachIs (n ∷ ns) Kind ⊎ IsThere (n ∷ ns) Other
  by_first (inr other) rest = inr (record { place = zero; node = n; found = refl; kind = other })
  by_first (inl first) (inr o) = inr (record { place = suc o.place; node = o.node; found = o.found; kind = o.kind })
  by_first (inl first) (inl rest) = inl (all first rest)

-- ---- a state

-- no message is in flight, and nothing but acquires may come
pub record IsPoised (S : State) : Type 0 where
  pub empty : S.mails ≡ []
  pub nodes : EachIs S.nodes (IsPoisedNode S.setting)

-- a node's own event may come in its state
own-enabled : (S : State) (c : ℕ) (n : NodeParts) (e : Event) → slice_get S.nodes c ≡ Some n → n.core ≡ c → MayCome S.setting n e → enabled S e ≡ true
unfolding enabled
own-enabled S c n (Instr core) found is comes =
    let there : slice_get S.nodes core.0 ≡ Some n = ap (λ k. slice_get S.nodes k.0) comes.0 ∙ ap (slice_get S.nodes) is ∙ found in
    rw (there) comes.1
own-enabled S c n (Evict core word) found is comes =
    let there : slice_get S.nodes core.0 ≡ Some n = ap (λ k. slice_get S.nodes k.0) comes.0 ∙ ap (slice_get S.nodes) is ∙ found in
    rw (there) comes.1
own-enabled S c n (Arrive core) found is comes =
    let there : slice_get S.nodes core.0 ≡ Some n = ap (λ k. slice_get S.nodes k.0) comes.0 ∙ ap (slice_get S.nodes) is ∙ found in
    rw (there) comes.1
own-enabled S c n (Handle id) found is comes = absurd comes

own-other : (S : State) (c : ℕ) (n : NodeParts) (e : Event) → slice_get S.nodes c ≡ Some n → n.core ≡ c → MayCome S.setting n e → IsOther S.setting n e → AcquiresNothing S e
own-other S c n (Instr core) found is comes other =
    λ m lock there needs.
    let here : slice_get S.nodes core.0 ≡ Some n = ap (λ k. slice_get S.nodes k.0) comes.0 ∙ ap (slice_get S.nodes) is ∙ found in
    other lock (subst (λ (x : NodeParts). need_now S.setting x ≡ Some (need.TheVariants.Acquire lock)) (same_Some m n (sym there ∙ here)) needs)
own-other S c n (Evict core word) found is comes other = tt
own-other S c n (Arrive core) found is comes other = tt
own-other S c n (Handle id) found is comes other = absurd comes

-- a message is handled, if one is in flight
choose-mail : (S : State) (Fine : State → Event → Type 0) (Done : State → Type 0) → ((m : Mail) → Fine S (Handle m.id)) → (S.mails ≡ [] → Chooses Fine Done S) → Chooses Fine Done S
choose-mail S Fine Done fine none = by_mails S.mails refl where
  by_mails : (ms : List Mail) → S.mails ≡ ms → Chooses Fine Done S
  by_mails [] is = none is
  by_mails (m ∷ ms) is = inr (Handle m.id, mail-enabled S m (ap (λ (xs : List Mail). slice_get xs 0) is), fine m)

pub choose-poised : (S : State) (M : ℕ → ℕ) → Invariant S M → Chooses AcquiresNothing IsPoised S
choose-poised S M inv = choose-mail S AcquiresNothing IsPoised (λ m. tt) (λ empty. by_nodes empty (each-or S.nodes (IsPoisedNode S.setting) (ActsOtherwise S.setting) (λ c n found. decide-node S.setting n (inv.machine.node c n found).fits)))
  where
    by_nodes : S.mails ≡ [] → EachIs S.nodes (IsPoisedNode S.setting) ⊎ IsThere S.nodes (ActsOtherwise S.setting) → Chooses AcquiresNothing IsPoised S
    by_nodes empty (inl all) = inl (record { empty = empty; nodes = all })
    by_nodes empty (inr t) =
        let core = (inv.machine.node t.place t.node t.found).core in
        inr (t.kind.0, own-enabled S t.place t.node t.kind.0 t.found core t.kind.1, own-other S t.place t.node t.kind.0 t.found core t.kind.1 t.kind.2)

none-there : (test : NodeParts → Bool) (o : Option NodeParts) → ((n : NodeParts) → o ≡ Some n → test n ≡ false) → when_there test o ≡ false
none-there test None fails = refl
none-there test (Some n) fails = fails n refl

-- where no message is in flight and each node is still, no event may come
pub still-over : (S : State) → S.mails ≡ [] → EachIs S.nodes (IsStill S.setting) → IsOver S
unfolding enabled
still-over S empty still (Instr core) = none-there (may_instr S.setting) (slice_get S.nodes core.0) (λ n found. (still core.0 n found).instr)
still-over S empty still (Evict core word) = none-there (λ (n : NodeParts). may_evict S.setting n word.0) (slice_get S.nodes core.0) (λ n found. (still core.0 n found).evict word.0)
still-over S empty still (Arrive core) = none-there may_arrive (slice_get S.nodes core.0) (λ n found. (still core.0 n found).arrive)
still-over S empty still (Handle id) = rw (empty) refl

IsAny : State → Event → Type 0
IsAny S e = Unit {0}

choose-over : (S : State) (M : ℕ → ℕ) → Invariant S M → Chooses IsAny IsOver S
unfolding IsAny
choose-over S M inv = choose-mail S IsAny IsOver (λ m. tt) (λ empty. by_nodes empty (each-or S.nodes (IsStill S.setting) (λ n. (e : Event) × MayCome S.setting n e) (λ c n found. decide-still S.setting n (inv.machine.node c n found).fits)))
  where
    by_nodes : S.mails ≡ [] → EachIs S.nodes (IsStill S.setting) ⊎ IsThere S.nodes (λ n. (e : Event) × MayCome S.setting n e) → Chooses IsAny IsOver S
    by_nodes empty (inl all) = inl (still-over S empty all)
    by_nodes empty (inr t) = inr (t.kind.0, own-enabled S t.place t.node t.kind.0 t.found (inv.machine.node t.place t.node t.found).core t.kind.1, tt)

-- ---- runs

-- a run goes on, without an acquire, to a poised state
pub grow-poised : (C : Setting) (events : List Event) → IsReady C → IsRun (initial_state C) events → Grows (after (initial_state C) events) AcquiresNothing IsPoised
grow-poised C events ready run = grow C AcquiresNothing IsPoised ready (λ es way. choose-poised (after (initial_state C) es) _ (run-all C es ready way).1) events run

pub completed : (C : Setting) (events : List Event) → IsReady C → IsRun (initial_state C) events → IsCompleted (initial_state C) events
completed C events ready run =
    let g : Grows (after (initial_state C) events) IsAny IsOver = grow C IsAny IsOver ready (λ es way. choose-over (after (initial_state C) es) _ (run-all C es ready way).1) events run in
    record {
      more = g.events;
      complete = record { run = run-append (initial_state C) events g.events run g.run; over = subst IsOver (sym (after-append (initial_state C) events g.events)) g.done };
    }

-- ---- messages alone

abbrev Handles : State → Event → Type 0
Handles S e = IsHandling e

abbrev IsEmpty : State → Type 0
IsEmpty S = S.mails ≡ []

all-handle : (S : State) (events : List Event) → AllAlong Handles S events → All IsHandling events
all-handle S [] all = All-nil IsHandling
all-handle S (e ∷ es) all = All-cons IsHandling e es all.0 (all-handle (next S e) es all.1)

pub emptied : (C : Setting) (events : List Event) → IsReady C → IsRun (initial_state C) events → IsEmptied (after (initial_state C) events)
emptied C events ready run =
    let g : Grows (after (initial_state C) events) Handles IsEmpty = grow C Handles IsEmpty ready (λ es way. choose-mail (after (initial_state C) es) Handles IsEmpty (λ m. tt) (λ empty. inl empty)) events run in
    record { events = g.events; run = g.run; handles = all-handle (after (initial_state C) events) g.events g.fine; empty = g.done }

-- where no message can be handled none is in flight
none-left : (S : State) → ((e : Event) → IsHandling e → enabled S e ≡ false) → S.mails ≡ []
none-left S over = by_mails S.mails refl where
  by_mails : (ms : List Mail) → S.mails ≡ ms → S.mails ≡ []
  by_mails [] is = is
  by_mails (m ∷ ms) is =
      let may = mail-enabled S m (ap (λ (xs : List Mail). slice_get xs 0) is) in
      let never = over (Handle m.id) tt in
      absurd (cc)

pub emptied-always : (C : Setting) (events handled : List Event) → IsReady C → IsRun (initial_state C) events → IsHandledOut (after (initial_state C) events) handled
    → (after (after (initial_state C) events) handled).mails ≡ []
emptied-always C events handled ready run out = none-left (after (after (initial_state C) events) handled) out.over

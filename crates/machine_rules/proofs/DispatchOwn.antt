-- An event of a core by itself is one of the ways.
use Rattle.std.proofs.Common.{◌≡◌, ◌⊎◌, inl, inr, ℕ, Bool, true, false, slice_get, Option, Some, None, refl, sym, ap, subst, ◌∙◌}
use Rattle.dn_base.specs.declared.ids.WordId.{WordId}
use Rattle.dn_base.specs.declared.ids.CoreId.{CoreId}
use Rattle.region_table.specs.declared.declared.TaskDecl.{TaskDecl}
use Rattle.region_table.specs.Tasks.{declared}
use Rattle.rv_core.specs.declared.task.TaskState.{TaskState}
use Rattle.rv_core.specs.declared.need.Need as need
use Rattle.rv_core.specs.declared.need.Need.{Need}
use Rattle.rv_core.specs.Kinds.{IsStore}
use Rattle.rv_core.specs.Step.{merged_of}
use Rattle.message_net.specs.declared.event.Event.{Event}
use Rattle.message_net.specs.declared.event.Event.TheVariants.{Instr, Evict, Arrive}
use Rattle.message_net.specs.declared.message.Message.TheVariants.{ReadReq, RegReq, WriteBack, Acquire, Release, Arrived}
use Rattle.message_net.specs.declared.message.Outgoing.{Outgoing}
use Rattle.message_net.specs.Mail.{to_home, to_keeper}
use Rattle.word_cache.specs.declared.row.Entry.{Entry}
use Rattle.word_cache.specs.declared.row.Entry.TheVariants.{Valid, Registered, Leaving}
use Rattle.word_cache.specs.Cache.{has_room, may_go}
use Rattle.registration_protocol.specs.declared.node.Step.{Step}
use Rattle.registration_protocol.specs.Node.{NodeParts, entry_of, need_now, is_active, signature_of}
use Rattle.registration_protocol.specs.OwnEvents.{me, lets, may_access, may_instr, may_evict, may_arrive, instructed, instr_row, load_row, store_row, misses, stored, evicted, evicts, arrives, written_now, written_by, task_ended_badly}
use Rattle.registration_protocol.specs.Parts.{MayInstruct, MayEvict}
use Rattle.registration_protocol.proofs.InstrLemmas.{may-instruct, may-evict, may-arrive, instructed-is, written-is, written-none}
use Rattle.machine_rules.specs.State.{State}
use Rattle.machine_rules.specs.Next.{next, enabled, when_there, seen_in, granted_in}
use Rattle.machine_rules.specs.Memory.{store_in}
use Rattle.machine_rules.proofs.Invariant.{Invariant}
use Rattle.machine_rules.proofs.Steps.{NodeStep, instr-step, evict-step, arrive-step}
use Rattle.machine_rules.specs.Fair.{request_in}
use Rattle.machine_rules.specs.Accesses.{synchronization_in, release_by, arrival_at}
use Rattle.machine_rules.proofs.Outcomes.{Outcomes, Tells, IsActing, stored_to}

-- a node that is there passes the test
pub record IsThere (S : State) (core : ℕ) (test : NodeParts → Bool) : Type 0 where
  pub node : NodeParts
  pub found : slice_get S.nodes core ≡ Some node
  pub passes : test node ≡ true

there : (S : State) (core : ℕ) (test : NodeParts → Bool) → when_there test (slice_get S.nodes core) ≡ true → IsThere S core test
there S core test may = by_node (slice_get S.nodes core) refl may where
  by_node : (o : Option NodeParts) → slice_get S.nodes core ≡ o → when_there test o ≡ true → IsThere S core test
  by_node None is may = absurd (cc)
  by_node (Some n) is may = record { node = n; found = is; passes = may }

pub instr-there : (S : State) (core : CoreId) → enabled S (Instr core) ≡ true → IsThere S core.0 (may_instr S.setting)
unfolding enabled
instr-there S core may = there S core.0 (may_instr S.setting) may

evict-there : (S : State) (core : CoreId) (word : WordId) → enabled S (Evict core word) ≡ true → IsThere S core.0 (λ n. may_evict S.setting n word.0)
unfolding enabled
evict-there S core word may = there S core.0 (λ n. may_evict S.setting n word.0) may

arrive-there : (S : State) (core : CoreId) → enabled S (Arrive core) ≡ true → IsThere S core.0 may_arrive
unfolding enabled
arrive-there S core may = there S core.0 may_arrive may

-- ---- instructions

-- an instruction that comes: the node's row is r
pub record Instructed (S : State) (core : CoreId) (n : NodeParts) (r : NodeParts × Step) : Type 0 where
  pub step : NodeStep S (next S (Instr core)) core.0 n r.0 None r.1.sent
  pub seen : seen_in S (Instr core) ≡ r.1.seen
  pub granted : granted_in S (Instr core) ≡ None
  pub store : store_in S (Instr core) ≡ written_now S.setting n
  pub synchronization : synchronization_in S (Instr core) ≡ release_by core n (need_now S.setting n)
  pub request : request_in S (Instr core) ≡ None

pub instructed-row : (S : State) (core : CoreId) (n : NodeParts) (r : NodeParts × Step) → slice_get S.nodes core.0 ≡ Some n → instructed S.setting n ≡ r → Instructed S core n r
unfolding seen_in granted_in store_in synchronization_in request_in
instructed-row S core n r found is =
    record {
      step = subst (λ (x : NodeParts × Step). NodeStep S (next S (Instr core)) core.0 n x.0 None x.1.sent) is (instr-step S core n found);
      seen = rw (found) (ap (λ (x : NodeParts × Step). x.1.seen) is);
      granted = refl;
      store = rw (found) refl;
      synchronization = rw (found) refl;
      request = refl;
    }

-- what an instruction tells that stores nothing
quietly : (S : State) (core : CoreId) (n : NodeParts) (r : NodeParts × Step) (x : Need) → Instructed S core n r → need_now S.setting n ≡ Some x → (IsStore x → ⊥)
    → Tells S (Instr core) r.1.seen None None (release_by core n (Some x)) None
quietly S core n r x h now other = record { seen_is = h.seen; granted_is = h.granted; request_is = h.request; synchronization_is = h.synchronization ∙ ap (release_by core n) now; store_is = h.store ∙ written-none S.setting n x now other }

-- a memory that nothing is stored to
same-memory : (S : State) (M : ℕ → ℕ) (e : Event) (G : (ℕ → ℕ) → Type 0) → store_in S e ≡ None → G M → G (stored_to (store_in S e) M)
same-memory S M e G none good = subst (λ (o : Option (WordId × ℕ)). G (stored_to o M)) (sym none) good

-- the node, and what it needs next
pub record Going (S : State) (core : CoreId) (n : NodeParts) (d : TaskDecl) (t : TaskState) (x : Need) : Type 0 where
  pub acts : IsActing S core n d t x
  pub now : need_now S.setting n ≡ Some x
  pub allows : lets n (Some x) ≡ true
  pub row : instructed S.setting n ≡ instr_row S.setting n d t x
  pub mine : me n ≡ core

pub going : (S : State) (core : CoreId) (n : NodeParts) → slice_get S.nodes core.0 ≡ Some n → n.core ≡ core.0 → (i : MayInstruct S.setting n) → Going S core n i.decl i.task i.needs
going S core n found own i =
    record {
      acts = record {
        found = found;
        awake = i.halted;
        absent = i.arrived;
        ready = i.ready;
        task = i.has;
        open' = i.going;
        declares = subst (λ (x : ℕ). declared S.setting.program n.phase x ≡ Some i.decl) own i.declares;
        wants = i.asks;
      };
      now = i.now;
      allows = i.allows;
      row = instructed-is S.setting n i.decl i.task i.needs i.declares i.has i.now;
      mine = ap (λ (x : ℕ). let c : CoreId = record { 0 = x } in c) own;
    }

-- a load or store of a word that the node has no entry of
missed : (S : State) (M : ℕ → ℕ) (core : CoreId) (n : NodeParts) (d : TaskDecl) (t : TaskState) (word : WordId) (x : Need) (G : (ℕ → ℕ) → Type 0) → Outcomes S M (Instr core) G
    → (x ≡ need.TheVariants.Load word) ⊎ (x ≡ need.TheVariants.Store word false) → Going S core n d t x → entry_of n word.0 ≡ None → has_room n.cache word.0 ≡ true
    → instructed S.setting n ≡ misses S.setting n word → written_now S.setting n ≡ None → G (stored_to (store_in S (Instr core)) M)
missed S M core n d t word x G outcomes needs g none room row writes =
    let h = instructed-row S core n (misses S.setting n word) g.acts.found row in
    let tells : Tells S (Instr core) None None None None None = record { seen_is = h.seen; granted_is = h.granted; request_is = h.request; synchronization_is = h.synchronization ∙ (ap (release_by core n) g.now ∙ no-release needs); store_is = h.store ∙ writes } in
    same-memory S M (Instr core) G tells.store_is
    (outcomes.miss core n d t word x needs g.acts none room tells
    (subst (λ (c : CoreId). NodeStep S (next S (Instr core)) core.0 n (misses S.setting n word).0 None (to_home S.setting.shape.banks word.0 (ReadReq word c))) g.mine h.step))
  where
    no-release : (x ≡ need.TheVariants.Load word) ⊎ (x ≡ need.TheVariants.Store word false) → release_by core n (Some x) ≡ None
    no-release (inl is) = ap (λ (y : Need). release_by core n (Some y)) is
    no-release (inr is) = ap (λ (y : Need). release_by core n (Some y)) is

-- a load, by the entry of its word
loaded : (S : State) (M : ℕ → ℕ) (core : CoreId) (n : NodeParts) (d : TaskDecl) (t : TaskState) (word : WordId) (G : (ℕ → ℕ) → Type 0) → Outcomes S M (Instr core) G
    → Going S core n d t (need.TheVariants.Load word) → (e : Option Entry) → entry_of n word.0 ≡ e → may_access n word.0 e ≡ true
    → instructed S.setting n ≡ load_row S.setting n d t word e → G (stored_to (store_in S (Instr core)) M)
loaded S M core n d t word G outcomes g None is may row =
    missed S M core n d t word (need.TheVariants.Load word) G outcomes (inl refl) g is may row (written-none S.setting n (need.TheVariants.Load word) g.now (λ x. x))
loaded S M core n d t word G outcomes g (Some (Valid value marked)) is may row =
    let h = instructed-row S core n (load_row S.setting n d t word (Some (Valid value marked))) g.acts.found row in
    let tells = quietly S core n (load_row S.setting n d t word (Some (Valid value marked))) (need.TheVariants.Load word) h g.now (λ x. x) in
    same-memory S M (Instr core) G tells.store_is (outcomes.load_copy core n d t word value marked g.acts is tells h.step)
loaded S M core n d t word G outcomes g (Some (Registered value pending)) is may row =
    let h = instructed-row S core n (load_row S.setting n d t word (Some (Registered value pending))) g.acts.found row in
    let tells = quietly S core n (load_row S.setting n d t word (Some (Registered value pending))) (need.TheVariants.Load word) h g.now (λ x. x) in
    same-memory S M (Instr core) G tells.store_is (outcomes.load_own core n d t word value pending g.acts is tells h.step)
loaded S M core n d t word G outcomes g (Some (Leaving value)) is may row = absurd (cc)

-- what is stored goes to the memory
new-memory : (S : State) (M : ℕ → ℕ) (e : Event) (G : (ℕ → ℕ) → Type 0) (o : Option (WordId × ℕ)) → store_in S e ≡ o → G (stored_to o M) → G (stored_to (store_in S e) M)
new-memory S M e G o is good = subst (λ (o : Option (WordId × ℕ)). G (stored_to o M)) (sym is) good

-- a store, by the entry of its word
kept : (S : State) (M : ℕ → ℕ) (core : CoreId) (n : NodeParts) (d : TaskDecl) (t : TaskState) (word : WordId) (whole : Bool) (G : (ℕ → ℕ) → Type 0) → Outcomes S M (Instr core) G
    → Going S core n d t (need.TheVariants.Store word whole) → (e : Option Entry) → entry_of n word.0 ≡ e → may_access n word.0 e ≡ true
    → instructed S.setting n ≡ store_row S.setting n d t word whole e → written_now S.setting n ≡ written_by S.setting t word whole e → G (stored_to (store_in S (Instr core)) M)
kept S M core n d t word false G outcomes g None is may row writes =
    missed S M core n d t word (need.TheVariants.Store word false) G outcomes (inr refl) g is may row writes
kept S M core n d t word true G outcomes g None is may row writes =
    let value = merged_of S.setting.program 0 t in
    let h = instructed-row S core n (store_row S.setting n d t word true None) g.acts.found row in
    let tells : Tells S (Instr core) None None (Some (word, value)) None None = record { seen_is = h.seen; granted_is = h.granted; request_is = h.request; synchronization_is = h.synchronization ∙ ap (release_by core n) g.now; store_is = h.store ∙ writes } in
    new-memory S M (Instr core) G (Some (word, value)) tells.store_is
    (outcomes.store_new core n d t word value g.acts is may refl tells
    (subst (λ (c : CoreId). NodeStep S (next S (Instr core)) core.0 n (stored S.setting n d t word (Registered value true)) None (to_home S.setting.shape.banks word.0 (RegReq word c))) g.mine h.step))
kept S M core n d t word whole G outcomes g (Some (Valid old marked)) is may row writes =
    let value = merged_of S.setting.program old t in
    let h = instructed-row S core n (store_row S.setting n d t word whole (Some (Valid old marked))) g.acts.found row in
    let tells : Tells S (Instr core) None None (Some (word, value)) None None = record { seen_is = h.seen; granted_is = h.granted; request_is = h.request; synchronization_is = h.synchronization ∙ ap (release_by core n) g.now; store_is = h.store ∙ writes } in
    new-memory S M (Instr core) G (Some (word, value)) tells.store_is
    (outcomes.store_copy core n d t word whole old value marked g.acts is refl tells
    (subst (λ (c : CoreId). NodeStep S (next S (Instr core)) core.0 n (stored S.setting n d t word (Registered value true)) None (to_home S.setting.shape.banks word.0 (RegReq word c))) g.mine h.step))
kept S M core n d t word whole G outcomes g (Some (Registered old pending)) is may row writes =
    let value = merged_of S.setting.program old t in
    let h = instructed-row S core n (store_row S.setting n d t word whole (Some (Registered old pending))) g.acts.found row in
    let tells : Tells S (Instr core) None None (Some (word, value)) None None = record { seen_is = h.seen; granted_is = h.granted; request_is = h.request; synchronization_is = h.synchronization ∙ ap (release_by core n) g.now; store_is = h.store ∙ writes } in
    new-memory S M (Instr core) G (Some (word, value)) tells.store_is
    (outcomes.store_own core n d t word whole old value pending g.acts is refl tells h.step)
kept S M core n d t word whole G outcomes g (Some (Leaving value)) is may row writes = absurd (cc)

-- an instruction, by its need
acted : (S : State) (M : ℕ → ℕ) (core : CoreId) (n : NodeParts) (d : TaskDecl) (t : TaskState) (G : (ℕ → ℕ) → Type 0) → Outcomes S M (Instr core) G
    → (x : Need) → Going S core n d t x → G (stored_to (store_in S (Instr core)) M)
acted S M core n d t G outcomes need.TheVariants.Local g =
    let h = instructed-row S core n (instr_row S.setting n d t need.TheVariants.Local) g.acts.found g.row in
    let tells = quietly S core n (instr_row S.setting n d t need.TheVariants.Local) need.TheVariants.Local h g.now (λ x. x) in
    same-memory S M (Instr core) G tells.store_is (outcomes.local core n d t g.acts tells h.step)
acted S M core n d t G outcomes (need.TheVariants.End by) g =
    let h = instructed-row S core n (instr_row S.setting n d t (need.TheVariants.End by)) g.acts.found g.row in
    let tells = quietly S core n (instr_row S.setting n d t (need.TheVariants.End by)) (need.TheVariants.End by) h g.now (λ x. x) in
    same-memory S M (Instr core) G tells.store_is (outcomes.ends core n d t by g.acts tells h.step)
acted S M core n d t G outcomes (need.TheVariants.Load word) g = loaded S M core n d t word G outcomes g (entry_of n word.0) refl g.allows g.row
acted S M core n d t G outcomes (need.TheVariants.Store word whole) g =
    kept S M core n d t word whole G outcomes g (entry_of n word.0) refl g.allows g.row (written-is S.setting n t word whole g.acts.task g.now)
acted S M core n d t G outcomes (need.TheVariants.Acquire lock) g =
    let h = instructed-row S core n (instr_row S.setting n d t (need.TheVariants.Acquire lock)) g.acts.found g.row in
    let tells = quietly S core n (instr_row S.setting n d t (need.TheVariants.Acquire lock)) (need.TheVariants.Acquire lock) h g.now (λ x. x) in
    same-memory S M (Instr core) G tells.store_is
    (outcomes.acquire core n d t lock g.acts tells
    (subst (λ (c : CoreId). NodeStep S (next S (Instr core)) core.0 n (instr_row S.setting n d t (need.TheVariants.Acquire lock)).0 None (to_home S.setting.shape.banks lock.0 (Acquire lock c))) g.mine h.step))
acted S M core n d t G outcomes (need.TheVariants.Release lock) g =
    let h = instructed-row S core n (instr_row S.setting n d t (need.TheVariants.Release lock)) g.acts.found g.row in
    let tells = quietly S core n (instr_row S.setting n d t (need.TheVariants.Release lock)) (need.TheVariants.Release lock) h g.now (λ x. x) in
    same-memory S M (Instr core) G tells.store_is
    (outcomes.release core n d t lock g.acts g.allows tells
    (subst (λ (c : CoreId). NodeStep S (next S (Instr core)) core.0 n (instr_row S.setting n d t (need.TheVariants.Release lock)).0 None (to_home S.setting.shape.banks lock.0 (Release lock c (signature_of n lock.0)))) g.mine h.step))

pub instr-ways : (S : State) (M : ℕ → ℕ) (core : CoreId) (G : (ℕ → ℕ) → Type 0) → Invariant S M → enabled S (Instr core) ≡ true → Outcomes S M (Instr core) G
    → G (stored_to (store_in S (Instr core)) M)
instr-ways S M core G inv may outcomes =
    let at = instr-there S core may in
    let i = may-instruct S.setting at.node at.passes in
    acted S M core at.node i.decl i.task G outcomes i.needs (going S core at.node at.found ((inv.machine.node core.0 at.node at.found).core) i)

-- ---- evictions and arrivals

-- an event of a core that isn't an instruction tells nothing
silent-evict : (S : State) (core : CoreId) (word : WordId) → Tells S (Evict core word) None None None None None
unfolding seen_in granted_in store_in synchronization_in request_in
silent-evict S core word = record { seen_is = refl; granted_is = refl; synchronization_is = refl; request_is = refl; store_is = refl }

silent-arrive : (S : State) (core : CoreId) (n : NodeParts) → slice_get S.nodes core.0 ≡ Some n → Tells S (Arrive core) None None None (arrival_at core (Some n)) None
unfolding seen_in granted_in store_in synchronization_in request_in
silent-arrive S core n found = record { seen_is = refl; granted_is = refl; synchronization_is = ap (arrival_at core) found; request_is = refl; store_is = refl }

awake : (n : NodeParts) → n.arrived ≡ false → n.halted ≡ false → is_active n ≡ true
awake n absent up = rw (absent, up) refl

evict-row : (S : State) (core : CoreId) (word : WordId) (n : NodeParts) (r : NodeParts × Option Outgoing) → slice_get S.nodes core.0 ≡ Some n → evicted S.setting n word ≡ r
    → NodeStep S (next S (Evict core word)) core.0 n r.0 None r.1
evict-row S core word n r found is = subst (λ (x : NodeParts × Option Outgoing). NodeStep S (next S (Evict core word)) core.0 n x.0 None x.1) is (evict-step S core word n found)

pub evict-ways : (S : State) (M : ℕ → ℕ) (core : CoreId) (word : WordId) (G : (ℕ → ℕ) → Type 0) → Invariant S M → enabled S (Evict core word) ≡ true → Outcomes S M (Evict core word) G
    → G (stored_to (store_in S (Evict core word)) M)
evict-ways S M core word G inv may outcomes =
    let at = evict-there S core word may in
    let i = may-evict S.setting at.node word.0 at.passes in
    same-memory S M (Evict core word) G (silent-evict S core word).store_is (by_entry at.node at.found i (entry_of at.node word.0) refl i.evictable)
  where
    by_entry : (n : NodeParts) → slice_get S.nodes core.0 ≡ Some n → MayEvict S.setting n word.0 → (e : Option Entry) → entry_of n word.0 ≡ e → may_go e ≡ true → G M
    by_entry n found i None is goes = absurd (cc)
    by_entry n found i (Some (Valid value marked)) is goes =
        outcomes.evict_copy core n word value marked found (awake n i.arrived i.halted) i.waiting is (silent-evict S core word)
        (evict-row S core word n (evicts S.setting n word (Some (Valid value marked))) found (ap (evicts S.setting n word) is))
    by_entry n found i (Some (Registered value true)) is goes = absurd (cc)
    by_entry n found i (Some (Registered value false)) is goes =
        let mine : me n ≡ core = ap (λ (x : ℕ). let c : CoreId = record { 0 = x } in c) ((inv.machine.node core.0 n found).core) in
        let row = evicts S.setting n word (Some (Registered value false)) in
        outcomes.evict_own core n word value found (awake n i.arrived i.halted) i.waiting is (silent-evict S core word)
        (subst (λ (c : CoreId). NodeStep S (next S (Evict core word)) core.0 n row.0 None (to_home S.setting.shape.banks word.0 (WriteBack word value c))) mine
        (evict-row S core word n (evicts S.setting n word (Some (Registered value false))) found (ap (evicts S.setting n word) is)))
    by_entry n found i (Some (Leaving value)) is goes = absurd (cc)

pub arrive-ways : (S : State) (M : ℕ → ℕ) (core : CoreId) (G : (ℕ → ℕ) → Type 0) → Invariant S M → enabled S (Arrive core) ≡ true → Outcomes S M (Arrive core) G
    → G (stored_to (store_in S (Arrive core)) M)
arrive-ways S M core G inv may outcomes =
    let at = arrive-there S core may in
    let n = at.node in
    let i = may-arrive n at.passes in
    let mine : me n ≡ core = ap (λ (x : ℕ). let c : CoreId = record { 0 = x } in c) ((inv.machine.node core.0 n at.found).core) in
    same-memory S M (Arrive core) G (silent-arrive S core n at.found).store_is
    (outcomes.arrive core n at.found i.halted i.arrived i.done i.settled (silent-arrive S core n at.found)
    (subst (λ (c : CoreId). NodeStep S (next S (Arrive core)) core.0 n (arrives n).0 None (to_keeper (Arrived c (task_ended_badly n.task)))) mine (arrive-step S core n at.found)))

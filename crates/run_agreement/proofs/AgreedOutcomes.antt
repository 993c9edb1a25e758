-- Every event keeps that the state agrees with the flat machine's run by the grants so far.
use Rattle.std.proofs.Common.{◌≡◌, inl, inr, ℕ, ◌<◌, ◌≤◌, Bool, true, false, List, [], ◌∷◌, ◌++◌, length, slice_get, slice_set, slice_index, Option, Some, None, refl, sym, ap, subst, ◌∙◌, arith}
use Rattle.dn_base.specs.declared.ids.CoreId.{CoreId}
use Rattle.dn_base.specs.declared.ids.WordId.{WordId}
use Rattle.dn_base.specs.declared.ids.LockId.{LockId}
use Rattle.dn_base.specs.declared.ids.Grant.{Grant as Granted}
use Rattle.dn_base.specs.declared.ids.LoadSeen.{LoadSeen}
use Rattle.region_table.specs.declared.declared.TaskDecl.{TaskDecl}
use Rattle.rv_core.specs.declared.task.TaskState.{TaskState}
use Rattle.rv_core.specs.declared.need.Need as need
use Rattle.rv_core.specs.declared.need.Need.{Need}
use Rattle.rv_core.specs.Kinds.{IsLoad}
use Rattle.rv_core.specs.Need.{need_of}
use Rattle.rv_core.specs.Step.{advanced, loaded_of, merged_of}
use Rattle.rv_core.proofs.Completions.{store-allowed, loaded-retired, whole-merged}
use Rattle.flat_machine.specs.Step.{step_by}
use Rattle.flat_machine.specs.Laws.{at_memory}
use Rattle.run_agreement.specs.Cores.{IsFreeAmong}
use Rattle.message_net.specs.declared.event.Event.{Event}
use Rattle.message_net.specs.declared.event.Event.TheVariants.{Instr}
use Rattle.message_net.specs.declared.message.Message.TheVariants.{Grant}
use Rattle.message_net.specs.declared.message.Outgoing.{Outgoing}
use Rattle.phase_barrier.specs.Barrier.{Barrier}
use Rattle.word_cache.specs.declared.row.Entry.TheVariants.{Valid, Registered}
use Rattle.write_signature.specs.declared.signature.Signature.{Signature}
use Rattle.registration_protocol.specs.Node.{NodeParts, entry_of}
use Rattle.registration_protocol.specs.Messages.{holds_now}
use Rattle.machine_rules.specs.Actions.{Action}
use Rattle.machine_rules.specs.Fair.{Request}
use Rattle.machine_rules.specs.State.{State}
use Rattle.machine_rules.specs.Next.{next, seen_in, granted_in}
use Rattle.machine_rules.specs.Flight.{flight, is_grant_to}
use Rattle.machine_rules.proofs.Bits.{passes}
use Rattle.machine_rules.proofs.Invariant.{Invariant}
use Rattle.machine_rules.proofs.Outcomes.{Outcomes, Tells, IsActing, stored_to, at_core}
use Rattle.machine_rules.proofs.Steps.{NodeStep}
use Rattle.machine_rules.proofs.Exclusive.{acting-works, IsAtWork, in-phase}
use Rattle.machine_rules.proofs.LoadsRead.{copy-loaded, own-loaded}
use Rattle.machine_rules.proofs.RunsKept.{stored-list}
use Rattle.machine_rules.proofs.WordCore.{same-number}
use Rattle.run_agreement.specs.Agreed.{Loads, Ends, stands, Agreed, more_grants, more_loads}
use Rattle.run_agreement.proofs.Acting.{task_of, Acts, act, act-grant}
use Rattle.run_agreement.proofs.Quiet.{IsLast, still-agreed, quiet-agreed, go-agreed, loads-same}
use Rattle.run_agreement.proofs.Phases.{begins-agreed}
use Rattle.run_agreement.proofs.FreeLocks.{granted-free}
use Rattle.run_agreement.proofs.Told.{same-loads, same-grants, one-grant, loads-core, LoadsMore, more-loaded}

-- the state after an event, with the grants and the loads that it adds
abbrev pub AgreedNext : State → Event → List Granted → Loads → Ends → (ℕ → ℕ) → Type 0
AgreedNext S e gs L E M = Agreed (next S e) M (more_grants gs S e) (more_loads L S e) E

-- ---- what a task does that loads nothing

acts-plainly : {E : Ends} (S : State) (M M' : ℕ → ℕ) (e : Event) (gs : List Granted) (L : Loads) (core : CoreId) (n m : NodeParts) (d : TaskDecl) (t t' : TaskState) (sent : Option Outgoing) (needs : Need)
    → Invariant S M → (h : Agreed S M gs L E) → IsActing S core n d t needs → seen_in S e ≡ None → granted_in S e ≡ None → NodeStep S (next S e) core.0 n m None sent → m.phase ≡ n.phase → m.task ≡ Some t'
    → (memory : List ℕ) → ((w : ℕ) → slice_index memory w ≡ M' w)
    → ((k : ℕ) → step_by S.setting.program (at_memory (task_of k d t (L n.phase core.0)) h.memory) (Some needs) ≡ at_memory (task_of k d t' (L n.phase core.0)) memory)
    → AgreedNext S e gs L E M'
acts-plainly {E} S M M' e gs L core n m d t t' sent needs inv h acts seen granted step phase task memory same goes =
    let a : Acts S (next S e) L (more_loads L S e) core n m d t t' (L n.phase core.0) None sent = record {
      works = acting-works S core n d t needs acts;
      step = step;
      phase = phase;
      task = task;
      own = same-loads S e L seen n.phase core.0;
      others = λ q c apart. same-loads S e L seen q c;
    } in
    let now : Agreed (next S e) M' gs (more_loads L S e) E =
    act S (next S e) M M' gs L (more_loads L S e) core n m d t t' (L n.phase core.0) None sent needs inv h a acts.open' acts.wants memory same goes in
    subst (λ (x : List Granted). Agreed (next S e) M' x (more_loads L S e) E) (sym (same-grants S e gs granted)) now

-- ---- loads

loads-one : {E : Ends} (S : State) (M : ℕ → ℕ) (e : Event) (gs : List Granted) (L : Loads) (core : CoreId) (n m : NodeParts) (d : TaskDecl) (t : TaskState) (word : WordId) (value : ℕ)
    → Invariant S M → (h : Agreed S M gs L E) → IsActing S core n d t (need.TheVariants.Load word) → seen_in S e ≡ Some (record { word = word; value = value }) → granted_in S e ≡ None → value ≡ M word.0
    → NodeStep S (next S e) core.0 n m None None → m.phase ≡ n.phase → m.task ≡ Some (loaded_of S.setting.program value t) → AgreedNext S e gs L E M
loads-one {E} S M e gs L core n m d t word value inv h acts seen granted right step phase task =
    subst (λ (x : List Granted). Agreed (next S e) M x (more_loads L S e) E) (sym (same-grants S e gs granted)) now
  where
    one : LoadSeen
    one = record { word = word; value = value }

    t' : TaskState
    t' = loaded_of S.setting.program value t

    loads : List LoadSeen
    loads = L n.phase core.0 ++ one ∷ []

    apart : m ≡ n → ⊥
    apart same =
        let both : Some t' ≡ Some t = sym task ∙ ap (λ (x : NodeParts). x.task) same ∙ acts.task in
        let state : t' ≡ t = cc in
        let more = loaded-retired S.setting.program d S.setting.fuel t value (subst IsLoad (sym acts.wants) tt) in
        omega (arith, more, ap (λ (x : TaskState). x.retired) state)

    more : LoadsMore S e L core.0 n one
    more = by_core (loads-core S e core n m one None None seen step apart) where
      by_core : (c : CoreId) × (e ≡ Instr c) × (c.0 ≡ core.0) → LoadsMore S e L core.0 n one
      by_core (c, is, same) =
          let found : slice_get S.nodes c.0 ≡ Some n = subst (λ (x : ℕ). slice_get S.nodes x ≡ Some n) (sym same) acts.found in
          let told : seen_in S (Instr c) ≡ Some one = subst (λ (x : Event). seen_in S x ≡ Some one) is seen in
          subst (λ (x : ℕ). LoadsMore S e L x n one) same (subst (λ (x : Event). LoadsMore S x L c.0 n one) (sym is) (more-loaded S c L n one found told))

    a : Acts S (next S e) L (more_loads L S e) core n m d t t' loads None None
    a =
        record {
          works = acting-works S core n d t (need.TheVariants.Load word) acts;
          step = step;
          phase = phase;
          task = task;
          own = more.own;
          others = more.others;
        }

    same-value : slice_index h.memory word.0 ≡ value
    same-value = h.same word.0 ∙ sym right

    goes : (k : ℕ) → step_by S.setting.program (at_memory (task_of k d t (L n.phase core.0)) h.memory) (Some (need.TheVariants.Load word)) ≡ at_memory (task_of k d t' loads) h.memory
    goes k = ap (λ (v : ℕ). at_memory (task_of k d (loaded_of S.setting.program v t) (L n.phase core.0 ++ record { word = word; value = v } ∷ [])) h.memory) same-value

    now : Agreed (next S e) M gs (more_loads L S e) E
    now = act S (next S e) M M gs L (more_loads L S e) core n m d t t' loads None None (need.TheVariants.Load word) inv h a acts.open' acts.wants h.memory h.same goes

-- ---- stores

stores-one : {E : Ends} (S : State) (M : ℕ → ℕ) (e : Event) (gs : List Granted) (L : Loads) (core : CoreId) (n m : NodeParts) (d : TaskDecl) (t : TaskState) (word : WordId) (whole : Bool) (value : ℕ) (sent : Option Outgoing)
    → Invariant S M → (h : Agreed S M gs L E) → IsActing S core n d t (need.TheVariants.Store word whole) → seen_in S e ≡ None → granted_in S e ≡ None → value ≡ merged_of S.setting.program (M word.0) t
    → NodeStep S (next S e) core.0 n m None sent → m.phase ≡ n.phase → m.task ≡ Some (advanced S.setting.program t) → AgreedNext S e gs L E (stored_to (Some (word, value)) M)
stores-one {E} S M e gs L core n m d t word whole value sent inv h acts seen granted right step phase task =
    acts-plainly S M (stored_to (Some (word, value)) M) e gs L core n m d t (advanced S.setting.program t) sent (need.TheVariants.Store word whole) inv h acts seen granted step phase task
    (slice_set h.memory word.0 value) written goes
  where
    within : word.0 < length h.memory
    within = omega (arith, (store-allowed S.setting.program d S.setting.fuel t word whole acts.wants).0, h.world.leads.world.words)

    written : (w : ℕ) → slice_index (slice_set h.memory word.0 value) w ≡ stored_to (Some (word, value)) M w
    written w =
        stored-list (Some (word, value)) h.memory M
        (λ v x is. (let same : (word, value) ≡ (v, x) = cc in subst (λ (y : WordId × ℕ). y.0.0 < length h.memory) same within)) h.same w

    same-value : merged_of S.setting.program (slice_index h.memory word.0) t ≡ value
    same-value = ap (λ (v : ℕ). merged_of S.setting.program v t) (h.same word.0) ∙ sym right

    goes : (k : ℕ) → step_by S.setting.program (at_memory (task_of k d t (L n.phase core.0)) h.memory) (Some (need.TheVariants.Store word whole))
        ≡ at_memory (task_of k d (advanced S.setting.program t) (L n.phase core.0)) (slice_set h.memory word.0 value)
    goes k = ap (λ (v : ℕ). at_memory (task_of k d (advanced S.setting.program t) (L n.phase core.0)) (slice_set h.memory word.0 v)) same-value

-- the value that a store leaves: it doesn't matter what a whole store is merged into, and the rest of a part is the memory's
copy-merged : (S : State) (M : ℕ → ℕ) (core : CoreId) (n : NodeParts) (d : TaskDecl) (t : TaskState) (word : WordId) (whole : Bool) (old : ℕ) (marked : Bool) → Invariant S M
    → IsActing S core n d t (need.TheVariants.Store word whole) → entry_of n word.0 ≡ Some (Valid old marked) → merged_of S.setting.program old t ≡ merged_of S.setting.program (M word.0) t
copy-merged S M core n d t word true old marked inv acts is = whole-merged S.setting.program d S.setting.fuel t word old (M word.0) acts.wants
copy-merged S M core n d t word false old marked inv acts is =
    ap (λ (v : ℕ). merged_of S.setting.program v t) (copy-loaded S M core n d t word (need.TheVariants.Store word false) old marked inv (inr refl) acts is)

own-merged : (S : State) (M : ℕ → ℕ) (core : CoreId) (n : NodeParts) (d : TaskDecl) (t : TaskState) (word : WordId) (whole : Bool) (old : ℕ) (pending : Bool) → Invariant S M
    → IsActing S core n d t (need.TheVariants.Store word whole) → entry_of n word.0 ≡ Some (Registered old pending) → merged_of S.setting.program old t ≡ merged_of S.setting.program (M word.0) t
own-merged S M core n d t word true old pending inv acts is = whole-merged S.setting.program d S.setting.fuel t word old (M word.0) acts.wants
own-merged S M core n d t word false old pending inv acts is =
    ap (λ (v : ℕ). merged_of S.setting.program v t) (own-loaded S M core n d t word (need.TheVariants.Store word false) old pending inv (inr refl) acts is)

-- ---- grants

takes-lock : {E : Ends} {synchronization : Option Action} {request : Option Request} (S : State) (M : ℕ → ℕ) (e : Event) (gs : List Granted) (L : Loads) (core : CoreId) (n : NodeParts) (d : TaskDecl) (t : TaskState) (lock : LockId) (s : Signature)
    → Invariant S M → (h : Agreed S M gs L E) → IsAtWork S core.0 n d t → t.end ≡ None → need_of S.setting.program d S.setting.fuel t ≡ need.TheVariants.Acquire lock
    → Tells S e None (Some (record { phase = record { 0 = n.phase }; core = core; lock = lock })) None synchronization request
    → NodeStep S (next S e) core.0 n (holds_now S.setting n t lock s).0 (at_core core (Grant lock s)) None → AgreedNext S e gs L E M
takes-lock {E} S M e gs L core n d t lock s inv h works open' wants told step =
    let g : Granted = record { phase = record { 0 = n.phase }; core = core; lock = lock } in
    let a : Acts S (next S e) L (more_loads L S e) core n (holds_now S.setting n t lock s).0 d t (advanced S.setting.program t) (L n.phase core.0) (at_core core (Grant lock s)) None = record {
      works = works;
      step = step;
      phase = refl;
      task = refl;
      own = same-loads S e L told.seen_is n.phase core.0;
      others = λ q c apart. same-loads S e L told.seen_is q c;
    } in
    let one : passes (is_grant_to lock.0 core.0) (at_core core (Grant lock s)) ≡ 1 = rw (same-number lock.0, same-number core.0) refl in
    let some : 1 ≤ flight S (is_grant_to lock.0 core.0) = omega (arith, one, step.flown (is_grant_to lock.0 core.0)) in
    let free : IsFreeAmong h.phase (stands h.states L n.phase) lock.0 =
    subst (λ (k : ℕ). IsFreeAmong h.phase (stands h.states L k) lock.0) (sym (in-phase S M core.0 n d t inv works)) (granted-free S M h.states L h.phase lock.0 core.0 inv h.shown h.world.there some) in
    let now : Agreed (next S e) M (gs ++ g ∷ []) (more_loads L S e) E =
    act-grant S (next S e) M gs L (more_loads L S e) core n (holds_now S.setting n t lock s).0 d t lock (at_core core (Grant lock s)) None inv h a open' wants free in
    subst (λ (x : List Granted). Agreed (next S e) M x (more_loads L S e) E) (sym (one-grant S e gs g told.granted_is)) now

-- ---- every event

pub agreed-outcomes : {E : Ends} (S : State) (M : ℕ → ℕ) (e : Event) (gs : List Granted) (L : Loads) → Invariant S M → IsLast S E → Agreed S M gs L E → Outcomes S M e (AgreedNext S e gs L E)
agreed-outcomes {E} S M e gs L inv last h =
    record {
      local = λ core n d t acts told step. plainly core n _ d t _ None need.TheVariants.Local acts told step refl refl (λ k. refl);
      ends = λ core n d t by acts told step. plainly core n _ d t _ None (need.TheVariants.End by) acts told step refl refl (λ k. refl);
      load_copy = λ core n d t word value marked acts is told step.
          loads-one S M e gs L core n _ d t word value inv h acts told.seen_is told.granted_is (copy-loaded S M core n d t word (need.TheVariants.Load word) value marked inv (inl refl) acts is) step refl refl;
      load_own = λ core n d t word value pending acts is told step.
          loads-one S M e gs L core n _ d t word value inv h acts told.seen_is told.granted_is (own-loaded S M core n d t word (need.TheVariants.Load word) value pending inv (inl refl) acts is) step refl refl;
      miss = λ core n d t word needs which acts none room told step. quiet core n _ None _ told.seen_is told.granted_is step refl refl;
      store_new = λ core n d t word value acts none room is told step.
          stores-one S M e gs L core n _ d t word true value _ inv h acts told.seen_is told.granted_is (is ∙ whole-merged S.setting.program d S.setting.fuel t word 0 (M word.0) acts.wants) step refl refl;
      store_copy = λ core n d t word whole old value marked acts entry is told step.
          stores-one S M e gs L core n _ d t word whole value _ inv h acts told.seen_is told.granted_is (is ∙ copy-merged S M core n d t word whole old marked inv acts entry) step refl refl;
      store_own = λ core n d t word whole old value pending acts entry is told step.
          stores-one S M e gs L core n _ d t word whole value _ inv h acts told.seen_is told.granted_is (is ∙ own-merged S M core n d t word whole old pending inv acts entry) step refl refl;
      acquire = λ core n d t lock acts told step. quiet core n _ None _ told.seen_is told.granted_is step refl refl;
      release = λ core n d t lock acts settled told step. plainly core n _ d t _ _ (need.TheVariants.Release lock) acts told step refl refl (λ k. refl);
      evict_copy = λ core n word value marked found active waits is told step. quiet core n _ None _ told.seen_is told.granted_is step refl refl;
      evict_own = λ core n word value found active waits is told step. quiet core n _ None _ told.seen_is told.granted_is step refl refl;
      arrive = λ core n found awake absent done settled told step. quiet core n _ None _ told.seen_is told.granted_is step refl refl;
      reply = λ core n word value found waits none room told step. quiet core n _ _ None told.seen_is told.granted_is step refl refl;
      acknowledge = λ core n word value found is told step. quiet core n _ _ None told.seen_is told.granted_is step refl refl;
      forward = λ core other n word value found is told step. quiet core n _ _ _ told.seen_is told.granted_is step refl refl;
      forward_past = λ core other n word found none told step. quiet core n n _ _ told.seen_is told.granted_is step refl refl;
      answer = λ core reader n word value found is told step. quiet core n n _ _ told.seen_is told.granted_is step refl refl;
      bounce = λ core reader n word found none told step. quiet core n n _ _ told.seen_is told.granted_is step refl refl;
      freed = λ core n word value found is told step. quiet core n _ _ None told.seen_is told.granted_is step refl refl;
      grant = λ core n d t lock s found waits task open' declares wants awake absent told step.
          takes-lock S M e gs L core n d t lock s inv h (record { found = found; awake = awake; absent = absent; task = task; declares = declares }) open' wants told step;
      go = λ core n phase found awake there right later within told step. kept told.seen_is told.granted_is (go-agreed S (next S e) M gs L core.0 n phase.0 _ None inv step later there last h);
      halt = λ core n found awake there told step. quiet core n _ _ None told.seen_is told.granted_is step refl refl;
      read_home = λ bank word reader value is told step. home told.seen_is told.granted_is step.setting step.nodes step.keeper;
      read_owned = λ bank word reader owner is told step. home told.seen_is told.granted_is step.setting step.nodes step.keeper;
      register_home = λ bank word core value is told step. home told.seen_is told.granted_is step.setting step.nodes step.keeper;
      register_owned = λ bank word core owner is other told step. home told.seen_is told.granted_is step.setting step.nodes step.keeper;
      write_back = λ bank word core value is told step. home told.seen_is told.granted_is step.setting step.nodes step.keeper;
      write_past = λ bank word core value content is other told step. home told.seen_is told.granted_is step.setting step.nodes step.keeper;
      acquire_free = λ bank lock core k is none told step. home told.seen_is told.granted_is step.setting step.nodes step.keeper;
      acquire_held = λ bank lock core holder k is held told step. home told.seen_is told.granted_is step.setting step.nodes step.keeper;
      release_last = λ bank lock core holder s k is held same none told step. home told.seen_is told.granted_is step.setting step.nodes step.keeper;
      release_on = λ bank lock core holder waiter others s k is held same queue told step. home told.seen_is told.granted_is step.setting step.nodes step.keeper;
      arrived = λ core bad new missing told step. kept told.seen_is told.granted_is (still-agreed S (next S e) M gs L step.setting step.nodes (ap (λ (k : Barrier). k.phase) step.keeper) h);
      all_go = λ core bad new whole on told step. kept told.seen_is told.granted_is (begins-agreed S (next S e) M gs L core bad inv h step new whole on);
      all_halt = λ core bad new whole over told step. kept told.seen_is told.granted_is (still-agreed S (next S e) M gs L step.setting step.nodes (ap (λ (k : Barrier). k.phase) step.keeper) h);
    }
  where
    kept : seen_in S e ≡ None → granted_in S e ≡ None → Agreed (next S e) M gs L E → AgreedNext S e gs L E M
    kept seen granted now = loads-same (next S e) M gs (more_grants gs S e) L (more_loads L S e) (same-grants S e gs granted) (same-loads S e L seen) now

    quiet : (core : CoreId) (n m : NodeParts) (left sent : Option Outgoing) → seen_in S e ≡ None → granted_in S e ≡ None → NodeStep S (next S e) core.0 n m left sent → m.phase ≡ n.phase → m.task ≡ n.task → AgreedNext S e gs L E M
    quiet core n m left sent seen granted step phase task = kept seen granted (quiet-agreed S (next S e) M gs L core.0 n m left sent step phase task h)

    home : seen_in S e ≡ None → granted_in S e ≡ None → (next S e).setting ≡ S.setting → (next S e).nodes ≡ S.nodes → (next S e).keeper ≡ S.keeper → AgreedNext S e gs L E M
    home seen granted setting nodes keeper = kept seen granted (still-agreed S (next S e) M gs L setting nodes (ap (λ (k : Barrier). k.phase) keeper) h)

    plainly : {synchronization : Option Action} {request : Option Request} (core : CoreId) (n m : NodeParts) (d : TaskDecl) (t t' : TaskState) (sent : Option Outgoing) (needs : Need) → IsActing S core n d t needs → Tells S e None None None synchronization request
        → NodeStep S (next S e) core.0 n m None sent → m.phase ≡ n.phase → m.task ≡ Some t'
        → ((k : ℕ) → step_by S.setting.program (at_memory (task_of k d t (L n.phase core.0)) h.memory) (Some needs) ≡ at_memory (task_of k d t' (L n.phase core.0)) h.memory) → AgreedNext S e gs L E M
    plainly core n m d t t' sent needs acts told step phase task goes =
        acts-plainly S M M e gs L core n m d t t' sent needs inv h acts told.seen_is told.granted_is step phase task h.memory h.same goes

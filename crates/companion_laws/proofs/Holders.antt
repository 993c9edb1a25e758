-- A task that holds a lock is the one that was granted it last.
use Rattle.std.proofs.Common.{◌≡◌, ◌⊎◌, inl, inr, ℕ, zero, suc, ◌+◌, ◌^◌, ◌<◌, ◌==◌, Bool, true, false, not, cond, if◌then◌else◌, List, [], ◌∷◌, ◌++◌, map, length, get_or, slice_get, Option, Some, None, bit_or, refl, sym, ap, subst, ◌∙◌, ⊎_elim, arith, append_assoc}
use Rattle.std.specs.List.{All, IsAmong}
use Rattle.std.proofs.lemmas.Bool.{true≢false, false≢true, or_cases, eqb-true, eq-eqb, ne_eqb}
use Rattle.std.proofs.lemmas.List.{append-nil}
use Rattle.std.proofs.lemmas.List.Elements.{All-nil, All-cons, All-tail, All-set, Contains-append_cases}
use Rattle.std.proofs.lemmas.List.Folds.{list_any_none}
use Rattle.std.proofs.lemmas.Option.{none-some, same_Some, slice_get-get_or}
use Rattle.dn_base.specs.declared.ids.Grant.{Grant}
use Rattle.dn_base.specs.declared.ids.LockId.{LockId}
use Rattle.dn_base.specs.declared.ids.PhaseId.{PhaseId}
use Rattle.dn_base.specs.declared.ids.CoreId.{CoreId}
use Rattle.region_table.specs.declared.declared.TaskDecl.{TaskDecl}
use Rattle.region_table.specs.declared.declared.Phase.{Phase}
use Rattle.region_table.specs.Program.{ProgramParts, IsProgram}
use Rattle.region_table.proofs.TaskLemmas.{among-got}
use Rattle.rv_core.specs.declared.need.Need.{Need}
use Rattle.rv_core.specs.declared.need.Need as need
use Rattle.rv_core.specs.declared.task.End.{End}
use Rattle.rv_core.specs.declared.task.End as cause
use Rattle.rv_core.specs.declared.ending.EndShown as shown
use Rattle.rv_core.specs.declared.ending.EndShown.{EndShown}
use Rattle.rv_core.specs.declared.ending.TaskEnd.{TaskEnd}
use Rattle.rv_core.specs.Access.{is_held}
use Rattle.rv_core.specs.Need.{need_of}
use Rattle.rv_core.specs.Step.{advanced}
use Rattle.rv_core.proofs.Completions.{advanced-held}
use Rattle.rv_core.proofs.HeldLemmas.{holds-none, holds-acquired}
use Rattle.flat_machine.specs.declared.ending.FlatEnd.{FlatEnd}
use Rattle.flat_machine.specs.Step.{Started, At, fresh, in_state, segment}
use Rattle.flat_machine.specs.Phases.{Flat, all_tasks, run_all, begin, has_finished, finished_by, settled, initial, initial_flat}
use Rattle.flat_machine.specs.Grants.{is_free, grant_of, go_on, with_task, granted, granted_if, grants_from, so_far}
use Rattle.flat_machine.specs.Ending.{flat_end, shown_of, wait_shown, task_end}
use Rattle.flat_machine.specs.Laws.{IsLegal, IsEnded}
use Rattle.flat_machine.proofs.CauseLemmas.{run-ended, run-past, run-held_up}
use Rattle.flat_machine.proofs.GrantLemmas.{grants-none}
use Rattle.flat_machine.proofs.LegalLaws.{granted-legal}
use Rattle.flat_machine.proofs.ReachedLaws.{go_on-later, reached-tasks, reached-rising, grant-legal}
use Rattle.flat_machine.proofs.RunLemmas.{grants-push}
use Rattle.flat_machine.proofs.Rights.{wish-need}
use Rattle.flat_machine.proofs.SegmentLaws.{segment-after}
use Rattle.flat_machine.proofs.SettleLaws.{settled-kept}
use Rattle.explained_answer.specs.Holders.{last_grant, core_if_in, holder_of}
use Rattle.explained_answer.proofs.GrantLemmas.{last-push}
use Rattle.companion_laws.specs.Holding.{HasHolder}
use Rattle.companion_laws.proofs.Ends.{among-item}

-- ---- items of lists

among-either : {X : Type 0} (xs ys : List X) (x : X) → IsAmong (xs ++ ys) x → IsAmong xs x ⊎ IsAmong ys x
among-either xs ys x among =
    ⊎_elim (λ h. inl (h.0, (h.1, sym h.2))) (λ h. inr (h.0, (h.1, sym h.2))) (Contains-append_cases xs ys x (among.0, among.1.0, sym among.1.1))

among-mapped : {X Y : Type 0} (f : X → Y) (all : List X) (y : Y) → IsAmong (map f all) y → (x : X) × (IsAmong all x × (y ≡ f x))
among-mapped {X} f all y among = at_place all among.0 among.1.0 among.1.1 where
  at_place : (xs : List X) (i : ℕ) → i < length (map f xs) → y ≡ get_or (map f xs) i y → (x : X) × (IsAmong xs x × (y ≡ f x))
  at_place [] i within is = absurd (omega (arith, within))
  at_place (x ∷ xs) zero within is = (x, ((0, (omega arith, refl)), is))
  at_place (x ∷ xs) (suc i) within is =
      let rest = at_place xs i (omega (arith, within)) is in
      let inside = rest.1.0.1.0 in
      (rest.0, ((suc rest.1.0.0, (omega (arith, inside), rest.1.0.1.1)), rest.1.1))

-- ---- what a task holds

-- the lock's last grant is the task's
record IsLastOf (grants : List Grant) (lock : ℕ) (r : Started) : Type 0 where
  grant : Grant
  last : last_grant grants lock ≡ Some grant
  phase : grant.phase.0 ≡ r.phase.0
  core : grant.core.0 ≡ r.decl.core.0

-- each lock that the task holds was granted to it last
abbrev HoldsItsGrants : List Grant → Started → Type 0
HoldsItsGrants grants r = (lock : ℕ) → is_held r.state.held lock ≡ true → IsLastOf grants lock r

abbrev AllHold : List Grant → Flat → Type 0
AllHold grants F = All (HoldsItsGrants grants) F.tasks

-- the core of the last grant, if that is of the phase
told-by : (gs : List Grant) (phase lock : ℕ) (g : Grant) → last_grant gs lock ≡ Some g → (g.phase.0 == phase) ≡ true → holder_of gs phase lock ≡ Some g.core.0
told-by gs phase lock g last test = ap (core_if_in phase) last ∙ ap (λ (b : Bool). if b then Some g.core.0 else None) test

-- the same task later
kept-of : (grants : List Grant) (lock : ℕ) (r after : Started) → after.phase ≡ r.phase → after.decl ≡ r.decl → IsLastOf grants lock r → IsLastOf grants lock after
kept-of grants lock r after phase decl h =
    record {
      grant = h.grant;
      last = h.last;
      phase = h.phase ∙ ap (λ (p : PhaseId). p.0) (sym phase);
      core = h.core ∙ ap (λ (d : TaskDecl). d.core.0) (sym decl);
    }

-- ---- a phase that begins

-- a task holds nothing when it starts, and its first segment takes no lock
first-holds : (P : ProgramParts) (fuel phase : ℕ) (grants : List Grant) (d : TaskDecl) (m : List ℕ)
    → HoldsItsGrants grants (segment P fuel (record { task = fresh phase d; memory = m })).task
first-holds P fuel phase grants d m lock e =
    let after = segment-after P fuel (record { task = fresh phase d; memory = m }) in
    absurd (false≢true (sym (holds-none lock) ∙ after.less.among lock e))

ran-hold : (P : ProgramParts) (fuel phase : ℕ) (grants : List Grant) (ds : List TaskDecl) (m : List ℕ) → All (HoldsItsGrants grants) (run_all P fuel phase ds m).tasks
ran-hold P fuel phase grants [] m = All-nil (HoldsItsGrants grants)
ran-hold P fuel phase grants (d ∷ ds) m =
    let s : At = segment P fuel (record { task = fresh phase d; memory = m }) in
    All-cons (HoldsItsGrants grants) s.task (run_all P fuel phase ds s.memory).tasks (first-holds P fuel phase grants d m) (ran-hold P fuel phase grants ds s.memory)

begun-hold : (P : ProgramParts) (fuel : ℕ) (grants : List Grant) (p : Phase) (F : Flat) → AllHold grants (begin P fuel p F)
unfolding begin
begun-hold P fuel grants p F = ran-hold P fuel F.begun grants p.tasks F.memory

settled-hold : (P : ProgramParts) (fuel : ℕ) (grants : List Grant) (F : Flat) → AllHold grants F → AllHold grants (settled P fuel F)
settled-hold P fuel grants F h =
    settled-kept P fuel (AllHold grants) F (record { keeps = λ p G there done k. begun-hold P fuel grants p G }) h

opened-hold : (P : ProgramParts) (fuel : ℕ) → AllHold [] (initial_flat P fuel)
unfolding initial_flat
opened-hold P fuel = settled-hold P fuel [] (initial P) (All-nil (HoldsItsGrants []))

-- ---- a grant

module _ (P : ProgramParts) (program : IsProgram P) (fuel : ℕ) where
  module _ (front : List Grant) (g : Grant) (F G : Flat) (leads : so_far P fuel front ≡ Some F) (goes : granted P fuel g F ≡ Some G) (so_far_hold : AllHold front F) where
    legal : IsLegal P fuel F g
    legal = granted-legal P fuel front F g leads (λ none. none-some G (sym none ∙ goes))

    abbrev r : Started
    r = legal.task

    abbrev place : ℕ
    place = legal.started.0

    there : slice_get F.tasks place ≡ Some r
    there = slice_get-get_or F.tasks place r legal.started.1.0 ∙ ap Some (sym legal.started.1.1)

    phase : r.phase.0 ≡ g.phase.0
    phase =
        let tasks = reached-tasks P fuel front F leads in
        let here : r.phase.0 + 1 ≡ F.begun = subst (λ (x : Started). x.phase.0 + 1 ≡ F.begun) (sym legal.started.1.1) (tasks.here place r legal.started.1.0) in
        omega (arith, here, legal.current)

    same : grant_of r g.lock ≡ g
    same = λ j. record { phase = record { 0 = phase j }; core = legal.named j; lock = g.lock }

    -- no task of the phase holds the lock
    unheld : All (λ (x : Started). is_held x.state.held g.lock.0 ≡ false) F.tasks
    unheld = behind F.past F.tasks legal.free where
      behind : (xs ys : List Started) → All (λ (x : Started). is_held x.state.held g.lock.0 ≡ false) (xs ++ ys) → All (λ (x : Started). is_held x.state.held g.lock.0 ≡ false) ys
      behind [] ys h = h
      behind (x ∷ xs) ys h = behind xs ys (All-tail (λ (y : Started). is_held y.state.held g.lock.0 ≡ false) x (xs ++ ys) h)

    free : is_free F.tasks g.lock.0 ≡ true
    free = ap not (list_any_none (λ (x : Started). is_held x.state.held g.lock.0) F.tasks unheld)

    abbrev next : Flat
    next = with_task F place (go_on P fuel r F.memory)

    goes-on : settled P fuel next ≡ G
    goes-on =
        same_Some (settled P fuel next) G
        (sym (grant-legal P fuel F place r g.lock (reached-rising P fuel front F program leads) there legal.waits free) ∙ ap (λ (x : Grant). granted P fuel x F) same ∙ goes)

    -- the other locks have the last grants that they had
    others : (x : Started) → is_held x.state.held g.lock.0 ≡ false → HoldsItsGrants front x → HoldsItsGrants (front ++ g ∷ []) x
    others x none h lock e =
        let before = h lock e in
        let apart : (g.lock.0 == lock) ≡ false =
        ne_eqb g.lock.0 lock (λ one. true≢false (sym e ∙ ap (is_held x.state.held) (sym one) ∙ none)) in
        record {
          grant = before.grant;
          last = last-push front g lock ∙ ap (λ (b : Bool). cond b (Some g) (last_grant front lock)) apart ∙ before.last;
          phase = before.phase;
          core = before.core;
        }

    all-others : All (HoldsItsGrants (front ++ g ∷ [])) F.tasks
    all-others k d within = others (get_or F.tasks k d) (unheld k d within) (so_far_hold k d within)

    -- the task holds the lock, and what it held before or less
    its-own : HoldsItsGrants (front ++ g ∷ []) (go_on P fuel r F.memory).task
    its-own lock e =
        let later = go_on-later P fuel r F.memory in
        let after = segment-after P fuel (record { task = in_state r (advanced P r.state); memory = F.memory }) in
        let needs = wish-need P fuel r (need.TheVariants.Acquire g.lock) legal.waits in
        let held : is_held (bit_or r.state.held (2 ^ g.lock.0)) lock ≡ true =
        subst (λ (h : ℕ). is_held h lock ≡ true) (advanced-held P r.decl fuel r.state (need.TheVariants.Acquire g.lock) needs tt) (after.less.among lock e) in
        let mine : HoldsItsGrants (front ++ g ∷ []) r =
        subst (HoldsItsGrants (front ++ g ∷ [])) (sym legal.started.1.1) (all-others place r legal.started.1.0) in
        ⊎_elim
        (λ (one : (lock == g.lock.0) ≡ true).
        let this : (g.lock.0 == lock) ≡ true = eq-eqb g.lock.0 lock (sym (eqb-true lock g.lock.0 one)) in
        kept-of (front ++ g ∷ []) lock r (go_on P fuel r F.memory).task later.phase later.decl
        (record {
          grant = g;
          last = last-push front g lock ∙ ap (λ (b : Bool). cond b (Some g) (last_grant front lock)) this;
          phase = sym phase;
          core = ap (λ (c : CoreId). c.0) (sym legal.named);
        }))
        (λ (old : is_held r.state.held lock ≡ true). kept-of (front ++ g ∷ []) lock r (go_on P fuel r F.memory).task later.phase later.decl (mine lock old))
        (or_cases (lock == g.lock.0) (is_held r.state.held lock) (sym (holds-acquired r.state.held g.lock.0 lock) ∙ held))

    one-grant : AllHold (front ++ g ∷ []) G
    one-grant =
        subst (AllHold (front ++ g ∷ [])) goes-on
        (settled-hold P fuel (front ++ g ∷ []) next
        (All-set (HoldsItsGrants (front ++ g ∷ [])) F.tasks place (go_on P fuel r F.memory).task its-own all-others))

  all-grants : (front gs : List Grant) (F G : Flat) → so_far P fuel front ≡ Some F → AllHold front F → grants_from P fuel (Some F) gs ≡ Some G → AllHold (front ++ gs) G
  all-grants front [] F G leads h e =
      subst (λ (x : List Grant). AllHold x G) (sym (append-nil front)) (subst (AllHold front) (same_Some F G e) h)
  all-grants front (g ∷ gs) F G leads h e = by_next (granted P fuel g F) refl e (all-grants (front ++ g ∷ []) gs)
    where
      by_next : (o : Option Flat) → granted P fuel g F ≡ o → grants_from P fuel o gs ≡ Some G
          → ((K M : Flat) → so_far P fuel (front ++ g ∷ []) ≡ Some K → AllHold (front ++ g ∷ []) K → grants_from P fuel (Some K) gs ≡ Some M → AllHold ((front ++ g ∷ []) ++ gs) M)
          → AllHold (front ++ g ∷ gs) G
      by_next None is e later = absurd (none-some G (sym (grants-none P fuel gs) ∙ e))
      by_next (Some K) is e later =
          let on : so_far P fuel (front ++ g ∷ []) ≡ Some K =
          grants-push P fuel (Some (initial_flat P fuel)) front g ∙ ap (λ (o : Option Flat). granted_if P fuel o g) leads ∙ is in
          subst (λ (x : List Grant). AllHold x G) (append_assoc front (g ∷ []) gs) (later K G on (one-grant front g F K leads is h) e)

  -- ---- a task that waits at the end

  -- it hasn't ended, and wants the lock
  record Waits (r : Started) (lock : LockId) : Type 0 where
    open' : r.state.end ≡ None
    wants : need_of P r.decl fuel r.state ≡ need.TheVariants.Acquire lock

  waits-open : (r : Started) (lock : LockId) → shown_of P fuel r r.state.end ≡ shown.TheVariants.Waits lock → Waits r lock
  waits-open r lock is = by_end r.state.end refl is
    where
      by_need : (n : Need) → need_of P r.decl fuel r.state ≡ n → wait_shown n ≡ shown.TheVariants.Waits lock → need_of P r.decl fuel r.state ≡ need.TheVariants.Acquire lock
      by_need (need.TheVariants.Acquire k) e is = let same : k ≡ lock = cc in e ∙ ap need.TheVariants.Acquire same
      by_need need.TheVariants.Local e is = absurd cc
      by_need (need.TheVariants.Load word) e is = absurd cc
      by_need (need.TheVariants.Store word whole) e is = absurd cc
      by_need (need.TheVariants.Release k) e is = absurd cc
      by_need (need.TheVariants.End by) e is = absurd cc

      by_end : (o : Option End) → r.state.end ≡ o → shown_of P fuel r o ≡ shown.TheVariants.Waits lock → Waits r lock
      by_end None e is = record { open' = e; wants = by_need (need_of P r.decl fuel r.state) refl is }
      by_end (Some cause.TheVariants.Finished) e is = absurd cc
      by_end (Some cause.TheVariants.Fuel) e is = absurd cc
      by_end (Some (cause.TheVariants.Trap kind pc value)) e is = absurd cc

  open-runs : (r : Started) → r.state.end ≡ None → has_finished r ≡ true → ⊥
  open-runs r e done = false≢true (sym (ap finished_by e) ∙ done)

  acquire-one : (n : Need) (k lock : LockId) → n ≡ need.TheVariants.Acquire k → n ≡ need.TheVariants.Acquire lock → k ≡ lock
  acquire-one n k lock e f = cc

  module _ (gs : List Grant) (e : FlatEnd) (run : flat_end P fuel gs ≡ Some e) where
    ended : IsEnded P fuel gs e
    ended = run-ended P fuel gs e run

    all-hold : AllHold gs ended.last
    all-hold = all-grants [] gs (initial_flat P fuel) ended.last refl (opened-hold P fuel) ended.leads

    -- a task that holds the lock, in the same phase
    holder-of : (r holder : Started) (lock : LockId) → IsAmong ended.last.tasks holder → holder.phase.0 ≡ r.phase.0 → is_held holder.state.held lock.0 ≡ true
        → IsLastOf gs lock.0 holder → HasHolder P fuel gs r.phase.0 lock.0
    holder-of r holder lock among phase holds last =
        let last_phase : last.grant.phase.0 ≡ r.phase.0 = omega (arith, last.phase, phase) in
        record {
          core = last.grant.core.0;
          told = told-by gs r.phase.0 lock.0 last.grant last.last (eq-eqb last.grant.phase.0 r.phase.0 last_phase);
          holds =
              record { last = ended.last; reached = ended.leads; task = holder; among = among; in_phase = phase; own = sym last.core; holds = holds };
        }

    -- a task of the last phase
    current-holder : (r : Started) (lock : LockId) → IsAmong ended.last.tasks r → Waits r lock → HasHolder P fuel gs r.phase.0 lock.0
    current-holder r lock among waits =
        let there : slice_get ended.last.tasks among.0 ≡ Some r = slice_get-get_or ended.last.tasks among.0 r among.1.0 ∙ ap Some (sym among.1.1) in
        let held = run-held_up P fuel gs ended.last ended.leads ended.whole among.0 r there waits.open' in
        let same : held.lock ≡ lock = acquire-one (need_of P r.decl fuel r.state) held.lock lock held.wants waits.wants in
        let holds : is_held held.holder.state.held lock.0 ≡ true = subst (λ (k : LockId). is_held held.holder.state.held k.0 ≡ true) same held.holding in
        let holder = among-got ended.last.tasks held.place held.holder held.there in
        let granted_last = among-item (HoldsItsGrants gs) ended.last.tasks held.holder all-hold holder lock.0 holds in
        let tasks = reached-tasks P fuel gs ended.last ended.leads in
        let first : r.phase.0 + 1 ≡ ended.last.begun = among-item (λ (x : Started). x.phase.0 + 1 ≡ ended.last.begun) ended.last.tasks r tasks.here among in
        let second : held.holder.phase.0 + 1 ≡ ended.last.begun =
        among-item (λ (x : Started). x.phase.0 + 1 ≡ ended.last.begun) ended.last.tasks held.holder tasks.here holder in
        holder-of r held.holder lock holder (omega (arith, first, second)) holds granted_last

    -- the tasks of the phases before have finished
    shown-holder : (r : Started) (lock : LockId) → IsAmong (all_tasks ended.last) r → shown_of P fuel r r.state.end ≡ shown.TheVariants.Waits lock → HasHolder P fuel gs r.phase.0 lock.0
    shown-holder r lock among shows =
        let waits = waits-open r lock shows in
        ⊎_elim
        (λ (before : IsAmong ended.last.past r).
        absurd (open-runs r waits.open' (among-item (λ (x : Started). has_finished x ≡ true) ended.last.past r (run-past P fuel gs ended.last ended.leads) before)))
        (λ (here : IsAmong ended.last.tasks r). current-holder r lock here waits)
        (among-either ended.last.past ended.last.tasks r among)

    pub waits-for_holder : (t : TaskEnd) (lock : LockId) → IsAmong e.ending.tasks t → t.end ≡ shown.TheVariants.Waits lock → HasHolder P fuel gs t.phase.0 lock.0
    waits-for_holder t lock among waits =
        let from = among-mapped (task_end P fuel) (all_tasks ended.last) t (subst (λ (ts : List TaskEnd). IsAmong ts t) ended.tasks among) in
        let shows = ap (λ (x : TaskEnd). x.end) (sym from.1.1) ∙ waits in
        subst (λ (x : TaskEnd). HasHolder P fuel gs x.phase.0 lock.0) (sym from.1.1) (shown-holder from.0 lock from.1.0 shows)

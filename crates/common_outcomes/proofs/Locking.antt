-- A task that takes a free lock keeps what holds of all tasks of the phase.
use Rattle.std.proofs.Common.{◌≡◌, ◌≢◌, ℕ, ◌+◌, ◌^◌, true, false, ◌||◌, ◌==◌, List, [], get_or, slice_get, Option, Some, None, refl, sym, ap, ◌∙◌, subst, arith, ⊎_elim, bit_or}
use Rattle.std.proofs.lemmas.Bool.{eqb-true, or_cases, or_left, or_right, cases_eq}
use Rattle.std.proofs.lemmas.Option.{same_Some}
use Rattle.dn_base.specs.declared.ids.LockId.{LockId}
use Rattle.region_table.specs.Program.{ProgramParts}
use Rattle.region_table.specs.Plan.{task_guards}
use Rattle.region_table.specs.Words.{has}
use Rattle.region_table.specs.declared.declared.TaskDecl.{TaskDecl}
use Rattle.region_table.specs.declared.declared.Phase.{Phase}
use Rattle.rv_core.specs.declared.need.Need.{Need}
use Rattle.rv_core.specs.declared.need.Need as need
use Rattle.rv_core.specs.Access.{is_held, under, may_store}
use Rattle.rv_core.specs.Kinds.{Allowed}
use Rattle.rv_core.specs.Need.{need_of}
use Rattle.rv_core.specs.Step.{advanced}
use Rattle.rv_core.proofs.Needs.{need-allowed}
use Rattle.rv_core.proofs.HeldLemmas.{holds-acquired}
use Rattle.effect_checker.proofs.SeparationLemmas.{locks_apart}
use Rattle.flat_machine.specs.Step.{wish, in_state}
use Rattle.flat_machine.specs.Laws.{at_memory, HoldApart}
use Rattle.flat_machine.proofs.Rest.{wish-open}
use Rattle.flat_machine.proofs.Rights.{store-loads, both-ways}
use Rattle.flat_machine.proofs.Separation.{under-some}
use Rattle.run_agreement.proofs.Places.{by-place}
use Rattle.common_outcomes.specs.declared.value.Value.{Value}
use Rattle.common_outcomes.specs.Alone.{Setup, Alone, cell_at, is_settled_next, is_shared, acquire_alone, alone_by, alone_steps, start_alone}
use Rattle.common_outcomes.specs.Agreeing.{Side, IsPhaseTask, FitsAlone, IsSettledPhase}
use Rattle.common_outcomes.proofs.Acquiring.{base_after, acquire-fits}
use Rattle.common_outcomes.proofs.Beside.{shared-inside, stores-shared, under-from}
use Rattle.common_outcomes.proofs.Moving.{next-steps}
use Rattle.common_outcomes.proofs.Segments.{Stand, HasMoved, side-settled, side-wish}
use Rattle.common_outcomes.proofs.Sides.{map-kept, IsSideOf, side-at, placed, beside}
use Rattle.common_outcomes.proofs.Small.{IsSmall, advanced-small}
use Rattle.common_outcomes.proofs.Steps.{alone-goes}
use Rattle.common_outcomes.proofs.Taking.{taking-step}

-- with one more lock a task may store one more word only where the lock guards it
stores-less : (d : TaskDecl) (held lock w : ℕ) → task_guards d lock w ≡ false → may_store d (bit_or held (2 ^ lock)) w ≡ true → may_store d held w ≡ true
stores-less d held lock w apart may =
    ⊎_elim (λ (h : has d.effects.writes w ≡ true). or_left (has d.effects.writes w) (under d.effects.guarded_writes 0 held w) h)
    (λ (h : under d.effects.guarded_writes 0 (bit_or held (2 ^ lock)) w ≡ true).
    let u = under-some d.effects.guarded_writes 0 (bit_or held (2 ^ lock)) w h in
    let holds : ((0 + u.place == lock) || is_held held (0 + u.place)) ≡ true = sym (holds-acquired held lock (0 + u.place)) ∙ u.holds in
    ⊎_elim
    (λ (same : (0 + u.place == lock) ≡ true).
    let at' : 0 + u.place ≡ u.place = omega arith in
    let is : u.place ≡ lock = sym at' ∙ eqb-true (0 + u.place) lock same in
    let guards : task_guards d u.place w ≡ true = or_right (has (get_or d.effects.guarded_reads u.place []) w) (has (get_or d.effects.guarded_writes u.place []) w) u.has in
    absurd (both-ways (task_guards d lock w) apart (subst (λ (l : ℕ). task_guards d l w ≡ true) is guards)))
    (λ (there : is_held held (0 + u.place) ≡ true).
    or_right (has d.effects.writes w) (under d.effects.guarded_writes 0 held w) (under-from d.effects.guarded_writes 0 held w u.place there u.has))
    (or_cases (0 + u.place == lock) (is_held held (0 + u.place)) holds))
    (or_cases (has d.effects.writes w) (under d.effects.guarded_writes 0 (bit_or held (2 ^ lock)) w) may)

-- no task of the phase holds the lock
abbrev pub IsFree : List Side → ℕ → Type 0
IsFree sides lock = (j : ℕ) (q : Side) → slice_get sides j ≡ Some q → is_held q.alone.state.held lock ≡ false

pub lock-moves : (P : ProgramParts) (fuel : ℕ) (p : Phase) (first : List Value) (sides : List Side) (m : List ℕ) (i : ℕ) (s : Side) (lock : LockId) → IsSettledPhase P fuel p first
    → Stand P fuel p first sides m → slice_get sides i ≡ Some s → wish P fuel s.run ≡ Some (need.TheVariants.Acquire lock) → IsFree sides lock.0
    → HasMoved P fuel p first sides i (at_memory (in_state s.run (advanced P s.run.state)) m)
lock-moves P fuel p first sides m i s lock h k there wants free =
    record {
      side = t;
      run = ap (λ (S : Setup). in_state s.run (advanced S.program s.run.state)) ks.setup;
      stand = record {
        are = map-kept (λ (x : Side). x.setup) sides i s t there refl ∙ k.are;
        words = k.words;
        below = k.below;
        small = by-place (λ (j : ℕ) (q : Side). IsSmall q.run.state) sides i t (λ q at'. advanced-small s.setup.program s.run.state (k.small i s there)) (λ j q away at'. k.small j q at');
        agrees = record {
          ended = k.agrees.ended;
          all = taking-step first sides k.agrees.ended m i s (s.steps + 1) a (in_state s.run (advanced s.setup.program s.run.state)) lock.0 k.agrees.all there fits reached
              (record {
                cells = refl;
                runs = runs;
                apart = λ j q away at'. apart j q away at';
                unstored = λ w j q at' g may shared. by_stored w j q at' g may shared (cell_at q.alone.cells w).stored refl;
                less = λ w g may. stores-less s.setup.decl s.alone.state.held lock.0 w g (subst (λ (x : ℕ). may_store s.setup.decl x w ≡ true) held may);
              });
        };
      };
    }
  where
    ks : IsSideOf P fuel p first i s
    ks = side-at P fuel p first sides k.are i s there

    place : IsPhaseTask s.setup m
    place = placed P fuel p first i s m h ks k.words

    mine : FitsAlone s.setup s.base s.alone s.run m
    mine = k.agrees.all.each i s there

    runs : s.alone.state.end ≡ None
    runs = sym (ap (λ t. t.end) mine.state) ∙ wish-open P fuel s.run (need.TheVariants.Acquire lock) wants

    settled : is_settled_next s.setup s.alone ≡ true
    settled = side-settled P fuel p first i s h ks (k.agrees.all.reached i s there) runs

    needs : need_of s.setup.program s.setup.decl s.setup.fuel s.alone.state ≡ need.TheVariants.Acquire lock
    needs = same_Some _ _ (sym (side-wish P fuel p first sides m i s h k there runs) ∙ wants)

    a : Alone
    a = acquire_alone s.setup.program s.alone lock.0

    t : Side
    t = record s { steps = s.steps + 1; alone = a; run = in_state s.run (advanced s.setup.program s.run.state); base = base_after s.setup lock.0 m s.base }

    allowed : Allowed s.setup.program s.setup.decl s.alone.state (need.TheVariants.Acquire lock)
    allowed = subst (Allowed s.setup.program s.setup.decl s.alone.state) needs (need-allowed s.setup.program s.setup.decl s.setup.fuel s.alone.state)

    held : (advanced s.setup.program s.alone.state).held ≡ bit_or s.alone.state.held (2 ^ lock.0)
    held = allowed.2

    fits : FitsAlone s.setup (base_after s.setup lock.0 m s.base) a (in_state s.run (advanced s.setup.program s.run.state)) m
    fits = acquire-fits s.setup s.base s.alone s.run m lock place.checked place.among mine place.first k.below settled needs

    reached : a ≡ alone_steps s.setup (s.steps + 1) (start_alone s.setup)
    reached =
        ap (alone_by s.setup s.alone) (sym needs) ∙ sym (alone-goes s.setup s.alone runs settled) ∙ next-steps s.setup s.steps s.alone (k.agrees.all.reached i s there)

    apart : (j : ℕ) (q : Side) → j ≢ i → slice_get sides j ≡ Some q → HoldApart a.state.held q.alone.state.held
    apart j q away at' l e g =
        ⊎_elim (λ (same : (l == lock.0) ≡ true). both-ways (is_held q.alone.state.held lock.0) (free j q at') (subst (λ (x : ℕ). is_held q.alone.state.held x ≡ true) (eqb-true l lock.0 same) g))
        (λ (before : is_held s.alone.state.held l ≡ true). k.agrees.all.apart i j s q (λ x. away (sym x)) there at' l before g)
        (or_cases (l == lock.0) (is_held s.alone.state.held l) (sym (holds-acquired s.alone.state.held lock.0 l) ∙ subst (λ (x : ℕ). is_held x l ≡ true) held e))

    by_stored : (w j : ℕ) (q : Side) → slice_get sides j ≡ Some q → task_guards s.setup.decl lock.0 w ≡ true → may_store s.setup.decl a.state.held w ≡ true → is_shared s.setup.phase s.setup.decl w ≡ true
        → (o : Option Value) → (cell_at q.alone.cells w).stored ≡ o → (cell_at q.alone.cells w).stored ≡ None
    by_stored w j q at' g may shared None e = e
    by_stored w j q at' g may shared (Some v) e =
        absurd (⊎_elim
        (λ (is : j ≡ i).
        let same : s ≡ q = same_Some s q (sym there ∙ ap (slice_get sides) (sym is) ∙ at') in
        let st = mine.stored w v (ap (λ (x : Side). (cell_at x.alone.cells w).stored) same ∙ e) in
        let within = shared-inside s.setup.phase s.setup.decl s.alone.state.held w place.checked place.among shared (store-loads s.setup.decl s.alone.state.held w (st.may shared)) in
        let one = locks_apart s.setup.phase s.setup.decl s.setup.decl within.lock lock.0 w place.checked place.among place.among within.guards g in
        both-ways (is_held s.alone.state.held lock.0) (free i s there) (subst (λ (l : ℕ). is_held s.alone.state.held l ≡ true) one within.holds))
        (λ (away : j ≢ i).
        let b = beside P fuel p first j i q s h (side-at P fuel p first sides k.are j q at') ks away (k.agrees.all.apart j i q s away at' there) in
        let st = (k.agrees.all.each j q at').stored w v e in
        let other = stores-shared q.setup.phase q.setup.decl s.setup.decl a.state.held w b.second (λ x. b.cores (sym x)) may in
        let within = shared-inside q.setup.phase q.setup.decl q.alone.state.held w b.checked b.first other (store-loads q.setup.decl q.alone.state.held w (st.may other)) in
        let one = locks_apart q.setup.phase q.setup.decl s.setup.decl within.lock lock.0 w b.checked b.first b.second within.guards g in
        both-ways (is_held q.alone.state.held lock.0) (free j q at') (subst (λ (l : ℕ). is_held q.alone.state.held l ≡ true) one within.holds))
        (cases_eq j i))

-- One instruction of one task of a phase, which is no acquire, keeps what holds of all tasks.
use Rattle.std.proofs.Common.{◌≡◌, ◌≢◌, [], ◌∷◌, ℕ, zero, suc, ◌+◌, ◌^◌, Bool, true, ◌&&◌, not, ◌==◌, if◌then◌else◌, List, map, slice_index_or, slice_get, slice_set, Some, None, refl, sym, ap, ◌∙◌, subst, arith, ⊎_elim, bit_xor}
use Rattle.std.proofs.lemmas.Bool.{false≢true, eq-eqb, and_parts, cases_eq}
use Rattle.std.proofs.lemmas.List.{get_or-set_same, get_or-set_other}
use Rattle.std.proofs.lemmas.Option.{none-some}
use Rattle.dn_base.specs.declared.ids.LockId.{LockId}
use Rattle.dn_base.specs.declared.ids.WordId.{WordId}
use Rattle.region_table.specs.Program.{ProgramParts}
use Rattle.region_table.specs.Plan.{task_guards}
use Rattle.rv_core.specs.declared.task.End.{End}
use Rattle.rv_core.specs.declared.task.End as cause
use Rattle.rv_core.specs.declared.need.Need.{Need}
use Rattle.rv_core.specs.declared.need.Need as need
use Rattle.rv_core.specs.Access.{is_held}
use Rattle.rv_core.specs.Kinds.{Allowed, IsLoad}
use Rattle.rv_core.specs.Need.{need_of}
use Rattle.rv_core.specs.Step.{advanced, loaded_of}
use Rattle.rv_core.specs.Task.{stopped}
use Rattle.rv_core.proofs.Needs.{need-allowed, load-tells}
use Rattle.rv_core.proofs.HeldLemmas.{holds-released}
use Rattle.effect_checker.proofs.SeparationLemmas.{locks_apart}
use Rattle.flat_machine.specs.Step.{Started, At, step_by, flat_step}
use Rattle.flat_machine.specs.Laws.{at_memory, HoldsLess}
use Rattle.flat_machine.proofs.Rights.{same-less, release-less, store-loads, stopped-held}
use Rattle.common_outcomes.specs.declared.value.Value.{Value}
use Rattle.common_outcomes.specs.declared.value.Cell.{Cell}
use Rattle.common_outcomes.specs.Values.{known}
use Rattle.common_outcomes.specs.Alone.{Setup, Alone, untouched, cell_at, is_settled_next, is_shared, placed_from, closed, closed_by, seen, stored_value, store_alone, release_alone, alone_by, alone_step, alone_steps, start_alone}
use Rattle.common_outcomes.specs.Agreeing.{IsBetween, IsPhaseTask, IsNoAcquire, IsInSection, FitsAlone, Side, PhaseAgrees}
use Rattle.common_outcomes.proofs.Beside.{shared-inside}
use Rattle.common_outcomes.proofs.Leaving.{placed-at, closed-none}
use Rattle.common_outcomes.proofs.Steps.{alone-goes, wish-same, step-fits}
use Rattle.common_outcomes.proofs.Phase.{more-steps, quiet-step}
use Rattle.common_outcomes.proofs.Closing.{closing-step}
use Rattle.common_outcomes.proofs.Taking.{AreBeside, stored-alone}

-- what is known of the sides of a phase: different cores, no lock in common
pub record IsPhaseRun (first : List Value) (sides : List Side) (m : List ℕ) : Type 0 where
  pub between : (w : ℕ) → IsBetween (slice_index_or first w (known 0)).kind
  pub placed : (i : ℕ) (s : Side) → slice_get sides i ≡ Some s → IsPhaseTask s.setup m
  pub beside : (i j : ℕ) (a b : Side) → i ≢ j → slice_get sides i ≡ Some a → slice_get sides j ≡ Some b → AreBeside a b

pub next-steps : (S : Setup) (k : ℕ) (a : Alone) → a ≡ alone_steps S k (start_alone S) → alone_step S a ≡ alone_steps S (k + 1) (start_alone S)
next-steps S k a e = ap (alone_step S) e ∙ sym (more-steps S k 1 (start_alone S))

-- the side after its next instruction
abbrev pub side_after : Side → List ℕ → Side
side_after s m =
    record s { steps = s.steps + 1; alone = alone_step s.setup s.alone; run = (flat_step s.setup.program s.setup.fuel (at_memory s.run m)).task }

pub closed-map : (cells : List Cell) (w : ℕ) → cell_at (map closed cells) w ≡ closed (cell_at cells w)
closed-map [] w = refl
closed-map (c ∷ cells) zero = refl
closed-map (c ∷ cells) (suc w) = closed-map cells w

-- a release or an end: sections end, and memory is as it was
pub release-agrees : (first : List Value) (sides : List Side) (m : List ℕ) (i : ℕ) (s : Side) (lock : LockId) (r : Started) → IsPhaseRun first sides m → PhaseAgrees first sides m → slice_get sides i ≡ Some s
    → s.alone.state.end ≡ None → need_of s.setup.program s.setup.decl s.setup.fuel s.alone.state ≡ need.TheVariants.Release lock
    → release_alone s.setup s.alone lock.0 ≡ alone_steps s.setup (s.steps + 1) (start_alone s.setup) → FitsAlone s.setup s.base (release_alone s.setup s.alone lock.0) r m
    → PhaseAgrees first (slice_set sides i (record s { steps = s.steps + 1; alone = release_alone s.setup s.alone lock.0; run = r })) m
release-agrees first sides m i s lock r p h there runs n reached fits =
    record {
      ended = _;
      all = closing-step first sides h.ended m i s (s.steps + 1) (release_alone s.setup s.alone lock.0) r closes h.all there p.between fits reached
          (record {
            cells = λ w. cell w;
            less = subst (λ (x : ℕ). HoldsLess x s.alone.state.held) (sym held) (release-less s.alone.state.held lock.0 allowed.1);
            runs = runs;
            others = λ w j v q away at' e may shared going. stored-alone s q w v m (p.beside i j s q (λ x. away (sym x)) there at') ((h.all.each i s there).stored w v e) may shared;
            gone = λ w v c e may shared going. left w (and_parts (is_shared s.setup.phase s.setup.decl w) (task_guards s.setup.decl lock.0 w) c).1
                (shared-inside s.setup.phase s.setup.decl (advanced s.setup.program s.alone.state).held w place.checked place.among shared (store-loads s.setup.decl (advanced s.setup.program s.alone.state).held w may));
          });
    }
  where
    place : IsPhaseTask s.setup m
    place = p.placed i s there

    closes : ℕ → Bool
    closes w = is_shared s.setup.phase s.setup.decl w && task_guards s.setup.decl lock.0 w

    allowed : Allowed s.setup.program s.setup.decl s.alone.state (need.TheVariants.Release lock)
    allowed = subst (Allowed s.setup.program s.setup.decl s.alone.state) n (need-allowed s.setup.program s.setup.decl s.setup.fuel s.alone.state)

    held : (advanced s.setup.program s.alone.state).held ≡ bit_xor s.alone.state.held (2 ^ lock.0)
    held = allowed.2

    cell : (w : ℕ) → cell_at (placed_from 0 (closed_by s.setup lock.0) s.alone.cells) w ≡ (if closes w then closed (cell_at s.alone.cells w) else cell_at s.alone.cells w)
    cell w =
        let e : 0 + w ≡ w = omega arith in
        placed-at 0 (closed_by s.setup lock.0) s.alone.cells w (closed-none s.setup lock.0) ∙ ap (λ (k : ℕ). closed_by s.setup lock.0 k (cell_at s.alone.cells w)) e

    left : (w : ℕ) → task_guards s.setup.decl lock.0 w ≡ true → IsInSection s.setup.decl (advanced s.setup.program s.alone.state).held w → ⊥
    left w guards inside =
        let same : inside.lock ≡ lock.0 = locks_apart s.setup.phase s.setup.decl s.setup.decl inside.lock lock.0 w place.checked place.among place.among inside.guards guards in
        let holds : is_held (bit_xor s.alone.state.held (2 ^ lock.0)) inside.lock ≡ true = subst (λ (x : ℕ). is_held x inside.lock ≡ true) held inside.holds in
        let parts = and_parts (not (inside.lock == lock.0)) (is_held s.alone.state.held inside.lock) (sym (holds-released s.alone.state.held lock.0 inside.lock allowed.1) ∙ holds) in
        false≢true (sym (ap not (eq-eqb inside.lock lock.0 same)) ∙ parts.0)

pub end-agrees : (first : List Value) (sides : List Side) (m : List ℕ) (i : ℕ) (s : Side) (by : End) (r : Started) → IsPhaseRun first sides m → PhaseAgrees first sides m → slice_get sides i ≡ Some s
    → s.alone.state.end ≡ None → record (s.alone) { state = stopped by s.alone.state; cells = map closed s.alone.cells } ≡ alone_steps s.setup (s.steps + 1) (start_alone s.setup)
    → FitsAlone s.setup s.base (record (s.alone) { state = stopped by s.alone.state; cells = map closed s.alone.cells }) r m
    → PhaseAgrees first (slice_set sides i (record s { steps = s.steps + 1; alone = record (s.alone) { state = stopped by s.alone.state; cells = map closed s.alone.cells }; run = r })) m
end-agrees first sides m i s by r p h there runs reached fits =
    record {
      ended = _;
      all = closing-step first sides h.ended m i s (s.steps + 1) (record (s.alone) { state = stopped by s.alone.state; cells = map closed s.alone.cells }) r (λ (w : ℕ). true) h.all there p.between fits reached
          (record {
            cells = λ w. closed-map s.alone.cells w;
            less = same-less (stopped by s.alone.state).held s.alone.state.held (stopped-held by s.alone.state);
            runs = runs;
            others = λ w j v q away at' e may shared going. stored-alone s q w v m (p.beside i j s q (λ x. away (sym x)) there at') ((h.all.each i s there).stored w v e) may shared;
            gone = λ w v c e may shared going. over by going;
          });
    }
  where
    over : (b : End) → (stopped b s.alone.state).end ≡ None → ⊥
    over cause.TheVariants.Finished e = none-some cause.TheVariants.Finished (sym e)
    over cause.TheVariants.Fuel e = none-some cause.TheVariants.Fuel (sym e)
    over (cause.TheVariants.Trap kind pc value) e = none-some (cause.TheVariants.Trap kind pc value) (sym e)

-- an instruction that stores nothing and ends no section
pub plain-agrees : (first : List Value) (sides : List Side) (m : List ℕ) (i : ℕ) (s : Side) (a : Alone) (r : Started) → PhaseAgrees first sides m → slice_get sides i ≡ Some s → s.alone.state.end ≡ None
    → a.cells ≡ s.alone.cells → a.state.held ≡ s.alone.state.held → a ≡ alone_steps s.setup (s.steps + 1) (start_alone s.setup) → FitsAlone s.setup s.base a r m
    → PhaseAgrees first (slice_set sides i (record s { steps = s.steps + 1; alone = a; run = r })) m
plain-agrees first sides m i s a r h there runs cells held reached fits =
    record {
      ended = h.ended;
      all = quiet-step first sides h.ended m m i s (s.steps + 1) a r h.all there fits reached held runs
          (λ w. ap (λ (c : List Cell). (cell_at c w).effect) cells)
          (λ w e. (sym (ap (λ (c : List Cell). (cell_at c w).stored) cells) ∙ e, refl))
          (λ j q away at'. h.all.each j q at');
    }

-- a store
pub store-agrees : (first : List Value) (sides : List Side) (m : List ℕ) (i : ℕ) (s : Side) (word : WordId) (whole : Bool) (r : Started) (x : ℕ) → IsPhaseRun first sides m → PhaseAgrees first sides m → slice_get sides i ≡ Some s
    → s.alone.state.end ≡ None → need_of s.setup.program s.setup.decl s.setup.fuel s.alone.state ≡ need.TheVariants.Store word whole
    → store_alone s.setup s.alone word.0 ≡ alone_steps s.setup (s.steps + 1) (start_alone s.setup) → FitsAlone s.setup s.base (store_alone s.setup s.alone word.0) r (slice_set m word.0 x)
    → ((j : ℕ) (q : Side) → j ≢ i → slice_get sides j ≡ Some q → FitsAlone q.setup q.base q.alone q.run (slice_set m word.0 x))
    → PhaseAgrees first (slice_set sides i (record s { steps = s.steps + 1; alone = store_alone s.setup s.alone word.0; run = r })) (slice_set m word.0 x)
store-agrees first sides m i s word whole r x p h there runs n reached fits others =
    record {
      ended = h.ended;
      all = quiet-step first sides h.ended m (slice_set m word.0 x) i s (s.steps + 1) (store_alone s.setup s.alone word.0) r h.all there fits reached allowed.2 runs
          (λ w. ⊎_elim (λ (is : w ≡ word.0). subst (λ (k : ℕ). (cell_at (slice_set s.alone.cells word.0 new) k).effect ≡ (cell_at s.alone.cells k).effect) (sym is) (ap (λ (c : Cell). c.effect) cell_same))
          (λ (apart : w ≢ word.0). ap (λ (c : Cell). c.effect) (cell_other w apart)) (cases_eq w word.0))
          (λ w e. (sym (ap (λ (c : Cell). c.stored) (cell_other w (unlike w e))) ∙ e, get_or-set_other m word.0 w x 0 (unlike w e)))
          others;
    }
  where
    allowed : Allowed s.setup.program s.setup.decl s.alone.state (need.TheVariants.Store word whole)
    allowed = subst (Allowed s.setup.program s.setup.decl s.alone.state) n (need-allowed s.setup.program s.setup.decl s.setup.fuel s.alone.state)

    value : Value
    value = stored_value s.setup s.alone word.0

    new : Cell
    new = record { stored = Some value; effect = (cell_at s.alone.cells word.0).effect }

    cell_same : cell_at (slice_set s.alone.cells word.0 new) word.0 ≡ new
    cell_same =
        let l = (h.all.each i s there).words in
        let c = (p.placed i s there).words in
        let in' = allowed.0 in
        get_or-set_same s.alone.cells word.0 new untouched (omega arith)

    cell_other : (w : ℕ) → w ≢ word.0 → cell_at (slice_set s.alone.cells word.0 new) w ≡ cell_at s.alone.cells w
    cell_other w apart = get_or-set_other s.alone.cells word.0 w new untouched apart

    unlike : (w : ℕ) → (cell_at (slice_set s.alone.cells word.0 new) w).stored ≡ None → w ≢ word.0
    unlike w e is =
        none-some value (sym (sym (ap (λ (c : Cell). c.stored) cell_same) ∙ ap (λ (q : ℕ). (cell_at (slice_set s.alone.cells word.0 new) q).stored) (sym is) ∙ e))

pub loaded-same : (P : ProgramParts) (d : _) (fuel value : ℕ) (t : _) → IsLoad (need_of P d fuel t) → (loaded_of P value t).held ≡ t.held
unfolding loaded_of
loaded-same P d fuel value t k = (load-tells P d fuel t value k).held

-- one instruction of one task, which is no acquire, keeps what holds of all tasks of the phase
pub step-agrees : (first : List Value) (sides : List Side) (m : List ℕ) (i : ℕ) (s : Side) → IsPhaseRun first sides m → PhaseAgrees first sides m → slice_get sides i ≡ Some s → s.alone.state.end ≡ None
    → is_settled_next s.setup s.alone ≡ true → IsNoAcquire (need_of s.setup.program s.setup.decl s.setup.fuel s.alone.state)
    → ((j : ℕ) (q : Side) → j ≢ i → slice_get sides j ≡ Some q → FitsAlone q.setup q.base q.alone q.run (flat_step s.setup.program s.setup.fuel (at_memory s.run m)).memory)
    → PhaseAgrees first (slice_set sides i (side_after s m)) (flat_step s.setup.program s.setup.fuel (at_memory s.run m)).memory
step-agrees first sides m i s p h there runs settled plain others =
    let fits = step-fits s.setup s.base s.alone s.run m (p.placed i s there) (h.all.each i s there) runs settled plain in
    let goes = alone-goes s.setup s.alone runs settled in
    let wants = wish-same s.setup s.base s.alone s.run m (h.all.each i s there) runs settled in
    by_need (need_of P s.setup.decl s.setup.fuel s.alone.state) refl (alone_step s.setup s.alone) goes (flat_step P s.setup.fuel (at_memory s.run m)) (ap (step_by P (at_memory s.run m)) wants) plain
    (next-steps s.setup s.steps s.alone (h.all.reached i s there)) fits others
  where
    P : ProgramParts
    P = s.setup.program

    allowed : (n : Need) → need_of P s.setup.decl s.setup.fuel s.alone.state ≡ n → Allowed P s.setup.decl s.alone.state n
    allowed n e = subst (Allowed P s.setup.decl s.alone.state) e (need-allowed P s.setup.decl s.setup.fuel s.alone.state)

    forms : (n : Need) → need_of P s.setup.decl s.setup.fuel s.alone.state ≡ n → IsNoAcquire n → alone_by s.setup s.alone n ≡ alone_steps s.setup (s.steps + 1) (start_alone s.setup)
        → FitsAlone s.setup s.base (alone_by s.setup s.alone n) (step_by P (at_memory s.run m) (Some n)).task (step_by P (at_memory s.run m) (Some n)).memory
        → ((j : ℕ) (q : Side) → j ≢ i → slice_get sides j ≡ Some q → FitsAlone q.setup q.base q.alone q.run (step_by P (at_memory s.run m) (Some n)).memory)
        → PhaseAgrees first (slice_set sides i (record s { steps = s.steps + 1; alone = alone_by s.setup s.alone n; run = (step_by P (at_memory s.run m) (Some n)).task })) (step_by P (at_memory s.run m) (Some n)).memory
    forms need.TheVariants.Local e plain reached fits others = plain-agrees first sides m i s _ _ h there runs refl (allowed need.TheVariants.Local e) reached fits
    forms (need.TheVariants.Load word) e plain reached fits others =
        plain-agrees first sides m i s _ _ h there runs refl (loaded-same P s.setup.decl s.setup.fuel (seen s.setup s.alone.cells word.0).number s.alone.state (subst IsLoad (sym e) tt)) reached fits
    forms (need.TheVariants.Store word whole) e plain reached fits others = store-agrees first sides m i s word whole _ _ p h there runs e reached fits others
    forms (need.TheVariants.Acquire lock) e plain reached fits others = absurd plain
    forms (need.TheVariants.Release lock) e plain reached fits others = release-agrees first sides m i s lock _ p h there runs e reached fits
    forms (need.TheVariants.End by) e plain reached fits others = end-agrees first sides m i s by _ p h there runs reached fits

    by_need : (n : Need) → need_of P s.setup.decl s.setup.fuel s.alone.state ≡ n → (a : Alone) → a ≡ alone_by s.setup s.alone n → (x : At) → x ≡ step_by P (at_memory s.run m) (Some n) → IsNoAcquire n
        → a ≡ alone_steps s.setup (s.steps + 1) (start_alone s.setup) → FitsAlone s.setup s.base a x.task x.memory
        → ((j : ℕ) (q : Side) → j ≢ i → slice_get sides j ≡ Some q → FitsAlone q.setup q.base q.alone q.run x.memory)
        → PhaseAgrees first (slice_set sides i (record s { steps = s.steps + 1; alone = a; run = x.task })) x.memory
    by_need n e a is x to plain reached fits others =
        let first_form = forms n e plain (sym is ∙ reached) (subst (λ (b : Alone). FitsAlone s.setup s.base b (step_by P (at_memory s.run m) (Some n)).task (step_by P (at_memory s.run m) (Some n)).memory) is (subst (λ (y : At). FitsAlone s.setup s.base a y.task y.memory) to fits))
        (subst (λ (y : At). (j : ℕ) (q : Side) → j ≢ i → slice_get sides j ≡ Some q → FitsAlone q.setup q.base q.alone q.run y.memory) to others) in
        subst (λ (y : At). PhaseAgrees first (slice_set sides i (record s { steps = s.steps + 1; alone = a; run = y.task })) y.memory) (sym to)
        (subst (λ (b : Alone). PhaseAgrees first (slice_set sides i (record s { steps = s.steps + 1; alone = b; run = (step_by P (at_memory s.run m) (Some n)).task })) (step_by P (at_memory s.run m) (Some n)).memory) (sym is) first_form)

-- A segment of one task keeps what holds of all tasks of the phase.
use Rattle.std.proofs.Common.{◌≡◌, ◌≢◌, ℕ, zero, suc, ◌^◌, true, List, length, slice_get, slice_set, Option, Some, None, refl, sym, ap, ◌∙◌, subst}
use Rattle.std.specs.List.{IsAmong}
use Rattle.region_table.specs.Program.{ProgramParts}
use Rattle.region_table.specs.Numbers.{HasWords}
use Rattle.region_table.specs.declared.declared.TaskDecl.{TaskDecl}
use Rattle.region_table.specs.declared.declared.Phase.{Phase}
use Rattle.rv_core.specs.declared.task.End.{End}
use Rattle.rv_core.specs.declared.need.Need.{Need}
use Rattle.rv_core.specs.declared.need.Need as need
use Rattle.rv_core.specs.Access.{is_held}
use Rattle.rv_core.specs.Need.{need_of}
use Rattle.flat_machine.specs.Step.{Started, At, wish, wish_unless, step_by, flat_step, flat_steps, segment}
use Rattle.flat_machine.specs.Laws.{at_memory}
use Rattle.flat_machine.proofs.Frames.{step-frame, steps-alike}
use Rattle.flat_machine.proofs.Separation.{keeps-out}
use Rattle.run_agreement.proofs.Places.{by-place, set-there}
use Rattle.effect_prover.proofs.FollowWords.{AreBelow}
use Rattle.common_outcomes.specs.declared.value.Value.{Value}
use Rattle.common_outcomes.specs.Alone.{Setup, Alone, is_settled_next, alone_steps, start_alone, alone}
use Rattle.common_outcomes.specs.Agreeing.{Side, FitsAlone, PhaseAgrees, IsSettledPhase, AreSides, IsNoAcquire}
use Rattle.common_outcomes.proofs.Beside.{step-beside}
use Rattle.common_outcomes.proofs.Steps.{wish-same}
use Rattle.common_outcomes.proofs.Phase.{ends-settled}
use Rattle.common_outcomes.proofs.Moving.{side_after, step-agrees}
use Rattle.common_outcomes.proofs.Small.{IsSmall, small-keeps}
use Rattle.common_outcomes.proofs.Sides.{set-itself, set-again, map-kept, among-at, IsSideOf, side-at, cores-apart, phase-run}

-- the tasks of a phase in a run, with this memory
pub record Stand (P : ProgramParts) (fuel : ℕ) (p : Phase) (first : List Value) (sides : List Side) (m : List ℕ) : Type 0 where
  pub are : AreSides P fuel p first sides
  pub words : length m ≡ length P.memory
  pub below : AreBelow (2 ^ 32) m
  pub small : (i : ℕ) (s : Side) → slice_get sides i ≡ Some s → IsSmall s.run.state
  pub agrees : PhaseAgrees first sides m

-- one of them has come to another point
pub record HasMoved (P : ProgramParts) (fuel : ℕ) (p : Phase) (first : List Value) (sides : List Side) (i : ℕ) (to : At) : Type 0 where
  pub side : Side
  pub run : side.run ≡ to.task
  pub stand : Stand P fuel p first (slice_set sides i side) to.memory

step-words : (P : ProgramParts) (fuel : ℕ) (r : Started) (m : List ℕ) → length m ≡ length P.memory → length (flat_step P fuel (at_memory r m)).memory ≡ length m
step-words P fuel r m words = (steps-alike P fuel 1 r m m words words (record { on = λ w h. refl })).left

-- ---- control

comes-to-end : (P : ProgramParts) (fuel : ℕ) (p : Phase) (first : List Value) (i : ℕ) (s : Side) → IsSettledPhase P fuel p first → IsSideOf P fuel p first i s → (alone s.setup).state.end ≢ None
comes-to-end P fuel p first i s h k e = h.ends k.decl (among-at p.tasks i k.decl k.there) (ap (λ (S : Setup). (alone S).state.end) (sym k.setup) ∙ e)

pub side-settled : (P : ProgramParts) (fuel : ℕ) (p : Phase) (first : List Value) (i : ℕ) (s : Side) → IsSettledPhase P fuel p first → IsSideOf P fuel p first i s
    → s.alone ≡ alone_steps s.setup s.steps (start_alone s.setup) → s.alone.state.end ≡ None → is_settled_next s.setup s.alone ≡ true
side-settled P fuel p first i s h k reached runs = by_end (alone s.setup).state.end refl
  where
    by_end : (o : Option End) → (alone s.setup).state.end ≡ o → is_settled_next s.setup s.alone ≡ true
    by_end None e = absurd (comes-to-end P fuel p first i s h k e)
    by_end (Some by) e =
        subst (λ (a : Alone). is_settled_next s.setup a ≡ true) (sym reached) (ends-settled s.setup s.steps by e (ap (λ (a : Alone). a.state.end) (sym reached) ∙ runs))

-- ---- the other tasks

others-fit : (P : ProgramParts) (fuel : ℕ) (p : Phase) (first : List Value) (sides : List Side) (m : List ℕ) (i j : ℕ) (s q : Side) → IsSettledPhase P fuel p first → Stand P fuel p first sides m
    → slice_get sides i ≡ Some s → j ≢ i → slice_get sides j ≡ Some q → FitsAlone q.setup q.base q.alone q.run (flat_step P fuel (at_memory s.run m)).memory
others-fit P fuel p first sides m i j s q h k there away at' =
    step-beside q.setup q.base q.alone q.run s.run m (flat_step P fuel (at_memory s.run m)).memory fits (step-words P fuel s.run m k.words)
    (subst (λ (x : Phase). IsAmong x.tasks s.run.decl) (sym (ap (λ (S : Setup). S.phase) kq.setup)) first') (λ e. cores (e ∙ ap (λ (d : TaskDecl). d.core.0) decl_q))
    (keeps-out P p s.run (record (q.run) { decl = q.setup.decl; state = q.alone.state })
    (record {
      checked = h.checked;
      phase = h.among;
      first = first';
      second = subst (λ (d : TaskDecl). IsAmong p.tasks d) (sym decl_q) (among-at p.tasks j kq.decl kq.there);
      cores = λ e. cores (e ∙ ap (λ (d : TaskDecl). d.core.0) decl_q);
      held = λ lock e g. k.agrees.all.apart i j s q (λ x. away (sym x)) there at' lock (subst (λ (x : ℕ). is_held x lock ≡ true) (ap (λ t. t.held) mine.state) e) g;
    }))
    (λ w no_store. step-frame P fuel (at_memory s.run m) w no_store)
  where
    mine : FitsAlone s.setup s.base s.alone s.run m
    mine = k.agrees.all.each i s there

    fits : FitsAlone q.setup q.base q.alone q.run m
    fits = k.agrees.all.each j q at'

    ks : IsSideOf P fuel p first i s
    ks = side-at P fuel p first sides k.are i s there

    kq : IsSideOf P fuel p first j q
    kq = side-at P fuel p first sides k.are j q at'

    decl_s : s.run.decl ≡ ks.decl
    decl_s = mine.decl ∙ ap (λ (S : Setup). S.decl) ks.setup

    decl_q : q.setup.decl ≡ kq.decl
    decl_q = ap (λ (S : Setup). S.decl) kq.setup

    first' : IsAmong p.tasks s.run.decl
    first' = subst (λ (d : TaskDecl). IsAmong p.tasks d) (sym decl_s) (among-at p.tasks i ks.decl ks.there)

    cores : s.run.decl.core.0 ≢ kq.decl.core.0
    cores e = cores-apart P fuel p first i j ks.decl kq.decl h (λ x. away (sym x)) ks.there kq.there (ap (λ (d : TaskDecl). d.core.0) (sym decl_s) ∙ e)

-- ---- one instruction

pub side-wish : (P : ProgramParts) (fuel : ℕ) (p : Phase) (first : List Value) (sides : List Side) (m : List ℕ) (i : ℕ) (s : Side) → IsSettledPhase P fuel p first → Stand P fuel p first sides m
    → slice_get sides i ≡ Some s → s.alone.state.end ≡ None → wish P fuel s.run ≡ Some (need_of s.setup.program s.setup.decl s.setup.fuel s.alone.state)
side-wish P fuel p first sides m i s h k there runs =
    let ks = side-at P fuel p first sides k.are i s there in
    let settled = side-settled P fuel p first i s h ks (k.agrees.all.reached i s there) runs in
    ap (λ (S : Setup). wish S.program S.fuel s.run) (sym ks.setup) ∙ wish-same s.setup s.base s.alone s.run m (k.agrees.all.each i s there) runs settled

one-moves : (P : ProgramParts) (fuel : ℕ) (p : Phase) (first : List Value) (sides : List Side) (m : List ℕ) (i : ℕ) (s : Side) → HasWords P → IsSettledPhase P fuel p first → Stand P fuel p first sides m
    → slice_get sides i ≡ Some s → s.alone.state.end ≡ None → IsNoAcquire (need_of s.setup.program s.setup.decl s.setup.fuel s.alone.state)
    → HasMoved P fuel p first sides i (flat_step P fuel (at_memory s.run m))
one-moves P fuel p first sides m i s numbers h k there runs plain =
    record {
      side = side_after s m;
      run = ap (λ (S : Setup). (flat_step S.program S.fuel (at_memory s.run m)).task) ks.setup;
      stand = record {
        are = map-kept (λ (x : Side). x.setup) sides i s (side_after s m) there refl ∙ k.are;
        words = step-words P fuel s.run m k.words ∙ k.words;
        below = kept.1;
        small = by-place (λ (j : ℕ) (q : Side). IsSmall q.run.state) sides i (side_after s m)
            (λ q at'. subst (λ (S : Setup). IsSmall (flat_step S.program S.fuel (at_memory s.run m)).task.state) (sym ks.setup) kept.0) (λ j q away at'. k.small j q at');
        agrees = subst (λ (S : Setup). PhaseAgrees first (slice_set sides i (side_after s m)) (flat_step S.program S.fuel (at_memory s.run m)).memory) ks.setup
            (step-agrees first sides m i s (phase-run P fuel p first sides m h k.are k.words k.agrees) k.agrees there runs settled plain
            (λ j q away at'. subst (λ (S : Setup). FitsAlone q.setup q.base q.alone q.run (flat_step S.program S.fuel (at_memory s.run m)).memory) (sym ks.setup)
            (others-fit P fuel p first sides m i j s q h k there away at')));
      };
    }
  where
    ks : IsSideOf P fuel p first i s
    ks = side-at P fuel p first sides k.are i s there

    settled : is_settled_next s.setup s.alone ≡ true
    settled = side-settled P fuel p first i s h ks (k.agrees.all.reached i s there) runs

    kept : IsSmall (flat_step P fuel (at_memory s.run m)).task.state × AreBelow (2 ^ 32) (flat_step P fuel (at_memory s.run m)).memory
    kept = (small-keeps P fuel numbers).steps (at_memory s.run m) (k.small i s there) k.below

-- ---- many instructions

steps-move : (P : ProgramParts) (fuel : ℕ) (p : Phase) (first : List Value) → HasWords P → IsSettledPhase P fuel p first → (n : ℕ) (sides : List Side) (m : List ℕ) (i : ℕ) (s : Side)
    → Stand P fuel p first sides m → slice_get sides i ≡ Some s → HasMoved P fuel p first sides i (flat_steps P fuel n (at_memory s.run m))
steps-move P fuel p first numbers h zero sides m i s k there =
    record { side = s; run = refl; stand = subst (λ (l : List Side). Stand P fuel p first l m) (sym (set-itself sides i s there)) k }
steps-move P fuel p first numbers h (suc n) sides m i s k there =
    by_end (λ l x j q. steps-move P fuel p first numbers h n l x j q) s.alone.state.end refl
  where
    Again : Type 0
    Again = (l : List Side) (x : List ℕ) (j : ℕ) (q : Side) → Stand P fuel p first l x → slice_get l j ≡ Some q → HasMoved P fuel p first l j (flat_steps P fuel n (at_memory q.run x))

    still : Again → flat_step P fuel (at_memory s.run m) ≡ at_memory s.run m → HasMoved P fuel p first sides i (flat_steps P fuel n (flat_step P fuel (at_memory s.run m)))
    still again e = subst (λ (x : At). HasMoved P fuel p first sides i (flat_steps P fuel n x)) (sym e) (again sides m i s k there)

    moves : Again → HasMoved P fuel p first sides i (flat_step P fuel (at_memory s.run m)) → HasMoved P fuel p first sides i (flat_steps P fuel n (flat_step P fuel (at_memory s.run m)))
    moves again one =
        let to : At = flat_step P fuel (at_memory s.run m) in
        let next = again (slice_set sides i one.side) to.memory i one.side one.stand (set-there sides i one.side s there) in
        let from : at_memory one.side.run to.memory ≡ to = ap (λ (r : Started). at_memory r to.memory) one.run in
        let to' : At = flat_steps P fuel n (at_memory one.side.run to.memory) in
        let together : HasMoved P fuel p first sides i to' = record {
          side = next.side;
          run = next.run;
          stand = subst (λ (l : List Side). Stand P fuel p first l to'.memory) (set-again sides i one.side next.side) next.stand;
        } in
        subst (λ (x : At). HasMoved P fuel p first sides i (flat_steps P fuel n x)) from together

    unmoved : (o : Option Need) → wish P fuel s.run ≡ o → step_by P (at_memory s.run m) o ≡ at_memory s.run m → flat_step P fuel (at_memory s.run m) ≡ at_memory s.run m
    unmoved o e same = ap (step_by P (at_memory s.run m)) e ∙ same

    by_need : Again → s.alone.state.end ≡ None → (n' : Need) → need_of s.setup.program s.setup.decl s.setup.fuel s.alone.state ≡ n'
        → HasMoved P fuel p first sides i (flat_steps P fuel n (flat_step P fuel (at_memory s.run m)))
    by_need again runs (need.TheVariants.Acquire lock) e =
        still again (unmoved (Some (need.TheVariants.Acquire lock)) (side-wish P fuel p first sides m i s h k there runs ∙ ap Some e) refl)
    by_need again runs need.TheVariants.Local e = moves again (one-moves P fuel p first sides m i s numbers h k there runs (subst IsNoAcquire (sym e) tt))
    by_need again runs (need.TheVariants.Load word) e = moves again (one-moves P fuel p first sides m i s numbers h k there runs (subst IsNoAcquire (sym e) tt))
    by_need again runs (need.TheVariants.Store word whole) e = moves again (one-moves P fuel p first sides m i s numbers h k there runs (subst IsNoAcquire (sym e) tt))
    by_need again runs (need.TheVariants.Release lock) e = moves again (one-moves P fuel p first sides m i s numbers h k there runs (subst IsNoAcquire (sym e) tt))
    by_need again runs (need.TheVariants.End by) e = moves again (one-moves P fuel p first sides m i s numbers h k there runs (subst IsNoAcquire (sym e) tt))

    by_end : Again → (o : Option End) → s.alone.state.end ≡ o → HasMoved P fuel p first sides i (flat_steps P fuel n (flat_step P fuel (at_memory s.run m)))
    by_end again None e = by_need again e (need_of s.setup.program s.setup.decl s.setup.fuel s.alone.state) refl
    by_end again (Some by) e =
        let ended : s.run.state.end ≡ Some by = ap (λ t. t.end) (k.agrees.all.each i s there).state ∙ e in
        still again (unmoved None (ap (wish_unless P fuel s.run) ended) refl)

pub segment-moves : (P : ProgramParts) (fuel : ℕ) (p : Phase) (first : List Value) → HasWords P → IsSettledPhase P fuel p first → (sides : List Side) (m : List ℕ) (i : ℕ) (s : Side)
    → Stand P fuel p first sides m → slice_get sides i ≡ Some s → HasMoved P fuel p first sides i (segment P fuel (at_memory s.run m))
unfolding segment
segment-moves P fuel p first numbers h sides m i s k there = steps-move P fuel p first numbers h (suc fuel) sides m i s k there

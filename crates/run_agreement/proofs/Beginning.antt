-- The beginning of a phase keeps that the world leads to the flat machine's run; and so does the world before the first phase.
use Rattle.std.proofs.Common.{◌≡◌, ℕ, ◌+◌, ◌<◌, Bool, true, false, if◌then◌else◌, List, [], ◌∷◌, ◌++◌, length, map, take, get_or, slice_get, slice_index, Option, Some, None, refl, sym, ap, ◌∙◌, subst, arith}
use Rattle.std.specs.List.{All, IsAmong, list_all, flat_map}
use Rattle.std.proofs.lemmas.Bool.{false≢true}
use Rattle.std.proofs.lemmas.Grind.{flat_map-append}
use Rattle.std.proofs.lemmas.List.{append-nil, map-append, take_more, length-map}
use Rattle.std.proofs.lemmas.List.Elements.{All-nil, All-cons, All-append, All-weaker}
use Rattle.std.proofs.lemmas.Option.{none-some, same_Some, slice_get_within, slice_get-get_or, get_or_from_slice_get}
use Rattle.dn_base.specs.declared.ids.Grant.{Grant}
use Rattle.region_table.specs.Program.{ProgramParts, tasks_of}
use Rattle.region_table.specs.declared.declared.TaskDecl.{TaskDecl}
use Rattle.region_table.specs.declared.declared.Phase.{Phase}
use Rattle.rv_core.specs.Access.{is_held, may_store}
use Rattle.effect_checker.specs.Checked.{IsChecked}
use Rattle.flat_machine.specs.Step.{Started, fresh, IsWithin}
use Rattle.flat_machine.specs.Phases.{Flat, all_tasks, run_all, begin, has_finished, next_phase, settled, initial, initial_flat}
use Rattle.flat_machine.specs.Laws.{AreCoresRising, HasTasks, first_segment, StartAlone}
use Rattle.flat_machine.proofs.PhaseLemmas.{settled-more}
use Rattle.flat_machine.proofs.StartLaws.{start-alone}
use Rattle.run_agreement.specs.Worlds.{IsWorld, stores, segment_alone, LeadsTo, LeadsToRun, with_phase}
use Rattle.run_agreement.proofs.Places.{map-place, place-map}
use Rattle.run_agreement.proofs.Settled.{rest-same, finished-rest}

-- ---- the tasks of the next phase

tasks-more : (phases : List Phase) (k : ℕ) (p : Phase) → slice_get phases k ≡ Some p → tasks_of (take (k + 1) phases) ≡ tasks_of (take k phases) ++ p.tasks
tasks-more phases k p there =
    let is : get_or phases k p ≡ p = get_or_from_slice_get phases k p p there in
    let tasks : Phase → List TaskDecl = λ q. q.tasks in
    let one : flat_map tasks (p ∷ []) ≡ p.tasks = append-nil p.tasks in
    ap tasks_of (take_more phases k p (slice_get_within phases k p there))
    ∙ ap (λ (q : Phase). tasks_of (take k phases ++ q ∷ [])) is
    ∙ flat_map-append tasks (take k phases) (p ∷ [])
    ∙ ap (λ (l : List TaskDecl). tasks_of (take k phases) ++ l) one

fresh-decls : (phase : ℕ) (ds : List TaskDecl) → map (λ (r : Started). r.decl) (map (fresh phase) ds) ≡ ds
fresh-decls phase [] = refl
fresh-decls phase (d ∷ ds) = ap (λ (l : List TaskDecl). d ∷ l) (fresh-decls phase ds)

fresh-phases : (phase : ℕ) (ds : List TaskDecl) → All (λ (r : Started). r.phase.0 + 1 ≡ phase + 1) (map (fresh phase) ds)
fresh-phases phase [] = All-nil (λ (r : Started). r.phase.0 + 1 ≡ phase + 1)
fresh-phases phase (d ∷ ds) = All-cons (λ (r : Started). r.phase.0 + 1 ≡ phase + 1) (fresh phase d) (map (fresh phase) ds) refl (fresh-phases phase ds)

phase-tasks : (P : ProgramParts) (W : Flat) (p : Phase) → slice_get P.phases W.begun ≡ Some p → HasTasks P W → HasTasks P (with_phase W p)
phase-tasks P W p there h =
    let decl : Started → TaskDecl = λ r. r.decl in
    let new : List Started = map (fresh W.begun) p.tasks in
    let within : W.begun < length P.phases = slice_get_within P.phases W.begun p there in
    let decls : map decl new ≡ p.tasks = fresh-decls W.begun p.tasks in
    record {
      begun = omega arith;
      all = map-append decl (all_tasks W) new ∙ ap (λ (l : List TaskDecl). l ++ map decl new) h.all ∙ ap (λ (l : List TaskDecl). tasks_of (take W.begun P.phases) ++ l) decls
          ∙ sym (tasks-more P.phases W.begun p there);
      none = λ e. absurd (omega arith);
      last = λ k q e at'.
          let same : W.begun ≡ k = omega arith in
          let is : p ≡ q = same_Some p q (sym there ∙ ap (slice_get P.phases) same ∙ at') in
          decls ∙ ap (λ (x : Phase). x.tasks) is;
      here = fresh-phases W.begun p.tasks;
      before =
          All-append (λ (r : Started). r.phase.0 + 1 < W.begun + 1) W.past W.tasks
          (All-weaker (λ (r : Started). r.phase.0 + 1 < W.begun) (λ (r : Started). r.phase.0 + 1 < W.begun + 1) (λ r e. omega arith) W.past h.before)
          (All-weaker (λ (r : Started). r.phase.0 + 1 ≡ W.begun) (λ (r : Started). r.phase.0 + 1 < W.begun + 1) (λ r e. omega arith) W.tasks h.here);
    }

pub world-phase : (P : ProgramParts) (fuel : ℕ) (W : Flat) (p : Phase) → slice_get P.phases W.begun ≡ Some p → IsWorld P fuel W → IsWorld P fuel (with_phase W p)
world-phase P fuel W p there h =
    record {
      tasks = phase-tasks P W p there h.tasks;
      words = h.words;
      within = λ i r at'. let d = map-place (fresh W.begun) p.tasks i r at' in subst (IsWithin fuel) d.2 (λ e. omega arith);
      held = λ i j a b apart at_a at_b lock x y.
          let d = map-place (fresh W.begun) p.tasks i a at_a in
          let none : is_held (fresh W.begun d.0).state.held lock ≡ true = subst (λ (r : Started). is_held r.state.held lock ≡ true) (sym d.2) x in
          false≢true none;
    }

-- ---- the flat machine's phase begins from the same memory

phase-leads : (P : ProgramParts) (fuel : ℕ) (W : Flat) (p : Phase) → length W.memory ≡ length P.memory → StartAlone P fuel W.begun p.tasks W.memory → LeadsTo P fuel (with_phase W p) (begin P fuel p W)
unfolding begin
phase-leads P fuel W p words h =
    let m : List ℕ = W.memory in
    let first : TaskDecl → Started = λ d. (first_segment P fuel W.begun m d).task in
    let ran = run_all P fuel W.begun p.tasks m in
    record {
      begun = refl;
      past = refl;
      count = length-map p.tasks (fresh W.begun) ∙ sym (length-map p.tasks first) ∙ ap length (sym h.each);
      words = words;
      flat_words = h.words ∙ words;
      tasks = λ i r at'.
          let d = map-place (fresh W.begun) p.tasks i r at' in
          ap (λ (l : List Started). slice_get l i) h.each ∙ place-map first p.tasks i d.0 d.1 ∙ ap (λ (x : Started). Some (segment_alone P fuel m x).task) d.2;
      stored = λ i r w at' may.
          let d = map-place (fresh W.begun) p.tasks i r at' in
          let among : IsAmong p.tasks d.0 = (i, (slice_get_within p.tasks i d.0 d.1, sym (get_or_from_slice_get p.tasks i d.0 d.0 d.1))) in
          let own : may_store d.0 0 w ≡ true = subst (λ (x : Started). stores x w ≡ true) (sym d.2) may in
          ap (λ (x : Started). slice_index (segment_alone P fuel m x).memory w) (sym d.2) ∙ sym (h.stored d.0 w among own);
      kept = λ w none.
          sym (h.kept w (λ k e within.
          let d : TaskDecl = get_or p.tasks k e in
          none k (fresh W.begun d) (place-map (fresh W.begun) p.tasks k d (slice_get-get_or p.tasks k e within))));
    }

cond-some : {X : Type 0} (b : Bool) (o : Option X) (x : X) → (if b then o else None) ≡ Some x → (b ≡ true) × (o ≡ Some x)
cond-some true o x e = (refl, e)
cond-some false o x e = absurd (none-some x e)

pub run-begin : (P : ProgramParts) (fuel : ℕ) (gs : List Grant) (W : Flat) (p : Phase) → AreCoresRising P → IsChecked P → next_phase P W ≡ Some p → LeadsToRun P fuel gs W → LeadsToRun P fuel gs (with_phase W p)
run-begin P fuel gs W p is checked next h =
    let parts = cond-some (list_all has_finished W.tasks) (slice_get P.phases W.begun) p next in
    let same : W ≡ h.flat = rest-same P fuel W h.flat (finished-rest P fuel W parts.0) h.leads in
    let among : IsAmong P.phases p = (W.begun, (slice_get_within P.phases W.begun p parts.1, sym (get_or_from_slice_get P.phases W.begun p p parts.1))) in
    record {
      world = world-phase P fuel W p parts.1 h.world;
      flat = begin P fuel p W;
      run = h.run ∙ ap (λ (F : Flat). Some (settled P fuel F)) (sym same) ∙ ap Some (settled-more P fuel W p next);
      leads = phase-leads P fuel W p h.world.words (start-alone P fuel W.begun p W.memory is checked among h.world.words);
    }

-- ---- before the first phase

initial-world : (P : ProgramParts) (fuel : ℕ) → IsWorld P fuel (initial P)
initial-world P fuel =
    record {
      tasks =
          record {
            begun = omega arith;
            all = refl;
            none = λ e. refl;
            last = λ k p e at'. absurd (let z : 0 ≡ k + 1 = e in omega arith);
            here = All-nil (λ (r : Started). r.phase.0 + 1 ≡ 0);
            before = All-nil (λ (r : Started). r.phase.0 + 1 < 0);
          };
      words = refl;
      within = λ i r at'. absurd (none-some r at');
      held = λ i j a b apart at_a at_b. absurd (none-some a at_a);
    }

pub run-opens : (P : ProgramParts) (fuel : ℕ) → LeadsToRun P fuel [] (initial P)
unfolding initial_flat
run-opens P fuel =
    record {
      world = initial-world P fuel;
      flat = initial P;
      run = refl;
      leads =
          record {
            begun = refl;
            past = refl;
            count = refl;
            words = refl;
            flat_words = refl;
            tasks = λ i r at'. absurd (none-some r at');
            stored = λ i r w at' may. absurd (none-some r at');
            kept = λ w none. refl;
          };
    }

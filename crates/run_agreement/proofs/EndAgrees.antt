-- Each complete run has the end of the flat machine's run by its grants: its loads and its ending.
use Rattle.std.proofs.Common.{◌≡◌, ◌⊎◌, inl, inr, ℕ, zero, suc, ◌+◌, ◌<◌, ◌≤◌, true, false, List, [], ◌∷◌, ◌++◌, length, map, take, replicate, slice_get, Some, refl, sym, ap, subst, ◌∙◌, arith}
use Rattle.std.specs.List.{IsAmong}
use Rattle.std.proofs.lemmas.List.{map-append, ext_get_or}
use Rattle.std.proofs.lemmas.Option.{slice_get_within}
use Rattle.region_table.specs.Program.{ProgramParts, tasks_of, cores_in}
use Rattle.region_table.specs.declared.declared.TaskDecl.{TaskDecl}
use Rattle.region_table.specs.declared.declared.Phase.{Phase}
use Rattle.rv_core.specs.declared.ending.TaskEnd.{TaskEnd}
use Rattle.flat_machine.specs.declared.ending.TaskLoads.{TaskLoads}
use Rattle.flat_machine.specs.Step.{Started}
use Rattle.flat_machine.specs.Phases.{Flat, initial}
use Rattle.flat_machine.specs.Ending.{task_end, task_loads, flat_loads_of, flat_ends_of, flat_end_of, flat_end}
use Rattle.rv_core.specs.Ending.{ending_of}
use Rattle.run_agreement.specs.Cores.{world_of}
use Rattle.run_agreement.proofs.CoreByCore.{agreed-ends, none-ends}
use Rattle.run_agreement.proofs.Places.{get-cases}
use Rattle.message_net.specs.declared.event.Event.{Event}
use Rattle.phase_barrier.specs.Barrier.{Barrier, all_arrived}
use Rattle.registration_protocol.specs.Node.{NodeParts, Setting}
use Rattle.machine_rules.specs.State.{State, initial_state}
use Rattle.machine_rules.specs.Sound.{IsSound, IsReady, IsWellFormed}
use Rattle.machine_rules.proofs.AnySize.{well-formed}
use Rattle.machine_rules.specs.Next.{next}
use Rattle.machine_rules.specs.Memory.{store_in, memory_of}
use Rattle.machine_rules.specs.Rest.{HasOpenTask, IsAtRest}
use Rattle.machine_rules.specs.Runs.{after, IsRun, IsOver, IsCompleteRun, grants_of, loads_of, loads_from, all_loads, memory_after, last_end, ends_from, ends_of}
use Rattle.machine_rules.proofs.Invariant.{Invariant}
use Rattle.machine_rules.proofs.Outcomes.{stored_to}
use Rattle.machine_rules.proofs.Dispatch.{ways}
use Rattle.machine_rules.proofs.SoundEvents.{sound-next}
use Rattle.machine_rules.proofs.Kept.{kept}
use Rattle.machine_rules.proofs.OpenedFacts.{opened-setting, opened-keeper, opened-node}
use Rattle.machine_rules.proofs.OpenedSound.{opened-sound}
use Rattle.machine_rules.proofs.OpenedInvariant.{opened-invariant}
use Rattle.machine_rules.proofs.RestStates.{rest}
use Rattle.machine_rules.proofs.RunsKept.{memory_over, memory-length, run-setting}
use Rattle.machine_rules.proofs.RunsCoherent.{first_memory, well-all, run-memory, well-shows}
use Rattle.run_agreement.specs.Agreed.{States, Loads, Ends, stands, tasks_from, Agreed, more_ends}
use Rattle.run_agreement.specs.Ends.{HasFlatEnd}
use Rattle.machine_rules.proofs.NoPhases.{no-phases-run}
use Rattle.run_agreement.proofs.Opened.{no_loads}
use Rattle.run_agreement.proofs.Quiet.{last-more}
use Rattle.run_agreement.proofs.AgreedRuns.{loads_over, ends_over, no_ends, last-run, ends-last}
use Rattle.run_agreement.proofs.PrefixAgrees.{all-standing, run-agreed}
use Rattle.run_agreement.proofs.Halting.{IsHalting, halting-outcomes, not-all}
use Rattle.run_agreement.proofs.Resting.{IsResting, task-stops, no-next}
use Rattle.run_agreement.proofs.TaskEnds.{task-seen, ends-list, take-back}

-- ---- halting, over a run

run-halting : (S : State) (M : ℕ → ℕ) (made : ℕ) (events : List Event) → IsSound S made → Invariant S M → IsHalting S → IsRun S events → IsHalting (after S events)
run-halting S M made [] sound inv h run = h
run-halting S M made (e ∷ es) sound inv h run =
    let later = sound-next S made e sound run.0 in
    run-halting (next S e) (stored_to (store_in S e) M) (made + 1) es later (kept S M e inv run.0 later.machine) (ways S M e (λ M'. IsHalting (next S e)) inv run.0 (halting-outcomes S M e inv h)) run.1

some-cores : (ts : List TaskDecl) → 1 ≤ cores_in ts
some-cores [] = omega arith
some-cores (d ∷ ds) = let rest = some-cores ds in omega (arith, rest)

opened-halting : (C : Setting) → IsWellFormed C → IsHalting (initial_state C)
opened-halting C well =
    record {
      level = λ c n found halted. ap (λ (x : NodeParts). x.phase) (opened-node C c n found).is ∙ sym (ap (λ (k : Barrier). k.phase) (opened-keeper C));
      over = λ all. absurd (never (sym (ap all_arrived (opened-keeper C)) ∙ all));
    }
  where
    none : all_arrived (record { phases = length C.program.phases; phase = 0; arrived = replicate C.shape.cores false; bad = false }) ≡ false
    none = not-all C.shape.cores (omega (arith, well.context.cores, some-cores (tasks_of C.program.phases)))

    never : all_arrived (record { phases = length C.program.phases; phase = 0; arrived = replicate C.shape.cores false; bad = false }) ≡ true → ⊥
    never all = let off = none in absurd (cc)

-- ---- loads

loads-map : (K : States) (S : State) (events : List Event) (L : Loads) (phase : ℕ) (ds : List TaskDecl) → ((q c : ℕ) → L q c ≡ loads_of q c S events)
    → map task_loads (map (stands K L phase) ds) ≡ map (λ (d : TaskDecl). record { phase = record { 0 = phase }; core = d.core; loads = loads_of phase d.core.0 S events }) ds
loads-map K S events L phase [] same = refl
loads-map K S events L phase (d ∷ ds) same =
    let f : TaskDecl → TaskLoads = λ e. record { phase = record { 0 = phase }; core = e.core; loads = loads_of phase e.core.0 S events } in
    let first : task_loads (stands K L phase d) ≡ f d = rw (same phase d.core.0) refl in
    ap (λ (x : TaskLoads). x ∷ map task_loads (map (stands K L phase) ds)) first ∙ ap (λ (xs : List TaskLoads). f d ∷ xs) (loads-map K S events L phase ds same)

loads-list : (K : States) (S : State) (events : List Event) (L : Loads) (phase : ℕ) (ps : List Phase) → ((q c : ℕ) → L q c ≡ loads_of q c S events) → map task_loads (tasks_from K L phase ps) ≡ loads_from phase ps S events
loads-list K S events L phase [] same = refl
loads-list K S events L phase (p ∷ ps) same =
    let f : TaskDecl → TaskLoads = λ e. record { phase = record { 0 = phase }; core = e.core; loads = loads_of phase e.core.0 S events } in
    map-append task_loads (map (stands K L phase) p.tasks) (tasks_from K L (phase + 1) ps)
    ∙ ap (λ (xs : List TaskLoads). xs ++ map task_loads (tasks_from K L (phase + 1) ps)) (loads-map K S events L phase p.tasks same)
    ∙ ap (λ (xs : List TaskLoads). map f p.tasks ++ xs) (loads-list K S events L (phase + 1) ps same)

-- ---- the end

end-loads : (P : ProgramParts) (fuel : ℕ) (F : Flat) → (flat_end_of P fuel F).loads ≡ flat_loads_of F
unfolding flat_end_of
end-loads P fuel F = refl

end-ending : (P : ProgramParts) (fuel : ℕ) (F : Flat) → (flat_end_of P fuel F).ending ≡ ending_of (flat_ends_of P fuel F) F.memory
unfolding flat_end_of
end-ending P fuel F = refl

same-ending : (xs ys : List TaskEnd) (m m' : List ℕ) → xs ≡ ys → m ≡ m' → ending_of xs m ≡ ending_of ys m'
same-ending xs ys m m' ends memory = ap (λ (zs : List TaskEnd). ending_of zs m) ends ∙ ap (ending_of ys) memory

-- the set is whole, or some task is open
whole-or-open : (S : State) (M : ℕ → ℕ) (p : Phase) → Invariant S M → IsOver S → slice_get S.setting.program.phases S.keeper.phase ≡ Some p → 0 < length S.nodes → (all_arrived S.keeper ≡ true) ⊎ ((c : ℕ) × HasOpenTask S c)
whole-or-open S M p inv over there some = by_rest (rest S M inv over) where
  by_ended : (all_arrived S.keeper ≡ true) ⊎ (length S.setting.program.phases ≡ 0) → (all_arrived S.keeper ≡ true) ⊎ ((c : ℕ) × HasOpenTask S c)
  by_ended (inl all) = inl all
  by_ended (inr none) = absurd (omega (arith, none, slice_get_within S.setting.program.phases S.keeper.phase p there))

  by_rest : IsAtRest S → (all_arrived S.keeper ≡ true) ⊎ ((c : ℕ) × HasOpenTask S c)
  by_rest (inl all) = let n = get-cases S.nodes 0 some in by_ended (inv.ended 0 n.0 n.1 (all 0 n.0 n.1))
  by_rest (inr stuck) = inr stuck.some

phases-end : (C : Setting) (p : Phase) (events : List Event) → IsWellFormed C → slice_get C.program.phases 0 ≡ Some p → IsCompleteRun (initial_state C) events → HasFlatEnd C events
phases-end C p events well first complete =
    record {
      end' = flat_end_of S.setting.program S.setting.fuel W;
      run = subst (λ (x : Setting). flat_end x.program x.fuel (grants_of (initial_state C) events) ≡ Some (flat_end_of S.setting.program S.setting.fuel W)) setting ends;
      loads = end-loads S.setting.program S.setting.fuel W ∙ loads;
      ending = end-ending S.setting.program S.setting.fuel W ∙ same-ending (flat_ends_of S.setting.program S.setting.fuel W) (ends_of (initial_state C) events) h.memory (memory_of S) tasks memory;
    }
  where
    S : State
    S = after (initial_state C) events

    M : ℕ → ℕ
    M = memory_over (first_memory C) (initial_state C) events

    L : Loads
    L = loads_over no_loads (initial_state C) events

    E : Ends
    E = ends_over (more_ends no_ends (initial_state C)) (initial_state C) events

    h : Agreed S M (grants_of (initial_state C) events) L E
    h = run-agreed C p events well first complete.run

    inv : Invariant S M
    inv = (well-all C events well complete.run).1

    setting : S.setting ≡ C
    setting = run-setting (initial_state C) events ∙ opened-setting C

    resting : IsResting S M h.states L h.phase
    resting =
        record {
          inv = inv;
          halting = run-halting (initial_state C) (first_memory C) 0 events (opened-sound C well) (opened-invariant C well)
              (opened-halting C well) complete.run;
          over = complete.over;
          shown = h.shown;
          there = h.world.there;
        }

    past : List Started
    past = tasks_from h.states L 0 (take S.keeper.phase S.setting.program.phases)

    W : Flat
    W = world_of S.keeper.phase past h.phase (stands h.states L S.keeper.phase) h.memory

    nodes : 0 < length S.nodes
    nodes = omega (arith, inv.machine.nodes, inv.machine.context.cores, some-cores (tasks_of S.setting.program.phases))

    ends : flat_end S.setting.program S.setting.fuel (grants_of (initial_state C) events) ≡ Some (flat_end_of S.setting.program S.setting.fuel W)
    ends =
        agreed-ends S.setting.program S.setting.fuel (grants_of (initial_state C) events) S.keeper.phase past h.phase (stands h.states L S.keeper.phase) h.memory
        (λ d among. task-stops S M h.states L h.phase d resting among)
        (no-next S M h.states L h.phase past h.memory resting (whole-or-open S M h.phase inv complete.over h.world.there nodes)) h.world

    loads : flat_loads_of W ≡ all_loads (initial_state C) events
    loads =
        let number : suc S.keeper.phase ≡ S.keeper.phase + 1 = omega arith in
        ap (λ (ts : List Started). map task_loads ts) (all-standing S.setting (grants_of (initial_state C) events) h.states L S.keeper.phase h.phase h.memory h.world)
        ∙ loads-list h.states (initial_state C) events L 0 (take (suc S.keeper.phase) S.setting.program.phases) (λ q c. refl)
        ∙ ap (λ (k : ℕ). loads_from 0 (take k S.setting.program.phases) (initial_state C) events) number

    task : (j : ℕ) (x : Phase) (d : TaskDecl) → slice_get (take (suc S.keeper.phase) S.setting.program.phases) j ≡ Some x → IsAmong x.tasks d
        → last_end (0 + j) d.core.0 (initial_state C) events ≡ Some (task_end S.setting.program S.setting.fuel (stands h.states L (0 + j) d))
    task j x d there among =
        let back = take-back S.setting.program.phases (suc S.keeper.phase) j x there in
        let number : j ≡ 0 + j = omega arith in
        let seen : E j d.core.0 ≡ Some (task_end S.setting.program S.setting.fuel (stands h.states L j d)) =
        task-seen S M h.states L E h.phase j x d resting (last-run (initial_state C) (more_ends no_ends (initial_state C)) events (last-more (initial_state C) no_ends)) h.ended (omega (arith, back.0)) back.1 among in
        subst (λ (k : ℕ). last_end k d.core.0 (initial_state C) events ≡ Some (task_end S.setting.program S.setting.fuel (stands h.states L k d))) number
        (sym (ends-last (initial_state C) events j d.core.0) ∙ seen)

    tasks : flat_ends_of S.setting.program S.setting.fuel W ≡ ends_of (initial_state C) events
    tasks =
        let number : suc S.keeper.phase ≡ S.keeper.phase + 1 = omega arith in
        ap (λ (ts : List Started). map (task_end S.setting.program S.setting.fuel) ts) (all-standing S.setting (grants_of (initial_state C) events) h.states L S.keeper.phase h.phase h.memory h.world)
        ∙ ends-list S.setting.program S.setting.fuel h.states L (initial_state C) events 0 (take (suc S.keeper.phase) S.setting.program.phases) task
        ∙ ap (λ (k : ℕ). ends_from 0 (take k S.setting.program.phases) (initial_state C) events) number

    memory : h.memory ≡ memory_of S
    memory = ext_get_or 0 h.memory (memory_after C.program.memory (initial_state C) events) long (λ i within. h.same i ∙ sym (run-memory C events i)) ∙ sym (well-shows C events well complete.run)
      where
        long : length h.memory ≡ length (memory_after C.program.memory (initial_state C) events)
        long = h.world.leads.world.words ∙ ap (λ (x : Setting). length x.program.memory) setting ∙ sym (memory-length (initial_state C) C.program.memory events)

-- without phases nothing comes
none-end : (C : Setting) (events : List Event) → IsWellFormed C → C.program.phases ≡ [] → IsCompleteRun (initial_state C) events → HasFlatEnd C events
none-end C events well none complete =
    record {
      end' = flat_end_of C.program C.fuel (initial C.program);
      run = ap (λ (es : List Event). flat_end C.program C.fuel (grants_of (initial_state C) es)) empty ∙ none-ends C.program C.fuel (ap length none);
      loads = end-loads C.program C.fuel (initial C.program) ∙ sym (no-begun (initial_state C) none-too);
      ending = end-ending C.program C.fuel (initial C.program) ∙ same-ending [] (ends_of (initial_state C) events) C.program.memory (memory_of (after (initial_state C) events)) (sym (no-ends (initial_state C) none-too))
          (sym (well-shows C events well complete.run ∙ ap (λ (es : List Event). memory_after C.program.memory (initial_state C) es) empty));
    }
  where
    empty : events ≡ []
    empty = no-phases-run C events (ap length none) complete.run

    none-too : (after (initial_state C) events).setting.program.phases ≡ []
    none-too = ap (λ (x : Setting). x.program.phases) (run-setting (initial_state C) events ∙ opened-setting C) ∙ none

    no-begun : (S : State) → (after S events).setting.program.phases ≡ [] → all_loads S events ≡ []
    no-begun S is = ap (λ (ps : List Phase). loads_from 0 (take ((after S events).keeper.phase + 1) ps) S events) is ∙ no-first ((after S events).keeper.phase + 1)
      where
        no-first : (k : ℕ) → loads_from 0 (take k []) S events ≡ []
        no-first zero = refl
        no-first (suc k) = refl

    no-ends : (S : State) → (after S events).setting.program.phases ≡ [] → ends_of S events ≡ []
    no-ends S is = ap (λ (ps : List Phase). ends_from 0 (take ((after S events).keeper.phase + 1) ps) S events) is ∙ no-first ((after S events).keeper.phase + 1)
      where
        no-first : (k : ℕ) → ends_from 0 (take k []) S events ≡ []
        no-first zero = refl
        no-first (suc k) = refl

pub well-ends : (C : Setting) (events : List Event) → IsWellFormed C → IsCompleteRun (initial_state C) events → HasFlatEnd C events
well-ends C events well complete = by_phases C.program.phases refl where
  by_phases : (ps : List Phase) → C.program.phases ≡ ps → HasFlatEnd C events
  by_phases [] is = none-end C events well is complete
  by_phases (p ∷ ps) is = phases-end C p events well (ap (λ (xs : List Phase). slice_get xs 0) is) complete

-- the same within the limits of the code
pub end-agrees : (C : Setting) (events : List Event) → IsReady C → IsCompleteRun (initial_state C) events → HasFlatEnd C events
end-agrees C events ready complete = well-ends C events (well-formed C ready) complete

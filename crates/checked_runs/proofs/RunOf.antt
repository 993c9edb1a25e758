-- A run that the machine promises is a run of its program, and can be printed.
use Rattle.std.proofs.Common.{◌≡◌, ◌≢◌, ℕ, suc, ◌<◌, ◌≤◌, List, [], ◌∷◌, ◌++◌, length, take, drop, Some, refl, sym, ap, subst, ◌∙◌, arith, length-append}
use Rattle.std.specs.Option.{option_map}
use Rattle.std.proofs.lemmas.List.{take-append-drop, length-map}
use Rattle.std.proofs.lemmas.Grind.{flat_map-append}
use Rattle.std.proofs.lemmas.List.FromFn.{length-map-range_with_len}
use Rattle.dn_base.specs.declared.ids.Grant.{Grant}
use Rattle.dn_base.specs.declared.ids.Shape.{Shape}
use Rattle.region_table.specs.Program.{ProgramParts, tasks_of, IsProgram}
use Rattle.region_table.specs.declared.declared.Phase.{Phase}
use Rattle.rv_core.specs.declared.ending.Ending.{Ending}
use Rattle.message_net.specs.declared.event.Event.{Event}
use Rattle.grant_log.proofs.TotalLemmas.{all_counted}
use Rattle.registration_protocol.specs.Node.{Setting}
use Rattle.flat_machine.specs.declared.ending.FlatEnd.{FlatEnd}
use Rattle.flat_machine.specs.Step.{Started}
use Rattle.flat_machine.specs.Phases.{all_tasks}
use Rattle.flat_machine.specs.Ending.{flat_end, task_end}
use Rattle.flat_machine.proofs.CauseLemmas.{run-ended}
use Rattle.flat_machine.proofs.ReachedLaws.{reached-tasks}
use Rattle.flat_machine.proofs.RunLemmas.{alone-only}
use Rattle.machine_rules.specs.State.{State, initial_state}
use Rattle.machine_rules.specs.Memory.{memory_of, word_value}
use Rattle.machine_rules.specs.Next.{next}
use Rattle.machine_rules.specs.Runs.{after, kinds_of, grants_of}
use Rattle.machine_rules.proofs.RunsKept.{run-setting}
use Rattle.machine_rules.proofs.OpenedFacts.{opened-setting}
use Rattle.run_agreement.specs.Ends.{HasFlatEnd}
use Rattle.dn_machine.specs.Settings.{IsSettingOf}
use Rattle.dn_machine.specs.Run.{IsRecord, IsCoherentRun}
use Rattle.dn_machine.specs.declared.record.RunRecord.{RunRecord}
use Rattle.checked_runs.specs.Causes.{IsCaused}
use Rattle.checked_runs.specs.Runs.{HasFlatRun, IsWithoutGrants, IsRunOf, IsPrintable}
use Rattle.checked_runs.proofs.Causes.{caused}

-- ---- the size of an ending

front-less : (k : ℕ) (phases : List Phase) → length (tasks_of (take k phases)) ≤ length (tasks_of phases)
front-less k phases =
    let parts : tasks_of phases ≡ tasks_of (take k phases) ++ tasks_of (drop k phases) =
    ap tasks_of (sym (take-append-drop k phases)) ∙ flat_map-append (λ (p : Phase). p.tasks) (take k phases) (drop k phases)
    in
    let long = ap length parts in
    omega (arith, long, length-append (tasks_of (take k phases)) (tasks_of (drop k phases)))

-- the flat machine's run has no more tasks than the program
ended-tasks : (P : ProgramParts) (fuel : ℕ) (gs : List Grant) (e : FlatEnd) → flat_end P fuel gs ≡ Some e → length e.ending.tasks ≤ length (tasks_of P.phases)
ended-tasks P fuel gs e is =
    let last = run-ended P fuel gs e is in
    let has = reached-tasks P fuel gs last.last last.leads in
    let tasks = all_tasks last.last in
    let shown : length e.ending.tasks ≡ length tasks = ap length last.tasks ∙ length-map tasks (task_end P fuel) in
    let declared : length tasks ≡ length (tasks_of (take last.last.begun P.phases)) =
    sym (length-map tasks (λ (r : Started). r.decl)) ∙ ap length has.all
    in
    omega (arith, shown, declared, front-less last.last.begun P.phases)

-- a state shows as many words as the program has
shown-words : (S : State) (events : List Event) → length (memory_of (after S events)) ≡ length S.setting.program.memory
shown-words S events =
    length-map-range_with_len (word_value (after S events)) 0 (length (after S events).setting.program.memory)
    ∙ ap (λ (C : Setting). length C.program.memory) (run-setting S events)

kinds-length : (S : State) (events : List Event) → length (kinds_of S events) ≡ length events
kinds-length S [] = refl
kinds-length S (e ∷ es) = ap suc (kinds-length (next S e) es)

-- ---- a run without locks

without-grants : (P : ProgramParts) (fuel : ℕ) (gs : List Grant) (e : FlatEnd) → length P.locks ≡ 0 → flat_end P fuel gs ≡ Some e → gs ≡ []
without-grants P fuel [] e none is = refl
without-grants P fuel (g ∷ gs) e none is = let no_run = alone-only P fuel g gs none in absurd cc

-- ---- the run

-- what the machine says of a run, said of the setting that it was opened in
module _ (P : ProgramParts) (s : Shape) (fuel : ℕ) (C : Setting) (r : RunRecord) where
  -- the flat machine's run by the grants that the record has
  pub has-flat_run : IsRecord (initial_state C) r → HasFlatEnd C r.events → HasFlatRun C r
  has-flat_run is flat =
      record {
        end' = flat.end';
        value = ap (λ (gs : List Grant). flat_end C.program C.fuel gs) is.granted ∙ flat.run;
        loads = flat.loads;
        ending = flat.ending ∙ sym is.ends;
      }

  -- and its value, of the program and the fuel
  value-of : IsSettingOf P s fuel C → (flat : HasFlatRun C r) → flat_end P fuel r.grants ≡ Some flat.end'
  value-of asked flat =
      ap (λ (p : ProgramParts). flat_end p fuel r.grants) (sym asked.program)
      ∙ ap (λ (n : ℕ). flat_end C.program n r.grants) (sym asked.fuel)
      ∙ flat.value

  pub has-cause : IsSettingOf P s fuel C → HasFlatRun C r → IsCaused P fuel r.grants r.ending
  has-cause asked flat = subst (IsCaused P fuel r.grants) flat.ending (caused P fuel r.grants flat.end' (value-of asked flat))

  -- without locks there is no grant, and one end
  pub has-no_grants : IsSettingOf P s fuel C → HasFlatRun C r → P.locks ≡ [] → IsWithoutGrants P fuel r
  has-no_grants asked flat none =
      let no_locks : length P.locks ≡ 0 = ap length none in
      let value = value-of asked flat in
      let empty : r.grants ≡ [] = without-grants P fuel r.grants flat.end' no_locks value in
      record {
        grants = empty;
        ending =
            ap (λ (gs : List Grant). option_map (λ (e : FlatEnd). e.ending) (flat_end P fuel gs)) (sym empty)
            ∙ ap (option_map (λ (e : FlatEnd). e.ending)) value
            ∙ ap Some flat.ending;
      }

  unfoldable pub run-of : IsSettingOf P s fuel C → IsCoherentRun (initial_state C) r → HasFlatEnd C r.events → length r.counts.kinds ≡ 17 → IsRunOf P s fuel r
  run-of asked machine flat each =
      let by_grants = has-flat_run machine.is_true flat in
      record { setting = C; setting_is = asked; machine = machine; each_kind = each; flat = by_grants; caused = has-cause asked by_grants; lock_free = has-no_grants asked by_grants }

  pub can-print : IsProgram C.program → IsRecord (initial_state C) r → HasFlatEnd C r.events → length r.counts.kinds ≡ 17 → length r.events < 18446744073709551616 → IsPrintable r
  can-print program is flat kinds few =
      let memory = ap (λ (e : Ending). length e.memory) is.ends ∙ shown-words (initial_state C) r.events ∙ ap (λ (D : Setting). length D.program.memory) (opened-setting C) in
      let tasks = ap (λ (e : Ending). length e.tasks) (is.ends ∙ sym flat.ending) in
      let most = ended-tasks C.program C.fuel (grants_of (initial_state C) r.events) flat.end' flat.run in
      let all = all_counted (kinds_of (initial_state C) r.events) r.counts kinds is.counted ∙ kinds-length (initial_state C) r.events in
      record {
        words = omega (arith, memory, program.memory);
        tasks = omega (arith, tasks, most, program.tasks);
        events = omega (arith, all, few);
      }

-- ---- two runs without locks

pub ends-alike : (P : ProgramParts) (machine other : Shape) (fuel : ℕ) (r s : RunRecord) → IsRunOf P machine fuel r → IsRunOf P other fuel s → P.locks ≡ [] → r.ending ≡ s.ending
ends-alike P machine other fuel r s first second none =
    let one : Some r.ending ≡ Some s.ending = sym (first.lock_free none).ending ∙ (second.lock_free none).ending in
    cc

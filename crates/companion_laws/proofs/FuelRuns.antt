-- A run of a seed that is done is the same run with more fuel.
use Rattle.std.proofs.Common.{◌≡◌, ℕ, ◌<◌, ◌≤◌, Bool, true, false, List, [], ◌∷◌, ◌++◌, length, take, slice_get, Option, Some, None, IfSome, refl, sym, ap, ◌∙◌, subst, arith}
use Rattle.std.specs.List.{IsAmong}
use Rattle.std.specs.Option.{is_some}
use Rattle.std.proofs.lemmas.Option.{same_Some, slice_get-get_or}
use Rattle.dn_base.specs.declared.ids.Grant.{Grant}
use Rattle.dn_base.specs.declared.ids.Shape.{Shape}
use Rattle.dn_base.specs.declared.status.Outcome as outcome
use Rattle.region_table.specs.Plan.{ArePlans}
use Rattle.region_table.specs.Program.{ProgramParts, IsProgram, cores_of}
use Rattle.region_table.specs.declared.declared.TaskDecl.{TaskDecl}
use Rattle.region_table.specs.declared.declared.Phase.{Phase}
use Rattle.region_table.specs.Tasks.{declared, IsDeclaration}
use Rattle.region_table.proofs.TaskLemmas.{declared-tells}
use Rattle.rv_core.specs.declared.task.TaskState.{TaskState}
use Rattle.rv_core.specs.declared.task.End as cause
use Rattle.rv_core.specs.declared.ending.Ending.{Ending}
use Rattle.effect_checker.specs.Checked.{IsChecked}
use Rattle.flat_machine.specs.Step.{Started}
use Rattle.flat_machine.specs.Phases.{Flat}
use Rattle.flat_machine.specs.Grants.{so_far}
use Rattle.flat_machine.specs.Ending.{flat_end}
use Rattle.flat_machine.specs.Laws.{at_memory}
use Rattle.message_net.specs.declared.event.Event.{Event}
use Rattle.registration_protocol.specs.Node.{NodeParts, Setting, is_running}
use Rattle.machine_rules.specs.State.{State, initial_state}
use Rattle.machine_rules.specs.Sound.{IsReady, IsWellFormed}
use Rattle.machine_rules.specs.Next.{next}
use Rattle.machine_rules.specs.Runs.{after, IsRun, IsCompleteRun, grants_of, ending_of_run}
use Rattle.machine_rules.proofs.AnySize.{well-formed}
use Rattle.machine_rules.proofs.Exclusive.{IsAtWork, in-phase}
use Rattle.machine_rules.proofs.Invariant.{Invariant}
use Rattle.machine_rules.proofs.OpenedFacts.{opened-setting}
use Rattle.machine_rules.proofs.OpenedSound.{opened-sound}
use Rattle.machine_rules.proofs.RunsCoherent.{first_memory, well-all}
use Rattle.machine_rules.proofs.RunsKept.{memory_over, run-setting}
use Rattle.run_agreement.specs.Agreed.{Loads, Ends, stands, tasks_from, Agreed, more_ends}
use Rattle.run_agreement.specs.Cores.{world_of}
use Rattle.run_agreement.specs.Ends.{HasFlatEnd}
use Rattle.run_agreement.specs.Worlds.{LeadsToRun, segment_alone}
use Rattle.run_agreement.proofs.AgreedRuns.{loads_over, ends_over, no_ends}
use Rattle.run_agreement.proofs.EndAgrees.{well-ends}
use Rattle.run_agreement.proofs.MoreFuel.{ending-same, loads-same}
use Rattle.run_agreement.proofs.Opened.{no_loads}
use Rattle.run_agreement.proofs.Places.{get-cases, place-map}
use Rattle.run_agreement.proofs.PrefixAgrees.{run-agreed}
use Rattle.dn_machine.specs.Run.{IsRecord}
use Rattle.dn_machine.specs.Schedule.{generator_of, IsScheduled}
use Rattle.dn_machine.specs.Settings.{IsSettingOf}
use Rattle.dn_machine.specs.declared.record.RunRecord.{RunRecord}
use Rattle.dn_machine.proofs.OneSetting.{same-setting}
use Rattle.dn_machine.proofs.ScheduleLaws.{picked-complete, picked-one}
use Rattle.dn_top.specs.declared.options.Options.{Options}
use Rattle.dn_top.specs.declared.options.Order as order
use Rattle.dn_top.specs.declared.options.Order.{Order}
use Rattle.dn_top.specs.Command.{OptionsInRange}
use Rattle.dn_top.specs.Runs.{shape_for, ArePickedBy, IsRunFor}
use Rattle.companion_laws.specs.MoreFuel.{with_fuel, state_with_fuel, DoTheSame, TellTheSame}
use Rattle.companion_laws.proofs.FuelStates.{HaveFuel, KeepFuel, grants-append, picked-same, after-same, grants-same}
use Rattle.companion_laws.proofs.FuelSpent.{spent-segment, settled-same, not-done}

-- ---- a task that has used its fuel up

run-front : (S : State) (front rest : List Event) → IsRun S (front ++ rest) → IsRun S front
run-front S [] rest run = tt
run-front S (e ∷ front) rest run = (run.0, run-front (next S e) front rest run.1)

-- a node whose task hasn't ended is at work
at-work : (S : State) (M : ℕ → ℕ) (c : ℕ) (n : NodeParts) (d : TaskDecl) (t : TaskState) → Invariant S M → slice_get S.nodes c ≡ Some n → n.task ≡ Some t → t.end ≡ None → declared S.setting.program n.phase c ≡ Some d
    → IsAtWork S c n d t
at-work S M c n d t inv found task going declares = record { found = found; awake = by_halted n.halted refl; absent = by_arrived n.arrived refl; task = task; declares = declares }
  where
    runs : is_running n.task ≡ true
    runs = rw (task, going) refl

    by_halted : (b : Bool) → n.halted ≡ b → n.halted ≡ false
    by_halted true e = let over = (inv.phases.asleep c n found e).over in let on = runs in absurd (cc)
    by_halted false e = e

    by_arrived : (b : Bool) → n.arrived ≡ b → n.arrived ≡ false
    by_arrived true e = let over = (inv.phases.arrived c n found e).over in let on = runs in absurd (cc)
    by_arrived false e = e

module _ (C : Setting) (front rest : List Event) (well : IsWellFormed C) (complete : IsCompleteRun (initial_state C) (front ++ rest)) (done : (ending_of_run (initial_state C) (front ++ rest)).outcome ≡ outcome.TheVariants.Done) where
  abbrev S : State
  S = after (initial_state C) front

  abbrev M : ℕ → ℕ
  M = memory_over (first_memory C) (initial_state C) front

  abbrev gs : List Grant
  gs = grants_of (initial_state C) front

  abbrev L : Loads
  L = loads_over no_loads (initial_state C) front

  abbrev E : Ends
  E = ends_over (more_ends no_ends (initial_state C)) (initial_state C) front

  run : IsRun (initial_state C) front
  run = run-front (initial_state C) front rest complete.run

  inv : Invariant S M
  inv = (well-all C front well run).1

  setting : S.setting ≡ C
  setting = run-setting (initial_state C) front ∙ opened-setting C

  -- the task of a core leads to one that is out of fuel
  spent-leads : (c : ℕ) (n : NodeParts) (d : TaskDecl) (t : TaskState) (p : Phase) → slice_get C.program.phases 0 ≡ Some p → IsAtWork S c n d t → t.end ≡ None → t.retired ≡ S.setting.fuel → ⊥
  spent-leads c n d t p first work going spent = not-done P fuel among.0 q over gs (grants_of S rest) flat ends.end' leads in_flat by_grants (ap (λ (x : Ending). x.outcome) ends.ending ∙ done)
    where
      P : ProgramParts
      P = S.setting.program

      fuel : ℕ
      fuel = S.setting.fuel

      h : Agreed S M gs L E
      h = run-agreed C p front well first run

      phase : n.phase ≡ S.keeper.phase
      phase = in-phase S M c n d t inv work

      tells : IsDeclaration P n.phase c d
      tells = declared-tells P n.phase c d work.declares

      same : tells.phase ≡ h.phase
      same = same_Some tells.phase h.phase (sym tells.there ∙ ap (slice_get P.phases) phase ∙ h.world.there)

      among : IsAmong h.phase.tasks d
      among = subst (λ (x : Phase). IsAmong x.tasks d) same tells.among

      place : slice_get h.phase.tasks among.0 ≡ Some d
      place = slice_get-get_or h.phase.tasks among.0 d among.1.0 ∙ ap (λ (x : TaskDecl). Some x) (sym among.1.1)

      r : Started
      r = stands h.states L S.keeper.phase d

      W : Flat
      W = world_of S.keeper.phase (tasks_from h.states L 0 (take S.keeper.phase P.phases)) h.phase (stands h.states L S.keeper.phase) h.memory

      to_run : LeadsToRun P fuel gs W
      to_run = h.world.leads

      flat : Flat
      flat = to_run.flat

      state : r.state ≡ t
      state = ap (λ (k : ℕ). h.states k d.core.0) (sym phase) ∙ ap (h.states n.phase) tells.own ∙ h.shown.here c n t work.found work.task

      q : Started
      q = (segment_alone P fuel W.memory r).task

      over : q.state.end ≡ Some cause.TheVariants.Fuel
      over = spent-segment P fuel (at_memory r W.memory) (ap (λ (x : TaskState). x.end) state ∙ going) (ap (λ (x : TaskState). x.retired) state ∙ spent)

      in_flat : slice_get flat.tasks among.0 ≡ Some q
      in_flat = to_run.leads.tasks among.0 r (place-map (stands h.states L S.keeper.phase) h.phase.tasks among.0 d place)

      leads : so_far P fuel gs ≡ Some flat
      leads = to_run.run ∙ ap (λ (x : Flat). Some x) (settled-same P fuel among.0 q over flat in_flat)

      ends : HasFlatEnd C (front ++ rest)
      ends = well-ends C (front ++ rest) well complete

      by_grants : flat_end P fuel (gs ++ grants_of S rest) ≡ Some ends.end'
      by_grants =
          subst (λ (x : Setting). flat_end x.program x.fuel (gs ++ grants_of S rest) ≡ Some ends.end') (sym setting)
          (ap (flat_end C.program C.fuel) (sym (grants-append (initial_state C) front rest)) ∙ ends.run)

  -- so no task that hasn't ended has used its fuel up
  pub have-fuel : HaveFuel S
  have-fuel c n found t task going = by_declared (declared S.setting.program n.phase c) refl
    where
      within : t.retired ≤ S.setting.fuel
      within = subst (λ (o : Option TaskState). IfSome o (λ (x : TaskState). x.retired ≤ S.setting.fuel)) task (inv.machine.node c n found).fits.retired

      by_declared : (o : Option TaskDecl) → declared S.setting.program n.phase c ≡ o → t.retired < S.setting.fuel
      by_declared None declares =
          let some : is_some (declared S.setting.program n.phase c) ≡ true =
          ap (λ (k : ℕ). is_some (declared S.setting.program n.phase k)) (sym (inv.machine.node c n found).core) ∙ sym (inv.machine.node c n found).fits.task ∙ ap is_some task in
          let none : is_some (declared S.setting.program n.phase c) ≡ false = ap is_some declares in
          absurd (cc)
      by_declared (Some d) declares =
          let few : n.phase < length S.setting.program.phases = (declared-tells S.setting.program n.phase c d declares).within in
          let p = get-cases S.setting.program.phases 0 (omega (arith, few)) in
          let first : slice_get C.program.phases 0 ≡ Some p.0 = subst (λ (x : Setting). slice_get x.program.phases 0 ≡ Some p.0) setting p.1 in
          let apart : t.retired ≡ S.setting.fuel → ⊥ = λ spent. spent-leads c n d t p.0 first (at-work S M c n d t inv found task going declares) going spent in
          let most = within in
          grind (arith, apart, most)

-- ---- the run with more fuel

opened-with : (more : ℕ) (C : Setting) → initial_state (with_fuel more C) ≡ state_with_fuel more (initial_state C)
unfolding initial_state
opened-with more C = refl

well-with : (more : ℕ) (C : Setting) → IsWellFormed C → IsWellFormed (with_fuel more C)
well-with more C well =
    record {
      context = record { plans = well.context.plans; cores = well.context.cores; some_banks = well.context.some_banks; some_sets = well.context.some_sets; some_ways = well.context.some_ways };
      program = well.program;
      checked = well.checked;
    }

module _ (C : Setting) (more seed : ℕ) (events : List Event) (well : IsWellFormed C) (most : C.fuel ≤ more) (scheduled : IsScheduled (initial_state C) seed events) (done : (ending_of_run (initial_state C) events).outcome ≡ outcome.TheVariants.Done) where
  complete : IsCompleteRun (initial_state C) events
  complete = picked-complete (initial_state C) 0 (generator_of seed) events (opened-sound C well) scheduled

  keep : KeepFuel more (initial_state C) events
  keep = λ front rest parts. (
    have-fuel C front rest well (subst (IsCompleteRun (initial_state C)) parts complete)
        (ap (λ (es : List Event). (ending_of_run (initial_state C) es).outcome) (sym parts) ∙ done),
    (let fuel : (after (initial_state C) front).setting.fuel ≡ C.fuel = ap (λ (x : Setting). x.fuel) (run-setting (initial_state C) front ∙ opened-setting C) in omega (arith, fuel, most)),
  )

  pub scheduled-too : IsScheduled (initial_state (with_fuel more C)) seed events
  scheduled-too = subst (λ (T : State). IsScheduled T seed events) (sym (opened-with more C)) (picked-same more (initial_state C) (generator_of seed) events keep scheduled)

  complete-too : IsCompleteRun (initial_state (with_fuel more C)) events
  complete-too = picked-complete (initial_state (with_fuel more C)) 0 (generator_of seed) events (opened-sound (with_fuel more C) (well-with more C well)) scheduled-too

  grants-too : grants_of (initial_state (with_fuel more C)) events ≡ grants_of (initial_state C) events
  grants-too = ap (λ (T : State). grants_of T events) (opened-with more C) ∙ grants-same more (initial_state C) events keep

  pub do-the-same : DoTheSame C more events
  do-the-same =
      record {
        states = λ front rest parts.
            ap (λ (T : State). after T front) (opened-with more C) ∙ after-same more (initial_state C) front rest (subst (KeepFuel more (initial_state C)) parts keep);
        grants = grants-too;
        loads = loads-same C (with_fuel more C) events events well (well-with more C well) refl most complete complete-too grants-too done;
        ending = ending-same C (with_fuel more C) events events well (well-with more C well) refl most complete complete-too grants-too done;
      }

pub more-fuel : (C : Setting) (more seed : ℕ) (events : List Event) → IsWellFormed C → C.fuel ≤ more → IsScheduled (initial_state C) seed events → (ending_of_run (initial_state C) events).outcome ≡ outcome.TheVariants.Done
    → IsScheduled (initial_state (with_fuel more C)) seed events × DoTheSame C more events
more-fuel C more seed events well most scheduled done = (scheduled-too C more seed events well most scheduled done, do-the-same C more seed events well most scheduled done)

-- ---- two runs of denovo

told-same : (C : Setting) (more seed : ℕ) (r s : RunRecord) → IsWellFormed C → C.fuel ≤ more → IsScheduled (initial_state C) seed r.events → IsScheduled (initial_state (with_fuel more C)) seed s.events
    → IsRecord (initial_state C) r → IsRecord (initial_state (with_fuel more C)) s → r.ending.outcome ≡ outcome.TheVariants.Done → TellTheSame r s
told-same C more seed r s well most first second is also done =
    let both = more-fuel C more seed r.events well most first (ap (λ (x : Ending). x.outcome) (sym is.ends) ∙ done) in
    let events : s.events ≡ r.events = picked-one (initial_state (with_fuel more C)) (generator_of seed) s.events r.events second both.0 in
    record {
      events = events;
      grants = also.granted ∙ ap (grants_of (initial_state (with_fuel more C))) events ∙ both.1.grants ∙ sym is.granted;
      ending = also.ends ∙ ap (ending_of_run (initial_state (with_fuel more C))) events ∙ both.1.ending ∙ sym is.ends;
    }

-- the setting that the options ask for is within the limits of the code
ready-for : (P : ProgramParts) (o : Options) (C : Setting) → IsProgram P → IsChecked P → OptionsInRange o → IsSettingOf P (shape_for P o) o.fuel C → IsReady C
ready-for P o C program checked range is =
    record {
      context = record {
        plans = subst (λ (x : ProgramParts). ArePlans x C.plans) (sym is.program) is.plans;
        cores = ap (λ (x : Shape). x.cores) is.shape ∙ ap cores_of (sym is.program);
        some_banks = omega (arith, banks, range.banks.0);
        most_banks = omega (arith, banks, range.banks.1);
        some_sets = omega (arith, sets, range.sets.0);
        most_sets = omega (arith, sets, range.sets.1);
        some_ways = omega (arith, ways, range.ways.0);
        most_ways = omega (arith, ways, range.ways.1);
        some_fuel = omega (arith, is.fuel, range.fuel.0);
        most_fuel = omega (arith, is.fuel, range.fuel.1);
      };
      program = subst IsProgram (sym is.program) program;
      checked = subst IsChecked (sym is.program) checked;
    }
  where
    banks : C.shape.banks ≡ o.banks
    banks = ap (λ (x : Shape). x.banks) is.shape

    sets : C.shape.sets ≡ o.sets
    sets = ap (λ (x : Shape). x.sets) is.shape

    ways : C.shape.ways ≡ o.ways
    ways = ap (λ (x : Shape). x.ways) is.shape

pub denovo-told : (P : ProgramParts) (o : Options) (more : ℕ) (r s : RunRecord) → IsProgram P → IsChecked P → OptionsInRange o → o.workers ≡ 1 → o.order ≡ order.TheVariants.Seed → o.fuel ≤ more
    → IsRunFor P o r → IsRunFor P (record o { fuel = more }) s → r.ending.outcome ≡ outcome.TheVariants.Done → TellTheSame r s
denovo-told P o more r s program checked range one seed most is also done =
    told-same C more o.seed r s (well-formed C (ready-for P o C program checked range asked)) (omega (arith, asked.fuel, most)) first
    (subst (λ (x : Setting). IsScheduled (initial_state x) o.seed s.events) same second) is.run.machine.is_true (subst (λ (x : Setting). IsRecord (initial_state x) s) same also.run.machine.is_true) done
  where
    C : Setting
    C = is.run.setting

    asked : IsSettingOf P (shape_for P o) o.fuel C
    asked = is.run.setting_is

    same : also.run.setting ≡ with_fuel more C
    same =
        same-setting P (shape_for P o) more also.run.setting (with_fuel more C) also.run.setting_is
        (record { program = asked.program; plans = asked.plans; one_form = asked.one_form; shape = asked.shape; fuel = refl })

    first : IsScheduled (initial_state C) o.seed r.events
    first = subst (λ (x : Order). ArePickedBy x o (initial_state C) r.events) seed (is.picked one)

    second : IsScheduled (initial_state also.run.setting) o.seed s.events
    second = subst (λ (x : Order). ArePickedBy x (record o { fuel = more }) (initial_state also.run.setting) s.events) seed (also.picked one)

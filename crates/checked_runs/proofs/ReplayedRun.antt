-- What the replay of a document says of its run.
use Rattle.std.proofs.Common.{◌≡◌, ◌<◌, List, Result, Ok, Err, IfOk, refl, sym, subst, arith, length}
use Rattle.region_table.specs.Program.{ProgramParts, IsProgram}
use Rattle.message_net.specs.declared.event.Event.{Event}
use Rattle.registration_protocol.specs.Node.{Setting}
use Rattle.machine_rules.specs.State.{initial_state}
use Rattle.machine_rules.proofs.OpenedFacts.{opened-setting}
use Rattle.run_agreement.specs.Ends.{HasFlatEnd}
use Rattle.dn_machine.specs.Kept.{Made, IsKept, IsInitialMachine}
use Rattle.dn_machine.specs.Run.{IsCoherentRun}
use Rattle.dn_machine.specs.declared.record.RunRecord.{RunRecord}
use Rattle.run_replay.specs.declared.trace.Trace.{Trace}
use Rattle.run_replay.specs.declared.replaying.Replayed.{Replayed}
use Rattle.run_replay.specs.declared.replaying.Replayed.TheVariants.{Complete}
use Rattle.run_replay.specs.Replay.{IsTrueOf}
use Rattle.checked_runs.specs.Runs.{IsRunOf, IsPrintable}
use Rattle.checked_runs.specs.Documents.{IsMachineTold, IsReplayIn, shape_told}
use Rattle.checked_runs.proofs.RunOf.{run-of, can-print}

-- a machine at its start is told of its own program
pub own-machine : (P : ProgramParts) (t : Trace) (m : Made) → IsInitialMachine P (shape_told P t.shape) t.shape.fuel m → IsMachineTold t m
own-machine P t m at = subst (λ (p : ProgramParts). IsInitialMachine p (shape_told p t.shape) t.shape.fuel m) (sym at.program_is) at

-- what is true of the document's events on its machine is their replay
pub replay-told : {E : Type 0} (t : Trace) (m : Made) (events : List Event) (r : Result Replayed E) → IsMachineTold t m → IsKept m.state m.made → events ≡ t.events
    → IfOk r (IsTrueOf m.state.setting events) → IfOk r (IsReplayIn m.state.setting.program t)
replay-told t m events (Err e) at kept are is = tt
replay-told t m events (Ok x) at kept are is =
    record {
      setting = m.state.setting;
      setting_is =
          record {
            program = refl;
            plans = kept.sound.machine.context.plans;
            one_form = at.plans_are;
            shape = at.shape_is;
            fuel = at.fuel_is;
          };
      is_true = subst (λ (es : List Event). IsTrueOf m.state.setting es x) are is;
    }

-- a complete run, with what is promised of runs
module _ (P : ProgramParts) (t : Trace) (r : RunRecord) where
  pub coherent-run : r.events ≡ t.events → (is : IsReplayIn P t (Complete r.ending r.grants r.counts)) → IsCoherentRun (initial_state is.setting) r
  coherent-run events is =
      subst (λ (es : List Event). IsCoherentRun (initial_state is.setting) (record { events = es; grants = r.grants; counts = r.counts; ending = r.ending })) (sym events) is.is_true.run

  flat-end : (is : IsReplayIn P t (Complete r.ending r.grants r.counts)) → IsCoherentRun (initial_state is.setting) r → HasFlatEnd is.setting r.events
  flat-end is machine = subst (λ (C : Setting). HasFlatEnd C r.events) (opened-setting is.setting) machine.flat

  pub run-again : r.events ≡ t.events → IsReplayIn P t (Complete r.ending r.grants r.counts) → IsRunOf P (shape_told P t.shape) t.shape.fuel r
  run-again events is =
      let machine = coherent-run events is in
      run-of P (shape_told P t.shape) t.shape.fuel is.setting r is.setting_is machine (flat-end is machine) is.is_true.each_kind

  pub prints-again : IsProgram P → r.events ≡ t.events → IsReplayIn P t (Complete r.ending r.grants r.counts) → IsPrintable r
  prints-again program events is =
      let machine = coherent-run events is in
      let few : length r.events < 18446744073709551616 = omega (arith, machine.few.most) in
      can-print P (shape_told P t.shape) t.shape.fuel is.setting r (subst IsProgram (sym is.setting_is.program) program) machine.is_true (flat-end is machine) is.is_true.each_kind few

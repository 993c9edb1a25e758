-- The timing of the run that options ask for.
use Rattle.std.proofs.Common.{◌≡◌, List, sym, subst}
use Rattle.region_table.specs.Program.{ProgramParts}
use Rattle.message_net.specs.declared.event.Event.{Event}
use Rattle.registration_protocol.specs.Node.{Setting}
use Rattle.machine_rules.specs.State.{State, initial_state}
use Rattle.machine_rules.specs.Runs.{IsRun}
use Rattle.dn_machine.specs.declared.record.RunRecord.{RunRecord}
use Rattle.dn_machine.specs.Kept.{Made, IsKept, IsInitialMachine}
use Rattle.dn_machine.specs.Settings.{IsRunOn}
use Rattle.dn_machine.proofs.OneSetting.{same-setting}
use Rattle.run_timing.specs.declared.ticks.Ticks.{Ticks}
use Rattle.run_timing.specs.declared.timing.Timing.{Timing}
use Rattle.run_timing.specs.Longest.{IsLongest, IsTimingOf}
use Rattle.dn_top.specs.declared.options.Options.{Options}
use Rattle.dn_top.specs.Runs.{shape_for, ticks_for, IsAnyRunFor}
use Rattle.dn_top.proofs.RunOf.{asked-for}

-- the events are a run of the opened machine that the options ask for
run-on : (P : ProgramParts) (o : Options) (r : RunRecord) → IsAnyRunFor P o r → IsRunOn P (shape_for P o) o.fuel r.events
run-on P o r is C told =
    let same : is.setting ≡ C = same-setting P (shape_for P o) o.fuel is.setting C is.setting_is told in
    subst (λ (D : Setting). IsRun (initial_state D) r.events) same is.machine.complete.run

-- the run of a program is one of its opened machine
pub run-of-opened : (P : ProgramParts) (o : Options) (m : Made) (r : RunRecord) → IsInitialMachine P (shape_for P o) o.fuel m → IsKept m.state m.made → IsAnyRunFor P o r → IsRun m.state r.events
run-of-opened P o m r at kept is = subst (λ (S : State). IsRun S r.events) (sym at.state) (run-on P o r is m.state.setting (asked-for P o m r at kept))

-- its longest chain on that machine is the timing that the options ask for
pub times-opened : (P : ProgramParts) (o : Options) (m : Made) (r : RunRecord) (events : List Event) (ticks : Ticks) (timing : Timing) → IsInitialMachine P (shape_for P o) o.fuel m → IsKept m.state m.made
    → events ≡ r.events → ticks ≡ ticks_for o → IsLongest ticks m.state events timing → IsTimingOf P (shape_for P o) o.fuel r.events (ticks_for o) timing
times-opened P o m r events ticks timing at kept are ticks_are longest =
    record {
      setting = m.state.setting;
      setting_is = asked-for P o m r at kept;
      longest =
          subst (λ (x : Ticks). IsLongest x (initial_state m.state.setting) r.events timing) ticks_are
          (subst (λ (es : List Event). IsLongest ticks (initial_state m.state.setting) es timing) are
          (subst (λ (S : State). IsLongest ticks S events timing) at.state longest));
    }

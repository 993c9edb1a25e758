-- The run of a seed on a machine at its start is the one that denovo makes, and can be printed.
use Rattle.std.proofs.Common.{◌≡◌, ◌<◌, ℕ, length, subst, sym}
use Rattle.region_table.specs.Program.{ProgramParts}
use Rattle.region_table.specs.Plan.{ArePlans}
use Rattle.machine_rules.specs.State.{State, initial_state}
use Rattle.dn_machine.specs.Kept.{Made, IsKept, IsInitialMachine}
use Rattle.dn_machine.specs.Settings.{IsSettingOf}
use Rattle.dn_machine.specs.Run.{IsSeedsRunOf}
use Rattle.dn_machine.specs.declared.record.RunRecord.{RunRecord}
use Rattle.checked_runs.specs.Runs.{IsPrintable}
use Rattle.checked_runs.proofs.RunOf.{run-of, can-print}
use Rattle.dn_top.specs.Runs.{shape_for, IsRunFor}
use Rattle.sweep_top.specs.declared.options.SweepOptions.{SweepOptions}
use Rattle.sweep_top.specs.Runs.{options_at}

module _ (P : ProgramParts) (o : SweepOptions) (seed : ℕ) (m : Made) (r : RunRecord) where
  pub setting-opened : IsInitialMachine P (shape_for P (options_at o seed)) o.fuel m → IsKept m.state m.made → IsSettingOf P (shape_for P (options_at o seed)) o.fuel m.state.setting
  setting-opened at kept =
      record {
        program = at.program_is;
        plans = subst (λ (p : ProgramParts). ArePlans p m.state.setting.plans) at.program_is kept.sound.machine.context.plans;
        one_form = at.plans_are;
        shape = at.shape_is;
        fuel = at.fuel_is;
      }

  at-start : IsInitialMachine P (shape_for P (options_at o seed)) o.fuel m → IsSeedsRunOf (initial_state m.state.setting) seed r → IsSeedsRunOf m.state seed r
  at-start at there = subst (λ (S : State). IsSeedsRunOf S seed r) (sym at.state) there

  pub run-of_seed : IsInitialMachine P (shape_for P (options_at o seed)) o.fuel m → IsKept m.state m.made → IsSeedsRunOf (initial_state m.state.setting) seed r → length r.counts.kinds ≡ 17
      → IsRunFor P (options_at o seed) r
  unfolding run-of
  run-of_seed at kept there each =
      let here : IsSeedsRunOf m.state seed r = at-start at there in
      record {
        run = run-of P (shape_for P (options_at o seed)) o.fuel m.state.setting r (setting-opened at kept) there.run here.run.flat each;
        picked = λ _. there.scheduled;
      }

  pub seed-printable : IsInitialMachine P (shape_for P (options_at o seed)) o.fuel m → IsKept m.state m.made → IsSeedsRunOf (initial_state m.state.setting) seed r → length r.counts.kinds ≡ 17
      → length r.events < 18446744073709551616 → IsPrintable r
  seed-printable at kept there each few =
      let here : IsSeedsRunOf m.state seed r = at-start at there in
      can-print P (shape_for P (options_at o seed)) o.fuel m.state.setting r kept.left.ready.program there.run.is_true here.run.flat each few

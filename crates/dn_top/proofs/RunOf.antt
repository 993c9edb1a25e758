-- The run of an opened machine is a run of its program, that of the options where these ask for it, and can be printed.
use Rattle.std.proofs.Common.{◌≡◌, ◌≢◌, ◌<◌, length, sym, ap, subst, ◌∙◌}
use Rattle.std.specs.List.{All}
use Rattle.dn_base.specs.declared.ids.Shape.{Shape}
use Rattle.region_table.specs.Program.{ProgramParts}
use Rattle.region_table.specs.Plan.{ArePlans}
use Rattle.machine_rules.specs.State.{State, initial_state}
use Rattle.registration_protocol.specs.Node.{Setting}
use Rattle.machine_rules.specs.Runs.{IsRun}
use Rattle.machine_rules.proofs.OpenedFacts.{opened-setting}
use Rattle.run_agreement.specs.Ends.{HasFlatEnd}
use Rattle.dn_machine.specs.Kept.{Made, IsKept, IsInitialMachine}
use Rattle.dn_machine.specs.Settings.{IsSettingOf}
use Rattle.dn_machine.specs.Run.{IsRecord, IsCoherentRun}
use Rattle.dn_machine.specs.declared.record.RunRecord.{RunRecord}
use Rattle.dn_machine.proofs.RunLemmas.{ready-of}
use Rattle.run_replay.specs.Document.{FitsDocument}
use Rattle.run_replay.proofs.ToldRuns.{run-told}
use Rattle.checked_runs.specs.Runs.{IsPrintable}
use Rattle.checked_runs.proofs.RunOf.{run-of, can-print}
use Rattle.dn_top.specs.declared.options.Options.{Options}
use Rattle.dn_top.specs.declared.options.Order.{Order}
use Rattle.dn_top.specs.declared.options.Order.TheVariants.{Seed, Time}
use Rattle.dn_top.specs.Runs.{shape_for, with_one_worker, ArePickedBy, IsPickedRun, IsRunFor}

-- ---- from what the calls of the machine say

module _ (P : ProgramParts) (o : Options) (m : Made) (r : RunRecord) where
  at-opened : (Holds : State → Type 0) → IsInitialMachine P (shape_for P o) o.fuel m → Holds m.state → Holds (initial_state m.state.setting)
  at-opened Holds at h = subst Holds at.state h

  pub asked-for : IsInitialMachine P (shape_for P o) o.fuel m → IsKept m.state m.made → IsSettingOf P (shape_for P o) o.fuel m.state.setting
  asked-for at kept =
      record {
        program = at.program_is;
        plans = subst (λ (p : ProgramParts). ArePlans p m.state.setting.plans) at.program_is kept.sound.machine.context.plans;
        one_form = at.plans_are;
        shape = at.shape_is;
        fuel = at.fuel_is;
      }

  -- one whose events one worker picks
  pub is-run_by_one : IsInitialMachine P (shape_for P o) o.fuel m → IsKept m.state m.made → IsPickedRun o m.state r → length r.counts.kinds ≡ 17 → IsRunFor P o r
  unfolding run-of
  is-run_by_one at kept run each =
      let there : IsPickedRun o (initial_state m.state.setting) r = at-opened (λ S. IsPickedRun o S r) at run in
      record { run = run-of P (shape_for P o) o.fuel m.state.setting r (asked-for at kept) there.run run.run.flat each; picked = λ _. there.picked }

  -- one of several workers
  pub is-run_by_workers : IsInitialMachine P (shape_for P o) o.fuel m → IsKept m.state m.made → IsCoherentRun m.state r → length r.counts.kinds ≡ 17 → o.workers ≢ 1 → IsRunFor P o r
  is-run_by_workers at kept run each several =
      record {
        run = run-of P (shape_for P o) o.fuel m.state.setting r (asked-for at kept) (at-opened (λ S. IsCoherentRun S r) at run) run.flat each;
        picked = λ one. absurd (several one);
      }

  pub is-printable : IsInitialMachine P (shape_for P o) o.fuel m → IsKept m.state m.made → IsRecord m.state r → HasFlatEnd m.state.setting r.events → length r.counts.kinds ≡ 17
      → length r.events < 18446744073709551616 → IsPrintable r
  is-printable at kept is flat kinds few =
      can-print P (shape_for P o) o.fuel m.state.setting r kept.left.ready.program (at-opened (λ S. IsRecord S r) at is) flat kinds few

  -- the events are within the limits of a document
  pub all-told : IsInitialMachine P (shape_for P o) o.fuel m → IsKept m.state m.made → IsRun m.state r.events → All FitsDocument r.events
  all-told at kept run =
      run-told m.state.setting r.events (ready-of m.state m.made kept) kept.most (at-opened (λ S. IsRun S r.events) at run)

-- the machine was opened in the shape of the checked program
pub at_shape : (P Q : ProgramParts) (o : Options) (s : Shape) (m : Made) → IsInitialMachine P s o.fuel m → s ≡ shape_for Q o → Q ≡ P → IsInitialMachine P (shape_for P o) o.fuel m
at_shape P Q o s m at is same = subst (λ (s : Shape). IsInitialMachine P s o.fuel m) (is ∙ ap (λ (p : ProgramParts). shape_for p o) same) at

-- the machine was opened for its own program
pub at-own : (P : ProgramParts) (o : Options) (m : Made) → IsInitialMachine P (shape_for P o) o.fuel m → IsInitialMachine m.state.setting.program (shape_for m.state.setting.program o) o.fuel m
at-own P o m at = subst (λ (p : ProgramParts). IsInitialMachine p (shape_for p o) o.fuel m) (sym at.program_is) at

-- the setting of a program is that of the program that it has
pub own-setting : (P : ProgramParts) (o : Options) (C : Setting) → IsSettingOf P (shape_for P o) o.fuel C → IsSettingOf C.program (shape_for C.program o) o.fuel C
own-setting P o C is = subst (λ (p : ProgramParts). IsSettingOf p (shape_for p o) o.fuel C) (sym is.program) is

-- a machine that was set back has the setting that it had, and is opened for its own program
pub reset-setting : (C : Setting) (S : State) → S ≡ initial_state C → S.setting ≡ C
reset-setting C S is = ap (λ (x : State). x.setting) is ∙ opened-setting C

pub at-start : (o : Options) (C : Setting) (m : Made) → m.state ≡ initial_state C → m.made ≡ 0 → IsSettingOf C.program (shape_for C.program o) o.fuel C
    → IsInitialMachine m.state.setting.program (shape_for m.state.setting.program o) o.fuel m
at-start o C m at none is =
    let same : m.state.setting ≡ C = reset-setting C m.state at in
    let here : IsSettingOf m.state.setting.program (shape_for m.state.setting.program o) o.fuel m.state.setting =
    subst (λ (D : Setting). IsSettingOf D.program (shape_for D.program o) o.fuel D) (sym same) is
    in
    record {
      state = at ∙ ap initial_state (sym same);
      program_is = here.program;
      shape_is = here.shape;
      fuel_is = here.fuel;
      plans_are = here.one_form;
      made = none;
    }

-- how events are picked by one worker doesn't look at the number of workers
pub picked-alone : (o : Options) (S : State) (r : RunRecord) → IsPickedRun o S r → IsPickedRun (with_one_worker o) S r
picked-alone o S r is = record { run = is.run; picked = by_order o.order is.picked } where
  by_order : (k : Order) → ArePickedBy k o S r.events → ArePickedBy k (with_one_worker o) S r.events
  by_order Seed h = h
  by_order Time h = h

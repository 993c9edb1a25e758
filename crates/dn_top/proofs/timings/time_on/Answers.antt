use Rattle.std.proofs.Common.{sym, subst}
use Rattle.std.proofs.lemmas.Result.{IfOk-weaker}
use Rattle.registration_protocol.specs.Node.{Setting}
use Rattle.dn_machine.specs.Settings.{IsSettingOf}
use Rattle.dn_top.specs.declared.output.Output.{Output}
use Rattle.dn_top.specs.Runs.{with_one_worker, shape_for, IsAnyRunFor, IsTimedFor, IsTimedRun}
use Rattle.dn_top.proofs.RunOf.{asked-for}
use Rattle.dn_top.proofs.timings.time_on.Goals as goal

pub time_again-requires-clause-setting : goal.time_again-requires-clause-setting
time_again-requires-clause-setting c =
    let m = c.args.machine.now in
    subst (λ (C : Setting). IsSettingOf C.program (shape_for C.program c.args.options.now) c.args.options.now.fuel C) (sym c.in_ok-run.ensures.setting)
    (asked-for m.state.setting.program c.args.options.now m c.in_ok-run.run' c.requires.initial c.a_machine_is_kept.ensures)

pub time_again-requires-clause-run : goal.time_again-requires-clause-run
time_again-requires-clause-run c =
    subst (λ (C : Setting). IsAnyRunFor C.program c.args.options.now c.in_ok-run.run') (sym c.in_ok-run.ensures.setting) c.in_ok-run.ensures.run.run

pub returns : goal.returns
returns c =
    IfOk-weaker c.time_again.result _ (λ (out : Output). IsTimedRun c.args.machine.now.state.setting.program (with_one_worker c.args.options.now) out)
    (λ out timed. record {
      run = c.in_ok-run.run';
      is = c.in_ok-run.ensures.run;
      timed = subst (λ (C : Setting). IsTimedFor C.program c.args.options.now c.in_ok-run.run' out) c.in_ok-run.ensures.setting timed;
    })
    c.time_again.ensures

use Rattle.std.proofs.Common.{sym, subst}
use Rattle.std.proofs.lemmas.Result.{IfOk-weaker}
use Rattle.region_table.specs.Program.{ProgramParts}
use Rattle.dn_top.specs.declared.output.Output.{Output}
use Rattle.dn_top.specs.Runs.{IsAnyRunFor, IsTimedFor, IsTimedRun}
use Rattle.dn_top.proofs.RunOf.{own-setting}
use Rattle.dn_top.proofs.timings.time_checked_by_workers.Goals as goal

pub time_made-requires-clause-setting : goal.time_made-requires-clause-setting
time_made-requires-clause-setting g c = own-setting c.args.checked c.args.options.now c.in_ok-made.made.machine.state.setting c.in_ok-made.ensures.setting

pub time_made-requires-clause-run : goal.time_made-requires-clause-run
time_made-requires-clause-run g c =
    subst (λ (P : ProgramParts). IsAnyRunFor P c.args.options.now c.in_ok-made.made.run) (sym c.in_ok-made.ensures.setting.program) c.in_ok-made.ensures.run.run

pub returns : goal.returns
returns g c =
    IfOk-weaker c.time_made.result _ (λ (out : Output). IsTimedRun c.args.checked c.args.options.now out)
    (λ out timed. record {
      run = c.in_ok-made.made.run;
      is = c.in_ok-made.ensures.run;
      timed = subst (λ (P : ProgramParts). IsTimedFor P c.args.options.now c.in_ok-made.made.run out) c.in_ok-made.ensures.setting.program timed;
    })
    c.time_made.ensures

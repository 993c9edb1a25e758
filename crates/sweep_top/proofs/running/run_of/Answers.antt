use Rattle.std.proofs.Common.{◌<◌, length, arith}
use Rattle.sweep_top.proofs.SeedRuns.{run-of_seed, seed-printable}
use Rattle.sweep_top.proofs.running.run_of.Goals as goal

pub returns-clause-run : goal.returns-clause-run
returns-clause-run c =
    let m = c.args.machine.now in
    run-of_seed m.state.setting.program c.args.options.now c.args.seed m c.in_ok-run.run' c.requires c.a_machine_is_kept.ensures c.in_ok-run.ensures c.has_each_kind.ensures

pub returns-clause-printable : goal.returns-clause-printable
returns-clause-printable c =
    let m = c.args.machine.now in
    let few : length c.in_ok-run.run'.events < 18446744073709551616 = omega (arith, c.len-events.type_inv, c.len-events.ensures) in
    seed-printable m.state.setting.program c.args.options.now c.args.seed m c.in_ok-run.run' c.requires c.a_machine_is_kept.ensures c.in_ok-run.ensures c.has_each_kind.ensures few

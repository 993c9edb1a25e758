use Rattle.std.proofs.Common.{◌<◌, length, arith}
use Rattle.dn_top.proofs.RunOf.{is-run_by_one, picked-alone, is-printable}
use Rattle.dn_top.specs.Runs.{with_one_worker}
use Rattle.dn_top.proofs.timings.run_of.Goals as goal

pub returns-clause-run : goal.returns-clause-run
returns-clause-run c =
    let m = c.args.machine.now in
    is-run_by_one m.state.setting.program (with_one_worker c.args.options.now) m c.in_ok-run.run' c.requires.initial c.a_machine_is_kept.ensures (picked-alone c.args.options.now m.state c.in_ok-run.run' c.in_ok-run.ensures.run) c.has_each_kind.ensures

pub returns-clause-printable : goal.returns-clause-printable
returns-clause-printable c =
    let m = c.args.machine.now in
    let told = c.in_ok-run.ensures.run in
    let few : length c.in_ok-run.run'.events < 18446744073709551616 = omega (arith, c.len-events.type_inv, c.len-events.ensures) in
    is-printable m.state.setting.program c.args.options.now m c.in_ok-run.run' c.requires.initial c.a_machine_is_kept.ensures told.run.is_true told.run.flat c.has_each_kind.ensures few

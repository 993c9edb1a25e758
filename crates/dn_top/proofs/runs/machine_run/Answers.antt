use Rattle.std.proofs.Common.{◌<◌, length, arith}
use Rattle.dn_top.proofs.RunOf.{at_shape, is-run_by_one, picked-alone, is-printable, all-told}
use Rattle.dn_top.specs.Runs.{with_one_worker}
use Rattle.dn_top.proofs.runs.machine_run.Goals as goal

pub returns-clause-run : goal.returns-clause-run
returns-clause-run c =
    let m = c.in_ok-machine.machine in
    let at = at_shape c.args.checked c.program.result.now c.args.options.now c.shape_of-shape.result m c.in_ok-machine.ensures c.shape_of-shape.ensures c.program.ensures.value in
    let told = c.in_ok-run.ensures in
    is-run_by_one c.args.checked (with_one_worker c.args.options.now) m c.in_ok-run.run' at c.a_machine_is_kept.ensures (picked-alone c.args.options.now m.state c.in_ok-run.run' told) c.has_each_kind.ensures

pub returns-clause-told : goal.returns-clause-told
returns-clause-told c =
    let m = c.in_ok-machine.machine in
    let at = at_shape c.args.checked c.program.result.now c.args.options.now c.shape_of-shape.result m c.in_ok-machine.ensures c.shape_of-shape.ensures c.program.ensures.value in
    all-told c.args.checked c.args.options.now m c.in_ok-run.run' at c.a_machine_is_kept.ensures c.in_ok-run.ensures.run.complete.run

pub returns-clause-printable : goal.returns-clause-printable
returns-clause-printable c =
    let m = c.in_ok-machine.machine in
    let at = at_shape c.args.checked c.program.result.now c.args.options.now c.shape_of-shape.result m c.in_ok-machine.ensures c.shape_of-shape.ensures c.program.ensures.value in
    let told = c.in_ok-run.ensures in
    let few : length c.in_ok-run.run'.events < 18446744073709551616 = omega (arith, c.len-events.type_inv, c.len-events.ensures) in
    is-printable c.args.checked c.args.options.now m c.in_ok-run.run' at c.a_machine_is_kept.ensures told.run.is_true told.run.flat c.has_each_kind.ensures few

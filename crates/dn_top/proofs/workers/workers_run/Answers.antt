use Rattle.std.proofs.Common.{◌<◌, length, sym, subst, arith}
use Rattle.registration_protocol.specs.Node.{Setting}
use Rattle.dn_machine.specs.Settings.{IsSettingOf}
use Rattle.dn_top.specs.Runs.{shape_for}
use Rattle.dn_top.proofs.RunOf.{asked-for, at_shape, is-run_by_workers, is-printable, all-told}
use Rattle.dn_top.proofs.workers.workers_run.Goals as goal

pub returns-clause-run : goal.returns-clause-run
returns-clause-run g c =
    let m = c.in_ok-machine.machine in
    let at = at_shape c.args.checked c.program.result.now c.args.options.now c.shape_of-shape.result m c.in_ok-machine.ensures c.shape_of-shape.ensures c.program.ensures.value in
    is-run_by_workers c.args.checked c.args.options.now m c.in_ok-made.made.run at c.a_machine_is_kept.ensures c.in_ok-made.ensures.made.run c.has_each_kind.ensures c.requires.several

pub returns-clause-told : goal.returns-clause-told
returns-clause-told g c =
    let m = c.in_ok-machine.machine in
    let at = at_shape c.args.checked c.program.result.now c.args.options.now c.shape_of-shape.result m c.in_ok-machine.ensures c.shape_of-shape.ensures c.program.ensures.value in
    all-told c.args.checked c.args.options.now m c.in_ok-made.made.run at c.a_machine_is_kept.ensures c.in_ok-made.ensures.made.run.complete.run

pub returns-clause-printable : goal.returns-clause-printable
returns-clause-printable g c =
    let m = c.in_ok-machine.machine in
    let at = at_shape c.args.checked c.program.result.now c.args.options.now c.shape_of-shape.result m c.in_ok-machine.ensures c.shape_of-shape.ensures c.program.ensures.value in
    let told = c.in_ok-made.ensures.made.run in
    let few : length c.in_ok-made.made.run.events < 18446744073709551616 = omega (arith, c.len-events.type_inv, c.len-events.ensures) in
    is-printable c.args.checked c.args.options.now m c.in_ok-made.made.run at c.a_machine_is_kept.ensures told.is_true told.flat c.has_each_kind.ensures few

pub returns-clause-setting : goal.returns-clause-setting
returns-clause-setting g c =
    let m = c.in_ok-machine.machine in
    let at = at_shape c.args.checked c.program.result.now c.args.options.now c.shape_of-shape.result m c.in_ok-machine.ensures c.shape_of-shape.ensures c.program.ensures.value in
    subst (λ (C : Setting). IsSettingOf c.args.checked (shape_for c.args.checked c.args.options.now) c.args.options.now.fuel C) (sym c.in_ok-made.ensures.setting)
    (asked-for c.args.checked c.args.options.now m c.in_ok-made.made.run at c.a_machine_is_kept.ensures)

use Rattle.std.proofs.Common.{sym}
use Rattle.flat_machine.proofs.Separation.{in-either-order, step-leaves_other}
use Rattle.flat_machine.proofs.laws.segments_run_in_either_order.Goals as goal

pub returns-clause-either : goal.returns-clause-either
returns-clause-either c =
    λ P p fuel a b m checked phase first second cores held in_m.
    in-either-order P p fuel a b m
    (record { checked = checked; phase = phase; first = first; second = second; cores = cores; held = held })
    (record { checked = checked; phase = phase; first = second; second = first; cores = λ e. cores (sym e); held = λ lock x y. held lock y x })
    in_m

pub returns-clause-step : goal.returns-clause-step
returns-clause-step c =
    λ P p fuel a b m checked phase first second cores held in_m.
    step-leaves_other P p fuel a b m
    (record { checked = checked; phase = phase; first = first; second = second; cores = cores; held = held })
    in_m

use Rattle.view_top.proofs.Shown.{shown-in}
use Rattle.view_top.proofs.states.state_before.Goals as goal

pub returns : goal.returns
returns c =
    rw c.output.ensures
    (shown-in c.args.checked c.args.trace.now c.args.options.now c.shape_of-shape.result c.args.places.now c.as_slice-events.result.now c.in_ok-shown.shown c.status_at.result c.from_vec.result
    c.shape_of-shape.ensures c.requires.places c.as_slice-events.ensures c.requires.within c.in_ok-shown.ensures c.status_at.ensures c.from_vec.ensures)

use Rattle.view_top.proofs.DataTold.{data-is}
use Rattle.view_top.proofs.Machines.{program-of}
use Rattle.view_top.proofs.run_data.told_output.Goals as goal

pub text_places-requires : goal.text_places-requires
text_places-requires c = program-of c.args.kept.now c.finishes_of.new.machine c.as_slice.result.now c.program.result.now c.in_ok-finishes.ensures.machine c.as_slice.ensures c.program.ensures

pub returns : goal.returns
returns c =
    rw c.output.ensures
    (data-is c.args.kept.now c.args.options.now c.data_ticks-ticks.result c.in_ok-timing.timing c.in_ok-finishes.finishes c.as_slice.result.now c.in_ok-places.places c.data_for-told.result c.in_ok-bytes.field-0
    c.data_ticks-ticks.ensures.value c.requires.within c.in_ok-timing.ensures.timing c.in_ok-finishes.ensures.finishes c.as_slice.ensures c.in_ok-places.ensures c.data_for-told.ensures.page c.data_for-told.ensures.places
    c.data_for-told.ensures.finishes c.in_ok-bytes.ensures)

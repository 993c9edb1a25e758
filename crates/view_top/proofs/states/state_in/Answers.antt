use Rattle.std.proofs.Common.{Ok, ap, sym, ◌∙◌}
use Rattle.rv_assembler.specs.Source.{source}
use Rattle.text_places.specs.Places.{text_places}
use Rattle.view_top.proofs.states.state_in.Goals as goal

pub text_places-requires : goal.text_places-requires
text_places-requires c = ap source c.as_slice.ensures ∙ c.requires.program ∙ ap Ok (sym c.program.ensures.value)

pub state_before-shown-requires-clause-places : goal.state_before-shown-requires-clause-places
state_before-shown-requires-clause-places c = c.in_ok-places.ensures ∙ ap text_places c.as_slice.ensures

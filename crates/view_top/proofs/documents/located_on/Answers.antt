use Rattle.std.proofs.Common.{refl, ap, ◌∙◌}
use Rattle.text_places.specs.Places.{text_places}
use Rattle.dn_machine.specs.Kept.{Made}
use Rattle.view_top.proofs.Machines.{program-of}
use Rattle.view_top.proofs.documents.located_on.Goals as goal

pub text_places-requires : goal.text_places-requires
text_places-requires c =
    program-of c.args.kept.now c.args.machine c.as_slice.result.now c.into_program-program.result c.requires c.as_slice.ensures
    (c.into_program-program.ensures.value ∙ ap (λ (m : Made). m.state.setting.program) c.split-checked.ensures.parts)

pub returns-clause-program : goal.returns-clause-program
returns-clause-program c = program-of c.args.kept.now c.args.machine c.args.kept.now.text c.into_program-program.result c.requires refl
    (c.into_program-program.ensures.value ∙ ap (λ (m : Made). m.state.setting.program) c.split-checked.ensures.parts)

pub returns-clause-places : goal.returns-clause-places
returns-clause-places c = c.in_ok-places.ensures ∙ ap text_places c.as_slice.ensures

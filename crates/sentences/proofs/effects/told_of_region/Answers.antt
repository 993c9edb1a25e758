use Rattle.std.proofs.Common.{slice_get, sym, ap, ◌∙◌}
use Rattle.region_table.specs.Program.{ProgramParts}
use Rattle.sentences.proofs.ToldLemmas.{told-of-none}
use Rattle.sentences.proofs.effects.told_of_region.Goals as goal

pub returns-in-None : goal.returns-in-None
returns-in-None c = λ text told. told-of-none text c.args.program.now c.args.task c.args.region (sym (ap (λ (p : ProgramParts). slice_get p.regions c.args.region) c.program.view_is) ∙ sym c.in-None.ensures)

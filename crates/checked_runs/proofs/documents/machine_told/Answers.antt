use Rattle.std.proofs.Common.{IfOk, ap, subst, ◌∙◌}
use Rattle.dn_base.specs.declared.ids.Shape.{Shape}
use Rattle.region_table.specs.Program.{ProgramParts}
use Rattle.dn_machine.specs.Kept.{IsInitialMachine}
use Rattle.checked_runs.specs.Documents.{shape_told}
use Rattle.checked_runs.proofs.documents.machine_told.Goals as goal

pub returns : goal.returns
returns c =
    subst (λ (s : Shape). IfOk c.start.result (IsInitialMachine c.args.checked s c.args.sizes.fuel))
    (c.shape_told-shape.ensures ∙ ap (λ (P : ProgramParts). shape_told P c.args.sizes) c.program.ensures.value) c.start.ensures

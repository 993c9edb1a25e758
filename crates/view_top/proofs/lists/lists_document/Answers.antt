use Rattle.region_table.specs.Program.{ProgramParts}
use Rattle.view_top.specs.declared.documents.KeptRun.{KeptRun}
use Rattle.view_top.specs.Answers.{IsBeside}
use Rattle.view_top.proofs.Kept.{holds-of}
use Rattle.view_top.proofs.lists.lists_document.Goals as goal

pub returns-clause-made : goal.returns-clause-made
returns-clause-made c =
    holds-of c.args.document.now c.in_ok-told.told.kept (λ (P : ProgramParts) (k : KeptRun). IsBeside c.args.which P k.sizes c.args.options.now k.run c.in_ok-printed.field-0) c.in_ok-told.ensures.kept
    c.in_ok-printed.ensures

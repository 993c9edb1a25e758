use Rattle.std.proofs.Common.{◌≡◌, ◌≢◌, Result, Ok, Err, IfOk, IfErr, subst, sym}
use Rattle.region_table.specs.Program.{ProgramParts}
use Rattle.rv_assembler.specs.declared.fault.SourceFault.{SourceFault}
use Rattle.rv_assembler.specs.declared.fault.SourceFault.TheVariants.{Memory}
use Rattle.rv_assembler.proofs.AgreeLemmas.{source-added}
use Rattle.rv_assembler.proofs.assembling.assemble.Goals as goal

pub returns-clause-ok : goal.returns-clause-ok
returns-clause-ok c = subst (λ (v : Result ProgramParts SourceFault). IfOk c.program_by_lines.result (λ p. v ≡ Ok p)) (sym (source-added c.args.text.now)) c.program_by_lines.ensures.ok

pub returns-clause-err : goal.returns-clause-err
returns-clause-err c =
    subst (λ (v : Result ProgramParts SourceFault). IfErr c.program_by_lines.result (λ f. f ≢ Memory → v ≡ Err f)) (sym (source-added c.args.text.now)) c.program_by_lines.ensures.err

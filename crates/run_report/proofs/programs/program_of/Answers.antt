use Rattle.rv_assembler.proofs.DeclaredLemmas.{source-declared}
use Rattle.run_report.proofs.programs.program_of.Goals as goal

pub returns-in-Ok-clause-names : goal.returns-in-Ok-clause-names
returns-in-Ok-clause-names c = source-declared c.args.text.now c.in-Ok.program c.in-Ok.ensures.ok

use Rattle.std.proofs.Common.{arith}
use Rattle.rv_assembler.specs.Source.{readings, sayings}
use Rattle.rv_assembler.proofs.TableLemmas.{code-bound, data-bound}
use Rattle.rv_assembler.proofs.CountLemmas.{few-lines}
use Rattle.rv_assembler.proofs.laws.lines_of_good_form_are_few.Goals as goal

pub returns-clause-lines : goal.returns-clause-lines
returns-clause-lines c = few-lines

pub returns-clause-code : goal.returns-clause-code
returns-clause-code c = λ text. omega (arith, few-lines text, code-bound (sayings (readings text)))

pub returns-clause-data : goal.returns-clause-data
returns-clause-data c = λ text. omega (arith, few-lines text, data-bound (sayings (readings text)))

use Rattle.std.proofs.Common.{[], arith}
use Rattle.rv_assembler.specs.Source.{readings, sayings}
use Rattle.rv_assembler.proofs.CountLemmas.{few-lines}
use Rattle.rv_assembler.proofs.WellFormed.{few-before}
use Rattle.rv_assembler.proofs.laws.what_stands_before_a_line_has_32_bits.Goals as goal

pub returns : goal.returns
returns c = λ text. few-before (sayings (readings text)) [] (omega (arith, few-lines text))

-- How many code words an instruction takes.
use Rattle.std.specs.Prelude.{ℕ}
use Rattle.rv_assembler.specs.declared.statement.Code.{Code}
use Rattle.rv_assembler.specs.declared.statement.Code.TheVariants.{LoadNumber, LoadAddress}

-- `li` and `la` give two code words
abbrev pub code_word_count : Code → ℕ
code_word_count (LoadNumber rd n) = 2
code_word_count (LoadAddress rd n) = 2
code_word_count _ = 1

use Rattle.std.proofs.Common.{rules, refl, sym}
use Rattle.rv_assembler.specs.Shape.{memory_rows, operation_rows, short_rows, directive_rows, later_rows}
use Rattle.rv_assembler.specs.ShapeRow.{rows_from}
use Rattle.rv_assembler.proofs.RowLemmas.{none-other}
use Rattle.rv_assembler.proofs.shape.rows_from.Goals as goal

pub returns-in-46 : goal.returns-in-46
unfolding memory_rows operation_rows short_rows directive_rows later_rows rows_from
returns-in-46 c = rw c.in-46.is refl

pub returns-in-97 : goal.returns-in-97
unfolding memory_rows operation_rows short_rows directive_rows later_rows rows_from
returns-in-97 c = rw c.in-97.is refl

pub returns-in-98 : goal.returns-in-98
unfolding memory_rows operation_rows short_rows directive_rows later_rows rows_from
returns-in-98 c = rw c.in-98.is refl

pub returns-in-101 : goal.returns-in-101
unfolding memory_rows operation_rows short_rows directive_rows later_rows rows_from
returns-in-101 c = rw c.in-101.is refl

pub returns-in-102 : goal.returns-in-102
unfolding memory_rows operation_rows short_rows directive_rows later_rows rows_from
returns-in-102 c = rw c.in-102.is refl

pub returns-in-106 : goal.returns-in-106
unfolding memory_rows operation_rows short_rows directive_rows later_rows rows_from
returns-in-106 c = rw c.in-106.is refl

pub returns-in-108 : goal.returns-in-108
unfolding memory_rows operation_rows short_rows directive_rows later_rows rows_from
returns-in-108 c = rw c.in-108.is refl

pub returns-in-109 : goal.returns-in-109
unfolding memory_rows operation_rows short_rows directive_rows later_rows rows_from
returns-in-109 c = rw c.in-109.is refl

pub returns-in-110 : goal.returns-in-110
unfolding memory_rows operation_rows short_rows directive_rows later_rows rows_from
returns-in-110 c = rw c.in-110.is refl

pub returns-in-111 : goal.returns-in-111
unfolding memory_rows operation_rows short_rows directive_rows later_rows rows_from
returns-in-111 c = rw c.in-111.is refl

pub returns-in-114 : goal.returns-in-114
unfolding memory_rows operation_rows short_rows directive_rows later_rows rows_from
returns-in-114 c = rw c.in-114.is refl

pub returns-in-115 : goal.returns-in-115
unfolding memory_rows operation_rows short_rows directive_rows later_rows rows_from
returns-in-115 c = rw c.in-115.is refl

pub returns-in-120 : goal.returns-in-120
unfolding memory_rows operation_rows short_rows directive_rows later_rows rows_from
returns-in-120 c = rw c.in-120.is refl

pub returns-in_default : goal.returns-in_default
returns-in_default c = sym (none-other c.args.first (search rules))

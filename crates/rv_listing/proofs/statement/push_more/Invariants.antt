use Rattle.std.proofs.Common.{◌≡◌, ◌++◌, drop, map}
use Rattle.rv_listing.specs.Statement.{more_operands, operand_text}
use Rattle.rv_listing.proofs.statement.push_more.Given as goal

abbrev pub invariant-loop-operand : goal.invariant-loop-operand
invariant-loop-operand l =
    l.out.items ++ more_operands (map operand_text (drop l.operand-index l.operands)) ≡ l.fn.out.items ++ more_operands (map operand_text l.operands)

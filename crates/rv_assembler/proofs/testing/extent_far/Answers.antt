use Rattle.std.proofs.Common.{rules}
use Rattle.rv_assembler.proofs.testing.extent_far.Goals as goal

pub returns-in-Part : goal.returns-in-Part
returns-in-Part c = search rules

pub returns-in-Stepped : goal.returns-in-Stepped
returns-in-Stepped c = search rules

pub returns-in-Whole : goal.returns-in-Whole
returns-in-Whole c = search rules

pub returns-in_default : goal.returns-in_default
returns-in_default c = search rules

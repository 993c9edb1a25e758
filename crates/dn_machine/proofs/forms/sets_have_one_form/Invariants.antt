use Rattle.std.proofs.Common.{take}
use Rattle.std.specs.List.{All}
use Rattle.region_table.specs.Words.{IsCanonical}
use Rattle.dn_machine.proofs.forms.sets_have_one_form.Given as goal

abbrev pub invariant-loop-set : goal.invariant-loop-set
invariant-loop-set l = All IsCanonical (take l.set-index l.sets)

use Rattle.std.proofs.Common.{subst}
use Rattle.std.proofs.lemmas.List.Elements.{All-more}
use Rattle.region_table.specs.Words.{IsCanonical}
use Rattle.region_table.proofs.NumberLemmas.{all-taken}
use Rattle.dn_machine.proofs.forms.sets_have_one_form.Goals as goal

pub loop-set-preserved : goal.loop-set-preserved
loop-set-preserved c =
    All-more IsCanonical c.args.sets.now c.loop-set.set-index c.set-item.result c.loop-set-test.true c.loop-set.invariant
    (subst IsCanonical c.set-item.is c.intervals-intervals.ensures.canonical)

pub returns : goal.returns
returns c = all-taken IsCanonical c.loop-set.set-index c.args.sets.now c.loop-set-test.false c.loop-set.invariant

use Rattle.std.proofs.Common.{rules, ◌<◌, length, arith}
use Rattle.sentences.proofs.ToldLemmas.{told-room, told-next}
use Rattle.sentences.proofs.told.told_among.Goals as goal

pub add-requires : goal.add-requires
add-requires c =
    let effects = c.args.effects.now in
    let few : length c.args.effects.now < 18446744073709551616 = search rules in
    told-room c.args.text.now effects c.loop-line.line-index _ c.loop-line.told (omega (arith, c.loop-line-test.true, c.loop-line.auto.line-index-end)) few c.loop-line.invariant

pub loop-line-preserved : goal.loop-line-preserved
loop-line-preserved c =
    told-next c.args.text.now c.args.effects.now c.loop-line.line-index _ c.loop-line.told c.add.new.self (omega (arith, c.loop-line-test.true, c.loop-line.auto.line-index-end))
    c.loop-line.invariant c.in_ok-add.ensures

use Rattle.page_data.proofs.Items.{item-step}
use Rattle.page_data.proofs.lists.push_items.Goals as goal

pub loop-item-preserved : goal.loop-item-preserved
loop-item-preserved g c =
    rw c.in_ok-push_item.ensures (rw c.in_ok-push_gap.ensures (item-step _ c.loop-item.first c.loop-item.out.items c.args.items.now c.loop-item.item-index c.item-item.result _ c.loop-item-test.true c.item-item.is c.loop-item.invariant))

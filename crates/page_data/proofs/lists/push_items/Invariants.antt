use Rattle.std.proofs.Common.{◌≡◌, ◌++◌, drop, true}
use Rattle.page_data.specs.Json.{item_texts}
use Rattle.page_data.proofs.lists.push_items.Given as goal

abbrev pub invariant-loop-item : goal.invariant-loop-item
invariant-loop-item g l = l.out.items ++ item_texts g.T.Item.written l.first (drop l.item-index l.items) ≡ l.fn.out.items ++ item_texts g.T.Item.written true l.items

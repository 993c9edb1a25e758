use Rattle.std.proofs.Common.{rules, is_lt}
use Rattle.std.proofs.lemmas.List.Sorted.{ranks_by, answers_always}
use Rattle.grant_log.specs.Order.{entry_order}
use Rattle.grant_log.proofs.OrderLemmas.{entry_order_total}
use Rattle.grant_log.proofs.log.in_order.Goals as goal

pub returns-clause-sorted : goal.returns-clause-sorted
returns-clause-sorted c = c.in_ok-sort_by.ensures.sorted (λ x y. is_lt (entry_order x y)) (ranks_by entry_order_total (λ e. e)) (answers_always _ _ _ (λ f a r g h. search rules))

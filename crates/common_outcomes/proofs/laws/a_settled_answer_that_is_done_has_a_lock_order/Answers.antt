use Rattle.common_outcomes.proofs.Ranks.{lock_rank, lock-order}
use Rattle.common_outcomes.proofs.laws.a_settled_answer_that_is_done_has_a_lock_order.Goals as goal

pub returns : goal.returns
returns c P fuel common program numbers checked settled done =
    (lock_rank P fuel, lock-order P fuel common (record { program = program; numbers = numbers; checked = checked; answer = settled }) done)

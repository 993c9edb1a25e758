use Rattle.common_outcomes.proofs.Settling.{every-order, never-stuck}
use Rattle.common_outcomes.proofs.laws.every_order_of_grants_has_what_is_common.Goals as goal

pub returns-clause-common : goal.returns-clause-common
returns-clause-common c P fuel common gs e program numbers checked settled ends =
    every-order P fuel common gs e (record { program = program; numbers = numbers; checked = checked; answer = settled }) ends

pub returns-clause-goes_on : goal.returns-clause-goes_on
returns-clause-goes_on c P fuel common gs e program numbers checked settled ends =
    never-stuck P fuel common gs e (record { program = program; numbers = numbers; checked = checked; answer = settled }) ends

use Rattle.std.proofs.Common.{Some, None, sym}
use Rattle.flat_machine.specs.Accesses.{actions_so_far}
use Rattle.claims.specs.Diagnosis.{loads_claimed}
use Rattle.claims.proofs.FirstLoads.{named-first, named-none, same-first}
use Rattle.claims.proofs.diagnosis_laws.the_named_load_is_the_first_that_differs.Goals as goal

pub returns-clause-named : goal.returns-clause-named
returns-clause-named c = λ P claim place right w is.
    named-first (loads_claimed claim.loads) (actions_so_far P claim.question.fuel claim.grants) w (sym (same-first (Some w) _ is))

pub returns-clause-none : goal.returns-clause-none
returns-clause-none c = λ P claim place right is.
    named-none (loads_claimed claim.loads) (actions_so_far P claim.question.fuel claim.grants) (sym (same-first None _ is))

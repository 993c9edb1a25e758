use Rattle.std.proofs.Common.{Some, sym}
use Rattle.flat_machine.specs.Accesses.{actions_so_far}
use Rattle.claims.specs.Diagnosis.{loads_claimed}
use Rattle.claims.proofs.FirstLoads.{named-first, same-first}
use Rattle.claims.proofs.LoadsMade.{load-made, load-line, named-made}
use Rattle.claims.proofs.diagnosis_laws.a_load_is_made_by_the_load_of_its_line.Goals as goal

pub returns-clause-loads : goal.returns-clause-loads
returns-clause-loads c = load-made

pub returns-clause-named : goal.returns-clause-named
returns-clause-named c = λ P claim place right w is.
    named-made P claim.question.fuel claim.grants (loads_claimed claim.loads) w
    (named-first (loads_claimed claim.loads) (actions_so_far P claim.question.fuel claim.grants) w (sym (same-first (Some w) _ is)))

pub returns-clause-line : goal.returns-clause-line
returns-clause-line c = load-line

use Rattle.std.proofs.Common.{length}
use Rattle.claims.proofs.GrantReasons.{refused-illegal, illegal-refused, refused-short, short-refused, grants-refused, refused-grants}
use Rattle.claims.proofs.diagnosis_laws.a_grant_is_at_fault_where_it_is_not_legal.Goals as goal

pub returns-clause-illegal : goal.returns-clause-illegal
returns-clause-illegal c = λ P claim place within. (
  λ h. refused-illegal P claim.question.fuel claim.grants place within (grants-refused P claim place h),
  λ k. refused-grants P claim place (illegal-refused P claim.question.fuel claim.grants place k),
)

pub returns-clause-short : goal.returns-clause-short
returns-clause-short c = λ P claim. (
  λ h. refused-short P claim.question.fuel claim.grants (grants-refused P claim (length claim.grants) h),
  λ k. refused-grants P claim (length claim.grants) (short-refused P claim.question.fuel claim.grants k),
)

pub returns-clause-within : goal.returns-clause-within
returns-clause-within c = λ P claim place h. (grants-refused P claim place h).within

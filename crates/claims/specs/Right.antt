-- Claims that are right.
use Rattle.std.specs.Prelude.{◌≡◌, List, Some}
use Rattle.dn_base.specs.declared.ids.Grant.{Grant}
use Rattle.region_table.specs.Program.{ProgramParts}
use Rattle.flat_machine.specs.declared.ending.FlatEnd.{FlatEnd}
use Rattle.flat_machine.specs.Grants.{IsLeast}
use Rattle.flat_machine.specs.Ending.{flat_end}
use Rattle.flat_machine.specs.Refused.{IsFirstRefused}
use Rattle.run_report.specs.Answer.{answer_of}
use Rattle.claims.specs.declared.claim.Question.{Question}
use Rattle.claims.specs.declared.claim.Claim.{Claim}
use Rattle.claims.specs.declared.right.RightClaim.{RightClaim}
use Rattle.claims.specs.declared.right.RightClaim.TheVariants.{Whole, Refused}

-- the claim of a run whose grants lead to this end
abbrev pub claim_of_run : Question → List Grant → FlatEnd → Claim
claim_of_run q gs e = record { question = q; grants = gs; loads = Some e.loads; answer = answer_of e.ending }

-- the claim of the run by these grants, with all its loads
pub record IsRightClaim (P : ProgramParts) (q : Question) (gs : List Grant) (c : Claim) : Type 0 where
  pub end' : FlatEnd
  pub run : flat_end P q.fuel gs ≡ Some end'
  pub is : c ≡ claim_of_run q gs end'

-- the result of a list of grants: a claim, or the first grant that isn't legal
abbrev pub IsRightBy : ProgramParts → Question → List Grant → RightClaim → Type 0
IsRightBy P q gs (Whole c) = IsRightClaim P q gs c
IsRightBy P q gs (Refused place) = IsFirstRefused P q.fuel gs place

-- the claim of the run by the least list of grants
pub record IsLeastClaim (P : ProgramParts) (q : Question) (c : Claim) : Type 0 where
  pub least : IsLeast P q.fuel c.grants
  pub right : IsRightClaim P q c.grants c

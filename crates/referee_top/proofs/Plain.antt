-- What a claim tells beside a question and an answer is refused with a line.
use Rattle.std.proofs.Common.{◌≡◌, ◌≢◌, ◌∙◌, List, [], ◌∷◌, Option, Some, None}
use Rattle.std.proofs.lemmas.Option.{none-some, same_Some}
use Rattle.dn_base.specs.declared.ids.Grant.{Grant as GrantOf}
use Rattle.flat_machine.specs.declared.ending.TaskLoads.{TaskLoads}
use Rattle.claims.specs.declared.claim.ClaimFault.{ClaimFault}
use Rattle.claims.specs.declared.claim.ClaimFault.TheVariants.{Grant as NoGrant, Loads as NoLoads, Memory as NoMemory}
use Rattle.referee_top.specs.Answers.{surplus_of}

grant-is : (f : ClaimFault) → NoGrant 0 ≡ f → f ≢ NoMemory
grant-is f is memory = let bad : NoGrant 0 ≡ NoMemory = is ∙ memory in cc

loads-are : (f : ClaimFault) → NoLoads ≡ f → f ≢ NoMemory
loads-are f is memory = let bad : NoLoads ≡ NoMemory = is ∙ memory in cc

-- it isn't out of memory, so that there is a line
pub has-line : (gs : List GrantOf) (loads : Option (List TaskLoads)) (f : ClaimFault) → surplus_of gs loads ≡ Some f → f ≢ NoMemory
has-line (g ∷ gs) loads f is = grant-is f (same_Some (NoGrant 0) f is)
has-line [] (Some tasks) f is = loads-are f (same_Some NoLoads f is)
has-line [] None f is = absurd (none-some f is)

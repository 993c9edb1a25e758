use Rattle.std.proofs.Common.{length, subst}
use Rattle.std.proofs.lemmas.Result.{IfOk-weaker}
use Rattle.host_workers.specs.Rosters.{RosterParts, IsRoster, AreCrewsOf, IsTakenApart}
use Rattle.host_workers.proofs.finishing.gather.Goals as goal

pub returns : goal.returns
returns c =
    IfOk-weaker c.part.result _ (λ p. (roster : RosterParts) → IsRoster c.args.shape.cores c.args.shape.banks roster → AreCrewsOf (length c.args.crews.items) roster c.args.crews.items → IsTakenApart roster p)
    (λ p apart roster whole crews. subst (λ (r : RosterParts). IsTakenApart r p) (c.in_ok-roster.ensures roster whole crews) apart)
    c.part.ensures

use Rattle.std.proofs.lemmas.Result.{IfOk-weaker}
use Rattle.host_workers.specs.Rosters.{RosterParts, roster_of, IsFreshRoster, AreCrewsOf}
use Rattle.host_workers.proofs.opening.crews_of_round.Goals as goal

pub returns : goal.returns
returns c =
    IfOk-weaker c.deal.result _ (λ crews. (roster : RosterParts) × IsFreshRoster c.args.nodes.items c.args.banks c.args.next.now roster × AreCrewsOf c.args.workers roster crews.items)
    (λ crews are. (roster_of c.in_ok-roster.roster, c.in_ok-roster.ensures, are))
    c.deal.ensures

use Rattle.std.proofs.Common.{◌≡◌, [], length, sym, ◌∙◌, subst}
use Rattle.host_workers.specs.Rosters.{RosterParts, AreCrewsOf}
use Rattle.host_workers.proofs.Dealing.{nothing}
use Rattle.host_workers.proofs.roster.Roster.deal.Goals as goal

pub returns : goal.returns
returns c =
    let keeper = c.args.self.keeper.items in
    let begun = c.in_ok-crews.ensures in
    let no_banks : RosterParts = record { cores = c.args.self.cores.items; banks = []; keeper = keeper } in
    let cores = c.in_ok-deal_cores.ensures.dealt (nothing keeper) (subst (λ n. AreCrewsOf n (nothing keeper) c.in_ok-crews.crews.items) (sym begun.count) begun) in
    let count : length c.deal_cores.new.crews.items ≡ length c.in_ok-crews.crews.items = c.in_ok-deal_cores.ensures.count in
    let banks = c.in_ok-deal_banks.ensures.dealt no_banks (subst (λ n. AreCrewsOf n no_banks c.deal_cores.new.crews.items) (sym count) cores) in
    subst (λ n. AreCrewsOf n (record no_banks { banks = c.args.self.banks.items }) c.deal_banks.new.crews.items) (count ∙ begun.count) banks

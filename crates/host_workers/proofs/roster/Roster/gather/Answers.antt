use Rattle.std.proofs.Common.{[], length, sym, ap, ◌∙◌, refl, subst, arith}
use Rattle.std.specs.Option.{is_some}
use Rattle.std.proofs.lemmas.Option.{slice_get_read, same_Some}
use Rattle.host_workers.specs.Rosters.{RosterParts, AreCrewsOf}
use Rattle.host_workers.proofs.Dealing.{no-cores, all-gathered, first-keeper, some-mapped, nothing}
use Rattle.host_workers.proofs.roster.Roster.gather.Goals as goal

pub gather_banks-requires-clause-dealt : goal.gather_banks-requires-clause-dealt
gather_banks-requires-clause-dealt c =
    let given = c.requires.dealt in
    let rest : RosterParts = record given.0 { cores = [] } in
    let one = c.in_ok-cores.ensures.gathered given.0 c.args.banks given.1 given.2 in
    (0, (rest, no-cores c.args.cores c.args.banks given.0 given.1, subst (λ n. AreCrewsOf n rest c.gather_cores.new.crews.items) (sym c.in_ok-cores.ensures.count) one.1))

pub unwrap-keeper-requires : goal.unwrap-keeper-requires
unwrap-keeper-requires c =
    let given = c.requires.dealt in
    let n = length c.args.crews.items in
    let left = all-gathered c.args.cores c.args.banks n given.0 c.args.crews.items c.gather_cores.new.crews.items c.gather_banks.new.crews.items c.in_ok-cores.cores.items c.in_ok-banks.banks.items given.1 given.2 c.in_ok-cores.ensures.count c.in_ok-cores.ensures.gathered c.in_ok-banks.ensures.gathered in
    let count = left.2.count in
    let there = slice_get_read c.gather_banks.new.crews.items n 0 c.index_mut.result.now (sym count) (omega arith) c.index_mut.ensures.value in
    let log = some-mapped _ c.index_mut.result.now.keeper given.0.keeper (first-keeper n (nothing given.0.keeper) c.gather_banks.new.crews.items c.index_mut.result.now left.2 there) in
    ap is_some (c.take.ensures.value ∙ log.1)

pub returns : goal.returns
returns c = λ roster is are.
    let n = length c.args.crews.items in
    let left = all-gathered c.args.cores c.args.banks n roster c.args.crews.items c.gather_cores.new.crews.items c.gather_banks.new.crews.items c.in_ok-cores.cores.items c.in_ok-banks.banks.items is are c.in_ok-cores.ensures.count c.in_ok-cores.ensures.gathered c.in_ok-banks.ensures.gathered in
    let count = left.2.count in
    let there = slice_get_read c.gather_banks.new.crews.items n 0 c.index_mut.result.now (sym count) (omega arith) c.index_mut.ensures.value in
    let log = some-mapped _ c.index_mut.result.now.keeper roster.keeper (first-keeper n (nothing roster.keeper) c.gather_banks.new.crews.items c.index_mut.result.now left.2 there) in
    let same = same_Some c.unwrap-keeper.result log.0 (sym c.unwrap-keeper.ensures ∙ (c.take.ensures.value ∙ log.1)) in
    rw (left.0, left.1, same, log.2) refl

use Rattle.std.proofs.Common.{◌≡◌, ◌<◌, ◌%◌, length, slice_get, Some, refl, sym, ap, ◌∙◌, subst, arith, map-id}
use Rattle.std.proofs.lemmas.Option.{slice_get_read}
use Rattle.std.proofs.lemmas.Iterator.Consumers.{YieldsList-end}
use Rattle.std.proofs.lemmas.Iterator.Adapters.{YieldsList-from_vec}
use Rattle.run_agreement.proofs.Places.{set-length}
use Rattle.host_workers.specs.declared.crew.Crew.{Crew}
use Rattle.host_workers.specs.Rosters.{AreCrewsOf}
use Rattle.host_workers.proofs.Dealing.{bank-dealt}
use Rattle.host_workers.proofs.roster.deal_banks.Goals as goal

pub loop-owned-preserved : goal.loop-owned-preserved
loop-owned-preserved c =
    let had = c.loop-owned.invariant in
    let owned = c.in-Some.owned in
    let was = c.index_mut.result.now in
    let same : length c.args.crews.now.items ≡ c.len.result = omega arith in
    let within : owned.bank.0 % c.len.result < length c.loop-owned.crews.items = omega arith in
    let there : slice_get c.loop-owned.crews.items (owned.bank.0 % c.len.result) ≡ Some was = slice_get_read c.loop-owned.crews.items (length c.loop-owned.crews.items) (owned.bank.0 % c.len.result) was refl within c.index_mut.ensures.value in
    let now : Crew = record was { banks = c.push.new.self } in
    record {
      count = set-length c.loop-owned.crews.items (owned.bank.0 % c.len.result) now ∙ had.count;
      dealt = λ roster are.
          bank-dealt (length c.args.crews.now.items) (record roster { banks = c.loop-owned.yielded }) c.loop-owned.crews.items (owned.bank.0 % c.len.result) owned was now (had.dealt roster are) there (ap (λ n. owned.bank.0 % n) same) refl refl c.in_ok-push.ensures.items refl;
    }

pub returns-clause-dealt : goal.returns-clause-dealt
returns-clause-dealt c = λ roster are.
    let gives = c.into_iter-owned-iterator.ensures.into_iter_gives in
    let whole = YieldsList-end (YieldsList-from_vec {s = c.into_iter-owned-iterator.result} c.args.banks.items gives.0 (gives.1 ∙ c.args.banks.ok.0)) c.loop-owned.yielded c.loop-owned.owned-iterator c.loop-owned.yielded_by c.next.result c.next.new.self c.in-None.is c.next.ensures.steps in
    let all : c.loop-owned.yielded ≡ c.args.banks.items = sym (map-id c.loop-owned.yielded) ∙ whole.0 in
    subst (λ l. AreCrewsOf (length c.args.crews.now.items) (record roster { banks = l }) c.loop-owned.crews.items) all (c.loop-owned.invariant.dealt roster are)

use Rattle.std.proofs.Common.{◌≡◌, ◌∷◌, [], ◌++◌, map, sym, ap, ◌∙◌, map-id}
use Rattle.std.proofs.lemmas.Iterator.Consumers.{YieldsList-end}
use Rattle.std.proofs.lemmas.Iterator.Adapters.{YieldsList-from_vec}
use Rattle.std.proofs.lemmas.List.{map_push}
use Rattle.host_workers.specs.Rosters.{node_of, next_of, core_log, core_ends}
use Rattle.host_workers.proofs.roster.part_cores.Goals as goal

pub loop-owned-preserved : goal.loop-owned-preserved
loop-owned-preserved c =
    let had = c.loop-owned.invariant in
    let owned = c.in-Some.owned in
    let before = c.loop-owned.yielded in
    let added = c.in_ok-add.ensures in record {
      nodes = added.nodes ∙ (ap (λ l. l ++ node_of owned ∷ []) had.nodes ∙ sym (map_push node_of before owned));
      next = added.next ∙ (ap (λ l. l ++ next_of owned ∷ []) had.next ∙ sym (map_push next_of before owned));
      ends = added.ends ∙ (ap (λ l. l ++ core_ends owned ∷ []) had.ends ∙ sym (map_push core_ends before owned));
      logs = added.logs ∙ (ap (λ l. l ++ core_log owned ∷ []) had.logs ∙ sym (map_push core_log before owned));
    }

pub returns-clause-nodes : goal.returns-clause-nodes
returns-clause-nodes c =
    let gives = c.into_iter-owned-iterator.ensures.into_iter_gives in
    let whole = YieldsList-end (YieldsList-from_vec {s = c.into_iter-owned-iterator.result} c.args.cores.items gives.0 (gives.1 ∙ c.args.cores.ok.0)) c.loop-owned.yielded c.loop-owned.owned-iterator c.loop-owned.yielded_by c.next.result c.next.new.self c.in-None.is c.next.ensures.steps in
    let all : c.loop-owned.yielded ≡ c.args.cores.items = sym (map-id c.loop-owned.yielded) ∙ whole.0 in
    c.loop-owned.invariant.nodes ∙ ap (map node_of) all

pub returns-clause-next : goal.returns-clause-next
returns-clause-next c =
    let gives = c.into_iter-owned-iterator.ensures.into_iter_gives in
    let whole = YieldsList-end (YieldsList-from_vec {s = c.into_iter-owned-iterator.result} c.args.cores.items gives.0 (gives.1 ∙ c.args.cores.ok.0)) c.loop-owned.yielded c.loop-owned.owned-iterator c.loop-owned.yielded_by c.next.result c.next.new.self c.in-None.is c.next.ensures.steps in
    let all : c.loop-owned.yielded ≡ c.args.cores.items = sym (map-id c.loop-owned.yielded) ∙ whole.0 in
    c.loop-owned.invariant.next ∙ ap (map next_of) all

pub returns-clause-ends : goal.returns-clause-ends
returns-clause-ends c =
    let gives = c.into_iter-owned-iterator.ensures.into_iter_gives in
    let whole = YieldsList-end (YieldsList-from_vec {s = c.into_iter-owned-iterator.result} c.args.cores.items gives.0 (gives.1 ∙ c.args.cores.ok.0)) c.loop-owned.yielded c.loop-owned.owned-iterator c.loop-owned.yielded_by c.next.result c.next.new.self c.in-None.is c.next.ensures.steps in
    let all : c.loop-owned.yielded ≡ c.args.cores.items = sym (map-id c.loop-owned.yielded) ∙ whole.0 in
    c.loop-owned.invariant.ends ∙ ap (map core_ends) all

pub returns-clause-logs : goal.returns-clause-logs
returns-clause-logs c =
    let gives = c.into_iter-owned-iterator.ensures.into_iter_gives in
    let whole = YieldsList-end (YieldsList-from_vec {s = c.into_iter-owned-iterator.result} c.args.cores.items gives.0 (gives.1 ∙ c.args.cores.ok.0)) c.loop-owned.yielded c.loop-owned.owned-iterator c.loop-owned.yielded_by c.next.result c.next.new.self c.in-None.is c.next.ensures.steps in
    let all : c.loop-owned.yielded ≡ c.args.cores.items = sym (map-id c.loop-owned.yielded) ∙ whole.0 in
    c.loop-owned.invariant.logs ∙ ap (map core_log) all

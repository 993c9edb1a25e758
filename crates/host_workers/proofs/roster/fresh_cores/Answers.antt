use Rattle.std.proofs.Common.{◌≡◌, ℕ, ◌+◌, [], ◌∷◌, ◌++◌, length, map, slice_get, slice_index, Some, option_map, sym, ap, ◌∙◌, subst, map-id}
use Rattle.std.proofs.lemmas.Iterator.Consumers.{YieldsList-end}
use Rattle.std.proofs.lemmas.Iterator.Adapters.{YieldsList-from_vec}
use Rattle.std.proofs.lemmas.List.{length-map, length_push, map_push}
use Rattle.std.proofs.lemmas.Option.{slice_get-map}
use Rattle.host_workers.specs.declared.owned.Owned.{Owned}
use Rattle.host_workers.specs.Rosters.{node_of}
use Rattle.host_workers.proofs.Dealing.{each-push}
use Rattle.host_workers.proofs.roster.fresh_cores.Goals as goal

pub loop-node-preserved : goal.loop-node-preserved
loop-node-preserved c =
    let had = c.loop-node.invariant in
    let one = c.fresh_core-owned.result in
    let is = c.fresh_core-owned.ensures in
    let items = c.in_ok-push.ensures.items in
    let place : c.loop-node.number ≡ length c.loop-node.cores.items = had.count ∙ (ap length (sym had.nodes) ∙ length-map c.loop-node.cores.items node_of) in
    record {
      count = ap (λ n. n + 1) had.count ∙ sym (length_push c.loop-node.yielded c.in-Some.node);
      nodes = ap (map node_of) items ∙ (map_push node_of c.loop-node.cores.items one ∙ (ap (λ l. l ++ one.node ∷ []) had.nodes ∙ ap (λ n. c.loop-node.yielded ++ n ∷ []) is.node));
      each = λ i o there.
          each-push (λ (k : ℕ) (p : Owned). (p.core.0 ≡ k) × (p.next ≡ slice_index c.args.next.now k) × (p.clock ≡ 0) × (p.log.items ≡ []) × (p.ends.items ≡ []))
          c.loop-node.cores.items one had.each
          (is.core ∙ place, is.next ∙ ap (λ k. slice_index c.args.next.now k) place, is.clock, is.log, is.ends)
          i o (subst (λ l. slice_get l i ≡ Some o) items there);
    }

pub returns-clause-count : goal.returns-clause-count
returns-clause-count c =
    let had = c.loop-node.invariant in
    let gives = c.into_iter-node-iterator.ensures.into_iter_gives in
    let whole = YieldsList-end (YieldsList-from_vec {s = c.into_iter-node-iterator.result} c.args.nodes.items gives.0 (gives.1 ∙ c.args.nodes.ok.0)) c.loop-node.yielded c.loop-node.node-iterator c.loop-node.yielded_by c.next.result c.next.new.self c.in-None.is c.next.ensures.steps in
    let all : map node_of c.loop-node.cores.items ≡ c.args.nodes.items = had.nodes ∙ (sym (map-id c.loop-node.yielded) ∙ whole.0) in
    sym (length-map c.loop-node.cores.items node_of) ∙ ap length all

pub returns-clause-places : goal.returns-clause-places
returns-clause-places c = λ i o there. (c.loop-node.invariant.each i o there).0

pub returns-clause-fresh : goal.returns-clause-fresh
returns-clause-fresh c = λ i o there.
    let had = c.loop-node.invariant in
    let gives = c.into_iter-node-iterator.ensures.into_iter_gives in
    let whole = YieldsList-end (YieldsList-from_vec {s = c.into_iter-node-iterator.result} c.args.nodes.items gives.0 (gives.1 ∙ c.args.nodes.ok.0)) c.loop-node.yielded c.loop-node.node-iterator c.loop-node.yielded_by c.next.result c.next.new.self c.in-None.is c.next.ensures.steps in
    let all : map node_of c.loop-node.cores.items ≡ c.args.nodes.items = had.nodes ∙ (sym (map-id c.loop-node.yielded) ∙ whole.0) in
    let each = had.each i o there in
    record {
      node = ap (λ l. slice_get l i) (sym all) ∙ (slice_get-map node_of c.loop-node.cores.items i ∙ ap (λ q. option_map node_of q) there);
      next_is = each.1;
      clock = each.2;
      log = each.3;
      ends = each.4;
    }

use Rattle.std.proofs.Common.{rules, ◌≡◌, ◌++◌, ℕ, List, length, map, sym, ap, ◌∙◌, subst}
use Rattle.std.specs.Prelude.{option_to_list}
use Rattle.host_workers.specs.declared.end_seen.EndSeen.{EndSeen}
use Rattle.host_workers.specs.Ends.{left_of}
use Rattle.host_workers.proofs.EndsLeft.{IsOnTheWay, begins, entry-more, ended, zeros, written-back}
use Rattle.host_workers.proofs.ends.ends_in.Goals.{in-Some+in_ok-push, in_default}
use Rattle.host_workers.proofs.ends.ends_in.Goals as goal

pub loop-entry-init : goal.loop-entry-init
loop-entry-init c =
    let ends : List (List EndSeen) = map (λ e. e.items) c.args.ends.now in
    let done = c.in_ok-done.ensures.items_if_clones_equal (λ y is. is) in
    record {
      long = search rules;
      way = λ told are. rw (c.new-out.ensures.items) (begins c.args.merged.now ends c.in_ok-done.done.items told (λ core. rw done (zeros _ core)) are);
    }

pub loop-entry-preserved : goal.loop-entry-preserved
loop-entry-preserved c =
    let ends : List (List EndSeen) = map (λ e. e.items) c.args.ends.now in
    let value = c.as_mut_slice.ensures.value in
    let whole : length c.loop-entry.done.items ≡ c.loop-entry.done.len = sym (ap (λ (xs : List ℕ). length xs) value) ∙ c.as_mut_slice.ensures.len in
    let back = written-back c.take_end.new.done c.loop-entry.done.items c.loop-entry.done.len (c.take_end.ensures.long ∙ c.as_mut_slice.ensures.len) whole in
    let outs : c.match-take_end.out.items ≡ c.loop-entry.out.items ++ option_to_list c.take_end.result =
    elim c.match-take_end.branch [ in-Some+in_ok-push w ↦ search rules | in_default w ↦ search rules ] in
    record {
      long = ap (λ (xs : List ℕ). length xs) back ∙ (c.take_end.ensures.long ∙ (ap (λ (xs : List ℕ). length xs) value ∙ c.loop-entry.invariant.long));
      way = λ told are.
          rw back
          (entry-more c.args.merged.now ends (left_of ends c.as_mut_slice.result.now) (left_of ends c.take_end.new.done) told c.loop-entry.entry-index _ c.loop-entry.out.items c.match-take_end.out.items c.take_end.result
          are c.loop-entry-test.true c.take_end.ensures.end c.take_end.ensures.left outs
          (subst (λ (xs : List ℕ). IsOnTheWay ends (left_of ends xs) told c.loop-entry.entry-index c.loop-entry.out.items) (sym value) (c.loop-entry.invariant.way told are)));
    }

pub returns : goal.returns
returns c =
    let ends : List (List EndSeen) = map (λ e. e.items) c.args.ends.now in
    λ told are. ended c.args.merged.now ends (left_of ends c.loop-entry.done.items) told c.loop-entry.entry-index c.loop-entry.out.items (search rules) are (c.loop-entry.invariant.way told are)

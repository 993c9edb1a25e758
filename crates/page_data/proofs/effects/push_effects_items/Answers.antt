use Rattle.std.proofs.Common.{◌≡◌, ℕ, Bool, true, ◌++◌, ◌+◌, List, drop, length, slice_get, Some, refl, ap, sym, ◌∙◌, arith}
use Rattle.std.proofs.lemmas.Option.{slice_get_read}
use Rattle.region_table.specs.declared.declared.Phase.{Phase}
use Rattle.region_table.specs.declared.declared.TaskDecl.{TaskDecl}
use Rattle.run_changes.proofs.Listed.{goes_on, drop_there}
use Rattle.page_data.specs.Data.{effects_item, effects_items, is_still_first}
use Rattle.page_data.specs.Json.{item_texts}
use Rattle.page_data.proofs.effects.push_effects_items.Goals as goal

pub loop-phase-preserved : goal.loop-phase-preserved
loop-phase-preserved c =
    let phases = c.args.phases.now in
    let index = c.loop-phase.phase-index in
    let number = c.loop-phase.number in
    let first = c.loop-phase.first in
    let p = c.phase-item.result in
    let there : slice_get phases index ≡ Some p = slice_get_read phases (length phases) index p refl (omega (arith, c.loop-phase-test.true, c.loop-phase.auto.phase-index-end)) c.phase-item.is in
    let added : List ℕ = item_texts (effects_item number) first p.tasks in
    let left : List Phase = drop (index + 1) phases in
    record {
      number = omega (arith, c.loop-phase.invariant.number);
      so_far = goes_on c.loop-phase.out.items c.push_tasks.new.out.items added (effects_items first number (drop index phases)) (effects_items c.is_still_first-first.result (number + 1) left)
          (c.args.out.now.items ++ effects_items true 0 phases)
          (c.in_ok-push_tasks.ensures ∙ ap (λ (ts : List TaskDecl). c.loop-phase.out.items ++ item_texts (effects_item number) first ts) c.as_slice-tasks.ensures)
          (ap (λ (l : List Phase). effects_items first number l) (drop_there phases index p there)
          ∙ ap (λ (b : Bool). added ++ effects_items b (number + 1) left) (sym (c.is_still_first-first.ensures ∙ ap (λ (ts : List TaskDecl). is_still_first first ts) c.as_slice-tasks.ensures))) c.loop-phase.invariant.so_far;
    }

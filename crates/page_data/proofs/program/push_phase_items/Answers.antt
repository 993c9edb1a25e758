use Rattle.std.proofs.Common.{◌≡◌, ℕ, true, false, ◌++◌, ◌+◌, List, drop, length, slice_get, Some, refl, ap, sym, ◌∙◌, arith}
use Rattle.std.proofs.lemmas.List.{append_assoc}
use Rattle.std.proofs.lemmas.Option.{slice_get_read}
use Rattle.region_table.specs.declared.declared.Phase.{Phase}
use Rattle.run_changes.proofs.Listed.{goes_on, drop_there}
use Rattle.page_data.specs.Json.{gap}
use Rattle.page_data.specs.Program.{phase_object, phase_objects}
use Rattle.page_data.proofs.program.push_phase_items.Goals as goal

pub loop-phase-preserved : goal.loop-phase-preserved
loop-phase-preserved c =
    let phases = c.args.phases.now in
    let plans = c.args.plans.now in
    let index = c.loop-phase.phase-index in
    let number = c.loop-phase.number in
    let first = c.loop-phase.first in
    let p = c.phase-item.result in
    let there : slice_get phases index ≡ Some p = slice_get_read phases (length phases) index p refl (omega (arith, c.loop-phase-test.true, c.loop-phase.auto.phase-index-end)) c.phase-item.is in
    let object : List ℕ = phase_object p (slice_get plans number) in
    let rest : List ℕ = phase_objects false plans (number + 1) (drop (index + 1) phases) in
    record {
      number = omega (arith, c.loop-phase.invariant.number);
      so_far = goes_on c.loop-phase.out.items c.push_phase.new.out.items (gap first ++ object) (phase_objects first plans number (drop index phases)) rest (c.args.out.now.items ++ phase_objects true plans 0 phases)
          (c.in_ok-push_phase.ensures ∙ ap (λ (l : List ℕ). l ++ object) c.in_ok-push_gap.ensures ∙ append_assoc c.loop-phase.out.items (gap first) object)
          (ap (λ (l : List Phase). phase_objects first plans number l) (drop_there phases index p there) ∙ sym (append_assoc (gap first) object rest)) c.loop-phase.invariant.so_far;
    }

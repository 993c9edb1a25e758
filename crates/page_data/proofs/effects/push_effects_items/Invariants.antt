use Rattle.std.proofs.Common.{◌≡◌, ◌++◌, drop, true}
use Rattle.page_data.specs.Data.{effects_items}
use Rattle.page_data.proofs.effects.push_effects_items.Given as goal

abbrev pub invariant-loop-phase : goal.invariant-loop-phase
invariant-loop-phase l =
    record {
      number : l.number ≡ l.phase-index;
      so_far : l.out.items ++ effects_items l.first l.number (drop l.phase-index l.phases) ≡ l.fn.out.items ++ effects_items true 0 l.phases;
    }

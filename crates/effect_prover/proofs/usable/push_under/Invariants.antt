use Rattle.std.proofs.Common.{◌≡◌, ℕ, ◌||◌, take}
use Rattle.std.specs.List.{All}
use Rattle.region_table.specs.Words.{has}
use Rattle.rv_core.specs.Access.{under}
use Rattle.effect_prover.specs.Stretch.{HasWord}
use Rattle.effect_prover.proofs.usable.push_under.Given as goal

abbrev pub invariant-loop-lock : goal.invariant-loop-lock
invariant-loop-lock l =
    record {
      some : All HasWord l.intervals.items;
      words : (w : ℕ) → has l.intervals.items w ≡ (has l.fn.intervals.items w || under (take l.lock l.sets) 0 l.held w);
    }

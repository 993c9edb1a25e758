use Rattle.std.proofs.Common.{◌≡◌, ℕ, suc, ◌+◌, ◌-◌, List, ◌++◌, Option, ◌∙◌, arith}
use Rattle.std.specs.Option.{option_to_list}
use Rattle.std.specs.List.{filter_map, range_with_len}
use Rattle.rv_assembler.specs.ClaimRows.{core_task_by_rows}
use Rattle.rv_assembler.proofs.LoopLemmas.{one-more}
use Rattle.rv_assembler.proofs.finishing.phase_of.Goals as goal

core-step : {X : Type 0} (f : ℕ → Option X) (done : List X) (a n k : ℕ) (all : List X) → n ≡ suc k → done ++ filter_map f (range_with_len a n) ≡ all → (done ++ option_to_list (f a)) ++ filter_map f (range_with_len (a + 1) k) ≡ all
core-step f done a n k all e h =
    let s : done ++ filter_map f (range_with_len a (suc k)) ≡ all = rw e at h in one-more done (filter_map f (range_with_len (a + 1) k)) (f a) ∙ s

pub loop-core-preserved : goal.loop-core-preserved
loop-core-preserved c =
    rw (c.in_ok-push_task.ensures, c.task_on.ensures)
    (core-step (core_task_by_rows c.args.locks c.args.rows.now c.args.tasks.now c.args.number) c.loop-core.found c.loop-core.core (16 - c.loop-core.core) (16 - (c.loop-core.core + 1)) _ (omega arith) c.loop-core.invariant)

use Rattle.std.proofs.Common.{◌≡◌, ◌<◌, ℕ, take, length}
use Rattle.std.specs.List.{list_any}
use Rattle.region_table.specs.declared.declared.TaskDecl.{TaskDecl}
use Rattle.common_outcomes.specs.Alone.{writes_elsewhere}
use Rattle.outcomes_top.specs.Marks.{mark_of, is_of_other}
use Rattle.outcomes_top.proofs.marks.mark_all.Given as goal

abbrev pub invariant-loop-task : goal.invariant-loop-task
invariant-loop-task l = record {
  words : length l.marks ≡ length l.initial.marks;
  tell : (d : TaskDecl) (w : ℕ) → d.core.0 < 16 → is_of_other (mark_of l.marks w) d.core.0 ≡ list_any (writes_elsewhere d w) (take l.task-index l.task-items);
}

use Rattle.std.proofs.Common.{ℕ, [], get_or}
use Rattle.region_table.specs.Words.{has}
use Rattle.effect_checker.specs.Checked.{lock_guards}
use Rattle.effect_checker.proofs.LeastLemmas.{least_left, least_in_sequence}
use Rattle.effect_checker.proofs.least.task_twice_guarded_word.Goals as goal

pub returns : goal.returns
returns c =
    let effects = c.args.task.now.effects in
    let second = λ (w : ℕ). lock_guards c.args.tasks.now c.args.second w in
    let first = c.args.first in
    least_left (λ w. has (get_or effects.guarded_reads first []) w) (λ w. has (get_or effects.guarded_writes first []) w) second c.set_guarded_word.result c.set_guarded_word-2.result c.lesser.result
    c.lesser.ensures
    (least_in_sequence c.as_slice.result.now effects.guarded_reads second first c.set_guarded_word.result c.as_slice.ensures c.set_guarded_word.ensures)
    (least_in_sequence c.as_slice-2.result.now effects.guarded_writes second first c.set_guarded_word-2.result c.as_slice-2.ensures c.set_guarded_word-2.ensures)

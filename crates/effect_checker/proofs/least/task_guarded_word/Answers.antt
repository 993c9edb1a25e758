use Rattle.std.proofs.Common.{ℕ, [], get_or}
use Rattle.region_table.specs.Words.{has}
use Rattle.effect_checker.proofs.LeastLemmas.{least_left, least_in_sequence}
use Rattle.effect_checker.proofs.least.task_guarded_word.Goals as goal

pub returns : goal.returns
returns c =
    let effects = c.args.task.now.effects in
    let set = λ (w : ℕ). has c.args.set.now w in
    let lock = c.args.lock in
    least_left (λ w. has (get_or effects.guarded_reads lock []) w) (λ w. has (get_or effects.guarded_writes lock []) w) set c.word_by_lock.result c.word_by_lock-2.result c.lesser.result
    c.lesser.ensures
    (least_in_sequence c.as_slice.result.now effects.guarded_reads set lock c.word_by_lock.result c.as_slice.ensures c.word_by_lock.ensures)
    (least_in_sequence c.as_slice-2.result.now effects.guarded_writes set lock c.word_by_lock-2.result c.as_slice-2.ensures c.word_by_lock-2.ensures)

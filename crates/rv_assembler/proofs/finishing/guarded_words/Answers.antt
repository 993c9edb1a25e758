use Rattle.std.proofs.Common.{◌+◌, ◌-◌, arith}
use Rattle.rv_assembler.specs.ClaimRows.{guarded_by_rows}
use Rattle.rv_assembler.proofs.LoopLemmas.{map_step}
use Rattle.rv_assembler.proofs.finishing.guarded_words.Goals as goal

pub loop-lock-preserved : goal.loop-lock-preserved
loop-lock-preserved c =
    rw (c.in_ok-push.ensures.ok, c.in_ok-words_of.ensures, c.under_lock.ensures)
    (map_step (guarded_by_rows c.args.rows.now c.args.task c.args.writes) c.loop-lock.sets c.loop-lock.lock (c.args.locks - c.loop-lock.lock) (c.args.locks - (c.loop-lock.lock + 1)) _ (omega arith) c.loop-lock.invariant)

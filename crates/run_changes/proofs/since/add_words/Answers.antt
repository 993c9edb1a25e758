use Rattle.std.proofs.Common.{arith}
use Rattle.run_changes.proofs.Listed.{word_read}
use Rattle.run_changes.proofs.since.add_words.Goals as goal

pub loop-first-preserved : goal.loop-first-preserved
loop-first-preserved c =
    record {
      word = omega (arith, c.loop-first.invariant.word);
      so_far =
          rw c.in_ok-add_word.ensures
          (word_read c.args.machine.now.state c.loop-first.out c.loop-first.word c.args.memory.now c.loop-first.first-index _ _ c.loop-first-test.true c.loop-first.invariant.so_far);
    }

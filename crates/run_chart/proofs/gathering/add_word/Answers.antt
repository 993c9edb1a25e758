use Rattle.std.proofs.Common.{length, arith}
use Rattle.run_chart.proofs.Gathered.{word-added}
use Rattle.run_chart.proofs.gathering.add_word.Goals as goal

pub returns-in_ok-push : goal.returns-in_ok-push
returns-in_ok-push c =
    rw c.in_ok-push.ensures.items
    (word-added (length c.args.program.now.memory) c.args.word.0 c.args.words.now.items (omega (arith, c.if-word-words_of.true, c.words_of.ensures)))

use Rattle.std.proofs.Common.{arith}
use Rattle.sweep_top.specs.Kept.{counted_answers}
use Rattle.sweep_top.proofs.Tallies.{within-raised}
use Rattle.sweep_top.proofs.tally.Tally.add.Goals as goal

pub count_answer-requires : goal.count_answer-requires
count_answer-requires c =
    within-raised c.args.self.now.runs 4294967294 (counted_answers c.args.self.now.answers.entries) (omega (arith, c.requires.runs)) c.requires.within.answers

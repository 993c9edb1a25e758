use Rattle.std.proofs.Common.{ap}
use Rattle.referee_top.specs.Answers.{Reply}
use Rattle.referee_top.proofs.SettledLaws.{run-said}
use Rattle.referee_top.proofs.settled_laws.no_run_has_an_answer_that_differs.Goals as goal

pub returns : goal.returns
returns c = λ document claim P common gs e out is assembles checked settled answered differs ends same.
    differs (ap (λ (o : Reply). o.status) (run-said document claim P common gs e out is assembles checked settled ends same answered))

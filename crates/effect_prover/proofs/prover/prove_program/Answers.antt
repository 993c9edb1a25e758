use Rattle.effect_prover.proofs.AnswerLemmas.{sound-answer}
use Rattle.effect_prover.proofs.prover.prove_program.Goals as goal

pub returns-clause-sound : goal.returns-clause-sound
returns-clause-sound c =
    sound-answer c.args.program.now c.check_phases.result (c.a_proven_program_runs_inside.ensures c.args.program.now c.requires.program c.requires.words) c.check_phases.ensures

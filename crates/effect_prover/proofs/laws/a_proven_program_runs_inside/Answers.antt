use Rattle.effect_prover.proofs.Sound.{proven-runs_inside}
use Rattle.effect_prover.proofs.laws.a_proven_program_runs_inside.Goals as goal

pub returns : goal.returns
returns c = proven-runs_inside

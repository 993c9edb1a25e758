use Rattle.effect_checker.proofs.SeparationLemmas.{phase-checked, locks_apart}
use Rattle.effect_checker.proofs.checked.Checked.guarded_words_have_one_lock.Goals as goal

pub returns : goal.returns
returns c = λ program p t u a b w h among at' au first second. locks_apart p t u a b w (phase-checked program p h among) at' au first second

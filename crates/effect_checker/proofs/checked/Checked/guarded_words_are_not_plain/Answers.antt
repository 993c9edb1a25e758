use Rattle.effect_checker.proofs.SeparationLemmas.{phase-checked, guarded_words_apart}
use Rattle.effect_checker.proofs.checked.Checked.guarded_words_are_not_plain.Goals as goal

pub returns : goal.returns
returns c = λ program p t u lock w h among at' au guards uses. guarded_words_apart p t u lock w (phase-checked program p h among) at' au guards uses

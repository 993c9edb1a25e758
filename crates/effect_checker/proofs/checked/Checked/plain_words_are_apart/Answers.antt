use Rattle.effect_checker.proofs.SeparationLemmas.{phase-checked, plain_words_apart}
use Rattle.effect_checker.proofs.checked.Checked.plain_words_are_apart.Goals as goal

pub returns : goal.returns
returns c = λ program p t u w h among at' au differ writes uses. plain_words_apart p t u w (phase-checked program p h among) at' au differ writes uses

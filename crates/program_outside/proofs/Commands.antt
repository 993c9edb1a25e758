-- Words that a command doesn't take ask for nothing.
use Rattle.std.proofs.Common.{refl, ap, ◌∙◌, ◌≡◌, ◌≢◌, List, [], ◌∷◌, Option, None}
use Rattle.clap.specs.Words.{App, Kinds, Text}
use Rattle.program_outside.specs.Words.{faults_in, where_taken}

-- where two names of one command stand, as the command and what a program builds of it
pub not_taken : {O : Type 0} (a b : App) (words : List Text) (asked : Option O) → a ≡ b → faults_in a words ≢ [] → where_taken (faults_in b words) asked ≡ None
not_taken a b words asked same bad = by_faults (faults_in b words) (λ none. bad (ap (λ (x : App). faults_in x words) same ∙ none))
  where
    by_faults : (ks : Kinds) → ks ≢ [] → where_taken ks asked ≡ None
    by_faults [] is = absurd (is refl)
    by_faults (k ∷ ks) is = refl

use Rattle.std.proofs.Common.{refl, sym, subst, ⊎_elim, ◌∙◌, ◌≡◌, ◌&&◌, Bool, true, false, List, map, string_bytes}
use Rattle.clap.specs.Words.{App, Text, app_of, fault_of, matches_of, HasKind, Kinds}
use Rattle.program_outside.specs.Words.{faults_in, values_in}
use Rattle.program_outside.proofs.words.matches_by.Goals as goal

faults_are : (a : App) (words : List Text) → faults_in a words ≡ fault_of a words
unfolding faults_in
faults_are a words = refl

values_are : (a : App) (words : List Text) → values_in a words ≡ matches_of a words
unfolding values_in
values_are a words = refl

first_holds : (a b : Bool) → a && b ≡ true → a ≡ true
first_holds true b e = refl
first_holds false b e = absurd cc

pub returns-in-Ok-clause-taken : goal.returns-in-Ok-clause-taken
returns-in-Ok-clause-taken c = faults_are (app_of c.args.command) (map string_bytes c.args.words.now) ∙ c.in-Ok.ensures.kinds c.requires

pub returns-in-Ok-clause-values : goal.returns-in-Ok-clause-values
returns-in-Ok-clause-values c =
    (c.in-Ok.ensures.matches (first_holds _ _ c.requires)).0 ∙ sym (values_are (app_of c.args.command) (map string_bytes c.args.words.now))

pub returns : goal.returns
returns c =
    let words : List Text = map string_bytes c.args.words.now in
    record {
      taken = tt;
      values = tt;
      usage = λ _ none.
          let no_fault = sym (faults_are (app_of c.args.command) words) ∙ none in
          let has = subst (λ (k : Kinds). HasKind k c.in-Err.error) no_fault (c.in-Err.ensures.kinds c.requires) in
          ⊎_elim (λ e. c.in_default.not-OutOfMemory (c.kind.ensures ∙ e)) (λ bad. bad) has;
    }

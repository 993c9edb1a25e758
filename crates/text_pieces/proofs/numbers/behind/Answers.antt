use Rattle.std.proofs.Common.{◌≡◌, ◌≢◌, List, ℕ, ◌++◌, Option, Some, None, IfSome, IfNone, MatchOption, Bor}
use Rattle.std.proofs.lemmas.Bool.Decides.{Decides-eqb}
use Rattle.std.proofs.lemmas.Slice.Eq.{strip_prefix_is}
use Rattle.text_pieces.proofs.numbers.behind.Goals as goal

found : (o : Option (Bor (List ℕ))) (P : Type 0) (Q : Bor (List ℕ) → Type 0) → MatchOption o P Q → IfSome o Q
found None P Q m = tt
found (Some x) P Q m = m

missed : (o : Option (Bor (List ℕ))) (P : Type 0) (Q : Bor (List ℕ) → Type 0) → MatchOption o P Q → IfNone o P
missed None P Q m = m
missed (Some x) P Q m = tt

pub returns-clause-some : goal.returns-clause-some
returns-clause-some c =
    found c.strip_prefix.result ((rest : List ℕ) → c.args.bytes.now ≢ c.args.text.now ++ rest) (λ x. c.args.bytes.now ≡ c.args.text.now ++ x.now)
    (strip_prefix_is Decides-eqb c.args.bytes.now c.args.text.now c.strip_prefix.result c.strip_prefix.ensures.cases)

pub returns-clause-none : goal.returns-clause-none
returns-clause-none c =
    missed c.strip_prefix.result ((rest : List ℕ) → c.args.bytes.now ≢ c.args.text.now ++ rest) (λ x. c.args.bytes.now ≡ c.args.text.now ++ x.now)
    (strip_prefix_is Decides-eqb c.args.bytes.now c.args.text.now c.strip_prefix.result c.strip_prefix.ensures.cases)

-- A table of names in which a name keeps its first meaning.
use Rattle.std.proofs.Common.{◌≡◌, ℕ, ◌+◌, ◌<◌, true, false, cond, List, ◌∷◌, length, drop, get_or, Option, Some, None, refl, sym, ap, ◌∙◌, bytes_eq, ⊎_elim}
use Rattle.std.specs.Option.{option_or}
use Rattle.std.proofs.lemmas.Bool.{cases_Bool}
use Rattle.std.proofs.lemmas.List.{drop_more}
use Rattle.std.proofs.lemmas.Slice.Eq.{bytes_eq-Decides}
use Rattle.rv_assembler.specs.declared.names.Meaning.{Meaning}
use Rattle.rv_assembler.specs.declared.names.Count.{Count}
use Rattle.rv_assembler.specs.declared.parsing.Reading.{Reading}
use Rattle.rv_assembler.specs.Gathering.{count_after, declared_by, meaning_in}

pub first-none : (o : Option Meaning) → o ≡ option_or o None
first-none None = refl
first-none (Some m) = refl

-- a name that had a meaning has it again once it is given back
pub restored : (f g h : List ℕ → Option Meaning) (name q : List ℕ) (m first : Meaning) → f name ≡ Some first → g q ≡ cond (bytes_eq name q) (Some m) (f q) → h q ≡ cond (bytes_eq name q) (Some first) (g q)
    → h q ≡ option_or (f q) (cond (bytes_eq name q) (Some m) None)
restored f g h name q m first was given back =
    ⊎_elim
    (λ (e : bytes_eq name q ≡ true).
    let s : name ≡ q = (bytes_eq-Decides name q).0 e in
    let old : f q ≡ Some first = rw s at was in
    let now : h q ≡ Some first = rw e at back in
    rw (e, old) now)
    (λ (e : bytes_eq name q ≡ false).
    let one : g q ≡ f q = rw e at given in
    let two : h q ≡ g q = rw e at back in
    rw e (two ∙ one ∙ first-none (f q)))
    (cases_Bool (bytes_eq name q))

-- a name that has none gets one
pub absent : (f : List ℕ → Option Meaning) (name q : List ℕ) (m : Meaning) → f name ≡ None → cond (bytes_eq name q) (Some m) (f q) ≡ option_or (f q) (cond (bytes_eq name q) (Some m) None)
absent f name q m h =
    ⊎_elim
    (λ (e : bytes_eq name q ≡ true).
    let s : name ≡ q = (bytes_eq-Decides name q).0 e in
    let n : f q ≡ None = rw s at h in
    rw (e, n) refl)
    (λ (e : bytes_eq name q ≡ false). rw e (first-none (f q)))
    (cases_Bool (bytes_eq name q))

-- first of three
pub first-group : (a b c : Option Meaning) → option_or (option_or a b) c ≡ option_or a (option_or b c)
first-group None b c = refl
first-group (Some m) b c = refl

-- what a line declares is found, and what the lines after it say is left
pub found-onward : (text : List ℕ) (before after : List ℕ → Option Meaning) (count : Count) (rs : List Reading) (i : ℕ) (r : Reading) (all : Option Meaning) (q : List ℕ) → i < length rs → r ≡ get_or rs i r
    → after q ≡ option_or (before q) (declared_by text count r q) → option_or (before q) (meaning_in text count (drop i rs) q) ≡ all → option_or (after q) (meaning_in text (count_after count r) (drop (i + 1) rs) q) ≡ all
found-onward text before after count rs i r all q l e given was =
    ap (λ (o : Option Meaning). option_or o (meaning_in text (count_after count r) (drop (i + 1) rs) q)) given
    ∙ first-group (before q) (declared_by text count r q) (meaning_in text (count_after count r) (drop (i + 1) rs) q)
    ∙ ap (λ (x : Reading). option_or (before q) (meaning_in text count (x ∷ drop (i + 1) rs) q)) e
    ∙ ap (λ (xs : List Reading). option_or (before q) (meaning_in text count xs q)) (sym (drop_more rs i r l))
    ∙ was

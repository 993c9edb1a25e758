-- Names on shelves: what is put on the last shelf changes what a name of that shelf means, and what no other name means.
use Rattle.std.proofs.Common.{◌≡◌, ◌≢◌, ◌<◌, ◌≤◌, ℕ, true, false, cond, List, length, get_or, Option, Some, None, sym, ap, ◌∙◌, bytes_eq, BTreeMap, ⊎_elim, arith}
use denote.Ref.{Bor}
use Rattle.std.specs.Option.{option_or}
use Rattle.std.proofs.lemmas.Bool.{cases_Bool, cases_lt}
use Rattle.std.proofs.lemmas.Slice.Eq.{bytes_eq-Decides}
use Rattle.std.proofs.lemmas.List.{get_or_past, get_or_default}
use Rattle.rv_assembler.specs.Lookup.{found_on, shelf_number}
use Rattle.rv_assembler.specs.declared.names.Meaning.{Meaning}
use Rattle.rv_assembler.proofs.NameLemmas.{first-none}

-- what a name means on shelves, the last one of which stands apart
abbrev pub found_among : List (BTreeMap (Bor (List ℕ)) Meaning) → BTreeMap (Bor (List ℕ)) Meaning → List ℕ → Option Meaning
found_among shelves last q = found_on (get_or shelves (shelf_number (length shelves) q) last) q

-- a name that stands on another shelf is another name
apart : (count : ℕ) (name q : List ℕ) → shelf_number count q ≢ shelf_number count name → bytes_eq name q ≡ false
apart count name q other =
    ⊎_elim
    (λ (e : bytes_eq name q ≡ true). absurd (other (ap (shelf_number count) (sym ((bytes_eq-Decides name q).0 e)))))
    (λ (e : bytes_eq name q ≡ false). e)
    (cases_Bool (bytes_eq name q))

-- what another name means stays
stays : (f : Option Meaning) (count : ℕ) (name q : List ℕ) (m : Meaning) → shelf_number count q ≢ shelf_number count name → f ≡ option_or f (cond (bytes_eq name q) (Some m) None)
stays f count name q m other = rw (apart count name q other) (first-none f)

-- a meaning is put on the last shelf
pub put-last : (shelves : List (BTreeMap (Bor (List ℕ)) Meaning)) (last shelf : BTreeMap (Bor (List ℕ)) Meaning) (name : List ℕ) (m : Meaning)
    → length shelves ≤ shelf_number (length shelves) name
    → ((q : List ℕ) → found_on shelf q ≡ option_or (found_on last q) (cond (bytes_eq name q) (Some m) None))
    → (q : List ℕ) → found_among shelves shelf q ≡ option_or (found_among shelves last q) (cond (bytes_eq name q) (Some m) None)
put-last shelves last shelf name m past put q =
    let count = length shelves in
    let other = shelf_number count q in
    ⊎_elim
    (λ (within : other < count).
    let apart_from : other ≢ shelf_number count name = λ e. absurd (omega (arith, within, past, e)) in
    ap (λ (s : BTreeMap (Bor (List ℕ)) Meaning). found_on s q) (get_or_default shelves other shelf last within)
    ∙ stays (found_on (get_or shelves other last) q) count name q m apart_from)
    (λ (beyond : count ≤ other).
    ap (λ (s : BTreeMap (Bor (List ℕ)) Meaning). found_on s q) (get_or_past shelves other shelf beyond) ∙ put q
    ∙ ap (λ (s : BTreeMap (Bor (List ℕ)) Meaning). option_or (found_on s q) (cond (bytes_eq name q) (Some m) None)) (sym (get_or_past shelves other last beyond)))
    (cases_lt other count)

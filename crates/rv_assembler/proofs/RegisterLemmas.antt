-- The number of a register is below 32.
use Rattle.std.proofs.Common.{◌≡◌, ◌<◌, ℕ, Bool, true, false, cond, nat_lt, ltb-true, List, [], ◌∷◌, Some, option_map, find, bytes_eq, refl, sym, subst, ◌∙◌, ap}
use Rattle.std.specs.List.{list_all}
use Rattle.std.proofs.lemmas.Bool.{and_parts}
use Rattle.src_text.specs.Register.{Register, register_rows, register_number_in, register_of}

abbrev is_small : Register → Bool
is_small r = nat_lt r.number 32

all-small : list_all is_small register_rows ≡ true
unfolding register_rows
all-small = refl

found-small : (rows : List Register) (name : List ℕ) (n : ℕ) → list_all is_small rows ≡ true → register_number_in rows name ≡ Some n → n < 32
found-small [] name n all e = absurd cc
found-small (r ∷ rs) name n all e =
    let parts : (is_small r ≡ true) × (list_all is_small rs ≡ true) = and_parts (is_small r) (list_all is_small rs) all in
    by_name (bytes_eq r.name name) refl parts.0 (λ f. found-small rs name n parts.1 f)
  where
    by_name : (b : Bool) → bytes_eq r.name name ≡ b → is_small r ≡ true → (register_number_in rs name ≡ Some n → n < 32) → n < 32
    by_name true b small later =
        let found : Some r.number ≡ Some n = ap (λ (c : Bool). option_map (λ (x : Register). x.number) (cond c (Some r) (find (λ (x : Register). bytes_eq x.name name) rs))) (sym b) ∙ e in
        let below : r.number < 32 = ltb-true r.number 32 small in
        let same : r.number ≡ n = cc in
        subst (λ (m : ℕ). m < 32) same below
    by_name false b small later =
        later (ap (λ (c : Bool). option_map (λ (x : Register). x.number) (cond c (Some r) (find (λ (x : Register). bytes_eq x.name name) rs))) (sym b) ∙ e)

pub register_small : (name : List ℕ) (n : ℕ) → register_of name ≡ Some n → n < 32
register_small name n e = found-small register_rows name n all-small e

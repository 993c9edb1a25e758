-- A register's name is found among the names that end in its last byte.
use Rattle.std.proofs.Common.{◌≡◌, ℕ, ◌-◌, Bool, true, false, cond, eqb, List, [], ◌∷◌, Some, length, get_or, option_map, find, bytes_eq, refl, ap, ◌∙◌, arith}
use Rattle.std.specs.List.{filter, list_any, list_all}
use Rattle.std.proofs.lemmas.Bool.Decides.{nat_tests}
use Rattle.std.proofs.lemmas.Bool.{and_parts}
use Rattle.std.proofs.lemmas.Slice.Eq.{bytes_eq-Decides}
use Rattle.src_text.specs.Register.{Register, register_rows, register_number_in, register_of}
use Rattle.src_text.specs.RegisterName.{ends_in, rows_ending_in}

same-byte : (n : ℕ) → eqb n n ≡ true
same-byte n = grind (arith, nat_tests)

abbrev last_of : List ℕ → ℕ
last_of name = get_or name (length name - 1) 0

abbrev is_named : List ℕ → Register → Bool
is_named name r = bytes_eq r.name name

alike : (name : List ℕ) (r : Register) → is_named name r ≡ true → ends_in (last_of name) r ≡ true
alike name r e = ap (λ (bs : List ℕ). eqb (last_of bs) (last_of name)) ((bytes_eq-Decides r.name name).0 e) ∙ same-byte (last_of name)

-- a filter that keeps what a test may find keeps what it finds
find-filter : (p q : Register → Bool) → ((r : Register) → p r ≡ true → q r ≡ true) → (rs : List Register) → find p (filter q rs) ≡ find p rs
find-filter p q h [] = refl
find-filter p q h (r ∷ rs) = step (p r) (q r) refl refl (find-filter p q h rs)
  where
    step : (b c : Bool) → p r ≡ b → q r ≡ c → find p (filter q rs) ≡ find p rs → find p (cond c (r ∷ filter q rs) (filter q rs)) ≡ cond b (Some r) (find p rs)
    step true true e f same = rw e refl
    step true false e f same = absurd (cc (h r e, f))
    step false true e f same = rw e same
    step false false e f same = same

pub register-found : (name : List ℕ) → register_number_in (rows_ending_in (get_or name (length name - 1) 0)) name ≡ register_of name
unfolding rows_ending_in
register-found name = ap (option_map (λ (r : Register). r.number)) (find-filter (is_named name) (ends_in (last_of name)) (alike name) register_rows)

-- no name ends in another byte than these: 0 to 9, a, o, p
abbrev last_bytes : List ℕ
last_bytes = 48 ∷ 49 ∷ 50 ∷ 51 ∷ 52 ∷ 53 ∷ 54 ∷ 55 ∷ 56 ∷ 57 ∷ 97 ∷ 111 ∷ 112 ∷ []

abbrev is_last : ℕ → Bool
is_last b = list_any (eqb b) last_bytes

all-last : list_all (λ (r : Register). is_last (last_of r.name)) register_rows ≡ true
unfolding register_rows
all-last = refl

none-left : (last : ℕ) → is_last last ≡ false → (rs : List Register) → list_all (λ (r : Register). is_last (last_of r.name)) rs ≡ true → filter (ends_in last) rs ≡ []
none-left last other [] e = refl
none-left last other (r ∷ rs) e = step (ends_in last r) refl (none-left last other rs parts.1)
  where
    parts : (is_last (last_of r.name) ≡ true) × (list_all (λ (r : Register). is_last (last_of r.name)) rs ≡ true)
    parts = and_parts (is_last (last_of r.name)) (list_all (λ (r : Register). is_last (last_of r.name)) rs) e

    step : (b : Bool) → ends_in last r ≡ b → filter (ends_in last) rs ≡ [] → cond b (r ∷ filter (ends_in last) rs) (filter (ends_in last) rs) ≡ []
    step true e same = absurd (let f : last_of r.name ≡ last = grind (arith, nat_tests, e) in cc (parts.0, other, f))
    step false e same = same

pub none-other : (last : ℕ) → is_last last ≡ false → rows_ending_in last ≡ []
unfolding rows_ending_in
none-other last other = none-left last other register_rows all-last

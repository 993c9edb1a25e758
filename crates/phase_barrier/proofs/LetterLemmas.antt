-- Sums over the letters of a verdict.
use Rattle.std.proofs.Common.{◌≡◌, ◌≢◌, ℕ, ◌+◌, ◌*◌, ◌<◌, ◌≤◌, ◌&&◌, ◌==◌, Bool, true, false, cond, nat_lt, nat_le, length, Option, Some, None, refl, ◌∙◌, arith, zero, suc}
use Rattle.std.specs.Prelude.{sum_by, count_by}
use Rattle.std.proofs.lemmas.List.Sums.{sum_by-cons}
use Rattle.std.proofs.lemmas.Bool.Decides.{nat_tests}
use Rattle.std.proofs.lemmas.Bool.{eqb-true, eqb-false}
use Rattle.message_net.specs.declared.message.Message.{Message}
use Rattle.message_net.specs.declared.message.Outgoing.{Outgoing}
use Rattle.phase_barrier.specs.declared.keeper.Verdict.{Verdict}
use Rattle.phase_barrier.specs.declared.keeper.Verdict.TheVariants.{Wait, Go, Halt}
use Rattle.message_net.specs.declared.message.Message as message
use Rattle.phase_barrier.specs.Letters.{letter_of, letter_count, to_number, to_each, letters_to_all, letters, goes_to_core}

-- a weight that looks at the letters to one core alone
pub each-one : (g : Outgoing → ℕ) (first n d : ℕ) (m : Message) → ((c : ℕ) → c ≢ d → g (to_number c m) ≡ 0) → sum_by g (to_each first n m) ≡ cond (nat_le first d && nat_lt d (first + n)) (g (to_number d m)) 0
each-one g first zero d m others = grind (arith, nat_tests)
each-one g first (suc n) d m others =
    sum_by-cons g (to_number first m) (to_each (first + 1) n m) ∙ by_test (first == d) refl (each-one g (first + 1) n d m others) where
      by_test : (t : Bool) → (first == d) ≡ t → sum_by g (to_each (first + 1) n m) ≡ cond (nat_le (first + 1) d && nat_lt d (first + 1 + n)) (g (to_number d m)) 0 → g (to_number first m) + sum_by g (to_each (first + 1) n m) ≡ cond (nat_le first d && nat_lt d (first + suc n)) (g (to_number d m)) 0
      by_test true e rest =
          let same : first ≡ d = eqb-true first d e in
          rw (rest, same) (grind (arith, nat_tests))
      by_test false e rest =
          let differ : first ≢ d = eqb-false first d e in
          let none : g (to_number first m) ≡ 0 = others first differ in
          rw (rest, none) (grind (arith, nat_tests))

-- a weight that is the same for each letter
pub each-same : (g : Outgoing → ℕ) (first n w : ℕ) (m : Message) → ((c : ℕ) → g (to_number c m) ≡ w) → sum_by g (to_each first n m) ≡ n * w
each-same g first zero w m same = omega arith
each-same g first (suc n) w m same =
    omega (arith, sum_by-cons g (to_number first m) (to_each (first + 1) n m), same first, each-same g (first + 1) n w m same)

pub each-none : (g : Outgoing → ℕ) (first n : ℕ) (m : Message) → ((c : ℕ) → c < first + n → g (to_number c m) ≡ 0) → sum_by g (to_each first n m) ≡ 0
each-none g first zero m none = refl
each-none g first (suc n) m none =
    let here : g (to_number first m) ≡ 0 = none first (omega arith) in
    let rest = each-none g (first + 1) n m (λ c below. none c (omega (arith, below))) in
    omega (arith, sum_by-cons g (to_number first m) (to_each (first + 1) n m), here, rest)

pub length-to_each : (first n : ℕ) (m : Message) → length (to_each first n m) ≡ n
length-to_each first zero m = refl
length-to_each first (suc n) m = omega (arith, length-to_each (first + 1) n m)

-- what the message of a verdict weighs, where it goes to a core
abbrev pub letter_weight : (Outgoing → ℕ) → ℕ → Option Message → ℕ
letter_weight g core None = 0
letter_weight g core (Some m) = g (to_number core m)

told-one : (g : Outgoing → ℕ) (cores d : ℕ) (o : Option Message) → ((c : ℕ) (m : Message) → c ≢ d → g (to_number c m) ≡ 0) → d < cores → sum_by g (letters_to_all cores o) ≡ letter_weight g d o
told-one g cores d None others below = refl
told-one g cores d (Some m) others below =
    each-one g 0 cores d m (λ c differ. others c m differ) ∙ grind (arith, nat_tests)

pub letters-one : (g : Outgoing → ℕ) (cores d : ℕ) (v : Verdict) → ((c : ℕ) (m : Message) → c ≢ d → g (to_number c m) ≡ 0) → d < cores → sum_by g (letters cores v) ≡ letter_weight g d (letter_of v)
letters-one g cores d v others below = told-one g cores d (letter_of v) others below

pub letters-none : (g : Outgoing → ℕ) (cores : ℕ) (v : Verdict) → ((c : ℕ) (m : Message) → c < cores → g (to_number c m) ≡ 0) → sum_by g (letters cores v) ≡ 0
letters-none g cores v none = by_letter (letter_of v) where
  by_letter : (o : Option Message) → sum_by g (letters_to_all cores o) ≡ 0
  by_letter None = refl
  by_letter (Some m) =
      each-none g 0 cores m (λ c below. none c m (omega (arith, below)))

pub length-letters : (cores : ℕ) (v : Verdict) → length (letters cores v) ≡ cores * letter_count v
length-letters cores Wait = omega arith
length-letters cores (Go phase) = omega (arith, length-to_each 0 cores (message.TheVariants.Go phase))
length-letters cores Halt = omega (arith, length-to_each 0 cores message.TheVariants.Halt)

pub letters-to_core : (cores d : ℕ) (v : Verdict) → d < cores → count_by (goes_to_core d) (letters cores v) ≡ letter_count v
letters-to_core cores d v below = letters-one (λ (out : Outgoing). cond (goes_to_core d out) 1 0) cores d v (λ c m differ. grind (arith, nat_tests)) below ∙ by_verdict v where
  by_verdict : (v : Verdict) → letter_weight (λ (out : Outgoing). cond (goes_to_core d out) 1 0) d (letter_of v) ≡ letter_count v
  by_verdict Wait = refl
  by_verdict (Go phase) = grind (arith, nat_tests)
  by_verdict Halt = grind (arith, nat_tests)

pub letters-to_others : (cores d : ℕ) (v : Verdict) → cores ≤ d → count_by (goes_to_core d) (letters cores v) ≡ 0
letters-to_others cores d v past =
    letters-none (λ (out : Outgoing). cond (goes_to_core d out) 1 0) cores v (λ c m below. grind (arith, nat_tests))

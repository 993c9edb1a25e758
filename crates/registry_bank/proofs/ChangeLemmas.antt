-- What a bank has for a word or lock after a change.
use Rattle.std.proofs.Common.{◌≡◌, ◌≢◌, ℕ, ◌*◌, ◌/◌, ◌%◌, ◌<◌, ◌&&◌, ◌==◌, Bool, true, false, cond, nat_lt, List, [], ◌∷◌, length, slice_get, set, Option, Some, None, refl, arith, zero, suc}
use Rattle.std.proofs.lemmas.Bool.{eqb-true, eqb-false}
use Rattle.std.proofs.lemmas.Bool.Decides.{nat_tests}
use Rattle.std.proofs.lemmas.Option.{slice_get_within}
use Rattle.queue_lock.specs.Lock.{Lock}
use Rattle.registry_bank.specs.declared.bank.BankWord.{BankWord}
use Rattle.registry_bank.specs.Bank.{BankParts, bank_word, bank_lock, with_word, with_lock}

get-set : {X : Type 0} (xs : List X) (i j : ℕ) (y : X) → slice_get (set xs i y) j ≡ cond ((i == j) && nat_lt j (length xs)) (Some y) (slice_get xs j)
get-set [] i j y = grind (arith, nat_tests)
get-set (x ∷ xs) zero zero y = grind (arith, nat_tests)
get-set (x ∷ xs) zero (suc j) y = grind (arith, nat_tests)
get-set (x ∷ xs) (suc i) zero y = grind (arith, nat_tests)
get-set (x ∷ xs) (suc i) (suc j) y = grind (arith, nat_tests, get-set xs i j y)

-- the number's item, if the number is here
abbrev item : {X : Type 0} → ℕ → ℕ → List X → ℕ → Option X
item bank banks xs n = cond (n % banks == bank) (slice_get xs (n / banks)) None

-- two numbers that are here and stand at one place are one
same_number : (bank banks n m : ℕ) → 0 < banks → n % banks ≡ bank → m % banks ≡ bank → n / banks ≡ m / banks → n ≡ m
same_number bank banks n m some here there place =
    let product : banks * (n / banks) ≡ banks * (m / banks) = rw place refl in
    omega (arith, some, here, there, product)

pub item-set : {X : Type 0} (bank banks : ℕ) (xs : List X) (n m : ℕ) (old new : X) → 0 < banks → item bank banks xs n ≡ Some old → item bank banks (set xs (n / banks) new) m ≡ cond (n == m) (Some new) (item bank banks xs m)
item-set bank banks xs n m old new some found = by_here (n % banks == bank) refl where
  by_there : n % banks ≡ bank → n / banks < length xs → (t u : Bool) → (n == m) ≡ t → (m % banks == bank) ≡ u → item bank banks (set xs (n / banks) new) m ≡ cond t (Some new) (item bank banks xs m)
  by_there here within true u e f =
      let same : n ≡ m = eqb-true n m e in
      rw (← same) (grind (arith, nat_tests, get-set xs (n / banks) (n / banks) new))
  by_there here within false false e f = rw f refl
  by_there here within false true e f =
      let there : m % banks ≡ bank = eqb-true (m % banks) bank f in
      let other : n / banks ≢ m / banks = λ place. eqb-false n m e (same_number bank banks n m some here there place) in
      rw f (grind (arith, nat_tests, get-set xs (n / banks) (m / banks) new, other))

  by_here : (t : Bool) → (n % banks == bank) ≡ t → item bank banks (set xs (n / banks) new) m ≡ cond (n == m) (Some new) (item bank banks xs m)
  by_here false e = let never = rw e at found in absurd (cc)
  by_here true e =
      let at = rw e at found in
      by_there (eqb-true (n % banks) bank e) (slice_get_within xs (n / banks) old at) (n == m) (m % banks == bank) refl refl

pub word-changed : (b : BankParts) (w v : ℕ) (old new : BankWord) → 0 < b.banks → bank_word b w ≡ Some old → bank_word (with_word b w new) v ≡ cond (w == v) (Some new) (bank_word b v)
word-changed b w v old new some found = item-set b.bank b.banks b.words w v old new some found

pub lock-changed : (b : BankParts) (l m : ℕ) (old new : Lock) → 0 < b.banks → bank_lock b l ≡ Some old → bank_lock (with_lock b l new) m ≡ cond (l == m) (Some new) (bank_lock b m)
lock-changed b l m old new some found = item-set b.bank b.banks b.locks l m old new some found

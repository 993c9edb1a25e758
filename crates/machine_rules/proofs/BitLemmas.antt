-- What the counts of entries, homes and nodes say.
use Rattle.std.proofs.Common.{◌≡◌, ℕ, ◌+◌, ◌≤◌, ◌==◌, Bool, true, false, Option, Some, None, refl, ap, arith}
use Rattle.std.proofs.lemmas.Bool.{eqb-true}
use Rattle.std.proofs.lemmas.Bool.Decides.{nat_tests}
use Rattle.word_cache.specs.declared.row.Entry.{Entry}
use Rattle.word_cache.specs.declared.row.Entry.TheVariants.{Valid, Registered, Leaving}
use Rattle.registry_bank.specs.declared.bank.BankWord.{BankWord}
use Rattle.registry_bank.specs.declared.bank.BankWord.TheVariants.{Home, Reg}
use Rattle.machine_rules.specs.Flight.{bit}
use Rattle.machine_rules.proofs.Bits.{pending_bit, settled_bit, leaving_bit, valid_bit, owner_bit}

-- an entry has one state at the most
pub entry-bits : (e : Option Entry) → pending_bit e + settled_bit e + leaving_bit e + valid_bit e ≤ 1
entry-bits None = omega arith
entry-bits (Some (Valid value marked)) = omega arith
entry-bits (Some (Registered value true)) = omega arith
entry-bits (Some (Registered value false)) = omega arith
entry-bits (Some (Leaving value)) = omega arith

pub pending-is : (e : Option Entry) → 1 ≤ pending_bit e → (value : ℕ) × (e ≡ Some (Registered value true))
pending-is None some = absurd (omega (arith, some))
pending-is (Some (Valid value marked)) some = absurd (omega (arith, some))
pending-is (Some (Registered value true)) some = (value, refl)
pending-is (Some (Registered value false)) some = absurd (omega (arith, some))
pending-is (Some (Leaving value)) some = absurd (omega (arith, some))

pub settled-is : (e : Option Entry) → 1 ≤ settled_bit e → (value : ℕ) × (e ≡ Some (Registered value false))
settled-is None some = absurd (omega (arith, some))
settled-is (Some (Valid value marked)) some = absurd (omega (arith, some))
settled-is (Some (Registered value true)) some = absurd (omega (arith, some))
settled-is (Some (Registered value false)) some = (value, refl)
settled-is (Some (Leaving value)) some = absurd (omega (arith, some))

pub leaving-is : (e : Option Entry) → 1 ≤ leaving_bit e → (value : ℕ) × (e ≡ Some (Leaving value))
leaving-is None some = absurd (omega (arith, some))
leaving-is (Some (Valid value marked)) some = absurd (omega (arith, some))
leaving-is (Some (Registered value true)) some = absurd (omega (arith, some))
leaving-is (Some (Registered value false)) some = absurd (omega (arith, some))
leaving-is (Some (Leaving value)) some = (value, refl)

pub owner-is : (c : ℕ) (h : Option BankWord) → 1 ≤ owner_bit c h → h ≡ Some (Reg (record { 0 = c }))
owner-is c None some = absurd (omega (arith, some))
owner-is c (Some (Home value)) some = absurd (omega (arith, some))
owner-is c (Some (Reg core)) some = by_test (core.0 == c) refl some where
  by_test : (x : Bool) → (core.0 == c) ≡ x → 1 ≤ bit x → Some (Reg core) ≡ Some (Reg (record { 0 = c }))
  by_test true e one = ap (λ (x : ℕ). Some (Reg (record { 0 = x }))) (eqb-true core.0 c e)
  by_test false e one = absurd (omega (arith, one))

pub pending-bit : (e : Option Entry) (value : ℕ) → e ≡ Some (Registered value true) → pending_bit e ≡ 1
pending-bit e value is = rw (is) refl

pub settled-bit : (e : Option Entry) (value : ℕ) → e ≡ Some (Registered value false) → settled_bit e ≡ 1
settled-bit e value is = rw (is) refl

pub leaving-bit : (e : Option Entry) (value : ℕ) → e ≡ Some (Leaving value) → leaving_bit e ≡ 1
leaving-bit e value is = rw (is) refl

pub owner-bit : (c : ℕ) (h : Option BankWord) → h ≡ Some (Reg (record { 0 = c })) → owner_bit c h ≡ 1
owner-bit c h is = rw (is) (grind (arith, nat_tests))

pub bit-true : (b : Bool) → 1 ≤ bit b → b ≡ true
bit-true true one = refl
bit-true false one = absurd (omega (arith, one))

pub one-bit : (c d : ℕ) → 2 ≤ 1 + bit (c == d) → c ≡ d
one-bit c d two = grind (arith, nat_tests)

-- a word has one registrant at the most
pub one-owner : (h : Option BankWord) (c d : ℕ) → (c == d) ≡ false → owner_bit c h + owner_bit d h ≤ 1
one-owner None c d apart = omega arith
one-owner (Some (Home value)) c d apart = omega arith
one-owner (Some (Reg core)) c d apart = grind (arith, nat_tests)

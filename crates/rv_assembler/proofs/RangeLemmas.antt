-- Numbers in their ranges are the same modulo 2^32.
use Rattle.std.proofs.Common.{◌≡◌, ℕ, suc, ◌+◌, ◌-◌, ◌%◌, ◌^◌, ◌≤◌, Bool, true, false, cond, not, ◌&&◌, ltb, ltb-false, leb-true, ℤ, pos, negsuc, ◌+ℤ◌, int_le, refl, arith}
use Rattle.std.proofs.lemmas.Bool.{and_parts}
use Rattle.rv_assembler.specs.declared.statement.Family.{Family}
use Rattle.rv_assembler.specs.Number.{natural_of, wrapped}
use Rattle.rv_assembler.specs.Fault.{entry_far, are_cores, family_far}
use Rattle.rv_assembler.proofs.SoundLemmas.{not-false, or-none}

pub small-counted : (z : ℤ) → int_le (pos 0) z ≡ true → int_le z (pos 65536) ≡ true → wrapped z ≡ natural_of z
small-counted (pos n) low high = let l : n ≤ 65536 = leb-true n 65536 high in omega arith
small-counted (negsuc n) low high = let f : false ≡ true = low in absurd cc

pub record FewCores (f : Family) : Type 0 where
  pub core : natural_of f.core ≡ wrapped f.core
  pub count : natural_of f.count ≡ wrapped f.count
  pub few : wrapped f.core + wrapped f.count ≤ 16

pub family-cores : (f : Family) → family_far f ≡ false → FewCores f
family-cores f e =
    let all : are_cores f ≡ true = not-false (are_cores f) (or-none (not (are_cores f)) (entry_far f.entry.kind) e).0 in
    let a = and_parts (int_le (pos 0) f.core && int_le (pos 1) f.count) (int_le (f.core +ℤ f.count) (pos 16)) all in
    let b = and_parts (int_le (pos 0) f.core) (int_le (pos 1) f.count) a.0 in
    let c = by_signs f.core f.count b.0 b.1 a.1 in
    record { core = c.0; count = c.1; few = c.2 }
  where
    by_signs : (core count : ℤ) → int_le (pos 0) core ≡ true → int_le (pos 1) count ≡ true → int_le (core +ℤ count) (pos 16) ≡ true → (natural_of core ≡ wrapped core) × (natural_of count ≡ wrapped count) × (wrapped core + wrapped count ≤ 16)
    by_signs (negsuc m) count x y z = let no : false ≡ true = x in absurd cc
    by_signs (pos m) (negsuc n) x y z = let no : false ≡ true = y in absurd cc
    by_signs (pos m) (pos n) x y z = let few : m + n ≤ 16 = leb-true (m + n) 16 z in (omega arith, omega arith, omega arith)

-- a place moved on within the memory
pub moved : (start k : ℕ) (step : ℤ) → start + k ≤ 65536 → int_le (pos 0) (pos k +ℤ step) ≡ true → start + natural_of (pos k +ℤ step) ≤ 65536
    → (start + k + wrapped step) % 2 ^ 32 ≡ start + natural_of (pos k +ℤ step)
moved start k (pos s) a e b = omega arith
moved start k (negsuc s) a e b = back (ltb k (suc s)) refl e b
  where
    back : (c : Bool) → ltb k (suc s) ≡ c → int_le (pos 0) (cond c (negsuc (suc s - suc k)) (pos (k - suc s))) ≡ true → start + natural_of (cond c (negsuc (suc s - suc k)) (pos (k - suc s))) ≤ 65536
        → (start + k + wrapped (negsuc s)) % 2 ^ 32 ≡ start + natural_of (cond c (negsuc (suc s - suc k)) (pos (k - suc s)))
    back true f e b = let no : false ≡ true = e in absurd cc
    back false f e b = let l : suc s ≤ k = ltb-false k (suc s) f in omega arith

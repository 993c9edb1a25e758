-- The prover has one answer to a program.
use Rattle.std.proofs.Common.{◌≡◌, ℕ, ◌<◌, nat_lt, Bool, true, false, refl, sym, ap, subst, ◌∙◌, arith}
use Rattle.std.proofs.lemmas.Bool.Decides.{nat_tests}
use Rattle.dn_base.specs.declared.ids.PhaseId.{PhaseId}
use Rattle.dn_base.specs.declared.ids.CoreId.{CoreId}
use Rattle.dn_base.specs.declared.status.Status as status
use Rattle.region_table.specs.Program.{ProgramParts}
use Rattle.effect_checker.specs.Least.{IsFirstPair, IsFirst}
use Rattle.effect_prover.specs.declared.proved.Proved.{Proved}
use Rattle.effect_prover.specs.declared.proved.Proved.TheVariants.{Inside, Unbounded}
use Rattle.effect_prover.specs.Answer.{IsProversAnswer, IsUnbounded, proved_text}
use Rattle.effect_prover.proofs.TableLemmas.{not-both}
use Rattle.dn_top.specs.declared.output.Output.{Output}
use Rattle.dn_top.specs.Answers.{IsProof, answered}

-- two numbers neither of which is less are one
neither-less : (a b : ℕ) → (a < b → ⊥) → (b < a → ⊥) → a ≡ b
neither-less a b below above = by_test (nat_lt a b) (nat_lt b a) refl refl where
  by_test : (x y : Bool) → nat_lt a b ≡ x → nat_lt b a ≡ y → a ≡ b
  by_test true y less also = absurd (below (grind (arith, nat_tests, less)))
  by_test false true less also = absurd (above (grind (arith, nat_tests, also)))
  by_test false false less also = grind (arith, nat_tests, less, also)

-- there is one first pair, and one first triple
first_pair-one : (R : ℕ → ℕ → Type 0) (n w m v : ℕ) → IsFirstPair R n w → IsFirstPair R m v → (n ≡ m) × (w ≡ v)
first_pair-one R n w m v is also =
    let same : n ≡ m = neither-less n m (λ less. also.lesser n w less is.holds) (λ less. is.lesser m v less also.holds) in
    let there : R m w = subst (λ (x : ℕ). R x w) same is.holds in
    let back : R n v = subst (λ (x : ℕ). R x v) (sym same) also.holds in
    (same, omega (arith, also.least w there, is.least v back))

record IsOneTriple (a b w c d v : ℕ) : Type 0 where
  first : a ≡ c
  second : b ≡ d
  word : w ≡ v

first-one : (R : ℕ → ℕ → ℕ → Type 0) (a b w c d v : ℕ) → IsFirst R a b w → IsFirst R c d v → IsOneTriple a b w c d v
first-one R a b w c d v is also =
    let same : a ≡ c = neither-less a c (λ less. also.lesser a b w less is.pair.holds) (λ less. is.lesser c d v less also.pair.holds) in
    let rest = first_pair-one (R c) b w d v (subst (λ (x : ℕ). IsFirstPair (R x) b w) same is.pair) also.pair in
    record { first = same; second = rest.0; word = rest.1 }

phase-same : (a b : PhaseId) → a.0 ≡ b.0 → a ≡ b
phase-same a b h = let e : record { 0 = a.0 } ≡ b = rw h refl in e

core-same : (a b : CoreId) → a.0 ≡ b.0 → a ≡ b
core-same a b h = let e : record { 0 = a.0 } ≡ b = rw h refl in e

one-proved : (P : ProgramParts) (a b : Proved) → IsProversAnswer P a → IsProversAnswer P b → a ≡ b
one-proved P Inside Inside is also = refl
one-proved P Inside (Unbounded phase core pc) is also = absurd (not-both P phase.0 core.0 pc is also.pair.holds)
one-proved P (Unbounded phase core pc) Inside is also = absurd (not-both P phase.0 core.0 pc also is.pair.holds)
one-proved P (Unbounded phase core pc) (Unbounded p c k) is also =
    let same = first-one (IsUnbounded P) phase.0 core.0 pc p.0 c.0 k is also in
    rw (phase-same phase p same.first, core-same core c same.second, same.word) refl

pub one-proof : (P : ProgramParts) (out other : Output) → IsProof P out → IsProof P other → out ≡ other
one-proof P out other is also =
    is.answer ∙ ap (λ (x : Proved). answered status.TheVariants.Done (proved_text x)) (one-proved P is.proved also.proved is.right also.right) ∙ sym also.answer

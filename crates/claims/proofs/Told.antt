-- What an answer that is true of bytes says of all answers.
use Rattle.std.proofs.Common.{◌≡◌, ◌≢◌, ◌⊎◌, ◌↔◌, Result, Ok, Err, IfOk, IfErr, inl, inr, refl, ap, subst}
use Rattle.claims.specs.declared.claim.ClaimFault.{ClaimFault}
use Rattle.claims.specs.declared.claim.ClaimFault.TheVariants.{Memory}

-- a fault other than want of memory, which is told where it is true, is told exactly there
pub told-exactly : {A : Type 0} (Has : ClaimFault → Type 0) (result : Result A ClaimFault) (f : ClaimFault) → f ≢ Memory → IfErr result (λ (g : ClaimFault). g ≢ Memory → Has g) → (Has f → result ≡ Err f)
    → (result ≡ Err f) ↔ Has f
told-exactly Has result f other err comes = (λ (e : result ≡ Err f). subst (λ r. IfErr r (λ (g : ClaimFault). g ≢ Memory → Has g)) e err other, comes)

-- what is told of a fault holds, unless it is want of memory
at-fault : (Has : ClaimFault → Type 0) (f : ClaimFault) (P : ClaimFault → Type 0) → (f ≢ Memory → Has f) → (Has f → P f) → P Memory → P f
at-fault Has Memory P told then' other = other
at-fault Has f P told then' other = then' (told (λ e. cc))

-- a form of documents of which each is of one value or has one fault
module _ {X : Type 0} (Is : X → Type 0) (Has : ClaimFault → Type 0) where
  pub answers : ((x y : X) → Is x → Is y → x ≡ y) → ((x : X) (f : ClaimFault) → Is x → Has f → ⊥) → (r : Result X ClaimFault) → IfOk r Is → IfErr r (λ (f : ClaimFault). f ≢ Memory → Has f)
      → (x : X) → Is x → (r ≡ Ok x) ⊎ (r ≡ Err Memory)
  answers one none (Ok y) ok err x is = inl (ap Ok (one y x ok is))
  answers one none (Err f) ok err x is =
      at-fault Has f (λ (g : ClaimFault). (◌≡◌ {A = Result X ClaimFault} (Err g) (Ok x)) ⊎ (◌≡◌ {A = Result X ClaimFault} (Err g) (Err Memory))) err
      (λ fault. absurd (none x f is fault)) (inr refl)

  pub faults : ((f g : ClaimFault) → Has f → Has g → f ≡ g) → ((x : X) (f : ClaimFault) → Is x → Has f → ⊥) → (r : Result X ClaimFault) → IfOk r Is → IfErr r (λ (f : ClaimFault). f ≢ Memory → Has f)
      → (g : ClaimFault) → Has g → (r ≡ Err g) ⊎ (r ≡ Err Memory)
  faults one none (Ok y) ok err g fault = absurd (none y g ok fault)
  faults one none (Err f) ok err g fault =
      at-fault Has f (λ (x : ClaimFault). (◌≡◌ {A = Result X ClaimFault} (Err x) (Err g)) ⊎ (◌≡◌ {A = Result X ClaimFault} (Err x) (Err Memory))) err
      (λ own. inl (ap Err (one f g own fault))) (inr refl)

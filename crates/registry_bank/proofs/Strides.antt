-- What is kept of every so many numbers: those with one rest.
use Rattle.std.proofs.Common.{◌≡◌, ℕ, ◌+◌, ◌*◌, ◌<◌, Bool, true, false, nat_lt, List, [], ◌∷◌, ◌++◌, length, slice_get, Option, Some, refl, arith, length-append, sym, ◌∙◌, suc, zero}
use Rattle.std.proofs.lemmas.Bool.{ltb-true, ltb-false}

-- the list has what `f` gives at every `step`-th number from `first` on
abbrev pub AreStrided : {X : Type 0} → (ℕ → Option X) → ℕ → ℕ → List X → Type 0
AreStrided f first step xs = (k : ℕ) → k < length xs → slice_get xs k ≡ f (first + step * k)

pub get-push_below : {X : Type 0} (xs : List X) (x : X) (k : ℕ) → k < length xs → slice_get (xs ++ x ∷ []) k ≡ slice_get xs k
get-push_below [] x k below = absurd (omega arith)
get-push_below (y ∷ ys) x zero below = refl
get-push_below (y ∷ ys) x (suc k) below = get-push_below ys x k (omega (arith, below))

pub get-push_last : {X : Type 0} (xs : List X) (x : X) → slice_get (xs ++ x ∷ []) (length xs) ≡ Some x
get-push_last [] x = refl
get-push_last (y ∷ ys) x = get-push_last ys x

pub strided-push : {X : Type 0} (f : ℕ → Option X) (first step : ℕ) (xs : List X) (x : X) → AreStrided f first step xs → f (first + step * length xs) ≡ Some x → AreStrided f first step (xs ++ x ∷ [])
strided-push f first step xs x so_far here k within = by_test (nat_lt k (length xs)) refl where
  by_test : (t : Bool) → nat_lt k (length xs) ≡ t → slice_get (xs ++ x ∷ []) k ≡ f (first + step * k)
  by_test true e =
      let below = ltb-true k (length xs) e in
      get-push_below xs x k below ∙ so_far k below
  by_test false e =
      let past = ltb-false k (length xs) e in
      let last : k ≡ length xs = omega (arith, within, past, length-append xs (x ∷ [])) in
      rw last (get-push_last xs x ∙ sym here)

pub strided-next : {X : Type 0} (first step next : ℕ) (xs : List X) (x : X) → next ≡ first + step * length xs → next + step ≡ first + step * length (xs ++ x ∷ [])
strided-next first step next xs x at = rw (length-append xs (x ∷ [])) (omega arith)

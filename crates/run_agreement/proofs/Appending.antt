-- Runs that go on after other runs.
use Rattle.std.proofs.Common.{◌≡◌, List, [], ◌∷◌, ◌++◌, Option, Some, None, refl, ap}
use Rattle.dn_base.specs.declared.ids.Grant.{Grant}
use Rattle.message_net.specs.declared.event.Event.{Event}
use Rattle.machine_rules.specs.State.{State}
use Rattle.machine_rules.specs.Next.{next, granted_in}
use Rattle.machine_rules.specs.Runs.{after, IsRun, grants_of}

pub after-append : (S : State) (xs ys : List Event) → after S (xs ++ ys) ≡ after (after S xs) ys
after-append S [] ys = refl
after-append S (x ∷ xs) ys = after-append (next S x) xs ys

pub run-append : (S : State) (xs ys : List Event) → IsRun S xs → IsRun (after S xs) ys → IsRun S (xs ++ ys)
run-append S [] ys first second = second
run-append S (x ∷ xs) ys first second = (first.0, run-append (next S x) xs ys first.1 second)

pub grants-append : (S : State) (xs ys : List Event) → grants_of S (xs ++ ys) ≡ grants_of S xs ++ grants_of (after S xs) ys
grants-append S [] ys = refl
grants-append S (x ∷ xs) ys = by_told (granted_in S x) refl (grants-append (next S x) xs ys) where
  by_told : (o : Option Grant) → granted_in S x ≡ o → grants_of (next S x) (xs ++ ys) ≡ grants_of (next S x) xs ++ grants_of (after (next S x) xs) ys → grants_of S (x ∷ (xs ++ ys)) ≡ grants_of S (x ∷ xs) ++ grants_of (after (next S x) xs) ys
  by_told None is rest = rw (is) rest
  by_told (Some g) is rest = rw (is) (ap (λ (gs : List Grant). g ∷ gs) rest)

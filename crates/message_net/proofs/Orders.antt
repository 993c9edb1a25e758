-- The same mails in another order.
use Rattle.std.proofs.Common.{◌≡◌, ℕ, Bool, true, false, cond, nat_lt, List, [], ◌∷◌, length, slice_get, Some, refl, sym, ◌∙◌, ap, arith, suc, zero, IsPermutation, ◌⊎◌, inl, inr}
use Rattle.std.specs.Prelude.{sum_by}
use Rattle.std.proofs.lemmas.List.Sums.{sum_by-cons}
use Rattle.std.proofs.lemmas.List.Sorted.{IsPermutation-refl, IsPermutation-sym, IsPermutation-trans, IsPermutation-cons, IsPermutation-swap_remove, IsPermutation-append_left, Contains-permutation, sum_by-IsPermutation, length_permutation}
use Rattle.std.proofs.lemmas.Option.{slice_get_within, get_or_from_slice_get, slice_get-get_or}
use Rattle.std.proofs.lemmas.Bool.{ltb-true}
use Rattle.std.proofs.lemmas.Bool.Decides.{nat_tests}
use Rattle.message_net.specs.declared.actor.MailId.{MailId}
use Rattle.message_net.specs.declared.message.Mail.{Mail}
use Rattle.message_net.specs.Id.{same_id}
use Rattle.message_net.specs.Pool.{of_id, count_of, AreDistinct, posted, without_mail_at, removed}
use Rattle.message_net.proofs.PoolLemmas.{same_id-refl, place-counted, found-counted, taken-none, taken-of_id, AreDistinct-without}

-- a mail stands at some place
abbrev Holds : List Mail → Mail → Type 0
Holds mails m = (place : ℕ) × (slice_get mails place ≡ Some m)

pub holds-permuted : (xs ys : List Mail) (m : Mail) (place : ℕ) → IsPermutation xs ys → slice_get xs place ≡ Some m → (at : ℕ) × (slice_get ys at ≡ Some m)
holds-permuted xs ys m place moved here =
    let there = Contains-permutation xs ys m moved (place, slice_get_within xs place m here, get_or_from_slice_get xs place m m here) in
    (there.0, slice_get-get_or ys there.0 m there.1 ∙ ap (λ (x : Mail). Some x) there.2)

pub weight-permuted : (f : Mail → ℕ) (xs ys : List Mail) → IsPermutation xs ys → sum_by f ys ≡ sum_by f xs
weight-permuted f xs ys moved = sum_by-IsPermutation f xs ys moved

pub AreDistinct-permuted : (xs ys : List Mail) → IsPermutation xs ys → AreDistinct xs → AreDistinct ys
AreDistinct-permuted xs ys moved distinct id =
    omega (arith, distinct id, sum_by-IsPermutation (λ x. cond (of_id id x) 1 0) xs ys moved)

pub posted-permuted : (xs ys : List Mail) (m : Mail) → IsPermutation xs ys → IsPermutation (posted m xs) (posted m ys)
posted-permuted xs ys m moved = IsPermutation-append_left (m ∷ []) xs ys moved

-- a mail at a place may as well stand first
pub fronted : (mails : List Mail) (place : ℕ) (m : Mail) → slice_get mails place ≡ Some m → IsPermutation mails (m ∷ without_mail_at place mails)
fronted mails place m here =
    let at = get_or_from_slice_get mails place m m here in
    rw here (IsPermutation-swap_remove mails place m (slice_get_within mails place m here) (sym at))

pub taken-permuted : (id : MailId) (xs ys : List Mail) → AreDistinct xs → IsPermutation xs ys → (removed id xs).0 ≡ (removed id ys).0
taken-permuted id xs ys distinct moved = by_count (nat_lt 0 (count_of id xs)) refl where
  by_count : (t : Bool) → nat_lt 0 (count_of id xs) ≡ t → (removed id xs).0 ≡ (removed id ys).0
  by_count true e =
      let found = found-counted id xs (ltb-true 0 (count_of id xs) e) in
      let m = found.1 in
      let there = holds-permuted xs ys m found.0 moved found.2.here in
      let same = taken-of_id ys there.0 m (AreDistinct-permuted xs ys moved distinct) there.1 in
      let same_id' = rw found.2.named at same in
      rw (found.2.takes, same_id') refl
  by_count false e =
      let none : count_of id xs ≡ 0 = grind (arith, nat_tests) in
      let none' : count_of id ys ≡ 0 = omega (arith, none, sum_by-IsPermutation (λ x. cond (of_id id x) 1 0) xs ys moved) in
      rw (taken-none id xs none, taken-none id ys none') refl

abbrev bit : Bool → ℕ
bit b = cond b 1 0

-- what stands behind the front stands in the list, and what stands in the list is the front or stands behind it
in-front : (m x : Mail) (mails : List Mail) (place : ℕ) → slice_get (m ∷ mails) place ≡ Some x → (m ≡ x) ⊎ Holds mails x
in-front m x mails zero here = inl (grind arith)
in-front m x mails (suc place) here = inr (place, here)

twice : (m : Mail) (mails : List Mail) (place : ℕ) → AreDistinct (m ∷ mails) → slice_get mails place ≡ Some m → ⊥
twice m mails place distinct here =
    let one : bit (same_id m.id m.id) ≡ 1 = rw (same_id-refl m.id) refl in
    omega (arith, distinct m.id, one, sum_by-cons (λ x. cond (of_id m.id x) 1 0) m mails, place-counted (of_id m.id) mails place m here (same_id-refl m.id))

-- lists of one length with distinct ids, of which one has all mails of the other, are in another order
from-held : (xs ys : List Mail) → AreDistinct xs → AreDistinct ys → length xs ≡ length ys → ((m : Mail) → Holds xs m → Holds ys m) → IsPermutation xs ys
from-held [] [] first second same all = IsPermutation-refl []
from-held [] (y ∷ ys) first second same all = absurd (omega arith)
from-held (x ∷ xs) ys first second same all = by_place (all x (0, refl)) (from-held xs) where
  behind : (place : ℕ) → slice_get ys place ≡ Some x → (m : Mail) → Holds xs m → Holds (without_mail_at place ys) m
  behind place here m held =
      let there = all m (suc held.0, held.1) in
      let moved = holds-permuted ys (x ∷ without_mail_at place ys) m there.0 (fronted ys place x here) there.1 in
      by_front (in-front x m (without_mail_at place ys) moved.0 moved.1) where
        by_front : (x ≡ m) ⊎ Holds (without_mail_at place ys) m → Holds (without_mail_at place ys) m
        by_front (inl same) =
            absurd (twice x xs held.0 first (rw same held.1))
        by_front (inr rest) = rest

  by_place : Holds ys x → ((zs : List Mail) → AreDistinct xs → AreDistinct zs → length xs ≡ length zs → ((m : Mail) → Holds xs m → Holds zs m) → IsPermutation xs zs) → IsPermutation (x ∷ xs) ys
  by_place here rest =
      let front = fronted ys here.0 x here.1 in
      let distinct : AreDistinct xs = λ id. omega (arith, first id, sum_by-cons (λ m. bit (of_id id m)) x xs) in
      let length' : length xs ≡ length (without_mail_at here.0 ys) = omega (arith, same, length_permutation ys (x ∷ without_mail_at here.0 ys) front) in
      let others = rest (without_mail_at here.0 ys) distinct (AreDistinct-without ys here.0 second) length' (behind here.0 here.1) in
      IsPermutation-trans (x ∷ xs) (x ∷ without_mail_at here.0 ys) ys (IsPermutation-cons x xs (without_mail_at here.0 ys) others) (IsPermutation-sym ys (x ∷ without_mail_at here.0 ys) front)

pub rest-permuted : (id : MailId) (xs ys : List Mail) → AreDistinct xs → IsPermutation xs ys → IsPermutation (removed id xs).1 (removed id ys).1
rest-permuted id xs ys distinct moved = by_count (nat_lt 0 (count_of id xs)) refl where
  distinct' : AreDistinct ys
  distinct' = AreDistinct-permuted xs ys moved distinct

  at_places : (m : Mail) (i j : ℕ) → slice_get xs i ≡ Some m → slice_get ys j ≡ Some m → IsPermutation (without_mail_at i xs) (without_mail_at j ys)
  at_places m i j here there =
      from-held (without_mail_at i xs) (without_mail_at j ys) (AreDistinct-without xs i distinct) (AreDistinct-without ys j distinct') lengths holds where
        first : IsPermutation xs (m ∷ without_mail_at i xs)
        first = fronted xs i m here

        second : IsPermutation ys (m ∷ without_mail_at j ys)
        second = fronted ys j m there

        lengths : length (without_mail_at i xs) ≡ length (without_mail_at j ys)
        lengths =
            omega (arith, length_permutation xs (m ∷ without_mail_at i xs) first, length_permutation ys (m ∷ without_mail_at j ys) second, length_permutation xs ys moved)

        holds : (x : Mail) → Holds (without_mail_at i xs) x → Holds (without_mail_at j ys) x
        holds x held =
            let back = holds-permuted (m ∷ without_mail_at i xs) xs x (suc held.0) (IsPermutation-sym xs (m ∷ without_mail_at i xs) first) held.1 in
            let over = holds-permuted xs ys x back.0 moved back.1 in
            let to = holds-permuted ys (m ∷ without_mail_at j ys) x over.0 second over.1 in
            by_front (in-front m x (without_mail_at j ys) to.0 to.1) where
              by_front : (m ≡ x) ⊎ Holds (without_mail_at j ys) x → Holds (without_mail_at j ys) x
              by_front (inl same) =
                  absurd (twice m (without_mail_at i xs) held.0 (AreDistinct-permuted xs (m ∷ without_mail_at i xs) first distinct) (rw same held.1))
              by_front (inr rest) = rest

  by_count : (t : Bool) → nat_lt 0 (count_of id xs) ≡ t → IsPermutation (removed id xs).1 (removed id ys).1
  by_count true e =
      let found = found-counted id xs (ltb-true 0 (count_of id xs) e) in
      let m = found.1 in
      let there = holds-permuted xs ys m found.0 moved found.2.here in
      let same = taken-of_id ys there.0 m distinct' there.1 in
      let same_id' = rw found.2.named at same in
      rw (found.2.takes, same_id') (at_places m found.0 there.0 found.2.here there.1)
  by_count false e =
      let none : count_of id xs ≡ 0 = grind (arith, nat_tests) in
      let none' : count_of id ys ≡ 0 = omega (arith, none, sum_by-IsPermutation (λ x. cond (of_id id x) 1 0) xs ys moved) in
      rw (taken-none id xs none, taken-none id ys none') moved

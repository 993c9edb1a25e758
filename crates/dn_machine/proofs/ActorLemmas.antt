-- The mail with an id, from its place on.
use Rattle.std.proofs.Common.{◌≡◌, ◌≢◌, ℕ, zero, suc, ◌+◌, ◌<◌, ◌≤◌, Bool, true, false, cond, List, [], ◌∷◌, length, drop, slice_get, Some, refl, arith}
use Rattle.std.proofs.lemmas.List.Sums.{sum_by-cons}
use Rattle.message_net.specs.declared.actor.MailId.{MailId}
use Rattle.message_net.specs.declared.message.Mail.{Mail}
use Rattle.message_net.specs.Id.{same_id}
use Rattle.message_net.specs.Pool.{of_id, count_of}
use Rattle.message_net.proofs.PoolLemmas.{same_id-true}

-- an id that is counted from a place on leaves that place in the list
pub counted-within : (id : MailId) (mails : List Mail) (place : ℕ) → 1 ≤ count_of id (drop place mails) → place < length mails
counted-within id [] zero some = absurd (omega (arith, some))
counted-within id [] (suc place) some = absurd (omega (arith, some))
counted-within id (m ∷ ms) zero some = omega arith
counted-within id (m ∷ ms) (suc place) some = omega (arith, counted-within id ms place some)

abbrev bit : Bool → ℕ
bit b = cond b 1 0

-- a mail with another id is passed
passed : (id : MailId) (m : Mail) (rest : List Mail) → m.id ≢ id → 1 ≤ count_of id (m ∷ rest) → 1 ≤ count_of id rest
passed id m rest other some = by_test (same_id m.id id) refl where
  by_test : (t : Bool) → same_id m.id id ≡ t → 1 ≤ count_of id rest
  by_test true e = absurd (other (same_id-true m.id id e))
  by_test false e =
      let none : bit (same_id m.id id) ≡ 0 = rw e refl in
      omega (arith, some, none, sum_by-cons (λ x. bit (of_id id x)) m rest)

pub counted-next : (id : MailId) (mails : List Mail) (place : ℕ) (m : Mail) → slice_get mails place ≡ Some m → m.id ≢ id → 1 ≤ count_of id (drop place mails)
    → 1 ≤ count_of id (drop (place + 1) mails)
counted-next id mails place m here other some =
    let on : place + 1 ≡ suc place = omega arith in
    rw on (by_list mails place here some) where
      by_list : (xs : List Mail) (i : ℕ) → slice_get xs i ≡ Some m → 1 ≤ count_of id (drop i xs) → 1 ≤ count_of id (drop (suc i) xs)
      by_list [] i is more = absurd (cc)
      by_list (x ∷ xs) zero is more = let same : x ≡ m = cc in passed id x xs (rw same other) more
      by_list (x ∷ xs) (suc i) is more = by_list xs i is more

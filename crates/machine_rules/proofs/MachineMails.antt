-- What actors send leaves the ids of mails distinct, and each number used.
use Rattle.std.proofs.Common.{◌≡◌, ◌⊎◌, inl, inr, ℕ, zero, suc, ◌+◌, ◌<◌, ◌≤◌, ◌==◌, Bool, true, false, cond, nat_lt, nat_le, List, [], ◌∷◌, ◌++◌, length, slice_get, slice_set, slice_index, Option, Some, None, refl, sym, ap, subst, ◌∙◌, arith}
use Rattle.std.specs.Prelude.{count_by}
use Rattle.std.proofs.lemmas.Bool.Decides.{nat_tests}
use Rattle.message_net.specs.declared.actor.Actor.{Actor}
use Rattle.message_net.specs.declared.actor.MailId.{MailId}
use Rattle.message_net.specs.declared.message.Mail.{Mail}
use Rattle.message_net.specs.declared.message.Outgoing.{Outgoing}
use Rattle.message_net.specs.Pool.{of_id, count_of, AreDistinct, posted, IsFound, removed}
use Rattle.message_net.specs.Mail.{mail_of, mails_of, all_mails}
use Rattle.message_net.proofs.PoolLemmas.{same_id-true, counted-place, uncounted, sum_by-taken, taken-none, found-counted, AreDistinct-posted, count_of-posted}
use Rattle.message_net.proofs.MailLemmas.{all_mails-append}

-- a number list in which one number has grown
pub raised : (numbers : List ℕ) (i j n : ℕ) → slice_index numbers i ≤ n → slice_index numbers j ≤ slice_index (slice_set numbers i n) j
raised [] i j n grown = omega arith
raised (x ∷ xs) zero zero n grown = grown
raised (x ∷ xs) zero (suc j) n grown = omega arith
raised (x ∷ xs) (suc i) zero n grown = omega arith
raised (x ∷ xs) (suc i) (suc j) n grown = raised xs i j n grown

pub raised-here : (numbers : List ℕ) (i n : ℕ) → i < length numbers → slice_index (slice_set numbers i n) i ≡ n
raised-here [] i n within = absurd (omega (arith, within))
raised-here (x ∷ xs) zero n within = refl
raised-here (x ∷ xs) (suc i) n within = raised-here xs i n (omega (arith, within))

pub raised-most : (numbers : List ℕ) (i n most : ℕ) → n ≤ most → ((j : ℕ) → slice_index numbers j ≤ most) → (j : ℕ) → slice_index (slice_set numbers i n) j ≤ most
raised-most [] i n most new old j = old j
raised-most (x ∷ xs) zero n most new old zero = new
raised-most (x ∷ xs) zero n most new old (suc j) = old (suc j)
raised-most (x ∷ xs) (suc i) n most new old zero = old zero
raised-most (x ∷ xs) (suc i) n most new old (suc j) = raised-most xs i n most new (λ k. old (suc k)) j

-- an item of two lists one after the other is an item of one of them
get-append : {X : Type 0} (xs ys : List X) (i : ℕ) (x : X) → slice_get (xs ++ ys) i ≡ Some x → (slice_get xs i ≡ Some x) ⊎ ((j : ℕ) × (slice_get ys j ≡ Some x))
get-append [] ys i x is = inr (i, is)
get-append (y ∷ xs) ys zero x is = inl is
get-append (y ∷ xs) ys (suc i) x is = get-append xs ys i x is

-- the messages of an actor have its next numbers
get-mails_of : (from : Actor) (number : ℕ) (outs : List Outgoing) (j : ℕ) (m : Mail) → slice_get (mails_of from number outs) j ≡ Some m → (m.id.sender ≡ from) × (m.id.number < number + length outs)
get-mails_of from number [] j m is = absurd (cc)
get-mails_of from number (out ∷ outs) zero m is =
    let same : mail_of from number out ≡ m = cc in
    (sym (ap (λ (x : Mail). x.id.sender) same), omega (arith, ap (λ (x : Mail). x.id.number) same))
get-mails_of from number (out ∷ outs) (suc j) m is =
    let rest = get-mails_of from (number + 1) outs j m is in
    (rest.0, omega (arith, rest.1))

-- each mail has a number that its sender, who stands at a place, has used
abbrev pub AreNumbered : (Actor → ℕ) → List ℕ → List Mail → Type 0
AreNumbered place numbers mails = (i : ℕ) (m : Mail) → slice_get mails i ≡ Some m → m.id.number < slice_index numbers (place m.id.sender)

-- an unused number is in no mail's id
pub unused : (place : Actor → ℕ) (numbers : List ℕ) (mails : List Mail) (from : Actor) (number : ℕ) → AreNumbered place numbers mails → slice_index numbers (place from) ≤ number
    → count_of (record { sender = from; number = number }) mails ≡ 0
unused place numbers mails from number good past = by_count (nat_lt 0 (count_of id mails)) refl where
  id : MailId
  id = record { sender = from; number = number }

  by_count : (t : Bool) → nat_lt 0 (count_of id mails) ≡ t → count_of id mails ≡ 0
  by_count false e = grind (arith, nat_tests, e)
  by_count true e = by_place (counted-place (of_id id) mails (grind (arith, nat_tests, e))) where
    by_place : (i : ℕ) × (m : Mail) × (slice_get mails i ≡ Some m) × (of_id id m ≡ true) → count_of id mails ≡ 0
    by_place (i, m, is, same) =
        let named : m.id ≡ id = same_id-true m.id id same in
        let below = subst (λ (x : MailId). x.number < slice_index numbers (place x.sender)) named (good i m is) in
        absurd (omega (arith, past, below))

-- ids stay distinct where an actor sends several messages with its next numbers
pub distinct-sent : (from : Actor) (number : ℕ) (outs : List Outgoing) (mails : List Mail) → AreDistinct mails
    → ((i : ℕ) → number ≤ i → count_of (record { sender = from; number = i }) mails ≡ 0) → AreDistinct (all_mails from number outs mails)
distinct-sent from number [] mails good new = good
distinct-sent from number (out ∷ outs) mails good new =
    distinct-sent from (number + 1) outs (posted (mail_of from number out) mails) (AreDistinct-posted mails (mail_of from number out) good (new number (omega arith))) later
  where
    later : (i : ℕ) → number + 1 ≤ i → count_of (record { sender = from; number = i }) (posted (mail_of from number out) mails) ≡ 0
    later i past =
        let other : (number == i) ≡ false = grind (arith, nat_tests, past) in
        count_of-posted (record { sender = from; number = i }) mails (mail_of from number out) ∙ rw (other) (omega (arith, new i (omega (arith, past))))

-- the mails stay numbered where an actor of the machine sends several messages
pub numbered-sent : (place : Actor → ℕ) (numbers : List ℕ) (mails : List Mail) (from : Actor) (outs : List Outgoing) → place from < length numbers → AreNumbered place numbers mails
    → AreNumbered place (slice_set numbers (place from) (slice_index numbers (place from) + length outs)) (all_mails from (slice_index numbers (place from)) outs mails)
numbered-sent place numbers mails from outs within good i m is =
    by_part (get-append mails (mails_of from old outs) i m (subst (λ (ms : List Mail). slice_get ms i ≡ Some m) (all_mails-append from old outs mails) is))
  where
    old : ℕ
    old = slice_index numbers (place from)

    by_part : (slice_get mails i ≡ Some m) ⊎ ((j : ℕ) × (slice_get (mails_of from old outs) j ≡ Some m)) → m.id.number < slice_index (slice_set numbers (place from) (old + length outs)) (place m.id.sender)
    by_part (inl here) = omega (arith, good i m here, raised numbers (place from) (place m.id.sender) (old + length outs) (omega arith))
    by_part (inr (j, here)) =
        let new = get-mails_of from old outs j m here in
        subst (λ (a : Actor). m.id.number < slice_index (slice_set numbers (place from) (old + length outs)) (place a)) (sym new.0)
        (omega (arith, new.1, raised-here numbers (place from) (old + length outs) within))

-- where nothing is taken nothing changes
untaken : (id : MailId) (mails : List Mail) → (removed id mails).0 ≡ None → (removed id mails).1 ≡ mails
untaken id mails is = by_count (nat_lt 0 (count_of id mails)) refl where
  by_found : (place : ℕ) × (m : Mail) × IsFound id mails place m → (removed id mails).1 ≡ mails
  by_found (place, m, found) =
      let never = rw (found.takes) at is in
      absurd (cc)

  by_count : (t : Bool) → nat_lt 0 (count_of id mails) ≡ t → (removed id mails).1 ≡ mails
  by_count true e = by_found (found-counted id mails (grind (arith, nat_tests, e)))
  by_count false e = ap (λ (x : Option Mail × List Mail). x.1) (taken-none id mails (grind (arith, nat_tests, e)))

-- and where a mail is taken
pub numbered-taken : (place : Actor → ℕ) (numbers : List ℕ) (mails : List Mail) (id : MailId) → AreNumbered place numbers mails → AreNumbered place numbers (removed id mails).1
numbered-taken place numbers mails id good = by_taken (removed id mails).0 refl where
  late : Mail → Bool
  late m = nat_le (slice_index numbers (place m.id.sender)) m.id.number

  none : count_by late mails ≡ 0
  none = by_count (nat_lt 0 (count_by late mails)) refl where
    by_count : (t : Bool) → nat_lt 0 (count_by late mails) ≡ t → count_by late mails ≡ 0
    by_count false e = grind (arith, nat_tests, e)
    by_count true e = by_place (counted-place late mails (grind (arith, nat_tests, e))) where
      by_place : (i : ℕ) × (m : Mail) × (slice_get mails i ≡ Some m) × (late m ≡ true) → count_by late mails ≡ 0
      by_place (i, m, is, past) = absurd (grind (arith, nat_tests, good i m is, past))

  by_taken : (o : Option Mail) → (removed id mails).0 ≡ o → AreNumbered place numbers (removed id mails).1
  by_taken None is = subst (AreNumbered place numbers) (sym (untaken id mails is)) good
  by_taken (Some m) is =
      λ i x here.
      let left = sum_by-taken (λ (y : Mail). cond (late y) 1 0) id mails m is in
      let on_time = uncounted late (removed id mails).1 i x (omega (arith, none, left)) here in
      grind (arith, nat_tests, on_time)

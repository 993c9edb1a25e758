-- What posts and takes come to.
use Rattle.std.proofs.Common.{◌≡◌, ℕ, ◌+◌, ◌<◌, ◌≤◌, ◌↔◌, Bool, true, false, cond, nat_lt, List, [], ◌∷◌, length, get_or, take, slice_get, Option, Some, None, refl, ◌∙◌, subst, sym, arith, length-append, length-set, suc}
use Rattle.std.specs.Prelude.{sum_by, count_by, position, IsNone, IfSome}
use Rattle.std.specs.List.{position_or_len}
use Rattle.std.proofs.lemmas.List.{get_or-take, length-take-le, length-take}
use Rattle.std.proofs.lemmas.List.Sums.{sum_by-swap_remove, sum_by_push, sum_by-cons, sum_by-take-drop, sum_by-drop_more, get_or-le-sum_by, position_or_len_is, passes_at_first}
use Rattle.std.proofs.lemmas.List.Quantifiers.{position-Some}
use Rattle.std.proofs.lemmas.Bool.{ltb-true, ltb-false}
use Rattle.std.proofs.lemmas.Option.{slice_get_within, get_or_from_slice_get, slice_get_cases}
use Rattle.std.proofs.lemmas.Bool.Decides.{nat_tests}
use Rattle.message_net.specs.declared.actor.MailId.{MailId}
use Rattle.message_net.specs.declared.actor.Actor.{Actor}
use Rattle.message_net.specs.declared.actor.Actor.TheVariants.{Core, Bank, Keeper}
use Rattle.message_net.specs.declared.message.Mail.{Mail}
use Rattle.message_net.specs.Id.{same_actor, same_id}
use Rattle.message_net.specs.Pool.{of_id, count_of, AreDistinct, IsPool, IsFound, posted, without_mail_at, removed, removed_at}

-- ids that pass the test are equal
pub same_actor-true : (a b : Actor) → same_actor a b ≡ true → a ≡ b
same_actor-true (Core a) (Core b) e = grind (arith, nat_tests)
same_actor-true (Core a) (Bank b) e = cc
same_actor-true (Core a) Keeper e = cc
same_actor-true (Bank a) (Core b) e = cc
same_actor-true (Bank a) (Bank b) e = grind (arith, nat_tests)
same_actor-true (Bank a) Keeper e = cc
same_actor-true Keeper (Core b) e = cc
same_actor-true Keeper (Bank b) e = cc
same_actor-true Keeper Keeper e = refl

pub same_actor-refl : (a : Actor) → same_actor a a ≡ true
same_actor-refl (Core a) = grind (arith, nat_tests)
same_actor-refl (Bank a) = grind (arith, nat_tests)
same_actor-refl Keeper = refl

pub same_id-true : (a b : MailId) → same_id a b ≡ true → a ≡ b
same_id-true a b e = grind (arith, nat_tests, same_actor-true a.sender b.sender)

pub same_id-refl : (a : MailId) → same_id a a ≡ true
same_id-refl a = grind (arith, nat_tests, same_actor-refl a.sender)

-- a take frees one mail
pub sum_by-without : (f : Mail → ℕ) (mails : List Mail) (place : ℕ) (m : Mail) → slice_get mails place ≡ Some m → sum_by f (without_mail_at place mails) + f m ≡ sum_by f mails
sum_by-without f mails place m found =
    let within = slice_get_within mails place m found in
    let at : get_or mails place m ≡ m = get_or_from_slice_get mails place m m found in
    let moved = sum_by-swap_remove f mails place m within in
    rw found (rw at at moved)

-- what passes a test weighs 1
abbrev bit : Bool → ℕ
bit b = cond b 1 0

-- counts of ids after a post and a take
count_of-without : (id : MailId) (mails : List Mail) (place : ℕ) → count_of id (without_mail_at place mails) ≤ count_of id mails
count_of-without id mails place = by_place (slice_get mails place) refl where
  by_place : (o : Option Mail) → slice_get mails place ≡ o → count_of id (without_mail_at place mails) ≤ count_of id mails
  by_place None e = rw e (omega arith)
  by_place (Some m) e = omega (arith, sum_by-without (λ x. cond (of_id id x) 1 0) mails place m e)

pub AreDistinct-without : (mails : List Mail) (place : ℕ) → AreDistinct mails → AreDistinct (without_mail_at place mails)
AreDistinct-without mails place distinct id = omega (arith, distinct id, count_of-without id mails place)

pub AreDistinct-posted : (mails : List Mail) (m : Mail) → AreDistinct mails → count_of m.id mails ≡ 0 → AreDistinct (posted m mails)
AreDistinct-posted mails m distinct new id = by_test (same_id m.id id) refl where
  by_test : (t : Bool) → same_id m.id id ≡ t → count_of id (posted m mails) ≤ 1
  by_test true e =
      let same = same_id-true m.id id e in
      let none : count_of id mails ≡ 0 = rw (← same) new in
      let more = sum_by_push (λ x. cond (of_id id x) 1 0) mails m in
      let one : bit (same_id m.id id) ≡ 1 = rw e refl in
      omega (arith, none, more, one)
  by_test false e =
      let more = sum_by_push (λ x. cond (of_id id x) 1 0) mails m in
      let none : bit (same_id m.id id) ≡ 0 = rw e refl in
      omega (arith, distinct id, more, none)

-- where no mail passes, none is counted
none_passes : (p : Mail → Bool) (mails : List Mail) → length mails ≤ position_or_len p mails → count_by p mails ≡ 0
none_passes p [] far = refl
none_passes p (m ∷ mails) far = by_test (p m) refl (none_passes p mails) where
  by_test : (t : Bool) → p m ≡ t → (length mails ≤ position_or_len p mails → count_by p mails ≡ 0) → count_by p (m ∷ mails) ≡ 0
  by_test true e rest = let far' = rw e at far in absurd (omega arith)
  by_test false e rest =
      let far' = rw e at far in
      let none : count_by p mails ≡ 0 = rest (omega arith) in
      sum_by-cons (λ x. cond (p x) 1 0) m mails ∙ rw e (omega (arith, none))

passes_one : (p : Mail → Bool) (mails : List Mail) (i : ℕ) (d : Mail) → i < length mails → p (get_or mails i d) ≡ true → 1 ≤ count_by p mails
passes_one p mails i d within pass =
    let least = get_or-le-sum_by (λ x. cond (p x) 1 0) mails i d within in
    let least' = rw pass at least in
    omega (arith, least')

-- two mails that pass count at least 2
passes_two : (p : Mail → Bool) (mails : List Mail) (i j : ℕ) (d : Mail) → i < j → j < length mails → p (get_or mails i d) ≡ true → p (get_or mails j d) ≡ true → 2 ≤ count_by p mails
passes_two p mails i j d before within first second =
    let len : length (take j mails) ≡ j = length-take-le j mails (omega arith) in
    let early : p (get_or (take j mails) i d) ≡ true = rw (get_or-take j mails i d before) first in
    let front : 1 ≤ count_by p (take j mails) = passes_one p (take j mails) i d (omega (arith, len)) early in
    let more = sum_by-drop_more (λ x. cond (p x) 1 0) mails j d within in
    let more' = rw second at more in
    omega (arith, front, more', sum_by-take-drop (λ x. cond (p x) 1 0) mails j)

some_passes : (p : Mail → Bool) (mails : List Mail) → position_or_len p mails < length mails → 1 ≤ count_by p mails
some_passes p [] before = absurd (omega arith)
some_passes p (m ∷ mails) before =
    passes_one p (m ∷ mails) (position_or_len p (m ∷ mails)) m before (passes_at_first p (m ∷ mails) m before)

-- no mail is found exactly where none is counted
pub position-none : (p : Mail → Bool) (mails : List Mail) → IsNone (position p mails) ↔ (count_by p mails ≡ 0)
position-none p mails = by_test (nat_lt (position_or_len p mails) (length mails)) refl where
  by_test : (t : Bool) → nat_lt (position_or_len p mails) (length mails) ≡ t → IsNone (position p mails) ↔ (count_by p mails ≡ 0)
  by_test true e =
      let some = some_passes p mails (ltb-true (position_or_len p mails) (length mails) e) in
      rw e ((λ h. cc), (λ none. absurd (omega arith)))
  by_test false e =
      let none = none_passes p mails (ltb-false (position_or_len p mails) (length mails) e) in
      rw e ((λ h. none), (λ h. refl))

-- a mail that is found by an id has it
pub found_has_id : (id : MailId) (mails : List Mail) (place : ℕ) (m : Mail) → position (of_id id) mails ≡ Some place → slice_get mails place ≡ Some m → m.id ≡ id
found_has_id id mails place m found at =
    let passes = (position-Some (of_id id) mails place m found).1 in
    let here : get_or mails place m ≡ m = get_or_from_slice_get mails place m m at in
    same_id-true m.id id (rw here at passes)

-- what is true of a pool's mails stays so
pub IsPool-posted : (mails : List Mail) (m : Mail) → IsPool mails → count_of m.id mails ≡ 0 → length mails < 4294967295 → IsPool (posted m mails)
IsPool-posted mails m pool new room =
    record { within = omega (arith, length-append mails (m ∷ [])); distinct = AreDistinct-posted mails m pool.distinct new }

pub length-without : (mails : List Mail) (place : ℕ) → length (without_mail_at place mails) ≤ length mails
length-without mails place = by_place (slice_get mails place) refl where
  by_place : (o : Option Mail) → slice_get mails place ≡ o → length (without_mail_at place mails) ≤ length mails
  by_place None e = rw e (omega arith)
  by_place (Some m) e = rw e (omega (arith, length-take {A = Mail}, length-set {A = Mail}))

pub IsPool-without : (mails : List Mail) (place : ℕ) → IsPool mails → IsPool (without_mail_at place mails)
IsPool-without mails place pool =
    record { within = omega (arith, pool.within, length-without mails place); distinct = AreDistinct-without mails place pool.distinct }

-- the place of the mail whose id is looked for
pub position-of_id : (mails : List Mail) (place : ℕ) (m : Mail) → AreDistinct mails → slice_get mails place ≡ Some m → position (of_id m.id) mails ≡ Some place
position-of_id mails place m distinct found =
    let within = slice_get_within mails place m found in
    let at : get_or mails place m ≡ m = get_or_from_slice_get mails place m m found in
    let here : same_id (get_or mails place m).id m.id ≡ true = rw at (same_id-refl m.id) in
    let first : position_or_len (of_id m.id) mails ≡ place =
    position_or_len_is (of_id m.id) mails place m (omega arith) (λ k before. by_test k before (same_id (get_or mails k m).id m.id) refl here) (λ _. here) in
    rw first (grind (arith, nat_tests)) where
      by_test : (k : ℕ) → k < place → (t : Bool) → same_id (get_or mails k m).id m.id ≡ t → same_id (get_or mails place m).id m.id ≡ true → same_id (get_or mails k m).id m.id ≡ false
      by_test k before true e here =
          absurd (omega (arith, distinct m.id, passes_two (of_id m.id) mails k place m before (slice_get_within mails place m found) e here))
      by_test k before false e here = e

pub taken-of_id : (mails : List Mail) (place : ℕ) (m : Mail) → AreDistinct mails → slice_get mails place ≡ Some m → removed m.id mails ≡ (Some m, without_mail_at place mails)
taken-of_id mails place m distinct found = rw (position-of_id mails place m distinct found, found) refl

-- where at least one mail passes a test, and where none does
pub counted-place : (p : Mail → Bool) (mails : List Mail) → 1 ≤ count_by p mails → (place : ℕ) × (m : Mail) × (slice_get mails place ≡ Some m) × (p m ≡ true)
counted-place p [] some = absurd (omega arith)
counted-place p (m ∷ mails) some = by_test (p m) refl (counted-place p mails) where
  by_test : (t : Bool) → p m ≡ t → (1 ≤ count_by p mails → (place : ℕ) × (x : Mail) × (slice_get mails place ≡ Some x) × (p x ≡ true)) → (place : ℕ) × (x : Mail) × (slice_get (m ∷ mails) place ≡ Some x) × (p x ≡ true)
  by_test true e rest = (0, m, refl, e)
  by_test false e rest =
      let none : bit (p m) ≡ 0 = rw e refl in
      let found = rest (omega (arith, some, none, sum_by-cons (λ x. cond (p x) 1 0) m mails)) in
      (suc found.0, found.1, found.2, found.3)

-- what a mail weighs is within the weight of all
pub weight-within : (f : Mail → ℕ) (mails : List Mail) (place : ℕ) (m : Mail) → slice_get mails place ≡ Some m → f m ≤ sum_by f mails
weight-within f mails place m found = omega (arith, sum_by-without f mails place m found)

pub place-counted : (p : Mail → Bool) (mails : List Mail) (place : ℕ) (m : Mail) → slice_get mails place ≡ Some m → p m ≡ true → 1 ≤ count_by p mails
place-counted p mails place m found pass =
    let one : bit (p m) ≡ 1 = rw pass refl in
    omega (arith, one, weight-within (λ x. cond (p x) 1 0) mails place m found)

pub passes-somewhere : (p : Mail → Bool) (mails : List Mail) → (1 ≤ count_by p mails) ↔ ((place : ℕ) × (m : Mail) × (slice_get mails place ≡ Some m) × (p m ≡ true))
passes-somewhere p mails =
    (counted-place p mails, λ found. place-counted p mails found.0 found.1 found.2 found.3)

-- a mail that is found by its id is taken by it
pub position-found : (id : MailId) (mails : List Mail) (place : ℕ) → position (of_id id) mails ≡ Some place → (m : Mail) × IsFound id mails place m
position-found id mails place e = by_mail (slice_get mails place) refl where
  by_mail : (o : Option Mail) → slice_get mails place ≡ o → (m : Mail) × IsFound id mails place m
  by_mail None f =
      let cases = slice_get_cases mails place in
      absurd (grind (arith, nat_tests))
  by_mail (Some m) f =
      let is : removed id mails ≡ (Some m, without_mail_at place mails) = rw (e, f) refl in
      (m, record { here = f; named = found_has_id id mails place m e f; takes = is })

pub position-IsFound : (id : MailId) (mails : List Mail) (o : Option ℕ) → o ≡ position (of_id id) mails → IfSome o (λ place. (m : Mail) × IsFound id mails place m)
position-IsFound id mails None e = record {}
position-IsFound id mails (Some place) e = position-found id mails place (sym e)

-- a mail that is counted by its id is found by it
pub found-counted : (id : MailId) (mails : List Mail) → 1 ≤ count_of id mails → (place : ℕ) × (m : Mail) × IsFound id mails place m
found-counted id mails some = by_place (position (of_id id) mails) refl where
  by_place : (o : Option ℕ) → position (of_id id) mails ≡ o → (place : ℕ) × (m : Mail) × IsFound id mails place m
  by_place None e =
      absurd (omega (arith, some, (position-none (of_id id) mails).0 (rw e refl)))
  by_place (Some place) e =
      let found = position-found id mails place e in
      (place, found.0, found.1)

-- a place where a mail with an id stands is the one that is found by it
pub place-of_id : (id : MailId) (mails : List Mail) (place : ℕ) → AreDistinct mails → (m : Mail) × (slice_get mails place ≡ Some m) × (m.id ≡ id) → position (of_id id) mails ≡ Some place
place-of_id id mails place distinct (m, here, named) =
    subst (λ (x : MailId). position (of_id x) mails ≡ Some place) named (position-of_id mails place m distinct here)

-- what is taken stood at a place
pub taken-place : (id : MailId) (mails : List Mail) (m : Mail) → (removed id mails).0 ≡ Some m → (place : ℕ) × IsFound id mails place m
taken-place id mails m took = by_place (position (of_id id) mails) refl where
  by_place : (o : Option ℕ) → position (of_id id) mails ≡ o → (place : ℕ) × IsFound id mails place m
  by_place None e = let never = rw e at took in absurd (cc)
  by_place (Some place) e =
      let here = rw e at took in
      let is : removed id mails ≡ (Some m, without_mail_at place mails) = rw (e, here) refl in
      (place, record { here = here; named = found_has_id id mails place m e here; takes = is })

pub taken-none : (id : MailId) (mails : List Mail) → count_of id mails ≡ 0 → removed id mails ≡ (None, mails)
taken-none id mails none = by_place (position (of_id id) mails) refl where
  by_place : (o : Option ℕ) → position (of_id id) mails ≡ o → removed id mails ≡ (None, mails)
  by_place None e = rw e refl
  by_place (Some place) e =
      let never = (position-none (of_id id) mails).1 none in
      absurd (cc)

pub sum_by-taken : (f : Mail → ℕ) (id : MailId) (mails : List Mail) (m : Mail) → (removed id mails).0 ≡ Some m → sum_by f (removed id mails).1 + f m ≡ sum_by f mails
sum_by-taken f id mails m took =
    let found = taken-place id mails m took in
    rw found.1.takes (sum_by-without f mails found.0 m found.1.here)

-- counts of ids
pub count_of-posted : (id : MailId) (mails : List Mail) (m : Mail) → count_of id (posted m mails) ≡ count_of id mails + bit (same_id m.id id)
count_of-posted id mails m = sum_by_push (λ x. cond (of_id id x) 1 0) mails m

pub count_of-taken : (id : MailId) (mails : List Mail) → AreDistinct mails → count_of id (removed id mails).1 ≡ 0
count_of-taken id mails distinct = by_count (nat_lt 0 (count_of id mails)) refl where
  by_count : (t : Bool) → nat_lt 0 (count_of id mails) ≡ t → count_of id (removed id mails).1 ≡ 0
  by_count true e =
      let found = found-counted id mails (ltb-true 0 (count_of id mails) e) in
      let m = found.1 in
      let same : bit (same_id m.id id) ≡ 1 = rw (found.2.named, same_id-refl id) refl in
      rw found.2.takes (omega (arith, distinct id, same, sum_by-without (λ x. cond (of_id id x) 1 0) mails found.0 m found.2.here))
  by_count false e =
      let none : count_of id mails ≡ 0 = grind (arith, nat_tests) in
      rw (taken-none id mails none) none

pub count_of-taken_other : (id other : MailId) (mails : List Mail) → same_id id other ≡ false → count_of other (removed id mails).1 ≡ count_of other mails
count_of-taken_other id other mails differ = by_count (nat_lt 0 (count_of id mails)) refl where
  by_count : (t : Bool) → nat_lt 0 (count_of id mails) ≡ t → count_of other (removed id mails).1 ≡ count_of other mails
  by_count true e =
      let found = found-counted id mails (ltb-true 0 (count_of id mails) e) in
      let m = found.1 in
      let none : bit (same_id m.id other) ≡ 0 = rw (found.2.named, differ) refl in
      rw found.2.takes (omega (arith, none, sum_by-without (λ x. cond (of_id other x) 1 0) mails found.0 m found.2.here))
  by_count false e =
      let none : count_of id mails ≡ 0 = grind (arith, nat_tests) in
      rw (taken-none id mails none) refl

pub AreDistinct-taken : (id : MailId) (mails : List Mail) → AreDistinct mails → AreDistinct (removed id mails).1
AreDistinct-taken id mails distinct = by_place (position (of_id id) mails) where
  by_place : (o : Option ℕ) → AreDistinct (removed_at mails o).1
  by_place None = distinct
  by_place (Some place) = AreDistinct-without mails place distinct

-- where no mail passes a test, none that stands at a place does
pub uncounted : (p : Mail → Bool) (mails : List Mail) (place : ℕ) (m : Mail) → count_by p mails ≡ 0 → slice_get mails place ≡ Some m → p m ≡ false
uncounted p mails place m none here = by_test (p m) refl where
  by_test : (t : Bool) → p m ≡ t → p m ≡ false
  by_test true e = absurd (omega (arith, none, place-counted p mails place m here e))
  by_test false e = e

-- where the mails weigh something, one of them does
pub weight-somewhere : (f : Mail → ℕ) (mails : List Mail) → 1 ≤ sum_by f mails → (place : ℕ) × (m : Mail) × (slice_get mails place ≡ Some m) × (1 ≤ f m)
weight-somewhere f [] some = absurd (omega arith)
weight-somewhere f (m ∷ mails) some = by_test (nat_lt 0 (f m)) refl (weight-somewhere f mails) where
  by_test : (t : Bool) → nat_lt 0 (f m) ≡ t → (1 ≤ sum_by f mails → (place : ℕ) × (x : Mail) × (slice_get mails place ≡ Some x) × (1 ≤ f x)) → (place : ℕ) × (x : Mail) × (slice_get (m ∷ mails) place ≡ Some x) × (1 ≤ f x)
  by_test true e rest = (0, m, refl, grind (arith, nat_tests))
  by_test false e rest =
      let none = ltb-false 0 (f m) e in
      let found = rest (omega (arith, some, none, sum_by-cons f m mails)) in
      (suc found.0, found.1, found.2, found.3)

-- weights that agree on each mail add up to the same, and two weights add up side by side
pub weight-same : (f g : Mail → ℕ) (mails : List Mail) → ((m : Mail) → f m ≡ g m) → sum_by f mails ≡ sum_by g mails
weight-same f g [] same = refl
weight-same f g (m ∷ mails) same =
    omega (arith, same m, weight-same f g mails same, sum_by-cons f m mails, sum_by-cons g m mails)

pub weight-both : (f g : Mail → ℕ) (mails : List Mail) → sum_by (λ m. f m + g m) mails ≡ sum_by f mails + sum_by g mails
weight-both f g [] = refl
weight-both f g (m ∷ mails) =
    omega (arith, weight-both f g mails, sum_by-cons (λ x. f x + g x) m mails, sum_by-cons f m mails, sum_by-cons g m mails)

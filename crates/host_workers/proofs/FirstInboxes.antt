-- The inboxes as a round begins hold the mails in flight, each once, and each the mails that go to its actor.
use Rattle.std.proofs.Common.{◌≡◌, ◌≤◌, ◌^◌, Bool, true, false, List, [], ◌∷◌, ◌++◌, map, get_or, refl, sym, ap, ◌∙◌, subst, arith, IsPermutation}
use Rattle.std.specs.Prelude.{count_by, flat_map, All}
use Rattle.std.proofs.lemmas.List.{append_assoc}
use Rattle.std.proofs.lemmas.List.Sums.{sum_by-cons}
use Rattle.std.proofs.lemmas.List.Elements.{All-nil, All-cons, All-head, All-tail}
use Rattle.std.proofs.lemmas.List.Sorted.{IsPermutation-refl, IsPermutation-trans, IsPermutation-cons, IsPermutation-append_left, IsPermutation-append_right, IsPermutation-append_comm, IsPermutation-map}
use Rattle.message_net.specs.declared.actor.Actor.{Actor}
use Rattle.message_net.specs.declared.message.Mail.{Mail}
use Rattle.message_net.specs.Id.{same_actor}
use Rattle.message_net.proofs.PoolLemmas.{same_actor-true}
use Rattle.machine_rules.specs.Flight.{bit}
use Rattle.registration_protocol.specs.Node.{Setting}
use Rattle.grant_log.specs.declared.posted.Posted.{Posted}
use Rattle.bank_hall.specs.Halls.{IsInboxOf}
use Rattle.host_workers.specs.Members.{IsIn}
use Rattle.host_workers.specs.Steps.{with_stamp}
use Rattle.host_workers.specs.Rounds.{actors, IsInbox}
use Rattle.host_workers.proofs.Actors.{actor-once}
use Rattle.host_workers.proofs.Weights.{filter-true, filter-false}
use Rattle.host_workers.specs.Inboxes.{goes_to, inbox_at_first}

-- ---- one mail more

first-with : (m : Mail) (mails : List Mail) (a : Actor) → goes_to a m ≡ true → inbox_at_first (m ∷ mails) a ≡ with_stamp 0 m ∷ inbox_at_first mails a
first-with m mails a goes = ap (map (with_stamp 0)) (filter-true (goes_to a) m mails goes)

first-without : (m : Mail) (mails : List Mail) (a : Actor) → goes_to a m ≡ false → inbox_at_first (m ∷ mails) a ≡ inbox_at_first mails a
first-without m mails a other = ap (map (with_stamp 0)) (filter-false (goes_to a) m mails other)

-- an element may stand behind others as well as before them
module _ {X : Type 0} where
  moved-behind : (x : X) (front back : List X) → IsPermutation (x ∷ (front ++ back)) (front ++ x ∷ back)
  moved-behind x front back =
      subst (IsPermutation (x ∷ (front ++ back))) (append_assoc front (x ∷ []) back) (IsPermutation-append_left back (x ∷ front) (front ++ x ∷ []) (IsPermutation-append_comm (x ∷ []) front))

-- it is in no inbox of actors to none of which it goes
in-none : (m : Mail) (mails : List Mail) (among : List Actor) → count_by (λ a. same_actor a m.to) among ≡ 0 → flat_map (inbox_at_first (m ∷ mails)) among ≡ flat_map (inbox_at_first mails) among
in-none m mails [] none = refl
in-none m mails (a ∷ among) none = by_test (goes_to a m) refl (in-none m mails among) where
  by_test : (t : Bool) → goes_to a m ≡ t → (count_by (λ b. same_actor b m.to) among ≡ 0 → flat_map (inbox_at_first (m ∷ mails)) among ≡ flat_map (inbox_at_first mails) among)
      → flat_map (inbox_at_first (m ∷ mails)) (a ∷ among) ≡ flat_map (inbox_at_first mails) (a ∷ among)
  by_test true e rest =
      let one : bit (goes_to a m) ≡ 1 = ap bit e in
      absurd (omega (arith, none, one, sum_by-cons (λ b. bit (same_actor b m.to)) a among))
  by_test false e rest =
      let no : bit (goes_to a m) ≡ 0 = ap bit e in
      let later = rest (omega (arith, none, no, sum_by-cons (λ b. bit (same_actor b m.to)) a among)) in
      ap (λ l. l ++ flat_map (inbox_at_first (m ∷ mails)) among) (first-without m mails a e) ∙ ap (λ l. inbox_at_first mails a ++ l) later

-- and in one inbox of actors to one of which it goes
in-one : (m : Mail) (mails : List Mail) (among : List Actor) → count_by (λ a. same_actor a m.to) among ≡ 1
    → IsPermutation (with_stamp 0 m ∷ flat_map (inbox_at_first mails) among) (flat_map (inbox_at_first (m ∷ mails)) among)
in-one m mails [] one = absurd (omega (arith, one))
in-one m mails (a ∷ among) one = by_test (goes_to a m) refl (in-one m mails among) where
  old : List Posted
  old = flat_map (inbox_at_first mails) among

  new : List Posted
  new = flat_map (inbox_at_first (m ∷ mails)) among

  by_test : (t : Bool) → goes_to a m ≡ t → (count_by (λ b. same_actor b m.to) among ≡ 1 → IsPermutation (with_stamp 0 m ∷ old) new)
      → IsPermutation (with_stamp 0 m ∷ flat_map (inbox_at_first mails) (a ∷ among)) (flat_map (inbox_at_first (m ∷ mails)) (a ∷ among))
  by_test true e rest =
      let yes : bit (goes_to a m) ≡ 1 = ap bit e in
      let later = in-none m mails among (omega (arith, one, yes, sum_by-cons (λ b. bit (same_actor b m.to)) a among)) in
      let is : flat_map (inbox_at_first (m ∷ mails)) (a ∷ among) ≡ with_stamp 0 m ∷ (inbox_at_first mails a ++ old) =
      ap (λ l. l ++ new) (first-with m mails a e) ∙ ap (λ l. with_stamp 0 m ∷ (inbox_at_first mails a ++ l)) later in
      subst (IsPermutation (with_stamp 0 m ∷ (inbox_at_first mails a ++ old))) (sym is) (IsPermutation-refl (with_stamp 0 m ∷ (inbox_at_first mails a ++ old)))
  by_test false e rest =
      let no : bit (goes_to a m) ≡ 0 = ap bit e in
      let later = rest (omega (arith, one, no, sum_by-cons (λ b. bit (same_actor b m.to)) a among)) in
      let is : flat_map (inbox_at_first (m ∷ mails)) (a ∷ among) ≡ inbox_at_first mails a ++ new = ap (λ l. l ++ new) (first-without m mails a e) in
      let behind = moved-behind (with_stamp 0 m) (inbox_at_first mails a) old in
      let moved = IsPermutation-append_right (inbox_at_first mails a) (with_stamp 0 m ∷ old) new later in
      subst (IsPermutation (with_stamp 0 m ∷ (inbox_at_first mails a ++ old))) (sym is) (IsPermutation-trans (with_stamp 0 m ∷ (inbox_at_first mails a ++ old)) (inbox_at_first mails a ++ with_stamp 0 m ∷ old) (inbox_at_first mails a ++ new) behind moved)

-- ---- all mails

no-mails : (among : List Actor) → flat_map (inbox_at_first []) among ≡ []
no-mails [] = refl
no-mails (a ∷ among) = no-mails among

-- where each mail goes to one of the actors, their inboxes have all mails
among-actors : (mails : List Mail) (among : List Actor) → All (λ m. count_by (λ a. same_actor a m.to) among ≡ 1) mails → IsPermutation (map (with_stamp 0) mails) (flat_map (inbox_at_first mails) among)
among-actors [] among each = subst (IsPermutation []) (sym (no-mails among)) (IsPermutation-refl [])
among-actors (m ∷ mails) among each =
    let once = All-head (λ (x : Mail). count_by (λ a. same_actor a x.to) among ≡ 1) m mails each in
    let rest = among-actors mails among (All-tail (λ (x : Mail). count_by (λ a. same_actor a x.to) among ≡ 1) m mails each) in
    IsPermutation-trans (with_stamp 0 m ∷ map (with_stamp 0) mails) (with_stamp 0 m ∷ flat_map (inbox_at_first mails) among) (flat_map (inbox_at_first (m ∷ mails)) among) (IsPermutation-cons (with_stamp 0 m) (map (with_stamp 0) mails) (flat_map (inbox_at_first mails) among) rest) (in-one m mails among once)

-- all go to actors of the machine
abbrev pub AreInside : Setting → List Mail → Type 0
AreInside C mails = All (λ (m : Mail). IsIn C m.to) mails

-- the inboxes of a machine's actors have all mails in flight, which may stand in another order
pub first-began : (C : Setting) (mails flying : List Mail) → AreInside C mails → IsPermutation flying mails → IsPermutation (map (with_stamp 0) flying) (flat_map (inbox_at_first mails) (actors C))
first-began C mails flying inside same =
    IsPermutation-trans (map (with_stamp 0) flying) (map (with_stamp 0) mails) (flat_map (inbox_at_first mails) (actors C)) (IsPermutation-map (with_stamp 0) flying mails same) (among-actors mails (actors C) (λ i d within. actor-once C (get_or mails i d).to ∙ ap bit (inside i d within)))

-- ---- what holds of each mail of a first inbox

each-first : (P : Posted → Type 0) (a : Actor) (mails : List Mail) → ((m : Mail) → m.to ≡ a → P (with_stamp 0 m)) → All P (inbox_at_first mails a)
each-first P a [] each = All-nil P
each-first P a (m ∷ mails) each = by_test (goes_to a m) refl (each-first P a mails each) where
  by_test : (t : Bool) → goes_to a m ≡ t → All P (inbox_at_first mails a) → All P (inbox_at_first (m ∷ mails) a)
  by_test true e rest = subst (All P) (sym (first-with m mails a e)) (All-cons P (with_stamp 0 m) (inbox_at_first mails a) (each m (sym (same_actor-true a m.to e))) rest)
  by_test false e rest = subst (All P) (sym (first-without m mails a e)) rest

-- it goes to the inbox's actor, and has an early stamp
pub first-addressed : (mails : List Mail) (a : Actor) → IsInbox a (inbox_at_first mails a)
first-addressed mails a = each-first (λ (p : Posted). p.mail.to ≡ a) a mails (λ m to. to)

pub first-inbox : (mails : List Mail) (a : Actor) → IsInboxOf a (inbox_at_first mails a)
first-inbox mails a = each-first (λ (p : Posted). (p.mail.to ≡ a) × (p.stamp ≤ 2 ^ 63)) a mails (λ m to. (to, omega arith))

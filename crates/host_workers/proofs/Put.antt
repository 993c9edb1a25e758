-- What putting a mail into an inbox makes of the inboxes of all actors.
use Rattle.std.proofs.Common.{◌≡◌, ◌≢◌, ℕ, zero, suc, ◌+◌, ◌<◌, ◌≤◌, ◌==◌, true, false, cond, List, [], ◌∷◌, ◌++◌, length, map, filter, slice_set, slice_index_or, take, Some, slice_get, refl, sym, ap, ◌∙◌, subst, arith}
use Rattle.std.specs.List.{range_with_len}
use Rattle.std.proofs.lemmas.Bool.Decides.{nat_tests}
use Rattle.std.proofs.lemmas.List.{map-append, append-nil, map-set, take_more}
use Rattle.std.proofs.lemmas.Option.{slice_get_within, get_or_from_slice_get}
use Rattle.std.proofs.lemmas.List.Elements.{filter-append}
use Rattle.dn_base.specs.declared.ids.Shape.{Shape}
use Rattle.message_net.specs.declared.actor.Actor.{Actor}
use Rattle.message_net.specs.declared.actor.Actor.TheVariants.{Core, Bank, Keeper}
use Rattle.message_net.specs.declared.message.Mail.{Mail}
use Rattle.message_net.specs.Id.{same_actor}
use Rattle.message_net.proofs.PoolLemmas.{same_actor-refl}
use Rattle.grant_log.specs.declared.posted.Posted.{Posted}
use Rattle.host_workers.specs.Steps.{with_stamp}
use Rattle.host_workers.specs.Rounds.{core_at, bank_at}
use Rattle.host_workers.specs.Inboxes.{InboxParts, put_at, put_in, goes_to, mails_to, inbox_at_first, AreFirstInboxes}

-- ---- one inbox

-- the first inbox of an actor once one more mail is in flight: with that mail if it goes to the actor
pub first-same : (mails : List Mail) (m : Mail) (a : Actor) → goes_to a m ≡ true → inbox_at_first (mails ++ m ∷ []) a ≡ inbox_at_first mails a ++ with_stamp 0 m ∷ []
first-same mails m a goes =
    let one : filter (goes_to a) (m ∷ []) ≡ m ∷ [] = ap (λ b. cond b (m ∷ []) []) goes in
    ap (map (with_stamp 0)) (filter-append (goes_to a) mails (m ∷ []) ∙ ap (λ l. mails_to a mails ++ l) one) ∙ map-append (with_stamp 0) (mails_to a mails) (m ∷ [])

pub first-other : (mails : List Mail) (m : Mail) (a : Actor) → goes_to a m ≡ false → inbox_at_first (mails ++ m ∷ []) a ≡ inbox_at_first mails a
first-other mails m a other =
    let none : filter (goes_to a) (m ∷ []) ≡ [] = ap (λ b. cond b (m ∷ []) []) other in
    ap (map (with_stamp 0)) (filter-append (goes_to a) mails (m ∷ []) ∙ ap (λ l. mails_to a mails ++ l) none ∙ append-nil (mails_to a mails))

-- ---- the inboxes of a range of actors

module _ {X : Type 0} (f g : ℕ → X) where
  range-same : (from n : ℕ) → ((i : ℕ) → from ≤ i → g i ≡ f i) → map f (range_with_len from n) ≡ map g (range_with_len from n)
  range-same from zero same = refl
  range-same from (suc n) same =
      ap (λ x. x ∷ map f (range_with_len (from + 1) n)) (sym (same from (omega arith)))
      ∙ ap (λ l. g from ∷ l) (range-same (from + 1) n (λ i least. same i (omega (arith, least))))

put-range : (f g : ℕ → List Posted) (p : Posted) (from n place at : ℕ) → from + place ≡ at → g at ≡ f at ++ p ∷ [] → ((i : ℕ) → i ≢ at → g i ≡ f i)
    → put_at p place (map f (range_with_len from n)) ≡ map g (range_with_len from n)
put-range f g p from zero place at is here others = refl
put-range f g p from (suc n) zero at is here others =
    let first : from ≡ at = omega (arith, is) in
    let now : f from ++ p ∷ [] ≡ g from = subst (λ i. f i ++ p ∷ [] ≡ g i) (sym first) (sym here) in
    ap (λ x. x ∷ map f (range_with_len (from + 1) n)) now
    ∙ ap (λ l. g from ∷ l) (range-same f g (from + 1) n (λ i least. others i (λ e. absurd (omega (arith, least, first, e)))))
put-range f g p from (suc n) (suc place) at is here others =
    ap (λ x. x ∷ put_at p place (map f (range_with_len (from + 1) n))) (sym (others from (λ e. absurd (omega (arith, is, e)))))
    ∙ ap (λ l. g from ∷ l) (put-range f g p (from + 1) n place at (omega (arith, is)) here others)

-- ---- the inboxes of all actors

apart-cores : (i : ℕ) (m : Mail) (c : ℕ) → m.to ≡ core_at c → i ≢ c → goes_to (core_at i) m ≡ false
apart-cores i m c is differ =
    let no : (i == c) ≡ false = grind (arith, nat_tests, differ) in
    ap (same_actor (core_at i)) is ∙ no

apart-banks : (i : ℕ) (m : Mail) (b : ℕ) → m.to ≡ bank_at b → i ≢ b → goes_to (bank_at i) m ≡ false
apart-banks i m b is differ =
    let no : (i == b) ≡ false = grind (arith, nat_tests, differ) in
    ap (same_actor (bank_at i)) is ∙ no

-- one more mail is in flight, and is put into the inbox of the actor that it goes to
pub first-put : (shape : Shape) (mails : List Mail) (m : Mail) (inboxes : InboxParts) → AreFirstInboxes shape mails inboxes
    → AreFirstInboxes shape (mails ++ m ∷ []) (put_in (with_stamp 0 m) m.to inboxes)
first-put shape mails m inboxes first = by_actor m.to refl where
  now : Actor → List Posted
  now a = inbox_at_first (mails ++ m ∷ []) a

  before : Actor → List Posted
  before a = inbox_at_first mails a

  cores-still : ((i : ℕ) → goes_to (core_at i) m ≡ false) → inboxes.cores ≡ map (λ c. now (core_at c)) (range_with_len 0 shape.cores)
  cores-still none = first.cores ∙ range-same (λ c. before (core_at c)) (λ c. now (core_at c)) 0 shape.cores (λ i least. first-other mails m (core_at i) (none i))

  banks-still : ((i : ℕ) → goes_to (bank_at i) m ≡ false) → inboxes.banks ≡ map (λ b. now (bank_at b)) (range_with_len 0 shape.banks)
  banks-still none = first.banks ∙ range-same (λ b. before (bank_at b)) (λ b. now (bank_at b)) 0 shape.banks (λ i least. first-other mails m (bank_at i) (none i))

  goes : (a : Actor) → m.to ≡ a → goes_to a m ≡ true
  goes a is = ap (same_actor a) is ∙ same_actor-refl a

  by_actor : (a : Actor) → m.to ≡ a → AreFirstInboxes shape (mails ++ m ∷ []) (put_in (with_stamp 0 m) a inboxes)
  by_actor (Core core) is = record {
    cores = ap (put_at (with_stamp 0 m) core.0) first.cores ∙ put-range (λ c. before (core_at c)) (λ c. now (core_at c)) (with_stamp 0 m) 0 shape.cores core.0 core.0 (omega arith) (first-same mails m (core_at core.0) (goes (Core core) is)) (λ i differ. first-other mails m (core_at i) (apart-cores i m core.0 is differ));
    banks = banks-still (λ i. ap (same_actor (bank_at i)) is);
    keeper = first.keeper ∙ sym (first-other mails m Keeper (ap (same_actor Keeper) is));
  }
  by_actor (Bank bank) is = record {
    cores = cores-still (λ i. ap (same_actor (core_at i)) is);
    banks = ap (put_at (with_stamp 0 m) bank.0) first.banks ∙ put-range (λ b. before (bank_at b)) (λ b. now (bank_at b)) (with_stamp 0 m) 0 shape.banks bank.0 bank.0 (omega arith) (first-same mails m (bank_at bank.0) (goes (Bank bank) is)) (λ i differ. first-other mails m (bank_at i) (apart-banks i m bank.0 is differ));
    keeper = first.keeper ∙ sym (first-other mails m Keeper (ap (same_actor Keeper) is));
  }
  by_actor Keeper is = record {
    cores = cores-still (λ i. ap (same_actor (core_at i)) is);
    banks = banks-still (λ i. ap (same_actor (bank_at i)) is);
    keeper = ap (λ l. l ++ with_stamp 0 m ∷ []) first.keeper ∙ sym (first-same mails m Keeper (goes Keeper is));
  }

-- the next mail of the pool is put into its inbox
pub first-next : (shape : Shape) (mails : List Mail) (place : ℕ) (m : Mail) (inboxes now : InboxParts) → slice_get mails place ≡ Some m → now ≡ put_in (with_stamp 0 m) m.to inboxes
    → AreFirstInboxes shape (take place mails) inboxes → AreFirstInboxes shape (take (place + 1) mails) now
first-next shape mails place m inboxes now here put first =
    let more = take_more mails place m (slice_get_within mails place m here) ∙ ap (λ x. take place mails ++ x ∷ []) (get_or_from_slice_get mails place m m here) in
    subst (AreFirstInboxes shape (take (place + 1) mails)) (sym put) (subst (λ l. AreFirstInboxes shape l (put_in (with_stamp 0 m) m.to inboxes)) (sym more) (first-put shape (take place mails) m inboxes first))

-- ---- what stands at a place of several inboxes

module _ {X : Type 0} where
  index-map : (row : X → List Posted) (xs : List X) (place : ℕ) (x : X) → place < length xs → x ≡ slice_index_or xs place x → slice_index_or (map row xs) place [] ≡ row x
  index-map row [] place x within is = absurd (omega (arith, within))
  index-map row (y ∷ xs) zero x within is = ap row (sym is)
  index-map row (y ∷ xs) (suc place) x within is = index-map row xs place x (omega (arith, within)) is

  -- a mail was put into the inbox at a place
  pub put-place : (row : X → List Posted) (xs : List X) (place : ℕ) (x y : X) (p : Posted) → place < length xs → x ≡ slice_index_or xs place x → row y ≡ row x ++ p ∷ [] → map row (slice_set xs place y) ≡ put_at p place (map row xs)
  put-place row xs place x y p within is more =
      map-set row xs place y ∙ ap (slice_set (map row xs) place) (more ∙ ap (λ l. l ++ p ∷ []) (sym (index-map row xs place x within is)))

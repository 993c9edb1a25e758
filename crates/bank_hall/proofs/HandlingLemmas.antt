-- What an actor handles in a history of its calls, whatever the actor.
use Rattle.std.proofs.Common.{◌≡◌, ℕ, ◌+◌, ◌^◌, ◌<◌, ◌≤◌, max, Bool, true, false, if◌then◌else◌, List, [], ◌∷◌, ◌++◌, map, Option, Some, None, slice_get, sym, refl, ap, ◌∙◌, subst, arith}
use Rattle.std.specs.List.{All, AllPairs, sum_by, filter_map, cons_option, swap_remove}
use Rattle.std.proofs.lemmas.List.{map-append}
use Rattle.std.proofs.lemmas.List.Sums.{sum_by-swap_remove, sum_by-cons, sum_by-append}
use Rattle.std.proofs.lemmas.List.Elements.{All-nil, All-cons, All-weaker}
use Rattle.std.proofs.lemmas.List.Kept.{AllPairs-cons}
use Rattle.std.proofs.Math.Nat.{le-max_left, le-max_right}
use Rattle.std.proofs.lemmas.Option.{slice_get-get_or, slice_get_within}
use Rattle.message_net.specs.declared.actor.Actor.{Actor}
use Rattle.grant_log.specs.declared.log.Stamped.{Stamped}
use Rattle.turn_lock.specs.declared.entry.Entry.{Entry}
use Rattle.turn_lock.specs.History.{Legal}
use Rattle.grant_log.specs.declared.posted.Posted.{Posted}
use Rattle.grant_log.specs.Stamps.{stamp_after, handling_note}
use Rattle.grant_log.specs.Inbox.{picked_out_at}
use Rattle.bank_hall.specs.Handlings.{Handling, AreStamped, GoesByMails, handlings_of}

pub plus_zero : (n : ℕ) → n + 0 ≡ n
plus_zero n = omega arith

module _ {X : Type 0} where
  pub one_sum : (f : X → ℕ) (x : X) → sum_by f (x ∷ []) ≡ f x
  one_sum f x = sum_by-cons f x [] ∙ plus_zero (f x)

  abbrev IsNothing : Option X → Type 0
  IsNothing None = Unit {0}
  IsNothing (Some x) = ⊥

  abbrev pub held : X → Option X → X
  held d None = d
  held d (Some x) = x

  abbrev pub weight_of : (X → ℕ) → Option X → ℕ
  weight_of f None = 0
  weight_of f (Some x) = f x

  pub sum_option : (f : X → ℕ) (o : Option X) (xs : List X) → sum_by f (cons_option o xs) ≡ weight_of f o + sum_by f xs
  sum_option f None xs = omega arith
  sum_option f (Some x) xs = sum_by-cons f x xs

  -- taking a mail out of an inbox
  abbrev taken_by : Bool → List X → ℕ → X → Option X × List X
  taken_by t inbox place x = if t then (Some x, swap_remove inbox place x) else (None, inbox)

  may_by : (may : X → Bool) (inbox : List X) (place : ℕ) (q p : X) (t : Bool) → may q ≡ t → (taken_by t inbox place q).0 ≡ Some p → may p ≡ true
  may_by may inbox place q p true m e = subst (λ r. may r ≡ true) (ap (held q) e) m
  may_by may inbox place q p false m e = absurd (subst IsNothing e tt)

  weight_by : (f : X → ℕ) (inbox : List X) (place : ℕ) (x : X) (t : Bool) → slice_get inbox place ≡ Some x → sum_by f (taken_by t inbox place x).1 + weight_of f (taken_by t inbox place x).0 ≡ sum_by f inbox
  weight_by f inbox place x false at = plus_zero (sum_by f inbox)
  weight_by f inbox place x true at =
      let within = slice_get_within inbox place x at in
      let same = ap (held x) (sym at ∙ slice_get-get_or inbox place x within) in
      ap (λ y. sum_by f (swap_remove inbox place x) + f y) same ∙ sum_by-swap_remove f inbox place x within

  kept_by : (inbox : List X) (place : ℕ) (x : X) (t : Bool) → (taken_by t inbox place x).0 ≡ None → (taken_by t inbox place x).1 ≡ inbox
  kept_by inbox place x false none = refl
  kept_by inbox place x true none = absurd (subst IsNothing (sym none) tt)

pub taken_may : (may : Posted → Bool) (inbox : List Posted) (place : ℕ) (o : Option Posted) (p : Posted) → (picked_out_at may inbox place o).0 ≡ Some p → may p ≡ true
taken_may may inbox place None p e = absurd (subst IsNothing e tt)
taken_may may inbox place (Some q) p e = may_by may inbox place q p (may q) refl e

pub taken_weight : (f : Posted → ℕ) (may : Posted → Bool) (inbox : List Posted) (place : ℕ) (o : Option Posted) → slice_get inbox place ≡ o → sum_by f (picked_out_at may inbox place o).1 + weight_of f (picked_out_at may inbox place o).0 ≡ sum_by f inbox
taken_weight f may inbox place None at = plus_zero (sum_by f inbox)
taken_weight f may inbox place (Some q) at = weight_by f inbox place q (may q) at

pub taken_none : (may : Posted → Bool) (inbox : List Posted) (place : ℕ) (o : Option Posted) → (picked_out_at may inbox place o).0 ≡ None → (picked_out_at may inbox place o).1 ≡ inbox
taken_none may inbox place None none = refl
taken_none may inbox place (Some q) none = kept_by inbox place q (may q) none

module _ {S O I U N : Type 0} (one : S → I → List (Handling N)) (answer : S → I → U) (next : S → I → S) where
  pub goes_all : (may : S → Posted → Bool) (does : S → Posted → S × Option N) (alone : S → S) → ((s : S) (i : I) (hs : List (Handling N)) (end : S) → GoesByMails may does (alone (next s i)) hs end → GoesByMails may does (alone s) (one s i ++ hs) end) → (x y : S) (h : List (Entry O I U)) → Legal answer next x h y → GoesByMails may does (alone x) (handlings_of one next x h) (alone y)
  goes_all may does alone step x y [] l = ap alone l
  goes_all may does alone step x y (e ∷ es) l = step x e.input (handlings_of one next (next x e.input) es) (alone y) (goes_all may does alone step (next x e.input) y es l.1)

  pub told_all : (told : U → Option N) → ((s : S) (i : I) (rest : List N) → cons_option (told (answer s i)) rest ≡ map (λ (g : Handling N). g.told) (one s i) ++ rest) → (x y : S) (h : List (Entry O I U)) → Legal answer next x h y → filter_map (λ (e : Entry O I U). told e.output) h ≡ map (λ (g : Handling N). g.told) (handlings_of one next x h)
  told_all told step x y [] l = refl
  told_all told step x y (e ∷ es) l =
      let more = handlings_of one next (next x e.input) es in
      ap (λ u. cons_option (told u) (filter_map (λ (d : Entry O I U). told d.output) es)) l.0 ∙ step x e.input (filter_map (λ (d : Entry O I U). told d.output) es) ∙ ap (λ r. map (λ (g : Handling N). g.told) (one x e.input) ++ r) (told_all told step (next x e.input) y es l.1) ∙ sym (map-append (λ (g : Handling N). g.told) (one x e.input) more)

  pub mails_all : (f : Posted → ℕ) (inbox : S → List Posted) (put : I → Option Posted) → ((s : S) (i : I) → sum_by f (inbox (next s i)) + sum_by (λ (g : Handling N). f g.mail) (one s i) ≡ sum_by f (inbox s) + weight_of f (put i)) → (x y : S) (h : List (Entry O I U)) → Legal answer next x h y → sum_by f (inbox x) + sum_by f (filter_map (λ (e : Entry O I U). put e.input) h) ≡ sum_by (λ (g : Handling N). f g.mail) (handlings_of one next x h) + sum_by f (inbox y)
  mails_all f inbox put step x y [] l = subst (λ z. sum_by f (inbox x) + 0 ≡ 0 + sum_by f (inbox z)) l (omega arith)
  mails_all f inbox put step x y (e ∷ es) l =
      let more = handlings_of one next (next x e.input) es in
      let here = step x e.input in
      let rest = mails_all f inbox put step (next x e.input) y es l.1 in
      let puts = sum_option f (put e.input) (filter_map (λ (d : Entry O I U). put d.input) es) in
      let takes = sum_by-append (λ (g : Handling N). f g.mail) (one x e.input) more in
      omega (arith, here, rest, puts, takes)

above : (c m : ℕ) → (c < max c m + 1) × (m < max c m + 1) × (c < 2 ^ 63 → m < 2 ^ 63 → max c m + 1 ≤ 2 ^ 63)
above c m = (omega (arith, le-max_left c m), omega (arith, le-max_right c m), λ low early. omega (arith, low, early))

-- the stamps of an actor's handlings
module _ {S N : Type 0} (may : S → Posted → Bool) (does : S → Posted → S × Option N) (stamped : N → Stamped) (clock : S → ℕ) (actor : S → Actor) where
  pub record Stamps : Type 0 where
    pub limit : (s : S) (p : Posted) → may s p ≡ true → (clock s < 2 ^ 63) × (p.stamp < 2 ^ 63)
    pub stamp : (s : S) (p : Posted) (t : N) → (does s p).1 ≡ Some t → stamped t ≡ handling_note (actor s) (stamp_after (clock s) p) p.mail
    pub clocks : (s : S) (p : Posted) → clock (does s p).0 ≡ stamp_after (clock s) p
    pub actors : (s : S) (p : Posted) → actor (does s p).0 ≡ actor s

  abbrev stamp_of : Handling N → ℕ
  stamp_of h = (stamped h.told).stamp

  here : Stamps → (s : S) (h : Handling N) → (does s h.mail).1 ≡ Some h.told → stamp_of h ≡ stamp_after (clock s) h.mail
  here k s h told = ap (λ (x : Stamped). x.stamp) (k.stamp s h.mail h.told told)

  later : Stamps → (c : ℕ) (s end : S) (hs : List (Handling N)) → c ≤ clock s → GoesByMails may does s hs end → All (λ (h : Handling N). (c < stamp_of h) × (h.mail.stamp < stamp_of h)) hs
  later k c s end [] low goes = All-nil (λ (h : Handling N). (c < stamp_of h) × (h.mail.stamp < stamp_of h))
  later k c s end (h ∷ hs) low goes =
      let at : stamp_of h ≡ max (clock s) h.mail.stamp + 1 = here k s h goes.0.1 in
      let moved : clock (does s h.mail).0 ≡ max (clock s) h.mail.stamp + 1 = k.clocks s h.mail in
      let over = above (clock s) h.mail.stamp in
      All-cons (λ (g : Handling N). (c < stamp_of g) × (g.mail.stamp < stamp_of g)) h hs (omega (arith, low, at, over.0), omega (arith, at, over.1)) (later k c (does s h.mail).0 end hs (omega (arith, low, moved, over.0)) goes.1)

  rising : Stamps → (s end : S) (hs : List (Handling N)) → GoesByMails may does s hs end → AllPairs (λ (g h : Handling N). stamp_of g < stamp_of h) hs
  rising k s end [] goes = λ i j d i<j j<n. absurd (omega (arith, j<n))
  rising k s end (h ∷ hs) goes =
      let at : stamp_of h ≡ max (clock s) h.mail.stamp + 1 = here k s h goes.0.1 in
      let moved : clock (does s h.mail).0 ≡ max (clock s) h.mail.stamp + 1 = k.clocks s h.mail in
      let after = later k (stamp_of h) (does s h.mail).0 end hs (omega (arith, at, moved)) goes.1 in
      AllPairs-cons (λ (g i : Handling N). stamp_of g < stamp_of i) h hs (All-weaker (λ (g : Handling N). (stamp_of h < stamp_of g) × (g.mail.stamp < stamp_of g)) (λ (g : Handling N). stamp_of h < stamp_of g) (λ g both. both.0) hs after) (rising k (does s h.mail).0 end hs goes.1)

  most : Stamps → (s end : S) (hs : List (Handling N)) → GoesByMails may does s hs end → All (λ (h : Handling N). stamp_of h ≤ 2 ^ 63) hs
  most k s end [] goes = All-nil (λ (h : Handling N). stamp_of h ≤ 2 ^ 63)
  most k s end (h ∷ hs) goes =
      let low = k.limit s h.mail goes.0.0 in
      let over = (above (clock s) h.mail.stamp).2 low.0 low.1 in
      All-cons (λ (g : Handling N). stamp_of g ≤ 2 ^ 63) h hs (subst (λ n. n ≤ 2 ^ 63) (sym (here k s h goes.0.1)) over) (most k (does s h.mail).0 end hs goes.1)

  own : Stamps → (a : Actor) (s end : S) (hs : List (Handling N)) → actor s ≡ a → GoesByMails may does s hs end → All (λ (h : Handling N). (stamped h.told).actor ≡ a) hs
  own k a s end [] is goes = All-nil (λ (h : Handling N). (stamped h.told).actor ≡ a)
  own k a s end (h ∷ hs) is goes = All-cons (λ (g : Handling N). (stamped g.told).actor ≡ a) h hs (ap (λ (x : Stamped). x.actor) (k.stamp s h.mail h.told goes.0.1) ∙ is) (own k a (does s h.mail).0 end hs (k.actors s h.mail ∙ is) goes.1)

  pub stamps_rise : Stamps → (s end : S) (hs : List (Handling N)) → GoesByMails may does s hs end → AreStamped stamped (actor s) (clock s) hs
  stamps_rise k s end hs goes = record {
    rising = rising k s end hs goes;
    later = later k (clock s) s end hs (omega arith) goes;
    most = most k s end hs goes;
    own = own k (actor s) s end hs refl goes;
  }

  pub actor_stays : Stamps → (s end : S) (hs : List (Handling N)) → GoesByMails may does s hs end → actor end ≡ actor s
  actor_stays k s end [] goes = ap actor (sym goes)
  actor_stays k s end (h ∷ hs) goes = actor_stays k (does s h.mail).0 end hs goes.1 ∙ k.actors s h.mail

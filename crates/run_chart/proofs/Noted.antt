-- What is noted of the mails in flight, by the places where they stand.
use Rattle.std.proofs.Common.{◌≡◌, ℕ, zero, suc, ◌+◌, ◌-◌, ◌≤◌, Bool, true, false, cond, List, [], ◌∷◌, length, map, get_or, slice_get, Option, Some, None, refl, sym, ap, subst, ◌∙◌, arith}
use Rattle.std.specs.Prelude.{position, slice_set}
use Rattle.std.specs.List.{swap_remove}
use Rattle.std.proofs.lemmas.List.{take-map, map-set, length-map}
use Rattle.std.proofs.lemmas.List.Sums.{sum_by-cons}
use Rattle.std.proofs.lemmas.Option.{none-some, same_Some}
use Rattle.message_net.specs.declared.actor.MailId.{MailId}
use Rattle.message_net.specs.declared.message.Mail.{Mail}
use Rattle.message_net.specs.Id.{same_id}
use Rattle.message_net.specs.Pool.{of_id, count_of, AreDistinct}
use Rattle.message_net.proofs.PoolLemmas.{same_id-refl, place-counted, position-none, position-found}
use Rattle.run_chart.specs.declared.mails.SentMail.{SentMail}
use Rattle.run_chart.specs.Mails.{line_there, noted_line, noted_mail, noted_mails, unknown_mails, AreNotedFor}

-- the first of two lists, and the others
same-head : {X : Type 0} (x y : X) (xs ys : List X) → ◌≡◌ {A = List X} (x ∷ xs) (y ∷ ys) → x ≡ y
same-head {X = X} x y xs ys same = ap (λ (l : List X). head l) same where
  head : List X → X
  head [] = x
  head (z ∷ zs) = z

same-tail : {X : Type 0} (x y : X) (xs ys : List X) → ◌≡◌ {A = List X} (x ∷ xs) (y ∷ ys) → xs ≡ ys
same-tail {X = X} x y xs ys same = ap (λ (l : List X). tail l) same where
  tail : List X → List X
  tail [] = []
  tail (z ∷ zs) = zs

pub same-lengths : (sent : List SentMail) (mails : List Mail) → AreNotedFor sent mails → length sent ≡ length mails
same-lengths sent mails same =
    sym (length-map sent (λ (s : SentMail). s.id)) ∙ ap (λ (l : List MailId). length l) same ∙ length-map mails (λ (m : Mail). m.id)

-- what passes a test counts 1
abbrev bit : Bool → ℕ
bit b = cond b 1 0

-- of an id that no mail in flight has nothing is noted
pub noted-none : (sent : List SentMail) (mails : List Mail) (id : MailId) (line : Option ℕ) → AreNotedFor sent mails → count_of id mails ≡ 0 → noted_line id line sent ≡ line
noted-none [] mails id line same none = refl
noted-none (s ∷ ss) [] id line same none = absurd (cc)
noted-none (s ∷ ss) (m ∷ ms) id line same none = by_test (same_id m.id id) refl (λ few. noted-none ss ms id line (same-tail s.id m.id (map (λ (x : SentMail). x.id) ss) (map (λ (x : Mail). x.id) ms) same) few) where
  named : s.id ≡ m.id
  named = same-head s.id m.id (map (λ (x : SentMail). x.id) ss) (map (λ (x : Mail). x.id) ms) same

  all : count_of id (m ∷ ms) ≡ cond (of_id id m) 1 0 + count_of id ms
  all = sum_by-cons (λ (x : Mail). cond (of_id id x) 1 0) m ms

  by_test : (t : Bool) → same_id m.id id ≡ t → (count_of id ms ≡ 0 → noted_line id line ss ≡ line) → noted_line id line (s ∷ ss) ≡ line
  by_test true e rest =
      let one : bit (of_id id m) ≡ 1 = rw e refl in
      absurd (omega (arith, one, all, none))
  by_test false e rest =
      let other : same_id s.id id ≡ false = rw named e in
      let zero_here : bit (of_id id m) ≡ 0 = rw e refl in
      rw other (rest (omega (arith, zero_here, all, none)))

-- of an id that a mail in flight has a line is noted, whatever line would be taken else
pub noted-known : (sent : List SentMail) (mails : List Mail) (id : MailId) (line other : Option ℕ) → AreNotedFor sent mails → 1 ≤ count_of id mails → noted_line id line sent ≡ noted_line id other sent
noted-known [] [] id line other same some = absurd (omega (arith, some))
noted-known [] (m ∷ ms) id line other same some = absurd (cc)
noted-known (s ∷ ss) [] id line other same some = absurd (cc)
noted-known (s ∷ ss) (m ∷ ms) id line other same some =
    by_test (same_id s.id id) refl (noted-known ss ms id line other (same-tail s.id m.id (map (λ (x : SentMail). x.id) ss) (map (λ (x : Mail). x.id) ms) same))
  where
    named : s.id ≡ m.id
    named = same-head s.id m.id (map (λ (x : SentMail). x.id) ss) (map (λ (x : Mail). x.id) ms) same

    by_test : (t : Bool) → same_id s.id id ≡ t → (1 ≤ count_of id ms → noted_line id line ss ≡ noted_line id other ss) → cond t s.line (noted_line id line ss) ≡ cond t s.line (noted_line id other ss)
    by_test true e rest = refl
    by_test false e rest =
        let none_here : bit (of_id id m) ≡ 0 = rw (sym named, e) refl in
        rest (omega (arith, some, none_here, sum_by-cons (λ (x : Mail). cond (of_id id x) 1 0) m ms))

distinct-tail : (m : Mail) (ms : List Mail) → AreDistinct (m ∷ ms) → AreDistinct ms
distinct-tail m ms distinct id = omega (arith, distinct id, sum_by-cons (λ (x : Mail). cond (of_id id x) 1 0) m ms)

-- of a mail at a place that is noted which stands at the same place
pub noted-here : (sent : List SentMail) (mails : List Mail) (k : ℕ) (m : Mail) (line : Option ℕ) → AreNotedFor sent mails → AreDistinct mails → slice_get mails k ≡ Some m
    → slice_get sent k ≡ Some (record { id = m.id; line = noted_line m.id line sent })
noted-here sent [] k m line same distinct here = absurd (none-some m here)
noted-here [] (x ∷ ms) k m line same distinct here = absurd (cc)
noted-here (s ∷ ss) (x ∷ ms) zero m line same distinct here =
    let is : x ≡ m = same_Some x m here in
    let named : s.id ≡ x.id = same-head s.id x.id (map (λ (y : SentMail). y.id) ss) (map (λ (y : Mail). y.id) ms) same in
    let found : same_id s.id m.id ≡ true = rw (named, is) (same_id-refl m.id) in
    let id_is : s.id ≡ m.id = named ∙ ap (λ (y : Mail). y.id) is in
    rw found (rw (sym id_is) refl)
noted-here (s ∷ ss) (x ∷ ms) (suc k) m line same distinct here =
    by_test (same_id x.id m.id) refl
    (noted-here ss ms k m line (same-tail s.id x.id (map (λ (y : SentMail). y.id) ss) (map (λ (y : Mail). y.id) ms) same) (distinct-tail x ms distinct) here)
  where
    named : s.id ≡ x.id
    named = same-head s.id x.id (map (λ (y : SentMail). y.id) ss) (map (λ (y : Mail). y.id) ms) same

    all : count_of m.id (x ∷ ms) ≡ cond (of_id m.id x) 1 0 + count_of m.id ms
    all = sum_by-cons (λ (y : Mail). cond (of_id m.id y) 1 0) x ms

    by_test : (t : Bool) → same_id x.id m.id ≡ t → slice_get ss k ≡ Some (record { id = m.id; line = noted_line m.id line ss }) → slice_get ss k ≡ Some (record { id = m.id; line = noted_line m.id line (s ∷ ss) })
    by_test true e rest =
        let one : bit (of_id m.id x) ≡ 1 = rw e refl in
        absurd (omega (arith, one, all, distinct m.id, place-counted (of_id m.id) ms k m here (same_id-refl m.id)))
    by_test false e rest =
        let other : same_id s.id m.id ≡ false = rw named e in
        rw other rest

-- what is noted of an id stands at the place of its mail
pub noted-by-place : (sent : List SentMail) (mails : List Mail) (id : MailId) → AreNotedFor sent mails → AreDistinct mails → noted_line id None sent ≡ line_there sent (position (of_id id) mails)
noted-by-place sent mails id same distinct = by_place (position (of_id id) mails) refl where
  by_place : (o : Option ℕ) → position (of_id id) mails ≡ o → noted_line id None sent ≡ line_there sent o
  by_place None e = noted-none sent mails id None same ((position-none (of_id id) mails).0 (rw e refl))
  by_place (Some place) e =
      let found = position-found id mails place e in
      let here = noted-here sent mails place found.0 None same distinct found.1.here in
      rw here (ap (λ (x : MailId). noted_line x None sent) (sym found.1.named))

-- ---- lists by their places

pub none-past : {X : Type 0} (xs : List X) (k : ℕ) → slice_get xs k ≡ None → length xs ≤ k
none-past [] k none = omega arith
none-past (x ∷ xs) zero none = absurd (none-some x (sym none))
none-past (x ∷ xs) (suc k) none = omega (arith, none-past xs k none)

same-by-place : {X : Type 0} (xs ys : List X) → length xs ≡ length ys → ((k : ℕ) (x : X) → slice_get xs k ≡ Some x → slice_get ys k ≡ Some x) → xs ≡ ys
same-by-place [] [] long each = refl
same-by-place [] (y ∷ ys) long each = absurd (omega (arith, long))
same-by-place (x ∷ xs) [] long each = absurd (omega (arith, long))
same-by-place (x ∷ xs) (y ∷ ys) long each =
    let first : y ≡ x = same_Some y x (each 0 x refl) in
    rw (first, same-by-place xs ys (omega (arith, long)) (λ k z here. each (suc k) z here)) refl

get-map : {X Y : Type 0} (f : X → Y) (xs : List X) (k : ℕ) (y : Y) → slice_get (map f xs) k ≡ Some y → (x : X) × (slice_get xs k ≡ Some x) × (y ≡ f x)
get-map f [] k y here = absurd (none-some y here)
get-map f (x ∷ xs) zero y here = (x, refl, sym (same_Some (f x) y here))
get-map f (x ∷ xs) (suc k) y here = get-map f xs k y here

-- what is noted of the mails that were in flight stays as it is
pub noted-same : (sent : List SentMail) (mails : List Mail) (line : Option ℕ) → AreNotedFor sent mails → AreDistinct mails → noted_mails mails line sent ≡ sent
noted-same sent mails line same distinct =
    same-by-place (noted_mails mails line sent) sent (length-map mails (noted_mail line sent) ∙ sym (same-lengths sent mails same))
    (λ k s here.
    let from = get-map (noted_mail line sent) mails k s here in
    subst (λ (x : SentMail). slice_get sent k ≡ Some x) (sym from.2) (noted-here sent mails k from.0 line same distinct from.1))

pub noted-ids : (mails : List Mail) (line : Option ℕ) (sent : List SentMail) → AreNotedFor (noted_mails mails line sent) mails
noted-ids [] line sent = refl
noted-ids (m ∷ ms) line sent = ap (λ (l : List MailId). m.id ∷ l) (noted-ids ms line sent)

pub unknown-ids : (mails : List Mail) → AreNotedFor (unknown_mails mails) mails
unknown-ids [] = refl
unknown-ids (m ∷ ms) = ap (λ (l : List MailId). m.id ∷ l) (unknown-ids ms)

-- what is mapped leaves a place alike
map-get_or : {X Y : Type 0} (f : X → Y) (xs : List X) (k : ℕ) (d : X) → f (get_or xs k d) ≡ get_or (map f xs) k (f d)
map-get_or f [] k d = refl
map-get_or f (x ∷ xs) zero d = refl
map-get_or f (x ∷ xs) (suc k) d = map-get_or f xs k d

pub map-swap_remove : {X Y : Type 0} (f : X → Y) (xs : List X) (k : ℕ) (d : X) → map f (swap_remove xs k d) ≡ swap_remove (map f xs) k (f d)
map-swap_remove f xs k d =
    sym (take-map f (length xs - 1) (slice_set xs k (get_or xs (length xs - 1) d)))
    ∙ rw (map-set f xs k (get_or xs (length xs - 1) d), map-get_or f xs (length xs - 1) d, length-map xs f) refl

-- What the tables of actors and of mails tell before each event, and how one more event changes them.
use Rattle.std.proofs.Common.{◌≡◌, ◌≢◌, ◌⊎◌, inl, inr, ℕ, zero, suc, ◌+◌, ◌<◌, ◌≤◌, ◌==◌, Bool, true, false, nat_lt, List, [], ◌∷◌, ◌++◌, length, replicate, slice_get, Option, Some, None, refl, sym, ap, subst, ◌∙◌, arith, length-append, length-set}
use Rattle.std.proofs.lemmas.Bool.{eqb-true, eqb-false}
use Rattle.std.proofs.lemmas.Bool.Decides.{nat_tests}
use Rattle.std.proofs.lemmas.List.{get_or-set_same, get_or-set_other, length-replicate}
use Rattle.std.proofs.lemmas.Option.{none-some, same_Some}
use Rattle.message_net.specs.declared.actor.Actor.{Actor}
use Rattle.message_net.specs.declared.actor.MailId.{MailId}
use Rattle.message_net.specs.Mail.{has_actor, actor_index}
use Rattle.run_timing.specs.Tracks.{last_at, senders_at, noted_last, noted_senders}
use Rattle.message_net.proofs.MailLemmas.{actor_index-within, actor_index-own}

-- ---- lists that grow

pub get-left : {X : Type 0} (xs ys : List X) (k : ℕ) (x : X) → slice_get xs k ≡ Some x → slice_get (xs ++ ys) k ≡ Some x
get-left [] ys k x is = absurd (none-some x is)
get-left (y ∷ xs) ys zero x is = is
get-left (y ∷ xs) ys (suc k) x is = get-left xs ys k x is

get-copies : {X : Type 0} (n k : ℕ) (x : X) → k < n → slice_get (replicate n x) k ≡ Some x
get-copies zero k x below = absurd (omega (arith, below))
get-copies (suc n) zero x below = refl
get-copies (suc n) (suc k) x below = get-copies n k x (omega (arith, below))

get-new : {X : Type 0} (xs : List X) (n k : ℕ) (x : X) → length xs ≤ k → k < length xs + n → slice_get (xs ++ replicate n x) k ≡ Some x
get-new [] n k x past below = get-copies n k x (omega (arith, below))
get-new (y ∷ xs) n zero x past below = absurd (omega (arith, past))
get-new (y ∷ xs) n (suc k) x past below = get-new xs n k x (omega (arith, past)) (omega (arith, below))

copies-are : {X : Type 0} (n k : ℕ) (x y : X) → slice_get (replicate n x) k ≡ Some y → (k < n) × (x ≡ y)
copies-are zero k x y is = absurd (none-some y is)
copies-are (suc n) zero x y is = (omega arith, same_Some x y is)
copies-are (suc n) (suc k) x y is = let rest = copies-are n k x y is in (omega (arith, rest.0), rest.1)

get-either : {X : Type 0} (xs : List X) (n k : ℕ) (x y : X) → slice_get (xs ++ replicate n x) k ≡ Some y → (slice_get xs k ≡ Some y) ⊎ ((length xs ≤ k) × (k < length xs + n) × (x ≡ y))
get-either [] n k x y is = let new = copies-are n k x y is in inr (omega arith, omega (arith, new.0), new.1)
get-either (z ∷ xs) n zero x y is = inl is
get-either (z ∷ xs) n (suc k) x y is = by_rest (get-either xs n k x y is) where
  by_rest : (slice_get xs k ≡ Some y) ⊎ ((length xs ≤ k) × (k < length xs + n) × (x ≡ y)) → (slice_get xs k ≡ Some y) ⊎ ((length (z ∷ xs) ≤ suc k) × (suc k < length (z ∷ xs) + n) × (x ≡ y))
  by_rest (inl old) = inl old
  by_rest (inr new) = inr (omega (arith, new.0), omega (arith, new.1), new.2)

-- ---- events and mails, by their numbers

-- of the events before number n, number o is the last of an actor
pub record IsLastOf (actors : ℕ → Option Actor) (n : ℕ) (a : Actor) (o : ℕ) : Type 0 where
  pub earlier : o < n
  pub makes : actors o ≡ Some a
  pub none_since : (k : ℕ) → o < k → k < n → actors k ≢ Some a

-- event number n is of actor a: it sends that actor's next mails
pub record IsTurn (cores banks : ℕ) (so_far : ℕ → Actor → ℕ) (Sent : ℕ → MailId → Type 0) (n : ℕ) (a : Actor) : Type 0 where
  pub there : has_actor cores banks a ≡ true
  pub grows : so_far n a ≤ so_far (n + 1) a
  pub others : (b : Actor) → has_actor cores banks b ≡ true → actor_index cores banks b ≢ actor_index cores banks a → so_far (n + 1) b ≡ so_far n b
  pub sends : (id : MailId) → Sent n id → (id.sender ≡ a) × (so_far n a ≤ id.number) × (id.number < so_far (n + 1) a)
  pub sent : (k : ℕ) → so_far n a ≤ k → k < so_far (n + 1) a → Sent n (record { sender = a; number = k })

-- before event number n the tables have the last event of each actor, and the sender of each mail
pub record AreTables (cores banks : ℕ) (actors : ℕ → Option Actor) (so_far : ℕ → Actor → ℕ) (Sent : ℕ → MailId → Type 0) (n : ℕ) (last : List (Option ℕ)) (senders : List (List ℕ)) : Type 0 where
  pub lasts : length last ≡ cores + banks + 1
  pub rows : length senders ≡ cores + banks + 1
  pub last_is : (a : Actor) (o : ℕ) → has_actor cores banks a ≡ true → last_at last (actor_index cores banks a) ≡ Some o → IsLastOf actors n a o
  pub last_known : (a : Actor) (o : ℕ) → has_actor cores banks a ≡ true → IsLastOf actors n a o → last_at last (actor_index cores banks a) ≡ Some o
  pub long : (a : Actor) → has_actor cores banks a ≡ true → length (senders_at senders (actor_index cores banks a)) ≡ so_far n a
  pub sender_is : (a : Actor) (k p : ℕ) → has_actor cores banks a ≡ true → slice_get (senders_at senders (actor_index cores banks a)) k ≡ Some p → (p < n) × Sent p (record { sender = a; number = k })
  pub sender_known : (p : ℕ) (id : MailId) → p < n → Sent p id → (has_actor cores banks id.sender ≡ true) × (slice_get (senders_at senders (actor_index cores banks id.sender)) id.number ≡ Some p)

-- ---- the last events

last-later : (actors : ℕ → Option Actor) (n : ℕ) (a b : Actor) (o : ℕ) → actors n ≡ Some a → a ≢ b → IsLastOf actors n b o → IsLastOf actors (n + 1) b o
last-later actors n a b o now apart was =
    record { earlier = omega (arith, was.earlier); makes = was.makes; none_since = λ k past below. by_test k past below (k == n) refl }
  where
    by_test : (k : ℕ) → o < k → k < n + 1 → (t : Bool) → (k == n) ≡ t → actors k ≢ Some b
    by_test k past below true e =
        λ is. let same : k ≡ n = eqb-true k n e in apart (same_Some a b (sym now ∙ (ap actors (sym same) ∙ is)))
    by_test k past below false e = was.none_since k past (grind (arith, nat_tests, below, e))

last-earlier : (actors : ℕ → Option Actor) (n : ℕ) (a b : Actor) (o : ℕ) → actors n ≡ Some a → a ≢ b → IsLastOf actors (n + 1) b o → IsLastOf actors n b o
last-earlier actors n a b o now apart was = by_test (o == n) refl where
  by_test : (t : Bool) → (o == n) ≡ t → IsLastOf actors n b o
  by_test true e =
      let same : o ≡ n = eqb-true o n e in
      absurd (apart (same_Some a b (sym now ∙ (ap actors (sym same) ∙ was.makes))))
  by_test false e =
      record { earlier = grind (arith, nat_tests, was.earlier, e); makes = was.makes; none_since = λ k past below. was.none_since k past (omega (arith, below)) }

last-now : (actors : ℕ → Option Actor) (n : ℕ) (a : Actor) → actors n ≡ Some a → IsLastOf actors (n + 1) a n
last-now actors n a now = record { earlier = omega arith; makes = now; none_since = λ k past below. absurd (omega (arith, past, below)) }

only-now : (actors : ℕ → Option Actor) (n : ℕ) (a : Actor) (o : ℕ) → actors n ≡ Some a → IsLastOf actors (n + 1) a o → n ≡ o
only-now actors n a o now was = by_test (nat_lt o n) refl where
  by_test : (t : Bool) → nat_lt o n ≡ t → n ≡ o
  by_test true e = absurd (was.none_since n (grind (arith, nat_tests, e)) (omega arith) now)
  by_test false e = grind (arith, nat_tests, e, was.earlier)

-- ---- one more event

pub tables-more : (cores banks : ℕ) (actors : ℕ → Option Actor) (so_far : ℕ → Actor → ℕ) (Sent : ℕ → MailId → Type 0) (n : ℕ) (last : List (Option ℕ)) (senders : List (List ℕ)) (a : Actor) (count : ℕ)
    → AreTables cores banks actors so_far Sent n last senders → IsTurn cores banks so_far Sent n a → actors n ≡ Some a → so_far n a + count ≡ so_far (n + 1) a
    → AreTables cores banks actors so_far Sent (n + 1) (noted_last (actor_index cores banks a) n last) (noted_senders (actor_index cores banks a) count n senders)
tables-more cores banks actors so_far Sent n last senders a count tables turn now counts =
    record {
      lasts = length-set last at' (Some n) ∙ tables.lasts;
      rows = length-set senders at' (senders_at senders at' ++ replicate count n) ∙ tables.rows;
      last_is = λ b o has_b is. last_is b o has_b (actor_index cores banks b == at') refl is;
      last_known = λ b o has_b is. last_known b o has_b (actor_index cores banks b == at') refl is;
      long = λ b has_b. long b has_b (actor_index cores banks b == at') refl;
      sender_is = λ b k p has_b is. sender_is b k p has_b (actor_index cores banks b == at') refl is;
      sender_known = λ p id below is. sender_known p id (p == n) refl below is;
    }
  where
    at' : ℕ
    at' = actor_index cores banks a

    within : at' < cores + banks + 1
    within = actor_index-within cores banks a turn.there

    new_row : List ℕ
    new_row = senders_at senders at' ++ replicate count n

    last_here : last_at (noted_last at' n last) at' ≡ Some n
    last_here = get_or-set_same last at' (Some n) None (omega (arith, within, tables.lasts))

    row_here : senders_at (noted_senders at' count n senders) at' ≡ new_row
    row_here = get_or-set_same senders at' new_row [] (omega (arith, within, tables.rows))

    last_there : (place : ℕ) → place ≢ at' → last_at (noted_last at' n last) place ≡ last_at last place
    last_there place apart = get_or-set_other last at' place (Some n) None apart

    row_there : (place : ℕ) → place ≢ at' → senders_at (noted_senders at' count n senders) place ≡ senders_at senders place
    row_there place apart = get_or-set_other senders at' place new_row [] apart

    same-actor : (b : Actor) → has_actor cores banks b ≡ true → (actor_index cores banks b == at') ≡ true → b ≡ a
    same-actor b has_b e = actor_index-own cores banks b a has_b turn.there (eqb-true (actor_index cores banks b) at' e)

    other-actor : (b : Actor) → (actor_index cores banks b == at') ≡ false → a ≢ b
    other-actor b e is = eqb-false (actor_index cores banks b) at' e (ap (actor_index cores banks) (sym is))

    last_is : (b : Actor) (o : ℕ) → has_actor cores banks b ≡ true → (t : Bool) → (actor_index cores banks b == at') ≡ t → last_at (noted_last at' n last) (actor_index cores banks b) ≡ Some o
        → IsLastOf actors (n + 1) b o
    last_is b o has_b true e is =
        let here = same-actor b has_b e in
        let there : last_at (noted_last at' n last) at' ≡ Some o = subst (λ (x : Actor). last_at (noted_last at' n last) (actor_index cores banks x) ≡ Some o) here is in
        let number : n ≡ o = same_Some n o (sym last_here ∙ there) in
        subst (λ (x : Actor). IsLastOf actors (n + 1) x o) (sym here) (subst (IsLastOf actors (n + 1) a) number (last-now actors n a now))
    last_is b o has_b false e is =
        last-later actors n a b o now (other-actor b e)
        (tables.last_is b o has_b (sym (last_there (actor_index cores banks b) (eqb-false (actor_index cores banks b) at' e)) ∙ is))

    last_known : (b : Actor) (o : ℕ) → has_actor cores banks b ≡ true → (t : Bool) → (actor_index cores banks b == at') ≡ t → IsLastOf actors (n + 1) b o
        → last_at (noted_last at' n last) (actor_index cores banks b) ≡ Some o
    last_known b o has_b true e is =
        let here = same-actor b has_b e in
        let number : n ≡ o = only-now actors n a o now (subst (λ (x : Actor). IsLastOf actors (n + 1) x o) here is) in
        subst (λ (x : Actor). last_at (noted_last at' n last) (actor_index cores banks x) ≡ Some o) (sym here) (last_here ∙ ap (λ (x : ℕ). Some x) number)
    last_known b o has_b false e is =
        last_there (actor_index cores banks b) (eqb-false (actor_index cores banks b) at' e)
        ∙ tables.last_known b o has_b (last-earlier actors n a b o now (other-actor b e) is)

    long : (b : Actor) → has_actor cores banks b ≡ true → (t : Bool) → (actor_index cores banks b == at') ≡ t → length (senders_at (noted_senders at' count n senders) (actor_index cores banks b)) ≡ so_far (n + 1) b
    long b has_b true e =
        let here = same-actor b has_b e in
        let all : length new_row ≡ so_far (n + 1) a =
        omega (arith, length-append (senders_at senders at') (replicate count n), length-replicate count n, tables.long a turn.there, counts)
        in
        subst (λ (x : Actor). length (senders_at (noted_senders at' count n senders) (actor_index cores banks x)) ≡ so_far (n + 1) x) (sym here) (ap (λ (xs : List ℕ). length xs) row_here ∙ all)
    long b has_b false e =
        let apart = eqb-false (actor_index cores banks b) at' e in
        ap (λ (xs : List ℕ). length xs) (row_there (actor_index cores banks b) apart) ∙ (tables.long b has_b ∙ sym (turn.others b has_b apart))

    new_sender : (k p : ℕ) → (slice_get (senders_at senders at') k ≡ Some p) ⊎ ((length (senders_at senders at') ≤ k) × (k < length (senders_at senders at') + count) × (n ≡ p))
        → (p < n + 1) × Sent p (record { sender = a; number = k })
    new_sender k p (inl old) = let was = tables.sender_is a k p turn.there old in (omega (arith, was.0), was.1)
    new_sender k p (inr new) =
        let all = tables.long a turn.there in
        (omega (arith, new.2), subst (λ (x : ℕ). Sent x (record { sender = a; number = k })) new.2 (turn.sent k (omega (arith, new.0, all)) (omega (arith, new.1, all, counts))))

    sender_is : (b : Actor) (k p : ℕ) → has_actor cores banks b ≡ true → (t : Bool) → (actor_index cores banks b == at') ≡ t → slice_get (senders_at (noted_senders at' count n senders) (actor_index cores banks b)) k ≡ Some p
        → (p < n + 1) × Sent p (record { sender = b; number = k })
    sender_is b k p has_b true e is =
        let here = same-actor b has_b e in
        let there : slice_get new_row k ≡ Some p =
        ap (λ (xs : List ℕ). slice_get xs k) (sym row_here) ∙ subst (λ (x : Actor). slice_get (senders_at (noted_senders at' count n senders) (actor_index cores banks x)) k ≡ Some p) here is
        in
        subst (λ (x : Actor). (p < n + 1) × Sent p (record { sender = x; number = k })) (sym here) (new_sender k p (get-either (senders_at senders at') count k n p there))
    sender_is b k p has_b false e is =
        let apart = eqb-false (actor_index cores banks b) at' e in
        let was = tables.sender_is b k p has_b (ap (λ (xs : List ℕ). slice_get xs k) (sym (row_there (actor_index cores banks b) apart)) ∙ is) in
        (omega (arith, was.0), was.1)

    kept : (id : MailId) (p : ℕ) → slice_get (senders_at senders (actor_index cores banks id.sender)) id.number ≡ Some p → (t : Bool) → (actor_index cores banks id.sender == at') ≡ t
        → slice_get (senders_at (noted_senders at' count n senders) (actor_index cores banks id.sender)) id.number ≡ Some p
    kept id p was true e =
        let here : actor_index cores banks id.sender ≡ at' = eqb-true (actor_index cores banks id.sender) at' e in
        let old : slice_get (senders_at senders at') id.number ≡ Some p = subst (λ (x : ℕ). slice_get (senders_at senders x) id.number ≡ Some p) here was in
        subst (λ (x : ℕ). slice_get (senders_at (noted_senders at' count n senders) x) id.number ≡ Some p) (sym here)
        (ap (λ (xs : List ℕ). slice_get xs id.number) row_here ∙ get-left (senders_at senders at') (replicate count n) id.number p old)
    kept id p was false e = ap (λ (xs : List ℕ). slice_get xs id.number) (row_there (actor_index cores banks id.sender) (eqb-false (actor_index cores banks id.sender) at' e)) ∙ was

    sender_known : (p : ℕ) (id : MailId) (t : Bool) → (p == n) ≡ t → p < n + 1 → Sent p id
        → (has_actor cores banks id.sender ≡ true) × (slice_get (senders_at (noted_senders at' count n senders) (actor_index cores banks id.sender)) id.number ≡ Some p)
    sender_known p id true e below is =
        let number : p ≡ n = eqb-true p n e in
        let new = turn.sends id (subst (λ (x : ℕ). Sent x id) number is) in
        let all = tables.long a turn.there in
        let there : slice_get new_row id.number ≡ Some n = get-new (senders_at senders at') count id.number n (omega (arith, new.1, all)) (omega (arith, new.2, all, counts)) in
        let here : slice_get (senders_at (noted_senders at' count n senders) at') id.number ≡ Some p = ap (λ (xs : List ℕ). slice_get xs id.number) row_here ∙ (there ∙ ap (λ (x : ℕ). Some x) (sym number)) in
        subst (λ (x : Actor). (has_actor cores banks x ≡ true) × (slice_get (senders_at (noted_senders at' count n senders) (actor_index cores banks x)) id.number ≡ Some p)) (sym new.0) (turn.there, here)
    sender_known p id false e below is =
        let was = tables.sender_known p id (grind (arith, nat_tests, below, e)) is in
        (was.0, kept id p was.1 (actor_index cores banks id.sender == at') refl)

-- One more row, and what all rows tell.
use Rattle.std.proofs.Common.{◌≡◌, ◌≢◌, ◌⊎◌, inl, inr, ℕ, zero, suc, ◌+◌, ◌*◌, ◌<◌, ◌≤◌, ◌==◌, Bool, true, false, cond, nat_lt, List, [], ◌∷◌, ◌++◌, length, slice_get, Option, Some, None, refl, sym, ap, subst, ◌∙◌, arith}
use Rattle.std.proofs.lemmas.Bool.{eqb-true, eqb-false}
use Rattle.std.proofs.lemmas.Bool.Decides.{nat_tests}
use Rattle.std.proofs.lemmas.List.{get_or_append_left, get_or_push, length_push}
use Rattle.std.proofs.lemmas.Option.{none-some, same_Some}
use Rattle.message_net.specs.declared.event.EventKind.{EventKind}
use Rattle.run_timing.specs.declared.rows.Rows.{Rows}
use Rattle.run_timing.specs.declared.rows.Start.{Start}
use Rattle.run_timing.specs.Rows.{finish_in, before_in, behind, start_after, with_timing_row, reach_of, IsTimingRow, AreNoted}

-- ---- the row of an event, from what it depends on

-- the event before number i of its own actor, and the sender of its mail, if there are such
pub record IsChoice (Own Sender : ℕ → ℕ → Type 0) (i : ℕ) (own sender : Option ℕ) : Type 0 where
  pub own_is : (p : ℕ) → own ≡ Some p → Own p i
  pub own_known : (p : ℕ) → Own p i → own ≡ Some p
  pub sender_is : (p : ℕ) → sender ≡ Some p → Sender p i
  pub sender_known : (p : ℕ) → Sender p i → sender ≡ Some p

-- the later of two that let a number start
abbrev chosen : (ℕ → ℕ) → ℕ → ℕ → ℕ → Bool → Start
chosen f delay o s t = cond t (record { event = Some s; tick = f s + delay }) (record { event = Some o; tick = f o })

-- when each of them lets number i start: the event before it of its own actor when it finished, and the sender of its mail when that
-- arrives
pub record IsReach (f reach : ℕ → ℕ) (delay : ℕ) (own sender : Option ℕ) : Type 0 where
  pub of_sender : (s : ℕ) → sender ≡ Some s → reach s ≡ f s + delay
  pub of_own : (o : ℕ) → own ≡ Some o → sender ≢ Some o → reach o ≡ f o

pub choice-row : (Own Sender : ℕ → ℕ → Type 0) (ticks f reach : ℕ → ℕ) (delay i : ℕ) (own sender : Option ℕ) → IsChoice Own Sender i own sender → IsReach f reach delay own sender
    → f i ≡ ticks i + (start_after f delay own sender).tick → IsTimingRow Own Sender ticks f reach (start_after f delay own sender).event i
choice-row Own Sender ticks f reach delay i None None is reached finish =
    record {
      finish = finish;
      depends = λ p before. absurd (none-some p before);
      latest = λ p d. absurd (nothing p d);
      own = λ o s mine sent same. absurd (none-some o (is.own_known o mine));
    }
  where
    nothing : (p : ℕ) → Own p i ⊎ Sender p i → ⊥
    nothing p (inl mine) = none-some p (is.own_known p mine)
    nothing p (inr sent) = none-some p (is.sender_known p sent)
choice-row Own Sender ticks f reach delay i None (Some s) is reached finish =
    record {
      finish = omega (arith, finish, reached.of_sender s refl);
      depends = λ p before. inr (is.sender_is p before);
      latest = λ p d. low p d;
      own = λ o t mine sent same. absurd (none-some o (is.own_known o mine));
    }
  where
    low : (p : ℕ) → Own p i ⊎ Sender p i → reach p ≤ reach s
    low p (inl mine) = absurd (none-some p (is.own_known p mine))
    low p (inr sent) = let same : s ≡ p = same_Some s p (is.sender_known p sent) in rw same (omega arith)
choice-row Own Sender ticks f reach delay i (Some o) None is reached finish =
    record {
      finish = omega (arith, finish, reached.of_own o refl (none-some o));
      depends = λ p before. inl (is.own_is p before);
      latest = λ p d. low p d;
      own = λ p s mine sent same. absurd (none-some s (is.sender_known s sent));
    }
  where
    low : (p : ℕ) → Own p i ⊎ Sender p i → reach p ≤ reach o
    low p (inl mine) = let same : o ≡ p = same_Some o p (is.own_known p mine) in rw same (omega arith)
    low p (inr sent) = absurd (none-some p (is.sender_known p sent))
choice-row Own Sender ticks f reach delay i (Some o) (Some s) is reached finish = by_test (nat_lt (f o) (f s + delay)) refl finish where
  arrives : reach s ≡ f s + delay
  arrives = reached.of_sender s refl

  -- the own actor's event lets it start when it finished, or has sent its mail
  free : (t : Bool) → (o == s) ≡ t → (reach o ≡ f o) ⊎ (o ≡ s)
  free true e = inr (eqb-true o s e)
  free false e = inl (reached.of_own o refl (λ is_sender. eqb-false o s e (sym (same_Some s o is_sender))))

  own-is : (p : ℕ) → Own p i → o ≡ p
  own-is p mine = same_Some o p (is.own_known p mine)

  sender-is : (p : ℕ) → Sender p i → s ≡ p
  sender-is p sent = same_Some s p (is.sender_known p sent)

  by_test : (t : Bool) → nat_lt (f o) (f s + delay) ≡ t → f i ≡ ticks i + (chosen f delay o s t).tick
      → IsTimingRow Own Sender ticks f reach (chosen f delay o s t).event i
  by_test true e total =
      record {
        finish = omega (arith, total, arrives);
        depends = λ p before. inr (is.sender_is p before);
        latest = λ p d. low p d;
        own = λ p q mine sent same. one p q mine sent same (free (o == s) refl);
      }
    where
      less : f o < f s + delay
      less = grind (arith, nat_tests, e)

      own-low : (reach o ≡ f o) ⊎ (o ≡ s) → reach o ≤ reach s
      own-low (inl finished) = omega (arith, finished, less, arrives)
      own-low (inr same) = omega (arith, ap reach same)

      low : (p : ℕ) → Own p i ⊎ Sender p i → reach p ≤ reach s
      low p (inl mine) = omega (arith, ap reach (own-is p mine), own-low (free (o == s) refl))
      low p (inr sent) = omega (arith, ap reach (sender-is p sent))

      one : (p q : ℕ) → Own p i → Sender q i → reach p ≡ reach q → (reach o ≡ f o) ⊎ (o ≡ s) → Some s ≡ Some p
      one p q mine sent same (inl finished) = absurd (omega (arith, less, arrives, finished, ap reach (own-is p mine), ap reach (sender-is q sent), same))
      one p q mine sent same (inr alike) = ap (λ (x : ℕ). Some x) (sym alike ∙ own-is p mine)
  by_test false e total =
      record {
        finish = omega (arith, total, at-own);
        depends = λ p before. inl (is.own_is p before);
        latest = λ p d. low p d;
        own = λ p q mine sent same. is.own_known p mine;
      }
    where
      no_less : f s + delay ≤ f o
      no_less = grind (arith, nat_tests, e)

      -- if it has sent the mail too, that takes no time
      at-own-by : (reach o ≡ f o) ⊎ (o ≡ s) → reach o ≡ f o
      at-own-by (inl finished) = finished
      at-own-by (inr same) = omega (arith, no_less, arrives, ap f same, ap reach same)

      at-own : reach o ≡ f o
      at-own = at-own-by (free (o == s) refl)

      low : (p : ℕ) → Own p i ⊎ Sender p i → reach p ≤ reach o
      low p (inl mine) = omega (arith, ap reach (own-is p mine))
      low p (inr sent) = omega (arith, ap reach (sender-is p sent), no_less, arrives, at-own)

-- a row tells the same of finishes that are the same up to it
row-same : (Own Sender : ℕ → ℕ → Type 0) (ticks f g reach other : ℕ → ℕ) (before : Option ℕ) (i : ℕ) → IsTimingRow Own Sender ticks f reach before i
    → ((p : ℕ) → Own p i ⊎ Sender p i → reach p ≡ other p) → f i ≡ g i → IsTimingRow Own Sender ticks g other before i
row-same Own Sender ticks f g reach other before i row same here =
    record {
      finish = sym here ∙ (row.finish ∙ ap (λ (x : ℕ). ticks i + x) (by_before before row.depends));
      depends = row.depends;
      latest = λ p d. omega (arith, row.latest p d, same p d, by_before before row.depends);
      own = λ o s mine sent alike. row.own o s mine sent (same o (inl mine) ∙ (alike ∙ sym (same s (inr sent))));
    }
  where
    by_before : (b : Option ℕ) → ((p : ℕ) → b ≡ Some p → Own p i ⊎ Sender p i) → behind reach b ≡ behind other b
    by_before None depends = refl
    by_before (Some p) depends = same p (depends p refl)

-- the event after which one starts is one of the two
pub start-either : (f : ℕ → ℕ) (delay : ℕ) (own sender : Option ℕ) (p : ℕ) → (start_after f delay own sender).event ≡ Some p → (own ≡ Some p) ⊎ (sender ≡ Some p)
start-either f delay None None p is = inl is
start-either f delay None (Some s) p is = inr is
start-either f delay (Some o) None p is = inl is
start-either f delay (Some o) (Some s) p is = by_test (nat_lt (f o) (f s + delay)) is where
  by_test : (t : Bool) → (chosen f delay o s t).event ≡ Some p → (Some o ≡ Some p) ⊎ (Some s ≡ Some p)
  by_test true is = inr is
  by_test false is = inl is

-- one starts alike by finishes that are the same of the two
pub start-same : (f g : ℕ → ℕ) (delay : ℕ) (own sender : Option ℕ) → ((p : ℕ) → own ≡ Some p → f p ≡ g p) → ((p : ℕ) → sender ≡ Some p → f p ≡ g p) → start_after f delay own sender ≡ start_after g delay own sender
start-same f g delay None None mine sent = refl
start-same f g delay None (Some s) mine sent = let second : f s ≡ g s = sent s refl in rw second refl
start-same f g delay (Some o) None mine sent = let first : f o ≡ g o = mine o refl in rw first refl
start-same f g delay (Some o) (Some s) mine sent =
    let first : f o ≡ g o = mine o refl in
    let second : f s ≡ g s = sent s refl in
    rw (first, second) refl

-- one starts at most the delay after all that finished
pub start-most : (f : ℕ → ℕ) (delay most : ℕ) (own sender : Option ℕ) → ((p : ℕ) → own ≡ Some p → f p ≤ most) → ((p : ℕ) → sender ≡ Some p → f p ≤ most) → (start_after f delay own sender).tick ≤ most + delay
start-most f delay most None None mine sent = omega arith
start-most f delay most None (Some s) mine sent = omega (arith, sent s refl)
start-most f delay most (Some o) None mine sent = omega (arith, mine o refl)
start-most f delay most (Some o) (Some s) mine sent = by_test (nat_lt (f o) (f s + delay)) where
  by_test : (t : Bool) → (chosen f delay o s t).tick ≤ most + delay
  by_test true = omega (arith, sent s refl)
  by_test false = omega (arith, mine o refl)

-- the items of a list with one more at its end
get-front : {X : Type 0} (xs ys : List X) (i : ℕ) → i < length xs → slice_get (xs ++ ys) i ≡ slice_get xs i
get-front [] ys i within = absurd (omega (arith, within))
get-front (x ∷ xs) ys zero within = refl
get-front (x ∷ xs) ys (suc i) within = get-front xs ys i (omega (arith, within))

get-end : {X : Type 0} (xs : List X) (x : X) (n : ℕ) → length xs ≡ n → slice_get (xs ++ x ∷ []) n ≡ Some x
get-end [] x n long = rw (← long) refl
get-end (y ∷ xs) x zero long = absurd (omega (arith, long))
get-end (y ∷ xs) x (suc n) long = get-end xs x n (omega (arith, long))

-- ---- rows, one after the other

pub none-noted : (Own Sender : ℕ → ℕ → Type 0) (ticks : ℕ → ℕ) (step : ℕ → ℕ → ℕ) (kinds : ℕ → Option EventKind) → AreNoted Own Sender ticks step kinds 0 (record { finishes = []; befores = []; kinds = [] })
none-noted Own Sender ticks step kinds =
    record {
      finishes = refl;
      befores = refl;
      kinds = refl;
      row = λ i below. absurd (omega (arith, below));
      kind = λ i below. absurd (omega (arith, below));
      small = λ i below. absurd (omega (arith, below));
    }

-- the steps to number n: from the sender of its mail the mail's delay, and none from the event before it of its own actor
pub record AreSteps (step : ℕ → ℕ → ℕ) (n delay : ℕ) (own sender : Option ℕ) : Type 0 where
  pub of_sender : (s : ℕ) → sender ≡ Some s → step s n ≡ delay
  pub of_own : (o : ℕ) → own ≡ Some o → sender ≢ Some o → step o n ≡ 0

pub noted-more : (Own Sender : ℕ → ℕ → Type 0) (ticks : ℕ → ℕ) (step : ℕ → ℕ → ℕ) (kinds : ℕ → Option EventKind) (n : ℕ) (rows : Rows) (own sender : Option ℕ) (delay : ℕ) (kind : EventKind) (count : ℕ)
    → ((p i : ℕ) → Own p i ⊎ Sender p i → p < i) → AreNoted Own Sender ticks step kinds n rows → IsChoice Own Sender n own sender → AreSteps step n delay own sender → kinds n ≡ Some kind → ticks n ≡ count
    → count ≤ 1000000 → delay ≤ 6000000 → AreNoted Own Sender ticks step kinds (n + 1) (with_timing_row kind count (start_after (finish_in rows) delay own sender) rows)
noted-more Own Sender ticks step kinds n rows own sender delay kind count earlier noted choice steps kind_is ticks_is low soon =
    record {
      finishes = omega (arith, length_push rows.finishes (start.tick + count), noted.finishes);
      befores = omega (arith, length_push rows.befores start.event, noted.befores);
      kinds = omega (arith, length_push rows.kinds kind, noted.kinds);
      row = λ i below. row i below (i == n) refl;
      kind = λ i below. kinds_are i below (i == n) refl;
      small = λ i below. small i below (i == n) refl;
    }
  where
    f : ℕ → ℕ
    f = finish_in rows

    start : Start
    start = start_after f delay own sender

    all : Rows
    all = with_timing_row kind count start rows

    g : ℕ → ℕ
    g = finish_in all

    finish-old : (i : ℕ) → i < n → g i ≡ f i
    finish-old i below = get_or_append_left rows.finishes ((start.tick + count) ∷ []) 0 i (omega (arith, below, noted.finishes))

    finish-new : g n ≡ start.tick + count
    finish-new = get_or_push rows.finishes (start.tick + count) 0 n noted.finishes

    before-old : (i : ℕ) → i < n → before_in all i ≡ before_in rows i
    before-old i below = get_or_append_left rows.befores (start.event ∷ []) None i (omega (arith, below, noted.befores))

    before-new : before_in all n ≡ start.event
    before-new = get_or_push rows.befores start.event None n noted.befores

    earlier-own : (p : ℕ) → own ≡ Some p → p < n
    earlier-own p is = earlier p n (inl (choice.own_is p is))

    earlier-sender : (p : ℕ) → sender ≡ Some p → p < n
    earlier-sender p is = earlier p n (inr (choice.sender_is p is))

    start-now : start ≡ start_after g delay own sender
    start-now = start-same f g delay own sender (λ p is. sym (finish-old p (earlier-own p is))) (λ p is. sym (finish-old p (earlier-sender p is)))

    reached : IsReach g (reach_of g step n) delay own sender
    reached =
        record {
          of_sender = λ s is. omega (arith, steps.of_sender s is);
          of_own = λ o is other. omega (arith, steps.of_own o is other);
        }

    new_row : IsTimingRow Own Sender ticks g (reach_of g step n) start.event n
    new_row =
        let total : g n ≡ ticks n + (start_after g delay own sender).tick = omega (arith, finish-new, ap (λ (x : Start). x.tick) start-now, ticks_is) in
        subst (λ (x : Start). IsTimingRow Own Sender ticks g (reach_of g step n) x.event n) (sym start-now)
        (choice-row Own Sender ticks g (reach_of g step n) delay n own sender choice reached total)

    row : (i : ℕ) → i < n + 1 → (t : Bool) → (i == n) ≡ t → IsTimingRow Own Sender ticks g (reach_of g step i) (before_in all i) i
    row i below true e =
        let same : n ≡ i = sym (eqb-true i n e) in
        subst (λ (x : ℕ). IsTimingRow Own Sender ticks g (reach_of g step x) (before_in all x) x) same
        (subst (λ (b : Option ℕ). IsTimingRow Own Sender ticks g (reach_of g step n) b n) (sym before-new) new_row)
    row i below false e =
        let old : i < n = grind (arith, nat_tests, below, e) in
        subst (λ (b : Option ℕ). IsTimingRow Own Sender ticks g (reach_of g step i) b i) (sym (before-old i old))
        (row-same Own Sender ticks f g (reach_of f step i) (reach_of g step i) (before_in rows i) i (noted.row i old)
        (λ p d. omega (arith, finish-old p (omega (arith, earlier p i d, old)))) (sym (finish-old i old)))

    kinds_are : (i : ℕ) → i < n + 1 → (t : Bool) → (i == n) ≡ t → slice_get all.kinds i ≡ kinds i
    kinds_are i below true e =
        let same : n ≡ i = sym (eqb-true i n e) in
        subst (λ (x : ℕ). slice_get all.kinds x ≡ kinds x) same (get-end rows.kinds kind n noted.kinds ∙ sym kind_is)
    kinds_are i below false e =
        let old : i < n = grind (arith, nat_tests, below, e) in
        get-front rows.kinds (kind ∷ []) i (omega (arith, old, noted.kinds)) ∙ noted.kind i old

    low-start : start.tick ≤ 7000000 * n + delay
    low-start =
        start-most f delay (7000000 * n) own sender (λ p is. omega (arith, noted.small p (earlier-own p is), earlier-own p is))
        (λ p is. omega (arith, noted.small p (earlier-sender p is), earlier-sender p is))

    small : (i : ℕ) → i < n + 1 → (t : Bool) → (i == n) ≡ t → g i ≤ 7000000 * (i + 1)
    small i below true e =
        let same : n ≡ i = sym (eqb-true i n e) in
        subst (λ (x : ℕ). g x ≤ 7000000 * (x + 1)) same (omega (arith, finish-new, low-start, low, soon))
    small i below false e =
        let old : i < n = grind (arith, nat_tests, below, e) in
        omega (arith, finish-old i old, noted.small i old)

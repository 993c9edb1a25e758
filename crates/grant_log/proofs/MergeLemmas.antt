-- What a sort makes of logs that are apart.
use Rattle.std.proofs.Common.{◌≡◌, ◌≢◌, ℕ, zero, suc, ◌+◌, ◌<◌, ◌≤◌, Bool, true, false, cond, List, [], ◌∷◌, ◌++◌, length, get_or, map, take, refl, ap, sym, true≢false, ◌∙◌, arith}
use Rattle.std.specs.Prelude.{count_by, flat_map, AllPairs, IsPermutation}
use Rattle.std.specs.List.Sorted.{IsSorted}
use Rattle.std.specs.Ordering.{is_eq, is_lt}
use Rattle.std.specs.declared.cmp.Ordering.{Ordering}
use Rattle.std.specs.declared.cmp.Ordering.TheVariants.{Less, Equal, Greater}
use Rattle.std.proofs.lemmas.Cmp.{tied_itself}
use Rattle.std.proofs.lemmas.List.Elements.{All-tail}
use Rattle.std.proofs.lemmas.List.Sorted.{ranks_by, sorted_far, sum_by-IsPermutation}
use Rattle.std.proofs.lemmas.List.Sums.{sum_by-append, sum_by_more_le, get_or-le-sum_by, sum_by-cons}
use Rattle.std.proofs.lemmas.List.{get_or-take, length-take-le}
use Rattle.message_net.specs.declared.actor.Actor.{Actor}
use Rattle.grant_log.specs.declared.log.Stamped.{Stamped}
use Rattle.grant_log.specs.Order.{entry_order, IsBefore}
use Rattle.grant_log.specs.Log.{IsLog, AreOfOtherActors, AreLogs, IsMerge}
use Rattle.grant_log.proofs.OrderLemmas.{entry_order_total, tied}

abbrev actor : Stamped → Actor
actor e = e.actor

-- whether an entry has the stamp and the actor of another
abbrev pub ties : Stamped → Stamped → Bool
ties e x = is_eq (entry_order e x)

-- what passes a test weighs 1
abbrev bit : Bool → ℕ
bit b = cond b 1 0

ties-equal : (o : Ordering) → is_eq o ≡ true → o ≡ Equal
ties-equal Less e = cc
ties-equal Equal e = refl
ties-equal Greater e = cc

tie : (e x : Stamped) → ties e x ≡ true → (e.stamp ≡ x.stamp) × (e.actor ≡ x.actor)
tie e x t = tied e x (ties-equal (entry_order e x) t)

pub AllPairs-tail : {X : Type 0} (R : X → X → Type 0) (x : X) (xs : List X) → AllPairs R (x ∷ xs) → AllPairs R xs
AllPairs-tail R x xs pairs i j d before within = pairs (suc i) (suc j) d (omega arith) (omega arith)

-- where none passes, none is counted
none : {X : Type 0} (p : X → Bool) (xs : List X) → ((k : ℕ) (d : X) → k < length xs → p (get_or xs k d) ≡ true → ⊥) → count_by p xs ≡ 0
none p [] fails = refl
none p (x ∷ xs) fails = by_test (p x) refl (none p xs (λ k d within. fails (suc k) d (omega arith))) where
  by_test : (t : Bool) → p x ≡ t → count_by p xs ≡ 0 → count_by p (x ∷ xs) ≡ 0
  by_test true e rest = absurd (fails 0 x (omega arith) e)
  by_test false e rest = sum_by-cons (λ y. cond (p y) 1 0) x xs ∙ rw e (omega (arith, rest))

-- where one is counted, one passes
some : {X : Type 0} (p : X → Bool) (xs : List X) → 1 ≤ count_by p xs → (k : ℕ) × (x : X) × (k < length xs) × ((d : X) → get_or xs k d ≡ x) × (p x ≡ true)
some p [] counted = absurd (omega arith)
some {X} p (x ∷ xs) counted = by_test (p x) refl (some p xs) where
  by_test : (t : Bool) → p x ≡ t → (1 ≤ count_by p xs → (k : ℕ) × (y : X) × (k < length xs) × ((d : X) → get_or xs k d ≡ y) × (p y ≡ true))
      → (k : ℕ) × (y : X) × (k < length (x ∷ xs)) × ((d : X) → get_or (x ∷ xs) k d ≡ y) × (p y ≡ true)
  by_test true e rest = (0, x, omega arith, (λ d. refl), e)
  by_test false e rest =
      let no : bit (p x) ≡ 0 = rw e refl in
      let later = rest (omega (arith, sum_by-cons (λ y. cond (p y) 1 0) x xs, no, counted)) in
      (suc later.0, later.1, omega (arith, later.2), later.3, later.4)

-- where no two pass, at most one is counted
one : {X : Type 0} (p : X → Bool) (xs : List X) → AllPairs (λ a b. p a ≡ true → p b ≡ true → ⊥) xs → count_by p xs ≤ 1
one p [] pairs = omega arith
one p (x ∷ xs) pairs = by_test (p x) refl (one p xs (AllPairs-tail (λ a b. p a ≡ true → p b ≡ true → ⊥) x xs pairs)) where
  by_test : (t : Bool) → p x ≡ t → count_by p xs ≤ 1 → count_by p (x ∷ xs) ≤ 1
  by_test true e rest =
      let later : count_by p xs ≡ 0 = none p xs (λ k d within passes. pairs 0 (suc k) d (omega arith) (omega arith) e passes) in
      let yes : bit (p x) ≡ 1 = rw e refl in
      omega (arith, sum_by-cons (λ y. cond (p y) 1 0) x xs, yes, later)
  by_test false e rest =
      let no : bit (p x) ≡ 0 = rw e refl in
      omega (arith, sum_by-cons (λ y. cond (p y) 1 0) x xs, no, rest)

-- two that pass count at least 2
two : {X : Type 0} (p : X → Bool) (xs : List X) (i j : ℕ) (d : X) → i < j → j < length xs → p (get_or xs i d) ≡ true → p (get_or xs j d) ≡ true → 2 ≤ count_by p xs
two {X} p xs i j d before within first second =
    let len : length (take j xs) ≡ j = length-take-le j xs (omega arith) in
    let early : p (get_or (take j xs) i d) ≡ true = rw (get_or-take j xs i d before) first in
    let front = rw early at (get_or-le-sum_by (λ x. cond (p x) 1 0) (take j xs) i d (omega (arith, len))) in
    let more = rw second at (sum_by_more_le (λ x. cond (p x) 1 0) xs j d within) in
    omega (arith, front, more)

-- in a log no two entries have one stamp
log_has_one : (e : Stamped) (log : List Stamped) → IsLog log → count_by (ties e) log ≤ 1
log_has_one e log is = one (ties e) log (λ i j d before within first second.
    omega (arith, (is i j d before within).1, (tie e (get_or log i d) first).0, (tie e (get_or log j d) second).0))

-- no entry of later logs is of the actor of an entry of this one
none_later : (p : Stamped → Bool) (logs : List (List Stamped)) → ((k : ℕ) (d : List Stamped) → k < length logs → count_by p (get_or logs k d) ≡ 0)
    → count_by p (flat_map (λ log. log) logs) ≡ 0
none_later p [] never = refl
none_later p (log ∷ logs) never =
    sum_by-append (λ x. cond (p x) 1 0) log (flat_map (λ log. log) logs)
    ∙ omega (arith, never 0 log (omega arith), none_later p logs (λ k d within. never (suc k) d (omega arith)))

-- an entry of a log and one of a log of another actor don't both have one actor
no_more : (e : Stamped) (log other : List Stamped) → AreOfOtherActors log other → 1 ≤ count_by (ties e) log → count_by (ties e) other ≡ 0
no_more e log other apart counted =
    let found = some (ties e) log counted in
    let x = found.1 in
    let here : e.actor ≡ x.actor = (tie e x found.4).1 in
    none (ties e) other (λ n d inside passes. apart found.0 d found.2 n d inside (ap actor (found.3 d) ∙ sym here ∙ (tie e (get_or other n d) passes).1))

-- logs that are apart have an entry with a stamp and an actor at most once
pub logs_have_one : (e : Stamped) (logs : List (List Stamped)) → AreLogs logs → count_by (ties e) (flat_map (λ log. log) logs) ≤ 1
logs_have_one e [] are = omega arith
logs_have_one e (log ∷ logs) are =
    by_count (count_by (ties e) log) refl (logs_have_one e logs (record { each = All-tail IsLog log logs are.each; apart = AllPairs-tail AreOfOtherActors log logs are.apart })) where
      joined : count_by (ties e) (flat_map (λ log. log) (log ∷ logs)) ≡ count_by (ties e) log + count_by (ties e) (flat_map (λ log. log) logs)
      joined = sum_by-append (λ x. cond (ties e x) 1 0) log (flat_map (λ log. log) logs)

      by_count : (n : ℕ) → count_by (ties e) log ≡ n → count_by (ties e) (flat_map (λ log. log) logs) ≤ 1 → count_by (ties e) (flat_map (λ log. log) (log ∷ logs)) ≤ 1
      by_count zero is rest = omega (arith, joined, is, rest)
      by_count (suc n) is rest =
          let most = log_has_one e log (are.each 0 log (omega arith)) in
          let later = none_later (ties e) logs (λ k d within. no_more e log (get_or logs k d) (are.apart 0 (suc k) d (omega arith) (omega arith)) (omega (arith, is))) in
          omega (arith, joined, most, later)

-- of two entries that don't compare as equal, the one that isn't after the other is before it
before : (a b : Stamped) → is_lt (entry_order b a) ≡ false → entry_order a b ≢ Equal → IsBefore a b
before a b up apart = by_order (entry_order a b) refl where
  by_order : (o : Ordering) → entry_order a b ≡ o → IsBefore a b
  by_order Less e = e
  by_order Equal e = absurd (apart e)
  by_order Greater e =
      let back : entry_order b a ≡ Less = entry_order_total.antisymm b a ∙ rw e refl in
      absurd (true≢false (rw back at up))

-- entries in their order of which no two tie stand strictly in it
pub rises : (entries : List Stamped) → IsSorted entry_order entries → ((e : Stamped) → count_by (ties e) entries ≤ 1) → AllPairs IsBefore entries
rises entries sorted apart i j d earlier within =
    let a = get_or entries i d in
    let b = get_or entries j d in
    before a b (sorted_far (λ x y. is_lt (entry_order x y)) (ranks_by entry_order_total (λ e. e)) entries sorted i j d (omega arith) within)
    (λ equal. let own : ties a a ≡ true = rw (tied_itself entry_order_total a) refl in
    let other : ties a b ≡ true = rw equal refl in
    absurd (omega (arith, apart a, two (ties a) entries i j d earlier within own other)))

-- what a sort makes of the entries of logs
pub merges : (logs : List (List Stamped)) (merged : List Stamped) → AreLogs logs → IsPermutation (flat_map (λ log. log) logs) merged → IsSorted entry_order merged → IsMerge logs merged
merges logs merged are same sorted =
    record { same = same; rising = rises merged sorted (λ e. omega (arith, logs_have_one e logs are, sum_by-IsPermutation (λ x. cond (ties e x) 1 0) (flat_map (λ log. log) logs) merged same)) }

-- the entries of lists that stand elsewhere
pub gathers : {L : Type 0} (f : L → List Stamped) (logs : List L) → flat_map (λ log. log) (map f logs) ≡ flat_map f logs
gathers f [] = refl
gathers f (log ∷ logs) = ap (λ rest. f log ++ rest) (gathers f logs)

-- Logs, one for each of some actors, and what their merge has of each.
use Rattle.std.proofs.Common.{◌≡◌, ◌≢◌, ℕ, suc, ◌<◌, ◌≤◌, Bool, true, false, cond, List, [], ◌∷◌, get_or, map, refl, sym, ap, ◌∙◌, arith}
use Rattle.std.specs.Prelude.{count_by, filter, flat_map, All, AllPairs}
use Rattle.std.specs.Ordering.{nat_cmp, ordering_then}
use Rattle.std.specs.declared.cmp.Ordering.{Ordering}
use Rattle.std.specs.declared.cmp.Ordering.TheVariants.{Less, Equal, Greater}
use Rattle.std.proofs.lemmas.Bool.Decides.{nat_tests}
use Rattle.std.proofs.lemmas.Cmp.{tied_itself}
use Rattle.std.proofs.lemmas.List.{append-nil}
use Rattle.std.proofs.lemmas.List.Elements.{All-nil, All-cons, All-head, All-tail, All-append, All-map, filter-append}
use Rattle.std.proofs.lemmas.List.Kept.{AllPairs-cons}
use Rattle.std.proofs.lemmas.List.Sorted.{All-permutation}
use Rattle.std.proofs.lemmas.List.Sums.{sum_by-cons}
use Rattle.message_net.specs.declared.actor.Actor.{Actor}
use Rattle.message_net.specs.Id.{same_actor}
use Rattle.message_net.proofs.PoolLemmas.{same_actor-true, same_actor-refl}
use Rattle.grant_log.specs.declared.log.Stamped.{Stamped}
use Rattle.message_net.specs.Order.{actor_order}
use Rattle.grant_log.specs.Order.{entry_order, IsBefore}
use Rattle.grant_log.specs.Log.{IsLog, AreOfOtherActors, AreLogs, IsMerge, of_actor}
use Rattle.grant_log.proofs.OrderLemmas.{entry_order_total}
use Rattle.grant_log.proofs.MergeLemmas.{AllPairs-tail}
use Rattle.grant_log.proofs.ActorLemmas.{each_kept}

-- ---- pairs

pub pairs-mapped : {X Y : Type 0} (R : Y → Y → Type 0) (f : X → Y) (xs : List X) → AllPairs (λ x y. R (f x) (f y)) xs → AllPairs R (map f xs)
pairs-mapped R f [] pairs = λ i j d before within. absurd (omega (arith, within))
pairs-mapped R f (x ∷ xs) pairs =
    AllPairs-cons R (f x) (map f xs)
    (All-map (R (f x)) f xs (λ k d within. pairs 0 (suc k) d (omega arith) (omega (arith, within))))
    (pairs-mapped R f xs (AllPairs-tail (λ x y. R (f x) (f y)) x xs pairs))

-- ---- actors of which no two are the same

abbrev bit : Bool → ℕ
bit b = cond b 1 0

-- where an actor is counted at most once behind one that is the same, it doesn't stand there
none-counted : (a : Actor) (actors : List Actor) → count_by (λ b. same_actor b a) actors ≤ 0 → All (λ b. a ≢ b) actors
none-counted a [] few = All-nil (λ b. a ≢ b)
none-counted a (b ∷ actors) few =
    let parts = sum_by-cons (λ c. bit (same_actor c a)) b actors in
    All-cons (λ c. a ≢ c) b actors
    (λ same. let here : bit (same_actor b a) ≡ 1 = ap bit (ap (λ c. same_actor c a) (sym same) ∙ same_actor-refl a) in
    absurd (omega (arith, parts, here, few)))
    (none-counted a actors (omega (arith, parts, few)))

-- actors of which each is counted once at most are different
pub differ : (actors : List Actor) → ((a : Actor) → count_by (λ b. same_actor b a) actors ≤ 1) → AllPairs (λ a b. a ≢ b) actors
differ [] few = λ i j d before within. absurd (omega (arith, within))
differ (a ∷ actors) few =
    let here : bit (same_actor a a) ≡ 1 = ap bit (same_actor-refl a) in
    let parts = sum_by-cons (λ b. bit (same_actor b a)) a actors in
    AllPairs-cons (λ b c. b ≢ c) a actors
    (none-counted a actors (omega (arith, parts, here, few a)))
    (differ actors (λ b. omega (arith, few b, sum_by-cons (λ c. bit (same_actor c b)) a actors)))

-- ---- entries of an actor

abbrev pub IsOf : Actor → Stamped → Type 0
IsOf a e = e.actor ≡ a

filter-own : (a : Actor) (log : List Stamped) → All (IsOf a) log → filter (of_actor a) log ≡ log
filter-own a [] own = refl
filter-own a (e ∷ log) own =
    let here : of_actor a e ≡ true = ap (same_actor a) (All-head (IsOf a) e log own) ∙ same_actor-refl a in
    rw here (ap (λ l. e ∷ l) (filter-own a log (All-tail (IsOf a) e log own)))

other : (a b : Actor) → a ≢ b → same_actor a b ≡ false
other a b apart = by_test (same_actor a b) refl where
  by_test : (t : Bool) → same_actor a b ≡ t → same_actor a b ≡ false
  by_test true e = absurd (apart (same_actor-true a b e))
  by_test false e = e

filter-other : (a b : Actor) (log : List Stamped) → a ≢ b → All (IsOf b) log → filter (of_actor a) log ≡ []
filter-other a b [] apart own = refl
filter-other a b (e ∷ log) apart own =
    let here : of_actor a e ≡ false = ap (same_actor a) (All-head (IsOf b) e log own) ∙ other a b apart in
    rw here (filter-other a b log apart (All-tail (IsOf b) e log own))

-- ---- entries in their order

less : (m n : ℕ) → nat_cmp m n ≡ Less → m < n
less m n e = grind (arith, nat_tests)

equal : (m n : ℕ) → nat_cmp m n ≡ Equal → m ≡ n
equal m n e = grind (arith, nat_tests)

-- of two entries of one actor the one before has the smaller stamp
pub before-less : (a b : Stamped) → IsBefore a b → a.actor ≡ b.actor → a.stamp < b.stamp
before-less a b before same = by_order (nat_cmp a.stamp b.stamp) refl where
  less≢equal : Less ≡ Equal → ⊥
  less≢equal e = cc

  less≢greater : Less ≡ Greater → ⊥
  less≢greater e = cc

  by_order : (o : Ordering) → nat_cmp a.stamp b.stamp ≡ o → a.stamp < b.stamp
  by_order Less e = less a.stamp b.stamp e
  by_order Equal e =
      let tied : entry_order a b ≡ entry_order a a =
      ap (λ s. ordering_then (nat_cmp a.stamp s) (actor_order a.actor b.actor)) (sym (equal a.stamp b.stamp e))
      ∙ ap (λ c. ordering_then (nat_cmp a.stamp a.stamp) (actor_order a.actor c)) (sym same) in
      absurd (less≢equal (sym before ∙ (tied ∙ tied_itself entry_order_total a)))
  by_order Greater e =
      absurd (less≢greater (sym before ∙ ap (λ o. ordering_then o (actor_order a.actor b.actor)) e))

-- the one before has no greater stamp
pub before-least : (a b : Stamped) → IsBefore a b → a.stamp ≤ b.stamp
before-least a b before = by_order (nat_cmp a.stamp b.stamp) refl where
  less≢greater : Less ≡ Greater → ⊥
  less≢greater e = cc

  by_order : (o : Ordering) → nat_cmp a.stamp b.stamp ≡ o → a.stamp ≤ b.stamp
  by_order Less e = omega (arith, less a.stamp b.stamp e)
  by_order Equal e = omega (arith, equal a.stamp b.stamp e)
  by_order Greater e =
      absurd (less≢greater (sym before ∙ ap (λ o. ordering_then o (actor_order a.actor b.actor)) e))

-- ---- the logs of actors

module _ (log_of : Actor → List Stamped) where
  -- the logs one after the other
  abbrev pub all_of : List Actor → List Stamped
  all_of actors = flat_map (λ log. log) (map log_of actors)

  abbrev pub IsOwn : Actor → Type 0
  IsOwn a = IsLog (log_of a) × All (IsOf a) (log_of a)

  apart : (a b : Actor) → All (IsOf a) (log_of a) → All (IsOf b) (log_of b) → a ≢ b → AreOfOtherActors (log_of a) (log_of b)
  apart a b first second differ i d within j e inside same = differ (sym (first i d within) ∙ (same ∙ second j e inside))

  -- each actor has a log of its own
  pub logs-apart : (actors : List Actor) → AllPairs (λ a b. a ≢ b) actors → All IsOwn actors → AreLogs (map log_of actors)
  logs-apart actors differ own = record {
    each = All-map IsLog log_of actors (λ k d within. (own k d within).0);
    apart = pairs-mapped AreOfOtherActors log_of actors (λ i j d before within.
        apart (get_or actors i d) (get_or actors j d) (own i d (omega (arith, before, within))).1 (own j d within).1 (differ i j d before within));
  }

  -- what holds of all entries of each log holds of all
  pub all-entries : (P : Stamped → Type 0) (actors : List Actor) → All (λ a. All P (log_of a)) actors → All P (all_of actors)
  all-entries P [] all = All-nil P
  all-entries P (a ∷ actors) all =
      All-append P (log_of a) (all_of actors) (All-head (λ b. All P (log_of b)) a actors all) (all-entries P actors (All-tail (λ b. All P (log_of b)) a actors all))

  no-entries : (a : Actor) (actors : List Actor) → All (λ b. a ≢ b) actors → All IsOwn actors → filter (of_actor a) (all_of actors) ≡ []
  no-entries a [] differ own = refl
  no-entries a (b ∷ actors) differ own =
      let here = filter-other a b (log_of b) (All-head (λ c. a ≢ c) b actors differ) (All-head IsOwn b actors own).1 in
      let rest = no-entries a actors (All-tail (λ c. a ≢ c) b actors differ) (All-tail IsOwn b actors own) in
      filter-append (of_actor a) (log_of b) (all_of actors) ∙ (rw (here, rest) refl)

  -- the entries of each actor among those of all
  pub own-entries : (actors : List Actor) → AllPairs (λ a b. a ≢ b) actors → All IsOwn actors → All (λ a. filter (of_actor a) (all_of actors) ≡ log_of a) actors
  own-entries [] differ own = All-nil (λ a. filter (of_actor a) (all_of []) ≡ log_of a)
  own-entries (a ∷ actors) differ own =
      let mine = filter-own a (log_of a) (All-head IsOwn a actors own).1 in
      let none = no-entries a actors (λ k d within. differ 0 (suc k) d (omega arith) (omega (arith, within))) (All-tail IsOwn a actors own) in
      let rest = own-entries actors (AllPairs-tail (λ b c. b ≢ c) a actors differ) (All-tail IsOwn a actors own) in
      All-cons (λ b. filter (of_actor b) (all_of (a ∷ actors)) ≡ log_of b) a actors
      (filter-append (of_actor a) (log_of a) (all_of actors) ∙ (rw (mine, none) (append-nil (log_of a))))
      (λ k d within.
      let b = get_or actors k d in
      let apart : b ≢ a = λ same. differ 0 (suc k) d (omega arith) (omega (arith, within)) (sym same) in
      let others = filter-other b a (log_of a) apart (All-head IsOwn a actors own).1 in
      filter-append (of_actor b) (log_of a) (all_of actors) ∙ (rw others (rest k d within)))

  -- what holds of the entries of all logs holds of those of their merge
  pub merge-all : (P : Stamped → Type 0) (actors : List Actor) (merged : List Stamped) → All (λ a. All P (log_of a)) actors → IsMerge (map log_of actors) merged → All P merged
  merge-all P actors merged all merge = All-permutation P (all_of actors) merged merge.same (all-entries P actors all)

  -- a merge has of each actor its log
  pub merge-own : (actors : List Actor) (merged : List Stamped) → AllPairs (λ a b. a ≢ b) actors → All IsOwn actors → IsMerge (map log_of actors) merged → All (λ a. filter (of_actor a) merged ≡ log_of a) actors
  merge-own actors merged differ own merge k d within =
      each_kept (map log_of actors) merged (get_or actors k d) (logs-apart actors differ own) merge ∙ own-entries actors differ own k d within

-- in a merge the stamps don't fall, and those of one actor rise
pub merge-rises : (logs : List (List Stamped)) (merged : List Stamped) → IsMerge logs merged → AllPairs (λ (a b : Stamped). a.stamp ≤ b.stamp) merged
merge-rises logs merged merge i j d before within = before-least (get_or merged i d) (get_or merged j d) (merge.rising i j d before within)

pub merge-strict : (logs : List (List Stamped)) (merged : List Stamped) → IsMerge logs merged → AllPairs (λ (a b : Stamped). a.actor ≡ b.actor → a.stamp < b.stamp) merged
merge-strict logs merged merge i j d before within = before-less (get_or merged i d) (get_or merged j d) (merge.rising i j d before within)

-- What acquires and releases come to for each core.
use Rattle.std.proofs.Common.{◌≡◌, ℕ, ◌+◌, ◌<◌, ◌≤◌, ◌==◌, Bool, true, false, cond, nat_le, List, [], ◌∷◌, ◌++◌, length, Option, Some, None, refl, sym, ap, arith, ◌∙◌}
use Rattle.std.specs.List.{All}
use Rattle.std.proofs.lemmas.List.Elements.{All-push, All-head, All-tail}
use Rattle.std.proofs.lemmas.Option.{some_pair_parts}
use Rattle.std.proofs.lemmas.Bool.{eqb-true, eqb-false}
use Rattle.std.proofs.lemmas.Bool.Decides.{nat_tests}
use Rattle.dn_base.specs.declared.ids.CoreId.{CoreId}
use Rattle.write_signature.specs.declared.signature.Signature.{Signature}
use Rattle.write_signature.specs.Signature.{joined}
use Rattle.queue_lock.specs.Lock.{Lock, IsLockOf, free_lock, is_core, waits, times_queued, queued, asked, acquired, handed_on, given_up, released, holder_count, grant_count, next_count}
use Rattle.queue_lock.proofs.LockLemmas.{places_of-cons, places_of-push, waits-stands, room, IsLock-free, IsLock-acquired, IsLock-released}

-- what passes a test weighs 1
abbrev bit : Bool → ℕ
bit b = cond b 1 0

-- a core does not wait exactly where it stands at no place
waits-none : (core : ℕ) (queue : List CoreId) → times_queued core queue ≡ 0 → waits core queue ≡ false
waits-none core queue none = by_test (waits core queue) refl where
  by_test : (t : Bool) → waits core queue ≡ t → waits core queue ≡ false
  by_test true e = absurd (omega (arith, none, (waits-stands core queue).0 e))
  by_test false e = e

-- who holds a lock
pub holder-is : (core : CoreId) (o : Option CoreId) → holder_count core.0 o ≡ 1 → o ≡ Some core
holder-is core None one = absurd (omega (arith, one))
holder-is core (Some d) one =
    let same : d.0 ≡ core.0 = grind (arith, nat_tests) in
    grind (arith, nat_tests)

pub holder-within : (core : ℕ) (o : Option CoreId) → holder_count core o ≤ 1
holder-within core None = omega arith
holder-within core (Some d) = grind (arith, nat_tests)

pub holder-one : (c d : ℕ) (o : Option CoreId) → holder_count c o + holder_count d o ≤ 1 + bit (c == d)
holder-one c d None = omega arith
holder-one c d (Some x) = grind (arith, nat_tests)

-- an acquire, by who holds the lock
pub acquired-free : (h : Lock) (core : CoreId) → h.holder ≡ None → acquired h core ≡ (record h { holder = Some core }, Some h.kept)
acquired-free h core free = rw free refl

pub acquired-held : (h : Lock) (core holder : CoreId) → h.holder ≡ Some holder → times_queued core.0 h.queue ≡ 0 → length h.queue < h.capacity → acquired h core ≡ (record h { queue = h.queue ++ core ∷ [] }, None)
acquired-held h core holder held absent room =
    let none = waits-none core.0 h.queue absent in
    let fits : nat_le h.capacity (length h.queue) ≡ false = grind (arith, nat_tests) in
    rw (held, none, fits) refl

pub acquired-again : (h : Lock) (core holder : CoreId) → h.holder ≡ Some holder → 1 ≤ times_queued core.0 h.queue → acquired h core ≡ (h, None)
acquired-again h core holder held there =
    let waiting : waits core.0 h.queue ≡ true = (waits-stands core.0 h.queue).1 there in
    rw (held, waiting) refl

pub kept-acquired : (h : Lock) (core : CoreId) → (acquired h core).0.kept ≡ h.kept
kept-acquired h core = by_holder h.holder where
  by_tests : (t u : Bool) → (let n : Lock = cond t h (cond u h (record h { queue = h.queue ++ core ∷ [] })) in n).kept ≡ h.kept
  by_tests true u = refl
  by_tests false true = refl
  by_tests false false = refl

  by_holder : (o : Option CoreId) → (asked h core o).0.kept ≡ h.kept
  by_holder None = refl
  by_holder (Some d) = grind (arith, nat_tests)

pub capacity-acquired : (h : Lock) (core : CoreId) → (acquired h core).0.capacity ≡ h.capacity
capacity-acquired h core = by_holder h.holder where
  by_holder : (o : Option CoreId) → (asked h core o).0.capacity ≡ h.capacity
  by_holder None = refl
  by_holder (Some d) = grind (arith, nat_tests)

pub answer-acquired : (h : Lock) (core : CoreId) (s : Signature) → (acquired h core).1 ≡ Some s → (h.holder ≡ None) × (s ≡ h.kept)
answer-acquired h core s answer = by_holder h.holder refl where
  by_holder : (o : Option CoreId) → h.holder ≡ o → (h.holder ≡ None) × (s ≡ h.kept)
  by_holder None e = let is = rw e at answer in (e, cc)
  by_holder (Some d) e = let is = rw e at answer in absurd (cc)

pub holder-acquired : (h : Lock) (core : CoreId) (d : ℕ) → holder_count d (acquired h core).0.holder ≡ holder_count d h.holder + grant_count d core (acquired h core).1
holder-acquired h core d = by_holder h.holder refl where
  by_holder : (o : Option CoreId) → h.holder ≡ o → holder_count d (asked h core o).0.holder ≡ holder_count d h.holder + grant_count d core (asked h core o).1
  by_holder None e = rw e (omega arith)
  by_holder (Some x) e =
      let same : (queued h core).holder ≡ h.holder = grind (arith, nat_tests) in
      rw same (omega arith)

pub queue-acquired : (h : Lock) (core : CoreId) (d : ℕ) → times_queued core.0 h.queue ≡ 0 → length h.queue < h.capacity → times_queued d (acquired h core).0.queue + grant_count d core (acquired h core).1 ≡ times_queued d h.queue + bit (core.0 == d)
queue-acquired h core d absent room = by_holder h.holder refl where
  by_holder : (o : Option CoreId) → h.holder ≡ o → times_queued d (acquired h core).0.queue + grant_count d core (acquired h core).1 ≡ times_queued d h.queue + bit (core.0 == d)
  by_holder None e = rw (acquired-free h core e) refl
  by_holder (Some x) e =
      rw (acquired-held h core x e absent room) (omega (arith, places_of-push d h.queue core))

-- a release from the holder, and from anyone else
pub released-other : (h : Lock) (core : CoreId) (s : Signature) → holder_count core.0 h.holder ≡ 0 → released h core s ≡ (h, None)
released-other h core s other = by_holder h.holder refl where
  by_holder : (o : Option CoreId) → h.holder ≡ o → given_up h core s o ≡ (h, None)
  by_holder None e = refl
  by_holder (Some d) e =
      let zero = rw e at other in
      let differ : is_core core.0 d ≡ false = grind (arith, nat_tests) in
      rw differ refl

pub released-own : (h : Lock) (core : CoreId) (s : Signature) → holder_count core.0 h.holder ≡ 1 → released h core s ≡ handed_on (record h { kept = joined h.kept s }) h.queue
released-own h core s own =
    let held = holder-is core h.holder own in
    let same : (core.0 == core.0) ≡ true = grind (arith, nat_tests) in
    rw (held, same) refl

pub capacity-released : (h : Lock) (core : CoreId) (s : Signature) → (released h core s).0.capacity ≡ h.capacity
capacity-released h core s = by_holder h.holder where
  by_queue : (queue : List CoreId) → (handed_on (record h { kept = joined h.kept s }) queue).0.capacity ≡ h.capacity
  by_queue [] = refl
  by_queue (x ∷ xs) = refl

  by_test : (t : Bool) → (cond t (handed_on (record h { kept = joined h.kept s }) h.queue) (h, None)).0.capacity ≡ h.capacity
  by_test true = by_queue h.queue
  by_test false = refl

  by_holder : (o : Option CoreId) → (given_up h core s o).0.capacity ≡ h.capacity
  by_holder None = refl
  by_holder (Some d) = by_test (is_core core.0 d)

pub kept-released : (h : Lock) (core : CoreId) (s : Signature) → holder_count core.0 h.holder ≡ 1 → (released h core s).0.kept ≡ joined h.kept s
kept-released h core s own = rw (released-own h core s own) (by_queue h.queue) where
  by_queue : (queue : List CoreId) → (handed_on (record h { kept = joined h.kept s }) queue).0.kept ≡ joined h.kept s
  by_queue [] = refl
  by_queue (x ∷ xs) = refl

pub holder-released : (h : Lock) (core : CoreId) (s : Signature) (d : ℕ) → holder_count core.0 h.holder ≡ 1 → holder_count d (released h core s).0.holder ≡ next_count d (released h core s).1
holder-released h core s d own = rw (released-own h core s own) (by_queue h.queue) where
  by_queue : (queue : List CoreId) → holder_count d (handed_on (record h { kept = joined h.kept s }) queue).0.holder ≡ next_count d (handed_on (record h { kept = joined h.kept s }) queue).1
  by_queue [] = refl
  by_queue (x ∷ xs) = refl

pub queue-released : (h : Lock) (core : CoreId) (s : Signature) (d : ℕ) → holder_count core.0 h.holder ≡ 1 → times_queued d (released h core s).0.queue + next_count d (released h core s).1 ≡ times_queued d h.queue
queue-released h core s d own = rw (released-own h core s own) (by_queue h.queue refl) where
  by_queue : (queue : List CoreId) → h.queue ≡ queue → times_queued d (handed_on (record h { kept = joined h.kept s }) queue).0.queue + next_count d (handed_on (record h { kept = joined h.kept s }) queue).1 ≡ times_queued d queue
  by_queue [] e = rw e refl
  by_queue (x ∷ xs) e = omega (arith, places_of-cons d x xs)

pub answer-released : (h : Lock) (core next : CoreId) (s t : Signature) → (released h core s).1 ≡ Some (next, t) → (holder_count core.0 h.holder ≡ 1) × (t ≡ joined h.kept s) × ((released h core s).0.holder ≡ Some next)
answer-released h core next s t answer = by_count (holder_count core.0 h.holder == 1) refl where
  by_queue : (queue : List CoreId) → (handed_on (record h { kept = joined h.kept s }) queue).1 ≡ Some (next, t) → (t ≡ joined h.kept s) × ((handed_on (record h { kept = joined h.kept s }) queue).0.holder ≡ Some next)
  by_queue [] e = absurd (cc)
  by_queue (x ∷ xs) e =
      let parts = some_pair_parts x next (joined h.kept s) t e in
      (sym parts.1, ap (λ (c : CoreId). Some c) parts.0)

  by_count : (b : Bool) → (holder_count core.0 h.holder == 1) ≡ b → (holder_count core.0 h.holder ≡ 1) × (t ≡ joined h.kept s) × ((released h core s).0.holder ≡ Some next)
  by_count true e =
      let own = eqb-true (holder_count core.0 h.holder) 1 e in
      let is = released-own h core s own in
      let handed = by_queue h.queue (rw is at answer) in
      (own, handed.0, rw is handed.1)
  by_count false e =
      let other : holder_count core.0 h.holder ≡ 0 = omega (arith, holder-within core.0 h.holder, eqb-false (holder_count core.0 h.holder) 1 e) in
      let never = rw (released-other h core s other) at answer in
      absurd (cc)

-- the locks of a machine with so many cores
pub IsLockOf-free : (cores : ℕ) → IsLockOf cores (free_lock cores)
IsLockOf-free cores =
    record { lock = IsLock-free cores; room = refl; holder = λ core held. absurd (cc); queue = λ k d below. absurd (omega arith) }

pub IsLockOf-acquired : (cores : ℕ) (h : Lock) (core : CoreId) → IsLockOf cores h → core.0 < cores → IsLockOf cores (acquired h core).0
IsLockOf-acquired cores h core good below =
    record {
      lock = IsLock-acquired h core good.lock;
      room = capacity-acquired h core ∙ good.room;
      holder = by_holder h.holder refl;
      queue = by_queue h.holder;
    } where
      by_holder : (o : Option CoreId) → h.holder ≡ o → (x : CoreId) → (asked h core o).0.holder ≡ Some x → x.0 < cores
      by_holder None e x held = let same : core ≡ x = cc in rw (← same) below
      by_holder (Some d) e x held =
          let same : (queued h core).holder ≡ h.holder = grind (arith, nat_tests) in
          good.holder x (cc)

      by_queued : (t u : Bool) → waits core.0 h.queue ≡ t → nat_le h.capacity (length h.queue) ≡ u → All (λ (d : CoreId). d.0 < cores) (queued h core).queue
      by_queued true u e f = rw e good.queue
      by_queued false true e f = rw (e, f) good.queue
      by_queued false false e f =
          rw (e, f) (All-push (λ (d : CoreId). d.0 < cores) h.queue core good.queue below)

      by_queue : (o : Option CoreId) → All (λ (d : CoreId). d.0 < cores) (asked h core o).0.queue
      by_queue None = good.queue
      by_queue (Some d) =
          by_queued (waits core.0 h.queue) (nat_le h.capacity (length h.queue)) refl refl

-- the members of a lock that is handed on
record Members (cores : ℕ) (h : Lock) : Type 0 where
  pub holder : (core : CoreId) → h.holder ≡ Some core → core.0 < cores
  pub queue : All (λ (core : CoreId). core.0 < cores) h.queue

handed-members : (cores : ℕ) (h : Lock) → IsLockOf cores h → (s : Signature) → Members cores (handed_on (record h { kept = s }) h.queue).0
handed-members cores h good s = by_queue h.queue good.queue where
  by_queue : (queue : List CoreId) → All (λ (d : CoreId). d.0 < cores) queue → Members cores (handed_on (record h { kept = s }) queue).0
  by_queue [] all =
      record { holder = λ core held. absurd (cc); queue = good.queue }
  by_queue (x ∷ xs) all =
      let first : x.0 < cores = All-head (λ (d : CoreId). d.0 < cores) x xs all in
      record {
        holder = λ core held. let same : x ≡ core = cc in rw (← same) first;
        queue = All-tail (λ (d : CoreId). d.0 < cores) x xs all;
      }

released-members : (cores : ℕ) (h : Lock) (core : CoreId) (s : Signature) → IsLockOf cores h → Members cores (released h core s).0
released-members cores h core s good = by_count (holder_count core.0 h.holder == 1) refl where
  by_count : (b : Bool) → (holder_count core.0 h.holder == 1) ≡ b → Members cores (released h core s).0
  by_count true e =
      rw (released-own h core s (eqb-true (holder_count core.0 h.holder) 1 e)) (handed-members cores h good (joined h.kept s))
  by_count false e =
      let other : holder_count core.0 h.holder ≡ 0 = omega (arith, holder-within core.0 h.holder, eqb-false (holder_count core.0 h.holder) 1 e) in
      rw (released-other h core s other) (record { holder = good.holder; queue = good.queue })

pub IsLockOf-released : (cores : ℕ) (h : Lock) (core : CoreId) (s : Signature) → IsLockOf cores h → IsLockOf cores (released h core s).0
IsLockOf-released cores h core s good =
    let members = released-members cores h core s good in
    record { lock = IsLock-released h core s good.lock; room = capacity-released h core s ∙ good.room; holder = members.holder; queue = members.queue }

pub room-of : (cores : ℕ) (h : Lock) (core : CoreId) → IsLockOf cores h → core.0 < cores → times_queued core.0 h.queue ≡ 0 → length h.queue < h.capacity
room-of cores h core good below absent =
    rw good.room (room h.queue cores core.0 good.queue good.lock.once below absent)

-- no core that the machine lacks holds its locks or waits for them
pub outsider-holder : (cores : ℕ) (h : Lock) (d : ℕ) → IsLockOf cores h → cores ≤ d → holder_count d h.holder ≡ 0
outsider-holder cores h d good past = by_holder h.holder refl where
  by_holder : (o : Option CoreId) → h.holder ≡ o → holder_count d o ≡ 0
  by_holder None e = refl
  by_holder (Some x) e =
      let below : x.0 < cores = good.holder x e in
      grind (arith, nat_tests)

pub outsider-queue : (cores : ℕ) (h : Lock) (d : ℕ) → IsLockOf cores h → cores ≤ d → times_queued d h.queue ≡ 0
outsider-queue cores h d good past = by_queue h.queue good.queue where
  by_queue : (queue : List CoreId) → All (λ (c : CoreId). c.0 < cores) queue → times_queued d queue ≡ 0
  by_queue [] all = refl
  by_queue (x ∷ xs) all =
      let below : x.0 < cores = All-head (λ (c : CoreId). c.0 < cores) x xs all in
      let rest = by_queue xs (All-tail (λ (c : CoreId). c.0 < cores) x xs all) in
      let differ : bit (x.0 == d) ≡ 0 = grind (arith, nat_tests) in
      omega (arith, rest, differ, places_of-cons d x xs)

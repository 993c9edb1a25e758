-- What a push and a pop come to.
use Rattle.std.proofs.Common.{◌≡◌, ◌≢◌, ◌↔◌, ℕ, ◌+◌, ◌<◌, ◌≤◌, ◌==◌, Bool, true, false, cond, nat_lt, nat_le, List, [], ◌∷◌, ◌++◌, length, drop, slice_get, Option, Some, None, Result, refl, arith, ◌∙◌, length-append, zero, suc}
use Rattle.std.specs.List.{All}
use Rattle.std.specs.Result.{IsOk, OnOk, IfErr}
use Rattle.std.specs.declared.result.Result.TheVariants.{Ok, Err}
use Rattle.std.proofs.lemmas.List.Sums.{sum_by-cons, sum_by_push}
use Rattle.std.proofs.lemmas.Bool.Decides.{nat_tests}
use Rattle.dn_base.specs.declared.ids.CoreId.{CoreId}
use Rattle.write_signature.specs.declared.signature.Signature.{Signature}
use Rattle.circular_buffer.specs.Buffer.{Buffer, buffer}
use Rattle.queue_lock.specs.Lock.{Lock, IsLock, free_lock, is_core, waits, times_queued, queued, asked, acquired, handed_on, given_up, released}
use Rattle.write_signature.specs.Signature.{joined}

-- what passes a test weighs 1
abbrev bit : Bool → ℕ
bit b = cond b 1 0

pub places_of-cons : (core : ℕ) (d : CoreId) (queue : List CoreId) → times_queued core (d ∷ queue) ≡ bit (d.0 == core) + times_queued core queue
places_of-cons core d queue = sum_by-cons (λ (x : CoreId). bit (is_core core x)) d queue

pub places_of-push : (core : ℕ) (queue : List CoreId) (d : CoreId) → times_queued core (queue ++ d ∷ []) ≡ times_queued core queue + bit (d.0 == core)
places_of-push core queue d = sum_by_push (λ (x : CoreId). bit (is_core core x)) queue d

-- a core that does not wait stands at no place
pub places_of-none : (core : ℕ) (queue : List CoreId) → waits core queue ≡ false → times_queued core queue ≡ 0
places_of-none core [] absent = refl
places_of-none core (d ∷ queue) absent =
    let rest : waits core queue ≡ false = grind (arith, nat_tests) in
    let here : (d.0 == core) ≡ false = grind (arith, nat_tests) in
    places_of-cons core d queue ∙ rw here (omega (arith, places_of-none core queue rest))

pub popped : (h : Lock) (s : Signature) → IsLock h → IsLock (record { holder = slice_get h.queue 0; queue = drop 1 h.queue; capacity = h.capacity; kept = s })
popped h s good = by_queue h.queue good.once good.within where
  by_queue : (queue : List CoreId) → ((core : ℕ) → times_queued core queue ≤ 1) → length queue ≤ h.capacity → IsLock (record { holder = slice_get queue 0; queue = drop 1 queue; capacity = h.capacity; kept = s })
  by_queue [] once within = record { free = λ e. refl; once = once; within = within }
  by_queue (d ∷ queue) once within =
      record { free = λ e. absurd (cc); once = λ core. omega (arith, once core, places_of-cons core d queue); within = omega (arith) }

pub pushed : (h : Lock) (core : CoreId) → IsLock h → h.holder ≢ None → waits core.0 h.queue ≡ false → length h.queue < h.capacity → IsLock (record h { queue = h.queue ++ core ∷ [] })
pushed h core good held absent room =
    record { free = λ e. absurd (held e); once = λ c. by_core c (core.0 == c) refl; within = omega (arith, length-append h.queue (core ∷ [])) } where
      by_core : (c : ℕ) (t : Bool) → (core.0 == c) ≡ t → times_queued c (h.queue ++ core ∷ []) ≤ 1
      by_core c true e =
          let same : core.0 ≡ c = grind (arith, nat_tests) in
          let none : times_queued c h.queue ≡ 0 = rw (← same) (places_of-none core.0 h.queue absent) in
          let one : bit (core.0 == c) ≡ 1 = rw e refl in
          omega (arith, none, one, places_of-push c h.queue core)
      by_core c false e =
          let one : bit (core.0 == c) ≡ 0 = rw e refl in
          omega (arith, good.once c, one, places_of-push c h.queue core)

-- a try to push changes nothing where there is no room
pub tried : (h : Lock) (core : CoreId) (new : Buffer CoreId) (r : Result (Unit {0}) CoreId) → IsLock h → h.holder ≢ None → waits core.0 h.queue ≡ false → IsOk r ↔ (length h.queue < h.capacity) → OnOk r (new ≡ buffer (h.queue ++ core ∷ []) h.capacity) → IfErr r (λ x. (x ≡ core) × (new ≡ buffer h.queue h.capacity)) → IsLock (record { holder = h.holder; queue = new.items; capacity = new.capacity; kept = h.kept })
tried h core new (Ok x) good held absent room ok err = rw ok (pushed h core good held absent (room.0 refl))
tried h core new (Err x) good held absent room ok err = rw err.1 good

pub IsLock-free : (cores : ℕ) → IsLock (free_lock cores)
IsLock-free cores = record { free = λ e. refl; once = λ core. omega arith; within = omega arith }

pub IsLock-acquired : (h : Lock) (core : CoreId) → IsLock h → IsLock (acquired h core).0
IsLock-acquired h core good = by_holder h.holder refl where
  by_queue : (held : h.holder ≢ None) (t u : Bool) → waits core.0 h.queue ≡ t → nat_le h.capacity (length h.queue) ≡ u → IsLock (queued h core)
  by_queue held true u e f = rw e good
  by_queue held false true e f = rw (e, f) good
  by_queue held false false e f = rw (e, f) (pushed h core good held e (grind (arith, nat_tests)))

  by_holder : (o : Option CoreId) → h.holder ≡ o → IsLock (asked h core o).0
  by_holder None e =
      record { free = λ held. absurd (cc); once = good.once; within = good.within }
  by_holder (Some d) e =
      let held : h.holder ≢ None = λ none. cc in
      by_queue held (waits core.0 h.queue) (nat_le h.capacity (length h.queue)) refl refl

IsLock-handed : (h : Lock) (s : Signature) → IsLock h → IsLock (handed_on (record h { kept = s }) h.queue).0
IsLock-handed h s good = by_queue h.queue refl good.once good.within where
  by_queue : (queue : List CoreId) → h.queue ≡ queue → ((core : ℕ) → times_queued core queue ≤ 1) → length queue ≤ h.capacity → IsLock (handed_on (record h { kept = s }) queue).0
  by_queue [] e once within = record { free = λ none. e; once = good.once; within = good.within }
  by_queue (d ∷ ds) e once within =
      record { free = λ none. absurd (cc); once = λ core. omega (arith, once core, places_of-cons core d ds); within = omega (arith, within) }

pub IsLock-released : (h : Lock) (core : CoreId) (s : Signature) → IsLock h → IsLock (released h core s).0
IsLock-released h core s good = by_holder h.holder where
  by_test : (t : Bool) → IsLock (cond t (handed_on (record h { kept = joined h.kept s }) h.queue) (h, None)).0
  by_test true = IsLock-handed h (joined h.kept s) good
  by_test false = good

  by_holder : (o : Option CoreId) → IsLock (given_up h core s o).0
  by_holder None = good
  by_holder (Some d) = by_test (is_core core.0 d)

pub waits-stands : (core : ℕ) (queue : List CoreId) → (waits core queue ≡ true) ↔ (1 ≤ times_queued core queue)
waits-stands core [] = ((λ e. cc), (λ some. absurd (omega arith)))
waits-stands core (d ∷ queue) = grind (arith, nat_tests, waits-stands core queue, places_of-cons core d queue)

-- how many places the first cores have together
total : ℕ → List CoreId → ℕ
total zero queue = 0
total (suc n) queue = total n queue + times_queued n queue

total-none : (n : ℕ) → total n [] ≡ 0
unfolding total
total-none zero = refl
total-none (suc n) = omega (arith, total-none n)

total-cons : (n : ℕ) (d : CoreId) (queue : List CoreId) → total n (d ∷ queue) ≡ total n queue + bit (nat_lt d.0 n)
unfolding total
total-cons zero d queue = grind (arith, nat_tests)
total-cons (suc n) d queue = grind (arith, nat_tests, total-cons n d queue, places_of-cons n d queue)

total-all : (n : ℕ) (queue : List CoreId) → All (λ (d : CoreId). d.0 < n) queue → total n queue ≡ length queue
total-all n [] within = total-none n
total-all n (d ∷ queue) within =
    let here : d.0 < n = within 0 d (omega arith) in
    let rest = total-all n queue (λ k x below. within (suc k) x (omega (arith, below))) in
    grind (arith, nat_tests, total-cons n d queue, rest)

total-once : (n : ℕ) (queue : List CoreId) → ((d : ℕ) → times_queued d queue ≤ 1) → total n queue ≤ n
unfolding total
total-once zero queue once = omega arith
total-once (suc n) queue once = omega (arith, once n, total-once n queue once)

total-absent : (n core : ℕ) (queue : List CoreId) → ((d : ℕ) → times_queued d queue ≤ 1) → core < n → times_queued core queue ≡ 0 → total n queue < n
unfolding total
total-absent zero core queue once below absent = absurd (omega arith)
total-absent (suc n) core queue once below absent = by_test (core == n) refl (total-absent n core queue once) where
  by_test : (t : Bool) → (core == n) ≡ t → (core < n → times_queued core queue ≡ 0 → total n queue < n) → total n queue + times_queued n queue < suc n
  by_test true e rest =
      let same : core ≡ n = grind (arith, nat_tests) in
      let none : times_queued n queue ≡ 0 = rw (← same) absent in
      omega (arith, none, total-once n queue once)
  by_test false e rest =
      let lower : core < n = grind (arith, nat_tests) in
      omega (arith, rest lower absent, once n)

pub room : (queue : List CoreId) (cores core : ℕ) → All (λ (d : CoreId). d.0 < cores) queue → ((d : ℕ) → times_queued d queue ≤ 1) → core < cores → times_queued core queue ≡ 0 → length queue < cores
room queue cores core within once below absent =
    omega (arith, total-all cores queue within, total-absent cores core queue once below absent)

-- What an arrival comes to for each core.
use Rattle.std.proofs.Common.{◌≡◌, ◌≢◌, ◌⊎◌, inl, inr, ℕ, ◌+◌, ◌<◌, ◌≤◌, ◌&&◌, ◌||◌, ◌==◌, not, Bool, true, false, cond, nat_lt, length, get_or, set, slice_get, Option, Some, None, refl, ◌∙◌, arith, ap, length-set}
use Rattle.std.specs.Prelude.{replicate}
use Rattle.std.proofs.lemmas.List.{length-replicate}
use Rattle.std.proofs.lemmas.List.Folds.{list_all_at}
use Rattle.std.proofs.lemmas.List.Sums.{AllPass-from_list_all, sum_by-set}
use Rattle.std.proofs.lemmas.Bool.Decides.{nat_tests}
use Rattle.std.proofs.lemmas.Bool.{eqb-true}
use Rattle.std.proofs.lemmas.Option.{slice_get_within, slice_get-get_or, get_or_from_slice_get}
use Rattle.message_net.specs.declared.message.Message as message
use Rattle.message_net.specs.declared.message.Message.{Message}
use Rattle.message_net.specs.declared.event.EventKind as kind
use Rattle.message_net.specs.Kind.{kind_of}
use Rattle.dn_base.specs.declared.ids.PhaseId.{PhaseId}
use Rattle.dn_base.specs.declared.ids.CoreId.{CoreId}
use Rattle.phase_barrier.specs.declared.keeper.Verdict.TheVariants.{Wait, Go, Halt}
use Rattle.phase_barrier.specs.Barrier.{Barrier, initial_barrier, all_arrived, is_over, in_next_phase, decided, with_arrival, on_arrival, keeper_arrives, keeper_gets, IsBarrier, flag_is_set, has_arrived, waits_in, arrived_count}
use Rattle.phase_barrier.specs.Letters.{letter_count, go_count}
use Rattle.phase_barrier.proofs.ArrivalLemmas.{get-set, unmarked, begins}

-- what passes a test weighs 1
abbrev bit : Bool → ℕ
bit b = cond b 1 0

-- a message to the keeper, by its kind
pub keeper_gets-arrived : (k : Barrier) (core : CoreId) (bad : Bool) → keeper_gets k (message.TheVariants.Arrived core bad) ≡ keeper_arrives k core.0 bad
unfolding keeper_gets
keeper_gets-arrived k core bad = refl

pub keeper_gets-other : (k : Barrier) (m : Message) → kind_of m ≢ kind.TheVariants.Arrived → keeper_gets k m ≡ (k, Wait)
unfolding keeper_gets
keeper_gets-other k (message.TheVariants.Arrived core bad) differ = absurd (differ refl)
keeper_gets-other k _ differ = refl

-- an arrival, by what is known of its core
pub arrives-again : (k : Barrier) (core : ℕ) (bad : Bool) → slice_get k.arrived core ≢ Some false → keeper_arrives k core bad ≡ (k, Wait)
arrives-again k core bad known = by_mark (slice_get k.arrived core) refl where
  by_mark : (o : Option Bool) → slice_get k.arrived core ≡ o → on_arrival k core bad o ≡ (k, Wait)
  by_mark None e = refl
  by_mark (Some true) e = refl
  by_mark (Some false) e = absurd (known e)

pub arrives-new : (k : Barrier) (core : ℕ) (bad : Bool) → slice_get k.arrived core ≡ Some false → keeper_arrives k core bad ≡ decided (with_arrival core bad k)
arrives-new k core bad new = rw new refl

-- where a core is missing not all have arrived, and where all have each one has
pub missing-one : (k : Barrier) (core : ℕ) → slice_get k.arrived core ≡ Some false → all_arrived k ≡ false
missing-one k core missing =
    list_all_at (λ (a : Bool). a) k.arrived core false (slice_get_within k.arrived core false missing) (get_or_from_slice_get k.arrived core false false missing)

pub all-marked : (k : Barrier) (d : ℕ) → all_arrived k ≡ true → d < length k.arrived → has_arrived d k ≡ true
all-marked k d whole within =
    let here = slice_get-get_or k.arrived d false within in
    let mark = AllPass-from_list_all (λ (a : Bool). a) k.arrived whole d false within in
    rw here mark

pub has-counted : (k : Barrier) (core d : ℕ) (bad : Bool) → core < length k.arrived → has_arrived d (with_arrival core bad k) ≡ (has_arrived d k || (core == d))
has-counted k core d bad within = by_test (core == d) refl where
  by_test : (t : Bool) → (core == d) ≡ t → has_arrived d (with_arrival core bad k) ≡ (has_arrived d k || t)
  by_test true e =
      let same : core ≡ d = eqb-true core d e in
      let there : nat_lt d (length k.arrived) ≡ true = grind (arith, nat_tests) in
      rw (get-set k.arrived core d, e, there) (or-true (has_arrived d k)) where
        or-true : (b : Bool) → true ≡ (b || true)
        or-true true = refl
        or-true false = refl
  by_test false e = rw (get-set k.arrived core d, e) (or-false (has_arrived d k)) where
    or-false : (b : Bool) → b ≡ (b || false)
    or-false true = refl
    or-false false = refl

pub none-advanced : (k : Barrier) (d : ℕ) → has_arrived d (in_next_phase k) ≡ false
none-advanced k d = by_mark (slice_get (replicate (length k.arrived) false) d) refl where
  by_mark : (o : Option Bool) → slice_get (replicate (length k.arrived) false) d ≡ o → flag_is_set o ≡ false
  by_mark None e = refl
  by_mark (Some false) e = refl
  by_mark (Some true) e =
      let within = slice_get_within (replicate (length k.arrived) false) d true e in
      let false_there = unmarked (length k.arrived) d (omega (arith, within, length-replicate (length k.arrived) false)) in
      absurd (cc)

pub nobody-opened : (cores phases d : ℕ) → has_arrived d (initial_barrier cores phases) ≡ false
nobody-opened cores phases d = by_mark (slice_get (replicate cores false) d) refl where
  by_mark : (o : Option Bool) → slice_get (replicate cores false) d ≡ o → flag_is_set o ≡ false
  by_mark None e = refl
  by_mark (Some false) e = refl
  by_mark (Some true) e =
      let within = slice_get_within (replicate cores false) d true e in
      let false_there = unmarked cores d (omega (arith, within, length-replicate cores false)) in
      absurd (cc)

-- what comes of a new core's arrival: it waits for the others, or all have arrived and the run is over or goes on
pub record Waited (k : Barrier) (core : ℕ) (bad : Bool) : Type 0 where
  pub is : keeper_arrives k core bad ≡ (with_arrival core bad k, Wait)
  pub missing : all_arrived (with_arrival core bad k) ≡ false

pub record Ended (k : Barrier) (core : ℕ) (bad : Bool) : Type 0 where
  pub is : keeper_arrives k core bad ≡ (with_arrival core bad k, Halt)
  pub whole : all_arrived (with_arrival core bad k) ≡ true
  pub over : is_over (with_arrival core bad k) ≡ true

pub record Begun (k : Barrier) (core : ℕ) (bad : Bool) : Type 0 where
  pub is : keeper_arrives k core bad ≡ (in_next_phase (with_arrival core bad k), Go (record { 0 = k.phase + 1 }))
  pub whole : all_arrived (with_arrival core bad k) ≡ true
  pub over : is_over (with_arrival core bad k) ≡ false

pub outcome : (k : Barrier) (core : ℕ) (bad : Bool) → slice_get k.arrived core ≡ Some false → Waited k core bad ⊎ (Ended k core bad ⊎ Begun k core bad)
outcome k core bad new = by_tests (all_arrived (with_arrival core bad k)) (is_over (with_arrival core bad k)) refl refl where
  by_tests : (t u : Bool) → all_arrived (with_arrival core bad k) ≡ t → is_over (with_arrival core bad k) ≡ u → Waited k core bad ⊎ (Ended k core bad ⊎ Begun k core bad)
  by_tests false u e f =
      let is : keeper_arrives k core bad ≡ (with_arrival core bad k, Wait) = rw (new, e) refl in
      inl (record { is = is; missing = e })
  by_tests true true e f =
      let is : keeper_arrives k core bad ≡ (with_arrival core bad k, Halt) = rw (new, e, f) refl in
      inr (inl (record { is = is; whole = e; over = f }))
  by_tests true false e f =
      let is : keeper_arrives k core bad ≡ (in_next_phase (with_arrival core bad k), Go (record { 0 = k.phase + 1 })) = rw (new, e, f) refl in
      inr (inr (record { is = is; whole = e; over = f }))

-- each core waits in the barrier from its arrival on, until the letters to all
pub arrival-waits : (k : Barrier) (core d : ℕ) (bad : Bool) → slice_get k.arrived core ≡ Some false → d < length k.arrived → bit (waits_in d (keeper_arrives k core bad).0) + letter_count (keeper_arrives k core bad).1 ≡ bit (waits_in d k) + bit (core == d)
arrival-waits k core d bad new there = by_outcome (outcome k core bad new) where
  within : core < length k.arrived
  within = slice_get_within k.arrived core false new

  missing : all_arrived k ≡ false
  missing = missing-one k core new

  unmarked-core : has_arrived core k ≡ false
  unmarked-core = rw new refl

  -- the waits before, where all but the core had arrived
  before : all_arrived (with_arrival core bad k) ≡ true → 1 ≡ bit (waits_in d k) + bit (core == d)
  before whole = by_test (core == d) refl where
    there' : d < length (set k.arrived core true)
    there' = omega (arith, there, length-set {A = Bool})

    by_test : (t : Bool) → (core == d) ≡ t → 1 ≡ bit (waits_in d k) + bit t
    by_test true e =
        let same : core ≡ d = eqb-true core d e in
        let none : has_arrived d k ≡ false = rw (← same) unmarked-core in
        rw none refl
    by_test false e =
        let both = has-counted k core d bad within in
        let all = all-marked (with_arrival core bad k) d whole there' in
        let old = rw (all, e) at both in
        let has : has_arrived d k ≡ true = or-left (has_arrived d k) old in
        rw (has, missing) refl where
          or-left : (b : Bool) → true ≡ (b || false) → b ≡ true
          or-left true h = refl
          or-left false h = absurd (cc)

  by_outcome : Waited k core bad ⊎ (Ended k core bad ⊎ Begun k core bad) → bit (waits_in d (keeper_arrives k core bad).0) + letter_count (keeper_arrives k core bad).1 ≡ bit (waits_in d k) + bit (core == d)
  by_outcome (inl w) =
      rw (w.is, has-counted k core d bad within, w.missing, missing) (by_test (core == d) refl) where
        by_test : (t : Bool) → (core == d) ≡ t → bit ((has_arrived d k || t) && true) + 0 ≡ bit (has_arrived d k && true) + bit t
        by_test true e =
            let same : core ≡ d = eqb-true core d e in
            let none : has_arrived d k ≡ false = rw (← same) unmarked-core in
            rw none refl
        by_test false e = by_mark (has_arrived d k) where
          by_mark : (b : Bool) → bit ((b || false) && true) + 0 ≡ bit (b && true) + 0
          by_mark true = refl
          by_mark false = refl
  by_outcome (inr (inl h)) =
      rw (h.is, h.whole) (by_mark (has_arrived d (with_arrival core bad k)) ∙ before h.whole) where
        by_mark : (b : Bool) → bit (b && false) + 1 ≡ 1
        by_mark true = refl
        by_mark false = refl
  by_outcome (inr (inr g)) =
      rw (g.is, none-advanced (with_arrival core bad k) d) (before g.whole)

-- what a new core's arrival leaves
pub arrival-phase : (k : Barrier) (core : ℕ) (bad : Bool) → slice_get k.arrived core ≡ Some false → (keeper_arrives k core bad).0.phase ≡ k.phase + go_count (keeper_arrives k core bad).1
arrival-phase k core bad new = by_outcome (outcome k core bad new) where
  by_outcome : Waited k core bad ⊎ (Ended k core bad ⊎ Begun k core bad) → (keeper_arrives k core bad).0.phase ≡ k.phase + go_count (keeper_arrives k core bad).1
  by_outcome (inl w) = rw w.is (omega arith)
  by_outcome (inr (inl h)) = rw h.is (omega arith)
  by_outcome (inr (inr g)) = rw g.is refl

pub arrival-bad : (k : Barrier) (core : ℕ) (bad : Bool) → slice_get k.arrived core ≡ Some false → (keeper_arrives k core bad).0.bad ≡ (k.bad || bad)
arrival-bad k core bad new = by_outcome (outcome k core bad new) where
  by_outcome : Waited k core bad ⊎ (Ended k core bad ⊎ Begun k core bad) → (keeper_arrives k core bad).0.bad ≡ (k.bad || bad)
  by_outcome (inl w) = rw w.is refl
  by_outcome (inr (inl h)) = rw h.is refl
  by_outcome (inr (inr g)) = rw g.is refl

pub arrival-count : (k : Barrier) (core : ℕ) (bad : Bool) → slice_get k.arrived core ≡ Some false → arrived_count (with_arrival core bad k) ≡ arrived_count k + 1
arrival-count k core bad new =
    let within = slice_get_within k.arrived core false new in
    let old : bit (get_or k.arrived core false) ≡ 0 = rw (get_or_from_slice_get k.arrived core false false new) refl in
    omega (arith, old, sum_by-set (λ (a : Bool). bit a) k.arrived core true false within)

-- what any message leaves
arrives-phases : (k : Barrier) (core : ℕ) (bad : Bool) → (keeper_arrives k core bad).0.phases ≡ k.phases
arrives-phases k core bad = by_mark (slice_get k.arrived core) refl where
  by_outcome : Waited k core bad ⊎ (Ended k core bad ⊎ Begun k core bad) → (keeper_arrives k core bad).0.phases ≡ k.phases
  by_outcome (inl w) = rw w.is refl
  by_outcome (inr (inl h)) = rw h.is refl
  by_outcome (inr (inr g)) = rw g.is refl

  by_mark : (o : Option Bool) → slice_get k.arrived core ≡ o → (keeper_arrives k core bad).0.phases ≡ k.phases
  by_mark None e = rw e refl
  by_mark (Some true) e = rw e refl
  by_mark (Some false) e = by_outcome (outcome k core bad e)

arrives-cores : (k : Barrier) (core : ℕ) (bad : Bool) → length (keeper_arrives k core bad).0.arrived ≡ length k.arrived
arrives-cores k core bad = by_mark (slice_get k.arrived core) refl where
  by_outcome : Waited k core bad ⊎ (Ended k core bad ⊎ Begun k core bad) → length (keeper_arrives k core bad).0.arrived ≡ length k.arrived
  by_outcome (inl w) = rw w.is (length-set k.arrived core true)
  by_outcome (inr (inl h)) = rw h.is (length-set k.arrived core true)
  by_outcome (inr (inr g)) =
      rw g.is (length-replicate (length (set k.arrived core true)) false ∙ length-set k.arrived core true)

  by_mark : (o : Option Bool) → slice_get k.arrived core ≡ o → length (keeper_arrives k core bad).0.arrived ≡ length k.arrived
  by_mark None e = rw e refl
  by_mark (Some true) e = rw e refl
  by_mark (Some false) e = by_outcome (outcome k core bad e)

pub phases-kept : (k : Barrier) (m : Message) → (keeper_gets k m).0.phases ≡ k.phases
unfolding keeper_gets
phases-kept k (message.TheVariants.Arrived core bad) = arrives-phases k core.0 bad
phases-kept k _ = refl

pub cores-kept : (k : Barrier) (m : Message) → length (keeper_gets k m).0.arrived ≡ length k.arrived
unfolding keeper_gets
cores-kept k (message.TheVariants.Arrived core bad) = arrives-cores k core.0 bad
cores-kept k _ = refl

-- what Go and Halt tell
pub go-tells : (k : Barrier) (core : ℕ) (bad : Bool) (phase : PhaseId) → (keeper_arrives k core bad).1 ≡ Go phase → (slice_get k.arrived core ≡ Some false) × (phase.0 ≡ k.phase + 1) × (k.phase + 1 < k.phases) × ((k.bad || bad) ≡ false) × (keeper_arrives k core bad ≡ (in_next_phase (with_arrival core bad k), Go phase))
go-tells k core bad phase go = by_mark (slice_get k.arrived core) refl where
  by_outcome : slice_get k.arrived core ≡ Some false → Waited k core bad ⊎ (Ended k core bad ⊎ Begun k core bad) → (slice_get k.arrived core ≡ Some false) × (phase.0 ≡ k.phase + 1) × (k.phase + 1 < k.phases) × ((k.bad || bad) ≡ false) × (keeper_arrives k core bad ≡ (in_next_phase (with_arrival core bad k), Go phase))
  by_outcome new (inl w) = let is = rw w.is at go in absurd (cc)
  by_outcome new (inr (inl h)) = let is = rw h.is at go in absurd (cc)
  by_outcome new (inr (inr g)) =
      let is = rw g.is at go in
      let number : phase ≡ record { 0 = k.phase + 1 } = cc in
      let on = g.over in
      (new, ap (λ (p : PhaseId). p.0) number, grind (arith, nat_tests), grind (arith, nat_tests), rw number g.is)

  by_mark : (o : Option Bool) → slice_get k.arrived core ≡ o → (slice_get k.arrived core ≡ Some false) × (phase.0 ≡ k.phase + 1) × (k.phase + 1 < k.phases) × ((k.bad || bad) ≡ false) × (keeper_arrives k core bad ≡ (in_next_phase (with_arrival core bad k), Go phase))
  by_mark None e = let is = rw e at go in absurd (cc)
  by_mark (Some true) e = let is = rw e at go in absurd (cc)
  by_mark (Some false) e = by_outcome e (outcome k core bad e)

pub halt-tells : (k : Barrier) (core : ℕ) (bad : Bool) → (keeper_arrives k core bad).1 ≡ Halt → (slice_get k.arrived core ≡ Some false) × (is_over (with_arrival core bad k) ≡ true) × (keeper_arrives k core bad ≡ (with_arrival core bad k, Halt))
halt-tells k core bad halt = by_mark (slice_get k.arrived core) refl where
  by_outcome : slice_get k.arrived core ≡ Some false → Waited k core bad ⊎ (Ended k core bad ⊎ Begun k core bad) → (slice_get k.arrived core ≡ Some false) × (is_over (with_arrival core bad k) ≡ true) × (keeper_arrives k core bad ≡ (with_arrival core bad k, Halt))
  by_outcome new (inl w) = let is = rw w.is at halt in absurd (cc)
  by_outcome new (inr (inl h)) = (new, h.over, h.is)
  by_outcome new (inr (inr g)) = let is = rw g.is at halt in absurd (cc)

  by_mark : (o : Option Bool) → slice_get k.arrived core ≡ o → (slice_get k.arrived core ≡ Some false) × (is_over (with_arrival core bad k) ≡ true) × (keeper_arrives k core bad ≡ (with_arrival core bad k, Halt))
  by_mark None e = let is = rw e at halt in absurd (cc)
  by_mark (Some true) e = let is = rw e at halt in absurd (cc)
  by_mark (Some false) e = by_outcome e (outcome k core bad e)

-- where a new core's arrival isn't answered by Wait, all others had arrived
pub others-arrived : (k : Barrier) (core d : ℕ) (bad : Bool) → slice_get k.arrived core ≡ Some false → letter_count (keeper_arrives k core bad).1 ≡ 1 → d < length k.arrived → core ≢ d → has_arrived d k ≡ true
others-arrived k core d bad new answered there differ =
    let row = arrival-waits k core d bad new there in
    let other : bit (core == d) ≡ 0 = grind (arith, nat_tests) in
    let one : 1 ≤ bit (waits_in d k) = omega (arith, row, other, answered) in
    by_mark (has_arrived d k) one where
      by_mark : (b : Bool) → 1 ≤ bit (b && not (all_arrived k)) → b ≡ true
      by_mark true some = refl
      by_mark false some = absurd (omega (arith, some))

-- nobody has arrived as a phase begins, so not all have
none-whole : (k : Barrier) (n : ℕ) → k.arrived ≡ replicate n false → 1 ≤ n → all_arrived k ≡ false
none-whole k n none some = missing-one k 0 (rw none (unmarked n 0 some))

pub IsBarrier-opened : (cores phases : ℕ) → 1 ≤ cores → IsBarrier (initial_barrier cores phases)
IsBarrier-opened cores phases some =
    let short = none-whole (initial_barrier cores phases) cores refl some in
    record {
      some = omega (arith, some, length-replicate cores false);
      current = λ there. omega (arith, there);
      full = λ whole. absurd (cc);
    }

arrives-barrier : (k : Barrier) (core : ℕ) (bad : Bool) → IsBarrier k → IsBarrier (keeper_arrives k core bad).0
arrives-barrier k core bad good = by_mark (slice_get k.arrived core) refl where
  cores : length (set k.arrived core true) ≡ length k.arrived
  cores = length-set k.arrived core true

  by_outcome : Waited k core bad ⊎ (Ended k core bad ⊎ Begun k core bad) → IsBarrier (keeper_arrives k core bad).0
  by_outcome (inl w) =
      let missing = w.missing in
      rw w.is (record { some = omega (arith, good.some, cores); current = good.current; full = λ whole. absurd (cc) })
  by_outcome (inr (inl h)) =
      rw h.is (record { some = omega (arith, good.some, cores); current = good.current; full = λ whole. h.over })
  by_outcome (inr (inr g)) =
      let some : 1 ≤ length (set k.arrived core true) = omega (arith, good.some, cores) in
      let short = none-whole (in_next_phase (with_arrival core bad k)) (length (set k.arrived core true)) refl some in
      let next = begins (with_arrival core bad k) g.over in
      rw g.is
      (record {
        some = omega (arith, some, length-replicate (length (set k.arrived core true)) false);
        current = λ there. next;
        full = λ whole. absurd (cc);
      })

  by_mark : (o : Option Bool) → slice_get k.arrived core ≡ o → IsBarrier (keeper_arrives k core bad).0
  by_mark None e = rw e good
  by_mark (Some true) e = rw e good
  by_mark (Some false) e = by_outcome (outcome k core bad e)

pub IsBarrier-gets : (k : Barrier) (m : Message) → IsBarrier k → IsBarrier (keeper_gets k m).0
unfolding keeper_gets
IsBarrier-gets k (message.TheVariants.Arrived core bad) good = arrives-barrier k core.0 bad good
IsBarrier-gets k _ good = good

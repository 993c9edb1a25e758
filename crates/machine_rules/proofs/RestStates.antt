-- Where no event may come, every node is halted, or each task that hasn't ended waits for a lock that another holds.
use Rattle.std.proofs.Common.{◌≡◌, ◌≢◌, ◌⊎◌, inl, inr, ℕ, zero, suc, ◌<◌, Bool, true, false, List, [], ◌∷◌, length, slice_get, slice_index_or, Option, Some, None, refl, sym, ap, subst, ◌∙◌, arith}
use Rattle.std.specs.List.{list_all}
use Rattle.std.proofs.lemmas.Bool.Decides.{nat_tests}
use Rattle.std.proofs.lemmas.Option.{slice_get_within, get_or_from_slice_get}
use Rattle.dn_base.specs.declared.ids.CoreId.{CoreId}
use Rattle.dn_base.specs.declared.ids.LockId.{LockId}
use Rattle.rv_core.specs.declared.task.TaskState.{TaskState}
use Rattle.rv_core.specs.declared.need.Need as need
use Rattle.rv_core.proofs.Completions.{acquire-allowed}
use Rattle.rv_core.proofs.HeldLemmas.{holds-none}
use Rattle.message_net.specs.declared.event.Event.TheVariants.{Instr, Evict, Arrive}
use Rattle.queue_lock.specs.Lock.{Lock, times_queued, holder_count}
use Rattle.phase_barrier.specs.Barrier.{all_arrived}
use Rattle.registration_protocol.specs.declared.node.NodeWait as wait
use Rattle.registration_protocol.specs.Node.{NodeParts, need_now}
use Rattle.registration_protocol.specs.OwnEvents.{may_instr, may_evict, may_arrive}
use Rattle.registration_protocol.proofs.InstrLemmas.{has-next}
use Rattle.machine_rules.specs.State.{State, lock_at}
use Rattle.machine_rules.specs.Flight.{bit, is_acquire_of, is_release_of, is_grant_to, is_arrival_of, is_go_to, is_halt_to}
use Rattle.machine_rules.specs.Next.{enabled, when_there}
use Rattle.machine_rules.specs.Runs.{IsOver}
use Rattle.machine_rules.specs.Coherent.{has_lock, node_is_locking, queued_in, holder_in, is_alive, waits_at_keeper}
use Rattle.machine_rules.specs.Rest.{HasOpenTask, IsLockedOut, IsAtRest}
use Rattle.machine_rules.proofs.BitLemmas.{bit-true}
use Rattle.machine_rules.proofs.Invariant.{Invariant}
use Rattle.machine_rules.proofs.WordCore.{same-number}
use Rattle.machine_rules.proofs.DispatchCore.{node-there}
use Rattle.machine_rules.proofs.ReadableLocks.{lock-well}
use Rattle.machine_rules.proofs.RestNodes.{IsQuiet, over-quiet, IsIdle, still-goes, waits-lock}

-- ---- a node in a state in which no event may come

no-instr : (S : State) (c : ℕ) (n : NodeParts) → IsOver S → slice_get S.nodes c ≡ Some n → may_instr S.setting n ≡ false
unfolding enabled
no-instr S c n over found = sym (ap (when_there (may_instr S.setting)) found) ∙ over (Instr (record { 0 = c }))

no-evict : (S : State) (c : ℕ) (n : NodeParts) → IsOver S → slice_get S.nodes c ≡ Some n → (w : ℕ) → may_evict S.setting n w ≡ false
unfolding enabled
no-evict S c n over found w = sym (ap (when_there (λ (x : NodeParts). may_evict S.setting x w)) found) ∙ over (Evict (record { 0 = c }) (record { 0 = w }))

no-arrive : (S : State) (c : ℕ) (n : NodeParts) → IsOver S → slice_get S.nodes c ≡ Some n → may_arrive n ≡ false
unfolding enabled
no-arrive S c n over found = sym (ap (when_there may_arrive) found) ∙ over (Arrive (record { 0 = c }))

idle : (S : State) (M : ℕ → ℕ) (c : ℕ) (n : NodeParts) → Invariant S M → IsOver S → slice_get S.nodes c ≡ Some n → n.halted ≡ false → n.arrived ≡ false → IsIdle S M c n
idle S M c n inv over found awake absent =
    record {
      inv = inv;
      quiet = over-quiet S over;
      found = found;
      awake = awake;
      absent = absent;
      instr = no-instr S c n over found;
      evict = no-evict S c n over found;
      arrive = no-arrive S c n over found;
    }

-- its task is one of the keeper's phase, and goes on
open-task : (S : State) (M : ℕ → ℕ) (c : ℕ) (n : NodeParts) → IsIdle S M c n → HasOpenTask S c
open-task S M c n h =
    record { node = n; found = h.found; phase = omega (arith, h.inv.phases.phase c n h.found h.awake, h.quiet (is_go_to c)); goes = still-goes S M c n h }

-- ---- the lock for which it waits

-- who waits for a lock doesn't hold it
not-own : (S : State) (M : ℕ → ℕ) (c : ℕ) (n : NodeParts) (lock : LockId) → IsIdle S M c n → n.waiting ≡ wait.TheVariants.Locking lock → has_lock S c lock.0 ≡ false
not-own S M c n lock h waits = by_task n.task refl where
  needs : need_now S.setting n ≡ Some (need.TheVariants.Acquire lock)
  needs = rw (waits) at ((h.inv.machine.node c n h.found).fits).waiting

  by_task : (o : Option TaskState) → n.task ≡ o → has_lock S c lock.0 ≡ false
  by_task None is = rw (h.found, is) (grind (arith, nat_tests, holds-none lock.0))
  by_task (Some t) is =
      let next_is = has-next S.setting n t (need.TheVariants.Acquire lock) is needs in
      let free = acquire-allowed S.setting.program next_is.decl S.setting.fuel t lock next_is.asks in
      rw (h.found, is) free.1

pub locked-by : (S : State) (M : ℕ → ℕ) (c : ℕ) (n : NodeParts) (lock : LockId) → IsIdle S M c n → n.waiting ≡ wait.TheVariants.Locking lock → IsLockedOut S c
locked-by S M c n lock h waits = by_lock (lock_at S lock.0) refl where
  waiting : bit (node_is_locking lock.0 (slice_get S.nodes c)) ≡ 1
  waiting = rw (h.found, waits, same-number lock.0) refl

  queued : queued_in c (lock_at S lock.0) ≡ 1
  queued = omega (arith, waiting, h.inv.locks.row lock.0 c, h.quiet (is_acquire_of lock.0 c), h.quiet (is_grant_to lock.0 c))

  by_holder : (k : Lock) → lock_at S lock.0 ≡ Some k → (o : Option CoreId) → k.holder ≡ o → IsLockedOut S c
  by_holder k there None free =
      let empty = ((lock-well S h.inv.machine lock.0 k there).lock).free free in
      absurd (omega (arith, queued, ap (queued_in c) there, ap (times_queued c) empty))
  by_holder k there (Some d) owner =
      let one : holder_count d.0 (Some d) ≡ 1 = rw (same-number d.0) refl in
      let has : has_lock S d.0 lock.0 ≡ true = bit-true (has_lock S d.0 lock.0)
      (omega (arith, one, h.inv.locks.row lock.0 d.0, h.quiet (is_grant_to lock.0 d.0), h.quiet (is_release_of lock.0 d.0), ap (holder_in d.0) there, ap (holder_count d.0) owner)) in
      record { lock = lock; waits = (n, h.found, waits); holder = d.0; other = apart d.0 has; has = has }
    where
      apart : (d : ℕ) → has_lock S d lock.0 ≡ true → d ≢ c
      apart d has = λ same. not-both (subst (λ (x : ℕ). has_lock S x lock.0 ≡ true) same has) (not-own S M c n lock h waits)
        where
          not-both : has_lock S c lock.0 ≡ true → has_lock S c lock.0 ≡ false → ⊥
          not-both one two = absurd (cc)

  by_lock : (o : Option Lock) → lock_at S lock.0 ≡ o → IsLockedOut S c
  by_lock None is = absurd (omega (arith, queued, ap (queued_in c) is))
  by_lock (Some k) is = by_holder k is k.holder refl

locked-out : (S : State) (M : ℕ → ℕ) (c : ℕ) (n : NodeParts) → IsIdle S M c n → IsLockedOut S c
locked-out S M c n h = let at = waits-lock S M c n h in locked-by S M c n at.0 h at.1

-- ---- all nodes

-- all nodes are halted, or one isn't
record IsAwake (ns : List NodeParts) : Type 0 where
  place : ℕ
  node : NodeParts
  found : slice_get ns place ≡ Some node
  awake : node.halted ≡ false

some-awake : (ns : List NodeParts) → ((c : ℕ) (n : NodeParts) → slice_get ns c ≡ Some n → n.halted ≡ true) ⊎ IsAwake ns
some-awake [] = inl (λ c n found. absurd (cc))
some-awake (n ∷ ns) = by_mark n.halted refl (some-awake ns) where
  all : n.halted ≡ true → ((c : ℕ) (m : NodeParts) → slice_get ns c ≡ Some m → m.halted ≡ true) → (c : ℕ) (m : NodeParts) → slice_get (n ∷ ns) c ≡ Some m → m.halted ≡ true
  all first rest zero m found = let same : n ≡ m = cc in sym (ap (λ (x : NodeParts). x.halted) same) ∙ first
  all first rest (suc c) m found = rest c m found

  by_rest : n.halted ≡ true → ((c : ℕ) (m : NodeParts) → slice_get ns c ≡ Some m → m.halted ≡ true) ⊎ IsAwake ns → ((c : ℕ) (m : NodeParts) → slice_get (n ∷ ns) c ≡ Some m → m.halted ≡ true) ⊎ IsAwake (n ∷ ns)
  by_rest first (inl rest) = inl (all first rest)
  by_rest first (inr a) = inr (record { place = suc a.place; node = a.node; found = a.found; awake = a.awake })

  by_mark : (x : Bool) → n.halted ≡ x → ((c : ℕ) (m : NodeParts) → slice_get ns c ≡ Some m → m.halted ≡ true) ⊎ IsAwake ns → ((c : ℕ) (m : NodeParts) → slice_get (n ∷ ns) c ≡ Some m → m.halted ≡ true) ⊎ IsAwake (n ∷ ns)
  by_mark true e rest = by_rest e rest
  by_mark false e rest = inr (record { place = zero; node = n; found = refl; awake = e })

-- a core that is missing from a set that isn't whole
missing : (marks : List Bool) → list_all (λ (a : Bool). a) marks ≡ false → (d : ℕ) × (slice_get marks d ≡ Some false)
missing [] e = absurd (cc)
missing (true ∷ xs) e = let rest = missing xs e in (suc rest.0, rest.1)
missing (false ∷ xs) e = (zero, refl)

-- a core that is missing from the keeper's set has an open task, where another isn't halted
missing-open : (S : State) (M : ℕ → ℕ) (c d : ℕ) (n m : NodeParts) → Invariant S M → IsOver S → slice_get S.nodes c ≡ Some n → n.halted ≡ false → all_arrived S.keeper ≡ false → slice_get S.keeper.arrived d ≡ Some false
    → slice_get S.nodes d ≡ Some m → HasOpenTask S d
missing-open S M c d n m inv over found awake missed unmarked there = by_marks m.halted refl m.arrived refl where
  not-out : (all_arrived S.keeper ≡ true) ⊎ (length S.setting.program.phases ≡ 0) → ⊥
  not-out (inl all) = absurd (cc)
  not-out (inr none) = omega (arith, none, ((inv.machine.node c n found).fits).phase awake)

  quiet : IsQuiet S
  quiet = over-quiet S over

  by_marks : (x : Bool) → m.halted ≡ x → (y : Bool) → m.arrived ≡ y → HasOpenTask S d
  by_marks true e y f = absurd (not-out (inv.ended d m there e))
  by_marks false e true f =
      let alive : bit (is_alive (slice_get S.nodes d)) ≡ 1 = rw (there, e, f) refl in
      let here : slice_index_or S.keeper.arrived d false ≡ false = get_or_from_slice_get S.keeper.arrived d false false unmarked in
      let waits : waits_at_keeper S d ≡ 0 = rw (missed, here) refl in
      absurd (omega (arith, alive, waits, inv.phases.row d, quiet (is_arrival_of d), quiet (is_go_to d), quiet (is_halt_to d)))
  by_marks false e false f = open-task S M d m (idle S M d m inv over there e f)

-- where a node isn't halted some core has an open task
some-open : (S : State) (M : ℕ → ℕ) (c : ℕ) (n : NodeParts) → Invariant S M → IsOver S → slice_get S.nodes c ≡ Some n → n.halted ≡ false → (d : ℕ) × HasOpenTask S d
some-open S M c n inv over found awake = by_mark n.arrived refl where
  quiet : IsQuiet S
  quiet = over-quiet S over

  by_missing : all_arrived S.keeper ≡ false → (d : ℕ) × HasOpenTask S d
  by_missing missed =
      let at = missing S.keeper.arrived missed in
      let inside : at.0 < length S.nodes = omega (arith, slice_get_within S.keeper.arrived at.0 false at.1, inv.machine.nodes, inv.machine.cores) in
      let there = node-there S at.0 inside in
      (at.0, missing-open S M c at.0 n there.0 inv over found awake missed at.1 there.1)

  by_all : n.arrived ≡ true → (x : Bool) → all_arrived S.keeper ≡ x → (d : ℕ) × HasOpenTask S d
  by_all is false missed = by_missing missed
  by_all is true all =
      let alive : bit (is_alive (slice_get S.nodes c)) ≡ 1 = rw (found, is, awake) refl in
      let waits : waits_at_keeper S c ≡ 0 = rw (all) refl in
      absurd (omega (arith, alive, waits, inv.phases.row c, quiet (is_arrival_of c), quiet (is_go_to c), quiet (is_halt_to c)))

  by_mark : (x : Bool) → n.arrived ≡ x → (d : ℕ) × HasOpenTask S d
  by_mark false absent = (c, open-task S M c n (idle S M c n inv over found awake absent))
  by_mark true is = by_all is (all_arrived S.keeper) refl

-- each open task waits for another
each-locked : (S : State) (M : ℕ → ℕ) → Invariant S M → IsOver S → (c : ℕ) → HasOpenTask S c → IsLockedOut S c
each-locked S M inv over c h = by_marks h.node.halted refl h.node.arrived refl where
  by_marks : (x : Bool) → h.node.halted ≡ x → (y : Bool) → h.node.arrived ≡ y → IsLockedOut S c
  by_marks true e y f = let done = (inv.phases.asleep c h.node h.found e).over in let going = h.goes in absurd (cc)
  by_marks false e true f = let done = (inv.phases.arrived c h.node h.found f).over in let going = h.goes in absurd (cc)
  by_marks false e false f = locked-out S M c h.node (idle S M c h.node inv over h.found e f)

pub rest : (S : State) (M : ℕ → ℕ) → Invariant S M → IsOver S → IsAtRest S
rest S M inv over = by_awake (some-awake S.nodes) where
  by_awake : ((c : ℕ) (n : NodeParts) → slice_get S.nodes c ≡ Some n → n.halted ≡ true) ⊎ IsAwake S.nodes → IsAtRest S
  by_awake (inl all) = inl all
  by_awake (inr a) = inr (record { some = some-open S M a.place a.node inv over a.found a.awake; each = each-locked S M inv over })

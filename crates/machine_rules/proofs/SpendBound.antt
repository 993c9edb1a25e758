-- How many events there can be: none are paid as a run begins, each one is paid as it comes, and what pays is bounded.
use Rattle.std.proofs.Common.{◌≡◌, inl, inr, ℕ, suc, ◌+◌, ◌*◌, ◌≤◌, Bool, true, false, cond, nat_lt, List, [], ◌∷◌, length, slice_get, sum_by, Option, Some, None, refl, ap, subst, ◌∙◌, arith}
use Rattle.std.proofs.Math.Nat.{mul-le-mul_left}
use Rattle.std.specs.Option.{is_some}
use Rattle.std.proofs.lemmas.List.Sums.{sum_by-cons}
use Rattle.dn_base.specs.declared.ids.WordId.{WordId}
use Rattle.rv_core.specs.declared.task.TaskState.{TaskState}
use Rattle.message_net.specs.declared.event.Event.{Event}
use Rattle.queue_lock.specs.Lock.{free_lock}
use Rattle.phase_barrier.specs.Barrier.{all_arrived}
use Rattle.registration_protocol.specs.declared.node.NodeWait as wait
use Rattle.registration_protocol.specs.declared.node.NodeWait.{NodeWait}
use Rattle.registration_protocol.specs.Node.{NodeParts, Setting, need_if, need_now}
use Rattle.registration_protocol.specs.Fit.{NeedsLock}
use Rattle.machine_rules.specs.State.{State, initial_state, lock_at}
use Rattle.machine_rules.specs.Flight.{bit}
use Rattle.machine_rules.specs.Next.{next, enabled}
use Rattle.machine_rules.specs.Runs.{after, IsRun}
use Rattle.machine_rules.specs.Memory.{store_in}
use Rattle.machine_rules.specs.Sound.{IsShaped, IsSound, rounds}
use Rattle.machine_rules.specs.Coherent.{NeedsValue}
use Rattle.machine_rules.proofs.Invariant.{Invariant}
use Rattle.machine_rules.proofs.Dispatch.{ways}
use Rattle.machine_rules.proofs.Kept.{kept}
use Rattle.machine_rules.proofs.Outcomes.{stored_to}
use Rattle.machine_rules.proofs.SoundEvents.{sound-next}
use Rattle.machine_rules.proofs.OpenedFacts.{opened-flight, opened-node, opened-lock}
use Rattle.machine_rules.proofs.Spending.{is_any, is_handed, is_register, is_reply, is_seek, is_pass, seeks_owned, debt, credit, earned, lent, queue_in, HasEarned, Spent, Spends}
use Rattle.machine_rules.proofs.Totals.{total-none}
use Rattle.machine_rules.proofs.SpendNodes.{lent-most}
use Rattle.machine_rules.proofs.SpendOutcomes.{spend-outcomes}

-- ---- as a run begins

sum-none : (f : NodeParts → ℕ) (ns : List NodeParts) → ((c : ℕ) (n : NodeParts) → slice_get ns c ≡ Some n → f n ≡ 0) → sum_by f ns ≡ 0
sum-none f [] none = refl
sum-none f (n ∷ ns) none = omega (arith, none 0 n refl, sum-none f ns (λ c m found. none (suc c) m found), sum_by-cons f n ns)

no-debt : (C : Setting) (c : ℕ) (n : NodeParts) → slice_get (initial_state C).nodes c ≡ Some n → debt n ≡ 0
no-debt C c n found = rw ((opened-node C c n found).is) refl

no-queue : (C : Setting) (l : ℕ) → IsShaped C → queue_in (lock_at (initial_state C) l) ≡ 0
no-queue C l context = ap queue_in (opened-lock C l context) ∙ by_test (nat_lt l (length C.program.locks)) where
  by_test : (t : Bool) → queue_in (cond t (Some (free_lock C.shape.cores)) None) ≡ 0
  by_test true = refl
  by_test false = refl

pub opened-spent : (C : Setting) → IsShaped C → Spent (initial_state C) 0 0
opened-spent C context =
    record {
      paid = omega (
        arith,
        opened-flight C is_any,
        opened-flight C is_handed,
        opened-flight C is_register,
        opened-flight C is_reply,
        opened-flight C is_seek,
        opened-flight C is_pass,
        opened-flight C (seeks_owned (initial_state C)),
        sum-none debt (initial_state C).nodes (no-debt C),
        total-none (λ (l : ℕ). queue_in (lock_at (initial_state C) l)) (length (initial_state C).setting.program.locks) (λ l. no-queue C l context),
      );
    }

-- ---- one event more

pub spent-next : (S : State) (M : ℕ → ℕ) (e : Event) (made past : ℕ) → Invariant S M → enabled S e ≡ true → Spent S made past → Spends S (next S e) made past
spent-next S M e made past inv may spent = ways S M e (λ _. Spends S (next S e) made past) inv may (spend-outcomes S M e made past inv spent)

-- ---- what pays is bounded

-- the instructions that a task has retired, and one more if there is a task
abbrev pub worked : Option TaskState → ℕ
worked None = 0
worked (Some t) = t.retired + 1

abbrev pub worked_at : NodeParts → ℕ
worked_at n = worked n.task

-- nothing is lent to a node without a task
idle-lent : (S : State) (M : ℕ → ℕ) (c : ℕ) (n : NodeParts) → Invariant S M → slice_get S.nodes c ≡ Some n → n.task ≡ None → lent n.waiting ≡ 0
idle-lent S M c n inv found idle = by_wait n.waiting refl where
  nothing : need_now S.setting n ≡ None
  nothing = ap (need_if S.setting n.phase n.core) idle

  no-value : (word : WordId) → NeedsValue S n word → ⊥
  no-value word (inl is) = cc
  no-value word (inr is) = cc

  by_wait : (waiting : NodeWait) → n.waiting ≡ waiting → lent waiting ≡ 0
  by_wait wait.TheVariants.None is = refl
  by_wait (wait.TheVariants.Reading word) is = absurd (no-value word (inv.reads.reading c n word found is).2)
  by_wait (wait.TheVariants.Filled word) is = absurd (no-value word (inv.reads.filled c n word found is).1)
  by_wait (wait.TheVariants.Locking lock) is =
      let needs = subst (NeedsLock (need_now S.setting n)) is (inv.machine.node c n found).fits.waiting in
      absurd (cc)

bit-most : (b : Bool) → bit b ≤ 1
bit-most true = omega arith
bit-most false = omega arith

pub earned-most : (o : Option TaskState) → earned o ≤ 12 * worked o
earned-most None = omega arith
earned-most (Some t) = omega (arith, bit-most (is_some t.end))

credit-most : (S : State) (M : ℕ → ℕ) (c : ℕ) (n : NodeParts) → Invariant S M → slice_get S.nodes c ≡ Some n → n.phase ≤ S.keeper.phase
    → credit n ≤ 12 * worked_at n + 2 * (S.keeper.phase + 1)
credit-most S M c n inv found low = by_task n.task refl where
  by_task : (o : Option TaskState) → n.task ≡ o → earned o + lent n.waiting + 2 * (n.phase + bit n.arrived) ≤ 12 * worked o + 2 * (S.keeper.phase + 1)
  by_task None is = omega (arith, low, bit-most n.arrived, idle-lent S M c n inv found is)
  by_task (Some t) is = omega (arith, low, bit-most n.arrived, bit-most (is_some t.end), lent-most n.waiting)

credits-most : (ns : List NodeParts) (q : ℕ) → ((c : ℕ) (n : NodeParts) → slice_get ns c ≡ Some n → credit n ≤ 12 * worked_at n + q) → sum_by credit ns ≤ 12 * sum_by worked_at ns + length ns * q
credits-most [] q each = omega arith
credits-most (n ∷ ns) q each =
    omega (arith, each 0 n refl, credits-most ns q (λ c m found. each (suc c) m found), sum_by-cons credit n ns, sum_by-cons worked_at n ns)

-- events are within 12 for each instruction that has retired and for each task, and 3 for each core and phase that has begun
pub spent-bound : (S : State) (M : ℕ → ℕ) (made past : ℕ) → Invariant S M → Spent S made past
    → made ≤ past + 12 * sum_by worked_at S.nodes + 3 * (S.setting.shape.cores * (S.keeper.phase + 1))
spent-bound S M made past inv spent =
    let turns : S.setting.shape.cores * rounds S ≤ S.setting.shape.cores * (S.keeper.phase + 1) = mul-le-mul_left S.setting.shape.cores (omega (arith, bit-most (all_arrived S.keeper))) in
    let all = credits-most S.nodes (2 * (S.keeper.phase + 1)) (λ c n found. credit-most S M c n inv found (inv.behind c n found)) in
    let cores = ap (λ (x : ℕ). x * (2 * (S.keeper.phase + 1))) inv.machine.nodes in
    omega (arith, spent.paid, turns, all, cores)

-- ---- runs

-- what the tasks have earned whose phases ended for their cores in the events of a list
abbrev pub HaveEarned : State → List Event → ℕ → Type 0
HaveEarned S [] past = past ≡ 0
HaveEarned S (e ∷ es) past = (due : ℕ) × (rest : ℕ) × HasEarned S (next S e) due × HaveEarned (next S e) es rest × (past ≡ due + rest)

pub record SpendsAlong (S : State) (made past : ℕ) (events : List Event) : Type 0 where
  pub more : ℕ
  pub earns : HaveEarned S events more
  pub spent : Spent (after S events) (made + length events) (past + more)

-- each event of a run is paid
pub spent-run : (S : State) (M : ℕ → ℕ) (made count past : ℕ) (events : List Event) → IsSound S count → Invariant S M → IsRun S events → Spent S made past → SpendsAlong S made past events
spent-run S M made count past [] sound inv run spent =
    record { more = 0; earns = refl; spent = record { paid = omega (arith, spent.paid) } }
spent-run S M made count past (e ∷ es) sound inv run spent =
    let one = spent-next S M e made past inv run.0 spent in
    let after_it = sound-next S count e sound run.0 in
    let rest = spent-run (next S e) (stored_to (store_in S e) M) (made + 1) (count + 1) (past + one.due) es after_it (kept S M e inv run.0 after_it.machine) run.1 one.spent in
    record {
      more = one.due + rest.more;
      earns = (one.due, rest.more, one.earns, rest.earns, refl);
      spent = record { paid = omega (arith, rest.spent.paid) };
    }

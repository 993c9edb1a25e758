-- What a node's event adds to its entries, to what is lent to it and to what its task has earned.
use Rattle.std.proofs.Common.{◌≡◌, ◌⊎◌, inl, inr, ℕ, ◌+◌, ◌≤◌, Bool, true, false, List, Option, Some, None, refl, sym, ap, ◌∙◌, arith}
use Rattle.std.specs.Prelude.{count_by}
use Rattle.std.specs.List.{filter}
use Rattle.std.specs.Option.{option_map, is_some}
use Rattle.dn_base.specs.declared.ids.WordId.{WordId}
use Rattle.dn_base.specs.declared.ids.CoreId.{CoreId}
use Rattle.region_table.specs.declared.declared.TaskDecl.{TaskDecl}
use Rattle.region_table.specs.Program.{ProgramParts}
use Rattle.rv_core.specs.declared.task.TaskState.{TaskState}
use Rattle.rv_core.specs.declared.task.End.{End as Ended}
use Rattle.rv_core.specs.declared.need.Need as need
use Rattle.rv_core.specs.declared.need.Need.{Need}
use Rattle.rv_core.specs.Kinds.{IsLoad, IsAdvance}
use Rattle.rv_core.specs.Need.{need_of}
use Rattle.rv_core.specs.Step.{advanced, loaded_of}
use Rattle.rv_core.specs.Task.{started, stopped}
use Rattle.rv_core.proofs.Completions.{advanced-retired, loaded-retired, stopped-retired, advanced-end, loaded-end, stopped-end}
use Rattle.word_cache.specs.declared.row.Entry.{Entry}
use Rattle.word_cache.specs.declared.row.Entry.TheVariants.{Valid, Registered, Leaving}
use Rattle.word_cache.specs.Cache.{Pair, AreDifferent, put, changed, without, unmarked, stays, dropped_written}
use Rattle.word_cache.proofs.WeightLemmas.{weight_at, count-put, count-changed, count-without, count-fewer, count-map}
use Rattle.region_table.specs.declared.interval.Interval.{Interval}
use Rattle.registration_protocol.specs.declared.node.NodeWait as wait
use Rattle.registration_protocol.specs.declared.node.NodeWait.{NodeWait}
use Rattle.registration_protocol.specs.Node.{NodeParts, entry_of, need_now, is_ready}
use Rattle.machine_rules.specs.State.{State}
use Rattle.machine_rules.specs.Flight.{bit}
use Rattle.machine_rules.specs.Coherent.{NeedsValue}
use Rattle.machine_rules.proofs.Invariant.{Invariant}
use Rattle.machine_rules.proofs.Outcomes.{IsActing}
use Rattle.machine_rules.proofs.ReadEvents.{acting-need}
use Rattle.machine_rules.proofs.Spending.{works, is_work, earned, lent}

-- ---- entries

pub put-works : (n : NodeParts) (word : WordId) (e : Entry) (old : Option Entry) → AreDifferent n.cache.pairs → entry_of n word.0 ≡ old
    → count_by works (put word e n.cache.pairs) + weight_at works word.0 old ≡ count_by works n.cache.pairs + weight_at works word.0 (Some e)
put-works n word e old apart is = omega (arith, count-put works word e n.cache.pairs apart, ap (weight_at works word.0) is)

pub changed-works : (n : NodeParts) (w : ℕ) (e old : Entry) → AreDifferent n.cache.pairs → entry_of n w ≡ Some old
    → count_by works (changed w e n.cache.pairs) + weight_at works w (Some old) ≡ count_by works n.cache.pairs + weight_at works w (Some e)
changed-works n w e old apart is =
    omega (arith, count-changed works w e n.cache.pairs apart, ap (weight_at works w) is, ap (λ (o : Option Entry). weight_at works w (option_map (λ (_ : Entry). e) o)) is)

pub without-works : (n : NodeParts) (w : ℕ) (old : Entry) → AreDifferent n.cache.pairs → entry_of n w ≡ Some old
    → count_by works (without w n.cache.pairs) + weight_at works w (Some old) ≡ count_by works n.cache.pairs
without-works n w old apart is = omega (arith, count-without works w n.cache.pairs apart, ap (weight_at works w) is)

unmarked-works : (e : Entry) → is_work (unmarked e) ≡ is_work e
unmarked-works (Valid value marked) = refl
unmarked-works (Registered value pending) = refl
unmarked-works (Leaving value) = refl

pub phase-works : (words : List Interval) (ps : List Pair) → count_by works (dropped_written words ps) ≤ count_by works ps
phase-works words ps =
    omega (arith, count-map works (λ (p : Pair). (p.0, unmarked p.1)) (λ p. unmarked-works p.1) (filter (stays words) ps), count-fewer works (stays words) ps)

-- ---- tasks

pub earned-advanced : (P : ProgramParts) (d : TaskDecl) (fuel : ℕ) (t : TaskState) → IsAdvance (need_of P d fuel t) → earned (Some (advanced P t)) ≡ earned (Some t) + 12
earned-advanced P d fuel t kind =
    omega (arith, advanced-retired P d fuel t kind, ap (λ (o : Option Ended). bit (is_some o)) (advanced-end P t))

pub earned-loaded : (P : ProgramParts) (d : TaskDecl) (fuel : ℕ) (t : TaskState) (value : ℕ) → IsLoad (need_of P d fuel t) → earned (Some (loaded_of P value t)) ≡ earned (Some t) + 12
earned-loaded P d fuel t value kind =
    omega (arith, loaded-retired P d fuel t value kind, ap (λ (o : Option Ended). bit (is_some o)) (loaded-end P value t))

pub earned-stopped : (by : Ended) (t : TaskState) → t.end ≡ None → earned (Some t) + 1 ≤ earned (Some (stopped by t))
earned-stopped by t going =
    omega (arith, stopped-retired by t, ap (λ (o : Option Ended). bit (is_some o)) (stopped-end by t), ap (λ (o : Option Ended). bit (is_some o)) going)

pub earned-started : (o : Option TaskDecl) → earned (option_map started o) ≡ 0
earned-started None = refl
earned-started (Some d) = refl

-- ---- what is lent

pub lent-most : (waiting : NodeWait) → lent waiting ≤ 8
lent-most wait.TheVariants.None = omega arith
lent-most (wait.TheVariants.Reading word) = omega arith
lent-most (wait.TheVariants.Filled word) = omega arith
lent-most (wait.TheVariants.Locking lock) = omega arith

-- to a node that acts nothing is lent, but where the word that it needs has come
pub ready-lent : (S : State) (M : ℕ → ℕ) (core : CoreId) (n : NodeParts) (d : TaskDecl) (t : TaskState) (needs : Need) → Invariant S M → IsActing S core n d t needs
    → ((word : WordId) (value : ℕ) (marked : Bool) → entry_of n word.0 ≡ Some (Valid value marked) → (needs ≡ need.TheVariants.Load word) ⊎ (needs ≡ need.TheVariants.Store word false) → ⊥)
    → lent n.waiting ≡ 0
ready-lent S M core n d t needs inv acts never = by_wait n.waiting refl acts.ready where
  now : need_now S.setting n ≡ Some needs
  now = acting-need S core n d t needs acts ((inv.machine.node core.0 n acts.found).core)

  some-same : (x y : Need) → Some x ≡ Some y → x ≡ y
  some-same x y e = cc

  same-need : (word : WordId) → NeedsValue S n word → (needs ≡ need.TheVariants.Load word) ⊎ (needs ≡ need.TheVariants.Store word false)
  same-need word (inl is) = inl (some-same needs (need.TheVariants.Load word) (sym now ∙ is))
  same-need word (inr is) = inr (some-same needs (need.TheVariants.Store word false) (sym now ∙ is))

  by_wait : (waiting : NodeWait) → n.waiting ≡ waiting → is_ready waiting ≡ true → lent waiting ≡ 0
  by_wait wait.TheVariants.None is ready = refl
  by_wait (wait.TheVariants.Locking lock) is ready = absurd (cc)
  by_wait (wait.TheVariants.Reading word) is ready = absurd (cc)
  by_wait (wait.TheVariants.Filled word) is ready =
      let come = inv.reads.filled core.0 n word acts.found is in
      absurd (never word come.0.0 come.0.1 come.0.2 (same-need word come.1))

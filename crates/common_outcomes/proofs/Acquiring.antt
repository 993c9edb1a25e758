-- An acquire, by which a section begins, keeps that the task of the run is where the task alone is. What the words of the lock
-- hold then is what the task's offsets are of.
use Rattle.std.proofs.Common.{◌≡◌, ℕ, ◌+◌, ◌%◌, ◌^◌, ◌<◌, Bool, true, false, ◌==◌, if◌then◌else◌, List, slice_index, slice_index_or, Option, None, refl, sym, ap, ◌∙◌, subst, ⊎_elim, bit_or}
use Rattle.std.specs.List.{IsAmong}
use Rattle.std.proofs.lemmas.Bool.{false≢true, eqb-true, or_cases, or_right}
use Rattle.dn_base.specs.declared.ids.LockId.{LockId}
use Rattle.region_table.specs.Program.{ProgramParts}
use Rattle.region_table.specs.Plan.{task_guards}
use Rattle.rv_isa.specs.declared.instr.Instr.{Instr}
use Rattle.rv_core.specs.declared.need.Need as need
use Rattle.rv_core.specs.Access.{is_held, may_store}
use Rattle.rv_core.specs.Kinds.{IsAdvance, Allowed}
use Rattle.rv_core.specs.Need.{need_of}
use Rattle.rv_core.specs.Step.{instr_at, after_fetch, advanced}
use Rattle.rv_core.proofs.Needs.{need-allowed}
use Rattle.rv_core.proofs.HeldLemmas.{holds-acquired}
use Rattle.effect_checker.specs.Checked.{IsCheckedPhase}
use Rattle.effect_checker.proofs.SeparationLemmas.{locks_apart}
use Rattle.flat_machine.specs.Step.{Started, in_state}
use Rattle.flat_machine.specs.Laws.{HoldsLess}
use Rattle.flat_machine.proofs.Rights.{may_store-less, store-loads}
use Rattle.common_outcomes.specs.declared.value.Kind.{Kind}
use Rattle.common_outcomes.specs.declared.value.Kind.TheVariants.{Known, Offset, Varying}
use Rattle.common_outcomes.specs.declared.value.Value.{Value}
use Rattle.common_outcomes.specs.Values.{kinds_fetched}
use Rattle.common_outcomes.specs.Alone.{Setup, Alone, cell_at, is_settled_next, is_shared, value_at_start, acquire_alone}
use Rattle.common_outcomes.specs.Agreeing.{IsBetween, AreFirst, DenotesBy, Denotes, without_registers, AreRegisters, IsInSection, IsOfSection, IsStored, IsOfWord, IsOfSharedWord, FitsAlone}
use Rattle.common_outcomes.proofs.Beside.{shared-inside}
use Rattle.common_outcomes.proofs.Fitting.{GoesBy, at-same}
use Rattle.common_outcomes.proofs.Leaving.{call-goes}

-- what words held when the task's locks were taken, once it has taken this one
abbrev pub base_after : Setup → ℕ → List ℕ → (ℕ → ℕ) → ℕ → ℕ
base_after S lock m base w = if task_guards S.decl lock w then slice_index m w else base w

pub acquire-fits : (S : Setup) (base : ℕ → ℕ) (a : Alone) (r : Started) (m : List ℕ) (lock : LockId) → IsCheckedPhase S.phase → IsAmong S.phase.tasks S.decl → FitsAlone S base a r m → AreFirst S
    → ((w : ℕ) → slice_index m w < 2 ^ 32) → is_settled_next S a ≡ true → need_of S.program S.decl S.fuel a.state ≡ need.TheVariants.Acquire lock
    → FitsAlone S (base_after S lock.0 m base) (acquire_alone S.program a lock.0) (in_state r (advanced S.program r.state)) m
unfolding advanced
acquire-fits S base a r m lock checked among h firsts small s n =
    record {
      decl = h.decl;
      state = ap (λ (o : Option Instr). without_registers (after_fetch r.state o)) at' ∙ g.same;
      registers =
          record {
            kinds_count = registers.kinds_count;
            count = registers.count;
            run_count = registers.run_count;
            each = λ q. restands (slice_index_or kinds q Known) (slice_index (advanced P a.state).regs q) (slice_index (advanced P r.state).regs q) (g.keeps q) (registers.each q);
            small = registers.small;
          };
      taken = λ q. more-taken (slice_index_or kinds q Known) (g.keeps q);
      words = h.words;
      base_small = λ w. low w (task_guards S.decl lock.0 w);
      stored = λ w v e. let k = h.stored w v e in
          record {
            may = λ e. subst (λ (x : ℕ). may_store S.decl x w ≡ true) (sym held) (may_store-less S.decl a.state.held (bit_or a.state.held (2 ^ lock.0)) w less (k.may e));
            writes = k.writes;
            runs = g.ended ∙ k.runs;
            own = k.own;
            shared = k.shared;
            stands = restored w v k;
            small = k.small;
          };
      kept = λ w runs e shared inside. keeps w runs e shared inside (task_guards S.decl lock.0 w) refl;
      first = λ w runs e shared. between-stands (value_at_start S w).kind (value_at_start S w).number (slice_index m w) (firsts.between w) (h.first w (sym g.ended ∙ runs) e shared);
    }
  where
    P : ProgramParts
    P = S.program

    kinds : List Kind
    kinds = kinds_fetched a.kinds (instr_at P a.state)

    base' : ℕ → ℕ
    base' = base_after S lock.0 m base

    at' : instr_at P r.state ≡ instr_at P a.state
    at' = at-same P a.state r.state h.state

    g : GoesBy (IsOfSection S a.state.held) a.kinds base a.state r.state (instr_at P a.state)
    g = call-goes S base a r m h s (subst IsAdvance (sym n) tt)

    registers : AreRegisters kinds (advanced P a.state).regs base (advanced P r.state).regs
    registers = subst (λ (o : Option Instr). AreRegisters kinds (after_fetch a.state (instr_at P a.state)).regs base (after_fetch r.state o).regs) (sym at') g.registers

    allowed : Allowed P S.decl a.state (need.TheVariants.Acquire lock)
    allowed = subst (Allowed P S.decl a.state) n (need-allowed P S.decl S.fuel a.state)

    held : (advanced P a.state).held ≡ bit_or a.state.held (2 ^ lock.0)
    held = allowed.2

    less : HoldsLess a.state.held (bit_or a.state.held (2 ^ lock.0))
    less = record { among = λ k there. holds-acquired a.state.held lock.0 k ∙ or_right (k == lock.0) (is_held a.state.held k) there }

    -- a word in a section isn't one that the new lock guards
    apart : (w : ℕ) → IsInSection S.decl a.state.held w → task_guards S.decl lock.0 w ≡ true → ⊥
    apart w inside guards =
        let same : inside.lock ≡ lock.0 = locks_apart S.phase S.decl S.decl inside.lock lock.0 w checked among among inside.guards guards in
        false≢true (sym allowed.1 ∙ subst (λ (l : ℕ). is_held a.state.held l ≡ true) same inside.holds)

    as_before : (w : ℕ) → IsInSection S.decl a.state.held w → base' w ≡ base w
    as_before w inside = by_test (task_guards S.decl lock.0 w) refl
      where
        by_test : (b : Bool) → task_guards S.decl lock.0 w ≡ b → (if b then slice_index m w else base w) ≡ base w
        by_test true e = absurd (apart w inside e)
        by_test false e = refl

    restands : (k : Kind) (x y : ℕ) → IsOfSection S a.state.held k → DenotesBy k x base y → DenotesBy k x base' y
    restands Known x y t e = e
    restands (Offset w) x y t e = e ∙ ap (λ (b : ℕ). (b + x) % 2 ^ 32) (sym (as_before w.0 t.1))
    restands Varying x y t e = tt

    more-inside : (w : ℕ) → IsInSection S.decl a.state.held w → IsInSection S.decl (advanced P a.state).held w
    more-inside w i = record { lock = i.lock; holds = subst (λ (x : ℕ). is_held x i.lock ≡ true) (sym held) (less.among i.lock i.holds); guards = i.guards }

    more-taken : (k : Kind) → IsOfSection S a.state.held k → IsOfSection S (advanced P a.state).held k
    more-taken Known t = tt
    more-taken (Offset w) t = (t.0, more-inside w.0 t.1)
    more-taken Varying t = tt

    low : (w : ℕ) (b : Bool) → (if b then slice_index m w else base w) < 2 ^ 32
    low w true = small w
    low w false = h.base_small w

    between-stands : (k : Kind) (x y : ℕ) → IsBetween k → DenotesBy k x base y → DenotesBy k x base' y
    between-stands Known x y i e = e
    between-stands (Offset w) x y i e = absurd i
    between-stands Varying x y i e = tt

    restored : (w : ℕ) (v : Value) → IsStored S base a.state m w v → Denotes v base' (slice_index m w)
    restored w v k = by_kind v.kind k.own k.shared k.stands
      where
        by_kind : (c : Kind) → IsOfWord w c → IsOfSharedWord S w c → DenotesBy c v.number base (slice_index m w) → DenotesBy c v.number base' (slice_index m w)
        by_kind Known own shared e = e
        by_kind (Offset u) own shared e =
            let inside = shared-inside S.phase S.decl a.state.held w checked among shared (store-loads S.decl a.state.held w (k.may shared)) in
            e ∙ ap (λ (b : ℕ). (b + v.number) % 2 ^ 32) (ap base own ∙ sym (as_before w inside) ∙ sym (ap base' own))
        by_kind Varying own shared e = tt

    keeps : (w : ℕ) → (advanced P a.state).end ≡ None → (cell_at a.cells w).stored ≡ None → is_shared S.phase S.decl w ≡ true → IsInSection S.decl (advanced P a.state).held w
        → (b : Bool) → task_guards S.decl lock.0 w ≡ b → slice_index m w ≡ (if b then slice_index m w else base w)
    keeps w runs e shared inside true t = refl
    keeps w runs e shared inside false t =
        let holds = sym (holds-acquired a.state.held lock.0 inside.lock) ∙ subst (λ (x : ℕ). is_held x inside.lock ≡ true) held inside.holds in
        ⊎_elim
        (λ (same : (inside.lock == lock.0) ≡ true).
        absurd (false≢true (sym t ∙ subst (λ (l : ℕ). task_guards S.decl l w ≡ true) (eqb-true inside.lock lock.0 same) inside.guards)))
        (λ (there : is_held a.state.held inside.lock ≡ true). h.kept w (sym g.ended ∙ runs) e shared (record { lock = inside.lock; holds = there; guards = inside.guards }))
        (or_cases (inside.lock == lock.0) (is_held a.state.held inside.lock) holds)

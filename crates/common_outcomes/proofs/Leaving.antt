-- A release, by which a section ends, keeps that the task of the run is where the task alone is.
use Rattle.std.proofs.Common.{◌≡◌, ◌≢◌, ℕ, zero, suc, ◌+◌, ◌^◌, Bool, true, false, ◌&&◌, not, ◌==◌, nat_lt, if◌then◌else◌, List, [], ◌∷◌, length, map, slice_index, slice_index_or, get_or, Option, Some, None, refl, sym, ap, ◌∙◌, subst, arith, ⊎_elim, bit_xor}
use Rattle.std.specs.List.{IsAmong}
use Rattle.std.proofs.lemmas.Bool.{false≢true, eq-eqb, ne_eqb, and_parts, and_from, and_left, and_right, or_cases, or_left, or_right}
use Rattle.std.proofs.lemmas.Bool.Decides.{nat_tests}
use Rattle.std.proofs.lemmas.Option.{none-some}
use Rattle.dn_base.specs.declared.ids.LockId.{LockId}
use Rattle.region_table.specs.Program.{ProgramParts}
use Rattle.region_table.specs.Words.{has}
use Rattle.region_table.specs.Plan.{task_guards}
use Rattle.region_table.specs.declared.declared.TaskDecl.{TaskDecl}
use Rattle.rv_isa.specs.declared.instr.Instr.{Instr}
use Rattle.rv_isa.specs.declared.instr.Instr.TheVariants.{Ecall}
use Rattle.rv_core.specs.declared.task.TaskState.{TaskState}
use Rattle.rv_core.specs.declared.task.TrapKind as kind
use Rattle.rv_core.specs.declared.task.End as cause
use Rattle.rv_core.specs.declared.need.Need.{Need}
use Rattle.rv_core.specs.declared.need.Need as need
use Rattle.rv_core.specs.Access.{is_held, least_held, under, may_store}
use Rattle.rv_core.specs.Address.{code_at}
use Rattle.rv_core.specs.Kinds.{IsAdvance, Allowed}
use Rattle.rv_core.specs.Need.{need_of, fetch_need, word_need, instr_need, call_need, traps}
use Rattle.rv_core.specs.Step.{read_instr, instr_at, after_fetch, advanced}
use Rattle.rv_core.proofs.Needs.{fuelled, need-allowed}
use Rattle.rv_core.proofs.HeldLemmas.{holds-released}
use Rattle.effect_checker.specs.Checked.{IsCheckedPhase}
use Rattle.effect_checker.proofs.SeparationLemmas.{locks_apart}
use Rattle.flat_machine.specs.Step.{Started, in_state}
use Rattle.flat_machine.proofs.Separation.{under-some}
use Rattle.common_outcomes.specs.declared.value.Kind.{Kind}
use Rattle.common_outcomes.specs.declared.value.Kind.TheVariants.{Known, Offset, Varying}
use Rattle.common_outcomes.specs.declared.value.Value.{Value}
use Rattle.common_outcomes.specs.declared.value.Cell.{Cell}
use Rattle.common_outcomes.specs.Values.{is_known, register_kind, kinds_fetched}
use Rattle.common_outcomes.specs.Alone.{Setup, Alone, untouched, cell_at, is_control_settled, is_settled_call, is_settled_if, is_settled_next, is_shared, placed_from, closed, closed_by, left_by, release_alone}
use Rattle.common_outcomes.specs.Agreeing.{DenotesBy, without_registers, AreRegisters, IsInSection, IsOfSection, IsStored, FitsAlone}
use Rattle.common_outcomes.proofs.Beside.{under-from}
use Rattle.common_outcomes.proofs.Stepping.{KnowsLock}
use Rattle.common_outcomes.proofs.Fitting.{GoesBy, goes, settled-at, at-same}

-- ---- a call of which control is settled knows its lock

not-advance : (P : ProgramParts) (t : TaskState) (n lock : ℕ) → nat_lt 2 n ≡ true → IsAdvance (call_need P t n lock) → ⊥
not-advance P t n lock high k =
    let is : call_need P t n lock ≡ traps t kind.TheVariants.Call n = rw high refl in
    subst IsAdvance is k

call-known : (P : ProgramParts) (t : TaskState) (kinds : List Kind) (number lock : ℕ) → is_settled_call kinds number ≡ true → IsAdvance (call_need P t number lock) → is_known (register_kind kinds 10) ≡ true
call-known P t kinds zero lock s k = absurd (by_held (t.held == 0) k)
  where
    by_held : (b : Bool) → IsAdvance (if b then need.TheVariants.End cause.TheVariants.Finished else traps t kind.TheVariants.HeldEnd (least_held t.held)) → ⊥
    by_held true k = k
    by_held false k = k
call-known P t kinds (suc zero) lock s k = s
call-known P t kinds (suc (suc zero)) lock s k = s
call-known P t kinds (suc (suc (suc n))) lock s k =
    let high : nat_lt 2 (suc (suc (suc n))) ≡ true = grind (arith, nat_tests) in
    absurd (not-advance P t (suc (suc (suc n))) lock high k)

instr-knows : (P : ProgramParts) (d : TaskDecl) (kinds : List Kind) (a : TaskState) (i : Instr) → is_control_settled kinds a i ≡ true → IsAdvance (instr_need P d a i) → KnowsLock kinds i
instr-knows P d kinds a Ecall s k =
    let parts = and_parts (is_known (register_kind kinds 17)) (is_settled_call kinds (slice_index a.regs 17)) s in
    call-known P a kinds (slice_index a.regs 17) (slice_index a.regs 10) parts.1 k
instr-knows P d kinds a _ s k = tt

-- at the next instruction of a task, which it completes by going on
pub next-knows : (P : ProgramParts) (d : TaskDecl) (fuel : ℕ) (kinds : List Kind) (a : TaskState) → is_settled_if kinds a (instr_at P a) ≡ true → IsAdvance (need_of P d fuel a)
    → (i : Instr) → instr_at P a ≡ Some i → KnowsLock kinds i
next-knows P d fuel kinds a s k i e = by_word (code_at P.code a.pc) e (fuelled P d fuel a IsAdvance (λ f. f) k).1
  where
    settled : is_control_settled kinds a i ≡ true
    settled = subst (λ (o : Option Instr). is_settled_if kinds a o ≡ true) e s

    by_word : (o : Option ℕ) → read_instr o ≡ Some i → IsAdvance (fetch_need P d a o) → KnowsLock kinds i
    by_word None e k = absurd (none-some i e)
    by_word (Some w) e k = instr-knows P d kinds a i settled (subst (λ (o : Option Instr). IsAdvance (word_need P d a w o)) e k)

-- ---- cells, place by place

pub placed-at : (i : ℕ) (f : ℕ → Cell → Cell) (xs : List Cell) (w : ℕ) → ((k : ℕ) → f k untouched ≡ untouched) → cell_at (placed_from i f xs) w ≡ f (i + w) (cell_at xs w)
placed-at i f [] w same = sym (same (i + w))
placed-at i f (x ∷ xs) zero same = let e : i ≡ i + 0 = omega arith in ap (λ (k : ℕ). f k x) e
placed-at i f (x ∷ xs) (suc w) same =
    let e : i + 1 + w ≡ i + suc w = omega arith in
    placed-at (i + 1) f xs w same ∙ ap (λ (k : ℕ). f k (cell_at xs w)) e

placed-length : (i : ℕ) (f : ℕ → Cell → Cell) (xs : List Cell) → length (placed_from i f xs) ≡ length xs
placed-length i f [] = refl
placed-length i f (x ∷ xs) = ap suc (placed-length (i + 1) f xs)

pub closed-none : (S : Setup) (lock w : ℕ) → closed_by S lock w untouched ≡ untouched
closed-none S lock w = by_test (is_shared S.phase S.decl w && task_guards S.decl lock w)
  where
    by_test : (b : Bool) → (if b then closed untouched else untouched) ≡ untouched
    by_test true = refl
    by_test false = refl

-- ---- a release

left-stands : (d : TaskDecl) (lock : ℕ) (k : Kind) (n m : ℕ) (base : ℕ → ℕ) → DenotesBy k n base m → DenotesBy (left_by d lock k) n base m
left-stands d lock Known n m base h = h
left-stands d lock (Offset w) n m base h = by_test (task_guards d lock w.0)
  where
    by_test : (b : Bool) → DenotesBy (if b then Varying else Offset w) n base m
    by_test true = tt
    by_test false = h
left-stands d lock Varying n m base h = h

map-length : (f : Kind → Kind) (kinds : List Kind) → length (map f kinds) ≡ length kinds
map-length f [] = refl
map-length f (k ∷ kinds) = ap suc (map-length f kinds)

map-kind : (f : Kind → Kind) (kinds : List Kind) (r : ℕ) → f Known ≡ Known → slice_index_or (map f kinds) r Known ≡ f (slice_index_or kinds r Known)
map-kind f [] r e = sym e
map-kind f (k ∷ kinds) zero e = refl
map-kind f (k ∷ kinds) (suc r) e = map-kind f kinds r e

pub left-registers : (d : TaskDecl) (lock : ℕ) (kinds : List Kind) (regs run : List ℕ) (base : ℕ → ℕ) → AreRegisters kinds regs base run → AreRegisters (map (left_by d lock) kinds) regs base run
left-registers d lock kinds regs run base h =
    record {
      kinds_count = map-length (left_by d lock) kinds ∙ h.kinds_count;
      count = h.count;
      run_count = h.run_count;
      each = λ r. subst (λ (k : Kind). DenotesBy k (slice_index regs r) base (slice_index run r)) (sym (map-kind (left_by d lock) kinds r refl))
          (left-stands d lock (slice_index_or kinds r Known) (slice_index regs r) (slice_index run r) base (h.each r));
      small = h.small;
    }

-- a lock that isn't the one released is still held
still : (held lock k : ℕ) → is_held held lock ≡ true → k ≢ lock → is_held held k ≡ true → is_held (bit_xor held (2 ^ lock)) k ≡ true
still held lock k there apart h = holds-released held lock k there ∙ and_from (not (k == lock)) (is_held held k) (ap not (ne_eqb k lock apart)) h

was : (held lock k : ℕ) → is_held held lock ≡ true → is_held (bit_xor held (2 ^ lock)) k ≡ true → (k ≢ lock) × (is_held held k ≡ true)
was held lock k there h =
    let parts = and_parts (not (k == lock)) (is_held held k) (sym (holds-released held lock k there) ∙ h) in
    (λ e. by_test (k == lock) (eq-eqb k lock e) parts.0, parts.1)
  where
    by_test : (b : Bool) → b ≡ true → not b ≡ true → ⊥
    by_test true e n = false≢true n
    by_test false e n = false≢true e

left-taken : (S : Setup) (held lock : ℕ) (k : Kind) → is_held held lock ≡ true → IsOfSection S held k → IsOfSection S (bit_xor held (2 ^ lock)) (left_by S.decl lock k)
left-taken S held lock Known there h = tt
left-taken S held lock (Offset w) there h = by_test (task_guards S.decl lock w.0) refl
  where
    by_test : (b : Bool) → task_guards S.decl lock w.0 ≡ b → IsOfSection S (bit_xor held (2 ^ lock)) (if b then Varying else Offset w)
    by_test true e = tt
    by_test false e = (
      h.0,
      record {
        lock = h.1.lock;
        holds = still held lock h.1.lock there (λ same. false≢true (sym e ∙ subst (λ (l : ℕ). task_guards S.decl l w.0 ≡ true) same h.1.guards)) h.1.holds;
        guards = h.1.guards;
      },
    )
left-taken S held lock Varying there h = tt

-- a word that the released lock doesn't guard may be stored as before
still-may : (d : TaskDecl) (held lock w : ℕ) → is_held held lock ≡ true → task_guards d lock w ≡ false → may_store d held w ≡ true → may_store d (bit_xor held (2 ^ lock)) w ≡ true
still-may d held lock w there free may =
    ⊎_elim (λ (h : has d.effects.writes w ≡ true). or_left (has d.effects.writes w) (under d.effects.guarded_writes 0 (bit_xor held (2 ^ lock)) w) h)
    (λ (h : under d.effects.guarded_writes 0 held w ≡ true).
    let u = under-some d.effects.guarded_writes 0 held w h in
    let apart : 0 + u.place ≢ lock = λ e.
    let e' : u.place ≡ lock = omega arith in
    false≢true (sym free ∙ subst (λ (l : ℕ). task_guards d l w ≡ true) e' (or_right (has (get_or d.effects.guarded_reads u.place []) w) (has (get_or d.effects.guarded_writes u.place []) w) u.has)) in
    or_right (has d.effects.writes w) (under d.effects.guarded_writes 0 (bit_xor held (2 ^ lock)) w)
    (under-from d.effects.guarded_writes 0 (bit_xor held (2 ^ lock)) w u.place (still held lock (0 + u.place) there apart u.holds) u.has))
    (or_cases (has d.effects.writes w) (under d.effects.guarded_writes 0 held w) may)

-- a release ends the section of its lock
-- a call that the task completes by going on
pub call-goes : (S : Setup) (base : ℕ → ℕ) (a : Alone) (r : Started) (m : List ℕ) → FitsAlone S base a r m → is_settled_next S a ≡ true → IsAdvance (need_of S.program S.decl S.fuel a.state)
    → GoesBy (IsOfSection S a.state.held) a.kinds base a.state r.state (instr_at S.program a.state)
call-goes S base a r m h s advances =
    let settled = settled-at S.program S.fuel a.kinds a.state (fuelled S.program S.decl S.fuel a.state IsAdvance (λ f. f) advances).0 s in
    goes S.program (IsOfSection S a.state.held) a.kinds base a.state r.state h.state h.registers settled (next-knows S.program S.decl S.fuel a.kinds a.state settled advances) tt tt h.taken

pub release-fits : (S : Setup) (base : ℕ → ℕ) (a : Alone) (r : Started) (m : List ℕ) (lock : LockId) → IsCheckedPhase S.phase → IsAmong S.phase.tasks S.decl → FitsAlone S base a r m → is_settled_next S a ≡ true
    → need_of S.program S.decl S.fuel a.state ≡ need.TheVariants.Release lock → FitsAlone S base (release_alone S a lock.0) (in_state r (advanced S.program r.state)) m
unfolding advanced
release-fits S base a r m lock checked among h s n =
    record {
      decl = h.decl;
      state = ap (λ (o : Option Instr). without_registers (after_fetch r.state o)) at' ∙ g.same;
      registers = left-registers S.decl lock.0 (kinds_fetched a.kinds (instr_at P a.state)) (after_fetch a.state (instr_at P a.state)).regs (after_fetch r.state (instr_at P r.state)).regs base
          (subst (λ (o : Option Instr). AreRegisters (kinds_fetched a.kinds (instr_at P a.state)) (after_fetch a.state (instr_at P a.state)).regs base (after_fetch r.state o).regs) (sym at') g.registers);
      taken = λ q. subst (λ (k : Kind). IsOfSection S (advanced P a.state).held k) (sym (map-kind (left_by S.decl lock.0) (kinds_fetched a.kinds (instr_at P a.state)) q refl))
          (subst (λ (x : ℕ). IsOfSection S x (left_by S.decl lock.0 (slice_index_or (kinds_fetched a.kinds (instr_at P a.state)) q Known))) (sym held)
          (left-taken S a.state.held lock.0 (slice_index_or (kinds_fetched a.kinds (instr_at P a.state)) q Known) there (g.keeps q)));
      words = placed-length 0 (closed_by S lock.0) a.cells ∙ h.words;
      base_small = h.base_small;
      stored = λ w v e. stays w v (is_shared S.phase S.decl w) (task_guards S.decl lock.0 w) refl refl (sym (ap (λ (c : Cell). c.stored) (cell w)) ∙ e);
      kept = λ w runs e shared inside. keeps w runs e shared inside;
      first = λ w runs e shared. h.first w (sym g.ended ∙ runs) (unchanged w (and_left (is_shared S.phase S.decl w) (task_guards S.decl lock.0 w) shared) ∙ e) shared;
    }
  where
    P : ProgramParts
    P = S.program

    at' : instr_at P r.state ≡ instr_at P a.state
    at' = at-same P a.state r.state h.state

    g : GoesBy (IsOfSection S a.state.held) a.kinds base a.state r.state (instr_at P a.state)
    g = call-goes S base a r m h s (subst IsAdvance (sym n) tt)

    allowed : Allowed P S.decl a.state (need.TheVariants.Release lock)
    allowed = subst (Allowed P S.decl a.state) n (need-allowed P S.decl S.fuel a.state)

    there : is_held a.state.held lock.0 ≡ true
    there = allowed.1

    held : (advanced P a.state).held ≡ bit_xor a.state.held (2 ^ lock.0)
    held = allowed.2

    cell : (w : ℕ) → cell_at (placed_from 0 (closed_by S lock.0) a.cells) w ≡ closed_by S lock.0 w (cell_at a.cells w)
    cell w = placed-at 0 (closed_by S lock.0) a.cells w (closed-none S lock.0) ∙ (let e : 0 + w ≡ w = omega arith in ap (λ (k : ℕ). closed_by S lock.0 k (cell_at a.cells w)) e)

    unchanged : (w : ℕ) → (is_shared S.phase S.decl w && task_guards S.decl lock.0 w) ≡ false → (cell_at a.cells w).stored ≡ (cell_at (placed_from 0 (closed_by S lock.0) a.cells) w).stored
    unchanged w e =
        sym (ap (λ (c : Cell). c.stored) (cell w) ∙ ap (λ (b : Bool). (if b then closed (cell_at a.cells w) else cell_at a.cells w).stored) e)

    opened : (w : ℕ) (v : Value) → (is_shared S.phase S.decl w && task_guards S.decl lock.0 w) ≡ false → (closed_by S lock.0 w (cell_at a.cells w)).stored ≡ Some v → (cell_at a.cells w).stored ≡ Some v
    opened w v t e = sym (ap (λ (b : Bool). (if b then closed (cell_at a.cells w) else cell_at a.cells w).stored) t) ∙ e

    stayed : (w : ℕ) (v : Value) → (is_shared S.phase S.decl w ≡ true → may_store S.decl a.state.held w ≡ true → may_store S.decl (bit_xor a.state.held (2 ^ lock.0)) w ≡ true)
        → IsStored S base a.state m w v → IsStored S base (advanced P a.state) m w v
    stayed w v may k =
        record {
          may = λ e. subst (λ (x : ℕ). may_store S.decl x w ≡ true) (sym held) (may e (k.may e));
          writes = k.writes;
          runs = g.ended ∙ k.runs;
          own = k.own;
          shared = k.shared;
          stands = k.stands;
          small = k.small;
        }

    stays : (w : ℕ) (v : Value) (x y : Bool) → is_shared S.phase S.decl w ≡ x → task_guards S.decl lock.0 w ≡ y → (closed_by S lock.0 w (cell_at a.cells w)).stored ≡ Some v
        → IsStored S base (advanced P a.state) m w v
    stays w v true true p q e =
        absurd (none-some v (sym (ap (λ (b : Bool). (if b then closed (cell_at a.cells w) else cell_at a.cells w).stored) (and_from (is_shared S.phase S.decl w) (task_guards S.decl lock.0 w) p q)) ∙ e))
    stays w v true false p q e =
        stayed w v (λ shared may. still-may S.decl a.state.held lock.0 w there q may)
        (h.stored w v (opened w v (and_right (is_shared S.phase S.decl w) (task_guards S.decl lock.0 w) q) e))
    stays w v false y p q e =
        stayed w v (λ shared may. absurd (false≢true (sym p ∙ shared)))
        (h.stored w v (opened w v (and_left (is_shared S.phase S.decl w) (task_guards S.decl lock.0 w) p) e))

    keeps : (w : ℕ) → (advanced P a.state).end ≡ None → (cell_at (placed_from 0 (closed_by S lock.0) a.cells) w).stored ≡ None → is_shared S.phase S.decl w ≡ true
        → IsInSection S.decl (advanced P a.state).held w → slice_index m w ≡ base w
    keeps w runs e shared inside = by_test (task_guards S.decl lock.0 w) refl
      where
        before : (inside.lock ≢ lock.0) × (is_held a.state.held inside.lock ≡ true)
        before = was a.state.held lock.0 inside.lock there (subst (λ (x : ℕ). is_held x inside.lock ≡ true) held inside.holds)

        by_test : (b : Bool) → task_guards S.decl lock.0 w ≡ b → slice_index m w ≡ base w
        by_test true t = absurd (before.0 (locks_apart S.phase S.decl S.decl inside.lock lock.0 w checked among among inside.guards t))
        by_test false t =
            h.kept w (sym g.ended ∙ runs) (unchanged w (and_right (is_shared S.phase S.decl w) (task_guards S.decl lock.0 w) t) ∙ e) shared
            (record { lock = inside.lock; holds = before.1; guards = inside.guards })

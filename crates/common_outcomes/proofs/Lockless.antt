-- A task alone in a program without locks: all that it has is known, and it comes to an end.
use Rattle.std.proofs.Common.{◌≡◌, ◌≢◌, ◌⊎◌, inl, inr, ℕ, zero, suc, ◌+◌, ◌<◌, ◌==◌, Bool, true, false, ◌&&◌, ◌||◌, not, List, [], ◌∷◌, length, slice_index, slice_set, Option, Some, None, refl, sym, ap, ◌∙◌, subst, arith}
use Rattle.std.specs.List.{IsAmong}
use Rattle.std.proofs.lemmas.Bool.{and_from, or_right}
use Rattle.std.proofs.lemmas.Option.{none-some, same_Some}
use Rattle.dn_base.specs.declared.ids.WordId.{WordId}
use Rattle.region_table.specs.Program.{ProgramParts}
use Rattle.region_table.specs.Plan.{task_writes}
use Rattle.region_table.specs.declared.declared.TaskDecl.{TaskDecl}
use Rattle.rv_isa.specs.declared.instr.Instr.{Instr}
use Rattle.rv_isa.specs.declared.instr.Instr as instr
use Rattle.rv_isa.specs.declared.instr.Width.{Width}
use Rattle.rv_isa.specs.declared.instr.Width as width
use Rattle.rv_core.specs.declared.task.End.{End}
use Rattle.rv_core.specs.declared.task.TaskState.{TaskState}
use Rattle.rv_core.specs.declared.need.Need.{Need}
use Rattle.rv_core.specs.declared.need.Need as need
use Rattle.rv_core.specs.Access.{is_held, may_load}
use Rattle.rv_core.specs.Kinds.{Allowed, IsLoad}
use Rattle.rv_core.specs.Need.{need_of}
use Rattle.rv_core.specs.Next.{instr_within}
use Rattle.rv_core.specs.Step.{instr_at}
use Rattle.rv_core.specs.Task.{stopped}
use Rattle.rv_core.proofs.Completions.{stopped-end}
use Rattle.rv_core.proofs.HeldLemmas.{holds-none}
use Rattle.rv_core.proofs.Needs.{need-allowed}
use Rattle.effect_checker.specs.Checked.{IsCheckedPhase}
use Rattle.flat_machine.specs.Step.{Started, wish, wish_unless}
use Rattle.flat_machine.proofs.Rest.{IsOneMore, advanced-more, loaded-more}
use Rattle.flat_machine.proofs.Rights.{both-ways, store-loads, stopped-held}
use Rattle.common_outcomes.specs.declared.value.Kind.{Kind}
use Rattle.common_outcomes.specs.declared.value.Kind.TheVariants.{Known}
use Rattle.common_outcomes.specs.declared.value.Value.{Value}
use Rattle.common_outcomes.specs.declared.value.Cell.{Cell}
use Rattle.common_outcomes.specs.declared.value.Effect.{Effect}
use Rattle.common_outcomes.specs.declared.value.Effect.TheVariants.{Kept, Set}
use Rattle.common_outcomes.specs.Values.{is_known, alu_kind, register_kind, with_kind, kinds_fetched, part_kind, kinds_loaded, whole_kind, merged_kind, kind_stored, effect_by, effect_of, joined_effect}
use Rattle.common_outcomes.specs.Alone.{Setup, Alone, untouched, cell_at, is_shared, unstored, or_unstored, value_at_start, seen, is_settled_call, is_settled_if, is_settled_next, stored_value, alone_by, alone_step, alone_steps, start_alone, alone}
use Rattle.common_outcomes.proofs.Beside.{shared-inside, store-writes}
use Rattle.common_outcomes.proofs.Fitting.{EachKind, read-kind, write-kind}
use Rattle.common_outcomes.proofs.Moving.{closed-map, loaded-same}
use Rattle.common_outcomes.proofs.Phase.{ended-still, more-steps}
use Rattle.common_outcomes.proofs.Starting.{all-same}
use Rattle.common_outcomes.proofs.Steps.{alone-goes}

stopped-some : (by : End) (t : TaskState) → (stopped by t).end ≡ None → ⊥
stopped-some by t e = none-some by (sym e ∙ stopped-end by t)

-- ---- kinds

pub IsKnown : Kind → Type 0
IsKnown k = k ≡ Known

pub AllKnown : List Kind → Type 0
AllKnown kinds = EachKind IsKnown kinds

known-in : (kinds : List Kind) (r : ℕ) → AllKnown kinds → register_kind kinds r ≡ Known
unfolding IsKnown AllKnown
known-in kinds r h = read-kind IsKnown kinds r refl h

is-known : (kinds : List Kind) (r : ℕ) → AllKnown kinds → is_known (register_kind kinds r) ≡ true
is-known kinds r h = ap is_known (known-in kinds r h)

known-written : (kinds : List Kind) (rd : ℕ) (k : Kind) → AllKnown kinds → k ≡ Known → AllKnown (with_kind kinds rd k)
unfolding IsKnown AllKnown
known-written kinds rd k h e = write-kind IsKnown kinds rd k h e

known-settled : (kinds : List Kind) (t : TaskState) (o : Option Instr) → AllKnown kinds → is_settled_if kinds t o ≡ true
known-settled kinds t None h = refl
known-settled kinds t (Some (instr.TheVariants.Jalr rd base offset)) h = is-known kinds base h
known-settled kinds t (Some (instr.TheVariants.Branch test a b offset)) h =
    or_right (a == b) (is_known (register_kind kinds a) && is_known (register_kind kinds b)) (and_from (is_known (register_kind kinds a)) (is_known (register_kind kinds b)) (is-known kinds a h) (is-known kinds b h))
known-settled kinds t (Some (instr.TheVariants.Load size rd base offset)) h = is-known kinds base h
known-settled kinds t (Some (instr.TheVariants.Store size src base offset)) h = is-known kinds base h
known-settled kinds t (Some instr.TheVariants.Ecall) h =
    let n : ℕ = slice_index t.regs 17 in
    and_from (is_known (register_kind kinds 17)) (is_settled_call kinds n) (is-known kinds 17 h) (or_right (not (n == 1 || n == 2)) (is_known (register_kind kinds 10)) (is-known kinds 10 h))
known-settled kinds t (Some _) h = refl

known-after : (kinds : List Kind) (o : Option Instr) → AllKnown kinds → AllKnown (kinds_fetched kinds o)
known-after kinds None h = h
known-after kinds (Some (instr.TheVariants.Lui rd imm)) h = known-written kinds rd Known h refl
known-after kinds (Some (instr.TheVariants.Auipc rd imm)) h = known-written kinds rd Known h refl
known-after kinds (Some (instr.TheVariants.Jal rd offset)) h = known-written kinds rd Known h refl
known-after kinds (Some (instr.TheVariants.Jalr rd base offset)) h = known-written kinds rd Known h refl
known-after kinds (Some (instr.TheVariants.OpImm op rd a imm)) h =
    known-written kinds rd (alu_kind op (register_kind kinds a) Known) h (ap (λ (k : Kind). alu_kind op k Known) (known-in kinds a h))
known-after kinds (Some (instr.TheVariants.Op op rd a b)) h =
    known-written kinds rd (alu_kind op (register_kind kinds a) (register_kind kinds b)) h (ap (λ (k : Kind). alu_kind op k (register_kind kinds b)) (known-in kinds a h) ∙ ap (alu_kind op Known) (known-in kinds b h))
known-after kinds (Some _) h = h

known-part : (w : Width) (k : Kind) → k ≡ Known → part_kind w k ≡ Known
known-part width.TheVariants.W k e = e
known-part width.TheVariants.B k e = ap (part_kind width.TheVariants.B) e
known-part width.TheVariants.H k e = ap (part_kind width.TheVariants.H) e
known-part width.TheVariants.Bu k e = ap (part_kind width.TheVariants.Bu) e
known-part width.TheVariants.Hu k e = ap (part_kind width.TheVariants.Hu) e

known-loaded : (kinds : List Kind) (k : Kind) (o : Option Instr) → AllKnown kinds → k ≡ Known → AllKnown (kinds_loaded kinds k o)
known-loaded kinds k (Some (instr.TheVariants.Load size rd base offset)) h e = known-written kinds rd (part_kind size k) h (known-part size k e)
known-loaded kinds k None h e = h
known-loaded kinds k (Some _) h e = h

known-merged : (k j : Kind) → k ≡ Known → j ≡ Known → merged_kind k j ≡ Known
known-merged k j e f = ap (λ (x : Kind). merged_kind x j) e ∙ ap (merged_kind Known) f

known-stored : (kinds : List Kind) (shared : Bool) (w : ℕ) (before : Kind) (o : Option Instr) → AllKnown kinds → before ≡ Known → kind_stored kinds shared w before o ≡ Known
known-stored kinds shared w before (Some (instr.TheVariants.Store width.TheVariants.W src base offset)) h e = ap (whole_kind shared w) (known-in kinds src h)
known-stored kinds shared w before (Some (instr.TheVariants.Store width.TheVariants.B src base offset)) h e = known-merged before (register_kind kinds src) e (known-in kinds src h)
known-stored kinds shared w before (Some (instr.TheVariants.Store width.TheVariants.H src base offset)) h e = known-merged before (register_kind kinds src) e (known-in kinds src h)
known-stored kinds shared w before (Some (instr.TheVariants.Store width.TheVariants.Bu src base offset)) h e = known-merged before (register_kind kinds src) e (known-in kinds src h)
known-stored kinds shared w before (Some (instr.TheVariants.Store width.TheVariants.Hu src base offset)) h e = known-merged before (register_kind kinds src) e (known-in kinds src h)
known-stored kinds shared w before None h e = e
known-stored kinds shared w before (Some _) h e = e

-- ---- one step

-- a task of a phase of a checked program without locks, and memory that is known
pub record IsLockless (S : Setup) : Type 0 where
  pub none : length S.program.locks ≡ 0
  pub checked : IsCheckedPhase S.phase
  pub among : IsAmong S.phase.tasks S.decl
  pub first : (w : ℕ) → (value_at_start S w).kind ≡ Known

-- nothing was done to the word, or the task that may write it set it
pub record IsSet (d : TaskDecl) (w : ℕ) (e : Effect) : Type 0 where
  pub number : ℕ
  pub is : e ≡ Set number
  pub writes : task_writes d w ≡ true

abbrev pub IsPlainEffect : TaskDecl → ℕ → Effect → Type 0
IsPlainEffect d w e = (e ≡ Kept) ⊎ IsSet d w e

pub record IsStoredPlainly (d : TaskDecl) (w : ℕ) (v : Value) : Type 0 where
  pub is : v.kind ≡ Known
  pub writes : task_writes d w ≡ true

pub record IsPlain (S : Setup) (a : Alone) : Type 0 where
  pub kinds : AllKnown a.kinds
  pub held : a.state.held ≡ 0
  pub stored : (w : ℕ) (v : Value) → (cell_at a.cells w).stored ≡ Some v → IsStoredPlainly S.decl w v
  pub effects : (w : ℕ) → IsPlainEffect S.decl w (cell_at a.cells w).effect
  pub going : a.state.end ≡ None → (w : ℕ) → (cell_at a.cells w).effect ≡ Kept
  pub over : (l k : ℕ) → is_held (slice_index a.over l) k ≡ false

pub plain-settled : (S : Setup) (a : Alone) → IsPlain S a → is_settled_next S a ≡ true
plain-settled S a h = known-settled a.kinds a.state (instr_within S.program S.fuel a.state) h.kinds

known-seen : (S : Setup) (a : Alone) (w : ℕ) → IsLockless S → IsPlain S a → may_load S.decl a.state.held w ≡ true → (seen S a.cells w).kind ≡ Known
known-seen S a w k h may = by_stored (cell_at a.cells w).stored refl
  where
    by_shared : (b : Bool) → is_shared S.phase S.decl w ≡ b → (unstored b w (value_at_start S w)).kind ≡ Known
    by_shared false e = k.first w
    by_shared true e =
        let inside = shared-inside S.phase S.decl a.state.held w k.checked k.among e may in
        absurd (both-ways (is_held 0 inside.lock) (holds-none inside.lock) (subst (λ (x : ℕ). is_held x inside.lock ≡ true) h.held inside.holds))

    by_stored : (o : Option Value) → (cell_at a.cells w).stored ≡ o → (or_unstored o (unstored (is_shared S.phase S.decl w) w (value_at_start S w))).kind ≡ Known
    by_stored None e = by_shared (is_shared S.phase S.decl w) refl
    by_stored (Some v) e = (h.stored w v e).is

-- what holds of each cell, and of a new one, holds after a write
set-cells : (Q : ℕ → Cell → Type 0) (cells : List Cell) (w : ℕ) (new : Cell) → ((u : ℕ) → Q u (cell_at cells u)) → Q w new → (u : ℕ) → Q u (cell_at (slice_set cells w new) u)
set-cells Q [] w new h q u = h u
set-cells Q (c ∷ cells) zero new h q zero = q
set-cells Q (c ∷ cells) zero new h q (suc u) = h (suc u)
set-cells Q (c ∷ cells) (suc w) new h q zero = h zero
set-cells Q (c ∷ cells) (suc w) new h q (suc u) =
    let Behind : ℕ → Cell → Type 0 = λ n x. Q (suc n) x in set-cells Behind cells w new (λ n. h (suc n)) q u

no-lock : (locks lock : ℕ) → locks ≡ 0 → lock < locks → ⊥
no-lock locks lock e low = omega (arith, e, low)

pub plain-step : (S : Setup) (a : Alone) → IsLockless S → IsPlain S a → IsPlain S (alone_step S a)
plain-step S a k h = by_end a.state.end refl
  where
    P : ProgramParts
    P = S.program

    allowed : (n : Need) → need_of P S.decl S.fuel a.state ≡ n → Allowed P S.decl a.state n
    allowed n e = subst (Allowed P S.decl a.state) e (need-allowed P S.decl S.fuel a.state)

    stores : a.state.end ≡ None → (word : WordId) (whole : Bool) → Allowed P S.decl a.state (need.TheVariants.Store word whole) → IsPlain S (alone_by S a (need.TheVariants.Store word whole))
    stores runs word whole told =
        let new : Cell = record { stored = Some (stored_value S a word.0); effect = (cell_at a.cells word.0).effect } in
        let Q : ℕ → Cell → Type 0 = λ u c. (v : Value) → c.stored ≡ Some v → IsStoredPlainly S.decl u v in
        let R : ℕ → Cell → Type 0 = λ u c. c.effect ≡ Kept in
        let known' = known-stored a.kinds (is_shared S.phase S.decl word.0) word.0 (seen S a.cells word.0).kind (instr_at P a.state) h.kinds
        (known-seen S a word.0 k h (store-loads S.decl a.state.held word.0 told.1)) in
        let one : Q word.0 new = λ v e. record { is = ap (λ (x : Value). x.kind) (sym (same_Some (stored_value S a word.0) v e)) ∙ known'; writes = store-writes S.decl a.state.held word.0 told.1 } in
        let kept : (u : ℕ) → R u (cell_at (slice_set a.cells word.0 new) u) = set-cells R a.cells word.0 new (h.going runs) (h.going runs word.0) in
        record {
          kinds = known-after a.kinds (instr_at P a.state) h.kinds;
          held = told.2 ∙ h.held;
          stored = set-cells Q a.cells word.0 new h.stored one;
          effects = λ w. inl (kept w);
          going = λ e w. kept w;
          over = h.over;
        }

    ends : a.state.end ≡ None → (by : End) → IsPlain S (alone_by S a (need.TheVariants.End by))
    ends runs by =
        record {
          kinds = h.kinds;
          held = stopped-held by a.state ∙ h.held;
          stored = λ w v e. absurd (none-some v (sym (ap (λ (c : Cell). c.stored) (closed-map a.cells w)) ∙ e));
          effects = λ w. subst (λ (c : Cell). IsPlainEffect S.decl w c.effect) (sym (closed-map a.cells w))
              (subst (λ (x : Effect). IsPlainEffect S.decl w (joined_effect x (effect_of (cell_at a.cells w).stored))) (sym (h.going runs w)) (by_stored w (cell_at a.cells w).stored refl));
          going = λ e w. absurd (stopped-some by a.state e);
          over = h.over;
        }
      where
        by_stored : (w : ℕ) (o : Option Value) → (cell_at a.cells w).stored ≡ o → IsPlainEffect S.decl w (effect_of o)
        by_stored w None e = inl refl
        by_stored w (Some v) e = let s = h.stored w v e in inr (record { number = v.number; is = ap (λ (x : Kind). effect_by x v.number) s.is; writes = s.writes })

    by_need : a.state.end ≡ None → (n : Need) → need_of P S.decl S.fuel a.state ≡ n → IsPlain S (alone_by S a n)
    by_need runs need.TheVariants.Local e =
        record { kinds = known-after a.kinds (instr_at P a.state) h.kinds; held = allowed need.TheVariants.Local e ∙ h.held; stored = h.stored; effects = h.effects; going = λ x. h.going runs; over = h.over }
    by_need runs (need.TheVariants.Load word) e =
        record {
          kinds = known-loaded a.kinds (seen S a.cells word.0).kind (instr_at P a.state) h.kinds (known-seen S a word.0 k h (allowed (need.TheVariants.Load word) e).1);
          held = loaded-same P S.decl S.fuel (seen S a.cells word.0).number a.state (subst IsLoad (sym e) tt) ∙ h.held;
          stored = h.stored;
          effects = h.effects;
          going = λ x. h.going runs;
          over = h.over;
        }
    by_need runs (need.TheVariants.Store word whole) e = stores runs word whole (allowed (need.TheVariants.Store word whole) e)
    by_need runs (need.TheVariants.Acquire lock) e = absurd (no-lock (length P.locks) lock.0 k.none (allowed (need.TheVariants.Acquire lock) e).0)
    by_need runs (need.TheVariants.Release lock) e = absurd (no-lock (length P.locks) lock.0 k.none (allowed (need.TheVariants.Release lock) e).0)
    by_need runs (need.TheVariants.End by) e = ends runs by

    by_end : (o : Option End) → a.state.end ≡ o → IsPlain S (alone_step S a)
    by_end None e = subst (IsPlain S) (sym (alone-goes S a e (plain-settled S a h))) (by_need e (need_of P S.decl S.fuel a.state) refl)
    by_end (Some by) e = subst (IsPlain S) (sym (ended-still S a by e)) h

pub plain-start : (S : Setup) → IsPlain S (start_alone S)
unfolding IsKnown AllKnown
plain-start S =
    record {
      kinds = λ r. all-same 32 r Known;
      held = refl;
      stored = λ w v e. absurd (none-some v (sym (ap (λ (c : Cell). c.stored) (all-same (length S.program.memory) w untouched)) ∙ e));
      effects = λ w. inl (ap (λ (c : Cell). c.effect) (all-same (length S.program.memory) w untouched));
      going = λ e w. ap (λ (c : Cell). c.effect) (all-same (length S.program.memory) w untouched);
      over = λ l k. ap (λ (x : ℕ). is_held x k) (all-same 32 l 0) ∙ holds-none k;
    }

plain-steps : (S : Setup) (n : ℕ) (a : Alone) → IsLockless S → IsPlain S a → IsPlain S (alone_steps S n a)
plain-steps S zero a k h = h
plain-steps S (suc n) a k h = plain-steps S n (alone_step S a) k (plain-step S a k h)

pub plain-alone : (S : Setup) → IsLockless S → IsPlain S (alone S)
unfolding alone
plain-alone S k = plain-steps S (suc S.fuel) (start_alone S) k (plain-start S)

-- ---- it comes to an end

pub one-more : (S : Setup) (a : Alone) → a.state.end ≡ None → is_settled_next S a ≡ true → (alone_step S a).state.end ≡ None → IsOneMore S.fuel a.state (alone_step S a).state
one-more S a runs s on = subst (λ (x : Alone). IsOneMore S.fuel a.state x.state) (sym goes) (by_need (need_of S.program S.decl S.fuel a.state) refl (ap (λ (x : Alone). x.state.end) (sym goes) ∙ on))
  where
    goes : alone_step S a ≡ alone_by S a (need_of S.program S.decl S.fuel a.state)
    goes = alone-goes S a runs s

    r : Started
    r = record { phase = record { 0 = 0 }; decl = S.decl; state = a.state; loads = [] }

    wants : (n : Need) → need_of S.program S.decl S.fuel a.state ≡ n → wish S.program S.fuel r ≡ Some n
    wants n e = ap (wish_unless S.program S.fuel r) runs ∙ ap Some e

    by_need : (n : Need) → need_of S.program S.decl S.fuel a.state ≡ n → (alone_by S a n).state.end ≡ None → IsOneMore S.fuel a.state (alone_by S a n).state
    by_need need.TheVariants.Local e on = advanced-more S.program S.fuel r need.TheVariants.Local tt (wants need.TheVariants.Local e)
    by_need (need.TheVariants.Load word) e on = loaded-more S.program S.fuel r (seen S a.cells word.0).number (need.TheVariants.Load word) tt (wants (need.TheVariants.Load word) e)
    by_need (need.TheVariants.Store word whole) e on = advanced-more S.program S.fuel r (need.TheVariants.Store word whole) tt (wants (need.TheVariants.Store word whole) e)
    by_need (need.TheVariants.Acquire lock) e on = advanced-more S.program S.fuel r (need.TheVariants.Acquire lock) tt (wants (need.TheVariants.Acquire lock) e)
    by_need (need.TheVariants.Release lock) e on = advanced-more S.program S.fuel r (need.TheVariants.Release lock) tt (wants (need.TheVariants.Release lock) e)
    by_need (need.TheVariants.End by) e on = absurd (stopped-some by a.state on)

pub last-step : (S : Setup) (n : ℕ) → alone_steps S (suc n) (start_alone S) ≡ alone_step S (alone_steps S n (start_alone S))
last-step S n = let e : suc n ≡ n + 1 = omega arith in ap (λ (j : ℕ). alone_steps S j (start_alone S)) e ∙ more-steps S n 1 (start_alone S)

-- where it goes on after n + 1 instructions, it went on after n, and has retired one more
pub record WentOn (S : Setup) (n : ℕ) : Type 0 where
  pub before : (alone_steps S n (start_alone S)).state.end ≡ None
  pub more : IsOneMore S.fuel (alone_steps S n (start_alone S)).state (alone_steps S (suc n) (start_alone S)).state

went-on : (S : Setup) (n : ℕ) → IsLockless S → (alone_steps S (suc n) (start_alone S)).state.end ≡ None → WentOn S n
went-on S n k on = by_end (alone_steps S n (start_alone S)).state.end refl
  where
    a : Alone
    a = alone_steps S n (start_alone S)

    later : (alone_step S a).state.end ≡ None
    later = ap (λ (x : Alone). x.state.end) (sym (last-step S n)) ∙ on

    by_end : (o : Option End) → a.state.end ≡ o → WentOn S n
    by_end None e =
        record { before = e; more = subst (λ (x : Alone). IsOneMore S.fuel a.state x.state) (sym (last-step S n)) (one-more S a e (plain-settled S a (plain-steps S n (start_alone S) k (plain-start S))) later) }
    by_end (Some by) e = absurd (none-some by (sym later ∙ ap (λ (x : Alone). x.state.end) (ended-still S a by e) ∙ e))

retires : (S : Setup) (n : ℕ) → IsLockless S → (alone_steps S n (start_alone S)).state.end ≡ None → (alone_steps S n (start_alone S)).state.retired ≡ n
retires S zero k on = refl
retires S (suc n) k on =
    let w = went-on S n k on in
    let before = retires S n k w.before in
    let more = w.more.retired in
    omega (arith, before, more)

pub comes-to-end : (S : Setup) → IsLockless S → (alone S).state.end ≢ None
unfolding alone
comes-to-end S k on = let w = went-on S S.fuel k on in w.more.unspent (retires S S.fuel k w.before)

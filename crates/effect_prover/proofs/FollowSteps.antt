-- Where a task follows a closed table, it follows it after its next instruction.
use Rattle.std.proofs.Common.{◌≡◌, ◌⊎◌, inl, inr, ℕ, ◌+◌, ◌*◌, ◌-◌, ◌/◌, ◌%◌, ◌^◌, ◌<◌, ◌≤◌, Bool, true, false, ◌&&◌, ◌==◌, nat_le, nat_lt, if◌then◌else◌, List, length, slice_get, slice_index, Option, Some, None, refl, sym, ap, ◌∙◌, subst, arith, ⊎_elim, bit_or, bit_xor}
use Rattle.std.proofs.lemmas.Bool.{and_parts, eq-eqb, eqb-true, eqb-false, ne_eqb, leb-true, ltb-false, cond_both}
use Rattle.std.proofs.lemmas.Option.{none-some, slice_get_within}
use Rattle.region_table.specs.Program.{ProgramParts}
use Rattle.region_table.specs.declared.declared.TaskDecl.{TaskDecl}
use Rattle.rv_isa.specs.Encoding.{decoded}
use Rattle.rv_isa.specs.Meaning.{alu_of, taken_of}
use Rattle.rv_isa.specs.Range.{IsEncodable, HasRegisters}
use Rattle.rv_isa.specs.Table.{is_shift}
use Rattle.rv_isa.specs.Word.{pattern}
use Rattle.rv_isa.specs.declared.instr.Instr.{Instr}
use Rattle.rv_isa.specs.declared.instr.Instr.TheVariants.{Lui, Auipc, Jal, Jalr, Branch, Load, Store, OpImm, Op, Fence, Ecall, Ebreak}
use Rattle.rv_isa.proofs.EncodingLemmas.{Fits-row, HasRegisters-row}
use Rattle.rv_isa.proofs.RowLemmas.{decoded-row}
use Rattle.rv_core.specs.declared.task.TaskState.{TaskState}
use Rattle.rv_core.specs.declared.task.TrapKind as kind
use Rattle.rv_core.specs.declared.need.Need.TheVariants.{Acquire, Release}
use Rattle.rv_core.specs.Access.{is_held}
use Rattle.rv_core.specs.Kinds.{IsLoad, IsAdvance}
use Rattle.rv_core.specs.Need.{need_of, fetch_need, word_need, instr_need, call_need, traps, address_of, jump_target}
use Rattle.rv_core.specs.Address.{code_at, data_at, size_of, extended}
use Rattle.rv_core.specs.Registers.{value_in}
use Rattle.rv_core.specs.Step.{read_instr, next_pc, jumped_to, with_locks, after_call, after_instr, after_fetch, advanced, after_load, loaded_of, after_store, merged_of}
use Rattle.rv_core.specs.Task.{started}
use Rattle.rv_core.proofs.Needs.{fuelled, neither, no_load, first_taken, second_taken, load-tells, IsLoading}
use Rattle.flat_machine.specs.Laws.{HoldsLess}
use Rattle.effect_prover.specs.declared.range.Range.{Range}
use Rattle.effect_prover.specs.declared.row.Row.{Row}
use Rattle.effect_prover.specs.declared.successors.Successors.{Successors}
use Rattle.effect_prover.specs.Range.{Has, one, is_one, computed, computed_imm}
use Rattle.effect_prover.specs.Row.{range_of, start_row, IsRow}
use Rattle.effect_prover.specs.Successors.{no_successors, falls_through, branch_on, loadable, held_after_acquire, held_after_release, calls, successors}
use Rattle.effect_prover.specs.Table.{Table, row_at, address_at, instr_of, target_of, IsPassedOn, IsClosed}
use Rattle.effect_prover.specs.Inside.{IsInside, AreInside}
use Rattle.effect_prover.proofs.FollowWords.{extended-has, replaced-small}
use Rattle.effect_prover.proofs.Follow.{Lies, LiesAt, under-lies, lies-written, lies-held, acquire-holds, release-holds, start-lies}
use Rattle.effect_prover.proofs.FollowBranches.{branch-lies}
use Rattle.effect_prover.proofs.RangeLemmas.{one-has, one-is, has-small, computed-has, computed_imm-has}
use Rattle.effect_prover.proofs.RowLemmas.{none-less}
use Rattle.effect_prover.proofs.SuccessorLemmas.{operand-small}

-- where the task's program counter is the address of a code word, the task lies in the table's row of that word
abbrev pub Follows : ProgramParts → Table → TaskState → Type 0
Follows P table t = (i : ℕ) → i < length P.code → t.pc ≡ address_at i → LiesAt t.regs t.held (row_at table i)

-- the program and the table of one of its tasks
pub record IsSafeTable (P : ProgramParts) (d : TaskDecl) (table : Table) : Type 0 where
  pub code : length P.code ≤ 16384
  pub closed : IsClosed P d table
  pub inside : AreInside P d table

-- the task comes to an instruction that the table reaches with a row
pub record IsReached (P : ProgramParts) (d : TaskDecl) (table : Table) (t : TaskState) (i : Instr) : Type 0 where
  pub row : Row
  pub row_is : IsRow row
  pub lies : Lies t.regs t.held row
  pub within : t.pc + 4 < 2 ^ 32
  pub registers : HasRegisters i
  pub fits : IsEncodable i
  pub passes : IsPassedOn table t.pc i (successors (length P.locks) t.pc row i)
  pub inside : IsInside P d row i

-- ---- what the task comes to

-- the place of a code word by its address
record IsPlace (code : List ℕ) (pc word : ℕ) : Type 0 where
  place : ℕ
  address : pc ≡ address_at place
  there : slice_get code place ≡ Some word

code-place : (code : List ℕ) (pc word : ℕ) → code_at code pc ≡ Some word → IsPlace code pc word
code-place code pc word e = by_test (nat_le 0x1000 pc && pc % 4 == 0) refl e
  where
    by_test : (b : Bool) → (nat_le 0x1000 pc && pc % 4 == 0) ≡ b → (if b then slice_get code ((pc - 0x1000) / 4) else None) ≡ Some word → IsPlace code pc word
    by_test true test e =
        let parts = and_parts (nat_le 0x1000 pc) (pc % 4 == 0) test in
        let low = leb-true 0x1000 pc parts.0 in
        let even = eqb-true (pc % 4) 0 parts.1 in
        record { place = (pc - 0x1000) / 4; address = omega arith; there = e }
    by_test false test e = absurd (none-some word e)

pub reached-at : (P : ProgramParts) (d : TaskDecl) (table : Table) (t : TaskState) (word : ℕ) (i : Instr) → IsSafeTable P d table → Follows P table t
    → code_at P.code t.pc ≡ Some word → decoded word ≡ Some i → IsReached P d table t i
reached-at P d table t word i safe follows e is = by_row (row_at table at'.place) refl (follows at'.place within at'.address)
  where
    at' : IsPlace P.code t.pc word
    at' = code-place P.code t.pc word e

    within : at'.place < length P.code
    within = slice_get_within P.code at'.place word at'.there

    there : instr_of P.code at'.place ≡ Some i
    there = ap read_instr at'.there ∙ is

    by_row : (o : Option Row) → row_at table at'.place ≡ o → LiesAt t.regs t.held o → IsReached P d table t i
    by_row None r lies = absurd lies
    by_row (Some row) r lies =
        let small = safe.code in
        let inner = within in
        let address = at'.address in
        record {
          row = row;
          row_is = safe.closed.shape.rows at'.place row r;
          lies = lies;
          within = omega arith;
          registers = HasRegisters-row i word (decoded-row word i is);
          fits = Fits-row i word (decoded-row word i is);
          passes = subst (λ (pc : ℕ). IsPassedOn table pc i (successors (length P.locks) pc row i)) (sym address) (safe.closed.passes at'.place row i r there);
          inside = safe.inside at'.place row i r there;
        }

-- ---- where the task goes

-- the task goes to the next word or to the target, and lies in the row that is given there
abbrev Goes : ℕ → Instr → Successors → TaskState → Type 0
Goes pc i s t = ((t.pc ≡ pc + 4) × LiesAt t.regs t.held s.next) ⊎ ((target_of pc i ≡ Some t.pc) × LiesAt t.regs t.held s.target)

goes-follows : (P : ProgramParts) (d : TaskDecl) (table : Table) (pc : ℕ) (i : Instr) (s : Successors) (t : TaskState) → IsSafeTable P d table → IsPassedOn table pc i s → Goes pc i s t → Follows P table t
goes-follows P d table pc i s t safe passes (inl goes) place within address =
    let words = safe.closed.shape.words in
    under-lies t.regs t.held s.next (row_at table place) (passes.next place (omega arith) (sym goes.0 ∙ address)) goes.1
goes-follows P d table pc i s t safe passes (inr goes) place within address =
    let words = safe.closed.shape.words in
    under-lies t.regs t.held s.target (row_at table place) (passes.target t.pc goes.0 place (omega arith) address) goes.1

next-is : (t : TaskState) → t.pc + 4 < 2 ^ 32 → next_pc t ≡ t.pc + 4
next-is t h = omega arith

-- ---- calls of the environment

-- a call after which the task goes on acquires the lock, or releases it, which is held then
abbrev Calls : TaskState → ℕ → ℕ → Type 0
Calls t number lock = (number ≡ 1) ⊎ ((number ≡ 2) × (is_held t.held lock ≡ true))

call-known : (P : ProgramParts) (t : TaskState) (number lock : ℕ) → IsAdvance (call_need P t number lock) → Calls t number lock
call-known P t number lock k =
    let known = second_taken IsAdvance (nat_lt 2 number) _ _ (λ x. x) k in
    let low = ltb-false 2 number known.0 in
    let goes = second_taken IsAdvance (number == 0) _ _ (neither IsAdvance (t.held == 0) _ _ (λ x. x) (λ x. x)) known.1 in
    let some = eqb-false number 0 goes.0 in
    let has_lock = second_taken IsAdvance (nat_le (length P.locks) lock) _ _ (λ x. x) goes.1 in
    by_number (number == 1) refl low some has_lock.1
  where
    by_number : (b : Bool) → (number == 1) ≡ b → number ≤ 2 → (number ≡ 0 → ⊥)
        → IsAdvance (if b then (if is_held t.held lock then traps t kind.TheVariants.Held lock else Acquire (record { 0 = lock }))
        else (if is_held t.held lock then Release (record { 0 = lock }) else traps t kind.TheVariants.NotHeld lock))
        → Calls t number lock
    by_number true e low some k = inl (eqb-true number 1 e)
    by_number false e low some k =
        let other = eqb-false number 1 e in
        inr (grind (arith, some, other), (first_taken IsAdvance (is_held t.held lock) _ _ (λ x. x) k).0)

-- the row after a call has the locks that are held then
call-lies : (locks : ℕ) (regs : List ℕ) (held : ℕ) (row : Row) (number now : ℕ) (x y : Range) → Has x number → Lies regs held row → (number ≡ 1) ⊎ (number ≡ 2)
    → (number ≡ 1 → HoldsLess (held_after_acquire locks row.held y) now) → (number ≡ 2 → HoldsLess (held_after_release row.held y) now) → LiesAt regs now (calls locks row x y).next
call-lies locks regs held row number now x y known h some acquires releases =
    let lies : (held' : ℕ) → HoldsLess held' now → LiesAt regs now (falls_through (record row { held = held' })).next = λ held' less. lies-held regs held row now held' h less in
    let acquired : Successors = falls_through (record row { held = held_after_acquire locks row.held y }) in
    let released : Successors = falls_through (record row { held = held_after_release row.held y }) in
    cond_both (is_one x) (if x.lo == 1 then acquired else if x.lo == 2 then released else no_successors) (falls_through (record row { held = 0 })) (λ (s : Successors). LiesAt regs now s.next)
    (λ e.
    let is = one-is x number e known in
    cond_both (x.lo == 1) acquired (if x.lo == 2 then released else no_successors) (λ (s : Successors). LiesAt regs now s.next)
    (λ f. lies (held_after_acquire locks row.held y) (acquires (is ∙ eqb-true x.lo 1 f)))
    (λ f.
    cond_both (x.lo == 2) released no_successors (λ (s : Successors). LiesAt regs now s.next)
    (λ g. lies (held_after_release row.held y) (releases (is ∙ eqb-true x.lo 2 g)))
    (λ g. absurd (⊎_elim (λ (one' : number ≡ 1). eqb-false x.lo 1 f (sym is ∙ one')) (λ (two : number ≡ 2). eqb-false x.lo 2 g (sym is ∙ two)) some))))
    (λ e. lies 0 (none-less now))

call-goes : (P : ProgramParts) (t : TaskState) (here : Row) → Lies t.regs t.held here → t.pc + 4 < 2 ^ 32 → Calls t (slice_index t.regs 17) (slice_index t.regs 10)
    → Goes t.pc Ecall (calls (length P.locks) here (range_of here 17) (range_of here 10)) (after_call t (slice_index t.regs 17) (slice_index t.regs 10))
call-goes P t here h p called = by_some called
  where
    number : ℕ
    number = slice_index t.regs 17

    lock : ℕ
    lock = slice_index t.regs 10

    known : Has (range_of here 17) number
    known = h.values 17 (omega arith)

    which : Has (range_of here 10) lock
    which = h.values 10 (omega arith)

    goes : TaskState → Type 0
    goes = Goes t.pc Ecall (calls (length P.locks) here (range_of here 17) (range_of here 10))

    by_some : (number ≡ 1) ⊎ ((number ≡ 2) × (is_held t.held lock ≡ true)) → goes (after_call t number lock)
    by_some (inl one') =
        let same : after_call t number lock ≡ with_locks t (bit_or t.held (2 ^ lock)) = rw (eq-eqb number 1 one') refl in
        subst goes (sym same)
        (inl (
          next-is t p,
          call-lies (length P.locks) t.regs t.held here number (bit_or t.held (2 ^ lock)) (range_of here 17) (range_of here 10) known h (inl one')
              (λ e. acquire-holds (length P.locks) here.held t.held lock (range_of here 10) which h.locks) (λ (e : number ≡ 2). absurd (omega arith)),
        ))
    by_some (inr (two, there)) =
        let same : after_call t number lock ≡ with_locks t (bit_xor t.held (2 ^ lock)) = rw (ne_eqb number 1 (λ (e : number ≡ 1). omega arith)) refl in
        subst goes (sym same)
        (inl (
          next-is t p,
          call-lies (length P.locks) t.regs t.held here number (bit_xor t.held (2 ^ lock)) (range_of here 17) (range_of here 10) known h (inr two)
              (λ (e : number ≡ 1). absurd (omega arith)) (λ e. release-holds here.held t.held lock (range_of here 10) which there h.locks),
        ))

-- ---- every form that loads nothing

after-goes : (P : ProgramParts) (d : TaskDecl) (t : TaskState) (row : Row) (i : Instr) → IsRow row → Lies t.regs t.held row → t.pc + 4 < 2 ^ 32 → HasRegisters i → IsEncodable i → IsInside P d row i
    → IsAdvance (instr_need P d t i) → Goes t.pc i (successors (length P.locks) t.pc row i) (after_instr t i)
after-goes P d t row (Lui rd imm) hr h p g f n k =
    inl (next-is t p, lies-written t.regs t.held row rd (imm * 4096 % 2 ^ 32) (one (imm * 4096 % 2 ^ 32)) hr.count h (one-has (imm * 4096 % 2 ^ 32)))
after-goes P d t row (Auipc rd imm) hr h p g f n k =
    let v = (t.pc + imm * 4096) % 2 ^ 32 in
    inl (next-is t p, lies-written t.regs t.held row rd v (one v) hr.count h (one-has v))
after-goes P d t row (Jal rd offset) hr h p g f n k =
    inr (refl, lies-written t.regs t.held row rd (next_pc t) (one (t.pc + 4)) hr.count h (subst (Has (one (t.pc + 4))) (sym (next-is t p)) (one-has (t.pc + 4))))
after-goes P d t row (Jalr rd base offset) hr h p g f n k = absurd n
after-goes P d t row (Branch test a b offset) hr h p g f n k = by_test (taken_of test (value_in t.regs a) (value_in t.regs b)) refl
  where
    by_test : (taken : Bool) → taken_of test (value_in t.regs a) (value_in t.regs b) ≡ taken
        → Goes t.pc (Branch test a b offset) (branch_on test row a b) (jumped_to t (if taken then jump_target t offset else next_pc t))
    by_test true e = inr (refl, branch-lies test t.regs t.held row a b hr.count g.0 g.1 h true e)
    by_test false e = inl (next-is t p, branch-lies test t.regs t.held row a b hr.count g.0 g.1 h false e)
after-goes P d t row (Load width rd base offset) hr h p g f n k =
    let address = address_of t base offset in
    absurd (neither IsAdvance (address % size_of width == 0) _ _ (no_load IsAdvance d t address (data_at (length P.memory) address) (λ x y. y) (λ c x. x)) (λ x. x) k)
after-goes P d t row (Store width src base offset) hr h p g f n k = inl (next-is t p, h)
after-goes P d t row (OpImm op rd a imm) hr h p g f n k =
    let x : Range = computed_imm op (range_of row a) (pattern imm) in
    let v = alu_of op (value_in t.regs a) (pattern imm) in
    inl (
      next-is t p,
      lies-written t.regs t.held row rd v x hr.count h
          (computed_imm-has op (range_of row a) (pattern imm) (value_in t.regs a) (hr.each a g.1) (operand-small (is_shift op) imm f.1) (h.values a g.1)),
    )
after-goes P d t row (Op op rd a b) hr h p g f n k =
    let x : Range = computed op (range_of row a) (range_of row b) in
    let v = alu_of op (value_in t.regs a) (value_in t.regs b) in
    inl (
      next-is t p,
      lies-written t.regs t.held row rd v x hr.count h
          (computed-has op (range_of row a) (range_of row b) (value_in t.regs a) (value_in t.regs b) (hr.each a g.1) (hr.each b g.2) (h.values a g.1) (h.values b g.2)),
    )
after-goes P d t row Fence hr h p g f n k = inl (next-is t p, h)
after-goes P d t row Ecall hr h p g f n k =
    call-goes P t row h p (call-known P t (slice_index t.regs 17) (slice_index t.regs 10) k)
after-goes P d t row Ebreak hr h p g f n k = absurd k

-- ---- loads

load-goes : (P : ProgramParts) (t : TaskState) (row : Row) (value : ℕ) (i : Instr) → IsRow row → Lies t.regs t.held row → t.pc + 4 < 2 ^ 32 → value < 2 ^ 32 → IsLoading value t (Some i)
    → Goes t.pc i (successors (length P.locks) t.pc row i) (after_load t value (Some i))
load-goes P t row value (Load width rd base offset) hr h p small l =
    let lane = address_of t base offset % 4 in
    inl (next-is t p, lies-written t.regs t.held row rd (extended width value lane) (loadable width) hr.count h (extended-has width value lane small))
load-goes P t row value _ hr h p small l = absurd (let more = l.retires in omega arith)

-- ---- any instruction

pub advanced-follows : (P : ProgramParts) (d : TaskDecl) (table : Table) (fuel : ℕ) (t : TaskState) → IsSafeTable P d table → Follows P table t → IsAdvance (need_of P d fuel t) → Follows P table (advanced P t)
unfolding advanced
advanced-follows P d table fuel t safe follows k = by_word (code_at P.code t.pc) refl (fuelled P d fuel t IsAdvance (λ x. x) k).1
  where
    by_instr : (word : ℕ) → code_at P.code t.pc ≡ Some word → (o : Option Instr) → decoded word ≡ o → IsAdvance (word_need P d t word o) → Follows P table (after_fetch t o)
    by_instr word e None is k = absurd k
    by_instr word e (Some i) is k =
        let at' = reached-at P d table t word i safe follows e is in
        goes-follows P d table t.pc i (successors (length P.locks) t.pc at'.row i) (after_instr t i) safe at'.passes
        (after-goes P d t at'.row i at'.row_is at'.lies at'.within at'.registers at'.fits at'.inside k)

    by_word : (o : Option ℕ) → code_at P.code t.pc ≡ o → IsAdvance (fetch_need P d t o) → Follows P table (after_fetch t (read_instr o))
    by_word None e k = absurd k
    by_word (Some word) e k = by_instr word e (decoded word) refl k

pub loaded-follows : (P : ProgramParts) (d : TaskDecl) (table : Table) (fuel : ℕ) (t : TaskState) (value : ℕ) → IsSafeTable P d table → Follows P table t → IsLoad (need_of P d fuel t) → value < 2 ^ 32
    → Follows P table (loaded_of P value t)
unfolding loaded_of
loaded-follows P d table fuel t value safe follows k small = by_word (code_at P.code t.pc) refl (load-tells P d fuel t value k)
  where
    by_instr : (word : ℕ) → code_at P.code t.pc ≡ Some word → (o : Option Instr) → decoded word ≡ o → IsLoading value t o → Follows P table (after_load t value o)
    by_instr word e None is l = absurd (let more = l.retires in omega arith)
    by_instr word e (Some i) is l =
        let at' = reached-at P d table t word i safe follows e is in
        goes-follows P d table t.pc i (successors (length P.locks) t.pc at'.row i) (after_load t value (Some i)) safe at'.passes
        (load-goes P t at'.row value i at'.row_is at'.lies at'.within small l)

    by_word : (o : Option ℕ) → code_at P.code t.pc ≡ o → IsLoading value t (read_instr o) → Follows P table (after_load t value (read_instr o))
    by_word None e l = absurd (let more = l.retires in omega arith)
    by_word (Some word) e l = by_instr word e (decoded word) refl l

-- a word is still a number of 32 bits after a store
pub merged-small : (P : ProgramParts) (d : TaskDecl) (table : Table) (t : TaskState) (old : ℕ) → IsSafeTable P d table → Follows P table t → old < 2 ^ 32 → merged_of P old t < 2 ^ 32
unfolding merged_of
merged-small P d table t old safe follows small = by_word (code_at P.code t.pc) refl
  where
    by_instr : (word : ℕ) → code_at P.code t.pc ≡ Some word → (o : Option Instr) → decoded word ≡ o → after_store t old o < 2 ^ 32
    by_instr word e None is = small
    by_instr word e (Some (Store width src base offset)) is =
        let at' = reached-at P d table t word (Store width src base offset) safe follows e is in
        let within = at'.registers.0 in
        replaced-small width old (address_of t base offset % 4) (value_in t.regs src) small
        (has-small (range_of at'.row src) (value_in t.regs src) (at'.row_is.each src within) (at'.lies.values src within))
    by_instr word e (Some _) is = small

    by_word : (o : Option ℕ) → code_at P.code t.pc ≡ o → after_store t old (read_instr o) < 2 ^ 32
    by_word None e = small
    by_word (Some word) e = by_instr word e (decoded word) refl

pub started-follows : (P : ProgramParts) (d : TaskDecl) (table : Table) → IsSafeTable P d table → Follows P table (started d)
started-follows P d table safe place within address =
    let words = safe.closed.shape.words in
    under-lies (started d).regs 0 (Some (start_row d)) (row_at table place) (safe.closed.entry place (omega arith) address) (start-lies d)

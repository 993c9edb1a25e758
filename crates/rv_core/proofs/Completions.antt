-- What a need allows, and what is left once its instruction is completed.
use Rattle.std.proofs.Common.{◌≡◌, ℕ, ◌+◌, ◌%◌, ◌^◌, ◌<◌, ◌≤◌, Bool, true, false, cond, ◌==◌, nat_le, nat_lt, length, slice_index, Option, Some, None, refl, sym, subst, arith, bit_or, bit_xor}
use Rattle.std.proofs.lemmas.Bool.Decides.{nat_tests}
use Rattle.region_table.specs.Program.{ProgramParts}
use Rattle.region_table.specs.declared.declared.TaskDecl.{TaskDecl}
use Rattle.rv_isa.specs.Encoding.{decoded}
use Rattle.rv_isa.specs.declared.instr.Instr as instr
use Rattle.rv_isa.specs.declared.instr.Instr.{Instr}
use Rattle.rv_isa.specs.declared.instr.Width as width
use Rattle.rv_isa.specs.declared.instr.Width.{Width}
use Rattle.rv_isa.specs.Meaning.{taken_of}
use Rattle.rv_core.specs.declared.task.TaskState.{TaskState}
use Rattle.rv_core.specs.declared.task.End.{End as Ending}
use Rattle.rv_core.specs.declared.task.End as cause
use Rattle.rv_core.specs.declared.need.Need.{Need}
use Rattle.rv_core.specs.declared.need.Need.TheVariants.{Local, Load, Store, Acquire, Release, End}
use Rattle.dn_base.specs.declared.ids.WordId.{WordId}
use Rattle.dn_base.specs.declared.ids.LockId.{LockId}
use Rattle.rv_core.specs.Access.{is_held, may_load, may_store}
use Rattle.rv_core.specs.Address.{code_at, data_at, size_of, is_whole, replaced}
use Rattle.rv_core.specs.Registers.{value_in}
use Rattle.rv_core.specs.Need.{need_of, fetch_need, word_need, instr_need, jump_need, load_need, store_need, call_need, address_of, jump_target, register_target}
use Rattle.rv_core.specs.Step.{read_instr, instr_at, after_fetch, after_instr, after_load, after_store, after_call, with_locks, advanced, loaded_of, merged_of}
use Rattle.rv_core.specs.Task.{stopped, retires_at}
use Rattle.rv_core.specs.Kinds.{IsLoad, IsAdvance, EndsByFuel, Allowed, held_after}
use Rattle.rv_core.proofs.Needs.{fuelled, neither, first_taken, second_taken, no_jump, no_load, no_call, need-allowed, need-fuel, load-tells, advance-tells}

-- ---- what a need allows

allowed : (P : ProgramParts) (d : TaskDecl) (fuel : ℕ) (t : TaskState) (n : Need) → need_of P d fuel t ≡ n → Allowed P d t n
allowed P d fuel t n is = subst (λ (x : Need). Allowed P d t x) is (need-allowed P d fuel t)

pub load-allowed : (P : ProgramParts) (d : TaskDecl) (fuel : ℕ) (t : TaskState) (word : WordId) → need_of P d fuel t ≡ Load word
    → (word.0 < length P.memory) × (may_load d t.held word.0 ≡ true)
load-allowed P d fuel t word is = allowed P d fuel t (Load word) is

pub store-allowed : (P : ProgramParts) (d : TaskDecl) (fuel : ℕ) (t : TaskState) (word : WordId) (whole : Bool) → need_of P d fuel t ≡ Store word whole
    → (word.0 < length P.memory) × (may_store d t.held word.0 ≡ true)
store-allowed P d fuel t word whole is = let a = allowed P d fuel t (Store word whole) is in (a.0, a.1)

pub acquire-allowed : (P : ProgramParts) (d : TaskDecl) (fuel : ℕ) (t : TaskState) (lock : LockId) → need_of P d fuel t ≡ Acquire lock
    → (lock.0 < length P.locks) × (is_held t.held lock.0 ≡ false)
acquire-allowed P d fuel t lock is = let a = allowed P d fuel t (Acquire lock) is in (a.0, a.1)

pub release-allowed : (P : ProgramParts) (d : TaskDecl) (fuel : ℕ) (t : TaskState) (lock : LockId) → need_of P d fuel t ≡ Release lock
    → (lock.0 < length P.locks) × (is_held t.held lock.0 ≡ true)
release-allowed P d fuel t lock is = let a = allowed P d fuel t (Release lock) is in (a.0, a.1)

-- ---- what is held afterwards

told-held : (P : ProgramParts) (d : TaskDecl) (t : TaskState) (n : Need) → IsAdvance n → Allowed P d t n → (advanced P t).held ≡ held_after t.held n
told-held P d t Local k a = a
told-held P d t (Load word) k a = absurd k
told-held P d t (Store word whole) k a = a.2
told-held P d t (Acquire lock) k a = a.2
told-held P d t (Release lock) k a = a.2
told-held P d t (End by) k a = absurd k

pub advanced-held : (P : ProgramParts) (d : TaskDecl) (fuel : ℕ) (t : TaskState) (n : Need) → need_of P d fuel t ≡ n → IsAdvance n → (advanced P t).held ≡ held_after t.held n
advanced-held P d fuel t n is k = told-held P d t n k (allowed P d fuel t n is)

pub loaded-held : (P : ProgramParts) (d : TaskDecl) (fuel : ℕ) (t : TaskState) (value : ℕ) → IsLoad (need_of P d fuel t) → (loaded_of P value t).held ≡ t.held
unfolding loaded_of
loaded-held P d fuel t value k = (load-tells P d fuel t value k).held

pub stopped-held : (by : Ending) (t : TaskState) → (stopped by t).held ≡ t.held
stopped-held cause.TheVariants.Finished t = refl
stopped-held cause.TheVariants.Fuel t = refl
stopped-held (cause.TheVariants.Trap kind pc value) t = refl

-- ---- how many instructions have retired afterwards

pub advanced-retired : (P : ProgramParts) (d : TaskDecl) (fuel : ℕ) (t : TaskState) → IsAdvance (need_of P d fuel t) → (advanced P t).retired ≡ t.retired + 1
unfolding advanced
advanced-retired P d fuel t k = (advance-tells P d fuel t k).retires

pub loaded-retired : (P : ProgramParts) (d : TaskDecl) (fuel : ℕ) (t : TaskState) (value : ℕ) → IsLoad (need_of P d fuel t) → (loaded_of P value t).retired ≡ t.retired + 1
unfolding loaded_of
loaded-retired P d fuel t value k = (load-tells P d fuel t value k).retires

pub stopped-retired : (by : Ending) (t : TaskState) → (stopped by t).retired ≡ t.retired + retires_at by
stopped-retired cause.TheVariants.Finished t = refl
stopped-retired cause.TheVariants.Fuel t = omega arith
stopped-retired (cause.TheVariants.Trap kind pc value) t = omega arith

-- a need that isn't the end by Fuel leaves fuel for its instruction
pub fuel-left : (P : ProgramParts) (d : TaskDecl) (fuel : ℕ) (t : TaskState) (n : Need) → need_of P d fuel t ≡ n → (EndsByFuel n → ⊥) → t.retired ≤ fuel → t.retired + 1 ≤ fuel
fuel-left P d fuel t n is unspent within =
    let apart : t.retired ≡ fuel → ⊥ = λ e. unspent (subst EndsByFuel is ((need-fuel P d fuel t).1 e)) in
    grind (arith, apart)

-- ---- an instruction that retires ends no task

after_call-end : (t : TaskState) (number lock : ℕ) → (after_call t number lock).end ≡ t.end
after_call-end t number lock = by_number (number == 1)
  where
    by_number : (b : Bool) → (cond b (with_locks t (bit_or t.held (2 ^ lock))) (with_locks t (bit_xor t.held (2 ^ lock)))).end ≡ t.end
    by_number true = refl
    by_number false = refl

after_instr-end : (t : TaskState) (i : Instr) → (after_instr t i).end ≡ t.end
after_instr-end t (instr.TheVariants.Lui rd imm) = refl
after_instr-end t (instr.TheVariants.Auipc rd imm) = refl
after_instr-end t (instr.TheVariants.Jal rd offset) = refl
after_instr-end t (instr.TheVariants.Jalr rd base offset) = refl
after_instr-end t (instr.TheVariants.Branch test a b offset) = refl
after_instr-end t (instr.TheVariants.Load width rd base offset) = refl
after_instr-end t (instr.TheVariants.Store width src base offset) = refl
after_instr-end t (instr.TheVariants.OpImm op rd a imm) = refl
after_instr-end t (instr.TheVariants.Op op rd a b) = refl
after_instr-end t instr.TheVariants.Fence = refl
after_instr-end t instr.TheVariants.Ecall = after_call-end t (slice_index t.regs 17) (slice_index t.regs 10)
after_instr-end t instr.TheVariants.Ebreak = refl

pub advanced-end : (P : ProgramParts) (t : TaskState) → (advanced P t).end ≡ t.end
unfolding advanced
advanced-end P t = by_instr (instr_at P t)
  where
    by_instr : (o : Option Instr) → (after_fetch t o).end ≡ t.end
    by_instr None = refl
    by_instr (Some i) = after_instr-end t i

pub loaded-end : (P : ProgramParts) (value : ℕ) (t : TaskState) → (loaded_of P value t).end ≡ t.end
unfolding loaded_of
loaded-end P value t = by_instr (instr_at P t)
  where
    by_instr : (o : Option Instr) → (after_load t value o).end ≡ t.end
    by_instr None = refl
    by_instr (Some (instr.TheVariants.Load width rd base offset)) = refl
    by_instr (Some _) = refl

pub stopped-end : (by : Ending) (t : TaskState) → (stopped by t).end ≡ Some by
stopped-end cause.TheVariants.Finished t = refl
stopped-end cause.TheVariants.Fuel t = refl
stopped-end (cause.TheVariants.Trap kind pc value) t = refl

-- ---- a whole store gives all of its word

abbrev IsWholeStore : Need → Type 0
IsWholeStore (Store word true) = Unit {0}
IsWholeStore _ = ⊥

store_whole : (d : TaskDecl) (t : TaskState) (whole : Bool) (address : ℕ) (w : Option ℕ) → IsWholeStore (store_need d t whole address w) → whole ≡ true
store_whole d t true address w k = refl
store_whole d t false address None k = absurd k
store_whole d t false address (Some w) k = absurd (neither IsWholeStore (may_store d t.held w) _ _ (λ x. x) (λ x. x) k)

replaced-whole : (w : Width) (a b lane value : ℕ) → is_whole w ≡ true → replaced w a lane value ≡ replaced w b lane value
replaced-whole width.TheVariants.B a b lane value e = absurd cc
replaced-whole width.TheVariants.H a b lane value e = absurd cc
replaced-whole width.TheVariants.W a b lane value e = refl
replaced-whole width.TheVariants.Bu a b lane value e = absurd cc
replaced-whole width.TheVariants.Hu a b lane value e = absurd cc

whole_instr : (P : ProgramParts) (d : TaskDecl) (t : TaskState) (a b : ℕ) (i : Instr) → IsWholeStore (instr_need P d t i) → after_store t a (Some i) ≡ after_store t b (Some i)
whole_instr P d t a b (instr.TheVariants.Lui rd imm) k = absurd k
whole_instr P d t a b (instr.TheVariants.Auipc rd imm) k = absurd k
whole_instr P d t a b (instr.TheVariants.Jal rd offset) k = absurd (no_jump IsWholeStore t (jump_target t offset) (λ x. x) (λ c x. x) k)
whole_instr P d t a b (instr.TheVariants.Jalr rd base offset) k = absurd (no_jump IsWholeStore t (register_target t base offset) (λ x. x) (λ c x. x) k)
whole_instr P d t a b (instr.TheVariants.Branch test x y offset) k =
    absurd (neither IsWholeStore (taken_of test (value_in t.regs x) (value_in t.regs y)) _ _ (no_jump IsWholeStore t (jump_target t offset) (λ x. x) (λ c x. x)) (λ x. x) k)
whole_instr P d t a b (instr.TheVariants.Load width rd base offset) k =
    let address = address_of t base offset in
    absurd (neither IsWholeStore (address % size_of width == 0) _ _ (no_load IsWholeStore d t address (data_at (length P.memory) address) (λ x y. y) (λ c x. x)) (λ x. x) k)
whole_instr P d t a b (instr.TheVariants.Store width src base offset) k =
    let address = address_of t base offset in
    let stores = (first_taken IsWholeStore (address % size_of width == 0) _ _ (λ x. x) k).1 in
    replaced-whole width a b (address % 4) (value_in t.regs src) (store_whole d t (is_whole width) address (data_at (length P.memory) address) stores)
whole_instr P d t a b (instr.TheVariants.OpImm op rd x imm) k = absurd k
whole_instr P d t a b (instr.TheVariants.Op op rd x y) k = absurd k
whole_instr P d t a b instr.TheVariants.Fence k = absurd k
whole_instr P d t a b instr.TheVariants.Ecall k =
    absurd (no_call IsWholeStore P t (slice_index t.regs 17) (slice_index t.regs 10) (λ x y. y) (λ x y. y) (λ c x. x) k)
whole_instr P d t a b instr.TheVariants.Ebreak k = absurd k

whole_fetched : (P : ProgramParts) (d : TaskDecl) (t : TaskState) (a b : ℕ) (word : Option ℕ) → IsWholeStore (fetch_need P d t word)
    → after_store t a (read_instr word) ≡ after_store t b (read_instr word)
whole_fetched P d t a b None k = absurd k
whole_fetched P d t a b (Some word) k = by_instr (decoded word) k
  where
    by_instr : (o : Option Instr) → IsWholeStore (word_need P d t word o) → after_store t a o ≡ after_store t b o
    by_instr None k = absurd k
    by_instr (Some i) k = whole_instr P d t a b i k

pub whole-merged : (P : ProgramParts) (d : TaskDecl) (fuel : ℕ) (t : TaskState) (word : WordId) (a b : ℕ) → need_of P d fuel t ≡ Store word true → merged_of P a t ≡ merged_of P b t
unfolding merged_of
whole-merged P d fuel t word a b is =
    let whole : IsWholeStore (need_of P d fuel t) = subst IsWholeStore (sym is) tt in
    whole_fetched P d t a b (code_at P.code t.pc) (fuelled P d fuel t IsWholeStore (λ x. x) whole).1

-- ---- a task that finishes holds no lock

abbrev Finishes : Need → Type 0
Finishes (End cause.TheVariants.Finished) = Unit {0}
Finishes _ = ⊥

call_finishes : (P : ProgramParts) (t : TaskState) (number lock : ℕ) → Finishes (call_need P t number lock) → t.held ≡ 0
call_finishes P t number lock k =
    let known = second_taken Finishes (nat_lt 2 number) _ _ (λ x. x) k in
    let ends = first_taken Finishes (number == 0) _ _
    (neither Finishes (nat_le (length P.locks) lock) _ _ (λ x. x)
    (neither Finishes (number == 1) _ _ (neither Finishes (is_held t.held lock) _ _ (λ x. x) (λ x. x)) (neither Finishes (is_held t.held lock) _ _ (λ x. x) (λ x. x)))) known.1 in
    let test = (first_taken Finishes (t.held == 0) _ _ (λ x. x) ends.1).0 in
    grind (arith, nat_tests)

load_finishes : (d : TaskDecl) (t : TaskState) (address : ℕ) (w : Option ℕ) → Finishes (load_need d t address w) → ⊥
load_finishes d t address None k = k
load_finishes d t address (Some w) k = neither Finishes (may_load d t.held w) _ _ (λ x. x) (λ x. x) k

store_finishes : (d : TaskDecl) (t : TaskState) (whole : Bool) (address : ℕ) (w : Option ℕ) → Finishes (store_need d t whole address w) → ⊥
store_finishes d t whole address None k = k
store_finishes d t whole address (Some w) k = neither Finishes (may_store d t.held w) _ _ (λ x. x) (λ x. x) k

jump_finishes : (t : TaskState) (target : ℕ) → Finishes (jump_need t target) → ⊥
jump_finishes t target = neither Finishes (target % 4 == 0) _ _ (λ x. x) (λ x. x)

instr_finishes : (P : ProgramParts) (d : TaskDecl) (t : TaskState) (i : Instr) → Finishes (instr_need P d t i) → t.held ≡ 0
instr_finishes P d t (instr.TheVariants.Jal rd offset) k = absurd (jump_finishes t (jump_target t offset) k)
instr_finishes P d t (instr.TheVariants.Jalr rd base offset) k = absurd (jump_finishes t (register_target t base offset) k)
instr_finishes P d t (instr.TheVariants.Branch test x y offset) k =
    absurd (neither Finishes (taken_of test (value_in t.regs x) (value_in t.regs y)) _ _ (jump_finishes t (jump_target t offset)) (λ x. x) k)
instr_finishes P d t (instr.TheVariants.Load width rd base offset) k =
    let address = address_of t base offset in
    absurd (neither Finishes (address % size_of width == 0) _ _ (load_finishes d t address (data_at (length P.memory) address)) (λ x. x) k)
instr_finishes P d t (instr.TheVariants.Store width src base offset) k =
    let address = address_of t base offset in
    absurd (neither Finishes (address % size_of width == 0) _ _ (store_finishes d t (is_whole width) address (data_at (length P.memory) address)) (λ x. x) k)
instr_finishes P d t instr.TheVariants.Ecall k = call_finishes P t (slice_index t.regs 17) (slice_index t.regs 10) k
instr_finishes P d t _ k = absurd k

fetched_finishes : (P : ProgramParts) (d : TaskDecl) (t : TaskState) (word : Option ℕ) → Finishes (fetch_need P d t word) → t.held ≡ 0
fetched_finishes P d t None k = absurd k
fetched_finishes P d t (Some word) k = by_instr (decoded word) k
  where
    by_instr : (o : Option Instr) → Finishes (word_need P d t word o) → t.held ≡ 0
    by_instr None k = absurd k
    by_instr (Some i) k = instr_finishes P d t i k

pub finished-holds_none : (P : ProgramParts) (d : TaskDecl) (fuel : ℕ) (t : TaskState) → need_of P d fuel t ≡ End cause.TheVariants.Finished → t.held ≡ 0
finished-holds_none P d fuel t is =
    let ends : Finishes (need_of P d fuel t) = subst Finishes (sym is) tt in
    fetched_finishes P d t (code_at P.code t.pc) (fuelled P d fuel t Finishes (λ x. x) ends).1

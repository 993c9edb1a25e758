-- What a need tells of the task, its instruction and what the instruction does.
use Rattle.std.proofs.Common.{◌≡◌, ◌↔◌, ℕ, ◌+◌, ◌-◌, ◌/◌, ◌%◌, ◌^◌, ◌<◌, Bool, true, false, cond, ◌&&◌, nat_le, nat_lt, ◌==◌, length, slice_index, Option, Some, None, refl, ap, subst, ◌∙◌, arith, bit_or, bit_xor}
use Rattle.std.proofs.lemmas.Bool.Decides.{nat_tests}
use Rattle.region_table.specs.Program.{ProgramParts}
use Rattle.region_table.specs.declared.declared.TaskDecl.{TaskDecl}
use Rattle.rv_isa.specs.Encoding.{decoded}
use Rattle.rv_isa.specs.declared.instr.Instr as instr
use Rattle.rv_isa.specs.declared.instr.Instr.{Instr}
use Rattle.rv_isa.specs.Meaning.{taken_of}
use Rattle.rv_core.specs.declared.task.TaskState.{TaskState}
use Rattle.rv_core.specs.declared.task.End as cause
use Rattle.rv_core.specs.declared.task.TrapKind as kind
use Rattle.rv_core.specs.declared.need.Need.{Need}
use Rattle.rv_core.specs.declared.need.Need.TheVariants.{Local, Load, Store, Acquire, Release, End}
use Rattle.rv_core.specs.Access.{is_held, least_held, may_load, may_store}
use Rattle.rv_core.specs.Address.{code_at, data_at, size_of, is_whole}
use Rattle.rv_core.specs.Registers.{value_in}
use Rattle.rv_core.specs.Need.{need_of, fetch_need, word_need, instr_need, jump_need, load_need, store_need, call_need, traps, address_of, jump_target, register_target}
use Rattle.rv_core.specs.Step.{read_instr, instr_at, after_fetch, after_instr, after_load, after_call, with_locks, advanced}
use Rattle.rv_core.specs.Kinds.{IsLoad, IsStore, IsAdvance, EndsByFuel, IsAligned, Tells, Allowed}

-- a fact that holds of neither choice doesn't hold of the one that a test takes
pub neither : (K : Need → Type 0) (b : Bool) (x y : Need) → (K x → ⊥) → (K y → ⊥) → K (cond b x y) → ⊥
neither K true x y p q k = p k
neither K false x y p q k = q k

-- the test of a choice whose second part is ruled out
pub first_taken : (K : Need → Type 0) (b : Bool) (x y : Need) → (K y → ⊥) → K (cond b x y) → (b ≡ true) × K x
first_taken K true x y q k = (refl, k)
first_taken K false x y q k = absurd (q k)

pub second_taken : (K : Need → Type 0) (b : Bool) (x y : Need) → (K x → ⊥) → K (cond b x y) → (b ≡ false) × K y
second_taken K true x y q k = absurd (q k)
second_taken K false x y q k = (refl, k)

-- what is no end by Fuel tells that there is fuel left
pub fuelled : (P : ProgramParts) (d : TaskDecl) (fuel : ℕ) (t : TaskState) (K : Need → Type 0) → (K (End cause.TheVariants.Fuel) → ⊥) → K (need_of P d fuel t)
    → (t.retired ≡ fuel → ⊥) × K (fetch_need P d t (code_at P.code t.pc))
unfolding need_of
fuelled P d fuel t K unspent k =
    let got = second_taken K (t.retired == fuel) (End cause.TheVariants.Fuel) (fetch_need P d t (code_at P.code t.pc)) unspent k in
    let test = got.0 in
    (grind (arith, nat_tests), got.1)

abbrev pub IsAlignedIn : TaskState → Option Instr → Type 0
IsAlignedIn t None = Unit {0}
IsAlignedIn t (Some i) = IsAligned t i

-- neither a jump, a store nor a call of the environment is of a kind that has no such need
pub no_jump : (K : Need → Type 0) (t : TaskState) (target : ℕ) → (K Local → ⊥) → ((c : _) → K (End c) → ⊥) → K (jump_need t target) → ⊥
no_jump K t target local end = neither K (target % 4 == 0) _ _ local (end _)

pub no_load : (K : Need → Type 0) (d : TaskDecl) (t : TaskState) (address : ℕ) (w : Option ℕ) → ((x : _) → K (Load x) → ⊥) → ((c : _) → K (End c) → ⊥)
    → K (load_need d t address w) → ⊥
no_load K d t address None load end = end _
no_load K d t address (Some w) load end = neither K (may_load d t.held w) _ _ (load _) (end _)

pub no_store : (K : Need → Type 0) (d : TaskDecl) (t : TaskState) (whole : Bool) (address : ℕ) (w : Option ℕ) → ((x : _) (y : _) → K (Store x y) → ⊥) → ((c : _) → K (End c) → ⊥)
    → K (store_need d t whole address w) → ⊥
no_store K d t whole address None store end = end _
no_store K d t whole address (Some w) store end = neither K (may_store d t.held w) _ _ (store _ _) (end _)

pub no_call : (K : Need → Type 0) (P : ProgramParts) (t : TaskState) (number lock : ℕ) → ((x : _) → K (Acquire x) → ⊥) → ((x : _) → K (Release x) → ⊥) → ((c : _) → K (End c) → ⊥)
    → K (call_need P t number lock) → ⊥
no_call K P t number lock acquire release end =
    neither K (nat_lt 2 number) _ _ (end _)
    (neither K (number == 0) _ _ (neither K (t.held == 0) _ _ (end _) (end _))
    (neither K (nat_le (length P.locks) lock) _ _ (end _)
    (neither K (number == 1) _ _ (neither K (is_held t.held lock) _ _ (end _) (acquire _)) (neither K (is_held t.held lock) _ _ (release _) (end _)))))

-- a load's instruction is an aligned load, which retires once and keeps what is held
pub record IsLoading (value : ℕ) (t : TaskState) (i : Option Instr) : Type 0 where
  pub aligned : IsAlignedIn t i
  pub retires : (after_load t value i).retired ≡ t.retired + 1
  pub held : (after_load t value i).held ≡ t.held

load_instr : (P : ProgramParts) (d : TaskDecl) (t : TaskState) (value : ℕ) (i : Instr) → IsLoad (instr_need P d t i) → IsLoading value t (Some i)
load_instr P d t value (instr.TheVariants.Lui rd imm) k = absurd k
load_instr P d t value (instr.TheVariants.Auipc rd imm) k = absurd k
load_instr P d t value (instr.TheVariants.Jal rd offset) k = absurd (no_jump IsLoad t (jump_target t offset) (λ x. x) (λ c x. x) k)
load_instr P d t value (instr.TheVariants.Jalr rd base offset) k = absurd (no_jump IsLoad t (register_target t base offset) (λ x. x) (λ c x. x) k)
load_instr P d t value (instr.TheVariants.Branch test a b offset) k =
    absurd (neither IsLoad (taken_of test (value_in t.regs a) (value_in t.regs b)) _ _ (no_jump IsLoad t (jump_target t offset) (λ x. x) (λ c x. x)) (λ x. x) k)
load_instr P d t value (instr.TheVariants.Load width rd base offset) k =
    let test = (first_taken IsLoad (address_of t base offset % size_of width == 0) _ _ (λ x. x) k).0 in
    record { aligned = grind (arith, nat_tests); retires = refl; held = refl }
load_instr P d t value (instr.TheVariants.Store width src base offset) k =
    let address = address_of t base offset in
    absurd (neither IsLoad (address % size_of width == 0) _ _ (no_store IsLoad d t (is_whole width) address (data_at (length P.memory) address) (λ x y z. z) (λ c x. x)) (λ x. x) k)
load_instr P d t value (instr.TheVariants.OpImm op rd a imm) k = absurd k
load_instr P d t value (instr.TheVariants.Op op rd a b) k = absurd k
load_instr P d t value instr.TheVariants.Fence k = absurd k
load_instr P d t value instr.TheVariants.Ecall k =
    absurd (no_call IsLoad P t (slice_index t.regs 17) (slice_index t.regs 10) (λ x y. y) (λ x y. y) (λ c x. x) k)
load_instr P d t value instr.TheVariants.Ebreak k = absurd k

load_word : (P : ProgramParts) (d : TaskDecl) (t : TaskState) (value word : ℕ) (i : Option Instr) → IsLoad (word_need P d t word i) → IsLoading value t i
load_word P d t value word None k = absurd k
load_word P d t value word (Some i) k = load_instr P d t value i k

load_fetched : (P : ProgramParts) (d : TaskDecl) (t : TaskState) (value : ℕ) (word : Option ℕ) → IsLoad (fetch_need P d t word) → IsLoading value t (read_instr word)
load_fetched P d t value None k = absurd k
load_fetched P d t value (Some word) k = load_word P d t value word (decoded word) k

pub load-tells : (P : ProgramParts) (d : TaskDecl) (fuel : ℕ) (t : TaskState) (value : ℕ) → IsLoad (need_of P d fuel t) → IsLoading value t (instr_at P t)
load-tells P d fuel t value k = load_fetched P d t value (code_at P.code t.pc) (fuelled P d fuel t IsLoad (λ x. x) k).1

-- a store's instruction is aligned
store_instr : (P : ProgramParts) (d : TaskDecl) (t : TaskState) (i : Instr) → IsStore (instr_need P d t i) → IsAligned t i
store_instr P d t (instr.TheVariants.Load width rd base offset) k =
    let address = address_of t base offset in
    absurd (neither IsStore (address % size_of width == 0) _ _ (no_load IsStore d t address (data_at (length P.memory) address) (λ x y. y) (λ c x. x)) (λ x. x) k)
store_instr P d t (instr.TheVariants.Store width src base offset) k =
    let test = (first_taken IsStore (address_of t base offset % size_of width == 0) _ _ (λ x. x) k).0 in
    grind (arith, nat_tests)
store_instr P d t _ k = tt

store_word : (P : ProgramParts) (d : TaskDecl) (t : TaskState) (word : ℕ) (i : Option Instr) → IsStore (word_need P d t word i) → IsAlignedIn t i
store_word P d t word None k = tt
store_word P d t word (Some i) k = store_instr P d t i k

store_fetched : (P : ProgramParts) (d : TaskDecl) (t : TaskState) (word : Option ℕ) → IsStore (fetch_need P d t word) → IsAlignedIn t (read_instr word)
store_fetched P d t None k = tt
store_fetched P d t (Some word) k = store_word P d t word (decoded word) k

pub store-tells : (P : ProgramParts) (d : TaskDecl) (fuel : ℕ) (t : TaskState) → IsStore (need_of P d fuel t) → IsAlignedIn t (instr_at P t)
store-tells P d fuel t k = store_fetched P d t (code_at P.code t.pc) (fuelled P d fuel t IsStore (λ x. x) k).1

-- the lock of an ECALL
abbrev pub HasLock : ProgramParts → TaskState → Option Instr → Type 0
HasLock P t (Some instr.TheVariants.Ecall) = slice_index t.regs 10 < length P.locks
HasLock P t _ = Unit {0}

-- an instruction that loads nothing and doesn't end the task retires once, and an ECALL among them has a lock of the program
pub record IsAdvancing (P : ProgramParts) (t : TaskState) (i : Option Instr) : Type 0 where
  pub retires : (after_fetch t i).retired ≡ t.retired + 1
  pub lock : HasLock P t i

call_locks : (P : ProgramParts) (t : TaskState) (number lock : ℕ) → IsAdvance (call_need P t number lock) → lock < length P.locks
call_locks P t number lock k =
    let known = second_taken IsAdvance (nat_lt 2 number) _ _ (λ x. x) k in
    let goes_on = second_taken IsAdvance (number == 0) _ _ (neither IsAdvance (t.held == 0) _ _ (λ x. x) (λ x. x)) known.1 in
    let test = (second_taken IsAdvance (nat_le (length P.locks) lock) _ _ (λ x. x) goes_on.1).0 in
    grind (arith, nat_tests)

call_retires : (t : TaskState) (number lock : ℕ) → (after_call t number lock).retired ≡ t.retired + 1
call_retires t number lock = by_number (number == 1)
  where
    by_number : (b : Bool) → (cond b (with_locks t (bit_or t.held (2 ^ lock))) (with_locks t (bit_xor t.held (2 ^ lock)))).retired ≡ t.retired + 1
    by_number true = refl
    by_number false = refl

advance_instr : (P : ProgramParts) (d : TaskDecl) (t : TaskState) (i : Instr) → IsAdvance (instr_need P d t i) → IsAdvancing P t (Some i)
advance_instr P d t (instr.TheVariants.Lui rd imm) k = record { retires = refl; lock = tt }
advance_instr P d t (instr.TheVariants.Auipc rd imm) k = record { retires = refl; lock = tt }
advance_instr P d t (instr.TheVariants.Jal rd offset) k = record { retires = refl; lock = tt }
advance_instr P d t (instr.TheVariants.Jalr rd base offset) k = record { retires = refl; lock = tt }
advance_instr P d t (instr.TheVariants.Branch test a b offset) k = record { retires = refl; lock = tt }
advance_instr P d t (instr.TheVariants.Load width rd base offset) k =
    let address = address_of t base offset in
    absurd (neither IsAdvance (address % size_of width == 0) _ _ (no_load IsAdvance d t address (data_at (length P.memory) address) (λ x y. y) (λ c x. x)) (λ x. x) k)
advance_instr P d t (instr.TheVariants.Store width src base offset) k = record { retires = refl; lock = tt }
advance_instr P d t (instr.TheVariants.OpImm op rd a imm) k = record { retires = refl; lock = tt }
advance_instr P d t (instr.TheVariants.Op op rd a b) k = record { retires = refl; lock = tt }
advance_instr P d t instr.TheVariants.Fence k = record { retires = refl; lock = tt }
advance_instr P d t instr.TheVariants.Ecall k =
    record { retires = call_retires t (slice_index t.regs 17) (slice_index t.regs 10); lock = call_locks P t (slice_index t.regs 17) (slice_index t.regs 10) k }
advance_instr P d t instr.TheVariants.Ebreak k = absurd k

advance_word : (P : ProgramParts) (d : TaskDecl) (t : TaskState) (word : ℕ) (i : Option Instr) → IsAdvance (word_need P d t word i) → IsAdvancing P t i
advance_word P d t word None k = absurd k
advance_word P d t word (Some i) k = advance_instr P d t i k

advance_fetched : (P : ProgramParts) (d : TaskDecl) (t : TaskState) (word : Option ℕ) → IsAdvance (fetch_need P d t word) → IsAdvancing P t (read_instr word)
advance_fetched P d t None k = absurd k
advance_fetched P d t (Some word) k = advance_word P d t word (decoded word) k

pub advance-tells : (P : ProgramParts) (d : TaskDecl) (fuel : ℕ) (t : TaskState) → IsAdvance (need_of P d fuel t) → IsAdvancing P t (instr_at P t)
advance-tells P d fuel t k = advance_fetched P d t (code_at P.code t.pc) (fuelled P d fuel t IsAdvance (λ x. x) k).1

-- ---- what a need tells of words and locks

data-within : (words address w : ℕ) → data_at words address ≡ Some w → w < words
data-within words address w e = by_test (nat_le 0x10000000 address && nat_lt ((address - 0x10000000) / 4) words) refl e
  where
    by_test : (b : Bool) → (nat_le 0x10000000 address && nat_lt ((address - 0x10000000) / 4) words) ≡ b → cond b (Some ((address - 0x10000000) / 4)) None ≡ Some w → w < words
    by_test true test e = let same : (address - 0x10000000) / 4 ≡ w = cc in grind (arith, nat_tests)
    by_test false test e = cc

jump_tells : (P : ProgramParts) (d : TaskDecl) (t next : TaskState) (target : ℕ) → next.held ≡ t.held → Tells P d t next (jump_need t target)
jump_tells P d t next target same = by_test (target % 4 == 0)
  where
    by_test : (b : Bool) → Tells P d t next (cond b Local (traps t kind.TheVariants.Target target))
    by_test true = same
    by_test false = tt

load_tells : (P : ProgramParts) (d : TaskDecl) (t next : TaskState) (address : ℕ) (w : Option ℕ) → ((v : ℕ) → w ≡ Some v → v < length P.memory)
    → Tells P d t next (load_need d t address w)
load_tells P d t next address None within = tt
load_tells P d t next address (Some v) within = by_test (may_load d t.held v) refl
  where
    by_test : (b : Bool) → may_load d t.held v ≡ b → Tells P d t next (cond b (Load (record { 0 = v })) (traps t kind.TheVariants.Outside address))
    by_test true e = (within v refl, e)
    by_test false e = tt

store_tells : (P : ProgramParts) (d : TaskDecl) (t next : TaskState) (whole : Bool) (address : ℕ) (w : Option ℕ) → ((v : ℕ) → w ≡ Some v → v < length P.memory)
    → next.held ≡ t.held → Tells P d t next (store_need d t whole address w)
store_tells P d t next whole address None within same = tt
store_tells P d t next whole address (Some v) within same = by_test (may_store d t.held v) refl
  where
    by_test : (b : Bool) → may_store d t.held v ≡ b → Tells P d t next (cond b (Store (record { 0 = v }) whole) (traps t kind.TheVariants.Outside address))
    by_test true e = (within v refl, e, same)
    by_test false e = tt

-- the tests of an ECALL, each with what it comes to
call_tells : (P : ProgramParts) (d : TaskDecl) (t : TaskState) (number lock : ℕ) → Tells P d t (after_call t number lock) (call_need P t number lock)
call_tells P d t number lock =
    by_tests (nat_lt 2 number) (number == 0) (t.held == 0) (nat_le (length P.locks) lock) (number == 1) (is_held t.held lock) refl refl
  where
    by_tests : (unknown zero none outside one held : Bool) → nat_le (length P.locks) lock ≡ outside → is_held t.held lock ≡ held
        → Tells P d t (cond one (with_locks t (bit_or t.held (2 ^ lock))) (with_locks t (bit_xor t.held (2 ^ lock))))
        (cond unknown (traps t kind.TheVariants.Call number)
        (cond zero (cond none (End cause.TheVariants.Finished) (traps t kind.TheVariants.HeldEnd (least_held t.held)))
        (cond outside (traps t kind.TheVariants.NoLock lock)
        (cond one (cond held (traps t kind.TheVariants.Held lock) (Acquire (record { 0 = lock })))
        (cond held (Release (record { 0 = lock })) (traps t kind.TheVariants.NotHeld lock))))))
    by_tests true zero none outside one held o h = tt
    by_tests false true true outside one held o h = tt
    by_tests false true false outside one held o h = tt
    by_tests false false none true one held o h = tt
    by_tests false false none false true true o h = tt
    by_tests false false none false true false o h = (grind (arith, nat_tests), h, refl)
    by_tests false false none false false true o h = (grind (arith, nat_tests), h, refl)
    by_tests false false none false false false o h = tt

instr_tells : (P : ProgramParts) (d : TaskDecl) (t : TaskState) (i : Instr) → Tells P d t (after_instr t i) (instr_need P d t i)
instr_tells P d t (instr.TheVariants.Lui rd imm) = refl
instr_tells P d t (instr.TheVariants.Auipc rd imm) = refl
instr_tells P d t (instr.TheVariants.Jal rd offset) = jump_tells P d t (after_instr t (instr.TheVariants.Jal rd offset)) (jump_target t offset) refl
instr_tells P d t (instr.TheVariants.Jalr rd base offset) =
    jump_tells P d t (after_instr t (instr.TheVariants.Jalr rd base offset)) (register_target t base offset) refl
instr_tells P d t (instr.TheVariants.Branch test a b offset) = by_test (taken_of test (value_in t.regs a) (value_in t.regs b))
  where
    by_test : (taken : Bool) → Tells P d t (after_instr t (instr.TheVariants.Branch test a b offset)) (cond taken (jump_need t (jump_target t offset)) Local)
    by_test true = jump_tells P d t (after_instr t (instr.TheVariants.Branch test a b offset)) (jump_target t offset) refl
    by_test false = refl
instr_tells P d t (instr.TheVariants.Load width rd base offset) = by_test (address_of t base offset % size_of width == 0)
  where
    by_test : (b : Bool) → Tells P d t t (cond b (load_need d t (address_of t base offset) (data_at (length P.memory) (address_of t base offset))) (traps t kind.TheVariants.Misaligned (address_of t base offset)))
    by_test true = load_tells P d t t (address_of t base offset) (data_at (length P.memory) (address_of t base offset)) (data-within (length P.memory) (address_of t base offset))
    by_test false = tt
instr_tells P d t (instr.TheVariants.Store width src base offset) = by_test (address_of t base offset % size_of width == 0)
  where
    by_test : (b : Bool) → Tells P d t (after_instr t (instr.TheVariants.Store width src base offset))
        (cond b (store_need d t (is_whole width) (address_of t base offset) (data_at (length P.memory) (address_of t base offset))) (traps t kind.TheVariants.Misaligned (address_of t base offset)))
    by_test true =
        store_tells P d t (after_instr t (instr.TheVariants.Store width src base offset)) (is_whole width) (address_of t base offset) (data_at (length P.memory) (address_of t base offset)) (data-within (length P.memory) (address_of t base offset)) refl
    by_test false = tt
instr_tells P d t (instr.TheVariants.OpImm op rd a imm) = refl
instr_tells P d t (instr.TheVariants.Op op rd a b) = refl
instr_tells P d t instr.TheVariants.Fence = refl
instr_tells P d t instr.TheVariants.Ecall = call_tells P d t (slice_index t.regs 17) (slice_index t.regs 10)
instr_tells P d t instr.TheVariants.Ebreak = tt

word_tells : (P : ProgramParts) (d : TaskDecl) (t : TaskState) (word : ℕ) (i : Option Instr) → Tells P d t (after_fetch t i) (word_need P d t word i)
word_tells P d t word None = tt
word_tells P d t word (Some i) = instr_tells P d t i

fetch_tells : (P : ProgramParts) (d : TaskDecl) (t : TaskState) (word : Option ℕ) → Tells P d t (after_fetch t (read_instr word)) (fetch_need P d t word)
fetch_tells P d t None = tt
fetch_tells P d t (Some word) = word_tells P d t word (decoded word)

-- the word or lock of each need is one that the task may use so
pub need-allowed : (P : ProgramParts) (d : TaskDecl) (fuel : ℕ) (t : TaskState) → Allowed P d t (need_of P d fuel t)
unfolding need_of advanced
need-allowed P d fuel t = by_test (t.retired == fuel)
  where
    by_test : (b : Bool) → Tells P d t (after_fetch t (instr_at P t)) (cond b (End cause.TheVariants.Fuel) (fetch_need P d t (code_at P.code t.pc)))
    by_test true = tt
    by_test false = fetch_tells P d t (code_at P.code t.pc)

-- ---- the same at an instruction that is known

pub advance_lock : (P : ProgramParts) (d : TaskDecl) (fuel : ℕ) (t : TaskState) (i : Instr) → IsAdvance (need_of P d fuel t) → instr_at P t ≡ Some i
    → i ≡ instr.TheVariants.Ecall → slice_index t.regs 10 < length P.locks
advance_lock P d fuel t i k known call =
    let P' : Option Instr → Type 0 = HasLock P t in
    subst P' (known ∙ ap Some call) (advance-tells P d fuel t k).lock

pub advance_retires : (P : ProgramParts) (d : TaskDecl) (fuel : ℕ) (t : TaskState) (i : Instr) → IsAdvance (need_of P d fuel t) → instr_at P t ≡ Some i
    → (after_instr t i).retired ≡ t.retired + 1
advance_retires P d fuel t i k known =
    let F : Option Instr → Type 0 = λ o. (after_fetch t o).retired ≡ t.retired + 1 in
    subst F known (advance-tells P d fuel t k).retires

pub load_retires : (P : ProgramParts) (d : TaskDecl) (fuel : ℕ) (t : TaskState) (value : ℕ) (i : Instr) → IsLoad (need_of P d fuel t) → instr_at P t ≡ Some i
    → IsLoading value t (Some i)
load_retires P d fuel t value i k known = let F : Option Instr → Type 0 = IsLoading value t in subst F known (load-tells P d fuel t value k)

pub store_aligned : (P : ProgramParts) (d : TaskDecl) (fuel : ℕ) (t : TaskState) (i : Instr) → IsStore (need_of P d fuel t) → instr_at P t ≡ Some i → IsAligned t i
store_aligned P d fuel t i k known = let F : Option Instr → Type 0 = IsAlignedIn t in subst F known (store-tells P d fuel t k)

-- a load and an advance have an instruction
pub load_some : (P : ProgramParts) (d : TaskDecl) (fuel : ℕ) (t : TaskState) → IsLoad (need_of P d fuel t) → instr_at P t ≡ None → ⊥
load_some P d fuel t k known =
    let F : Option Instr → Type 0 = λ o. (after_load t 0 o).retired ≡ t.retired + 1 in
    let kept : t.retired ≡ t.retired + 1 = subst F known (load-tells P d fuel t 0 k).retires in
    omega arith

pub advance_some : (P : ProgramParts) (d : TaskDecl) (fuel : ℕ) (t : TaskState) → IsAdvance (need_of P d fuel t) → instr_at P t ≡ None → ⊥
advance_some P d fuel t k known =
    let F : Option Instr → Type 0 = λ o. (after_fetch t o).retired ≡ t.retired + 1 in
    let kept : t.retired ≡ t.retired + 1 = subst F known (advance-tells P d fuel t k).retires in
    omega arith

-- ---- what an instruction needs is never the end by Fuel

jump_unspent : (t : TaskState) (target : ℕ) → EndsByFuel (jump_need t target) → ⊥
jump_unspent t target = neither EndsByFuel (target % 4 == 0) _ _ (λ x. x) (λ x. x)

load_unspent : (d : TaskDecl) (t : TaskState) (address : ℕ) (w : Option ℕ) → EndsByFuel (load_need d t address w) → ⊥
load_unspent d t address None k = k
load_unspent d t address (Some w) k = neither EndsByFuel (may_load d t.held w) _ _ (λ x. x) (λ x. x) k

store_unspent : (d : TaskDecl) (t : TaskState) (whole : Bool) (address : ℕ) (w : Option ℕ) → EndsByFuel (store_need d t whole address w) → ⊥
store_unspent d t whole address None k = k
store_unspent d t whole address (Some w) k = neither EndsByFuel (may_store d t.held w) _ _ (λ x. x) (λ x. x) k

call_unspent : (P : ProgramParts) (t : TaskState) (number lock : ℕ) → EndsByFuel (call_need P t number lock) → ⊥
call_unspent P t number lock =
    neither EndsByFuel (nat_lt 2 number) _ _ (λ x. x)
    (neither EndsByFuel (number == 0) _ _ (neither EndsByFuel (t.held == 0) _ _ (λ x. x) (λ x. x))
    (neither EndsByFuel (nat_le (length P.locks) lock) _ _ (λ x. x)
    (neither EndsByFuel (number == 1) _ _
    (neither EndsByFuel (is_held t.held lock) _ _ (λ x. x) (λ x. x)) (neither EndsByFuel (is_held t.held lock) _ _ (λ x. x) (λ x. x)))))

instr_unspent : (P : ProgramParts) (d : TaskDecl) (t : TaskState) (i : Instr) → EndsByFuel (instr_need P d t i) → ⊥
instr_unspent P d t (instr.TheVariants.Jal rd offset) k = jump_unspent t (jump_target t offset) k
instr_unspent P d t (instr.TheVariants.Jalr rd base offset) k = jump_unspent t (register_target t base offset) k
instr_unspent P d t (instr.TheVariants.Branch test a b offset) k =
    neither EndsByFuel (taken_of test (value_in t.regs a) (value_in t.regs b)) _ _ (jump_unspent t (jump_target t offset)) (λ x. x) k
instr_unspent P d t (instr.TheVariants.Load width rd base offset) k =
    let address = address_of t base offset in
    neither EndsByFuel (address % size_of width == 0) _ _ (load_unspent d t address (data_at (length P.memory) address)) (λ x. x) k
instr_unspent P d t (instr.TheVariants.Store width src base offset) k =
    let address = address_of t base offset in
    neither EndsByFuel (address % size_of width == 0) _ _ (store_unspent d t (is_whole width) address (data_at (length P.memory) address)) (λ x. x) k
instr_unspent P d t instr.TheVariants.Ecall k = call_unspent P t (slice_index t.regs 17) (slice_index t.regs 10) k
instr_unspent P d t _ k = k

word_unspent : (P : ProgramParts) (d : TaskDecl) (t : TaskState) (word : ℕ) (i : Option Instr) → EndsByFuel (word_need P d t word i) → ⊥
word_unspent P d t word None k = k
word_unspent P d t word (Some i) k = instr_unspent P d t i k

fetch_unspent : (P : ProgramParts) (d : TaskDecl) (t : TaskState) (word : Option ℕ) → EndsByFuel (fetch_need P d t word) → ⊥
fetch_unspent P d t None k = k
fetch_unspent P d t (Some word) k = word_unspent P d t word (decoded word) k

-- a task ends by Fuel exactly where it has retired as many instructions as it may
pub need-fuel : (P : ProgramParts) (d : TaskDecl) (fuel : ℕ) (t : TaskState) → EndsByFuel (need_of P d fuel t) ↔ (t.retired ≡ fuel)
unfolding need_of
need-fuel P d fuel t = by_test (t.retired == fuel) refl
  where
    by_test : (b : Bool) → (t.retired == fuel) ≡ b
        → EndsByFuel (cond b (End cause.TheVariants.Fuel) (fetch_need P d t (code_at P.code t.pc))) ↔ (t.retired ≡ fuel)
    by_test true e = let same : t.retired ≡ fuel = grind (arith, nat_tests) in (λ k. same, λ s. tt)
    by_test false e =
        let differ : t.retired ≡ fuel → ⊥ = grind (arith, nat_tests) in
        (λ k. absurd (fetch_unspent P d t (code_at P.code t.pc) k), λ s. absurd (differ s))

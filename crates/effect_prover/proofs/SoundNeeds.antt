-- A task that follows a closed table, all of whose instructions are inside, doesn't come to an end by a trap outside.
use Rattle.std.proofs.Common.{◌≡◌, ℕ, ℤ, ◌%◌, ◌<◌, Bool, true, false, nat_le, nat_lt, ◌==◌, length, slice_index, Option, Some, None, refl, if◌then◌else◌}
use Rattle.std.proofs.lemmas.Bool.{cond_both, eqb-true}
use Rattle.region_table.specs.Program.{ProgramParts}
use Rattle.region_table.specs.declared.declared.TaskDecl.{TaskDecl}
use Rattle.rv_isa.specs.Encoding.{decoded}
use Rattle.rv_isa.specs.Meaning.{taken_of}
use Rattle.rv_isa.specs.Word.{pattern}
use Rattle.rv_isa.specs.Range.{IsSigned}
use Rattle.rv_isa.specs.declared.instr.AluOp.TheVariants.{Add}
use Rattle.rv_isa.specs.declared.instr.Width.{Width}
use Rattle.rv_isa.specs.declared.instr.Instr.{Instr}
use Rattle.rv_isa.specs.declared.instr.Instr.TheVariants.{Jal, Jalr, Branch, Load, Store, Ecall}
use Rattle.rv_core.specs.declared.task.TaskState.{TaskState}
use Rattle.rv_core.specs.declared.task.End as cause
use Rattle.rv_core.specs.declared.task.TrapKind as kind
use Rattle.rv_core.specs.declared.need.Need.{Need}
use Rattle.rv_core.specs.declared.need.Need as need
use Rattle.rv_core.specs.Access.{is_held, least_held, may_load, may_store}
use Rattle.rv_core.specs.Need.{need_of, fetch_need, word_need, instr_need, jump_need, load_need, store_need, call_need, when_aligned, traps, address_of, jump_target}
use Rattle.rv_core.specs.Address.{code_at, data_at, size_of, is_whole}
use Rattle.rv_core.specs.Registers.{value_in}
use Rattle.flat_machine.specs.Laws.{HoldsLess}
use Rattle.flat_machine.proofs.Rights.{may_load-less, may_store-less}
use Rattle.effect_prover.specs.declared.row.Row.{Row}
use Rattle.effect_prover.specs.Range.{Has}
use Rattle.effect_prover.specs.Row.{range_of, IsRow}
use Rattle.effect_prover.specs.Table.{Table}
use Rattle.effect_prover.specs.Inside.{IsAllowed, addresses}
use Rattle.effect_prover.specs.Answer.{IsTame}
use Rattle.effect_prover.proofs.RangeLemmas.{computed_imm-has}
use Rattle.effect_prover.proofs.SuccessorLemmas.{signed-small}
use Rattle.effect_prover.proofs.Follow.{Lies}
use Rattle.effect_prover.proofs.FollowSteps.{Follows, IsSafeTable, IsReached, reached-at}

-- a need isn't the end by a trap outside
abbrev pub IsTameNeed : Need → Type 0
IsTameNeed (need.TheVariants.End by) = IsTame (Some by)
IsTameNeed _ = Unit {0}

load-tame : (d : TaskDecl) (t : TaskState) (held address : ℕ) (o : Option ℕ) → HoldsLess held t.held → IsAllowed (may_load d held) o → IsTameNeed (load_need d t address o)
load-tame d t held address None less allowed = absurd allowed
load-tame d t held address (Some w) less allowed =
    let may = may_load-less d held t.held w less allowed in rw may tt

store-tame : (d : TaskDecl) (t : TaskState) (whole : Bool) (held address : ℕ) (o : Option ℕ) → HoldsLess held t.held → IsAllowed (may_store d held) o
    → IsTameNeed (store_need d t whole address o)
store-tame d t whole held address None less allowed = absurd allowed
store-tame d t whole held address (Some w) less allowed =
    let may = may_store-less d held t.held w less allowed in rw may tt

aligned-tame : (t : TaskState) (width : Width) (address : ℕ) (n : Need) → (address % size_of width ≡ 0 → IsTameNeed n) → IsTameNeed (when_aligned t width address n)
aligned-tame t width address n tame =
    cond_both (address % size_of width == 0) n (traps t kind.TheVariants.Misaligned address) IsTameNeed
    (λ e. tame (eqb-true (address % size_of width) 0 e)) (λ e. tt)

jump-tame : (t : TaskState) (target : ℕ) → IsTameNeed (jump_need t target)
jump-tame t target = cond_both (target % 4 == 0) need.TheVariants.Local (traps t kind.TheVariants.Target target) IsTameNeed (λ e. tt) (λ e. tt)

call-tame : (P : ProgramParts) (t : TaskState) (number lock : ℕ) → IsTameNeed (call_need P t number lock)
call-tame P t number lock = by_tests (nat_lt 2 number) (number == 0) (t.held == 0) (nat_le (length P.locks) lock) (number == 1) (is_held t.held lock)
  where
    by_tests : (a b c d e f : Bool) → IsTameNeed (
        if a then traps t kind.TheVariants.Call number
        else if b then (if c then need.TheVariants.End cause.TheVariants.Finished else traps t kind.TheVariants.HeldEnd (least_held t.held))
        else if d then traps t kind.TheVariants.NoLock lock
        else if e then (if f then traps t kind.TheVariants.Held lock else need.TheVariants.Acquire (record { 0 = lock }))
        else (if f then need.TheVariants.Release (record { 0 = lock }) else traps t kind.TheVariants.NotHeld lock))
    by_tests true b c d e f = tt
    by_tests false true true d e f = tt
    by_tests false true false d e f = tt
    by_tests false false c true e f = tt
    by_tests false false c false true true = tt
    by_tests false false c false true false = tt
    by_tests false false c false false true = tt
    by_tests false false c false false false = tt

-- the address of a load or store lies in the range of its addresses
address-has : (t : TaskState) (row : Row) (base : ℕ) (offset : ℤ) → IsRow row → Lies t.regs t.held row → base < 32 → IsSigned 12 offset → Has (addresses row base offset) (address_of t base offset)
address-has t row base offset hr h within signed' =
    computed_imm-has Add (range_of row base) (pattern offset) (value_in t.regs base) (hr.each base within) (signed-small offset signed') (h.values base within)

instr-tame : (P : ProgramParts) (d : TaskDecl) (table : Table) (t : TaskState) (i : Instr) → IsReached P d table t i → IsTameNeed (instr_need P d t i)
instr-tame P d table t (Jal rd offset) r = jump-tame t (jump_target t offset)
instr-tame P d table t (Jalr rd base offset) r = absurd r.inside
instr-tame P d table t (Branch test a b offset) r =
    cond_both (taken_of test (value_in t.regs a) (value_in t.regs b)) (jump_need t (jump_target t offset)) need.TheVariants.Local IsTameNeed
    (λ e. jump-tame t (jump_target t offset)) (λ e. tt)
instr-tame P d table t (Load width rd base offset) r =
    let address = address_of t base offset in
    let there = data_at (length P.memory) address in
    aligned-tame t width address (load_need d t address there)
    (λ even. load-tame d t r.row.held address there r.lies.locks
    (r.inside address (address-has t r.row base offset r.row_is r.lies r.registers.1 r.fits) even))
instr-tame P d table t (Store width src base offset) r =
    let address = address_of t base offset in
    let there = data_at (length P.memory) address in
    aligned-tame t width address (store_need d t (is_whole width) address there)
    (λ even. store-tame d t (is_whole width) r.row.held address there r.lies.locks
    (r.inside address (address-has t r.row base offset r.row_is r.lies r.registers.1 r.fits.1) even))
instr-tame P d table t Ecall r = call-tame P t (slice_index t.regs 17) (slice_index t.regs 10)
instr-tame P d table t _ r = tt

pub need-tame : (P : ProgramParts) (d : TaskDecl) (table : Table) (fuel : ℕ) (t : TaskState) → IsSafeTable P d table → Follows P table t → IsTameNeed (need_of P d fuel t)
unfolding need_of
need-tame P d table fuel t safe follows =
    cond_both (t.retired == fuel) (need.TheVariants.End cause.TheVariants.Fuel) (fetch_need P d t (code_at P.code t.pc)) IsTameNeed
    (λ e. tt) (λ e. by_word (code_at P.code t.pc) refl)
  where
    by_instr : (word : ℕ) → code_at P.code t.pc ≡ Some word → (o : Option Instr) → decoded word ≡ o → IsTameNeed (word_need P d t word o)
    by_instr word e None is = tt
    by_instr word e (Some i) is = instr-tame P d table t i (reached-at P d table t word i safe follows e is)

    by_word : (o : Option ℕ) → code_at P.code t.pc ≡ o → IsTameNeed (fetch_need P d t o)
    by_word None e = tt
    by_word (Some word) e = by_instr word e (decoded word) refl

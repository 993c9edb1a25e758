-- Where control is settled, a run's next need is that of the task alone.
use Rattle.std.proofs.Common.{◌≡◌, ℕ, ℤ, pos, negsuc, int_lt, zero, suc, ◌+◌, ◌/◌, ◌*◌, ◌%◌, ◌^◌, ◌<◌, Bool, true, false, ◌&&◌, ◌||◌, not, nat_lt, ◌==◌, if◌then◌else◌, List, length, slice_index, slice_index_or, refl, sym, ap, ◌∙◌, subst, arith, ⊎_elim}
use Rattle.std.proofs.lemmas.Bool.{false≢true, eqb-true, le-ltb, or_cases, and_parts}
use Rattle.std.proofs.lemmas.Bool.Decides.{nat_tests}
use Rattle.region_table.specs.Program.{ProgramParts}
use Rattle.region_table.specs.declared.declared.TaskDecl.{TaskDecl}
use Rattle.rv_isa.specs.Meaning.{signed, taken_of}
use Rattle.rv_isa.specs.Word.{pattern}
use Rattle.rv_isa.specs.declared.instr.Cond.{Cond}
use Rattle.rv_isa.specs.declared.instr.Cond.TheVariants.{Eq, Ne, Lt, Ge, Ltu, Geu}
use Rattle.rv_isa.specs.declared.instr.Instr.{Instr}
use Rattle.rv_isa.specs.declared.instr.Instr as instr
use Rattle.rv_core.specs.declared.task.TaskState.{TaskState}
use Rattle.rv_core.specs.declared.task.TrapKind as kind
use Rattle.rv_core.specs.declared.need.Need.{Need}
use Rattle.rv_core.specs.declared.need.Need.TheVariants.{Local}
use Rattle.rv_core.specs.Address.{data_at, is_whole}
use Rattle.rv_core.specs.Registers.{value_in}
use Rattle.rv_core.specs.Need.{instr_need, jump_need, load_need, store_need, call_need, traps, when_aligned, jump_target}
use Rattle.common_outcomes.specs.declared.value.Kind.{Kind}
use Rattle.common_outcomes.specs.declared.value.Kind.TheVariants.{Known, Offset, Varying}
use Rattle.common_outcomes.specs.Values.{is_known, register_kind}
use Rattle.common_outcomes.specs.Alone.{is_settled_call, is_control_settled}
use Rattle.common_outcomes.specs.Agreeing.{DenotesBy, without_registers, AreRegisters}

-- a number that is known is the same in the run
pub known-is : (k : Kind) (n m : ℕ) (base : ℕ → ℕ) → is_known k ≡ true → DenotesBy k n base m → m ≡ n
known-is Known n m base e h = h
known-is (Offset w) n m base e h = absurd (false≢true e)
known-is Varying n m base e h = absurd (false≢true e)

-- a register as instructions read it: x0 is 0
pub read-stands : (kinds : List Kind) (regs run : List ℕ) (base : ℕ → ℕ) (r : ℕ) → AreRegisters kinds regs base run → DenotesBy (register_kind kinds r) (value_in regs r) base (value_in run r)
read-stands kinds regs run base r h = by_test (r == 0)
  where
    by_test : (b : Bool) → DenotesBy (if b then Known else slice_index_or kinds r Known) (if b then 0 else slice_index regs r) base (if b then 0 else slice_index run r)
    by_test true = refl
    by_test false = h.each r

pub read-small : (kinds : List Kind) (regs run : List ℕ) (base : ℕ → ℕ) (r : ℕ) → AreRegisters kinds regs base run → value_in regs r < 2 ^ 32
read-small kinds regs run base r h = by_test (r == 0)
  where
    by_test : (b : Bool) → (if b then 0 else slice_index regs r) < 2 ^ 32
    by_test true = omega arith
    by_test false = h.small r

pub known-register : (kinds : List Kind) (regs run : List ℕ) (base : ℕ → ℕ) (r : ℕ) → AreRegisters kinds regs base run → is_known (register_kind kinds r) ≡ true → value_in run r ≡ value_in regs r
known-register kinds regs run base r h e = known-is (register_kind kinds r) (value_in regs r) (value_in run r) base e (read-stands kinds regs run base r h)

-- no number is below itself
not-below : (z : ℤ) → int_lt z z ≡ false
not-below (pos n) = le-ltb n n (omega arith)
not-below (negsuc n) = le-ltb n n (omega arith)

-- a branch on one register twice
taken-twice : (test : Cond) (n m : ℕ) → taken_of test n n ≡ taken_of test m m
taken-twice test n m = by_test test
  where
    by_test : (c : Cond) → taken_of c n n ≡ taken_of c m m
    by_test Eq = grind (arith, nat_tests)
    by_test Ne = grind (arith, nat_tests)
    by_test Lt = not-below (signed n) ∙ sym (not-below (signed m))
    by_test Ge = ap not (not-below (signed n) ∙ sym (not-below (signed m)))
    by_test Ltu = grind (arith, nat_tests)
    by_test Geu = grind (arith, nat_tests)

-- a call that is neither an acquire nor a release doesn't depend on a0
call-any : (P : ProgramParts) (t : TaskState) (number x y : ℕ) → (number == 1 || number == 2) ≡ false → call_need P t number x ≡ call_need P t number y
call-any P t zero x y e = refl
call-any P t (suc zero) x y e = absurd (false≢true (sym e))
call-any P t (suc (suc zero)) x y e = absurd (false≢true (sym e))
call-any P t (suc (suc (suc n))) x y e =
    let high : nat_lt 2 (suc (suc (suc n))) ≡ true = grind (arith, nat_tests) in
    rw high refl

call-same : (P : ProgramParts) (t : TaskState) (kinds : List Kind) (number x y : ℕ) → is_settled_call kinds number ≡ true → (is_known (register_kind kinds 10) ≡ true → x ≡ y)
    → call_need P t number x ≡ call_need P t number y
call-same P t kinds number x y settled same = by_test (number == 1 || number == 2) refl settled
  where
    by_test : (b : Bool) → (number == 1 || number == 2) ≡ b → (not b || is_known (register_kind kinds 10)) ≡ true → call_need P t number x ≡ call_need P t number y
    by_test true e s = ap (call_need P t number) (same s)
    by_test false e s = call-any P t number x y e

abbrev jump_form : TaskState → ℤ → ℕ → Need
jump_form b offset v = jump_need b ((v + pattern offset) % 2 ^ 32 / 2 * 2)

abbrev branch_form : TaskState → ℤ → Bool → Need
branch_form b offset taken = if taken then jump_need b (jump_target b offset) else Local

pub taken-same : (kinds : List Kind) (base : ℕ → ℕ) (a t : TaskState) (test : Cond) (x y : ℕ) → AreRegisters kinds a.regs base t.regs
    → (x == y || (is_known (register_kind kinds x) && is_known (register_kind kinds y))) ≡ true → taken_of test (value_in t.regs x) (value_in t.regs y) ≡ taken_of test (value_in a.regs x) (value_in a.regs y)
taken-same kinds base a t test x y h s =
    ⊎_elim
    (λ (e : (x == y) ≡ true).
    let same : x ≡ y = eqb-true x y e in
    subst (λ (z : ℕ). taken_of test (value_in t.regs x) (value_in t.regs z) ≡ taken_of test (value_in a.regs x) (value_in a.regs z)) same
    (taken-twice test (value_in t.regs x) (value_in a.regs x)))
    (λ (both : (is_known (register_kind kinds x) && is_known (register_kind kinds y)) ≡ true).
    let parts = and_parts (is_known (register_kind kinds x)) (is_known (register_kind kinds y)) both in
    ap (λ (v : ℕ). taken_of test v (value_in t.regs y)) (known-register kinds a.regs t.regs base x h parts.0)
    ∙ ap (taken_of test (value_in a.regs x)) (known-register kinds a.regs t.regs base y h parts.1))
    (or_cases (x == y) (is_known (register_kind kinds x) && is_known (register_kind kinds y)) s)

pub need-same : (P : ProgramParts) (d : TaskDecl) (kinds : List Kind) (base : ℕ → ℕ) (a t : TaskState) (i : Instr) → without_registers t ≡ without_registers a → AreRegisters kinds a.regs base t.regs
    → is_control_settled kinds a i ≡ true → instr_need P d t i ≡ instr_need P d a i
need-same P d kinds base a t (instr.TheVariants.Jal rd offset) core h s = ap (λ (x : TaskState). jump_need x (jump_target x offset)) core
need-same P d kinds base a t (instr.TheVariants.Jalr rd source offset) core h s =
    ap (λ (x : TaskState). jump_form x offset (value_in t.regs source)) core
    ∙ ap (jump_form (without_registers a) offset) (known-register kinds a.regs t.regs base source h s)
need-same P d kinds base a t (instr.TheVariants.Branch test x y offset) core h s =
    ap (λ (z : TaskState). branch_form z offset (taken_of test (value_in t.regs x) (value_in t.regs y))) core
    ∙ ap (branch_form (without_registers a) offset) (taken-same kinds base a t test x y h s)
need-same P d kinds base a t (instr.TheVariants.Load width rd source offset) core h s =
    ap (λ (z : TaskState). form z (value_in t.regs source)) core ∙ ap (form (without_registers a)) (known-register kinds a.regs t.regs base source h s)
  where
    form : TaskState → ℕ → Need
    form b v = when_aligned b width ((v + pattern offset) % 2 ^ 32) (load_need d b ((v + pattern offset) % 2 ^ 32) (data_at (length P.memory) ((v + pattern offset) % 2 ^ 32)))
need-same P d kinds base a t (instr.TheVariants.Store width src source offset) core h s =
    ap (λ (z : TaskState). form z (value_in t.regs source)) core ∙ ap (form (without_registers a)) (known-register kinds a.regs t.regs base source h s)
  where
    form : TaskState → ℕ → Need
    form b v = when_aligned b width ((v + pattern offset) % 2 ^ 32) (store_need d b (is_whole width) ((v + pattern offset) % 2 ^ 32) (data_at (length P.memory) ((v + pattern offset) % 2 ^ 32)))
need-same P d kinds base a t instr.TheVariants.Ebreak core h s = ap (λ (z : TaskState). traps z kind.TheVariants.Break 0) core
need-same P d kinds base a t instr.TheVariants.Ecall core h s =
    let parts = and_parts (is_known (register_kind kinds 17)) (is_settled_call kinds (slice_index a.regs 17)) s in
    ap (λ (z : TaskState). call_need P z (slice_index t.regs 17) (slice_index t.regs 10)) core
    ∙ ap (λ (n : ℕ). call_need P (without_registers a) n (slice_index t.regs 10)) (known-register kinds a.regs t.regs base 17 h parts.0)
    ∙ call-same P (without_registers a) kinds (slice_index a.regs 17) (slice_index t.regs 10) (slice_index a.regs 10) parts.1 (λ e. known-register kinds a.regs t.regs base 10 h e)
need-same P d kinds base a t _ core h s = refl

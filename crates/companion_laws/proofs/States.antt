-- In a run of the flat machine registers and data words stay numbers of 32 bits, tasks are the program's, and none retires more
-- instructions than it may.
use Rattle.std.proofs.Common.{◌≡◌, ℕ, zero, suc, ◌+◌, ◌*◌, ◌%◌, ◌^◌, ◌<◌, ◌≤◌, ◌==◌, List, length, replicate, slice_index, slice_set, slice_get, Option, Some, None, refl, ap, ◌∙◌, arith, bit_or, bit_xor}
use Rattle.std.specs.List.{IsAmong}
use Rattle.std.proofs.lemmas.Bool.{cond_both}
use Rattle.std.proofs.lemmas.List.{length-set}
use Rattle.std.proofs.lemmas.Nat.{mod_below}
use Rattle.dn_base.specs.declared.ids.Grant.{Grant}
use Rattle.region_table.specs.declared.declared.TaskDecl.{TaskDecl}
use Rattle.region_table.specs.declared.declared.Phase.{Phase}
use Rattle.region_table.specs.Program.{ProgramParts}
use Rattle.rv_isa.specs.Encoding.{decoded}
use Rattle.rv_isa.specs.Meaning.{alu_of}
use Rattle.rv_isa.specs.Range.{IsEncodable}
use Rattle.rv_isa.specs.Table.{is_shift}
use Rattle.rv_isa.specs.Word.{pattern}
use Rattle.rv_isa.specs.declared.instr.Instr.{Instr}
use Rattle.rv_isa.specs.declared.instr.Instr.TheVariants.{Lui, Auipc, Jal, Jalr, Branch, Load, Store, OpImm, Op, Fence, Ecall, Ebreak}
use Rattle.rv_isa.specs.declared.instr.Width.{Width}
use Rattle.rv_isa.specs.declared.instr.Width as width
use Rattle.rv_isa.proofs.EncodingLemmas.{Fits-row}
use Rattle.rv_isa.proofs.RowLemmas.{decoded-row}
use Rattle.rv_core.specs.declared.task.TaskState.{TaskState}
use Rattle.rv_core.specs.declared.task.End.{End}
use Rattle.rv_core.specs.declared.task.End as cause
use Rattle.rv_core.specs.declared.need.Need.{Need}
use Rattle.rv_core.specs.declared.need.Need as need
use Rattle.rv_core.specs.Address.{code_at, extended}
use Rattle.rv_core.specs.Kinds.{IsAdvance}
use Rattle.rv_core.specs.Need.{need_of, address_of}
use Rattle.rv_core.specs.Registers.{value_in, with_value}
use Rattle.rv_core.specs.Step.{read_instr, instr_at, with_locks, after_call, after_instr, after_fetch, advanced, after_load, loaded_of, after_store, merged_of}
use Rattle.rv_core.specs.Task.{stopped}
use Rattle.rv_core.proofs.Completions.{fuel-left}
use Rattle.flat_machine.specs.Step.{Started, At, wish, wish_unless, in_state, step_by, flat_step, WantsLock}
use Rattle.flat_machine.specs.Phases.{Flat}
use Rattle.flat_machine.specs.Grants.{so_far}
use Rattle.flat_machine.proofs.CauseLemmas.{acquire-advances}
use Rattle.flat_machine.proofs.KeptLaws.{StepsKeep, AllHave, run-kept}
use Rattle.flat_machine.proofs.Rest.{IsOneMore, advanced-more, loaded-more}
use Rattle.flat_machine.proofs.Rights.{wish-need}
use Rattle.effect_prover.proofs.FollowWords.{AreBelow, set-below, extended-has, replaced-small}
use Rattle.effect_prover.proofs.RangeLemmas.{alu-small}
use Rattle.effect_prover.proofs.SuccessorLemmas.{operand-small}

-- ---- registers

zeros-small : (n i : ℕ) → slice_index (replicate n 0) i < 2 ^ 32
zeros-small zero i = omega arith
zeros-small (suc n) zero = omega arith
zeros-small (suc n) (suc i) = zeros-small n i

value-small : (regs : List ℕ) (r : ℕ) → AreBelow (2 ^ 32) regs → value_in regs r < 2 ^ 32
value-small regs r h = cond_both (r == 0) 0 (slice_index regs r) (λ (n : ℕ). n < 2 ^ 32) (λ e. omega arith) (λ e. h r)

written-small : (regs : List ℕ) (rd value : ℕ) → AreBelow (2 ^ 32) regs → value < 2 ^ 32 → AreBelow (2 ^ 32) (with_value regs rd value)
written-small regs rd value h small =
    cond_both (rd == 0) regs (slice_set regs rd value) (AreBelow (2 ^ 32)) (λ e. h) (λ e. set-below (2 ^ 32) regs rd value h small)

wraps : (n : ℕ) → n % 2 ^ 32 < 2 ^ 32
wraps n = mod_below n (2 ^ 32) (omega arith)

-- a call of the environment writes no register
called-small : (t : TaskState) (number lock : ℕ) → AreBelow (2 ^ 32) t.regs → AreBelow (2 ^ 32) (after_call t number lock).regs
called-small t number lock h =
    cond_both (number == 1) (with_locks t (bit_or t.held (2 ^ lock))) (with_locks t (bit_xor t.held (2 ^ lock))) (λ (x : TaskState). AreBelow (2 ^ 32) x.regs) (λ e. h) (λ e. h)

after-small : (t : TaskState) (i : Instr) → AreBelow (2 ^ 32) t.regs → IsEncodable i → AreBelow (2 ^ 32) (after_instr t i).regs
after-small t (Lui rd imm) h fits = written-small t.regs rd (imm * 4096 % 2 ^ 32) h (wraps (imm * 4096))
after-small t (Auipc rd imm) h fits = written-small t.regs rd ((t.pc + imm * 4096) % 2 ^ 32) h (wraps (t.pc + imm * 4096))
after-small t (Jal rd offset) h fits = written-small t.regs rd ((t.pc + 4) % 2 ^ 32) h (wraps (t.pc + 4))
after-small t (Jalr rd base offset) h fits = written-small t.regs rd ((t.pc + 4) % 2 ^ 32) h (wraps (t.pc + 4))
after-small t (Branch test a b offset) h fits = h
after-small t (Load w rd base offset) h fits = h
after-small t (Store w src base offset) h fits = h
after-small t (OpImm op rd a imm) h fits =
    written-small t.regs rd (alu_of op (value_in t.regs a) (pattern imm)) h
    (alu-small op (value_in t.regs a) (pattern imm) (value-small t.regs a h) (operand-small (is_shift op) imm fits.1))
after-small t (Op op rd a b) h fits =
    written-small t.regs rd (alu_of op (value_in t.regs a) (value_in t.regs b)) h
    (alu-small op (value_in t.regs a) (value_in t.regs b) (value-small t.regs a h) (value-small t.regs b h))
after-small t Fence h fits = h
after-small t Ecall h fits = called-small t (slice_index t.regs 17) (slice_index t.regs 10) h
after-small t Ebreak h fits = h

advanced-small : (P : ProgramParts) (t : TaskState) → AreBelow (2 ^ 32) t.regs → AreBelow (2 ^ 32) (advanced P t).regs
unfolding advanced
advanced-small P t h = by_word (code_at P.code t.pc) where
  by_instr : (word : ℕ) (o : Option Instr) → decoded word ≡ o → AreBelow (2 ^ 32) (after_fetch t o).regs
  by_instr word None is = h
  by_instr word (Some i) is = after-small t i h (Fits-row i word (decoded-row word i is))

  by_word : (o : Option ℕ) → AreBelow (2 ^ 32) (after_fetch t (read_instr o)).regs
  by_word None = h
  by_word (Some word) = by_instr word (decoded word) refl

extended-small : (w : Width) (word lane : ℕ) → word < 2 ^ 32 → extended w word lane < 2 ^ 32
extended-small width.TheVariants.B word lane h = let has = extended-has width.TheVariants.B word lane h in omega (arith, has.high)
extended-small width.TheVariants.H word lane h = let has = extended-has width.TheVariants.H word lane h in omega (arith, has.high)
extended-small width.TheVariants.W word lane h = h
extended-small width.TheVariants.Bu word lane h = let has = extended-has width.TheVariants.Bu word lane h in omega (arith, has.high)
extended-small width.TheVariants.Hu word lane h = let has = extended-has width.TheVariants.Hu word lane h in omega (arith, has.high)

loaded-small : (P : ProgramParts) (value : ℕ) (t : TaskState) → AreBelow (2 ^ 32) t.regs → value < 2 ^ 32 → AreBelow (2 ^ 32) (loaded_of P value t).regs
unfolding loaded_of
loaded-small P value t h small = by_instr (instr_at P t) where
  by_instr : (o : Option Instr) → AreBelow (2 ^ 32) (after_load t value o).regs
  by_instr None = h
  by_instr (Some (Load w rd base offset)) =
      written-small t.regs rd (extended w value (address_of t base offset % 4)) h (extended-small w value (address_of t base offset % 4) small)
  by_instr (Some _) = h

-- ---- the word that is stored

merged-small : (P : ProgramParts) (old : ℕ) (t : TaskState) → AreBelow (2 ^ 32) t.regs → old < 2 ^ 32 → merged_of P old t < 2 ^ 32
unfolding merged_of
merged-small P old t h small = by_instr (instr_at P t) where
  by_instr : (o : Option Instr) → after_store t old o < 2 ^ 32
  by_instr None = small
  by_instr (Some (Store w src base offset)) = replaced-small w old (address_of t base offset % 4) (value_in t.regs src) small (value-small t.regs src h)
  by_instr (Some _) = small

-- ---- a task and the memory

pub record IsOfProgram (P : ProgramParts) (fuel : ℕ) (r : Started) : Type 0 where
  pub phase : Phase
  pub there : slice_get P.phases r.phase.0 ≡ Some phase
  pub among : IsAmong phase.tasks r.decl
  pub registers : AreBelow (2 ^ 32) r.state.regs
  pub retired : r.state.retired ≤ fuel

pub record IsMemoryOf (P : ProgramParts) (memory : List ℕ) : Type 0 where
  pub words : length memory ≡ length P.memory
  pub small : AreBelow (2 ^ 32) memory

-- the same task in another state
moved : (P : ProgramParts) (fuel : ℕ) (r : Started) (t : TaskState) → IsOfProgram P fuel r → AreBelow (2 ^ 32) t.regs → t.retired ≤ fuel → IsOfProgram P fuel (in_state r t)
moved P fuel r t h regs few = record { phase = h.phase; there = h.there; among = h.among; registers = regs; retired = few }

one-more : (fuel : ℕ) (t u : TaskState) → t.retired ≤ fuel → IsOneMore fuel t u → u.retired ≤ fuel
one-more fuel t u few more = let apart = more.unspent in let one = more.retired in omega arith

advances : (P : ProgramParts) (fuel : ℕ) (r : Started) (n : Need) → IsOfProgram P fuel r → IsAdvance n → wish P fuel r ≡ Some n → IsOfProgram P fuel (in_state r (advanced P r.state))
advances P fuel r n h k e =
    moved P fuel r (advanced P r.state) h (advanced-small P r.state h.registers) (one-more fuel r.state (advanced P r.state) h.retired (advanced-more P fuel r n k e))

stops : (P : ProgramParts) (fuel : ℕ) (r : Started) (by : End) → IsOfProgram P fuel r → need_of P r.decl fuel r.state ≡ need.TheVariants.End by → IsOfProgram P fuel (in_state r (stopped by r.state))
stops P fuel r cause.TheVariants.Finished h is =
    moved P fuel r (stopped cause.TheVariants.Finished r.state) h h.registers
    (fuel-left P r.decl fuel r.state (need.TheVariants.End cause.TheVariants.Finished) is (λ x. x) h.retired)
stops P fuel r cause.TheVariants.Fuel h is = moved P fuel r (stopped cause.TheVariants.Fuel r.state) h h.registers h.retired
stops P fuel r (cause.TheVariants.Trap kind pc value) h is = moved P fuel r (stopped (cause.TheVariants.Trap kind pc value) r.state) h h.registers h.retired

step-kept : (P : ProgramParts) (fuel : ℕ) (s : At) → IsOfProgram P fuel s.task → IsMemoryOf P s.memory → IsOfProgram P fuel (flat_step P fuel s).task × IsMemoryOf P (flat_step P fuel s).memory
step-kept P fuel s h m = by_wish (wish P fuel s.task) refl
  where
    by_wish : (o : Option Need) → wish P fuel s.task ≡ o → IsOfProgram P fuel (step_by P s o).task × IsMemoryOf P (step_by P s o).memory
    by_wish None e = (h, m)
    by_wish (Some need.TheVariants.Local) e = (advances P fuel s.task need.TheVariants.Local h tt e, m)
    by_wish (Some (need.TheVariants.Load word)) e =
        let value = slice_index s.memory word.0 in
        let t = loaded_of P value s.task.state in
        let more = loaded-more P fuel s.task value (need.TheVariants.Load word) tt e in (
          record {
            phase = h.phase;
            there = h.there;
            among = h.among;
            registers = loaded-small P value s.task.state h.registers (m.small word.0);
            retired = one-more fuel s.task.state t h.retired more;
          },
          m,
        )
    by_wish (Some (need.TheVariants.Store word whole)) e =
        let old = slice_index s.memory word.0 in
        let value = merged_of P old s.task.state in (
          advances P fuel s.task (need.TheVariants.Store word whole) h tt e,
          record {
            words = length-set s.memory word.0 value ∙ m.words;
            small = set-below (2 ^ 32) s.memory word.0 value m.small (merged-small P old s.task.state h.registers (m.small word.0));
          },
        )
    by_wish (Some (need.TheVariants.Acquire lock)) e = (h, m)
    by_wish (Some (need.TheVariants.Release lock)) e = (advances P fuel s.task (need.TheVariants.Release lock) h tt e, m)
    by_wish (Some (need.TheVariants.End by)) e = (stops P fuel s.task by h (wish-need P fuel s.task (need.TheVariants.End by) e), m)

acquired : (P : ProgramParts) (fuel : ℕ) (r : Started) → WantsLock P fuel r → IsOfProgram P fuel r → IsOfProgram P fuel (in_state r (advanced P r.state))
acquired P fuel r waits h =
    let n : Need = need_of P r.decl fuel r.state in
    let wanted : wish P fuel r ≡ Some n = ap (wish_unless P fuel r) waits.open' in
    advances P fuel r n h (acquire-advances n waits.wants) wanted

-- the arguments of the program's tasks have 32 bits
abbrev pub HasArguments : ProgramParts → Type 0
HasArguments P = (k : ℕ) (p : Phase) (d : TaskDecl) → slice_get P.phases k ≡ Some p → IsAmong p.tasks d → d.arg < 2 ^ 32

pub run-of-program : (P : ProgramParts) (fuel : ℕ) → AreBelow (2 ^ 32) P.memory → HasArguments P → (gs : List Grant) (F : Flat) → so_far P fuel gs ≡ Some F
    → AllHave (IsOfProgram P fuel) (IsMemoryOf P) F
run-of-program P fuel small arguments gs F e =
    let keeps : StepsKeep P fuel (IsOfProgram P fuel) (IsMemoryOf P) = record {
      memory = record { words = refl; small = small };
      starts = λ k p d there among. record {
        phase = p;
        there = there;
        among = among;
        registers = set-below (2 ^ 32) (replicate 32 0) 10 d.arg (zeros-small 32) (arguments k p d there among);
        retired = omega arith;
      };
      steps = step-kept P fuel;
      acquires = acquired P fuel;
    } in
    run-kept P fuel (IsOfProgram P fuel) (IsMemoryOf P) keeps gs F e

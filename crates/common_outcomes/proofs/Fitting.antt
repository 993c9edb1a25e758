-- A step of the run and of the task alone keeps that the task of the run is where the task alone is.
use Rattle.std.proofs.Common.{◌≡◌, ℕ, zero, suc, ◌^◌, ◌<◌, Bool, true, false, ◌||◌, ◌==◌, if◌then◌else◌, List, [], ◌∷◌, slice_index, slice_index_or, slice_set, Option, Some, None, refl, sym, ap, ◌∙◌, subst, arith, bit_or, bit_xor}
use Rattle.std.proofs.lemmas.Bool.{eqb-true}
use Rattle.std.proofs.lemmas.Option.{none-some}
use Rattle.region_table.specs.Program.{ProgramParts}
use Rattle.region_table.specs.declared.declared.TaskDecl.{TaskDecl}
use Rattle.rv_isa.specs.Encoding.{decoded}
use Rattle.rv_isa.specs.Table.{is_shift}
use Rattle.rv_isa.specs.declared.instr.AluOp.{AluOp}
use Rattle.rv_isa.specs.declared.instr.Width.{Width}
use Rattle.rv_isa.specs.declared.instr.Width as width
use Rattle.rv_isa.specs.declared.instr.Instr.{Instr}
use Rattle.rv_isa.specs.declared.instr.Instr.TheVariants.{Lui, Auipc, Jal, Jalr, Load, OpImm, Op, Ecall}
use Rattle.rv_isa.proofs.EncodingLemmas.{Fits-row}
use Rattle.rv_isa.proofs.RowLemmas.{decoded-row}
use Rattle.rv_core.specs.declared.task.TaskState.{TaskState}
use Rattle.rv_core.specs.declared.task.End as cause
use Rattle.rv_core.specs.declared.need.Need.{Need}
use Rattle.rv_core.specs.declared.need.Need as need
use Rattle.rv_core.specs.Access.{may_store}
use Rattle.rv_core.specs.Address.{code_at}
use Rattle.rv_core.specs.Kinds.{Allowed}
use Rattle.rv_core.specs.Next.{instr_within}
use Rattle.rv_core.specs.Need.{need_of, fetch_need, word_need, instr_need}
use Rattle.rv_core.specs.Step.{read_instr, instr_at, with_locks, after_instr, after_fetch, advanced}
use Rattle.rv_core.proofs.Needs.{fuelled, no_call, need-allowed}
use Rattle.flat_machine.specs.Step.{Started, in_state}
use Rattle.effect_prover.proofs.SuccessorLemmas.{operand-small}
use Rattle.common_outcomes.specs.declared.value.Kind.{Kind}
use Rattle.common_outcomes.specs.declared.value.Kind.TheVariants.{Known, Offset, Varying}
use Rattle.common_outcomes.specs.declared.value.Value.{Value}
use Rattle.common_outcomes.specs.Values.{is_add, is_sub, alu_kind, register_kind, with_kind, kinds_after, kinds_fetched, kinds_loaded, part_kind}
use Rattle.common_outcomes.specs.Alone.{unstored, or_unstored, Setup, Alone, is_settled_if, is_settled_next, cell_at, is_shared, value_at_start, seen, go_on_alone}
use Rattle.common_outcomes.specs.Agreeing.{IsBetween, Denotes, without_registers, AreRegisters, IsInSection, IsOfSection, IsStored, IsOfWord, IsOfSharedWord, FitsAlone}
use Rattle.common_outcomes.proofs.Deciding.{need-same}
use Rattle.common_outcomes.proofs.Stepping.{KnowsLock, HasImmediate, after-same, after-registers}

-- ---- the next need

fetched-same : (P : ProgramParts) (d : TaskDecl) (kinds : List Kind) (base : ℕ → ℕ) (a t : TaskState) (o : Option ℕ) → without_registers t ≡ without_registers a → AreRegisters kinds a.regs base t.regs
    → is_settled_if kinds a (read_instr o) ≡ true → fetch_need P d t o ≡ fetch_need P d a o
fetched-same P d kinds base a t None core h s = ap (λ (x : TaskState). fetch_need P d x None) core
fetched-same P d kinds base a t (Some word) core h s = by_instr (decoded word) s
  where
    by_instr : (i : Option Instr) → is_settled_if kinds a i ≡ true → word_need P d t word i ≡ word_need P d a word i
    by_instr None s = ap (λ (x : TaskState). word_need P d x word None) core
    by_instr (Some i) s = need-same P d kinds base a t i core h s

-- where control is settled, the run needs what the task alone needs
pub next-need : (P : ProgramParts) (d : TaskDecl) (fuel : ℕ) (kinds : List Kind) (base : ℕ → ℕ) (a t : TaskState) → without_registers t ≡ without_registers a → AreRegisters kinds a.regs base t.regs
    → is_settled_if kinds a (instr_within P fuel a) ≡ true → need_of P d fuel t ≡ need_of P d fuel a
unfolding need_of
next-need P d fuel kinds base a t core h s =
    ap (λ (x : TaskState). if x.retired == fuel then need.TheVariants.End cause.TheVariants.Fuel else fetch_need P d t (code_at P.code x.pc)) core
    ∙ by_test (a.retired == fuel) s
  where
    by_test : (b : Bool) → is_settled_if kinds a (if b then None else instr_at P a) ≡ true
        → (if b then need.TheVariants.End cause.TheVariants.Fuel else fetch_need P d t (code_at P.code a.pc)) ≡ (if b then need.TheVariants.End cause.TheVariants.Fuel else fetch_need P d a (code_at P.code a.pc))
    by_test true s = refl
    by_test false s = fetched-same P d kinds base a t (code_at P.code a.pc) core h s

-- where the need isn't the end by Fuel, control is settled at the next instruction
pub settled-at : (P : ProgramParts) (fuel : ℕ) (kinds : List Kind) (a : TaskState) → (a.retired ≡ fuel → ⊥) → is_settled_if kinds a (instr_within P fuel a) ≡ true → is_settled_if kinds a (instr_at P a) ≡ true
settled-at P fuel kinds a left s = by_test (a.retired == fuel) refl s
  where
    by_test : (b : Bool) → (a.retired == fuel) ≡ b → is_settled_if kinds a (if b then None else instr_at P a) ≡ true → is_settled_if kinds a (instr_at P a) ≡ true
    by_test true e s = absurd (left (eqb-true a.retired fuel e))
    by_test false e s = s

-- ---- what is known of registers holds of offsets that were there before

alu-keeps : (Q : Kind → Type 0) (op : AluOp) (k j : Kind) → Q Known → Q Varying → Q k → Q j → Q (alu_kind op k j)
alu-keeps Q op Known Known c v a b = c
alu-keeps Q op Known (Offset w) c v a b = by_test (is_add op)
  where
    by_test : (t : Bool) → Q (if t then Offset w else Varying)
    by_test true = b
    by_test false = v
alu-keeps Q op Known Varying c v a b = v
alu-keeps Q op (Offset w) Known c v a b = by_test (is_add op || is_sub op)
  where
    by_test : (t : Bool) → Q (if t then Offset w else Varying)
    by_test true = a
    by_test false = v
alu-keeps Q op (Offset w) (Offset u) c v a b = v
alu-keeps Q op (Offset w) Varying c v a b = v
alu-keeps Q op Varying j c v a b = v

set-keeps : (Q : Kind → Type 0) (ks : List Kind) (k : Kind) → ((r : ℕ) → Q (slice_index_or ks r Known)) → Q k → (rd r : ℕ) → Q (slice_index_or (slice_set ks rd k) r Known)
set-keeps Q [] k h new rd r = h r
set-keeps Q (c ∷ ks) k h new zero zero = new
set-keeps Q (c ∷ ks) k h new zero (suc r) = h (suc r)
set-keeps Q (c ∷ ks) k h new (suc rd) zero = h zero
set-keeps Q (c ∷ ks) k h new (suc rd) (suc r) = set-keeps Q ks k (λ (q : ℕ). h (suc q)) new rd r

-- each register's kind
abbrev pub EachKind : (Kind → Type 0) → List Kind → Type 0
EachKind Q kinds = (r : ℕ) → Q (slice_index_or kinds r Known)

pub read-kind : (Q : Kind → Type 0) (kinds : List Kind) (r : ℕ) → Q Known → EachKind Q kinds → Q (register_kind kinds r)
read-kind Q kinds r c h = by_test (r == 0)
  where
    by_test : (b : Bool) → Q (if b then Known else slice_index_or kinds r Known)
    by_test true = c
    by_test false = h r

pub write-kind : (Q : Kind → Type 0) (kinds : List Kind) (rd : ℕ) (k : Kind) → EachKind Q kinds → Q k → EachKind Q (with_kind kinds rd k)
write-kind Q kinds rd k h new = by_test (rd == 0)
  where
    by_test : (b : Bool) → EachKind Q (if b then kinds else slice_set kinds rd k)
    by_test true = h
    by_test false = set-keeps Q kinds k h new rd

pub after-kinds : (Q : Kind → Type 0) (kinds : List Kind) (i : Instr) → Q Known → Q Varying → EachKind Q kinds → EachKind Q (kinds_after kinds i)
after-kinds Q kinds (Lui rd imm) c v h = write-kind Q kinds rd Known h c
after-kinds Q kinds (Auipc rd imm) c v h = write-kind Q kinds rd Known h c
after-kinds Q kinds (Jal rd offset) c v h = write-kind Q kinds rd Known h c
after-kinds Q kinds (Jalr rd source offset) c v h = write-kind Q kinds rd Known h c
after-kinds Q kinds (OpImm op rd x imm) c v h = write-kind Q kinds rd _ h (alu-keeps Q op (register_kind kinds x) Known c v (read-kind Q kinds x c h) c)
after-kinds Q kinds (Op op rd x y) c v h =
    write-kind Q kinds rd _ h (alu-keeps Q op (register_kind kinds x) (register_kind kinds y) c v (read-kind Q kinds x c h) (read-kind Q kinds y c h))
after-kinds Q kinds _ c v h = h

-- ---- Local

-- what a Local instruction tells: it isn't a call, and its immediate has 32 bits
local-knows : (P : ProgramParts) (d : TaskDecl) (kinds : List Kind) (a : TaskState) (i : Instr) → instr_need P d a i ≡ need.TheVariants.Local → KnowsLock kinds i
local-knows P d kinds a Ecall e =
    absurd (no_call (λ (n : Need). n ≡ need.TheVariants.Local) P a (slice_index a.regs 17) (slice_index a.regs 10) (λ x f. cc) (λ x f. cc) (λ x f. cc) e)
local-knows P d kinds a _ e = tt

has-immediate : (word : ℕ) (i : Instr) → decoded word ≡ Some i → HasImmediate i
has-immediate word (OpImm op rd x imm) e =
    let f = Fits-row (OpImm op rd x imm) word (decoded-row word (OpImm op rd x imm) e) in
    operand-small (is_shift op) imm f.1
has-immediate word _ e = tt

ends-same : (t : TaskState) (i : Instr) → (after_instr t i).end ≡ t.end
ends-same t Ecall = by_test (slice_index t.regs 17 == 1)
  where
    by_test : (c : Bool) → (if c then with_locks t (bit_or t.held (2 ^ slice_index t.regs 10)) else with_locks t (bit_xor t.held (2 ^ slice_index t.regs 10))).end ≡ t.end
    by_test true = refl
    by_test false = refl
ends-same t _ = refl

pub imm-at : (P : ProgramParts) (a : TaskState) (i : Instr) → instr_at P a ≡ Some i → HasImmediate i
imm-at P a i e = by_word (code_at P.code a.pc) e
  where
    by_word : (o : Option ℕ) → read_instr o ≡ Some i → HasImmediate i
    by_word None e = absurd (none-some i e)
    by_word (Some word) e = has-immediate word i e

pub record GoesBy (Q : Kind → Type 0) (kinds : List Kind) (base : ℕ → ℕ) (a t : TaskState) (o : Option Instr) : Type 0 where
  pub same : without_registers (after_fetch t o) ≡ without_registers (after_fetch a o)
  pub registers : AreRegisters (kinds_fetched kinds o) (after_fetch a o).regs base (after_fetch t o).regs
  pub ended : (after_fetch a o).end ≡ a.end
  pub keeps : EachKind Q (kinds_fetched kinds o)

-- an instruction that loads nothing, in the run and alone
pub goes : (P : ProgramParts) (Q : Kind → Type 0) (kinds : List Kind) (base : ℕ → ℕ) (a t : TaskState) → without_registers t ≡ without_registers a → AreRegisters kinds a.regs base t.regs
    → is_settled_if kinds a (instr_at P a) ≡ true → ((i : Instr) → instr_at P a ≡ Some i → KnowsLock kinds i)
    → Q Known → Q Varying → EachKind Q kinds → GoesBy Q kinds base a t (instr_at P a)
goes P Q kinds base a t core h s knows c v k = by_instr (instr_at P a) refl s
  where
    by_instr : (o : Option Instr) → instr_at P a ≡ o → is_settled_if kinds a o ≡ true → GoesBy Q kinds base a t o
    by_instr None e s = record { same = core; registers = h; ended = refl; keeps = k }
    by_instr (Some i) e s =
        record {
          same = after-same kinds base a t i core h s (knows i e);
          registers = after-registers kinds base a t i core h (imm-at P a i e);
          ended = ends-same a i;
          keeps = after-kinds Q kinds i c v k;
        }

-- the same instruction in the run
pub at-same : (P : ProgramParts) (a t : TaskState) → without_registers t ≡ without_registers a → instr_at P t ≡ instr_at P a
at-same P a t core = ap (λ (x : TaskState). read_instr (code_at P.code x.pc)) core

pub stored-moved : (S : Setup) (base : ℕ → ℕ) (s new : TaskState) (m : List ℕ) (w : ℕ) (v : Value) → new.held ≡ s.held → new.end ≡ s.end → IsStored S base s m w v → IsStored S base new m w v
stored-moved S base s new m w v held ended h =
    record {
      may = λ e. subst (λ (x : ℕ). may_store S.decl x w ≡ true) (sym held) (h.may e);
      writes = h.writes;
      runs = ended ∙ h.runs;
      own = h.own;
      shared = h.shared;
      stands = h.stands;
      small = h.small;
    }

-- the task goes on, and no word is stored
pub moved : (S : Setup) (base : ℕ → ℕ) (a : Alone) (r : Started) (m : List ℕ) (s t : TaskState) (kinds : List Kind) (q : Started) → FitsAlone S base a r m → q.decl ≡ r.decl → q.state ≡ t → without_registers t ≡ without_registers s
    → AreRegisters kinds s.regs base t.regs → s.held ≡ a.state.held → s.end ≡ a.state.end → EachKind (IsOfSection S a.state.held) kinds → FitsAlone S base (record a { state = s; kinds = kinds }) q m
moved S base a r m s t kinds q h decl is core registers held ended taken =
    record {
      decl = decl ∙ h.decl;
      state = ap without_registers is ∙ core;
      registers = subst (λ (x : TaskState). AreRegisters kinds s.regs base x.regs) (sym is) registers;
      taken = subst (λ (x : ℕ). EachKind (IsOfSection S x) kinds) (sym held) taken;
      words = h.words;
      base_small = h.base_small;
      stored = λ w v e. stored-moved S base a.state s m w v held ended (h.stored w v e);
      kept = λ w runs e shared inside. h.kept w (sym ended ∙ runs) e shared (subst (λ (x : ℕ). IsInSection S.decl x w) held inside);
      first = λ w runs e shared. h.first w (sym ended ∙ runs) e shared;
    }

-- Local: the task of the run goes where the task alone goes
pub local-fits : (S : Setup) (base : ℕ → ℕ) (a : Alone) (r : Started) (m : List ℕ) → FitsAlone S base a r m → is_settled_next S a ≡ true → need_of S.program S.decl S.fuel a.state ≡ need.TheVariants.Local
    → FitsAlone S base (go_on_alone S.program a) (in_state r (advanced S.program r.state)) m
unfolding advanced
local-fits S base a r m h s n =
    moved S base a r m (advanced P a.state) (advanced P r.state) (kinds_fetched a.kinds (instr_at P a.state)) (in_state r (advanced P r.state)) h refl refl
    (ap (λ (o : Option Instr). without_registers (after_fetch r.state o)) at' ∙ g.same)
    (subst (λ (o : Option Instr). AreRegisters (kinds_fetched a.kinds (instr_at P a.state)) (after_fetch a.state (instr_at P a.state)).regs base (after_fetch r.state o).regs) (sym at') g.registers)
    (subst (Allowed P S.decl a.state) n (need-allowed P S.decl S.fuel a.state))
    g.ended
    g.keeps
  where
    P : ProgramParts
    P = S.program

    at' : instr_at P r.state ≡ instr_at P a.state
    at' = at-same P a.state r.state h.state

    left : (a.state.retired ≡ S.fuel → ⊥) × (fetch_need P S.decl a.state (code_at P.code a.state.pc) ≡ need.TheVariants.Local)
    left = fuelled P S.decl S.fuel a.state (λ (x : Need). x ≡ need.TheVariants.Local) (λ f. cc) n

    knows : (i : Instr) → instr_at P a.state ≡ Some i → KnowsLock a.kinds i
    knows i e = by_word (code_at P.code a.state.pc) e left.1
      where
        by_word : (o : Option ℕ) → read_instr o ≡ Some i → fetch_need P S.decl a.state o ≡ need.TheVariants.Local → KnowsLock a.kinds i
        by_word None e k = absurd (none-some i e)
        by_word (Some word) e k = local-knows P S.decl a.kinds a.state i (subst (λ (x : Option Instr). word_need P S.decl a.state word x ≡ need.TheVariants.Local) e k)

    g : GoesBy (IsOfSection S a.state.held) a.kinds base a.state r.state (instr_at P a.state)
    g = goes P (IsOfSection S a.state.held) a.kinds base a.state r.state h.state h.registers (settled-at P S.fuel a.kinds a.state left.0 s) knows tt tt h.taken

-- ---- Load

-- what the task alone reads in a word stands for what the word holds in the run
pub seen-stands : (S : Setup) (base : ℕ → ℕ) (a : Alone) (r : Started) (m : List ℕ) (w : ℕ) → FitsAlone S base a r m → a.state.end ≡ None
    → (is_shared S.phase S.decl w ≡ true → IsInSection S.decl a.state.held w) → ((v : ℕ) → (value_at_start S v).number < 2 ^ 32)
    → Denotes (seen S a.cells w) base (slice_index m w) × ((seen S a.cells w).number < 2 ^ 32)
seen-stands S base a r m w h runs inside firsts = by_stored (cell_at a.cells w).stored refl
  where
    by_shared : (b : Bool) → is_shared S.phase S.decl w ≡ b → (cell_at a.cells w).stored ≡ None
        → Denotes (unstored b w (value_at_start S w)) base (slice_index m w) × ((unstored b w (value_at_start S w)).number < 2 ^ 32)
    by_shared true e none =
        let is : slice_index m w ≡ base w = h.kept w runs none e (inside e) in
        let low = h.base_small w in
        (omega arith, omega arith)
    by_shared false e none = (h.first w runs none e, firsts w)

    by_stored : (o : Option Value) → (cell_at a.cells w).stored ≡ o
        → Denotes (or_unstored o (unstored (is_shared S.phase S.decl w) w (value_at_start S w))) base (slice_index m w)
        × ((or_unstored o (unstored (is_shared S.phase S.decl w) w (value_at_start S w))).number < 2 ^ 32)
    by_stored None e = by_shared (is_shared S.phase S.decl w) refl e
    by_stored (Some v) e = let k = h.stored w v e in (k.stands, k.small)

pub load-keeps : (Q : Kind → Type 0) (kinds : List Kind) (v : Value) (o : Option Instr) → Q Known → Q Varying → Q v.kind → EachKind Q kinds → EachKind Q (kinds_loaded kinds v.kind o)
load-keeps Q kinds v None c d q h = h
load-keeps Q kinds v (Some (Load size rd source offset)) c d q h = write-kind Q kinds rd _ h (part-keeps size v.kind q)
  where
    part-keeps : (w : Width) (k : Kind) → Q k → Q (part_kind w k)
    part-keeps width.TheVariants.W k q = q
    part-keeps width.TheVariants.B Known q = q
    part-keeps width.TheVariants.H Known q = q
    part-keeps width.TheVariants.Bu Known q = q
    part-keeps width.TheVariants.Hu Known q = q
    part-keeps _ _ q = d
load-keeps Q kinds v (Some _) c d q h = h

-- what is read in a word: an offset is of that word, which is shared and whose lock is held
pub seen-taken : (S : Setup) (base : ℕ → ℕ) (a : Alone) (r : Started) (m : List ℕ) (w : ℕ) → FitsAlone S base a r m → (is_shared S.phase S.decl w ≡ true → IsInSection S.decl a.state.held w)
    → ((v : ℕ) → IsBetween (value_at_start S v).kind) → IsOfSection S a.state.held (seen S a.cells w).kind
seen-taken S base a r m w h inside firsts = by_stored (cell_at a.cells w).stored refl
  where
    first_taken : (k : Kind) → IsBetween k → IsOfSection S a.state.held k
    first_taken Known i = tt
    first_taken (Offset u) i = absurd i
    first_taken Varying i = tt

    own_taken : (k : Kind) → IsOfWord w k → IsOfSharedWord S w k → IsOfSection S a.state.held k
    own_taken Known o e = tt
    own_taken (Offset u) o e =
        (subst (λ (x : ℕ). is_shared S.phase S.decl x ≡ true) (sym o) e, subst (λ (x : ℕ). IsInSection S.decl a.state.held x) (sym o) (inside e))
    own_taken Varying o e = tt

    by_shared : (b : Bool) → is_shared S.phase S.decl w ≡ b → IsOfSection S a.state.held (unstored b w (value_at_start S w)).kind
    by_shared true e = (e, inside e)
    by_shared false e = first_taken (value_at_start S w).kind (firsts w)

    by_stored : (o : Option Value) → (cell_at a.cells w).stored ≡ o → IsOfSection S a.state.held (or_unstored o (unstored (is_shared S.phase S.decl w) w (value_at_start S w))).kind
    by_stored None e = by_shared (is_shared S.phase S.decl w) refl
    by_stored (Some v) e = let k = h.stored w v e in own_taken v.kind k.own k.shared

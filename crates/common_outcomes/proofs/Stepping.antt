-- One instruction of a run and of the task alone leaves registers, and the word that it stores, as the task alone says.
use Rattle.std.proofs.Common.{◌≡◌, ℕ, zero, suc, ◌+◌, ◌-◌, ◌*◌, ◌/◌, ◌%◌, ◌^◌, ◌<◌, Bool, true, false, ◌&&◌, ◌==◌, if◌then◌else◌, List, [], ◌∷◌, length, slice_index, slice_index_or, slice_set, Some, refl, sym, ap, ◌∙◌, subst, arith, bit_or, bit_xor}
use Rattle.std.proofs.lemmas.Bool.{and_parts}
use Rattle.std.proofs.lemmas.List.{length-set}
use Rattle.dn_base.specs.declared.ids.WordId.{WordId}
use Rattle.rv_isa.specs.Meaning.{alu_of, taken_of}
use Rattle.rv_isa.specs.Word.{pattern}
use Rattle.rv_isa.specs.declared.instr.AluOp.{AluOp}
use Rattle.rv_isa.specs.declared.instr.AluOp.TheVariants.{Add, Sub}
use Rattle.rv_isa.specs.declared.instr.Width.{Width}
use Rattle.rv_isa.specs.declared.instr.Width as width
use Rattle.rv_isa.specs.declared.instr.Instr.{Instr}
use Rattle.rv_isa.specs.declared.instr.Instr.TheVariants.{Lui, Auipc, Jal, Jalr, Branch, Load, Store, OpImm, Op, Fence, Ecall, Ebreak}
use Rattle.rv_core.specs.declared.task.TaskState.{TaskState}
use Rattle.rv_core.specs.Address.{extended, replaced}
use Rattle.rv_core.specs.Need.{address_of, jump_target}
use Rattle.rv_core.specs.Registers.{value_in, with_value}
use Rattle.rv_core.specs.Step.{next_pc, jumped_to, with_locks, after_call, after_instr, after_load, after_store}
use Rattle.effect_prover.specs.Range.{Has}
use Rattle.effect_prover.specs.Successors.{loadable}
use Rattle.effect_prover.proofs.RangeLemmas.{alu-small}
use Rattle.effect_prover.proofs.FollowWords.{extended-has}
use Rattle.common_outcomes.specs.declared.value.Kind.{Kind}
use Rattle.common_outcomes.specs.declared.value.Kind.TheVariants.{Known, Offset, Varying}
use Rattle.common_outcomes.specs.declared.value.Value.{Value}
use Rattle.common_outcomes.specs.Values.{is_known, alu_kind, register_kind, with_kind, kinds_after, part_kind, kinds_loaded, whole_kind, merged_kind, kind_stored}
use Rattle.common_outcomes.specs.Alone.{is_control_settled, is_settled_call}
use Rattle.common_outcomes.specs.Agreeing.{DenotesBy, Denotes, without_registers, AreRegisters}
use Rattle.common_outcomes.proofs.Deciding.{read-stands, read-small, known-register, taken-same}

-- ---- what is written to a register

-- what holds of three lists place by place holds after a write to each
set-all : (G : Kind → ℕ → ℕ → Type 0) (ks : List Kind) (xs ys : List ℕ) → length ks ≡ length xs → length xs ≡ length ys
    → ((r : ℕ) → G (slice_index_or ks r Known) (slice_index xs r) (slice_index ys r)) → (k : Kind) (x y : ℕ) → G k x y
    → (rd r : ℕ) → G (slice_index_or (slice_set ks rd k) r Known) (slice_index (slice_set xs rd x) r) (slice_index (slice_set ys rd y) r)
set-all G [] [] [] e f h k x y new rd r = h r
set-all G [] [] (b ∷ ys) e f h k x y new rd r = absurd (omega arith)
set-all G [] (a ∷ xs) ys e f h k x y new rd r = absurd (omega arith)
set-all G (c ∷ ks) [] ys e f h k x y new rd r = absurd (omega arith)
set-all G (c ∷ ks) (a ∷ xs) [] e f h k x y new rd r = absurd (omega arith)
set-all G (c ∷ ks) (a ∷ xs) (b ∷ ys) e f h k x y new zero zero = new
set-all G (c ∷ ks) (a ∷ xs) (b ∷ ys) e f h k x y new zero (suc r) = h (suc r)
set-all G (c ∷ ks) (a ∷ xs) (b ∷ ys) e f h k x y new (suc rd) zero = h zero
set-all G (c ∷ ks) (a ∷ xs) (b ∷ ys) e f h k x y new (suc rd) (suc r) =
    set-all G ks xs ys (omega arith) (omega arith) (λ (q : ℕ). h (suc q)) k x y new rd r

pub written : (kinds : List Kind) (regs run : List ℕ) (base : ℕ → ℕ) (rd : ℕ) (k : Kind) (x y : ℕ) → AreRegisters kinds regs base run → DenotesBy k x base y → x < 2 ^ 32
    → AreRegisters (with_kind kinds rd k) (with_value regs rd x) base (with_value run rd y)
written kinds regs run base rd k x y h s small = by_test (rd == 0)
  where
    both : Kind → ℕ → ℕ → Type 0
    both c n m = DenotesBy c n base m × (n < 2 ^ 32)

    one : (r : ℕ) → both (slice_index_or (slice_set kinds rd k) r Known) (slice_index (slice_set regs rd x) r) (slice_index (slice_set run rd y) r)
    one r =
        let c = h.kinds_count in
        let d = h.count in
        let e = h.run_count in
        set-all both kinds regs run (omega arith) (omega arith) (λ (q : ℕ). (h.each q, h.small q)) k x y (s, small) rd r

    by_test : (b : Bool) → AreRegisters (if b then kinds else slice_set kinds rd k) (if b then regs else slice_set regs rd x) base (if b then run else slice_set run rd y)
    by_test true = h
    by_test false =
        record {
          kinds_count = length-set kinds rd k ∙ h.kinds_count;
          count = length-set regs rd x ∙ h.count;
          run_count = length-set run rd y ∙ h.run_count;
          each = λ r. (one r).0;
          small = λ r. (one r).1;
        }

-- ---- what is computed

known-add : (b x y u v : ℕ) → u ≡ x → v ≡ (b + y) % 2 ^ 32 → (u + v) % 2 ^ 32 ≡ (b + (x + y) % 2 ^ 32) % 2 ^ 32
known-add b x y u v e f = omega arith

add-known : (b x y u v : ℕ) → u ≡ (b + x) % 2 ^ 32 → v ≡ y → (u + v) % 2 ^ 32 ≡ (b + (x + y) % 2 ^ 32) % 2 ^ 32
add-known b x y u v e f = omega arith

sub-known : (b x y u v : ℕ) → y < 2 ^ 32 → u ≡ (b + x) % 2 ^ 32 → v ≡ y → (u + 2 ^ 32 - v) % 2 ^ 32 ≡ (b + (x + 2 ^ 32 - y) % 2 ^ 32) % 2 ^ 32
sub-known b x y u v small e f = omega arith

known-offset : (op : AluOp) (w : WordId) (x y u v : ℕ) (base : ℕ → ℕ) → u ≡ x → v ≡ (base w.0 + y) % 2 ^ 32 → DenotesBy (alu_kind op Known (Offset w)) (alu_of op x y) base (alu_of op u v)
known-offset Add w x y u v base e f = known-add (base w.0) x y u v e f
known-offset _ w x y u v base e f = tt

offset-known : (op : AluOp) (w : WordId) (x y u v : ℕ) (base : ℕ → ℕ) → y < 2 ^ 32 → u ≡ (base w.0 + x) % 2 ^ 32 → v ≡ y → DenotesBy (alu_kind op (Offset w) Known) (alu_of op x y) base (alu_of op u v)
offset-known Add w x y u v base small e f = add-known (base w.0) x y u v e f
offset-known Sub w x y u v base small e f = sub-known (base w.0) x y u v small e f
offset-known _ w x y u v base small e f = tt

pub computed-stands : (op : AluOp) (k j : Kind) (x y u v : ℕ) (base : ℕ → ℕ) → y < 2 ^ 32 → DenotesBy k x base u → DenotesBy j y base v → DenotesBy (alu_kind op k j) (alu_of op x y) base (alu_of op u v)
computed-stands op Known Known x y u v base small e f = ap (λ (n : ℕ). alu_of op n v) e ∙ ap (alu_of op x) f
computed-stands op Known (Offset w) x y u v base small e f = known-offset op w x y u v base e f
computed-stands op (Offset w) Known x y u v base small e f = offset-known op w x y u v base small e f
computed-stands op _ _ x y u v base small e f = tt

-- ---- an instruction that loads nothing

-- a call acquires or releases the lock that a0 says
abbrev pub KnowsLock : List Kind → Instr → Type 0
KnowsLock kinds Ecall = is_known (register_kind kinds 10) ≡ true
KnowsLock kinds _ = Unit {0}

call_form : TaskState → ℕ → ℕ → TaskState
call_form b n l = if n == 1 then without_registers (with_locks b (bit_or b.held (2 ^ l))) else without_registers (with_locks b (bit_xor b.held (2 ^ l)))

call-form : (t : TaskState) (n l : ℕ) → without_registers (after_call t n l) ≡ call_form (without_registers t) n l
unfolding call_form
call-form t n l = by_test (n == 1)
  where
    by_test : (c : Bool) → without_registers (if c then with_locks t (bit_or t.held (2 ^ l)) else with_locks t (bit_xor t.held (2 ^ l)))
        ≡ (if c then without_registers (with_locks (without_registers t) (bit_or t.held (2 ^ l))) else without_registers (with_locks (without_registers t) (bit_xor t.held (2 ^ l))))
    by_test true = refl
    by_test false = refl

pub after-same : (kinds : List Kind) (base : ℕ → ℕ) (a t : TaskState) (i : Instr) → without_registers t ≡ without_registers a → AreRegisters kinds a.regs base t.regs → is_control_settled kinds a i ≡ true → KnowsLock kinds i
    → without_registers (after_instr t i) ≡ without_registers (after_instr a i)
after-same kinds base a t (Jal rd offset) core h s k = ap (λ (x : TaskState). without_registers (jumped_to x (jump_target x offset))) core
after-same kinds base a t (Jalr rd source offset) core h s k =
    ap (λ (x : TaskState). form x (value_in t.regs source)) core ∙ ap (form (without_registers a)) (known-register kinds a.regs t.regs base source h s)
  where
    form : TaskState → ℕ → TaskState
    form b v = without_registers (jumped_to b ((v + pattern offset) % 2 ^ 32 / 2 * 2))
after-same kinds base a t (Branch test x y offset) core h s k =
    ap (λ (z : TaskState). form z (taken_of test (value_in t.regs x) (value_in t.regs y))) core ∙ ap (form (without_registers a)) (taken-same kinds base a t test x y h s)
  where
    form : TaskState → Bool → TaskState
    form b taken = without_registers (jumped_to b (if taken then jump_target b offset else next_pc b))
after-same kinds base a t Ecall core h s k =
    let parts = and_parts (is_known (register_kind kinds 17)) (is_settled_call kinds (slice_index a.regs 17)) s in
    call-form t (slice_index t.regs 17) (slice_index t.regs 10)
    ∙ ap (λ (z : TaskState). call_form z (slice_index t.regs 17) (slice_index t.regs 10)) core
    ∙ ap (λ (n : ℕ). call_form (without_registers a) n (slice_index t.regs 10)) (known-register kinds a.regs t.regs base 17 h parts.0)
    ∙ ap (λ (n : ℕ). call_form (without_registers a) (slice_index a.regs 17) n) (known-register kinds a.regs t.regs base 10 h k)
    ∙ sym (call-form a (slice_index a.regs 17) (slice_index a.regs 10))
after-same kinds base a t (Load width rd source offset) core h s k = core
after-same kinds base a t Ebreak core h s k = core
after-same kinds base a t _ core h s k = ap (λ (x : TaskState). without_registers (jumped_to x (next_pc x))) core

-- what decoded instructions hold: an immediate of 32 bits
abbrev pub HasImmediate : Instr → Type 0
HasImmediate (OpImm op rd a imm) = pattern imm < 2 ^ 32
HasImmediate _ = Unit {0}

word-small : (n : ℕ) → n % 2 ^ 32 < 2 ^ 32
word-small n = omega arith

pub after-registers : (kinds : List Kind) (base : ℕ → ℕ) (a t : TaskState) (i : Instr) → without_registers t ≡ without_registers a → AreRegisters kinds a.regs base t.regs → HasImmediate i
    → AreRegisters (kinds_after kinds i) (after_instr a i).regs base (after_instr t i).regs
after-registers kinds base a t (Lui rd imm) core h f = written kinds a.regs t.regs base rd Known _ _ h refl (word-small (imm * 4096))
after-registers kinds base a t (Auipc rd imm) core h f =
    written kinds a.regs t.regs base rd Known _ _ h (ap (λ (x : TaskState). (x.pc + imm * 4096) % 2 ^ 32) core) (word-small (a.pc + imm * 4096))
after-registers kinds base a t (Jal rd offset) core h f =
    written kinds a.regs t.regs base rd Known _ _ h (ap next_pc core) (word-small (a.pc + 4))
after-registers kinds base a t (Jalr rd source offset) core h f =
    written kinds a.regs t.regs base rd Known _ _ h (ap next_pc core) (word-small (a.pc + 4))
after-registers kinds base a t (OpImm op rd x imm) core h f =
    written kinds a.regs t.regs base rd (alu_kind op (register_kind kinds x) Known) _ _ h
    (computed-stands op (register_kind kinds x) Known (value_in a.regs x) (pattern imm) (value_in t.regs x) (pattern imm) base f (read-stands kinds a.regs t.regs base x h) refl)
    (alu-small op (value_in a.regs x) (pattern imm) (read-small kinds a.regs t.regs base x h) f)
after-registers kinds base a t (Op op rd x y) core h f =
    written kinds a.regs t.regs base rd (alu_kind op (register_kind kinds x) (register_kind kinds y)) _ _ h
    (computed-stands op (register_kind kinds x) (register_kind kinds y) (value_in a.regs x) (value_in a.regs y) (value_in t.regs x) (value_in t.regs y) base
    (read-small kinds a.regs t.regs base y h) (read-stands kinds a.regs t.regs base x h) (read-stands kinds a.regs t.regs base y h))
    (alu-small op (value_in a.regs x) (value_in a.regs y) (read-small kinds a.regs t.regs base x h) (read-small kinds a.regs t.regs base y h))
after-registers kinds base a t (Branch test x y offset) core h f = h
after-registers kinds base a t (Load width rd source offset) core h f = h
after-registers kinds base a t (Store width src source offset) core h f = h
after-registers kinds base a t Fence core h f = h
after-registers kinds base a t Ecall core h f = call_keeps
  where
    kept : (s : TaskState) (n l : ℕ) → (after_call s n l).regs ≡ s.regs
    kept s n l = by_test (n == 1)
      where
        by_test : (c : Bool) → (if c then with_locks s (bit_or s.held (2 ^ l)) else with_locks s (bit_xor s.held (2 ^ l))).regs ≡ s.regs
        by_test true = refl
        by_test false = refl

    call_keeps : AreRegisters kinds (after_call a (slice_index a.regs 17) (slice_index a.regs 10)).regs base (after_call t (slice_index t.regs 17) (slice_index t.regs 10)).regs
    call_keeps =
        subst (λ (x : List ℕ). AreRegisters kinds (after_call a (slice_index a.regs 17) (slice_index a.regs 10)).regs base x) (sym (kept t (slice_index t.regs 17) (slice_index t.regs 10)))
        (subst (λ (x : List ℕ). AreRegisters kinds x base t.regs) (sym (kept a (slice_index a.regs 17) (slice_index a.regs 10))) h)
after-registers kinds base a t Ebreak core h f = h

-- ---- a load

part-stands : (w : Width) (k : Kind) (n m lane : ℕ) (base : ℕ → ℕ) → DenotesBy k n base m → DenotesBy (part_kind w k) (extended w n lane) base (extended w m lane)
part-stands width.TheVariants.W k n m lane base h = h
part-stands width.TheVariants.B Known n m lane base h = ap (λ (x : ℕ). extended width.TheVariants.B x lane) h
part-stands width.TheVariants.H Known n m lane base h = ap (λ (x : ℕ). extended width.TheVariants.H x lane) h
part-stands width.TheVariants.Bu Known n m lane base h = ap (λ (x : ℕ). extended width.TheVariants.Bu x lane) h
part-stands width.TheVariants.Hu Known n m lane base h = ap (λ (x : ℕ). extended width.TheVariants.Hu x lane) h
part-stands width.TheVariants.B _ n m lane base h = tt
part-stands width.TheVariants.H _ n m lane base h = tt
part-stands width.TheVariants.Bu _ n m lane base h = tt
part-stands width.TheVariants.Hu _ n m lane base h = tt

pub loadable-small : (w : Width) (n : ℕ) → Has (loadable w) n → n < 2 ^ 32
loadable-small width.TheVariants.B n h = let l = h.high in omega arith
loadable-small width.TheVariants.H n h = let l = h.high in omega arith
loadable-small width.TheVariants.W n h = let l = h.high in omega arith
loadable-small width.TheVariants.Bu n h = let l = h.high in omega arith
loadable-small width.TheVariants.Hu n h = let l = h.high in omega arith

-- the run loads m where the task alone reads the value v
pub load-steps : (kinds : List Kind) (base : ℕ → ℕ) (a t : TaskState) (v : Value) (m : ℕ) (i : Instr) → without_registers t ≡ without_registers a → AreRegisters kinds a.regs base t.regs → is_control_settled kinds a i ≡ true
    → Denotes v base m → v.number < 2 ^ 32
    → (without_registers (after_load t m (Some i)) ≡ without_registers (after_load a v.number (Some i)))
    × AreRegisters (kinds_loaded kinds v.kind (Some i)) (after_load a v.number (Some i)).regs base (after_load t m (Some i)).regs
load-steps kinds base a t v m (Load width rd source offset) core h s stands small =
    let lane : ℕ = address_of a source offset % 4 in
    let same : address_of t source offset % 4 ≡ lane = ap (λ (x : ℕ). (x + pattern offset) % 2 ^ 32 % 4) (known-register kinds a.regs t.regs base source h s) in
    let there : DenotesBy (part_kind width v.kind) (extended width v.number lane) base (extended width m (address_of t source offset % 4)) =
    subst (λ (l : ℕ). DenotesBy (part_kind width v.kind) (extended width v.number lane) base (extended width m l)) (sym same) (part-stands width v.kind v.number m lane base stands) in (
      ap (λ (x : TaskState). without_registers (jumped_to x (next_pc x))) core,
      written kinds a.regs t.regs base rd (part_kind width v.kind) _ _ h there (loadable-small width _ (extended-has width v.number lane small)),
    )
load-steps kinds base a t v m _ core h s stands small = (core, h)

-- ---- a store

whole-stands : (shared : Bool) (w : ℕ) (k : Kind) (n m : ℕ) (base : ℕ → ℕ) → DenotesBy k n base m → DenotesBy (whole_kind shared w k) n base m
whole-stands shared w Known n m base h = h
whole-stands shared w (Offset v) n m base h = by_test (shared && (v.0 == w))
  where
    by_test : (b : Bool) → DenotesBy (if b then Offset v else Varying) n base m
    by_test true = h
    by_test false = tt
whole-stands shared w Varying n m base h = h

merged-stands : (k j : Kind) (x y u v : ℕ) (f : ℕ → ℕ → ℕ) (base : ℕ → ℕ) → DenotesBy k x base u → DenotesBy j y base v → DenotesBy (merged_kind k j) (f x y) base (f u v)
merged-stands Known Known x y u v f base e g = ap (λ (n : ℕ). f n v) e ∙ ap (f x) g
merged-stands Known (Offset w) x y u v f base e g = tt
merged-stands Known Varying x y u v f base e g = tt
merged-stands (Offset w) j x y u v f base e g = tt
merged-stands Varying j x y u v f base e g = tt

-- the run has m in the word where the task alone reads the value v
pub store-stands : (kinds : List Kind) (base : ℕ → ℕ) (a t : TaskState) (shared : Bool) (w : ℕ) (v : Value) (m : ℕ) (i : Instr) → AreRegisters kinds a.regs base t.regs → is_control_settled kinds a i ≡ true
    → Denotes v base m → DenotesBy (kind_stored kinds shared w v.kind (Some i)) (after_store a v.number (Some i)) base (after_store t m (Some i))
store-stands kinds base a t shared w v m (Store size src source offset) h s stands =
    let lane : ℕ = address_of a source offset % 4 in
    let same : address_of t source offset % 4 ≡ lane = ap (λ (x : ℕ). (x + pattern offset) % 2 ^ 32 % 4) (known-register kinds a.regs t.regs base source h s) in
    subst (λ (l : ℕ). DenotesBy (kind_stored kinds shared w v.kind (Some (Store size src source offset))) (replaced size v.number lane (value_in a.regs src)) base (replaced size m l (value_in t.regs src))) (sym same)
    (by_width size lane)
  where
    by_width : (c : Width) (lane : ℕ) → DenotesBy (kind_stored kinds shared w v.kind (Some (Store c src source offset))) (replaced c v.number lane (value_in a.regs src)) base (replaced c m lane (value_in t.regs src))
    by_width width.TheVariants.W lane = whole-stands shared w (register_kind kinds src) (value_in a.regs src) (value_in t.regs src) base (read-stands kinds a.regs t.regs base src h)
    by_width width.TheVariants.B lane =
        merged-stands v.kind (register_kind kinds src) v.number (value_in a.regs src) m (value_in t.regs src) (λ (x y : ℕ). replaced width.TheVariants.B x lane y) base stands (read-stands kinds a.regs t.regs base src h)
    by_width width.TheVariants.H lane =
        merged-stands v.kind (register_kind kinds src) v.number (value_in a.regs src) m (value_in t.regs src) (λ (x y : ℕ). replaced width.TheVariants.H x lane y) base stands (read-stands kinds a.regs t.regs base src h)
    by_width width.TheVariants.Bu lane =
        merged-stands v.kind (register_kind kinds src) v.number (value_in a.regs src) m (value_in t.regs src) (λ (x y : ℕ). replaced width.TheVariants.Bu x lane y) base stands (read-stands kinds a.regs t.regs base src h)
    by_width width.TheVariants.Hu lane =
        merged-stands v.kind (register_kind kinds src) v.number (value_in a.regs src) m (value_in t.regs src) (λ (x y : ℕ). replaced width.TheVariants.Hu x lane y) base stands (read-stands kinds a.regs t.regs base src h)
store-stands kinds base a t shared w v m _ h s stands = stands

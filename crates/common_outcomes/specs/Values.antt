-- Numbers of which more or less is known, and what sections do to words.
use Rattle.std.specs.Prelude.{ℕ, ◌+◌, ◌%◌, ◌^◌, ◌==◌, Bool, true, false, ◌&&◌, ◌||◌, if◌then◌else◌, List, slice_index_or, slice_set, Option, Some, None}
use Rattle.rv_isa.specs.declared.instr.AluOp.{AluOp}
use Rattle.rv_isa.specs.declared.instr.AluOp as alu
use Rattle.rv_isa.specs.declared.instr.Width.{Width}
use Rattle.rv_isa.specs.declared.instr.Width as width
use Rattle.rv_isa.specs.declared.instr.Instr.{Instr}
use Rattle.rv_isa.specs.declared.instr.Instr.TheVariants.{Lui, Auipc, Jal, Jalr, Load, Store, OpImm, Op}
use Rattle.common_outcomes.specs.declared.value.Kind.{Kind}
use Rattle.common_outcomes.specs.declared.value.Kind.TheVariants.{Known, Offset, Varying}
use Rattle.common_outcomes.specs.declared.value.Value.{Value}
use Rattle.common_outcomes.specs.declared.value.Effect.{Effect}
use Rattle.common_outcomes.specs.declared.value.Effect.TheVariants.{Kept, Added, Set, Other}

abbrev pub known : ℕ → Value
known n = record { kind = Known; number = n }

abbrev pub is_known : Kind → Bool
is_known Known = true
is_known _ = false

abbrev pub is_add : AluOp → Bool
is_add alu.TheVariants.Add = true
is_add _ = false

abbrev pub is_sub : AluOp → Bool
is_sub alu.TheVariants.Sub = true
is_sub _ = false

-- what is known of the result of an operation
abbrev pub alu_kind : AluOp → Kind → Kind → Kind
alu_kind op Known Known = Known
alu_kind op Known (Offset w) = if is_add op then Offset w else Varying
alu_kind op (Offset w) Known = if is_add op || is_sub op then Offset w else Varying
alu_kind op _ _ = Varying

-- what is known of a register; x0 isn't written, and 0 is known
abbrev pub register_kind : List Kind → ℕ → Kind
register_kind kinds r = if r == 0 then Known else slice_index_or kinds r Known

abbrev pub with_kind : List Kind → ℕ → Kind → List Kind
with_kind kinds rd k = if rd == 0 then kinds else slice_set kinds rd k

-- what is known of the registers after an instruction that loads nothing
abbrev pub kinds_after : List Kind → Instr → List Kind
kinds_after kinds (Lui rd imm) = with_kind kinds rd Known
kinds_after kinds (Auipc rd imm) = with_kind kinds rd Known
kinds_after kinds (Jal rd offset) = with_kind kinds rd Known
kinds_after kinds (Jalr rd base offset) = with_kind kinds rd Known
kinds_after kinds (OpImm op rd a imm) = with_kind kinds rd (alu_kind op (register_kind kinds a) Known)
kinds_after kinds (Op op rd a b) = with_kind kinds rd (alu_kind op (register_kind kinds a) (register_kind kinds b))
kinds_after kinds _ = kinds

abbrev pub kinds_fetched : List Kind → Option Instr → List Kind
kinds_fetched kinds None = kinds
kinds_fetched kinds (Some i) = kinds_after kinds i

-- what is known of the part of a word that a load of this width takes
abbrev pub part_kind : Width → Kind → Kind
part_kind width.TheVariants.W k = k
part_kind _ Known = Known
part_kind _ _ = Varying

-- what is known of the registers after a load of a word of which this is known
abbrev pub kinds_loaded : List Kind → Kind → Option Instr → List Kind
kinds_loaded kinds k (Some (Load width rd base offset)) = with_kind kinds rd (part_kind width k)
kinds_loaded kinds k _ = kinds

-- what is known of a word after a whole store of a register to it; only a shared word may be an offset, and of itself
abbrev pub whole_kind : Bool → ℕ → Kind → Kind
whole_kind shared w Known = Known
whole_kind shared w (Offset v) = if shared && (v.0 == w) then Offset v else Varying
whole_kind shared w Varying = Varying

-- what is known of a word after a store of a part
abbrev pub merged_kind : Kind → Kind → Kind
merged_kind Known Known = Known
merged_kind _ _ = Varying

-- what is known of a word after a store, of which that was known before, from the register of its instruction
abbrev pub kind_stored : List Kind → Bool → ℕ → Kind → Option Instr → Kind
kind_stored kinds shared w before (Some (Store width.TheVariants.W src base offset)) = whole_kind shared w (register_kind kinds src)
kind_stored kinds shared w before (Some (Store width src base offset)) = merged_kind before (register_kind kinds src)
kind_stored kinds shared w before _ = before

-- ---- what sections do to a word

-- what a section did to a word, by what it stored in it last
abbrev pub effect_by : Kind → ℕ → Effect
effect_by Known n = Set n
effect_by (Offset w) n = Added n
effect_by Varying n = Other

abbrev pub effect_of : Option Value → Effect
effect_of None = Kept
effect_of (Some v) = effect_by v.kind v.number

abbrev pub both_set : Bool → ℕ → Effect
both_set true a = Set a
both_set false a = Other

-- what two sections did, in either order
abbrev pub joined_effect : Effect → Effect → Effect
joined_effect Kept e = e
joined_effect e Kept = e
joined_effect (Added a) (Added b) = Added ((a + b) % 2 ^ 32)
joined_effect (Set a) (Set b) = both_set (a == b) a
joined_effect _ _ = Other

abbrev pub varying : Value
varying = record { kind = Varying; number = 0 }

abbrev pub plus : Kind → ℕ → ℕ → Value
plus Known m n = known ((m + n) % 2 ^ 32)
plus _ m n = varying

-- what is known of a word after sections that did this to it
abbrev pub applied : Effect → Value → Value
applied Kept v = v
applied (Set n) v = known n
applied (Added n) v = plus v.kind v.number n
applied Other v = varying

-- The code words of a statement.
use Rattle.std.specs.Prelude.{ℕ, ◌+◌, ◌*◌, ◌/◌, ◌%◌, ◌^◌, ℤ, pos, ◌-ℤ◌, ◌*ℤ◌, Bool, true, false, ◌&&◌, nat_lt, List, [], ◌∷◌, Option, Some, None, option_map, if◌then◌else◌}
use Rattle.rv_isa.specs.Encoding.{encoded}
use Rattle.rv_isa.specs.Table.{is_stored}
use Rattle.rv_isa.specs.declared.instr.AluOp as op
use Rattle.rv_isa.specs.declared.instr.Cond.{Cond}
use Rattle.rv_isa.specs.declared.instr.Width.{Width}
use Rattle.rv_isa.specs.declared.instr.Instr.{Instr}
use Rattle.rv_isa.specs.declared.instr.Instr as instr
use Rattle.src_text.specs.declared.token.Token.{Token}
use Rattle.src_text.specs.declared.token.TokenKind as token
use Rattle.src_text.specs.declared.token.TokenKind.{TokenKind}
use Rattle.rv_assembler.specs.declared.statement.Code.{Code}
use Rattle.rv_assembler.specs.declared.statement.Code.TheVariants.{Upper, Jump, JumpRegister, Branch, Load, Store, OpImm, Op, Fence, Ecall, Ebreak, LoadNumber, LoadAddress, Raw}
use Rattle.rv_assembler.specs.declared.emission.Emission.{Emission}
use Rattle.rv_assembler.specs.declared.emission.Emission.TheVariants.{One, Two, OutOfRange, Unknown}
use Rattle.rv_assembler.specs.declared.names.Meaning.{Meaning}
use Rattle.rv_assembler.specs.declared.names.Meaning as meaning
use Rattle.rv_assembler.specs.Number.{natural_of, wrapped, is_upper, is_immediate, is_jump, is_branch, is_operand}
use Rattle.rv_assembler.specs.Operand.{bytes_of}

-- the word of an instruction, if its numbers are in the ranges of its row
abbrev pub one_if : Bool → Instr → Emission
one_if true i = One (encoded i)
one_if false i = OutOfRange

abbrev pub upper_instr : Bool → ℕ → ℕ → Instr
upper_instr true rd n = instr.TheVariants.Auipc rd n
upper_instr false rd n = instr.TheVariants.Lui rd n

abbrev pub upper : Bool → ℕ → ℤ → Emission
upper adds_pc rd z = one_if (is_upper z) (upper_instr adds_pc rd (natural_of z))

abbrev pub jump : ℕ → Option ℤ → Emission
jump rd None = Unknown
jump rd (Some z) = one_if (is_jump z) (instr.TheVariants.Jal rd z)

abbrev pub branch : Cond → ℕ → ℕ → Option ℤ → Emission
branch c a b None = Unknown
branch c a b (Some z) = one_if (is_branch z) (instr.TheVariants.Branch c a b z)

abbrev pub store : Width → ℕ → ℕ → ℤ → Emission
store width src base z = one_if (is_stored width && is_immediate z) (instr.TheVariants.Store width src base z)

-- LUI and ADDI load a value modulo 2^32. ADDI adds the low twelve bits as a signed number. So LUI's number is rounded: 2048 is
-- added before the low bits are cut off. The sum is taken modulo 2^32, as the RISC-V unprivileged manual says for both
-- instructions.
abbrev pub high : ℕ → ℕ
high v = (v + 2048) % 2 ^ 32 / 4096

abbrev pub low : ℕ → ℤ
low v = if nat_lt (v % 4096) 2048 then pos (v % 4096) else (pos (v % 4096) -ℤ pos 4096)

abbrev pub loaded : ℕ → ℕ → Emission
loaded rd v = Two (encoded (instr.TheVariants.Lui rd (high v))) (encoded (instr.TheVariants.OpImm op.TheVariants.Add rd rd (low v)))

-- the addresses of a code word and of a data word
abbrev pub label_address : ℕ → ℕ
label_address place = 0x1000 + 4 * place

abbrev pub region_address : ℕ → ℕ
region_address word = 0x10000000 + 4 * word

abbrev pub loaded_address : ℕ → Option Meaning → Emission
loaded_address rd (Some (meaning.TheVariants.Label line place)) = loaded rd (label_address place)
loaded_address rd (Some (meaning.TheVariants.Region number start len)) = loaded rd (region_address start)
loaded_address rd _ = Unknown

-- the place of a label
abbrev pub label_index : Option Meaning → Option ℕ
label_index (Some (meaning.TheVariants.Label line place)) = Some place
label_index _ = None

-- the distance from one code word to another, in bytes
abbrev pub distance : ℕ → ℕ → ℤ
distance here place = (pos place -ℤ pos here) *ℤ pos 4

-- the offset of a target: the number itself, or the distance to the label
abbrev pub offset_by : (List ℕ → Option Meaning) → ℕ → List ℕ → TokenKind → Option ℤ
offset_by names here name (token.TheVariants.Number n) = Some n
offset_by names here name _ = option_map (distance here) (label_index (names name))

abbrev pub offset_of : List ℕ → (List ℕ → Option Meaning) → ℕ → Token → Option ℤ
offset_of text names here t = offset_by names here (bytes_of text t) t.kind

-- the words of a statement that stands at the code word `here`
abbrev pub emission : List ℕ → (List ℕ → Option Meaning) → ℕ → Code → Emission
emission text names here (Upper adds_pc rd n) = upper adds_pc rd n
emission text names here (Jump rd target) = jump rd (offset_of text names here target)
emission text names here (JumpRegister rd base z) = one_if (is_immediate z) (instr.TheVariants.Jalr rd base z)
emission text names here (Branch c a b target) = branch c a b (offset_of text names here target)
emission text names here (Load width rd base z) = one_if (is_immediate z) (instr.TheVariants.Load width rd base z)
emission text names here (Store width src base z) = store width src base z
emission text names here (OpImm o rd a z) = one_if (is_operand o z) (instr.TheVariants.OpImm o rd a z)
emission text names here (Op o rd a b) = One (encoded (instr.TheVariants.Op o rd a b))
emission text names here Fence = One (encoded instr.TheVariants.Fence)
emission text names here Ecall = One (encoded instr.TheVariants.Ecall)
emission text names here Ebreak = One (encoded instr.TheVariants.Ebreak)
emission text names here (LoadNumber rd n) = loaded rd (wrapped n)
emission text names here (LoadAddress rd name) = loaded_address rd (names (bytes_of text name))
emission text names here (Raw n) = One (wrapped n)

-- the words of an emission, in order
abbrev pub words_in : Emission → List ℕ
words_in (One w) = w ∷ []
words_in (Two v w) = v ∷ w ∷ []
words_in OutOfRange = []
words_in Unknown = []

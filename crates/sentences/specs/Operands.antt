-- Which operand of a line is another than its statement takes: the first in whose place an example makes the line well formed.
use Rattle.std.specs.Prelude.{◌≡◌, ℕ, ◌+◌, Bool, true, List, [], ◌∷◌, ◌++◌, length, take, drop, get_or, Option, Some, None, codes, if◌then◌else◌, zero, suc}
use Rattle.std.specs.Option.{is_some, option_or}
use Rattle.src_text.specs.Register.{register_of}
use Rattle.src_text.specs.declared.token.Span.{Span}
use Rattle.src_text.specs.declared.token.Token.{Token}
use Rattle.rv_assembler.specs.Operand.{bytes_of}
use Rattle.rv_assembler.specs.Shape.{is_name, is_number, is_comma, is_plain}
use Rattle.sentences.specs.declared.examples.Form.{Form}
use Rattle.sentences.specs.declared.examples.Form as form
use Rattle.sentences.specs.declared.wrong_operands.OperandSort.{OperandSort}
use Rattle.sentences.specs.declared.wrong_operands.OperandSort.TheVariants.{Register, Number, Name, Based}
use Rattle.sentences.specs.declared.wrong_operands.WrongOperand.{WrongOperand}
use Rattle.sentences.specs.Examples.{is_taken}

-- the sorts of a form's operands, in their order
abbrev pub sorts_of : Form → List OperandSort
sorts_of form.TheVariants.Nothing = []
sorts_of form.TheVariants.Interval = Name ∷ Number ∷ Number ∷ []
sorts_of form.TheVariants.Guarded = Name ∷ Name ∷ Number ∷ Number ∷ []
sorts_of form.TheVariants.Words = Name ∷ Number ∷ []
sorts_of form.TheVariants.Name = Name ∷ []
sorts_of form.TheVariants.Register = Register ∷ []
sorts_of form.TheVariants.Number = Number ∷ []
sorts_of form.TheVariants.RegisterName = Register ∷ Name ∷ []
sorts_of form.TheVariants.RegisterNumber = Register ∷ Number ∷ []
sorts_of form.TheVariants.TwoRegisters = Register ∷ Register ∷ []
sorts_of form.TheVariants.TwoRegistersName = Register ∷ Register ∷ Name ∷ []
sorts_of form.TheVariants.TwoRegistersNumber = Register ∷ Register ∷ Number ∷ []
sorts_of form.TheVariants.ThreeRegisters = Register ∷ Register ∷ Register ∷ []
sorts_of form.TheVariants.Based = Register ∷ Based ∷ []
sorts_of form.TheVariants.Task = Number ∷ Name ∷ Number ∷ []
sorts_of form.TheVariants.Family = Number ∷ Number ∷ Name ∷ Number ∷ Number ∷ []

-- an operand of a sort, as an example
abbrev pub example_of : OperandSort → List ℕ
example_of Register = codes "t0"
example_of Number = codes "7"
example_of Name = codes "name"
example_of Based = codes "4(t0)"

-- ---- the operands of a line

-- the tokens before the first comma, and those behind it
abbrev pub before_comma : List Token → List Token
before_comma [] = []
before_comma (t ∷ ts) = if is_comma t.kind then [] else t ∷ before_comma ts

abbrev pub behind_comma : List Token → List Token
behind_comma [] = []
behind_comma (t ∷ ts) = if is_comma t.kind then ts else behind_comma ts

-- the tokens of an operand, of which so many stand before it
abbrev pub operand_behind : ℕ → List Token → List Token
operand_behind zero ts = before_comma ts
operand_behind (suc n) ts = operand_behind n (behind_comma ts)

-- from the first token to the last
abbrev pub part_over : List Token → Option Span
part_over [] = None
part_over (t ∷ ts) = Some (record { start = t.start; end = (get_or (t ∷ ts) (length ts) t).end })

-- what a token is as an operand
abbrev pub name_sort : List ℕ → Token → Option OperandSort
name_sort bytes t = if is_some (register_of (bytes_of bytes t)) then Some Register else (if is_plain bytes t then Some Name else None)

abbrev pub token_sort : List ℕ → Token → Option OperandSort
token_sort bytes t = if is_number t.kind then Some Number else (if is_name t.kind then name_sort bytes t else None)

-- what the tokens of an operand are; None where they are none of the sorts that have one token
abbrev pub found_sort : List ℕ → List Token → Option OperandSort
found_sort bytes (t ∷ []) = token_sort bytes t
found_sort bytes ts = None

-- ---- which operand is wrong

-- the bytes with others in place of a part
abbrev pub with_part : List ℕ → Span → List ℕ → List ℕ
with_part bytes p others = take p.start bytes ++ others ++ drop p.end bytes

-- whether an example of the sort in place of the part makes the line well formed
unfoldable pub is_mended_by : ℕ → List ℕ → OperandSort → Span → Bool
is_mended_by version bytes s p = is_taken version (with_part bytes p (example_of s))

-- the operand, if it is wrong
abbrev pub wrong_part : ℕ → List ℕ → ℕ → OperandSort → List Token → Option Span → Option WrongOperand
wrong_part version bytes number s ts None = None
wrong_part version bytes number s ts (Some p) =
    if is_mended_by version bytes s p then Some (record { part = p; number = number; found = found_sort bytes ts; wanted = s }) else None

abbrev pub wrong_operand : ℕ → List ℕ → ℕ → OperandSort → List Token → Option WrongOperand
wrong_operand version bytes number s ts = wrong_part version bytes number s ts (part_over ts)

-- the first wrong one of these tokens' operands, which are to be of these sorts; the first of them has this number
abbrev pub wrong_among : ℕ → List ℕ → ℕ → List OperandSort → List Token → Option WrongOperand
wrong_among version bytes number [] ts = None
wrong_among version bytes number (s ∷ ss) ts =
    option_or (wrong_operand version bytes number s (before_comma ts)) (wrong_among version bytes (number + 1) ss (behind_comma ts))

-- ---- what holds of an operand that is named

-- it has its number among these operands, lies in the line, and an example of the wanted sort in its place makes the line well formed
pub record IsWrongOperand (version : ℕ) (bytes : List ℕ) (ts : List Token) (w : WrongOperand) : Type 0 where
  pub before : ℕ
  pub numbered : w.number ≡ before + 1
  pub part : part_over (operand_behind before ts) ≡ Some w.part
  pub mended : is_taken version (with_part bytes w.part (example_of w.wanted)) ≡ true
  pub found : w.found ≡ found_sort bytes (operand_behind before ts)

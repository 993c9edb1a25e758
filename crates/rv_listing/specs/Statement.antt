-- How a statement is written in a listing.
use Rattle.std.specs.Prelude.{ℕ, ℤ, List, [], ◌∷◌, ◌++◌, codes}
use Rattle.std.specs.Fmt.{decimal, signed_decimal}
pub use Rattle.text_pieces.specs.Pieces.{hex_digit, hex_at}
unfoldable pub use Rattle.text_pieces.specs.Pieces.{hexadecimal}
use Rattle.rv_listing.specs.declared.statement.Operand.{Operand}
use Rattle.rv_listing.specs.declared.statement.Operand.TheVariants.{Name, Register, Number, Offset, Word, Address}

-- the name of a register: x0 to x31
abbrev pub register : ℕ → List ℕ
register n = codes "x" ++ decimal n

-- an address: an offset, and a register in parentheses
abbrev pub address : ℤ → ℕ → List ℕ
address offset base = signed_decimal offset ++ (codes "(" ++ (register base ++ codes ")"))

-- the operands after the first, each after a comma and a blank
abbrev pub more_operands : List (List ℕ) → List ℕ
more_operands [] = []
more_operands (o ∷ os) = codes ", " ++ (o ++ more_operands os)

-- the operands of a statement after its word
abbrev pub operands : List (List ℕ) → List ℕ
operands [] = []
operands (o ∷ os) = codes " " ++ (o ++ more_operands os)

-- a statement: its word, a blank, and its operands with a comma and a blank between them
abbrev pub statement : List ℕ → List (List ℕ) → List ℕ
statement word os = word ++ operands os

-- how the code's operands are written
abbrev pub operand_text : Operand → List ℕ
operand_text (Name name) = name.now
operand_text (Register number) = register number
operand_text (Number number) = decimal number
operand_text (Offset number) = signed_decimal number
operand_text (Word number) = hexadecimal number
operand_text (Address offset base) = address offset base

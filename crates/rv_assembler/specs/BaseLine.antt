-- The pseudo-instructions that stand for one instruction, each with its base line: the line of that instruction. For the law
-- `a_pseudo_instruction_has_its_base_line`.
use Rattle.std.specs.Prelude.{◌≡◌, ℕ, ℤ, pos, neg_ℤ, Bool, List, [], ◌∷◌, Option, Some, Ok, codes}
use Rattle.std.specs.List.{AllZip}
use Rattle.src_text.specs.Register.{register_of}
use Rattle.src_text.specs.declared.token.Token.{Token}
use Rattle.src_text.specs.declared.token.TokenKind.{TokenKind}
use Rattle.src_text.specs.declared.token.TokenKind.TheVariants.{Name, Number, Comma, Left, Right}
use Rattle.rv_assembler.specs.declared.statement.Code.{Code}
use Rattle.rv_assembler.specs.declared.statement.Statement.TheVariants.{Instruction}
use Rattle.rv_assembler.specs.declared.names.Meaning.{Meaning}
use Rattle.rv_assembler.specs.Operand.{bytes_of, token_at}
use Rattle.rv_assembler.specs.Emission.{emission}
use Rattle.rv_assembler.specs.Reading.{statement_in}

-- a part of the base line: a token of the pseudo-instruction's operands, a register, a number, or a mark
pub data BasePart : Type 0 where
  FromLine : ℕ → BasePart
  XRegister : ℕ → BasePart
  Literal : ℤ → BasePart
  Mark : TokenKind → BasePart

-- a pseudo-instruction's word, and the word and the operands of its base line
pub record Pseudo : Type 0 where
  pub word : List ℕ
  pub base : List ℕ
  pub operands : List BasePart

abbrev pub stands_for : List ℕ → List ℕ → List BasePart → Pseudo
stands_for w base ps = record { word = w; base = base; operands = ps }

abbrev pub two : BasePart → BasePart → List BasePart
two a b = a ∷ Mark Comma ∷ b ∷ []

abbrev pub three : BasePart → BasePart → BasePart → List BasePart
three a b c = a ∷ Mark Comma ∷ b ∷ Mark Comma ∷ c ∷ []

-- a register, and a number with another register after it in parentheses
abbrev pub based : BasePart → BasePart → BasePart → List BasePart
based a n b = a ∷ Mark Comma ∷ n ∷ Mark Left ∷ b ∷ Mark Right ∷ []

-- the first operand of a pseudo-instruction, and the second, after a comma
abbrev pub first_operand : BasePart
first_operand = FromLine 0

abbrev pub second_operand : BasePart
second_operand = FromLine 2

abbrev pub zero_register : BasePart
zero_register = XRegister 0

-- the table; `li` and `la`, which stand for two instructions, have a law of their own
abbrev pub pseudo_rows : List Pseudo
pseudo_rows =
    stands_for (codes "nop") (codes "addi") (three zero_register zero_register (Literal (pos 0)))
    ∷ stands_for (codes "mv") (codes "addi") (three first_operand second_operand (Literal (pos 0)))
    ∷ stands_for (codes "not") (codes "xori") (three first_operand second_operand (Literal (neg_ℤ (pos 1))))
    ∷ stands_for (codes "neg") (codes "sub") (three first_operand zero_register second_operand)
    ∷ stands_for (codes "seqz") (codes "sltiu") (three first_operand second_operand (Literal (pos 1)))
    ∷ stands_for (codes "snez") (codes "sltu") (three first_operand zero_register second_operand)
    ∷ stands_for (codes "beqz") (codes "beq") (three first_operand zero_register second_operand)
    ∷ stands_for (codes "bnez") (codes "bne") (three first_operand zero_register second_operand)
    ∷ stands_for (codes "j") (codes "jal") (two zero_register first_operand)
    ∷ stands_for (codes "jr") (codes "jalr") (based zero_register (Literal (pos 0)) first_operand)
    ∷ stands_for (codes "ret") (codes "jalr") (based zero_register (Literal (pos 0)) (XRegister 1))
    ∷ []

-- two tokens are spelled alike
pub record AreSpelledAlike (text : List ℕ) (t u : Token) : Type 0 where
  pub kind : t.kind ≡ u.kind
  pub bytes : bytes_of text t ≡ bytes_of text u

-- a token of the base line, beside a line of the pseudo-instruction with the operands ts
abbrev pub IsBaseToken : List ℕ → List Token → BasePart → Token → Type 0
IsBaseToken text ts (FromLine i) u = AreSpelledAlike text (token_at ts i) u
IsBaseToken text ts (XRegister n) u = (u.kind ≡ Name) × (register_of (bytes_of text u) ≡ Some n)
IsBaseToken text ts (Literal z) u = u.kind ≡ Number z
IsBaseToken text ts (Mark k) u = u.kind ≡ k

-- two lines of a text, each a word and its operands: one of the pseudo-instruction, and its base line
pub record ArePseudoLines (p : Pseudo) (text : List ℕ) (w b : Token) (ts us : List Token) : Type 0 where
  pub word : bytes_of text w ≡ p.word
  pub base_is_name : b.kind ≡ Name
  pub base : bytes_of text b ≡ p.base
  pub operands : AllZip (IsBaseToken text ts) p.operands us

-- the tokens of a line say an instruction that has the same words as this one, or the same fault, wherever they stand and
-- whatever names mean
pub record SaysTheSame (version_2 : Bool) (text : List ℕ) (line : ℕ) (tokens : List Token) (c : Code) : Type 0 where
  pub code : Code
  pub said : statement_in version_2 text line tokens ≡ Ok (Instruction code)
  pub same : (names : List ℕ → Option Meaning) (here : ℕ) → emission text names here c ≡ emission text names here code

-- where a line of the pseudo-instruction is of good form, its base line says the same
abbrev pub HasBaseLine : Pseudo → Type 0
HasBaseLine p =
    (version_2 : Bool) (text : List ℕ) (line : ℕ) (w b : Token) (ts us : List Token) (c : Code) → ArePseudoLines p text w b ts us
    → statement_in version_2 text line (w ∷ ts) ≡ Ok (Instruction c) → SaysTheSame version_2 text line (b ∷ us) c

-- The forms of operands, each with an example, and the first form that a word takes.
use Rattle.std.specs.Prelude.{ℕ, Bool, false, nat_lt, List, [], ◌∷◌, ◌++◌, length, Option, Some, None, is_some, slice_get, find, codes, if◌then◌else◌}
use Rattle.src_text.specs.Line.{lines_of}
use Rattle.src_text.specs.declared.line.Line.{Line}
use Rattle.rv_assembler.specs.Reading.{reading_of}
use Rattle.rv_assembler.specs.Source.{good}
use Rattle.sentences.specs.declared.examples.Form.{Form}
use Rattle.sentences.specs.declared.examples.Form as form

-- a line by itself; None for no bytes
abbrev pub line_alone : List ℕ → Option Line
line_alone bytes = slice_get (lines_of bytes) 0

abbrev pub is_good_alone : ℕ → List ℕ → Option Line → Bool
is_good_alone version bytes None = false
is_good_alone version bytes (Some l) = is_some (good (reading_of version bytes l))

-- whether the bytes by themselves are a line of good form; a line has at most 1,024 bytes
unfoldable pub is_taken : ℕ → List ℕ → Bool
is_taken version bytes = if nat_lt 1024 (length bytes) then false else is_good_alone version bytes (line_alone bytes)

-- operands of a form, as an example
abbrev pub operands_as : Form → List ℕ
operands_as form.TheVariants.Nothing = codes ""
operands_as form.TheVariants.Interval = codes "name, 0, 2"
operands_as form.TheVariants.Guarded = codes "lock, name, 0, 2"
operands_as form.TheVariants.Words = codes "name, 4"
operands_as form.TheVariants.Name = codes "name"
operands_as form.TheVariants.Register = codes "t0"
operands_as form.TheVariants.Number = codes "7"
operands_as form.TheVariants.RegisterName = codes "t0, name"
operands_as form.TheVariants.RegisterNumber = codes "t0, 7"
operands_as form.TheVariants.TwoRegisters = codes "t0, t1"
operands_as form.TheVariants.TwoRegistersName = codes "t0, t1, name"
operands_as form.TheVariants.TwoRegistersNumber = codes "t0, t1, 7"
operands_as form.TheVariants.ThreeRegisters = codes "t0, t1, t2"
operands_as form.TheVariants.Based = codes "t0, 4(t1)"
operands_as form.TheVariants.Task = codes "0, name, 7"
operands_as form.TheVariants.Family = codes "0, 4, name, 7, 1"

-- whether a word takes operands of the form
unfoldable pub takes : ℕ → List ℕ → Form → Bool
takes version word f = is_taken version (word ++ codes " " ++ operands_as f)

-- All words but those of effects have one form. A form whose example also fits other forms comes after those.
abbrev pub forms : List Form
forms =
    form.TheVariants.Nothing
    ∷ form.TheVariants.Interval
    ∷ form.TheVariants.Guarded
    ∷ form.TheVariants.Words
    ∷ form.TheVariants.Name
    ∷ form.TheVariants.Register
    ∷ form.TheVariants.Number
    ∷ form.TheVariants.RegisterName
    ∷ form.TheVariants.RegisterNumber
    ∷ form.TheVariants.TwoRegisters
    ∷ form.TheVariants.TwoRegistersName
    ∷ form.TheVariants.TwoRegistersNumber
    ∷ form.TheVariants.ThreeRegisters
    ∷ form.TheVariants.Based
    ∷ form.TheVariants.Task
    ∷ form.TheVariants.Family
    ∷ []

-- the first form that a word takes
unfoldable pub form_for : ℕ → List ℕ → Option Form
form_for version word = find (takes version word) forms

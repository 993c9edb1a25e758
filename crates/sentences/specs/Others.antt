-- The names that a text declares as what is wanted.
use Rattle.std.specs.Prelude.{ℕ, ◌==◌, Bool, true, false, nat_lt, List, [], ◌++◌, length, flat_map, Option, Some, None, codes, if◌then◌else◌}
use Rattle.text_pieces.specs.Pieces.{newline}
use Rattle.src_text.specs.Line.{lines_of}
use Rattle.src_text.specs.declared.line.Line.{Line}
use Rattle.src_text.specs.declared.token.Token.{Token}
use Rattle.rv_assembler.specs.declared.statement.Statement.{Statement}
use Rattle.rv_assembler.specs.declared.statement.Statement as statement
use Rattle.rv_assembler.specs.declared.parsing.Reading.{Reading}
use Rattle.rv_assembler.specs.declared.parsing.Reading.TheVariants.{Bad, Good}
use Rattle.rv_assembler.specs.Operand.{bytes_of}
use Rattle.rv_assembler.specs.Reading.{reading_of, version_line}
use Rattle.sentences.specs.declared.findings.Cause.{Cause}
use Rattle.sentences.specs.declared.findings.Cause as cause
use Rattle.sentences.specs.declared.findings.Finding.{Finding}
use Rattle.sentences.specs.declared.findings.Wanted.{Wanted}
use Rattle.sentences.specs.declared.findings.Wanted as wanted

abbrev pub wants_label : Wanted → Bool
wants_label wanted.TheVariants.Label = true
wants_label wanted.TheVariants.Address = true
wants_label _ = false

abbrev pub wants_region : Wanted → Bool
wants_region wanted.TheVariants.Address = true
wants_region wanted.TheVariants.Region = true
wants_region _ = false

abbrev pub wants_lock : Wanted → Bool
wants_lock wanted.TheVariants.Lock = true
wants_lock _ = false

unfoldable pub listed_name : List ℕ → Token → List ℕ
listed_name text t = codes " `" ++ bytes_of text t ++ codes "`"

abbrev pub listed_if : Bool → List ℕ → Token → List ℕ
listed_if b text t = if b then listed_name text t else []

abbrev pub listed_label : List ℕ → Wanted → Option Token → List ℕ
listed_label text w None = []
listed_label text w (Some t) = listed_if (wants_label w) text t

abbrev pub listed_by : List ℕ → Wanted → Statement → List ℕ
listed_by text w (statement.TheVariants.Region name len) = listed_if (wants_region w) text name
listed_by text w (statement.TheVariants.Lock name) = listed_if (wants_lock w) text name
listed_by text w _ = []

abbrev pub listed_on : List ℕ → Wanted → Reading → List ℕ
listed_on text w (Bad f) = []
listed_on text w (Good s) = listed_label text w s.label ++ listed_by text w s.statement

abbrev pub listed_at : List ℕ → ℕ → Wanted → Line → List ℕ
listed_at text version w l = listed_on text w (reading_of version text l)

-- the names of the text's lines, in their order
unfoldable pub listed_in : List ℕ → Wanted → List ℕ
listed_in text w = flat_map (listed_at text (version_line text (lines_of text)) w) (lines_of text)

abbrev pub names_or_none : List ℕ → List ℕ
names_or_none names = names ++ (if length names == 0 then codes " none" else [])

unfoldable pub others_line : List ℕ → Wanted → List ℕ
others_line text w = codes "  Declared as such:" ++ names_or_none (listed_in text w) ++ newline

abbrev pub others_by : List ℕ → Cause → List ℕ
others_by text (cause.TheVariants.Undeclared w) = others_line text w
others_by text (cause.TheVariants.Unfit w s line) = others_line text w
others_by text _ = []

abbrev pub others_if_any : List ℕ → Option Finding → List ℕ
others_if_any text None = []
others_if_any text (Some x) = others_by text x.cause

-- the names beside one that isn't declared as what is wanted; a text that is too large isn't read
unfoldable pub others : List ℕ → Option Finding → List ℕ
others text x = if nat_lt 1048576 (length text) then [] else others_if_any text x

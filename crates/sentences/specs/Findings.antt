-- What exactly is wrong on a line: which part of it, and why. The line is read by itself, and positions are counted from its
-- first byte. What other lines declare is looked up in the whole text.
use Rattle.std.specs.Prelude.{ℕ, ◌+◌, ℤ, pos, neg_ℤ, Bool, true, false, not, ◌&&◌, nat_lt, List, [], ◌∷◌, drop, Option, Some, None, option_map, slice_get, find, if◌then◌else◌}
use Rattle.std.specs.List.{prefix_len}
use Rattle.rv_isa.specs.Table.{is_shift}
use Rattle.src_text.specs.Line.{lines_of}
use Rattle.src_text.specs.declared.line.Line.{Line}
use Rattle.src_text.specs.declared.token.Token.{Token}
use Rattle.rv_assembler.specs.declared.fault.SourceFault.{SourceFault}
use Rattle.rv_assembler.specs.declared.fault.SourceFault as fault
use Rattle.rv_assembler.specs.declared.statement.Code.{Code}
use Rattle.rv_assembler.specs.declared.statement.Code as code
use Rattle.rv_assembler.specs.declared.statement.Effect.{Effect}
use Rattle.rv_assembler.specs.declared.statement.Family.{Family}
use Rattle.rv_assembler.specs.declared.statement.Statement.{Statement}
use Rattle.rv_assembler.specs.declared.statement.Statement as statement
use Rattle.rv_assembler.specs.declared.parsing.Saying.{Saying}
use Rattle.rv_assembler.specs.declared.parsing.Reading.{Reading}
use Rattle.rv_assembler.specs.declared.parsing.Reading.TheVariants.{Bad, Good}
use Rattle.rv_assembler.specs.Number.{natural_of}
use Rattle.rv_assembler.specs.Operand.{bytes_of}
use Rattle.rv_assembler.specs.Shape.{is_name, is_number, is_colon, is_plain}
use Rattle.rv_assembler.specs.Fault.{are_cores}
use Rattle.rv_assembler.specs.Reading.{reading_of, version_line}
use Rattle.src_text.specs.declared.token.Span.{Span}
use Rattle.sentences.specs.declared.known.Known.{Known}
use Rattle.sentences.specs.declared.known.Sort as sort
use Rattle.sentences.specs.declared.known.Sort.{Sort}
use Rattle.sentences.specs.declared.findings.Cause.{Cause}
use Rattle.sentences.specs.declared.findings.Cause as cause
use Rattle.sentences.specs.declared.findings.Finding.{Finding}
use Rattle.sentences.specs.declared.findings.Wanted.{Wanted}
use Rattle.sentences.specs.declared.findings.Wanted as wanted
use Rattle.sentences.specs.declared.findings.Want.{Want}
use Rattle.sentences.specs.Marks.{part_by, bad_place_from, is_high}
use Rattle.sentences.specs.Examples.{line_alone, form_for}
use Rattle.sentences.specs.Operands.{sorts_of, wrong_among}
use Rattle.sentences.specs.declared.examples.Form.{Form}
use Rattle.sentences.specs.declared.wrong_operands.WrongOperand.{WrongOperand}
use Rattle.src_text.specs.Lexeme.{is_bad_number, lexemes_of, span_of}
use Rattle.sentences.specs.Known.{known_in}
use Rattle.sentences.specs.declared.standing.Standing.{Standing}
use Rattle.sentences.specs.declared.standing.Standing as standing
use Rattle.sentences.specs.Standing.{standing_in}

-- the version of a text: a line by itself has the number 1, so it isn't the version line 2 or 0
unfoldable pub version_for_line : List ℕ → ℕ
version_for_line text = if nat_lt 0 (version_line text (lines_of text)) then 2 else 0

-- what the line says by itself
unfoldable pub said_alone : List ℕ → List ℕ → Line → Reading
said_alone text bytes l = reading_of (version_for_line text) bytes l

abbrev pub finding_at : Cause → Token → Finding
finding_at c t = record { part = part_by t; cause = c }

-- the tokens after the label
abbrev pub behind_label : List Token → List Token
behind_label [] = []
behind_label (t ∷ []) = t ∷ []
behind_label (t ∷ u ∷ ts) = if is_name t.kind && is_colon u.kind then ts else t ∷ u ∷ ts

-- the word of the statement
abbrev pub at_word : Cause → List Token → Option Finding
at_word c ts = option_map (finding_at c) (slice_get (behind_label ts) 0)

abbrev pub is_number_token : Token → Bool
is_number_token t = is_number t.kind

-- the first number
abbrev pub at_number : Cause → List Token → Option Finding
at_number c ts = option_map (finding_at c) (find is_number_token ts)

abbrev pub is_number_behind : ℕ → Token → Bool
is_number_behind place t = is_number_token t && nat_lt place t.start

abbrev pub interval_part : Token → Option Token → Span
interval_part t None = part_by t
interval_part t (Some u) = record { start = t.start; end = u.end }

abbrev pub interval_from : Cause → List Token → Option Token → Option Finding
interval_from c ts None = None
interval_from c ts (Some t) = Some (record { part = interval_part t (find (is_number_behind t.start) ts); cause = c })

-- from the first number to the next one: both ends of an interval
abbrev pub at_interval : Cause → List Token → Option Finding
at_interval c ts = interval_from c ts (find is_number_token ts)

-- a byte that may not stand outside of comments, and the bytes of the same letter
abbrev pub at_byte : List ℕ → Option ℕ → Option Finding
at_byte bytes None = None
at_byte bytes (Some i) = Some (record { part = record { start = i; end = i + 1 + prefix_len is_high (drop (i + 1) bytes) }; cause = cause.TheVariants.Byte })

-- a part that should be a number and isn't one
abbrev pub at_part : Option Span → Option Finding
at_part None = None
at_part (Some p) = Some (record { part = p; cause = cause.TheVariants.NoNumber })

-- the first number, which isn't from `low` to `high`
abbrev pub at_range : ℤ → ℤ → List Token → Option Finding
at_range low high ts = at_number (cause.TheVariants.Range low high) ts

-- a target, which isn't an even offset from `low` to `high`
abbrev pub at_offset : ℤ → ℤ → Token → Finding
at_offset low high t = finding_at (cause.TheVariants.Offset low high) t

-- the number or the target of an instruction that is out of range
unfoldable pub code_out_of_range : List Token → Code → Option Finding
code_out_of_range ts (code.TheVariants.Upper adds_pc rd n) = at_range (pos 0) (pos 1048575) ts
code_out_of_range ts (code.TheVariants.Jump rd t) = Some (at_offset (neg_ℤ (pos 1048576)) (pos 1048574) t)
code_out_of_range ts (code.TheVariants.JumpRegister rd base n) = at_range (neg_ℤ (pos 2048)) (pos 2047) ts
code_out_of_range ts (code.TheVariants.Branch c a b t) = Some (at_offset (neg_ℤ (pos 4096)) (pos 4094) t)
code_out_of_range ts (code.TheVariants.Load w rd base n) = at_range (neg_ℤ (pos 2048)) (pos 2047) ts
code_out_of_range ts (code.TheVariants.Store w src base n) = at_range (neg_ℤ (pos 2048)) (pos 2047) ts
code_out_of_range ts (code.TheVariants.OpImm o rd a n) =
    if is_shift o then at_range (pos 0) (pos 31) ts else at_range (neg_ℤ (pos 2048)) (pos 2047) ts
code_out_of_range ts _ = None

-- how many words a region is declared to have
abbrev pub words_of_sort : Sort → ℕ
words_of_sort (sort.TheVariants.Region len) = natural_of len
words_of_sort _ = 0

abbrev pub words_of_region : Option Known → ℕ
words_of_region None = 0
words_of_region (Some k) = words_of_sort k.sort

-- tasks on other cores than 0 to 15, or else an entry that isn't the address of an instruction
abbrev pub tasks_out_of_range : List Token → Family → Option Finding
tasks_out_of_range ts f =
    if are_cores f then Some (finding_at cause.TheVariants.Address f.entry) else at_number cause.TheVariants.Cores ts

-- the number or the label that is out of range
unfoldable pub out_of_range_at : List ℕ → List ℕ → List Token → Statement → Option Finding
out_of_range_at text bytes ts (statement.TheVariants.Instruction k) = code_out_of_range ts k
out_of_range_at text bytes ts (statement.TheVariants.Region name len) = at_number cause.TheVariants.Length ts
out_of_range_at text bytes ts (statement.TheVariants.Word region index value) =
    at_number (cause.TheVariants.Index (words_of_region (known_in text (bytes_of bytes region)))) ts
out_of_range_at text bytes ts (statement.TheVariants.Tasks f) = tasks_out_of_range ts f
out_of_range_at text bytes ts (statement.TheVariants.Uses e) =
    at_interval (cause.TheVariants.Interval (words_of_region (known_in text (bytes_of bytes e.region)))) ts
out_of_range_at text bytes ts _ = None

-- a name that is declared before: by an earlier line, or by this line's label
abbrev pub declared_finding : Token → Option Known → Option Finding
declared_finding t None = None
declared_finding t (Some k) = Some (finding_at (cause.TheVariants.Declared k.sort k.line) t)

-- whether the first declaration of a name stands before a line
abbrev pub is_before : ℕ → Option Known → Bool
is_before line None = false
is_before line (Some k) = nat_lt k.line line

-- the name that a statement declares
abbrev pub declared_token : Statement → Option Token
declared_token (statement.TheVariants.Region name len) = Some name
declared_token (statement.TheVariants.Lock name) = Some name
declared_token _ = None

abbrev pub doubled_token : Statement → Option Token → Bool → Option Token
doubled_token s label true = label
doubled_token s label false = declared_token s

abbrev pub known_token : List ℕ → List ℕ → Option Token → Option Known
known_token text bytes None = None
known_token text bytes (Some t) = known_in text (bytes_of bytes t)

abbrev pub declared_at_token : List ℕ → List ℕ → Option Token → Option Finding
declared_at_token text bytes None = None
declared_at_token text bytes (Some t) = declared_finding t (known_in text (bytes_of bytes t))

-- the label, if an earlier line declares it, otherwise the name of the statement
unfoldable pub doubled_at : List ℕ → List ℕ → ℕ → Saying → Option Finding
doubled_at text bytes line s =
    declared_at_token text bytes (doubled_token s.statement s.label (is_before line (known_token text bytes s.label)))

abbrev pub wanted_as : Wanted → Token → Want
wanted_as w t = record { token = t; as_what = w }

-- a name that isn't declared, or isn't declared as what is wanted
abbrev pub unknown_finding : Want → Option Known → Finding
unknown_finding w None = finding_at (cause.TheVariants.Undeclared w.as_what) w.token
unknown_finding w (Some k) = finding_at (cause.TheVariants.Unfit w.as_what k.sort k.line) w.token

abbrev pub is_region_sort : Sort → Bool
is_region_sort (sort.TheVariants.Region len) = true
is_region_sort _ = false

abbrev pub is_known_region : Option Known → Bool
is_known_region None = false
is_known_region (Some k) = is_region_sort k.sort

-- the name that an instruction needs, and as what
abbrev pub want_of_code : Code → Option Want
want_of_code (code.TheVariants.Jump rd t) = Some (wanted_as wanted.TheVariants.Label t)
want_of_code (code.TheVariants.Branch c a b t) = Some (wanted_as wanted.TheVariants.Label t)
want_of_code (code.TheVariants.LoadAddress rd t) = Some (wanted_as wanted.TheVariants.Address t)
want_of_code _ = None

-- an effect needs its region first, and then its lock
abbrev pub want_of_effect : Effect → Bool → Option Want
want_of_effect e true = option_map (wanted_as wanted.TheVariants.Lock) e.lock
want_of_effect e false = Some (wanted_as wanted.TheVariants.Region e.region)

abbrev pub want_of : List ℕ → List ℕ → Statement → Option Want
want_of text bytes (statement.TheVariants.Instruction k) = want_of_code k
want_of text bytes (statement.TheVariants.Word region index value) = Some (wanted_as wanted.TheVariants.Region region)
want_of text bytes (statement.TheVariants.Tasks f) = Some (wanted_as wanted.TheVariants.Label f.entry)
want_of text bytes (statement.TheVariants.Uses e) = want_of_effect e (is_known_region (known_in text (bytes_of bytes e.region)))
want_of text bytes _ = None

abbrev pub unknown_if_any : List ℕ → List ℕ → Option Want → Option Finding
unknown_if_any text bytes None = None
unknown_if_any text bytes (Some w) = Some (unknown_finding w (known_in text (bytes_of bytes w.token)))

-- the name that isn't declared as what the statement needs
unfoldable pub unknown_at : List ℕ → List ℕ → Statement → Option Finding
unknown_at text bytes s = unknown_if_any text bytes (want_of text bytes s)

abbrev pub standing_finding : List Token → Standing → Option Finding
standing_finding ts standing.TheVariants.NoPhase = at_word cause.TheVariants.NoPhase ts
standing_finding ts standing.TheVariants.Free = None
standing_finding ts (standing.TheVariants.Taken line) = at_word (cause.TheVariants.CoreInUse line) ts

-- tasks before any phase, or on a core that has one; an effect without a task
unfoldable pub misplaced_at : List ℕ → ℕ → List Token → Statement → Option Finding
misplaced_at text line ts (statement.TheVariants.Tasks f) = standing_finding ts (standing_in text line f)
misplaced_at text line ts (statement.TheVariants.Uses e) = at_word cause.TheVariants.NoTask ts
misplaced_at text line ts _ = None

-- what there is too much of
abbrev pub excess : Statement → Option Cause
excess (statement.TheVariants.Instruction k) = Some cause.TheVariants.CodeWords
excess (statement.TheVariants.Region name len) = Some cause.TheVariants.Regions
excess (statement.TheVariants.Lock name) = Some cause.TheVariants.Locks
excess statement.TheVariants.Phase = Some cause.TheVariants.Phases
excess (statement.TheVariants.Tasks f) = Some cause.TheVariants.Tasks
excess _ = None

abbrev pub at_word_if : List Token → Option Cause → Option Finding
at_word_if ts None = None
at_word_if ts (Some c) = at_word c ts

unfoldable pub limit_at : List Token → Statement → Option Finding
limit_at ts s = at_word_if ts (excess s)

-- the operand that is wrong, if one alone is; otherwise the word, which takes operands of the form
abbrev pub operand_or_word : Token → Form → Option WrongOperand → Finding
operand_or_word t f None = finding_at (cause.TheVariants.Operands (Some f)) t
operand_or_word t f (Some w) = record { part = w.part; cause = cause.TheVariants.Operand (part_by t) w f }

abbrev pub operands_finding : ℕ → List ℕ → Token → List Token → Option Form → Finding
operands_finding version bytes t ts None = finding_at (cause.TheVariants.Operands None) t
operands_finding version bytes t ts (Some f) = operand_or_word t f (wrong_among version bytes 1 (sorts_of f) ts)

-- in place of the statement's word there is something else, or the operands are wrong
abbrev pub word_or_operands : ℕ → List ℕ → Token → List Token → Finding
word_or_operands version bytes t ts =
    if is_name t.kind then operands_finding version bytes t ts (form_for version (bytes_of bytes t)) else finding_at cause.TheVariants.NoWord t

abbrev pub at_first : ℕ → List ℕ → List Token → Option Finding
at_first version bytes [] = None
at_first version bytes (t ∷ ts) = Some (word_or_operands version bytes t ts)

-- the label that may not be declared, if the line has one
abbrev pub dotted_label : List ℕ → List Token → Option Token
dotted_label bytes [] = None
dotted_label bytes (t ∷ []) = None
dotted_label bytes (t ∷ u ∷ ts) = if is_name t.kind && is_colon u.kind && not (is_plain bytes t) then Some t else None

abbrev pub label_or_statement : ℕ → List ℕ → List Token → Option Token → Option Finding
label_or_statement version bytes ts None = at_first version bytes (behind_label ts)
label_or_statement version bytes ts (Some t) = Some (finding_at cause.TheVariants.Dotted t)

-- a label that may not be declared, what stands in the place of the statement's word, an operand that is wrong, or a word whose
-- operands are others
unfoldable pub operand_at : ℕ → List ℕ → List Token → Option Finding
operand_at version bytes ts = label_or_statement version bytes ts (dotted_label bytes ts)

-- whether the line has a label, and what stands behind it is a name with a colon too
abbrev pub is_second_label : List Token → Bool
is_second_label (t ∷ u ∷ v ∷ w ∷ ts) = is_name t.kind && (is_colon u.kind && (is_name v.kind && is_colon w.kind))
is_second_label _ = false

-- why a word is that of no statement
abbrev pub unknown_word : List Token → Cause
unknown_word ts = if is_second_label ts then cause.TheVariants.SecondLabel else cause.TheVariants.Word

-- by what the line says
abbrev pub finding_by : List ℕ → List ℕ → List Token → Reading → SourceFault → Option Finding
finding_by text bytes ts (Bad r) f = None
finding_by text bytes ts (Good s) (fault.TheVariants.OutOfRange line) = out_of_range_at text bytes ts s.statement
finding_by text bytes ts (Good s) (fault.TheVariants.DoubleName line) = doubled_at text bytes line s
finding_by text bytes ts (Good s) (fault.TheVariants.UnknownName line) = unknown_at text bytes s.statement
finding_by text bytes ts (Good s) (fault.TheVariants.Misplaced line) = misplaced_at text line ts s.statement
finding_by text bytes ts (Good s) (fault.TheVariants.Limit line) = limit_at ts s.statement
finding_by text bytes ts (Good s) _ = None

-- by the tokens alone, or else by what the line says
unfoldable pub finding_on : List ℕ → List ℕ → Line → SourceFault → Option Finding
finding_on text bytes l (fault.TheVariants.UnknownWord line) = at_word (unknown_word l.tokens) l.tokens
finding_on text bytes l (fault.TheVariants.BadOperand line) = operand_at (version_for_line text) bytes l.tokens
finding_on text bytes l f = finding_by text bytes l.tokens (said_alone text bytes l) f

abbrev pub finding_in : List ℕ → List ℕ → Option Line → SourceFault → Option Finding
finding_in text bytes None f = None
finding_in text bytes (Some l) f = finding_on text bytes l f

-- what is wrong on the line with these bytes
abbrev pub finding_of : List ℕ → List ℕ → SourceFault → Option Finding
finding_of text bytes (fault.TheVariants.BadByte line) = at_byte bytes (bad_place_from 0 bytes)
finding_of text bytes (fault.TheVariants.BadNumber line) = at_part (option_map span_of (find is_bad_number (lexemes_of 0 bytes)))
finding_of text bytes f = finding_in text bytes (line_alone bytes) f

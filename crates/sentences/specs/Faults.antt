-- The sentences on a text that is refused: the line with the fault, what is wrong on it, and how to fix it. Each line is
-- indented, which tells it from the lines of an answer.
use Rattle.std.specs.Prelude.{ℕ, ℤ, ◌-◌, ◌==◌, Bool, ◌&&◌, ◌||◌, nat_lt, slice_index_or, List, [], ◌++◌, length, Option, Some, None, codes, if◌then◌else◌}
use Rattle.std.specs.Fmt.{decimal, signed_decimal}
use Rattle.text_pieces.specs.Pieces.{newline}
use Rattle.src_text.specs.Byte.{is_digit}
use Rattle.rv_assembler.specs.declared.fault.SourceFault.{SourceFault}
use Rattle.rv_assembler.specs.declared.fault.SourceFault as fault
use Rattle.text_places.specs.Lines.{numbered_line}
use Rattle.text_places.specs.Texts.{quoted_line}
use Rattle.sentences.specs.declared.known.Sort.{Sort}
use Rattle.sentences.specs.declared.known.Sort as sort
use Rattle.sentences.specs.declared.findings.Wanted.{Wanted}
use Rattle.sentences.specs.declared.findings.Wanted as wanted
use Rattle.sentences.specs.declared.findings.Cause.{Cause}
use Rattle.sentences.specs.declared.findings.Cause as cause
use Rattle.sentences.specs.declared.findings.Finding.{Finding}
use Rattle.sentences.specs.Marks.{bytes_between, mark_line, marked_text}
use Rattle.sentences.specs.declared.elsewhere.Elsewhere.{Elsewhere}
use Rattle.sentences.specs.Elsewhere.{instead, word_elsewhere}
use Rattle.sentences.specs.declared.examples.Form.{Form}
use Rattle.sentences.specs.declared.examples.Form as form
use Rattle.sentences.specs.Examples.{operands_as}
use Rattle.sentences.specs.declared.wrong_operands.OperandSort.{OperandSort}
use Rattle.sentences.specs.declared.wrong_operands.OperandSort as operand
use Rattle.sentences.specs.declared.wrong_operands.WrongOperand.{WrongOperand}
use Rattle.src_text.specs.declared.token.Span.{Span}
use Rattle.sentences.specs.Findings.{finding_of}
use Rattle.sentences.specs.Others.{others}

-- the line with the fault; none if the fault isn't that of a line
abbrev pub faulty_line : SourceFault → Option ℕ
faulty_line fault.TheVariants.TooLarge = None
faulty_line (fault.TheVariants.BadByte line) = Some line
faulty_line (fault.TheVariants.BadNumber line) = Some line
faulty_line (fault.TheVariants.LineLimit line) = Some line
faulty_line (fault.TheVariants.UnknownWord line) = Some line
faulty_line (fault.TheVariants.BadOperand line) = Some line
faulty_line (fault.TheVariants.OutOfRange line) = Some line
faulty_line (fault.TheVariants.DoubleName line) = Some line
faulty_line (fault.TheVariants.UnknownName line) = Some line
faulty_line (fault.TheVariants.Misplaced line) = Some line
faulty_line (fault.TheVariants.Limit line) = Some line
faulty_line fault.TheVariants.Memory = None

-- what is wrong, by the kind of the fault
abbrev pub complaint : SourceFault → List ℕ
complaint fault.TheVariants.TooLarge = codes "The text has more than 1048576 bytes."
complaint (fault.TheVariants.BadByte line) = codes "Outside of comments only blanks, letters, digits and `_ . , : ( ) -` may stand."
complaint (fault.TheVariants.BadNumber line) = codes "What begins with a digit or `-` is to be a number from -2147483648 to 4294967295."
complaint (fault.TheVariants.LineLimit line) = codes "A line has at most 1024 bytes, and a text at most 65536 lines."
complaint (fault.TheVariants.UnknownWord line) = codes "No statement begins with this word."
complaint (fault.TheVariants.BadOperand line) = codes "This isn't the form of the statement, or a declared name begins with `.`."
complaint (fault.TheVariants.OutOfRange line) = codes "A number is out of its range, or a label is too far away."
complaint (fault.TheVariants.DoubleName line) = codes "The name that this line declares is declared already."
complaint (fault.TheVariants.UnknownName line) = codes "No line declares this name as what is wanted here."
complaint (fault.TheVariants.Misplaced line) = codes "This statement may not stand here."
complaint (fault.TheVariants.Limit line) = codes "With this line the program is larger than a program may be."
complaint fault.TheVariants.Memory = codes "There was no memory."

-- how to fix it, by the kind of the fault
abbrev pub amendment : SourceFault → List ℕ
amendment fault.TheVariants.TooLarge = codes "Leave out blanks and comments, or make two programs of it."
amendment (fault.TheVariants.BadByte line) = codes "Leave the byte out. If it belongs to a comment, put `#` before it."
amendment (fault.TheVariants.BadNumber line) = codes "Write decimal digits, or `0x` and hexadecimal digits. A name may not begin with a digit."
amendment (fault.TheVariants.LineLimit line) = codes "Shorten the line, or leave out lines before it."
amendment (fault.TheVariants.UnknownWord line) = codes "Write one of the language's statements, for example `addi` with a negative number in place of `subi`. Words are in lower case. A line has one label at most, with `:` behind it. `.forall` needs `.version 2` as the first line that isn't blank."
amendment (fault.TheVariants.BadOperand line) = codes "Write the operands as the table of statements has them, with a comma between two. `addi`, `andi`, `slli` and `li` take a number at the end, and `add`, `and` and `sll` a register."
amendment (fault.TheVariants.OutOfRange line) = codes "Write a number of its range, or a label that is nearer."
amendment (fault.TheVariants.DoubleName line) = codes "Labels, regions and locks share one set of names: choose another name."
amendment (fault.TheVariants.UnknownName line) = codes "Declare it, or look how it is spelled: names are case-sensitive, and a line that has a fault itself declares nothing."
amendment (fault.TheVariants.Misplaced line) = codes "Tasks stand behind a `.phase`, each core has one task in a phase, and effects stand behind their task."
amendment (fault.TheVariants.Limit line) = codes "A program has at most 16384 code words, 65536 data words, 256 regions (4096 in version 2), 32 locks, 64 phases and 64 tasks."
amendment fault.TheVariants.Memory = codes "Give it more memory."

-- how to fix a number or a label that is out of range
abbrev pub range_amendment : Cause → List ℕ
range_amendment (cause.TheVariants.Range low high) = codes "Write a number of this range; `li` makes a larger one in a register."
range_amendment cause.TheVariants.Length = codes "Write a number of this range. All regions of a text have at most 65536 words together."
range_amendment (cause.TheVariants.Offset low high) = codes "Write a label that is nearer, or an even number of this range."
range_amendment (cause.TheVariants.Index words) = codes "Write an index of the region's words, or give the region more of them."
range_amendment (cause.TheVariants.Interval words) = codes "Write an interval of the region's words, also where a step moves it on from task to task, or give the region more of them."
range_amendment cause.TheVariants.Cores = codes "Use cores from 0 to 15: the first core and the number of tasks are at most 16 together."
range_amendment cause.TheVariants.Address = codes "Write a label, or the address of an instruction."
range_amendment c = codes "Write a number of its range, or a label that is nearer."

-- how to fix a statement that may not stand where it does
abbrev pub place_amendment : Cause → List ℕ
place_amendment cause.TheVariants.NoPhase = codes "Write `.phase` before it: tasks stand behind the line of their phase."
place_amendment (cause.TheVariants.CoreInUse line) = codes "Give it another core; or write `.phase` before it, if it is to start when the tasks before it have ended."
place_amendment cause.TheVariants.NoTask = codes "Write it behind the line of its task, before the next `.phase`."
place_amendment c = codes "Tasks stand behind a `.phase`, each core has one task in a phase, and effects stand behind their task."

-- what to write in place of a word or of its operands: for a word that other assemblers know, what this language has; otherwise by
-- the kind of the fault
abbrev pub word_amendment : SourceFault → Option Elsewhere → List ℕ
word_amendment f None = amendment f
word_amendment f (Some w) = instead w

-- what to write in place of a byte that may not stand outside of comments, by what other assemblers take it for
abbrev pub byte_amendment : ℕ → List ℕ → List ℕ
byte_amendment b other =
    if b == 59 then codes "A line has one statement: begin a new line behind it. A comment begins with `#`."
    else if b == 47 then codes "A comment begins with `#`: write it in place of `//` or `/*`."
    else if b == 37 then codes "There is no `%hi` and no `%lo`: `la t0, NAME` puts the address of a region or a label into a register, and `lw t1, 4(t0)` loads behind it."
    else if b == 43 then codes "There are no sums: `la t0, NAME` puts the address of a region into a register, and `lw t1, 4(t0)` loads the word 4 bytes behind it."
    else other

-- what begins with a digit and ends with b or f: other assemblers take it for the local label before or behind
abbrev pub is_local_label : List ℕ → Bool
is_local_label bs = let last = slice_index_or bs (length bs - 1) 0 in is_digit (slice_index_or bs 0 0) && (last == 98 || last == 102)

abbrev pub number_amendment : List ℕ → List ℕ → List ℕ
number_amendment bs other = if is_local_label bs then codes "There are no local labels as `1:`: a label is a name, as `l1:`, and `j l1` jumps to it." else other

-- what to write where no word of a statement stands, by what stands there
abbrev pub no_word_amendment : List ℕ → List ℕ
no_word_amendment bs = if is_digit (slice_index_or bs 0 0) then codes "There are no local labels as `1:`: a label is a name, as `l1:`, and `j l1` jumps to it." else codes "A line may begin with a label, which is a name and `:`. Then an instruction or a directive stands."

-- how to fix a statement's word, its operands, or what stands in its place
abbrev pub statement_amendment : SourceFault → List ℕ → Cause → List ℕ
statement_amendment f word cause.TheVariants.NoWord = no_word_amendment word
statement_amendment f word cause.TheVariants.SecondLabel = codes "Write the first label on a line of its own."
statement_amendment f word c = word_amendment f (word_elsewhere word)

-- the word of the statement whose operands are wrong
abbrev pub word_by : Span → Cause → Span
word_by p (cause.TheVariants.Operand word w f) = word
word_by p _ = p

abbrev pub word_part : Finding → Span
word_part x = word_by x.part x.cause

abbrev pub span_between : List ℕ → Span → List ℕ
span_between bytes p = bytes_between bytes p.start p.end

-- how to fix it, by what is wrong with a part of the line, if that is known
abbrev pub finding_amendment : SourceFault → List ℕ → Option Finding → List ℕ
finding_amendment (fault.TheVariants.OutOfRange line) bytes (Some x) = range_amendment x.cause
finding_amendment (fault.TheVariants.Misplaced line) bytes (Some x) = place_amendment x.cause
finding_amendment (fault.TheVariants.UnknownWord line) bytes (Some x) =
    statement_amendment (fault.TheVariants.UnknownWord line) (span_between bytes (word_part x)) x.cause
finding_amendment (fault.TheVariants.BadOperand line) bytes (Some x) =
    statement_amendment (fault.TheVariants.BadOperand line) (span_between bytes (word_part x)) x.cause
finding_amendment (fault.TheVariants.BadByte line) bytes (Some x) =
    byte_amendment (slice_index_or (span_between bytes x.part) 0 0) (amendment (fault.TheVariants.BadByte line))
finding_amendment (fault.TheVariants.BadNumber line) bytes (Some x) =
    number_amendment (span_between bytes x.part) (amendment (fault.TheVariants.BadNumber line))
finding_amendment f bytes x = amendment f

unfoldable pub indented_line : List ℕ → ℕ → List ℕ
indented_line text line = codes "  " ++ quoted_line text line

-- a sentence as a line
unfoldable pub sentence : List ℕ → List ℕ
sentence words = codes "  " ++ words ++ newline

-- what a name is declared as
abbrev pub sort_text : Sort → List ℕ
sort_text sort.TheVariants.Label = codes "a label."
sort_text (sort.TheVariants.Region len) = codes "a region."
sort_text sort.TheVariants.Lock = codes "a lock."

-- what a name is wanted as
abbrev pub wanted_text : Wanted → List ℕ
wanted_text wanted.TheVariants.Label = codes "a label, and "
wanted_text wanted.TheVariants.Address = codes "a label or a region, and "
wanted_text wanted.TheVariants.Region = codes "a region, and "
wanted_text wanted.TheVariants.Lock = codes "a lock, and "

unfoldable pub has_operands : List ℕ
has_operands = codes " has operands as in `"

unfoldable pub example_text : Form → List ℕ
example_text f = has_operands ++ operands_as f ++ codes "`."

abbrev pub form_text : Form → List ℕ
form_text form.TheVariants.Nothing = codes " has no operands."
form_text f = example_text f

abbrev pub operands_text : Option Form → List ℕ
operands_text None = codes " has other operands than these."
operands_text (Some f) = form_text f

-- what an operand is, or is to be
abbrev pub operand_sort_text : OperandSort → List ℕ
operand_sort_text operand.TheVariants.Register = codes "a register"
operand_sort_text operand.TheVariants.Number = codes "a number"
operand_sort_text operand.TheVariants.Name = codes "a name"
operand_sort_text operand.TheVariants.Based = codes "an offset with a register in parentheses"

unfoldable pub found_text : OperandSort → List ℕ
found_text s = codes ". It is " ++ operand_sort_text s

abbrev pub found_if : Option OperandSort → List ℕ
found_if None = []
found_if (Some s) = found_text s

unfoldable pub wanted_operand : OperandSort → Form → List ℕ
wanted_operand s f = codes ", and " ++ operand_sort_text s ++ codes " is wanted, as in `" ++ operands_as f ++ codes "`."

unfoldable pub is_operand : List ℕ
is_operand = codes " is operand "

-- which operand is wrong, what it is, and what is wanted in its place
unfoldable pub operand_text : WrongOperand → Form → List ℕ
operand_text w f = is_operand ++ decimal w.number ++ found_if w.found ++ wanted_operand w.wanted f

unfoldable pub bound_text : ℤ → List ℕ
bound_text z = signed_decimal z

unfoldable pub bounds_text : ℤ → ℤ → List ℕ
bounds_text low high = bound_text low ++ codes " to " ++ bound_text high ++ codes "."

unfoldable pub isnt_number : List ℕ
isnt_number = codes " isn't a number from "

unfoldable pub is_too_far : List ℕ
is_too_far = codes " is out of reach: an offset is an even number of bytes from "

unfoldable pub range_text : ℤ → ℤ → List ℕ
range_text low high = isnt_number ++ bounds_text low high

unfoldable pub offset_text : ℤ → ℤ → List ℕ
offset_text low high = is_too_far ++ bounds_text low high

unfoldable pub index_text : ℕ → List ℕ
index_text words = codes " isn't the index of a word of the region, which has " ++ decimal words ++ codes ", counted from 0."

unfoldable pub interval_text : ℕ → List ℕ
interval_text words =
    codes " isn't an interval of the region's words for each of the tasks. The region has " ++ decimal words
    ++ codes " words, counted from 0, and an interval has those from its first number to before its second, one at least."

-- which line declares a name, and as what
unfoldable pub declared_as : ℕ → Sort → List ℕ
declared_as line s = codes "line " ++ decimal line ++ codes " declares it as " ++ sort_text s

unfoldable pub again_text : ℕ → Sort → List ℕ
again_text line s = codes " is declared before: " ++ declared_as line s

unfoldable pub wants_core_of : List ℕ
wants_core_of = codes " wants a core for which line "

unfoldable pub has_task_there : List ℕ
has_task_there = codes " declares a task in this phase."

unfoldable pub taken_text : ℕ → List ℕ
taken_text line = wants_core_of ++ decimal line ++ has_task_there

unfoldable pub is_wanted : Wanted → List ℕ
is_wanted w = codes " is wanted as " ++ wanted_text w

unfoldable pub undeclared_text : Wanted → List ℕ
undeclared_text w = is_wanted w ++ codes "no line declares it."

unfoldable pub unfit_text : Wanted → ℕ → Sort → List ℕ
unfit_text w line s = is_wanted w ++ declared_as line s

-- what is wrong with a part of the line, where the sentence has no number and no name in it
abbrev pub plain_cause : Cause → List ℕ
plain_cause cause.TheVariants.Byte = codes " may not stand here. Outside of comments only blanks, letters, digits and `_ . , : ( ) -` may."
plain_cause cause.TheVariants.Word = codes " is an unknown instruction or directive."
plain_cause cause.TheVariants.SecondLabel = codes " is a second label: a line has one at most."
plain_cause cause.TheVariants.NoWord = codes " stands where the word of a statement is to stand."
plain_cause cause.TheVariants.Dotted = codes " may not be a label: a name that is declared doesn't begin with `.`."
plain_cause cause.TheVariants.NoNumber = codes " is no number from -2147483648 to 4294967295."
plain_cause cause.TheVariants.Length = codes " isn't a number from 1 to 65536."
plain_cause cause.TheVariants.Cores = codes " is the first core of these tasks: there is to be at least one task, and all are to be on cores from 0 to 15."
plain_cause cause.TheVariants.Address = codes " isn't the address of an instruction: it is to be a multiple of 4 from 0 to 4294967292."
plain_cause cause.TheVariants.NoPhase = codes " stands before any `.phase`."
plain_cause cause.TheVariants.NoTask = codes " stands behind no task of its phase."
plain_cause cause.TheVariants.CodeWords = codes " makes more than 16384 code words: `li` and `la` give two, and every other instruction one."
plain_cause cause.TheVariants.Regions = codes " makes more than 256 regions (4096 in version 2), or more than 65536 data words."
plain_cause cause.TheVariants.Locks = codes " makes more than 32 locks."
plain_cause cause.TheVariants.Phases = codes " makes more than 64 phases."
plain_cause cause.TheVariants.Tasks = codes " makes more than 64 tasks."
plain_cause _ = []

-- what is wrong with a part of the line; the sentence begins with the part
abbrev pub cause_text : Cause → List ℕ
cause_text (cause.TheVariants.Operands f) = operands_text f
cause_text (cause.TheVariants.Operand word w f) = operand_text w f
cause_text (cause.TheVariants.Range low high) = range_text low high
cause_text (cause.TheVariants.Offset low high) = offset_text low high
cause_text (cause.TheVariants.Index words) = index_text words
cause_text (cause.TheVariants.Interval words) = interval_text words
cause_text (cause.TheVariants.Declared s line) = again_text line s
cause_text (cause.TheVariants.Undeclared w) = undeclared_text w
cause_text (cause.TheVariants.Unfit w s line) = unfit_text w line s
cause_text (cause.TheVariants.CoreInUse line) = taken_text line
cause_text c = plain_cause c

-- the mark under the part, and what is wrong with it
unfoldable pub finding_text : ℕ → List ℕ → Finding → List ℕ
finding_text line bytes x = mark_line line bytes x.part ++ marked_text bytes x.part ++ cause_text x.cause ++ newline

-- what is wrong: by the finding, or without one by the kind of the fault
abbrev pub finding_or_kind : ℕ → List ℕ → SourceFault → Option Finding → List ℕ
finding_or_kind line bytes f None = sentence (complaint f)
finding_or_kind line bytes f (Some x) = finding_text line bytes x

-- nothing is found in a text that is too large
abbrev pub finding_if_small : List ℕ → List ℕ → SourceFault → Option Finding
finding_if_small text bytes f = if nat_lt 1048576 (length text) || nat_lt 1048576 (length bytes) then None else finding_of text bytes f

-- the line, what is wrong on it, the names that are declared as what is wanted, and how to fix it
abbrev pub finding_sentences : List ℕ → SourceFault → ℕ → List ℕ → Option Finding → List ℕ
finding_sentences text f line bytes x =
    indented_line text line ++ finding_or_kind line bytes f x ++ others text x ++ sentence (finding_amendment f bytes x)

unfoldable pub line_sentences : List ℕ → SourceFault → ℕ → List ℕ → List ℕ
line_sentences text f line bytes = finding_sentences text f line bytes (finding_if_small text bytes f)

-- what is wrong and how to fix it, by the kind of the fault alone
abbrev pub kind_sentences : SourceFault → List ℕ
kind_sentences f = sentence (complaint f) ++ sentence (amendment f)

abbrev pub line_or_kind : List ℕ → SourceFault → ℕ → Option (List ℕ) → List ℕ
line_or_kind text f line None = kind_sentences f
line_or_kind text f line (Some bytes) = line_sentences text f line bytes

abbrev pub sentences_at : List ℕ → SourceFault → Option ℕ → List ℕ
sentences_at text f None = kind_sentences f
sentences_at text f (Some line) = line_or_kind text f line (numbered_line text line)

-- what is said of a refused text
abbrev pub refusal_sentences : List ℕ → SourceFault → List ℕ
refusal_sentences text f = sentences_at text f (faulty_line f)

-- A verdict that the referee printed for a claim, with or without its diagnosis, explained: its lines are repeated, and after each
-- comes what it says in words. Forms define which lines these are, and phrases what is said of them.
use Rattle.std.specs.Prelude.{ℕ, ◌+◌, ◌==◌, nat_le, nat_lt, Bool, true, false, ◌&&◌, ◌||◌, not, if◌then◌else◌, List, [], ◌∷◌, ◌++◌, codes, length, take, drop, find, position, unwrap_or, slice_get, slice_index_or, take_while, Option, Some, None, Result, Ok, Err}
use Rattle.std.specs.Char.{is_ascii_digit}
use Rattle.std.specs.List.{before_first}
use Rattle.std.specs.Str.{bytes_eq}
use Rattle.std.specs.Str.Parse.{digits_value}
use Rattle.src_text.specs.Byte.{is_newline}
use Rattle.src_text.specs.Laws.{ended}
use Rattle.src_text.specs.Line.{cut}
use Rattle.region_table.specs.Program.{ProgramParts}
use Rattle.rv_assembler.specs.declared.fault.SourceFault.{SourceFault}
use Rattle.rv_assembler.specs.Source.{source}
use Rattle.text_places.specs.declared.places.Located.{Located}
use Rattle.text_places.specs.Lines.{numbered_line}
use Rattle.text_places.specs.Places.{text_places}
use Rattle.text_places.specs.Texts.{lock_text, word_text}
use Rattle.explained_answer.specs.declared.explaining.Explained as explained
use Rattle.explained_answer.specs.declared.explaining.Explained.{Explained}
use Rattle.explained_answer.specs.declared.verdict_rows.VerdictRow as row
use Rattle.explained_answer.specs.declared.verdict_rows.VerdictRow.{VerdictRow}

-- ---- forms

-- In a form `$` part_stands for one to ten decimal digits, `#` for eight hexadecimal digits, and `*` for all that is left of the line.
-- Every other byte part_stands for itself

abbrev pub is_hexadecimal : ℕ → Bool
is_hexadecimal b = is_ascii_digit b || (nat_le 97 b && nat_le b 102)

-- how many bytes stand before the first that is no digit
unfoldable pub decimals : List ℕ → ℕ
decimals line = unwrap_or (position (λ b. not (is_ascii_digit b)) line) (length line)

unfoldable pub hexadecimals : List ℕ → ℕ
hexadecimals line = unwrap_or (position (λ b. not (is_hexadecimal b)) line) (length line)

abbrev pub has_sign : ℕ → Option ℕ → Bool
has_sign sign None = false
has_sign sign (Some b) = b == sign

-- whether what a byte of a form part_stands for is at the start of a line
abbrev pub part_stands : ℕ → List ℕ → Bool
part_stands sign line =
    if sign == 36 then (nat_lt 0 (decimals line) && nat_lt (decimals line) 11)
    else if sign == 35 then hexadecimals line == 8
    else if sign == 42 then true
    else has_sign sign (slice_get line 0)

-- how many bytes of the line it part_stands for
abbrev pub part_length : ℕ → List ℕ → ℕ
part_length sign line =
    if sign == 36 then decimals line else if sign == 35 then hexadecimals line else if sign == 42 then length line else 1

-- whether a line is of a form
abbrev pub is_of_form : List ℕ → List ℕ → Bool
is_of_form [] line = length line == 0
is_of_form (sign ∷ form) line = part_stands sign line && is_of_form form (drop (part_length sign line) line)

abbrev pub is_sign : ℕ → Bool
is_sign sign = sign == 36 || (sign == 35 || sign == 42)

abbrev pub piece_of : ℕ → List ℕ → List (List ℕ)
piece_of sign part = if is_sign sign then part ∷ [] else []

-- the pieces of a line: what `$`, `#` and `*` stand for in it, in their order
abbrev pub pieces : List ℕ → List ℕ → List (List ℕ)
pieces [] line = []
pieces (sign ∷ form) line = piece_of sign (take (part_length sign line) line) ++ pieces form (drop (part_length sign line) line)

-- ---- the lines of a verdict and a diagnosis

abbrev pub form_of : VerdictRow → List ℕ
form_of row.TheVariants.Agrees = codes "agrees"
form_of row.TheVariants.Grants = codes "differs grants $"
form_of row.TheVariants.Tasks = codes "differs tasks"
form_of row.TheVariants.Load = codes "differs load $ $ $ word $ value 0x#"
form_of row.TheVariants.NoLoad = codes "differs load $ $ $ end"
form_of row.TheVariants.Answer = codes "differs answer $"
form_of row.TheVariants.Over = codes "because over"
form_of row.TheVariants.Phase = codes "because phase $"
form_of row.TheVariants.NoTask = codes "because no-task"
form_of row.TheVariants.Ended = codes "because ended"
form_of row.TheVariants.Waits = codes "because waits $"
form_of row.TheVariants.Held = codes "because held-by $"
form_of row.TheVariants.Unfinished = codes "because unfinished $ $"
form_of row.TheVariants.Started = codes "tasks $"
form_of row.TheVariants.FirstTask = codes "task $ $"
form_of row.TheVariants.NoneEarliest = codes "earliest none"
form_of row.TheVariants.Earliest = codes "earliest $ $ $ word $ value 0x#"
form_of row.TheVariants.Claimed = codes "claimed word $ value 0x#"
form_of row.TheVariants.NoneClaimed = codes "claimed end"
form_of row.TheVariants.Name = codes "name *"
form_of row.TheVariants.At = codes "at 0x# line $: *"
form_of row.TheVariants.Taken = codes "after grants $"
form_of row.TheVariants.Stored = codes "stored phase $ core $ at 0x# line $: *"
form_of row.TheVariants.NeverStored = codes "stored never"
form_of row.TheVariants.Holds = codes "holds $"
form_of row.TheVariants.NothingClaimed = codes "claimed nothing"
form_of row.TheVariants.ClaimedLine = codes "claimed *"
form_of row.TheVariants.RightLine = codes "*"

-- the lines after `differs answer` have lines of answers, which may be any bytes
unfoldable pub answer_rows : List VerdictRow
answer_rows = row.TheVariants.Answer ∷ row.TheVariants.NothingClaimed ∷ row.TheVariants.ClaimedLine ∷ row.TheVariants.RightLine ∷ []

-- the lines of all other verdicts
unfoldable pub claim_rows : List VerdictRow
claim_rows =
    row.TheVariants.Agrees ∷ row.TheVariants.Grants ∷ row.TheVariants.Tasks ∷ row.TheVariants.Load ∷ row.TheVariants.NoLoad
    ∷ row.TheVariants.Over ∷ row.TheVariants.Phase ∷ row.TheVariants.NoTask ∷ row.TheVariants.Ended ∷ row.TheVariants.Waits
    ∷ row.TheVariants.Held ∷ row.TheVariants.Unfinished ∷ row.TheVariants.Started ∷ row.TheVariants.FirstTask
    ∷ row.TheVariants.NoneEarliest ∷ row.TheVariants.Earliest ∷ row.TheVariants.Claimed ∷ row.TheVariants.NoneClaimed
    ∷ row.TheVariants.Name ∷ row.TheVariants.At ∷ row.TheVariants.Taken ∷ row.TheVariants.Stored ∷ row.TheVariants.NeverStored
    ∷ row.TheVariants.Holds ∷ []

abbrev pub has_form : List ℕ → VerdictRow → Bool
has_form line r = is_of_form (form_of r) line

-- which line of a verdict a line is; `on_answer` says that the verdict is on the answer
abbrev pub verdict_row : Bool → List ℕ → Option VerdictRow
verdict_row on_answer line = if on_answer then find (has_form line) answer_rows else find (has_form line) claim_rows

-- the lines with which a verdict may begin
abbrev pub is_opening : VerdictRow → Bool
is_opening row.TheVariants.Agrees = true
is_opening row.TheVariants.Grants = true
is_opening row.TheVariants.Tasks = true
is_opening row.TheVariants.Load = true
is_opening row.TheVariants.NoLoad = true
is_opening row.TheVariants.Answer = true
is_opening _ = false

abbrev pub opens_by : Option VerdictRow → Bool
opens_by None = false
opens_by (Some r) = is_opening r

abbrev pub is_on_answer : List ℕ → Bool
is_on_answer first = has_form first row.TheVariants.Answer

-- ---- what is said

-- In a phrase `$` is the next piece of the line as it part_stands, `@` the data word with this number, `%` the lock with this number,
-- and `~` passes over the next piece. Every other byte is itself
abbrev pub phrase_of : VerdictRow → List ℕ
phrase_of row.TheVariants.Agrees = codes "  The reference machine takes the claimed grants, makes the loads that are claimed, and ends with the claimed answer.\n"
phrase_of row.TheVariants.Grants = codes "  Grant $ of the claim, counted from 0, is the first that isn't legal. If the claim has no such grant, its list ends too early.\n"
phrase_of row.TheVariants.Tasks = codes "  The claim has loads of other tasks than those that started, or has them in another order.\n"
phrase_of row.TheVariants.Load = codes "  By phases and cores, the first load that differs is, in phase $ on core $, load $: from @ the reference machine reads 0x$.\n"
phrase_of row.TheVariants.NoLoad = codes "  In phase $ the task of core $ makes no load $, which the claim has.\n"
phrase_of row.TheVariants.Answer = codes "  Line $ of the answer, counted from 0, is the first that differs.\n"
phrase_of row.TheVariants.Over = codes "  All tasks of the last phase that began have ended.\n"
phrase_of row.TheVariants.Phase = codes "  The current phase is then phase $, and the grant is of another one.\n"
phrase_of row.TheVariants.NoTask = codes "  The core has no task in the current phase.\n"
phrase_of row.TheVariants.Ended = codes "  The core's task has ended.\n"
phrase_of row.TheVariants.Waits = codes "  The core's task waits for another lock: %.\n"
phrase_of row.TheVariants.Held = codes "  The task of core $ holds the lock.\n"
phrase_of row.TheVariants.Unfinished = codes "  The list ends too early: the task of core $ waits for %, which no task holds.\n"
phrase_of row.TheVariants.Started = codes "  Tasks that started in the reference machine: $.\n"
phrase_of row.TheVariants.FirstTask = codes "  The first task that the claim lacks, or has too much, is in phase $ the task of core $.\n"
phrase_of row.TheVariants.NoneEarliest = codes "  Each load of the reference machine is claimed as it is made.\n"
phrase_of row.TheVariants.Earliest = codes "  In the order of the reference machine, the first load that differs is, in phase $ on core $, load $: from @ the reference machine reads 0x$.\n"
phrase_of row.TheVariants.Claimed = codes "  The claim says that it is from @, and reads 0x$.\n"
phrase_of row.TheVariants.NoneClaimed = codes "  The claim has no such load of this task.\n"
phrase_of row.TheVariants.Name = []
phrase_of row.TheVariants.At = codes "~  The load is this line of the text:\n  $ | $\n"
phrase_of row.TheVariants.Taken = codes "  Grants that the reference machine took before it: $.\n"
phrase_of row.TheVariants.Stored = codes "  The last store to its word before it was made in phase $ by core $, by this line:\n~  $ | $\n"
phrase_of row.TheVariants.NeverStored = codes "  No task stored to its word before it.\n"
phrase_of row.TheVariants.Holds = codes "  Its task holds %.\n"
phrase_of row.TheVariants.NothingClaimed = codes "  The claim has no such line, or has the line `nothing`.\n"
phrase_of row.TheVariants.ClaimedLine = codes "  The claim has this line in its place.\n"
phrase_of row.TheVariants.RightLine = codes "  This is the right line.\n"

unfoldable pub piece_value : List ℕ → ℕ
piece_value piece = digits_value 10 (take_while is_ascii_digit piece)

-- the number that a piece says, if it is below 2^32
abbrev pub piece_number : List ℕ → Option ℕ
piece_number piece = if nat_le (piece_value piece) 4294967295 then Some (piece_value piece) else None

abbrev pub word_named : Located → List ℕ → Option ℕ → List ℕ
word_named l piece None = codes "word " ++ piece
word_named l piece (Some word) = word_text l.program.regions word

abbrev pub lock_named : Located → List ℕ → Option ℕ → List ℕ
lock_named l piece None = codes "lock " ++ piece
lock_named l piece (Some lock) = lock_text l.program.locks lock

-- what a byte of a phrase says of a piece
abbrev pub said_of : Located → ℕ → List ℕ → List ℕ
said_of l mark piece =
    if mark == 36 then piece
    else if mark == 126 then []
    else if mark == 64 then word_named l piece (piece_number piece)
    else if mark == 37 then lock_named l piece (piece_number piece)
    else mark ∷ []

abbrev pub is_piece_mark : ℕ → Bool
is_piece_mark mark = mark == 36 || (mark == 126 || (mark == 64 || mark == 37))

-- a phrase with the pieces from this one on
abbrev pub phrased : Located → List (List ℕ) → ℕ → List ℕ → List ℕ
phrased l found next [] = []
phrased l found next (mark ∷ phrase) =
    said_of l mark (slice_index_or found next []) ++ phrased l found (if is_piece_mark mark then next + 1 else next) phrase

-- ---- a verdict

-- which piece of a line is the number of a line of the text, which the next piece quotes
abbrev pub quoted_piece : VerdictRow → Option ℕ
quoted_piece row.TheVariants.At = Some 1
quoted_piece row.TheVariants.Stored = Some 3
quoted_piece _ = None

abbrev pub is_line : Option (List ℕ) → List ℕ → Bool
is_line None bytes = false
is_line (Some line) bytes = bytes_eq line bytes

abbrev pub is_numbered : List ℕ → Option ℕ → List ℕ → Bool
is_numbered text None bytes = false
is_numbered text (Some number) bytes = is_line (numbered_line text number) bytes

abbrev pub quotes_piece : List ℕ → List (List ℕ) → Option ℕ → Bool
quotes_piece text found None = true
quotes_piece text found (Some piece) = is_numbered text (piece_number (slice_index_or found piece [])) (slice_index_or found (piece + 1) [])

-- whether a line that quotes a line of the text has its bytes
abbrev pub quotes : List ℕ → VerdictRow → List (List ℕ) → Bool
quotes text r found = quotes_piece text found (quoted_piece r)

abbrev pub said_if : Bool → Located → VerdictRow → List ℕ → List (List ℕ) → Option (List ℕ)
said_if true l r line found = Some (ended line ++ phrased l found 0 (phrase_of r))
said_if false l r line found = None

abbrev pub row_said : List ℕ → Located → List ℕ → Option VerdictRow → Option (List ℕ)
row_said text l line None = None
row_said text l line (Some r) = said_if (quotes text r (pieces (form_of r) line)) l r line (pieces (form_of r) line)

-- a line, and what is said after it; None if a verdict has no such line
abbrev pub said_line : List ℕ → Located → Bool → List ℕ → Option (List ℕ)
said_line text l on_answer line = row_said text l line (verdict_row on_answer line)

abbrev pub onward : ℕ → Option (List ℕ) → (List ℕ → Explained) → Explained
onward number None go_on = explained.TheVariants.Refused number
onward number (Some said) go_on = go_on said

-- the lines of a verdict from the line of this number on, where this has been said before; or its first other line
abbrev pub verdict_from : List ℕ → Located → Bool → ℕ → List ℕ → List (List ℕ) → Explained
verdict_from text l on_answer number before [] = explained.TheVariants.Text before
verdict_from text l on_answer number before (line ∷ lines) =
    onward number (said_line text l on_answer line) (λ (said : List ℕ). verdict_from text l on_answer (number + 1) (before ++ said) lines)

-- a verdict begins with one of its openings
abbrev pub verdict_after : List ℕ → Located → List ℕ → List ℕ → Explained
verdict_after text l answer first =
    if opens_by (verdict_row (is_on_answer first) first) then verdict_from text l (is_on_answer first) 1 [] (cut answer) else explained.TheVariants.Refused 1

abbrev pub located_verdict : List ℕ → Located → List ℕ → Explained
located_verdict text l answer = verdict_after text l answer (before_first is_newline answer)

abbrev pub verdict_by : List ℕ → List ℕ → Result ProgramParts SourceFault → Explained
verdict_by text answer (Ok program) = located_verdict text (record { program = program; places = text_places text }) answer
verdict_by text answer (Err fault) = explained.TheVariants.Refused 1

-- a verdict on a claim of a run of the text's program, explained; or its first line that a verdict can't have there, from 1
unfoldable pub explained_verdict : (text answer : List ℕ) → Explained
explained_verdict text answer = verdict_by text answer (source text)

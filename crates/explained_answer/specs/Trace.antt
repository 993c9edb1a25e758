-- Which answers are the document of a run of a text, and where another answer first differs from one. run_replay defines what a
-- document is.
use Rattle.std.specs.Prelude.{◌≡◌, ◌≢◌, ◌⊎◌, ℕ, ◌+◌, ◌<◌, List, ◌++◌, codes, length}
use Rattle.text_pieces.specs.Pieces.{newline}
use Rattle.text_pieces.specs.Field.{field, IsFrom, NoneStands}
use Rattle.text_pieces.specs.Parts.{source_part}
use Rattle.run_replay.specs.declared.trace.TraceShape.{TraceShape}
use Rattle.run_replay.specs.declared.trace.Trace.{Trace}
use Rattle.run_replay.specs.declared.trace.TraceFault.{TraceFault}
use Rattle.run_replay.specs.declared.trace.TraceFault.TheVariants.{TooLarge, Head as NoHead, Line, Rest, Memory}
use Rattle.run_replay.specs.Document.{title, shape_line, IsTraceShape, Head, IsHead, head_text, IsDocument}
use Rattle.run_replay.specs.Faults.{most_bytes, IsBrokenAt, GoesOn}
use Rattle.explained_answer.specs.declared.taken.Taken.{Taken}
use Rattle.explained_answer.specs.declared.taken.Taken as taken
use Rattle.explained_answer.specs.Fronts.{alike, line_behind}

-- the answer is the document of a run of this text
pub record IsTraceOf (text answer : List ℕ) (t : Trace) : Type 0 where
  pub is : IsDocument answer t
  pub of : t.text ≡ text

-- ---- where a document goes wrong, by the number of the line: the first line is its title, the second the machine's size

-- the second line isn't there
pub record HasNoShape (answer : List ℕ) (line : ℕ) : Type 0 where
  pub rest : List ℕ
  pub parts : answer ≡ title ++ rest
  pub none : NoneStands IsTraceShape shape_line rest
  pub line_is : line ≡ 2

-- after it comes another text, or none
pub record HasOtherText (text answer : List ℕ) (line : ℕ) : Type 0 where
  pub shape : TraceShape
  pub fits : IsTraceShape shape
  pub rest : List ℕ
  pub parts : answer ≡ title ++ (shape_line shape ++ rest)
  pub other : (behind : List ℕ) → rest ≢ source_part text ++ behind
  pub line_is : line ≡ 2 + line_behind (alike rest (source_part text))

-- after the text the line isn't there that says how many events follow
pub record HasNoCount (text answer : List ℕ) (line : ℕ) : Type 0 where
  pub shape : TraceShape
  pub fits : IsTraceShape shape
  pub rest : List ℕ
  pub parts : answer ≡ title ++ (shape_line shape ++ (source_part text ++ rest))
  pub none : NoneStands (IsFrom 0 25169664) (field (codes "events ") newline) rest
  pub line_is : line ≡ 2 + line_behind (source_part text)

-- the line of an event isn't there
pub record HasNoEvent (text answer : List ℕ) (line : ℕ) : Type 0 where
  pub number : ℕ
  pub broken : IsBrokenAt answer number
  pub of : broken.head.text ≡ text
  pub line_is : line ≡ 3 + line_behind (source_part text) + number

-- bytes follow the line of the last event
pub record HasBytesBehind (text answer : List ℕ) (line : ℕ) : Type 0 where
  pub more : GoesOn answer
  pub of : more.head.text ≡ text
  pub line_is : line ≡ 3 + line_behind (source_part text) + more.head.count

abbrev pub GoesWrongAt : (text answer : List ℕ) → ℕ → Type 0
GoesWrongAt text answer line =
    HasNoShape answer line ⊎ (HasOtherText text answer line ⊎ (HasNoCount text answer line ⊎ (HasNoEvent text answer line ⊎ HasBytesBehind text answer line)))

-- the answer is the document of a run of the text; or it begins as a document, and then goes wrong; or it begins otherwise, or
-- is too large
abbrev pub IsTraceTaken : (text answer : List ℕ) → Taken → Type 0
IsTraceTaken text answer taken.TheVariants.Whole = (t : Trace) × IsTraceOf text answer t
IsTraceTaken text answer (taken.TheVariants.Stops line) = GoesWrongAt text answer line
IsTraceTaken text answer taken.TheVariants.Other = ((rest : List ℕ) → answer ≢ title ++ rest) ⊎ (most_bytes < length answer)

-- ---- for the code

-- what is taken of an answer with this fault; `count` events should follow, the first of them on this line
abbrev pub taken_by : (count line : ℕ) → TraceFault → Taken
taken_by count line TooLarge = taken.TheVariants.Other
taken_by count line NoHead = taken.TheVariants.Other
taken_by count line (Line number) = taken.TheVariants.Stops (line + number)
taken_by count line Rest = taken.TheVariants.Stops (line + count)
taken_by count line Memory = taken.TheVariants.Other

-- the answer begins with all that comes before the events

pub record StandsHead (text answer : List ℕ) (count : ℕ) : Type 0 where
  pub head : Head
  pub fits : IsHead head
  pub of : head.text ≡ text
  pub many : head.count ≡ count
  pub rest : List ℕ
  pub parts : answer ≡ head_text head ++ rest

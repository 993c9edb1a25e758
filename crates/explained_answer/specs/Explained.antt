-- The result of explaining an answer to a text.
use Rattle.std.specs.Prelude.{◌≡◌, ◌≢◌, ◌⊎◌, ℕ, Bool, true, false, ◌&&◌, ◌==◌, List, [], ◌++◌, length, Ok, Err}
use Rattle.region_table.specs.Program.{ProgramParts}
use Rattle.rv_assembler.specs.declared.fault.SourceFault.{SourceFault}
use Rattle.rv_assembler.specs.Source.{source}
use Rattle.effect_checker.specs.declared.fault.CheckFault.{CheckFault}
use Rattle.effect_checker.specs.Checked.{IsChecked}
use Rattle.effect_checker.specs.Faults.{IsLeastFault}
use Rattle.text_places.specs.declared.places.Located.{Located}
use Rattle.text_places.specs.Places.{text_places}
use Rattle.run_report.specs.declared.refusal.Refusal.TheVariants.{Source as OfSource, Check as OfCheck}
use Rattle.run_report.specs.Refusal.{refusal_of}
use Rattle.sentences.specs.Faults.{refusal_sentences}
use Rattle.sentences.specs.Conflicts.{conflict_sentences}
use Rattle.explained_answer.specs.declared.taken.Taken as taken
use Rattle.explained_answer.specs.Listing.{IsListingTaken}
use Rattle.explained_answer.specs.Trace.{IsTraceTaken}
use Rattle.text_pieces.specs.Field.{Stands, NoneStands}
use Rattle.explained_answer.specs.declared.line.AnswerLine as line
use Rattle.explained_answer.specs.declared.line.AnswerLine.{AnswerLine}
use Rattle.explained_answer.specs.declared.line.Count as count
use Rattle.explained_answer.specs.declared.line.FixedLine as fixed
use Rattle.explained_answer.specs.AnswerLines.{IsAnswerLine, answer_line}
use Rattle.explained_answer.specs.declared.explaining.Explained.{Explained}
use Rattle.explained_answer.specs.declared.explaining.Explained as explained
use Rattle.explained_answer.specs.Lines.{AreAllLinesExplained, IsRefusedAt}

-- the program of the text, with the lines of its parts
pub record IsLocated (text : List ℕ) (l : Located) : Type 0 where
  pub program : source text ≡ Ok l.program
  pub places : l.places ≡ text_places text

-- ---- the listing of the text's program, and the document of a run of the text

-- the answer's first line isn't a listing's; or isn't a document's
abbrev pub IsNoListing : List ℕ → Located → List ℕ → Type 0
IsNoListing text l answer = IsListingTaken text l answer [] [] taken.TheVariants.Other

abbrev pub IsNoTrace : (text answer : List ℕ) → Type 0
IsNoTrace text answer = IsTraceTaken text answer taken.TheVariants.Other

-- the answer is a listing, and is explained; or it begins so, and its first line that differs is named
abbrev pub IsListingAnswer : List ℕ → Located → List ℕ → Explained → Type 0
IsListingAnswer text l answer (explained.TheVariants.Text out) = IsListingTaken text l answer [] out taken.TheVariants.Whole
IsListingAnswer text l answer (explained.TheVariants.Refused number) = IsListingTaken text l answer [] [] (taken.TheVariants.Stops number)

-- the text's program is listed, whether it has a conflict or not
pub record IsListingExplained (text answer : List ℕ) (e : Explained) : Type 0 where
  pub located : Located
  pub is_located : IsLocated text located
  pub answer_is : IsListingAnswer text located answer e

-- the answer is the document of a run of the text, and is repeated; or it begins so, and its first line that differs is named
abbrev pub IsTraceAnswer : (text answer : List ℕ) → Explained → Type 0
IsTraceAnswer text answer (explained.TheVariants.Text out) = IsTraceTaken text answer taken.TheVariants.Whole × (out ≡ answer)
IsTraceAnswer text answer (explained.TheVariants.Refused number) = IsTraceTaken text answer (taken.TheVariants.Stops number)

-- the text's program is checked, and was run
pub record IsTraceExplained (text answer : List ℕ) (e : Explained) : Type 0 where
  pub located : Located
  pub is_located : IsLocated text located
  pub is_checked : IsChecked located.program
  pub no_listing : IsNoListing text located answer
  pub answer_is : IsTraceAnswer text answer e

-- ---- the answer to a text that is refused

-- a line by which command words, or the form of a document, are refused before any text is looked at
abbrev pub is_before_text : AnswerLine → Bool
is_before_text (line.TheVariants.Fixed fixed.TheVariants.Usage) = true
is_before_text (line.TheVariants.Fixed fixed.TheVariants.TooLarge) = true
is_before_text (line.TheVariants.Fixed fixed.TheVariants.Head) = true
is_before_text (line.TheVariants.Fixed fixed.TheVariants.Rest) = true
is_before_text (line.TheVariants.Count count.TheVariants.WholeEvents number) = true
is_before_text _ = false

-- the answer is such a line
pub record IsBeforeText (answer : List ℕ) : Type 0 where
  pub line : AnswerLine
  pub before : is_before_text line ≡ true
  pub stands : Stands IsAnswerLine answer_line answer line []

-- the answer begins with another line, or has something after this one
pub record StartsElse (answer : List ℕ) : Type 0 where
  pub line : AnswerLine
  pub rest : List ℕ
  pub stands : Stands IsAnswerLine answer_line answer line rest
  pub other : (is_before_text line && length rest == 0) ≡ false

abbrev pub IsNotBeforeText : List ℕ → Type 0
IsNotBeforeText answer = NoneStands IsAnswerLine answer_line answer ⊎ StartsElse answer

-- an answer that isn't the text's refusal: it is repeated if no text was looked at for it, otherwise its first line is named
abbrev pub IsOtherAnswer : List ℕ → Explained → Type 0
IsOtherAnswer answer (explained.TheVariants.Text out) = IsBeforeText answer × (out ≡ answer)
IsOtherAnswer answer (explained.TheVariants.Refused number) = IsNotBeforeText answer × (number ≡ 1)

-- the answer is the text's refusal, or another one
abbrev pub IsRefusalExplained : (line sentences answer : List ℕ) → Explained → Type 0
IsRefusalExplained line sentences answer e =
    ((answer ≡ line) × (e ≡ explained.TheVariants.Text (line ++ sentences))) ⊎ ((answer ≢ line) × IsOtherAnswer answer e)

-- the text has this fault
pub record IsFaultExplained (text answer : List ℕ) (e : Explained) : Type 0 where
  pub fault : SourceFault
  pub is : source text ≡ Err fault
  pub answer_is : IsRefusalExplained (refusal_of (OfSource fault)) (refusal_sentences text fault) answer e

-- the text's program has this conflict, and no lesser one
pub record IsConflictExplained (text answer : List ℕ) (e : Explained) : Type 0 where
  pub located : Located
  pub is_located : IsLocated text located
  pub fault : CheckFault
  pub is : IsLeastFault located.program fault
  pub no_listing : IsNoListing text located answer
  pub answer_is : IsRefusalExplained (refusal_of (OfCheck fault)) (conflict_sentences text located fault) answer e

-- ---- the answer of a run

-- all its lines are lines of answers of the program, or one isn't
abbrev pub AreAllExplained : List ℕ → Located → List ℕ → Explained → Type 0
AreAllExplained text l answer (explained.TheVariants.Text out) = AreAllLinesExplained text l answer out
AreAllExplained text l answer (explained.TheVariants.Refused number) = IsRefusedAt l answer number

-- the text's program is checked, and the answer is looked at line by line
pub record IsRunExplained (text answer : List ℕ) (e : Explained) : Type 0 where
  pub located : Located
  pub is_located : IsLocated text located
  pub is_checked : IsChecked located.program
  pub no_listing : IsNoListing text located answer
  pub no_trace : IsNoTrace text answer
  pub answer_is : AreAllExplained text located answer e

-- an answer to a text is explained; or the number is given of its first line that can't be a line of an answer to this text
abbrev pub IsExplained : (text answer : List ℕ) → Explained → Type 0
IsExplained text answer e =
    IsFaultExplained text answer e
    ⊎ (IsListingExplained text answer e ⊎ (IsConflictExplained text answer e ⊎ (IsTraceExplained text answer e ⊎ IsRunExplained text answer e)))

abbrev pub HasNoConflict : ProgramParts → Type 0
HasNoConflict p = (fault : CheckFault) → IsLeastFault p fault → ⊥

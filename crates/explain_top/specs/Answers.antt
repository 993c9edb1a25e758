-- What the program writes for a text and the answer that denovo printed for it, or the verdict that the referee printed.
use Rattle.std.specs.Prelude.{◌≡◌, ◌⊎◌, ℕ, ◌<◌, ◌≤◌, ◌==◌, List, ◌++◌, length, codes, if◌then◌else◌}
use Rattle.std.specs.Fmt.{decimal}
use Rattle.dn_base.specs.declared.limits.TheConstants.{MOST_OF_DOCUMENT}
use Rattle.dn_base.specs.declared.status.Status as status
use Rattle.dn_base.specs.declared.status.Status.{Status}
use Rattle.text_pieces.specs.Pieces.{newline}
use Rattle.explained_answer.specs.declared.explaining.Explained.{Explained}
use Rattle.explained_answer.specs.declared.explaining.Explained as explained
use Rattle.explained_answer.specs.Explained.{IsExplained}
use Rattle.explained_answer.specs.Verdicts.{explained_verdict}
use Rattle.program_outside.specs.declared.ends.Output.{Output}

-- a status, and all bytes that are to be written
abbrev pub Explanation : Type 0
Explanation = Output Status

-- the line that refuses an answer: which of its lines, from 1, is the first that can't be a line of an answer to the text, or of
-- a verdict on a run of it
unfoldable pub refused_line : ℕ → List ℕ
refused_line number = codes "refused answer " ++ decimal number ++ newline

abbrev pub refused_output : List ℕ → Explanation
refused_output bytes = record { status = status.TheVariants.SourceRefused; bytes = bytes }

-- what is written of an explained answer
abbrev pub output_of : Explained → Explanation
output_of (explained.TheVariants.Text bytes) = record { status = status.TheVariants.Done; bytes = bytes }
output_of (explained.TheVariants.Refused number) = refused_output (refused_line number)

-- an answer whose first line denovo doesn't print for the text is taken for a verdict
abbrev pub or_verdict : Explained → Explained → Explained
or_verdict (explained.TheVariants.Text bytes) verdict = explained.TheVariants.Text bytes
or_verdict (explained.TheVariants.Refused number) verdict = if number == 1 then verdict else explained.TheVariants.Refused number

-- the answer is explained as one of denovo, or else as a verdict of the referee
pub record IsEither (text answer : List ℕ) (e : Explained) : Type 0 where
  pub by_denovo : Explained
  pub is : IsExplained text answer by_denovo
  pub either : e ≡ or_verdict by_denovo (explained_verdict text answer)

-- the output is that of the answer explained
pub record IsExplanation (text answer : List ℕ) (out : Explanation) : Type 0 where
  pub within : length answer ≤ MOST_OF_DOCUMENT
  pub explained : Explained
  pub is : IsEither text answer explained
  pub output : out ≡ output_of explained

-- the answer has more bytes than are looked at
pub record IsTooLong (answer : List ℕ) (out : Explanation) : Type 0 where
  pub large : MOST_OF_DOCUMENT < length answer
  pub output : out ≡ refused_output (codes "refused answer too-large" ++ newline)

abbrev pub IsOutput : (text answer : List ℕ) → Explanation → Type 0
IsOutput text answer out = IsExplanation text answer out ⊎ IsTooLong answer out

-- Answers of runs that stand one after the other. Each begins with the line of an outcome.
use Rattle.std.specs.Prelude.{◌≡◌, Bool, true, false, not, List, [], ◌∷◌, if◌then◌else◌}
use Rattle.std.specs.List.{All}
use Rattle.explained_answer.specs.declared.line.AnswerLine as line
use Rattle.explained_answer.specs.declared.line.AnswerLine.{AnswerLine}
use Rattle.explained_answer.specs.declared.parsing.ReadLine.{ReadLine}

abbrev pub begins_answer : AnswerLine → Bool
begins_answer (line.TheVariants.Outcome o) = true
begins_answer _ = false

-- a line before some answers: it belongs to the first of them, unless that begins by itself
abbrev pub put_before : AnswerLine → List (List AnswerLine) → List (List AnswerLine)
put_before x [] = (x ∷ []) ∷ []
put_before x ([] ∷ answers) = (x ∷ []) ∷ answers
put_before x ((y ∷ ys) ∷ answers) = if begins_answer y then (x ∷ []) ∷ (y ∷ ys) ∷ answers else (x ∷ y ∷ ys) ∷ answers

-- the answers that some lines are
abbrev pub answers_in : List AnswerLine → List (List AnswerLine)
answers_in [] = []
answers_in (x ∷ xs) = put_before x (answers_in xs)

-- the lines are one answer of a run
abbrev pub IsOneAnswer : List AnswerLine → Type 0
IsOneAnswer [] = ⊥
IsOneAnswer (x ∷ xs) = (begins_answer x ≡ true) × All (λ (y : AnswerLine). begins_answer y ≡ false) xs

-- whether a line that was read belongs to the answer of the line before it
abbrev pub goes_on : ReadLine → Bool
goes_on r = not (begins_answer r.line)

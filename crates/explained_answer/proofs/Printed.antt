-- What is printed is the lines that an answer is said to have.
use Rattle.std.proofs.Common.{◌≡◌, ℕ, ◌+◌, ◌==◌, ◌%◌, ◌^◌, Bool, true, false, List, [], ◌∷◌, ◌++◌, length, map, flat_map, sum, codes, if◌then◌else◌, refl, sym, ap, ◌∙◌, append_assoc}
use Rattle.std.proofs.lemmas.Grind.{flat_map-append}
use Rattle.std.proofs.lemmas.List.{append-nil}
use Rattle.std.proofs.lemmas.List.Folds.{flat_map-map}
use Rattle.dn_base.specs.declared.ids.Grant.{Grant}
use Rattle.grant_log.specs.declared.counts.Counts.{Counts}
use Rattle.region_table.specs.Program.{ProgramParts}
use Rattle.rv_core.specs.declared.ending.Ending.{Ending}
use Rattle.run_report.specs.Answer.{answer_of, outcome_line, task_line, words_line, word_line, word_lines}
use Rattle.run_report.specs.Grants.{grant_lines}
use Rattle.run_report.specs.Run.{all_kinds, run_text}
use Rattle.run_report.specs.Summary.{summary_of, checked_of, count_line, retired_by_all, sum_line as printed_sum}
use Rattle.explained_answer.specs.declared.line.AnswerLine as line
use Rattle.explained_answer.specs.declared.line.AnswerLine.{AnswerLine}
use Rattle.explained_answer.specs.declared.line.Count as count
use Rattle.explained_answer.specs.Parts.{three_line}
use Rattle.explained_answer.specs.AnswerLines.{answer_line, sum_line}
use Rattle.explained_answer.specs.Answers.{shown_words, ending_lines, kind_line_of, run_lines, summary_lines, size_line}

one-word : (w v : ℕ) → word_line w v ≡ flat_map answer_line (if v == 0 then [] else line.TheVariants.Word w v ∷ [])
unfolding word_line
one-word w v = by_zero (v == 0) refl where
  by_zero : (b : Bool) → v == 0 ≡ b → word_line w v ≡ flat_map answer_line (if b then [] else line.TheVariants.Word w v ∷ [])
  by_zero true is = rw is refl
  by_zero false is = sym (append-nil (word_line w v))

words-are : (w : ℕ) (values : List ℕ) → word_lines w values ≡ flat_map answer_line (shown_words w values)
words-are w [] = refl
words-are w (v ∷ vs) =
    ap (λ bs. bs ++ word_lines (w + 1) vs) (one-word w v)
    ∙ ap (λ bs. flat_map answer_line (if v == 0 then [] else line.TheVariants.Word w v ∷ []) ++ bs) (words-are (w + 1) vs)
    ∙ sym (flat_map-append answer_line (if v == 0 then [] else line.TheVariants.Word w v ∷ []) (shown_words (w + 1) vs))

-- lines of one kind, and those behind them
one-kind : {X : Type 0} (f : X → AnswerLine) (xs : List X) (behind : List AnswerLine)
    → flat_map answer_line (map f xs ++ behind) ≡ flat_map (λ x. answer_line (f x)) xs ++ flat_map answer_line behind
one-kind f xs behind =
    flat_map-append answer_line (map f xs) behind ∙ ap (λ bs. bs ++ flat_map answer_line behind) (flat_map-map answer_line f xs)

four-regroup : (a b c d : List ℕ) → a ++ b ++ c ++ d ≡ a ++ (b ++ (c ++ d))
four-regroup a b c d = simp append_assoc

five-regroup : (a b c d e : List ℕ) → a ++ b ++ c ++ d ++ e ≡ a ++ (b ++ (c ++ (d ++ e)))
five-regroup a b c d e = simp append_assoc

pub ending-is : (e : Ending) → answer_of e ≡ flat_map answer_line (ending_lines e)
unfolding answer_of
ending-is e =
    let tasks = map line.TheVariants.Task e.tasks in
    let words = shown_words 0 e.memory in
    let size = line.TheVariants.Count count.TheVariants.Words (length e.memory) in
    let tasks-are : flat_map task_line e.tasks ≡ flat_map answer_line tasks = sym (flat_map-map answer_line line.TheVariants.Task e.tasks) in
    let behind : flat_map answer_line (tasks ++ size ∷ words) ≡ flat_map answer_line tasks ++ (words_line (length e.memory) ++ flat_map answer_line words) =
    flat_map-append answer_line tasks (size ∷ words) in
    four-regroup (outcome_line e.outcome) (flat_map task_line e.tasks) (words_line (length e.memory)) (word_lines 0 e.memory)
    ∙ ap (λ bs. outcome_line e.outcome ++ bs)
    (ap (λ bs. bs ++ (words_line (length e.memory) ++ word_lines 0 e.memory)) tasks-are
    ∙ ap (λ bs. flat_map answer_line tasks ++ (words_line (length e.memory) ++ bs)) (words-are 0 e.memory) ∙ sym behind)

pub run-is : (grants : List Grant) (counts : Counts) → run_text grants counts ≡ flat_map answer_line (run_lines grants counts)
unfolding run_text grant_lines
run-is grants counts =
    let behind = map (kind_line_of counts) all_kinds in
    ap (λ bs. flat_map (λ g. answer_line (line.TheVariants.Grant g)) grants ++ (answer_line (line.TheVariants.Count count.TheVariants.Events (sum counts.kinds)) ++ bs))
    (sym (flat_map-map answer_line (kind_line_of counts) all_kinds))
    ∙ sym (one-kind line.TheVariants.Grant grants (line.TheVariants.Count count.TheVariants.Events (sum counts.kinds) ∷ behind))

sum-is : (memory : List ℕ) → printed_sum memory ≡ sum_line (sum memory % 2 ^ 32)
unfolding printed_sum sum_line
sum-is memory = refl

pub summary-is : (e : Ending) → summary_of e ≡ flat_map answer_line (summary_lines e)
unfolding summary_of
summary-is e =
    let last : printed_sum e.memory ≡ sum_line (sum e.memory % 2 ^ 32) ++ [] = sum-is e.memory ∙ sym (append-nil (sum_line (sum e.memory % 2 ^ 32))) in
    five-regroup (outcome_line e.outcome) (count_line (codes "tasks ") (length e.tasks)) (count_line (codes "retired ") (retired_by_all e.tasks))
    (words_line (length e.memory)) (printed_sum e.memory)
    ∙ ap (λ bs. outcome_line e.outcome ++ (count_line (codes "tasks ") (length e.tasks)
    ++ (count_line (codes "retired ") (retired_by_all e.tasks) ++ (words_line (length e.memory) ++ bs)))) last

pub size-is : (p : ProgramParts) → checked_of p ≡ answer_line (size_line p)
unfolding checked_of three_line
size-is p = refl

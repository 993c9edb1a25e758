-- A trap's line shows its two words modulo 2^32, whatever numbers these are. So the task that a line shows has words of 32 bits.
use Rattle.std.proofs.Common.{◌≡◌, ℕ, ◌/◌, ◌%◌, ◌^◌, List, [], ◌∷◌, ◌++◌, codes, map, flat_map, length, refl, arith}
use Rattle.std.specs.Fmt.{decimal}
use Rattle.text_pieces.specs.Pieces.{newline, space, hex_digit, hexadecimal}
use Rattle.rv_core.specs.declared.ending.EndShown as shown
use Rattle.rv_core.specs.declared.ending.EndShown.{EndShown}
use Rattle.rv_core.specs.declared.ending.TaskEnd.{TaskEnd}
use Rattle.rv_core.specs.declared.ending.Ending.{Ending}
use Rattle.run_report.specs.Answer.{answer_of, outcome_line, end_text, kind_word, task_line, words_line, word_lines}

digit-7 : (n : ℕ) → n % 2 ^ 32 / 16 ^ 7 % 16 ≡ n / 16 ^ 7 % 16
digit-7 n = omega arith

digit-6 : (n : ℕ) → n % 2 ^ 32 / 16 ^ 6 % 16 ≡ n / 16 ^ 6 % 16
digit-6 n = omega arith

digit-5 : (n : ℕ) → n % 2 ^ 32 / 16 ^ 5 % 16 ≡ n / 16 ^ 5 % 16
digit-5 n = omega arith

digit-4 : (n : ℕ) → n % 2 ^ 32 / 16 ^ 4 % 16 ≡ n / 16 ^ 4 % 16
digit-4 n = omega arith

digit-3 : (n : ℕ) → n % 2 ^ 32 / 16 ^ 3 % 16 ≡ n / 16 ^ 3 % 16
digit-3 n = omega arith

digit-2 : (n : ℕ) → n % 2 ^ 32 / 16 ^ 2 % 16 ≡ n / 16 ^ 2 % 16
digit-2 n = omega arith

digit-1 : (n : ℕ) → n % 2 ^ 32 / 16 ^ 1 % 16 ≡ n / 16 ^ 1 % 16
digit-1 n = omega arith

digit-0 : (n : ℕ) → n % 2 ^ 32 / 16 ^ 0 % 16 ≡ n / 16 ^ 0 % 16
digit-0 n = omega arith

pub hexadecimal-word : (n : ℕ) → hexadecimal (n % 2 ^ 32) ≡ hexadecimal n
unfolding hexadecimal
hexadecimal-word n =
    λ i. 48 ∷ 120 ∷ hex_digit (digit-7 n i) ∷ hex_digit (digit-6 n i) ∷ hex_digit (digit-5 n i) ∷ hex_digit (digit-4 n i) ∷ hex_digit (digit-3 n i)
    ∷ hex_digit (digit-2 n i) ∷ hex_digit (digit-1 n i) ∷ hex_digit (digit-0 n i) ∷ []

-- the end that a task's line shows
abbrev pub end_seen : EndShown → EndShown
end_seen shown.TheVariants.Finished = shown.TheVariants.Finished
end_seen shown.TheVariants.Fuel = shown.TheVariants.Fuel
end_seen (shown.TheVariants.Trap k pc value) = shown.TheVariants.Trap k (pc % 2 ^ 32) (value % 2 ^ 32)
end_seen (shown.TheVariants.Waits lock) = shown.TheVariants.Waits lock

abbrev pub task_seen : TaskEnd → TaskEnd
task_seen t = record { phase = t.phase; core = t.core; end = end_seen t.end; retired = t.retired }

abbrev pub ending_seen : Ending → Ending
ending_seen e = record { outcome = e.outcome; tasks = map task_seen e.tasks; memory = e.memory }

same-end : (e : EndShown) → end_text (end_seen e) ≡ end_text e
same-end shown.TheVariants.Finished = refl
same-end shown.TheVariants.Fuel = refl
same-end (shown.TheVariants.Trap k pc value) =
    λ i. codes "trap " ++ kind_word k ++ codes " pc " ++ hexadecimal-word pc i ++ codes " value " ++ hexadecimal-word value i
same-end (shown.TheVariants.Waits lock) = refl

same-task : (t : TaskEnd) → task_line (task_seen t) ≡ task_line t
unfolding task_line
same-task t =
    λ i. codes "task " ++ decimal t.phase.0 ++ space ++ decimal t.core.0 ++ space ++ same-end t.end i ++ codes " retired " ++ decimal t.retired ++ newline

same-tasks : (ts : List TaskEnd) → flat_map task_line (map task_seen ts) ≡ flat_map task_line ts
same-tasks [] = refl
same-tasks (t ∷ ts) = λ i. same-task t i ++ same-tasks ts i

pub same-answer : (e : Ending) → answer_of (ending_seen e) ≡ answer_of e
unfolding answer_of
same-answer e =
    λ i. outcome_line e.outcome ++ same-tasks e.tasks i ++ words_line (length e.memory) ++ word_lines 0 e.memory

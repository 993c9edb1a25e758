-- Answers that stand one after the other.
use Rattle.std.proofs.Common.{◌≡◌, ℕ, zero, suc, ◌+◌, ◌-◌, ◌<◌, ◌≤◌, Bool, true, false, not, cond, List, [], ◌∷◌, ◌++◌, length, take, drop, map, get_or, flat_map, if◌then◌else◌, Option, Some, None, refl, sym, ap, subst, ◌∙◌, arith, append_assoc}
use Rattle.std.specs.List.{All, prefix_len, slice_range}
use Rattle.std.proofs.lemmas.List.{append-nil, map-append, map_more, take_all, drop_all, length-drop, take-map, drop-map}
use Rattle.std.proofs.lemmas.List.Elements.{All-nil, All-cons, All-head, All-tail, All-append, All-take, All-drop}
use Rattle.std.proofs.lemmas.Grind.{flat_map-append}
use Rattle.region_table.specs.Program.{ProgramParts}
use Rattle.text_places.specs.declared.places.Located.{Located}
use Rattle.explained_answer.specs.declared.line.AnswerLine.{AnswerLine}
use Rattle.explained_answer.specs.declared.parsing.ReadLine.{ReadLine}
use Rattle.explained_answer.specs.declared.several.OneAnswer.{OneAnswer}
use Rattle.explained_answer.specs.Lines.{IsLineOf, IsWritten, line_read, lines_in, lines_of_one, HasLinesWithin, answer_and_sentences, answers_run_again, answers_and_sentences, lines_and_sentences}
use Rattle.explained_answer.specs.Several.{begins_answer, put_before, answers_in, IsOneAnswer, goes_on}

-- ---- the first answer of some lines

abbrev first_count : List ReadLine → ℕ
first_count rs = prefix_len goes_on rs

one-and : (k : ℕ) → 1 + k ≡ suc k
one-and k = omega arith

one-taken : (k : ℕ) (r : ReadLine) (rs : List ReadLine) → take (1 + k) (r ∷ rs) ≡ r ∷ take k rs
one-taken k r rs = ap (λ (n : ℕ). take n (r ∷ rs)) (one-and k)

one-left : (k : ℕ) (r : ReadLine) (rs : List ReadLine) → drop (1 + k) (r ∷ rs) ≡ drop k rs
one-left k r rs = ap (λ (n : ℕ). drop n (r ∷ rs)) (one-and k)

-- the lines of an answer with this first line, so many of those behind it, and the answers behind those
abbrev split : AnswerLine → ℕ → List ReadLine → List (List AnswerLine)
split x k rs = (x ∷ lines_in (take k rs)) ∷ answers_in (lines_in (drop k rs))

-- one line more in front
one-before : (x : AnswerLine) (r : ReadLine) (rs : List ReadLine) → answers_in (lines_in (r ∷ rs)) ≡ split r.line (first_count rs) rs
    → put_before x (split r.line (first_count rs) rs) ≡ split x (first_count (r ∷ rs)) (r ∷ rs)
one-before x r rs behind = by_test (begins_answer r.line) where
  k : ℕ
  k = first_count rs

  by_test : (b : Bool)
      → (if b then (x ∷ []) ∷ split r.line k rs else (x ∷ r.line ∷ lines_in (take k rs)) ∷ answers_in (lines_in (drop k rs)))
      ≡ split x (cond (not b) (1 + k) 0) (r ∷ rs)
  by_test true = ap (λ (answers : List (List AnswerLine)). (x ∷ []) ∷ answers) (sym behind)
  by_test false =
      ap (λ (own : List ReadLine). (x ∷ lines_in own) ∷ answers_in (lines_in (drop k rs))) (sym (one-taken k r rs))
      ∙ ap (λ (left : List ReadLine). (x ∷ lines_in (take (1 + k) (r ∷ rs))) ∷ answers_in (lines_in left)) (sym (one-left k r rs))

-- the first answer has its first line, and those behind it up to the next line that begins an answer
pub first-answer : (x : AnswerLine) (rs : List ReadLine) → answers_in (x ∷ lines_in rs) ≡ split x (first_count rs) rs
first-answer x [] = refl
first-answer x (r ∷ rs) = let behind = first-answer r.line rs in ap (put_before x) behind ∙ one-before x r rs behind

-- so too where the first line isn't known
pub first-of : (rest : List ReadLine) (n : ℕ) → 0 < length rest → n ≡ first_count (drop 1 rest)
    → answers_in (lines_in rest) ≡ lines_in (take (1 + n) rest) ∷ answers_in (lines_in (drop (1 + n) rest))
first-of [] n some counted = absurd (omega (arith, some))
first-of (r ∷ rs) n some counted =
    let k = first_count rs in
    first-answer r.line rs
    ∙ ap (λ (own : List ReadLine). lines_in own ∷ answers_in (lines_in (drop k rs))) (sym (one-taken k r rs))
    ∙ ap (λ (left : List ReadLine). lines_in (take (1 + k) (r ∷ rs)) ∷ answers_in (lines_in left)) (sym (one-left k r rs))
    ∙ ap (λ (m : ℕ). lines_in (take (1 + m) (r ∷ rs)) ∷ answers_in (lines_in (drop (1 + m) (r ∷ rs)))) (sym counted)

-- what is left behind some lines, and behind some of those
abbrev no_lines : List ReadLine
no_lines = []

none-left : (k : ℕ) → drop k no_lines ≡ no_lines
none-left zero = refl
none-left (suc k) = refl

none-and : (n : ℕ) → 0 + n ≡ n
none-and n = omega arith

more-and : (m n : ℕ) → suc m + n ≡ suc (m + n)
more-and m n = omega arith

drop-on : (m n : ℕ) (xs : List ReadLine) → drop (m + n) xs ≡ drop n (drop m xs)
drop-on zero n xs = ap (λ (k : ℕ). drop k xs) (none-and n)
drop-on (suc m) n [] = none-left (suc m + n) ∙ sym (none-left n)
drop-on (suc m) n (x ∷ xs) = ap (λ (k : ℕ). drop k (x ∷ xs)) (more-and m n) ∙ drop-on m n xs

-- ---- the answers, one after the other

-- the answer that begins at a line: with the lines behind it that begin none
pub answer-at : (lines : List ReadLine) (start n end : ℕ) → start < length lines → n ≡ first_count (slice_range lines (start + 1) (length lines)) → end ≡ start + 1 + n
    → answers_in (lines_in (drop start lines)) ≡ lines_in (slice_range lines start end) ∷ answers_in (lines_in (drop end lines))
answer-at lines start n end within counted ends =
    let rest = drop start lines in
    let some : 0 < length rest = omega (arith, within, length-drop start lines) in
    let behind : slice_range lines (start + 1) (length lines) ≡ drop (start + 1) lines =
    take_all (length lines - (start + 1)) (drop (start + 1) lines) (omega (arith, length-drop (start + 1) lines)) in
    let here : n ≡ first_count (drop 1 rest) = counted ∙ ap first_count (behind ∙ drop-on start 1 lines) in
    let size : end - start ≡ 1 + n = omega (arith, ends) in
    let place : end ≡ start + (1 + n) = omega (arith, ends) in
    first-of rest n some here
    ∙ ap (λ (m : ℕ). lines_in (take m rest) ∷ answers_in (lines_in (drop (1 + n) rest))) (sym size)
    ∙ ap (λ (left : List ReadLine). lines_in (slice_range lines start end) ∷ answers_in (lines_in left)) (sym (drop-on start (1 + n) lines))
    ∙ ap (λ (m : ℕ). lines_in (slice_range lines start end) ∷ answers_in (lines_in (drop m lines))) (sym place)

-- the answers so far are those of the lines, but for those that the lines from this number on are
pub record AreAnswersBefore (lines : List ReadLine) (start : ℕ) (answers : List OneAnswer) : Type 0 where
  pub are : map (lines_of_one lines) answers ++ answers_in (lines_in (drop start lines)) ≡ answers_in (lines_in lines)
  pub within : All (HasLinesWithin lines) answers

pub no-answers : (lines : List ReadLine) → AreAnswersBefore lines 0 []
no-answers lines = record { are = refl; within = All-nil (HasLinesWithin lines) }

pub one-more : (lines : List ReadLine) (start end : ℕ) (before after : List OneAnswer) (a : OneAnswer) → AreAnswersBefore lines start before → after ≡ before ++ a ∷ []
    → a.start ≡ start → a.end ≡ end → start < end → end ≤ length lines
    → answers_in (lines_in (drop start lines)) ≡ lines_in (slice_range lines start end) ∷ answers_in (lines_in (drop end lines)) → AreAnswersBefore lines end after
one-more lines start end before after a so_far pushed from to on within first =
    let left = answers_in (lines_in (drop end lines)) in
    let own : lines_in (slice_range lines start end) ≡ lines_of_one lines a =
    ap (λ (m : ℕ). lines_in (slice_range lines m end)) (sym from) ∙ ap (λ (m : ℕ). lines_in (slice_range lines a.start m)) (sym to) in
    record {
      are =
          ap (λ (told : List OneAnswer). map (lines_of_one lines) told ++ left) pushed
          ∙ ap (λ (xs : List (List AnswerLine)). xs ++ left) (map-append (lines_of_one lines) before (a ∷ []))
          ∙ append_assoc (map (lines_of_one lines) before) (lines_of_one lines a ∷ []) left
          ∙ ap (λ (x : List AnswerLine). map (lines_of_one lines) before ++ x ∷ left) (sym own)
          ∙ ap (λ (xs : List (List AnswerLine)). map (lines_of_one lines) before ++ xs) (sym first) ∙ so_far.are;
      within =
          subst (All (HasLinesWithin lines)) (sym pushed)
          (All-append (HasLinesWithin lines) before (a ∷ []) so_far.within
          (All-cons (HasLinesWithin lines) a [] (omega (arith, from, to, on), omega (arith, to, within)) (All-nil (HasLinesWithin lines))));
    }

-- all lines are in answers
pub are-all : (lines : List ReadLine) (start : ℕ) (answers : List OneAnswer) → AreAnswersBefore lines start answers → length lines ≤ start
    → map (lines_of_one lines) answers ≡ answers_in (lines_in lines)
are-all lines start answers h none =
    sym (append-nil (map (lines_of_one lines) answers))
    ∙ ap (λ (rest : List ReadLine). map (lines_of_one lines) answers ++ answers_in (lines_in rest)) (sym (drop_all start lines none)) ∙ h.are

-- ---- one of the answers

pub written-in-one : (lines : List ReadLine) (start end : ℕ) → All IsWritten lines → All IsWritten (slice_range lines start end)
written-in-one lines start end all = All-take IsWritten (end - start) (drop start lines) (All-drop IsWritten start lines all)

pub fit-in-one : (l : Located) (lines : List ReadLine) (start end : ℕ) → All (IsLineOf l) (lines_in lines) → All (IsLineOf l) (lines_in (slice_range lines start end))
fit-in-one l lines start end all =
    subst (All (IsLineOf l)) (take-map line_read (end - start) (drop start lines))
    (All-take (IsLineOf l) (end - start) (lines_in (drop start lines))
    (subst (All (IsLineOf l)) (drop-map line_read start lines) (All-drop (IsLineOf l) start (lines_in lines) all)))

-- one answer more, after the bytes `front`
pub one-more-explained : (text : List ℕ) (l : Located) (again : Option ProgramParts) (lines : List ReadLine) (answers : List OneAnswer) (i : ℕ) (d : OneAnswer) (front before after : List ℕ)
    → i < length answers → before ≡ front ++ flat_map (answer_and_sentences text l again) (map (lines_of_one lines) (take i answers))
    → after ≡ before ++ answer_and_sentences text l again (lines_of_one lines (get_or answers i d))
    → after ≡ front ++ flat_map (answer_and_sentences text l again) (map (lines_of_one lines) (take (i + 1) answers))
one-more-explained text l again lines answers i d front before after within so_far pushed =
    let f = answer_and_sentences text l again in
    let a = lines_of_one lines (get_or answers i d) in
    let told = map (lines_of_one lines) (take i answers) in
    pushed ∙ ap (λ (bs : List ℕ). bs ++ f a) so_far
    ∙ append_assoc front (flat_map f told) (f a)
    ∙ ap (λ (bs : List ℕ). front ++ (flat_map f told ++ bs)) (sym (append-nil (f a)))
    ∙ ap (λ (bs : List ℕ). front ++ bs) (sym (flat_map-append f told (a ∷ [])))
    ∙ ap (λ (answered : List (List AnswerLine)). front ++ flat_map f answered) (sym (map_more (lines_of_one lines) answers i d within))

-- all of these answers
pub these-explained : (text : List ℕ) (l : Located) (again : Option ProgramParts) (lines : List ReadLine) (answers : List OneAnswer) (i : ℕ) (front out : List ℕ) → length answers ≤ i
    → out ≡ front ++ flat_map (answer_and_sentences text l again) (map (lines_of_one lines) (take i answers))
    → out ≡ front ++ flat_map (answer_and_sentences text l again) (map (lines_of_one lines) answers)
these-explained text l again lines answers i front out none so_far =
    so_far ∙ ap (λ (told : List OneAnswer). front ++ flat_map (answer_and_sentences text l again) (map (lines_of_one lines) told)) (take_all i answers none)

-- the first answers, and then the others
pub all-explained : (text : List ℕ) (l : Located) (lines : List ReadLine) (answers first others : List OneAnswer) (again alone : Option ProgramParts) (front between out : List ℕ)
    → again ≡ Some l.program → alone ≡ None → first ≡ take answers_run_again answers → others ≡ drop answers_run_again answers
    → map (lines_of_one lines) answers ≡ answers_in (lines_in lines)
    → between ≡ front ++ flat_map (answer_and_sentences text l again) (map (lines_of_one lines) first)
    → out ≡ between ++ flat_map (answer_and_sentences text l alone) (map (lines_of_one lines) others)
    → out ≡ front ++ lines_and_sentences text l (lines_in lines)
all-explained text l lines answers first others again alone front between out own without firsts rest are so_far pushed =
    let g = lines_of_one lines in
    let begun : map g first ≡ take answers_run_again (answers_in (lines_in lines)) =
    ap (map g) firsts ∙ sym (take-map g answers_run_again answers) ∙ ap (take answers_run_again) are in
    let ended : map g others ≡ drop answers_run_again (answers_in (lines_in lines)) =
    ap (map g) rest ∙ sym (drop-map g answers_run_again answers) ∙ ap (drop answers_run_again) are in
    pushed ∙ (λ i. so_far i ++ flat_map (answer_and_sentences text l (without i)) (ended i))
    ∙ append_assoc front (flat_map (answer_and_sentences text l again) (map g first)) (flat_map (answer_and_sentences text l None) (drop answers_run_again (answers_in (lines_in lines))))
    ∙ (λ i. front ++ (flat_map (answer_and_sentences text l (own i)) (begun i) ++ flat_map (answer_and_sentences text l None) (drop answers_run_again (answers_in (lines_in lines)))))

-- ---- whole answers

record StartsWith (y : AnswerLine) (answers : List (List AnswerLine)) : Type 0 where
  front : List AnswerLine
  others : List (List AnswerLine)
  is : answers ≡ (y ∷ front) ∷ others

starts-before : (y z : AnswerLine) (answers : List (List AnswerLine)) → StartsWith z answers → StartsWith y (put_before y answers)
starts-before y z answers next = by_test (begins_answer z) (ap (put_before y) next.is) where
  by_test : (b : Bool) → put_before y answers ≡ (if b then (y ∷ []) ∷ (z ∷ next.front) ∷ next.others else (y ∷ z ∷ next.front) ∷ next.others)
      → StartsWith y (put_before y answers)
  by_test true e = record { front = []; others = (z ∷ next.front) ∷ next.others; is = e }
  by_test false e = record { front = z ∷ next.front; others = next.others; is = e }

starts : (y : AnswerLine) (ys : List AnswerLine) → StartsWith y (answers_in (y ∷ ys))
starts y [] = record { front = []; others = []; is = refl }
starts y (z ∷ zs) = starts-before y z (answers_in (z ∷ zs)) (starts z zs)

abbrev Begins : List AnswerLine → Type 0
Begins [] = Unit {0}
Begins (x ∷ xs) = begins_answer x ≡ true

-- a line that begins no answer
abbrev pub IsBehind : AnswerLine → Type 0
IsBehind y = begins_answer y ≡ false

-- a line and those behind it that begin no answer are the first answer, before lines that begin one
own-lines : (x : AnswerLine) (xs rest : List AnswerLine) → All IsBehind xs → Begins rest → answers_in (x ∷ (xs ++ rest)) ≡ (x ∷ xs) ∷ answers_in rest
own-lines x [] [] none begins = refl
own-lines x [] (y ∷ ys) none begins =
    let first = starts y ys in
    ap (put_before x) first.is
    ∙ ap (λ (b : Bool). if b then (x ∷ []) ∷ (y ∷ first.front) ∷ first.others else (x ∷ y ∷ first.front) ∷ first.others) begins
    ∙ ap (λ (answers : List (List AnswerLine)). (x ∷ []) ∷ answers) (sym first.is)
own-lines x (z ∷ zs) rest none begins =
    ap (put_before x) (own-lines z zs rest (All-tail IsBehind z zs none) begins)
    ∙ ap (λ (b : Bool). if b then (x ∷ []) ∷ (z ∷ zs) ∷ answers_in rest else (x ∷ z ∷ zs) ∷ answers_in rest) (All-head IsBehind z zs none)

abbrev joined : List (List AnswerLine) → List AnswerLine
joined answers = flat_map (λ (answer : List AnswerLine). answer) answers

joined-begins : (answers : List (List AnswerLine)) → All IsOneAnswer answers → Begins (joined answers)
joined-begins [] all = tt
joined-begins ([] ∷ answers) all = absurd (All-head IsOneAnswer [] answers all)
joined-begins ((x ∷ xs) ∷ answers) all = (All-head IsOneAnswer (x ∷ xs) answers all).0

pub answers-joined : (answers : List (List AnswerLine)) → All IsOneAnswer answers → answers_in (joined answers) ≡ answers
answers-joined [] all = refl
answers-joined ([] ∷ answers) all = absurd (All-head IsOneAnswer [] answers all)
answers-joined ((x ∷ xs) ∷ answers) all =
    let behind = All-tail IsOneAnswer (x ∷ xs) answers all in
    own-lines x xs (joined answers) (All-head IsOneAnswer (x ∷ xs) answers all).1 (joined-begins answers behind)
    ∙ ap (λ (others : List (List AnswerLine)). (x ∷ xs) ∷ others) (answers-joined answers behind)

-- one answer alone
pub one-explained : (text : List ℕ) (l : Located) (answer : List AnswerLine) → IsOneAnswer answer
    → lines_and_sentences text l answer ≡ answer_and_sentences text l (Some l.program) answer
one-explained text l [] one = absurd one
one-explained text l (x ∷ xs) one =
    ap (λ (ys : List AnswerLine). answers_and_sentences text l (answers_in (x ∷ ys))) (sym (append-nil xs))
    ∙ ap (answers_and_sentences text l) (own-lines x xs [] one.1 tt)
    ∙ append-nil (answer_and_sentences text l (Some l.program) (x ∷ xs) ++ [])
    ∙ append-nil (answer_and_sentences text l (Some l.program) (x ∷ xs))

-- several answers, each as if it stood alone
each-alone : (text : List ℕ) (l : Located) (answers : List (List AnswerLine)) → All IsOneAnswer answers
    → flat_map (answer_and_sentences text l (Some l.program)) answers ≡ flat_map (lines_and_sentences text l) answers
each-alone text l [] all = refl
each-alone text l (answer ∷ answers) all =
    let first = sym (one-explained text l answer (All-head IsOneAnswer answer answers all)) in
    let others = each-alone text l answers (All-tail IsOneAnswer answer answers all) in
    λ i. first i ++ others i

pub few-explained : (text : List ℕ) (l : Located) (answers : List (List AnswerLine)) → All IsOneAnswer answers → length answers ≤ answers_run_again
    → lines_and_sentences text l (joined answers) ≡ flat_map (lines_and_sentences text l) answers
few-explained text l answers all few =
    ap (answers_and_sentences text l) (answers-joined answers all)
    ∙ (λ i.
    flat_map (answer_and_sentences text l (Some l.program)) (take_all answers_run_again answers few i)
    ++ flat_map (answer_and_sentences text l None) (drop_all answers_run_again answers few i))
    ∙ append-nil (flat_map (answer_and_sentences text l (Some l.program)) answers)
    ∙ each-alone text l answers all

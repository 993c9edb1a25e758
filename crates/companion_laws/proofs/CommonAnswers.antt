-- What outcomes prints of a text is taken by explain: a settled answer, why it is open, and what refuses the text.
use Rattle.std.proofs.Common.{◌≡◌, ◌≢◌, inl, inr, ℕ, zero, suc, ◌+◌, ◌*◌, ◌^◌, ◌<◌, ◌≤◌, List, [], ◌∷◌, ◌++◌, map, flat_map, length, slice_index, slice_index_or, Option, Some, None, refl, sym, ap, subst, ◌∙◌, arith}
use Rattle.std.specs.List.{All}
use Rattle.std.proofs.lemmas.Bool.{lt-ltb, eq-eqb}
use Rattle.std.proofs.lemmas.Grind.{flat_map-append}
use Rattle.std.proofs.lemmas.List.{append-nil, length-map}
use Rattle.std.proofs.lemmas.List.Elements.{All-nil, All-cons, All-append}
use Rattle.dn_base.specs.declared.ids.Grant.{Grant}
use Rattle.region_table.specs.Program.{ProgramParts}
use Rattle.effect_checker.specs.Checked.{IsChecked}
use Rattle.flat_machine.specs.declared.ending.FlatEnd.{FlatEnd}
use Rattle.flat_machine.specs.Ending.{flat_end}
use Rattle.flat_machine.proofs.LeastLaws.{least-exists}
use Rattle.flat_machine.proofs.RunLemmas.{least-has_run}
use Rattle.rv_core.specs.declared.ending.TaskEnd.{TaskEnd}
use Rattle.rv_core.specs.declared.ending.Ending.{Ending}
use Rattle.run_report.specs.Answer.{answer_of}
use Rattle.run_report.specs.Texts.{HasChecked}
use Rattle.effect_prover.proofs.FollowWords.{AreBelow}
use Rattle.common_outcomes.specs.declared.value.Kind.{Kind}
use Rattle.common_outcomes.specs.declared.value.Kind.TheVariants.{Known, Offset, Varying}
use Rattle.common_outcomes.specs.declared.value.Value.{Value}
use Rattle.common_outcomes.specs.declared.answer.Common.{Common}
use Rattle.common_outcomes.specs.declared.answer.Outcomes.{Outcomes}
use Rattle.common_outcomes.specs.declared.answer.Outcomes.TheVariants.{Settled, Open as LeftOpen}
use Rattle.common_outcomes.specs.Values.{known}
use Rattle.common_outcomes.specs.Laws.{IsCommonTo}
use Rattle.common_outcomes.specs.Answer.{outcomes}
use Rattle.common_outcomes.proofs.Running.{IsAnswered}
use Rattle.common_outcomes.proofs.Settling.{every-order}
use Rattle.outcomes_top.specs.Text.{number_by, known_number, printed_ending, varies_by, varies_line, varies_lines, common_text, open_line}
use Rattle.outcomes_top.specs.Answers.{OutcomesReply, IsOutcomeFound, IsOutcomesAnswer, outcomes_reply}
use Rattle.text_places.specs.declared.places.Located.{Located}
use Rattle.explained_answer.specs.declared.line.AnswerLine as line
use Rattle.explained_answer.specs.declared.line.AnswerLine.{AnswerLine}
use Rattle.explained_answer.specs.declared.line.Count as count
use Rattle.explained_answer.specs.AnswerLines.{answer_line, varies_line as varying_line}
use Rattle.explained_answer.specs.Answers.{shown_words, ending_lines}
use Rattle.explained_answer.specs.Lines.{IsLineOf}
use Rattle.explained_answer.proofs.Printed.{ending-is}
use Rattle.explained_answer.specs.declared.explaining.Explained.{Explained}
use Rattle.explained_answer.specs.Explained.{IsLocated, IsExplained}
use Rattle.companion_laws.specs.Taken.{IsTaken}
use Rattle.companion_laws.proofs.Ends.{number, program, word-lines, memory-of, task-lines-of}
use Rattle.companion_laws.proofs.Modes.{located, is-located, printed-taken}
use Rattle.companion_laws.proofs.OpenAnswers.{open-printed}
use Rattle.companion_laws.proofs.Refused.{IsRefusedOnce, unfit-taken}
use Rattle.companion_laws.proofs.Runs.{AreLines, lines-append}
use Rattle.companion_laws.proofs.Shown.{task_seen, ending_seen, same-answer}

-- ---- a run of the flat machine

record HasSomeRun (P : ProgramParts) (fuel : ℕ) : Type 0 where
  grants : List Grant
  end' : FlatEnd
  run : flat_end P fuel grants ≡ Some end'

some-run : (P : ProgramParts) (fuel : ℕ) → HasSomeRun P fuel
some-run P fuel = by_end (flat_end P fuel (least-exists P fuel).0) refl (least-has_run P fuel (least-exists P fuel).0 (least-exists P fuel).1) where
  by_end : (o : Option FlatEnd) → flat_end P fuel (least-exists P fuel).0 ≡ o → flat_end P fuel (least-exists P fuel).0 ≢ None → HasSomeRun P fuel
  by_end None is some = absurd (some is)
  by_end (Some e) is some = record { grants = (least-exists P fuel).0; end' = e; run = is }

-- ---- the words that are known

number-at : (vs : List Value) (w : ℕ) → slice_index (map known_number vs) w ≡ known_number (slice_index_or vs w (known 0))
number-at [] w = refl
number-at (v ∷ vs) zero = refl
number-at (v ∷ vs) (suc w) = number-at vs w

small-number : (k : Kind) (n m : ℕ) → (k ≡ Known → m ≡ n) → m < 2 ^ 32 → number_by k n < 2 ^ 32
small-number Known n m is low = subst (λ (x : ℕ). x < 2 ^ 32) (is refl) low
small-number (Offset w) n m is low = omega arith
small-number Varying n m is low = omega arith

numbers-below : (common : Common) (e : Ending) → IsCommonTo common e → AreBelow (2 ^ 32) e.memory → AreBelow (2 ^ 32) (map known_number common.memory)
numbers-below common e has low w =
    let v : Value = slice_index_or common.memory w (known 0) in
    subst (λ (x : ℕ). x < 2 ^ 32) (sym (number-at common.memory w)) (small-number v.kind v.number (slice_index e.memory w) (has.words w) (low w))

-- ---- the words that may vary

abbrev varying_by : Kind → ℕ → List AnswerLine
varying_by Known w = []
varying_by _ w = line.TheVariants.Varies w ∷ []

abbrev varying_lines : ℕ → List Value → List AnswerLine
varying_lines w [] = []
varying_lines w (v ∷ vs) = varying_by v.kind w ++ varying_lines (w + 1) vs

same-varying : (w : ℕ) → varies_by Varying w ≡ answer_line (line.TheVariants.Varies w)
unfolding varying_line
same-varying w = refl

varies-one : (k : Kind) (w : ℕ) → varies_by k w ≡ flat_map answer_line (varying_by k w)
varies-one Known w = refl
varies-one (Offset v) w = same-varying w ∙ sym (append-nil (answer_line (line.TheVariants.Varies w)))
varies-one Varying w = same-varying w ∙ sym (append-nil (answer_line (line.TheVariants.Varies w)))

varies-are : (w : ℕ) (vs : List Value) → varies_lines w vs ≡ flat_map answer_line (varying_lines w vs)
unfolding varies_line
varies-are w [] = refl
varies-are w (v ∷ vs) =
    ap (λ (bs : List ℕ). bs ++ varies_lines (w + 1) vs) (varies-one v.kind w)
    ∙ ap (λ (bs : List ℕ). flat_map answer_line (varying_by v.kind w) ++ bs) (varies-are (w + 1) vs)
    ∙ sym (flat_map-append answer_line (varying_by v.kind w) (varying_lines (w + 1) vs))

module _ (text : List ℕ) (l : Located) (at' : IsLocated text l) (fuel : ℕ) (most : fuel ≤ 32768) where
  abbrev P : ProgramParts
  P = l.program

  varying-of : (w : ℕ) (vs : List Value) → w + length vs ≤ length P.memory → All (IsLineOf l) (varying_lines w vs)
  varying-of w [] few = All-nil (IsLineOf l)
  varying-of w (v ∷ vs) few = All-append (IsLineOf l) (varying_by v.kind w) (varying_lines (w + 1) vs) (by_kind v.kind) (varying-of (w + 1) vs (omega (arith, few))) where
    one : All (IsLineOf l) (line.TheVariants.Varies w ∷ [])
    one =
        let most_words = (program text l at').memory in
        All-cons (IsLineOf l) (line.TheVariants.Varies w) [] (record { fits = omega (arith, few, most_words); of = lt-ltb w (length P.memory) (omega (arith, few)) }) (All-nil (IsLineOf l))

    by_kind : (k : Kind) → All (IsLineOf l) (varying_by k w)
    by_kind Known = All-nil (IsLineOf l)
    by_kind (Offset u) = one
    by_kind Varying = one

  -- ---- a settled answer

  module _ (common : Common) (answered : IsAnswered P fuel common) where
    abbrev ran : HasSomeRun P fuel
    ran = some-run P fuel

    has : IsCommonTo common ran.end'.ending
    has = every-order P fuel common ran.grants ran.end' answered ran.run

    count-is : length common.memory ≡ length P.memory
    count-is = sym has.count ∙ (memory-of text l at' fuel most ran.grants ran.end' ran.run).words

    -- the lines before those of words that may vary
    known-lines-of : All (IsLineOf l) (ending_lines (ending_seen (printed_ending common)))
    known-lines-of =
        let numbers : List ℕ = map known_number common.memory in
        let tasks : List AnswerLine = map line.TheVariants.Task (map task_seen common.tasks) in
        let size : AnswerLine = line.TheVariants.Count count.TheVariants.Words (length numbers) in
        let many : length numbers ≡ length common.memory = length-map common.memory known_number in
        let most_words = (program text l at').memory in
        let same : length numbers ≡ length P.memory = many ∙ count-is in
        let size-of : IsLineOf l size = record { fits = number (length numbers) (omega (arith, same, most_words)); of = eq-eqb (length numbers) (length P.memory) same } in
        let below = numbers-below common ran.end'.ending has (memory-of text l at' fuel most ran.grants ran.end' ran.run).small in
        let words = word-lines text l at' fuel most 0 numbers below (omega (arith, same)) in
        let tasks-of : All (IsLineOf l) tasks =
        subst (λ (ts : List TaskEnd). All (IsLineOf l) (map line.TheVariants.Task (map task_seen ts))) has.tasks (task-lines-of text l at' fuel most ran.grants ran.end' ran.run) in
        All-cons (IsLineOf l) (line.TheVariants.Outcome common.outcome) (tasks ++ size ∷ shown_words 0 numbers) (record { fits = tt; of = refl })
        (All-append (IsLineOf l) tasks (size ∷ shown_words 0 numbers) tasks-of (All-cons (IsLineOf l) size (shown_words 0 numbers) size-of words))

    known-printed : AreLines l (answer_of (printed_ending common))
    known-printed =
        record {
          lines = ending_lines (ending_seen (printed_ending common));
          are = known-lines-of;
          is = sym (same-answer (printed_ending common)) ∙ ending-is (ending_seen (printed_ending common));
        }

    varying-printed : AreLines l (varies_lines 0 common.memory)
    varying-printed =
        record { lines = varying_lines 0 common.memory; are = varying-of 0 common.memory (omega (arith, count-is)); is = varies-are 0 common.memory }

    pub settled-printed : AreLines l (common_text common)
    unfolding common_text
    settled-printed = lines-append l (answer_of (printed_ending common)) (varies_lines 0 common.memory) known-printed varying-printed

-- ---- all answers

module _ (once : IsRefusedOnce) (fuel : ℕ) (most : fuel ≤ 32768) (text : List ℕ) (out : OutcomesReply) (e : Explained) (explained : IsExplained text out.bytes e) where
  found-taken : HasChecked text (λ (P : ProgramParts). IsOutcomeFound P fuel out) → IsTaken e
  found-taken h = by_answer (outcomes P fuel) refl where
    P : ProgramParts
    P = h.program

    at' : IsLocated text (located text P)
    at' = is-located text P h.is

    bytes-are : (o : Outcomes) → outcomes P fuel ≡ o → out.bytes ≡ (outcomes_reply o).bytes
    bytes-are o is = ap (λ (r : OutcomesReply). r.bytes) (h.holds.answer ∙ ap outcomes_reply is)

    by_answer : (o : Outcomes) → outcomes P fuel ≡ o → IsTaken e
    by_answer (Settled common) is =
        printed-taken once text P h.is h.checked (common_text common) out.bytes (bytes-are (Settled common) is)
        (settled-printed text (located text P) at' fuel most common (record { program = h.holds.well_formed; numbers = h.holds.words; checked = h.checked; answer = is })) e explained
    by_answer (LeftOpen why) is =
        printed-taken once text P h.is h.checked (open_line why) out.bytes (bytes-are (LeftOpen why) is) (open-printed text (located text P) at' fuel why is) e explained

  pub common-taken : IsOutcomesAnswer fuel text out → IsTaken e
  common-taken (inl h) = found-taken h
  common-taken (inr h) = unfit-taken once text h.line h.why e (subst (λ (bytes : List ℕ). IsExplained text bytes e) (ap (λ (r : OutcomesReply). r.bytes) h.answer) explained)

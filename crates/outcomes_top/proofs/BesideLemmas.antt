-- What is printed as settled stands in the answer of each run, line by line.
use Rattle.std.proofs.Common.{◌≡◌, ◌⊎◌, inl, inr, ℕ, ◌<◌, ◌≤◌, nat_lt, Bool, true, false, List, [], ◌++◌, length, map, flat_map, slice_index, slice_index_or, refl, sym, ap, ◌∙◌, arith, append_assoc}
use Rattle.std.proofs.lemmas.Bool.Decides.{nat_tests}
use Rattle.std.proofs.lemmas.List.{get_or-map, get_or_past, length-map}
use Rattle.rv_core.specs.declared.ending.TaskEnd.{TaskEnd}
use Rattle.rv_core.specs.declared.ending.Ending.{Ending}
use Rattle.dn_base.specs.declared.status.Outcome.{Outcome}
use Rattle.run_report.specs.Answer.{answer_of, outcome_line, task_line, words_line, word_line, word_lines}
use Rattle.common_outcomes.specs.declared.value.Kind.{Kind}
use Rattle.common_outcomes.specs.declared.value.Kind.TheVariants.{Known}
use Rattle.common_outcomes.specs.declared.value.Value.{Value}
use Rattle.common_outcomes.specs.declared.answer.Common.{Common}
use Rattle.common_outcomes.specs.Values.{known}
use Rattle.common_outcomes.specs.Laws.{IsCommonTo}
use Rattle.outcomes_top.specs.Text.{known_number, number_by, printed_ending, varies_lines, common_text}
use Rattle.outcomes_top.specs.Answers.{HasPrinted}
use Rattle.outcomes_top.specs.Beside.{lines_before_words, StandsInAnswer}

answer-parts : (e : Ending) → answer_of e ≡ lines_before_words e ++ word_lines 0 e.memory
unfolding answer_of
answer-parts e = refl

same-front : (common : Common) (e : Ending) → IsCommonTo common e → lines_before_words (printed_ending common) ≡ lines_before_words e
same-front common e has =
    ap (λ (o : Outcome). outcome_line o ++ flat_map task_line common.tasks ++ words_line (length (map known_number common.memory))) (sym has.outcome)
    ∙ (ap (λ (ts : List TaskEnd). outcome_line e.outcome ++ flat_map task_line ts ++ words_line (length (map known_number common.memory))) (sym has.tasks)
    ∙ ap (λ (n : ℕ). outcome_line e.outcome ++ flat_map task_line e.tasks ++ words_line n) (length-map common.memory known_number ∙ sym has.count))

no-line : (w n : ℕ) → n ≡ 0 → word_line w n ≡ []
unfolding word_line
no-line w n none = rw (none) refl

word-said : (common : Common) (e : Ending) (w : ℕ) → IsCommonTo common e
    → (word_line w (slice_index (map known_number common.memory) w) ≡ []) ⊎ (word_line w (slice_index (map known_number common.memory) w) ≡ word_line w (slice_index e.memory w))
word-said common e w has = by_place (nat_lt w (length common.memory)) refl where
  Said : Type 0
  Said = (word_line w (slice_index (map known_number common.memory) w) ≡ []) ⊎ (word_line w (slice_index (map known_number common.memory) w) ≡ word_line w (slice_index e.memory w))

  value : Value
  value = slice_index_or common.memory w (known 0)

  by_kind : (k : Kind) → value.kind ≡ k → slice_index (map known_number common.memory) w ≡ number_by k value.number → Said
  by_kind Known is here = inr (ap (word_line w) (here ∙ sym (has.words w is)))
  by_kind _ is here = inl (no-line w (slice_index (map known_number common.memory) w) here)

  by_place : (t : Bool) → nat_lt w (length common.memory) ≡ t → Said
  by_place true less =
      let within : w < length common.memory = grind (arith, nat_tests, less) in
      by_kind value.kind refl (get_or-map known_number common.memory w (known 0) 0 within)
  by_place false less =
      let past : length (map known_number common.memory) ≤ w = grind (arith, nat_tests, less, length-map common.memory known_number) in
      inl (no-line w (slice_index (map known_number common.memory) w) (get_or_past (map known_number common.memory) w 0 past))

pub stands-in : (bytes : List ℕ) (e : Ending) → HasPrinted bytes e → StandsInAnswer bytes e
unfolding common_text
stands-in bytes e p =
    record {
      numbers = map known_number p.common.memory;
      varies = varies_lines 0 p.common.memory;
      ours =
          p.printed
          ∙ (ap (λ (xs : List ℕ). xs ++ varies_lines 0 p.common.memory) (answer-parts (printed_ending p.common))
          ∙ (append_assoc (lines_before_words (printed_ending p.common)) (word_lines 0 (map known_number p.common.memory)) (varies_lines 0 p.common.memory)
          ∙ ap (λ (xs : List ℕ). xs ++ (word_lines 0 (map known_number p.common.memory) ++ varies_lines 0 p.common.memory)) (same-front p.common e p.has)));
      answer = answer-parts e;
      words = λ w. word-said p.common e w p.has;
    }

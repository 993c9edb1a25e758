-- A claimed answer agrees exactly where it is the answer of some ending that has what all runs have in common.
use Rattle.std.proofs.Common.{◌≡◌, ℕ, zero, suc, ◌+◌, ◌≤◌, nat_eq, List, [], ◌∷◌, ◌++◌, length, map, flat_map, slice_index, slice_index_or, Option, Some, None, refl, sym, ap, ◌∙◌, arith, append_assoc}
use Rattle.std.proofs.lemmas.List.{append-nil, length-map}
use Rattle.std.proofs.lemmas.Option.{none-some}
use Rattle.dn_base.specs.declared.status.Outcome.{Outcome}
use Rattle.rv_core.specs.declared.ending.Ending.{Ending}
use Rattle.rv_core.specs.declared.ending.TaskEnd.{TaskEnd}
use Rattle.run_report.specs.Answer.{outcome_line, task_line, words_line, word_line, word_lines, answer_of}
use Rattle.common_outcomes.specs.declared.value.Kind.{Kind}
use Rattle.common_outcomes.specs.declared.value.Kind.TheVariants.{Known, Offset, Varying}
use Rattle.common_outcomes.specs.declared.value.Value.{Value}
use Rattle.common_outcomes.specs.declared.answer.Common.{Common}
use Rattle.common_outcomes.specs.Values.{known}
use Rattle.common_outcomes.specs.Laws.{IsCommonTo}
use Rattle.claims.specs.declared.verdict.Verdict.TheVariants.{Agrees}
use Rattle.claims.specs.Differences.{first_difference}
use Rattle.claims.specs.Judge.{line_verdict, answer_verdict}
use Rattle.claims.proofs.Agreement.{same-first_difference, byte-exact}
use Rattle.referee_top.specs.Laws.{IsAnswerOfSome}
use Rattle.referee_top.specs.Settled.{behind_prefix, no_number, settled_front, front_lines, verdict_or, words_verdict, settled_verdict}
use Rattle.referee_top.proofs.Behind.{behind-is, behind-some}
use Rattle.referee_top.proofs.Walk.{FitsKind, FitValues, AreWords, words-agree, agree-words}

-- ---- the lines in front

pub no-lines : (w : ℕ) (vs : List Value) → word_lines w (map no_number vs) ≡ []
unfolding word_line
no-lines w [] = refl
no-lines w (v ∷ vs) = no-lines (w + 1) vs

four : (a b c d : List ℕ) → a ++ b ++ c ++ d ≡ (a ++ b ++ c) ++ d
four a b c d = simp append_assoc refl

-- the answer of an ending, by its parts
pub parts-answer : (o : Outcome) (tasks : List TaskEnd) (memory : List ℕ)
    → answer_of (record { outcome = o; tasks = tasks; memory = memory }) ≡ (outcome_line o ++ flat_map task_line tasks ++ words_line (length memory)) ++ word_lines 0 memory
unfolding answer_of
parts-answer o tasks memory = four (outcome_line o) (flat_map task_line tasks) (words_line (length memory)) (word_lines 0 memory)

-- the lines in front are the answer of an ending whose words are 0
pub front-text : (common : Common) (tasks : List TaskEnd) (words : List ℕ) → tasks ≡ common.tasks → words ≡ map no_number common.memory
    → answer_of (record { outcome = common.outcome; tasks = tasks; memory = words }) ≡ settled_front common
unfolding settled_front
front-text common tasks words same is =
    let count : length words ≡ length common.memory = ap length is ∙ length-map common.memory no_number in
    parts-answer common.outcome tasks words
    ∙ ap (λ (ts : List TaskEnd). (outcome_line common.outcome ++ flat_map task_line ts ++ words_line (length words)) ++ word_lines 0 words) same
    ∙ ap (λ (n : ℕ). (outcome_line common.outcome ++ flat_map task_line common.tasks ++ words_line n) ++ word_lines 0 words) count
    ∙ ap (λ (l : List ℕ). (outcome_line common.outcome ++ flat_map task_line common.tasks ++ words_line (length common.memory)) ++ l) (ap (word_lines 0) is ∙ no-lines 0 common.memory)
    ∙ append-nil (outcome_line common.outcome ++ flat_map task_line common.tasks ++ words_line (length common.memory))

-- the answer of an ending that has what is common
front-of : (common : Common) (e : Ending) → IsCommonTo common e → answer_of e ≡ settled_front common ++ word_lines 0 e.memory
unfolding settled_front
front-of common e h =
    parts-answer e.outcome e.tasks e.memory
    ∙ ap (λ (o : Outcome). (outcome_line o ++ flat_map task_line e.tasks ++ words_line (length e.memory)) ++ word_lines 0 e.memory) h.outcome
    ∙ ap (λ (ts : List TaskEnd). (outcome_line common.outcome ++ flat_map task_line ts ++ words_line (length e.memory)) ++ word_lines 0 e.memory) h.tasks
    ∙ ap (λ (n : ℕ). (outcome_line common.outcome ++ flat_map task_line common.tasks ++ words_line n) ++ word_lines 0 e.memory) h.count

-- ---- memories that have what is known

fits-kind : (k : Kind) (n m : ℕ) → (k ≡ Known → m ≡ n) → FitsKind k n m
fits-kind Known n m h = h refl
fits-kind (Offset v) n m h = tt
fits-kind Varying n m h = tt

kind-fits : (k : Kind) (n m : ℕ) → FitsKind k n m → k ≡ Known → m ≡ n
kind-fits Known n m h is = h
kind-fits (Offset v) n m h is = absurd (cc)
kind-fits Varying n m h is = absurd (cc)

abbrev HasKnown : List Value → List ℕ → Type 0
HasKnown vs ms = (w : ℕ) → (slice_index_or vs w (known 0)).kind ≡ Known → slice_index ms w ≡ (slice_index_or vs w (known 0)).number

fit-values : (vs : List Value) (ms : List ℕ) → length ms ≡ length vs → HasKnown vs ms → FitValues vs ms
fit-values [] [] same h = tt
fit-values [] (m ∷ ms) same h = absurd (omega (arith, same))
fit-values (v ∷ vs) [] same h = absurd (omega (arith, same))
fit-values (v ∷ vs) (m ∷ ms) same h = (fits-kind v.kind v.number m (h zero), fit-values vs ms (omega (arith, same)) (λ w. h (suc w)))

values-fit : (vs : List Value) (ms : List ℕ) → FitValues vs ms → HasKnown vs ms
values-fit [] [] fit w is = refl
values-fit [] (m ∷ ms) fit w is = absurd fit
values-fit (v ∷ vs) [] fit w is = absurd fit
values-fit (v ∷ vs) (m ∷ ms) fit zero is = kind-fits v.kind v.number m fit.0 is
values-fit (v ∷ vs) (m ∷ ms) fit (suc w) is = values-fit vs ms fit.1 w is

fit-length : (vs : List Value) (ms : List ℕ) → FitValues vs ms → length ms ≡ length vs
fit-length [] [] fit = refl
fit-length [] (m ∷ ms) fit = absurd fit
fit-length (v ∷ vs) [] fit = absurd fit
fit-length (v ∷ vs) (m ∷ ms) fit = omega (arith, fit-length vs ms fit.1)

-- ---- agreement

not-line : (right : List ℕ) (place : ℕ) → line_verdict right (Some place) ≡ Agrees → ⊥
not-line right place is = cc

same-by : (claimed right : List ℕ) (o : Option ℕ) → first_difference nat_eq claimed right ≡ o → line_verdict right o ≡ Agrees → claimed ≡ right
same-by claimed right None of is = same-first_difference nat_eq byte-exact claimed right of
same-by claimed right (Some place) of is = absurd (not-line right place is)

same-answer : (claimed right : List ℕ) → answer_verdict claimed right ≡ Agrees → claimed ≡ right
unfolding answer_verdict
same-answer claimed right is = same-by claimed right (first_difference nat_eq claimed right) refl is

agrees-by : (common : Common) (claimed : List ℕ) (o : Option (List ℕ)) → behind_prefix (settled_front common) claimed ≡ o
    → verdict_or o (λ rest. words_verdict (front_lines common) 0 common.memory rest) (answer_verdict claimed (settled_front common)) ≡ Agrees → IsAnswerOfSome common claimed
agrees-by common claimed None of is =
    let same : claimed ≡ settled_front common ++ [] = same-answer claimed (settled_front common) is ∙ sym (append-nil (settled_front common)) in
    absurd (none-some [] (sym of ∙ behind-some (settled_front common) claimed [] same))
agrees-by common claimed (Some rest) of is =
    let words : AreWords 0 common.memory rest = agree-words (front_lines common) 0 common.memory rest is in
    let ending : Ending = record { outcome = common.outcome; tasks = common.tasks; memory = words.memory } in
    let has : IsCommonTo common ending =
    record { outcome = refl; tasks = refl; count = fit-length common.memory words.memory words.fit; words = values-fit common.memory words.memory words.fit } in
    record {
      ending = ending;
      has = has;
      is = behind-is (settled_front common) claimed rest of ∙ ap (λ (t : List ℕ). settled_front common ++ t) words.lines ∙ sym (front-of common ending has);
    }

pub settled-agrees : (common : Common) (claimed : List ℕ) → settled_verdict common claimed ≡ Agrees → IsAnswerOfSome common claimed
unfolding settled_verdict
settled-agrees common claimed is = agrees-by common claimed (behind_prefix (settled_front common) claimed) refl is

pub answer-agrees : (common : Common) (claimed : List ℕ) → length common.memory ≤ 65536 → IsAnswerOfSome common claimed → settled_verdict common claimed ≡ Agrees
unfolding settled_verdict
answer-agrees common claimed small h =
    let e = h.ending in
    let found : behind_prefix (settled_front common) claimed ≡ Some (word_lines 0 e.memory) = behind-some (settled_front common) claimed (word_lines 0 e.memory) (h.is ∙ front-of common e h.has) in
    let fit : FitValues common.memory e.memory = fit-values common.memory e.memory h.has.count h.has.words in
    ap (λ (o : Option (List ℕ)). verdict_or o (λ rest. words_verdict (front_lines common) 0 common.memory rest) (answer_verdict claimed (settled_front common))) found
    ∙ words-agree (front_lines common) 0 common.memory e.memory fit (omega (arith, small, h.has.count))

-- ---- the verdict by what follows the lines in front

pub some-verdict : (common : Common) (claimed front rest : List ℕ) (line : ℕ) (memory : List Value) → front ≡ settled_front common → Some rest ≡ behind_prefix front claimed → line ≡ front_lines common
    → memory ≡ common.memory → words_verdict line 0 memory rest ≡ settled_verdict common claimed
unfolding settled_verdict
some-verdict common claimed front rest line memory same found lines words =
    ap (λ (n : ℕ). words_verdict n 0 memory rest) lines ∙ ap (λ (vs : List Value). words_verdict (front_lines common) 0 vs rest) words
    ∙ ap (λ (o : Option (List ℕ)). verdict_or o (λ left. words_verdict (front_lines common) 0 common.memory left) (answer_verdict claimed (settled_front common))) (found ∙ ap (λ (f : List ℕ). behind_prefix f claimed) same)

pub none-verdict : (common : Common) (claimed front : List ℕ) → front ≡ settled_front common → None ≡ behind_prefix front claimed → answer_verdict claimed front ≡ settled_verdict common claimed
unfolding settled_verdict
none-verdict common claimed front same found =
    ap (answer_verdict claimed) same
    ∙ ap (λ (o : Option (List ℕ)). verdict_or o (λ left. words_verdict (front_lines common) 0 common.memory left) (answer_verdict claimed (settled_front common))) (found ∙ ap (λ (f : List ℕ). behind_prefix f claimed) same)

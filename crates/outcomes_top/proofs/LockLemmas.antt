-- Rows of bits, one for each lock.
use Rattle.std.proofs.Common.{◌≡◌, ◌≢◌, ℕ, zero, suc, ◌+◌, ◌-◌, ◌<◌, ◌≤◌, ◌==◌, Bool, true, false, ◌&&◌, ◌||◌, nat_lt, if◌then◌else◌, List, length, slice_index, slice_set, Option, Some, None, refl, sym, ap, ◌∙◌, subst, arith}
use Rattle.std.specs.List.{find, range_with_len}
use Rattle.std.specs.Option.{option_map}
use Rattle.std.proofs.lemmas.Bool.{eqb-true, false≢true}
use Rattle.std.proofs.lemmas.Bool.Decides.{nat_tests}
use Rattle.std.proofs.lemmas.List.{get_or-set_same, get_or-set_other}
use Rattle.rv_core.specs.Access.{is_held}
use Rattle.common_outcomes.specs.declared.answer.Open.TheVariants.{Stuck}
use Rattle.common_outcomes.specs.Phases.{Summary, leads, leads_to, is_on_circle}
use Rattle.common_outcomes.specs.Answer.{locks_up_to, first_stuck}

-- ---- the first lock that passes a test

pub find-hit : (p : ℕ → Bool) (i most : ℕ) → i < most → p i ≡ true → find p (range_with_len i (most - i)) ≡ Some i
find-hit p i most l h =
    let next : most - i ≡ suc (most - (i + 1)) = omega arith in
    ap (λ (n : ℕ). find p (range_with_len i n)) next ∙ ap (λ (b : Bool). if b then Some i else find p (range_with_len (i + 1) (most - (i + 1)))) h

pub find-miss : (p : ℕ → Bool) (i most : ℕ) → i < most → p i ≡ false → find p (range_with_len (i + 1) (most - (i + 1))) ≡ find p (range_with_len i (most - i))
find-miss p i most l h =
    let next : most - i ≡ suc (most - (i + 1)) = omega arith in
    sym (ap (λ (n : ℕ). find p (range_with_len i n)) next ∙ ap (λ (b : Bool). if b then Some i else find p (range_with_len (i + 1) (most - (i + 1)))) h)

pub find-end : (p : ℕ → Bool) (i most : ℕ) → most ≤ i → find p (range_with_len i (most - i)) ≡ None
find-end p i most l = let none : most - i ≡ 0 = omega arith in ap (λ (n : ℕ). find p (range_with_len i n)) none

find-range : (p q : ℕ → Bool) (i n most : ℕ) → i + n ≤ most → ((l : ℕ) → l < most → p l ≡ q l) → find p (range_with_len i n) ≡ find q (range_with_len i n)
find-range p q i zero most within h = refl
find-range p q i (suc n) most within h =
    ap (λ (b : Bool). if b then Some i else find p (range_with_len (i + 1) n)) (h i (omega arith))
    ∙ ap (λ (o : Option ℕ). if q i then Some i else o) (find-range p q (i + 1) n most (omega arith) h)

-- ---- rows

below-more : (t : ℕ → Bool) (b n : ℕ) → ((nat_lt b n && t b) || (b == n && t n)) ≡ (nat_lt b (n + 1) && t b)
below-more t b n = by_test (b == n) refl
  where
    by_test : (x : Bool) → (b == n) ≡ x → ((nat_lt b n && t b) || (x && t n)) ≡ (nat_lt b (n + 1) && t b)
    by_test true e =
        let is : b ≡ n = eqb-true b n e in
        let low : nat_lt b n ≡ false = grind (arith, nat_tests) in
        let here : nat_lt b (n + 1) ≡ true = grind (arith, nat_tests) in
        ap (λ (x : Bool). (x && t b) || t n) low ∙ ap t (sym is) ∙ ap (λ (x : Bool). x && t b) (sym here)
    by_test false e =
        let other : b ≢ n = λ s. false≢true (sym e ∙ grind (arith, nat_tests)) in
        let same : nat_lt b n ≡ nat_lt b (n + 1) = grind (arith, nat_tests) in
        ap (λ (x : Bool). (x && t b) || false) same ∙ or-false (nat_lt b (n + 1) && t b)
      where
        or-false : (x : Bool) → (x || false) ≡ x
        or-false true = refl
        or-false false = refl

pub row-more : (t : ℕ → Bool) (row new n : ℕ) (added : Bool) → ((b : ℕ) → is_held row b ≡ (nat_lt b n && t b)) → ((b : ℕ) → is_held new b ≡ (is_held row b || (b == n && added))) → added ≡ t n
    → (b : ℕ) → is_held new b ≡ (nat_lt b (n + 1) && t b)
row-more t row new n added before one is b =
    one b ∙ ap (λ (x : Bool). x || (b == n && added)) (before b) ∙ ap (λ (x : Bool). (nat_lt b n && t b) || (b == n && x)) is ∙ below-more t b n

-- a row that is written, and the others
pub at-row : (Q : ℕ → ℕ → Type 0) (rows : List ℕ) (i x a : ℕ) → i < length rows → Q i x → (a ≢ i → Q a (slice_index rows a)) → Q a (slice_index (slice_set rows i x) a)
at-row Q rows i x a l here other = by_test (a == i) refl
  where
    by_test : (t : Bool) → (a == i) ≡ t → Q a (slice_index (slice_set rows i x) a)
    by_test true e =
        let is : a ≡ i = eqb-true a i e in
        subst (λ (k : ℕ). Q k (slice_index (slice_set rows i x) k)) (sym is) (subst (Q i) (sym (get_or-set_same rows i x 0 l)) here)
    by_test false e =
        let apart : a ≢ i = λ s. false≢true (sym e ∙ grind (arith, nat_tests)) in
        subst (Q a) (sym (get_or-set_other rows i a x 0 apart)) (other apart)

-- ---- circles

pub stuck-found : (n : ℕ) (all : List Summary) (rows : List ℕ) → ((a b : ℕ) → a < 32 → b < 32 → is_held (slice_index rows a) b ≡ leads all 32 a b)
    → option_map (λ (l : ℕ). Stuck (record { 0 = n }) (record { 0 = l })) (find (λ (l : ℕ). is_held (slice_index rows l) l) locks_up_to) ≡ first_stuck n all
unfolding leads_to
stuck-found n all rows h =
    ap (option_map (λ (l : ℕ). Stuck (record { 0 = n }) (record { 0 = l })))
    (find-range (λ (l : ℕ). is_held (slice_index rows l) l) (is_on_circle all) 0 32 32 (omega arith) (λ l low. h l l low low))

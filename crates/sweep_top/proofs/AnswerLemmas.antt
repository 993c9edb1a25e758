-- The counted answers are the different answers of the runs.
use Rattle.std.proofs.Common.{◌≡◌, ◌≢◌, ℕ, suc, ◌+◌, ◌<◌, Bool, true, false, ◌||◌, cond, if◌then◌else◌, List, [], ◌∷◌, ◌++◌, length, map, get_or, count_by, sum_by, bytes_eq, All, AllPairs, Contains, refl, sym, ap, ◌∙◌, subst, arith, append_assoc, append-nil, length-append, true≢false}
use Rattle.std.proofs.lemmas.List.{map-append}
use Rattle.std.proofs.lemmas.List.Elements.{All-cons, All-push, All-map, All-contains, Contains-append_left, Contains-push}
use Rattle.std.proofs.lemmas.List.Quantifiers.{all_pairs_push}
use Rattle.std.proofs.lemmas.List.Sums.{sum_by-cons, sum_by_push}
use Rattle.std.proofs.lemmas.Map.Views.{Contains-from_any}
use Rattle.std.proofs.lemmas.Slice.Eq.{bytes_eq-Decides}
use Rattle.std.specs.List.{list_any}
use Rattle.dn_machine.specs.declared.record.RunRecord.{RunRecord}
use Rattle.sweep_top.specs.declared.counts.AnswerCount.{AnswerCount}
use Rattle.sweep_top.specs.AnswerLaws.{answers_of, AreTheAnswers, IsCountOf}
use Rattle.sweep_top.specs.Tally.{CountedAnswer, compared_answer, came_again, tallied, counted_from, counted_once, different_answers}

same-from_eq : (s t : List ℕ) → bytes_eq s t ≡ true → s ≡ t
same-from_eq s t = (bytes_eq-Decides s t).0

eq-false : (s t : List ℕ) → s ≢ t → bytes_eq s t ≡ false
eq-false s t other = by_test (bytes_eq s t) refl where
  by_test : (b : Bool) → bytes_eq s t ≡ b → bytes_eq s t ≡ false
  by_test true e = absurd (other (same-from_eq s t e))
  by_test false e = e

other-from_false : (s t : List ℕ) → bytes_eq s t ≡ false → s ≢ t
other-from_false s t e same = true≢false (sym ((bytes_eq-Decides s t).1 same) ∙ e)

-- the first and the others of a list for whose elements something holds
module _ {X : Type 0} where
  head-all : (P : X → Type 0) (x : X) (xs : List X) → All P (x ∷ xs) → P x
  head-all P x xs all = all 0 x (omega arith)

  tail-all : (P : X → Type 0) (x : X) (xs : List X) → All P (x ∷ xs) → All P xs
  tail-all P x xs all = λ i d within. all (suc i) d (omega (arith, within))

  head-pairs : (R : X → X → Type 0) (x : X) (xs : List X) → AllPairs R (x ∷ xs) → All (R x) xs
  head-pairs R x xs pairs = λ i d within. pairs 0 (suc i) d (omega arith) (omega (arith, within))

  tail-pairs : (R : X → X → Type 0) (x : X) (xs : List X) → AllPairs R (x ∷ xs) → AllPairs R xs
  tail-pairs R x xs pairs = λ i j d less within. pairs (suc i) (suc j) d (omega (arith, less)) (omega (arith, within))

-- ---- one more run

module _ (retired : Bool) (first : ℕ) (rs : List RunRecord) (r : RunRecord) where
  abbrev t : List ℕ
  t = compared_answer retired r

  abbrev once : AnswerCount
  once = counted_once (first + length rs) r

  abbrev is_own : List ℕ → RunRecord → Bool
  is_own text q = bytes_eq (compared_answer retired q) text

  count-more : (text : List ℕ) → count_by (is_own text) (rs ++ r ∷ []) ≡ count_by (is_own text) rs + cond (bytes_eq t text) 1 0
  count-more text = sum_by_push (λ (q : RunRecord). cond (is_own text q) 1 0) rs r

  -- an answer that the run doesn't have
  stays : (e : CountedAnswer) → IsCountOf retired first rs e → t ≢ e.0 → IsCountOf retired first (rs ++ r ∷ []) e
  stays e k other =
      record {
        before = k.before;
        own = k.own;
        behind = k.behind ++ r ∷ [];
        split = ap (λ (qs : List RunRecord). qs ++ r ∷ []) k.split ∙ append_assoc k.before (k.own ∷ k.behind) (r ∷ []);
        seed = k.seed;
        has = k.has;
        least = k.least;
        count = let differs = eq-false t e.0 other in let more = count-more e.0 ∙ ap (λ (b : Bool). count_by (is_own e.0) rs + cond b 1 0) differs in omega (arith, k.count, more);
        outcome = k.outcome;
        instructions = k.instructions;
      }

  -- the answer that it has too
  grows : (e : CountedAnswer) → IsCountOf retired first rs e → bytes_eq t e.0 ≡ true → IsCountOf retired first (rs ++ r ∷ []) (e.0, came_again e.1)
  grows e k same =
      record {
        before = k.before;
        own = k.own;
        behind = k.behind ++ r ∷ [];
        split = ap (λ (qs : List RunRecord). qs ++ r ∷ []) k.split ∙ append_assoc k.before (k.own ∷ k.behind) (r ∷ []);
        seed = k.seed;
        has = k.has;
        least = k.least;
        count = let more = count-more e.0 ∙ ap (λ (b : Bool). count_by (is_own e.0) rs + cond b 1 0) same in omega (arith, k.count, more);
        outcome = k.outcome;
        instructions = k.instructions;
      }

  none-tallied : (text : List ℕ) (qs : List RunRecord) → All (λ (q : RunRecord). compared_answer retired q ≢ text) qs → count_by (is_own text) qs ≡ 0
  none-tallied text [] others = refl
  none-tallied text (q ∷ qs) others =
      let differs = eq-false (compared_answer retired q) text (head-all (λ (p : RunRecord). compared_answer retired p ≢ text) q qs others) in
      sum_by-cons (λ (p : RunRecord). cond (is_own text p) 1 0) q qs ∙ ap (λ (b : Bool). cond b 1 0 + count_by (is_own text) qs) differs
      ∙ ap (λ (n : ℕ). 0 + n) (none-tallied text qs (tail-all (λ (p : RunRecord). compared_answer retired p ≢ text) q qs others))

  -- an answer that no run before had
  begins : All (λ (q : RunRecord). compared_answer retired q ≢ t) rs → IsCountOf retired first (rs ++ r ∷ []) (t, once)
  begins others =
      record {
        before = rs;
        own = r;
        behind = [];
        split = refl;
        seed = refl;
        has = refl;
        least = others;
        count =
            let yes : bytes_eq t t ≡ true = (bytes_eq-Decides t t).1 refl in
            let more = count-more t ∙ ap (λ (b : Bool). count_by (is_own t) rs + cond b 1 0) yes in
            let none = none-tallied t rs others in omega (arith, more, none);
        outcome = refl;
        instructions = refl;
      }

  -- ---- the lists of counted answers

  tallied-new : (es : List CountedAnswer) → list_any (bytes_eq t) (answers_of es) ≡ false → tallied t once es ≡ es ++ (t, once) ∷ []
  tallied-new [] new = refl
  tallied-new (e ∷ es) new = by_test (bytes_eq t e.0) new (tallied-new es) where
    by_test : (b : Bool) → (b || list_any (bytes_eq t) (answers_of es)) ≡ false → (list_any (bytes_eq t) (answers_of es) ≡ false → tallied t once es ≡ es ++ (t, once) ∷ [])
        → (if b then (e.0, came_again e.1) ∷ es else e ∷ tallied t once es) ≡ e ∷ es ++ (t, once) ∷ []
    by_test true none among = absurd (true≢false none)
    by_test false none among = ap (λ (rest : List CountedAnswer). e ∷ rest) (among none)

  -- where the answer is there, its texts and seeds stay
  texts-again : (es : List CountedAnswer) → list_any (bytes_eq t) (answers_of es) ≡ true → answers_of (tallied t once es) ≡ answers_of es
  texts-again [] there = absurd (true≢false (sym there))
  texts-again (e ∷ es) there = by_test (bytes_eq t e.0) there (texts-again es) where
    by_test : (b : Bool) → (b || list_any (bytes_eq t) (answers_of es)) ≡ true → (list_any (bytes_eq t) (answers_of es) ≡ true → answers_of (tallied t once es) ≡ answers_of es)
        → answers_of (if b then (e.0, came_again e.1) ∷ es else e ∷ tallied t once es) ≡ answers_of (e ∷ es)
    by_test true here among = refl
    by_test false here among = ap (λ (rest : List (List ℕ)). e.0 ∷ rest) (among here)

  abbrev seeds_of : List CountedAnswer → List ℕ
  seeds_of es = map (λ (e : CountedAnswer). e.1.seed) es

  seeds-again : (es : List CountedAnswer) → list_any (bytes_eq t) (answers_of es) ≡ true → seeds_of (tallied t once es) ≡ seeds_of es
  seeds-again [] there = absurd (true≢false (sym there))
  seeds-again (e ∷ es) there = by_test (bytes_eq t e.0) there (seeds-again es) where
    by_test : (b : Bool) → (b || list_any (bytes_eq t) (answers_of es)) ≡ true → (list_any (bytes_eq t) (answers_of es) ≡ true → seeds_of (tallied t once es) ≡ seeds_of es)
        → seeds_of (if b then (e.0, came_again e.1) ∷ es else e ∷ tallied t once es) ≡ seeds_of (e ∷ es)
    by_test true here among = refl
    by_test false here among = ap (λ (rest : List ℕ). e.1.seed ∷ rest) (among here)

  total-more : (es : List CountedAnswer) → sum_by (λ (e : CountedAnswer). e.1.runs) (tallied t once es) ≡ sum_by (λ (e : CountedAnswer). e.1.runs) es + 1
  total-more [] = omega arith
  total-more (e ∷ es) = by_test (bytes_eq t e.0) (total-more es) where
    by_test : (b : Bool) → sum_by (λ (d : CountedAnswer). d.1.runs) (tallied t once es) ≡ sum_by (λ (d : CountedAnswer). d.1.runs) es + 1
        → sum_by (λ (d : CountedAnswer). d.1.runs) (if b then (e.0, came_again e.1) ∷ es else e ∷ tallied t once es) ≡ sum_by (λ (d : CountedAnswer). d.1.runs) (e ∷ es) + 1
    by_test true rest =
        let now : sum_by (λ (d : CountedAnswer). d.1.runs) ((e.0, came_again e.1) ∷ es) ≡ e.1.runs + 1 + sum_by (λ (d : CountedAnswer). d.1.runs) es = sum_by-cons (λ (d : CountedAnswer). d.1.runs) (e.0, came_again e.1) es in
        now ∙ omega arith ∙ sym (ap (λ (n : ℕ). n + 1) (sum_by-cons (λ (d : CountedAnswer). d.1.runs) e es))
    by_test false rest =
        sum_by-cons (λ (d : CountedAnswer). d.1.runs) e (tallied t once es) ∙ ap (λ (n : ℕ). e.1.runs + n) rest ∙ omega arith
        ∙ sym (ap (λ (n : ℕ). n + 1) (sum_by-cons (λ (d : CountedAnswer). d.1.runs) e es))

  each-stays : (es : List CountedAnswer) → All (IsCountOf retired first rs) es → All (λ (s : List ℕ). t ≢ s) (answers_of es) → All (IsCountOf retired first (rs ++ r ∷ [])) es
  each-stays [] each others = λ i d within. absurd (omega (arith, within))
  each-stays (e ∷ es) each others =
      All-cons (IsCountOf retired first (rs ++ r ∷ [])) e es (stays e (head-all (IsCountOf retired first rs) e es each) (head-all (λ (s : List ℕ). t ≢ s) e.0 (answers_of es) others))
      (each-stays es (tail-all (IsCountOf retired first rs) e es each) (tail-all (λ (s : List ℕ). t ≢ s) e.0 (answers_of es) others))

  each-again : (es : List CountedAnswer) → list_any (bytes_eq t) (answers_of es) ≡ true → All (IsCountOf retired first rs) es → AllPairs (λ (s u : List ℕ). s ≢ u) (answers_of es)
      → All (IsCountOf retired first (rs ++ r ∷ [])) (tallied t once es)
  each-again [] there each apart = absurd (true≢false (sym there))
  each-again (e ∷ es) there each apart =
      let here = head-all (IsCountOf retired first rs) e es each in
      let later = tail-all (IsCountOf retired first rs) e es each in
      by_test (bytes_eq t e.0) refl there here later (λ found. each-again es found later (tail-pairs (λ (s u : List ℕ). s ≢ u) e.0 (answers_of es) apart))
    where
      by_test : (b : Bool) → bytes_eq t e.0 ≡ b → (b || list_any (bytes_eq t) (answers_of es)) ≡ true → IsCountOf retired first rs e → All (IsCountOf retired first rs) es
          → (list_any (bytes_eq t) (answers_of es) ≡ true → All (IsCountOf retired first (rs ++ r ∷ [])) (tallied t once es))
          → All (IsCountOf retired first (rs ++ r ∷ [])) (if b then (e.0, came_again e.1) ∷ es else e ∷ tallied t once es)
      by_test true same found here later among =
          let others : All (λ (s : List ℕ). t ≢ s) (answers_of es) = subst (λ (u : List ℕ). All (λ (s : List ℕ). u ≢ s) (answers_of es)) (sym (same-from_eq t e.0 same)) (head-pairs (λ (s u : List ℕ). s ≢ u) e.0 (answers_of es) apart) in
          All-cons (IsCountOf retired first (rs ++ r ∷ [])) (e.0, came_again e.1) es (grows e here same) (each-stays es later others)
      by_test false differs found here later among =
          All-cons (IsCountOf retired first (rs ++ r ∷ [])) e (tallied t once es) (stays e here (other-from_false t e.0 differs)) (among found)

  -- where the answer isn't there
  all-others : (ss : List (List ℕ)) → list_any (bytes_eq t) ss ≡ false → All (λ (s : List ℕ). t ≢ s) ss
  all-others [] none = λ i d within. absurd (omega (arith, within))
  all-others (s ∷ ss) none = by_test (bytes_eq t s) refl none (all-others ss) where
    by_test : (b : Bool) → bytes_eq t s ≡ b → (b || list_any (bytes_eq t) ss) ≡ false → (list_any (bytes_eq t) ss ≡ false → All (λ (u : List ℕ). t ≢ u) ss) → All (λ (u : List ℕ). t ≢ u) (s ∷ ss)
    by_test true same bad among = absurd (true≢false bad)
    by_test false differs rest among = All-cons (λ (u : List ℕ). t ≢ u) s ss (other-from_false t s differs) (among rest)

  seed-below : (e : CountedAnswer) → IsCountOf retired first rs e → e.1.seed < first + length rs
  seed-below e k =
      let long : length rs ≡ length k.before + length (k.own ∷ k.behind) = ap length k.split ∙ length-append k.before (k.own ∷ k.behind) in
      omega (arith, k.seed, long)

  step : (es : List CountedAnswer) → AreTheAnswers retired first rs es → AreTheAnswers retired first (rs ++ r ∷ []) (tallied t once es)
  step es a = by_test (list_any (bytes_eq t) (answers_of es)) refl where
    total : (ds : List CountedAnswer) → sum_by (λ (e : CountedAnswer). e.1.runs) ds ≡ sum_by (λ (e : CountedAnswer). e.1.runs) es + 1 → sum_by (λ (e : CountedAnswer). e.1.runs) ds ≡ length (rs ++ r ∷ [])
    total ds one = one ∙ ap (λ (n : ℕ). n + 1) a.total ∙ sym (length-append rs (r ∷ []))

    all-in : (ss : List (List ℕ)) → ((s : List ℕ) → Contains (answers_of es) s → Contains ss s) → Contains ss t → All (λ (q : RunRecord). Contains ss (compared_answer retired q)) (rs ++ r ∷ [])
    all-in ss wider has =
        All-push (λ (q : RunRecord). Contains ss (compared_answer retired q)) rs r (λ i d within. wider (compared_answer retired (get_or rs i d)) (a.whole i d within)) has

    again : list_any (bytes_eq t) (answers_of es) ≡ true → AreTheAnswers retired first (rs ++ r ∷ []) (tallied t once es)
    again there =
        let texts = texts-again es there in
        record {
          each = each-again es there a.each a.different;
          whole =
              subst (λ (ss : List (List ℕ)). All (λ (q : RunRecord). Contains ss (compared_answer retired q)) (rs ++ r ∷ [])) (sym texts)
              (all-in (answers_of es) (λ s has. has) (Contains-from_any same-from_eq t (answers_of es) there));
          different = subst (λ (ss : List (List ℕ)). AllPairs (λ (s u : List ℕ). s ≢ u) ss) (sym texts) a.different;
          rising = subst (λ (ss : List ℕ). AllPairs (λ (s u : ℕ). s < u) ss) (sym (seeds-again es there)) a.rising;
          total = total (tallied t once es) (total-more es);
        }

    anew : list_any (bytes_eq t) (answers_of es) ≡ false → AreTheAnswers retired first (rs ++ r ∷ []) (es ++ (t, once) ∷ [])
    anew none =
        let absent = all-others (answers_of es) none in
        let others : All (λ (q : RunRecord). compared_answer retired q ≢ t) rs =
        λ i d within. let other = All-contains (λ (s : List ℕ). t ≢ s) (answers_of es) (compared_answer retired (get_or rs i d)) absent (a.whole i d within) in (λ same. other (sym same)) in
        let texts : answers_of (es ++ (t, once) ∷ []) ≡ answers_of es ++ t ∷ [] = map-append (λ (e : CountedAnswer). e.0) es ((t, once) ∷ []) in
        let seeds : seeds_of (es ++ (t, once) ∷ []) ≡ seeds_of es ++ (first + length rs) ∷ [] = map-append (λ (e : CountedAnswer). e.1.seed) es ((t, once) ∷ []) in
        record {
          each = All-push (IsCountOf retired first (rs ++ r ∷ [])) es (t, once) (each-stays es a.each absent) (begins others);
          whole =
              subst (λ (ss : List (List ℕ)). All (λ (q : RunRecord). Contains ss (compared_answer retired q)) (rs ++ r ∷ [])) (sym texts)
              (all-in (answers_of es ++ t ∷ []) (λ s has. Contains-append_left (answers_of es) (t ∷ []) s has) (Contains-push (answers_of es) t));
          different =
              subst (λ (ss : List (List ℕ)). AllPairs (λ (s u : List ℕ). s ≢ u) ss) (sym texts)
              (all_pairs_push (λ (s u : List ℕ). s ≢ u) (answers_of es) t a.different (λ k d within. (λ same. absent k d within (sym same))));
          rising =
              subst (λ (ss : List ℕ). AllPairs (λ (s u : ℕ). s < u) ss) (sym seeds)
              (all_pairs_push (λ (s u : ℕ). s < u) (seeds_of es) (first + length rs) a.rising
              (All-map (λ (s : ℕ). s < first + length rs) (λ (e : CountedAnswer). e.1.seed) es (λ i d within. seed-below (get_or es i d) (a.each i d within))));
          total = total (es ++ (t, once) ∷ []) (sum_by_push (λ (e : CountedAnswer). e.1.runs) es (t, once));
        }

    by_test : (b : Bool) → list_any (bytes_eq t) (answers_of es) ≡ b → AreTheAnswers retired first (rs ++ r ∷ []) (tallied t once es)
    by_test true there = again there
    by_test false none = subst (λ (ds : List CountedAnswer). AreTheAnswers retired first (rs ++ r ∷ []) ds) (sym (tallied-new es none)) (anew none)

-- ---- all runs

steps : (retired : Bool) (first : ℕ) (done rs : List RunRecord) (es : List CountedAnswer) → AreTheAnswers retired first done es → AreTheAnswers retired first (done ++ rs) (counted_from retired es (first + length done) rs)
steps retired first done [] es a = subst (λ (qs : List RunRecord). AreTheAnswers retired first qs es) (sym (append-nil done)) a
steps retired first done (r ∷ rs) es a =
    let next = tallied (compared_answer retired r) (counted_once (first + length done) r) es in
    let seed : first + length (done ++ r ∷ []) ≡ first + length done + 1 = ap (λ (n : ℕ). first + n) (length-append done (r ∷ [])) ∙ omega arith in
    subst (λ (qs : List RunRecord). AreTheAnswers retired first qs (counted_from retired next (first + length done + 1) rs)) (append_assoc done (r ∷ []) rs)
    (subst (λ (n : ℕ). AreTheAnswers retired first ((done ++ r ∷ []) ++ rs) (counted_from retired next n rs)) seed (steps retired first (done ++ r ∷ []) rs next (step retired first done r es a)))

begun : (retired : Bool) (first : ℕ) → AreTheAnswers retired first [] []
begun retired first =
    record {
      each = λ i d within. absurd (omega (arith, within));
      whole = λ i d within. absurd (omega (arith, within));
      different = λ i j d less within. absurd (omega (arith, within));
      rising = λ i j d less within. absurd (omega (arith, within));
      total = refl;
    }

pub are-the-answers : (retired : Bool) (first : ℕ) (rs : List RunRecord) → AreTheAnswers retired first rs (different_answers retired first rs)
unfolding different_answers
are-the-answers retired first rs =
    let here : first + 0 ≡ first = omega arith in
    subst (λ (n : ℕ). AreTheAnswers retired first rs (counted_from retired [] n rs)) here (steps retired first [] rs [] (begun retired first))

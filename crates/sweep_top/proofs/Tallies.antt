-- How a tally grows by one run.
use Rattle.std.proofs.Common.{◌≡◌, ◌≤◌, ◌<◌, ℕ, zero, suc, ◌+◌, ◌==◌, Bool, true, false, min, max, cond, if◌then◌else◌, List, [], ◌∷◌, ◌++◌, length, map, fold, drop, take, set, get_or, bytes_eq, Vec, Option, Some, None, Result, Ok, Err, OnOk, refl, sym, ap, ◌∙◌, subst, arith, length-append}
use Rattle.std.proofs.lemmas.List.{length-map, map-append, drop_more, drop_all}
use Rattle.std.proofs.lemmas.List.Sums.{fold-append, sum_by_push}
use Rattle.std.proofs.lemmas.Bool.{eqb-true}
use Rattle.std.specs.Map.{lookup}
use Rattle.indexmap.specs.IndexMap.{insert_entry}
use Rattle.dn_base.specs.declared.status.Outcome as outcome
use Rattle.dn_base.specs.declared.status.Outcome.{Outcome}
use Rattle.message_net.specs.declared.event.EventKind.{EventKind}
use Rattle.message_net.specs.Kind.{kind_index}
use Rattle.grant_log.specs.Counts.{kind_count}
use Rattle.run_report.specs.Run.{all_kinds}
use Rattle.run_report.specs.Grants.{grant_lines}
use Rattle.region_table.specs.Program.{ProgramParts}
use Rattle.dn_top.specs.Runs.{IsRunFor}
use Rattle.dn_machine.specs.declared.record.RunRecord.{RunRecord}
use Rattle.sweep_top.specs.declared.counts.AnswerCount.{AnswerCount}
use Rattle.sweep_top.specs.declared.counts.OutcomeCounts.{OutcomeCounts}
use Rattle.sweep_top.specs.declared.options.SweepOptions.{SweepOptions}
use Rattle.sweep_top.specs.declared.spread.Spread.{Spread}
use Rattle.sweep_top.specs.declared.spread.Summed.{Summed}
use Rattle.sweep_top.specs.declared.tally.Tally.{Tally}
use Rattle.sweep_top.specs.Checksum.{checksum}
use Rattle.sweep_top.specs.Kept.{summed_with, counted_answers, raised_count, widened, widened_each, with_outcome, AreAnswersWithin, AreOutcomesWithin, HasRunAdded, HasTallied, IsTallyOf, IsTallyWith, IsSeedWithin}
use Rattle.sweep_top.specs.Runs.{options_at}
use Rattle.sweep_top.proofs.RowLemmas.{runs-on}
use Rattle.sweep_top.specs.Tally.{CountedAnswer, compared_answer, came_again, tallied, counted_from, counted_once, different_answers, events_of_run, is_done, is_out_of_fuel, is_stuck_outcome, is_trapped_outcome, kind_of_runs, outcome_count, outcomes_of, retired_of_run, spread_of, summed_of}

-- ---- answers in a map

module _ {A : Type 0} where
  -- the test of a text in the map
  abbrev is_key : List ℕ → Vec ℕ A → Bool
  is_key text key = bytes_eq text key.items

  -- an entry that was counted before or is new
  pub counted_answers-inserted : (es : List (Vec ℕ A × AnswerCount)) (k : Vec ℕ A) (once v : AnswerCount) → v ≡ raised_count once (lookup (is_key k.items) es)
      → counted_answers (insert_entry (λ (x y : Vec ℕ A). bytes_eq x.items y.items) es k v) ≡ tallied k.items once (counted_answers es)
  counted_answers-inserted [] k once v is = ap (λ (c : AnswerCount). (k.items, c) ∷ []) is
  counted_answers-inserted (e ∷ es) k once v is =
      by_test (bytes_eq k.items e.0.items) is (counted_answers-inserted es k once v)
    where
      by_test : (t : Bool) → v ≡ raised_count once (cond t (Some e.1) (lookup (is_key k.items) es))
          → (v ≡ raised_count once (lookup (is_key k.items) es) → counted_answers (insert_entry (λ (x y : Vec ℕ A). bytes_eq x.items y.items) es k v) ≡ tallied k.items once (counted_answers es))
          → counted_answers (if t then (e.0, v) ∷ es else e ∷ insert_entry (λ (x y : Vec ℕ A). bytes_eq x.items y.items) es k v)
          ≡ (if t then (e.0.items, came_again e.1) ∷ counted_answers es else (e.0.items, e.1) ∷ tallied k.items once (counted_answers es))
      by_test true here among = ap (λ (c : AnswerCount). (e.0.items, c) ∷ counted_answers es) here
      by_test false here among = ap (λ (rest : List CountedAnswer). (e.0.items, e.1) ∷ rest) (among here)

  pub within-lookup : (n : ℕ) (text : List ℕ) (es : List (Vec ℕ A × AnswerCount)) (c : AnswerCount) → AreAnswersWithin n (counted_answers es) → lookup (is_key text) es ≡ Some c → c.runs ≤ n
  within-lookup n text [] c within found = let bad : ◌≡◌ {A = Option AnswerCount} None (Some c) = found in absurd cc
  within-lookup n text (e ∷ es) c within found = by_test (bytes_eq text e.0.items) found (within-lookup n text es c within.1) where
    by_test : (t : Bool) → cond t (Some e.1) (lookup (is_key text) es) ≡ Some c → (lookup (is_key text) es ≡ Some c → c.runs ≤ n) → c.runs ≤ n
    by_test true here among = let same : e.1 ≡ c = cc in subst (λ (d : AnswerCount). d.runs ≤ n) same within.0
    by_test false here among = among here

pub within-tallied : (n : ℕ) (text : List ℕ) (once : AnswerCount) (es : List CountedAnswer) → once.runs ≡ 1 → AreAnswersWithin n es → AreAnswersWithin (n + 1) (tallied text once es)
within-tallied n text once [] is within = (omega (arith, is), tt)
within-tallied n text once (e ∷ es) is within = by_test (bytes_eq text e.0) (within-tallied n text once es is within.1) where
  more : (ds : List CountedAnswer) → AreAnswersWithin n ds → AreAnswersWithin (n + 1) ds
  more [] w = tt
  more (d ∷ ds) w = (omega (arith, w.0), more ds w.1)

  by_test : (t : Bool) → AreAnswersWithin (n + 1) (tallied text once es) → AreAnswersWithin (n + 1) (if t then (e.0, came_again e.1) ∷ es else e ∷ tallied text once es)
  by_test true rest = (omega (arith, within.0), more es within.1)
  by_test false rest = (omega (arith, within.0), rest)

-- ---- one more number

never : (n : ℕ) → (suc n == 0) ≡ false
never n = by_test (suc n == 0) refl where
  by_test : (b : Bool) → (suc n == 0) ≡ b → (suc n == 0) ≡ false
  by_test true e = let same = eqb-true (suc n) 0 e in absurd (omega (arith, same))
  by_test false e = e

pub spread_of-more : (xs : List ℕ) (x : ℕ) → spread_of (xs ++ x ∷ []) ≡ widened (length xs) (spread_of xs) x
spread_of-more [] x = refl
spread_of-more (y ∷ ys) x =
    let after : Spread = record { least = min (fold min y ys) x; most = max (fold max y ys) x } in
    rw (fold-append min y ys (x ∷ []), fold-append max y ys (x ∷ []))
    (ap (λ (b : Bool). if b then record { least = x; most = x } else after) (sym (never (length ys))))

pub summed_of-more : (xs : List ℕ) (x : ℕ) → summed_of (xs ++ x ∷ []) ≡ summed_with (length xs) (summed_of xs) x
summed_of-more xs x = rw (spread_of-more xs x, sum_by_push (λ (n : ℕ). n) xs x) refl

-- ---- one more outcome

outcome_count-more : (test : Outcome → Bool) (rs : List RunRecord) (r : RunRecord) → outcome_count test (rs ++ r ∷ []) ≡ outcome_count test rs + cond (test r.ending.outcome) 1 0
outcome_count-more test rs r = sum_by_push (λ (q : RunRecord). cond (test q.ending.outcome) 1 0) rs r

none : (n : ℕ) → n + 0 ≡ n
none n = omega arith

pub outcomes_of-more : (rs : List RunRecord) (r : RunRecord) → outcomes_of (rs ++ r ∷ []) ≡ with_outcome (outcomes_of rs) r.ending.outcome
outcomes_of-more rs r =
    rw (outcome_count-more is_done rs r, outcome_count-more is_trapped_outcome rs r, outcome_count-more is_out_of_fuel rs r, outcome_count-more is_stuck_outcome rs r)
    (by_outcome r.ending.outcome)
  where
    by_outcome : (o : Outcome)
        → ◌≡◌ {A = OutcomeCounts} (record {
          done = outcome_count is_done rs + cond (is_done o) 1 0;
          trapped = outcome_count is_trapped_outcome rs + cond (is_trapped_outcome o) 1 0;
          fuel = outcome_count is_out_of_fuel rs + cond (is_out_of_fuel o) 1 0;
          stuck = outcome_count is_stuck_outcome rs + cond (is_stuck_outcome o) 1 0;
        }) (with_outcome (outcomes_of rs) o)
    by_outcome outcome.TheVariants.Done = rw (none (outcome_count is_trapped_outcome rs), none (outcome_count is_out_of_fuel rs), none (outcome_count is_stuck_outcome rs)) refl
    by_outcome outcome.TheVariants.Trapped = rw (none (outcome_count is_done rs), none (outcome_count is_out_of_fuel rs), none (outcome_count is_stuck_outcome rs)) refl
    by_outcome outcome.TheVariants.Fuel = rw (none (outcome_count is_done rs), none (outcome_count is_trapped_outcome rs), none (outcome_count is_stuck_outcome rs)) refl
    by_outcome outcome.TheVariants.Stuck = rw (none (outcome_count is_done rs), none (outcome_count is_trapped_outcome rs), none (outcome_count is_out_of_fuel rs)) refl

pub outcomes-within : (n : ℕ) (c : OutcomeCounts) (o : Outcome) → AreOutcomesWithin n c → AreOutcomesWithin (n + 1) (with_outcome c o)
outcomes-within n c outcome.TheVariants.Done w = record { done = omega (arith, w.done); trapped = omega (arith, w.trapped); fuel = omega (arith, w.fuel); stuck = omega (arith, w.stuck) }
outcomes-within n c outcome.TheVariants.Trapped w = record { done = omega (arith, w.done); trapped = omega (arith, w.trapped); fuel = omega (arith, w.fuel); stuck = omega (arith, w.stuck) }
outcomes-within n c outcome.TheVariants.Fuel w = record { done = omega (arith, w.done); trapped = omega (arith, w.trapped); fuel = omega (arith, w.fuel); stuck = omega (arith, w.stuck) }
outcomes-within n c outcome.TheVariants.Stuck w = record { done = omega (arith, w.done); trapped = omega (arith, w.trapped); fuel = omega (arith, w.fuel); stuck = omega (arith, w.stuck) }

-- ---- one more count of each kind

-- the numbers from i on, n of them
abbrev numbers_from : ℕ → ℕ → List ℕ
numbers_from i zero = []
numbers_from i (suc n) = i ∷ numbers_from (i + 1) n

dropped-listed : (xs : List ℕ) (i n : ℕ) → i + n ≡ length xs → drop i xs ≡ map (λ (j : ℕ). get_or xs j 0) (numbers_from i n)
dropped-listed xs i zero whole = drop_all i xs (omega (arith, whole))
dropped-listed xs i (suc n) whole =
    let later : i + 1 + n ≡ length xs = omega (arith, whole) in
    drop_more xs i 0 (omega (arith, whole)) ∙ ap (λ (ys : List ℕ). get_or xs i 0 ∷ ys) (dropped-listed xs (i + 1) n later)

pub kinds-listed : (xs : List ℕ) → length xs ≡ 17 → xs ≡ map (λ (k : EventKind). get_or xs (kind_index k) 0) all_kinds
unfolding all_kinds
kinds-listed xs whole = dropped-listed xs 0 17 (sym whole)

widened_each-map : (n : ℕ) (f g : EventKind → Spread) (x : EventKind → ℕ) (ks : List EventKind) → ((k : EventKind) → g k ≡ widened n (f k) (x k)) → widened_each n (map f ks) (map x ks) ≡ map g ks
widened_each-map n f g x [] each = refl
widened_each-map n f g x (k ∷ ks) each =
    ap (λ (q : Spread). q ∷ widened_each n (map f ks) (map x ks)) (sym (each k)) ∙ ap (λ (qs : List Spread). g k ∷ qs) (widened_each-map n f g x ks each)

kind_of_runs-more : (rs : List RunRecord) (r : RunRecord) (k : EventKind) → spread_of (kind_of_runs (rs ++ r ∷ []) k) ≡ widened (length rs) (spread_of (kind_of_runs rs k)) (kind_count k r.counts)
kind_of_runs-more rs r k =
    let count = λ (q : RunRecord). kind_count k q.counts in
    rw (map-append count rs (r ∷ []), spread_of-more (map count rs) (kind_count k r.counts), length-map rs count) refl

pub kinds-more : (rs : List RunRecord) (r : RunRecord) → length r.counts.kinds ≡ 17
    → widened_each (length rs) (map (λ (k : EventKind). spread_of (kind_of_runs rs k)) all_kinds) r.counts.kinds ≡ map (λ (k : EventKind). spread_of (kind_of_runs (rs ++ r ∷ []) k)) all_kinds
kinds-more rs r each =
    ap (λ (xs : List ℕ). widened_each (length rs) (map (λ (k : EventKind). spread_of (kind_of_runs rs k)) all_kinds) xs) (kinds-listed r.counts.kinds each)
    ∙ widened_each-map (length rs) (λ (k : EventKind). spread_of (kind_of_runs rs k)) (λ (k : EventKind). spread_of (kind_of_runs (rs ++ r ∷ []) k)) (λ (k : EventKind). kind_count k r.counts) all_kinds
    (kind_of_runs-more rs r)

-- ---- one more answer

counted_from-more : (retired : Bool) (es : List CountedAnswer) (seed : ℕ) (rs : List RunRecord) (r : RunRecord)
    → counted_from retired es seed (rs ++ r ∷ []) ≡ tallied (compared_answer retired r) (counted_once (seed + length rs) r) (counted_from retired es seed rs)
counted_from-more retired es seed [] r = let here : seed ≡ seed + 0 = omega arith in ap (λ (n : ℕ). tallied (compared_answer retired r) (counted_once n r) es) here
counted_from-more retired es seed (q ∷ rs) r =
    let here : seed + 1 + length rs ≡ seed + length (q ∷ rs) = omega arith in
    let before = tallied (compared_answer retired q) (counted_once seed q) es in
    counted_from-more retired before (seed + 1) rs r
    ∙ ap (λ (n : ℕ). tallied (compared_answer retired r) (counted_once n r) (counted_from retired before (seed + 1) rs)) here

pub answers-more : (retired : Bool) (first : ℕ) (rs : List RunRecord) (r : RunRecord)
    → different_answers retired first (rs ++ r ∷ []) ≡ tallied (compared_answer retired r) (counted_once (first + length rs) r) (different_answers retired first rs)
unfolding different_answers
answers-more retired first rs r = counted_from-more retired [] first rs r

-- ---- one more run

pub tally-more : (retired : Bool) (first : ℕ) (rs : List RunRecord) (r : RunRecord) (old new : Tally) → IsTallyOf retired first rs old → IsTallyWith retired (first + length rs) r old new → IsTallyOf retired first (rs ++ r ∷ []) new
tally-more retired first rs r old new is w =
    let long : length (rs ++ r ∷ []) ≡ length rs + 1 = length-append rs (r ∷ []) in
    record {
      runs = w.runs ∙ ap (λ (n : ℕ). n + 1) is.runs ∙ sym long;
      outcomes = w.outcomes ∙ ap (λ (c : OutcomeCounts). with_outcome c r.ending.outcome) is.outcomes ∙ sym (outcomes_of-more rs r);
      sum = w.sum ∙ more retired_of_run old.retired is.sum;
      events = w.events ∙ more events_of_run old.events is.events;
      kinds = w.kinds ∙ ap (λ (n : ℕ). widened_each n old.kinds r.counts.kinds) is.runs ∙ ap (λ (qs : List Spread). widened_each (length rs) qs r.counts.kinds) is.kinds ∙ kinds-more rs r w.each_kind;
      answers = w.answers ∙ ap (λ (es : List CountedAnswer). tallied (compared_answer retired r) (counted_once (first + length rs) r) es) is.answers ∙ sym (answers-more retired first rs r);
      grants = w.grants ∙ ap (λ (xs : List ℕ). xs ++ checksum (grant_lines r.grants) ∷ []) is.grants ∙ sym (map-append (λ (q : RunRecord). checksum (grant_lines q.grants)) rs (r ∷ []));
    }
  where
    more : (f : RunRecord → ℕ) (s : Summed) → s ≡ summed_of (map f rs) → summed_with old.runs s (f r) ≡ summed_of (map f (rs ++ r ∷ []))
    more f s same =
        rw (same, is.runs, map-append f rs (r ∷ []), summed_of-more (map f rs) (f r), length-map rs f) refl

pub within-more : (retired : Bool) (seed : ℕ) (r : RunRecord) (old new : Tally) → IsSeedWithin old → IsTallyWith retired seed r old new → IsSeedWithin new
within-more retired seed r old new within w =
    record {
      outcomes = rw (w.runs, w.outcomes) (outcomes-within old.runs old.outcomes r.ending.outcome within.outcomes);
      retired = rw (w.runs, w.sum) (omega (arith, within.retired, w.sum_within));
      events = rw (w.runs, w.events) (omega (arith, within.events, w.events_within));
      answers = rw (w.runs, w.answers) (within-tallied old.runs (compared_answer retired r) (counted_once seed r) (counted_answers old.answers.entries) refl within.answers);
    }

-- ---- the loop over the kinds

pub widened_each-none : (n : ℕ) (qs : List Spread) → widened_each n qs [] ≡ qs
widened_each-none n [] = refl
widened_each-none n (q ∷ qs) = refl

-- one more place is widened
pub widened_each-at : (n : ℕ) (qs : List Spread) (xs : List ℕ) (i : ℕ) (d : Spread) → i < length qs → i < length xs
    → set (widened_each n qs (take i xs)) i (widened n (get_or (widened_each n qs (take i xs)) i d) (get_or xs i 0)) ≡ widened_each n qs (take (i + 1) xs)
widened_each-at n [] xs i d low high = absurd (omega (arith, low))
widened_each-at n (q ∷ qs) [] i d low high = absurd (omega (arith, high))
widened_each-at n (q ∷ qs) (x ∷ xs) zero d low high = ap (λ (rest : List Spread). widened n q x ∷ rest) (sym (widened_each-none n qs))
widened_each-at n (q ∷ qs) (x ∷ xs) (suc i) d low high =
    let next : suc (i + 1) ≡ suc i + 1 = omega arith in
    ap (λ (rest : List Spread). widened n q x ∷ rest) (widened_each-at n qs xs i d (omega (arith, low)) (omega (arith, high)))
    ∙ ap (λ (m : ℕ). widened_each n (q ∷ qs) (take m (x ∷ xs))) next

-- ---- no run

-- the same for each of the seventeen kinds
abbrev for_each_kind : Spread → List Spread
for_each_kind q = q ∷ q ∷ q ∷ q ∷ q ∷ q ∷ q ∷ q ∷ q ∷ q ∷ q ∷ q ∷ q ∷ q ∷ q ∷ q ∷ q ∷ []

pub kinds-none : (q : Spread) → q ≡ spread_of [] → for_each_kind q ≡ map (λ (k : EventKind). spread_of (kind_of_runs [] k)) all_kinds
unfolding all_kinds
kinds-none q is = ap for_each_kind is

pub answers-none : {A : Type 0} (retired : Bool) (first : ℕ) (es : List (Vec ℕ A × AnswerCount)) → es ≡ [] → counted_answers es ≡ different_answers retired first []
unfolding different_answers
answers-none {A} retired first es is = ap (λ (ds : List (Vec ℕ A × AnswerCount)). counted_answers ds) is

pub within-raised : (n m : ℕ) (es : List CountedAnswer) → n ≤ m → AreAnswersWithin n es → AreAnswersWithin m es
within-raised n m [] less within = tt
within-raised n m (e ∷ es) less within = (omega (arith, less, within.0), within-raised n m es less within.1)

-- ---- the runs of seeds that follow each other

module _ (P : ProgramParts) (o : SweepOptions) where
  pub tallied-more : (first next : ℕ) (old new : Tally) → HasTallied P o first next old → HasRunAdded P o next old new → HasTallied P o first (next + 1) new
  tallied-more first next old new h k =
      let long : length (h.runs ++ k.run ∷ []) ≡ length h.runs + 1 = length-append h.runs (k.run ∷ []) in
      record {
        runs = h.runs ++ k.run ∷ [];
        each = runs-on P o first h.runs k.run h.each (subst (λ (n : ℕ). IsRunFor P (options_at o n) k.run) (sym h.count) k.is);
        count = omega (arith, long, h.count);
        is = tally-more o.retired first h.runs k.run old new h.is (subst (λ (n : ℕ). IsTallyWith o.retired n k.run old new) (sym h.count) k.summed_with);
        within = within-more o.retired next k.run old new h.within k.summed_with;
      }

  -- the same of the last run, if it was taken in
  pub last-tallied : {A E : Type 0} → (first last : ℕ) (old new : Tally) (r : Result A E) → HasTallied P o first last old → OnOk r (HasRunAdded P o last old new)
      → OnOk r (HasTallied P o first (last + 1) new)
  last-tallied first last old new (Ok done) h k = tallied-more first last old new h k
  last-tallied first last old new (Err e) h k = tt

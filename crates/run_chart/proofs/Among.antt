-- The changes among the words that may change are all changes.
use Rattle.std.proofs.Common.{◌≡◌, ◌⊎◌, inl, inr, ℕ, zero, suc, ◌+◌, ◌<◌, ◌≤◌, ◌==◌, Bool, true, false, cond, List, [], ◌∷◌, length, map, refl, ap, subst, ◌∙◌, arith}
use Rattle.std.specs.List.{Contains, range_with_len, slice_index}
use Rattle.std.specs.List.Sorted.{IsStrictlyIncreasing}
use Rattle.std.proofs.lemmas.Bool.{eqb-true}
use Rattle.std.proofs.lemmas.Bool.Decides.{nat_tests}
use Rattle.std.proofs.lemmas.List.FromFn.{length-map-range_with_len}
use Rattle.message_net.specs.declared.actor.Actor.{Actor}
use Rattle.message_net.specs.declared.event.Event.{Event}
use Rattle.machine_rules.specs.State.{State}
use Rattle.machine_rules.specs.Next.{next}
use Rattle.machine_rules.specs.Sound.{IsMachine}
use Rattle.run_chart.specs.declared.states.WordState.{WordState}
use Rattle.run_chart.specs.declared.states.WordState as state
use Rattle.run_chart.specs.declared.states.WordChange.{WordChange}
use Rattle.run_chart.specs.declared.words.HeldWord.{HeldWord}
use Rattle.run_chart.specs.Affected.{affected_by, is_affected, AreGathered}
use Rattle.run_chart.specs.Drawing.{event_maker}
use Rattle.run_chart.specs.Words.{same_state, with_change, changes_from, changes_in, changes_among, held_words, word_state, word_states}
use Rattle.run_chart.proofs.Others.{others-stay}

-- a state is the same as itself
same-itself : (s : WordState) → same_state s s ≡ true
same-itself state.TheVariants.Absent = refl
same-itself (state.TheVariants.Valid a) = grind (arith, nat_tests)
same-itself (state.TheVariants.Touched a) = grind (arith, nat_tests)
same-itself (state.TheVariants.Registered a) = grind (arith, nat_tests)
same-itself (state.TheVariants.Pending a) = grind (arith, nat_tests)
same-itself (state.TheVariants.Leaving a) = grind (arith, nat_tests)
same-itself (state.TheVariants.Home a) = grind (arith, nat_tests)
same-itself (state.TheVariants.At a) = grind (arith, nat_tests)

-- ---- numbers in their order

-- numbers from one on, in their order
abbrev AreFromOn : ℕ → List ℕ → Type 0
AreFromOn from [] = Unit {0}
AreFromOn from (x ∷ xs) = (from ≤ x) × AreFromOn (x + 1) xs

rise-from : (from x : ℕ) (xs : List ℕ) → from ≤ x → IsStrictlyIncreasing (x ∷ xs) → AreFromOn from (x ∷ xs)
rise-from from x [] first rise = (first, tt)
rise-from from x (y ∷ ys) first rise = (first, rise-from (x + 1) y ys next-one (λ k within. later k within)) where
  next-one : x + 1 ≤ y
  next-one = omega (arith, rise 0 (omega arith))

  later : (k : ℕ) → k + 1 < length (y ∷ ys) → slice_index (y ∷ ys) k < slice_index (y ∷ ys) (k + 1)
  later k within =
      let on : suc k + 1 ≡ suc (k + 1) = omega arith in
      rw on at (rise (suc k) (omega (arith, within)))

all-from : (xs : List ℕ) → IsStrictlyIncreasing xs → AreFromOn 0 xs
all-from [] rise = tt
all-from (x ∷ xs) rise = rise-from 0 x xs (omega arith) rise

-- what is in a list is its first or in the others
first-or-later : (x : ℕ) (xs : List ℕ) (w : ℕ) → Contains (x ∷ xs) w → (x ≡ w) ⊎ Contains xs w
first-or-later x xs w (zero, within, is) = inl is
first-or-later x xs w (suc k, within, is) = inr (k, omega (arith, within), is)

contains-first : (x : ℕ) (xs : List ℕ) → Contains (x ∷ xs) x
contains-first x xs = (0, omega arith, refl)

never-in-none : (w : ℕ) → Contains [] w → ⊥
never-in-none w (k, within, is) = omega (arith, within)

none-below : (from w : ℕ) (xs : List ℕ) → AreFromOn from xs → w < from → Contains xs w → ⊥
none-below from w [] above less there = never-in-none w there
none-below from w (x ∷ xs) above less there = by_case (none-below (x + 1) w xs above.1 (omega (arith, above.0, less))) (first-or-later x xs w there) where
  by_case : (Contains xs w → ⊥) → (x ≡ w) ⊎ Contains xs w → ⊥
  by_case rest (inl same) = omega (arith, same, above.0, less)
  by_case rest (inr later) = rest later

-- ---- all changes

module _ (f g : ℕ → WordState) where
  abbrev held : List ℕ → List HeldWord
  held words = map (λ (w : ℕ). record { word = record { 0 = w }; state = f w }) words

  -- the numbers are those from one on, below an end, that may change
  abbrev AreAmong : ℕ → ℕ → List ℕ → Type 0
  AreAmong from n words =
      AreFromOn from words × ((w : ℕ) → Contains words w → w < from + n) × ((w : ℕ) → from ≤ w → w < from + n → (same_state (f w) (g w) ≡ true) ⊎ Contains words w)

  -- what is to be proved of the words from one on, so many
  abbrev AllAmong : ℕ → ℕ → Type 0
  AllAmong from n = (words : List ℕ) → AreAmong from n words → changes_among g (held words) ≡ changes_from g from (map f (range_with_len from n))

  -- the first word doesn't change
  skip : (n from : ℕ) (words : List ℕ) → AllAmong (from + 1) n → AreFromOn (from + 1) words → ((w : ℕ) → Contains words w → w < from + suc n)
      → ((w : ℕ) → from ≤ w → w < from + suc n → (same_state (f w) (g w) ≡ true) ⊎ Contains words w)
      → changes_among g (held words) ≡ with_change from (f from) (g from) (changes_from g (from + 1) (map f (range_with_len (from + 1) n)))
  skip n from words later above within each = by_case (each from (omega arith) (omega arith)) where
    rest : changes_among g (held words) ≡ changes_from g (from + 1) (map f (range_with_len (from + 1) n))
    rest = later words (above, (λ w there. omega (arith, within w there)), (λ w least most. each w (omega (arith, least)) (omega (arith, most))))

    by_case : (same_state (f from) (g from) ≡ true) ⊎ Contains words from
        → changes_among g (held words) ≡ with_change from (f from) (g from) (changes_from g (from + 1) (map f (range_with_len (from + 1) n)))
    by_case (inl same) = rw same rest
    by_case (inr there) = absurd (none-below (from + 1) from words above (omega arith) there)

  one-more : (n from : ℕ) (words : List ℕ) → AllAmong (from + 1) n → AreAmong from (suc n) words
      → changes_among g (held words) ≡ with_change from (f from) (g from) (changes_from g (from + 1) (map f (range_with_len (from + 1) n)))
  one-more n from [] later (above, within, each) = skip n from [] later tt within each
  one-more n from (x ∷ xs) later (above, within, each) = by_test (x == from) refl where
    behind : (w : ℕ) → x ≡ from → from + 1 ≤ w → (same_state (f w) (g w) ≡ true) ⊎ Contains (x ∷ xs) w → (same_state (f w) (g w) ≡ true) ⊎ Contains xs w
    behind w same least (inl stays) = inl stays
    behind w same least (inr there) = by_place (first-or-later x xs w there) where
      by_place : (x ≡ w) ⊎ Contains xs w → (same_state (f w) (g w) ≡ true) ⊎ Contains xs w
      by_place (inl here) = absurd (omega (arith, here, same, least))
      by_place (inr there) = inr there

    contains-later : (w : ℕ) → Contains xs w → Contains (x ∷ xs) w
    contains-later w (k, less, is) = (suc k, omega (arith, less), is)

    by_test : (t : Bool) → (x == from) ≡ t → changes_among g (held (x ∷ xs)) ≡ with_change from (f from) (g from) (changes_from g (from + 1) (map f (range_with_len (from + 1) n)))
    by_test true e =
        let same : x ≡ from = eqb-true x from e in
        let more : AreFromOn (from + 1) xs = subst (λ (y : ℕ). AreFromOn (y + 1) xs) same above.1 in
        let rest : changes_among g (held xs) ≡ changes_from g (from + 1) (map f (range_with_len (from + 1) n)) =
        later xs (more, (λ w there. omega (arith, within w (contains-later w there))), (λ w least most. behind w same least (each w (omega (arith, least)) (omega (arith, most)))))
        in
        rw same (ap (λ (l : List WordChange). with_change from (f from) (g from) l) rest)
    by_test false e =
        let past : from + 1 ≤ x = grind (arith, nat_tests, above.0) in
        skip n from (x ∷ xs) later (past, above.1) within each

  all-among : (n from : ℕ) → AllAmong from n
  all-among zero from [] among = refl
  all-among zero from (x ∷ xs) (above, within, each) = absurd (omega (arith, above.0, within x (contains-first x xs)))
  all-among (suc n) from words among = one-more n from words (all-among n (from + 1)) among

-- ---- the changes of an event

pub among-all : (S : State) (e : Event) (words : List ℕ) → IsMachine S → AreGathered (length S.setting.program.memory) (is_affected S (affected_by S e)) words
    → changes_among (word_state (next S e) (event_maker S e)) (held_words S (event_maker S e) words) ≡ changes_in S (next S e) (event_maker S e)
among-all S e words good gathered =
    all-among (word_state S (event_maker S e)) (word_state (next S e) (event_maker S e)) (length S.setting.program.memory) 0 words
    (all-from words gathered.rise, (λ w there. omega (arith, gathered.below w there)), (λ w least most. by_test w (omega (arith, most)) (is_affected S (affected_by S e) w) refl))
  where
    by_test : (w : ℕ) → w < length S.setting.program.memory → (t : Bool) → is_affected S (affected_by S e) w ≡ t
        → (same_state (word_state S (event_maker S e) w) (word_state (next S e) (event_maker S e) w) ≡ true) ⊎ Contains words w
    by_test w most true there = inr (gathered.all w most there)
    by_test w most false other =
        inl (ap (λ (s : WordState). same_state (word_state S (event_maker S e) w) s) (others-stay S e w good other) ∙ same-itself (word_state S (event_maker S e) w))

-- there are no more changes than words
fewer-changes : (g : ℕ → WordState) (w : ℕ) (befores : List WordState) → length (changes_from g w befores) ≤ length befores
fewer-changes g w [] = omega arith
fewer-changes g w (b ∷ bs) = by_test (same_state b (g w)) (fewer-changes g (w + 1) bs) where
  by_test : (t : Bool) → length (changes_from g (w + 1) bs) ≤ length bs
      → length (cond t (changes_from g (w + 1) bs) (record { word = record { 0 = w }; before = b; after = g w } ∷ changes_from g (w + 1) bs)) ≤ length (b ∷ bs)
  by_test true few = omega (arith, few)
  by_test false few = omega (arith, few)

pub few-changes : (S T : State) (a : Actor) → length S.setting.program.memory ≤ 65536 → length (changes_in S T a) ≤ 65536
few-changes S T a small =
    omega (arith, fewer-changes (word_state T a) 0 (word_states S a), length-map-range_with_len (word_state S a) 0 (length S.setting.program.memory), small)

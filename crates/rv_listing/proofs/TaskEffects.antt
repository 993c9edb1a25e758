-- What a task of a listing claims gives its effects again.
use Rattle.std.proofs.Common.{◌≡◌, ℕ, zero, suc, ◌+◌, ◌<◌, ◌≤◌, Bool, true, false, cond, eqb, List, [], ◌∷◌, ◌++◌, length, get_or, map, refl, sym, ap, ◌∙◌, append-nil, arith}
use Rattle.std.specs.List.{filter_map, range_with_len}
use Rattle.std.proofs.lemmas.Bool.Decides.{nat_tests}
use borrow.Author.Tests.{eqb-true}
use Rattle.region_table.specs.declared.interval.Interval.{Interval}
use Rattle.region_table.specs.declared.declared.Region.{Region}
use Rattle.region_table.specs.declared.declared.Effects.{Effects}
use Rattle.region_table.specs.Program.{AreTiled, AreEffects}
use Rattle.rv_assembler.specs.declared.draft.Usage.{Usage}
use Rattle.rv_assembler.specs.declared.draft.Claim.{Claim}
use Rattle.rv_assembler.specs.declared.draft.Usage as in_usage
use Rattle.rv_assembler.specs.Union.{united}
use Rattle.rv_assembler.specs.Program.{same_usage}
use Rattle.rv_assembler.specs.Finishing.{interval_within, words_within, guarded_reads_within, guarded_writes_within, effects_within}
use Rattle.rv_listing.specs.Law.{AreCanonical}
use Rattle.rv_listing.proofs.CutSetLemmas.{cut_set, set-some, cut-united}
use Rattle.rv_listing.proofs.EffectLemmas.{claims_with, kept-append, own-claims, other-claims}

-- the set of a lock
abbrev pub set_at : List (List Interval) → ℕ → List Interval
set_at sets k = get_or sets k []

-- what a task claims under the locks from one on
abbrev pub guarded_claims : List Region → ℕ → ℕ → Effects → ℕ → ℕ → List Claim
guarded_claims rs p core e k zero = []
guarded_claims rs p core e k (suc n) =
    claims_with p core (in_usage.TheVariants.GuardedReads k) (cut_set rs (set_at e.guarded_reads k))
    ++ (claims_with p core (in_usage.TheVariants.GuardedWrites k) (cut_set rs (set_at e.guarded_writes k)) ++ guarded_claims rs p core e (k + 1) n)

abbrev pub task_claims : List Region → ℕ → ℕ → Effects → ℕ → List Claim
task_claims rs p core e locks =
    claims_with p core in_usage.TheVariants.Reads (cut_set rs e.reads) ++ (claims_with p core in_usage.TheVariants.Writes (cut_set rs e.writes) ++ guarded_claims rs p core e 0 locks)

abbrev kept : ℕ → Usage → List Claim → List Interval
kept words u cs = filter_map (interval_within words u) cs

two : (words : ℕ) (u : Usage) (a b c : List Claim) (x y z : List Interval) → kept words u a ≡ x → kept words u b ≡ y → kept words u c ≡ z → kept words u (a ++ (b ++ c)) ≡ x ++ (y ++ z)
two words u a b c x y z e f g =
    kept-append (interval_within words u) a (b ++ c)
    ∙ ap (λ (l : List Interval). l ++ kept words u (b ++ c)) e
    ∙ ap (λ (l : List Interval). x ++ l) (kept-append (interval_within words u) b c ∙ ap (λ (l : List Interval). l ++ kept words u c) f ∙ ap (λ (l : List Interval). y ++ l) g)

module _ (rs : List Region) (words p core : ℕ) (e : Effects) (tiled : AreTiled 0 rs words) where
  no-plain : (writes : Bool) (k n : ℕ) → kept words (cond writes in_usage.TheVariants.Writes in_usage.TheVariants.Reads) (guarded_claims rs p core e k n) ≡ []
  no-plain writes k zero = refl
  no-plain true k (suc n) =
      two words in_usage.TheVariants.Writes (claims_with p core (in_usage.TheVariants.GuardedReads k) (cut_set rs (set_at e.guarded_reads k))) (claims_with p core (in_usage.TheVariants.GuardedWrites k) (cut_set rs (set_at e.guarded_writes k))) (guarded_claims rs p core e (k + 1) n) [] [] []
      (other-claims words p core (in_usage.TheVariants.GuardedReads k) in_usage.TheVariants.Writes (cut_set rs (set_at e.guarded_reads k)) refl) (other-claims words p core (in_usage.TheVariants.GuardedWrites k) in_usage.TheVariants.Writes (cut_set rs (set_at e.guarded_writes k)) refl) (no-plain true (k + 1) n)
  no-plain false k (suc n) =
      two words in_usage.TheVariants.Reads (claims_with p core (in_usage.TheVariants.GuardedReads k) (cut_set rs (set_at e.guarded_reads k))) (claims_with p core (in_usage.TheVariants.GuardedWrites k) (cut_set rs (set_at e.guarded_writes k))) (guarded_claims rs p core e (k + 1) n) [] [] []
      (other-claims words p core (in_usage.TheVariants.GuardedReads k) in_usage.TheVariants.Reads (cut_set rs (set_at e.guarded_reads k)) refl) (other-claims words p core (in_usage.TheVariants.GuardedWrites k) in_usage.TheVariants.Reads (cut_set rs (set_at e.guarded_writes k)) refl) (no-plain false (k + 1) n)

  own : (u : Usage) (set : List Interval) → same_usage u u ≡ true → kept words u (claims_with p core u (cut_set rs set)) ≡ cut_set rs set
  own u set s = own-claims words p core u (cut_set rs set) s (set-some rs words set tiled)

  pub reads-kept : (locks : ℕ) → kept words in_usage.TheVariants.Reads (task_claims rs p core e locks) ≡ cut_set rs e.reads
  reads-kept locks =
      two words in_usage.TheVariants.Reads (claims_with p core in_usage.TheVariants.Reads (cut_set rs e.reads)) (claims_with p core in_usage.TheVariants.Writes (cut_set rs e.writes)) (guarded_claims rs p core e 0 locks) (cut_set rs e.reads) [] []
      (own in_usage.TheVariants.Reads e.reads refl) (other-claims words p core in_usage.TheVariants.Writes in_usage.TheVariants.Reads (cut_set rs e.writes) refl) (no-plain false 0 locks)
      ∙ append-nil (cut_set rs e.reads)

  pub writes-kept : (locks : ℕ) → kept words in_usage.TheVariants.Writes (task_claims rs p core e locks) ≡ cut_set rs e.writes
  writes-kept locks =
      two words in_usage.TheVariants.Writes (claims_with p core in_usage.TheVariants.Reads (cut_set rs e.reads)) (claims_with p core in_usage.TheVariants.Writes (cut_set rs e.writes)) (guarded_claims rs p core e 0 locks) [] (cut_set rs e.writes) []
      (other-claims words p core in_usage.TheVariants.Reads in_usage.TheVariants.Writes (cut_set rs e.reads) refl) (own in_usage.TheVariants.Writes e.writes refl) (no-plain true 0 locks)
      ∙ append-nil (cut_set rs e.writes)

  unlike : (a b : ℕ) → a < b → eqb a b ≡ false
  unlike a b l = grind (arith, nat_tests)

  alike : (a : ℕ) → eqb a a ≡ true
  alike a = grind (arith, nat_tests)

  -- locks before the ones at hand
  past-reads : (j k n : ℕ) → j < k → kept words (in_usage.TheVariants.GuardedReads j) (guarded_claims rs p core e k n) ≡ []
  past-reads j k zero l = refl
  past-reads j k (suc n) l =
      let differ : eqb k j ≡ false = grind (arith, nat_tests) in
      two words (in_usage.TheVariants.GuardedReads j) (claims_with p core (in_usage.TheVariants.GuardedReads k) (cut_set rs (set_at e.guarded_reads k))) (claims_with p core (in_usage.TheVariants.GuardedWrites k) (cut_set rs (set_at e.guarded_writes k))) (guarded_claims rs p core e (k + 1) n) [] [] []
      (other-claims words p core (in_usage.TheVariants.GuardedReads k) (in_usage.TheVariants.GuardedReads j) (cut_set rs (set_at e.guarded_reads k)) differ) (other-claims words p core (in_usage.TheVariants.GuardedWrites k) (in_usage.TheVariants.GuardedReads j) (cut_set rs (set_at e.guarded_writes k)) refl) (past-reads j (k + 1) n (omega arith))

  past-writes : (j k n : ℕ) → j < k → kept words (in_usage.TheVariants.GuardedWrites j) (guarded_claims rs p core e k n) ≡ []
  past-writes j k zero l = refl
  past-writes j k (suc n) l =
      let differ : eqb k j ≡ false = grind (arith, nat_tests) in
      two words (in_usage.TheVariants.GuardedWrites j) (claims_with p core (in_usage.TheVariants.GuardedReads k) (cut_set rs (set_at e.guarded_reads k))) (claims_with p core (in_usage.TheVariants.GuardedWrites k) (cut_set rs (set_at e.guarded_writes k))) (guarded_claims rs p core e (k + 1) n) [] [] []
      (other-claims words p core (in_usage.TheVariants.GuardedReads k) (in_usage.TheVariants.GuardedWrites j) (cut_set rs (set_at e.guarded_reads k)) refl) (other-claims words p core (in_usage.TheVariants.GuardedWrites k) (in_usage.TheVariants.GuardedWrites j) (cut_set rs (set_at e.guarded_writes k)) differ) (past-writes j (k + 1) n (omega arith))

  here-by : (b : Bool) (j k n : ℕ) → eqb k j ≡ b → k ≤ j → (eqb k j ≡ false → kept words (in_usage.TheVariants.GuardedReads j) (guarded_claims rs p core e (k + 1) n) ≡ cut_set rs (set_at e.guarded_reads j))
      → kept words (in_usage.TheVariants.GuardedReads j) (guarded_claims rs p core e k (suc n)) ≡ cut_set rs (set_at e.guarded_reads j)
  here-by true j k n b l next =
      let same : k ≡ j = eqb-true k j b in
      two words (in_usage.TheVariants.GuardedReads j) (claims_with p core (in_usage.TheVariants.GuardedReads k) (cut_set rs (set_at e.guarded_reads k))) (claims_with p core (in_usage.TheVariants.GuardedWrites k) (cut_set rs (set_at e.guarded_writes k))) (guarded_claims rs p core e (k + 1) n) (cut_set rs (set_at e.guarded_reads j)) [] []
      (ap (λ (i : ℕ). kept words (in_usage.TheVariants.GuardedReads j) (claims_with p core (in_usage.TheVariants.GuardedReads i) (cut_set rs (set_at e.guarded_reads i)))) same ∙ own (in_usage.TheVariants.GuardedReads j) (set_at e.guarded_reads j) (alike j))
      (other-claims words p core (in_usage.TheVariants.GuardedWrites k) (in_usage.TheVariants.GuardedReads j) (cut_set rs (set_at e.guarded_writes k)) refl) (past-reads j (k + 1) n (omega arith))
      ∙ append-nil (cut_set rs (set_at e.guarded_reads j))
  here-by false j k n b l next =
      two words (in_usage.TheVariants.GuardedReads j) (claims_with p core (in_usage.TheVariants.GuardedReads k) (cut_set rs (set_at e.guarded_reads k))) (claims_with p core (in_usage.TheVariants.GuardedWrites k) (cut_set rs (set_at e.guarded_writes k))) (guarded_claims rs p core e (k + 1) n) [] [] (cut_set rs (set_at e.guarded_reads j))
      (other-claims words p core (in_usage.TheVariants.GuardedReads k) (in_usage.TheVariants.GuardedReads j) (cut_set rs (set_at e.guarded_reads k)) b) (other-claims words p core (in_usage.TheVariants.GuardedWrites k) (in_usage.TheVariants.GuardedReads j) (cut_set rs (set_at e.guarded_writes k)) refl) (next b)

  further : (k j : ℕ) → k ≤ j → eqb k j ≡ false → k + 1 ≤ j
  further k j l b = grind (arith, nat_tests)

  here-reads : (j k n : ℕ) → k ≤ j → j < k + n → kept words (in_usage.TheVariants.GuardedReads j) (guarded_claims rs p core e k n) ≡ cut_set rs (set_at e.guarded_reads j)
  here-reads j k zero l m = absurd (omega arith)
  here-reads j k (suc n) l m = here-by (eqb k j) j k n refl l (λ b. here-reads j (k + 1) n (further k j l b) (omega arith))

  there-by : (b : Bool) (j k n : ℕ) → eqb k j ≡ b → k ≤ j → (eqb k j ≡ false → kept words (in_usage.TheVariants.GuardedWrites j) (guarded_claims rs p core e (k + 1) n) ≡ cut_set rs (set_at e.guarded_writes j))
      → kept words (in_usage.TheVariants.GuardedWrites j) (guarded_claims rs p core e k (suc n)) ≡ cut_set rs (set_at e.guarded_writes j)
  there-by true j k n b l next =
      let same : k ≡ j = eqb-true k j b in
      two words (in_usage.TheVariants.GuardedWrites j) (claims_with p core (in_usage.TheVariants.GuardedReads k) (cut_set rs (set_at e.guarded_reads k))) (claims_with p core (in_usage.TheVariants.GuardedWrites k) (cut_set rs (set_at e.guarded_writes k))) (guarded_claims rs p core e (k + 1) n) [] (cut_set rs (set_at e.guarded_writes j)) []
      (other-claims words p core (in_usage.TheVariants.GuardedReads k) (in_usage.TheVariants.GuardedWrites j) (cut_set rs (set_at e.guarded_reads k)) refl)
      (ap (λ (i : ℕ). kept words (in_usage.TheVariants.GuardedWrites j) (claims_with p core (in_usage.TheVariants.GuardedWrites i) (cut_set rs (set_at e.guarded_writes i)))) same ∙ own (in_usage.TheVariants.GuardedWrites j) (set_at e.guarded_writes j) (alike j)) (past-writes j (k + 1) n (omega arith))
      ∙ append-nil (cut_set rs (set_at e.guarded_writes j))
  there-by false j k n b l next =
      two words (in_usage.TheVariants.GuardedWrites j) (claims_with p core (in_usage.TheVariants.GuardedReads k) (cut_set rs (set_at e.guarded_reads k))) (claims_with p core (in_usage.TheVariants.GuardedWrites k) (cut_set rs (set_at e.guarded_writes k))) (guarded_claims rs p core e (k + 1) n) [] [] (cut_set rs (set_at e.guarded_writes j))
      (other-claims words p core (in_usage.TheVariants.GuardedReads k) (in_usage.TheVariants.GuardedWrites j) (cut_set rs (set_at e.guarded_reads k)) refl) (other-claims words p core (in_usage.TheVariants.GuardedWrites k) (in_usage.TheVariants.GuardedWrites j) (cut_set rs (set_at e.guarded_writes k)) b) (next b)

  here-writes : (j k n : ℕ) → k ≤ j → j < k + n → kept words (in_usage.TheVariants.GuardedWrites j) (guarded_claims rs p core e k n) ≡ cut_set rs (set_at e.guarded_writes j)
  here-writes j k zero l m = absurd (omega arith)
  here-writes j k (suc n) l m = there-by (eqb k j) j k n refl l (λ b. here-writes j (k + 1) n (further k j l b) (omega arith))

  guarded-reads-kept : (j locks : ℕ) → j < locks → kept words (in_usage.TheVariants.GuardedReads j) (task_claims rs p core e locks) ≡ cut_set rs (set_at e.guarded_reads j)
  guarded-reads-kept j locks l =
      two words (in_usage.TheVariants.GuardedReads j) (claims_with p core in_usage.TheVariants.Reads (cut_set rs e.reads)) (claims_with p core in_usage.TheVariants.Writes (cut_set rs e.writes)) (guarded_claims rs p core e 0 locks) [] [] (cut_set rs (set_at e.guarded_reads j))
      (other-claims words p core in_usage.TheVariants.Reads (in_usage.TheVariants.GuardedReads j) (cut_set rs e.reads) refl) (other-claims words p core in_usage.TheVariants.Writes (in_usage.TheVariants.GuardedReads j) (cut_set rs e.writes) refl) (here-reads j 0 locks (omega arith) (omega arith))

  guarded-writes-kept : (j locks : ℕ) → j < locks → kept words (in_usage.TheVariants.GuardedWrites j) (task_claims rs p core e locks) ≡ cut_set rs (set_at e.guarded_writes j)
  guarded-writes-kept j locks l =
      two words (in_usage.TheVariants.GuardedWrites j) (claims_with p core in_usage.TheVariants.Reads (cut_set rs e.reads)) (claims_with p core in_usage.TheVariants.Writes (cut_set rs e.writes)) (guarded_claims rs p core e 0 locks) [] [] (cut_set rs (set_at e.guarded_writes j))
      (other-claims words p core in_usage.TheVariants.Reads (in_usage.TheVariants.GuardedWrites j) (cut_set rs e.reads) refl) (other-claims words p core in_usage.TheVariants.Writes (in_usage.TheVariants.GuardedWrites j) (cut_set rs e.writes) refl) (here-writes j 0 locks (omega arith) (omega arith))

-- a list by the places of its elements
by-places : {X : Type 0} (f : ℕ → X) (a : ℕ) (xs : List X) (d : X) → ((j : ℕ) → j < length xs → f (a + j) ≡ get_or xs j d) → map f (range_with_len a (length xs)) ≡ xs
by-places f a [] d h = refl
by-places f a (x ∷ xs) d h =
    let z : a ≡ a + 0 = omega arith in
    let first : f a ≡ x = ap f z ∙ h 0 (omega arith) in
    let rest : map f (range_with_len (a + 1) (length xs)) ≡ xs = by-places f (a + 1) xs d (λ j l. let s : a + 1 + j ≡ a + suc j = omega arith in ap f s ∙ h (suc j) (omega arith)) in
    ap (λ y. y ∷ map f (range_with_len (a + 1) (length xs))) first ∙ ap (λ ys. x ∷ ys) rest

-- what a task of a listing claims gives its effects
pub effects-again : (rs : List Region) (words locks p core : ℕ) (e : Effects) → AreTiled 0 rs words → AreEffects words locks e → AreCanonical e → effects_within words locks (task_claims rs p core e locks) ≡ e
effects-again rs words locks p core e tiled h c =
    let claims = task_claims rs p core e locks in
    let r : words_within words claims in_usage.TheVariants.Reads ≡ e.reads = ap united (reads-kept rs words p core e tiled locks) ∙ cut-united rs words e.reads tiled h.reads c.reads in
    let w : words_within words claims in_usage.TheVariants.Writes ≡ e.writes = ap united (writes-kept rs words p core e tiled locks) ∙ cut-united rs words e.writes tiled h.writes c.writes in
    let gr : map (guarded_reads_within words claims) (range_with_len 0 locks) ≡ e.guarded_reads =
    ap (λ (n : ℕ). map (guarded_reads_within words claims) (range_with_len 0 n)) (sym h.reads_by_lock)
    ∙ by-places (guarded_reads_within words claims) 0 e.guarded_reads []
    (λ j l. let s : 0 + j ≡ j = omega arith in ap (guarded_reads_within words claims) s ∙ ap united (guarded-reads-kept rs words p core e tiled j locks (omega (arith, h.reads_by_lock))) ∙ cut-united rs words (set_at e.guarded_reads j) tiled (h.guarded_reads j [] l) (c.guarded_reads j [] l)) in
    let gw : map (guarded_writes_within words claims) (range_with_len 0 locks) ≡ e.guarded_writes =
    ap (λ (n : ℕ). map (guarded_writes_within words claims) (range_with_len 0 n)) (sym h.writes_by_lock)
    ∙ by-places (guarded_writes_within words claims) 0 e.guarded_writes []
    (λ j l. let s : 0 + j ≡ j = omega arith in ap (guarded_writes_within words claims) s ∙ ap united (guarded-writes-kept rs words p core e tiled j locks (omega (arith, h.writes_by_lock))) ∙ cut-united rs words (set_at e.guarded_writes j) tiled (h.guarded_writes j [] l) (c.guarded_writes j [] l)) in
    ap (λ x. let q : Effects = record { reads = x; writes = words_within words claims in_usage.TheVariants.Writes; guarded_reads = map (guarded_reads_within words claims) (range_with_len 0 locks); guarded_writes = map (guarded_writes_within words claims) (range_with_len 0 locks) } in q) r
    ∙ ap (λ x. let q : Effects = record { reads = e.reads; writes = x; guarded_reads = map (guarded_reads_within words claims) (range_with_len 0 locks); guarded_writes = map (guarded_writes_within words claims) (range_with_len 0 locks) } in q) w
    ∙ ap (λ x. let q : Effects = record { reads = e.reads; writes = e.writes; guarded_reads = x; guarded_writes = map (guarded_writes_within words claims) (range_with_len 0 locks) } in q) gr
    ∙ ap (λ x. let q : Effects = record { reads = e.reads; writes = e.writes; guarded_reads = e.guarded_reads; guarded_writes = x } in q) gw

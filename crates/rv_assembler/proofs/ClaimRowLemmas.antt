-- Each claim goes to one row, so that the rows have, by phase, core and usage, the intervals that are claimed so.
use Rattle.std.proofs.Common.{◌≡◌, ℕ, ◌+◌, ◌*◌, ◌<◌, ◌≤◌, Bool, true, false, ◌&&◌, cond, ltb, leb, eqb, List, [], ◌∷◌, ◌++◌, length, get_or, set, replicate, filter, filter_map, Option, Some, None, IfSome, refl, sym, ap, ◌∙◌, subst, append-nil, arith, ⊎_elim, eq-eqb, eqb-true, length-set, get_or-set_other}
use Rattle.std.specs.List.{All, cons_option}
use Rattle.std.specs.Option.{option_to_list}
use Rattle.std.proofs.lemmas.Bool.{cases_Bool, cases_lt, cases_eq, and_parts, and_from, and_cases, ltb-true, false≢true, both_ways, false_from_ne_true}
use Rattle.std.proofs.lemmas.List.{get_or-replicate, get_or-set_same, get_or_past, length-replicate}
use Rattle.std.proofs.lemmas.List.Elements.{All-nil, All-cons, All-get_or, All-append, All-set, All-replicate}
use Rattle.region_table.specs.declared.interval.Interval.{Interval}
use Rattle.rv_assembler.specs.declared.draft.Usage.{Usage}
use Rattle.rv_assembler.specs.declared.draft.Usage.TheVariants.{Reads, Writes, GuardedReads, GuardedWrites}
use Rattle.rv_assembler.specs.declared.draft.Start.{Start}
use Rattle.rv_assembler.specs.declared.draft.Claim.{Claim}
use Rattle.rv_assembler.specs.Program.{same_usage, is_claim_of}
use Rattle.rv_assembler.specs.Finishing.{interval_within}
use Rattle.rv_assembler.specs.ClaimRows.{usage_number, claim_row, has_claim_row, intervals_at, noted_claim, claimed_so, HasClaimsBut, HasClaims, IsSomeWithin, AreRowsWithin}
use Rattle.rv_assembler.proofs.LoopLemmas.{one-more}
use Rattle.rv_assembler.proofs.PhaseLemmas.{interval-valid}

same_usage-only : (a b : Usage) → same_usage a b ≡ true → a ≡ b
same_usage-only Reads Reads e = refl
same_usage-only Reads Writes e = absurd (false≢true e)
same_usage-only Reads (GuardedReads l) e = absurd (false≢true e)
same_usage-only Reads (GuardedWrites l) e = absurd (false≢true e)
same_usage-only Writes Reads e = absurd (false≢true e)
same_usage-only Writes Writes e = refl
same_usage-only Writes (GuardedReads l) e = absurd (false≢true e)
same_usage-only Writes (GuardedWrites l) e = absurd (false≢true e)
same_usage-only (GuardedReads k) Reads e = absurd (false≢true e)
same_usage-only (GuardedReads k) Writes e = absurd (false≢true e)
same_usage-only (GuardedReads k) (GuardedReads l) e = ap GuardedReads (eqb-true k l e)
same_usage-only (GuardedReads k) (GuardedWrites l) e = absurd (false≢true e)
same_usage-only (GuardedWrites k) Reads e = absurd (false≢true e)
same_usage-only (GuardedWrites k) Writes e = absurd (false≢true e)
same_usage-only (GuardedWrites k) (GuardedReads l) e = absurd (false≢true e)
same_usage-only (GuardedWrites k) (GuardedWrites l) e = ap GuardedWrites (eqb-true k l e)

usage_number-only : (a b : Usage) → usage_number a ≡ usage_number b → a ≡ b
usage_number-only Reads Reads e = refl
usage_number-only Reads Writes e = let f : 0 ≡ 1 = e in absurd (omega arith)
usage_number-only Reads (GuardedReads l) e = let f : 0 ≡ 2 + 2 * l = e in absurd (omega arith)
usage_number-only Reads (GuardedWrites l) e = let f : 0 ≡ 3 + 2 * l = e in absurd (omega arith)
usage_number-only Writes Reads e = let f : 1 ≡ 0 = e in absurd (omega arith)
usage_number-only Writes Writes e = refl
usage_number-only Writes (GuardedReads l) e = let f : 1 ≡ 2 + 2 * l = e in absurd (omega arith)
usage_number-only Writes (GuardedWrites l) e = let f : 1 ≡ 3 + 2 * l = e in absurd (omega arith)
usage_number-only (GuardedReads k) Reads e = let f : 2 + 2 * k ≡ 0 = e in absurd (omega arith)
usage_number-only (GuardedReads k) Writes e = let f : 2 + 2 * k ≡ 1 = e in absurd (omega arith)
usage_number-only (GuardedReads k) (GuardedReads l) e = let f : 2 + 2 * k ≡ 2 + 2 * l = e in let g : k ≡ l = omega arith in ap GuardedReads g
usage_number-only (GuardedReads k) (GuardedWrites l) e = let f : 2 + 2 * k ≡ 3 + 2 * l = e in absurd (omega arith)
usage_number-only (GuardedWrites k) Reads e = let f : 3 + 2 * k ≡ 0 = e in absurd (omega arith)
usage_number-only (GuardedWrites k) Writes e = let f : 3 + 2 * k ≡ 1 = e in absurd (omega arith)
usage_number-only (GuardedWrites k) (GuardedReads l) e = let f : 3 + 2 * k ≡ 2 + 2 * l = e in absurd (omega arith)
usage_number-only (GuardedWrites k) (GuardedWrites l) e = let f : 3 + 2 * k ≡ 3 + 2 * l = e in let g : k ≡ l = omega arith in ap GuardedWrites g

-- the claim is one of the task, by the usage
record IsClaimedSo (t : Start) (u : Usage) (c : Claim) : Type 0 where
  phase : c.phase ≡ t.phase
  core : c.core ≡ t.core
  usage : c.usage ≡ u

apart : (p c n q d m : ℕ) → c < 16 → n < 66 → d < 16 → m < 66 → 1056 * p + 66 * c + n ≡ 1056 * q + 66 * d + m → (p ≡ q) × ((c ≡ d) × (n ≡ m))
apart p c n q d m a b e f h =
    let same : p ≡ q = omega arith in
    let core : c ≡ d = omega arith in
    (same, (core, omega arith))

row-only : (t : Start) (u : Usage) (c : Claim) → has_claim_row t.core u ≡ true → has_claim_row c.core c.usage ≡ true → claim_row t.phase t.core u ≡ claim_row c.phase c.core c.usage → IsClaimedSo t u c
row-only t u c h k e =
    let a = and_parts (ltb t.core 16) (ltb (usage_number u) 66) h in
    let b = and_parts (ltb c.core 16) (ltb (usage_number c.usage) 66) k in
    let s = apart t.phase t.core (usage_number u) c.phase c.core (usage_number c.usage) (ltb-true t.core 16 a.0) (ltb-true (usage_number u) 66 a.1) (ltb-true c.core 16 b.0) (ltb-true (usage_number c.usage) 66 b.1) e in record {
      phase = sym s.0;
      core = sym s.1.0;
      usage = usage_number-only c.usage u (sym s.1.1);
    }

claim-is : (t : Start) (u : Usage) (c : Claim) → (is_claim_of t c && same_usage c.usage u) ≡ true → IsClaimedSo t u c
claim-is t u c e =
    let a = and_parts (is_claim_of t c) (same_usage c.usage u) e in
    let b = and_parts (eqb c.phase t.phase) (eqb c.core t.core) a.0 in record {
      phase = eqb-true c.phase t.phase b.0;
      core = eqb-true c.core t.core b.1;
      usage = same_usage-only c.usage u a.1;
    }

same-place : (t : Start) (u : Usage) (c : Claim) → IsClaimedSo t u c → claim_row c.phase c.core c.usage ≡ claim_row t.phase t.core u
same-place t u c w =
    ap (λ (p : ℕ). claim_row p c.core c.usage) w.phase ∙ (ap (λ (k : ℕ). claim_row t.phase k c.usage) w.core ∙ ap (λ (v : Usage). claim_row t.phase t.core v) w.usage)

same-has : (t : Start) (u : Usage) (c : Claim) → IsClaimedSo t u c → has_claim_row c.core c.usage ≡ has_claim_row t.core u
same-has t u c w = ap (λ (k : ℕ). has_claim_row k c.usage) w.core ∙ ap (λ (v : Usage). has_claim_row t.core v) w.usage

module _ (words : ℕ) (t : Start) (u : Usage) (c : Claim) (rest : List Claim) where
  -- another claim isn't among those of the task and the usage
  other : (is_claim_of t c && same_usage c.usage u) ≡ false → claimed_so words t u (c ∷ rest) ≡ claimed_so words t u rest
  other e =
      let kept : List Claim = filter (is_claim_of t) rest in
      let own : Interval = record { lo = c.lo; hi = c.hi } in
      ⊎_elim
      (λ (f : is_claim_of t c ≡ false). ap (λ (b : Bool). filter_map (interval_within words u) (cond b (c ∷ kept) kept)) f)
      (λ (f : same_usage c.usage u ≡ false). ⊎_elim
      (λ (g : is_claim_of t c ≡ true).
      ap (λ (b : Bool). filter_map (interval_within words u) (cond b (c ∷ kept) kept)) g
      ∙ ap (λ (b : Bool). cons_option (cond (b && (ltb c.lo c.hi && leb c.hi words)) (Some own) None) (filter_map (interval_within words u) kept)) f)
      (λ (g : is_claim_of t c ≡ false). ap (λ (b : Bool). filter_map (interval_within words u) (cond b (c ∷ kept) kept)) g)
      (cases_Bool (is_claim_of t c)))
      (and_cases (is_claim_of t c) (same_usage c.usage u) e)

  -- its own claim gives its interval
  own : is_claim_of t c ≡ true → claimed_so words t u (c ∷ rest) ≡ cons_option (interval_within words u c) (claimed_so words t u rest)
  own e =
      let kept : List Claim = filter (is_claim_of t) rest in ap (λ (b : Bool). filter_map (interval_within words u) (cond b (c ∷ kept) kept)) e

-- the rows where the claim is put into its own
abbrev put : ℕ → Claim → List (List Interval) → List (List Interval)
put words c rows = set rows (claim_row c.phase c.core c.usage) (intervals_at rows (claim_row c.phase c.core c.usage) ++ option_to_list (interval_within words c.usage c))

none-keeps : (words : ℕ) (c : Claim) (rest all : List Claim) (rows : List (List Interval)) → has_claim_row c.core c.usage ≡ false → HasClaimsBut words all (c ∷ rest) rows → HasClaimsBut words all rest rows
none-keeps words c rest all rows f had t u row within =
    let no : (is_claim_of t c && same_usage c.usage u) ≡ false =
    false_from_ne_true (is_claim_of t c && same_usage c.usage u) (λ e. both_ways (has_claim_row c.core c.usage) f (same-has t u c (claim-is t u c e) ∙ row))
    in ap (λ (l : List Interval). intervals_at rows (claim_row t.phase t.core u) ++ l) (sym (other words t u c rest no)) ∙ had t u row within

put-keeps : (words : ℕ) (c : Claim) (rest all : List Claim) (rows : List (List Interval)) → has_claim_row c.core c.usage ≡ true → HasClaimsBut words all (c ∷ rest) rows → HasClaimsBut words all rest (put words c rows)
put-keeps words c rest all rows f had t u row long =
    let n = claim_row t.phase t.core u in
    let m = claim_row c.phase c.core c.usage in
    let more : List Interval = intervals_at rows m ++ option_to_list (interval_within words c.usage c) in
    let left = claimed_so words t u rest in
    let within : n < length rows = subst (λ (k : ℕ). n < k) (length-set rows m more) long in
    ⊎_elim
    (λ (e : n ≡ m).
    let who = row-only t u c row f e in
    let mine : is_claim_of t c ≡ true = and_from (eqb c.phase t.phase) (eqb c.core t.core) (eq-eqb c.phase t.phase who.phase) (eq-eqb c.core t.core who.core) in
    let there : get_or (set rows m more) n [] ≡ more = ap (λ (k : ℕ). get_or (set rows m more) k []) e ∙ get_or-set_same rows m more [] (subst (λ (k : ℕ). k < length rows) e within) in
    ap (λ (l : List Interval). l ++ left) there
    ∙ (one-more (intervals_at rows m) left (interval_within words c.usage c)
    ∙ (ap (λ (v : Usage). intervals_at rows m ++ cons_option (interval_within words v c) left) who.usage
    ∙ (ap (λ (k : ℕ). intervals_at rows k ++ cons_option (interval_within words u c) left) (sym e)
    ∙ (ap (λ (l : List Interval). intervals_at rows n ++ l) (sym (own words t u c rest mine)) ∙ had t u row within)))))
    (λ (e : n ≡ m → ⊥).
    let no : (is_claim_of t c && same_usage c.usage u) ≡ false = false_from_ne_true (is_claim_of t c && same_usage c.usage u) (λ h. e (sym (same-place t u c (claim-is t u c h)))) in
    ap (λ (l : List Interval). l ++ left) (get_or-set_other rows m n more [] e)
    ∙ (ap (λ (l : List Interval). intervals_at rows n ++ l) (sym (other words t u c rest no)) ∙ had t u row within))
    (cases_eq n m)

pub note-keeps : (words : ℕ) (c : Claim) (rest all : List Claim) (rows : List (List Interval)) → HasClaimsBut words all (c ∷ rest) rows → HasClaimsBut words all rest (noted_claim words c rows)
note-keeps words c rest all rows had =
    ⊎_elim
    (λ (f : has_claim_row c.core c.usage ≡ true). subst (HasClaimsBut words all rest) (sym (ap (λ (b : Bool). cond b (put words c rows) rows) f)) (put-keeps words c rest all rows f had))
    (λ (f : has_claim_row c.core c.usage ≡ false). subst (HasClaimsBut words all rest) (sym (ap (λ (b : Bool). cond b (put words c rows) rows) f)) (none-keeps words c rest all rows f had))
    (cases_Bool (has_claim_row c.core c.usage))

pub none-noted : (words count : ℕ) (claims : List Claim) → HasClaimsBut words claims claims (replicate count [])
none-noted words count claims t u row long =
    let n = claim_row t.phase t.core u in
    let within : n < count = subst (λ (k : ℕ). n < k) (length-replicate count []) long in ap (λ (l : List Interval). l ++ claimed_so words t u claims) (get_or-replicate count n [] [] within)

pub all-noted : (words : ℕ) (claims : List Claim) (rows : List (List Interval)) → HasClaimsBut words claims [] rows → HasClaims words claims rows
all-noted words claims rows had t u row within = sym (append-nil (intervals_at rows (claim_row t.phase t.core u))) ∙ had t u row within

pub length-noted : (words : ℕ) (c : Claim) (rows : List (List Interval)) → length (noted_claim words c rows) ≡ length rows
length-noted words c rows =
    ⊎_elim
    (λ (f : has_claim_row c.core c.usage ≡ true).
    ap (λ (b : Bool). length (cond b (put words c rows) rows)) f
    ∙ length-set rows (claim_row c.phase c.core c.usage) (intervals_at rows (claim_row c.phase c.core c.usage) ++ option_to_list (interval_within words c.usage c)))
    (λ (f : has_claim_row c.core c.usage ≡ false). ap (λ (b : Bool). length (cond b (put words c rows) rows)) f)
    (cases_Bool (has_claim_row c.core c.usage))

option-all : {X : Type 0} (P : X → Type 0) (o : Option X) → IfSome o P → All P (option_to_list o)
option-all P None h = All-nil P
option-all P (Some x) h = All-cons P x [] h (All-nil P)

pub row-within : (words : ℕ) (rows : List (List Interval)) (n : ℕ) → AreRowsWithin words rows → All (IsSomeWithin words) (intervals_at rows n)
row-within words rows n all =
    ⊎_elim
    (λ (l : n < length rows). All-get_or (λ (row : List Interval). All (IsSomeWithin words) row) rows n [] l all)
    (λ (l : length rows ≤ n). subst (λ (row : List Interval). All (IsSomeWithin words) row) (sym (get_or_past rows n [] l)) (All-nil (IsSomeWithin words)))
    (cases_lt n (length rows))

pub rows-within : (words : ℕ) (c : Claim) (rows : List (List Interval)) → AreRowsWithin words rows → AreRowsWithin words (noted_claim words c rows)
rows-within words c rows all =
    let m = claim_row c.phase c.core c.usage in
    let more : List Interval = intervals_at rows m ++ option_to_list (interval_within words c.usage c) in
    let own : All (IsSomeWithin words) more = All-append (IsSomeWithin words) (intervals_at rows m) (option_to_list (interval_within words c.usage c)) (row-within words rows m all) (option-all (IsSomeWithin words) (interval_within words c.usage c) (interval-valid words c.usage c)) in
    ⊎_elim
    (λ (f : has_claim_row c.core c.usage ≡ true). subst (AreRowsWithin words) (sym (ap (λ (b : Bool). cond b (put words c rows) rows) f)) (All-set (λ (row : List Interval). All (IsSomeWithin words) row) rows m more own all))
    (λ (f : has_claim_row c.core c.usage ≡ false). subst (AreRowsWithin words) (sym (ap (λ (b : Bool). cond b (put words c rows) rows) f)) all)
    (cases_Bool (has_claim_row c.core c.usage))

pub none-within : (words count : ℕ) → AreRowsWithin words (replicate count [])
none-within words count = All-replicate (λ (row : List Interval). All (IsSomeWithin words) row) count [] (All-nil (IsSomeWithin words))

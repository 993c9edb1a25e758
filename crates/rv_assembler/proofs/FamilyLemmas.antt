-- A family's tasks and the words that they use are those of its tasks' own lines.
use Rattle.std.proofs.Common.{◌≡◌, ℕ, zero, suc, ◌+◌, ◌-◌, ◌*◌, ◌%◌, ◌^◌, ◌<◌, ◌≤◌, Bool, true, false, cond, ltb, ltb-false, ltb-true, ℤ, pos, negsuc, ◌+ℤ◌, List, [], ◌∷◌, ◌++◌, map, flat_map, Option, Some, None, refl, sym, ap, ◌∙◌, arith}
use Rattle.std.proofs.lemmas.Int.{ints}
use Rattle.std.specs.Prelude.{◌*ℤ◌}
use Rattle.std.specs.List.{range_with_len}
use lib.IntN.{suc_ℤ, suc_ℤ-*ℤ}
use Rattle.src_text.specs.declared.token.Token.{Token}
use Rattle.rv_assembler.specs.declared.kind.Directive.TheVariants.{Task, Forall}
use Rattle.rv_assembler.specs.declared.statement.Effect.{Effect}
use Rattle.rv_assembler.specs.declared.statement.Extent.{Extent}
use Rattle.rv_assembler.specs.declared.statement.Extent as extent
use Rattle.rv_assembler.specs.declared.names.Meaning.{Meaning}
use Rattle.rv_assembler.specs.declared.draft.Start.{Start}
use Rattle.rv_assembler.specs.declared.draft.Usage.{Usage}
use Rattle.rv_assembler.specs.declared.draft.Claim.{Claim}
use Rattle.rv_assembler.specs.declared.draft.Cores.{Cores}
use Rattle.rv_assembler.specs.declared.draft.Span.{Span}
use Rattle.rv_assembler.specs.Number.{natural_of, wrapped}
use Rattle.rv_assembler.specs.Operand.{bytes_of, token_at, number_at}
use Rattle.rv_assembler.specs.Reading.{directive_for}
use Rattle.rv_assembler.specs.Named.{entry_value, task_entry, region_span, usage_of}
use Rattle.rv_assembler.specs.Rows.{start_at, from_index, to_index, moved_by, use_at, uses_of}
use Rattle.rv_assembler.specs.Counts.{current_family}
use Rattle.rv_assembler.specs.Tables.{tasks_by}
use Rattle.rv_assembler.specs.BaseLine.{AreSpelledAlike}
use Rattle.rv_assembler.specs.FamilyLines.{IsTaskLine, HasTaskLines, interval_at, one_of, HasUseLines}

-- ---- numbers modulo 2^32

wrapped-sum : (x y : ℤ) → wrapped (x +ℤ y) ≡ (wrapped x + wrapped y) % 2 ^ 32
wrapped-sum (pos m) (pos n) = omega arith
wrapped-sum (pos m) (negsuc n) = back (ltb m (suc n)) refl
  where
    back : (c : Bool) → ltb m (suc n) ≡ c → wrapped (cond c (negsuc (suc n - suc m)) (pos (m - suc n))) ≡ (wrapped (pos m) + wrapped (negsuc n)) % 2 ^ 32
    back true e = let l : m < suc n = ltb-true m (suc n) e in omega arith
    back false e = let l : suc n ≤ m = ltb-false m (suc n) e in omega arith
wrapped-sum (negsuc m) (pos n) = back (ltb n (suc m)) refl
  where
    back : (c : Bool) → ltb n (suc m) ≡ c → wrapped (cond c (negsuc (suc m - suc n)) (pos (n - suc m))) ≡ (wrapped (negsuc m) + wrapped (pos n)) % 2 ^ 32
    back true e = let l : n < suc m = ltb-true n (suc m) e in omega arith
    back false e = let l : suc m ≤ n = ltb-false n (suc m) e in omega arith
wrapped-sum (negsuc m) (negsuc n) = omega arith

wrapped-moved : (a s : ℤ) (i : ℕ) → wrapped (a +ℤ pos i *ℤ s) % 2 ^ 32 ≡ (wrapped a + i * wrapped s) % 2 ^ 32
wrapped-moved a s zero = let same : a +ℤ pos 0 *ℤ s ≡ a = omega (arith, ints) in ap (λ (z : ℤ). wrapped z % 2 ^ 32) same ∙ omega arith
wrapped-moved a s (suc i) =
    let once : suc_ℤ (pos i) *ℤ s ≡ pos i *ℤ s +ℤ s = suc_ℤ-*ℤ (pos i) s in
    let more : a +ℤ pos (suc i) *ℤ s ≡ (a +ℤ pos i *ℤ s) +ℤ s = ap (λ (z : ℤ). a +ℤ z) once ∙ omega (arith, ints) in
    let sum = wrapped-sum (a +ℤ pos i *ℤ s) s in
    let before = wrapped-moved a s i in
    ap (λ (z : ℤ). wrapped z % 2 ^ 32) more ∙ omega arith

-- ---- tasks

entry-alike : (text : List ℕ) (names : List ℕ → Option Meaning) (t u : Token) → AreSpelledAlike text t u → task_entry text names t ≡ task_entry text names u
entry-alike text names t u a = ap (λ (bs : List ℕ). entry_value names bs t.kind) a.bytes ∙ ap (entry_value names (bytes_of text u)) a.kind

module _ (text : List ℕ) (ts : List Token) (names : List ℕ → Option Meaning) (phase f : ℕ) (first_core : number_at ts 0 ≡ pos f) where
  abbrev first : Start
  first = record { phase = phase; core = natural_of (number_at ts 0); entry = task_entry text names (token_at ts 4); arg = wrapped (number_at ts 6) }

  abbrev step : ℕ
  step = wrapped (number_at ts 8)

  one-task : (i : ℕ) (us : List Token) → IsTaskLine text ts i us → tasks_by text names phase (directive_for us Task) ≡ start_at first step i ∷ []
  one-task i us h =
      let plain : f + i + 0 ≡ f + i = omega arith in
      let core : natural_of (number_at us 0) + 0 ≡ natural_of (number_at ts 0) + i =
      ap (λ (z : ℤ). natural_of z + 0) (h.core ∙ ap (λ (z : ℤ). z +ℤ pos i) first_core) ∙ plain ∙ ap (λ (z : ℤ). natural_of z + i) (sym first_core) in
      let arg : (wrapped (number_at us 4) + 0 * 0) % 2 ^ 32 ≡ (wrapped (number_at ts 6) + i * step) % 2 ^ 32 =
      let e = h.argument in let moved = wrapped-moved (number_at ts 6) (number_at ts 8) i in omega arith in
      λ k. record { phase = phase; core = core k; entry = sym (entry-alike text names (token_at ts 4) (token_at us 2) h.entry) k; arg = arg k } ∷ []

  tasks-on : (lines : ℕ → List Token) (m : ℕ) → ((i : ℕ) → i < m → IsTaskLine text ts i (lines i)) → (n k : ℕ) → k + n ≤ m
      → map (start_at first step) (range_with_len k n) ≡ flat_map (λ i. tasks_by text names phase (directive_for (lines i) Task)) (range_with_len k n)
  tasks-on lines m h zero k l = refl
  tasks-on lines m h (suc n) k l =
      ap (λ (ss : List Start). start_at first step k ∷ ss) (tasks-on lines m h n (k + 1) (omega arith))
      ∙ ap (λ (ss : List Start). ss ++ flat_map (λ i. tasks_by text names phase (directive_for (lines i) Task)) (range_with_len (k + 1) n)) (sym (one-task k (lines k) (h k (omega arith))))

  one-family : (family : Cores) (i : ℕ) (us : List Token) → IsTaskLine text ts i us → current_family (directive_for ts Forall) ≡ Some family → current_family (directive_for us Task) ≡ Some (one_of family i)
  one-family family i us h e =
      let same : record { first = natural_of (number_at ts 0); count = natural_of (number_at ts 2) } ≡ family = cc in
      let core : natural_of (number_at us 0) ≡ natural_of (number_at ts 0) + i = ap natural_of (h.core ∙ ap (λ (z : ℤ). z +ℤ pos i) first_core) ∙ ap (λ (z : ℤ). natural_of z + i) (sym first_core) in
      (λ k. Some (record { first = core k; count = 1 })) ∙ ap (λ (c : Cores). Some (one_of c i)) same

pub task-lines : (text : List ℕ) (ts : List Token) (f : ℕ) (lines : ℕ → List Token) → number_at ts 0 ≡ pos f → ((i : ℕ) → i < natural_of (number_at ts 2) → IsTaskLine text ts i (lines i)) → HasTaskLines text ts lines
task-lines text ts f lines core h = record {
  tasks = λ names phase. tasks-on text ts names phase f core lines (natural_of (number_at ts 2)) h (natural_of (number_at ts 2)) 0 (omega arith);
  cores = λ family i e l.
      let same : record { first = natural_of (number_at ts 0); count = natural_of (number_at ts 2) } ≡ family = cc in
      let count : natural_of (number_at ts 2) ≡ family.count = ap (λ (c : Cores). c.count) same in
      one-family text ts (λ q. None) 0 f core family i (lines i) (h i (omega arith)) e;
}

-- ---- effects

abbrev no_claims : ℕ → List Claim
no_claims i = []

no-uses : (n k : ℕ) → [] ≡ flat_map no_claims (range_with_len k n)
no-uses zero k = refl
no-uses (suc n) k = no-uses n (k + 1)

not-moved : (z : ℤ) (i : ℕ) → z +ℤ pos i *ℤ pos 0 ≡ z
not-moved z i = omega (arith, ints)

low-same : (e : Extent) (i : ℕ) → from_index (interval_at e i) +ℤ pos 0 *ℤ moved_by (interval_at e i) ≡ from_index e +ℤ pos i *ℤ moved_by e
low-same extent.TheVariants.Whole i = sym (not-moved (pos 0) i)
low-same (extent.TheVariants.Part lo hi) i = not-moved lo 0 ∙ sym (not-moved lo i)
low-same (extent.TheVariants.Stepped lo hi step) i = not-moved (lo +ℤ pos i *ℤ step) 0

high-same : (len : ℤ) (e : Extent) (i : ℕ) → to_index len (interval_at e i) +ℤ pos 0 *ℤ moved_by (interval_at e i) ≡ to_index len e +ℤ pos i *ℤ moved_by e
high-same len extent.TheVariants.Whole i = not-moved len 0 ∙ sym (not-moved len i)
high-same len (extent.TheVariants.Part lo hi) i = not-moved hi 0 ∙ sym (not-moved hi i)
high-same len (extent.TheVariants.Stepped lo hi step) i = not-moved (hi +ℤ pos i *ℤ step) 0

one-use : (phase : ℕ) (family : Cores) (u : Usage) (p : Span) (e : Extent) (i : ℕ) → use_at phase (one_of family i) u p (interval_at e i) 0 ≡ use_at phase family u p e i
one-use phase family u p e i =
    let core : family.first + i + 0 ≡ family.first + i = omega arith in
    λ k. record { phase = phase; core = core k; usage = u; lo = p.start + natural_of (low-same e i k); hi = p.start + natural_of (high-same p.len e i k) }

uses-on : (phase : ℕ) (family : Cores) (u : Usage) (p : Span) (e : Extent) (n k : ℕ)
    → map (use_at phase family u p e) (range_with_len k n) ≡ flat_map (λ i. uses_of phase (one_of family i) (Some p) (Some u) (interval_at e i)) (range_with_len k n)
uses-on phase family u p e zero k = refl
uses-on phase family u p e (suc n) k =
    ap (λ (cs : List Claim). use_at phase family u p e k ∷ cs) (uses-on phase family u p e n (k + 1))
    ∙ ap (λ (c : Claim). c ∷ flat_map (λ i. uses_of phase (one_of family i) (Some p) (Some u) (interval_at e i)) (range_with_len (k + 1) n)) (sym (one-use phase family u p e k))

of-uses : (phase : ℕ) (family : Cores) (p : Option Span) (u : Option Usage) (e : Extent) → uses_of phase family p u e ≡ flat_map (λ i. uses_of phase (one_of family i) p u (interval_at e i)) (range_with_len 0 family.count)
of-uses phase family None u e = no-uses family.count 0
of-uses phase family (Some p) None e = no-uses family.count 0
of-uses phase family (Some p) (Some u) e = uses-on phase family u p e family.count 0

pub use-lines : (text : List ℕ) (phase : ℕ) (family : Cores) (e : Effect) → HasUseLines text phase family e
use-lines text phase family e names = of-uses phase family (region_span (names (bytes_of text e.region))) (usage_of text names e) e.extent

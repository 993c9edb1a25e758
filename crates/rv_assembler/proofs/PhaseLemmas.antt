-- The phases of a program are well formed by the way in which they are made.
use Rattle.std.proofs.Common.{◌≡◌, ℕ, zero, suc, ◌+◌, ◌%◌, ◌<◌, ◌≤◌, ◌&&◌, true, false, ltb, leb, eqb, List, [], ◌∷◌, get_or, map, filter, find, filter_map, option_map, Option, Some, None, IfSome, ◌∙◌, arith, ⊎_elim}
use Rattle.std.specs.List.{All, AllPairs, range_with_len, cons_option}
use Rattle.std.proofs.lemmas.Bool.{cases_Bool, and_parts, ltb-true, leb-true}
use Rattle.std.proofs.lemmas.List.{length-map}
use Rattle.std.proofs.lemmas.List.FromFn.{length-range_with_len}
use Rattle.std.proofs.lemmas.List.Elements.{All-nil, All-cons, All-head, All-tail}
use Rattle.std.proofs.lemmas.List.Kept.{AllPairs-cons}
use borrow.Author.Tests.{eqb-true}
use Rattle.region_table.specs.declared.declared.TaskDecl.{TaskDecl}
use Rattle.region_table.specs.Program.{LiesIn, AreEffects, IsTask, IsPhase}
use Rattle.rv_assembler.specs.declared.draft.Start.{Start}
use Rattle.rv_assembler.specs.declared.draft.Usage.{Usage}
use Rattle.rv_assembler.specs.declared.draft.Usage.TheVariants.{Reads, Writes, GuardedReads, GuardedWrites}
use Rattle.rv_assembler.specs.declared.draft.Claim.{Claim}
use Rattle.rv_assembler.specs.Program.{same_usage, is_claim_of, is_task}
use Rattle.rv_assembler.specs.Finishing.{interval_within, words_within, guarded_reads_within, guarded_writes_within, effects_within, task_within, core_task_within, phase_within}
use Rattle.rv_assembler.proofs.UnionLemmas.{IsSome, united-within}

-- a core has the greater number
abbrev pub Rises : TaskDecl → TaskDecl → Type 0
Rises a b = a.core.0 < b.core.0

pub cons-all : {X : Type 0} (P : X → Type 0) (o : Option X) (xs : List X) → IfSome o P → All P xs → All P (cons_option o xs)
cons-all P None xs h a = a
cons-all P (Some x) xs h a = All-cons P x xs h a

if_some-weaker : {X : Type 0} (P Q : X → Type 0) (o : Option X) → ((x : X) → P x → Q x) → IfSome o P → IfSome o Q
if_some-weaker P Q None f h = tt
if_some-weaker P Q (Some x) f h = f x h

if_some-map : {X Y : Type 0} (Q : Y → Type 0) (g : X → Y) (o : Option X) → IfSome o (λ x. Q (g x)) → IfSome (option_map g o) Q
if_some-map Q g None h = tt
if_some-map Q g (Some x) h = h

all-map : {X : Type 0} (P : X → Type 0) (f : ℕ → X) (ns : List ℕ) → ((n : ℕ) → P (f n)) → All P (map f ns)
all-map P f [] h = All-nil P
all-map P f (n ∷ ns) h = All-cons P (f n) (map f ns) (h n) (all-map P f ns h)

pub interval-valid : (words : ℕ) (u : Usage) (c : Claim) → IfSome (interval_within words u c) (IsSome words)
interval-valid words u c =
    ⊎_elim
    (λ (e : (same_usage c.usage u && (ltb c.lo c.hi && leb c.hi words)) ≡ true).
    let p = and_parts (same_usage c.usage u) (ltb c.lo c.hi && leb c.hi words) e in
    let q = and_parts (ltb c.lo c.hi) (leb c.hi words) p.1 in
    rw e (ltb-true c.lo c.hi q.0, leb-true c.hi words q.1))
    (λ (e : (same_usage c.usage u && (ltb c.lo c.hi && leb c.hi words)) ≡ false). rw e tt)
    (cases_Bool (same_usage c.usage u && (ltb c.lo c.hi && leb c.hi words)))

-- the intervals of claims are words of the memory
pub valid : (words : ℕ) (u : Usage) (claims : List Claim) → All (IsSome words) (filter_map (interval_within words u) claims)
valid words u [] = All-nil (IsSome words)
valid words u (c ∷ cs) = cons-all (IsSome words) (interval_within words u c) (filter_map (interval_within words u) cs) (interval-valid words u c) (valid words u cs)

pub valid-most : (words : ℕ) (u : Usage) (claims : List Claim) → words ≤ 65536 → All (IsSome 65536) (filter_map (interval_within words u) claims)
valid-most words u claims most = λ k d l. let v : IsSome words (get_or (filter_map (interval_within words u) claims) k d) = valid words u claims k d l in (v.0, omega arith)

lies : (words : ℕ) (claims : List Claim) (u : Usage) → LiesIn words (words_within words claims u)
lies words claims u = united-within words (filter_map (interval_within words u) claims) (valid words u claims)

effects-well : (words locks : ℕ) (claims : List Claim) → AreEffects words locks (effects_within words locks claims)
effects-well words locks claims = record {
  reads = lies words claims Reads;
  writes = lies words claims Writes;
  guarded_reads = all-map (LiesIn words) (guarded_reads_within words claims) (range_with_len 0 locks) (λ n. lies words claims (GuardedReads n));
  guarded_writes = all-map (LiesIn words) (guarded_writes_within words claims) (range_with_len 0 locks) (λ n. lies words claims (GuardedWrites n));
  reads_by_lock = length-map (range_with_len 0 locks) (guarded_reads_within words claims) ∙ length-range_with_len 0 locks;
  writes_by_lock = length-map (range_with_len 0 locks) (guarded_writes_within words claims) ∙ length-range_with_len 0 locks;
}

-- the entry is the address of a word
abbrev pub IsAligned : Start → Type 0
IsAligned t = t.entry % 4 ≡ 0

task-well : (words locks : ℕ) (claims : List Claim) (t : Start) → t.core < 16 → IsAligned t → IsTask words locks (task_within words locks claims t)
task-well words locks claims t h a = record {
  core = h;
  entry = a;
  effects = effects-well words locks (filter (is_claim_of t) claims);
}

found-core : (p c : ℕ) (tasks : List Start) → All IsAligned tasks → IfSome (find (is_task p c) tasks) (λ t. (t.core ≡ c) × IsAligned t)
found-core p c [] all = tt
found-core p c (t ∷ ts) all =
    ⊎_elim
    (λ (e : (eqb t.phase p && eqb t.core c) ≡ true). rw e (eqb-true t.core c (and_parts (eqb t.phase p) (eqb t.core c) e).1, All-head IsAligned t ts all))
    (λ (e : (eqb t.phase p && eqb t.core c) ≡ false). rw e (found-core p c ts (All-tail IsAligned t ts all)))
    (cases_Bool (eqb t.phase p && eqb t.core c))

-- a task of a core, well formed
abbrev pub IsOn : ℕ → ℕ → ℕ → TaskDecl → Type 0
IsOn words locks c t = IsTask words locks t × (t.core.0 ≡ c)

pub task-found : (words locks : ℕ) (claims : List Claim) (tasks : List Start) (p c : ℕ) → All IsAligned tasks → c < 16 → IfSome (core_task_within words locks claims tasks p c) (IsOn words locks c)
task-found words locks claims tasks p c all l =
    if_some-map (IsOn words locks c) (task_within words locks claims) (find (is_task p c) tasks)
    (if_some-weaker (λ (t : Start). (t.core ≡ c) × IsAligned t) (λ (t : Start). IsOn words locks c (task_within words locks claims t)) (find (is_task p c) tasks)
    (λ t e. let same = e.0 in (task-well words locks claims t (omega arith) e.1, same))
    (found-core p c tasks all))

module _ (words locks : ℕ) (f : ℕ → Option TaskDecl) (h : (c : ℕ) → c < 16 → IfSome (f c) (IsOn words locks c)) where
  filled : (a n : ℕ) → a + n ≤ 16 → All (IsTask words locks) (filter_map f (range_with_len a n))
  filled a zero b = All-nil (IsTask words locks)
  filled a (suc n) b =
      cons-all (IsTask words locks) (f a) (filter_map f (range_with_len (a + 1) n))
      (if_some-weaker (IsOn words locks a) (IsTask words locks) (f a) (λ t e. e.0) (h a (omega arith)))
      (filled (a + 1) n (omega arith))

  above : (a n : ℕ) → a + n ≤ 16 → All (λ (t : TaskDecl). a ≤ t.core.0) (filter_map f (range_with_len a n))
  above a zero b = All-nil (λ (t : TaskDecl). a ≤ t.core.0)
  above a (suc n) b =
      let rest : All (λ (t : TaskDecl). a + 1 ≤ t.core.0) (filter_map f (range_with_len (a + 1) n)) = above (a + 1) n (omega arith) in
      cons-all (λ (t : TaskDecl). a ≤ t.core.0) (f a) (filter_map f (range_with_len (a + 1) n))
      (if_some-weaker (IsOn words locks a) (λ (t : TaskDecl). a ≤ t.core.0) (f a) (λ t e. let q = e.1 in omega arith) (h a (omega arith)))
      (λ k d l. let r = rest k d l in omega arith)

  cons-rising : (o : Option TaskDecl) (xs : List TaskDecl) (a : ℕ) → IfSome o (IsOn words locks a) → All (λ (t : TaskDecl). a + 1 ≤ t.core.0) xs → AllPairs Rises xs → AllPairs Rises (cons_option o xs)
  cons-rising None xs a e r p = p
  cons-rising (Some t) xs a e r p = AllPairs-cons Rises t xs (λ k d l. let q = e.1 in let s = r k d l in omega arith) p

  rising : (a n : ℕ) → a + n ≤ 16 → AllPairs Rises (filter_map f (range_with_len a n))
  rising a zero b = λ i j d l m. absurd (omega arith)
  rising a (suc n) b =
      cons-rising (f a) (filter_map f (range_with_len (a + 1) n)) a (h a (omega arith)) (above (a + 1) n (omega arith)) (rising (a + 1) n (omega arith))

  pub phase-filled : IsPhase words locks (record { tasks = filter_map f (range_with_len 0 16) })
  phase-filled = record { tasks = filled 0 16 (omega arith); rising = rising 0 16 (omega arith) }

pub phases-well : (words locks : ℕ) (claims : List Claim) (tasks : List Start) (ps : List ℕ) → All IsAligned tasks → All (IsPhase words locks) (map (phase_within words locks claims tasks) ps)
phases-well words locks claims tasks ps all =
    all-map (IsPhase words locks) (phase_within words locks claims tasks) ps
    (λ p. phase-filled words locks (core_task_within words locks claims tasks p) (λ c l. task-found words locks claims tasks p c all l))

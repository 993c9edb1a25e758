-- Claims of words of the memory make the same phases where they are tested for it as where they are not.
use Rattle.std.proofs.Common.{◌≡◌, ℕ, ◌<◌, ◌≤◌, Bool, true, false, cond, ◌&&◌, ltb, leb, lt-ltb, le-leb, List, [], ◌∷◌, map, filter, find, filter_map, option_map, Option, Some, None, refl, ap, ◌∙◌}
use Rattle.std.specs.List.{All, range_with_len, cons_option}
use Rattle.std.proofs.lemmas.Bool.{and_from, cond_both}
use Rattle.std.proofs.lemmas.List.Elements.{All-nil, All-cons, All-head, All-tail}
use Rattle.region_table.specs.declared.interval.Interval.{Interval}
use Rattle.region_table.specs.declared.declared.Effects.{Effects}
use Rattle.region_table.specs.declared.declared.TaskDecl.{TaskDecl}
use Rattle.rv_assembler.specs.declared.draft.Usage.{Usage}
use Rattle.rv_assembler.specs.declared.draft.Usage.TheVariants.{Reads, Writes, GuardedReads, GuardedWrites}
use Rattle.rv_assembler.specs.declared.draft.Start.{Start}
use Rattle.rv_assembler.specs.declared.draft.Claim.{Claim}
use Rattle.rv_assembler.specs.Union.{united}
use Rattle.rv_assembler.specs.Program.{same_usage, is_claim_of, is_task, interval_of, words_of, effects_of, task_of, phase_of}
use Rattle.rv_assembler.specs.Finishing as finishing

-- a claim of words of a memory of so many words
abbrev pub IsInMemory : ℕ → Claim → Type 0
IsInMemory words c = (c.lo < c.hi) × (c.hi ≤ words)

and-true : (b : Bool) → (b && true) ≡ b
and-true true = refl
and-true false = refl

all-filter : {X : Type 0} (P : X → Type 0) (f : X → Bool) (xs : List X) → All P xs → All P (filter f xs)
all-filter P f [] a = All-nil P
all-filter P f (x ∷ xs) a =
    let rest = all-filter P f xs (All-tail P x xs a) in
    cond_both (f x) (x ∷ filter f xs) (filter f xs) (All P) (λ e. All-cons P x (filter f xs) (All-head P x xs a) rest) (λ e. rest)

module _ (words : ℕ) where
  interval-same : (u : Usage) (c : Claim) → IsInMemory words c → finishing.interval_within words u c ≡ interval_of u c
  interval-same u c h =
      let i : Option Interval = Some (record { lo = c.lo; hi = c.hi }) in
      ap (λ (b : Bool). cond (same_usage c.usage u && b) i None) (and_from (ltb c.lo c.hi) (leb c.hi words) (lt-ltb c.lo c.hi h.0) (le-leb c.hi words h.1))
      ∙ ap (λ (b : Bool). cond b i None) (and-true (same_usage c.usage u))

  intervals-same : (u : Usage) (cs : List Claim) → All (IsInMemory words) cs → filter_map (finishing.interval_within words u) cs ≡ filter_map (interval_of u) cs
  intervals-same u [] a = refl
  intervals-same u (c ∷ cs) a =
      ap (λ (o : Option Interval). cons_option o (filter_map (finishing.interval_within words u) cs)) (interval-same u c (All-head (IsInMemory words) c cs a))
      ∙ ap (λ (is : List Interval). cons_option (interval_of u c) is) (intervals-same u cs (All-tail (IsInMemory words) c cs a))

  words-same : (cs : List Claim) → All (IsInMemory words) cs → (u : Usage) → finishing.words_within words cs u ≡ words_of cs u
  words-same cs a u = ap united (intervals-same u cs a)

  effects-same : (locks : ℕ) (cs : List Claim) → All (IsInMemory words) cs → finishing.effects_within words locks cs ≡ effects_of locks cs
  effects-same locks cs a =
      λ i. record {
        reads = words-same cs a Reads i;
        writes = words-same cs a Writes i;
        guarded_reads = map (λ (k : ℕ). words-same cs a (GuardedReads k) i) (range_with_len 0 locks);
        guarded_writes = map (λ (k : ℕ). words-same cs a (GuardedWrites k) i) (range_with_len 0 locks);
      }

  task-same : (locks : ℕ) (cs : List Claim) → All (IsInMemory words) cs → (t : Start) → finishing.task_within words locks cs t ≡ task_of locks cs t
  task-same locks cs a t =
      ap (λ (e : Effects). let q : TaskDecl = record { core = record { 0 = t.core }; entry = t.entry; arg = t.arg; effects = e } in q)
      (effects-same locks (filter (is_claim_of t) cs) (all-filter (IsInMemory words) (is_claim_of t) cs a))

  pub phase-same : (locks : ℕ) (cs : List Claim) → All (IsInMemory words) cs → (tasks : List Start) (p : ℕ) → finishing.phase_within words locks cs tasks p ≡ phase_of locks cs tasks p
  phase-same locks cs a tasks p =
      λ i. record { tasks = filter_map (λ (core : ℕ). option_map (λ (t : Start). task-same locks cs a t i) (find (is_task p core) tasks)) (range_with_len 0 16) }

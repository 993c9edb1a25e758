-- The phases that are made from the rows of the claims are those of the claims.
use Rattle.std.proofs.Common.{◌≡◌, ℕ, zero, suc, ◌+◌, ◌*◌, ◌<◌, ◌≤◌, true, false, ◌&&◌, ltb, eqb, List, [], ◌∷◌, length, map, filter, find, filter_map, option_map, Option, Some, None, IfSome, refl, ap, ◌∙◌, arith, ⊎_elim, lt-ltb, eqb-true}
use Rattle.std.specs.List.{range_with_len, cons_option}
use Rattle.std.proofs.lemmas.Bool.{cases_Bool, and_parts, and_from}
use Rattle.region_table.specs.declared.interval.Interval.{Interval}
use Rattle.region_table.specs.declared.declared.Effects.{Effects}
use Rattle.region_table.specs.declared.declared.TaskDecl.{TaskDecl}
use Rattle.region_table.specs.declared.declared.Phase.{Phase}
use Rattle.rv_assembler.specs.declared.draft.Usage.{Usage}
use Rattle.rv_assembler.specs.declared.draft.Usage.TheVariants.{Reads, Writes, GuardedReads, GuardedWrites}
use Rattle.rv_assembler.specs.declared.draft.Start.{Start}
use Rattle.rv_assembler.specs.declared.draft.Claim.{Claim}
use Rattle.rv_assembler.specs.Union.{united}
use Rattle.rv_assembler.specs.Program.{is_claim_of, is_task}
use Rattle.rv_assembler.specs.Finishing.{words_within, guarded_reads_within, guarded_writes_within, effects_within, task_within, core_task_within, phase_within}
use Rattle.rv_assembler.specs.ClaimRows.{usage_number, claim_row, HasClaims, words_by_rows, guarded_by_rows, effects_by_rows, task_by_rows, core_task_by_rows, phase_by_rows}

same-map : {X : Type 0} (f g : ℕ → X) (a n : ℕ) → ((i : ℕ) → a ≤ i → i < a + n → f i ≡ g i) → map f (range_with_len a n) ≡ map g (range_with_len a n)
same-map f g a zero h = refl
same-map f g a (suc n) h =
    ap (λ x. x ∷ map f (range_with_len (a + 1) n)) (h a (omega arith) (omega arith))
    ∙ ap (λ l. g a ∷ l) (same-map f g (a + 1) n (λ i l m. h i (omega arith) (omega arith)))

same-filter_map : {X : Type 0} (f g : ℕ → Option X) (a n : ℕ) → ((i : ℕ) → a ≤ i → i < a + n → f i ≡ g i) → filter_map f (range_with_len a n) ≡ filter_map g (range_with_len a n)
same-filter_map f g a zero h = refl
same-filter_map f g a (suc n) h =
    ap (λ x. cons_option x (filter_map f (range_with_len (a + 1) n))) (h a (omega arith) (omega arith))
    ∙ ap (λ l. cons_option (g a) l) (same-filter_map f g (a + 1) n (λ i l m. h i (omega arith) (omega arith)))

same-option : {X Y : Type 0} (f g : X → Y) (o : Option X) → IfSome o (λ x. f x ≡ g x) → option_map f o ≡ option_map g o
same-option f g None h = refl
same-option f g (Some x) h = ap Some h

-- the task of a core and a phase is of both
record IsAt (p c : ℕ) (t : Start) : Type 0 where
  phase : t.phase ≡ p
  core : t.core ≡ c

found-at : (p c : ℕ) (tasks : List Start) → IfSome (find (is_task p c) tasks) (IsAt p c)
found-at p c [] = tt
found-at p c (t ∷ ts) =
    ⊎_elim
    (λ (e : (eqb t.phase p && eqb t.core c) ≡ true). let a = and_parts (eqb t.phase p) (eqb t.core c) e in rw e (record { phase = eqb-true t.phase p a.0; core = eqb-true t.core c a.1 }))
    (λ (e : (eqb t.phase p && eqb t.core c) ≡ false). rw e (found-at p c ts))
    (cases_Bool (eqb t.phase p && eqb t.core c))

if_some-all : {X : Type 0} (P Q : X → Type 0) (o : Option X) → ((x : X) → P x → Q x) → IfSome o P → IfSome o Q
if_some-all P Q None f h = tt
if_some-all P Q (Some x) f h = f x h

abbrev effects : List Interval → List Interval → List (List Interval) → List (List Interval) → Effects
effects r w gr gw = record { reads = r; writes = w; guarded_reads = gr; guarded_writes = gw }

module _ (words phases locks : ℕ) (claims : List Claim) (rows : List (List Interval)) (has : HasClaims words claims rows) (long : length rows ≡ 1056 * phases + 1056) (few : locks ≤ 32) where
  words-same : (t : Start) (u : Usage) → t.core < 16 → t.phase ≤ phases → usage_number u < 66 → words_by_rows rows t u ≡ words_within words (filter (is_claim_of t) claims) u
  words-same t u c p n =
      let within : claim_row t.phase t.core u < length rows = omega (arith, long) in
      ap united (has t u (and_from (ltb t.core 16) (ltb (usage_number u) 66) (lt-ltb t.core 16 c) (lt-ltb (usage_number u) 66 n)) within)

  effects-same : (t : Start) → t.core < 16 → t.phase ≤ phases → effects_by_rows locks rows t ≡ effects_within words locks (filter (is_claim_of t) claims)
  effects-same t c p =
      let own : List Claim = filter (is_claim_of t) claims in
      let r = words-same t Reads c p (omega arith) in
      let w = words-same t Writes c p (omega arith) in
      let gr = same-map (guarded_by_rows rows t false) (guarded_reads_within words own) 0 locks (λ i l m. words-same t (GuardedReads i) c p (omega arith)) in
      let gw = same-map (guarded_by_rows rows t true) (guarded_writes_within words own) 0 locks (λ i l m. words-same t (GuardedWrites i) c p (omega arith)) in
      let reads = map (guarded_by_rows rows t false) (range_with_len 0 locks) in
      let writes = map (guarded_by_rows rows t true) (range_with_len 0 locks) in
      ap (λ (x : List Interval). effects x (words_by_rows rows t Writes) reads writes) r
      ∙ (ap (λ (x : List Interval). effects (words_within words own Reads) x reads writes) w
      ∙ (ap (λ (x : List (List Interval)). effects (words_within words own Reads) (words_within words own Writes) x writes) gr
      ∙ ap (λ (x : List (List Interval)). effects (words_within words own Reads) (words_within words own Writes) (map (guarded_reads_within words own) (range_with_len 0 locks)) x) gw))

  task-same : (t : Start) → t.core < 16 → t.phase ≤ phases → task_by_rows locks rows t ≡ task_within words locks claims t
  task-same t c p =
      let made : Effects → TaskDecl = λ e. record { core = record { 0 = t.core }; entry = t.entry; arg = t.arg; effects = e } in ap made (effects-same t c p)

  core-same : (tasks : List Start) (p c : ℕ) → p ≤ phases → c < 16 → core_task_by_rows locks rows tasks p c ≡ core_task_within words locks claims tasks p c
  core-same tasks p c l m =
      same-option (task_by_rows locks rows) (task_within words locks claims) (find (is_task p c) tasks)
      (if_some-all (IsAt p c) (λ t. task_by_rows locks rows t ≡ task_within words locks claims t) (find (is_task p c) tasks) (λ t at. task-same t (omega (arith, at.core)) (omega (arith, at.phase))) (found-at p c tasks))

  pub phases-same : (tasks : List Start) → map (phase_by_rows locks rows tasks) (range_with_len 1 phases) ≡ map (phase_within words locks claims tasks) (range_with_len 1 phases)
  phases-same tasks =
      let made : List TaskDecl → Phase = λ l. record { tasks = l } in
      same-map (phase_by_rows locks rows tasks) (phase_within words locks claims tasks) 1 phases
      (λ p l m. ap made (same-filter_map (core_task_by_rows locks rows tasks p) (core_task_within words locks claims tasks p) 0 16 (λ c a b. core-same tasks p c (omega arith) (omega arith))))

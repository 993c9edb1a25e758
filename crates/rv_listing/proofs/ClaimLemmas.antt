-- Whose the claims of a listing are, and its tasks and phases made of them again.
use Rattle.std.proofs.Common.{◌≡◌, ℕ, zero, suc, ◌+◌, ◌<◌, ◌≤◌, Bool, true, false, cond, eqb, ◌&&◌, List, [], ◌∷◌, ◌++◌, length, map, filter, find, filter_map, option_map, Option, Some, None, refl, sym, ap, ◌∙◌, append_assoc, arith}
use Rattle.std.specs.List.{range_with_len, cons_option}
use Rattle.std.proofs.lemmas.Bool.Decides.{nat_tests}
use Rattle.region_table.specs.declared.interval.Interval.{Interval}
use Rattle.region_table.specs.declared.declared.Region.{Region}
use Rattle.region_table.specs.declared.declared.Effects.{Effects}
use Rattle.region_table.specs.declared.declared.TaskDecl.{TaskDecl}
use Rattle.region_table.specs.declared.declared.Phase.{Phase}
use Rattle.region_table.specs.Program.{AreTiled, IsTask}
use Rattle.rv_assembler.specs.declared.draft.Usage.{Usage}
use Rattle.rv_assembler.specs.declared.draft.Start.{Start}
use Rattle.rv_assembler.specs.declared.draft.Claim.{Claim}
use Rattle.rv_assembler.specs.declared.draft.Usage as in_usage
use Rattle.rv_assembler.specs.Program.{is_task, is_claim_of}
use Rattle.rv_assembler.specs.Finishing.{effects_within, task_within, core_task_within, phase_within}
use Rattle.rv_listing.specs.Law.{AreCanonical}
use Rattle.rv_listing.proofs.CutSetLemmas.{cut_set}
use Rattle.rv_listing.proofs.EffectLemmas.{claims_with}
use Rattle.rv_listing.proofs.TaskEffects.{set_at, guarded_claims, task_claims, effects-again}
use Rattle.rv_listing.proofs.PhaseEquality.{start_of, starts_of, Are, Are-append, RiseFrom, filter-past, filter-own, tasks-by-core}

module _ (b : Bool) (s : Start) (p core : ℕ) (own : (eqb p s.phase && eqb core s.core) ≡ b) where
  with-are : (u : Usage) (is : List Interval) → Are b s (claims_with p core u is)
  with-are u [] = tt
  with-are u (i ∷ is) = (own, with-are u is)

  guarded-are : (rs : List Region) (e : Effects) (k n : ℕ) → Are b s (guarded_claims rs p core e k n)
  guarded-are rs e k zero = tt
  guarded-are rs e k (suc n) =
      let reads = claims_with p core (in_usage.TheVariants.GuardedReads k) (cut_set rs (set_at e.guarded_reads k)) in
      let writes = claims_with p core (in_usage.TheVariants.GuardedWrites k) (cut_set rs (set_at e.guarded_writes k)) in
      let rest = guarded_claims rs p core e (k + 1) n in
      Are-append b s reads (writes ++ rest) (with-are (in_usage.TheVariants.GuardedReads k) (cut_set rs (set_at e.guarded_reads k)))
      (Are-append b s writes rest (with-are (in_usage.TheVariants.GuardedWrites k) (cut_set rs (set_at e.guarded_writes k))) (guarded-are rs e (k + 1) n))

  -- the claims of a task are all of that task
  pub task-are : (rs : List Region) (e : Effects) (locks : ℕ) → Are b s (task_claims rs p core e locks)
  task-are rs e locks =
      let reads = claims_with p core in_usage.TheVariants.Reads (cut_set rs e.reads) in
      let writes = claims_with p core in_usage.TheVariants.Writes (cut_set rs e.writes) in
      let rest = guarded_claims rs p core e 0 locks in
      Are-append b s reads (writes ++ rest) (with-are in_usage.TheVariants.Reads (cut_set rs e.reads)) (Are-append b s writes rest (with-are in_usage.TheVariants.Writes (cut_set rs e.writes)) (guarded-are rs e 0 locks))

-- what the tasks of a phase and of all phases from one on claim, and where they start
abbrev pub claims_of_tasks : List Region → ℕ → ℕ → List TaskDecl → List Claim
claims_of_tasks rs locks p [] = []
claims_of_tasks rs locks p (t ∷ ts) = task_claims rs p t.core.0 t.effects locks ++ claims_of_tasks rs locks p ts

abbrev pub claims_of_phases : List Region → ℕ → ℕ → List Phase → List Claim
claims_of_phases rs locks p [] = []
claims_of_phases rs locks p (ph ∷ phs) = claims_of_tasks rs locks p ph.tasks ++ claims_of_phases rs locks (p + 1) phs

abbrev pub starts_of_phases : ℕ → List Phase → List Start
starts_of_phases p [] = []
starts_of_phases p (ph ∷ phs) = starts_of p ph.tasks ++ starts_of_phases (p + 1) phs

other-core : (p q c d : ℕ) → c < d → (eqb p q && eqb d c) ≡ false
other-core p q c d l = grind (arith, nat_tests)

past-core : (p q c d : ℕ) → d < c → (eqb p q && eqb d c) ≡ false
past-core p q c d l = grind (arith, nat_tests)

later-phase : (p q c d : ℕ) → q < p → (eqb p q && eqb d c) ≡ false
later-phase p q c d l = grind (arith, nat_tests)

earlier-phase : (p q c d : ℕ) → p < q → (eqb p q && eqb d c) ≡ false
earlier-phase p q c d l = grind (arith, nat_tests)

itself : (p c : ℕ) → (eqb p p && eqb c c) ≡ true
itself p c = grind (arith, nat_tests)

later-phase-only : (p q : ℕ) → q < p → eqb p q ≡ false
later-phase-only p q l = grind (arith, nat_tests)

earlier-phase-only : (p q : ℕ) → p < q → eqb p q ≡ false
earlier-phase-only p q l = grind (arith, nat_tests)

module _ (rs : List Region) (locks : ℕ) where
  later-tasks : (s : Start) (p a end : ℕ) (ts : List TaskDecl) → s.core < a → RiseFrom a end ts → Are false s (claims_of_tasks rs locks p ts)
  later-tasks s p a end [] l h = tt
  later-tasks s p a end (t ∷ ts) l h =
      Are-append false s (task_claims rs p t.core.0 t.effects locks) (claims_of_tasks rs locks p ts) (task-are false s p t.core.0 (other-core p s.phase s.core t.core.0 (omega (arith, h.0))) rs t.effects locks)
      (later-tasks s p (t.core.0 + 1) end ts (omega (arith, h.0)) h.2)

  tasks-later : (s : Start) (p : ℕ) (ts : List TaskDecl) → s.phase < p → Are false s (claims_of_tasks rs locks p ts)
  tasks-later s p [] l = tt
  tasks-later s p (t ∷ ts) l =
      Are-append false s (task_claims rs p t.core.0 t.effects locks) (claims_of_tasks rs locks p ts) (task-are false s p t.core.0 (later-phase p s.phase s.core t.core.0 l) rs t.effects locks) (tasks-later s p ts l)

  tasks-earlier : (s : Start) (p : ℕ) (ts : List TaskDecl) → p < s.phase → Are false s (claims_of_tasks rs locks p ts)
  tasks-earlier s p [] l = tt
  tasks-earlier s p (t ∷ ts) l =
      Are-append false s (task_claims rs p t.core.0 t.effects locks) (claims_of_tasks rs locks p ts) (task-are false s p t.core.0 (earlier-phase p s.phase s.core t.core.0 l) rs t.effects locks) (tasks-earlier s p ts l)

  phases-later : (s : Start) (p : ℕ) (phs : List Phase) → s.phase < p → Are false s (claims_of_phases rs locks p phs)
  phases-later s p [] l = tt
  phases-later s p (ph ∷ phs) l =
      Are-append false s (claims_of_tasks rs locks p ph.tasks) (claims_of_phases rs locks (p + 1) phs) (tasks-later s p ph.tasks l) (phases-later s (p + 1) phs (omega arith))

-- tasks of a program
abbrev pub AreTasks : ℕ → ℕ → List TaskDecl → Type 0
AreTasks words locks [] = Unit {0}
AreTasks words locks (t ∷ ts) = IsTask words locks t × AreCanonical t.effects × AreTasks words locks ts

-- phases of a program
abbrev pub ArePhasesOf : ℕ → ℕ → List Phase → Type 0
ArePhasesOf words locks [] = Unit {0}
ArePhasesOf words locks (ph ∷ phs) = RiseFrom 0 16 ph.tasks × AreTasks words locks ph.tasks × ArePhasesOf words locks phs

-- no task is one of a phase
abbrev pub NoStart : ℕ → List Start → Type 0
NoStart q [] = Unit {0}
NoStart q (s ∷ ss) = (eqb s.phase q ≡ false) × NoStart q ss

NoStart-append : (q : ℕ) (a b : List Start) → NoStart q a → NoStart q b → NoStart q (a ++ b)
NoStart-append q [] b h k = k
NoStart-append q (s ∷ a) b h k = (h.0, NoStart-append q a b h.1 k)

find-past : (q c : ℕ) (a b : List Start) → NoStart q a → find (is_task q c) (a ++ b) ≡ find (is_task q c) b
find-past q c [] b h = refl
find-past q c (s ∷ a) b h = ap (λ (x : Bool). cond (x && eqb s.core c) (Some s) (find (is_task q c) (a ++ b))) h.0 ∙ find-past q c a b h.1

find-none : (q c : ℕ) (a : List Start) → NoStart q a → find (is_task q c) a ≡ None
find-none q c [] h = refl
find-none q c (s ∷ a) h = ap (λ (x : Bool). cond (x && eqb s.core c) (Some s) (find (is_task q c) a)) h.0 ∙ find-none q c a h.1

find-before : (q c : ℕ) (a b : List Start) → NoStart q b → find (is_task q c) (a ++ b) ≡ find (is_task q c) a
find-before q c [] b h = find-none q c b h
find-before q c (s ∷ a) b h = ap (λ (o : Option Start). cond (is_task q c s) (Some s) o) (find-before q c a b h)

starts-none : (q p : ℕ) (ts : List TaskDecl) → eqb p q ≡ false → NoStart q (starts_of p ts)
starts-none q p [] h = tt
starts-none q p (t ∷ ts) h = (h, starts-none q p ts h)

starts-later : (q p : ℕ) (phs : List Phase) → q < p → NoStart q (starts_of_phases p phs)
starts-later q p [] l = tt
starts-later q p (ph ∷ phs) l = NoStart-append q (starts_of p ph.tasks) (starts_of_phases (p + 1) phs) (starts-none q p ph.tasks (later-phase-only p q l)) (starts-later q (p + 1) phs (omega arith))

kept-same : {X Y : Type 0} (f g : X → Option Y) (xs : List X) → ((x : X) → f x ≡ g x) → filter_map f xs ≡ filter_map g xs
kept-same f g [] h = refl
kept-same f g (x ∷ xs) h = ap (λ o. cons_option o (filter_map f xs)) (h x) ∙ ap (λ ys. cons_option (g x) ys) (kept-same f g xs h)

module _ (rs : List Region) (words locks : ℕ) (tiled : AreTiled 0 rs words) where
  tasks-again : (p : ℕ) (claims : List Claim) (ts : List TaskDecl) (a : ℕ) (before behind : List Claim) → claims ≡ before ++ (claims_of_tasks rs locks p ts ++ behind)
      → ((s : Start) → s.phase ≡ p → a ≤ s.core → Are false s before) → ((s : Start) → s.phase ≡ p → Are false s behind) → RiseFrom a 16 ts → AreTasks words locks ts
      → map (task_within words locks claims) (starts_of p ts) ≡ ts
  tasks-again p claims [] a before behind e hb hh r h = refl
  tasks-again p claims (t ∷ ts) a before behind e hb hh r h =
      let own = task_claims rs p t.core.0 t.effects locks in
      let others = claims_of_tasks rs locks p ts in
      let s = start_of p t in
      let kept : filter (is_claim_of s) claims ≡ own =
      ap (filter (is_claim_of s)) e
      ∙ filter-past s before ((own ++ others) ++ behind) (hb s refl r.0)
      ∙ ap (filter (is_claim_of s)) (append_assoc own others behind)
      ∙ filter-own s own (others ++ behind) (task-are true s p t.core.0 (itself p t.core.0) rs t.effects locks)
      (Are-append false s others behind (later-tasks rs locks s p (t.core.0 + 1) 16 ts (omega arith) r.2) (hh s refl)) in
      let task : IsTask words locks t = h.0 in
      let one : task_within words locks claims s ≡ t =
      ap (λ (cs : List Claim). let q : TaskDecl = record { core = record { 0 = t.core.0 }; entry = t.entry; arg = t.arg; effects = effects_within words locks cs } in q) kept
      ∙ ap (λ (x : Effects). let q : TaskDecl = record { core = record { 0 = t.core.0 }; entry = t.entry; arg = t.arg; effects = x } in q) (effects-again rs words locks p t.core.0 t.effects tiled task.effects h.1) in
      let again : claims ≡ (before ++ own) ++ (others ++ behind) = e ∙ ap (λ (l : List Claim). before ++ l) (append_assoc own others behind) ∙ sym (append_assoc before own (others ++ behind)) in
      let next = tasks-again p claims ts (t.core.0 + 1) (before ++ own) behind again
      (λ z q l. Are-append false z before own (hb z q (omega (arith, r.0))) (task-are false z p t.core.0 (past-core p z.phase z.core t.core.0 (omega arith)) rs t.effects locks)) hh r.2 h.2 in
      ap (λ (x : TaskDecl). x ∷ map (task_within words locks claims) (starts_of p ts)) one ∙ ap (λ (xs : List TaskDecl). t ∷ xs) next

  phase-again : (ph : Phase) (p : ℕ) (a b : List Start) (claims : List Claim) → NoStart p a → NoStart p b → RiseFrom 0 16 ph.tasks → map (task_within words locks claims) (starts_of p ph.tasks) ≡ ph.tasks
      → phase_within words locks claims (a ++ (starts_of p ph.tasks ++ b)) p ≡ ph
  phase-again ph p a b claims ha hb r m =
      let own = starts_of p ph.tasks in
      ap (λ (ts : List TaskDecl). let q : Phase = record { tasks = ts } in q)
      (kept-same (core_task_within words locks claims (a ++ (own ++ b)) p) (λ (c : ℕ). option_map (task_within words locks claims) (find (is_task p c) own)) (range_with_len 0 16)
      (λ c. ap (option_map (task_within words locks claims)) (find-past p c a (own ++ b) ha ∙ find-before p c own b hb))
      ∙ tasks-by-core p (task_within words locks claims) 16 0 16 ph.tasks refl r ∙ m)

  -- the phases are made of their tasks and claims again
  pub phases-again : (phs : List Phase) (p : ℕ) (a : List Start) (before : List Claim) → ((q : ℕ) → p ≤ q → NoStart q a) → ((s : Start) → p ≤ s.phase → Are false s before) → ArePhasesOf words locks phs
      → map (phase_within words locks (before ++ claims_of_phases rs locks p phs) (a ++ starts_of_phases p phs)) (range_with_len p (length phs)) ≡ phs
  phases-again [] p a before ha hb h = refl
  phases-again (ph ∷ phs) p a before ha hb h =
      let own = claims_of_tasks rs locks p ph.tasks in
      let others = claims_of_phases rs locks (p + 1) phs in
      let claims = before ++ (own ++ others) in
      let starts = starts_of p ph.tasks in
      let more = starts_of_phases (p + 1) phs in
      let here = phase-again ph p a more claims (ha p (omega arith)) (starts-later p (p + 1) phs (omega arith)) h.0
      (tasks-again p claims ph.tasks 0 before others refl (λ s q l. hb s (omega arith)) (λ s q. phases-later rs locks s (p + 1) phs (omega arith)) h.0 h.1) in
      let next = phases-again phs (p + 1) (a ++ starts) (before ++ own)
      (λ q l. NoStart-append q a starts (ha q (omega arith)) (starts-none q p ph.tasks (earlier-phase-only p q (omega arith))))
      (λ s l. Are-append false s before own (hb s (omega arith)) (tasks-earlier rs locks s p ph.tasks (omega arith))) h.2 in
      ap (λ (x : Phase). x ∷ map (phase_within words locks claims (a ++ (starts ++ more))) (range_with_len (p + 1) (length phs))) here
      ∙ ap (λ (cs : List Claim). ph ∷ map (phase_within words locks cs (a ++ (starts ++ more))) (range_with_len (p + 1) (length phs))) (sym (append_assoc before own others))
      ∙ ap (λ (ss : List Start). ph ∷ map (phase_within words locks ((before ++ own) ++ others) ss) (range_with_len (p + 1) (length phs))) (sym (append_assoc a starts more))
      ∙ ap (λ (l : List Phase). ph ∷ l) next

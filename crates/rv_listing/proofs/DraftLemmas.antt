-- What the sections of a listing add up to.
use Rattle.std.proofs.Common.{◌≡◌, ℕ, ◌+◌, ◌≤◌, Bool, false, List, [], ◌∷◌, ◌++◌, length, map, replicate, refl, sym, ap, ◌∙◌, append_assoc, append-nil, length-append, arith}
use Rattle.std.specs.List.{range_with_len}
use Rattle.std.proofs.lemmas.Bool.{le-ltb}
use Rattle.region_table.specs.declared.declared.Region.{Region}
use Rattle.region_table.specs.declared.declared.TaskDecl.{TaskDecl}
use Rattle.region_table.specs.declared.declared.Phase.{Phase}
use Rattle.region_table.specs.Program.{ProgramParts, AreTiled, tasks_of}
use Rattle.rv_assembler.specs.declared.draft.Draft.{Draft}
use Rattle.rv_assembler.specs.declared.draft.Start.{Start}
use Rattle.rv_assembler.specs.declared.draft.Claim.{Claim}
use Rattle.rv_assembler.specs.Adding.{no_draft}
use Rattle.rv_assembler.specs.Fault.{most_regions}
use Rattle.rv_assembler.specs.Finishing.{phase_within, with_first_values, finished_program}
use Rattle.rv_listing.proofs.RegionSection.{IsWithin, add_region, add_lock}
use Rattle.rv_listing.proofs.CodeSection.{other_limits}
use Rattle.rv_listing.proofs.DeclarationLemmas.{add_regions, add_locks}
use Rattle.rv_listing.proofs.UseSection.{add_phase}
use Rattle.rv_listing.proofs.TaskEffects.{task_claims}
use Rattle.rv_listing.proofs.TaskLines.{add_task_of}
use Rattle.rv_listing.proofs.PhaseLines.{add_tasks_of}
use Rattle.rv_listing.proofs.AllPhaseLines.{IsAt, at-tasks, at-phase, add_phases_of, task_count}
use Rattle.rv_listing.proofs.PhaseEquality.{start_of, starts_of}
use Rattle.rv_listing.proofs.ClaimLemmas.{claims_of_tasks, claims_of_phases, starts_of_phases}

abbrev pub with_regions : Draft → List Region → ℕ → ℕ → Draft
with_regions d rs words regions = record d { regions = rs; count = record { code = d.count.code; words = words; regions = regions; locks = d.count.locks } }

abbrev pub with_locks : Draft → List (List ℕ) → ℕ → Draft
with_locks d ls locks = record d { locks = ls; count = record { code = d.count.code; words = d.count.words; regions = d.count.regions; locks = locks } }

same-regions : (d : Draft) (rs rs' : List Region) (w w' n n' : ℕ) → rs ≡ rs' → w ≡ w' → n ≡ n' → with_regions d rs w n ≡ with_regions d rs' w' n'
same-regions d rs rs' w w' n n' e f g =
    ap (λ (x : List Region). with_regions d x w n) e ∙ ap (λ (x : ℕ). with_regions d rs' x n) f ∙ ap (λ (x : ℕ). with_regions d rs' w' x) g

pub regions-added : (d : Draft) (rs : List Region) (end : ℕ) → AreTiled d.count.words rs end → add_regions d rs ≡ with_regions d (d.regions ++ rs) end (d.count.regions + length rs)
regions-added d [] end t = same-regions d d.regions (d.regions ++ []) d.count.words end d.count.regions (d.count.regions + 0) (sym (append-nil d.regions)) t (omega arith)
regions-added d (r ∷ rs) end t =
    let begins : r.start + r.len ≡ d.count.words + r.len = (let e : r.start ≡ d.count.words = t.0 in omega arith) in
    let tiled : AreTiled (d.count.words + r.len) rs end = rw begins at t.2 in
    regions-added (add_region d r) rs end tiled
    ∙ same-regions d ((d.regions ++ r ∷ []) ++ rs) (d.regions ++ r ∷ rs) end end (d.count.regions + 1 + length rs) (d.count.regions + length (r ∷ rs)) (append_assoc d.regions (r ∷ []) rs) refl (omega arith)

same-locks : (d : Draft) (ls ls' : List (List ℕ)) (n n' : ℕ) → ls ≡ ls' → n ≡ n' → with_locks d ls n ≡ with_locks d ls' n'
same-locks d ls ls' n n' e f = ap (λ (x : List (List ℕ)). with_locks d x n) e ∙ ap (λ (x : ℕ). with_locks d ls' x) f

pub locks-added : (d : Draft) (ls : List (List ℕ)) → add_locks d ls ≡ with_locks d (d.locks ++ ls) (d.count.locks + length ls)
locks-added d [] = same-locks d d.locks (d.locks ++ []) d.count.locks (d.count.locks + 0) (sym (append-nil d.locks)) (omega arith)
locks-added d (l ∷ ls) =
    locks-added (add_lock d l) ls
    ∙ same-locks d ((d.locks ++ l ∷ []) ++ ls) (d.locks ++ l ∷ ls) (d.count.locks + 1 + length ls) (d.count.locks + length (l ∷ ls)) (append_assoc d.locks (l ∷ []) ls) (omega arith)

-- what phases leave as it is
abbrev pub declared_part : Draft → Draft
declared_part d = record no_draft { code = d.code; regions = d.regions; locks = d.locks; values = d.values; count = d.count }

module _ (rs : List Region) (locks : ℕ) where
  tasks-leave : (d : Draft) (ts : List TaskDecl) → declared_part (add_tasks_of rs locks d ts) ≡ declared_part d
  tasks-leave d [] = refl
  tasks-leave d (t ∷ ts) = tasks-leave (add_task_of rs locks d t) ts

  tasks-phase : (d : Draft) (ts : List TaskDecl) → (add_tasks_of rs locks d ts).phases ≡ d.phases
  tasks-phase d [] = refl
  tasks-phase d (t ∷ ts) = tasks-phase (add_task_of rs locks d t) ts

  tasks-started : (d : Draft) (ts : List TaskDecl) → (add_tasks_of rs locks d ts).tasks ≡ d.tasks ++ starts_of d.phases ts
  tasks-started d [] = sym (append-nil d.tasks)
  tasks-started d (t ∷ ts) = tasks-started (add_task_of rs locks d t) ts ∙ append_assoc d.tasks (start_of d.phases t ∷ []) (starts_of d.phases ts)

  tasks-claimed : (d : Draft) (ts : List TaskDecl) → (add_tasks_of rs locks d ts).claims ≡ d.claims ++ claims_of_tasks rs locks d.phases ts
  tasks-claimed d [] = sym (append-nil d.claims)
  tasks-claimed d (t ∷ ts) = tasks-claimed (add_task_of rs locks d t) ts ∙ append_assoc d.claims (task_claims rs d.phases t.core.0 t.effects locks) (claims_of_tasks rs locks d.phases ts)

  pub phases-leave : (d : Draft) (phs : List Phase) → declared_part (add_phases_of rs locks d phs) ≡ declared_part d
  phases-leave d [] = refl
  phases-leave d (ph ∷ phs) = phases-leave (add_tasks_of rs locks (add_phase d) ph.tasks) phs ∙ tasks-leave (add_phase d) ph.tasks

  pub phases-counted : (d : Draft) (phs : List Phase) → (add_phases_of rs locks d phs).phases ≡ d.phases + length phs
  phases-counted d [] = omega arith
  phases-counted d (ph ∷ phs) =
      let e = phases-counted (add_tasks_of rs locks (add_phase d) ph.tasks) phs in
      let f = tasks-phase (add_phase d) ph.tasks in
      omega arith

  pub phases-started : (d : Draft) (phs : List Phase) → (add_phases_of rs locks d phs).tasks ≡ d.tasks ++ starts_of_phases (d.phases + 1) phs
  phases-started d [] = sym (append-nil d.tasks)
  phases-started d (ph ∷ phs) =
      let next = add_tasks_of rs locks (add_phase d) ph.tasks in
      phases-started next phs
      ∙ ap (λ (ss : List Start). ss ++ starts_of_phases (next.phases + 1) phs) (tasks-started (add_phase d) ph.tasks)
      ∙ ap (λ (n : ℕ). (d.tasks ++ starts_of (d.phases + 1) ph.tasks) ++ starts_of_phases (n + 1) phs) (tasks-phase (add_phase d) ph.tasks)
      ∙ append_assoc d.tasks (starts_of (d.phases + 1) ph.tasks) (starts_of_phases (d.phases + 1 + 1) phs)

  pub phases-claimed : (d : Draft) (phs : List Phase) → (add_phases_of rs locks d phs).claims ≡ d.claims ++ claims_of_phases rs locks (d.phases + 1) phs
  phases-claimed d [] = sym (append-nil d.claims)
  phases-claimed d (ph ∷ phs) =
      let next = add_tasks_of rs locks (add_phase d) ph.tasks in
      phases-claimed next phs
      ∙ ap (λ (cs : List Claim). cs ++ claims_of_phases rs locks (next.phases + 1) phs) (tasks-claimed (add_phase d) ph.tasks)
      ∙ ap (λ (n : ℕ). (d.claims ++ claims_of_tasks rs locks (d.phases + 1) ph.tasks) ++ claims_of_phases rs locks (n + 1) phs) (tasks-phase (add_phase d) ph.tasks)
      ∙ append_assoc d.claims (claims_of_tasks rs locks (d.phases + 1) ph.tasks) (claims_of_phases rs locks (d.phases + 1 + 1) phs)

-- all phases are within the limits
pub phases-within : (v : Bool) (rs : List Region) (locks : ℕ) (d : Draft) (phs : List Phase) (q : ℕ) → q + length phs ≤ 64 → IsAt v d q (task_count phs) → IsWithin v (add_phases_of rs locks d phs)
phases-within v rs locks d [] q l h = h.within
phases-within v rs locks d (ph ∷ phs) q l h =
    phases-within v rs locks (add_tasks_of rs locks (add_phase d) ph.tasks) phs (q + 1) (omega arith)
    (at-tasks v rs locks (add_phase d) ph.tasks (q + 1) (task_count phs) (task_count (ph ∷ phs)) refl (at-phase v d q (task_count (ph ∷ phs)) (omega arith) h))

pub within-others : (v : Bool) (d : Draft) → IsWithin v d → other_limits v d ≡ false
within-others v d h =
    rw (le-ltb 65536 d.count.words h.words, le-ltb (most_regions v) (length d.regions) h.regions, le-ltb 32 (length d.locks) h.locks, le-ltb 64 d.phases h.phases, le-ltb 64 (length d.tasks) h.tasks)
    refl

pub tasks-counted : (phs : List Phase) → task_count phs ≡ length (tasks_of phs)
tasks-counted [] = refl
tasks-counted (ph ∷ phs) =
    let e = tasks-counted phs in
    let f = length-append ph.tasks (tasks_of phs) in
    omega arith

-- the program of a draft, part by part
pub program-parts : (d : Draft) (memory : List ℕ) (regions : List Region) (locks : List (List ℕ)) (phases : List Phase) → with_first_values (replicate d.count.words 0) d.values ≡ memory → d.regions ≡ regions → d.locks ≡ locks
    → map (phase_within d.count.words (length d.locks) d.claims d.tasks) (range_with_len 1 d.phases) ≡ phases
    → finished_program d ≡ record { code = d.code; memory = memory; regions = regions; locks = locks; phases = phases }
program-parts d memory regions locks phases e f g h =
    let all = map (phase_within d.count.words (length d.locks) d.claims d.tasks) (range_with_len 1 d.phases) in
    ap (λ (x : List ℕ). let q : ProgramParts = record { code = d.code; memory = x; regions = d.regions; locks = d.locks; phases = all } in q) e
    ∙ ap (λ (x : List Region). let q : ProgramParts = record { code = d.code; memory = memory; regions = x; locks = d.locks; phases = all } in q) f
    ∙ ap (λ (x : List (List ℕ)). let q : ProgramParts = record { code = d.code; memory = memory; regions = regions; locks = x; phases = all } in q) g
    ∙ ap (λ (x : List Phase). let q : ProgramParts = record { code = d.code; memory = memory; regions = regions; locks = locks; phases = x } in q) h

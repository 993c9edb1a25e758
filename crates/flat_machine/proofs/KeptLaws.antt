-- Induction over a run: what each beginning of a phase and each grant keeps holds of every state that a list of grants leads
-- to; and what each step keeps holds of all its tasks.
use Rattle.std.proofs.Common.{◌≡◌, ℕ, zero, suc, true, List, [], ◌∷◌, get_or, position, slice_get, Option, Some, None, refl, subst, arith}
use Rattle.std.specs.List.{All, IsAmong}
use Rattle.std.proofs.lemmas.List.Elements.{All-nil, All-cons, All-append, All-set}
use Rattle.std.proofs.lemmas.List.Quantifiers.{position-Some}
use Rattle.std.proofs.lemmas.Option.{none-some, same_Some, slice_get_within, get_or_from_slice_get}
use Rattle.dn_base.specs.declared.ids.Grant.{Grant}
use Rattle.region_table.specs.Program.{ProgramParts}
use Rattle.region_table.specs.declared.declared.TaskDecl.{TaskDecl}
use Rattle.region_table.specs.declared.declared.Phase.{Phase}
use Rattle.rv_core.specs.Step.{advanced}
use Rattle.flat_machine.specs.Step.{Started, At, fresh, in_state, flat_step, flat_steps, segment, WantsLock}
use Rattle.flat_machine.specs.Phases.{Flat, Ran, run_all, begin, settled, initial, initial_flat}
use Rattle.flat_machine.specs.Grants.{can_take, go_on, with_task, resumed, granted_at, granted, granted_if, grants_from, so_far}
use Rattle.flat_machine.proofs.GrantLemmas.{can_take-waits}
use Rattle.flat_machine.proofs.SettleLaws.{BeginKeeps, settled-kept}

-- what is kept where a phase begins, and where a task that can take a grant takes it and goes on
pub record RunKeeps (P : ProgramParts) (fuel : ℕ) (K : Flat → Type 0) : Type 0 where
  pub starts : K (initial P)
  pub begins : BeginKeeps P fuel K
  pub resumes : (F : Flat) (g : Grant) (i : ℕ) (r : Started) → slice_get F.tasks i ≡ Some r → can_take P fuel F.tasks g r ≡ true → K F → K (with_task F i (go_on P fuel r F.memory))

pub opened-kept : (P : ProgramParts) (fuel : ℕ) (K : Flat → Type 0) → RunKeeps P fuel K → K (initial_flat P fuel)
unfolding initial_flat
opened-kept P fuel K h = settled-kept P fuel K (initial P) h.begins h.starts

pub granted-kept : (P : ProgramParts) (fuel : ℕ) (K : Flat → Type 0) → RunKeeps P fuel K → (g : Grant) (F G : Flat) → K F → granted P fuel g F ≡ Some G → K G
unfolding granted
granted-kept P fuel K h g F G k e = by_place (position (can_take P fuel F.tasks g) F.tasks) refl e
  where
    taken : (i : ℕ) → position (can_take P fuel F.tasks g) F.tasks ≡ Some i → (o : Option Started) → slice_get F.tasks i ≡ o → K (resumed P fuel F i o)
    taken i at' None there = k
    taken i at' (Some r) there =
        let takes = (position-Some (can_take P fuel F.tasks g) F.tasks i r at').1 in
        let same : get_or F.tasks i r ≡ r = get_or_from_slice_get F.tasks i r r there in
        h.resumes F g i r there (subst (λ (x : Started). can_take P fuel F.tasks g x ≡ true) same takes) k

    by_place : (o : Option ℕ) → position (can_take P fuel F.tasks g) F.tasks ≡ o → granted_at P fuel F o ≡ Some G → K G
    by_place None at' e = absurd (none-some G e)
    by_place (Some i) at' e =
        let next : Flat = resumed P fuel F i (slice_get F.tasks i) in
        subst K (same_Some (settled P fuel next) G e) (settled-kept P fuel K next h.begins (taken i at' (slice_get F.tasks i) refl))

pub grants-kept : (P : ProgramParts) (fuel : ℕ) (K : Flat → Type 0) → RunKeeps P fuel K → (o : Option Flat) (gs : List Grant) → ((F : Flat) → o ≡ Some F → K F)
    → (G : Flat) → grants_from P fuel o gs ≡ Some G → K G
grants-kept P fuel K h o [] k G e = k G e
grants-kept P fuel K h o (g ∷ gs) k G e = grants-kept P fuel K h (granted_if P fuel o g) gs (one o k) G e
  where
    one : (p : Option Flat) → ((F : Flat) → p ≡ Some F → K F) → (G : Flat) → granted_if P fuel p g ≡ Some G → K G
    one None before G e = absurd (none-some G e)
    one (Some F) before G e = granted-kept P fuel K h g F G (before F refl) e

pub so_far-kept : (P : ProgramParts) (fuel : ℕ) (K : Flat → Type 0) → RunKeeps P fuel K → (gs : List Grant) (F : Flat) → so_far P fuel gs ≡ Some F → K F
so_far-kept P fuel K h gs F e =
    grants-kept P fuel K h (Some (initial_flat P fuel)) gs (λ G is. subst K (same_Some (initial_flat P fuel) G is) (opened-kept P fuel K h)) F e

-- ---- what each step keeps of a task and of the memory

-- the property Q of tasks and the property M of memories: fresh tasks of the program and its memory have them, and each
-- instruction, and each acquired lock, keeps them
pub record StepsKeep (P : ProgramParts) (fuel : ℕ) (Q : Started → Type 0) (M : List ℕ → Type 0) : Type 0 where
  pub memory : M P.memory
  pub starts : (k : ℕ) (p : Phase) (d : TaskDecl) → slice_get P.phases k ≡ Some p → IsAmong p.tasks d → Q (fresh k d)
  pub steps : (s : At) → Q s.task → M s.memory → Q (flat_step P fuel s).task × M (flat_step P fuel s).memory
  pub acquires : (r : Started) → WantsLock P fuel r → Q r → Q (in_state r (advanced P r.state))

pub record AllHave (Q : Started → Type 0) (M : List ℕ → Type 0) (F : Flat) : Type 0 where
  pub past : All Q F.past
  pub tasks : All Q F.tasks
  pub memory : M F.memory

steps-keep : (P : ProgramParts) (fuel : ℕ) (Q : Started → Type 0) (M : List ℕ → Type 0) → StepsKeep P fuel Q M → (n : ℕ) (s : At) → Q s.task → M s.memory
    → Q (flat_steps P fuel n s).task × M (flat_steps P fuel n s).memory
steps-keep P fuel Q M h zero s q m = (q, m)
steps-keep P fuel Q M h (suc n) s q m =
    let one = h.steps s q m in steps-keep P fuel Q M h n (flat_step P fuel s) one.0 one.1

pub segment-keeps : (P : ProgramParts) (fuel : ℕ) (Q : Started → Type 0) (M : List ℕ → Type 0) → StepsKeep P fuel Q M → (s : At) → Q s.task → M s.memory
    → Q (segment P fuel s).task × M (segment P fuel s).memory
unfolding segment
segment-keeps P fuel Q M h s q m = steps-keep P fuel Q M h (suc fuel) s q m

-- all tasks of a phase that begins have Q, and the memory that they leave has M
record RanHave (Q : Started → Type 0) (M : List ℕ → Type 0) (ran : Ran) : Type 0 where
  tasks : All Q ran.tasks
  memory : M ran.memory

run-all_keeps : (P : ProgramParts) (fuel : ℕ) (Q : Started → Type 0) (M : List ℕ → Type 0) → StepsKeep P fuel Q M → (phase : ℕ) (ds : List TaskDecl) (m : List ℕ)
    → ((d : TaskDecl) → IsAmong ds d → Q (fresh phase d)) → M m → RanHave Q M (run_all P fuel phase ds m)
run-all_keeps P fuel Q M h phase [] m start k = record { tasks = All-nil Q; memory = k }
run-all_keeps P fuel Q M h phase (d ∷ ds) m start k =
    let s : At = segment P fuel (record { task = fresh phase d; memory = m }) in
    let one = segment-keeps P fuel Q M h (record { task = fresh phase d; memory = m }) (start d (0, (omega arith, refl))) k in
    let rest = run-all_keeps P fuel Q M h phase ds s.memory (λ e among. start e (suc among.0, (let w = among.1.0 in omega arith, among.1.1))) one.1 in
    record { tasks = All-cons Q s.task (run_all P fuel phase ds s.memory).tasks one.0 rest.tasks; memory = rest.memory }

begin-keeps : (P : ProgramParts) (fuel : ℕ) (Q : Started → Type 0) (M : List ℕ → Type 0) → StepsKeep P fuel Q M → (p : Phase) (F : Flat) → slice_get P.phases F.begun ≡ Some p
    → AllHave Q M F → AllHave Q M (begin P fuel p F)
unfolding begin
begin-keeps P fuel Q M h p F there k =
    let ran = run-all_keeps P fuel Q M h F.begun p.tasks F.memory (λ d among. h.starts F.begun p d there among) k.memory in
    record { past = All-append Q F.past F.tasks k.past k.tasks; tasks = ran.tasks; memory = ran.memory }

-- what steps and grants keep holds of all tasks of a run, and of its memory
pub run-kept : (P : ProgramParts) (fuel : ℕ) (Q : Started → Type 0) (M : List ℕ → Type 0) → StepsKeep P fuel Q M → (gs : List Grant) (F : Flat) → so_far P fuel gs ≡ Some F → AllHave Q M F
run-kept P fuel Q M h gs F e =
    so_far-kept P fuel (AllHave Q M) (record {
      starts = record { past = All-nil Q; tasks = All-nil Q; memory = h.memory };
      begins = record { keeps = λ p F there done k. begin-keeps P fuel Q M h p F there k };
      resumes = λ F g i r there takes k.
          let waits = can_take-waits P fuel F.tasks g r takes in
          let is : get_or F.tasks i r ≡ r = get_or_from_slice_get F.tasks i r r there in
          let has : Q r = subst Q is (k.tasks i r (slice_get_within F.tasks i r there)) in
          let after = segment-keeps P fuel Q M h (record { task = in_state r (advanced P r.state); memory = F.memory }) (h.acquires r waits has) k.memory in
          record { past = k.past; tasks = All-set Q F.tasks i (go_on P fuel r F.memory).task after.0 k.tasks; memory = after.1 };
    }) gs F e

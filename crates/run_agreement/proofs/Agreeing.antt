-- What the flat machine's run tells of a world that leads to it: its loads, its words, and its end.
use Rattle.std.proofs.Common.{◌≡◌, ℕ, zero, suc, Bool, true, false, if◌then◌else◌, is_none, List, [], ◌∷◌, ◌++◌, slice_get, slice_index, Option, Some, None, refl, sym, ap, ◌∙◌, subst, ⊎_elim}
use Rattle.std.specs.Option.{option_or}
use Rattle.std.proofs.lemmas.Bool.{cases_eq}
use Rattle.std.proofs.lemmas.Option.{same_Some}
use Rattle.dn_base.specs.declared.ids.Grant.{Grant}
use Rattle.region_table.specs.Program.{ProgramParts}
use Rattle.region_table.specs.declared.declared.TaskDecl.{TaskDecl}
use Rattle.rv_core.specs.declared.need.Need.{Need}
use Rattle.rv_core.specs.declared.need.Need as need
use Rattle.flat_machine.specs.declared.ending.TaskLoads.{TaskLoads}
use Rattle.flat_machine.specs.Step.{Started, wish}
use Rattle.flat_machine.specs.Phases.{Flat, all_tasks, next_phase, settled}
use Rattle.flat_machine.specs.Grants.{grant_by, grant_of, first_grant, next_grant, grants_are_whole, so_far}
use Rattle.flat_machine.specs.Ending.{task_loads, flat_loads_of, flat_end_of, flat_end}
use Rattle.flat_machine.specs.Laws.{at_memory, EndsSegment, StandsLater, AreLater}
use Rattle.flat_machine.proofs.CauseLemmas.{whole-ends}
use Rattle.flat_machine.proofs.Frames.{segment-frame}
use Rattle.flat_machine.proofs.PhaseLemmas.{settled-still}
use Rattle.flat_machine.proofs.ReachedLaws.{are-more, settled-later}
use Rattle.flat_machine.proofs.Rights.{not-true, both-ways}
use Rattle.flat_machine.proofs.SegmentLaws.{later-itself, segment-later}
use Rattle.run_agreement.specs.Worlds.{AreFronts, stores, loads, segment_alone, LeadsTo, LeadsToRun, IsResting, IsStopped, AreStopped}
use Rattle.run_agreement.proofs.Places.{map-place, place-map}
use Rattle.run_agreement.proofs.Keeping.{AreSeparate}
use Rattle.run_agreement.proofs.Settled.{rest-same}

-- ---- loads

behind-later : (xs ts us : List Started) → ((i : ℕ) (r : Started) → slice_get ts i ≡ Some r → StandsLater us i r) → (i : ℕ) (r : Started) → slice_get (xs ++ ts) i ≡ Some r → StandsLater (xs ++ us) i r
behind-later [] ts us later i r at' = later i r at'
behind-later (x ∷ xs) ts us later zero r at' = record { task = r; there = at'; later = later-itself r }
behind-later (x ∷ xs) ts us later (suc i) r at' =
    let rest = behind-later xs ts us later i r at' in
    record { task = rest.task; there = rest.there; later = rest.later }

leads-later : (P : ProgramParts) (fuel : ℕ) (W F : Flat) → LeadsTo P fuel W F → AreLater W F
leads-later P fuel W F h i r at' =
    subst (λ (xs : List Started). StandsLater (xs ++ F.tasks) i r) h.past
    (behind-later W.past W.tasks F.tasks
    (λ j q there. record { task = (segment_alone P fuel W.memory q).task; there = h.tasks j q there; later = segment-later P fuel (at_memory q W.memory) })
    i r at')

-- each task of the world stands at its place in the run, later
pub run-later : (P : ProgramParts) (fuel : ℕ) (gs : List Grant) (W F : Flat) → LeadsToRun P fuel gs W → so_far P fuel gs ≡ Some F → AreLater W F
run-later P fuel gs W F h reached =
    let is : settled P fuel h.flat ≡ F = same_Some (settled P fuel h.flat) F (sym h.run ∙ reached) in
    subst (AreLater W) is (are-more W h.flat (settled P fuel h.flat) (leads-later P fuel W h.flat h.leads) (settled-later P fuel h.flat))

later-fronts : (W F : Flat) → AreLater W F → AreFronts (flat_loads_of W) (flat_loads_of F)
later-fronts W F h i x at' =
    let r = map-place task_loads (all_tasks W) i x at' in
    let now = h i r.0 r.1 in
    record {
      task = task_loads now.task;
      there = place-map task_loads (all_tasks F) i now.task now.there;
      phase = now.later.phase ∙ ap (λ (y : TaskLoads). y.phase) r.2;
      core = ap (λ (d : TaskDecl). d.core) now.later.decl ∙ ap (λ (y : TaskLoads). y.core) r.2;
      more = now.later.more;
      loads = now.later.loads ∙ ap (λ (y : TaskLoads). y.loads ++ now.later.more) r.2;
    }

-- the loads of each task so far are a front of its loads in the run
pub run-fronts : (P : ProgramParts) (fuel : ℕ) (gs : List Grant) (W F : Flat) → LeadsToRun P fuel gs W → so_far P fuel gs ≡ Some F → AreFronts (flat_loads_of W) (flat_loads_of F)
run-fronts P fuel gs W F h reached = later-fronts W F (run-later P fuel gs W F h reached)

-- ---- words

-- a word that a task may load comes to the value of F by that task alone
pub load-known : (P : ProgramParts) (fuel : ℕ) (W F : Flat) (i : ℕ) (r : Started) (w : ℕ) → AreSeparate W.tasks → slice_get W.tasks i ≡ Some r → loads r w ≡ true → LeadsTo P fuel W F
    → slice_index (segment_alone P fuel W.memory r).memory w ≡ slice_index F.memory w
load-known P fuel W F i r w apart there may h = by_right (stores r w) refl
  where
    by_right : (b : Bool) → stores r w ≡ b → slice_index (segment_alone P fuel W.memory r).memory w ≡ slice_index F.memory w
    by_right true e = h.stored i r w there e
    by_right false e =
        segment-frame P fuel (at_memory r W.memory) w e
        ∙ h.kept w (λ j q at'.
        ⊎_elim (λ (same : j ≡ i). let is : r ≡ q = same_Some r q (sym there ∙ ap (slice_get W.tasks) (sym same) ∙ at') in subst (λ (x : Started). stores x w ≡ false) is e)
        (λ (away : j ≡ i → ⊥). not-true (stores q w) (λ f. both-ways (loads r w) ((apart j i q r away at' there).out w f) may)) (cases_eq j i))

-- ---- the end

stopped-rest : (tasks : List Started) (o : Option Need) → IsStopped tasks o → EndsSegment o
stopped-rest tasks None k = tt
stopped-rest tasks (Some (need.TheVariants.Acquire lock)) k = tt
stopped-rest tasks (Some need.TheVariants.Local) k = absurd k
stopped-rest tasks (Some (need.TheVariants.Load word)) k = absurd k
stopped-rest tasks (Some (need.TheVariants.Store word whole)) k = absurd k
stopped-rest tasks (Some (need.TheVariants.Release lock)) k = absurd k
stopped-rest tasks (Some (need.TheVariants.End by)) k = absurd k

stopped-grant : (tasks : List Started) (r : Started) (o : Option Need) → IsStopped tasks o → grant_by tasks r o ≡ None
stopped-grant tasks r None k = refl
stopped-grant tasks r (Some (need.TheVariants.Acquire lock)) k =
    let choice : Bool → Option Grant = λ b. if b then Some (grant_of r lock) else None in ap choice k
stopped-grant tasks r (Some need.TheVariants.Local) k = absurd k
stopped-grant tasks r (Some (need.TheVariants.Load word)) k = absurd k
stopped-grant tasks r (Some (need.TheVariants.Store word whole)) k = absurd k
stopped-grant tasks r (Some (need.TheVariants.Release lock)) k = absurd k
stopped-grant tasks r (Some (need.TheVariants.End by)) k = absurd k

no-first : (P : ProgramParts) (fuel : ℕ) (tasks rs : List Started) → ((i : ℕ) (r : Started) → slice_get rs i ≡ Some r → IsStopped tasks (wish P fuel r)) → first_grant P fuel tasks rs ≡ None
no-first P fuel tasks [] stop = refl
no-first P fuel tasks (r ∷ rs) stop =
    ap (λ (o : Option Grant). option_or o (first_grant P fuel tasks rs)) (stopped-grant tasks r (wish P fuel r) (stop zero r refl))
    ∙ no-first P fuel tasks rs (λ i q at'. stop (suc i) q at')

pub stopped-whole : (P : ProgramParts) (fuel : ℕ) (W : Flat) → AreStopped P fuel W → grants_are_whole P fuel W ≡ true
unfolding next_grant
stopped-whole P fuel W stop = ap (λ (o : Option Grant). is_none o) (no-first P fuel W.tasks W.tasks stop)

-- a world in which nothing can go on is the state to which the grants lead
pub run-reaches : (P : ProgramParts) (fuel : ℕ) (gs : List Grant) (W : Flat) → LeadsToRun P fuel gs W → IsResting P fuel W → next_phase P W ≡ None → so_far P fuel gs ≡ Some W
run-reaches P fuel gs W h rest last =
    let same : W ≡ h.flat = rest-same P fuel W h.flat rest h.leads in
    h.run ∙ ap (λ (F : Flat). Some (settled P fuel F)) (sym same) ∙ ap Some (settled-still P fuel W last)

pub run-ends : (P : ProgramParts) (fuel : ℕ) (gs : List Grant) (W : Flat) → LeadsToRun P fuel gs W → AreStopped P fuel W → next_phase P W ≡ None → flat_end P fuel gs ≡ Some (flat_end_of P fuel W)
run-ends P fuel gs W h stop last =
    let rest : IsResting P fuel W = λ i r there. stopped-rest W.tasks (wish P fuel r) (stop i r there) in
    whole-ends P fuel gs W (run-reaches P fuel gs W h rest last) (stopped-whole P fuel W stop)

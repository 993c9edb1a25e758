-- A grant keeps that the world leads to the flat machine's run, by that grant too.
use Rattle.std.proofs.Common.{◌≡◌, ℕ, Bool, true, false, not, ◌<◌, List, [], ◌∷◌, ◌++◌, length, get_or, slice_get, Option, Some, sym, ap, ◌∙◌, subst, arith}
use Rattle.std.specs.List.{list_any}
use Rattle.std.proofs.lemmas.Bool.{false_from_ne_true}
use Rattle.std.proofs.lemmas.List.Folds.{list_any_none}
use Rattle.std.proofs.lemmas.Option.{same_Some, slice_get-get_or}
use Rattle.dn_base.specs.declared.ids.Grant.{Grant}
use Rattle.dn_base.specs.declared.ids.LockId.{LockId}
use Rattle.region_table.specs.Program.{ProgramParts}
use Rattle.rv_core.specs.declared.need.Need.TheVariants.{Acquire}
use Rattle.rv_core.specs.Access.{is_held}
use Rattle.effect_checker.specs.Checked.{IsChecked}
use Rattle.flat_machine.specs.Step.{Started, wish}
use Rattle.flat_machine.specs.Phases.{Flat, settled}
use Rattle.flat_machine.specs.Grants.{is_free, grant_of, go_on, with_task, granted, granted_if, so_far}
use Rattle.flat_machine.specs.Laws.{AreCoresRising, at_memory, EndsSegment}
use Rattle.flat_machine.proofs.ReachedLaws.{reached-order, grant-legal}
use Rattle.flat_machine.proofs.Rest.{wish-open}
use Rattle.flat_machine.proofs.RunLemmas.{grants-push}
use Rattle.flat_machine.proofs.SegmentLaws.{segment-still, segment-after}
use Rattle.flat_machine.proofs.SettleLaws.{settled-waits}
use Rattle.flat_machine.specs.Phases.{initial_flat}
use Rattle.run_agreement.specs.Worlds.{segment_alone, LeadsTo, LeadsToRun, past_acquire, world_after_grant, stepped}
use Rattle.run_agreement.proofs.Places.{get-cases}
use Rattle.run_agreement.proofs.Keeping.{step-kept, replace-kept}
use Rattle.run_agreement.proofs.Holding.{world-separate, world-step, world-grant, free-lacks}

-- ---- a step

pub run-step : (P : ProgramParts) (fuel : ℕ) (gs : List Grant) (W : Flat) (i : ℕ) (r : Started) → AreCoresRising P → IsChecked P → slice_get W.tasks i ≡ Some r → LeadsToRun P fuel gs W
    → LeadsToRun P fuel gs (stepped P fuel W i r)
run-step P fuel gs W i r is checked there h =
    record {
      world = world-step P fuel W i r there h.world;
      flat = h.flat;
      run = h.run;
      leads = step-kept P fuel W h.flat i r (world-separate P fuel W is checked h.world) there (h.world.within i r there) h.leads;
    }

-- ---- a grant

-- a lock that no task of the world holds is held by none of the state to which it leads
free-later : (P : ProgramParts) (fuel : ℕ) (W F : Flat) (lock : ℕ) → LeadsTo P fuel W F → is_free W.tasks lock ≡ true → is_free F.tasks lock ≡ true
free-later P fuel W F lock h free =
    let test : Started → Bool = λ r. is_held r.state.held lock in
    let none : list_any test F.tasks ≡ false =
    list_any_none test F.tasks
    (λ j d within.
    let inside : j < length W.tasks = omega (arith, h.count) in
    let old = get-cases W.tasks j inside in
    let q : Started = old.0 in
    let is : (segment_alone P fuel W.memory q).task ≡ get_or F.tasks j d = same_Some (segment_alone P fuel W.memory q).task (get_or F.tasks j d) (sym (h.tasks j q old.1) ∙ slice_get-get_or F.tasks j d within) in
    let lacks : test (segment_alone P fuel W.memory q).task ≡ false =
    false_from_ne_true (test (segment_alone P fuel W.memory q).task) (λ has. free-lacks W.tasks lock j q free old.1 ((segment-after P fuel (at_memory q W.memory)).less.among lock has)) in
    ap test (sym is) ∙ lacks) in
    ap not none

acquire-rest : (P : ProgramParts) (fuel : ℕ) (r : Started) (lock : LockId) → wish P fuel r ≡ Some (Acquire lock) → EndsSegment (wish P fuel r)
acquire-rest P fuel r lock wants = subst EndsSegment (sym wants) tt

pub run-grant : (P : ProgramParts) (fuel : ℕ) (gs : List Grant) (W : Flat) (i : ℕ) (r : Started) (lock : LockId) → AreCoresRising P → IsChecked P → slice_get W.tasks i ≡ Some r
    → wish P fuel r ≡ Some (Acquire lock) → is_free W.tasks lock.0 ≡ true → LeadsToRun P fuel gs W → LeadsToRun P fuel (gs ++ grant_of r lock ∷ []) (world_after_grant P W i r)
run-grant P fuel gs W i r lock is checked there wants free h =
    let F : Flat = h.flat in
    let rest = acquire-rest P fuel r lock wants in
    let there' : slice_get F.tasks i ≡ Some r = h.leads.tasks i r there ∙ ap (λ x. Some x.task) (segment-still P fuel (at_memory r W.memory) rest) in
    let stands : settled P fuel F ≡ F = settled-waits P fuel F i r there' (wish-open P fuel r (Acquire lock) wants) in
    let reached : so_far P fuel gs ≡ Some F = h.run ∙ ap Some stands in
    let next : Flat = with_task F i (go_on P fuel r F.memory) in
    let legal : granted P fuel (grant_of r lock) F ≡ Some (settled P fuel next) =
    grant-legal P fuel F i r lock (reached-order P fuel gs F is reached) there' wants (free-later P fuel W F lock.0 h.leads free) in
    let after = world-grant P fuel W i r lock there wants free h.world in
    record {
      world = after;
      flat = next;
      run = grants-push P fuel (Some (initial_flat P fuel)) gs (grant_of r lock) ∙ ap (λ (o : Option Flat). granted_if P fuel o (grant_of r lock)) reached ∙ legal;
      leads = replace-kept P fuel W F i r (past_acquire P r) (world-separate P fuel (world_after_grant P W i r) is checked after) there rest h.leads;
    }

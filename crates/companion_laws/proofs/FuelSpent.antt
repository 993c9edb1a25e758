-- In a run that is done, each task has fuel left until it ends.
use Rattle.std.proofs.Common.{◌≡◌, ℕ, zero, suc, ◌||◌, Bool, true, false, if◌then◌else◌, List, [], ◌∷◌, ◌++◌, map, get_or, position, slice_get, Option, Some, None, refl, sym, ap, ◌∙◌, subst, arith}
use Rattle.std.specs.List.{list_any, list_all}
use Rattle.std.proofs.lemmas.Bool.{true≢false}
use Rattle.std.proofs.lemmas.List.Folds.{list_all_at}
use Rattle.std.proofs.lemmas.List.Quantifiers.{position-Some}
use Rattle.std.proofs.lemmas.Option.{none-some, same_Some, slice_get_within, get_or_from_slice_get}
use Rattle.dn_base.specs.declared.ids.Grant.{Grant}
use Rattle.dn_base.specs.declared.status.Outcome as outcome
use Rattle.region_table.specs.Program.{ProgramParts}
use Rattle.region_table.specs.declared.declared.Phase.{Phase}
use Rattle.rv_core.specs.declared.task.End.{End}
use Rattle.rv_core.specs.declared.task.End as cause
use Rattle.rv_core.specs.declared.need.Need.{Need}
use Rattle.rv_core.specs.declared.need.Need as need
use Rattle.rv_core.specs.declared.ending.TaskEnd.{TaskEnd}
use Rattle.rv_core.specs.Ending.{is_waiting, is_trapped, is_spent, outcome_of}
use Rattle.rv_core.specs.Kinds.{EndsByFuel}
use Rattle.rv_core.specs.Need.{need_of}
use Rattle.rv_core.proofs.Completions.{stopped-end}
use Rattle.rv_core.proofs.Needs.{need-fuel}
use Rattle.flat_machine.specs.declared.ending.FlatEnd.{FlatEnd}
use Rattle.flat_machine.specs.Step.{Started, At, wish, wish_unless, step_by, flat_step, segment}
use Rattle.flat_machine.specs.Phases.{Flat, has_finished, finished_by, next_phase, settled, initial_flat}
use Rattle.flat_machine.specs.Grants.{grant_by, is_grant, can_take, go_on, resumed, granted_at, granted, grants_from, so_far}
use Rattle.flat_machine.specs.Ending.{shown_of, task_end, flat_ends_of, flat_end}
use Rattle.flat_machine.specs.Laws.{EndsSegment}
use Rattle.flat_machine.proofs.CauseLemmas.{run-ended}
use Rattle.flat_machine.proofs.GrantLemmas.{grants-none}
use Rattle.flat_machine.proofs.PhaseLemmas.{settled-still}
use Rattle.flat_machine.proofs.ReachedLaws.{grants-append}
use Rattle.flat_machine.proofs.Rest.{segment-step}
use Rattle.flat_machine.proofs.SegmentLaws.{segment-still}
use Rattle.run_agreement.proofs.Places.{set-other}

-- ---- on one memory

-- a task that has used its fuel up ends so
pub spent-segment : (P : ProgramParts) (fuel : ℕ) (s : At) → s.task.state.end ≡ None → s.task.state.retired ≡ fuel → (segment P fuel s).task.state.end ≡ Some cause.TheVariants.Fuel
spent-segment P fuel s going spent = ap (λ (x : At). x.task.state.end) (sym (segment-step P fuel s (λ e. omega (arith, spent))) ∙ segment-still P fuel (flat_step P fuel s) rest) ∙ ended
  where
    by_need : (x : Need) → EndsByFuel x → x ≡ need.TheVariants.End cause.TheVariants.Fuel
    by_need (need.TheVariants.End cause.TheVariants.Fuel) ends = refl
    by_need (need.TheVariants.End cause.TheVariants.Finished) ends = absurd ends
    by_need (need.TheVariants.End (cause.TheVariants.Trap kind pc value)) ends = absurd ends
    by_need need.TheVariants.Local ends = absurd ends
    by_need (need.TheVariants.Load word) ends = absurd ends
    by_need (need.TheVariants.Store word whole) ends = absurd ends
    by_need (need.TheVariants.Acquire lock) ends = absurd ends
    by_need (need.TheVariants.Release lock) ends = absurd ends

    wants : wish P fuel s.task ≡ Some (need.TheVariants.End cause.TheVariants.Fuel)
    wants = ap (wish_unless P fuel s.task) going ∙ ap (λ (x : Need). Some x) (by_need (need_of P s.task.decl fuel s.task.state) ((need-fuel P s.task.decl fuel s.task.state).1 spent))

    ended : (flat_step P fuel s).task.state.end ≡ Some cause.TheVariants.Fuel
    ended = ap (λ (o : Option Need). (step_by P s o).task.state.end) wants ∙ stopped-end cause.TheVariants.Fuel s.task.state

    rest : EndsSegment (wish P fuel (flat_step P fuel s).task)
    rest = subst EndsSegment (sym (ap (wish_unless P fuel (flat_step P fuel s).task) ended)) tt

-- the task at place i has run out of fuel: it stays so, and the run isn't done
module _ (P : ProgramParts) (fuel i : ℕ) (r : Started) (spent : r.state.end ≡ Some cause.TheVariants.Fuel) where
  no-next : (F : Flat) → slice_get F.tasks i ≡ Some r → next_phase P F ≡ None
  no-next F there =
      let fails : has_finished (get_or F.tasks i r) ≡ false = ap has_finished (get_or_from_slice_get F.tasks i r r there) ∙ ap finished_by spent in
      let some : list_all has_finished F.tasks ≡ false = list_all_at has_finished F.tasks i r (slice_get_within F.tasks i r there) fails in
      let choice : Bool → Option Phase = λ b. if b then slice_get P.phases F.begun else None in
      ap choice some

  pub settled-same : (F : Flat) → slice_get F.tasks i ≡ Some r → settled P fuel F ≡ F
  settled-same F there = settled-still P fuel F (no-next F there)

  takes-none : (tasks : List Started) (g : Grant) → can_take P fuel tasks g r ≡ false
  takes-none tasks g = ap (λ (o : Option Need). is_grant g (grant_by tasks r o)) (ap (wish_unless P fuel r) spent)

  granted-keeps : (F G : Flat) (g : Grant) → slice_get F.tasks i ≡ Some r → granted P fuel g F ≡ Some G → slice_get G.tasks i ≡ Some r
  unfolding granted
  granted-keeps F G g there e = by_place (position (can_take P fuel F.tasks g) F.tasks) refl e
    where
      by_task : (k : ℕ) → position (can_take P fuel F.tasks g) F.tasks ≡ Some k → (o : Option Started) → slice_get F.tasks k ≡ o → slice_get (resumed P fuel F k o).tasks i ≡ Some r
      by_task k at' None here = there
      by_task k at' (Some q) here = set-other F.tasks k i (go_on P fuel q F.memory).task apart ∙ there
        where
          apart : i ≡ k → ⊥
          apart same =
              let takes : can_take P fuel F.tasks g (get_or F.tasks k r) ≡ true = (position-Some (can_take P fuel F.tasks g) F.tasks k r at').1 in
              let is : get_or F.tasks k r ≡ r = ap (λ (x : ℕ). get_or F.tasks x r) (sym same) ∙ get_or_from_slice_get F.tasks i r r there in
              true≢false (sym takes ∙ ap (can_take P fuel F.tasks g) is ∙ takes-none F.tasks g)

      by_place : (o : Option ℕ) → position (can_take P fuel F.tasks g) F.tasks ≡ o → granted_at P fuel F o ≡ Some G → slice_get G.tasks i ≡ Some r
      by_place None at' e = absurd (none-some G e)
      by_place (Some k) at' e =
          let next : Flat = resumed P fuel F k (slice_get F.tasks k) in
          let stays : slice_get next.tasks i ≡ Some r = by_task k at' (slice_get F.tasks k) refl in
          let is : next ≡ G = sym (settled-same next stays) ∙ same_Some (settled P fuel next) G e in
          subst (λ (x : Flat). slice_get x.tasks i ≡ Some r) is stays

  grants-keep : (gs : List Grant) (F G : Flat) → slice_get F.tasks i ≡ Some r → grants_from P fuel (Some F) gs ≡ Some G → slice_get G.tasks i ≡ Some r
  grants-keep [] F G there e = subst (λ (x : Flat). slice_get x.tasks i ≡ Some r) (same_Some F G e) there
  grants-keep (g ∷ gs) F G there e = by_next (λ H here rest. grants-keep gs H G here rest) (granted P fuel g F) refl e
    where
      by_next : ((H : Flat) → slice_get H.tasks i ≡ Some r → grants_from P fuel (Some H) gs ≡ Some G → slice_get G.tasks i ≡ Some r) → (o : Option Flat) → granted P fuel g F ≡ o → grants_from P fuel o gs ≡ Some G
          → slice_get G.tasks i ≡ Some r
      by_next further None took e = absurd (none-some G (sym (grants-none P fuel gs) ∙ e))
      by_next further (Some H) took e = further H (granted-keeps F H g there took) e

  -- ---- how it is shown

  is-or : (a b : Bool) → b ≡ true → (a || b) ≡ true
  is-or true b e = refl
  is-or false b e = e

  shown-here : (test : TaskEnd → Bool) (tasks : List Started) (k : ℕ) → test (task_end P fuel r) ≡ true → slice_get tasks k ≡ Some r → list_any test (map (task_end P fuel) tasks) ≡ true
  shown-here test [] k passes there = absurd (none-some r there)
  shown-here test (x ∷ tasks) zero passes there =
      let first : test (task_end P fuel x) ≡ true = ap (λ (y : Started). test (task_end P fuel y)) (same_Some x r there) ∙ passes in
      ap (λ (b : Bool). b || list_any test (map (task_end P fuel) tasks)) first
  shown-here test (x ∷ tasks) (suc k) passes there = is-or (test (task_end P fuel x)) (list_any test (map (task_end P fuel) tasks)) (shown-here test tasks k passes there)

  shown-behind : (test : TaskEnd → Bool) (past tasks : List Started) → test (task_end P fuel r) ≡ true → slice_get tasks i ≡ Some r → list_any test (map (task_end P fuel) (past ++ tasks)) ≡ true
  shown-behind test [] tasks passes there = shown-here test tasks i passes there
  shown-behind test (x ∷ past) tasks passes there = is-or (test (task_end P fuel x)) (list_any test (map (task_end P fuel) (past ++ tasks))) (shown-behind test past tasks passes there)

  none-of-three : (a b c : Bool)
      → (if a then outcome.TheVariants.Stuck else if b then outcome.TheVariants.Trapped else if c then outcome.TheVariants.Fuel else outcome.TheVariants.Done) ≡ outcome.TheVariants.Done → c ≡ false
  none-of-three true b c e = absurd (cc)
  none-of-three false true c e = absurd (cc)
  none-of-three false false true e = absurd (cc)
  none-of-three false false false e = refl

  done-unspent : (ends : List TaskEnd) → outcome_of ends ≡ outcome.TheVariants.Done → list_any (λ (t : TaskEnd). is_spent t.end) ends ≡ false
  unfolding outcome_of
  done-unspent ends e =
      none-of-three (list_any (λ (t : TaskEnd). is_waiting t.end) ends) (list_any (λ (t : TaskEnd). is_trapped t.end) ends) (list_any (λ (t : TaskEnd). is_spent t.end) ends) e

  -- a run whose grants begin so isn't done
  pub not-done : (gs hs : List Grant) (F : Flat) (e : FlatEnd) → so_far P fuel gs ≡ Some F → slice_get F.tasks i ≡ Some r → flat_end P fuel (gs ++ hs) ≡ Some e → e.ending.outcome ≡ outcome.TheVariants.Done → ⊥
  not-done gs hs F e front there ends done =
      let last = run-ended P fuel (gs ++ hs) e ends in
      let on : grants_from P fuel (Some F) hs ≡ Some last.last =
      ap (λ (o : Option Flat). grants_from P fuel o hs) (sym front) ∙ sym (grants-append P fuel (Some (initial_flat P fuel)) gs hs) ∙ last.leads in
      let here : slice_get last.last.tasks i ≡ Some r = grants-keep hs F last.last there on in
      let shows : is_spent (task_end P fuel r).end ≡ true = ap (λ (o : Option End). is_spent (shown_of P fuel r o)) spent in
      let some : list_any (λ (t : TaskEnd). is_spent t.end) (flat_ends_of P fuel last.last) ≡ true = shown-behind (λ (t : TaskEnd). is_spent t.end) last.last.past last.last.tasks shows here in
      let none : list_any (λ (t : TaskEnd). is_spent t.end) (flat_ends_of P fuel last.last) ≡ false =
      done-unspent (flat_ends_of P fuel last.last) (ap outcome_of (sym last.tasks) ∙ sym last.outcome ∙ done) in
      true≢false (sym some ∙ none)

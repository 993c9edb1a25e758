-- An interleaving has the end of the flat machine's run by the locks that it takes.
use Rattle.std.proofs.Common.{◌≡◌, ℕ, Bool, true, false, if◌then◌else◌, List, [], ◌∷◌, ◌++◌, slice_get, Option, Some, None, refl, sym, ap, ◌∙◌, subst, append_assoc, append-nil}
use Rattle.std.proofs.lemmas.Option.{none-some, same_Some}
use Rattle.dn_base.specs.declared.ids.Grant.{Grant}
use Rattle.region_table.specs.Program.{ProgramParts}
use Rattle.region_table.specs.declared.declared.Phase.{Phase}
use Rattle.rv_core.specs.declared.need.Need.{Need}
use Rattle.rv_core.specs.declared.need.Need as need
use Rattle.effect_checker.specs.Checked.{IsChecked}
use Rattle.flat_machine.specs.declared.ending.FlatEnd.{FlatEnd}
use Rattle.flat_machine.specs.Step.{Started, wish}
use Rattle.flat_machine.specs.Phases.{Flat, next_phase, initial}
use Rattle.flat_machine.specs.Grants.{is_free, grant_of}
use Rattle.flat_machine.specs.Ending.{flat_end}
use Rattle.flat_machine.specs.Laws.{AreCoresRising}
use Rattle.run_agreement.specs.Worlds.{LeadsToRun, AreStopped, IsStopped, stepped, world_after_grant, with_phase}
use Rattle.run_agreement.specs.Interleaving.{Move, acts, begins, instruction, instruction_at, phase_begun, move_made, interleaved, lock_taken_by, lock_taken_at, locks_taken, all_locks_taken, HasNoMove, IsInterleaving}
use Rattle.run_agreement.proofs.Agreeing.{run-ends}
use Rattle.run_agreement.proofs.Beginning.{run-opens, run-begin}
use Rattle.run_agreement.proofs.Granting.{run-step, run-grant}

module _ (P : ProgramParts) (fuel : ℕ) (rising : AreCoresRising P) (checked : IsChecked P) where
  -- what leads to a run by some locks, with none more
  none-more : (gs : List Grant) (V : Flat) → LeadsToRun P fuel gs V → LeadsToRun P fuel (gs ++ []) V
  none-more gs V leads = subst (λ (hs : List Grant). LeadsToRun P fuel hs V) (sym (append-nil gs)) leads

  step-leads : (gs : List Grant) (W V : Flat) (i : ℕ) (r : Started) → slice_get W.tasks i ≡ Some r → LeadsToRun P fuel gs W → Some (stepped P fuel W i r) ≡ Some V → LeadsToRun P fuel (gs ++ []) V
  step-leads gs W V i r there leads is =
      none-more gs V (subst (LeadsToRun P fuel gs) (same_Some (stepped P fuel W i r) V is) (run-step P fuel gs W i r rising checked there leads))

  -- an instruction that is possible
  instruction-leads : (gs : List Grant) (W V : Flat) (i : ℕ) (r : Started) (n : Option Need) → slice_get W.tasks i ≡ Some r → wish P fuel r ≡ n → LeadsToRun P fuel gs W
      → instruction P fuel W i r n ≡ Some V → LeadsToRun P fuel (gs ++ lock_taken_by r n) V
  instruction-leads gs W V i r None there wants leads is = absurd (none-some V is)
  instruction-leads gs W V i r (Some (need.TheVariants.Acquire lock)) there wants leads is = by_free (is_free W.tasks lock.0) refl is where
    by_free : (b : Bool) → is_free W.tasks lock.0 ≡ b → (if b then Some (world_after_grant P W i r) else None) ≡ Some V → LeadsToRun P fuel (gs ++ grant_of r lock ∷ []) V
    by_free true free is =
        subst (LeadsToRun P fuel (gs ++ grant_of r lock ∷ [])) (same_Some (world_after_grant P W i r) V is) (run-grant P fuel gs W i r lock rising checked there wants free leads)
    by_free false free is = absurd (none-some V is)
  instruction-leads gs W V i r (Some need.TheVariants.Local) there wants leads is = step-leads gs W V i r there leads is
  instruction-leads gs W V i r (Some (need.TheVariants.Load word)) there wants leads is = step-leads gs W V i r there leads is
  instruction-leads gs W V i r (Some (need.TheVariants.Store word whole)) there wants leads is = step-leads gs W V i r there leads is
  instruction-leads gs W V i r (Some (need.TheVariants.Release lock)) there wants leads is = step-leads gs W V i r there leads is
  instruction-leads gs W V i r (Some (need.TheVariants.End cause)) there wants leads is = step-leads gs W V i r there leads is

  -- a move that is possible
  move-leads : (gs : List Grant) (W V : Flat) (m : Move) → LeadsToRun P fuel gs W → move_made P fuel W m ≡ Some V → LeadsToRun P fuel (gs ++ locks_taken P fuel W m) V
  move-leads gs W V (acts i) leads is = by_task (slice_get W.tasks i) refl is where
    by_task : (o : Option Started) → slice_get W.tasks i ≡ o → instruction_at P fuel W i o ≡ Some V → LeadsToRun P fuel (gs ++ lock_taken_at P fuel o) V
    by_task None there is = absurd (none-some V is)
    by_task (Some r) there is = instruction-leads gs W V i r (wish P fuel r) there refl leads is
  move-leads gs W V begins leads is = by_phase (next_phase P W) refl is where
    by_phase : (o : Option Phase) → next_phase P W ≡ o → phase_begun W o ≡ Some V → LeadsToRun P fuel (gs ++ []) V
    by_phase None next is = absurd (none-some V is)
    by_phase (Some p) next is = none-more gs V (subst (LeadsToRun P fuel gs) (same_Some (with_phase W p) V is) (run-begin P fuel gs W p rising checked next leads))

  none-leads : (ms : List Move) (V : Flat) → interleaved P fuel None ms ≡ Some V → ⊥
  none-leads [] V is = none-some V is
  none-leads (m ∷ ms) V is = none-leads ms V is

  moves-lead : (ms : List Move) (gs : List Grant) (W V : Flat) → LeadsToRun P fuel gs W → interleaved P fuel (Some W) ms ≡ Some V → LeadsToRun P fuel (gs ++ all_locks_taken P fuel (Some W) ms) V
  moves-lead [] gs W V leads is = none-more gs V (subst (LeadsToRun P fuel gs) (same_Some W V is) leads)
  moves-lead (m ∷ ms) gs W V leads is = by_next (λ U came rest. moves-lead ms (gs ++ locks_taken P fuel W m) U V (move-leads gs W U m leads came) rest) (move_made P fuel W m) refl is where
    by_next : ((U : Flat) → move_made P fuel W m ≡ Some U → interleaved P fuel (Some U) ms ≡ Some V → LeadsToRun P fuel ((gs ++ locks_taken P fuel W m) ++ all_locks_taken P fuel (Some U) ms) V)
        → (o : Option Flat) → move_made P fuel W m ≡ o → interleaved P fuel o ms ≡ Some V → LeadsToRun P fuel (gs ++ (locks_taken P fuel W m ++ all_locks_taken P fuel o ms)) V
    by_next on None came is = absurd (none-leads ms V is)
    by_next on (Some U) came is =
        subst (λ (hs : List Grant). LeadsToRun P fuel hs V) (append_assoc gs (locks_taken P fuel W m) (all_locks_taken P fuel (Some U) ms)) (on U came is)

  -- where no move is possible all tasks are stopped, and no phase begins
  stopped-by : (W : Flat) (i : ℕ) (r : Started) (n : Option Need) → instruction P fuel W i r n ≡ None → IsStopped W.tasks n
  stopped-by W i r None over = tt
  stopped-by W i r (Some (need.TheVariants.Acquire lock)) over = by_free (is_free W.tasks lock.0) refl over where
    by_free : (b : Bool) → is_free W.tasks lock.0 ≡ b → (if b then Some (world_after_grant P W i r) else None) ≡ None → is_free W.tasks lock.0 ≡ false
    by_free true free over = absurd (none-some (world_after_grant P W i r) (sym over))
    by_free false free over = free
  stopped-by W i r (Some need.TheVariants.Local) over = absurd (none-some (stepped P fuel W i r) (sym over))
  stopped-by W i r (Some (need.TheVariants.Load word)) over = absurd (none-some (stepped P fuel W i r) (sym over))
  stopped-by W i r (Some (need.TheVariants.Store word whole)) over = absurd (none-some (stepped P fuel W i r) (sym over))
  stopped-by W i r (Some (need.TheVariants.Release lock)) over = absurd (none-some (stepped P fuel W i r) (sym over))
  stopped-by W i r (Some (need.TheVariants.End cause)) over = absurd (none-some (stepped P fuel W i r) (sym over))

  all-stopped : (W : Flat) → HasNoMove P fuel W → AreStopped P fuel W
  all-stopped W over i r there = stopped-by W i r (wish P fuel r) (ap (instruction_at P fuel W i) (sym there) ∙ over (acts i))

  no-phase : (W : Flat) → HasNoMove P fuel W → next_phase P W ≡ None
  no-phase W over = by_phase (next_phase P W) refl (over begins) where
    by_phase : (o : Option Phase) → next_phase P W ≡ o → phase_begun W o ≡ None → next_phase P W ≡ None
    by_phase None next is = next
    by_phase (Some p) next is = absurd (none-some (with_phase W p) (sym is))

  pub interleaving-ends : (gs : List Grant) (e : FlatEnd) → IsInterleaving P fuel gs e → flat_end P fuel gs ≡ Some e
  interleaving-ends gs e h =
      let leads : LeadsToRun P fuel (all_locks_taken P fuel (Some (initial P)) h.moves) h.last = moves-lead h.moves [] (initial P) h.last (run-opens P fuel) h.leads in
      ap (flat_end P fuel) (sym h.locks) ∙ run-ends P fuel (all_locks_taken P fuel (Some (initial P)) h.moves) h.last leads (all-stopped h.last h.over) (no-phase h.last h.over)
      ∙ ap (λ (x : FlatEnd). Some x) h.shows

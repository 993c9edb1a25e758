-- A run that has a value has its cause.
use Rattle.std.proofs.Common.{◌≡◌, ℕ, zero, suc, Bool, true, false, List, [], ◌∷◌, ◌++◌, slice_get, Option, Some, None, refl, ap, ◌∙◌, if◌then◌else◌}
use Rattle.std.specs.List.{All}
use Rattle.std.proofs.lemmas.List.Elements.{All-head, All-tail}
use Rattle.dn_base.specs.declared.ids.Grant.{Grant}
use Rattle.region_table.specs.Program.{ProgramParts}
use Rattle.flat_machine.specs.declared.ending.FlatEnd.{FlatEnd}
use Rattle.flat_machine.specs.Step.{Started}
use Rattle.flat_machine.specs.Phases.{Flat, finished_by, has_finished}
use Rattle.flat_machine.specs.Grants.{so_far, grants_are_whole}
use Rattle.flat_machine.specs.Ending.{flat_end, whole_only, flat_end_of}
use Rattle.flat_machine.proofs.CauseLemmas.{run-out_of_fuel, run-held_up, run-past, run-stuck}
use Rattle.checked_runs.specs.Causes.{IsCaused}

-- a run with a value has reached a state after which no grant is left
record HasReached (P : ProgramParts) (fuel : ℕ) (gs : List Grant) : Type 0 where
  machine : Flat
  reached : so_far P fuel gs ≡ Some machine
  whole : grants_are_whole P fuel machine ≡ true

reached_if : (P : ProgramParts) (fuel : ℕ) (gs : List Grant) (F : Flat) (e : FlatEnd) (b : Bool) → so_far P fuel gs ≡ Some F → grants_are_whole P fuel F ≡ b
    → (if b then Some (flat_end_of P fuel F) else None) ≡ Some e → HasReached P fuel gs
reached_if P fuel gs F e true there whole is = record { machine = F; reached = there; whole = whole }
reached_if P fuel gs F e false there whole is = cc

reached_by : (P : ProgramParts) (fuel : ℕ) (gs : List Grant) (o : Option Flat) (e : FlatEnd) → so_far P fuel gs ≡ o → whole_only P fuel o ≡ Some e → HasReached P fuel gs
reached_by P fuel gs None e there is = cc
reached_by P fuel gs (Some F) e there is = reached_if P fuel gs F e (grants_are_whole P fuel F) there refl is

reached_state : (P : ProgramParts) (fuel : ℕ) (gs : List Grant) (e : FlatEnd) → flat_end P fuel gs ≡ Some e → HasReached P fuel gs
unfolding flat_end
reached_state P fuel gs e is = reached_by P fuel gs (so_far P fuel gs) e refl is

-- the place of a task among the last ones
record HasPlace (tasks : List Started) (r : Started) : Type 0 where
  place : ℕ
  there : slice_get tasks place ≡ Some r

abbrev Done : Started → Type 0
Done r = has_finished r ≡ true

-- a started task that hasn't ended isn't one of the phases before the last, whose tasks have finished
open-place : (past tasks : List Started) (i : ℕ) (r : Started) → All Done past → slice_get (past ++ tasks) i ≡ Some r → r.state.end ≡ None
    → HasPlace tasks r
open-place [] tasks i r done there open' = record { place = i; there = there }
open-place (p ∷ past) tasks zero r done there open' =
    let first : has_finished p ≡ true = All-head Done p past done in
    let same : p ≡ r = cc in
    let ended : has_finished p ≡ finished_by None = ap has_finished same ∙ ap finished_by open' in
    absurd cc
open-place (p ∷ past) tasks (suc i) r done there open' = open-place past tasks i r (All-tail Done p past done) there open'

pub caused : (P : ProgramParts) (fuel : ℕ) (gs : List Grant) (e : FlatEnd) → flat_end P fuel gs ≡ Some e → IsCaused P fuel gs e.ending
caused P fuel gs e is =
    let last = reached_state P fuel gs e is in
    record {
      spent = run-out_of_fuel P fuel gs e is;
      machine = last.machine;
      reached = last.reached;
      held_up = λ i r there open'.
          let at' = open-place last.machine.past last.machine.tasks i r (run-past P fuel gs last.machine last.reached) there open' in
          record { place = at'.place; there = at'.there; held_up = run-held_up P fuel gs last.machine last.reached last.whole at'.place r at'.there open' };
      stuck = run-stuck P fuel gs e is;
    }

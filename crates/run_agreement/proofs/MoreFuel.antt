-- Where a run of the machine is done, every run by its grants ends alike, with as much fuel or more.
use Rattle.std.proofs.Common.{◌≡◌, ◌≤◌, List, Some, sym, ap, subst, ◌∙◌}
use Rattle.std.proofs.lemmas.Option.{same_Some}
use Rattle.dn_base.specs.declared.ids.Grant.{Grant}
use Rattle.dn_base.specs.declared.status.Outcome as outcome
use Rattle.region_table.specs.Program.{ProgramParts}
use Rattle.rv_core.specs.declared.ending.Ending.{Ending}
use Rattle.flat_machine.specs.declared.ending.FlatEnd.{FlatEnd}
use Rattle.flat_machine.specs.Ending.{flat_end}
use Rattle.flat_machine.proofs.MoreFuel.{done-same}
use Rattle.message_net.specs.declared.event.Event.{Event}
use Rattle.registration_protocol.specs.Node.{Setting}
use Rattle.machine_rules.specs.State.{initial_state}
use Rattle.machine_rules.specs.Runs.{IsCompleteRun, grants_of, all_loads, ending_of_run}
use Rattle.machine_rules.specs.Sound.{IsWellFormed}
use Rattle.run_agreement.specs.Ends.{HasFlatEnd}
use Rattle.run_agreement.proofs.EndAgrees.{well-ends}

-- the flat machine's runs by the grants of both have one end
same-end : (C D : Setting) (events others : List Event) → C.fuel ≤ D.fuel → D.program ≡ C.program → (h : HasFlatEnd C events) (k : HasFlatEnd D others)
    → grants_of (initial_state D) others ≡ grants_of (initial_state C) events → (ending_of_run (initial_state C) events).outcome ≡ outcome.TheVariants.Done → k.end' ≡ h.end'
same-end C D events others more program h k grants done =
    let first = done-same C.program C.fuel D.fuel (grants_of (initial_state C) events) h.end' more h.run (ap (λ (x : Ending). x.outcome) h.ending ∙ done) in
    let by_grants : flat_end D.program D.fuel (grants_of (initial_state C) events) ≡ Some k.end' = subst (λ (gs : List Grant). flat_end D.program D.fuel gs ≡ Some k.end') grants k.run in
    let second : flat_end C.program D.fuel (grants_of (initial_state C) events) ≡ Some k.end' = subst (λ (P : ProgramParts). flat_end P D.fuel (grants_of (initial_state C) events) ≡ Some k.end') program by_grants in
    same_Some k.end' h.end' (sym second ∙ first)

pub ending-same : (C D : Setting) (events others : List Event) → IsWellFormed C → IsWellFormed D → D.program ≡ C.program → C.fuel ≤ D.fuel → IsCompleteRun (initial_state C) events → IsCompleteRun (initial_state D) others
    → grants_of (initial_state D) others ≡ grants_of (initial_state C) events → (ending_of_run (initial_state C) events).outcome ≡ outcome.TheVariants.Done
    → ending_of_run (initial_state D) others ≡ ending_of_run (initial_state C) events
ending-same C D events others one two program more first second grants done =
    let h = well-ends C events one first in
    let k = well-ends D others two second in
    sym k.ending ∙ (ap (λ (x : FlatEnd). x.ending) (same-end C D events others more program h k grants done) ∙ h.ending)

pub loads-same : (C D : Setting) (events others : List Event) → IsWellFormed C → IsWellFormed D → D.program ≡ C.program → C.fuel ≤ D.fuel → IsCompleteRun (initial_state C) events → IsCompleteRun (initial_state D) others
    → grants_of (initial_state D) others ≡ grants_of (initial_state C) events → (ending_of_run (initial_state C) events).outcome ≡ outcome.TheVariants.Done
    → all_loads (initial_state D) others ≡ all_loads (initial_state C) events
loads-same C D events others one two program more first second grants done =
    let h = well-ends C events one first in
    let k = well-ends D others two second in
    sym k.loads ∙ (ap (λ (x : FlatEnd). x.loads) (same-end C D events others more program h k grants done) ∙ h.loads)

-- The multicore machine's runs have the holders of the flat machine's by their grants.
use Rattle.std.proofs.Common.{◌≡◌, ℕ, sym, subst}
use Rattle.std.specs.List.{IsAmong}
use Rattle.dn_base.specs.declared.ids.LockId.{LockId}
use Rattle.dn_base.specs.declared.ids.Shape.{Shape}
use Rattle.region_table.specs.Program.{ProgramParts, IsProgram}
use Rattle.rv_core.specs.declared.ending.EndShown as shown
use Rattle.rv_core.specs.declared.ending.Ending.{Ending}
use Rattle.rv_core.specs.declared.ending.TaskEnd.{TaskEnd}
use Rattle.dn_machine.specs.declared.record.RunRecord.{RunRecord}
use Rattle.checked_runs.specs.Runs.{IsRunOf}
use Rattle.companion_laws.specs.Holding.{HasHolder}
use Rattle.companion_laws.proofs.Runs.{flat-value}
use Rattle.companion_laws.proofs.Holders.{waits-for_holder}

pub run-holder : (P : ProgramParts) (machine : Shape) (fuel : ℕ) (r : RunRecord) (t : TaskEnd) (lock : LockId) → IsProgram P → IsRunOf P machine fuel r
    → IsAmong r.ending.tasks t → t.end ≡ shown.TheVariants.Waits lock → HasHolder P fuel r.grants t.phase.0 lock.0
run-holder P machine fuel r t lock program is among waits =
    waits-for_holder P program fuel r.grants is.flat.end' (flat-value P machine fuel r is) t lock
    (subst (λ (x : Ending). IsAmong x.tasks t) (sym is.flat.ending) among) waits

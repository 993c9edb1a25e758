use Rattle.std.proofs.Common.{◌≡◌, ℕ, ◌<◌, List, length, get_or, sym, arith}
use Rattle.std.specs.List.{All}
use Rattle.region_table.specs.declared.declared.Phase.{Phase}
use Rattle.region_table.specs.declared.declared.TaskDecl.{TaskDecl}
use Rattle.region_table.specs.Program.{ProgramParts, IsProgram, tasks_of}
use Rattle.region_table.proofs.ProgramLemmas.{cores-some, cores-within, cores_more, cores-below, phase-at}
use Rattle.region_table.proofs.program.Program.cores.Goals as goal

pub loop-phase-init : goal.loop-phase-init
loop-phase-init c =
    let some = cores-some (tasks_of c.as_slice-phase-items.result.now) in
    record { some = omega arith; within = omega arith; left = omega arith }

-- the tasks of the phase at hand are on cores below 16
tasks-below : (program : ProgramParts) (phases : List Phase) (tasks : List TaskDecl) (k : ℕ) (p : Phase) → IsProgram program → phases ≡ program.phases → tasks ≡ p.tasks
    → k < length phases → p ≡ get_or phases k p → All (λ (t : TaskDecl). t.core.0 < 16) tasks
tasks-below program phases tasks k p h all own l e =
    rw own (cores-below (length program.memory) (length program.locks) p (phase-at program k p h (rw all at l) (rw all at e)))

pub cores_with-most-requires-clause-cores : goal.cores_with-most-requires-clause-cores
cores_with-most-requires-clause-cores c =
    tasks-below _ c.as_slice-phase-items.result.now c.as_slice.result.now c.loop-phase.phase-index c.phase-item.result c.self.invariant c.as_slice-phase-items.ensures c.as_slice.ensures
    c.loop-phase-test.true c.phase-item.is

pub loop-phase-preserved : goal.loop-phase-preserved
loop-phase-preserved c =
    let below = tasks-below _ c.as_slice-phase-items.result.now c.as_slice.result.now c.loop-phase.phase-index c.phase-item.result c.self.invariant c.as_slice-phase-items.ensures c.as_slice.ensures
    c.loop-phase-test.true c.phase-item.is in
    let within = cores-within c.as_slice.result.now below in
    let more = rw (sym c.as_slice.ensures) at (cores_more c.as_slice-phase-items.result.now c.loop-phase.phase-index c.phase-item.result c.loop-phase-test.true c.phase-item.is) in
    let result = c.cores_with-most.ensures in
    let so_far = c.loop-phase.invariant in
    record { some = omega arith; within = omega arith; left = omega arith }

use Rattle.std.proofs.Common.{◌≡◌, ℕ, ◌<◌, List, length, get_or}
use Rattle.region_table.specs.declared.declared.Phase.{Phase}
use Rattle.region_table.specs.Program.{ProgramParts, IsProgram, IsPhase}
use Rattle.region_table.proofs.ProgramLemmas.{phase-at}
use Rattle.effect_checker.specs.Least.{AreRising, HaveLocks}
use Rattle.effect_checker.specs.Takers.{UseWordsBelow}
use Rattle.effect_checker.proofs.FaultLemmas.{phase-locks}
use Rattle.effect_checker.proofs.TakerLemmas.{phase-words}
use Rattle.effect_checker.proofs.checking.first_fault.Goals as goal

-- the phase at hand is well formed
well_formed : (program : ProgramParts) (phases : List Phase) (k : ℕ) (p : Phase) → IsProgram program → phases ≡ program.phases → k < length phases → p ≡ get_or phases k p
    → IsPhase (length program.memory) (length program.locks) p
well_formed program phases k p h all l e = phase-at program k p h (rw all at l) (rw all at e)

pub phase_fault-requires-clause-rising : goal.phase_fault-requires-clause-rising
phase_fault-requires-clause-rising c =
    let phase = well_formed _ c.as_slice-phase-items.result.now c.loop-number.number c.phase-item.result c.program.invariant c.as_slice-phase-items.ensures c.loop-number-test.true c.phase-item.is in
    let rising : AreRising c.as_slice.result.now = rw c.as_slice.ensures phase.rising in
    rising

pub phase_fault-requires-clause-locks : goal.phase_fault-requires-clause-locks
phase_fault-requires-clause-locks c =
    let phase = well_formed _ c.as_slice-phase-items.result.now c.loop-number.number c.phase-item.result c.program.invariant c.as_slice-phase-items.ensures c.loop-number-test.true c.phase-item.is in
    let locks : HaveLocks c.len-locks.result c.as_slice.result.now = rw (c.as_slice.ensures, c.len-locks.ensures) (phase-locks _ _ c.phase-item.result phase) in
    locks

pub phase_fault-requires-clause-words : goal.phase_fault-requires-clause-words
phase_fault-requires-clause-words c =
    let phase = well_formed _ c.as_slice-phase-items.result.now c.loop-number.number c.phase-item.result c.program.invariant c.as_slice-phase-items.ensures c.loop-number-test.true c.phase-item.is in
    let words : UseWordsBelow 65536 c.as_slice.result.now = rw c.as_slice.ensures (phase-words _ _ c.phase-item.result c.program.invariant.memory phase) in
    words

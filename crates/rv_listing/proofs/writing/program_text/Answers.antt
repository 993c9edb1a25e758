use Rattle.std.proofs.Common.{length}
use Rattle.rv_listing.proofs.writing.program_text.Goals as goal

pub push_phases-requires-clause-phases : goal.push_phases-requires-clause-phases
push_phases-requires-clause-phases c =
    rw (c.as_slice-2.ensures, c.as_slice-locks.ensures) (length c.program.inside.memory, c.program.invariant.each_phase)

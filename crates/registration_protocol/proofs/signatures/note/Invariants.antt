use Rattle.std.proofs.Common.{◌≡◌, ◌++◌, drop, take, length}
use Rattle.registration_protocol.specs.OwnEvents.{noted}
use Rattle.registration_protocol.proofs.signatures.note.Given as goal

-- what is left to note leads to what all of it comes to, and there are as many signatures as before
abbrev pub invariant-loop-lock : goal.invariant-loop-lock
invariant-loop-lock l =
    (length l.signatures ≡ length l.fn.signatures)
    × (take l.lock l.signatures ++ noted l.task l.held l.word.0 l.phase.0 l.lock (drop l.lock l.signatures) ≡ noted l.task l.held l.word.0 l.phase.0 0 l.fn.signatures)

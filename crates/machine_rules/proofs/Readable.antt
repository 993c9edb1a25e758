-- What is kept says that a state is coherent.
use Rattle.std.proofs.Common.{ℕ}
use Rattle.machine_rules.specs.State.{State}
use Rattle.machine_rules.specs.Coherent.{Coherent}
use Rattle.machine_rules.proofs.Invariant.{Invariant}
use Rattle.machine_rules.proofs.ReadableWords.{registrants, pending, leaving}
use Rattle.machine_rules.proofs.ReadablePhases.{phases}
use Rattle.machine_rules.proofs.ReadableReads.{reads}
use Rattle.machine_rules.proofs.ReadableLocks.{locks}
use Rattle.machine_rules.proofs.ReadableMails.{mails}
use Rattle.machine_rules.proofs.ReadableCopies.{copies}

pub coherent : (S : State) (M : ℕ → ℕ) → Invariant S M → Coherent S
coherent S M inv =
    record {
      phases = phases S inv.phases;
      locks = locks S M inv;
      registrants = registrants S inv.words;
      pending = pending S inv.words;
      leaving = leaving S inv.words;
      reads = reads S M inv;
      expected = mails S M inv;
      copies = copies S M inv;
    }

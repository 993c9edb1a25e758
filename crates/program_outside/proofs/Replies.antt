-- What was made was written as a reply.
use Rattle.std.proofs.Common.{inl, inr, Result, Ok, Err, IfOk}
use Rattle.dn_base.specs.declared.failure.Memory.{Memory}
use Rattle.program_outside.specs.declared.ends.Failure.{Failure}
use Rattle.program_outside.specs.declared.ends.Output.{Output}
use Rattle.program_outside.specs.Outside.{SinkState}
use Rattle.program_outside.specs.Serving.{IsMade, IsReplied}

pub replied : {E : Type 0} (told : Failure → E) (made : Result (Output E) Memory) (IsAnswer : Output E → Type 0) (before after : SinkState) (status : E) → IfOk made IsAnswer
    → IsMade told made before after status → IsReplied told IsAnswer before after status
replied told (Ok out) IsAnswer before after status is written = inl (record { output = out; answer = is; written = written })
replied told (Err memory) IsAnswer before after status is starved = inr starved

use Rattle.std.proofs.Common.{subst, MatchOption}
use Rattle.std.specs.Prelude.{Option}
use Rattle.run_replay.specs.declared.trace.Trace.{Trace}
use Rattle.run_replay.specs.declared.trace.TraceFault.{TraceFault}
use Rattle.run_replay.specs.Document.{IsDocument}
use Rattle.run_replay.specs.Faults.{HasFault}
use Rattle.explained_answer.proofs.Heads.{whole-taken, fault-taken}
use Rattle.explained_answer.proofs.trace.taken_by_events.Goals as goal

pub returns-in-None : goal.returns-in-None
returns-in-None c =
    let answer = c.args.answer.now in
    let is = subst (λ (o : Option TraceFault). MatchOption o ((t : Trace) × IsDocument answer t) (HasFault answer)) c.in-None.is c.in_ok-found.ensures in
    whole-taken c.args.text.now answer c.args.count c.requires.head is.0 is.1

pub returns-in-Some : goal.returns-in-Some
returns-in-Some c =
    let answer = c.args.answer.now in
    let is = subst (λ (o : Option TraceFault). MatchOption o ((t : Trace) × IsDocument answer t) (HasFault answer)) c.in-Some.is c.in_ok-found.ensures in
    let taken = fault-taken c.args.text.now answer c.args.count c.requires.head c.args.line c.in-Some.fault c.requires.line is in
    rw c.taken_by.ensures taken

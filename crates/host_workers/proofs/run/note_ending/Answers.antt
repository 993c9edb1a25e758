use Rattle.std.proofs.Common.{ap, arith}
use Rattle.dn_machine.specs.declared.log.Log.{Log}
use Rattle.std.proofs.lemmas.Result.{IfOk-weaker}
use Rattle.rv_core.specs.declared.ending.Ending.{Ending}
use Rattle.machine_rules.specs.State.{initial_state}
use Rattle.dn_machine.specs.Run.{IsCoherentRun}
use Rattle.host_workers.proofs.RunSoFar.{whole}
use Rattle.host_workers.proofs.run.note_ending.Goals as goal

pub note_last-requires : goal.note_last-requires
note_last-requires c =
    let kept = c.a_machine_is_kept.ensures in
    omega (arith, kept.sound.machine.nodes, kept.most)

pub returns-clause-run : goal.returns-clause-run
returns-clause-run c =
    let C = c.args.machine.now.state.setting in
    let log = c.note_last.new.log in
    IfOk-weaker c.ending.result _ (λ (ending : Ending). IsCoherentRun (initial_state C) (record { events = log.events; grants = log.grants; counts = log.counts; ending = ending }))
    (λ ending is. whole C c.args.machine.now c.args.log.now log ending c.a_machine_is_kept.ensures.most c.requires.far c.requires.over c.note_last.ensures is)
    c.ending.ensures

pub returns-clause-events : goal.returns-clause-events
returns-clause-events c = ap (λ (l : Log). l.events) c.note_last.ensures

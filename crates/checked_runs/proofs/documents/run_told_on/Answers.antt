use Rattle.std.proofs.Common.{refl, subst}
use Rattle.region_table.specs.Program.{IsProgram}
use Rattle.run_replay.specs.declared.replaying.Replayed.{Replayed}
use Rattle.checked_runs.specs.Documents.{IsReplayIn}
use Rattle.checked_runs.proofs.ReplayedRun.{run-again, prints-again}
use Rattle.checked_runs.proofs.documents.run_told_on.Goals as goal

pub returns-in-Complete-clause-told : goal.returns-in-Complete-clause-told
returns-in-Complete-clause-told c =
    let P = c.args.machine.now.state.setting.program in
    let complete = subst (λ (r : Replayed). IsReplayIn P c.args.trace r) c.in-Complete.is c.in_ok-ending.ensures.replay in
    record {
      events = refl;
      replay = complete;
      is =
          run-again P c.args.trace
          (record { events = c.args.trace.events; grants = c.in-Complete.grants; counts = c.in-Complete.counts; ending = c.in-Complete.ending })
          refl complete;
    }

pub returns-in-Complete-clause-printable : goal.returns-in-Complete-clause-printable
returns-in-Complete-clause-printable c =
    let P = c.args.machine.now.state.setting.program in
    prints-again P c.args.trace
    (record { events = c.args.trace.events; grants = c.in-Complete.grants; counts = c.in-Complete.counts; ending = c.in-Complete.ending })
    (subst IsProgram c.program.ensures c.a_program_is_well_formed.ensures)
    refl
    (subst (λ (r : Replayed). IsReplayIn P c.args.trace r) c.in-Complete.is c.in_ok-ending.ensures.replay)

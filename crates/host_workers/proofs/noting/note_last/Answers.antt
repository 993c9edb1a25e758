use Rattle.std.proofs.Common.{rules, ◌≡◌, ap}
use Rattle.dn_machine.specs.declared.log.Log.{Log}
use Rattle.dn_machine.specs.Ends.{EndTable, with_end}
use Rattle.host_workers.specs.Ends.{with_ends, last_ends}
use Rattle.host_workers.proofs.RoundNotes.{core-more}
use Rattle.host_workers.proofs.noting.note_last.Goals.{in-Some, in_default}
use Rattle.host_workers.proofs.noting.note_last.Goals as goal

pub loop-core-preserved : goal.loop-core-preserved
loop-core-preserved c =
    let table : EndTable = with_end c.task_end.result c.loop-core.log.ends in
    let noted : c.match-task_end.log ≡ record c.loop-core.log { ends = table } = elim c.match-task_end.branch [ in-Some w ↦ search rules | in_default w ↦ search rules ] in
    record {
      table =
          rw noted
          (core-more c.args.machine.now.state.nodes c.loop-core.core c.task_end.result c.loop-core.log.ends (with_ends (last_ends c.args.machine.now.state) c.args.log.now.ends) c.task_end.ensures c.loop-core.invariant.table);
      rest = rw noted (ap (λ (l : Log). record l { ends = table }) c.loop-core.invariant.rest);
    }

use Rattle.dn_top.proofs.ReplayedDocument.{run-replayed, run-refused}
use Rattle.dn_top.proofs.documents.replay_document.Goals as goal

pub returns-clause-ok : goal.returns-clause-ok
returns-clause-ok c =
    run-replayed c.args.document.now c.as_slice.result.now c.in_ok-trace.trace c.in_ok-checked.checked c.run_again.result c.in_ok-trace.ensures.ok c.as_slice.ensures c.in_ok-checked.ensures.ok
    c.in_ok-checked.ensures.checked c.run_again.ensures.ok

pub returns-clause-stop : goal.returns-clause-stop
returns-clause-stop c =
    run-refused c.args.document.now c.as_slice.result.now c.in_ok-trace.trace c.in_ok-checked.checked c.run_again.result c.in_ok-trace.ensures.ok c.as_slice.ensures c.in_ok-checked.ensures.ok
    c.in_ok-checked.ensures.checked c.run_again.ensures.stop

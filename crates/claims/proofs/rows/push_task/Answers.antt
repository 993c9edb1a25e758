use Rattle.claims.proofs.Parts.{task-stands}
use Rattle.claims.proofs.rows.push_task.Goals as goal

pub returns-clause-ok : goal.returns-clause-ok
returns-clause-ok c =
    record {
      task = record { phase = c.in-Some.head.phase; core = c.in-Some.head.core; loads = c.push_loads.new.loads };
      stands =
          task-stands c.args.bytes.now c.in-Some.behind.now c.in_ok-rest.rest.now c.in-Some.head c.push_loads.new.loads c.in-Some.ensures.some c.in_ok-rest.ensures.ok;
      more = c.in_ok-push.ensures.ok;
    }

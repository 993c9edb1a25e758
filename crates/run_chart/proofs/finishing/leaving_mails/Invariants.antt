use Rattle.std.proofs.Common.{◌≡◌, ◌+◌, ◌≤◌, ◌++◌, drop, length}
use Rattle.run_chart.specs.Finishing.{leaving_from}
use Rattle.run_chart.proofs.finishing.leaving_mails.Given as goal

abbrev pub invariant-loop-noted : goal.invariant-loop-noted
invariant-loop-noted l =
    record {
      place : l.place ≡ l.noted-index;
      line : l.line ≡ l.fn.line + length l.mails;
      few : length l.mails ≤ l.noted-index;
      so_far : l.mails ++ leaving_from l.line (drop l.noted-index l.sent) (drop l.noted-index l.pool.mails) ≡ leaving_from l.fn.line l.sent l.pool.mails;
    }

use Rattle.std.proofs.Common.{◌≡◌, ◌≤◌, ◌++◌, drop, length, map}
use Rattle.run_chart.specs.Mails.{sent_on}
use Rattle.run_chart.proofs.mails.note_new.Given as goal

abbrev pub invariant-loop-place : goal.invariant-loop-place
invariant-loop-place l =
    record {
      within : l.place ≤ length l.pool.mails;
      so_far : l.sent ++ map (sent_on l.line) (drop l.place l.pool.mails) ≡ l.fn.sent ++ map (sent_on l.line) (drop (length l.fn.sent) l.pool.mails);
    }

use Rattle.std.proofs.Common.{◌≡◌, length}
use Rattle.text_pieces.specs.Parts.{StandAll}
use Rattle.claims.specs.Claim.{IsTask, task_rows}
use Rattle.claims.proofs.rows.push_tasks.Given as goal

abbrev pub invariant-loop-number : goal.invariant-loop-number
invariant-loop-number l = record { stand : StandAll IsTask task_rows l.bytes l.tasks l.rest; all : length l.tasks ≡ l.number }

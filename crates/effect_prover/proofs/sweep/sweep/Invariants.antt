use Rattle.std.proofs.Common.{◌≡◌, ◌≤◌, ◌+◌, ◌-◌, ◌*◌, length, Some}
use Rattle.effect_prover.specs.Row.{start_row}
use Rattle.effect_prover.specs.Table.{Covers}
use Rattle.effect_prover.specs.Sweep.{IsSwept, table_room}
use Rattle.effect_prover.proofs.sweep.sweep.Given as goal

abbrev pub invariant-loop-at : goal.invariant-loop-at
invariant-loop-at l =
    record {
      swept : IsSwept l.program l.task l.leaders l.rows l.pending l.at;
      entry : Covers l.rows l.task.entry (Some (start_row l.task));
      within : l.at ≤ l.words;
      words : l.words ≡ length l.program.code;
    }

abbrev pub decreases-loop-at : goal.decreases-loop-at
decreases-loop-at l = table_room l.rows * (l.words + 1) + (l.words - l.at)

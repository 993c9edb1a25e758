use Rattle.std.proofs.Common.{◌≡◌, ◌<◌, ◌-◌, length, Some}
use Rattle.effect_prover.specs.Row.{IsRow}
use Rattle.effect_prover.specs.Table.{Table}
use Rattle.effect_prover.specs.Blocks.{leader_of, filled_row}
use Rattle.effect_prover.proofs.blocks.last_of_block.Given as goal

abbrev pub invariant-loop-last : goal.invariant-loop-last
invariant-loop-last l =
    record {
      within : l.last.place < length l.program.code;
      block : leader_of l.leaders l.last.place ≡ leader_of l.leaders l.at;
      reached : (t : Table) → filled_row l.program l.leaders t l.at ≡ Some l.row → filled_row l.program l.leaders t l.last.place ≡ Some l.last.row;
      row : IsRow l.last.row;
    }

abbrev pub decreases-loop-last : goal.decreases-loop-last
decreases-loop-last l = length l.leaders - l.last.place

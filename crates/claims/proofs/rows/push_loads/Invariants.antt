use Rattle.std.proofs.Common.{◌≡◌, length}
use Rattle.text_pieces.specs.Parts.{StandAll}
use Rattle.claims.specs.Claim.{IsLoad, load_row}
use Rattle.claims.proofs.rows.push_loads.Given as goal

abbrev pub invariant-loop-number : goal.invariant-loop-number
invariant-loop-number l = record { stand : StandAll IsLoad load_row l.bytes l.loads l.rest; all : length l.loads ≡ l.number }

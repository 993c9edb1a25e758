use Rattle.std.proofs.Common.{◌≡◌, length}
use Rattle.text_pieces.specs.Parts.{StandAll}
use Rattle.claims.specs.Claim.{IsGrant, grant_row}
use Rattle.claims.proofs.rows.push_grants.Given as goal

abbrev pub invariant-loop-number : goal.invariant-loop-number
invariant-loop-number l = record { stand : StandAll IsGrant grant_row l.bytes l.grants l.rest; all : length l.grants ≡ l.number }

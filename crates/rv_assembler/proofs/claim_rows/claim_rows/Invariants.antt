use Rattle.std.proofs.Common.{◌≡◌, ◌+◌, ◌*◌, length, drop}
use Rattle.rv_assembler.specs.ClaimRows.{HasClaimsBut, AreRowsWithin}
use Rattle.rv_assembler.proofs.claim_rows.claim_rows.Given as goal

abbrev pub invariant-loop-claim : goal.invariant-loop-claim
invariant-loop-claim l = record {
  noted : HasClaimsBut l.words l.claims (drop l.claim-index l.claims) l.rows.items;
  within : AreRowsWithin l.words l.rows.items;
  count : length l.rows.items ≡ 1056 * l.phases + 1056;
}

use Rattle.std.proofs.Common.{◌≡◌, ◌+◌, ◌*◌, length, drop, get_or, replicate, [], sym, ap, ◌∙◌, subst, rules}
use Rattle.std.proofs.lemmas.List.{drop_more, drop_all, length-replicate}
use Rattle.rv_assembler.specs.declared.draft.Usage.TheVariants.{Reads}
use Rattle.rv_assembler.specs.declared.draft.Claim.{Claim}
use Rattle.rv_assembler.specs.ClaimRows.{HasClaimsBut, AreRowsWithin}
use Rattle.rv_assembler.proofs.ClaimRowLemmas.{none-noted, none-within, all-noted, note-keeps, rows-within, length-noted}
use Rattle.rv_assembler.proofs.claim_rows.claim_rows.Goals as goal

pub loop-claim-preserved : goal.loop-claim-preserved
loop-claim-preserved c =
    let had = c.loop-claim.invariant in
    let words = c.args.words in
    let claims = c.args.claims.now in
    let rows = c.loop-claim.rows.items in
    let rest = drop (c.loop-claim.claim-index + 1) claims in
    let none : Claim = record { phase = 0; core = 0; usage = Reads; lo = 0; hi = 0 } in
    let claim = get_or claims c.loop-claim.claim-index none in
    let split = drop_more claims c.loop-claim.claim-index none c.loop-claim-test.true in
    let noted = c.in_ok-note.ensures in record {
      noted = subst (HasClaimsBut words claims rest) (sym noted) (note-keeps words claim rest claims rows (subst (λ l. HasClaimsBut words claims l rows) split had.noted));
      within = subst (AreRowsWithin words) (sym noted) (rows-within words claim rows had.within);
      count = ap length noted ∙ length-noted words claim rows ∙ had.count;
    }

pub loop-claim-init : goal.loop-claim-init
loop-claim-init c =
    let count = 1056 * c.args.phases + 1056 in
    let is : c.in_ok-rows.rows.items ≡ replicate count [] = search rules in record {
      noted = subst (HasClaimsBut c.args.words c.args.claims.now c.args.claims.now) (sym is) (none-noted c.args.words count c.args.claims.now);
      within = subst (AreRowsWithin c.args.words) (sym is) (none-within c.args.words count);
      count = ap length is ∙ length-replicate count [];
    }

pub returns-clause-claims : goal.returns-clause-claims
returns-clause-claims c =
    let rows = c.loop-claim.rows.items in
    let none = drop_all c.loop-claim.claim-index c.args.claims.now c.loop-claim-test.false in
    all-noted c.args.words c.args.claims.now rows (subst (λ rest. HasClaimsBut c.args.words c.args.claims.now rest rows) none c.loop-claim.invariant.noted)

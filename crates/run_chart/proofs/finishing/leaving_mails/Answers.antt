use Rattle.std.proofs.Common.{◌≡◌, ℕ, ◌∷◌, [], List, Some, length, ap, subst, ◌∙◌, arith, length-append}
use Rattle.std.specs.Prelude.{slice_get}
use Rattle.run_chart.specs.declared.parts.LeavingMail.{LeavingMail}
use Rattle.run_chart.specs.Finishing.{leaving_from}
use Rattle.run_chart.proofs.Behind.{leaving-skipped, leaving-added}
use Rattle.run_chart.proofs.finishing.leaving_mails.Goals.{in-Some+in_ok-push, in_default}
use Rattle.run_chart.proofs.finishing.leaving_mails.Goals as goal

pub loop-noted-preserved : goal.loop-noted-preserved
loop-noted-preserved c =
    let mails = c.args.pool.now.mails in
    let whole = leaving_from c.args.line c.args.sent.now mails in
    let here : slice_get mails c.loop-noted.noted-index ≡ Some c.at-mail.result = subst (λ (p : ℕ). slice_get mails p ≡ Some c.at-mail.result) c.loop-noted.invariant.place c.at-mail.ensures in
    elim c.match-noted.branch [
      | in-Some+in_ok-push w ↦
          let long = ap (λ (l : List LeavingMail). length l) w.in_ok-push.ensures.ok ∙ length-append c.loop-noted.mails (w.leaving_mail.result ∷ []) in
          rw (w.mails-is, w.line-is)
          (record {
            place = omega (arith, c.loop-noted.invariant.place);
            line = omega (arith, c.loop-noted.invariant.line, long);
            few = omega (arith, c.loop-noted.invariant.few, long);
            so_far =
                leaving-added c.args.sent.now mails c.loop-noted.noted-index c.loop-noted.line c.at-mail.result _ c.loop-noted.mails w.push.new.self whole w.in-Some.sent_on w.leaving_mail.result c.loop-noted-test.true here w.in-Some.is
                w.leaving_mail.ensures w.in_ok-push.ensures.ok c.loop-noted.invariant.so_far;
          })
      | in_default w ↦
          rw (w.mails-is, w.line-is)
          (record {
            place = omega (arith, c.loop-noted.invariant.place);
            line = c.loop-noted.invariant.line;
            few = omega (arith, c.loop-noted.invariant.few);
            so_far = leaving-skipped c.args.sent.now mails c.loop-noted.noted-index c.loop-noted.line c.at-mail.result _ c.loop-noted.mails whole c.loop-noted-test.true here w.in_default.is c.loop-noted.invariant.so_far;
          })
    ]

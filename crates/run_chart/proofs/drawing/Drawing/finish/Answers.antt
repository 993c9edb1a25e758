use Rattle.std.proofs.Common.{List, length, ap, arith}
use Rattle.run_chart.specs.declared.mails.SentMail.{SentMail}
use Rattle.run_chart.proofs.Begun.{few-noted}
use Rattle.run_chart.proofs.drawing.Drawing.finish.Goals as goal

pub leaving_mails-requires-clause-few : goal.leaving_mails-requires-clause-few
leaving_mails-requires-clause-few c =
    omega (arith, c.requires.lines, few-noted c.args.self.now c.a_machine_is_kept.ensures c.requires, ap (λ (l : List SentMail). length l) c.as_slice.ensures)

pub overflow_cast-behind : goal.overflow_cast-behind
overflow_cast-behind c =
    omega (arith, few-noted c.args.self.now c.a_machine_is_kept.ensures c.requires, ap (λ (l : List SentMail). length l) c.as_slice.ensures, c.in_ok-leaving.ensures.most, c.len.ensures)

pub overflow_add-behind : goal.overflow_add-behind
overflow_add-behind c =
    omega (arith, c.requires.lines, few-noted c.args.self.now c.a_machine_is_kept.ensures c.requires, ap (λ (l : List SentMail). length l) c.as_slice.ensures, c.in_ok-leaving.ensures.most, c.len.ensures)

pub waiting_at-requires-clause-few : goal.waiting_at-requires-clause-few
waiting_at-requires-clause-few c =
    omega (arith, c.requires.lines, few-noted c.args.self.now c.a_machine_is_kept.ensures c.requires, ap (λ (l : List SentMail). length l) c.as_slice.ensures, c.in_ok-leaving.ensures.most, c.len.ensures)

pub chart_with-requires : goal.chart_with-requires
chart_with-requires c =
    omega
    (arith, c.requires.lines, few-noted c.args.self.now c.a_machine_is_kept.ensures c.requires, ap (λ (l : List SentMail). length l) c.as_slice.ensures, c.in_ok-leaving.ensures.most, c.in_ok-waiting.ensures.most)

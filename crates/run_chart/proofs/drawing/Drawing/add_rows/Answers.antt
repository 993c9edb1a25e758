use Rattle.std.proofs.Common.{◌≡◌, ℕ, ◌+◌, Bool, get_or, sym, ap, subst, ◌∙◌, arith}
use Rattle.std.proofs.lemmas.Option.{get_or_from_slice_get}
use Rattle.message_net.specs.declared.event.Event.{Event}
use Rattle.message_net.specs.declared.event.Event.TheVariants.{Instr}
use Rattle.run_chart.specs.Drawing.{IsRowed, IsNextRow, with_rows}
use Rattle.run_chart.specs.Marks.{is_on_chain}
use Rattle.run_chart.proofs.OneRow.{rows-step}
use Rattle.run_chart.proofs.drawing.Drawing.add_rows.Goals as goal

pub loop-event-preserved : goal.loop-event-preserved
loop-event-preserved c =
    let chain = c.args.chain.now in
    let events = c.args.events.now in
    let i = c.loop-event.event-index in
    let d = c.loop-event.self in
    let marks = c.in_ok-marks.marks.items in
    let mark = c.index.result.now in
    let other : Event = Instr (record { 0 = 0 }) in
    let row : IsNextRow mark d c.add_row.new.self (get_or events i other) =
    subst (λ (b : Bool). IsRowed mark d c.add_row.new.self (get_or events i other) b) c.if-not-came.false c.in_ok-came.ensures
    in
    let marked : mark ≡ is_on_chain chain d.event =
    c.index.ensures
    ∙ ap (λ (p : ℕ). get_or marks p mark) c.loop-event.invariant.place
    ∙ get_or_from_slice_get marks i (is_on_chain chain (c.args.self.now.event + i)) mark (c.in_ok-marks.ensures.each i c.loop-event-test.true)
    ∙ ap (λ (n : ℕ). is_on_chain chain n) (sym c.loop-event.invariant.event)
    in
    record {
      place = omega (arith, c.loop-event.invariant.place);
      made = omega (arith, row.made, c.loop-event.invariant.made);
      event = omega (arith, row.event, c.loop-event.invariant.event);
      rows = omega (arith, row.rows, c.loop-event.invariant.rows);
      line = row.line;
      sent = row.sent;
      so_far = rows-step chain d c.add_row.new.self events i other (with_rows chain c.args.self.now events) mark c.loop-event-test.true row marked c.loop-event.invariant.so_far;
    }

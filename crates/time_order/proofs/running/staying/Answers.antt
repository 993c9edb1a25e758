use Rattle.std.proofs.Common.{◌≡◌, ◌∙◌, ◌+◌, List, true, length, ap, sym, subst, arith}
use Rattle.message_net.specs.declared.event.Event.{Event}
use Rattle.message_net.specs.declared.message.Mail.{Mail}
use Rattle.message_net.specs.Pool.{removed}
use Rattle.machine_rules.specs.Next.{enabled}
use Rattle.time_order.specs.Flights.{left_by}
use Rattle.time_order.proofs.Turns.{staying-one}
use Rattle.time_order.proofs.running.staying.Goals as goal

many : (c : goal.After-count) → length (removed c.in-Handle.field-0 c.args.machine.now.state.mails).1 + 1 ≡ c.count.result
many c =
    staying-one c.args.machine.now.state c.in-Handle.field-0 (subst (λ (e : Event). enabled c.args.machine.now.state e ≡ true) c.in-Handle.is c.requires)
    ∙ (ap (λ (ms : List Mail). length ms) (sym c.pool.ensures) ∙ sym c.count.ensures.count)

pub overflow_sub-result : goal.overflow_sub-result
overflow_sub-result c = omega (arith, many c)

pub returns-in-Handle : goal.returns-in-Handle
returns-in-Handle c =
    let left : length (left_by c.args.machine.now.state c.args.event) ≡ length (removed c.in-Handle.field-0 c.args.machine.now.state.mails).1 =
    ap (λ (e : Event). length (left_by c.args.machine.now.state e)) c.in-Handle.is
    in
    omega (arith, many c, left)

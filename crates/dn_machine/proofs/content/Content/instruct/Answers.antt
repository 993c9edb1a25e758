use Rattle.std.proofs.Common.{◌≡◌, true, map, sym, ap, subst, ◌∙◌}
use Rattle.message_net.specs.declared.event.Event.TheVariants.{Instr}
use Rattle.registration_protocol.specs.OwnEvents.{own_event}
use Rattle.registration_protocol.specs.Setting.{setting}
use Rattle.machine_rules.specs.State.{State}
use Rattle.machine_rules.specs.Next.{next, enabled, observed}
use Rattle.dn_machine.specs.Content.{in_row, IsWhole}
use Rattle.dn_machine.proofs.content.Content.instruct.Goals as goal

pub instruct_by_need-requires-clause-whole : goal.instruct_by_need-requires-clause-whole
instruct_by_need-requires-clause-whole c = subst IsWhole (sym (c.compute.ensures.left c.if-compute.false).0) c.requires.whole

pub instruct_by_need-requires-clause-known : goal.instruct_by_need-requires-clause-known
instruct_by_need-requires-clause-known c =
    let left = c.compute.ensures.left c.if-compute.false in
    left.1 ∙ c.requires.known ∙ ap (λ (S : State). in_row (map (own_event (setting c.args.context.now)) S.nodes)) (sym left.0)

pub instruct_by_need-requires-clause-may : goal.instruct_by_need-requires-clause-may
instruct_by_need-requires-clause-may c = subst (λ (S : State). enabled S (Instr c.args.core) ≡ true) (sym (c.compute.ensures.left c.if-compute.false).0) c.requires.may

pub instruct_by_need-requires-clause-spare : goal.instruct_by_need-requires-clause-spare
instruct_by_need-requires-clause-spare c = rw (c.compute.ensures.left c.if-compute.false).2 c.requires.spare

pub returns-clause-state : goal.returns-clause-state
returns-clause-state c = c.instruct_by_need.ensures.state ∙ ap (λ (S : State). next S (Instr c.args.core)) (c.compute.ensures.left c.if-compute.false).0

pub returns-clause-observed : goal.returns-clause-observed
returns-clause-observed c = c.instruct_by_need.ensures.observed ∙ ap (λ (S : State). observed S (Instr c.args.core)) (c.compute.ensures.left c.if-compute.false).0

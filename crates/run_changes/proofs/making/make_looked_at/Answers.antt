use Rattle.std.proofs.Common.{List, ap, ◌∙◌}
use Rattle.message_net.specs.declared.message.Mail.{Mail}
use Rattle.run_changes.specs.Events.{count_left_by}
use Rattle.run_changes.proofs.Made.{made_is}
use Rattle.run_changes.proofs.making.make_looked_at.Goals as goal

pub returns-in_ok-change_of-in-Some-clause-made : goal.returns-in_ok-change_of-in-Some-clause-made
returns-in_ok-change_of-in-Some-clause-made c =
    let count = c.count_left_by-left.ensures ∙ ap (λ (mails : List Mail). count_left_by mails c.args.event) c.pool.ensures in
    c.in_ok-change_of-in-Some.ensures
    ∙ made_is c.args.machine.now.state c.try_step.new.self.state c.args.event c.args.look.now c.count_left_by-left.result c.in-Some.came (rw (c.in-Some.is) at c.in_ok-try_step.ensures.tried) c.requires.look count

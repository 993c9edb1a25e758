use Rattle.std.proofs.Common.{◌≡◌, ◌+◌, ◌<◌, length, sym, ap, subst, ◌∙◌, arith}
use Rattle.grant_log.specs.Log.{IsMerge}
use Rattle.dn_machine.specs.Kept.{IsLeftByRun}
use Rattle.machine_rules.specs.State.{State}
use Rattle.host_workers.specs.Rounds.{mail_in}
use Rattle.host_workers.proofs.Mapped.{long-map}
use Rattle.host_workers.specs.Ends.{AreEndsOf}
use Rattle.host_workers.specs.Finishing.{left_in}
use Rattle.host_workers.specs.Inboxes.{inboxes_of, all_posted}
use Rattle.host_workers.proofs.MadeRound.{logs-may-merge, run, ends-told, kept-then, room-then, few-events, made-round}
use Rattle.host_workers.proofs.PutTogether.{state-joined}
use Rattle.host_workers.proofs.round.put_together.Goals as goal

pub told_of-requires-clause-logs : goal.told_of-requires-clause-logs
told_of-requires-clause-logs c =
    let left = c.requires.3 in
    logs-may-merge c.requires.0 c.requires.1 c.args.fixed.made c.requires.2 c.args.finished left _ left.finished.logs

pub told_of-requires-clause-told : goal.told_of-requires-clause-told
told_of-requires-clause-told c = λ merged is.
    let left = c.requires.3 in
    let merge = subst (λ ls. IsMerge ls merged) left.finished.logs is in
    record {
      dones = (run c.requires.0 c.requires.1 c.args.fixed.made c.requires.2 c.args.finished left merged merge).told;
      ends = subst (λ es. AreEndsOf merged es (run c.requires.0 c.requires.1 c.args.fixed.made c.requires.2 c.args.finished left merged merge).told) (sym left.finished.ends)
          (ends-told c.requires.0 c.requires.1 c.args.fixed.made c.requires.2 c.args.finished left merged merge);
      distinct = (kept-then c.requires.0 c.requires.1 c.args.fixed.made c.requires.2 c.args.finished left merged merge).sound.machine.distinct;
      few = subst (λ n. n < 4294967295) (long-map mail_in (all_posted (inboxes_of c.args.finished.objects.inboxes)))
          (room-then c.requires.0 c.requires.1 c.args.fixed.made c.requires.2 c.args.finished left merged merge);
    }

pub machine-requires-clause-most : goal.machine-requires-clause-most
machine-requires-clause-most c =
    let left = c.requires.3 in
    let merge = subst (λ ls. IsMerge ls c.in_ok-merged.field-0.merged.items) left.finished.logs c.in_ok-merged.ensures.merge in
    let few = few-events c.requires.0 c.requires.1 c.args.fixed.made c.requires.2 c.args.finished left c.in_ok-merged.field-0.merged.items merge in
    omega (arith, left.far, few, c.len.ensures, c.in_ok-merged.field-0.merged.ok.0)

pub machine-requires-clause-left : goal.machine-requires-clause-left
machine-requires-clause-left c =
    let left = c.requires.3 in
    let told = c.in_ok-merged.ensures in
    let merge = subst (λ ls. IsMerge ls c.in_ok-merged.field-0.merged.items) left.finished.logs told.merge in
    let kept = kept-then c.requires.0 c.requires.1 c.args.fixed.made c.requires.2 c.args.finished left c.in_ok-merged.field-0.merged.items merge in
    let count : length c.in_ok-merged.field-0.merged.items ≡ c.len.result = omega (arith, c.len.ensures, c.in_ok-merged.field-0.merged.ok.0) in
    let is = state-joined c.args.finished c.requires.1.setting c.args.fixed c.in_ok-merged.field-0.moving c.requires.4 told.nodes told.banks told.keeper told.mails told.numbers in
    subst (λ (U : State). IsLeftByRun U (c.args.fixed.made + c.len.result)) is (subst (λ n. IsLeftByRun (left_in c.requires.1.setting c.args.finished) (c.args.fixed.made + n)) count kept.left)

pub returns : goal.returns
returns c = λ S M workers left frame.
    let told = c.in_ok-merged.ensures in
    let merge = subst (λ ls. IsMerge ls c.in_ok-merged.field-0.merged.items) left.finished.logs told.merge in
    let count : length c.in_ok-merged.field-0.merged.items ≡ c.len.result = omega (arith, c.len.ensures, c.in_ok-merged.field-0.merged.ok.0) in
    let is = state-joined c.args.finished M.setting c.args.fixed c.in_ok-merged.field-0.moving frame told.nodes told.banks told.keeper told.mails told.numbers in
    made-round S M c.args.fixed.made workers c.args.finished left c.in_ok-merged.field-0.merged c.in_ok-merged.field-0.ends c.machine.result merge
    (c.machine.ensures.state ∙ sym is)
    (c.machine.ensures.made ∙ ap (λ n. c.args.fixed.made + n) (sym count))
    (λ dones are. told.ends dones (subst (λ es. AreEndsOf c.in_ok-merged.field-0.merged.items es dones) (sym left.finished.ends) are))

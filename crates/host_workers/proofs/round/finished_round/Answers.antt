use Rattle.std.proofs.Common.{sym, subst}
use Rattle.std.specs.List.{All}
use Rattle.std.proofs.lemmas.Result.{IfOk-weaker}
use Rattle.machine_rules.specs.State.{State}
use Rattle.registration_protocol.specs.Node.{Setting}
use Rattle.host_workers.specs.Opening.{StandsFor}
use Rattle.host_workers.specs.MadeRounds.{made_from_parts}
use Rattle.host_workers.specs.Finishing.{IsReadyJob, HaveDoneJobs, IsRoundLeft}
use Rattle.host_workers.proofs.RunRound.{stands-kept, moving-of, ready-jobs, some-dones, passes-back, crews-back}
use Rattle.host_workers.proofs.round.finished_round.Goals as goal

pub open-requires-clause-machine : goal.open-requires-clause-machine
open-requires-clause-machine g c =
    let M = (made_from_parts c.args.fixed.now c.args.moving).state in
    let stands = stands-kept M c.args.fixed.now.made c.requires.kept in
    (M, moving-of stands.0 c.args.fixed.now c.args.moving stands.1 c.requires.kept)

pub work_all-requires-after_bounds : goal.work_all-requires-after_bounds
work_all-requires-after_bounds g c κs within =
    let M = (made_from_parts c.args.fixed.now c.args.moving).state in
    let stands = stands-kept M c.args.fixed.now.made c.requires.kept in
    let opened = c.in_ok-hall.ensures M (moving-of stands.0 c.args.fixed.now c.args.moving stands.1 c.requires.kept) in
    subst (λ (D : Setting). All (IsReadyJob D c.in_ok-hall.field-0.hall) c.in_ok-hall.field-0.jobs.items) (sym c.context.ensures)
    (ready-jobs M c.args.fixed.now.made c.args.workers c.in_ok-hall.field-0.hall c.in_ok-hall.field-0.jobs.items c.requires.kept c.requires.some opened)

pub finish-requires-clause-some : goal.finish-requires-clause-some
finish-requires-clause-some g c =
    let M = (made_from_parts c.args.fixed.now c.args.moving).state in
    let stands = stands-kept M c.args.fixed.now.made c.requires.kept in
    let opened = c.in_ok-hall.ensures M (moving-of stands.0 c.args.fixed.now c.args.moving stands.1 c.requires.kept) in
    let done = subst (λ (D : Setting). HaveDoneJobs D c.in_ok-hall.field-0.hall c.in_ok-hall.field-0.jobs.items c.in_ok-dones.dones.items) c.context.ensures c.in_ok-dones.ensures in
    some-dones M c.args.fixed.now.made c.args.workers c.in_ok-hall.field-0.hall c.in_ok-hall.field-0.jobs.items c.requires.kept c.requires.some opened c.in_ok-dones.dones.items done

pub finish-requires-clause-passes : goal.finish-requires-clause-passes
finish-requires-clause-passes g c =
    let M = (made_from_parts c.args.fixed.now c.args.moving).state in
    let stands = stands-kept M c.args.fixed.now.made c.requires.kept in
    let opened = c.in_ok-hall.ensures M (moving-of stands.0 c.args.fixed.now c.args.moving stands.1 c.requires.kept) in
    let done = subst (λ (D : Setting). HaveDoneJobs D c.in_ok-hall.field-0.hall c.in_ok-hall.field-0.jobs.items c.in_ok-dones.dones.items) c.context.ensures c.in_ok-dones.ensures in
    passes-back M c.args.fixed.now.made c.args.workers c.in_ok-hall.field-0.hall c.in_ok-hall.field-0.jobs.items c.requires.kept c.requires.some opened c.in_ok-dones.dones.items done

pub finish-requires-clause-crews : goal.finish-requires-clause-crews
finish-requires-clause-crews g c =
    let M = (made_from_parts c.args.fixed.now c.args.moving).state in
    let stands = stands-kept M c.args.fixed.now.made c.requires.kept in
    let opened = c.in_ok-hall.ensures M (moving-of stands.0 c.args.fixed.now c.args.moving stands.1 c.requires.kept) in
    let done = subst (λ (D : Setting). HaveDoneJobs D c.in_ok-hall.field-0.hall c.in_ok-hall.field-0.jobs.items c.in_ok-dones.dones.items) c.context.ensures c.in_ok-dones.ensures in
    crews-back M c.args.fixed.now.made c.args.workers c.in_ok-hall.field-0.hall c.in_ok-hall.field-0.jobs.items c.requires.kept c.requires.some opened c.in_ok-dones.dones.items done

pub returns : goal.returns
returns g c =
    let M = (made_from_parts c.args.fixed.now c.args.moving).state in
    let done = subst (λ (D : Setting). HaveDoneJobs D c.in_ok-hall.field-0.hall c.in_ok-hall.field-0.jobs.items c.in_ok-dones.dones.items) c.context.ensures c.in_ok-dones.ensures in
    IfOk-weaker c.finish.result _ (λ finished. (S : State) → StandsFor S M → IsRoundLeft S M c.args.fixed.now.made c.args.workers finished)
    (λ finished is S stands. record {
      some = c.requires.some;
      few = c.requires.few;
      far = c.requires.far;
      stands = stands;
      kept = c.requires.kept;
      hall = c.in_ok-hall.field-0.hall;
      jobs = c.in_ok-hall.field-0.jobs.items;
      dones = c.in_ok-dones.dones.items;
      opened = c.in_ok-hall.ensures M (moving-of S c.args.fixed.now c.args.moving stands c.requires.kept);
      done = done;
      finished = is;
    })
    c.finish.ensures

use Rattle.std.proofs.Common.{Ok, length, get_or, slice_get, sym, ap, subst, ◌∙◌, arith}
use Rattle.std.specs.Result.{IfOk}
use Rattle.std.proofs.lemmas.Result.{IfOk-weaker, IfOk-at_ok}
use Rattle.std.proofs.lemmas.Option.{slice_get_within, get_or_from_slice_get}
use Rattle.registration_protocol.specs.Setting.{setting}
use Rattle.host_workers.proofs.Mapped.{long-map}
use Rattle.dn_base.specs.declared.failure.Memory.{Memory}
use Rattle.host_workers.specs.declared.working.Job.{Job}
use Rattle.host_workers.specs.Finishing.{HasDoneJob, HaveDoneJobs}
use Rattle.host_workers.proofs.HallObjects.{mapped-at}
use Rattle.host_workers.proofs.working.work_all.Goals as goal

pub returns : goal.returns
returns g c =
    IfOk-weaker c.all_done.result _ (λ dones. HaveDoneJobs (setting c.args.context.now) c.args.hall.now c.args.jobs.items dones.items)
    (λ dones are. record {
      count = sym (long-map Ok dones.items) ∙ (ap length (sym are) ∙ omega (arith, c.in_ok-dones.ensures.len, c.in_ok-dones.dones.ok.0, c.args.jobs.ok.0));
      each = λ k job done at is.
          let below = slice_get_within c.args.jobs.items k job at in
          let result = Ok done in
          let there = get_or_from_slice_get c.in_ok-dones.dones.items k result result (ap (λ l. slice_get l k) are ∙ mapped-at Ok dones.items k done is) in
          let gives = (c.in_ok-dones.ensures.each k result below).1 in
          let same = sym (gives.job_is job) ∙ get_or_from_slice_get c.args.jobs.items k job job at in
          IfOk-at_ok (HasDoneJob (setting c.args.context.now) c.args.hall.now job) there
          (subst (λ (j : Job). IfOk {E = Memory} (get_or c.in_ok-dones.dones.items k result) (HasDoneJob (setting c.args.context.now) c.args.hall.now j)) same gives.call.met);
    })
    c.all_done.ensures

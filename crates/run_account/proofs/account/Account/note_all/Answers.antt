use Rattle.std.proofs.Common.{◌≡◌, ◌+◌, ◌<◌, length, Ok, ap, ◌∙◌, arith}
use Rattle.machine_rules.specs.Runs.{IsRun}
use Rattle.run_account.specs.Account.{account_of_run}
use Rattle.run_account.proofs.Whole.{tried-some, setting-next, one-led, one-comes, one-came}
use Rattle.run_account.proofs.account.Account.note_all.Goals as goal

pub loop-event-preserved : goal.loop-event-preserved
loop-event-preserved c =
    let inside : c.loop-event.event-index < length c.args.events.now = omega (arith, c.loop-event-test.true) in
    let stepped = tried-some _ _ _ _ _ c.in-Some.is c.in_ok-came.ensures.tried in
    let more : c.try_step.new.self.made ≡ c.loop-event.machine.made + 1 = c.in_ok-came.ensures.came c.in-Some.field-0 (ap Ok c.in-Some.is) in
    record {
      leads =
          one-led c.loop-event.machine.state c.try_step.new.self.state c.loop-event.self c.note.new.self
          (account_of_run c.args.machine.now.state c.args.self.now c.args.events.now)
          c.args.events.now c.loop-event.event-index _ inside stepped.state c.note.ensures c.loop-event.invariant.leads;
      comes =
          one-comes c.loop-event.machine.state c.try_step.new.self.state (IsRun c.args.machine.now.state c.args.events.now)
          c.args.events.now c.loop-event.event-index _ inside stepped.state stepped.may c.loop-event.invariant.comes;
      came =
          one-came c.loop-event.machine.state c.try_step.new.self.state (IsRun c.args.machine.now.state c.args.events.now)
          c.args.events.now c.loop-event.event-index _ inside stepped.state c.loop-event.invariant.came;
      setting = setting-next c.loop-event.machine.state c.try_step.new.self.state _ stepped.state ∙ c.loop-event.invariant.setting;
      made = omega (arith, more, c.loop-event.invariant.made);
    }

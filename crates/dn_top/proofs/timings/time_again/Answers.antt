use Rattle.std.proofs.Common.{IfOk, sym, subst}
use Rattle.registration_protocol.specs.Node.{Setting}
use Rattle.dn_top.specs.declared.output.Output.{Output}
use Rattle.dn_top.specs.Runs.{IsAnyRunFor, IsTimedFor}
use Rattle.dn_top.proofs.RunOf.{reset-setting, at-start}
use Rattle.dn_top.proofs.timings.time_again.Goals as goal

pub sum_up-requires-clause-initial : goal.sum_up-requires-clause-initial
sum_up-requires-clause-initial c =
    at-start c.args.options.now c.args.machine.now.state.setting c.reset.new.self c.in_ok-reset.ensures.state c.in_ok-reset.ensures.made c.requires.setting

pub sum_up-requires-clause-run : goal.sum_up-requires-clause-run
sum_up-requires-clause-run c =
    subst (λ (C : Setting). IsAnyRunFor C.program c.args.options.now c.args.run) (sym (reset-setting c.args.machine.now.state.setting c.reset.new.self.state c.in_ok-reset.ensures.state)) c.requires.run

pub returns : goal.returns
returns c =
    subst (λ (C : Setting). IfOk c.sum_up.result (λ (out : Output). IsTimedFor C.program c.args.options.now c.args.run out)) (reset-setting c.args.machine.now.state.setting c.reset.new.self.state c.in_ok-reset.ensures.state) c.sum_up.ensures

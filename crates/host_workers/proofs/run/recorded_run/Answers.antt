use Rattle.std.proofs.Common.{◌≡◌, sym, subst, ◌∙◌, IfOk}
use Rattle.std.proofs.lemmas.Result.{IfOk-weaker}
use Rattle.registration_protocol.specs.Node.{Setting}
use Rattle.machine_rules.specs.State.{initial_state}
use Rattle.host_workers.specs.declared.run.WorkersRun.{WorkersRun}
use Rattle.host_workers.specs.RoundOf.{IsMadeByWorkers, IsRunSoFar}
use Rattle.host_workers.proofs.run.recorded_run.Goals as goal

pub kept_beside-requires-clause-far : goal.kept_beside-requires-clause-far
kept_beside-requires-clause-far g c =
    subst (λ (C : Setting). IsRunSoFar C c.in_ok-last.last c.make_rounds.new.log) (sym c.in_ok-last.ensures.setting) c.in_ok-last.ensures.far

pub kept_beside-requires-clause-over : goal.kept_beside-requires-clause-over
kept_beside-requires-clause-over g c = c.in_ok-last.ensures.over

pub returns-clause-made : goal.returns-clause-made
returns-clause-made g c =
    subst (λ (C : Setting). IfOk c.kept_beside.result (IsMadeByWorkers (initial_state C))) c.in_ok-last.ensures.setting c.kept_beside.ensures.made

pub returns-clause-setting : goal.returns-clause-setting
returns-clause-setting g c =
    IfOk-weaker c.kept_beside.result _ (λ (w : WorkersRun). w.machine.state.setting ≡ c.args.machine.state.setting)
    (λ w is. is ∙ c.in_ok-last.ensures.setting) c.kept_beside.ensures.setting

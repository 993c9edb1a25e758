use Rattle.std.proofs.Common.{refl, sym, subst, ◌∙◌, arith}
use Rattle.registration_protocol.specs.Node.{Setting}
use Rattle.host_workers.specs.RoundOf.{IsRunSoFar}
use Rattle.host_workers.proofs.RunSoFar.{few-events}
use Rattle.host_workers.proofs.run.make_rounds.Goals as goal

pub rounds-init : goal.rounds-init
rounds-init g c = record { far = c.requires.far; setting = refl }

pub go_on-requires-clause-far : goal.go_on-requires-clause-far
go_on-requires-clause-far g c κs within =
    subst (λ (C : Setting). IsRunSoFar C c.rounds.current c.rounds.log) (sym c.rounds.invariant.setting) c.rounds.invariant.far

pub go_on-requires-clause-comes : goal.go_on-requires-clause-comes
go_on-requires-clause-comes g c κs within = (c.in-Some._event, c.in-Some.ensures.comes)

pub rounds-preserved : goal.rounds-preserved
rounds-preserved g c =
    record {
      far = subst (λ (C : Setting). IsRunSoFar C c.in_ok-current.current c.go_on.new.log) c.rounds.invariant.setting c.in_ok-current.ensures.far;
      setting = c.in_ok-current.ensures.setting ∙ c.rounds.invariant.setting;
    }

pub rounds-smaller : goal.rounds-smaller
rounds-smaller g c =
    let more = c.in_ok-current.ensures.more in
    let few = few-events c.args.machine.state.setting c.rounds.current c.rounds.log c.rounds.invariant.far in
    omega (arith, more, few)

pub returns-clause-far : goal.returns-clause-far
returns-clause-far g c = c.rounds.invariant.far

pub returns-clause-over : goal.returns-clause-over
returns-clause-over g c = c.pick.ensures.none.0 c.in_default.is

pub returns-clause-setting : goal.returns-clause-setting
returns-clause-setting g c = c.rounds.invariant.setting

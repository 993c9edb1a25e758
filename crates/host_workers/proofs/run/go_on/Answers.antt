use Rattle.std.proofs.Common.{◌≡◌, ◌<◌, length, sym, ap, subst, ◌∙◌, arith}
use Rattle.std.proofs.lemmas.Result.{IfOk-weaker}
use Rattle.dn_machine.specs.declared.log.Log.{Log}
use Rattle.dn_machine.specs.Kept.{Made}
use Rattle.host_workers.specs.RoundOf.{IsRunSoFar}
use Rattle.host_workers.proofs.BothOk.{both-ok}
use Rattle.host_workers.proofs.RunSoFar.{stands-now, few-events, few-more, goes-on, some-more}
use Rattle.host_workers.proofs.RoundBy.{round-by}
use Rattle.host_workers.proofs.run.go_on.Goals as goal

pub run_round-requires-clause-made : goal.run_round-requires-clause-made
run_round-requires-clause-made g c κs within =
    omega (arith, few-events c.args.machine.state.setting c.args.machine c.args.log.now c.requires.far, c.requires.far.made)

pub finish_round-requires-clause-few : goal.finish_round-requires-clause-few
finish_round-requires-clause-few g c =
    let m = c.args.machine in
    let stands = stands-now m.state.setting m c.args.log.now c.requires.far in
    let r = c.in_ok-round.round in
    few-more m.state.setting m c.args.log.now r c.requires.far (round-by m c.args.workers r stands.0 stands.1 c.in_ok-round.ensures)

pub returns-clause-far : goal.returns-clause-far
returns-clause-far g c =
    let m = c.args.machine in
    let stands = stands-now m.state.setting m c.args.log.now c.requires.far in
    let r = c.in_ok-round.round in
    let by = round-by m c.args.workers r stands.0 stands.1 c.in_ok-round.ensures in
    both-ok c.finish_round.result _ _ (λ (left : Made). IsRunSoFar m.state.setting left c.finish_round.new.log)
    (λ left is told. subst (λ (l : Made). IsRunSoFar m.state.setting l c.finish_round.new.log) (sym is)
    (goes-on m.state.setting m c.args.log.now told.noted c.finish_round.new.log r c.requires.far by told.entries told.ends))
    c.finish_round.ensures.machine c.finish_round.ensures.noted

pub returns-clause-more : goal.returns-clause-more
returns-clause-more g c =
    let m = c.args.machine in
    let stands = stands-now m.state.setting m c.args.log.now c.requires.far in
    let r = c.in_ok-round.round in
    let by = round-by m c.args.workers r stands.0 stands.1 c.in_ok-round.ensures in
    IfOk-weaker c.finish_round.result _ (λ (left : Made). length c.args.log.now.events < length c.finish_round.new.log.events)
    (λ left told.
    let more = some-more m r c.requires.comes.0 c.args.log.now told.noted by c.requires.comes.1 told.entries in
    omega (arith, more, ap (λ (l : Log). length l.events) told.ends))
    c.finish_round.ensures.noted

pub returns-clause-setting : goal.returns-clause-setting
returns-clause-setting g c =
    let m = c.args.machine in
    let stands = stands-now m.state.setting m c.args.log.now c.requires.far in
    let by = round-by m c.args.workers c.in_ok-round.round stands.0 stands.1 c.in_ok-round.ensures in
    IfOk-weaker c.finish_round.result _ (λ (left : Made). left.state.setting ≡ m.state.setting)
    (λ left is. ap (λ (l : Made). l.state.setting) is ∙ by.setting)
    c.finish_round.ensures.machine

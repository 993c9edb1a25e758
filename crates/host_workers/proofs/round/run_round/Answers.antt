use Rattle.std.proofs.Common.{◌<◌, sym, ap, subst, refl}
use Rattle.std.proofs.lemmas.Result.{IfOk-weaker}
use Rattle.dn_machine.specs.Kept.{Made}
use Rattle.machine_rules.specs.State.{State}
use Rattle.host_workers.specs.Opening.{StandsFor}
use Rattle.host_workers.specs.MadeRounds.{IsMadeRound, made_from_parts}
use Rattle.host_workers.proofs.RunRound.{stands-kept}
use Rattle.host_workers.proofs.round.run_round.Goals as goal

pub finished_round-requires-clause-far : goal.finished_round-requires-clause-far
finished_round-requires-clause-far g c κs within =
    subst (λ n. n < 3000000000) (ap (λ (m : Made). m.made) (sym c.parts_of-fixed.ensures.parts)) c.requires.made

pub put_together-requires : goal.put_together-requires
put_together-requires g c =
    let M = (made_from_parts c.parts_of-fixed.result.0 c.parts_of-fixed.result.1).state in
    let stands = stands-kept M c.parts_of-fixed.result.0.made c.parts_of-fixed.ensures.kept in
    (stands.0, M, c.args.workers, c.in_ok-finished.ensures stands.0 stands.1, refl)

pub returns : goal.returns
returns g c =
    let M = (made_from_parts c.parts_of-fixed.result.0 c.parts_of-fixed.result.1).state in
    IfOk-weaker c.put_together.result _ (λ round. (S : State) → StandsFor S c.args.machine.state → IsMadeRound S c.args.machine.state c.args.machine.made c.args.workers round)
    (λ round made S there.
    let stands = subst (λ (m : Made). StandsFor S m.state) (sym c.parts_of-fixed.ensures.parts) there in
    subst (λ (m : Made). IsMadeRound S m.state m.made c.args.workers round) c.parts_of-fixed.ensures.parts (made S M c.args.workers (c.in_ok-finished.ensures S stands) refl))
    c.put_together.ensures

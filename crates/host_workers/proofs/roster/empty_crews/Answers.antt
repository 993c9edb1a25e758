use Rattle.std.proofs.Common.{◌≡◌, ◌==◌, Some, None, if◌then◌else◌, ap, subst, arith, ne_eqb, option_map}
use Rattle.host_workers.specs.Crews.{keeper_log}
use Rattle.host_workers.specs.Rosters.{AreCrewsOf}
use Rattle.host_workers.proofs.Dealing.{nothing, crew-begun}
use Rattle.host_workers.proofs.roster.empty_crews.Goals as goal

pub loop-worker-preserved : goal.loop-worker-preserved
loop-worker-preserved c =
    let crew = c.empty_crew-in-loop-worker.result in
    let has = c.empty_crew-in-loop-worker.ensures in
    let later = ne_eqb c.loop-worker.worker 0 (λ e. absurd (omega (arith, e))) in
    let none : keeper_log crew ≡ (if c.loop-worker.worker == 0 then Some c.args.keeper.items else None) = rw later (ap (λ k. option_map (λ log. log.items) k) has.keeper) in
    rw c.in_ok-push-2.ensures.items (crew-begun c.loop-worker.worker c.args.keeper.items c.loop-worker.crews.items crew c.loop-worker.invariant has.worker has.cores has.banks none)

pub returns : goal.returns
returns c =
    let all : c.loop-worker.worker ≡ c.args.workers = omega arith in
    subst (λ n. AreCrewsOf n (nothing c.args.keeper.items) c.loop-worker.crews.items) all c.loop-worker.invariant

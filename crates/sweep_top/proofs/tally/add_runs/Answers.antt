use Rattle.std.proofs.Common.{◌≡◌, ℕ, subst, arith}
use Rattle.sweep_top.specs.Kept.{HasTallied}
use Rattle.sweep_top.proofs.Tallies.{last-tallied, tallied-more}
use Rattle.sweep_top.proofs.tally.add_runs.Goals as goal

pub loop-seed-preserved : goal.loop-seed-preserved
loop-seed-preserved c =
    record {
      within = omega (arith, c.loop-seed-test.true);
      made =
          tallied-more c.args.machine.now.state.setting.program c.args.options.now c.args.seeds.first c.loop-seed.seed c.loop-seed.tally c.add_run.new.tally
          c.loop-seed.invariant.made c.in_ok-add_run.ensures;
    }

pub returns : goal.returns
returns c =
    let P = c.args.machine.now.state.setting.program in
    let o = c.args.options.now in
    let end' : c.loop-seed.seed ≡ c.args.seeds.last = omega (arith, c.loop-seed-test.false, c.loop-seed.invariant.within) in
    let made = subst (λ (n : ℕ). HasTallied P o c.args.seeds.first n c.loop-seed.tally) end' c.loop-seed.invariant.made in
    last-tallied P o c.args.seeds.first c.args.seeds.last c.loop-seed.tally c.add_run-2.new.tally c.add_run-2.result made c.add_run-2.ensures

use Rattle.std.proofs.Common.{◌≡◌, ℕ, subst, arith}
use Rattle.sweep_top.specs.Table.{HasRunRows}
use Rattle.sweep_top.proofs.RowLemmas.{one-more, last-more}
use Rattle.sweep_top.proofs.table.push_runs.Goals as goal

pub loop-seed-preserved : goal.loop-seed-preserved
loop-seed-preserved c =
    record {
      within = omega (arith, c.loop-seed-test.true);
      rows =
          one-more c.args.machine.now.state.setting.program c.args.options.now c.args.seeds.first c.loop-seed.seed c.args.out.now.items c.loop-seed.out.items
          c.push_run.new.out.items c.loop-seed.invariant.rows c.in_ok-push_run.ensures;
    }

pub returns : goal.returns
returns c =
    let P = c.args.machine.now.state.setting.program in
    let o = c.args.options.now in
    let end' : c.loop-seed.seed ≡ c.args.seeds.last = omega (arith, c.loop-seed-test.false, c.loop-seed.invariant.within) in
    let rows = subst (λ (n : ℕ). HasRunRows P o c.args.seeds.first n c.args.out.now.items c.loop-seed.out.items) end' c.loop-seed.invariant.rows in
    last-more P o c.args.seeds.first c.args.seeds.last c.args.out.now.items c.loop-seed.out.items c.push_run-2.new.out.items c.push_run-2.result rows c.push_run-2.ensures

use Rattle.sweep_top.proofs.tally.tally_of_seeds.Goals as goal

pub add_runs-requires-clause-new : goal.add_runs-requires-clause-new
add_runs-requires-clause-new c = c.new-tally.ensures.tally c.args.options.now.retired c.args.options.now.seeds.first

use Rattle.std.proofs.Common.{◌≡◌, ◌+◌, ◌-◌, ◌*◌, arith}
use Rattle.word_cache.proofs.PlacesLemmas.{set_pairs, set_fits, set_apart}
use Rattle.word_cache.proofs.looks.set_of.Goals as goal

pub returns-clause-pairs : goal.returns-clause-pairs
returns-clause-pairs c =
    let count : c.args.set * c.args.ways + c.args.ways - c.args.set * c.args.ways ≡ c.args.ways = omega arith in
    rw count (set_pairs c.args.sets c.args.ways c.args.set c.args.row.now c.requires.row (set_fits c.args.sets c.args.ways c.args.set c.args.row.now c.requires.row c.requires.set))

pub returns-clause-times : goal.returns-clause-times
returns-clause-times c =
    let count : c.args.set * c.args.ways + c.args.ways - c.args.set * c.args.ways ≡ c.args.ways = omega arith in
    rw count (set_apart c.args.sets c.args.ways c.args.set c.args.row.now c.requires.row (set_fits c.args.sets c.args.ways c.args.set c.args.row.now c.requires.row c.requires.set))

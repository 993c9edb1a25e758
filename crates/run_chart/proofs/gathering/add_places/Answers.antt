use Rattle.std.proofs.Common.{length, None, arith}
use Rattle.word_cache.specs.declared.row.Place.{Place}
use Rattle.run_chart.proofs.Gathered.{place-added, places-added}
use Rattle.run_chart.proofs.gathering.add_places.Goals as goal

pub loop-place-preserved : goal.loop-place-preserved
loop-place-preserved c =
    let other : Place = record { pair = None; used = 0 } in
    place-added (length c.args.program.now.memory) c.args.places.now c.loop-place.place-index other c.args.words.now.items c.loop-place.words.items c.add_place.new.words.items c.loop-place-test.true
    c.loop-place.invariant c.in_ok-add_place.ensures

pub returns : goal.returns
returns c =
    places-added (length c.args.program.now.memory) c.args.places.now c.loop-place.place-index c.args.words.now.items c.loop-place.words.items
    (omega (arith, c.loop-place-test.false)) c.loop-place.invariant

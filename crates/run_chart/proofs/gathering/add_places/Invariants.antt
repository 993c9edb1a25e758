use Rattle.std.proofs.Common.{length}
use Rattle.run_chart.proofs.Gathered.{ArePlacesAdded}
use Rattle.run_chart.proofs.gathering.add_places.Given as goal

abbrev pub invariant-loop-place : goal.invariant-loop-place
invariant-loop-place l = ArePlacesAdded (length l.program.memory) l.places l.place-index l.fn.words.items l.words.items

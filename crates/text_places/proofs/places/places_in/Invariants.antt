use Rattle.std.proofs.Common.{◌≡◌, map, drop}
use Rattle.rv_assembler.specs.Reading.{reading_of}
use Rattle.text_places.specs.Walk.{no_places, with_readings}
use Rattle.text_places.proofs.places.places_in.Given as goal

-- the lines that are left lead from the places so far to all places
abbrev pub invariant-loop-line : goal.invariant-loop-line
invariant-loop-line l =
    with_readings l.places (map (reading_of l.version l.text) (drop l.line-index l.lines)) ≡ with_readings no_places (map (reading_of l.version l.text) l.lines)

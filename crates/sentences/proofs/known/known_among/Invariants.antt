use Rattle.std.proofs.Common.{◌≡◌, map, drop}
use Rattle.rv_assembler.specs.Reading.{reading_of}
use Rattle.sentences.specs.Known.{known_among}
use Rattle.sentences.proofs.known.known_among.Given as goal

-- no line so far declares the name
abbrev pub invariant-loop-line : goal.invariant-loop-line
invariant-loop-line l =
    known_among l.text l.name (map (reading_of l.version l.text) (drop l.line-index l.lines)) ≡ known_among l.text l.name (map (reading_of l.version l.text) l.lines)

use Rattle.std.proofs.Common.{◌≡◌, ◌++◌, map, drop}
use Rattle.rv_assembler.specs.Reading.{reading_of}
use Rattle.sentences.specs.Effects.{effects_behind}
use Rattle.sentences.proofs.effects.effects_among.Given as goal

-- the lines with effects so far, and those of the lines that are left
abbrev pub invariant-loop-line : goal.invariant-loop-line
invariant-loop-line l =
    l.effects ++ effects_behind l.family (map (reading_of l.version l.text) (drop l.line-index l.lines))
    ≡ effects_behind 0 (map (reading_of l.version l.text) l.lines)

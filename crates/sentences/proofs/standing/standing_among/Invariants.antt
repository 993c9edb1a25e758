use Rattle.std.proofs.Common.{◌≡◌, map, drop}
use Rattle.rv_assembler.specs.Reading.{reading_of}
use Rattle.sentences.specs.declared.standing.Standing.TheVariants.{NoPhase}
use Rattle.sentences.specs.Standing.{standing_after}
use Rattle.sentences.proofs.standing.standing_among.Given as goal

-- the lines that are left lead from where it stands so far to where it stands
abbrev pub invariant-loop-earlier : goal.invariant-loop-earlier
invariant-loop-earlier l =
    standing_after l.family l.line l.standing (map (reading_of l.version l.text) (drop l.earlier-index l.lines))
    ≡ standing_after l.family l.line NoPhase (map (reading_of l.version l.text) l.lines)

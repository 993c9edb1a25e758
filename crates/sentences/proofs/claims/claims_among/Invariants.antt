use Rattle.std.proofs.Common.{◌≡◌, ◌++◌, map, drop}
use Rattle.rv_assembler.specs.Reading.{reading_of}
use Rattle.sentences.specs.Claims.{claims_behind}
use Rattle.sentences.proofs.claims.claims_among.Given as goal

-- the claims so far, and those of the lines that are left
abbrev pub invariant-loop-line : goal.invariant-loop-line
invariant-loop-line l =
    l.claims ++ claims_behind l.text l.program l.contender l.family (map (reading_of l.version l.text) (drop l.line-index l.lines))
    ≡ claims_behind l.text l.program l.contender 0 (map (reading_of l.version l.text) l.lines)

use Rattle.std.proofs.Common.{◌≡◌, ◌++◌, take}
use Rattle.std.specs.List.{flat_map}
use Rattle.sentences.specs.Conflicts.{claiming_line}
use Rattle.sentences.proofs.claiming.push_claiming_lines.Given as goal

-- the lines so far
abbrev pub invariant-loop-line : goal.invariant-loop-line
invariant-loop-line l = l.out.items ≡ l.initial.out.items ++ flat_map (claiming_line l.text) (take l.line-index l.lines)

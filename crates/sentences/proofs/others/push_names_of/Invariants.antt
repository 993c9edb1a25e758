use Rattle.std.proofs.Common.{◌≡◌, ◌++◌, take}
use Rattle.std.specs.List.{flat_map}
use Rattle.sentences.specs.Others.{listed_at}
use Rattle.sentences.proofs.others.push_names_of.Given as goal

-- the names of the lines so far
abbrev pub invariant-loop-line : goal.invariant-loop-line
invariant-loop-line l = l.out.items ≡ l.initial.out.items ++ flat_map (listed_at l.text l.version l.wanted) (take l.line-index l.lines)

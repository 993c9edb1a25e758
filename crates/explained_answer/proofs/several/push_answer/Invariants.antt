use Rattle.std.proofs.Common.{◌≡◌, ◌++◌, take, flat_map, option_copied}
use Rattle.explained_answer.specs.Lines.{explained_line, lines_in}
use Rattle.explained_answer.specs.RunAgain.{answer_again}
use Rattle.explained_answer.proofs.several.push_answer.Given as goal

-- the lines so far
abbrev pub invariant-loop-read : goal.invariant-loop-read
invariant-loop-read l =
    l.out.items
    ≡ l.initial.out.items
    ++ flat_map (explained_line l.text l.located (answer_again (option_copied l.again) (lines_in l.lines)) (lines_in l.lines)) (lines_in (take l.read-index l.lines))

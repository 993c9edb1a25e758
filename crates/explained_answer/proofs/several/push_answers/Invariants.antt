use Rattle.std.proofs.Common.{◌≡◌, ◌++◌, take, map, flat_map, option_copied}
use Rattle.explained_answer.specs.Lines.{answer_and_sentences, lines_of_one}
use Rattle.explained_answer.proofs.several.push_answers.Given as goal

-- the answers so far
abbrev pub invariant-loop-answer : goal.invariant-loop-answer
invariant-loop-answer l =
    l.out.items
    ≡ l.initial.out.items ++ flat_map (answer_and_sentences l.text l.located (option_copied l.again)) (map (lines_of_one l.lines) (take l.answer-index l.answers))

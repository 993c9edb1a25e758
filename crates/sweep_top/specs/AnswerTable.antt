-- The table of answers: a head line, and a row for each different answer. Its columns have commas between them.
use Rattle.std.specs.Prelude.{ℕ, Bool, List, ◌++◌, codes, flat_map}
use Rattle.std.specs.Fmt.{decimal}
use Rattle.text_pieces.specs.Pieces.{newline}
use Rattle.run_report.specs.Answer.{outcome_word}
use Rattle.dn_machine.specs.declared.record.RunRecord.{RunRecord}
use Rattle.sweep_top.specs.Table.{comma, count_cell, checksum_cell}
use Rattle.sweep_top.specs.Tally.{CountedAnswer, different_answers}

unfoldable pub answers_head : List ℕ
answers_head = codes "seed,runs,outcome,retired,answer\n"

-- the least seed with the answer, how many runs have it, the outcome, the instructions that all tasks of its run retired, and the
-- checksum of the answer as it is compared
unfoldable pub answer_row : CountedAnswer → List ℕ
answer_row e =
    decimal e.1.seed ++ count_cell e.1.runs ++ comma ++ outcome_word e.1.outcome ++ count_cell e.1.retired ++ checksum_cell e.0 ++ newline

-- the table of the answers of these runs, whose seeds go on from the first one
unfoldable pub answers_table : (retired : Bool) → ℕ → List RunRecord → List ℕ
answers_table retired first runs = answers_head ++ flat_map answer_row (different_answers retired first runs)

-- The table of runs: a head line, and a row for each seed. Its columns have commas between them.
use Rattle.std.specs.Prelude.{◌≡◌, ℕ, ◌+◌, List, [], ◌∷◌, ◌++◌, length, codes, flat_map, sum}
use Rattle.std.specs.Fmt.{decimal}
use Rattle.region_table.specs.Program.{ProgramParts}
use Rattle.message_net.specs.declared.event.EventKind.{EventKind}
use Rattle.text_pieces.specs.Pieces.{newline}
use Rattle.run_report.specs.Answer.{answer_of, outcome_word}
use Rattle.run_report.specs.Grants.{grant_lines}
use Rattle.run_report.specs.Run.{all_kinds, event_word}
use Rattle.run_report.specs.Summary.{retired_by_all}
use Rattle.dn_machine.specs.declared.record.RunRecord.{RunRecord}
use Rattle.dn_top.specs.Runs.{IsRunFor}
use Rattle.sweep_top.specs.declared.options.SweepOptions.{SweepOptions}
use Rattle.sweep_top.specs.Checksum.{checksum, long_hexadecimal}
use Rattle.sweep_top.specs.Runs.{options_at, AreRunsFrom}

abbrev pub comma : List ℕ
comma = 44 ∷ []

-- ---- the head

-- a kind of event has a column of its name
abbrev pub kind_name : EventKind → List ℕ
kind_name k = comma ++ event_word k

-- the names of the columns: the kinds of event stand in the order of denovo's lines `count`
unfoldable pub table_head : List ℕ
table_head = codes "seed,outcome,retired,events" ++ flat_map kind_name all_kinds ++ codes ",answer,grants\n"

-- ---- a row

abbrev pub count_cell : ℕ → List ℕ
count_cell count = comma ++ decimal count

unfoldable pub checksum_cell : List ℕ → List ℕ
checksum_cell text = comma ++ long_hexadecimal (checksum text)

-- the seed, the outcome, the instructions that all tasks retired, how many events there were, and how many of each kind
unfoldable pub counts_part : ℕ → RunRecord → List ℕ
counts_part seed r =
    decimal seed ++ comma ++ outcome_word r.ending.outcome ++ count_cell (retired_by_all r.ending.tasks) ++ count_cell (sum r.counts.kinds)
    ++ flat_map count_cell r.counts.kinds

-- the row of a seed's run; its last columns are the checksums of the answer that denovo prints first, and of the lines of grants
unfoldable pub table_row : ℕ → RunRecord → List ℕ
table_row seed r = counts_part seed r ++ checksum_cell (answer_of r.ending) ++ checksum_cell (grant_lines r.grants) ++ newline

-- ---- the table

-- the rows of the runs, whose seeds go on from this one
abbrev pub table_rows : ℕ → List RunRecord → List ℕ
table_rows seed [] = []
table_rows seed (r ∷ rs) = table_row seed r ++ table_rows (seed + 1) rs

unfoldable pub runs_table : ℕ → List RunRecord → List ℕ
runs_table first runs = table_head ++ table_rows first runs

-- ---- as it is written

-- the row of the seed's run was appended
pub record HasRunRow (P : ProgramParts) (o : SweepOptions) (seed : ℕ) (before now : List ℕ) : Type 0 where
  pub run : RunRecord
  pub is : IsRunFor P (options_at o seed) run
  pub text : now ≡ before ++ table_row seed run

-- the rows of the seeds from `first` on, before `next`, were appended
pub record HasRunRows (P : ProgramParts) (o : SweepOptions) (first next : ℕ) (before now : List ℕ) : Type 0 where
  pub runs : List RunRecord
  pub each : AreRunsFrom P o first runs
  pub count : first + length runs ≡ next
  pub text : now ≡ before ++ table_rows first runs

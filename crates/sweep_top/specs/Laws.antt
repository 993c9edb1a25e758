-- Definitions for the laws of what is printed, in src/laws.rt.
use Rattle.std.specs.Prelude.{◌≡◌, ℕ, ◌≤◌, List, ◌++◌, Some}
use Rattle.dn_machine.specs.declared.record.RunRecord.{RunRecord}
use Rattle.checked_runs.specs.Runs.{reported}
use Rattle.dn_top.specs.declared.output.Output.{Output}
use Rattle.dn_top.specs.Answers.{IsAnswer}
use Rattle.sweep_top.specs.declared.options.Seeds.{Seeds}
use Rattle.sweep_top.specs.declared.options.SweepOptions.{SweepOptions}
use Rattle.sweep_top.specs.Runs.{options_at}
use Rattle.sweep_top.specs.Table.{table_row}

-- the seed is asked for
pub record IsAsked (seeds : Seeds) (seed : ℕ) : Type 0 where
  pub from' : seeds.first ≤ seed
  pub to' : seed ≤ seeds.last

-- denovo answers the text in the mode run by this seed with the report of a run, and this run's row is in the table
pub record IsRowOfDenovo (o : SweepOptions) (text : List ℕ) (seed : ℕ) (table : List ℕ) : Type 0 where
  pub said : Output
  pub answer : IsAnswer (options_at o seed) text said
  pub run : RunRecord
  pub hands : said.run ≡ Some run
  pub prints : said.bytes ≡ reported run
  pub above : List ℕ
  pub below : List ℕ
  pub row : table ≡ above ++ table_row seed run ++ below

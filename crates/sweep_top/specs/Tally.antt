-- What is counted over many runs: which answers came how often, the outcomes, and the least and the most of each number.
use Rattle.std.specs.Prelude.{ℕ, ◌+◌, Bool, true, false, min, max, List, [], ◌∷◌, map, fold, sum, count_by, bytes_eq, if◌then◌else◌}
use Rattle.dn_base.specs.declared.status.Outcome as outcome
use Rattle.dn_base.specs.declared.status.Outcome.{Outcome}
use Rattle.message_net.specs.declared.event.EventKind.{EventKind}
use Rattle.grant_log.specs.Counts.{kind_count}
use Rattle.run_report.specs.Answer.{answer_of, answer_without_retired}
use Rattle.run_report.specs.Grants.{grant_lines}
use Rattle.run_report.specs.Summary.{retired_by_all}
use Rattle.dn_machine.specs.declared.record.RunRecord.{RunRecord}
use Rattle.sweep_top.specs.declared.counts.AnswerCount.{AnswerCount}
use Rattle.sweep_top.specs.declared.counts.OutcomeCounts.{OutcomeCounts}
use Rattle.sweep_top.specs.declared.spread.Spread.{Spread}
use Rattle.sweep_top.specs.declared.spread.Summed.{Summed}
use Rattle.sweep_top.specs.Checksum.{checksum}

-- ---- the answers

-- an answer, as its text, and how often it came
abbrev pub CountedAnswer : Type 0
CountedAnswer = List ℕ × AnswerCount

-- the answer of a run as it is compared with others: as denovo prints it first, or without the counts of retired instructions
abbrev pub compared_answer : (retired : Bool) → RunRecord → List ℕ
compared_answer true r = answer_of r.ending
compared_answer false r = answer_without_retired r.ending

abbrev pub retired_of_run : RunRecord → ℕ
retired_of_run r = retired_by_all r.ending.tasks

-- the answer of the run of a seed, which came once
abbrev pub counted_once : ℕ → RunRecord → AnswerCount
counted_once seed r = record { seed = seed; runs = 1; outcome = r.ending.outcome; retired = retired_of_run r }

-- the same answer came once more
abbrev pub came_again : AnswerCount → AnswerCount
came_again c = record c { runs = c.runs + 1 }

-- the counts after one more run has this answer. Answers are compared by their bytes; a new one goes last
abbrev pub tallied : List ℕ → AnswerCount → List CountedAnswer → List CountedAnswer
tallied text once [] = (text, once) ∷ []
tallied text once (e ∷ es) = if bytes_eq text e.0 then (e.0, came_again e.1) ∷ es else e ∷ tallied text once es

-- the counts after these runs, whose seeds go on from this one
abbrev pub counted_from : (retired : Bool) → List CountedAnswer → ℕ → List RunRecord → List CountedAnswer
counted_from retired es seed [] = es
counted_from retired es seed (r ∷ rs) = counted_from retired (tallied (compared_answer retired r) (counted_once seed r) es) (seed + 1) rs

-- the different answers of the runs, whose seeds go on from `first`, in the order of their least seeds
unfoldable pub different_answers : (retired : Bool) → ℕ → List RunRecord → List CountedAnswer
different_answers retired first runs = counted_from retired [] first runs

-- ---- the outcomes

abbrev pub is_done : Outcome → Bool
is_done outcome.TheVariants.Done = true
is_done outcome.TheVariants.Trapped = false
is_done outcome.TheVariants.Fuel = false
is_done outcome.TheVariants.Stuck = false

abbrev pub is_trapped_outcome : Outcome → Bool
is_trapped_outcome outcome.TheVariants.Done = false
is_trapped_outcome outcome.TheVariants.Trapped = true
is_trapped_outcome outcome.TheVariants.Fuel = false
is_trapped_outcome outcome.TheVariants.Stuck = false

abbrev pub is_out_of_fuel : Outcome → Bool
is_out_of_fuel outcome.TheVariants.Done = false
is_out_of_fuel outcome.TheVariants.Trapped = false
is_out_of_fuel outcome.TheVariants.Fuel = true
is_out_of_fuel outcome.TheVariants.Stuck = false

abbrev pub is_stuck_outcome : Outcome → Bool
is_stuck_outcome outcome.TheVariants.Done = false
is_stuck_outcome outcome.TheVariants.Trapped = false
is_stuck_outcome outcome.TheVariants.Fuel = false
is_stuck_outcome outcome.TheVariants.Stuck = true

-- how many runs have an outcome that passes the test
abbrev pub outcome_count : (Outcome → Bool) → List RunRecord → ℕ
outcome_count test runs = count_by (λ (r : RunRecord). test r.ending.outcome) runs

abbrev pub outcomes_of : List RunRecord → OutcomeCounts
outcomes_of runs =
    record { done = outcome_count is_done runs; trapped = outcome_count is_trapped_outcome runs; fuel = outcome_count is_out_of_fuel runs; stuck = outcome_count is_stuck_outcome runs }

-- ---- the least and the most

-- the least and the most of some numbers; there is at least one where they are looked at
abbrev pub spread_of : List ℕ → Spread
spread_of [] = record { least = 0; most = 0 }
spread_of (x ∷ xs) = record { least = fold min x xs; most = fold max x xs }

-- the same, with the sum
abbrev pub summed_of : List ℕ → Summed
summed_of xs = record { spread = spread_of xs; sum = sum xs }

-- the events of a run, of all kinds
abbrev pub events_of_run : RunRecord → ℕ
events_of_run r = sum r.counts.kinds

-- how many events of a kind each run has
abbrev pub kind_of_runs : List RunRecord → EventKind → List ℕ
kind_of_runs runs k = map (λ (r : RunRecord). kind_count k r.counts) runs

-- ---- the orders of grants

-- the checksum of the lines of grants of each run
abbrev pub grant_checksums : List RunRecord → List ℕ
grant_checksums runs = map (λ (r : RunRecord). checksum (grant_lines r.grants)) runs

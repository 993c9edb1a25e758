-- The summary of many runs.
use Rattle.std.specs.Prelude.{ℕ, Bool, List, ◌++◌, length, map, nat_eq, codes, flat_map}
use Rattle.std.specs.Fmt.{decimal}
use Rattle.std.specs.Set.{distinct_count}
use Rattle.dn_base.specs.declared.status.Outcome as outcome
use Rattle.dn_base.specs.declared.status.Outcome.{Outcome}
use Rattle.message_net.specs.declared.event.EventKind.{EventKind}
use Rattle.text_pieces.specs.Pieces.{newline, space}
use Rattle.run_report.specs.Answer.{outcome_word}
use Rattle.run_report.specs.Run.{all_kinds, event_word}
use Rattle.run_report.specs.Summary.{count_line}
use Rattle.dn_machine.specs.declared.record.RunRecord.{RunRecord}
use Rattle.sweep_top.specs.declared.spread.Spread.{Spread}
use Rattle.sweep_top.specs.declared.spread.Summed.{Summed}
use Rattle.sweep_top.specs.declared.counts.OutcomeCounts.{OutcomeCounts}
use Rattle.sweep_top.specs.Tally.{different_answers, outcomes_of, spread_of, summed_of, retired_of_run, events_of_run, kind_of_runs, grant_checksums}

-- how many runs have an outcome
unfoldable pub outcome_count_line : Outcome → ℕ → List ℕ
outcome_count_line o count = codes "outcome " ++ outcome_word o ++ space ++ decimal count ++ newline

unfoldable pub outcome_lines : OutcomeCounts → List ℕ
outcome_lines c =
    outcome_count_line outcome.TheVariants.Done c.done ++ outcome_count_line outcome.TheVariants.Trapped c.trapped
    ++ outcome_count_line outcome.TheVariants.Fuel c.fuel ++ outcome_count_line outcome.TheVariants.Stuck c.stuck

-- the least and the most of a number of all runs
unfoldable pub spread_part : Spread → List ℕ
spread_part q = codes " least " ++ decimal q.least ++ codes " most " ++ decimal q.most

-- and their sum
unfoldable pub summed_line : List ℕ → Summed → List ℕ
summed_line name s = name ++ spread_part s.spread ++ codes " sum " ++ decimal s.sum ++ newline

-- a kind of event
unfoldable pub kind_spread_line : EventKind → Spread → List ℕ
kind_spread_line k q = codes "count " ++ event_word k ++ spread_part q ++ newline

abbrev pub kind_lines : List RunRecord → List ℕ
kind_lines runs = flat_map (λ (k : EventKind). kind_spread_line k (spread_of (kind_of_runs runs k))) all_kinds

-- how many runs there are, how they ended, how many different answers and orders of grants they have, and the least and the most of
-- their retired instructions and events. Orders of grants are different if their checksums are
unfoldable pub runs_summary : (retired : Bool) → ℕ → List RunRecord → List ℕ
runs_summary retired first runs =
    count_line (codes "runs ") (length runs) ++ outcome_lines (outcomes_of runs) ++ count_line (codes "answers ") (length (different_answers retired first runs))
    ++ count_line (codes "grants ") (distinct_count nat_eq (grant_checksums runs)) ++ summed_line (codes "retired") (summed_of (map retired_of_run runs))
    ++ summed_line (codes "events") (summed_of (map events_of_run runs)) ++ kind_lines runs

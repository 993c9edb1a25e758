-- What is kept of the runs that were made: how it grows by each of them.
use Rattle.std.specs.Prelude.{◌≡◌, ℕ, Bool, ◌+◌, ◌*◌, ◌==◌, ◌≤◌, min, max, List, [], ◌∷◌, ◌++◌, length, map, flat_map, nat_eq, slice_index_or, codes, Vec, Option, Some, None, if◌then◌else◌}
use Rattle.std.specs.Set.{distinct_count}
use Rattle.dn_base.specs.declared.status.Outcome as outcome
use Rattle.dn_base.specs.declared.status.Outcome.{Outcome}
use Rattle.message_net.specs.declared.event.EventKind.{EventKind}
use Rattle.message_net.specs.Kind.{kind_index}
use Rattle.region_table.specs.Program.{ProgramParts}
use Rattle.run_report.specs.Grants.{grant_lines}
use Rattle.run_report.specs.Run.{all_kinds}
use Rattle.run_report.specs.Summary.{count_line}
use Rattle.dn_machine.specs.declared.record.RunRecord.{RunRecord}
use Rattle.dn_top.specs.Runs.{IsRunFor}
use Rattle.sweep_top.specs.declared.counts.AnswerCount.{AnswerCount}
use Rattle.sweep_top.specs.declared.counts.OutcomeCounts.{OutcomeCounts}
use Rattle.sweep_top.specs.declared.options.SweepOptions.{SweepOptions}
use Rattle.sweep_top.specs.declared.spread.Spread.{Spread}
use Rattle.sweep_top.specs.declared.spread.Summed.{Summed}
use Rattle.sweep_top.specs.declared.tally.Tally.{Tally}
use Rattle.sweep_top.specs.Checksum.{checksum}
use Rattle.sweep_top.specs.Summary.{kind_spread_line, outcome_lines, summed_line}
use Rattle.sweep_top.specs.Runs.{options_at, AreRunsFrom}
use Rattle.sweep_top.specs.Tally.{CountedAnswer, compared_answer, counted_once, came_again, tallied, different_answers, outcomes_of, spread_of, summed_of, retired_of_run, events_of_run, kind_of_runs, grant_checksums}

-- ---- one more number

-- the least and the most after one more number, where there were `before` of them
abbrev pub widened : ℕ → Spread → ℕ → Spread
widened before q x = if before == 0 then record { least = x; most = x } else record { least = min q.least x; most = max q.most x }

abbrev pub summed_with : ℕ → Summed → ℕ → Summed
summed_with before s x = record { spread = widened before s.spread x; sum = s.sum + x }

-- the same of several numbers, one for each; where there are fewer, the others stay
abbrev pub widened_each : ℕ → List Spread → List ℕ → List Spread
widened_each before [] xs = []
widened_each before (q ∷ qs) [] = q ∷ qs
widened_each before (q ∷ qs) (x ∷ xs) = widened before q x ∷ widened_each before qs xs

abbrev pub with_outcome : OutcomeCounts → Outcome → OutcomeCounts
with_outcome c outcome.TheVariants.Done = record c { done = c.done + 1 }
with_outcome c outcome.TheVariants.Trapped = record c { trapped = c.trapped + 1 }
with_outcome c outcome.TheVariants.Fuel = record c { fuel = c.fuel + 1 }
with_outcome c outcome.TheVariants.Stuck = record c { stuck = c.stuck + 1 }

-- ---- limits, so that no sum wraps

-- no count of outcomes is above n
pub record AreOutcomesWithin (n : ℕ) (c : OutcomeCounts) : Type 0 where
  pub done : c.done ≤ n
  pub trapped : c.trapped ≤ n
  pub fuel : c.fuel ≤ n
  pub stuck : c.stuck ≤ n

-- the sum of n numbers of 64 bits
abbrev pub IsSumWithin : ℕ → ℕ → Type 0
IsSumWithin n total = total ≤ n * 18446744073709551615

-- ---- a tally

-- the entries of a map as counted answers: each key is a text
abbrev pub counted_answers : {A : Type 0} → List (Vec ℕ A × AnswerCount) → List CountedAnswer
counted_answers {A} es = map (λ (e : Vec ℕ A × AnswerCount). (e.0.items, e.1)) es

-- the count of an answer after one more run has it, if it was found so
abbrev pub raised_count : AnswerCount → Option AnswerCount → AnswerCount
raised_count once None = once
raised_count once (Some c) = came_again c

-- no answer came more than n times
abbrev pub AreAnswersWithin : ℕ → List CountedAnswer → Type 0
AreAnswersWithin n [] = Unit {0}
AreAnswersWithin n (e ∷ es) = (e.1.runs ≤ n) × AreAnswersWithin n es

-- the numbers of a tally are within those of its runs
pub record IsSeedWithin (t : Tally) : Type 0 where
  pub outcomes : AreOutcomesWithin t.runs t.outcomes
  pub retired : IsSumWithin t.runs t.retired.sum
  pub events : IsSumWithin t.runs t.events.sum
  pub answers : AreAnswersWithin t.runs (counted_answers t.answers.entries)

-- the tally has one more run, that of the seed; its answer is compared with its counts of instructions or without them
pub record IsTallyWith (retired : Bool) (seed : ℕ) (r : RunRecord) (old new : Tally) : Type 0 where
  pub runs : new.runs ≡ old.runs + 1
  pub outcomes : new.outcomes ≡ with_outcome old.outcomes r.ending.outcome
  pub sum : new.retired ≡ summed_with old.runs old.retired (retired_of_run r)
  pub sum_within : retired_of_run r ≤ 18446744073709551615
  pub events : new.events ≡ summed_with old.runs old.events (events_of_run r)
  pub events_within : events_of_run r ≤ 18446744073709551615
  pub kinds : new.kinds ≡ widened_each old.runs old.kinds r.counts.kinds
  pub each_kind : length r.counts.kinds ≡ 17
  pub answers : counted_answers new.answers.entries ≡ tallied (compared_answer retired r) (counted_once seed r) (counted_answers old.answers.entries)
  pub grants : new.grants.items ≡ old.grants.items ++ checksum (grant_lines r.grants) ∷ []

-- the run of the seed was made, and the tally has it
pub record HasRunAdded (P : ProgramParts) (o : SweepOptions) (seed : ℕ) (old new : Tally) : Type 0 where
  pub run : RunRecord
  pub is : IsRunFor P (options_at o seed) run
  pub summed_with : IsTallyWith o.retired seed run old new

-- the tally of these runs, whose seeds go on from the first one
pub record IsTallyOf (retired : Bool) (first : ℕ) (rs : List RunRecord) (t : Tally) : Type 0 where
  pub runs : t.runs ≡ length rs
  pub outcomes : t.outcomes ≡ outcomes_of rs
  pub sum : t.retired ≡ summed_of (map retired_of_run rs)
  pub events : t.events ≡ summed_of (map events_of_run rs)
  pub kinds : t.kinds ≡ map (λ (k : EventKind). spread_of (kind_of_runs rs k)) all_kinds
  pub answers : counted_answers t.answers.entries ≡ different_answers retired first rs
  pub grants : t.grants.items ≡ grant_checksums rs

-- the runs of the seeds from `first` on, before `next`, were made, and the tally has them
pub record HasTallied (P : ProgramParts) (o : SweepOptions) (first next : ℕ) (t : Tally) : Type 0 where
  pub runs : List RunRecord
  pub each : AreRunsFrom P o first runs
  pub count : first + length runs ≡ next
  pub is : IsTallyOf o.retired first runs t
  pub within : IsSeedWithin t

-- ---- its texts

-- the lines of these kinds; each has its place in the list
abbrev pub kind_spread_lines : List Spread → List EventKind → List ℕ
kind_spread_lines spreads kinds = flat_map (λ (k : EventKind). kind_spread_line k (slice_index_or spreads (kind_index k) (spread_of []))) kinds

unfoldable pub tally_summary : Tally → List ℕ
tally_summary t =
    count_line (codes "runs ") t.runs ++ outcome_lines t.outcomes ++ count_line (codes "answers ") (length t.answers.entries)
    ++ count_line (codes "grants ") (distinct_count nat_eq t.grants.items) ++ summed_line (codes "retired") t.retired
    ++ summed_line (codes "events") t.events ++ kind_spread_lines t.kinds all_kinds

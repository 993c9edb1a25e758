-- Definitions for the law of the counted answers, in src/laws.rt.
use Rattle.std.specs.Prelude.{◌≡◌, ◌≢◌, ℕ, Bool, ◌+◌, ◌<◌, List, ◌∷◌, ◌++◌, length, map, count_by, sum_by, bytes_eq, All, AllPairs, Contains}
use Rattle.dn_machine.specs.declared.record.RunRecord.{RunRecord}
use Rattle.sweep_top.specs.Tally.{CountedAnswer, compared_answer, retired_of_run}

-- the texts of counted answers
abbrev pub answers_of : List CountedAnswer → List (List ℕ)
answers_of es = map (λ (e : CountedAnswer). e.0) es

-- the count of an answer tells the least seed whose run has it, how many of the runs have it, and how that run ended
pub record IsCountOf (retired : Bool) (first : ℕ) (runs : List RunRecord) (e : CountedAnswer) : Type 0 where
  pub before : List RunRecord
  pub own : RunRecord
  pub behind : List RunRecord
  pub split : runs ≡ before ++ own ∷ behind
  pub seed : e.1.seed ≡ first + length before
  pub has : compared_answer retired own ≡ e.0
  pub least : All (λ (r : RunRecord). compared_answer retired r ≢ e.0) before
  pub count : e.1.runs ≡ count_by (λ (r : RunRecord). bytes_eq (compared_answer retired r) e.0) runs
  pub outcome : e.1.outcome ≡ own.ending.outcome
  pub instructions : e.1.retired ≡ retired_of_run own

-- these are the different answers of the runs, whose seeds go on from the first one
pub record AreTheAnswers (retired : Bool) (first : ℕ) (runs : List RunRecord) (es : List CountedAnswer) : Type 0 where
  -- each is the answer of some run, and is told with its least seed
  pub each : All (IsCountOf retired first runs) es
  -- no run's answer is missing
  pub whole : All (λ (r : RunRecord). Contains (answers_of es) (compared_answer retired r)) runs
  -- no answer is there twice
  pub different : AllPairs (λ (s t : List ℕ). s ≢ t) (answers_of es)
  -- they stand in the order of their seeds
  pub rising : AllPairs (λ (s t : ℕ). s < t) (map (λ (e : CountedAnswer). e.1.seed) es)
  -- each run is counted once
  pub total : sum_by (λ (e : CountedAnswer). e.1.runs) es ≡ length runs

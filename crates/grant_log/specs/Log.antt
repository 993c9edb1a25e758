-- The logs of a run's actors, and the one list into which they are merged.
use Rattle.std.specs.Prelude.{Bool, ◌≡◌, ◌≢◌, ◌<◌, List, flat_map, IsPermutation, All, AllPairs, filter_map}
use Rattle.dn_base.specs.declared.ids.Grant.{Grant}
use Rattle.message_net.specs.declared.actor.Actor.{Actor}
use Rattle.message_net.specs.Id.{same_actor}
use Rattle.grant_log.specs.declared.log.Stamped.{Stamped}
use Rattle.grant_log.specs.Order.{IsBefore}

-- a log: all entries are of one actor, and their stamps rise
abbrev pub IsLog : List Stamped → Type 0
IsLog log = AllPairs (λ (a b : Stamped). (a.actor ≡ b.actor) × (a.stamp < b.stamp)) log

-- two logs are of different actors
abbrev pub AreOfOtherActors : List Stamped → List Stamped → Type 0
AreOfOtherActors log other = All (λ (a : Stamped). All (λ (b : Stamped). a.actor ≢ b.actor) other) log

-- logs, no two of which are of one actor
pub record AreLogs (logs : List (List Stamped)) : Type 0 where
  pub each : All IsLog logs
  pub apart : AllPairs AreOfOtherActors logs

-- the entries of all logs, sorted by their order
pub record IsMerge (logs : List (List Stamped)) (merged : List Stamped) : Type 0 where
  pub same : IsPermutation (flat_map (λ log. log) logs) merged
  pub rising : AllPairs IsBefore merged

-- whether an entry is of an actor
abbrev pub of_actor : Actor → Stamped → Bool
of_actor a e = same_actor a e.actor

-- the grants of locks among the entries, in their order
abbrev pub grants_in : List Stamped → List Grant
grants_in entries = filter_map (λ (e : Stamped). e.granted) entries

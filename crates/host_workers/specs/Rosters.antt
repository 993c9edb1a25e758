-- A roster: the cores, the banks and the keeper's log that workers own, and how they are dealt to crews.
use Rattle.std.specs.Prelude.{◌≡◌, ℕ, ◌==◌, List, [], ◌∷◌, ◌++◌, length, map, filter, slice_get, slice_index, Some, None, if◌then◌else◌}
use Rattle.grant_log.specs.declared.log.Stamped.{Stamped}
use Rattle.message_net.specs.declared.actor.Actor.{Actor}
use Rattle.message_net.specs.declared.actor.Actor.TheVariants.{Core, Bank}
use Rattle.registration_protocol.specs.Node.{NodeParts}
use Rattle.host_workers.specs.declared.end_seen.EndSeen.{EndSeen}
use Rattle.host_workers.specs.Rounds.{owner}
use Rattle.host_workers.specs.declared.crew.BankLog.{BankLog}
use Rattle.host_workers.specs.declared.crew.Crew.{Crew}
use Rattle.host_workers.specs.declared.owned.Owned.{Owned}
use Rattle.host_workers.specs.declared.roster.Parted.{Parted}
use Rattle.host_workers.specs.declared.roster.Roster.{Roster}
use Rattle.host_workers.specs.Crews.{keeper_log}

-- the cores and the banks in the order of their numbers, and the notes of the keeper's events
pub record RosterParts : Type 0 where
  pub cores : List Owned
  pub banks : List BankLog
  pub keeper : List Stamped

abbrev pub roster_of : Roster → RosterParts
roster_of r = record { cores = r.cores.items; banks = r.banks.items; keeper = r.keeper.items }

abbrev pub core_actor : Owned → Actor
core_actor o = Core o.core

abbrev pub bank_actor : BankLog → Actor
bank_actor b = Bank b.bank

-- the roster of a machine with these numbers of cores and banks, each at the index of its number
pub record IsRoster (cores banks : ℕ) (roster : RosterParts) : Type 0 where
  pub core_count : length roster.cores ≡ cores
  pub core_at : (i : ℕ) (o : Owned) → slice_get roster.cores i ≡ Some o → o.core.0 ≡ i
  pub bank_count : length roster.banks ≡ banks
  pub bank_at : (i : ℕ) (b : BankLog) → slice_get roster.banks i ≡ Some b → b.bank.0 ≡ i

-- a core without notes: its node, its clock at 0, and the number of its next mail
pub record IsFreshCore (nodes : List NodeParts) (next : List ℕ) (i : ℕ) (o : Owned) : Type 0 where
  pub node : slice_get nodes i ≡ Some o.node
  pub next_is : o.next ≡ slice_index next i
  pub clock : o.clock ≡ 0
  pub log : o.log.items ≡ []
  pub ends : o.ends.items ≡ []

-- the roster of these nodes when a round begins, by the numbers of all actors' next mails
pub record IsFreshRoster (nodes : List NodeParts) (banks : ℕ) (next : List ℕ) (roster : RosterParts) : Type 0 where
  pub whole : IsRoster (length nodes) banks roster
  pub cores : (i : ℕ) (o : Owned) → slice_get roster.cores i ≡ Some o → IsFreshCore nodes next i o
  pub logs : (i : ℕ) (b : BankLog) → slice_get roster.banks i ≡ Some b → b.log.items ≡ []
  pub keeper : roster.keeper ≡ []

-- those that a worker owns, in their order
abbrev pub owned_by : {A : Type 0} → (A → Actor) → ℕ → ℕ → List A → List A
owned_by actor workers number xs = filter (λ x. owner workers (actor x) == number) xs

-- the crew of a worker is its part of the roster; the first worker has the keeper's log
pub record IsCrewOf (workers : ℕ) (roster : RosterParts) (number : ℕ) (crew : Crew) : Type 0 where
  pub worker : crew.worker ≡ number
  pub cores : crew.cores.items ≡ owned_by core_actor workers number roster.cores
  pub banks : crew.banks.items ≡ owned_by bank_actor workers number roster.banks
  pub keeper : keeper_log crew ≡ (if number == 0 then Some roster.keeper else None)

-- the roster is dealt to the crews of this many workers, in the order of the workers
pub record AreCrewsOf (workers : ℕ) (roster : RosterParts) (crews : List Crew) : Type 0 where
  pub count : length crews ≡ workers
  pub each : (k : ℕ) (crew : Crew) → slice_get crews k ≡ Some crew → IsCrewOf workers roster k crew

-- the crews are those of a roster of this many cores and banks
abbrev pub AreDealt : ℕ → ℕ → List Crew → Type 0
AreDealt cores banks crews = (roster : RosterParts) × IsRoster cores banks roster × AreCrewsOf (length crews) roster crews

-- any roster of this many cores and banks that was dealt to the crews is this one
abbrev pub IsTheDealt : ℕ → ℕ → List Crew → RosterParts → Type 0
IsTheDealt cores banks crews this = (roster : RosterParts) → IsRoster cores banks roster → AreCrewsOf (length crews) roster crews → this ≡ roster

-- crews that had no cores have these
abbrev pub HaveGotCores : List Owned → List Crew → List Crew → Type 0
HaveGotCores cores old new =
    (roster : RosterParts) → AreCrewsOf (length old) (record roster { cores = [] }) old → AreCrewsOf (length old) (record roster { cores = cores }) new

-- crews that had no banks have these
abbrev pub HaveGotBanks : List BankLog → List Crew → List Crew → Type 0
HaveGotBanks banks old new =
    (roster : RosterParts) → AreCrewsOf (length old) (record roster { banks = [] }) old → AreCrewsOf (length old) (record roster { banks = banks }) new

-- for any roster of this many cores that was dealt to the crews, these are its cores, and the crews have the rest of it
abbrev pub HaveGivenCores : ℕ → List Crew → List Crew → List Owned → Type 0
HaveGivenCores count old new cores =
    (roster : RosterParts) (banks : ℕ) → IsRoster count banks roster → AreCrewsOf (length old) roster old → (cores ≡ roster.cores) × AreCrewsOf (length old) (record roster { cores = [] }) new

-- the same for the banks
abbrev pub HaveGivenBanks : ℕ → List Crew → List Crew → List BankLog → Type 0
HaveGivenBanks count old new banks =
    (roster : RosterParts) (cores : ℕ) → IsRoster cores count roster → AreCrewsOf (length old) roster old → (banks ≡ roster.banks) × AreCrewsOf (length old) (record roster { banks = [] }) new

-- the parts of the cores and banks of a roster, each in the roster's order
abbrev pub node_of : Owned → NodeParts
node_of o = o.node

abbrev pub next_of : Owned → ℕ
next_of o = o.next

abbrev pub core_log : Owned → List Stamped
core_log o = o.log.items

abbrev pub core_ends : Owned → List EndSeen
core_ends o = o.ends.items

abbrev pub bank_log : BankLog → List Stamped
bank_log b = b.log.items

-- the logs of all actors: cores, banks, keeper
abbrev pub logs_of : RosterParts → List (List Stamped)
logs_of roster = map core_log roster.cores ++ (map bank_log roster.banks ++ roster.keeper ∷ [])

-- a roster taken apart
pub record IsTakenApart (roster : RosterParts) (p : Parted) : Type 0 where
  pub nodes : p.nodes.items ≡ map node_of roster.cores
  pub next : p.next.items ≡ map next_of roster.cores
  pub ends : map (λ e. e.items) p.ends.items ≡ map core_ends roster.cores
  pub logs : map (λ l. l.items) p.logs.items ≡ logs_of roster

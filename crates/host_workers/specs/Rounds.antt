-- A round: workers act on a hall, each with its own crew, until all have ended and the hall is closed. The result of a round is
-- one run of the machine.
use Rattle.std.specs.Prelude.{◌≡◌, ℕ, Bool, ◌+◌, ◌<◌, ◌≤◌, ◌%◌, List, [], ◌∷◌, ◌++◌, length, map, filter, flat_map, filter_map, slice_get, Option, Some, None, All, AllPairs, IsPermutation}
use Rattle.std.specs.List.{range_with_len}
use Rattle.dn_base.specs.declared.ids.CoreId.{CoreId}
use Rattle.rv_core.specs.declared.ending.TaskEnd.{TaskEnd}
use Rattle.message_net.specs.declared.actor.Actor.{Actor}
use Rattle.message_net.specs.declared.actor.Actor.TheVariants.{Core, Bank, Keeper}
use Rattle.message_net.specs.declared.event.Event.{Event}
use Rattle.message_net.specs.declared.event.Event.TheVariants.{Arrive}
use Rattle.message_net.specs.declared.event.EventKind.{EventKind}
use Rattle.message_net.specs.declared.message.Mail.{Mail}
use Rattle.grant_log.specs.declared.log.Stamped.{Stamped}
use Rattle.grant_log.specs.Log.{of_actor, grants_in}
use Rattle.registry_bank.specs.Bank.{BankParts}
use Rattle.registration_protocol.specs.Node.{NodeParts, Setting}
use Rattle.registration_protocol.specs.OwnEvents.{end_of}
use Rattle.machine_rules.specs.State.{State, initial_state}
use Rattle.machine_rules.specs.Next.{next_number}
use Rattle.machine_rules.specs.Runs.{after, IsRun, read_off, grants_of, kinds_of}
use Rattle.machine_rules.specs.Sound.{IsReady}
use Rattle.turn_lock.specs.History.{Legal, calls_by}
use Rattle.grant_log.specs.declared.posted.Posted.{Posted}
use Rattle.bank_hall.specs.Banks.{BankState}
use Rattle.bank_hall.specs.Keepers.{KeeperState}
use Rattle.bank_hall.specs.Halls.{Calls, BankEntry, PortEntry, KeeperEntry, bank_answer, bank_next, port_answer, port_next, keeper_answer, keeper_next}
use Rattle.host_workers.specs.Members.{member, IsIn}
use Rattle.host_workers.specs.Steps.{Done, Goes, with_stamp}
use Rattle.host_workers.specs.Acts.{Act, actor_of, note_of, notes_by, events_by, steps_by, calls_in}

-- the worker that owns an actor: number n is owned by worker `n mod workers`, and the keeper by worker 0
abbrev pub owner : ℕ → Actor → ℕ
owner workers (Core core) = core.0 % workers
owner workers (Bank bank) = bank.0 % workers
owner workers Keeper = 0

-- all actors of the machine of a setting
abbrev pub core_at : ℕ → Actor
core_at core = Core (record { 0 = core })

abbrev pub bank_at : ℕ → Actor
bank_at bank = Bank (record { 0 = bank })

abbrev pub actors : Setting → List Actor
actors C = map core_at (range_with_len 0 C.shape.cores) ++ (map bank_at (range_with_len 0 C.shape.banks) ++ Keeper ∷ [])

-- a state to which a run of the machine of a checked program leads
pub record IsReached (C : Setting) (S : State) : Type 0 where
  pub ready : IsReady C
  pub before : List Event
  pub run : IsRun (initial_state C) before
  pub leads : S ≡ after (initial_state C) before

-- a round: how many workers there were and what each did, all calls of each object of the hall, the inbox of each actor at the
-- start and at the end, and the merged notes of all events
pub record Round : Type 0 where
  pub workers : ℕ
  pub work : ℕ → List Act
  pub histories : Calls
  pub began : Actor → List Posted
  pub left : Actor → List Posted
  pub merged : List Stamped

-- what a bank is in a state of the machine, with an inbox and a clock, and what the keeper is
abbrev pub bank_in : State → ℕ → BankParts → List Posted → ℕ → BankState
bank_in S b bank inbox clock = record { bank = bank; inbox = inbox; next = next_number S (bank_at b); clock = clock }

abbrev pub keeper_in : State → List Posted → ℕ → KeeperState
keeper_in S inbox clock = record { keeper = S.keeper; inbox = inbox; next = next_number S Keeper; clock = clock }

-- the history of a bank leads from the bank in S to the bank in T
pub record IsBankClosed (S T : State) (r : Round) (b : ℕ) : Type 0 where
  pub first : BankParts
  pub last : BankParts
  pub was : slice_get S.banks b ≡ Some first
  pub is : slice_get T.banks b ≡ Some last
  pub clock : ℕ
  pub legal : Legal bank_answer bank_next (bank_in S b first (r.began (bank_at b)) 0) (r.histories.banks b) (bank_in T b last (r.left (bank_at b)) clock)

-- the same for the keeper; and the history of a port leads from the inbox at the start to the inbox at the end
pub record IsKeeperClosed (S T : State) (r : Round) : Type 0 where
  pub clock : ℕ
  pub legal : Legal keeper_answer keeper_next (keeper_in S (r.began Keeper) 0) r.histories.keeper (keeper_in T (r.left Keeper) clock)

abbrev pub IsPortClosed : Round → ℕ → Type 0
IsPortClosed r c = Legal port_answer port_next (r.began (core_at c)) (r.histories.ports c) (r.left (core_at c))

-- the objects of the hall were closed
pub record IsHallClosed (C : Setting) (S T : State) (r : Round) : Type 0 where
  pub banks : (b : ℕ) → b < C.shape.banks → IsBankClosed S T r b
  pub ports : (c : ℕ) → c < C.shape.cores → IsPortClosed r c
  pub keeper : IsKeeperClosed S T r

-- a worker's calls in the histories are those of its acts
pub record AreCallsOf (number : ℕ) (histories calls : Calls) : Type 0 where
  pub banks : (b : ℕ) → calls_by number (histories.banks b) ≡ calls.banks b
  pub ports : (c : ℕ) → calls_by number (histories.ports c) ≡ calls.ports c
  pub keeper : calls_by number histories.keeper ≡ calls.keeper

-- all calls in the histories are the workers'
pub record AreNamed (workers : ℕ) (histories : Calls) : Type 0 where
  pub banks : (b : ℕ) → All (λ (e : BankEntry). e.pass < workers) (histories.banks b)
  pub ports : (c : ℕ) → All (λ (e : PortEntry). e.pass < workers) (histories.ports c)
  pub keeper : All (λ (e : KeeperEntry). e.pass < workers) histories.keeper

-- an act of a worker is one of an actor that it owns
abbrev pub IsOwn : Setting → ℕ → ℕ → Act → Type 0
IsOwn C workers number act = IsIn C (actor_of act) × (owner workers (actor_of act) ≡ number)

-- each worker acted on its own crew, by its calls in the histories, and its cores went from S to T by its acts
pub record HaveWorked (C : Setting) (S T : State) (r : Round) : Type 0 where
  pub own : (k : ℕ) → k < r.workers → All (IsOwn C r.workers k) (r.work k)
  pub calls : (k : ℕ) → k < r.workers → AreCallsOf k r.histories (calls_in C.shape k (r.work k))
  pub named : AreNamed r.workers r.histories
  pub cores : (core : CoreId) → core.0 < C.shape.cores
      → Goes C (Core core) 0 (member S (Core core)) (steps_by core (r.work (owner r.workers (Core core)))) (member T (Core core))

abbrev pub IsNoLater : Stamped → Stamped → Type 0
IsNoLater a b = a.stamp ≤ b.stamp

-- the merged list has exactly the notes of each actor's events, in their order, and its stamps don't fall
pub record IsMerged (C : Setting) (r : Round) : Type 0 where
  pub parts : (a : Actor) → IsIn C a → filter (of_actor a) r.merged ≡ notes_by C.shape a (r.work (owner r.workers a))
  pub inside : All (λ (e : Stamped). IsIn C e.actor) r.merged
  pub rising : AllPairs IsNoLater r.merged

abbrev pub mail_in : Posted → Mail
mail_in p = p.mail

-- an inbox has the mails that go to its actor
abbrev pub IsInbox : Actor → List Posted → Type 0
IsInbox a inbox = All (λ (p : Posted). p.mail.to ≡ a) inbox

-- the inboxes began with the mails in flight in S, each with stamp 0, and the mails in them at the end are in flight in T
pub record AreInboxes (C : Setting) (S T : State) (r : Round) : Type 0 where
  pub began : IsPermutation (map (with_stamp 0) S.mails) (flat_map r.began (actors C))
  pub addressed : (a : Actor) → IsIn C a → IsInbox a (r.began a)
  pub left : IsPermutation (map mail_in (flat_map r.left (actors C))) T.mails

-- T has as many nodes, banks and numbers as S, and is of the same setting
pub record HasSameSizes (C : Setting) (S T : State) : Type 0 where
  pub setting : T.setting ≡ C
  pub nodes : length T.nodes ≡ length S.nodes
  pub banks : length T.banks ≡ length S.banks
  pub numbers : length T.numbers ≡ length S.numbers

-- T is the state that the workers leave after a round that began in S
pub record IsJoined (C : Setting) (S T : State) (r : Round) : Type 0 where
  pub some : 1 ≤ r.workers
  pub alike : HasSameSizes C S T
  pub inboxes : AreInboxes C S T r
  pub closed : IsHallClosed C S T r
  pub worked : HaveWorked C S T r
  pub merged : IsMerged C r

-- the events of which a list tells
abbrev pub noted_event : Stamped → Event
noted_event e = e.event

abbrev pub noted_kind : Stamped → EventKind
noted_kind e = e.kind

abbrev pub events_of : List Stamped → List Event
events_of merged = map noted_event merged

-- how the task of a core that arrives at the barrier has ended
abbrev pub end_of_node : Option NodeParts → Option TaskEnd
end_of_node None = None
end_of_node (Some n) = end_of n n.task

abbrev pub end_observed : State → Event → Option TaskEnd
end_observed S (Arrive core) = end_of_node (slice_get S.nodes core.0)
end_observed S _ = None

abbrev pub end_of_done : Done → Option TaskEnd
end_of_done d = d.end

abbrev pub done_by : Actor → Done → Bool
done_by a d = of_actor a d.stamped

-- what is told of the events in their order: each actor's part is what its worker saw of it
pub record AreToldInOrder (C : Setting) (S : State) (r : Round) (told : List Done) : Type 0 where
  pub notes : map note_of told ≡ r.merged
  pub parts : (a : Actor) → IsIn C a → filter (done_by a) told ≡ events_by C.shape a (r.work (owner r.workers a))
  pub ends : filter_map end_of_done told ≡ read_off end_observed S (events_of r.merged)

-- The round is a run of the machine. Its events may come one after the other from S on, and lead to T except for the order of
-- the mails in flight. Their kinds, grants and ends are the run's, and the stamp of each is at most its position
pub record IsRoundOf (C : Setting) (S T : State) (r : Round) : Type 0 where
  pub run : IsRun S (events_of r.merged)
  pub mails : IsPermutation (after S (events_of r.merged)).mails T.mails
  pub rest : T ≡ record (after S (events_of r.merged)) { mails = T.mails }
  pub kinds : map noted_kind r.merged ≡ kinds_of S (events_of r.merged)
  pub grants : grants_in r.merged ≡ grants_of S (events_of r.merged)
  pub told : List Done
  pub tells : AreToldInOrder C S r told
  pub early : (i : ℕ) (e : Stamped) → slice_get r.merged i ≡ Some e → e.stamp ≤ i + 1

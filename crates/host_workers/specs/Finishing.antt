-- How a round of workers ends: all workers have done their work, the hall is closed, and what they own is gathered.
use Rattle.std.specs.Prelude.{◌≡◌, ℕ, ◌<◌, ◌≤◌, List, [], ◌∷◌, ◌++◌, length, map, slice_get, Some, All}
use Rattle.registration_protocol.specs.Node.{Setting}
use Rattle.machine_rules.specs.State.{State}
use Rattle.bank_hall.specs.Halls.{HallView, BankEntry, PortEntry, bank_state, bank_answer, bank_next, port_inbox, port_answer, port_next, keeper_state, keeper_answer, keeper_next}
use Rattle.bank_hall.specs.Closing.{IsClosedRow, IsToldPass}
use Rattle.bank_hall.specs.declared.hall.HallEnd.{HallEnd}
use Rattle.message_net.specs.Pool.{AreDistinct}
use Rattle.grant_log.specs.declared.log.Stamped.{Stamped}
use Rattle.host_workers.specs.Steps.{Done}
use Rattle.host_workers.specs.Rounds.{mail_in}
use Rattle.host_workers.specs.declared.inboxes.Objects.{Objects as Left}
use Rattle.host_workers.specs.declared.roster.Parted.{Parted}
use Rattle.host_workers.specs.declared.working.Job.{Job}
use Rattle.host_workers.specs.declared.finishing.Finished.{Finished}
use Rattle.host_workers.specs.Crews.{IsCrew}
use Rattle.host_workers.specs.Ends.{AreEndsOf}
use Rattle.host_workers.specs.Work.{MayAct, KeepsNumber}
use Rattle.host_workers.specs.Pass.{HasWorkedOn}
use Rattle.host_workers.specs.Inboxes.{inboxes_of, all_posted, AreObjectsOf}
use Rattle.host_workers.specs.Rosters.{RosterParts, IsRoster, AreCrewsOf, node_of, next_of, core_ends, logs_of}
use Rattle.host_workers.specs.Opening.{Objects, IsInitialRound, StandsFor, crew_of, pass_of}
use Rattle.dn_machine.specs.Kept.{IsKept}

-- a worker may begin its passes
pub record IsReadyJob (C : Setting) (hall : HallView) (job : Job) : Type 0 where
  pub may : MayAct C hall job.pass
  pub crew : IsCrew C job.crew

-- one worker's passes of a round
pub record HasDoneJob (C : Setting) (hall : HallView) (job done : Job) : Type 0 where
  pub pass : KeepsNumber hall job.pass done.pass
  pub crew : IsCrew C done.crew
  pub worked : HasWorkedOn C job.pass done.pass job.crew done.crew

-- each worker has made its passes
pub record HaveDoneJobs (C : Setting) (hall : HallView) (jobs dones : List Job) : Type 0 where
  pub count : length dones ≡ length jobs
  pub each : (k : ℕ) (job done : Job) → slice_get jobs k ≡ Some job → slice_get dones k ≡ Some done → HasDoneJob C hall job done

-- a round leaves the parts of a closed hall, taken apart, with all calls, and a roster taken apart
pub record IsLeftBy (end : HallEnd) (parted : Parted) (f : Finished) : Type 0 where
  pub hold : AreObjectsOf f.objects.banks.items f.objects.keeper (inboxes_of f.objects.inboxes) f.objects.next.items end.parts.banks.items end.parts.ports.items end.parts.keeper
  pub roster : f.parted ≡ parted
  pub banks : f.banks ≡ end.banks
  pub ports : f.ports ≡ end.ports
  pub keeper : f.keeper ≡ end.keeper

-- the histories of the banks and of the ports that a closed hall gave
abbrev pub bank_histories : Finished → List (List BankEntry)
bank_histories f = map (λ h. h.items) f.banks.items

abbrev pub port_histories : Finished → List (List PortEntry)
port_histories f = map (λ h. h.items) f.ports.items

-- The hall was closed with the workers' passes. These are its objects, taken apart, and the roster of the crews, taken apart
pub record IsFinished (cores banks : ℕ) (hall : HallView) (dones : List Job) (f : Finished) : Type 0 where
  pub objects : Objects
  pub banks_closed : IsClosedRow bank_state bank_answer bank_next hall.banks (length dones) objects.banks (bank_histories f)
  pub ports_closed : IsClosedRow port_inbox port_answer port_next hall.ports (length dones) objects.ports (port_histories f)
  pub keeper_closed : IsClosedRow keeper_state keeper_answer keeper_next hall.keeper (length dones) (objects.keeper ∷ []) (f.keeper.items ∷ [])
  pub told : All (IsToldPass (bank_histories f) (port_histories f) f.keeper.items) (map pass_of dones)
  pub hold : AreObjectsOf f.objects.banks.items f.objects.keeper (inboxes_of f.objects.inboxes) f.objects.next.items objects.banks objects.ports objects.keeper
  pub roster : RosterParts
  pub whole : IsRoster cores banks roster
  pub crews : AreCrewsOf (length dones) roster (map crew_of dones)
  pub nodes : f.parted.nodes.items ≡ map node_of roster.cores
  pub next : f.parted.next.items ≡ map next_of roster.cores
  pub ends : map (λ e. e.items) f.parted.ends.items ≡ map core_ends roster.cores
  pub logs : map (λ l. l.items) f.parted.logs.items ≡ logs_of roster

-- the state of the machine that is joined of these parts
abbrev pub left_in : Setting → Finished → State
left_in C f =
    record {
      setting = C;
      nodes = f.parted.nodes.items;
      banks = f.objects.banks.items;
      keeper = f.objects.keeper;
      mails = map mail_in (all_posted (inboxes_of f.objects.inboxes));
      numbers = f.parted.next.items ++ f.objects.next.items;
    }

-- The merged notes of a round tell some events with the ends that the workers saw, and a pool has room for the mails in the inboxes
pub record MayBeTold (parted : Parted) (left : Left) (merged : List Stamped) : Type 0 where
  pub dones : List Done
  pub ends : AreEndsOf merged (map (λ e. e.items) parted.ends.items) dones
  pub distinct : AreDistinct (map mail_in (all_posted (inboxes_of left.inboxes)))
  pub few : length (all_posted (inboxes_of left.inboxes)) < 4294967295

-- What is left of a round before it is put together: the machine stood for S, the round was opened on it, all workers have made
-- their passes, and the hall was closed
pub record IsRoundLeft (S M : State) (made workers : ℕ) (f : Finished) : Type 0 where
  pub some : 1 ≤ workers
  pub few : workers ≤ 16
  pub far : made < 3000000000
  pub stands : StandsFor S M
  pub kept : IsKept M made
  pub hall : HallView
  pub jobs : List Job
  pub dones : List Job
  pub opened : IsInitialRound M.setting M workers hall jobs
  pub done : HaveDoneJobs M.setting hall jobs dones
  pub finished : IsFinished M.setting.shape.cores M.setting.shape.banks hall dones f

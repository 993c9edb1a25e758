-- How a round of workers begins: the hall, and each worker's pass and crew.
use Rattle.std.specs.Prelude.{◌≡◌, ℕ, ◌≤◌, true, List, All, map, drop}
use Rattle.dn_base.specs.declared.ids.Shape.{Shape}
use Rattle.message_net.specs.declared.message.Mail.{Mail}
use Rattle.message_net.specs.Mail.{has_actor}
use Rattle.phase_barrier.specs.Barrier.{Barrier}
use Rattle.registry_bank.specs.Bank.{BankParts}
use Rattle.registration_protocol.specs.Node.{Setting}
use Rattle.machine_rules.specs.State.{State}
use Rattle.machine_rules.specs.Sound.{IsMachine}
use Rattle.dn_machine.specs.Parts.{IsReordered}
use Rattle.bank_hall.specs.Banks.{BankActorParts}
use Rattle.bank_hall.specs.Ports.{PortParts}
use Rattle.bank_hall.specs.Keepers.{KeeperActorParts}
use Rattle.bank_hall.specs.Halls.{HallView, PassView, IsSharedHall, AreNewPasses}
use Rattle.bank_hall.specs.declared.hall.HallParts.{HallParts}
use Rattle.bank_hall.specs.Closing.{AreAllHallPasses}
use Rattle.host_workers.specs.Rounds.{IsReached}
use Rattle.host_workers.specs.declared.crew.Crew.{Crew}
use Rattle.host_workers.specs.declared.opening.Moving.{Moving}
use Rattle.host_workers.specs.declared.opening.Opened.{Opened}
use Rattle.host_workers.specs.declared.working.Job.{Job}
use Rattle.host_workers.specs.Inboxes.{InboxParts, AreFirstInboxes, AreObjectsOf, AreAtFirst}
use Rattle.host_workers.specs.Rosters.{RosterParts, IsFreshRoster, AreCrewsOf}

-- a run of the machine leads to S, and M is S except for the order of the mails in flight
pub record StandsFor (S M : State) : Type 0 where
  pub reached : IsReached M.setting S
  pub same : IsReordered S M

abbrev pub crew_of : Job → Crew
crew_of job = job.crew

abbrev pub pass_of : Job → PassView
pass_of job = job.pass

-- what events change in a machine of this shape is that of a state, whose mails go to actors of the machine
pub record IsMovingOf (shape : Shape) (S : State) (m : Moving) : Type 0 where
  pub machine : IsMachine S
  pub shape_is : S.setting.shape ≡ shape
  pub some : 1 ≤ shape.cores
  pub most : shape.cores ≤ 16
  pub few_banks : shape.banks ≤ 16
  pub nodes : S.nodes ≡ m.nodes.items
  pub banks : S.banks ≡ m.banks.items
  pub keeper : S.keeper ≡ m.keeper
  pub mails : S.mails ≡ m.pool.mails
  pub numbers : S.numbers ≡ m.next.items
  pub addressed : All (λ (mail : Mail). has_actor shape.cores shape.banks mail.to ≡ true) S.mails

-- the objects that a hall shares when a round begins
pub record Objects : Type 0 where
  pub banks : List BankActorParts
  pub ports : List PortParts
  pub keeper : KeeperActorParts

-- the objects of a hall have these banks, this keeper, these numbers of next mails and the mails in flight, with clocks at 0
pub record AreFirstObjects (shape : Shape) (mails : List Mail) (banks : List BankParts) (keeper : Barrier) (next : List ℕ) (parts : HallParts) : Type 0 where
  pub inboxes : InboxParts
  pub first : AreFirstInboxes shape mails inboxes
  pub hold : AreObjectsOf banks keeper inboxes next parts.banks.items parts.ports.items parts.keeper
  pub clocks : AreAtFirst parts.banks.items parts.keeper

-- the objects are shared in a hall, and each worker has an unused pass of it and one of the crews
pub record IsOpenedOf (parts : HallParts) (workers : ℕ) (crews : List Crew) (o : Opened) : Type 0 where
  pub opened : IsSharedHall parts.banks.items parts.ports.items parts.keeper workers o.hall
  pub crews_are : map crew_of o.jobs.items ≡ crews
  pub passes : AreNewPasses o.hall 0 (map pass_of o.jobs.items)
  pub all : AreAllHallPasses o.hall (map pass_of o.jobs.items)

-- The hall has the banks, the keeper and the mails in flight of a state of the machine, with clocks at 0. Each worker has an
-- unused pass of it, and its part of the cores and banks, without notes
pub record IsInitialRound (C : Setting) (S : State) (workers : ℕ) (hall : HallView) (jobs : List Job) : Type 0 where
  pub inboxes : InboxParts
  pub objects : Objects
  pub roster : RosterParts
  pub first : AreFirstInboxes C.shape S.mails inboxes
  pub hold : AreObjectsOf S.banks S.keeper inboxes (drop C.shape.cores S.numbers) objects.banks objects.ports objects.keeper
  pub at_first : AreAtFirst objects.banks objects.keeper
  pub opened : IsSharedHall objects.banks objects.ports objects.keeper workers hall
  pub fresh : IsFreshRoster S.nodes C.shape.banks S.numbers roster
  pub crews : AreCrewsOf workers roster (map crew_of jobs)
  pub passes : AreNewPasses hall 0 (map pass_of jobs)
  pub all : AreAllHallPasses hall (map pass_of jobs)

-- A hall: the banks, the ports and the keeper of one run, each under a turn of its own, and what a caller of it knows.
use Rattle.std.specs.Prelude.{◌≡◌, ℕ, ◌+◌, ◌^◌, ◌<◌, ◌≤◌, List, [], ◌∷◌, ◌++◌, length, map, zip, All, Some, slice_get}
use Rattle.message_net.specs.declared.actor.Actor.{Actor}
use Rattle.message_net.specs.declared.actor.Actor.TheVariants.{Core, Bank, Keeper}
use Rattle.turn_lock.specs.declared.entry.Entry.{Entry}
use Rattle.turn_lock.specs.History.{entry}
use Rattle.turn_lock.specs.Passes.{Sharing}
use Rattle.grant_log.specs.declared.posted.Posted.{Posted}
use Rattle.bank_hall.specs.declared.bank.BankIn.{BankIn}
use Rattle.bank_hall.specs.declared.bank.BankIn as bank_in
use Rattle.bank_hall.specs.declared.bank.BankOut.{BankOut}
use Rattle.bank_hall.specs.declared.bank.BankOut as bank_out
use Rattle.bank_hall.specs.declared.port.PortIn.{PortIn}
use Rattle.bank_hall.specs.declared.port.PortIn as port_in
use Rattle.bank_hall.specs.declared.port.PortOut.{PortOut}
use Rattle.bank_hall.specs.declared.port.PortOut as port_out
use Rattle.bank_hall.specs.declared.keeper.KeeperIn.{KeeperIn}
use Rattle.bank_hall.specs.declared.keeper.KeeperIn as keeper_in
use Rattle.bank_hall.specs.declared.keeper.KeeperOut.{KeeperOut}
use Rattle.bank_hall.specs.declared.keeper.KeeperOut as keeper_out
use Rattle.bank_hall.specs.Banks.{BankState, BankActorParts, bank_call}
use Rattle.bank_hall.specs.Ports.{PortParts, port_call}
use Rattle.bank_hall.specs.Keepers.{KeeperState, KeeperActorParts, keeper_call}
use Rattle.bank_hall.specs.Rows.{Tokens, HasPassesOf, HasCalled, made_of, one_call, no_call, AreShared, IsNew}

-- the turns of a hall. The keeper's is a row of one
pub record HallView : Type 0 where
  pub banks : List (Sharing BankActorParts)
  pub ports : List (Sharing PortParts)
  pub keeper : List (Sharing KeeperActorParts)

-- a caller's passes of all turns of a hall
pub record PassView : Type 0 where
  pub banks : Tokens BankActorParts BankIn BankOut
  pub ports : Tokens PortParts PortIn PortOut
  pub keeper : Tokens KeeperActorParts KeeperIn KeeperOut

abbrev pub BankEntry : Type 0
BankEntry = Entry BankActorParts BankIn BankOut

abbrev pub PortEntry : Type 0
PortEntry = Entry PortParts PortIn PortOut

abbrev pub KeeperEntry : Type 0
KeeperEntry = Entry KeeperActorParts KeeperIn KeeperOut

-- it is a pass of this hall: it has a pass of each turn, all with one number
pub record IsHallPass (hall : HallView) (pass : PassView) : Type 0 where
  pub banks : HasPassesOf hall.banks pass.banks
  pub ports : HasPassesOf hall.ports pass.ports
  pub keeper : HasPassesOf hall.keeper pass.keeper
  pub port_number : pass.ports.number ≡ pass.banks.number
  pub keeper_number : pass.keeper.number ≡ pass.banks.number

-- a pass's number
abbrev pub pass_number : PassView → ℕ
pass_number pass = pass.banks.number

-- the hall has this actor
abbrev pub HasActor : HallView → Actor → Type 0
HasActor hall (Core core) = core.0 < length hall.ports
HasActor hall (Bank bank) = bank.0 < length hall.banks
HasActor hall Keeper = Unit {0}

-- calls of each object of a hall, in their order
pub record Calls : Type 0 where
  pub banks : ℕ → List BankEntry
  pub ports : ℕ → List PortEntry
  pub keeper : List KeeperEntry

-- the pass made exactly these further calls
pub record HasMadeCalls (old new : PassView) (more : Calls) : Type 0 where
  pub banks : (b : ℕ) → made_of new.banks b ≡ made_of old.banks b ++ more.banks b
  pub ports : (c : ℕ) → made_of new.ports c ≡ made_of old.ports c ++ more.ports c
  pub keeper : made_of new.keeper 0 ≡ made_of old.keeper 0 ++ more.keeper

-- one call of a bank, of a port, and of the keeper
abbrev pub bank_calls : ℕ → BankEntry → Calls
bank_calls b call = record { banks = one_call b call; ports = no_call; keeper = [] }

abbrev pub port_calls : ℕ → PortEntry → Calls
port_calls c call = record { banks = no_call; ports = one_call c call; keeper = [] }

abbrev pub keeper_calls : KeeperEntry → Calls
keeper_calls call = record { banks = no_call; ports = no_call; keeper = call ∷ [] }

-- the call that puts a mail into the inbox of an actor, by the number of the pass that makes it
abbrev pub post_calls : ℕ → Posted → Actor → Calls
post_calls number p (Core core) = port_calls core.0 (entry number (port_in.TheVariants.Post p) port_out.TheVariants.Kept)
post_calls number p (Bank bank) = bank_calls bank.0 (entry number (bank_in.TheVariants.Post p) bank_out.TheVariants.Kept)
post_calls number p Keeper = keeper_calls (entry number (keeper_in.TheVariants.Post p) keeper_out.TheVariants.Kept)

-- what a bank, a port and the keeper hold, and what a call of one answers and leaves
abbrev pub bank_state : BankActorParts → BankState
bank_state b = b.state

abbrev pub bank_answer : BankState → BankIn → BankOut
bank_answer s input = (bank_call s input).1

abbrev pub bank_next : BankState → BankIn → BankState
bank_next s input = (bank_call s input).0

abbrev pub port_inbox : PortParts → List Posted
port_inbox p = p.inbox

abbrev pub port_answer : List Posted → PortIn → PortOut
port_answer inbox input = (port_call inbox input).1

abbrev pub port_next : List Posted → PortIn → List Posted
port_next inbox input = (port_call inbox input).0

abbrev pub keeper_state : KeeperActorParts → KeeperState
keeper_state k = k.state

abbrev pub keeper_answer : KeeperState → KeeperIn → KeeperOut
keeper_answer s input = (keeper_call s input).1

abbrev pub keeper_next : KeeperState → KeeperIn → KeeperState
keeper_next s input = (keeper_call s input).0

-- one call of a bank by a pass, with its input and output: the pass has seen a history that ends with this call, and its other
-- passes are as before
pub record BankCall (hall : HallView) (bank : ℕ) (input : BankIn) (output : BankOut) (old new : PassView) : Type 0 where
  pub call : HasCalled bank_state bank_answer bank_next hall.banks bank (entry (pass_number old) input output) old.banks.passes new.banks.passes
  pub ports : new.ports ≡ old.ports
  pub keeper : new.keeper ≡ old.keeper

pub record PortCall (hall : HallView) (core : ℕ) (input : PortIn) (output : PortOut) (old new : PassView) : Type 0 where
  pub call : HasCalled port_inbox port_answer port_next hall.ports core (entry (pass_number old) input output) old.ports.passes new.ports.passes
  pub banks : new.banks ≡ old.banks
  pub keeper : new.keeper ≡ old.keeper

pub record KeeperCall (hall : HallView) (input : KeeperIn) (output : KeeperOut) (old new : PassView) : Type 0 where
  pub call : HasCalled keeper_state keeper_answer keeper_next hall.keeper 0 (entry (pass_number old) input output) old.keeper.passes new.keeper.passes
  pub banks : new.banks ≡ old.banks
  pub ports : new.ports ≡ old.ports

-- the call that puts a mail into the inbox of an actor
abbrev pub PostCall : HallView → Posted → Actor → PassView → PassView → Type 0
PostCall hall p (Core core) old new = PortCall hall core.0 (port_in.TheVariants.Post p) port_out.TheVariants.Kept old new
PostCall hall p (Bank bank) old new = BankCall hall bank.0 (bank_in.TheVariants.Post p) bank_out.TheVariants.Kept old new
PostCall hall p Keeper old new = KeeperCall hall (keeper_in.TheVariants.Post p) keeper_out.TheVariants.Kept old new

-- an inbox whose mails go to this actor, with stamps of at most 2^63
abbrev pub IsInboxOf : Actor → List Posted → Type 0
IsInboxOf actor inbox = All (λ (p : Posted). (p.mail.to ≡ actor) × (p.stamp ≤ 2 ^ 63)) inbox

-- the parts that a hall may be started with
pub record AreHallParts (banks : List BankActorParts) (ports : List PortParts) (keeper : KeeperActorParts) : Type 0 where
  pub some_bank : 1 ≤ length banks
  pub few_banks : length banks ≤ 16
  pub some_port : 1 ≤ length ports
  pub few_ports : length ports ≤ 16
  pub numbers : (b : ℕ) (bank : BankActorParts) → slice_get banks b ≡ Some bank → bank.state.bank.bank ≡ b
  pub cores : length keeper.state.keeper.arrived ≡ length ports
  pub bank_mails : (b : ℕ) (bank : BankActorParts) → slice_get banks b ≡ Some bank → IsInboxOf (Bank (record { 0 = b })) bank.state.inbox
  pub port_mails : (c : ℕ) (port : PortParts) → slice_get ports c ≡ Some port → IsInboxOf (Core (record { 0 = c })) port.inbox
  pub keeper_mails : IsInboxOf Keeper keeper.state.inbox

-- the hall shares these parts among this many passes
pub record IsSharedHall (banks : List BankActorParts) (ports : List PortParts) (keeper : KeeperActorParts) (passes : ℕ) (hall : HallView) : Type 0 where
  pub banks_shared : AreShared passes banks hall.banks
  pub ports_shared : AreShared passes ports hall.ports
  pub keeper_shared : AreShared passes (keeper ∷ []) hall.keeper

-- a pass of this hall with this number, which has seen nothing and made no call
pub record IsNewPass (hall : HallView) (number : ℕ) (pass : PassView) : Type 0 where
  pub fits : IsHallPass hall pass
  pub banks : IsNew hall.banks number pass.banks
  pub ports : IsNew hall.ports number pass.ports
  pub keeper : IsNew hall.keeper number pass.keeper

-- such passes, with rising numbers from this one on
abbrev pub AreNewPasses : HallView → ℕ → List PassView → Type 0
AreNewPasses hall number [] = Unit {0}
AreNewPasses hall number (p ∷ ps) = IsNewPass hall number p × AreNewPasses hall (number + 1) ps

-- a caller's passes of the banks, of the ports and of the keeper, put together
abbrev pub tied : (Tokens BankActorParts BankIn BankOut × Tokens PortParts PortIn PortOut) × Tokens KeeperActorParts KeeperIn KeeperOut → PassView
tied t = record { banks = t.0.0; ports = t.0.1; keeper = t.1 }

abbrev pub passes_of : List (Tokens BankActorParts BankIn BankOut) → List (Tokens PortParts PortIn PortOut) → List (Tokens KeeperActorParts KeeperIn KeeperOut) → List PassView
passes_of banks ports keepers = map tied (zip (zip banks ports) keepers)

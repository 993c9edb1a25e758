-- What a worker owns, as the rules of rounds see it.
use Rattle.std.specs.Prelude.{ℕ, ◌+◌, ◌<◌, ◌≤◌, Bool, List, All, AllPairs, Option, vec_len}
use Rattle.std.specs.Option.{option_map}
use Rattle.std.specs.Vec.{vec_capacity}
use Rattle.dn_base.specs.declared.ids.BankId.{BankId}
use Rattle.dn_base.specs.declared.ids.CoreId.{CoreId}
use Rattle.grant_log.specs.declared.log.Stamped.{Stamped}
use Rattle.registration_protocol.specs.Fit.{Fits}
use Rattle.registration_protocol.specs.Node.{Setting}
use Rattle.grant_log.specs.Stamps.{has_numbers_left}
use Rattle.host_workers.specs.Passes.{Held}
use Rattle.host_workers.specs.declared.crew.BankLog.{BankLog}
use Rattle.host_workers.specs.declared.crew.Crew.{Crew}
use Rattle.host_workers.specs.declared.owned.Owned.{Owned}

-- an owned core except for its number
abbrev pub held_of : Owned → Held
held_of o = record { node = o.node; clock = o.clock; next = o.next; log = o.log.items; ends = o.ends.items }

abbrev pub owned_core : Owned → CoreId
owned_core o = o.core

abbrev pub bank_of : BankLog → BankId
bank_of b = b.bank

-- whether an owned core has numbers left: its clock and the number of its next mail are below their limits
abbrev pub owned_has_numbers : Owned → Bool
owned_has_numbers o = has_numbers_left o.clock o.next

-- there is room for the notes of this many more events of the core, and for the ends that they may tell
abbrev pub HasRoom : Owned → ℕ → Type 0
HasRoom o more = (vec_len o.log + more ≤ vec_capacity o.log) × (vec_len o.ends + more ≤ vec_capacity o.ends)

-- an owned core is one of the machine's, and its node fits
pub record IsOwned (C : Setting) (o : Owned) : Type 0 where
  pub inside : o.core.0 < C.shape.cores
  pub fits : Fits C o.node

-- the cores and the banks are the machine's, each in rising order
pub record IsCrew (C : Setting) (crew : Crew) : Type 0 where
  pub cores : All (IsOwned C) crew.cores.items
  pub cores_rise : AllPairs (λ (a b : Owned). a.core.0 < b.core.0) crew.cores.items
  pub banks : All (λ (b : BankLog). b.bank.0 < C.shape.banks) crew.banks.items
  pub banks_rise : AllPairs (λ (a b : BankLog). a.bank.0 < b.bank.0) crew.banks.items

-- the notes of the keeper's events, if the worker owns the keeper
abbrev pub keeper_log : Crew → Option (List Stamped)
keeper_log crew = option_map (λ log. log.items) crew.keeper

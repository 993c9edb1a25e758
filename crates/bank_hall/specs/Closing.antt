-- Closing a hall: which passes it takes, and what the histories say that it gives.
use Rattle.std.specs.Prelude.{◌≡◌, ℕ, ◌<◌, List, [], length, All, Option, Some, None, slice_get}
use Rattle.turn_lock.specs.declared.entry.Entry.{Entry}
use Rattle.turn_lock.specs.History.{BeginsWith, Legal, calls_by}
use Rattle.turn_lock.specs.Passes.{Sharing, Token}
use Rattle.bank_hall.specs.Rows.{Tokens, made_of}
use Rattle.bank_hall.specs.Halls.{HallView, PassView, BankEntry, PortEntry, KeeperEntry, IsHallPass, pass_number}

-- These are all passes of the hall: each is one of its passes, and there are as many as it was started with. `start` gives all
-- of them, and a pass stays one of them through each call
pub record AreAllHallPasses (hall : HallView) (passes : List PassView) : Type 0 where
  pub fit : All (IsHallPass hall) passes
  pub banks_shared : All (λ t. t.passes ≡ length passes) hall.banks
  pub ports_shared : All (λ t. t.passes ≡ length passes) hall.ports
  pub keeper_shared : All (λ t. t.passes ≡ length passes) hall.keeper

module _ {O I U : Type 0} where
  abbrev pub or_none : Option (List (Entry O I U)) → List (Entry O I U)
  or_none None = []
  or_none (Some history) = history

  -- the history of the object at a place
  abbrev pub history_of : List (List (Entry O I U)) → ℕ → List (Entry O I U)
  history_of histories place = or_none (slice_get histories place)

  abbrev pub seen_by_pass : Option (Token O I U) → List (Entry O I U)
  seen_by_pass None = []
  seen_by_pass (Some pass) = pass.seen

  -- the history that a caller has seen of the object at a place
  abbrev pub seen_of : Tokens O I U → ℕ → List (Entry O I U)
  seen_of caller place = seen_by_pass (slice_get caller.passes place)

-- Each object of the row has its history: a single thread could have made it, from the object at the start to the one that is
-- handed back, and each call in it was made by one of these callers
pub record IsClosedRow {O I U C : Type 0} (content : O → C) (answer : C → I → U) (next : C → I → C) (turns : List (Sharing O)) (callers : ℕ) (objects : List O) (histories : List (List (Entry O I U))) : Type 0 where
  pub object_count : length objects ≡ length turns
  pub history_count : length histories ≡ length turns
  pub legal : (i : ℕ) (turn : Sharing O) (object : O) → slice_get turns i ≡ Some turn → slice_get objects i ≡ Some object → Legal answer next (content turn.opening) (history_of histories i) (content object)
  pub named : (i : ℕ) → All (λ (e : Entry O I U). e.pass < callers) (history_of histories i)

-- What the histories of a hall say of a pass: for each object, the pass's calls in its history are exactly those that it made,
-- in its order, and what the pass had seen is a prefix of the history
pub record IsToldPass (banks : List (List BankEntry)) (ports : List (List PortEntry)) (keeper : List KeeperEntry) (pass : PassView) : Type 0 where
  pub bank_calls : (b : ℕ) → calls_by (pass_number pass) (history_of banks b) ≡ made_of pass.banks b
  pub port_calls : (c : ℕ) → calls_by (pass_number pass) (history_of ports c) ≡ made_of pass.ports c
  pub keeper_calls : calls_by (pass_number pass) keeper ≡ made_of pass.keeper 0
  pub banks_seen : (b : ℕ) → BeginsWith (history_of banks b) (seen_of pass.banks b)
  pub ports_seen : (c : ℕ) → BeginsWith (history_of ports c) (seen_of pass.ports c)
  pub keeper_seen : BeginsWith keeper (seen_of pass.keeper 0)

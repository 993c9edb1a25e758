-- Fair locks: which cores have asked for a lock, in the order in which its home handles their requests, and which have acquired it.
use Rattle.std.specs.Prelude.{◌≡◌, ℕ, ◌+◌, ◌==◌, if◌then◌else◌, List, [], ◌∷◌, ◌++◌, length, slice_get, Option, Some, None}
use Rattle.message_net.specs.declared.event.Event.{Event}
use Rattle.message_net.specs.declared.event.Event.TheVariants.{Handle}
use Rattle.message_net.specs.declared.message.Mail.{Mail}
use Rattle.message_net.specs.declared.message.Message.{Message}
use Rattle.message_net.specs.declared.message.Message.TheVariants.{Acquire}
use Rattle.message_net.specs.Pool.{removed}
use Rattle.machine_rules.specs.State.{State}
use Rattle.machine_rules.specs.Next.{next}
use Rattle.machine_rules.specs.Runs.{after, read_off}
use Rattle.machine_rules.specs.Actions.{Action, acquires}
use Rattle.machine_rules.specs.Accesses.{actions_of}

-- a request of a core for a lock
pub record Request : Type 0 where
  pub core : ℕ
  pub lock : ℕ

abbrev pub request_by : Message → Option Request
request_by (Acquire lock core) = Some (record { core = core.0; lock = lock.0 })
request_by _ = None

abbrev pub request_with : Option Mail → Option Request
request_with None = None
request_with (Some m) = request_by m.message

-- the request that is handled by an event, if one is
unfoldable pub request_in : State → Event → Option Request
request_in S (Handle id) = request_with (removed id S.mails).0
request_in S _ = None

-- the core that asks for a lock by a request, and the core that acquires it by an action
abbrev pub asks_for : ℕ → Option Request → Option ℕ
asks_for lock None = None
asks_for lock (Some r) = if r.lock == lock then Some r.core else None

abbrev pub acquires_it : ℕ → Action → Option ℕ
acquires_it lock (acquires x) = if x.lock == lock then Some x.core else None
acquires_it lock _ = None

-- the cores that have asked for a lock in a run, in the order in which the requests are handled
abbrev pub asked_of : ℕ → State → List Event → List ℕ
asked_of lock S events = read_off (λ T e. asks_for lock (request_in T e)) S events

-- the cores that have acquired a lock, in their order
abbrev pub acquired_of : ℕ → List Action → List ℕ
acquired_of lock [] = []
acquired_of lock (a ∷ later) = one_more (acquires_it lock a) (acquired_of lock later)
  where
    one_more : Option ℕ → List ℕ → List ℕ
    one_more None rest = rest
    one_more (Some core) rest = core ∷ rest

-- first come, first served: those that have acquired a lock are the first of those that have asked for it, in the same order
abbrev pub IsFirstComeFirstServed : List ℕ → List ℕ → Type 0
IsFirstComeFirstServed asked acquired = (waiting : List ℕ) × (asked ≡ acquired ++ waiting)

-- the request that an event handles after some events of a run waits for so many acquires of the lock: for one by each core whose
-- request was handled before, and that hasn't acquired the lock yet. The next one is by the core itself
abbrev pub WaitsFor : State → List Event → Event → List Event → ℕ → Type 0
WaitsFor S past e later ahead =
    (lock core next_one : ℕ) → asks_for lock (request_in (after S past) e) ≡ Some core
    → length (asked_of lock S past) ≡ length (acquired_of lock (actions_of S past)) + ahead
    → slice_get (acquired_of lock (actions_of (next (after S past) e) later)) ahead ≡ Some next_one → next_one ≡ core

-- A lock at its home: its holder, the cores that wait for it, and which words were written under it. The definitions from
-- `holder_count` on are for laws.
use Rattle.std.specs.Prelude.{◌≡◌, ℕ, ◌<◌, ◌≤◌, Bool, ◌||◌, ◌==◌, nat_le, List, [], ◌∷◌, ◌++◌, length, Option, Some, None, if◌then◌else◌, count_by}
use Rattle.std.specs.List.{list_any, All}
use Rattle.dn_base.specs.declared.ids.CoreId.{CoreId}
use Rattle.write_signature.specs.declared.signature.Signature.{Signature}
use Rattle.write_signature.specs.Signature.{empty, joined}

-- the holder, if there is one, the cores that wait, the first of them first, how many may wait, and the signature of
-- the words that were written under the lock
pub record Lock : Type 0 where
  pub holder : Option CoreId
  pub queue : List CoreId
  pub capacity : ℕ
  pub kept : Signature

-- nobody holds the lock, nobody waits, and nothing was written under it
abbrev pub free_lock : ℕ → Lock
free_lock cores = record { holder = None; queue = []; capacity = cores; kept = empty 0 }

-- whether a core is this one
abbrev pub is_core : ℕ → CoreId → Bool
is_core core d = d.0 == core

-- whether a core waits
abbrev pub waits : ℕ → List CoreId → Bool
waits core queue = list_any (is_core core) queue

-- how often a core stands in the queue
abbrev pub times_queued : ℕ → List CoreId → ℕ
times_queued core queue = count_by (is_core core) queue

-- what holds of every lock: nobody waits for a free lock, and no core stands in the queue twice
pub record IsLock (h : Lock) : Type 0 where
  pub free : h.holder ≡ None → h.queue ≡ []
  pub once : (core : ℕ) → times_queued core h.queue ≤ 1
  pub within : length h.queue ≤ h.capacity

-- what holds of every lock of a machine with these cores: only they hold it and wait for it, and all of them may wait
pub record IsLockOf (cores : ℕ) (h : Lock) : Type 0 where
  pub lock : IsLock h
  pub room : h.capacity ≡ cores
  pub holder : (core : CoreId) → h.holder ≡ Some core → core.0 < cores
  pub queue : All (λ (core : CoreId). core.0 < cores) h.queue

-- a core asks for a lock that is held: it goes to the end of the queue, unless it waits already or the queue is full
abbrev pub queued : Lock → CoreId → Lock
queued h core =
    if waits core.0 h.queue || nat_le h.capacity (length h.queue) then h
    else record h { queue = h.queue ++ core ∷ [] }

-- a core asks for a lock, by the lock's holder: a free lock is granted to it at once, with the signature
abbrev pub asked : Lock → CoreId → Option CoreId → Lock × Option Signature
asked h core None = (record h { holder = Some core }, Some h.kept)
asked h core (Some holder) = (queued h core, None)

abbrev pub acquired : Lock → CoreId → Lock × Option Signature
acquired h core = asked h core h.holder

-- the lock goes to the first core of the queue, with the signature; it is free if nobody waits
abbrev pub handed_on : Lock → List CoreId → Lock × Option (CoreId × Signature)
handed_on h [] = (record h { holder = None }, None)
handed_on h (next ∷ others) = (record h { holder = Some next; queue = others }, Some (next, h.kept))

-- a core gives a lock up with a signature, by the lock's holder; from any other core it changes nothing
abbrev pub given_up : Lock → CoreId → Signature → Option CoreId → Lock × Option (CoreId × Signature)
given_up h core signature None = (h, None)
given_up h core signature (Some holder) =
    if is_core core.0 holder then handed_on (record h { kept = joined h.kept signature }) h.queue else (h, None)

abbrev pub released : Lock → CoreId → Signature → Lock × Option (CoreId × Signature)
released h core signature = given_up h core signature h.holder

-- whether the lock's holder is this core, as a number
abbrev pub holder_count : ℕ → Option CoreId → ℕ
holder_count core None = 0
holder_count core (Some holder) = if is_core core holder then 1 else 0

-- whether an acquire of `asker` is granted to this core, as a number
abbrev pub grant_count : ℕ → CoreId → Option Signature → ℕ
grant_count core asker None = 0
grant_count core asker (Some signature) = if is_core core asker then 1 else 0

-- whether a release is answered to this core, as a number
abbrev pub next_count : ℕ → Option (CoreId × Signature) → ℕ
next_count core None = 0
next_count core (Some next) = if is_core core next.0 then 1 else 0

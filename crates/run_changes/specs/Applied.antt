-- What changes make of a core's state, part by part, where they are applied one after the other.
use Rattle.std.specs.Prelude.{◌≡◌, ℕ, ◌+◌, ◌==◌, ◌||◌, Bool, true, false, List, [], ◌∷◌, length, map, Option, Some, None, if◌then◌else◌}
use Rattle.std.specs.List.{fold, list_any, range_with_len}
use Rattle.std.specs.Option.{option_map}
use Rattle.dn_base.specs.declared.ids.CoreId.{CoreId}
use Rattle.rv_core.specs.declared.task.End.{End}
use Rattle.rv_core.specs.declared.task.TaskState.{TaskState}
use Rattle.rv_core.specs.Task.{retires_at}
use Rattle.write_signature.specs.declared.signature.Signature.{Signature}
use Rattle.write_signature.specs.Signature.{empty}
use Rattle.word_cache.specs.declared.row.Entry.{Entry}
use Rattle.queue_lock.specs.Lock.{Lock, is_core}
use Rattle.registry_bank.specs.declared.bank.BankWord.{BankWord}
use Rattle.phase_barrier.specs.Barrier.{Barrier}
use Rattle.registration_protocol.specs.declared.node.NodeWait.{NodeWait}
use Rattle.registration_protocol.specs.declared.node.NodeWait.TheVariants as wait
use Rattle.registration_protocol.specs.Node.{NodeParts, entry_of}
use Rattle.run_changes.specs.declared.change.Change.{Change}
use Rattle.run_changes.specs.declared.change.Change.TheVariants as change
use Rattle.run_changes.specs.declared.look.EntryBefore.{EntryBefore}

-- the entry of a word
abbrev pub entry_step : ℕ → Option Entry → Change → Option Entry
entry_step w e (change.Gone word) = if word.0 == w then None else e
entry_step w e (change.Holds word f) = if word.0 == w then Some f else e
entry_step w e _ = e

-- the phase
abbrev pub phase_step : ℕ → Change → ℕ
phase_step p (change.Begins q) = q.0
phase_step p _ = p

-- what the core waits for; when a phase begins it waits for nothing
abbrev pub wait_step : NodeWait → Change → NodeWait
wait_step x (change.Waits y) = y
wait_step x (change.Begins q) = wait.None
wait_step x _ = x

-- whether it has arrived, which it hasn't when a phase begins, and whether it has halted
abbrev pub arrived_step : Bool → Change → Bool
arrived_step x change.Arrived = true
arrived_step x (change.Begins q) = false
arrived_step x _ = x

abbrev pub halted_step : Bool → Change → Bool
halted_step x change.Halted = true
halted_step x _ = x

-- the signature for a lock, which is empty when a phase begins
abbrev pub signature_step : ℕ → Signature → Change → Signature
signature_step l s (change.Signed lock t) = if lock.0 == l then t else s
signature_step l s (change.Begins q) = empty q.0
signature_step l s _ = s

-- whether the task holds a lock
abbrev pub hold_step : ℕ → Bool → Change → Bool
hold_step l x (change.Takes lock) = if lock.0 == l then true else x
hold_step l x (change.Gives lock) = if lock.0 == l then false else x
hold_step l x (change.Begins q) = false
hold_step l x _ = x

-- the pc of a task in a phase that has begun, how many instructions have retired, and how the task has ended
abbrev pub pc_step : ℕ → Change → ℕ
pc_step x (change.Retired pc) = pc
pc_step x (change.At pc retired) = pc
pc_step x _ = x

abbrev pub retired_step : ℕ → Change → ℕ
retired_step n (change.Retired pc) = n + 1
retired_step n (change.At pc retired) = retired
retired_step n (change.Ended by) = n + retires_at by
retired_step n (change.Begins q) = 0
retired_step n _ = n

abbrev pub end_step : Option End → Change → Option End
end_step x (change.Ended by) = Some by
end_step x (change.Begins q) = None
end_step x _ = x

-- each of these words has the entry that a node has of it
abbrev pub AreEntriesOf : NodeParts → List EntryBefore → Type 0
AreEntriesOf n [] = Unit {0}
AreEntriesOf n (e ∷ es) = (e.entry ≡ entry_of n e.word.0) × AreEntriesOf n es

-- whether a word is one of them
abbrev pub is_among : ℕ → List EntryBefore → Bool
is_among w [] = false
is_among w (e ∷ es) = (e.word.0 == w) || is_among w es

-- the words that were looked at had these entries before, and every other word's entry stays
pub record AreLookedAt (n m : NodeParts) (entries : List EntryBefore) : Type 0 where
  pub before : AreEntriesOf n entries
  pub others : (w : ℕ) → is_among w entries ≡ false → entry_of m w ≡ entry_of n w

-- what a word's home holds for it
abbrev pub home_step : ℕ → Option BankWord → Change → Option BankWord
home_step w x (change.Home word there) = if word.0 == w then Some there else x
home_step w x _ = x

-- a lock at its home, with this holder and these cores that wait, and with this signature
abbrev pub with_queue : Option CoreId → List CoreId → Lock → Lock
with_queue holder waiting h = record h { holder = holder; queue = waiting }

abbrev pub with_kept : Signature → Lock → Lock
with_kept s h = record h { kept = s }

-- what a lock is at its home
abbrev pub lock_step : ℕ → Option Lock → Change → Option Lock
lock_step l x (change.Queue lock holder waiting) = if lock.0 == l then option_map (with_queue holder waiting) x else x
lock_step l x (change.Signed lock s) = if lock.0 == l then option_map (with_kept s) x else x
lock_step l x _ = x

-- for each of `cores` cores whether it is among those that have arrived
abbrev pub marks_of : ℕ → List CoreId → List Bool
marks_of cores arrived = map (λ (core : ℕ). list_any (is_core core) arrived) (range_with_len 0 cores)

-- the keeper, of which a change tells all that ever changes
abbrev pub keeper_step : Barrier → Change → Barrier
keeper_step k (change.Barrier phase bad arrived) = record k { phase = phase.0; bad = bad; arrived = marks_of (length k.arrived) arrived }
keeper_step k _ = k

-- changes lead from a core's phase, wait and flags to another's
pub record StatusFollows (n : NodeParts) (changes : List Change) (m : NodeParts) : Type 0 where
  pub phase : fold phase_step n.phase changes ≡ m.phase
  pub waiting : fold wait_step n.waiting changes ≡ m.waiting
  pub arrived : fold arrived_step n.arrived changes ≡ m.arrived
  pub halted : fold halted_step n.halted changes ≡ m.halted

-- the changes lead from a task's pc, retired instructions and end to those of another task
pub record TaskFollows (t : TaskState) (changes : List Change) (u : TaskState) : Type 0 where
  pub pc : fold pc_step t.pc changes ≡ u.pc
  pub retired : fold retired_step t.retired changes ≡ u.retired
  pub end : fold end_step t.end changes ≡ u.end

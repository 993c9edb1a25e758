-- How an actor's state changes, change by change: the difference between what was looked at before an event and the state after
-- it.
use Rattle.std.specs.Prelude.{ℕ, zero, suc, ◌+◌, ◌==◌, Bool, true, false, ◌&&◌, not, List, [], ◌∷◌, ◌++◌, length, flat_map, slice_get, slice_index_or, Option, Some, None, if◌then◌else◌}
use Rattle.std.specs.Option.{is_some}
use Rattle.dn_base.specs.declared.ids.CoreId.{CoreId}
use Rattle.dn_base.specs.declared.ids.LoadSeen.{LoadSeen}
use Rattle.dn_base.specs.declared.ids.LockId.{LockId}
use Rattle.dn_base.specs.declared.ids.WordId.{WordId}
use Rattle.rv_core.specs.declared.need.Need as need
use Rattle.rv_core.specs.declared.need.Need.{Need}
use Rattle.rv_core.specs.declared.task.End.{End}
use Rattle.rv_core.specs.declared.task.TaskState.{TaskState}
use Rattle.rv_core.specs.Access.{is_held}
use Rattle.write_signature.specs.declared.signature.Signature.{Signature}
use Rattle.write_signature.specs.Signature.{same_signature}
use Rattle.word_cache.specs.declared.row.Entry.{Entry}
use Rattle.word_cache.specs.declared.row.Entry.TheVariants.{Valid, Registered, Leaving}
use Rattle.queue_lock.specs.Lock.{Lock}
use Rattle.registry_bank.specs.declared.bank.BankWord.{BankWord}
use Rattle.registry_bank.specs.declared.bank.BankWord.TheVariants as content
use Rattle.phase_barrier.specs.Barrier.{Barrier, has_arrived}
use Rattle.registration_protocol.specs.declared.node.NodeWait.{NodeWait}
use Rattle.registration_protocol.specs.declared.node.NodeWait.TheVariants as wait
use Rattle.registration_protocol.specs.Node.{NodeParts, entry_of}
use Rattle.machine_rules.specs.State.{State, word_in, lock_in}
use Rattle.machine_rules.specs.Memory.{value_in_entry}
use Rattle.run_changes.specs.declared.change.Change.{Change}
use Rattle.run_changes.specs.declared.change.Change.TheVariants as change
use Rattle.run_changes.specs.declared.look.EntryBefore.{EntryBefore}
use Rattle.run_changes.specs.declared.look.NodeLook.{NodeLook}
use Rattle.run_changes.specs.declared.look.LockLook.{LockLook}
use Rattle.run_changes.specs.declared.look.Look.{Look}
use Rattle.run_changes.specs.declared.look.Look.TheVariants.{Nothing, Node, Word, Keeper}
use Rattle.run_changes.specs.declared.look.Look.TheVariants.{Lock as LockAt}

-- a change if a test fails, and none if it holds
abbrev pub change_unless : Bool → Change → List Change
change_unless same c = if same then [] else c ∷ []

-- ---- entries

abbrev pub same_entry : Entry → Entry → Bool
same_entry (Valid a true) (Valid b true) = a == b
same_entry (Valid a false) (Valid b false) = a == b
same_entry (Registered a true) (Registered b true) = a == b
same_entry (Registered a false) (Registered b false) = a == b
same_entry (Leaving a) (Leaving b) = a == b
same_entry _ _ = false

-- how the entry of a word changes
abbrev pub entry_change : WordId → Option Entry → Option Entry → List Change
entry_change word None None = []
entry_change word (Some before) None = change.Gone word ∷ []
entry_change word None (Some after) = change.Holds word after ∷ []
entry_change word (Some before) (Some after) = change_unless (same_entry before after) (change.Holds word after)

abbrev pub change_before : NodeParts → EntryBefore → List Change
change_before n e = entry_change e.word e.entry (entry_of n e.word.0)

abbrev pub entry_changes : NodeParts → List EntryBefore → List Change
entry_changes n entries = flat_map (change_before n) entries

-- ---- tasks

-- an instruction retires, or the task ends
abbrev pub retire_change : TaskState → TaskState → List Change
retire_change before after = change_unless (before.retired == after.retired) (change.Retired after.pc)

abbrev pub end_change : TaskState → TaskState → Option End → List Change
end_change before after None = retire_change before after
end_change before after (Some by) = change_unless (is_some before.end) (change.Ended by)

abbrev pub task_change : Option TaskState → Option TaskState → List Change
task_change (Some before) (Some after) = end_change before after after.end
task_change _ _ = []

-- the locks that a task holds; none if there is no task
abbrev pub locks_held : Option TaskState → ℕ
locks_held None = 0
locks_held (Some t) = t.held

abbrev pub same_wait : NodeWait → NodeWait → Bool
same_wait wait.None wait.None = true
same_wait (wait.Reading a) (wait.Reading b) = a.0 == b.0
same_wait (wait.Filled a) (wait.Filled b) = a.0 == b.0
same_wait (wait.Locking a) (wait.Locking b) = a.0 == b.0
same_wait _ _ = false

abbrev pub wait_change : NodeWait → NodeWait → List Change
wait_change before after = change_unless (same_wait before after) (change.Waits after)

-- ---- locks and signatures of a core

-- a lock is held now, or isn't held any more
abbrev pub hold_change : ℕ → Bool → Bool → List Change
hold_change lock false true = change.Takes (record { 0 = lock }) ∷ []
hold_change lock true false = change.Gives (record { 0 = lock }) ∷ []
hold_change lock _ _ = []

abbrev pub sign_change : ℕ → Signature → Signature → List Change
sign_change lock before after = change_unless (same_signature before after) (change.Signed (record { 0 = lock }) after)

-- the changes for the locks from one on, by the locks held before and after, all signatures before, and these locks' signatures
-- after
abbrev pub lock_changes : ℕ → ℕ → List Signature → ℕ → List Signature → List Change
lock_changes before after signatures lock [] = []
lock_changes before after signatures lock (s ∷ ss) =
    hold_change lock (is_held before lock) (is_held after lock)
    ++ (sign_change lock (slice_index_or signatures lock s) s ++ lock_changes before after signatures (lock + 1) ss)

-- ---- flags

abbrev pub flag_change : Bool → Bool → Change → List Change
flag_change false true c = c ∷ []
flag_change _ _ c = []

-- ---- a core's node

-- how a node changes that stays in its phase
abbrev pub part_changes : NodeLook → NodeParts → List Change
part_changes look n =
    task_change look.task n.task
    ++ (wait_change look.wait n.waiting
    ++ (lock_changes (locks_held look.task) (locks_held n.task) look.signatures 0 n.signatures
    ++ (flag_change look.arrived n.arrived change.Arrived ++ flag_change look.halted n.halted change.Halted)))

-- how a node changes: a phase begins, or its parts change one by one; entries change in both cases
unfoldable pub node_changes : NodeLook → NodeParts → List Change
node_changes look n =
    if look.phase.0 == n.phase then entry_changes n look.entries ++ part_changes look n
    else change.Begins (record { 0 = n.phase }) ∷ entry_changes n look.entries

-- the load that retired, and the store, which left its value in the entry
abbrev pub load_change : Option LoadSeen → List Change
load_change None = []
load_change (Some seen) = change.Loaded seen ∷ []

abbrev pub has_retired : Option TaskState → Option TaskState → Bool
has_retired (Some before) (Some after) = not (before.retired == after.retired)
has_retired _ _ = false

abbrev pub store_change : NodeLook → NodeParts → Option Need → List Change
store_change look n (Some (need.TheVariants.Store word whole)) =
    if has_retired look.task n.task then change.Stored word (value_in_entry (entry_of n word.0)) ∷ [] else []
store_change look n _ = []

-- how an event changes a core, and what its instruction read and wrote
abbrev pub core_changes : NodeLook → Option LoadSeen → Option NodeParts → List Change
core_changes look seen None = []
core_changes look seen (Some n) = node_changes look n ++ (load_change seen ++ store_change look n look.needs)

-- ---- banks

abbrev pub same_content : BankWord → BankWord → Bool
same_content (content.Home a) (content.Home b) = a == b
same_content (content.Reg a) (content.Reg b) = a.0 == b.0
same_content _ _ = false

abbrev pub home_change : WordId → Option BankWord → Option BankWord → List Change
home_change word (Some before) (Some after) = change_unless (same_content before after) (change.Home word after)
home_change word _ _ = []

abbrev pub same_holder : Option CoreId → Option CoreId → Bool
same_holder None None = true
same_holder (Some a) (Some b) = a.0 == b.0
same_holder _ _ = false

-- whether a lock has the same holder and as many waiting cores as before. Then the same cores wait, since a core can only join
-- at the end, and only the first can become the holder
abbrev pub same_queue : LockLook → Lock → Bool
same_queue look h = same_holder look.holder h.holder && (look.waiting == length h.queue)

abbrev pub queue_change : LockId → LockLook → Option Lock → List Change
queue_change lock look None = []
queue_change lock look (Some h) =
    change_unless (same_queue look h) (change.Queue lock h.holder h.queue)
    ++ change_unless (same_signature look.kept h.kept) (change.Signed lock h.kept)

-- ---- the keeper

-- a core that has arrived, or none
abbrev pub arrived_core : ℕ → Bool → List CoreId
arrived_core core true = record { 0 = core } ∷ []
arrived_core core false = []

-- of `count` cores from one on, those that have arrived
abbrev pub arrived_from : Barrier → ℕ → ℕ → List CoreId
arrived_from k core zero = []
arrived_from k core (suc n) = arrived_core core (has_arrived core k) ++ arrived_from k (core + 1) n

-- the keeper's whole state
abbrev pub barrier_change : Barrier → Change
barrier_change k = change.Barrier (record { 0 = k.phase }) k.bad (arrived_from k 0 (length k.arrived))

-- ---- any actor

-- what an event changes, by what was looked at before it, the load that it completed, and the state after it
unfoldable pub changes_by : Look → Option LoadSeen → State → List Change
changes_by Nothing seen T = []
changes_by (Node core look) seen T = core_changes look seen (slice_get T.nodes core.0)
changes_by (Word bank word before) seen T = home_change word before (word_in word.0 (slice_get T.banks bank.0))
changes_by (LockAt bank lock look) seen T = queue_change lock look (lock_in lock.0 (slice_get T.banks bank.0))
changes_by Keeper seen T = barrier_change T.keeper ∷ []

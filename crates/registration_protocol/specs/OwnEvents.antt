-- A node's own events: when each may come, and what it does.
use Rattle.std.specs.Prelude.{◌≡◌, ℕ, ◌+◌, ◌%◌, Bool, true, false, ◌&&◌, ◌||◌, ◌==◌, not, List, [], ◌∷◌, slice_index_or, Option, Some, None, if◌then◌else◌}
use Rattle.std.specs.Option.{is_some, option_or}
use Rattle.dn_base.specs.declared.ids.CoreId.{CoreId}
use Rattle.dn_base.specs.declared.ids.WordId.{WordId}
use Rattle.region_table.specs.declared.declared.TaskDecl.{TaskDecl}
use Rattle.region_table.specs.Words.{has}
use Rattle.region_table.specs.Plan.{uses_plainly}
use Rattle.region_table.specs.Tasks.{declared}
use Rattle.rv_core.specs.declared.task.TaskState.{TaskState}
use Rattle.rv_core.specs.declared.task.End as cause
use Rattle.rv_core.specs.declared.task.End.{End}
use Rattle.rv_core.specs.declared.need.Need as need
use Rattle.rv_core.specs.declared.need.Need.{Need}
use Rattle.rv_core.specs.declared.ending.EndShown as shown
use Rattle.rv_core.specs.declared.ending.EndShown.{EndShown}
use Rattle.rv_core.specs.declared.ending.TaskEnd.{TaskEnd}
use Rattle.rv_core.specs.Access.{is_held}
use Rattle.rv_core.specs.Step.{advanced, loaded_of, merged_of}
use Rattle.rv_core.specs.Task.{stopped}
use Rattle.rv_core.specs.Ending.{shown_end}
use Rattle.write_signature.specs.declared.signature.Signature.{Signature}
use Rattle.write_signature.specs.Signature.{inserted}
use Rattle.message_net.specs.declared.message.Message.TheVariants.{ReadReq, RegReq, WriteBack, Acquire, Release, Arrived}
use Rattle.message_net.specs.declared.message.Outgoing.{Outgoing}
use Rattle.message_net.specs.declared.event.Event as event
use Rattle.message_net.specs.declared.event.Event.{Event}
use Rattle.message_net.specs.Mail.{to_home, to_keeper}
use Rattle.word_cache.specs.declared.row.Entry.{Entry}
use Rattle.word_cache.specs.declared.row.Entry.TheVariants.{Valid, Registered, Leaving}
use Rattle.word_cache.specs.Cache.{has_room, put, changed, touched, without, may_go, victim_of}
use Rattle.registration_protocol.specs.declared.node.NodeWait as wait
use Rattle.registration_protocol.specs.declared.node.NodeWait.{NodeWait}
use Rattle.registration_protocol.specs.declared.node.Step.{Step}
use Rattle.registration_protocol.specs.Node.{NodeParts, Setting, is_running, need_now, entry_of, is_settled, is_active, is_ready, waits_for_nothing, keeping, signature_of}

-- whether an access of a word may come, by the word's entry: it stalls while the word is leaving, and a word without an entry
-- needs room in the cache
abbrev pub may_access : NodeParts → ℕ → Option Entry → Bool
may_access n w None = has_room n.cache w
may_access n w (Some (Valid value marked)) = true
may_access n w (Some (Registered value pending)) = true
may_access n w (Some (Leaving value)) = false

abbrev pub lets : NodeParts → Option Need → Bool
lets n None = false
lets n (Some need.TheVariants.Local) = true
lets n (Some (need.TheVariants.End cause)) = true
lets n (Some (need.TheVariants.Acquire lock)) = true
lets n (Some (need.TheVariants.Release lock)) = is_settled n
lets n (Some (need.TheVariants.Load word)) = may_access n word.0 (entry_of n word.0)
lets n (Some (need.TheVariants.Store word whole)) = may_access n word.0 (entry_of n word.0)

abbrev pub may_instr : Setting → NodeParts → Bool
may_instr C n = is_active n && is_ready n.waiting && lets n (need_now C n)

-- the word that lacks a place in the cache for the next instruction, if there is one
abbrev pub crowded : NodeParts → WordId → Option WordId
crowded n word = if is_some (entry_of n word.0) || has_room n.cache word.0 then None else Some word

abbrev pub wanted_by : NodeParts → Option Need → Option WordId
wanted_by n (Some (need.TheVariants.Load word)) = crowded n word
wanted_by n (Some (need.TheVariants.Store word whole)) = crowded n word
wanted_by n _ = None

-- whether a word may be evicted to make room for the wanted one: it is in that word's set, and Valid, or Registered and not
-- pending
abbrev pub makes_room : NodeParts → ℕ → Option WordId → Bool
makes_room n w None = false
makes_room n w (Some wanted) = (w % n.cache.sets == wanted.0 % n.cache.sets) && may_go (entry_of n w)

abbrev pub may_evict : Setting → NodeParts → ℕ → Bool
may_evict C n w = is_active n && waits_for_nothing n.waiting && makes_room n w (wanted_by n (need_now C n))

abbrev pub may_arrive : NodeParts → Bool
may_arrive n = is_active n && not (is_running n.task) && is_settled n

-- the node with this entry for a word, whose pair is then the most recently used
abbrev pub with_put : NodeParts → WordId → Entry → NodeParts
with_put n word e = keeping n (put word e n.cache.pairs)

-- the instruction has retired
abbrev pub retires : NodeParts → TaskState → NodeParts
retires n t = record n { task = Some t; waiting = wait.TheVariants.None }

abbrev pub silent : NodeParts → NodeParts × Step
silent n = (n, record { sent = None; seen = None })

abbrev pub sends_only : NodeParts → Option Outgoing → NodeParts × Step
sends_only n sent = (n, record { sent = sent; seen = None })

abbrev pub sees : NodeParts → WordId → ℕ → NodeParts × Step
sees n word value = (n, record { sent = None; seen = Some (record { word = word; value = value }) })

abbrev pub me : NodeParts → CoreId
me n = record { 0 = n.core }

-- a word is asked for
abbrev pub misses : Setting → NodeParts → WordId → NodeParts × Step
misses C n word = sends_only (record n { waiting = wait.TheVariants.Reading word }) (to_home C.shape.banks word.0 (ReadReq word (me n)))

-- Load w, by the entry of w
abbrev pub load_row : Setting → NodeParts → TaskDecl → TaskState → WordId → Option Entry → NodeParts × Step
load_row C n d t word None = misses C n word
load_row C n d t word (Some (Valid value marked)) =
    sees (retires (with_put n word (Valid value (marked || uses_plainly d word.0))) (loaded_of C.program value t)) word value
load_row C n d t word (Some (Registered value pending)) =
    sees (retires (keeping n (touched word n.cache.pairs)) (loaded_of C.program value t)) word value
load_row C n d t word (Some (Leaving value)) = silent n

-- the signature of a lock after a store to a word: it then has the word if the task holds the lock and the lock guards the word
-- for the task's stores
abbrev pub noted_at : TaskDecl → ℕ → ℕ → ℕ → ℕ → Signature → Signature
noted_at d held w phase lock s =
    if is_held held lock && has (slice_index_or d.effects.guarded_writes lock []) w then inserted s w phase else s

-- the signatures of the locks from `lock` on
abbrev pub noted : TaskDecl → ℕ → ℕ → ℕ → ℕ → List Signature → List Signature
noted d held w phase lock [] = []
noted d held w phase lock (s ∷ ss) = noted_at d held w phase lock s ∷ noted d held w phase (lock + 1) ss

-- a store retires, and its word gets this entry
abbrev pub stored : Setting → NodeParts → TaskDecl → TaskState → WordId → Entry → NodeParts
stored C n d t word e =
    record (retires (with_put n word e) (advanced C.program t)) { signatures = noted d t.held word.0 n.phase 0 n.signatures }

-- a store registers its word
abbrev pub registers_word : Setting → NodeParts → TaskDecl → TaskState → WordId → ℕ → NodeParts × Step
registers_word C n d t word value = sends_only (stored C n d t word (Registered value true)) (to_home C.shape.banks word.0 (RegReq word (me n)))

-- Store w, by the entry of w
abbrev pub store_row : Setting → NodeParts → TaskDecl → TaskState → WordId → Bool → Option Entry → NodeParts × Step
store_row C n d t word whole None = if whole then registers_word C n d t word (merged_of C.program 0 t) else misses C n word
store_row C n d t word whole (Some (Valid value marked)) = registers_word C n d t word (merged_of C.program value t)
store_row C n d t word whole (Some (Registered value pending)) =
    silent (stored C n d t word (Registered (merged_of C.program value t) pending))
store_row C n d t word whole (Some (Leaving value)) = silent n

-- an instruction, by its need
abbrev pub instr_row : Setting → NodeParts → TaskDecl → TaskState → Need → NodeParts × Step
instr_row C n d t need.TheVariants.Local = silent (record n { task = Some (advanced C.program t) })
instr_row C n d t (need.TheVariants.End cause) = silent (record n { task = Some (stopped cause t) })
instr_row C n d t (need.TheVariants.Load word) = load_row C n d t word (entry_of n word.0)
instr_row C n d t (need.TheVariants.Store word whole) = store_row C n d t word whole (entry_of n word.0)
instr_row C n d t (need.TheVariants.Acquire lock) =
    sends_only (record n { waiting = wait.TheVariants.Locking lock }) (to_home C.shape.banks lock.0 (Acquire lock (me n)))
instr_row C n d t (need.TheVariants.Release lock) =
    sends_only (record n { task = Some (advanced C.program t) }) (to_home C.shape.banks lock.0 (Release lock (me n) (signature_of n lock.0)))

-- an instruction of a task that hasn't ended
abbrev pub instr_by : Setting → NodeParts → Option TaskDecl → Option TaskState → Option Need → NodeParts × Step
instr_by C n (Some d) (Some t) (Some need) = instr_row C n d t need
instr_by C n _ _ _ = silent n

unfoldable pub instructed : Setting → NodeParts → NodeParts × Step
instructed C n = instr_by C n (declared C.program n.phase n.core) n.task (need_now C n)

-- the word that a store writes if it retires, and the value that it gets, by the word's entry
abbrev pub written_by : Setting → TaskState → WordId → Bool → Option Entry → Option (WordId × ℕ)
written_by C t word whole None = if whole then Some (word, merged_of C.program 0 t) else None
written_by C t word whole (Some (Valid value marked)) = Some (word, merged_of C.program value t)
written_by C t word whole (Some (Registered value pending)) = Some (word, merged_of C.program value t)
written_by C t word whole (Some (Leaving value)) = None

abbrev pub written_if : Setting → NodeParts → Option TaskState → Option Need → Option (WordId × ℕ)
written_if C n (Some t) (Some (need.TheVariants.Store word whole)) = written_by C t word whole (entry_of n word.0)
written_if C n _ _ = None

-- the word that the next instruction writes, and its new value; None if that isn't a store that retires
unfoldable pub written_now : Setting → NodeParts → Option (WordId × ℕ)
written_now C n = written_if C n n.task (need_now C n)

-- an eviction, by the entry of the word
abbrev pub evicts : Setting → NodeParts → WordId → Option Entry → NodeParts × Option Outgoing
evicts C n word (Some (Valid value marked)) = (keeping n (without word.0 n.cache.pairs), None)
evicts C n word (Some (Registered value false)) =
    (keeping n (changed word.0 (Leaving value) n.cache.pairs), to_home C.shape.banks word.0 (WriteBack word value (me n)))
evicts C n word _ = (n, None)

abbrev pub evicted : Setting → NodeParts → WordId → NodeParts × Option Outgoing
evicted C n word = evicts C n word (entry_of n word.0)

-- whether a task ended by a trap or because it ran out of fuel
abbrev pub ended_badly : Option End → Bool
ended_badly None = false
ended_badly (Some cause.TheVariants.Finished) = false
ended_badly (Some _) = true

abbrev pub task_ended_badly : Option TaskState → Bool
task_ended_badly None = false
task_ended_badly (Some t) = ended_badly t.end

-- the arrival at the barrier
abbrev pub arrives : NodeParts → NodeParts × Option Outgoing
arrives n = (record n { arrived = true }, to_keeper (Arrived (me n) (task_ended_badly n.task)))

-- the cache's victim for the wanted word, if there is one
abbrev pub victim_for : NodeParts → Option WordId → Option WordId
victim_for n None = None
victim_for n (Some wanted) = victim_of n.cache wanted.0

abbrev pub eviction_of : Setting → NodeParts → Option WordId → Option Event
eviction_of C n None = None
eviction_of C n (Some victim) = if may_evict C n victim.0 then Some (event.TheVariants.Evict (me n) victim) else None

abbrev pub eviction : Setting → NodeParts → Option Event
eviction C n = eviction_of C n (victim_for n (wanted_by n (need_now C n)))

abbrev pub arrival : NodeParts → Option Event
arrival n = if may_arrive n then Some (event.TheVariants.Arrive (me n)) else None

-- the node's next own event: its instruction if that may come, otherwise the eviction of the cache's victim, otherwise its
-- arrival
abbrev pub own_event : Setting → NodeParts → Option Event
own_event C n = if may_instr C n then Some (event.TheVariants.Instr (me n)) else option_or (eviction C n) (arrival n)

-- a node without an own event
pub record IsStill (C : Setting) (n : NodeParts) : Type 0 where
  pub instr : may_instr C n ≡ false
  pub evict : (w : ℕ) → may_evict C n w ≡ false
  pub arrive : may_arrive n ≡ false

-- how a task stands: how it ended, or which lock it waits for; None where it hasn't ended and waits for none
abbrev pub shown_by : Option End → NodeWait → Option EndShown
shown_by (Some by) waiting = Some (shown_end by)
shown_by None (wait.TheVariants.Locking lock) = Some (shown.TheVariants.Waits lock)
shown_by None _ = None

abbrev pub end_by : NodeParts → TaskState → Option EndShown → Option TaskEnd
end_by n t None = None
end_by n t (Some e) = Some (record { phase = record { 0 = n.phase }; core = me n; end = e; retired = t.retired })

abbrev pub end_of : NodeParts → Option TaskState → Option TaskEnd
end_of n None = None
end_of n (Some t) = end_by n t (shown_by t.end n.waiting)

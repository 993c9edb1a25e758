-- What each reason states about a state.
use Rattle.std.specs.Prelude.{◌≡◌, ◌≢◌, ℕ, ◌%◌, true, false, Option, Some, None, slice_get}
use Rattle.std.specs.Option.{is_some}
use Rattle.message_net.specs.declared.event.Event.{Event}
use Rattle.message_net.specs.declared.event.Event.TheVariants.{Instr, Evict, Arrive, Handle}
use Rattle.message_net.specs.Pool.{count_of}
use Rattle.word_cache.specs.declared.row.Entry.TheVariants.{Registered, Leaving}
use Rattle.word_cache.specs.Cache.{has_room}
use Rattle.registration_protocol.specs.declared.node.NodeWait as wait
use Rattle.registration_protocol.specs.Node.{NodeParts, Setting, need_now, entry_of, is_running, is_settled}
use Rattle.registration_protocol.specs.OwnEvents.{wanted_by}
use Rattle.machine_rules.specs.State.{State}
use Rattle.state_text.specs.declared.reason.Reason.{Reason}
use Rattle.state_text.specs.declared.reason.Reason as reason

-- what a reason states about the core whose event may not come
abbrev pub HoldsOf : Setting → NodeParts → Reason → Type 0
HoldsOf C n reason.TheVariants.NoCore = ⊥
HoldsOf C n reason.TheVariants.Halted = n.halted ≡ true
HoldsOf C n reason.TheVariants.Arrived = n.arrived ≡ true
HoldsOf C n reason.TheVariants.NoTask = n.task ≡ None
HoldsOf C n reason.TheVariants.TaskEnded = (is_some n.task ≡ true) × (is_running n.task ≡ false)
HoldsOf C n reason.TheVariants.TaskRuns = is_running n.task ≡ true
HoldsOf C n (reason.TheVariants.WaitsForWord word) = n.waiting ≡ wait.TheVariants.Reading word
HoldsOf C n (reason.TheVariants.WaitsForLock lock) = n.waiting ≡ wait.TheVariants.Locking lock
HoldsOf C n (reason.TheVariants.HasValue word) = n.waiting ≡ wait.TheVariants.Filled word
HoldsOf C n (reason.TheVariants.IsLeaving word) = (value : ℕ) × (entry_of n word.0 ≡ Some (Leaving value))
HoldsOf C n (reason.TheVariants.IsPending word) = (value : ℕ) × (entry_of n word.0 ≡ Some (Registered value true))
HoldsOf C n (reason.TheVariants.NoEntry word) = entry_of n word.0 ≡ None
HoldsOf C n (reason.TheVariants.NoRoom word) = (entry_of n word.0 ≡ None) × (has_room n.cache word.0 ≡ false)
HoldsOf C n reason.TheVariants.HasPending = is_settled n ≡ false
HoldsOf C n reason.TheVariants.NeedsNoRoom = wanted_by n (need_now C n) ≡ None
HoldsOf C n (reason.TheVariants.OtherSet word wanted) =
    (wanted_by n (need_now C n) ≡ Some wanted) × (word.0 % n.cache.sets ≢ wanted.0 % n.cache.sets)
HoldsOf C n reason.TheVariants.NoMail = ⊥

-- the same for a core that the machine may not have
abbrev pub HoldsAtCore : Setting → Option NodeParts → Reason → Type 0
HoldsAtCore C None r = r ≡ reason.TheVariants.NoCore
HoldsAtCore C (Some n) r = HoldsOf C n r

-- a reason against an event is true in a state
abbrev pub HoldsIn : State → Event → Reason → Type 0
HoldsIn S (Instr core) r = HoldsAtCore S.setting (slice_get S.nodes core.0) r
HoldsIn S (Evict core word) r = HoldsAtCore S.setting (slice_get S.nodes core.0) r
HoldsIn S (Arrive core) r = HoldsAtCore S.setting (slice_get S.nodes core.0) r
HoldsIn S (Handle id) r = (r ≡ reason.TheVariants.NoMail) × (count_of id S.mails ≡ 0)

-- The words for which an event may change what its actor holds: few of them, whatever the size of the memory.
--
-- It is proved (proofs/Others.antt) that no other word changes. The definition of the chart doesn't rest on this.
use Rattle.std.specs.Prelude.{◌≡◌, ℕ, ◌<◌, ◌==◌, Bool, true, false, List, Option, Some, None, slice_get}
use Rattle.std.specs.List.{Contains}
use Rattle.std.specs.List.Sorted.{IsStrictlyIncreasing}
use Rattle.std.specs.Option.{is_some}
use Rattle.dn_base.specs.declared.ids.CoreId.{CoreId}
use Rattle.message_net.specs.declared.actor.Actor.{Actor}
use Rattle.message_net.specs.declared.actor.Actor.TheVariants.{Core, Bank, Keeper}
use Rattle.message_net.specs.declared.event.Event.{Event}
use Rattle.message_net.specs.declared.event.Event.TheVariants.{Instr, Evict, Arrive, Handle}
use Rattle.message_net.specs.declared.message.Mail.{Mail}
use Rattle.message_net.specs.declared.message.Message.{Message}
use Rattle.message_net.specs.declared.message.Message.TheVariants.{DataReply, RegReq, RegFwd, RegAck, WriteBack, WbAck, Grant, Go}
use Rattle.message_net.specs.Pool.{removed}
use Rattle.rv_core.specs.declared.need.Need.{Need}
use Rattle.rv_core.specs.declared.need.Need.TheVariants.{Load, Store}
use Rattle.registration_protocol.specs.Node.{NodeParts, Setting, need_now}
use Rattle.machine_rules.specs.State.{State, entry_at}
use Rattle.run_chart.specs.declared.affected.Affected.{Affected}
use Rattle.run_chart.specs.declared.affected.Affected.TheVariants.{Nothing, Word, Entries}

-- the word that an instruction accesses
abbrev pub by_need : Option Need → Affected
by_need (Some (Load word)) = Word word
by_need (Some (Store word whole)) = Word word
by_need _ = Nothing

abbrev pub by_node : Setting → Option NodeParts → Affected
by_node C None = Nothing
by_node C (Some n) = by_need (need_now C n)

abbrev pub affected_by_core : State → CoreId → Affected
affected_by_core S core = by_node S.setting (slice_get S.nodes core.0)

-- the word that a message names; or at a Grant or a Go, where copies may be dropped, each word that the core has an entry of
abbrev pub by_core_message : CoreId → Message → Affected
by_core_message core (DataReply word value) = Word word
by_core_message core (RegAck word) = Word word
by_core_message core (RegFwd word other) = Word word
by_core_message core (WbAck word) = Word word
by_core_message core (Grant lock signature) = Entries core
by_core_message core (Go phase) = Entries core
by_core_message core _ = Nothing

abbrev pub by_bank_message : Message → Affected
by_bank_message (RegReq word core) = Word word
by_bank_message (WriteBack word value core) = Word word
by_bank_message _ = Nothing

abbrev pub by_message : Actor → Message → Affected
by_message (Core core) message = by_core_message core message
by_message (Bank bank) message = by_bank_message message
by_message Keeper message = Nothing

abbrev pub affected_by_mail : Option Mail → Affected
affected_by_mail None = Nothing
affected_by_mail (Some m) = by_message m.to m.message

abbrev pub affected_by : State → Event → Affected
affected_by S (Instr core) = affected_by_core S core
affected_by S (Evict core word) = Word word
affected_by S (Arrive core) = Nothing
affected_by S (Handle id) = affected_by_mail (removed id S.mails).0

-- whether a word is one of them
abbrev pub is_affected : State → Affected → ℕ → Bool
is_affected S Nothing w = false
is_affected S (Word word) w = word.0 == w
is_affected S (Entries core) w = is_some (entry_at S core.0 w)

-- ---- how they are gathered

-- the list keeps its numbers; all numbers below `end` that pass a test are added, and none from `end` on
pub record AreAdded (end : ℕ) (test : ℕ → Bool) (before after : List ℕ) : Type 0 where
  pub kept : (w : ℕ) → Contains before w → Contains after w
  pub added : (w : ℕ) → w < end → test w ≡ true → Contains after w
  pub below : ((w : ℕ) → Contains before w → w < end) → (w : ℕ) → Contains after w → w < end

-- sorted numbers: all of those below `end` that pass a test, possibly others below `end`, and none from `end` on
pub record AreGathered (end : ℕ) (test : ℕ → Bool) (words : List ℕ) : Type 0 where
  pub rise : IsStrictlyIncreasing words
  pub all : (w : ℕ) → w < end → test w ≡ true → Contains words w
  pub below : (w : ℕ) → Contains words w → w < end

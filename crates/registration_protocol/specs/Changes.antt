-- How each event changes one entry, and what of a node stays when entries change.
--
-- These are columns of the rows in OwnEvents and Messages, for laws. The laws `one_entry_changes`, `a_value_is_a_copy`,
-- `a_store_writes_one_entry` and `a_phase_begins_part_by_part` prove that each is the column of its row.
use Rattle.std.specs.Prelude.{◌≡◌, ℕ, Bool, true, false, ◌||◌, ◌==◌, Option, Some, None, if◌then◌else◌}
use Rattle.region_table.specs.declared.declared.TaskDecl.{TaskDecl}
use Rattle.region_table.specs.Plan.{uses_plainly}
use Rattle.rv_core.specs.declared.task.TaskState.{TaskState}
use Rattle.rv_core.specs.declared.need.Need as need
use Rattle.rv_core.specs.declared.need.Need.{Need}
use Rattle.rv_core.specs.Step.{merged_of}
use Rattle.message_net.specs.declared.message.Message as message
use Rattle.message_net.specs.declared.message.Message.{Message}
use Rattle.word_cache.specs.declared.row.Entry.{Entry}
use Rattle.word_cache.specs.declared.row.Entry.TheVariants.{Valid, Registered, Leaving}
use Rattle.registration_protocol.specs.Node.{NodeParts, Setting}

-- at RegAck the entry is no longer pending
abbrev pub on_reg_ack : Option Entry → Option Entry
on_reg_ack (Some (Registered value true)) = Some (Registered value false)
on_reg_ack e = e

-- at RegFwd a registered entry that isn't pending is removed
abbrev pub on_reg_fwd : Option Entry → Option Entry
on_reg_fwd (Some (Registered value false)) = None
on_reg_fwd e = e

-- at WbAck a leaving entry is removed
abbrev pub on_wb_ack : Option Entry → Option Entry
on_wb_ack (Some (Leaving value)) = None
on_wb_ack e = e

-- an eviction removes a copy, and makes a registered entry that isn't pending a leaving one
abbrev pub on_evict : Option Entry → Option Entry
on_evict (Some (Valid value marked)) = None
on_evict (Some (Registered value false)) = Some (Leaving value)
on_evict e = e

-- a load marks the copy of a word that the task uses plainly
abbrev pub on_load : TaskDecl → ℕ → Option Entry → Option Entry
on_load d w (Some (Valid value marked)) = Some (Valid value (marked || uses_plainly d w))
on_load d w e = e

-- a store that retires registers its word, or leaves it registered
abbrev pub on_store : Setting → TaskState → Bool → Option Entry → Option Entry
on_store C t whole None = if whole then Some (Registered (merged_of C.program 0 t) true) else None
on_store C t whole (Some (Valid value marked)) = Some (Registered (merged_of C.program value t) true)
on_store C t whole (Some (Registered value pending)) = Some (Registered (merged_of C.program value t) pending)
on_store C t whole (Some (Leaving value)) = Some (Leaving value)

-- an instruction changes the entry of the word that it accesses, and no other
abbrev pub on_instr : Setting → TaskDecl → TaskState → Need → ℕ → Option Entry → Option Entry
on_instr C d t (need.TheVariants.Load word) w e = if word.0 == w then on_load d word.0 e else e
on_instr C d t (need.TheVariants.Store word whole) w e = if word.0 == w then on_store C t whole e else e
on_instr C d t _ w e = e

-- whether a message is the keeper's
abbrev pub is_from_keeper : Message → Bool
is_from_keeper (message.TheVariants.Go phase) = true
is_from_keeper message.TheVariants.Halt = true
is_from_keeper _ = false

-- whether the table has a row for the message's kind; a message of any other kind changes nothing in a node
abbrev pub is_for_node : Message → Bool
is_for_node (message.TheVariants.DataReply word value) = true
is_for_node (message.TheVariants.RegAck word) = true
is_for_node (message.TheVariants.RegFwd word core) = true
is_for_node (message.TheVariants.ReadFwd word reader) = true
is_for_node (message.TheVariants.WbAck word) = true
is_for_node (message.TheVariants.Grant lock signature) = true
is_for_node (message.TheVariants.Go phase) = true
is_for_node message.TheVariants.Halt = true
is_for_node _ = false

-- the node has the same core and phase, and the same flags arrived and halted
pub record KeepsPhase (n m : NodeParts) : Type 0 where
  pub core : m.core ≡ n.core
  pub phase : m.phase ≡ n.phase
  pub arrived : m.arrived ≡ n.arrived
  pub halted : m.halted ≡ n.halted

-- only the node's entries may differ
pub record KeepsTask (n m : NodeParts) : Type 0 where
  pub phase_kept : KeepsPhase n m
  pub task : m.task ≡ n.task
  pub waiting : m.waiting ≡ n.waiting
  pub signatures : m.signatures ≡ n.signatures
  pub sets : m.cache.sets ≡ n.cache.sets
  pub ways : m.cache.ways ≡ n.cache.ways

-- A node whose task has fuel left, if it hasn't ended, does the same with more fuel.
use Rattle.std.proofs.Common.{◌≡◌, ℕ, ◌<◌, ◌≤◌, ◌==◌, ◌&&◌, Bool, true, false, cond, if◌then◌else◌, Option, Some, None, refl, sym, ap, ◌∙◌, arith}
use Rattle.std.specs.Option.{option_or, is_some}
use Rattle.std.proofs.lemmas.Bool.Decides.{nat_tests}
use Rattle.dn_base.specs.declared.ids.CoreId.{CoreId}
use Rattle.dn_base.specs.declared.ids.LockId.{LockId}
use Rattle.dn_base.specs.declared.ids.WordId.{WordId}
use Rattle.region_table.specs.Program.{ProgramParts}
use Rattle.region_table.specs.declared.declared.TaskDecl.{TaskDecl}
use Rattle.region_table.specs.Tasks.{declared}
use Rattle.rv_core.specs.declared.task.TaskState.{TaskState}
use Rattle.rv_core.specs.declared.task.End as cause
use Rattle.rv_core.specs.declared.task.End.{End}
use Rattle.rv_core.specs.declared.need.Need as need
use Rattle.rv_core.specs.declared.need.Need.{Need}
use Rattle.rv_core.specs.Address.{code_at}
use Rattle.rv_core.specs.Need.{need_of, fetch_need}
use Rattle.write_signature.specs.declared.signature.Signature.{Signature}
use Rattle.word_cache.specs.declared.row.Entry.{Entry}
use Rattle.word_cache.specs.declared.row.Entry.TheVariants.{Valid, Registered, Leaving}
use Rattle.message_net.specs.declared.event.Event as event
use Rattle.message_net.specs.declared.event.Event.{Event}
use Rattle.message_net.specs.declared.message.Message as message
use Rattle.message_net.specs.declared.message.Message.{Message}
use Rattle.registration_protocol.specs.declared.node.NodeWait as wait
use Rattle.registration_protocol.specs.declared.node.NodeWait.{NodeWait}
use Rattle.registration_protocol.specs.declared.node.Received.{Received}
use Rattle.registration_protocol.specs.Node.{NodeParts, Setting, need_by, need_if, need_now, entry_of, is_active, is_ready, waits_for_nothing}
use Rattle.registration_protocol.specs.OwnEvents.{lets, wanted_by, makes_room, me, load_row, store_row, instr_row, instr_by, instructed, evicts, evicted, victim_for, eviction_of, arrival, own_event}
use Rattle.registration_protocol.specs.Messages.{becomes, granted_to, grant_row, read_fwd_row, node_gets}
use Rattle.companion_laws.specs.MoreFuel.{with_fuel}

-- the node's task has ended, or has fuel left
abbrev pub HasFuel : Setting → NodeParts → Type 0
HasFuel C n = (t : TaskState) → n.task ≡ Some t → t.end ≡ None → t.retired < C.fuel

module _ (C : Setting) (more : ℕ) where
  -- ---- what needs no fuel

  evicts-same : (n : NodeParts) (word : WordId) (o : Option Entry) → evicts (with_fuel more C) n word o ≡ evicts C n word o
  evicts-same n word None = refl
  evicts-same n word (Some (Valid value marked)) = refl
  evicts-same n word (Some (Registered value true)) = refl
  evicts-same n word (Some (Registered value false)) = refl
  evicts-same n word (Some (Leaving value)) = refl

  pub evicted-same : (n : NodeParts) (word : WordId) → evicted (with_fuel more C) n word ≡ evicted C n word
  evicted-same n word = evicts-same n word (entry_of n word.0)

  read_fwd-same : (n : NodeParts) (word : WordId) (reader : CoreId) (o : Option Entry) → read_fwd_row (with_fuel more C) n word reader o ≡ read_fwd_row C n word reader o
  read_fwd-same n word reader None = refl
  read_fwd-same n word reader (Some (Valid value marked)) = refl
  read_fwd-same n word reader (Some (Registered value pending)) = refl
  read_fwd-same n word reader (Some (Leaving value)) = refl

  granted_to-same : (n : NodeParts) (lock : LockId) (signature : Signature) (o : Option TaskState) → granted_to (with_fuel more C) n lock signature o ≡ granted_to C n lock signature o
  granted_to-same n lock signature None = refl
  granted_to-same n lock signature (Some t) = refl

  grant-same : (n : NodeParts) (lock : LockId) (signature : Signature) (w : NodeWait) → grant_row (with_fuel more C) n lock signature w ≡ grant_row C n lock signature w
  grant-same n lock signature wait.TheVariants.None = refl
  grant-same n lock signature (wait.TheVariants.Reading word) = refl
  grant-same n lock signature (wait.TheVariants.Filled word) = refl
  grant-same n lock signature (wait.TheVariants.Locking wanted) =
      ap (λ (x : NodeParts × Received). if wanted.0 == lock.0 then x else becomes n) (granted_to-same n lock signature n.task)

  pub gets-same : (n : NodeParts) (m : Message) → node_gets (with_fuel more C) n m ≡ node_gets C n m
  unfolding node_gets
  gets-same n (message.TheVariants.ReadReq word reader) = refl
  gets-same n (message.TheVariants.ReadFwd word reader) = read_fwd-same n word reader (entry_of n word.0)
  gets-same n (message.TheVariants.DataReply word value) = refl
  gets-same n (message.TheVariants.RegReq word core) = refl
  gets-same n (message.TheVariants.RegFwd word core) = refl
  gets-same n (message.TheVariants.RegAck word) = refl
  gets-same n (message.TheVariants.WriteBack word value core) = refl
  gets-same n (message.TheVariants.WbAck word) = refl
  gets-same n (message.TheVariants.Acquire lock core) = refl
  gets-same n (message.TheVariants.Release lock core signature) = refl
  gets-same n (message.TheVariants.Grant lock signature) = grant-same n lock signature n.waiting
  gets-same n (message.TheVariants.Arrived core bad) = refl
  gets-same n (message.TheVariants.Go phase) = refl
  gets-same n message.TheVariants.Halt = refl

  -- ---- what a node needs

  fuel-unused : (P : ProgramParts) (d : TaskDecl) (fuel : ℕ) (t : TaskState) → t.retired < fuel → need_of P d fuel t ≡ fetch_need P d t (code_at P.code t.pc)
  unfolding need_of
  fuel-unused P d fuel t left = by_test (t.retired == fuel) refl
    where
      by_test : (b : Bool) → (t.retired == fuel) ≡ b → cond b (need.TheVariants.End cause.TheVariants.Fuel) (fetch_need P d t (code_at P.code t.pc)) ≡ fetch_need P d t (code_at P.code t.pc)
      by_test true e = let same : t.retired ≡ fuel = grind (arith, nat_tests, e) in absurd (omega (arith, same, left))
      by_test false e = refl

  need_by-same : (o : Option TaskDecl) (t : TaskState) → C.fuel ≤ more → t.retired < C.fuel → need_by (with_fuel more C) o t ≡ need_by C o t
  need_by-same None t most left = refl
  need_by-same (Some d) t most left =
      ap (λ (x : Need). Some x) (fuel-unused C.program d more t (omega (arith, most, left)) ∙ sym (fuel-unused C.program d C.fuel t left))

  pub need-same : (n : NodeParts) → C.fuel ≤ more → HasFuel C n → need_now (with_fuel more C) n ≡ need_now C n
  need-same n most left = by_task n.task refl
    where
      by_end : (t : TaskState) → n.task ≡ Some t → (o : Option End) → t.end ≡ o
          → (if is_some o then None else need_by (with_fuel more C) (declared C.program n.phase n.core) t) ≡ (if is_some o then None else need_by C (declared C.program n.phase n.core) t)
      by_end t is None open' = need_by-same (declared C.program n.phase n.core) t most (left t is open')
      by_end t is (Some by) open' = refl

      by_task : (o : Option TaskState) → n.task ≡ o → need_if (with_fuel more C) n.phase n.core o ≡ need_if C n.phase n.core o
      by_task None is = refl
      by_task (Some t) is = by_end t is t.end refl

-- ---- its own event

-- an eviction and the own event, by what the node needs
abbrev eviction_by : NodeParts → Option Need → Option WordId → Option Event
eviction_by n x None = None
eviction_by n x (Some victim) =
    if is_active n && waits_for_nothing n.waiting && makes_room n victim.0 (wanted_by n x) then Some (event.TheVariants.Evict (me n) victim) else None

abbrev event_by : NodeParts → Option Need → Option Event
event_by n x =
    if is_active n && is_ready n.waiting && lets n x then Some (event.TheVariants.Instr (me n)) else option_or (eviction_by n x (victim_for n (wanted_by n x))) (arrival n)

own-is : (C : Setting) (n : NodeParts) → own_event C n ≡ event_by n (need_now C n)
own-is C n =
    ap (λ (o : Option Event). if is_active n && is_ready n.waiting && lets n (need_now C n) then Some (event.TheVariants.Instr (me n)) else option_or o (arrival n))
    (by_victim (victim_for n (wanted_by n (need_now C n))))
  where
    by_victim : (o : Option WordId) → eviction_of C n o ≡ eviction_by n (need_now C n) o
    by_victim None = refl
    by_victim (Some victim) = refl

module _ (C : Setting) (more : ℕ) (most : C.fuel ≤ more) where
  pub own-same : (n : NodeParts) → HasFuel C n → own_event (with_fuel more C) n ≡ own_event C n
  own-same n left = own-is (with_fuel more C) n ∙ ap (event_by n) (need-same C more n most left) ∙ sym (own-is C n)

  -- ---- an instruction

  load-same : (n : NodeParts) (d : TaskDecl) (t : TaskState) (word : WordId) (o : Option Entry) → load_row (with_fuel more C) n d t word o ≡ load_row C n d t word o
  load-same n d t word None = refl
  load-same n d t word (Some (Valid value marked)) = refl
  load-same n d t word (Some (Registered value pending)) = refl
  load-same n d t word (Some (Leaving value)) = refl

  store-same : (n : NodeParts) (d : TaskDecl) (t : TaskState) (word : WordId) (whole : Bool) (o : Option Entry) → store_row (with_fuel more C) n d t word whole o ≡ store_row C n d t word whole o
  store-same n d t word whole None = refl
  store-same n d t word whole (Some (Valid value marked)) = refl
  store-same n d t word whole (Some (Registered value pending)) = refl
  store-same n d t word whole (Some (Leaving value)) = refl

  row-same : (n : NodeParts) (d : TaskDecl) (t : TaskState) (x : Need) → instr_row (with_fuel more C) n d t x ≡ instr_row C n d t x
  row-same n d t need.TheVariants.Local = refl
  row-same n d t (need.TheVariants.End by) = refl
  row-same n d t (need.TheVariants.Load word) = load-same n d t word (entry_of n word.0)
  row-same n d t (need.TheVariants.Store word whole) = store-same n d t word whole (entry_of n word.0)
  row-same n d t (need.TheVariants.Acquire lock) = refl
  row-same n d t (need.TheVariants.Release lock) = refl

  instr-same : (n : NodeParts) (d : Option TaskDecl) (t : Option TaskState) (x : Option Need) → instr_by (with_fuel more C) n d t x ≡ instr_by C n d t x
  instr-same n None t x = refl
  instr-same n (Some d) None x = refl
  instr-same n (Some d) (Some t) None = refl
  instr-same n (Some d) (Some t) (Some x) = row-same n d t x

  pub instructed-same : (n : NodeParts) → HasFuel C n → instructed (with_fuel more C) n ≡ instructed C n
  unfolding instructed
  instructed-same n left =
      ap (instr_by (with_fuel more C) n (declared C.program n.phase n.core) n.task) (need-same C more n most left)
      ∙ instr-same n (declared C.program n.phase n.core) n.task (need_now C n)

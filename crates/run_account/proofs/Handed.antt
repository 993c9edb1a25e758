-- Each grant is counted once.
use Rattle.std.proofs.Common.{◌≡◌, ℕ, ◌+◌, Bool, true, false, cond, [], ◌∷◌, slice_get, Option, Some, None, refl, sym, ◌∙◌, arith}
use Rattle.std.proofs.lemmas.List.Sums.{sum_by-cons}
use Rattle.std.proofs.lemmas.Option.{none-some}
use Rattle.message_net.specs.declared.actor.Actor.{Actor}
use Rattle.message_net.specs.declared.actor.Actor.TheVariants.{Core, Bank, Keeper}
use Rattle.message_net.specs.declared.event.Event.{Event}
use Rattle.message_net.specs.declared.event.Event.TheVariants.{Instr, Evict, Arrive, Handle}
use Rattle.message_net.specs.declared.event.EventKind as kind
use Rattle.message_net.specs.declared.event.EventKind.{EventKind}
use Rattle.message_net.specs.declared.message.Mail.{Mail}
use Rattle.message_net.specs.declared.message.Message as message
use Rattle.message_net.specs.declared.message.Message.{Message}
use Rattle.message_net.specs.Kind.{kind_of}
use Rattle.message_net.specs.Pool.{removed}
use Rattle.word_cache.specs.declared.row.Entry as entry
use Rattle.word_cache.specs.declared.row.Entry.{Entry}
use Rattle.registration_protocol.specs.declared.node.NodeWait as wait
use Rattle.registration_protocol.specs.Node.{NodeParts, entry_of}
use Rattle.registration_protocol.specs.Messages.{node_gets}
use Rattle.machine_rules.specs.State.{State}
use Rattle.machine_rules.specs.Next.{enabled, kind_in, kind_with}
use Rattle.machine_rules.specs.Coherent.{Coherent, IsExpected, waits_for}
use Rattle.run_account.specs.declared.measure.Measure as measure
use Rattle.run_account.specs.declared.measure.Measure.{Measure}
use Rattle.run_account.specs.declared.item.Item.{Item}
use Rattle.run_account.specs.Measure.{same_measure}
use Rattle.run_account.specs.Items.{items_of_measure}
use Rattle.run_account.specs.declared.departure.Handing.{Handing}
use Rattle.run_account.specs.declared.departure.Handing.TheVariants.{AtOnce, Queued}
use Rattle.run_account.specs.Departures.{Departures, goes}
use Rattle.run_account.specs.Handings.{Handings, handing_of}
use Rattle.run_account.specs.Events.{item_of, item_at, item_if, instr_items, evict_items, phase_items, lock_items, grant_measure, reply_measure, is_bounced, message_items, at_node, mail_items, handle_items, items_in}
use Rattle.run_account.specs.Kinds.{is_kind}
use Rattle.run_account.proofs.Told.{IsToldBy, was-there}
use Rattle.run_account.proofs.Later.{instr-lacks, go-lacks, locks-lack, none-of}

-- a grant is counted once, and no other message is one
with_handing : (S : State) (H : Handings) (sender : Actor) (n : NodeParts) (m : Message)
    → cond (is_kind kind.TheVariants.Grant (kind_of m)) 1 0 ≡ items_of_measure measure.TheVariants.GrantsAtOnce (message_items S H sender n m) + items_of_measure measure.TheVariants.GrantsQueued (message_items S H sender n m)
with_handing S H sender n (message.TheVariants.DataReply word value) = by_sender sender where
  by_sender : (from : Actor) → 0 ≡ items_of_measure measure.TheVariants.GrantsAtOnce (item_at (reply_measure from) n word ∷ []) + items_of_measure measure.TheVariants.GrantsQueued (item_at (reply_measure from) n word ∷ [])
  by_sender (Core core) = refl
  by_sender (Bank bank) = refl
  by_sender Keeper = refl
with_handing S H sender n (message.TheVariants.ReadFwd word reader) = by_test (is_bounced (node_gets S.setting n (message.TheVariants.ReadFwd word reader)).1.sent) where
  by_test : (t : Bool) → 0 ≡ items_of_measure measure.TheVariants.GrantsAtOnce (item_if t (item_at measure.TheVariants.Bounces n word)) + items_of_measure measure.TheVariants.GrantsQueued (item_if t (item_at measure.TheVariants.Bounces n word))
  by_test true = refl
  by_test false = refl
with_handing S H sender n (message.TheVariants.RegFwd word core) = by_test (goes n (node_gets S.setting n (message.TheVariants.RegFwd word core)).0 word.0) where
  by_test : (t : Bool) → 0 ≡ items_of_measure measure.TheVariants.GrantsAtOnce (item_if t (item_at measure.TheVariants.Taken n word)) + items_of_measure measure.TheVariants.GrantsQueued (item_if t (item_at measure.TheVariants.Taken n word))
  by_test true = refl
  by_test false = refl
with_handing S H sender n (message.TheVariants.Grant lock signature) =
    let after = node_gets S.setting n (message.TheVariants.Grant lock signature) in
    let items = lock_items S n signature after.1.granted in
    omega (
      arith,
      none-of measure.TheVariants.GrantsAtOnce measure.TheVariants.GrantsQueued refl refl items (locks-lack S n signature after.1.granted),
      by_handing (handing_of H lock.0),
      sum_by-cons (λ (x : Item). cond (same_measure measure.TheVariants.GrantsAtOnce x.measure) 1 0) (item_of (grant_measure (handing_of H lock.0)) n None) items,
      sum_by-cons (λ (x : Item). cond (same_measure measure.TheVariants.GrantsQueued x.measure) 1 0) (item_of (grant_measure (handing_of H lock.0)) n None) items,
    )
  where
    by_handing : (how : Handing) → cond {A = ℕ} (same_measure measure.TheVariants.GrantsAtOnce (grant_measure how)) 1 0 + cond {A = ℕ} (same_measure measure.TheVariants.GrantsQueued (grant_measure how)) 1 0 ≡ 1
    by_handing AtOnce = refl
    by_handing Queued = refl
with_handing S H sender n (message.TheVariants.Go phase) =
    none-of measure.TheVariants.GrantsAtOnce measure.TheVariants.GrantsQueued refl refl (phase_items S n (node_gets S.setting n (message.TheVariants.Go phase)).0) (go-lacks S n (node_gets S.setting n (message.TheVariants.Go phase)).0)
with_handing S H sender n (message.TheVariants.ReadReq word reader) = refl
with_handing S H sender n (message.TheVariants.RegReq word core) = refl
with_handing S H sender n (message.TheVariants.RegAck word) = refl
with_handing S H sender n (message.TheVariants.WriteBack word value core) = refl
with_handing S H sender n (message.TheVariants.WbAck word) = refl
with_handing S H sender n (message.TheVariants.Acquire lock core) = refl
with_handing S H sender n (message.TheVariants.Release lock core signature) = refl
with_handing S H sender n (message.TheVariants.Arrived core bad) = refl
with_handing S H sender n message.TheVariants.Halt = refl

-- a mail that nobody but a core awaits, with its node
pub grants-told : (S : State) (D : Departures) (H : Handings) (e : Event) → Coherent S → enabled S e ≡ true
    → IsToldBy kind.TheVariants.Grant measure.TheVariants.GrantsAtOnce measure.TheVariants.GrantsQueued S e (items_in S D H e)
unfolding items_in kind_in
grants-told S D H (Instr core) coherent may = by_node (slice_get S.nodes core.0) where
  by_node : (there : Option NodeParts) → 0 ≡ items_of_measure measure.TheVariants.GrantsAtOnce (at_node (instr_items S D) there) + items_of_measure measure.TheVariants.GrantsQueued (at_node (instr_items S D) there)
  by_node None = refl
  by_node (Some n) = none-of measure.TheVariants.GrantsAtOnce measure.TheVariants.GrantsQueued refl refl (instr_items S D n) (instr-lacks S D n)
grants-told S D H (Evict core word) coherent may = by_node (slice_get S.nodes core.0) where
  by_entry : (n : NodeParts) (e : Option Entry) → 0 ≡ items_of_measure measure.TheVariants.GrantsAtOnce (evict_items n word e) + items_of_measure measure.TheVariants.GrantsQueued (evict_items n word e)
  by_entry n None = refl
  by_entry n (Some (entry.TheVariants.Valid value marked)) = refl
  by_entry n (Some (entry.TheVariants.Registered value pending)) = refl
  by_entry n (Some (entry.TheVariants.Leaving value)) = refl

  by_node : (there : Option NodeParts) → 0 ≡ items_of_measure measure.TheVariants.GrantsAtOnce (at_node (λ (n : NodeParts). evict_items n word (entry_of n word.0)) there) + items_of_measure measure.TheVariants.GrantsQueued (at_node (λ (n : NodeParts). evict_items n word (entry_of n word.0)) there)
  by_node None = refl
  by_node (Some n) = by_entry n (entry_of n word.0)
grants-told S D H (Arrive core) coherent may = refl
grants-told S D H (Handle id) coherent may = by_mail (removed id S.mails).0 (λ m e. coherent.expected m (was-there S id m e)) where
  by_there : (core : _) (m : Mail) (there : Option NodeParts) → slice_get S.nodes core ≡ there → IsExpected S (Core (record { 0 = core })) m.message
      → cond (is_kind kind.TheVariants.Grant (kind_of m.message)) 1 0 ≡ items_of_measure measure.TheVariants.GrantsAtOnce (at_node (λ (n : NodeParts). message_items S H m.id.sender n m.message) there)
      + items_of_measure measure.TheVariants.GrantsQueued (at_node (λ (n : NodeParts). message_items S H m.id.sender n m.message) there)
  by_there core m (Some n) is awaited = with_handing S H m.id.sender n m.message
  by_there core m None is awaited = by_message m.message awaited where
    by_message : (x : Message) → IsExpected S (Core (record { 0 = core })) x → cond {A = ℕ} (is_kind kind.TheVariants.Grant (kind_of x)) 1 0 ≡ 0
    by_message (message.TheVariants.Grant lock signature) waits = absurd (none-there waits) where
      none-there : waits_for S core (wait.TheVariants.Locking lock) → ⊥
      none-there w = none-some w.0 (sym is ∙ w.1)
    by_message (message.TheVariants.ReadReq word reader) waits = refl
    by_message (message.TheVariants.ReadFwd word reader) waits = refl
    by_message (message.TheVariants.RegReq word c) waits = refl
    by_message (message.TheVariants.RegFwd word c) waits = refl
    by_message (message.TheVariants.RegAck word) waits = refl
    by_message (message.TheVariants.WriteBack word value c) waits = refl
    by_message (message.TheVariants.WbAck word) waits = refl
    by_message (message.TheVariants.Acquire lock c) waits = refl
    by_message (message.TheVariants.Release lock c signature) waits = refl
    by_message (message.TheVariants.DataReply word value) waits = refl
    by_message (message.TheVariants.Arrived c bad) waits = refl
    by_message (message.TheVariants.Go phase) waits = refl
    by_message message.TheVariants.Halt waits = refl

  by_actor : (m : Mail) (to : Actor) → IsExpected S to m.message
      → cond (is_kind kind.TheVariants.Grant (kind_of m.message)) 1 0 ≡ items_of_measure measure.TheVariants.GrantsAtOnce (mail_items S H m.id.sender to m.message) + items_of_measure measure.TheVariants.GrantsQueued (mail_items S H m.id.sender to m.message)
  by_actor m (Core core) awaited = by_there core.0 m (slice_get S.nodes core.0) refl awaited
  by_actor m (Bank bank) awaited = of_bank m.message awaited where
    of_bank : (x : Message) → IsExpected S (Bank bank) x → cond {A = ℕ} (is_kind kind.TheVariants.Grant (kind_of x)) 1 0 ≡ 0
    of_bank (message.TheVariants.DataReply word value) waits = refl
    of_bank (message.TheVariants.ReadReq word reader) waits = refl
    of_bank (message.TheVariants.ReadFwd word reader) waits = refl
    of_bank (message.TheVariants.RegReq word c) waits = refl
    of_bank (message.TheVariants.RegFwd word c) waits = refl
    of_bank (message.TheVariants.RegAck word) waits = refl
    of_bank (message.TheVariants.WriteBack word value c) waits = refl
    of_bank (message.TheVariants.WbAck word) waits = refl
    of_bank (message.TheVariants.Acquire lock c) waits = refl
    of_bank (message.TheVariants.Release lock c signature) waits = refl
    of_bank (message.TheVariants.Grant lock signature) waits = absurd waits
    of_bank (message.TheVariants.Arrived c bad) waits = refl
    of_bank (message.TheVariants.Go phase) waits = refl
    of_bank message.TheVariants.Halt waits = refl
  by_actor m Keeper awaited = of_keeper m.message awaited where
    of_keeper : (x : Message) → IsExpected S Keeper x → cond {A = ℕ} (is_kind kind.TheVariants.Grant (kind_of x)) 1 0 ≡ 0
    of_keeper (message.TheVariants.DataReply word value) waits = refl
    of_keeper (message.TheVariants.ReadReq word reader) waits = refl
    of_keeper (message.TheVariants.ReadFwd word reader) waits = refl
    of_keeper (message.TheVariants.RegReq word c) waits = refl
    of_keeper (message.TheVariants.RegFwd word c) waits = refl
    of_keeper (message.TheVariants.RegAck word) waits = refl
    of_keeper (message.TheVariants.WriteBack word value c) waits = refl
    of_keeper (message.TheVariants.WbAck word) waits = refl
    of_keeper (message.TheVariants.Acquire lock c) waits = refl
    of_keeper (message.TheVariants.Release lock c signature) waits = refl
    of_keeper (message.TheVariants.Grant lock signature) waits = absurd waits
    of_keeper (message.TheVariants.Arrived c bad) waits = refl
    of_keeper (message.TheVariants.Go phase) waits = refl
    of_keeper message.TheVariants.Halt waits = refl

  by_mail : (took : Option Mail) → ((m : Mail) → took ≡ Some m → IsExpected S m.to m.message)
      → cond (is_kind kind.TheVariants.Grant (kind_with took)) 1 0 ≡ items_of_measure measure.TheVariants.GrantsAtOnce (handle_items S H took) + items_of_measure measure.TheVariants.GrantsQueued (handle_items S H took)
  by_mail None awaited = refl
  by_mail (Some m) awaited = by_actor m m.to (awaited m refl)

-- Each eviction is counted once.
use Rattle.std.proofs.Common.{◌≡◌, ℕ, ◌+◌, Bool, true, false, cond, [], ◌∷◌, slice_get, Option, Some, None, refl, arith}
use Rattle.std.specs.Prelude.{◌&&◌, ◌==◌, ◌%◌}
use Rattle.std.proofs.lemmas.List.Sums.{sum_by-cons}
use Rattle.dn_base.specs.declared.ids.WordId.{WordId}
use Rattle.message_net.specs.declared.actor.Actor.{Actor}
use Rattle.message_net.specs.declared.actor.Actor.TheVariants.{Core, Bank, Keeper}
use Rattle.message_net.specs.declared.event.Event.{Event}
use Rattle.message_net.specs.declared.event.Event.TheVariants.{Instr, Evict, Arrive, Handle}
use Rattle.message_net.specs.declared.event.EventKind as kind
use Rattle.message_net.specs.declared.event.EventKind.{EventKind}
use Rattle.message_net.specs.declared.message.Mail.{Mail}
use Rattle.message_net.specs.declared.message.Message as message
use Rattle.message_net.specs.declared.message.Message.{Message}
use Rattle.message_net.specs.Kind.{kind_of}
use Rattle.message_net.specs.Pool.{removed}
use Rattle.word_cache.specs.Cache.{may_go}
use Rattle.word_cache.specs.declared.row.Entry as entry
use Rattle.word_cache.specs.declared.row.Entry.{Entry}
use Rattle.registration_protocol.specs.Node.{NodeParts, entry_of, need_now, is_active, waits_for_nothing}
use Rattle.registration_protocol.specs.OwnEvents.{may_evict, makes_room, wanted_by}
use Rattle.registration_protocol.specs.Messages.{node_gets}
use Rattle.machine_rules.specs.State.{State}
use Rattle.machine_rules.specs.Next.{enabled, when_there, kind_in, kind_with}
use Rattle.machine_rules.specs.Coherent.{Coherent}
use Rattle.run_account.specs.declared.measure.Measure as measure
use Rattle.run_account.specs.declared.measure.Measure.{Measure}
use Rattle.run_account.specs.declared.item.Item.{Item}
use Rattle.run_account.specs.Measure.{same_measure}
use Rattle.run_account.specs.Items.{items_of_measure}
use Rattle.run_account.specs.declared.departure.Handing.{Handing}
use Rattle.run_account.specs.declared.departure.Handing.TheVariants.{AtOnce, Queued}
use Rattle.run_account.specs.Departures.{Departures, goes}
use Rattle.run_account.specs.Handings.{Handings, handing_of}
use Rattle.run_account.specs.Events.{item_of, item_at, item_if, instr_items, evict_items, phase_items, lock_items, grant_measure, reply_measure, is_bounced, message_items, at_node, mail_items, handle_items, items_in}
use Rattle.run_account.specs.Kinds.{is_kind}
use Rattle.run_account.proofs.Told.{IsToldBy}
use Rattle.run_account.proofs.Later.{instr-lacks, go-lacks, locks-lack, none-of}

-- no message is an eviction
unevicted : (S : State) (H : Handings) (sender : Actor) (n : NodeParts) (m : Message)
    → cond (is_kind kind.TheVariants.Evict (kind_of m)) 1 0 ≡ items_of_measure measure.TheVariants.EvictedCopies (message_items S H sender n m) + items_of_measure measure.TheVariants.EvictedRegistered (message_items S H sender n m)
unevicted S H sender n (message.TheVariants.DataReply word value) = by_sender sender where
  by_sender : (from : Actor) → 0 ≡ items_of_measure measure.TheVariants.EvictedCopies (item_at (reply_measure from) n word ∷ []) + items_of_measure measure.TheVariants.EvictedRegistered (item_at (reply_measure from) n word ∷ [])
  by_sender (Core core) = refl
  by_sender (Bank bank) = refl
  by_sender Keeper = refl
unevicted S H sender n (message.TheVariants.ReadFwd word reader) = by_test (is_bounced (node_gets S.setting n (message.TheVariants.ReadFwd word reader)).1.sent) where
  by_test : (t : Bool) → 0 ≡ items_of_measure measure.TheVariants.EvictedCopies (item_if t (item_at measure.TheVariants.Bounces n word)) + items_of_measure measure.TheVariants.EvictedRegistered (item_if t (item_at measure.TheVariants.Bounces n word))
  by_test true = refl
  by_test false = refl
unevicted S H sender n (message.TheVariants.RegFwd word core) = by_test (goes n (node_gets S.setting n (message.TheVariants.RegFwd word core)).0 word.0) where
  by_test : (t : Bool) → 0 ≡ items_of_measure measure.TheVariants.EvictedCopies (item_if t (item_at measure.TheVariants.Taken n word)) + items_of_measure measure.TheVariants.EvictedRegistered (item_if t (item_at measure.TheVariants.Taken n word))
  by_test true = refl
  by_test false = refl
unevicted S H sender n (message.TheVariants.Grant lock signature) =
    let after = node_gets S.setting n (message.TheVariants.Grant lock signature) in
    let items = lock_items S n signature after.1.granted in
    omega (
      arith,
      none-of measure.TheVariants.EvictedCopies measure.TheVariants.EvictedRegistered refl refl items (locks-lack S n signature after.1.granted),
      by_handing (handing_of H lock.0),
      sum_by-cons (λ (x : Item). cond (same_measure measure.TheVariants.EvictedCopies x.measure) 1 0) (item_of (grant_measure (handing_of H lock.0)) n None) items,
      sum_by-cons (λ (x : Item). cond (same_measure measure.TheVariants.EvictedRegistered x.measure) 1 0) (item_of (grant_measure (handing_of H lock.0)) n None) items,
    )
  where
    by_handing : (how : Handing) → cond {A = ℕ} (same_measure measure.TheVariants.EvictedCopies (grant_measure how)) 1 0 + cond {A = ℕ} (same_measure measure.TheVariants.EvictedRegistered (grant_measure how)) 1 0 ≡ 0
    by_handing AtOnce = refl
    by_handing Queued = refl
unevicted S H sender n (message.TheVariants.Go phase) =
    none-of measure.TheVariants.EvictedCopies measure.TheVariants.EvictedRegistered refl refl (phase_items S n (node_gets S.setting n (message.TheVariants.Go phase)).0) (go-lacks S n (node_gets S.setting n (message.TheVariants.Go phase)).0)
unevicted S H sender n (message.TheVariants.ReadReq word reader) = refl
unevicted S H sender n (message.TheVariants.RegReq word core) = refl
unevicted S H sender n (message.TheVariants.RegAck word) = refl
unevicted S H sender n (message.TheVariants.WriteBack word value core) = refl
unevicted S H sender n (message.TheVariants.WbAck word) = refl
unevicted S H sender n (message.TheVariants.Acquire lock core) = refl
unevicted S H sender n (message.TheVariants.Release lock core signature) = refl
unevicted S H sender n (message.TheVariants.Arrived core bad) = refl
unevicted S H sender n message.TheVariants.Halt = refl

and-last : (x y : Bool) → (x && y) ≡ true → y ≡ true
and-last true y e = e
and-last false y e = absurd (cc)

may-go : (n : NodeParts) (w : ℕ) (wanted : Option WordId) → makes_room n w wanted ≡ true → may_go (entry_of n w) ≡ true
may-go n w None e = absurd (cc)
may-go n w (Some wanted) e = and-last (w % n.cache.sets == wanted.0 % n.cache.sets) (may_go (entry_of n w)) e

evicted-once : (n : NodeParts) (word : WordId) (e : Option Entry) → may_go e ≡ true → 1 ≡ items_of_measure measure.TheVariants.EvictedCopies (evict_items n word e) + items_of_measure measure.TheVariants.EvictedRegistered (evict_items n word e)
evicted-once n word None goes = absurd (cc)
evicted-once n word (Some (entry.TheVariants.Valid value marked)) goes = refl
evicted-once n word (Some (entry.TheVariants.Registered value pending)) goes = refl
evicted-once n word (Some (entry.TheVariants.Leaving value)) goes = absurd (cc)

pub evictions-told : (S : State) (D : Departures) (H : Handings) (e : Event) → Coherent S → enabled S e ≡ true
    → IsToldBy kind.TheVariants.Evict measure.TheVariants.EvictedCopies measure.TheVariants.EvictedRegistered S e (items_in S D H e)
unfolding items_in kind_in enabled
evictions-told S D H (Instr core) coherent may = by_node (slice_get S.nodes core.0) where
  by_node : (there : Option NodeParts) → 0 ≡ items_of_measure measure.TheVariants.EvictedCopies (at_node (instr_items S D) there) + items_of_measure measure.TheVariants.EvictedRegistered (at_node (instr_items S D) there)
  by_node None = refl
  by_node (Some n) = none-of measure.TheVariants.EvictedCopies measure.TheVariants.EvictedRegistered refl refl (instr_items S D n) (instr-lacks S D n)
evictions-told S D H (Evict core word) coherent may = by_node (slice_get S.nodes core.0) may where
  by_node : (there : Option NodeParts) → when_there (λ n. may_evict S.setting n word.0) there ≡ true
      → 1 ≡ items_of_measure measure.TheVariants.EvictedCopies (at_node (λ (n : NodeParts). evict_items n word (entry_of n word.0)) there) + items_of_measure measure.TheVariants.EvictedRegistered (at_node (λ (n : NodeParts). evict_items n word (entry_of n word.0)) there)
  by_node None e = absurd (cc)
  by_node (Some n) e =
      evicted-once n word (entry_of n word.0) (may-go n word.0 (wanted_by n (need_now S.setting n)) (and-last (is_active n && waits_for_nothing n.waiting) (makes_room n word.0 (wanted_by n (need_now S.setting n))) e))
evictions-told S D H (Arrive core) coherent may = refl
evictions-told S D H (Handle id) coherent may = by_mail (removed id S.mails).0 where
  no-kind : (x : Message) → cond {A = ℕ} (is_kind kind.TheVariants.Evict (kind_of x)) 1 0 ≡ 0
  no-kind (message.TheVariants.ReadReq word reader) = refl
  no-kind (message.TheVariants.ReadFwd word reader) = refl
  no-kind (message.TheVariants.DataReply word value) = refl
  no-kind (message.TheVariants.RegReq word c) = refl
  no-kind (message.TheVariants.RegFwd word c) = refl
  no-kind (message.TheVariants.RegAck word) = refl
  no-kind (message.TheVariants.WriteBack word value c) = refl
  no-kind (message.TheVariants.WbAck word) = refl
  no-kind (message.TheVariants.Acquire lock c) = refl
  no-kind (message.TheVariants.Release lock c signature) = refl
  no-kind (message.TheVariants.Grant lock signature) = refl
  no-kind (message.TheVariants.Arrived c bad) = refl
  no-kind (message.TheVariants.Go phase) = refl
  no-kind message.TheVariants.Halt = refl

  by_there : (m : Mail) (there : Option NodeParts) → cond (is_kind kind.TheVariants.Evict (kind_of m.message)) 1 0
      ≡ items_of_measure measure.TheVariants.EvictedCopies (at_node (λ (n : NodeParts). message_items S H m.id.sender n m.message) there) + items_of_measure measure.TheVariants.EvictedRegistered (at_node (λ (n : NodeParts). message_items S H m.id.sender n m.message) there)
  by_there m None = no-kind m.message
  by_there m (Some n) = unevicted S H m.id.sender n m.message

  by_actor : (m : Mail) (to : Actor) → cond (is_kind kind.TheVariants.Evict (kind_of m.message)) 1 0
      ≡ items_of_measure measure.TheVariants.EvictedCopies (mail_items S H m.id.sender to m.message) + items_of_measure measure.TheVariants.EvictedRegistered (mail_items S H m.id.sender to m.message)
  by_actor m (Core core) = by_there m (slice_get S.nodes core.0)
  by_actor m (Bank bank) = no-kind m.message
  by_actor m Keeper = no-kind m.message

  by_mail : (took : Option Mail) → cond (is_kind kind.TheVariants.Evict (kind_with took)) 1 0 ≡ items_of_measure measure.TheVariants.EvictedCopies (handle_items S H took) + items_of_measure measure.TheVariants.EvictedRegistered (handle_items S H took)
  by_mail None = refl
  by_mail (Some m) = by_actor m m.to

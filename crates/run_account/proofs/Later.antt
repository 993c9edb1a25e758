-- Each reply, each grant and each eviction is counted once.
use Rattle.std.proofs.Common.{◌≡◌, ℕ, ◌+◌, ◌≤◌, Bool, true, false, cond, nat_le, nat_lt, List, [], ◌∷◌, ◌++◌, slice_get, Option, Some, None, refl, sym, ◌∙◌, arith}
use Rattle.std.specs.Prelude.{◌==◌, count_by}
use Rattle.std.proofs.lemmas.Bool.Decides.{nat_tests}
use Rattle.std.proofs.lemmas.List.Sums.{sum_by-cons}
use Rattle.std.proofs.lemmas.Option.{none-some}
use Rattle.dn_base.specs.declared.ids.LoadSeen.{LoadSeen}
use Rattle.dn_base.specs.declared.ids.Grant.{Grant as Granted}
use Rattle.message_net.specs.declared.actor.Actor.{Actor}
use Rattle.message_net.specs.declared.actor.Actor.TheVariants.{Core, Bank, Keeper}
use Rattle.message_net.specs.declared.event.Event.{Event}
use Rattle.message_net.specs.declared.event.Event.TheVariants.{Instr, Evict, Arrive, Handle}
use Rattle.message_net.specs.declared.event.EventKind as kind
use Rattle.message_net.specs.declared.event.EventKind.{EventKind}
use Rattle.message_net.specs.declared.message.Mail.{Mail}
use Rattle.message_net.specs.declared.message.Message as message
use Rattle.message_net.specs.declared.message.Message.{Message}
use Rattle.message_net.specs.declared.message.Outgoing.{Outgoing}
use Rattle.message_net.specs.Kind.{kind_of}
use Rattle.message_net.specs.Pool.{removed}
use Rattle.write_signature.specs.declared.signature.Signature.{Signature}
use Rattle.word_cache.specs.declared.row.Entry as entry
use Rattle.word_cache.specs.declared.row.Entry.{Entry}
use Rattle.registration_protocol.specs.declared.node.NodeWait as wait
use Rattle.registration_protocol.specs.Node.{NodeParts, entry_of, waits_for_nothing}
use Rattle.registration_protocol.specs.OwnEvents.{instructed, written_now}
use Rattle.registration_protocol.specs.Messages.{node_gets}
use Rattle.machine_rules.specs.State.{State}
use Rattle.machine_rules.specs.Next.{enabled, kind_in, kind_with}
use Rattle.machine_rules.specs.Coherent.{Coherent, IsExpected, waits_for}
use Rattle.run_account.specs.declared.measure.Measure as measure
use Rattle.run_account.specs.declared.measure.Measure.{Measure}
use Rattle.run_account.specs.declared.item.Item.{Item}
use Rattle.run_account.specs.Measure.{measure_index, same_measure}
use Rattle.run_account.specs.Items.{items_of_measure}
use Rattle.run_account.specs.declared.departure.Departure.{Departure}
use Rattle.run_account.specs.declared.departure.Departure.TheVariants as why
use Rattle.run_account.specs.declared.departure.Handing.{Handing}
use Rattle.run_account.specs.declared.departure.Handing.TheVariants.{AtOnce, Queued}
use Rattle.run_account.specs.Departures.{Departures, departure_at, goes}
use Rattle.run_account.specs.Handings.{Handings, handing_of}
use Rattle.run_account.specs.Events.{item_of, item_at, item_if, load_items, store_items, miss_of, has_untold_copy, asking_items, sent_items, instr_items, evict_items, phase_items, lock_items, grant_measure, reply_measure, is_bounced, message_items, at_node, mail_items, handle_items, items_in}
use Rattle.run_account.specs.Kinds.{is_kind}
use Rattle.run_account.proofs.Without.{Lacks, lacks-append, lacks-replicate}
use Rattle.run_account.proofs.Reasons.{lacks-if, phase-lacks-all, lock-lacks-all, stores-lack}
use Rattle.run_account.proofs.Told.{IsToldBy, was-there}

-- the measures of messages and evictions stand behind those of instructions and copies
abbrev pub is_later : Measure → Bool
is_later m = nat_le 18 (measure_index m)

pub instr-lacks : (S : State) (D : Departures) (n : NodeParts) → Lacks is_later (instr_items S D n)
instr-lacks S D n =
    lacks-append is_later (load_items n (instructed S.setting n).1.seen ++ store_items n (written_now S.setting n)) (sent_items S D n (instructed S.setting n).1.sent)
    (lacks-append is_later (load_items n (instructed S.setting n).1.seen) (store_items n (written_now S.setting n)) (by_load (instructed S.setting n).1.seen)
    (stores-lack is_later refl refl n (written_now S.setting n)))
    (by_sent (instructed S.setting n).1.sent)
  where
    by_load : (seen : Option LoadSeen) → Lacks is_later (load_items n seen)
    by_load None = tt
    by_load (Some seen) = (refl, lacks-if is_later (waits_for_nothing n.waiting) (item_at measure.TheVariants.LoadsLocal n seen.word) refl)

    by_reason : (d : Option Departure) → is_later (miss_of d) ≡ false
    by_reason None = refl
    by_reason (Some why.Phase) = refl
    by_reason (Some why.Lock) = refl
    by_reason (Some why.Evicted) = refl
    by_reason (Some why.Taken) = refl

    by_message : (m : Message) → Lacks is_later (asking_items S D n m)
    by_message (message.TheVariants.ReadReq word reader) = (refl, (by_reason (departure_at D n.core word.0), tt))
    by_message (message.TheVariants.RegReq word core) =
        (refl, lacks-replicate is_later (count_by (has_untold_copy n word.0) S.nodes) (item_at measure.TheVariants.UntoldCopies n word) refl)
    by_message (message.TheVariants.ReadFwd word reader) = tt
    by_message (message.TheVariants.DataReply word value) = tt
    by_message (message.TheVariants.RegFwd word core) = tt
    by_message (message.TheVariants.RegAck word) = tt
    by_message (message.TheVariants.WriteBack word value core) = tt
    by_message (message.TheVariants.WbAck word) = tt
    by_message (message.TheVariants.Acquire lock core) = tt
    by_message (message.TheVariants.Release lock core signature) = tt
    by_message (message.TheVariants.Grant lock signature) = tt
    by_message (message.TheVariants.Arrived core bad) = tt
    by_message (message.TheVariants.Go phase) = tt
    by_message message.TheVariants.Halt = tt

    by_sent : (sent : Option Outgoing) → Lacks is_later (sent_items S D n sent)
    by_sent None = tt
    by_sent (Some out) = by_message out.message

pub go-lacks : (S : State) (n after : NodeParts) → Lacks is_later (phase_items S n after)
go-lacks = phase-lacks-all is_later refl refl refl

pub locks-lack : (S : State) (n : NodeParts) (signature : Signature) (granted : Option Granted) → Lacks is_later (lock_items S n signature granted)
locks-lack = lock-lacks-all is_later (λ s. refl) (λ s. refl) (λ s. refl)

-- a list without later measures has none of a later measure
pub count-none : (m : Measure) → is_later m ≡ true → (items : List Item) → Lacks is_later items → items_of_measure m items ≡ 0
count-none m later [] none = refl
count-none m later (item ∷ items) none =
    omega (
      arith,
      count-none m later items none.1,
      not-one (same_measure m item.measure) (apart (measure_index m) (measure_index item.measure) later none.0),
      sum_by-cons (λ (x : Item). cond (same_measure m x.measure) 1 0) item items,
    )
  where
    apart : (i j : ℕ) → nat_le 18 i ≡ true → nat_le 18 j ≡ false → (i == j) ≡ false
    apart i j high low = grind (arith, nat_tests, high, low)

    not-one : (t : Bool) → t ≡ false → cond {A = ℕ} t 1 0 ≡ 0
    not-one t e = rw e refl

-- none of two later measures
pub none-of : (a b : Measure) → is_later a ≡ true → is_later b ≡ true → (items : List Item) → Lacks is_later items → 0 ≡ items_of_measure a items + items_of_measure b items
none-of a b first second items none = omega (arith, count-none a first items none, count-none b second items none)

-- a reply is counted once, and no other message is one
replied : (S : State) (H : Handings) (sender : Actor) (n : NodeParts) (m : Message)
    → cond (is_kind kind.TheVariants.DataReply (kind_of m)) 1 0 ≡ items_of_measure measure.TheVariants.RepliesHome (message_items S H sender n m) + items_of_measure measure.TheVariants.RepliesCore (message_items S H sender n m)
replied S H sender n (message.TheVariants.DataReply word value) = by_sender sender where
  by_sender : (from : Actor) → 1 ≡ items_of_measure measure.TheVariants.RepliesHome (item_at (reply_measure from) n word ∷ []) + items_of_measure measure.TheVariants.RepliesCore (item_at (reply_measure from) n word ∷ [])
  by_sender (Core core) = refl
  by_sender (Bank bank) = refl
  by_sender Keeper = refl
replied S H sender n (message.TheVariants.ReadFwd word reader) = by_test (is_bounced (node_gets S.setting n (message.TheVariants.ReadFwd word reader)).1.sent) where
  by_test : (t : Bool) → 0 ≡ items_of_measure measure.TheVariants.RepliesHome (item_if t (item_at measure.TheVariants.Bounces n word)) + items_of_measure measure.TheVariants.RepliesCore (item_if t (item_at measure.TheVariants.Bounces n word))
  by_test true = refl
  by_test false = refl
replied S H sender n (message.TheVariants.RegFwd word core) = by_test (goes n (node_gets S.setting n (message.TheVariants.RegFwd word core)).0 word.0) where
  by_test : (t : Bool) → 0 ≡ items_of_measure measure.TheVariants.RepliesHome (item_if t (item_at measure.TheVariants.Taken n word)) + items_of_measure measure.TheVariants.RepliesCore (item_if t (item_at measure.TheVariants.Taken n word))
  by_test true = refl
  by_test false = refl
replied S H sender n (message.TheVariants.Grant lock signature) =
    let after = node_gets S.setting n (message.TheVariants.Grant lock signature) in
    omega (
      arith,
      none-of measure.TheVariants.RepliesHome measure.TheVariants.RepliesCore refl refl (lock_items S n signature after.1.granted) (locks-lack S n signature after.1.granted),
      by_handing (handing_of H lock.0) measure.TheVariants.RepliesHome refl (lock_items S n signature after.1.granted),
      by_handing (handing_of H lock.0) measure.TheVariants.RepliesCore refl (lock_items S n signature after.1.granted),
    )
  where
    by_handing : (how : Handing) (m : Measure) → (nat_lt (measure_index m) 24) ≡ true → (items : List Item) → items_of_measure m (item_of (grant_measure how) n None ∷ items) ≡ items_of_measure m items
    by_handing how m low items =
        omega (arith, not-it how, sum_by-cons (λ (x : Item). cond (same_measure m x.measure) 1 0) (item_of (grant_measure how) n None) items)
      where
        not-one : (i j : ℕ) → nat_lt i 24 ≡ true → 24 ≤ j → cond {A = ℕ} (i == j) 1 0 ≡ 0
        not-one i j small large = let e : (i == j) ≡ false = grind (arith, nat_tests, small, large) in rw e refl

        not-it : (by : Handing) → cond {A = ℕ} (same_measure m (grant_measure by)) 1 0 ≡ 0
        not-it AtOnce = not-one (measure_index m) 24 low (omega arith)
        not-it Queued = not-one (measure_index m) 25 low (omega arith)
replied S H sender n (message.TheVariants.Go phase) =
    none-of measure.TheVariants.RepliesHome measure.TheVariants.RepliesCore refl refl (phase_items S n (node_gets S.setting n (message.TheVariants.Go phase)).0) (go-lacks S n (node_gets S.setting n (message.TheVariants.Go phase)).0)
replied S H sender n (message.TheVariants.ReadReq word reader) = refl
replied S H sender n (message.TheVariants.RegReq word core) = refl
replied S H sender n (message.TheVariants.RegAck word) = refl
replied S H sender n (message.TheVariants.WriteBack word value core) = refl
replied S H sender n (message.TheVariants.WbAck word) = refl
replied S H sender n (message.TheVariants.Acquire lock core) = refl
replied S H sender n (message.TheVariants.Release lock core signature) = refl
replied S H sender n (message.TheVariants.Arrived core bad) = refl
replied S H sender n message.TheVariants.Halt = refl

-- a mail that nobody but a core awaits, with its node
pub replies-told : (S : State) (D : Departures) (H : Handings) (e : Event) → Coherent S → enabled S e ≡ true
    → IsToldBy kind.TheVariants.DataReply measure.TheVariants.RepliesHome measure.TheVariants.RepliesCore S e (items_in S D H e)
unfolding items_in kind_in
replies-told S D H (Instr core) coherent may = by_node (slice_get S.nodes core.0) where
  by_node : (there : Option NodeParts) → 0 ≡ items_of_measure measure.TheVariants.RepliesHome (at_node (instr_items S D) there) + items_of_measure measure.TheVariants.RepliesCore (at_node (instr_items S D) there)
  by_node None = refl
  by_node (Some n) = none-of measure.TheVariants.RepliesHome measure.TheVariants.RepliesCore refl refl (instr_items S D n) (instr-lacks S D n)
replies-told S D H (Evict core word) coherent may = by_node (slice_get S.nodes core.0) where
  by_entry : (n : NodeParts) (e : Option Entry) → 0 ≡ items_of_measure measure.TheVariants.RepliesHome (evict_items n word e) + items_of_measure measure.TheVariants.RepliesCore (evict_items n word e)
  by_entry n None = refl
  by_entry n (Some (entry.TheVariants.Valid value marked)) = refl
  by_entry n (Some (entry.TheVariants.Registered value pending)) = refl
  by_entry n (Some (entry.TheVariants.Leaving value)) = refl

  by_node : (there : Option NodeParts) → 0 ≡ items_of_measure measure.TheVariants.RepliesHome (at_node (λ (n : NodeParts). evict_items n word (entry_of n word.0)) there) + items_of_measure measure.TheVariants.RepliesCore (at_node (λ (n : NodeParts). evict_items n word (entry_of n word.0)) there)
  by_node None = refl
  by_node (Some n) = by_entry n (entry_of n word.0)
replies-told S D H (Arrive core) coherent may = refl
replies-told S D H (Handle id) coherent may = by_mail (removed id S.mails).0 (λ m e. coherent.expected m (was-there S id m e)) where
  by_there : (core : _) (m : Mail) (there : Option NodeParts) → slice_get S.nodes core ≡ there → IsExpected S (Core (record { 0 = core })) m.message
      → cond (is_kind kind.TheVariants.DataReply (kind_of m.message)) 1 0 ≡ items_of_measure measure.TheVariants.RepliesHome (at_node (λ (n : NodeParts). message_items S H m.id.sender n m.message) there)
      + items_of_measure measure.TheVariants.RepliesCore (at_node (λ (n : NodeParts). message_items S H m.id.sender n m.message) there)
  by_there core m (Some n) is awaited = replied S H m.id.sender n m.message
  by_there core m None is awaited = by_message m.message awaited where
    by_message : (x : Message) → IsExpected S (Core (record { 0 = core })) x → cond {A = ℕ} (is_kind kind.TheVariants.DataReply (kind_of x)) 1 0 ≡ 0
    by_message (message.TheVariants.DataReply word value) waits = absurd (none-there waits) where
      none-there : waits_for S core (wait.TheVariants.Reading word) → ⊥
      none-there w = none-some w.0 (sym is ∙ w.1)
    by_message (message.TheVariants.ReadReq word reader) waits = refl
    by_message (message.TheVariants.ReadFwd word reader) waits = refl
    by_message (message.TheVariants.RegReq word c) waits = refl
    by_message (message.TheVariants.RegFwd word c) waits = refl
    by_message (message.TheVariants.RegAck word) waits = refl
    by_message (message.TheVariants.WriteBack word value c) waits = refl
    by_message (message.TheVariants.WbAck word) waits = refl
    by_message (message.TheVariants.Acquire lock c) waits = refl
    by_message (message.TheVariants.Release lock c signature) waits = refl
    by_message (message.TheVariants.Grant lock signature) waits = refl
    by_message (message.TheVariants.Arrived c bad) waits = refl
    by_message (message.TheVariants.Go phase) waits = refl
    by_message message.TheVariants.Halt waits = refl

  by_actor : (m : Mail) (to : Actor) → IsExpected S to m.message
      → cond (is_kind kind.TheVariants.DataReply (kind_of m.message)) 1 0 ≡ items_of_measure measure.TheVariants.RepliesHome (mail_items S H m.id.sender to m.message) + items_of_measure measure.TheVariants.RepliesCore (mail_items S H m.id.sender to m.message)
  by_actor m (Core core) awaited = by_there core.0 m (slice_get S.nodes core.0) refl awaited
  by_actor m (Bank bank) awaited = of_bank m.message awaited where
    of_bank : (x : Message) → IsExpected S (Bank bank) x → cond {A = ℕ} (is_kind kind.TheVariants.DataReply (kind_of x)) 1 0 ≡ 0
    of_bank (message.TheVariants.DataReply word value) waits = absurd waits
    of_bank (message.TheVariants.ReadReq word reader) waits = refl
    of_bank (message.TheVariants.ReadFwd word reader) waits = refl
    of_bank (message.TheVariants.RegReq word c) waits = refl
    of_bank (message.TheVariants.RegFwd word c) waits = refl
    of_bank (message.TheVariants.RegAck word) waits = refl
    of_bank (message.TheVariants.WriteBack word value c) waits = refl
    of_bank (message.TheVariants.WbAck word) waits = refl
    of_bank (message.TheVariants.Acquire lock c) waits = refl
    of_bank (message.TheVariants.Release lock c signature) waits = refl
    of_bank (message.TheVariants.Grant lock signature) waits = refl
    of_bank (message.TheVariants.Arrived c bad) waits = refl
    of_bank (message.TheVariants.Go phase) waits = refl
    of_bank message.TheVariants.Halt waits = refl
  by_actor m Keeper awaited = of_keeper m.message awaited where
    of_keeper : (x : Message) → IsExpected S Keeper x → cond {A = ℕ} (is_kind kind.TheVariants.DataReply (kind_of x)) 1 0 ≡ 0
    of_keeper (message.TheVariants.DataReply word value) waits = absurd waits
    of_keeper (message.TheVariants.ReadReq word reader) waits = refl
    of_keeper (message.TheVariants.ReadFwd word reader) waits = refl
    of_keeper (message.TheVariants.RegReq word c) waits = refl
    of_keeper (message.TheVariants.RegFwd word c) waits = refl
    of_keeper (message.TheVariants.RegAck word) waits = refl
    of_keeper (message.TheVariants.WriteBack word value c) waits = refl
    of_keeper (message.TheVariants.WbAck word) waits = refl
    of_keeper (message.TheVariants.Acquire lock c) waits = refl
    of_keeper (message.TheVariants.Release lock c signature) waits = refl
    of_keeper (message.TheVariants.Grant lock signature) waits = refl
    of_keeper (message.TheVariants.Arrived c bad) waits = refl
    of_keeper (message.TheVariants.Go phase) waits = refl
    of_keeper message.TheVariants.Halt waits = refl

  by_mail : (took : Option Mail) → ((m : Mail) → took ≡ Some m → IsExpected S m.to m.message)
      → cond (is_kind kind.TheVariants.DataReply (kind_with took)) 1 0 ≡ items_of_measure measure.TheVariants.RepliesHome (handle_items S H took) + items_of_measure measure.TheVariants.RepliesCore (handle_items S H took)
  by_mail None awaited = refl
  by_mail (Some m) awaited = by_actor m m.to (awaited m refl)

-- What an account counts of an event, by the state before the event.
use Rattle.std.specs.Prelude.{ℕ, Bool, true, false, ◌&&◌, ◌==◌, not, List, [], ◌∷◌, ◌++◌, replicate, slice_get, Option, Some, None, count_by, if◌then◌else◌}
use Rattle.std.specs.List.{flat_map}
use Rattle.dn_base.specs.declared.ids.LoadSeen.{LoadSeen}
use Rattle.dn_base.specs.declared.ids.Grant.{Grant as Granted}
use Rattle.dn_base.specs.declared.ids.WordId.{WordId}
use Rattle.region_table.specs.declared.interval.Interval.{Interval}
use Rattle.region_table.specs.Words.{has}
use Rattle.message_net.specs.declared.actor.Actor.{Actor}
use Rattle.message_net.specs.declared.actor.Actor.TheVariants.{Core}
use Rattle.message_net.specs.declared.event.Event.{Event}
use Rattle.message_net.specs.declared.event.Event.TheVariants.{Instr, Evict, Handle}
use Rattle.message_net.specs.declared.message.Mail.{Mail}
use Rattle.message_net.specs.declared.message.Message.{Message}
use Rattle.message_net.specs.declared.message.Message.TheVariants.{ReadReq, ReadFwd, DataReply, RegReq, RegFwd, Grant as GrantOf, Go as GoTo}
use Rattle.message_net.specs.declared.message.Outgoing.{Outgoing}
use Rattle.message_net.specs.Pool.{removed}
use Rattle.word_cache.specs.declared.row.Entry.{Entry}
use Rattle.word_cache.specs.declared.row.Entry.TheVariants.{Valid, Registered, Leaving}
use Rattle.write_signature.specs.declared.signature.Signature.{Signature}
use Rattle.word_cache.specs.Cache.{Pair, is_valid, stays, is_fresh}
use Rattle.registration_protocol.specs.Node.{NodeParts, entry_of, waits_for_nothing}
use Rattle.registration_protocol.specs.OwnEvents.{instructed, written_now}
use Rattle.registration_protocol.specs.Messages.{node_gets, written_in, guarded_by}
use Rattle.machine_rules.specs.State.{State}
use Rattle.machine_rules.specs.Memory.{word_value, value_in_entry}
use Rattle.run_account.specs.declared.item.Item.{Item}
use Rattle.run_account.specs.declared.measure.Measure as measure
use Rattle.run_account.specs.declared.measure.Measure.{Measure}
use Rattle.run_account.specs.declared.departure.Departure.{Departure}
use Rattle.run_account.specs.declared.departure.Departure.TheVariants as why
use Rattle.run_account.specs.declared.departure.Handing.{Handing}
use Rattle.run_account.specs.declared.departure.Handing.TheVariants.{AtOnce, Queued}
use Rattle.run_account.specs.declared.departure.Occasion.{Occasion}
use Rattle.run_account.specs.declared.departure.Occasion.TheVariants.{Go, Grant}
use Rattle.run_account.specs.Departures.{Departures, departure_at, goes}
use Rattle.run_account.specs.Handings.{Handings, handing_of}

-- an item belongs to the core that acts and to its phase before the event
abbrev pub item_of : Measure → NodeParts → Option WordId → Item
item_of m n word = record { measure = m; phase = record { 0 = n.phase }; core = record { 0 = n.core }; word = word }

abbrev pub item_at : Measure → NodeParts → WordId → Item
item_at m n word = item_of m n (Some word)

-- one item if a test is true, otherwise none
abbrev pub item_if : Bool → Item → List Item
item_if test item = if test then item ∷ [] else []

-- ---- instructions

-- a load that retires; it is local if the core waited for nothing
abbrev pub load_items : NodeParts → Option LoadSeen → List Item
load_items n None = []
load_items n (Some seen) = item_at measure.TheVariants.Loads n seen.word ∷ item_if (waits_for_nothing n.waiting) (item_at measure.TheVariants.LoadsLocal n seen.word)

-- a store that retires; it is silent if its word is registered
abbrev pub is_registered : Option Entry → Bool
is_registered (Some (Registered value pending)) = true
is_registered _ = false

abbrev pub store_items : NodeParts → Option (WordId × ℕ) → List Item
store_items n None = []
store_items n (Some written) =
    item_at measure.TheVariants.Stores n written.0 ∷ item_if (is_registered (entry_of n written.0.0)) (item_at measure.TheVariants.StoresSilent n written.0)

-- why the core has no entry of the word that it misses
abbrev pub miss_of : Option Departure → Measure
miss_of None = measure.TheVariants.MissesFirst
miss_of (Some why.Phase) = measure.TheVariants.MissesPhase
miss_of (Some why.Lock) = measure.TheVariants.MissesLock
miss_of (Some why.Evicted) = measure.TheVariants.MissesEvicted
miss_of (Some why.Taken) = measure.TheVariants.MissesTaken

-- whether an entry is a copy, and another core has a copy of a word
abbrev pub is_copy : Option Entry → Bool
is_copy None = false
is_copy (Some e) = is_valid e

abbrev pub has_untold_copy : NodeParts → ℕ → NodeParts → Bool
has_untold_copy n w other = not (other.core == n.core) && is_copy (entry_of other w)

-- what an instruction sends: a miss sends ReadReq, and a store that registers its word RegReq
abbrev pub asking_items : State → Departures → NodeParts → Message → List Item
asking_items S D n (ReadReq word reader) = item_at measure.TheVariants.Misses n word ∷ item_at (miss_of (departure_at D n.core word.0)) n word ∷ []
asking_items S D n (RegReq word core) =
    item_at measure.TheVariants.Registers n word ∷ replicate (count_by (has_untold_copy n word.0) S.nodes) (item_at measure.TheVariants.UntoldCopies n word)
asking_items S D n _ = []

abbrev pub sent_items : State → Departures → NodeParts → Option Outgoing → List Item
sent_items S D n None = []
sent_items S D n (Some out) = asking_items S D n out.message

abbrev pub instr_items : State → Departures → NodeParts → List Item
instr_items S D n =
    load_items n (instructed S.setting n).1.seen
    ++ store_items n (written_now S.setting n)
    ++ sent_items S D n (instructed S.setting n).1.sent

-- ---- evictions

abbrev pub evict_items : NodeParts → WordId → Option Entry → List Item
evict_items n word None = []
evict_items n word (Some (Valid value marked)) = item_at measure.TheVariants.EvictedCopies n word ∷ []
evict_items n word (Some (Registered value pending)) = item_at measure.TheVariants.EvictedRegistered n word ∷ []
evict_items n word (Some (Leaving value)) = []

-- ---- copies at a Go and at a Grant

-- which copies stay: at a Go by the words that the ended phase may have written, at a Grant by those that the lock guards
abbrev pub remains : NodeParts → Occasion → List Interval → Pair → Bool
remains n Go words p = stays words p
remains n (Grant signature) words p = is_fresh signature n.phase words p

-- the measures of the copies that are dropped, of those of them that have the word's value, and of those that stay
abbrev pub dropped_at : Occasion → Measure
dropped_at Go = measure.TheVariants.DroppedPhase
dropped_at (Grant signature) = measure.TheVariants.DroppedLock

abbrev pub current_at : Occasion → Measure
current_at Go = measure.TheVariants.DroppedPhaseCurrent
current_at (Grant signature) = measure.TheVariants.DroppedLockCurrent

abbrev pub kept_at : Occasion → Measure
kept_at Go = measure.TheVariants.KeptTouched
kept_at (Grant signature) = measure.TheVariants.KeptSignature

-- a copy is dropped, possibly with the word's value; or it stays although its word is one of those that are looked at
abbrev pub copy_items : State → NodeParts → Occasion → List Interval → Pair → List Item
copy_items S n o words p =
    if remains n o words p then item_if (has words p.0.0) (item_at (kept_at o) n p.0)
    else item_at (dropped_at o) n p.0 ∷ item_if (value_in_entry (Some p.1) == word_value S p.0.0) (item_at (current_at o) n p.0)

abbrev pub pair_items : State → NodeParts → Occasion → List Interval → Pair → List Item
pair_items S n o words p = if is_valid p.1 then copy_items S n o words p else []

-- of every copy that a core has
abbrev pub copies_items : State → NodeParts → Occasion → List Interval → List Item
copies_items S n o words = flat_map (pair_items S n o words) n.cache.pairs

-- at a Go that begins a phase, and at a Grant that the core waits for
abbrev pub phase_items : State → NodeParts → NodeParts → List Item
phase_items S n after = if after.phase == n.phase then [] else copies_items S n Go (written_in (slice_get S.setting.plans n.phase))

abbrev pub lock_items : State → NodeParts → Signature → Option Granted → List Item
lock_items S n signature None = []
lock_items S n signature (Some granted) =
    copies_items S n (Grant signature) (guarded_by (slice_get S.setting.plans n.phase) granted.lock.0)

-- ---- messages that a core handles

abbrev pub grant_measure : Handing → Measure
grant_measure AtOnce = measure.TheVariants.GrantsAtOnce
grant_measure Queued = measure.TheVariants.GrantsQueued

abbrev pub reply_measure : Actor → Measure
reply_measure (Core core) = measure.TheVariants.RepliesCore
reply_measure _ = measure.TheVariants.RepliesHome

-- a read that the core sends back to the word's home
abbrev pub bounced : Message → Bool
bounced (ReadReq word reader) = true
bounced _ = false

abbrev pub is_bounced : Option Outgoing → Bool
is_bounced None = false
is_bounced (Some out) = bounced out.message

abbrev pub message_items : State → Handings → Actor → NodeParts → Message → List Item
message_items S H sender n (DataReply word value) = item_at (reply_measure sender) n word ∷ []
message_items S H sender n (ReadFwd word reader) =
    item_if (is_bounced (node_gets S.setting n (ReadFwd word reader)).1.sent) (item_at measure.TheVariants.Bounces n word)
message_items S H sender n (RegFwd word core) =
    item_if (goes n (node_gets S.setting n (RegFwd word core)).0 word.0) (item_at measure.TheVariants.Taken n word)
message_items S H sender n (GrantOf lock signature) =
    item_of (grant_measure (handing_of H lock.0)) n None
    ∷ lock_items S n signature (node_gets S.setting n (GrantOf lock signature)).1.granted
message_items S H sender n (GoTo phase) = phase_items S n (node_gets S.setting n (GoTo phase)).0
message_items S H sender n _ = []

-- ---- events

abbrev pub at_node : (NodeParts → List Item) → Option NodeParts → List Item
at_node items None = []
at_node items (Some n) = items n

abbrev pub mail_items : State → Handings → Actor → Actor → Message → List Item
mail_items S H sender (Core core) message = at_node (λ (n : NodeParts). message_items S H sender n message) (slice_get S.nodes core.0)
mail_items S H sender _ message = []

abbrev pub handle_items : State → Handings → Option Mail → List Item
handle_items S H None = []
handle_items S H (Some m) = mail_items S H m.id.sender m.to m.message

-- the items of an event, by what last happened to each core's entries and how each lock was last granted
unfoldable pub items_in : State → Departures → Handings → Event → List Item
items_in S D H (Instr core) = at_node (instr_items S D) (slice_get S.nodes core.0)
items_in S D H (Evict core word) = at_node (λ (n : NodeParts). evict_items n word (entry_of n word.0)) (slice_get S.nodes core.0)
items_in S D H (Handle id) = handle_items S H (removed id S.mails).0
items_in S D H _ = []

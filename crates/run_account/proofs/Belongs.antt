-- Each item of an event has the core and the phase of a node of the state, and a word of the memory if it has one.
use Rattle.std.proofs.Common.{◌≡◌, ℕ, zero, suc, Bool, true, false, cond, List, [], ◌∷◌, ◌++◌, replicate, slice_get, Option, Some, None, refl, ap, subst, ◌∙◌}
use Rattle.std.specs.Prelude.{◌&&◌, ◌==◌, not, flat_map, count_by}
use Rattle.std.specs.Option.{is_some}
use Rattle.dn_base.specs.declared.ids.CoreId.{CoreId}
use Rattle.dn_base.specs.declared.ids.LoadSeen.{LoadSeen}
use Rattle.dn_base.specs.declared.ids.Grant.{Grant as Granted}
use Rattle.dn_base.specs.declared.ids.WordId.{WordId}
use Rattle.region_table.specs.declared.interval.Interval.{Interval}
use Rattle.region_table.specs.Words.{has}
use Rattle.message_net.specs.declared.actor.Actor.{Actor}
use Rattle.message_net.specs.declared.actor.Actor.TheVariants.{Core, Bank, Keeper}
use Rattle.message_net.specs.declared.event.Event.{Event}
use Rattle.message_net.specs.declared.event.Event.TheVariants.{Instr, Evict, Arrive, Handle}
use Rattle.message_net.specs.declared.message.Mail.{Mail}
use Rattle.message_net.specs.declared.message.Message as message
use Rattle.message_net.specs.declared.message.Message.{Message}
use Rattle.message_net.specs.declared.message.Outgoing.{Outgoing}
use Rattle.message_net.specs.Pool.{removed}
use Rattle.word_cache.specs.declared.row.Entry.{Entry}
use Rattle.word_cache.specs.declared.row.Entry.TheVariants.{Valid, Registered, Leaving}
use Rattle.write_signature.specs.declared.signature.Signature.{Signature}
use Rattle.word_cache.specs.Cache.{Pair, is_valid}
use Rattle.registration_protocol.specs.declared.node.NodeWait as wait
use Rattle.registration_protocol.specs.declared.node.NodeWait.{NodeWait}
use Rattle.registration_protocol.specs.Node.{NodeParts, Setting, entry_of, waits_for_nothing}
use Rattle.registration_protocol.specs.OwnEvents.{instructed, written_now}
use Rattle.registration_protocol.specs.Messages.{node_gets, written_in, guarded_by}
use Rattle.machine_rules.specs.State.{State}
use Rattle.machine_rules.specs.Memory.{word_value, value_in_entry}
use Rattle.machine_rules.specs.Coherent.{Coherent, IsExpected, waits_for}
use Rattle.run_account.specs.declared.measure.Measure as measure
use Rattle.run_account.specs.declared.measure.Measure.{Measure}
use Rattle.run_account.specs.declared.item.Item.{Item}
use Rattle.run_account.specs.declared.departure.Handing.{Handing}
use Rattle.run_account.specs.declared.departure.Occasion.{Occasion}
use Rattle.run_account.specs.declared.departure.Occasion.TheVariants.{Go, Grant}
use Rattle.run_account.specs.Departures.{Departures, departure_at, goes}
use Rattle.run_account.specs.Handings.{Handings, handing_of}
use Rattle.run_account.specs.Events.{item_of, item_at, item_if, load_items, store_items, is_registered, miss_of, has_untold_copy, asking_items, sent_items, instr_items, evict_items, remains, dropped_at, current_at, kept_at, copy_items, pair_items, copies_items, phase_items, lock_items, grant_measure, reply_measure, is_bounced, message_items, at_node, mail_items, handle_items, items_in}
use Rattle.run_account.proofs.Told.{was-there}
use Rattle.run_account.proofs.Known.{IsWord, AreWords, IsWaited, KnowsWords, AllNodes, IsSeen, IsAsked, IsSent, instr-about, stored-word, entry-word}

-- what holds of each item of a list
abbrev pub Each : (Item → Type 0) → List Item → Type 0
Each P [] = Unit {0}
Each P (item ∷ items) = P item × Each P items

pub each-append : (P : Item → Type 0) (items more : List Item) → Each P items → Each P more → Each P (items ++ more)
each-append P [] more first second = second
each-append P (item ∷ items) more first second = (first.0, each-append P items more first.1 second)

each-replicate : (P : Item → Type 0) (n : ℕ) (item : Item) → P item → Each P (replicate n item)
each-replicate P zero item is = tt
each-replicate P (suc n) item is = (is, each-replicate P n item is)

-- the same for the pairs of words of the memory
each-pair : (P : Item → Type 0) (C : Setting) (f : Pair → List Item) (ps : List Pair) → AreWords C ps → ((p : Pair) → IsWord C p.0 → Each P (f p)) → Each P (flat_map f ps)
each-pair P C f [] all each = tt
each-pair P C f (p ∷ ps) all each = each-append P (f p) (flat_map f ps) (each p all.0) (each-pair P C f ps all.1 each)

-- ---- the items of a node

-- what holds of the items that a node may have
pub record HoldsAt (P : Item → Type 0) (C : Setting) (n : NodeParts) : Type 0 where
  pub word : (m : Measure) (word : WordId) → IsWord C word → P (item_at m n word)
  pub grant : (how : Handing) → P (item_of (grant_measure how) n None)

-- what a message is about
abbrev IsMet : Setting → Message → Type 0
IsMet C (message.TheVariants.DataReply word value) = IsWord C word
IsMet C (message.TheVariants.ReadFwd word reader) = IsWord C word
IsMet C _ = Unit {0}

module _ (P : Item → Type 0) (S : State) (n : NodeParts) (holds : HoldsAt P S.setting n) (knows : KnowsWords S.setting n) where
  abbrev C : Setting
  C = S.setting

  each-if : (test : Bool) (m : Measure) (word : WordId) → IsWord C word → Each P (item_if test (item_at m n word))
  each-if true m word within = (holds.word m word within, tt)
  each-if false m word within = tt

  loads-are : (seen : Option LoadSeen) → IsSeen C seen → Each P (load_items n seen)
  loads-are None about = tt
  loads-are (Some seen) about =
      (holds.word measure.TheVariants.Loads seen.word about, each-if (waits_for_nothing n.waiting) measure.TheVariants.LoadsLocal seen.word about)

  stores-are : (written : Option (WordId × ℕ)) → written_now C n ≡ written → Each P (store_items n written)
  stores-are None is = tt
  stores-are (Some (word, value)) is =
      let within = stored-word C n word value is in
      (holds.word measure.TheVariants.Stores word within, each-if (is_registered (entry_of n word.0)) measure.TheVariants.StoresSilent word within)

  asked-are : (D : Departures) (m : Message) → IsAsked C m → Each P (asking_items S D n m)
  asked-are D (message.TheVariants.ReadReq word reader) about =
      (holds.word measure.TheVariants.Misses word about, (holds.word (miss_of (departure_at D n.core word.0)) word about, tt))
  asked-are D (message.TheVariants.RegReq word core) about = (
    holds.word measure.TheVariants.Registers word about,
    each-replicate P (count_by (has_untold_copy n word.0) S.nodes) (item_at measure.TheVariants.UntoldCopies n word) (holds.word measure.TheVariants.UntoldCopies word about),
  )
  asked-are D (message.TheVariants.ReadFwd word reader) about = tt
  asked-are D (message.TheVariants.DataReply word value) about = tt
  asked-are D (message.TheVariants.RegFwd word core) about = tt
  asked-are D (message.TheVariants.RegAck word) about = tt
  asked-are D (message.TheVariants.WriteBack word value core) about = tt
  asked-are D (message.TheVariants.WbAck word) about = tt
  asked-are D (message.TheVariants.Acquire lock core) about = tt
  asked-are D (message.TheVariants.Release lock core signature) about = tt
  asked-are D (message.TheVariants.Grant lock signature) about = tt
  asked-are D (message.TheVariants.Arrived core bad) about = tt
  asked-are D (message.TheVariants.Go phase) about = tt
  asked-are D message.TheVariants.Halt about = tt

  sent-are : (D : Departures) (sent : Option Outgoing) → IsSent C sent → Each P (sent_items S D n sent)
  sent-are D None about = tt
  sent-are D (Some out) about = asked-are D out.message about

  instr-are : (D : Departures) → Each P (instr_items S D n)
  instr-are D =
      let step = instructed C n in
      let about = instr-about C n knows in
      each-append P (load_items n step.1.seen ++ store_items n (written_now C n)) (sent_items S D n step.1.sent)
      (each-append P (load_items n step.1.seen) (store_items n (written_now C n)) (loads-are step.1.seen about.seen) (stores-are (written_now C n) refl))
      (sent-are D step.1.sent about.sent)

  -- a word that has an entry
  there : (word : WordId) (e : Option Entry) → entry_of n word.0 ≡ e → is_some e ≡ true → IsWord C word
  there word e is some = entry-word C n word.0 knows (ap is_some is ∙ some)

  evicted-are : (word : WordId) (e : Option Entry) → entry_of n word.0 ≡ e → Each P (evict_items n word e)
  evicted-are word None is = tt
  evicted-are word (Some (Valid value marked)) is = (holds.word measure.TheVariants.EvictedCopies word (there word _ is refl), tt)
  evicted-are word (Some (Registered value pending)) is = (holds.word measure.TheVariants.EvictedRegistered word (there word _ is refl), tt)
  evicted-are word (Some (Leaving value)) is = tt

  copies-are : (o : Occasion) (words : List Interval) (p : Pair) → IsWord C p.0 → Each P (copy_items S n o words p)
  copies-are o words p within = by_test (remains n o words p) where
    by_test : (t : Bool)
        → Each P (cond t (item_if (has words p.0.0) (item_at (kept_at o) n p.0)) (item_at (dropped_at o) n p.0 ∷ item_if (value_in_entry (Some p.1) == word_value S p.0.0) (item_at (current_at o) n p.0)))
    by_test true = each-if (has words p.0.0) (kept_at o) p.0 within
    by_test false = (holds.word (dropped_at o) p.0 within, each-if (value_in_entry (Some p.1) == word_value S p.0.0) (current_at o) p.0 within)

  pairs-are : (o : Occasion) (words : List Interval) (p : Pair) → IsWord C p.0 → Each P (pair_items S n o words p)
  pairs-are o words p within = by_test (is_valid p.1) where
    by_test : (t : Bool) → Each P (cond t (copy_items S n o words p) [])
    by_test true = copies-are o words p within
    by_test false = tt

  phase-are : (after : NodeParts) → Each P (phase_items S n after)
  phase-are after = by_test (after.phase == n.phase) where
    words : List Interval
    words = written_in (slice_get C.plans n.phase)

    by_test : (t : Bool) → Each P (cond t [] (copies_items S n Go words))
    by_test true = tt
    by_test false = each-pair P C (pair_items S n Go words) n.cache.pairs knows.pairs (pairs-are Go words)

  locks-are : (signature : Signature) (granted : Option Granted) → Each P (lock_items S n signature granted)
  locks-are signature None = tt
  locks-are signature (Some granted) = each-pair P C (pair_items S n (Grant signature) words) n.cache.pairs knows.pairs (pairs-are (Grant signature) words) where
    words : List Interval
    words = guarded_by (slice_get C.plans n.phase) granted.lock.0

  -- an entry that goes was there
  taken-are : (word : WordId) (after : NodeParts) → Each P (item_if (goes n after word.0) (item_at measure.TheVariants.Taken n word))
  taken-are word after = by_entry (is_some (entry_of n word.0)) refl where
    by_entry : (t : Bool) → is_some (entry_of n word.0) ≡ t → Each P (item_if (t && not (is_some (entry_of after word.0))) (item_at measure.TheVariants.Taken n word))
    by_entry true is = each-if (not (is_some (entry_of after word.0))) measure.TheVariants.Taken word (entry-word C n word.0 knows is)
    by_entry false is = tt

  messages-are : (H : Handings) (sender : Actor) (m : Message) → IsMet C m → Each P (message_items S H sender n m)
  messages-are H sender (message.TheVariants.DataReply word value) met = (holds.word (reply_measure sender) word met, tt)
  messages-are H sender (message.TheVariants.ReadFwd word reader) met =
      each-if (is_bounced (node_gets C n (message.TheVariants.ReadFwd word reader)).1.sent) measure.TheVariants.Bounces word met
  messages-are H sender (message.TheVariants.RegFwd word core) met = taken-are word (node_gets C n (message.TheVariants.RegFwd word core)).0
  messages-are H sender (message.TheVariants.Grant lock signature) met =
      (holds.grant (handing_of H lock.0), locks-are signature (node_gets C n (message.TheVariants.Grant lock signature)).1.granted)
  messages-are H sender (message.TheVariants.Go phase) met = phase-are (node_gets C n (message.TheVariants.Go phase)).0
  messages-are H sender (message.TheVariants.ReadReq word reader) met = tt
  messages-are H sender (message.TheVariants.RegReq word core) met = tt
  messages-are H sender (message.TheVariants.RegAck word) met = tt
  messages-are H sender (message.TheVariants.WriteBack word value core) met = tt
  messages-are H sender (message.TheVariants.WbAck word) met = tt
  messages-are H sender (message.TheVariants.Acquire lock core) met = tt
  messages-are H sender (message.TheVariants.Release lock core signature) met = tt
  messages-are H sender (message.TheVariants.Arrived core bad) met = tt
  messages-are H sender message.TheVariants.Halt met = tt

-- ---- the items of a state

-- what holds of the items that a state's nodes may have
abbrev pub HoldsByNode : (Item → Type 0) → State → Type 0
HoldsByNode P S = (c : ℕ) (n : NodeParts) → slice_get S.nodes c ≡ Some n → HoldsAt P S.setting n

module _ (S : State) (known : AllNodes KnowsWords S) where
  -- a word that a core reads
  read-word : (c : ℕ) (word : WordId) → waits_for S c (wait.TheVariants.Reading word) → IsWord S.setting word
  read-word c word (n, found, waits) = subst (λ (w : NodeWait). IsWaited S.setting w) waits (known c n found).waiting

  expected-met : (core : CoreId) (m : Message) → IsExpected S (Core core) m → IsMet S.setting m
  expected-met core (message.TheVariants.DataReply word value) is = read-word core.0 word is
  expected-met core (message.TheVariants.ReadFwd word reader) is = read-word reader.0 word is
  expected-met core (message.TheVariants.ReadReq word reader) is = tt
  expected-met core (message.TheVariants.RegReq word other) is = tt
  expected-met core (message.TheVariants.RegFwd word other) is = tt
  expected-met core (message.TheVariants.RegAck word) is = tt
  expected-met core (message.TheVariants.WriteBack word value other) is = tt
  expected-met core (message.TheVariants.WbAck word) is = tt
  expected-met core (message.TheVariants.Acquire lock other) is = tt
  expected-met core (message.TheVariants.Release lock other signature) is = tt
  expected-met core (message.TheVariants.Grant lock signature) is = tt
  expected-met core (message.TheVariants.Arrived other bad) is = tt
  expected-met core (message.TheVariants.Go phase) is = tt
  expected-met core message.TheVariants.Halt is = tt

-- holds of each item of an event
pub items-are : (P : Item → Type 0) (S : State) (D : Departures) (H : Handings) (e : Event) → HoldsByNode P S → AllNodes KnowsWords S → Coherent S → Each P (items_in S D H e)
unfolding items_in
items-are P S D H (Instr core) holds known coherent = by_node (slice_get S.nodes core.0) refl where
  by_node : (there : Option NodeParts) → slice_get S.nodes core.0 ≡ there → Each P (at_node (instr_items S D) there)
  by_node None found = tt
  by_node (Some n) found = instr-are P S n (holds core.0 n found) (known core.0 n found) D
items-are P S D H (Evict core word) holds known coherent = by_node (slice_get S.nodes core.0) refl where
  by_node : (there : Option NodeParts) → slice_get S.nodes core.0 ≡ there → Each P (at_node (λ (n : NodeParts). evict_items n word (entry_of n word.0)) there)
  by_node None found = tt
  by_node (Some n) found = evicted-are P S n (holds core.0 n found) (known core.0 n found) word (entry_of n word.0) refl
items-are P S D H (Arrive core) holds known coherent = tt
items-are P S D H (Handle id) holds known coherent = by_mail (removed id S.mails).0 (λ m e. coherent.expected m (was-there S id m e)) where
  by_node : (m : Mail) (core : CoreId) (there : Option NodeParts) → slice_get S.nodes core.0 ≡ there → IsExpected S (Core core) m.message
      → Each P (at_node (λ (n : NodeParts). message_items S H m.id.sender n m.message) there)
  by_node m core None found is = tt
  by_node m core (Some n) found is = messages-are P S n (holds core.0 n found) (known core.0 n found) H m.id.sender m.message (expected-met S known core m.message is)

  by_actor : (m : Mail) (to : Actor) → IsExpected S to m.message → Each P (mail_items S H m.id.sender to m.message)
  by_actor m (Core core) is = by_node m core (slice_get S.nodes core.0) refl is
  by_actor m (Bank bank) is = tt
  by_actor m Keeper is = tt

  by_mail : (took : Option Mail) → ((m : Mail) → took ≡ Some m → IsExpected S m.to m.message) → Each P (handle_items S H took)
  by_mail None is = tt
  by_mail (Some m) is = by_actor m m.to (is m refl)

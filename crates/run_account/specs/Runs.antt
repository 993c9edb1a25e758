-- A run beside lists of sharers: its accesses, its messages, also by their kinds, and what is counted of its events.
use Rattle.std.specs.Prelude.{ℕ, Bool, true, false, ◌&&◌, ◌||◌, nat_le, nat_lt, List, [], ◌∷◌, ◌++◌, slice_get, Option, Some, None, option_map}
use Rattle.std.specs.List.{cons_option}
use Rattle.dn_base.specs.declared.ids.CoreId.{CoreId}
use Rattle.dn_base.specs.declared.ids.WordId.{WordId}
use Rattle.message_net.specs.declared.actor.Actor.{Actor}
use Rattle.message_net.specs.declared.actor.Actor.TheVariants.{Core, Bank, Keeper}
use Rattle.message_net.specs.declared.event.Event.{Event}
use Rattle.message_net.specs.declared.event.Event.TheVariants.{Instr, Handle}
use Rattle.message_net.specs.declared.event.EventKind.{EventKind}
use Rattle.message_net.specs.declared.event.EventKind as kind
use Rattle.message_net.specs.declared.message.Mail.{Mail}
use Rattle.message_net.specs.declared.message.Message.{Message}
use Rattle.message_net.specs.declared.message.Message.TheVariants.{ReadReq, ReadFwd, DataReply, RegReq, RegFwd, RegAck, WriteBack, WbAck, Acquire, Release, Grant, Arrived, Go, Halt}
use Rattle.message_net.specs.Kind.{kind_index, kind_of}
use Rattle.message_net.specs.Pool.{removed}
use Rattle.registration_protocol.specs.declared.node.NodeWait.{NodeWait}
use Rattle.registration_protocol.specs.declared.node.NodeWait.TheVariants as wait
use Rattle.registration_protocol.specs.Node.{NodeParts, Setting}
use Rattle.machine_rules.specs.State.{State}
use Rattle.machine_rules.specs.Next.{next}
use Rattle.machine_rules.specs.Actions.{Access}
use Rattle.machine_rules.specs.Accesses.{access_in}
use Rattle.run_account.specs.declared.item.Item.{Item}
use Rattle.run_account.specs.declared.item.Grouping.{Grouping}
use Rattle.run_account.specs.declared.measure.Measure.{Measure}
use Rattle.run_account.specs.Measure.{measure_index}
use Rattle.run_account.specs.declared.measure.Measure.TheVariants.{Messages, ReadReqs, ReadFwds, DataReplies, RegReqs, RegFwds, RegAcks, WriteBacks, WbAcks, Acquires, Releases, Grants, Arrivals, Gos, Halts, ListReplyValues}
use Rattle.run_account.specs.Items.{regions_from, groups_in, count_in, items_of_measure, sum_of_groups}
use Rattle.run_account.specs.Tallies.{Tallies, no_tallies, with_items}
use Rattle.run_account.specs.declared.access.AccessKind.{AccessKind}
use Rattle.run_account.specs.declared.access.AccessKind.TheVariants.{Load, Store}
use Rattle.run_account.specs.declared.access.CountedAccess.{CountedAccess}
use Rattle.run_account.specs.declared.cache.Line.{Line}
use Rattle.run_account.specs.declared.cache.Share.{Share}
use Rattle.run_account.specs.declared.cache.Share.TheVariants.{Shared, Owned}
use Rattle.run_account.specs.Lists.{SharerLists, no_lists, share_of, lists_after}
use Rattle.run_account.specs.Counts.{access_item, goes_for, access_items}

-- ---- accesses

-- an access that writes is a store
abbrev pub kind_by : Option ℕ → AccessKind
kind_by None = Load
kind_by (Some value) = Store

-- an access has waited if its word had to come
abbrev pub has_waited : NodeWait → Bool
has_waited (wait.Filled word) = true
has_waited _ = false

abbrev pub node_has_waited : Option NodeParts → Bool
node_has_waited None = false
node_has_waited (Some n) = has_waited n.waiting

abbrev pub waited_in : State → Event → Bool
waited_in S (Instr core) = node_has_waited (slice_get S.nodes core.0)
waited_in S _ = false

abbrev pub counted_access : Bool → Access → CountedAccess
counted_access waited a =
    record { core = record { 0 = a.core }; phase = record { 0 = a.phase }; word = record { 0 = a.word }; kind = kind_by a.written; waited = waited }

-- the access that an event retires
unfoldable pub counted_in : State → Event → Option CountedAccess
counted_in S e = option_map (counted_access (waited_in S e)) (access_in S e)

-- ---- messages of the run

-- the core that a message serves, and the word that it is about: the reader, the core that registers the word, or the one that writes
-- it back. The last messages of these go to that core
abbrev pub served_at : Actor → WordId → Option (CoreId × WordId)
served_at (Core core) word = Some (core, word)
served_at (Bank bank) word = None
served_at Keeper word = None

abbrev pub served : Actor → Message → Option (CoreId × WordId)
served to (ReadReq word reader) = Some (reader, word)
served to (ReadFwd word reader) = Some (reader, word)
served to (DataReply word value) = served_at to word
served to (RegReq word core) = Some (core, word)
served to (RegFwd word core) = Some (core, word)
served to (RegAck word) = served_at to word
served to (WriteBack word value core) = Some (core, word)
served to (WbAck word) = served_at to word
served to _ = None

-- a message counts for that core in its phase
abbrev pub node_item : CoreId → WordId → Option NodeParts → List Item
node_item core word None = []
node_item core word (Some n) = record { measure = Messages; phase = record { 0 = n.phase }; core = core; word = Some word } ∷ []

abbrev pub served_items : State → Option (CoreId × WordId) → List Item
served_items S None = []
served_items S (Some (core, word)) = node_item core word (slice_get S.nodes core.0)

abbrev pub served_mail_items : State → Option Mail → List Item
served_mail_items S None = []
served_mail_items S (Some m) = served_items S (served m.to m.message)

-- ---- messages by their kinds

-- the measure of the messages of a kind; a core's own event is no message
abbrev pub kind_measure : EventKind → Option Measure
kind_measure kind.TheVariants.Instr = None
kind_measure kind.TheVariants.Evict = None
kind_measure kind.TheVariants.Arrive = None
kind_measure kind.TheVariants.ReadReq = Some ReadReqs
kind_measure kind.TheVariants.ReadFwd = Some ReadFwds
kind_measure kind.TheVariants.DataReply = Some DataReplies
kind_measure kind.TheVariants.RegReq = Some RegReqs
kind_measure kind.TheVariants.RegFwd = Some RegFwds
kind_measure kind.TheVariants.RegAck = Some RegAcks
kind_measure kind.TheVariants.WriteBack = Some WriteBacks
kind_measure kind.TheVariants.WbAck = Some WbAcks
kind_measure kind.TheVariants.Acquire = Some Acquires
kind_measure kind.TheVariants.Release = Some Releases
kind_measure kind.TheVariants.Grant = Some Grants
kind_measure kind.TheVariants.Arrived = Some Arrivals
kind_measure kind.TheVariants.Go = Some Gos
kind_measure kind.TheVariants.Halt = Some Halts

-- the core that a message serves, and its word, if it is about one: a message about a lock serves the core that asks for it, gives it up or
-- gets it, and a message of the barrier the core that arrives or goes on
abbrev pub told_core : Actor → Option (CoreId × Option WordId)
told_core (Core core) = Some (core, None)
told_core (Bank bank) = None
told_core Keeper = None

abbrev pub about_its_word : CoreId × WordId → CoreId × Option WordId
about_its_word (core, word) = (core, Some word)

abbrev pub carried : Actor → Message → Option (CoreId × Option WordId)
carried to (Acquire lock core) = Some (core, None)
carried to (Release lock core signature) = Some (core, None)
carried to (Grant lock signature) = told_core to
carried to (Arrived core bad) = Some (core, None)
carried to (Go phase) = told_core to
carried to Halt = told_core to
carried to message = option_map about_its_word (served to message)

-- a message counts for that core in its phase
abbrev pub phase_in : Option NodeParts → ℕ
phase_in None = 0
phase_in (Some n) = n.phase

abbrev pub carried_items : State → Option (CoreId × Option WordId) → Option Measure → List Item
carried_items S None m = []
carried_items S (Some (core, word)) None = []
carried_items S (Some (core, word)) (Some m) =
    record { measure = m; phase = record { 0 = phase_in (slice_get S.nodes core.0) }; core = core; word = word } ∷ []

abbrev pub carried_mail_items : State → Option Mail → List Item
carried_mail_items S None = []
carried_mail_items S (Some m) = carried_items S (carried m.to m.message) (kind_measure (kind_of m.message))

-- ---- what is counted of an event, and the lists after it

-- with lists a reply brings the word's value to a core that has no copy of it
abbrev pub value_items : CountedAccess → Option Share → List Item
value_items a None = access_item a a.word ListReplyValues ∷ []
value_items a (Some held) = []

abbrev pub items_of : SharerLists → Option CountedAccess → List Item
items_of L None = []
items_of L (Some a) = value_items a (share_of L a.core.0 a.word.0) ++ access_items L a

abbrev pub lists_with : SharerLists → Option CountedAccess → SharerLists
lists_with L None = L
lists_with L (Some a) = lists_after L a

unfoldable pub event_items : State → SharerLists → Event → List Item
event_items S L (Handle id) = served_mail_items S (removed id S.mails).0 ++ carried_mail_items S (removed id S.mails).0
event_items S L (Instr core) = items_of L (counted_in S (Instr core))
event_items S L _ = []

abbrev pub next_lists : State → Event → SharerLists → SharerLists
next_lists S e L = lists_with L (counted_in S e)

-- ---- runs

-- the lists after the events of a list, and the items of these
abbrev pub lists_of_run : State → SharerLists → List Event → SharerLists
lists_of_run S L [] = L
lists_of_run S L (e ∷ es) = lists_of_run (next S e) (next_lists S e L) es

abbrev pub lists_in_run : State → List Event → SharerLists
lists_in_run S events = lists_of_run S (no_lists S.setting.shape) events

abbrev pub listed_from : State → SharerLists → List Event → List Item
listed_from S L [] = []
listed_from S L (e ∷ es) = event_items S L e ++ listed_from (next S e) (next_lists S e L) es

abbrev pub listed_of_run : State → List Event → List Item
listed_of_run S events = listed_from S (no_lists S.setting.shape) events

-- the number of a measure in a group of a run, and in the whole run; and the sum over all groups
abbrev pub number_with_lists : Grouping → Measure → ℕ → State → List Event → ℕ
number_with_lists by m group S events = count_in (regions_from 0 S.setting.program.regions) by m group (listed_of_run S events)

abbrev pub number_of_both : Measure → State → List Event → ℕ
number_of_both m S events = items_of_measure m (listed_of_run S events)

abbrev pub sum_beside : Grouping → Measure → State → List Event → ℕ
sum_beside by m S events =
    sum_of_groups (regions_from 0 S.setting.program.regions) by (groups_in S.setting.program S.setting.shape.cores by) m (listed_of_run S events)

-- ---- what the laws speak of

-- whether each item of a measure has a word: all but those of messages about locks and of the barrier
abbrev pub is_about_words : Measure → Bool
is_about_words m = nat_lt (measure_index m) 51 || nat_lt 56 (measure_index m)

-- the kinds of the mails by which words are read, registered and written back
abbrev pub is_about_word : EventKind → Bool
is_about_word kind = nat_le 3 (kind_index kind) && nat_le (kind_index kind) 10

-- the lines that go to make room
abbrev pub gone_by : SharerLists → Option CountedAccess → Option Line
gone_by L None = None
gone_by L (Some a) = goes_for L a (share_of L a.core.0 a.word.0)

abbrev pub gone_from : State → SharerLists → List Event → List Line
gone_from S L [] = []
gone_from S L (e ∷ es) = cons_option (gone_by L (counted_in S e)) (gone_from (next S e) (next_lists S e L) es)

abbrev pub gone_in_run : State → List Event → List Line
gone_in_run S events = gone_from S (no_lists S.setting.shape) events

abbrev pub is_share_shared : Share → Bool
is_share_shared Shared = true
is_share_shared Owned = false

abbrev pub is_shared_line : Line → Bool
is_shared_line line = is_share_shared line.share

-- ---- the count of the events so far: the table of the numbers, and the lists
pub record Listed : Type 0 where
  pub tallies : Tallies
  pub lists : SharerLists

abbrev pub nothing_listed : Setting → Grouping → Listed
nothing_listed C by = record { tallies = no_tallies C.program C.shape.cores by; lists = no_lists C.shape }

-- with these items
abbrev pub listing : Listed → List Item → Listed
listing A items = record A { tallies = with_items A.tallies items }

-- after an event that comes in a state, and after several
unfoldable pub listed_after : State → Event → Listed → Listed
listed_after S e A = record { tallies = with_items A.tallies (event_items S A.lists e); lists = next_lists S e A.lists }

abbrev pub count_of_run : State → Listed → List Event → Listed
count_of_run S A [] = A
count_of_run S A (e ∷ es) = count_of_run (next S e) (listed_after S e A) es

-- What is looked at before an event: all that the event may change of its actor.
use Rattle.std.specs.Prelude.{ℕ, zero, suc, ◌+◌, List, [], ◌∷◌, ◌++◌, length, map, slice_get, Option, Some, None}
use Rattle.std.specs.List.{filter}
use Rattle.dn_base.specs.declared.ids.BankId.{BankId}
use Rattle.dn_base.specs.declared.ids.CoreId.{CoreId}
use Rattle.dn_base.specs.declared.ids.LockId.{LockId}
use Rattle.dn_base.specs.declared.ids.WordId.{WordId}
use Rattle.rv_core.specs.declared.need.Need as need
use Rattle.rv_core.specs.declared.need.Need.{Need}
use Rattle.message_net.specs.declared.actor.Actor.{Actor}
use Rattle.message_net.specs.declared.actor.Actor.TheVariants as actor
use Rattle.message_net.specs.declared.event.Event.{Event}
use Rattle.message_net.specs.declared.event.Event.TheVariants.{Instr, Evict, Arrive, Handle}
use Rattle.message_net.specs.declared.message.Mail.{Mail}
use Rattle.message_net.specs.declared.message.Message.{Message}
use Rattle.message_net.specs.declared.message.Message.TheVariants as message
use Rattle.message_net.specs.Pool.{removed}
use Rattle.word_cache.specs.Cache.{Cache, Pair, in_set}
use Rattle.queue_lock.specs.Lock.{Lock}
use Rattle.registry_bank.specs.Bank.{BankParts, bank_word, bank_lock}
use Rattle.registration_protocol.specs.Node.{NodeParts, Setting, need_now, entry_of}
use Rattle.machine_rules.specs.State.{State}
use Rattle.run_changes.specs.declared.look.EntryBefore.{EntryBefore}
use Rattle.run_changes.specs.declared.look.NodeLook.{NodeLook}
use Rattle.run_changes.specs.declared.look.Look.{Look}
use Rattle.run_changes.specs.declared.look.Look.TheVariants.{Nothing, Node, Word, Keeper}
use Rattle.run_changes.specs.declared.look.Look.TheVariants.{Lock as LockAt}

-- ---- words

-- a word with the entry that a node has of it
abbrev pub entry_before : NodeParts → WordId → EntryBefore
entry_before n word = record { word = word; entry = entry_of n word.0 }

abbrev pub pair_before : Pair → EntryBefore
pair_before p = record { word = p.0; entry = Some p.1 }

-- the words of `count` sets of a cache from one on: set by set, in each the least recently used first
abbrev pub cached_from : Cache → ℕ → ℕ → List EntryBefore
cached_from c set zero = []
cached_from c set (suc n) = map pair_before (filter (in_set c.sets set) c.pairs) ++ cached_from c (set + 1) n

-- every word that a cache has
abbrev pub cached : Cache → List EntryBefore
cached c = cached_from c 0 c.sets

-- ---- cores

-- the word that an instruction accesses
abbrev pub words_needed : NodeParts → Option Need → List EntryBefore
words_needed n (Some (need.TheVariants.Load word)) = entry_before n word ∷ []
words_needed n (Some (need.TheVariants.Store word whole)) = entry_before n word ∷ []
words_needed n _ = []

-- the words whose entries a message may change: a Grant and a Go may drop any copy
abbrev pub words_of_message : NodeParts → Message → List EntryBefore
words_of_message n (message.DataReply word value) = entry_before n word ∷ []
words_of_message n (message.RegAck word) = entry_before n word ∷ []
words_of_message n (message.RegFwd word core) = entry_before n word ∷ []
words_of_message n (message.WbAck word) = entry_before n word ∷ []
words_of_message n (message.Grant lock signature) = cached n.cache
words_of_message n (message.Go phase) = cached n.cache
words_of_message n _ = []

-- a node, of which the entries of these words are looked at
abbrev pub node_look : NodeParts → Option Need → List EntryBefore → NodeLook
node_look n needs entries =
    record {
      phase = record { 0 = n.phase };
      task = n.task;
      needs = needs;
      wait = n.waiting;
      signatures = n.signatures;
      arrived = n.arrived;
      halted = n.halted;
      entries = entries;
    }

abbrev pub instr_look : Setting → NodeParts → NodeLook
instr_look C n = node_look n (need_now C n) (words_needed n (need_now C n))

abbrev pub evict_look : WordId → NodeParts → NodeLook
evict_look word n = node_look n None (entry_before n word ∷ [])

abbrev pub arrive_look : NodeParts → NodeLook
arrive_look n = node_look n None []

abbrev pub message_look : Message → NodeParts → NodeLook
message_look m n = node_look n None (words_of_message n m)

-- what is looked at of a core, if it exists
abbrev pub core_look : CoreId → (NodeParts → NodeLook) → Option NodeParts → Look
core_look core look None = Nothing
core_look core look (Some n) = Node core (look n)

-- ---- banks

abbrev pub lock_look : BankId → LockId → Option Lock → Look
lock_look bank lock None = Nothing
lock_look bank lock (Some h) = LockAt bank lock (record { holder = h.holder; waiting = length h.queue; kept = h.kept })

-- the word or the lock that a message may change at its home
abbrev pub bank_look : BankId → Message → Option BankParts → Look
bank_look bank m None = Nothing
bank_look bank (message.RegReq word core) (Some b) = Word bank word (bank_word b word.0)
bank_look bank (message.WriteBack word value core) (Some b) = Word bank word (bank_word b word.0)
bank_look bank (message.Acquire lock core) (Some b) = lock_look bank lock (bank_lock b lock.0)
bank_look bank (message.Release lock core signature) (Some b) = lock_look bank lock (bank_lock b lock.0)
bank_look bank _ (Some b) = Nothing

-- ---- events

abbrev pub receiver_look : State → Actor → Message → Look
receiver_look S (actor.Core core) m = core_look core (message_look m) (slice_get S.nodes core.0)
receiver_look S (actor.Bank bank) m = bank_look bank m (slice_get S.banks bank.0)
receiver_look S actor.Keeper m = Keeper

abbrev pub mail_look : State → Option Mail → Look
mail_look S None = Nothing
mail_look S (Some m) = receiver_look S m.to m.message

-- what is looked at before an event
unfoldable pub look_at : State → Event → Look
look_at S (Instr core) = core_look core (instr_look S.setting) (slice_get S.nodes core.0)
look_at S (Evict core word) = core_look core (evict_look word) (slice_get S.nodes core.0)
look_at S (Arrive core) = core_look core arrive_look (slice_get S.nodes core.0)
look_at S (Handle id) = mail_look S (removed id S.mails).0

-- Each item of a run beside lists has a core, a phase and a word of the machine; and each mail about a word counts once.
use Rattle.std.proofs.Common.{◌≡◌, inl, inr, ℕ, zero, suc, ◌+◌, ◌<◌, Bool, true, false, cond, length, slice_get, List, [], ◌∷◌, ◌++◌, flat_map, Option, Some, None, refl, sym, ap, subst, ◌∙◌, arith}
use Rattle.std.specs.Prelude.{◌&&◌, ◌==◌, not}
use Rattle.std.specs.Option.{is_some}
use Rattle.std.proofs.lemmas.Bool.Decides.{nat_tests}
use Rattle.std.specs.List.{enumerate_from}
use Rattle.std.proofs.lemmas.Option.{slice_get_within}
use Rattle.dn_base.specs.declared.ids.CoreId.{CoreId}
use Rattle.dn_base.specs.declared.ids.LoadSeen.{LoadSeen}
use Rattle.dn_base.specs.declared.ids.WordId.{WordId}
use Rattle.message_net.specs.declared.actor.Actor.{Actor}
use Rattle.message_net.specs.declared.actor.Actor.TheVariants.{Core, Bank, Keeper}
use Rattle.message_net.specs.declared.actor.MailId.{MailId}
use Rattle.message_net.specs.declared.event.Event.{Event}
use Rattle.message_net.specs.declared.event.Event.TheVariants.{Instr, Evict, Arrive, Handle}
use Rattle.message_net.specs.declared.message.Mail.{Mail}
use Rattle.message_net.specs.declared.message.Message as message
use Rattle.message_net.specs.declared.message.Message.{Message}
use Rattle.message_net.specs.Kind.{kind_of}
use Rattle.message_net.specs.Pool.{removed}
use Rattle.word_cache.specs.declared.row.Entry.{Entry}
use Rattle.registration_protocol.specs.declared.node.NodeWait as wait
use Rattle.registration_protocol.specs.declared.node.NodeWait.{NodeWait}
use Rattle.registration_protocol.specs.Node.{NodeParts, Setting}
use Rattle.registration_protocol.specs.OwnEvents.{instructed, written_now}
use Rattle.machine_rules.specs.State.{State, initial_state, entry_at, entry_in}
use Rattle.machine_rules.specs.Next.{next, enabled}
use Rattle.machine_rules.specs.Runs.{IsRun}
use Rattle.machine_rules.specs.Sound.{IsReady, IsSound}
use Rattle.machine_rules.specs.Coherent.{Coherent, IsExpected, waits_for}
use Rattle.machine_rules.specs.Accesses.{access_in}
use Rattle.machine_rules.proofs.RunsKept.{run-setting}
use Rattle.machine_rules.proofs.RunsCoherent.{run-coherent}
use Rattle.machine_rules.proofs.SoundEvents.{sound-next}
use Rattle.machine_rules.proofs.AnySize.{well-formed}
use Rattle.machine_rules.proofs.OpenedSound.{opened-sound}
use Rattle.machine_rules.proofs.OpenedFacts.{opened-setting}
use Rattle.machine_rules.proofs.NoPhases.{no-phases-run}
use Rattle.run_account.specs.declared.item.Item.{Item}
use Rattle.run_account.specs.declared.item.Grouping.{Grouping}
use Rattle.run_account.specs.declared.item.Grouping.TheVariants as by
use Rattle.run_account.specs.declared.measure.Measure.{Measure}
use Rattle.run_account.specs.declared.measure.Measure.TheVariants as measure
use Rattle.run_account.specs.Events.{item_if}
use Rattle.run_account.specs.Items.{regions_from, groups_in, sum_of_groups, IsGrouped}
use Rattle.run_account.specs.Kinds.{StaysCoherent}
use Rattle.run_account.proofs.Belongs.{Each, each-append}
use Rattle.run_account.proofs.Known.{IsWord, IsWaited, IsSeen, KnowsWords, AllNodes, entry-word, instr-about, stored-word}
use Rattle.run_account.proofs.Staying.{IsPhased, next-kept, phases-stay, opened-phased, words-stay, opened-known}
use Rattle.run_account.proofs.Grouped.{IsGroupedFor, measured-sum}
use Rattle.run_account.proofs.Told.{was-there}
use Rattle.run_account.proofs.Words.{word-lies}
use Rattle.run_account.specs.declared.access.CountedAccess.{CountedAccess}
use Rattle.run_account.specs.declared.cache.Line.{Line}
use Rattle.run_account.specs.declared.cache.Share.{Share}
use Rattle.run_account.specs.Caches.{SharerCache, share_at}
use Rattle.run_account.specs.Lists.{SharerLists, no_lists, share_of, is_hit, with_place}
use Rattle.run_account.specs.Counts.{asks, tells, puts, access_item, messages_items, goes_for, gone_items, told_items, others_items, missed_items, waits_here, waits_listed, waits_items, items_by, access_items}
use Rattle.run_account.specs.Measure.{measure_index, same_measure}
use Rattle.run_account.specs.Runs.{counted_in, served, served_items, node_item, served_mail_items, kind_measure, carried, carried_items, carried_mail_items, value_items, is_about_words, items_of, lists_with, event_items, next_lists, listed_from, listed_of_run, number_of_both, sum_beside}
use Rattle.run_account.proofs.ListAfter.{no_core}
use Rattle.run_account.proofs.Retires.{of_parts, counted-parts}
use Rattle.run_account.proofs.Sets.{AllSets, AreBelow, gone-below, below-after, sets-first}

-- ---- an item of the machine

abbrev IsItsWord : Setting → Option WordId → Type 0
IsItsWord C None = ⊥
IsItsWord C (Some word) = IsWord C word

record IsPlaced (C : Setting) (item : Item) : Type 0 where
  phase : item.phase.0 < length C.program.phases
  core : item.core.0 < C.shape.cores
  word : IsItsWord C item.word

-- an item that counts for a measure of words is
abbrev IsPlacedIf : Setting → Item → Type 0
IsPlacedIf C item = is_about_words item.measure ≡ true → IsPlaced C item

record IsPlacedAccess (C : Setting) (a : CountedAccess) : Type 0 where
  phase : a.phase.0 < length C.program.phases
  core : a.core.0 < C.shape.cores
  word : a.word.0 < length C.program.memory

-- ---- the items of an access

each-maps : (P Q : Item → Type 0) → ((item : Item) → P item → Q item) → (items : List Item) → Each P items → Each Q items
each-maps P Q f [] each = tt
each-maps P Q f (item ∷ items) each = (f item each.0, each-maps P Q f items each.1)

module _ (C : Setting) (L : SharerLists) (a : CountedAccess) (placed : IsPlacedAccess C a) (below : AllSets (AreBelow (length C.program.memory)) L) where
  abbrev P : Item → Type 0
  P = IsPlaced C

  item-placed : (word : WordId) (m : Measure) → IsWord C word → P (access_item a word m)
  item-placed word m within = record { phase = placed.phase; core = placed.core; word = within }

  each-if : (test : Bool) (m : Measure) → Each P (item_if test (access_item a a.word m))
  each-if true m = (item-placed a.word m placed.word, tt)
  each-if false m = tt

  each-message : (word : WordId) (kinds : List Measure) → IsWord C word → Each P (messages_items a word kinds)
  each-message word [] within = tt
  each-message word (kind ∷ kinds) within = (item-placed word measure.ListMessages within, (item-placed word kind within, each-message word kinds within))

  each-gone : (line : Option Line) → ((l : Line) → line ≡ Some l → IsWord C l.word) → Each P (gone_items a line)
  each-gone None within = tt
  each-gone (Some line) within = each-message line.word (puts line.share) (within line refl)

  each-told : (c : ℕ) (cache : SharerCache) → Each P (told_items a (c, cache))
  each-told c cache = by_core (c == a.core.0) where
    by_core : (t : Bool) → Each P (cond t [] (messages_items a a.word (tells a.kind (share_at cache a.word.0))))
    by_core true = tt
    by_core false = each-message a.word (tells a.kind (share_at cache a.word.0)) placed.word

  each-other : (ps : List (ℕ × SharerCache)) → Each P (flat_map (told_items a) ps)
  each-other [] = tt
  each-other ((c, cache) ∷ ps) = each-append P (told_items a (c, cache)) (flat_map (told_items a) ps) (each-told c cache) (each-other ps)

  each-missed : (had : Option Share) → Each P (missed_items L a had)
  each-missed had =
      each-append P (gone_items a (goes_for L a had) ++ messages_items a a.word (asks a.kind)) (others_items (with_place L a had) a)
      (each-append P (gone_items a (goes_for L a had)) (messages_items a a.word (asks a.kind))
      (each-gone (goes_for L a had) (λ line e. gone-below (length C.program.memory) L a had line below e)) (each-message a.word (asks a.kind) placed.word))
      (each-other (enumerate_from 0 (with_place L a had).caches))

  each-wait : (hit : Bool) → Each P (waits_items a hit)
  each-wait hit =
      each-append P (item_if a.waited (access_item a a.word (waits_here a.kind)) ++ item_if (not hit) (access_item a a.word (waits_listed a.kind)) ++ item_if (a.waited && hit) (access_item a a.word measure.WaitsHereAlone))
      (item_if (not a.waited && not hit) (access_item a a.word measure.WaitsListAlone))
      (each-append P (item_if a.waited (access_item a a.word (waits_here a.kind)) ++ item_if (not hit) (access_item a a.word (waits_listed a.kind))) (item_if (a.waited && hit) (access_item a a.word measure.WaitsHereAlone))
      (each-append P (item_if a.waited (access_item a a.word (waits_here a.kind))) (item_if (not hit) (access_item a a.word (waits_listed a.kind))) (each-if a.waited (waits_here a.kind)) (each-if (not hit) (waits_listed a.kind)))
      (each-if (a.waited && hit) measure.WaitsHereAlone))
      (each-if (not a.waited && not hit) measure.WaitsListAlone)

  each-access : Each P (access_items L a)
  unfolding access_items
  each-access = by_share (share_of L a.core.0 a.word.0) where
    by_share : (had : Option Share) → Each P (items_by L a had)
    by_share had = each-append P (waits_items a (is_hit a.kind had)) (cond (is_hit a.kind had) [] (missed_items L a had)) (each-wait (is_hit a.kind had)) (by_hit (is_hit a.kind had)) where
      by_hit : (t : Bool) → Each P (cond t [] (missed_items L a had))
      by_hit true = tt
      by_hit false = each-missed had

-- ---- the access of an instruction

module _ (S : State) (core : CoreId) (n : NodeParts) (there : slice_get S.nodes core.0 ≡ Some n) where
  record IsOfNode (a : CountedAccess) : Type 0 where
    its_core : a.core.0 ≡ core.0
    its_phase : a.phase.0 ≡ n.phase
    its_word : IsWord S.setting a.word

  of-some : (b a : CountedAccess) → IsOfNode b → Some b ≡ Some a → IsOfNode a
  of-some b a is e = subst IsOfNode (one e) is where
    one : Some b ≡ Some a → b ≡ a
    one e = cc

  parts-of : (seen : Option LoadSeen) (store : Option (WordId × ℕ)) → IsSeen S.setting seen → ((word : WordId) (value : ℕ) → store ≡ Some (word, value) → IsWord S.setting word)
      → (a : CountedAccess) → of_parts S core n seen store ≡ Some a → IsOfNode a
  parts-of (Some seen) store is stores a e = of-some _ a (record { its_core = refl; its_phase = refl; its_word = is }) e
  parts-of None (Some (word, value)) is stores a e = of-some _ a (record { its_core = refl; its_phase = refl; its_word = stores word value refl }) e
  parts-of None None is stores a e = absurd (cc)

  access-of : KnowsWords S.setting n → (a : CountedAccess) → counted_in S (Instr core) ≡ Some a → IsOfNode a
  access-of knows a e =
      parts-of (instructed S.setting n).1.seen (written_now S.setting n) (instr-about S.setting n knows).seen (λ word value is. stored-word S.setting n word value is) a
      (sym (counted-parts S core n there) ∙ e)

-- ---- the core that a mail serves

abbrev pub IsServed : State → Option (CoreId × WordId) → Type 0
IsServed S None = Unit {0}
IsServed S (Some (core, word)) = (n : NodeParts) × (slice_get S.nodes core.0 ≡ Some n) × IsWord S.setting word

module _ (S : State) (known : AllNodes KnowsWords S) where
  -- a core that has an entry of the word, and one that waits for it
  by-entry : (core : CoreId) (word : WordId) (e : Entry) → entry_at S core.0 word.0 ≡ Some e → IsServed S (Some (core, word))
  by-entry core word e has = by_node (slice_get S.nodes core.0) refl has where
    by_node : (there : Option NodeParts) → slice_get S.nodes core.0 ≡ there → entry_in word.0 there ≡ Some e → IsServed S (Some (core, word))
    by_node None found is = absurd (cc)
    by_node (Some n) found is = (n, found, entry-word S.setting n word.0 (known core.0 n found) (ap is_some is))

  by-wait : (core : CoreId) (word : WordId) → waits_for S core.0 (wait.TheVariants.Reading word) → IsServed S (Some (core, word))
  by-wait core word (n, found, waits) = (n, found, subst (λ (w : NodeWait). IsWaited S.setting w) waits (known core.0 n found).waiting)

  pub served-by : (to : Actor) (m : Message) → IsExpected S to m → IsServed S (served to m)
  served-by (Bank bank) (message.TheVariants.RegReq word core) is = by-entry core word _ is.1.1
  served-by (Bank bank) (message.TheVariants.WriteBack word value core) is = by-entry core word _ is.1
  served-by (Bank bank) (message.TheVariants.ReadReq word reader) is = by-wait reader word is.1
  served-by (Bank bank) (message.TheVariants.Acquire lock core) is = tt
  served-by (Bank bank) (message.TheVariants.Release lock core signature) is = tt
  served-by (Bank bank) (message.TheVariants.ReadFwd word reader) is = absurd is
  served-by (Bank bank) (message.TheVariants.DataReply word value) is = absurd is
  served-by (Bank bank) (message.TheVariants.RegFwd word core) is = absurd is
  served-by (Bank bank) (message.TheVariants.RegAck word) is = absurd is
  served-by (Bank bank) (message.TheVariants.WbAck word) is = absurd is
  served-by (Bank bank) (message.TheVariants.Grant lock signature) is = absurd is
  served-by (Bank bank) (message.TheVariants.Arrived core bad) is = absurd is
  served-by (Bank bank) (message.TheVariants.Go phase) is = absurd is
  served-by (Bank bank) message.TheVariants.Halt is = absurd is
  served-by (Core core) (message.TheVariants.RegFwd word other) is = by-entry other word _ is.1
  served-by (Core core) (message.TheVariants.RegAck word) is = by-entry core word _ is.1
  served-by (Core core) (message.TheVariants.WbAck word) is = by-entry core word _ is.1
  served-by (Core core) (message.TheVariants.ReadFwd word reader) is = by-wait reader word is
  served-by (Core core) (message.TheVariants.DataReply word value) is = by-wait core word is
  served-by (Core core) (message.TheVariants.Grant lock signature) is = tt
  served-by (Core core) (message.TheVariants.Go phase) is = tt
  served-by (Core core) message.TheVariants.Halt is = tt
  served-by (Core core) (message.TheVariants.ReadReq word reader) is = absurd is
  served-by (Core core) (message.TheVariants.RegReq word other) is = absurd is
  served-by (Core core) (message.TheVariants.WriteBack word value other) is = absurd is
  served-by (Core core) (message.TheVariants.Acquire lock other) is = absurd is
  served-by (Core core) (message.TheVariants.Release lock other signature) is = absurd is
  served-by (Core core) (message.TheVariants.Arrived other bad) is = absurd is
  served-by Keeper (message.TheVariants.Arrived core bad) is = tt
  served-by Keeper (message.TheVariants.ReadReq word reader) is = absurd is
  served-by Keeper (message.TheVariants.ReadFwd word reader) is = absurd is
  served-by Keeper (message.TheVariants.DataReply word value) is = absurd is
  served-by Keeper (message.TheVariants.RegReq word core) is = absurd is
  served-by Keeper (message.TheVariants.RegFwd word core) is = absurd is
  served-by Keeper (message.TheVariants.RegAck word) is = absurd is
  served-by Keeper (message.TheVariants.WriteBack word value core) is = absurd is
  served-by Keeper (message.TheVariants.WbAck word) is = absurd is
  served-by Keeper (message.TheVariants.Acquire lock core) is = absurd is
  served-by Keeper (message.TheVariants.Release lock core signature) is = absurd is
  served-by Keeper (message.TheVariants.Grant lock signature) is = absurd is
  served-by Keeper (message.TheVariants.Go phase) is = absurd is
  served-by Keeper message.TheVariants.Halt is = absurd is

-- ---- the items of an event

-- an event that retires no access
none-kept : (words : ℕ) (S : State) (L : SharerLists) (e : Event) → counted_in S e ≡ None → AllSets (AreBelow words) L → AllSets (AreBelow words) (next_lists S e L)
none-kept words S L e none below = subst (λ (o : Option CountedAccess). AllSets (AreBelow words) (lists_with L o)) (sym none) below

no-evict : (S : State) (core : CoreId) (word : WordId) → counted_in S (Evict core word) ≡ None
unfolding counted_in access_in
no-evict S core word = refl

no-arrive : (S : State) (core : CoreId) → counted_in S (Arrive core) ≡ None
unfolding counted_in access_in
no-arrive S core = refl

no-handle : (S : State) (id : MailId) → counted_in S (Handle id) ≡ None
unfolding counted_in access_in
no-handle S id = refl

record IsGood (C : Setting) (S : State) : Type 0 where
  setting : S.setting ≡ C
  sound : (made : ℕ) × IsSound S made
  phased : AllNodes IsPhased S
  known : AllNodes KnowsWords S

module _ (C : Setting) (S : State) (good : IsGood C S) where
  node-within : (c : ℕ) (n : NodeParts) → slice_get S.nodes c ≡ Some n → c < C.shape.cores
  node-within c n found =
      subst (λ (D : Setting). c < D.shape.cores) good.setting (subst (λ (k : ℕ). c < k) good.sound.1.machine.nodes (slice_get_within S.nodes c n found))

  phase-within : (c : ℕ) (n : NodeParts) → slice_get S.nodes c ≡ Some n → n.phase < length C.program.phases
  phase-within c n found = subst (λ (D : Setting). n.phase < length D.program.phases) good.setting (good.phased c n found)

  word-within : (word : WordId) → IsWord S.setting word → IsWord C word
  word-within word within = subst (λ (D : Setting). IsWord D word) good.setting within

  placed-access : (core : CoreId) (a : CountedAccess) → counted_in S (Instr core) ≡ Some a → IsPlacedAccess C a
  placed-access core a e = by_node (slice_get S.nodes core.0) refl where
    by_node : (there : Option NodeParts) → slice_get S.nodes core.0 ≡ there → IsPlacedAccess C a
    by_node None found = absurd (let none = no_core S core found in cc)
    by_node (Some n) found =
        let is = access-of S core n found (good.known core.0 n found) a e in
        record {
          phase = subst (λ (k : ℕ). k < length C.program.phases) (sym is.its_phase) (phase-within core.0 n found);
          core = subst (λ (k : ℕ). k < C.shape.cores) (sym is.its_core) (node-within core.0 n found);
          word = word-within a.word is.its_word;
        }

  each-served : (o : Option (CoreId × WordId)) → IsServed S o → Each (IsPlacedIf C) (served_items S o)
  each-served None is = tt
  each-served (Some (core, word)) (n, found, within) =
      subst (λ (there : Option NodeParts). Each (IsPlacedIf C) (node_item core word there)) (sym found)
      ((λ about. record { phase = phase-within core.0 n found; core = node-within core.0 n found; word = word-within word within }), tt)

  -- a message about a word counts for its kind
  one-carried : (core : CoreId) (word : WordId) → IsServed S (Some (core, word)) → (k : Measure) → Each (IsPlacedIf C) (carried_items S (Some (core, Some word)) (Some k))
  one-carried core word (n, found, within) k =
      ((λ about. record { phase = rw found (phase-within core.0 n found); core = node-within core.0 n found; word = word-within word within }), tt)

  -- another counts for no measure of words
  each-carried : (to : Actor) (m : Message) → IsExpected S to m → Each (IsPlacedIf C) (carried_items S (carried to m) (kind_measure (kind_of m)))
  each-carried to (message.TheVariants.ReadReq word reader) is = one-carried reader word (served-by S good.known to (message.TheVariants.ReadReq word reader) is) measure.ReadReqs
  each-carried to (message.TheVariants.ReadFwd word reader) is = one-carried reader word (served-by S good.known to (message.TheVariants.ReadFwd word reader) is) measure.ReadFwds
  each-carried to (message.TheVariants.RegReq word core) is = one-carried core word (served-by S good.known to (message.TheVariants.RegReq word core) is) measure.RegReqs
  each-carried to (message.TheVariants.RegFwd word core) is = one-carried core word (served-by S good.known to (message.TheVariants.RegFwd word core) is) measure.RegFwds
  each-carried to (message.TheVariants.WriteBack word value core) is = one-carried core word (served-by S good.known to (message.TheVariants.WriteBack word value core) is) measure.WriteBacks
  each-carried (Core core) (message.TheVariants.DataReply word value) is = one-carried core word (served-by S good.known (Core core) (message.TheVariants.DataReply word value) is) measure.DataReplies
  each-carried (Bank bank) (message.TheVariants.DataReply word value) is = absurd is
  each-carried Keeper (message.TheVariants.DataReply word value) is = absurd is
  each-carried (Core core) (message.TheVariants.RegAck word) is = one-carried core word (served-by S good.known (Core core) (message.TheVariants.RegAck word) is) measure.RegAcks
  each-carried (Bank bank) (message.TheVariants.RegAck word) is = absurd is
  each-carried Keeper (message.TheVariants.RegAck word) is = absurd is
  each-carried (Core core) (message.TheVariants.WbAck word) is = one-carried core word (served-by S good.known (Core core) (message.TheVariants.WbAck word) is) measure.WbAcks
  each-carried (Bank bank) (message.TheVariants.WbAck word) is = absurd is
  each-carried Keeper (message.TheVariants.WbAck word) is = absurd is
  each-carried to (message.TheVariants.Acquire lock core) is = ((λ about. absurd (cc)), tt)
  each-carried to (message.TheVariants.Release lock core signature) is = ((λ about. absurd (cc)), tt)
  each-carried to (message.TheVariants.Arrived core bad) is = ((λ about. absurd (cc)), tt)
  each-carried (Core core) (message.TheVariants.Grant lock signature) is = ((λ about. absurd (cc)), tt)
  each-carried (Bank bank) (message.TheVariants.Grant lock signature) is = absurd is
  each-carried Keeper (message.TheVariants.Grant lock signature) is = absurd is
  each-carried (Core core) (message.TheVariants.Go phase) is = ((λ about. absurd (cc)), tt)
  each-carried (Bank bank) (message.TheVariants.Go phase) is = absurd is
  each-carried Keeper (message.TheVariants.Go phase) is = absurd is
  each-carried (Core core) message.TheVariants.Halt is = ((λ about. absurd (cc)), tt)
  each-carried (Bank bank) message.TheVariants.Halt is = absurd is
  each-carried Keeper message.TheVariants.Halt is = absurd is

  each-valued : (core : CoreId) (a : CountedAccess) (had : Option Share) → IsPlacedAccess C a → Each (IsPlacedIf C) (value_items a had)
  each-valued core a None placed = ((λ about. record { phase = placed.phase; core = placed.core; word = placed.word }), tt)
  each-valued core a (Some held) placed = tt

  each-listed : (L : SharerLists) (e : Event) → Coherent S → AllSets (AreBelow (length C.program.memory)) L → Each (IsPlacedIf C) (event_items S L e)
  unfolding event_items
  each-listed L (Instr core) coherent below = by_access (counted_in S (Instr core)) refl where
    by_access : (o : Option CountedAccess) → counted_in S (Instr core) ≡ o → Each (IsPlacedIf C) (items_of L o)
    by_access None e = tt
    by_access (Some a) e =
        each-append (IsPlacedIf C) (value_items a (share_of L a.core.0 a.word.0)) (access_items L a)
        (each-valued core a (share_of L a.core.0 a.word.0) (placed-access core a e))
        (each-maps (IsPlaced C) (IsPlacedIf C) (λ item placed about. placed) (access_items L a) (each-access C L a (placed-access core a e) below))
  each-listed L (Evict core word) coherent below = tt
  each-listed L (Arrive core) coherent below = tt
  each-listed L (Handle id) coherent below = by_mail (removed id S.mails).0 (λ m e. coherent.expected m (was-there S id m e)) where
    by_mail : (took : Option Mail) → ((m : Mail) → took ≡ Some m → IsExpected S m.to m.message) → Each (IsPlacedIf C) (served_mail_items S took ++ carried_mail_items S took)
    by_mail None is = tt
    by_mail (Some m) is =
        each-append (IsPlacedIf C) (served_mail_items S (Some m)) (carried_mail_items S (Some m))
        (each-served (served m.to m.message) (served-by S good.known m.to m.message (is m refl))) (each-carried m.to m.message (is m refl))

  -- and the lists after it
  below-next : (L : SharerLists) (e : Event) → AllSets (AreBelow (length C.program.memory)) L → AllSets (AreBelow (length C.program.memory)) (next_lists S e L)
  below-next L (Instr core) below = by_access (counted_in S (Instr core)) refl where
    by_access : (o : Option CountedAccess) → counted_in S (Instr core) ≡ o → AllSets (AreBelow (length C.program.memory)) (lists_with L o)
    by_access None e = below
    by_access (Some a) e = below-after (length C.program.memory) L a (placed-access core a e).word below
  below-next L (Evict core word) below = none-kept (length C.program.memory) S L (Evict core word) (no-evict S core word) below
  below-next L (Arrive core) below = none-kept (length C.program.memory) S L (Arrive core) (no-arrive S core) below
  below-next L (Handle id) below = none-kept (length C.program.memory) S L (Handle id) (no-handle S id) below

-- ---- a run

good-next : (C : Setting) (S : State) (e : Event) → IsGood C S → enabled S e ≡ true → IsGood C (next S e)
good-next C S e good may =
    record {
      setting = run-setting S (e ∷ []) ∙ good.setting;
      sound = (good.sound.0 + 1, sound-next S good.sound.0 e good.sound.1 may);
      phased = next-kept IsPhased phases-stay S e may good.phased;
      known = next-kept KnowsWords words-stay S e may good.known;
    }

each-run : (C : Setting) (events : List Event) (S : State) (L : SharerLists) → IsGood C S → StaysCoherent S → IsRun S events → AllSets (AreBelow (length C.program.memory)) L
    → Each (IsPlacedIf C) (listed_from S L events)
each-run C [] S L good coherent run below = tt
each-run C (e ∷ es) S L good coherent run below =
    each-append (IsPlacedIf C) (event_items S L e) (listed_from (next S e) (next_lists S e L) es) (each-listed C S good L e (coherent [] tt) below)
    (each-run C es (next S e) (next_lists S e L) (good-next C S e good run.0) (λ more runs. coherent (e ∷ more) (run.0, runs)) run.1 (below-next C S good L e below))

module _ (C : Setting) (ready : IsReady C) where
  abbrev regions : List ℕ
  regions = regions_from 0 C.program.regions

  -- the group of an item
  grouped : (by : Grouping) (item : Item) → IsPlaced C item → IsGrouped regions by (groups_in C.program C.shape.cores by) item
  grouped by.Run item placed = (0, refl, omega arith)
  grouped by.Phase item placed = (item.phase.0, refl, placed.phase)
  grouped by.Core item placed = (item.core.0, refl, placed.core)
  grouped by.Region item placed = by_word item.word refl placed.word where
    by_word : (o : Option WordId) → item.word ≡ o → IsItsWord C o → IsGrouped regions by.Region (length C.program.regions) item
    by_word None e within = absurd within
    by_word (Some word) e within =
        let region = word-lies C.program.regions (length C.program.memory) word.0 ready.program.tiled within in
        (region.number, rw e region.group, slice_get_within C.program.regions region.number region.region region.there)

  good-first : 0 < length C.program.phases → IsGood C (initial_state C)
  good-first some =
      record {
        setting = opened-setting C;
        sound = (0, opened-sound C (well-formed C ready));
        phased = opened-phased C some;
        known = opened-known C;
      }

  each-placed : (events : List Event) → IsRun (initial_state C) events → (count : ℕ) → length C.program.phases ≡ count → Each (IsPlacedIf C) (listed_of_run (initial_state C) events)
  each-placed events run zero none =
      subst (λ (es : List Event). Each (IsPlacedIf C) (listed_of_run (initial_state C) es)) (sym (no-phases-run C events none run)) tt
  each-placed events run (suc k) some =
      each-run C events (initial_state C) (no_lists (initial_state C).setting.shape) (good-first (omega (arith, some))) (λ more runs. run-coherent C more ready runs) run
      (sets-first (AreBelow (length C.program.memory)) (initial_state C).setting.shape tt)

  -- an item of a measure of words is in a group
  grouped-for : (by : Grouping) (m : Measure) → is_about_words m ≡ true → (item : Item) → IsPlacedIf C item → IsGroupedFor regions by (groups_in C.program C.shape.cores by) m item
  grouped-for by m about item placed = by_test (same_measure m item.measure) refl where
    by_test : (t : Bool) → same_measure m item.measure ≡ t → IsGroupedFor regions by (groups_in C.program C.shape.cores by) m item
    by_test true e =
        let same : measure_index m ≡ measure_index item.measure = grind (arith, nat_tests, e) in
        inl (grouped by item (placed (rw (sym same) about)))
    by_test false e = inr e

  pub sums-of : (events : List Event) (by : Grouping) (m : Measure) → is_about_words m ≡ true → IsRun (initial_state C) events
      → sum_beside by m (initial_state C) events ≡ number_of_both m (initial_state C) events
  sums-of events by m about run =
      subst (λ (D : Setting). sum_of_groups (regions_from 0 D.program.regions) by (groups_in D.program D.shape.cores by) m (listed_of_run (initial_state C) events) ≡ number_of_both m (initial_state C) events)
      (sym (opened-setting C))
      (measured-sum regions by (groups_in C.program C.shape.cores by) m (listed_of_run (initial_state C) events)
      (each-maps (IsPlacedIf C) (IsGroupedFor regions by (groups_in C.program C.shape.cores by) m) (grouped-for by m about) (listed_of_run (initial_state C) events)
      (each-placed events run (length C.program.phases) refl)))

pub groups-add-up : (C : Setting) (events : List Event) (by : Grouping) (m : Measure) → is_about_words m ≡ true → IsReady C → IsRun (initial_state C) events
    → sum_beside by m (initial_state C) events ≡ number_of_both m (initial_state C) events
groups-add-up C events by m about ready run = sums-of C ready events by m about run

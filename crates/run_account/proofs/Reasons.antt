-- Each miss has one of its five reasons, and each local load is a load.
use Rattle.std.proofs.Common.{◌≡◌, ℕ, ◌+◌, ◌≤◌, Bool, true, false, cond, nat_le, nat_lt, List, [], ◌∷◌, ◌++◌, slice_get, Option, Some, None, refl, sym, ap, ◌∙◌, arith}
use Rattle.std.specs.Prelude.{◌&&◌, ◌||◌, ◌==◌, count_by}
use Rattle.std.proofs.lemmas.Bool.Decides.{nat_tests}
use Rattle.dn_base.specs.declared.ids.LoadSeen.{LoadSeen}
use Rattle.dn_base.specs.declared.ids.Grant.{Grant as Granted}
use Rattle.dn_base.specs.declared.ids.WordId.{WordId}
use Rattle.region_table.specs.declared.interval.Interval.{Interval}
use Rattle.region_table.specs.Words.{has}
use Rattle.message_net.specs.declared.actor.Actor.{Actor}
use Rattle.message_net.specs.declared.actor.Actor.TheVariants.{Core, Bank, Keeper}
use Rattle.message_net.specs.declared.event.Event.{Event}
use Rattle.message_net.specs.declared.event.Event.TheVariants.{Instr, Evict, Arrive, Handle}
use Rattle.message_net.specs.declared.message.Mail.{Mail}
use Rattle.message_net.specs.declared.message.Message as message
use Rattle.message_net.specs.declared.message.Message.{Message}
use Rattle.message_net.specs.declared.message.Outgoing.{Outgoing}
use Rattle.message_net.specs.Pool.{removed}
use Rattle.word_cache.specs.declared.row.Entry.{Entry}
use Rattle.word_cache.specs.declared.row.Entry.TheVariants.{Valid, Registered, Leaving}
use Rattle.write_signature.specs.declared.signature.Signature.{Signature}
use Rattle.word_cache.specs.Cache.{Pair, is_valid}
use Rattle.registration_protocol.specs.Node.{NodeParts, entry_of, waits_for_nothing}
use Rattle.registration_protocol.specs.OwnEvents.{instructed, written_now}
use Rattle.registration_protocol.specs.Messages.{node_gets, written_in, guarded_by}
use Rattle.machine_rules.specs.State.{State}
use Rattle.machine_rules.specs.Next.{next}
use Rattle.machine_rules.specs.Memory.{word_value, value_in_entry}
use Rattle.run_account.specs.declared.measure.Measure as measure
use Rattle.run_account.specs.declared.measure.Measure.{Measure}
use Rattle.run_account.specs.declared.item.Item.{Item}
use Rattle.run_account.specs.declared.item.Grouping as grouping
use Rattle.run_account.specs.declared.item.Grouping.{Grouping}
use Rattle.run_account.specs.Measure.{measure_index, same_measure}
use Rattle.run_account.specs.Items.{regions_from, group_of, is_group, count_in}
use Rattle.run_account.specs.declared.departure.Departure.{Departure}
use Rattle.run_account.specs.declared.departure.Departure.TheVariants as why
use Rattle.run_account.specs.declared.departure.Handing.{Handing}
use Rattle.run_account.specs.declared.departure.Handing.TheVariants.{AtOnce, Queued}
use Rattle.run_account.specs.declared.departure.Occasion.{Occasion}
use Rattle.run_account.specs.declared.departure.Occasion.TheVariants.{Go, Grant}
use Rattle.run_account.specs.Departures.{Departures, departure_at, no_departures, departures_after, goes}
use Rattle.run_account.specs.Handings.{Handings, handing_of, no_handings, handings_after}
use Rattle.run_account.specs.Events.{item_at, item_if, load_items, store_items, is_registered, miss_of, has_untold_copy, asking_items, sent_items, instr_items, evict_items, remains, dropped_at, current_at, kept_at, copy_items, pair_items, copies_items, phase_items, lock_items, grant_measure, reply_measure, is_bounced, message_items, at_node, mail_items, handle_items, items_in}
use Rattle.run_account.specs.Account.{items_from, number_in_run}
use Rattle.run_account.proofs.Without.{Lacks, lacks-replicate, lacks-flat_map, count-cons, count-append, count-lacking}

-- the measures of misses, and those of loads
abbrev of_misses : Measure → Bool
of_misses m = nat_le 5 (measure_index m) && nat_lt (measure_index m) 11

abbrev of_loads : Measure → Bool
of_loads m = (measure_index m == 0) || (measure_index m == 2)

abbrev of_both : Measure → Bool
of_both m = nat_lt (measure_index m) 11

-- ---- lists without either

pub lacks-if : (named : Measure → Bool) (test : Bool) (item : Item) → named item.measure ≡ false → Lacks named (item_if test item)
lacks-if named true item isnt = (isnt, tt)
lacks-if named false item isnt = tt

copies-lack : (named : Measure → Bool) (S : State) (n : NodeParts) (o : Occasion) (words : List Interval) (p : Pair)
    → named (dropped_at o) ≡ false → named (current_at o) ≡ false → named (kept_at o) ≡ false → Lacks named (copy_items S n o words p)
copies-lack named S n o words p d c k = by_test (remains n o words p) where
  by_test : (t : Bool)
      → Lacks named (cond t (item_if (has words p.0.0) (item_at (kept_at o) n p.0)) (item_at (dropped_at o) n p.0 ∷ item_if (value_in_entry (Some p.1) == word_value S p.0.0) (item_at (current_at o) n p.0)))
  by_test true = lacks-if named (has words p.0.0) (item_at (kept_at o) n p.0) k
  by_test false = (d, lacks-if named (value_in_entry (Some p.1) == word_value S p.0.0) (item_at (current_at o) n p.0) c)

pairs-lack : (named : Measure → Bool) (S : State) (n : NodeParts) (o : Occasion) (words : List Interval) (p : Pair)
    → named (dropped_at o) ≡ false → named (current_at o) ≡ false → named (kept_at o) ≡ false → Lacks named (pair_items S n o words p)
pairs-lack named S n o words p d c k = by_test (is_valid p.1) where
  by_test : (t : Bool) → Lacks named (cond t (copy_items S n o words p) [])
  by_test true = copies-lack named S n o words p d c k
  by_test false = tt

-- no copy counts for a measure that isn't of copies
pub phase-lacks-all : (named : Measure → Bool) → named (dropped_at Go) ≡ false → named (current_at Go) ≡ false → named (kept_at Go) ≡ false
    → (S : State) (n after : NodeParts) → Lacks named (phase_items S n after)
phase-lacks-all named d c k S n after = by_test (after.phase == n.phase) where
  words : List Interval
  words = written_in (slice_get S.setting.plans n.phase)

  by_test : (t : Bool) → Lacks named (cond t [] (copies_items S n Go words))
  by_test true = tt
  by_test false = lacks-flat_map named (pair_items S n Go words) n.cache.pairs (λ p. pairs-lack named S n Go words p d c k)

pub lock-lacks-all : (named : Measure → Bool) → ((s : Signature) → named (dropped_at (Grant s)) ≡ false) → ((s : Signature) → named (current_at (Grant s)) ≡ false)
    → ((s : Signature) → named (kept_at (Grant s)) ≡ false) → (S : State) (n : NodeParts) (signature : Signature) (granted : Option Granted) → Lacks named (lock_items S n signature granted)
lock-lacks-all named d c k S n signature None = tt
lock-lacks-all named d c k S n signature (Some granted) =
    lacks-flat_map named (pair_items S n (Grant signature) words) n.cache.pairs (λ p. pairs-lack named S n (Grant signature) words p (d signature) (c signature) (k signature))
  where
    words : List Interval
    words = guarded_by (slice_get S.setting.plans n.phase) granted.lock.0

phase-lacks : (S : State) (n after : NodeParts) → Lacks of_both (phase_items S n after)
phase-lacks = phase-lacks-all of_both refl refl refl

lock-lacks : (S : State) (n : NodeParts) (signature : Signature) (granted : Option Granted) → Lacks of_both (lock_items S n signature granted)
lock-lacks = lock-lacks-all of_both (λ s. refl) (λ s. refl) (λ s. refl)

messages-lack : (S : State) (H : Handings) (sender : Actor) (n : NodeParts) (m : Message) → Lacks of_both (message_items S H sender n m)
messages-lack S H sender n (message.TheVariants.DataReply word value) = (by_sender sender, tt) where
  by_sender : (from : Actor) → of_both (reply_measure from) ≡ false
  by_sender (Core core) = refl
  by_sender (Bank bank) = refl
  by_sender Keeper = refl
messages-lack S H sender n (message.TheVariants.ReadFwd word reader) =
    lacks-if of_both (is_bounced (node_gets S.setting n (message.TheVariants.ReadFwd word reader)).1.sent) (item_at measure.TheVariants.Bounces n word) refl
messages-lack S H sender n (message.TheVariants.RegFwd word core) =
    lacks-if of_both (goes n (node_gets S.setting n (message.TheVariants.RegFwd word core)).0 word.0) (item_at measure.TheVariants.Taken n word) refl
messages-lack S H sender n (message.TheVariants.Grant lock signature) =
    (by_handing (handing_of H lock.0), lock-lacks S n signature (node_gets S.setting n (message.TheVariants.Grant lock signature)).1.granted)
  where
    by_handing : (how : Handing) → of_both (grant_measure how) ≡ false
    by_handing AtOnce = refl
    by_handing Queued = refl
messages-lack S H sender n (message.TheVariants.Go phase) = phase-lacks S n (node_gets S.setting n (message.TheVariants.Go phase)).0
messages-lack S H sender n (message.TheVariants.ReadReq word reader) = tt
messages-lack S H sender n (message.TheVariants.RegReq word core) = tt
messages-lack S H sender n (message.TheVariants.RegAck word) = tt
messages-lack S H sender n (message.TheVariants.WriteBack word value core) = tt
messages-lack S H sender n (message.TheVariants.WbAck word) = tt
messages-lack S H sender n (message.TheVariants.Acquire lock core) = tt
messages-lack S H sender n (message.TheVariants.Release lock core signature) = tt
messages-lack S H sender n (message.TheVariants.Arrived core bad) = tt
messages-lack S H sender n message.TheVariants.Halt = tt

handled-lacks : (S : State) (H : Handings) (m : Option Mail) → Lacks of_both (handle_items S H m)
handled-lacks S H None = tt
handled-lacks S H (Some m) = by_actor m.to where
  by_node : (there : Option NodeParts) → Lacks of_both (at_node (λ (n : NodeParts). message_items S H m.id.sender n m.message) there)
  by_node None = tt
  by_node (Some n) = messages-lack S H m.id.sender n m.message

  by_actor : (to : Actor) → Lacks of_both (mail_items S H m.id.sender to m.message)
  by_actor (Core core) = by_node (slice_get S.nodes core.0)
  by_actor (Bank bank) = tt
  by_actor Keeper = tt

evicted-lacks : (n : NodeParts) (word : WordId) (e : Option Entry) → Lacks of_both (evict_items n word e)
evicted-lacks n word None = tt
evicted-lacks n word (Some (Valid value marked)) = (refl, tt)
evicted-lacks n word (Some (Registered value pending)) = (refl, tt)
evicted-lacks n word (Some (Leaving value)) = tt

loads-lack : (n : NodeParts) (seen : Option LoadSeen) → Lacks of_misses (load_items n seen)
loads-lack n None = tt
loads-lack n (Some seen) = (refl, lacks-if of_misses (waits_for_nothing n.waiting) (item_at measure.TheVariants.LoadsLocal n seen.word) refl)

pub stores-lack : (named : Measure → Bool) → named measure.TheVariants.Stores ≡ false → named measure.TheVariants.StoresSilent ≡ false
    → (n : NodeParts) (written : Option (WordId × ℕ)) → Lacks named (store_items n written)
stores-lack named isnt never n None = tt
stores-lack named isnt never n (Some written) = (isnt, lacks-if named (is_registered (entry_of n written.0.0)) (item_at measure.TheVariants.StoresSilent n written.0) never)

-- ---- each event

module _ (regions : List ℕ) (by : Grouping) (group : ℕ) where
  abbrev count : Measure → List Item → ℕ
  count m items = count_in regions by m group items

  -- as many misses as reasons
  abbrev Even : List Item → Type 0
  Even items = count measure.TheVariants.Misses items ≡ count measure.TheVariants.MissesFirst items + count measure.TheVariants.MissesPhase items + count measure.TheVariants.MissesLock items
      + count measure.TheVariants.MissesEvicted items + count measure.TheVariants.MissesTaken items

  even-append : (items more : List Item) → Even items → Even more → Even (items ++ more)
  even-append items more first second =
      omega (
        arith,
        first,
        second,
        count-append regions by measure.TheVariants.Misses group items more,
        count-append regions by measure.TheVariants.MissesFirst group items more,
        count-append regions by measure.TheVariants.MissesPhase group items more,
        count-append regions by measure.TheVariants.MissesLock group items more,
        count-append regions by measure.TheVariants.MissesEvicted group items more,
        count-append regions by measure.TheVariants.MissesTaken group items more,
      )

  even-lacking : (named : Measure → Bool) → ((m : Measure) → named m ≡ false → of_misses m ≡ false) → (items : List Item) → Lacks named items → Even items
  even-lacking named covers items none =
      omega (
        arith,
        count-lacking regions by measure.TheVariants.Misses group named (λ m isnt. not-in 5 (measure_index m) (omega arith) (omega arith) (covers m isnt)) items none,
        count-lacking regions by measure.TheVariants.MissesFirst group named (λ m isnt. not-in 6 (measure_index m) (omega arith) (omega arith) (covers m isnt)) items none,
        count-lacking regions by measure.TheVariants.MissesPhase group named (λ m isnt. not-in 7 (measure_index m) (omega arith) (omega arith) (covers m isnt)) items none,
        count-lacking regions by measure.TheVariants.MissesLock group named (λ m isnt. not-in 8 (measure_index m) (omega arith) (omega arith) (covers m isnt)) items none,
        count-lacking regions by measure.TheVariants.MissesEvicted group named (λ m isnt. not-in 9 (measure_index m) (omega arith) (omega arith) (covers m isnt)) items none,
        count-lacking regions by measure.TheVariants.MissesTaken group named (λ m isnt. not-in 10 (measure_index m) (omega arith) (omega arith) (covers m isnt)) items none,
      )
    where
      not-in : (k i : ℕ) → 5 ≤ k → k ≤ 10 → (nat_le 5 i && nat_lt i 11) ≡ false → (k == i) ≡ false
      not-in k i from to isnt = grind (arith, nat_tests, from, to, isnt)

  -- two items of one core, phase and word are in one group
  same-group : (l m : Measure) (n : NodeParts) (word : WordId) (b : Grouping) → group_of regions b (item_at l n word) ≡ group_of regions b (item_at m n word)
  same-group l m n word grouping.TheVariants.Run = refl
  same-group l m n word grouping.TheVariants.Phase = refl
  same-group l m n word grouping.TheVariants.Core = refl
  same-group l m n word grouping.TheVariants.Region = refl

  abbrev in_it : Measure → NodeParts → WordId → Bool
  in_it m n word = is_group group (group_of regions by (item_at m n word))

  one-count : (m l : Measure) (n : NodeParts) (word : WordId) (items : List Item) (t : Bool) → in_it measure.TheVariants.Misses n word ≡ t
      → count m (item_at l n word ∷ items) ≡ cond (same_measure m l && t) 1 0 + count m items
  one-count m l n word items t e =
      let is : in_it l n word ≡ t = ap (is_group group) (same-group l measure.TheVariants.Misses n word by) ∙ e in
      count-cons regions by m group (item_at l n word) items ∙ ap (λ (x : Bool). cond (same_measure m l && x) 1 0 + count m items) is

  -- a miss and its reason are in one group
  abbrev miss_with : Measure → NodeParts → WordId → List Item
  miss_with r n word = item_at measure.TheVariants.Misses n word ∷ item_at r n word ∷ []

  abbrev both : Measure → Measure → Bool → ℕ
  both m r t = cond (same_measure m measure.TheVariants.Misses && t) 1 0 + (cond (same_measure m r && t) 1 0 + 0)

  two : (m r : Measure) (n : NodeParts) (word : WordId) (t : Bool) → in_it measure.TheVariants.Misses n word ≡ t → count m (miss_with r n word) ≡ both m r t
  two m r n word t e =
      one-count m measure.TheVariants.Misses n word (item_at r n word ∷ []) t e
      ∙ ap (λ (k : ℕ). cond (same_measure m measure.TheVariants.Misses && t) 1 0 + k) (one-count m r n word [] t e)

  sums : (r : Measure) (n : NodeParts) (word : WordId) (t : Bool) → in_it measure.TheVariants.Misses n word ≡ t
      → both measure.TheVariants.Misses r t ≡ both measure.TheVariants.MissesFirst r t + both measure.TheVariants.MissesPhase r t + both measure.TheVariants.MissesLock r t
      + both measure.TheVariants.MissesEvicted r t + both measure.TheVariants.MissesTaken r t
      → Even (miss_with r n word)
  sums r n word t e is =
      two measure.TheVariants.Misses r n word t e
      ∙ is
      ∙ sym (ap (λ (k : ℕ). k + count measure.TheVariants.MissesPhase (miss_with r n word) + count measure.TheVariants.MissesLock (miss_with r n word)
      + count measure.TheVariants.MissesEvicted (miss_with r n word) + count measure.TheVariants.MissesTaken (miss_with r n word)) (two measure.TheVariants.MissesFirst r n word t e)
      ∙ rw (two measure.TheVariants.MissesPhase r n word t e, two measure.TheVariants.MissesLock r n word t e, two measure.TheVariants.MissesEvicted r n word t e, two measure.TheVariants.MissesTaken r n word t e) refl)

  miss-even : (D : Option Departure) (n : NodeParts) (word : WordId) → Even (miss_with (miss_of D) n word)
  miss-even D n word = by_test (in_it measure.TheVariants.Misses n word) refl D where
    by_test : (t : Bool) → in_it measure.TheVariants.Misses n word ≡ t → (d : Option Departure) → Even (miss_with (miss_of d) n word)
    by_test true e None = sums measure.TheVariants.MissesFirst n word true e refl
    by_test true e (Some why.Phase) = sums measure.TheVariants.MissesPhase n word true e refl
    by_test true e (Some why.Lock) = sums measure.TheVariants.MissesLock n word true e refl
    by_test true e (Some why.Evicted) = sums measure.TheVariants.MissesEvicted n word true e refl
    by_test true e (Some why.Taken) = sums measure.TheVariants.MissesTaken n word true e refl
    by_test false e None = sums measure.TheVariants.MissesFirst n word false e refl
    by_test false e (Some why.Phase) = sums measure.TheVariants.MissesPhase n word false e refl
    by_test false e (Some why.Lock) = sums measure.TheVariants.MissesLock n word false e refl
    by_test false e (Some why.Evicted) = sums measure.TheVariants.MissesEvicted n word false e refl
    by_test false e (Some why.Taken) = sums measure.TheVariants.MissesTaken n word false e refl

  from-both : (m : Measure) → of_both m ≡ false → of_misses m ≡ false
  from-both m isnt = within (measure_index m) isnt where
    within : (i : ℕ) → nat_lt i 11 ≡ false → (nat_le 5 i && nat_lt i 11) ≡ false
    within i out = grind (arith, nat_tests, out)

  asked-even : (S : State) (D : Departures) (n : NodeParts) (m : Message) → Even (asking_items S D n m)
  asked-even S D n (message.TheVariants.ReadReq word reader) = miss-even (departure_at D n.core word.0) n word
  asked-even S D n (message.TheVariants.RegReq word core) =
      even-lacking of_misses (λ m isnt. isnt) (asking_items S D n (message.TheVariants.RegReq word core))
      (refl, lacks-replicate of_misses (count_by (has_untold_copy n word.0) S.nodes) (item_at measure.TheVariants.UntoldCopies n word) refl)
  asked-even S D n (message.TheVariants.ReadFwd word reader) = refl
  asked-even S D n (message.TheVariants.DataReply word value) = refl
  asked-even S D n (message.TheVariants.RegFwd word core) = refl
  asked-even S D n (message.TheVariants.RegAck word) = refl
  asked-even S D n (message.TheVariants.WriteBack word value core) = refl
  asked-even S D n (message.TheVariants.WbAck word) = refl
  asked-even S D n (message.TheVariants.Acquire lock core) = refl
  asked-even S D n (message.TheVariants.Release lock core signature) = refl
  asked-even S D n (message.TheVariants.Grant lock signature) = refl
  asked-even S D n (message.TheVariants.Arrived core bad) = refl
  asked-even S D n (message.TheVariants.Go phase) = refl
  asked-even S D n message.TheVariants.Halt = refl

  sent-even : (S : State) (D : Departures) (n : NodeParts) (sent : Option Outgoing) → Even (sent_items S D n sent)
  sent-even S D n None = refl
  sent-even S D n (Some out) = asked-even S D n out.message

  instr-even : (S : State) (D : Departures) (n : NodeParts) → Even (instr_items S D n)
  instr-even S D n =
      even-append (load_items n (instructed S.setting n).1.seen ++ store_items n (written_now S.setting n)) (sent_items S D n (instructed S.setting n).1.sent)
      (even-append (load_items n (instructed S.setting n).1.seen) (store_items n (written_now S.setting n))
      (even-lacking of_misses (λ m isnt. isnt) (load_items n (instructed S.setting n).1.seen) (loads-lack n (instructed S.setting n).1.seen))
      (even-lacking of_misses (λ m isnt. isnt) (store_items n (written_now S.setting n)) (stores-lack of_misses refl refl n (written_now S.setting n))))
      (sent-even S D n (instructed S.setting n).1.sent)

  event-even : (S : State) (D : Departures) (H : Handings) (e : Event) → Even (items_in S D H e)
  unfolding items_in
  event-even S D H (Instr core) = by_node (slice_get S.nodes core.0) where
    by_node : (there : Option NodeParts) → Even (at_node (instr_items S D) there)
    by_node None = refl
    by_node (Some n) = instr-even S D n
  event-even S D H (Evict core word) = by_node (slice_get S.nodes core.0) where
    by_node : (there : Option NodeParts) → Even (at_node (λ (n : NodeParts). evict_items n word (entry_of n word.0)) there)
    by_node None = refl
    by_node (Some n) = even-lacking of_both from-both (evict_items n word (entry_of n word.0)) (evicted-lacks n word (entry_of n word.0))
  event-even S D H (Arrive core) = refl
  event-even S D H (Handle id) = even-lacking of_both from-both (handle_items S H (removed id S.mails).0) (handled-lacks S H (removed id S.mails).0)

  run-even : (S : State) (D : Departures) (H : Handings) (events : List Event) → Even (items_from S D H events)
  run-even S D H [] = refl
  run-even S D H (e ∷ es) =
      even-append (items_in S D H e) (items_from (next S e) (departures_after S e D) (handings_after S e H) es)
      (event-even S D H e) (run-even (next S e) (departures_after S e D) (handings_after S e H) es)

  -- no more local loads than loads
  abbrev Few : List Item → Type 0
  Few items = count measure.TheVariants.LoadsLocal items ≤ count measure.TheVariants.Loads items

  few-append : (items more : List Item) → Few items → Few more → Few (items ++ more)
  few-append items more first second =
      omega (arith, first, second, count-append regions by measure.TheVariants.LoadsLocal group items more, count-append regions by measure.TheVariants.Loads group items more)

  few-lacking : (named : Measure → Bool) → ((m : Measure) → named m ≡ false → of_loads m ≡ false) → (items : List Item) → Lacks named items → Few items
  few-lacking named covers items none =
      omega (
        arith,
        count-lacking regions by measure.TheVariants.LoadsLocal group named (λ m isnt. not-two (measure_index m) (covers m isnt)) items none,
        count-lacking regions by measure.TheVariants.Loads group named (λ m isnt. not-none (measure_index m) (covers m isnt)) items none,
      )
    where
      not-two : (i : ℕ) → ((i == 0) || (i == 2)) ≡ false → (2 == i) ≡ false
      not-two i isnt = grind (arith, nat_tests, isnt)

      not-none : (i : ℕ) → ((i == 0) || (i == 2)) ≡ false → (0 == i) ≡ false
      not-none i isnt = grind (arith, nat_tests, isnt)

  load-few : (n : NodeParts) (word : WordId) (local : Bool) → Few (item_at measure.TheVariants.Loads n word ∷ item_if local (item_at measure.TheVariants.LoadsLocal n word))
  load-few n word local = by_test (in_it measure.TheVariants.Misses n word) refl local where
    by_test : (t : Bool) → in_it measure.TheVariants.Misses n word ≡ t → (l : Bool) → Few (item_at measure.TheVariants.Loads n word ∷ item_if l (item_at measure.TheVariants.LoadsLocal n word))
    by_test t e true =
        let few : cond (same_measure measure.TheVariants.LoadsLocal measure.TheVariants.LoadsLocal && t) 1 0 ≤ cond (same_measure measure.TheVariants.Loads measure.TheVariants.Loads && t) 1 0 = omega arith in
        omega (
          arith,
          few,
          one-count measure.TheVariants.LoadsLocal measure.TheVariants.Loads n word (item_at measure.TheVariants.LoadsLocal n word ∷ []) t e,
          one-count measure.TheVariants.LoadsLocal measure.TheVariants.LoadsLocal n word [] t e,
          one-count measure.TheVariants.Loads measure.TheVariants.Loads n word (item_at measure.TheVariants.LoadsLocal n word ∷ []) t e,
          one-count measure.TheVariants.Loads measure.TheVariants.LoadsLocal n word [] t e,
        )
    by_test t e false =
        omega (
          arith,
          one-count measure.TheVariants.LoadsLocal measure.TheVariants.Loads n word [] t e,
          one-count measure.TheVariants.Loads measure.TheVariants.Loads n word [] t e,
        )

  loads-few : (n : NodeParts) (seen : Option LoadSeen) → Few (load_items n seen)
  loads-few n None = omega arith
  loads-few n (Some seen) = load-few n seen.word (waits_for_nothing n.waiting)

  few-from-misses : (S : State) (D : Departures) (n : NodeParts) (m : Message) → Few (asking_items S D n m)
  few-from-misses S D n m = few-lacking of_loads (λ l isnt. isnt) (asking_items S D n m) (none m) where
    reason-lacks : (d : Option Departure) → of_loads (miss_of d) ≡ false
    reason-lacks None = refl
    reason-lacks (Some why.Phase) = refl
    reason-lacks (Some why.Lock) = refl
    reason-lacks (Some why.Evicted) = refl
    reason-lacks (Some why.Taken) = refl

    none : (m : Message) → Lacks of_loads (asking_items S D n m)
    none (message.TheVariants.ReadReq word reader) = (refl, (reason-lacks (departure_at D n.core word.0), tt))
    none (message.TheVariants.RegReq word core) =
        (refl, lacks-replicate of_loads (count_by (has_untold_copy n word.0) S.nodes) (item_at measure.TheVariants.UntoldCopies n word) refl)
    none (message.TheVariants.ReadFwd word reader) = tt
    none (message.TheVariants.DataReply word value) = tt
    none (message.TheVariants.RegFwd word core) = tt
    none (message.TheVariants.RegAck word) = tt
    none (message.TheVariants.WriteBack word value core) = tt
    none (message.TheVariants.WbAck word) = tt
    none (message.TheVariants.Acquire lock core) = tt
    none (message.TheVariants.Release lock core signature) = tt
    none (message.TheVariants.Grant lock signature) = tt
    none (message.TheVariants.Arrived core bad) = tt
    none (message.TheVariants.Go phase) = tt
    none message.TheVariants.Halt = tt

  sent-few : (S : State) (D : Departures) (n : NodeParts) (sent : Option Outgoing) → Few (sent_items S D n sent)
  sent-few S D n None = omega arith
  sent-few S D n (Some out) = few-from-misses S D n out.message

  instr-few : (S : State) (D : Departures) (n : NodeParts) → Few (instr_items S D n)
  instr-few S D n =
      few-append (load_items n (instructed S.setting n).1.seen ++ store_items n (written_now S.setting n)) (sent_items S D n (instructed S.setting n).1.sent)
      (few-append (load_items n (instructed S.setting n).1.seen) (store_items n (written_now S.setting n))
      (loads-few n (instructed S.setting n).1.seen)
      (few-lacking of_loads (λ m isnt. isnt) (store_items n (written_now S.setting n)) (stores-lack of_loads refl refl n (written_now S.setting n))))
      (sent-few S D n (instructed S.setting n).1.sent)

  few-both : (m : Measure) → of_both m ≡ false → of_loads m ≡ false
  few-both m isnt = within (measure_index m) isnt where
    within : (i : ℕ) → nat_lt i 11 ≡ false → ((i == 0) || (i == 2)) ≡ false
    within i out = grind (arith, nat_tests, out)

  event-few : (S : State) (D : Departures) (H : Handings) (e : Event) → Few (items_in S D H e)
  unfolding items_in
  event-few S D H (Instr core) = by_node (slice_get S.nodes core.0) where
    by_node : (there : Option NodeParts) → Few (at_node (instr_items S D) there)
    by_node None = omega arith
    by_node (Some n) = instr-few S D n
  event-few S D H (Evict core word) = by_node (slice_get S.nodes core.0) where
    by_node : (there : Option NodeParts) → Few (at_node (λ (n : NodeParts). evict_items n word (entry_of n word.0)) there)
    by_node None = omega arith
    by_node (Some n) = few-lacking of_both few-both (evict_items n word (entry_of n word.0)) (evicted-lacks n word (entry_of n word.0))
  event-few S D H (Arrive core) = omega arith
  event-few S D H (Handle id) = few-lacking of_both few-both (handle_items S H (removed id S.mails).0) (handled-lacks S H (removed id S.mails).0)

  run-few : (S : State) (D : Departures) (H : Handings) (events : List Event) → Few (items_from S D H events)
  run-few S D H [] = omega arith
  run-few S D H (e ∷ es) =
      few-append (items_in S D H e) (items_from (next S e) (departures_after S e D) (handings_after S e H) es)
      (event-few S D H e) (run-few (next S e) (departures_after S e D) (handings_after S e H) es)

pub misses-add-up : (S : State) (events : List Event) (by : Grouping) (group : ℕ)
    → number_in_run by measure.TheVariants.Misses group S events ≡ number_in_run by measure.TheVariants.MissesFirst group S events + number_in_run by measure.TheVariants.MissesPhase group S events
    + number_in_run by measure.TheVariants.MissesLock group S events + number_in_run by measure.TheVariants.MissesEvicted group S events + number_in_run by measure.TheVariants.MissesTaken group S events
misses-add-up S events by group = run-even (regions_from 0 S.setting.program.regions) by group S (no_departures S.setting) (no_handings S.setting) events

pub few-local-loads : (S : State) (events : List Event) (by : Grouping) (group : ℕ)
    → number_in_run by measure.TheVariants.LoadsLocal group S events ≤ number_in_run by measure.TheVariants.Loads group S events
few-local-loads S events by group = run-few (regions_from 0 S.setting.program.regions) by group S (no_departures S.setting) (no_handings S.setting) events

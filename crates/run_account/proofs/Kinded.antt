-- Each message counts once for its kind, and the bytes of the table are those of the messages.
use Rattle.std.proofs.Common.{◌≡◌, ℕ, ◌+◌, ◌*◌, ◌<◌, ◌≤◌, Bool, true, false, cond, if◌then◌else◌, map, slice_get, List, [], ◌∷◌, Option, Some, None, refl, sym, ap, subst, ◌∙◌, arith}
use Rattle.std.specs.Prelude.{◌==◌, count_by}
use Rattle.std.proofs.lemmas.Bool.Decides.{nat_tests}
use Rattle.std.proofs.lemmas.Option.{same_Some}
use Rattle.std.proofs.lemmas.List.Sums.{sum_by-cons}
use Rattle.dn_base.specs.declared.ids.CoreId.{CoreId}
use Rattle.dn_base.specs.declared.ids.WordId.{WordId}
use Rattle.message_net.specs.declared.actor.Actor.{Actor}
use Rattle.message_net.specs.declared.actor.Actor.TheVariants.{Core, Bank, Keeper}
use Rattle.message_net.specs.declared.event.Event.{Event}
use Rattle.message_net.specs.declared.event.Event.TheVariants.{Instr, Evict, Arrive, Handle}
use Rattle.message_net.specs.declared.event.EventKind as kind
use Rattle.message_net.specs.declared.event.EventKind.{EventKind}
use Rattle.message_net.specs.declared.message.Mail.{Mail}
use Rattle.message_net.specs.declared.message.Message as message
use Rattle.message_net.specs.declared.message.Message.{Message}
use Rattle.message_net.specs.Kind.{kind_of, kind_index}
use Rattle.message_net.specs.Pool.{removed}
use Rattle.registration_protocol.specs.Node.{NodeParts, Setting}
use Rattle.machine_rules.specs.State.{State, initial_state}
use Rattle.machine_rules.specs.Next.{next, kind_in, kind_with}
use Rattle.machine_rules.specs.Runs.{IsRun, kinds_of}
use Rattle.machine_rules.specs.Sound.{IsReady}
use Rattle.machine_rules.specs.Coherent.{Coherent, IsExpected}
use Rattle.machine_rules.proofs.RunsCoherent.{run-coherent}
use Rattle.run_account.specs.declared.item.Item.{Item}
use Rattle.run_account.specs.declared.item.Grouping.TheVariants as by
use Rattle.run_account.specs.declared.measure.Measure.{Measure}
use Rattle.run_account.specs.declared.measure.Measure.TheVariants as measure
use Rattle.run_account.specs.declared.access.AccessKind.{AccessKind}
use Rattle.run_account.specs.declared.access.AccessKind.TheVariants.{Load, Store}
use Rattle.run_account.specs.declared.access.CountedAccess.{CountedAccess}
use Rattle.run_account.specs.declared.cache.Share.{Share}
use Rattle.run_account.specs.declared.cache.Share.TheVariants.{Shared, Owned}
use Rattle.run_account.specs.Measure.{measure_index}
use Rattle.run_account.specs.Items.{regions_from}
use Rattle.run_account.specs.Kinds.{StaysCoherent, is_kind, events_of_kind}
use Rattle.run_account.specs.Lists.{SharerLists, no_lists, share_of}
use Rattle.run_account.specs.Counts.{asks, tells, puts, access_items}
use Rattle.run_account.specs.Runs.{counted_in, served, served_items, node_item, served_mail_items, kind_measure, carried, carried_items, carried_mail_items, value_items, items_of, event_items, next_lists, listed_from, listed_of_run, number_of_both, nothing_listed, count_of_run, is_about_word}
use Rattle.run_account.specs.Tallies.{capped, tally_of, Tallies}
use Rattle.run_account.specs.Traffic.{bytes_of_kind, bytes_row, sum_of_measures, row_number, is_kind_from, kinds_bytes, bytes_handled}
use Rattle.run_account.specs.declared.traffic_row.TrafficRow.TheVariants as row
use Rattle.run_account.proofs.ListWhole.{number-of-run}
use Rattle.run_account.proofs.Mails.{measured-weight, zero_weight, zero-is, messages-are-mails}
use Rattle.run_account.proofs.Told.{was-there}
use Rattle.run_account.proofs.Weights.{one, kinds_weigh, waits_weigh, weight, weight-append, number-weight, kind-later, AgreeOnRows, access-agree}

-- ---- the measure of a kind

placed-at : {n : ℕ} (a m : Measure) → Some a ≡ Some m → measure_index a ≡ n → measure_index m ≡ n
placed-at a m e is = ap measure_index (sym (same_Some a m e)) ∙ is

pub kind-place : (k : EventKind) (m : Measure) → kind_measure k ≡ Some m → measure_index m ≡ 40 + kind_index k
kind-place kind.TheVariants.Instr m e = absurd (cc)
kind-place kind.TheVariants.Evict m e = absurd (cc)
kind-place kind.TheVariants.Arrive m e = absurd (cc)
kind-place kind.TheVariants.ReadReq m e = placed-at measure.ReadReqs m e refl
kind-place kind.TheVariants.ReadFwd m e = placed-at measure.ReadFwds m e refl
kind-place kind.TheVariants.DataReply m e = placed-at measure.DataReplies m e refl
kind-place kind.TheVariants.RegReq m e = placed-at measure.RegReqs m e refl
kind-place kind.TheVariants.RegFwd m e = placed-at measure.RegFwds m e refl
kind-place kind.TheVariants.RegAck m e = placed-at measure.RegAcks m e refl
kind-place kind.TheVariants.WriteBack m e = placed-at measure.WriteBacks m e refl
kind-place kind.TheVariants.WbAck m e = placed-at measure.WbAcks m e refl
kind-place kind.TheVariants.Acquire m e = placed-at measure.Acquires m e refl
kind-place kind.TheVariants.Release m e = placed-at measure.Releases m e refl
kind-place kind.TheVariants.Grant m e = placed-at measure.Grants m e refl
kind-place kind.TheVariants.Arrived m e = placed-at measure.Arrivals m e refl
kind-place kind.TheVariants.Go m e = placed-at measure.Gos m e refl
kind-place kind.TheVariants.Halt m e = placed-at measure.Halts m e refl

kind-within : (k : EventKind) → kind_index k < 17
kind-within kind.TheVariants.Instr = omega arith
kind-within kind.TheVariants.Evict = omega arith
kind-within kind.TheVariants.Arrive = omega arith
kind-within kind.TheVariants.ReadReq = omega arith
kind-within kind.TheVariants.ReadFwd = omega arith
kind-within kind.TheVariants.DataReply = omega arith
kind-within kind.TheVariants.RegReq = omega arith
kind-within kind.TheVariants.RegFwd = omega arith
kind-within kind.TheVariants.RegAck = omega arith
kind-within kind.TheVariants.WriteBack = omega arith
kind-within kind.TheVariants.WbAck = omega arith
kind-within kind.TheVariants.Acquire = omega arith
kind-within kind.TheVariants.Release = omega arith
kind-within kind.TheVariants.Grant = omega arith
kind-within kind.TheVariants.Arrived = omega arith
kind-within kind.TheVariants.Go = omega arith
kind-within kind.TheVariants.Halt = omega arith

-- the kind at a place
abbrev kind_numbered : ℕ → EventKind
kind_numbered n =
    if n == 0 then kind.TheVariants.Instr
    else if n == 1 then kind.TheVariants.Evict
    else if n == 2 then kind.TheVariants.Arrive
    else if n == 3 then kind.TheVariants.ReadReq
    else if n == 4 then kind.TheVariants.ReadFwd
    else if n == 5 then kind.TheVariants.DataReply
    else if n == 6 then kind.TheVariants.RegReq
    else if n == 7 then kind.TheVariants.RegFwd
    else if n == 8 then kind.TheVariants.RegAck
    else if n == 9 then kind.TheVariants.WriteBack
    else if n == 10 then kind.TheVariants.WbAck
    else if n == 11 then kind.TheVariants.Acquire
    else if n == 12 then kind.TheVariants.Release
    else if n == 13 then kind.TheVariants.Grant
    else if n == 14 then kind.TheVariants.Arrived
    else if n == 15 then kind.TheVariants.Go
    else kind.TheVariants.Halt

numbered-back : (k : EventKind) → kind_numbered (kind_index k) ≡ k
numbered-back kind.TheVariants.Instr = refl
numbered-back kind.TheVariants.Evict = refl
numbered-back kind.TheVariants.Arrive = refl
numbered-back kind.TheVariants.ReadReq = refl
numbered-back kind.TheVariants.ReadFwd = refl
numbered-back kind.TheVariants.DataReply = refl
numbered-back kind.TheVariants.RegReq = refl
numbered-back kind.TheVariants.RegFwd = refl
numbered-back kind.TheVariants.RegAck = refl
numbered-back kind.TheVariants.WriteBack = refl
numbered-back kind.TheVariants.WbAck = refl
numbered-back kind.TheVariants.Acquire = refl
numbered-back kind.TheVariants.Release = refl
numbered-back kind.TheVariants.Grant = refl
numbered-back kind.TheVariants.Arrived = refl
numbered-back kind.TheVariants.Go = refl
numbered-back kind.TheVariants.Halt = refl

same-kind : (k j : EventKind) → is_kind k j ≡ true → k ≡ j
same-kind k j e =
    let places : kind_index k ≡ kind_index j = grind (arith, nat_tests, e) in
    sym (numbered-back k) ∙ ap kind_numbered places ∙ numbered-back j

-- ---- an event

-- a measure among those of messages counts nothing of an earlier one
one-earlier : (m a : Measure) → 43 ≤ measure_index m → measure_index a < 43 → one m a ≡ 0
one-earlier m a late low = apart (measure_index m) (measure_index a) late low where
  apart : (i j : ℕ) → 43 ≤ i → j < 43 → cond {A = ℕ} (i == j) 1 0 ≡ 0
  apart i j late low = let e : (i == j) ≡ false = grind (arith, nat_tests, late, low) in rw e refl

module _ (k : EventKind) (m : Measure) (its : kind_measure k ≡ Some m) where
  place : measure_index m ≡ 40 + kind_index k
  place = kind-place k m its

  late : 43 ≤ measure_index m
  late = kind-later k m its

  -- an access counts for none of them
  none : (a : Measure) → measure_index a < 43 → one m a ≡ 0
  none a low = one-earlier m a late low

  no-kinds : AgreeOnRows (one m) zero_weight
  no-kinds = record { asks_do = asks_do; tells_do = tells_do; puts_do = puts_do; waits_do = waits_do } where
    asks_do : (kind : AccessKind) → kinds_weigh (one m) (asks kind) ≡ kinds_weigh zero_weight (asks kind)
    asks_do Load = rw (none measure.ListMessages (omega arith), none measure.ListReadRequests (omega arith), none measure.ListReplies (omega arith)) refl
    asks_do Store = rw (none measure.ListMessages (omega arith), none measure.ListWriteRequests (omega arith), none measure.ListReplies (omega arith)) refl

    tells_do : (kind : AccessKind) (has : Option Share) → kinds_weigh (one m) (tells kind has) ≡ kinds_weigh zero_weight (tells kind has)
    tells_do Load None = refl
    tells_do Load (Some Shared) = refl
    tells_do Load (Some Owned) = rw (none measure.ListMessages (omega arith), none measure.ListForwards (omega arith), none measure.ListPutBacks (omega arith)) refl
    tells_do Store None = refl
    tells_do Store (Some Shared) = rw (none measure.ListMessages (omega arith), none measure.ListInvalidations (omega arith), none measure.ListAcknowledgements (omega arith)) refl
    tells_do Store (Some Owned) = rw (none measure.ListMessages (omega arith), none measure.ListForwards (omega arith)) refl

    puts_do : (share : Share) → kinds_weigh (one m) (puts share) ≡ kinds_weigh zero_weight (puts share)
    puts_do Shared = rw (none measure.ListMessages (omega arith), none measure.ListPutShares (omega arith), none measure.ListPutAcks (omega arith)) refl
    puts_do Owned = rw (none measure.ListMessages (omega arith), none measure.ListPutBacks (omega arith), none measure.ListPutAcks (omega arith)) refl

    waits_do : (kind : AccessKind) (waited hit : Bool) → waits_weigh (one m) kind waited hit ≡ waits_weigh zero_weight kind waited hit
    waits_do Load true true = rw (none measure.WaitsRead (omega arith), none measure.WaitsHereAlone (omega arith)) refl
    waits_do Load true false = rw (none measure.WaitsRead (omega arith), none measure.ListWaitsRead (omega arith)) refl
    waits_do Load false true = refl
    waits_do Load false false = rw (none measure.ListWaitsRead (omega arith), none measure.WaitsListAlone (omega arith)) refl
    waits_do Store true true = rw (none measure.WaitsWrite (omega arith), none measure.WaitsHereAlone (omega arith)) refl
    waits_do Store true false = rw (none measure.WaitsWrite (omega arith), none measure.ListWaitsWrite (omega arith)) refl
    waits_do Store false true = refl
    waits_do Store false false = rw (none measure.ListWaitsWrite (omega arith), none measure.WaitsListAlone (omega arith)) refl

  abbrev W : List Item → ℕ
  W items = weight [] by.Run 0 (one m) items

  no-value : one m measure.ListReplyValues ≡ 0
  no-value = apart (measure_index m) (kind_index k) place (kind-within k) where
    apart : (i j : ℕ) → i ≡ 40 + j → j < 17 → cond {A = ℕ} (i == 57) 1 0 ≡ 0
    apart i j is low = let e : (i == 57) ≡ false = grind (arith, nat_tests, is, low) in rw e refl

  values-none : (a : CountedAccess) (had : Option Share) → W (value_items a had) ≡ 0
  values-none a None = rw no-value refl
  values-none a (Some held) = refl

  access-none : (L : SharerLists) (o : Option CountedAccess) → W (items_of L o) ≡ 0
  access-none L None = refl
  access-none L (Some a) =
      omega (
        arith,
        weight-append [] by.Run 0 (one m) (value_items a (share_of L a.core.0 a.word.0)) (access_items L a),
        values-none a (share_of L a.core.0 a.word.0),
        access-agree [] by.Run 0 (one m) zero_weight no-kinds L a,
        zero-is (access_items L a),
      )

  served-none : (S : State) (took : Option Mail) → W (served_mail_items S took) ≡ 0
  served-none S None = refl
  served-none S (Some x) = by_served (served x.to x.message) where
    by_served : (o : Option (CoreId × WordId)) → W (served_items S o) ≡ 0
    by_served None = refl
    by_served (Some (core, word)) = by_node (slice_get S.nodes core.0) where
      by_node : (there : Option NodeParts) → W (node_item core word there) ≡ 0
      by_node None = refl
      by_node (Some n) = rw (none measure.Messages (omega arith)) refl

  -- a message counts for its own kind
  one-of : (j : EventKind) (other : Measure) → kind_measure j ≡ Some other → one m other + 0 ≡ cond (is_kind k j) 1 0
  one-of j other is = by_places (measure_index m) (measure_index other) (kind_index k) (kind_index j) place (kind-place j other is) where
    by_places : (a b x y : ℕ) → a ≡ 40 + x → b ≡ 40 + y → cond {A = ℕ} (a == b) 1 0 + 0 ≡ cond (x == y) 1 0
    by_places a b x y first second = by_test (x == y) refl where
      by_test : (t : Bool) → (x == y) ≡ t → cond {A = ℕ} (a == b) 1 0 + 0 ≡ cond t 1 0
      by_test true e = let same : (a == b) ≡ true = grind (arith, nat_tests, first, second, e) in rw same refl
      by_test false e = let same : (a == b) ≡ false = grind (arith, nat_tests, first, second, e) in rw same refl

  carried-one : (S : State) (to : Actor) (x : Message) → IsExpected S to x → W (carried_items S (carried to x) (kind_measure (kind_of x))) ≡ cond (is_kind k (kind_of x)) 1 0
  carried-one S to (message.TheVariants.ReadReq word reader) is = one-of kind.TheVariants.ReadReq measure.ReadReqs refl
  carried-one S to (message.TheVariants.ReadFwd word reader) is = one-of kind.TheVariants.ReadFwd measure.ReadFwds refl
  carried-one S (Core core) (message.TheVariants.DataReply word value) is = one-of kind.TheVariants.DataReply measure.DataReplies refl
  carried-one S (Bank bank) (message.TheVariants.DataReply word value) is = absurd is
  carried-one S Keeper (message.TheVariants.DataReply word value) is = absurd is
  carried-one S to (message.TheVariants.RegReq word core) is = one-of kind.TheVariants.RegReq measure.RegReqs refl
  carried-one S to (message.TheVariants.RegFwd word core) is = one-of kind.TheVariants.RegFwd measure.RegFwds refl
  carried-one S (Core core) (message.TheVariants.RegAck word) is = one-of kind.TheVariants.RegAck measure.RegAcks refl
  carried-one S (Bank bank) (message.TheVariants.RegAck word) is = absurd is
  carried-one S Keeper (message.TheVariants.RegAck word) is = absurd is
  carried-one S to (message.TheVariants.WriteBack word value core) is = one-of kind.TheVariants.WriteBack measure.WriteBacks refl
  carried-one S (Core core) (message.TheVariants.WbAck word) is = one-of kind.TheVariants.WbAck measure.WbAcks refl
  carried-one S (Bank bank) (message.TheVariants.WbAck word) is = absurd is
  carried-one S Keeper (message.TheVariants.WbAck word) is = absurd is
  carried-one S to (message.TheVariants.Acquire lock core) is = one-of kind.TheVariants.Acquire measure.Acquires refl
  carried-one S to (message.TheVariants.Release lock core signature) is = one-of kind.TheVariants.Release measure.Releases refl
  carried-one S (Core core) (message.TheVariants.Grant lock signature) is = one-of kind.TheVariants.Grant measure.Grants refl
  carried-one S (Bank bank) (message.TheVariants.Grant lock signature) is = absurd is
  carried-one S Keeper (message.TheVariants.Grant lock signature) is = absurd is
  carried-one S to (message.TheVariants.Arrived core bad) is = one-of kind.TheVariants.Arrived measure.Arrivals refl
  carried-one S (Core core) (message.TheVariants.Go phase) is = one-of kind.TheVariants.Go measure.Gos refl
  carried-one S (Bank bank) (message.TheVariants.Go phase) is = absurd is
  carried-one S Keeper (message.TheVariants.Go phase) is = absurd is
  carried-one S (Core core) message.TheVariants.Halt is = one-of kind.TheVariants.Halt measure.Halts refl
  carried-one S (Bank bank) message.TheVariants.Halt is = absurd is
  carried-one S Keeper message.TheVariants.Halt is = absurd is

  -- a core's own event is no message
  no-own : (j : EventKind) → kind_measure j ≡ None → cond {A = ℕ} (is_kind k j) 1 0 ≡ 0
  no-own j own = by_test (is_kind k j) refl where
    by_test : (t : Bool) → is_kind k j ≡ t → cond {A = ℕ} t 1 0 ≡ 0
    by_test true e = absurd (let same : k ≡ j = same-kind k j e in let both : kind_measure j ≡ Some m = ap kind_measure (sym same) ∙ its in cc)
    by_test false e = refl

  module _ (S : State) (coherent : Coherent S) where
    mail-one : (took : Option Mail) → ((x : Mail) → took ≡ Some x → IsExpected S x.to x.message) → W (carried_mail_items S took) ≡ cond (is_kind k (kind_with took)) 1 0
    mail-one None is = sym (no-own kind.TheVariants.Instr refl)
    mail-one (Some x) is = carried-one S x.to x.message (is x refl)

    event-one : (L : SharerLists) (e : Event) → W (event_items S L e) ≡ cond (is_kind k (kind_in S e)) 1 0
    unfolding event_items kind_in
    event-one L (Instr core) = access-none L (counted_in S (Instr core)) ∙ sym (no-own kind.TheVariants.Instr refl)
    event-one L (Evict core word) = sym (no-own kind.TheVariants.Evict refl)
    event-one L (Arrive core) = sym (no-own kind.TheVariants.Arrive refl)
    event-one L (Handle id) =
        omega (
          arith,
          weight-append [] by.Run 0 (one m) (served_mail_items S (removed id S.mails).0) (carried_mail_items S (removed id S.mails).0),
          served-none S (removed id S.mails).0,
          mail-one (removed id S.mails).0 (λ x e. coherent.expected x (was-there S id x e)),
        )

  run-ones : (events : List Event) (S : State) (L : SharerLists) → StaysCoherent S → IsRun S events → W (listed_from S L events) ≡ events_of_kind k S events
  run-ones [] S L coherent run = refl
  run-ones (e ∷ es) S L coherent run =
      weight-append [] by.Run 0 (one m) (event_items S L e) (listed_from (next S e) (next_lists S e L) es)
      ∙ rw (event-one S (coherent [] tt) L e, run-ones es (next S e) (next_lists S e L) (λ more runs. coherent (e ∷ more) (run.0, runs)) run.1)
      (sym (sum_by-cons (λ (other : EventKind). cond (is_kind k other) 1 0) (kind_in S e) (kinds_of (next S e) es)))

pub messages-of-kind : (C : Setting) (events : List Event) (k : EventKind) (m : Measure) → kind_measure k ≡ Some m → IsReady C → IsRun (initial_state C) events
    → number_of_both m (initial_state C) events ≡ events_of_kind k (initial_state C) events
messages-of-kind C events k m its ready run =
    measured-weight m (listed_of_run (initial_state C) events)
    ∙ run-ones k m its events (initial_state C) (no_lists (initial_state C).setting.shape) (λ more runs. run-coherent C more ready runs) run

-- ---- bytes

-- the sums of two tests
bytes-cons : (test : EventKind → Bool) (k : EventKind) (ks : List EventKind) → kinds_bytes test (k ∷ ks) ≡ cond (test k) (bytes_of_kind k) 0 + kinds_bytes test ks
bytes-cons test k ks = sum_by-cons (λ (n : ℕ). n) (cond (test k) (bytes_of_kind k) 0) (map (λ (other : EventKind). cond (test other) (bytes_of_kind other) 0) ks)

count-more : (test : EventKind → Bool) (k : EventKind) (ks : List EventKind) → count_by test (k ∷ ks) ≡ cond (test k) 1 0 + count_by test ks
count-more test k ks = sum_by-cons (λ (other : EventKind). cond (test other) 1 0) k ks

-- each kind has the bytes of its header, its value and its signature
word-bytes-one : (k : EventKind) → cond (is_kind_from 3 10 k) (bytes_of_kind k) 0 ≡ 8 * cond (is_about_word k) 1 0 + 4 * (cond (is_kind kind.TheVariants.DataReply k) 1 0 + cond (is_kind kind.TheVariants.WriteBack k) 1 0)
word-bytes-one kind.TheVariants.Instr = refl
word-bytes-one kind.TheVariants.Evict = refl
word-bytes-one kind.TheVariants.Arrive = refl
word-bytes-one kind.TheVariants.ReadReq = refl
word-bytes-one kind.TheVariants.ReadFwd = refl
word-bytes-one kind.TheVariants.DataReply = refl
word-bytes-one kind.TheVariants.RegReq = refl
word-bytes-one kind.TheVariants.RegFwd = refl
word-bytes-one kind.TheVariants.RegAck = refl
word-bytes-one kind.TheVariants.WriteBack = refl
word-bytes-one kind.TheVariants.WbAck = refl
word-bytes-one kind.TheVariants.Acquire = refl
word-bytes-one kind.TheVariants.Release = refl
word-bytes-one kind.TheVariants.Grant = refl
word-bytes-one kind.TheVariants.Arrived = refl
word-bytes-one kind.TheVariants.Go = refl
word-bytes-one kind.TheVariants.Halt = refl

lock-bytes-one : (k : EventKind) → cond (is_kind_from 11 13 k) (bytes_of_kind k) 0
    ≡ 8 * (cond (is_kind kind.TheVariants.Acquire k) 1 0 + cond (is_kind kind.TheVariants.Release k) 1 0 + cond (is_kind kind.TheVariants.Grant k) 1 0)
    + 33 * (cond (is_kind kind.TheVariants.Release k) 1 0 + cond (is_kind kind.TheVariants.Grant k) 1 0)
lock-bytes-one kind.TheVariants.Instr = refl
lock-bytes-one kind.TheVariants.Evict = refl
lock-bytes-one kind.TheVariants.Arrive = refl
lock-bytes-one kind.TheVariants.ReadReq = refl
lock-bytes-one kind.TheVariants.ReadFwd = refl
lock-bytes-one kind.TheVariants.DataReply = refl
lock-bytes-one kind.TheVariants.RegReq = refl
lock-bytes-one kind.TheVariants.RegFwd = refl
lock-bytes-one kind.TheVariants.RegAck = refl
lock-bytes-one kind.TheVariants.WriteBack = refl
lock-bytes-one kind.TheVariants.WbAck = refl
lock-bytes-one kind.TheVariants.Acquire = refl
lock-bytes-one kind.TheVariants.Release = refl
lock-bytes-one kind.TheVariants.Grant = refl
lock-bytes-one kind.TheVariants.Arrived = refl
lock-bytes-one kind.TheVariants.Go = refl
lock-bytes-one kind.TheVariants.Halt = refl

barrier-bytes-one : (k : EventKind) → cond (is_kind_from 14 16 k) (bytes_of_kind k) 0
    ≡ 8 * (cond (is_kind kind.TheVariants.Arrived k) 1 0 + cond (is_kind kind.TheVariants.Go k) 1 0 + cond (is_kind kind.TheVariants.Halt k) 1 0)
barrier-bytes-one kind.TheVariants.Instr = refl
barrier-bytes-one kind.TheVariants.Evict = refl
barrier-bytes-one kind.TheVariants.Arrive = refl
barrier-bytes-one kind.TheVariants.ReadReq = refl
barrier-bytes-one kind.TheVariants.ReadFwd = refl
barrier-bytes-one kind.TheVariants.DataReply = refl
barrier-bytes-one kind.TheVariants.RegReq = refl
barrier-bytes-one kind.TheVariants.RegFwd = refl
barrier-bytes-one kind.TheVariants.RegAck = refl
barrier-bytes-one kind.TheVariants.WriteBack = refl
barrier-bytes-one kind.TheVariants.WbAck = refl
barrier-bytes-one kind.TheVariants.Acquire = refl
barrier-bytes-one kind.TheVariants.Release = refl
barrier-bytes-one kind.TheVariants.Grant = refl
barrier-bytes-one kind.TheVariants.Arrived = refl
barrier-bytes-one kind.TheVariants.Go = refl
barrier-bytes-one kind.TheVariants.Halt = refl

word-bytes : (ks : List EventKind) → kinds_bytes (is_kind_from 3 10) ks
    ≡ 8 * count_by is_about_word ks + 4 * (count_by (is_kind kind.TheVariants.DataReply) ks + count_by (is_kind kind.TheVariants.WriteBack) ks)
word-bytes [] = refl
word-bytes (k ∷ ks) =
    omega (
      arith,
      bytes-cons (is_kind_from 3 10) k ks,
      word-bytes-one k,
      word-bytes ks,
      count-more is_about_word k ks,
      count-more (is_kind kind.TheVariants.DataReply) k ks,
      count-more (is_kind kind.TheVariants.WriteBack) k ks,
    )

lock-bytes : (ks : List EventKind) → kinds_bytes (is_kind_from 11 13) ks
    ≡ 8 * (count_by (is_kind kind.TheVariants.Acquire) ks + count_by (is_kind kind.TheVariants.Release) ks + count_by (is_kind kind.TheVariants.Grant) ks)
    + 33 * (count_by (is_kind kind.TheVariants.Release) ks + count_by (is_kind kind.TheVariants.Grant) ks)
lock-bytes [] = refl
lock-bytes (k ∷ ks) =
    omega (
      arith,
      bytes-cons (is_kind_from 11 13) k ks,
      lock-bytes-one k,
      lock-bytes ks,
      count-more (is_kind kind.TheVariants.Acquire) k ks,
      count-more (is_kind kind.TheVariants.Release) k ks,
      count-more (is_kind kind.TheVariants.Grant) k ks,
    )

barrier-bytes : (ks : List EventKind) → kinds_bytes (is_kind_from 14 16) ks
    ≡ 8 * (count_by (is_kind kind.TheVariants.Arrived) ks + count_by (is_kind kind.TheVariants.Go) ks + count_by (is_kind kind.TheVariants.Halt) ks)
barrier-bytes [] = refl
barrier-bytes (k ∷ ks) =
    omega (
      arith,
      bytes-cons (is_kind_from 14 16) k ks,
      barrier-bytes-one k,
      barrier-bytes ks,
      count-more (is_kind kind.TheVariants.Arrived) k ks,
      count-more (is_kind kind.TheVariants.Go) k ks,
      count-more (is_kind kind.TheVariants.Halt) k ks,
    )

kind-bytes : (k : EventKind) (ks : List EventKind) → kinds_bytes (is_kind k) ks ≡ bytes_of_kind k * count_by (is_kind k) ks
kind-bytes k [] = omega arith
kind-bytes k (j ∷ ks) =
    bytes-cons (is_kind k) j ks ∙ rw (kind-bytes k ks, count-more (is_kind k) j ks) (by_test (is_kind k j) refl)
  where
    by_test : (t : Bool) → is_kind k j ≡ t → cond t (bytes_of_kind j) 0 + bytes_of_kind k * count_by (is_kind k) ks ≡ bytes_of_kind k * (cond t 1 0 + count_by (is_kind k) ks)
    by_test true e = let same : bytes_of_kind k ≡ bytes_of_kind j = ap bytes_of_kind (same-kind k j e) in rw (sym same) (omega arith)
    by_test false e = omega arith

module _ (C : Setting) (events : List Event) (ready : IsReady C) (run : IsRun (initial_state C) events) where
  abbrev S : State
  S = initial_state C

  abbrev t : Tallies
  t = (count_of_run S (nothing_listed S.setting by.Run) events).tallies

  -- the number in the one group of a run
  tally-is : (m : Measure) → tally_of m 0 t ≡ capped (number_of_both m S events)
  tally-is m =
      number-of-run S events by.Run m 0 (omega arith)
      ∙ ap capped (number-weight (regions_from 0 S.setting.program.regions) by.Run 0 m (listed_of_run S events) ∙ run-weight (listed_of_run S events) ∙ sym (measured-weight m (listed_of_run S events)))
    where
      run-weight : (items : List Item) → weight (regions_from 0 S.setting.program.regions) by.Run 0 (one m) items ≡ weight [] by.Run 0 (one m) items
      run-weight [] = refl
      run-weight (item ∷ items) = rw (run-weight items) refl

  counted : (k : EventKind) (m : Measure) → kind_measure k ≡ Some m → tally_of m 0 t ≡ capped (count_by (is_kind k) (kinds_of S events))
  counted k m its = tally-is m ∙ ap capped (messages-of-kind C events k m its ready run)

  -- sums of numbers
  more-numbers : (m : Measure) (ms : List Measure) → sum_of_measures t 0 (m ∷ ms) ≡ tally_of m 0 t + sum_of_measures t 0 ms
  more-numbers m ms = sum_by-cons (λ (n : ℕ). n) (tally_of m 0 t) (map (λ (other : Measure). tally_of other 0 t) ms)

  no-numbers : sum_of_measures t 0 [] ≡ 0
  no-numbers = refl

  pub words-are : row_number t 0 row.WordBytes ≡ capped (bytes_handled (is_kind_from 3 10) S events)
  words-are =
      omega (
        arith,
        word-bytes (kinds_of S events),
        tally-is measure.Messages,
        messages-are-mails C events ready run,
        counted kind.TheVariants.DataReply measure.DataReplies refl,
        counted kind.TheVariants.WriteBack measure.WriteBacks refl,
        more-numbers measure.Messages [],
        more-numbers measure.DataReplies (measure.WriteBacks ∷ []),
        more-numbers measure.WriteBacks [],
        no-numbers,
      )

  pub locks-are : row_number t 0 row.LockBytes ≡ capped (bytes_handled (is_kind_from 11 13) S events)
  locks-are =
      omega (
        arith,
        lock-bytes (kinds_of S events),
        counted kind.TheVariants.Acquire measure.Acquires refl,
        counted kind.TheVariants.Release measure.Releases refl,
        counted kind.TheVariants.Grant measure.Grants refl,
        more-numbers measure.Acquires (measure.Releases ∷ measure.Grants ∷ []),
        more-numbers measure.Releases (measure.Grants ∷ []),
        more-numbers measure.Grants [],
        no-numbers,
      )

  pub barriers-are : row_number t 0 row.BarrierBytes ≡ capped (bytes_handled (is_kind_from 14 16) S events)
  barriers-are =
      omega (
        arith,
        barrier-bytes (kinds_of S events),
        counted kind.TheVariants.Arrived measure.Arrivals refl,
        counted kind.TheVariants.Go measure.Gos refl,
        counted kind.TheVariants.Halt measure.Halts refl,
        more-numbers measure.Arrivals (measure.Gos ∷ measure.Halts ∷ []),
        more-numbers measure.Gos (measure.Halts ∷ []),
        more-numbers measure.Halts [],
        no-numbers,
      )

  pub kinds-are : (k : EventKind) (m : Measure) → kind_measure k ≡ Some m → row_number t 0 (bytes_row m) ≡ capped (bytes_handled (is_kind k) S events)
  kinds-are kind.TheVariants.Instr m e = absurd (cc)
  kinds-are kind.TheVariants.Evict m e = absurd (cc)
  kinds-are kind.TheVariants.Arrive m e = absurd (cc)
  kinds-are kind.TheVariants.ReadReq m e =
      subst (λ (x : Measure). row_number t 0 (bytes_row x) ≡ capped (bytes_handled (is_kind kind.TheVariants.ReadReq) S events)) (same_Some measure.ReadReqs m e)
      (omega (arith, kind-bytes kind.TheVariants.ReadReq (kinds_of S events), counted kind.TheVariants.ReadReq measure.ReadReqs refl, more-numbers measure.ReadReqs [], no-numbers))
  kinds-are kind.TheVariants.ReadFwd m e =
      subst (λ (x : Measure). row_number t 0 (bytes_row x) ≡ capped (bytes_handled (is_kind kind.TheVariants.ReadFwd) S events)) (same_Some measure.ReadFwds m e)
      (omega (arith, kind-bytes kind.TheVariants.ReadFwd (kinds_of S events), counted kind.TheVariants.ReadFwd measure.ReadFwds refl, more-numbers measure.ReadFwds [], no-numbers))
  kinds-are kind.TheVariants.DataReply m e =
      subst (λ (x : Measure). row_number t 0 (bytes_row x) ≡ capped (bytes_handled (is_kind kind.TheVariants.DataReply) S events)) (same_Some measure.DataReplies m e)
      (omega (arith, kind-bytes kind.TheVariants.DataReply (kinds_of S events), counted kind.TheVariants.DataReply measure.DataReplies refl, more-numbers measure.DataReplies [], no-numbers))
  kinds-are kind.TheVariants.RegReq m e =
      subst (λ (x : Measure). row_number t 0 (bytes_row x) ≡ capped (bytes_handled (is_kind kind.TheVariants.RegReq) S events)) (same_Some measure.RegReqs m e)
      (omega (arith, kind-bytes kind.TheVariants.RegReq (kinds_of S events), counted kind.TheVariants.RegReq measure.RegReqs refl, more-numbers measure.RegReqs [], no-numbers))
  kinds-are kind.TheVariants.RegFwd m e =
      subst (λ (x : Measure). row_number t 0 (bytes_row x) ≡ capped (bytes_handled (is_kind kind.TheVariants.RegFwd) S events)) (same_Some measure.RegFwds m e)
      (omega (arith, kind-bytes kind.TheVariants.RegFwd (kinds_of S events), counted kind.TheVariants.RegFwd measure.RegFwds refl, more-numbers measure.RegFwds [], no-numbers))
  kinds-are kind.TheVariants.RegAck m e =
      subst (λ (x : Measure). row_number t 0 (bytes_row x) ≡ capped (bytes_handled (is_kind kind.TheVariants.RegAck) S events)) (same_Some measure.RegAcks m e)
      (omega (arith, kind-bytes kind.TheVariants.RegAck (kinds_of S events), counted kind.TheVariants.RegAck measure.RegAcks refl, more-numbers measure.RegAcks [], no-numbers))
  kinds-are kind.TheVariants.WriteBack m e =
      subst (λ (x : Measure). row_number t 0 (bytes_row x) ≡ capped (bytes_handled (is_kind kind.TheVariants.WriteBack) S events)) (same_Some measure.WriteBacks m e)
      (omega (arith, kind-bytes kind.TheVariants.WriteBack (kinds_of S events), counted kind.TheVariants.WriteBack measure.WriteBacks refl, more-numbers measure.WriteBacks [], no-numbers))
  kinds-are kind.TheVariants.WbAck m e =
      subst (λ (x : Measure). row_number t 0 (bytes_row x) ≡ capped (bytes_handled (is_kind kind.TheVariants.WbAck) S events)) (same_Some measure.WbAcks m e)
      (omega (arith, kind-bytes kind.TheVariants.WbAck (kinds_of S events), counted kind.TheVariants.WbAck measure.WbAcks refl, more-numbers measure.WbAcks [], no-numbers))
  kinds-are kind.TheVariants.Acquire m e =
      subst (λ (x : Measure). row_number t 0 (bytes_row x) ≡ capped (bytes_handled (is_kind kind.TheVariants.Acquire) S events)) (same_Some measure.Acquires m e)
      (omega (arith, kind-bytes kind.TheVariants.Acquire (kinds_of S events), counted kind.TheVariants.Acquire measure.Acquires refl, more-numbers measure.Acquires [], no-numbers))
  kinds-are kind.TheVariants.Release m e =
      subst (λ (x : Measure). row_number t 0 (bytes_row x) ≡ capped (bytes_handled (is_kind kind.TheVariants.Release) S events)) (same_Some measure.Releases m e)
      (omega (arith, kind-bytes kind.TheVariants.Release (kinds_of S events), counted kind.TheVariants.Release measure.Releases refl, more-numbers measure.Releases [], no-numbers))
  kinds-are kind.TheVariants.Grant m e =
      subst (λ (x : Measure). row_number t 0 (bytes_row x) ≡ capped (bytes_handled (is_kind kind.TheVariants.Grant) S events)) (same_Some measure.Grants m e)
      (omega (arith, kind-bytes kind.TheVariants.Grant (kinds_of S events), counted kind.TheVariants.Grant measure.Grants refl, more-numbers measure.Grants [], no-numbers))
  kinds-are kind.TheVariants.Arrived m e =
      subst (λ (x : Measure). row_number t 0 (bytes_row x) ≡ capped (bytes_handled (is_kind kind.TheVariants.Arrived) S events)) (same_Some measure.Arrivals m e)
      (omega (arith, kind-bytes kind.TheVariants.Arrived (kinds_of S events), counted kind.TheVariants.Arrived measure.Arrivals refl, more-numbers measure.Arrivals [], no-numbers))
  kinds-are kind.TheVariants.Go m e =
      subst (λ (x : Measure). row_number t 0 (bytes_row x) ≡ capped (bytes_handled (is_kind kind.TheVariants.Go) S events)) (same_Some measure.Gos m e)
      (omega (arith, kind-bytes kind.TheVariants.Go (kinds_of S events), counted kind.TheVariants.Go measure.Gos refl, more-numbers measure.Gos [], no-numbers))
  kinds-are kind.TheVariants.Halt m e =
      subst (λ (x : Measure). row_number t 0 (bytes_row x) ≡ capped (bytes_handled (is_kind kind.TheVariants.Halt) S events)) (same_Some measure.Halts m e)
      (omega (arith, kind-bytes kind.TheVariants.Halt (kinds_of S events), counted kind.TheVariants.Halt measure.Halts refl, more-numbers measure.Halts [], no-numbers))

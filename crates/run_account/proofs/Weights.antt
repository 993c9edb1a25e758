-- What the items of a run weigh, where each measure has a weight: two weights that agree on each row of the table agree on each run.
use Rattle.std.proofs.Common.{◌≡◌, ℕ, ◌+◌, ◌<◌, ◌≤◌, Bool, true, false, cond, slice_get, List, [], ◌∷◌, ◌++◌, flat_map, Option, Some, None, refl, sym, ap, subst, ◌∙◌, arith}
use Rattle.std.specs.Prelude.{◌&&◌, ◌==◌, not}
use Rattle.std.specs.List.{enumerate_from}
use Rattle.std.proofs.lemmas.Bool.Decides.{nat_tests}
use Rattle.std.proofs.lemmas.Option.{same_Some}
use Rattle.std.proofs.lemmas.List.Sums.{sum_by-cons}
use Rattle.dn_base.specs.declared.ids.CoreId.{CoreId}
use Rattle.dn_base.specs.declared.ids.WordId.{WordId}
use Rattle.message_net.specs.declared.event.Event.{Event}
use Rattle.message_net.specs.declared.event.Event.TheVariants.{Instr, Evict, Arrive, Handle}
use Rattle.message_net.specs.declared.event.EventKind as kind
use Rattle.message_net.specs.declared.event.EventKind.{EventKind}
use Rattle.message_net.specs.declared.message.Mail.{Mail}
use Rattle.message_net.specs.Kind.{kind_of}
use Rattle.message_net.specs.Pool.{removed}
use Rattle.registration_protocol.specs.Node.{NodeParts}
use Rattle.machine_rules.specs.State.{State}
use Rattle.machine_rules.specs.Next.{next}
use Rattle.run_account.specs.declared.item.Item.{Item}
use Rattle.run_account.specs.declared.item.Grouping.{Grouping}
use Rattle.run_account.specs.declared.item.Grouping.TheVariants as by
use Rattle.run_account.specs.declared.measure.Measure.{Measure}
use Rattle.run_account.specs.declared.measure.Measure.TheVariants as measure
use Rattle.run_account.specs.Measure.{measure_index, same_measure}
use Rattle.run_account.specs.Items.{group_of, is_group, counts_for, count_in}
use Rattle.run_account.specs.Events.{item_if}
use Rattle.run_account.specs.declared.access.AccessKind.{AccessKind}
use Rattle.run_account.specs.declared.access.CountedAccess.{CountedAccess}
use Rattle.run_account.specs.declared.cache.Line.{Line}
use Rattle.run_account.specs.declared.cache.Share.{Share}
use Rattle.run_account.specs.Caches.{SharerCache, share_at}
use Rattle.run_account.specs.Lists.{SharerLists, share_of, is_hit, with_place}
use Rattle.run_account.specs.Counts.{asks, tells, puts, access_item, messages_items, goes_for, gone_items, told_items, others_items, missed_items, waits_here, waits_listed, waits_items, items_by, access_items}
use Rattle.run_account.specs.Runs.{counted_in, served, served_items, node_item, served_mail_items, kind_measure, carried, carried_items, carried_mail_items, value_items, items_of, event_items, next_lists, listed_from}

-- the weight that counts one measure
abbrev pub one : Measure → Measure → ℕ
one m other = cond (same_measure m other) 1 0

-- what messages of these kinds weigh
abbrev pub kinds_weigh : (Measure → ℕ) → List Measure → ℕ
kinds_weigh v [] = 0
kinds_weigh v (kind ∷ kinds) = v measure.ListMessages + v kind + kinds_weigh v kinds

-- what the waits of an access weigh
abbrev pub waits_weigh : (Measure → ℕ) → AccessKind → Bool → Bool → ℕ
waits_weigh v kind waited hit =
    cond waited (v (waits_here kind)) 0 + cond (not hit) (v (waits_listed kind)) 0 + cond (waited && hit) (v measure.WaitsHereAlone) 0
    + cond (not waited && not hit) (v measure.WaitsListAlone) 0

-- two weights agree on each row of the table
pub record AgreeOnRows (v w : Measure → ℕ) : Type 0 where
  pub asks_do : (kind : AccessKind) → kinds_weigh v (asks kind) ≡ kinds_weigh w (asks kind)
  pub tells_do : (kind : AccessKind) (has : Option Share) → kinds_weigh v (tells kind has) ≡ kinds_weigh w (tells kind has)
  pub puts_do : (share : Share) → kinds_weigh v (puts share) ≡ kinds_weigh w (puts share)
  pub waits_do : (kind : AccessKind) (waited hit : Bool) → waits_weigh v kind waited hit ≡ waits_weigh w kind waited hit

-- two weights agree on the measures of traffic, which stand behind all others
abbrev pub AgreeLater : (Measure → ℕ) → (Measure → ℕ) → Type 0
AgreeLater v w = (m : Measure) → 43 ≤ measure_index m → v m ≡ w m

-- one of the measures before them counts none of them
pub none-later : (a m : Measure) → measure_index a < 43 → 43 ≤ measure_index m → one a m ≡ 0
none-later a m low late = apart (measure_index a) (measure_index m) low late where
  apart : (i j : ℕ) → i < 43 → 43 ≤ j → cond {A = ℕ} (i == j) 1 0 ≡ 0
  apart i j low late = let e : (i == j) ≡ false = grind (arith, nat_tests, low, late) in rw e refl

later-of : (a m : Measure) → 43 ≤ measure_index a → Some a ≡ Some m → 43 ≤ measure_index m
later-of a m late e = subst (λ (x : Measure). 43 ≤ measure_index x) (same_Some a m e) late

-- the measures of messages by their kinds are such
pub kind-later : (k : EventKind) (m : Measure) → kind_measure k ≡ Some m → 43 ≤ measure_index m
kind-later kind.TheVariants.Instr m e = absurd (cc)
kind-later kind.TheVariants.Evict m e = absurd (cc)
kind-later kind.TheVariants.Arrive m e = absurd (cc)
kind-later kind.TheVariants.ReadReq m e = later-of measure.ReadReqs m (omega arith) e
kind-later kind.TheVariants.ReadFwd m e = later-of measure.ReadFwds m (omega arith) e
kind-later kind.TheVariants.DataReply m e = later-of measure.DataReplies m (omega arith) e
kind-later kind.TheVariants.RegReq m e = later-of measure.RegReqs m (omega arith) e
kind-later kind.TheVariants.RegFwd m e = later-of measure.RegFwds m (omega arith) e
kind-later kind.TheVariants.RegAck m e = later-of measure.RegAcks m (omega arith) e
kind-later kind.TheVariants.WriteBack m e = later-of measure.WriteBacks m (omega arith) e
kind-later kind.TheVariants.WbAck m e = later-of measure.WbAcks m (omega arith) e
kind-later kind.TheVariants.Acquire m e = later-of measure.Acquires m (omega arith) e
kind-later kind.TheVariants.Release m e = later-of measure.Releases m (omega arith) e
kind-later kind.TheVariants.Grant m e = later-of measure.Grants m (omega arith) e
kind-later kind.TheVariants.Arrived m e = later-of measure.Arrivals m (omega arith) e
kind-later kind.TheVariants.Go m e = later-of measure.Gos m (omega arith) e
kind-later kind.TheVariants.Halt m e = later-of measure.Halts m (omega arith) e

module _ (regions : List ℕ) (grouping : Grouping) (group : ℕ) where
  -- whether an item is in the group, and what items weigh there
  abbrev here : Item → Bool
  here item = is_group group (group_of regions grouping item)

  abbrev pub weight : (Measure → ℕ) → List Item → ℕ
  weight v [] = 0
  weight v (item ∷ items) = cond (here item) (v item.measure) 0 + weight v items

  pub weight-append : (v : Measure → ℕ) (items more : List Item) → weight v (items ++ more) ≡ weight v items + weight v more
  weight-append v [] more = omega arith
  weight-append v (item ∷ items) more = omega (arith, weight-append v items more)

  -- items of one access about one word are in the same group
  same-group : (a : CountedAccess) (word : WordId) (m : Measure) → here (access_item a word m) ≡ here (access_item a word measure.ListMessages)
  same-group a word m = by_grouping grouping where
    by_grouping : (g : Grouping) → is_group group (group_of regions g (access_item a word m)) ≡ is_group group (group_of regions g (access_item a word measure.ListMessages))
    by_grouping by.Run = refl
    by_grouping by.Phase = refl
    by_grouping by.Core = refl
    by_grouping by.Region = refl

  pub kinds-weight : (v : Measure → ℕ) (a : CountedAccess) (word : WordId) (kinds : List Measure)
      → weight v (messages_items a word kinds) ≡ cond (here (access_item a word measure.ListMessages)) (kinds_weigh v kinds) 0
  kinds-weight v a word [] = by_test (here (access_item a word measure.ListMessages)) where
    by_test : (t : Bool) → ◌≡◌ {A = ℕ} 0 (cond t 0 0)
    by_test true = refl
    by_test false = refl
  kinds-weight v a word (kind ∷ kinds) =
      rw (same-group a word kind, kinds-weight v a word kinds) (by_test (here (access_item a word measure.ListMessages)))
    where
      by_test : (t : Bool) → cond t (v measure.ListMessages) 0 + (cond t (v kind) 0 + cond t (kinds_weigh v kinds) 0) ≡ cond t (v measure.ListMessages + v kind + kinds_weigh v kinds) 0
      by_test true = omega arith
      by_test false = refl

  pub waits-weight : (v : Measure → ℕ) (a : CountedAccess) (hit waited : Bool)
      → weight v (item_if waited (access_item a a.word (waits_here a.kind)) ++ item_if (not hit) (access_item a a.word (waits_listed a.kind)) ++ item_if (waited && hit) (access_item a a.word measure.WaitsHereAlone) ++ item_if (not waited && not hit) (access_item a a.word measure.WaitsListAlone))
      ≡ cond (here (access_item a a.word measure.ListMessages)) (waits_weigh v a.kind waited hit) 0
  waits-weight v a true true =
      rw (same-group a a.word (waits_here a.kind), same-group a a.word measure.WaitsHereAlone) (by_test (here (access_item a a.word measure.ListMessages)))
    where
      by_test : (t : Bool) → cond t (v (waits_here a.kind)) 0 + (cond t (v measure.WaitsHereAlone) 0 + 0) ≡ cond t (waits_weigh v a.kind true true) 0
      by_test true = omega arith
      by_test false = refl
  waits-weight v a true false = by_test (here (access_item a a.word measure.ListMessages)) where
    by_test : (t : Bool) → ◌≡◌ {A = ℕ} 0 (cond t (waits_weigh v a.kind false true) 0)
    by_test true = omega arith
    by_test false = refl
  waits-weight v a false true =
      rw (same-group a a.word (waits_here a.kind), same-group a a.word (waits_listed a.kind)) (by_test (here (access_item a a.word measure.ListMessages)))
    where
      by_test : (t : Bool) → cond t (v (waits_here a.kind)) 0 + (cond t (v (waits_listed a.kind)) 0 + 0) ≡ cond t (waits_weigh v a.kind true false) 0
      by_test true = omega arith
      by_test false = refl
  waits-weight v a false false =
      rw (same-group a a.word (waits_listed a.kind), same-group a a.word measure.WaitsListAlone) (by_test (here (access_item a a.word measure.ListMessages)))
    where
      by_test : (t : Bool) → cond t (v (waits_listed a.kind)) 0 + (cond t (v measure.WaitsListAlone) 0 + 0) ≡ cond t (waits_weigh v a.kind false false) 0
      by_test true = omega arith
      by_test false = refl

  -- ---- two weights that agree on each row

  module _ (v w : Measure → ℕ) (agree : AgreeOnRows v w) where
    both : (items more : List Item) → weight v items ≡ weight w items → weight v more ≡ weight w more → weight v (items ++ more) ≡ weight w (items ++ more)
    both items more first second = omega (arith, first, second, weight-append v items more, weight-append w items more)

    kinds-agree : (a : CountedAccess) (word : WordId) (kinds : List Measure) → kinds_weigh v kinds ≡ kinds_weigh w kinds → weight v (messages_items a word kinds) ≡ weight w (messages_items a word kinds)
    kinds-agree a word kinds same =
        kinds-weight v a word kinds ∙ ap (λ (n : ℕ). cond (here (access_item a word measure.ListMessages)) n 0) same ∙ sym (kinds-weight w a word kinds)

    gone-agree : (a : CountedAccess) (line : Option Line) → weight v (gone_items a line) ≡ weight w (gone_items a line)
    gone-agree a None = refl
    gone-agree a (Some line) = kinds-agree a line.word (puts line.share) (agree.puts_do line.share)

    told-agree : (a : CountedAccess) (c : ℕ) (cache : SharerCache) → weight v (told_items a (c, cache)) ≡ weight w (told_items a (c, cache))
    told-agree a c cache = by_core (c == a.core.0) where
      by_core : (t : Bool) → weight v (cond t [] (messages_items a a.word (tells a.kind (share_at cache a.word.0)))) ≡ weight w (cond t [] (messages_items a a.word (tells a.kind (share_at cache a.word.0))))
      by_core true = refl
      by_core false = kinds-agree a a.word (tells a.kind (share_at cache a.word.0)) (agree.tells_do a.kind (share_at cache a.word.0))

    all-told-agree : (a : CountedAccess) (ps : List (ℕ × SharerCache)) → weight v (flat_map (told_items a) ps) ≡ weight w (flat_map (told_items a) ps)
    all-told-agree a [] = refl
    all-told-agree a ((c, cache) ∷ ps) = both (told_items a (c, cache)) (flat_map (told_items a) ps) (told-agree a c cache) (all-told-agree a ps)

    missed-agree : (L : SharerLists) (a : CountedAccess) (had : Option Share) → weight v (missed_items L a had) ≡ weight w (missed_items L a had)
    missed-agree L a had =
        both (gone_items a (goes_for L a had) ++ messages_items a a.word (asks a.kind)) (others_items (with_place L a had) a)
        (both (gone_items a (goes_for L a had)) (messages_items a a.word (asks a.kind)) (gone-agree a (goes_for L a had)) (kinds-agree a a.word (asks a.kind) (agree.asks_do a.kind)))
        (all-told-agree a (enumerate_from 0 (with_place L a had).caches))

    waits-agree : (a : CountedAccess) (hit : Bool) → weight v (waits_items a hit) ≡ weight w (waits_items a hit)
    waits-agree a hit =
        waits-weight v a hit a.waited ∙ ap (λ (n : ℕ). cond (here (access_item a a.word measure.ListMessages)) n 0) (agree.waits_do a.kind a.waited hit) ∙ sym (waits-weight w a hit a.waited)

    pub access-agree : (L : SharerLists) (a : CountedAccess) → weight v (access_items L a) ≡ weight w (access_items L a)
    unfolding access_items
    access-agree L a = by_share (share_of L a.core.0 a.word.0) where
      by_share : (had : Option Share) → weight v (items_by L a had) ≡ weight w (items_by L a had)
      by_share had = both (waits_items a (is_hit a.kind had)) (cond (is_hit a.kind had) [] (missed_items L a had)) (waits-agree a (is_hit a.kind had)) (by_hit (is_hit a.kind had)) where
        by_hit : (t : Bool) → weight v (cond t [] (missed_items L a had)) ≡ weight w (cond t [] (missed_items L a had))
        by_hit true = refl
        by_hit false = missed-agree L a had

  -- ---- two weights that agree on the measures of traffic

  module _ (v w : Measure → ℕ) (later : AgreeLater v w) where
    carried-agree : (S : State) (o : Option (CoreId × Option WordId)) (m : Option Measure) → ((k : Measure) → m ≡ Some k → v k ≡ w k)
        → weight v (carried_items S o m) ≡ weight w (carried_items S o m)
    carried-agree S None m same = refl
    carried-agree S (Some (core, word)) None same = refl
    carried-agree S (Some (core, word)) (Some m) same = rw (same m refl) refl

    pub kinds-agree-on : (S : State) (m : Option Mail) → weight v (carried_mail_items S m) ≡ weight w (carried_mail_items S m)
    kinds-agree-on S None = refl
    kinds-agree-on S (Some m) = carried-agree S (carried m.to m.message) (kind_measure (kind_of m.message)) (λ k e. later k (kind-later (kind_of m.message) k e))

    pub values-agree : (a : CountedAccess) (had : Option Share) → weight v (value_items a had) ≡ weight w (value_items a had)
    values-agree a None = rw (later measure.ListReplyValues (omega arith)) refl
    values-agree a (Some held) = refl

  module _ (v w : Measure → ℕ) (agree : AgreeOnRows v w) (messages_do : v measure.Messages ≡ w measure.Messages) (later : AgreeLater v w) where
    served-agree : (S : State) (o : Option (CoreId × WordId)) → weight v (served_items S o) ≡ weight w (served_items S o)
    served-agree S None = refl
    served-agree S (Some (core, word)) = by_node (slice_get S.nodes core.0) where
      by_node : (there : Option NodeParts) → weight v (node_item core word there) ≡ weight w (node_item core word there)
      by_node None = refl
      by_node (Some n) = rw messages_do refl

    mail-agree : (S : State) (m : Option Mail) → weight v (served_mail_items S m) ≡ weight w (served_mail_items S m)
    mail-agree S None = refl
    mail-agree S (Some m) = served-agree S (served m.to m.message)

    items-agree : (L : SharerLists) (o : Option CountedAccess) → weight v (items_of L o) ≡ weight w (items_of L o)
    items-agree L None = refl
    items-agree L (Some a) =
        both v w agree (value_items a (share_of L a.core.0 a.word.0)) (access_items L a) (values-agree v w later a (share_of L a.core.0 a.word.0)) (access-agree v w agree L a)

    event-agree : (S : State) (L : SharerLists) (e : Event) → weight v (event_items S L e) ≡ weight w (event_items S L e)
    unfolding event_items
    event-agree S L (Instr core) = items-agree L (counted_in S (Instr core))
    event-agree S L (Evict core word) = refl
    event-agree S L (Arrive core) = refl
    event-agree S L (Handle id) =
        both v w agree (served_mail_items S (removed id S.mails).0) (carried_mail_items S (removed id S.mails).0) (mail-agree S (removed id S.mails).0) (kinds-agree-on v w later S (removed id S.mails).0)

    pub run-agree : (S : State) (L : SharerLists) (events : List Event) → weight v (listed_from S L events) ≡ weight w (listed_from S L events)
    run-agree S L [] = refl
    run-agree S L (e ∷ es) = both v w agree (event_items S L e) (listed_from (next S e) (next_lists S e L) es) (event-agree S L e) (run-agree (next S e) (next_lists S e L) es)

  -- ---- numbers are weights

  pub number-weight : (m : Measure) (items : List Item) → count_in regions grouping m group items ≡ weight (one m) items
  number-weight m [] = refl
  number-weight m (item ∷ items) =
      sum_by-cons (λ (x : Item). cond (counts_for regions grouping m group x) 1 0) item items
      ∙ rw (number-weight m items) (by_tests (same_measure m item.measure) (here item))
    where
      by_tests : (s t : Bool) → cond (s && t) 1 0 + weight (one m) items ≡ cond t (cond s 1 0) 0 + weight (one m) items
      by_tests true true = refl
      by_tests true false = refl
      by_tests false true = refl
      by_tests false false = refl

  pub weight-plus : (v w : Measure → ℕ) (items : List Item) → weight (λ (m : Measure). v m + w m) items ≡ weight v items + weight w items
  weight-plus v w [] = refl
  weight-plus v w (item ∷ items) = by_test (here item) (weight-plus v w items) where
    by_test : (t : Bool) → weight (λ (m : Measure). v m + w m) items ≡ weight v items + weight w items
        → cond t (v item.measure + w item.measure) 0 + weight (λ (m : Measure). v m + w m) items ≡ cond t (v item.measure) 0 + weight v items + (cond t (w item.measure) 0 + weight w items)
    by_test true rest = omega (arith, rest)
    by_test false rest = omega (arith, rest)

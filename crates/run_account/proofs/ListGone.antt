-- The lines that go to make room are those that put-acks acknowledge.
use Rattle.std.proofs.Common.{◌≡◌, ℕ, ◌+◌, Bool, true, false, cond, length, slice_get, List, [], ◌∷◌, ◌++◌, flat_map, Option, Some, None, refl, sym, ap, ◌∙◌, arith}
use Rattle.std.specs.Prelude.{◌==◌, count_by}
use Rattle.std.specs.List.{enumerate_from, cons_option}
use Rattle.std.proofs.lemmas.List.Sums.{sum_by-cons}
use Rattle.dn_base.specs.declared.ids.CoreId.{CoreId}
use Rattle.dn_base.specs.declared.ids.WordId.{WordId}
use Rattle.message_net.specs.declared.event.Event.{Event}
use Rattle.message_net.specs.declared.event.Event.TheVariants.{Instr, Evict, Arrive, Handle}
use Rattle.message_net.specs.declared.message.Mail.{Mail}
use Rattle.message_net.specs.Pool.{removed}
use Rattle.registration_protocol.specs.Node.{NodeParts}
use Rattle.machine_rules.specs.State.{State}
use Rattle.machine_rules.specs.Next.{next}
use Rattle.machine_rules.specs.Accesses.{access_in}
use Rattle.run_account.specs.declared.item.Item.{Item}
use Rattle.run_account.specs.declared.item.Grouping.TheVariants as by
use Rattle.run_account.specs.declared.measure.Measure.{Measure}
use Rattle.run_account.specs.declared.measure.Measure.TheVariants as measure
use Rattle.run_account.specs.declared.access.AccessKind.{AccessKind}
use Rattle.run_account.specs.declared.access.AccessKind.TheVariants.{Load, Store}
use Rattle.run_account.specs.declared.access.CountedAccess.{CountedAccess}
use Rattle.run_account.specs.declared.cache.Line.{Line}
use Rattle.run_account.specs.declared.cache.Share.{Share}
use Rattle.run_account.specs.declared.cache.Share.TheVariants.{Shared, Owned}
use Rattle.run_account.specs.Caches.{SharerCache, share_at}
use Rattle.run_account.specs.Lists.{SharerLists, no_lists, share_of, is_hit, with_place}
use Rattle.run_account.specs.Counts.{asks, tells, puts, messages_items, goes_for, gone_items, told_items, others_items, missed_items, waits_items, items_by, access_items}
use Rattle.run_account.specs.Runs.{counted_in, served, served_items, node_item, served_mail_items, carried_mail_items, value_items, items_of, event_items, next_lists, listed_from, number_of_both, gone_by, gone_from, gone_in_run, is_share_shared, is_shared_line}
use Rattle.run_account.proofs.Mails.{measured-weight, zero_weight, zero-is}
use Rattle.run_account.proofs.Weights.{one, kinds_weigh, waits_weigh, weight, weight-append, kinds-weight, waits-weight, AgreeLater, none-later, kinds-agree-on, values-agree}

-- a weight of the messages about lines that go alone
record IsOfGone (v : Measure → ℕ) (u : Share → ℕ) : Type 0 where
  asks_none : (kind : AccessKind) → kinds_weigh v (asks kind) ≡ 0
  tells_none : (kind : AccessKind) (has : Option Share) → kinds_weigh v (tells kind has) ≡ 0
  puts_are : (share : Share) → kinds_weigh v (puts share) ≡ u share
  waits_none : (kind : AccessKind) (waited hit : Bool) → waits_weigh v kind waited hit ≡ 0
  messages_none : v measure.Messages ≡ 0
  later_none : AgreeLater v zero_weight

-- what lines weigh
abbrev lines_weigh : (Share → ℕ) → List Line → ℕ
lines_weigh u [] = 0
lines_weigh u (line ∷ lines) = u line.share + lines_weigh u lines

abbrev line_weighs : (Share → ℕ) → Option Line → ℕ
line_weighs u None = 0
line_weighs u (Some line) = u line.share

lines-cons : (u : Share → ℕ) (o : Option Line) (lines : List Line) → lines_weigh u (cons_option o lines) ≡ line_weighs u o + lines_weigh u lines
lines-cons u None lines = omega arith
lines-cons u (Some line) lines = refl

hit-keeps : (L : SharerLists) (a : CountedAccess) (kind : AccessKind) (had : Option Share) → is_hit kind had ≡ true → goes_for L a had ≡ None
hit-keeps L a Load None e = absurd (cc)
hit-keeps L a Store None e = absurd (cc)
hit-keeps L a kind (Some held) e = refl

module _ (v : Measure → ℕ) (u : Share → ℕ) (of : IsOfGone v u) where
  abbrev W : List Item → ℕ
  W items = weight [] by.Run 0 v items

  W-append : (items more : List Item) → W (items ++ more) ≡ W items + W more
  W-append items more = weight-append [] by.Run 0 v items more

  kinds-are : (a : CountedAccess) (word : WordId) (kinds : List Measure) → W (messages_items a word kinds) ≡ kinds_weigh v kinds
  kinds-are a word kinds = kinds-weight [] by.Run 0 v a word kinds

  gone-are : (a : CountedAccess) (line : Option Line) → W (gone_items a line) ≡ line_weighs u line
  gone-are a None = refl
  gone-are a (Some line) = kinds-are a line.word (puts line.share) ∙ of.puts_are line.share

  told-none : (a : CountedAccess) (c : ℕ) (cache : SharerCache) → W (told_items a (c, cache)) ≡ 0
  told-none a c cache = by_core (c == a.core.0) where
    by_core : (t : Bool) → W (cond t [] (messages_items a a.word (tells a.kind (share_at cache a.word.0)))) ≡ 0
    by_core true = refl
    by_core false = kinds-are a a.word (tells a.kind (share_at cache a.word.0)) ∙ of.tells_none a.kind (share_at cache a.word.0)

  others-none : (a : CountedAccess) (ps : List (ℕ × SharerCache)) → W (flat_map (told_items a) ps) ≡ 0
  others-none a [] = refl
  others-none a ((c, cache) ∷ ps) = omega (arith, W-append (told_items a (c, cache)) (flat_map (told_items a) ps), told-none a c cache, others-none a ps)

  missed-are : (L : SharerLists) (a : CountedAccess) (had : Option Share) → W (missed_items L a had) ≡ line_weighs u (goes_for L a had)
  missed-are L a had =
      omega (
        arith,
        W-append (gone_items a (goes_for L a had) ++ messages_items a a.word (asks a.kind)) (others_items (with_place L a had) a),
        W-append (gone_items a (goes_for L a had)) (messages_items a a.word (asks a.kind)),
        gone-are a (goes_for L a had),
        kinds-are a a.word (asks a.kind),
        of.asks_none a.kind,
        others-none a (enumerate_from 0 (with_place L a had).caches),
      )

  access-are : (L : SharerLists) (a : CountedAccess) → W (access_items L a) ≡ line_weighs u (gone_by L (Some a))
  unfolding access_items
  access-are L a = by_share (share_of L a.core.0 a.word.0) where
    by_share : (had : Option Share) → W (items_by L a had) ≡ line_weighs u (goes_for L a had)
    by_share had = omega (arith, W-append (waits_items a (is_hit a.kind had)) (cond (is_hit a.kind had) [] (missed_items L a had)), waits, by_hit (is_hit a.kind had) refl) where
      waits : W (waits_items a (is_hit a.kind had)) ≡ 0
      waits = waits-weight [] by.Run 0 v a (is_hit a.kind had) a.waited ∙ of.waits_none a.kind a.waited (is_hit a.kind had)

      by_hit : (t : Bool) → is_hit a.kind had ≡ t → W (cond t [] (missed_items L a had)) ≡ line_weighs u (goes_for L a had)
      by_hit true e = sym (ap (line_weighs u) (hit-keeps L a a.kind had e))
      by_hit false e = missed-are L a had

  served-none : (S : State) (o : Option (CoreId × WordId)) → W (served_items S o) ≡ 0
  served-none S None = refl
  served-none S (Some (core, word)) = by_node (slice_get S.nodes core.0) where
    by_node : (there : Option NodeParts) → W (node_item core word there) ≡ 0
    by_node None = refl
    by_node (Some n) = omega (arith, of.messages_none)

  mail-none : (S : State) (m : Option Mail) → W (served_mail_items S m) ≡ 0
  mail-none S None = refl
  mail-none S (Some m) = served-none S (served m.to m.message)

  items-are : (L : SharerLists) (o : Option CountedAccess) → W (items_of L o) ≡ line_weighs u (gone_by L o)
  items-are L None = refl
  items-are L (Some a) =
      omega (
        arith,
        W-append (value_items a (share_of L a.core.0 a.word.0)) (access_items L a),
        values-agree [] by.Run 0 v zero_weight of.later_none a (share_of L a.core.0 a.word.0),
        zero-is (value_items a (share_of L a.core.0 a.word.0)),
        access-are L a,
      )

  event-are : (S : State) (L : SharerLists) (e : Event) → W (event_items S L e) ≡ line_weighs u (gone_by L (counted_in S e))
  unfolding event_items counted_in access_in
  event-are S L (Instr core) = items-are L (counted_in S (Instr core))
  event-are S L (Evict core word) = refl
  event-are S L (Arrive core) = refl
  event-are S L (Handle id) =
      omega (
        arith,
        W-append (served_mail_items S (removed id S.mails).0) (carried_mail_items S (removed id S.mails).0),
        mail-none S (removed id S.mails).0,
        kinds-agree-on [] by.Run 0 v zero_weight of.later_none S (removed id S.mails).0,
        zero-is (carried_mail_items S (removed id S.mails).0),
      )

  run-are : (events : List Event) (S : State) (L : SharerLists) → W (listed_from S L events) ≡ lines_weigh u (gone_from S L events)
  run-are [] S L = refl
  run-are (e ∷ es) S L =
      omega (
        arith,
        W-append (event_items S L e) (listed_from (next S e) (next_lists S e L) es),
        event-are S L e,
        run-are es (next S e) (next_lists S e L),
        lines-cons u (gone_by L (counted_in S e)) (gone_from (next S e) (next_lists S e L) es),
      )

-- ---- put-acks and put-shares

abbrev each_one : Share → ℕ
each_one _ = 1

abbrev shared_one : Share → ℕ
shared_one share = cond (is_share_shared share) 1 0

acks-gone : IsOfGone (one measure.ListPutAcks) each_one
acks-gone = record { asks_none = asks_none; tells_none = tells_none; puts_are = puts_are; waits_none = waits_none; messages_none = refl; later_none = λ m late. none-later measure.ListPutAcks m (omega arith) late } where
  asks_none : (kind : AccessKind) → kinds_weigh (one measure.ListPutAcks) (asks kind) ≡ 0
  asks_none Load = refl
  asks_none Store = refl

  tells_none : (kind : AccessKind) (has : Option Share) → kinds_weigh (one measure.ListPutAcks) (tells kind has) ≡ 0
  tells_none Load None = refl
  tells_none Load (Some Shared) = refl
  tells_none Load (Some Owned) = refl
  tells_none Store None = refl
  tells_none Store (Some Shared) = refl
  tells_none Store (Some Owned) = refl

  puts_are : (share : Share) → kinds_weigh (one measure.ListPutAcks) (puts share) ≡ each_one share
  puts_are Shared = refl
  puts_are Owned = refl

  waits_none : (kind : AccessKind) (waited hit : Bool) → waits_weigh (one measure.ListPutAcks) kind waited hit ≡ 0
  waits_none Load true true = refl
  waits_none Load true false = refl
  waits_none Load false true = refl
  waits_none Load false false = refl
  waits_none Store true true = refl
  waits_none Store true false = refl
  waits_none Store false true = refl
  waits_none Store false false = refl

shares-gone : IsOfGone (one measure.ListPutShares) shared_one
shares-gone = record { asks_none = asks_none; tells_none = tells_none; puts_are = puts_are; waits_none = waits_none; messages_none = refl; later_none = λ m late. none-later measure.ListPutShares m (omega arith) late } where
  asks_none : (kind : AccessKind) → kinds_weigh (one measure.ListPutShares) (asks kind) ≡ 0
  asks_none Load = refl
  asks_none Store = refl

  tells_none : (kind : AccessKind) (has : Option Share) → kinds_weigh (one measure.ListPutShares) (tells kind has) ≡ 0
  tells_none Load None = refl
  tells_none Load (Some Shared) = refl
  tells_none Load (Some Owned) = refl
  tells_none Store None = refl
  tells_none Store (Some Shared) = refl
  tells_none Store (Some Owned) = refl

  puts_are : (share : Share) → kinds_weigh (one measure.ListPutShares) (puts share) ≡ shared_one share
  puts_are Shared = refl
  puts_are Owned = refl

  waits_none : (kind : AccessKind) (waited hit : Bool) → waits_weigh (one measure.ListPutShares) kind waited hit ≡ 0
  waits_none Load true true = refl
  waits_none Load true false = refl
  waits_none Load false true = refl
  waits_none Load false false = refl
  waits_none Store true true = refl
  waits_none Store true false = refl
  waits_none Store false true = refl
  waits_none Store false false = refl

lines-length : (lines : List Line) → lines_weigh each_one lines ≡ length lines
lines-length [] = refl
lines-length (line ∷ lines) = omega (arith, lines-length lines)

lines-shared : (lines : List Line) → lines_weigh shared_one lines ≡ count_by is_shared_line lines
lines-shared [] = refl
lines-shared (line ∷ lines) =
    ap (λ (n : ℕ). shared_one line.share + n) (lines-shared lines) ∙ sym (sum_by-cons (λ (x : Line). cond (is_shared_line x) 1 0) line lines)

pub acks-are : (S : State) (events : List Event) → number_of_both measure.ListPutAcks S events ≡ length (gone_in_run S events)
acks-are S events =
    measured-weight measure.ListPutAcks (listed_from S (no_lists S.setting.shape) events)
    ∙ run-are (one measure.ListPutAcks) each_one acks-gone events S (no_lists S.setting.shape)
    ∙ lines-length (gone_in_run S events)

pub shares-are : (S : State) (events : List Event) → number_of_both measure.ListPutShares S events ≡ count_by is_shared_line (gone_in_run S events)
shares-are S events =
    measured-weight measure.ListPutShares (listed_from S (no_lists S.setting.shape) events)
    ∙ run-are (one measure.ListPutShares) shared_one shares-gone events S (no_lists S.setting.shape)
    ∙ lines-shared (gone_in_run S events)

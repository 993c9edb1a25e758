-- Each mail about a word is one message of the run.
use Rattle.std.proofs.Common.{◌≡◌, ℕ, ◌+◌, Bool, true, false, cond, List, [], ◌∷◌, ◌++◌, Option, Some, None, refl, sym, ap, ◌∙◌, arith}
use Rattle.std.specs.Prelude.{count_by}
use Rattle.std.specs.Option.{is_some}
use Rattle.std.proofs.lemmas.List.Sums.{sum_by-cons, sum_by-append}
use Rattle.dn_base.specs.declared.ids.CoreId.{CoreId}
use Rattle.dn_base.specs.declared.ids.WordId.{WordId}
use Rattle.message_net.specs.declared.actor.Actor.{Actor}
use Rattle.message_net.specs.declared.actor.Actor.TheVariants.{Core, Bank, Keeper}
use Rattle.message_net.specs.declared.event.Event.{Event}
use Rattle.message_net.specs.declared.event.Event.TheVariants.{Instr, Evict, Arrive, Handle}
use Rattle.message_net.specs.declared.event.EventKind.{EventKind}
use Rattle.message_net.specs.declared.message.Mail.{Mail}
use Rattle.message_net.specs.declared.message.Message as message
use Rattle.message_net.specs.declared.message.Message.{Message}
use Rattle.message_net.specs.Kind.{kind_of}
use Rattle.message_net.specs.Pool.{removed}
use Rattle.registration_protocol.specs.Node.{NodeParts, Setting}
use Rattle.machine_rules.specs.State.{State, initial_state}
use Rattle.machine_rules.specs.Next.{next, kind_in, kind_with}
use Rattle.machine_rules.specs.Runs.{IsRun, kinds_of}
use Rattle.machine_rules.specs.Sound.{IsReady}
use Rattle.machine_rules.specs.Coherent.{Coherent, IsExpected}
use Rattle.machine_rules.proofs.RunsCoherent.{run-coherent}
use Rattle.run_account.specs.declared.item.Item.{Item}
use Rattle.run_account.specs.declared.item.Grouping.TheVariants as by
use Rattle.run_account.specs.declared.measure.Measure.{Measure}
use Rattle.run_account.specs.declared.measure.Measure.TheVariants as measure
use Rattle.run_account.specs.Measure.{same_measure}
use Rattle.run_account.specs.Items.{items_of_measure}
use Rattle.run_account.specs.Kinds.{StaysCoherent}
use Rattle.run_account.proofs.Known.{KnowsWords, AllNodes}
use Rattle.run_account.proofs.Staying.{next-kept, words-stay, opened-known}
use Rattle.run_account.proofs.Told.{was-there}
use Rattle.run_account.specs.declared.access.AccessKind.{AccessKind}
use Rattle.run_account.specs.declared.access.AccessKind.TheVariants.{Load, Store}
use Rattle.run_account.specs.declared.access.CountedAccess.{CountedAccess}
use Rattle.run_account.specs.declared.cache.Share.{Share}
use Rattle.run_account.specs.declared.cache.Share.TheVariants.{Shared, Owned}
use Rattle.run_account.specs.Lists.{SharerLists, no_lists, share_of}
use Rattle.run_account.specs.Counts.{asks, tells, puts, access_items}
use Rattle.run_account.specs.Runs.{counted_in, served, served_items, node_item, served_mail_items, carried_mail_items, value_items, items_of, event_items, next_lists, listed_from, number_of_both, is_about_word}
use Rattle.run_account.proofs.Placed.{IsServed, served-by}
use Rattle.run_account.proofs.Weights.{one, kinds_weigh, waits_weigh, weight, weight-append, AgreeOnRows, AgreeLater, none-later, kinds-agree-on, values-agree, access-agree}

-- ---- an access is no message of the run

abbrev pub zero_weight : Measure → ℕ
zero_weight m = 0

no-messages : AgreeOnRows (one measure.Messages) zero_weight
no-messages = record { asks_do = asks_do; tells_do = tells_do; puts_do = puts_do; waits_do = waits_do } where
  asks_do : (kind : AccessKind) → kinds_weigh (one measure.Messages) (asks kind) ≡ kinds_weigh zero_weight (asks kind)
  asks_do Load = refl
  asks_do Store = refl

  tells_do : (kind : AccessKind) (has : Option Share) → kinds_weigh (one measure.Messages) (tells kind has) ≡ kinds_weigh zero_weight (tells kind has)
  tells_do Load None = refl
  tells_do Load (Some Shared) = refl
  tells_do Load (Some Owned) = refl
  tells_do Store None = refl
  tells_do Store (Some Shared) = refl
  tells_do Store (Some Owned) = refl

  puts_do : (share : Share) → kinds_weigh (one measure.Messages) (puts share) ≡ kinds_weigh zero_weight (puts share)
  puts_do Shared = refl
  puts_do Owned = refl

  waits_do : (kind : AccessKind) (waited hit : Bool) → waits_weigh (one measure.Messages) kind waited hit ≡ waits_weigh zero_weight kind waited hit
  waits_do Load true true = refl
  waits_do Load true false = refl
  waits_do Load false true = refl
  waits_do Load false false = refl
  waits_do Store true true = refl
  waits_do Store true false = refl
  waits_do Store false true = refl
  waits_do Store false false = refl

-- the weight in the one group of the run is the number of a measure
pub measured-weight : (m : Measure) (items : List Item) → items_of_measure m items ≡ weight [] by.Run 0 (one m) items
measured-weight m [] = refl
measured-weight m (item ∷ items) =
    sum_by-cons (λ (x : Item). cond (same_measure m x.measure) 1 0) item items ∙ ap (λ (n : ℕ). cond (same_measure m item.measure) 1 0 + n) (measured-weight m items)

pub zero-is : (items : List Item) → weight [] by.Run 0 zero_weight items ≡ 0
zero-is [] = refl
zero-is (item ∷ items) = omega (arith, zero-is items)

later-none : AgreeLater (one measure.Messages) zero_weight
later-none m late = none-later measure.Messages m (omega arith) late

access-none : (L : SharerLists) (o : Option CountedAccess) → items_of_measure measure.Messages (items_of L o) ≡ 0
access-none L None = refl
access-none L (Some a) =
    omega (
      arith,
      measured-weight measure.Messages (value_items a (share_of L a.core.0 a.word.0) ++ access_items L a),
      weight-append [] by.Run 0 (one measure.Messages) (value_items a (share_of L a.core.0 a.word.0)) (access_items L a),
      values-agree [] by.Run 0 (one measure.Messages) zero_weight later-none a (share_of L a.core.0 a.word.0),
      zero-is (value_items a (share_of L a.core.0 a.word.0)),
      access-agree [] by.Run 0 (one measure.Messages) zero_weight no-messages L a,
      zero-is (access_items L a),
    )

-- ---- a mail is one if it is about a word

kind-served : (to : Actor) (m : Message) → (S : State) → IsExpected S to m → is_about_word (kind_of m) ≡ is_some (served to m)
kind-served to (message.TheVariants.ReadReq word reader) S is = refl
kind-served to (message.TheVariants.ReadFwd word reader) S is = refl
kind-served (Core core) (message.TheVariants.DataReply word value) S is = refl
kind-served (Bank bank) (message.TheVariants.DataReply word value) S is = absurd is
kind-served Keeper (message.TheVariants.DataReply word value) S is = absurd is
kind-served to (message.TheVariants.RegReq word core) S is = refl
kind-served to (message.TheVariants.RegFwd word core) S is = refl
kind-served (Core core) (message.TheVariants.RegAck word) S is = refl
kind-served (Bank bank) (message.TheVariants.RegAck word) S is = absurd is
kind-served Keeper (message.TheVariants.RegAck word) S is = absurd is
kind-served to (message.TheVariants.WriteBack word value core) S is = refl
kind-served (Core core) (message.TheVariants.WbAck word) S is = refl
kind-served (Bank bank) (message.TheVariants.WbAck word) S is = absurd is
kind-served Keeper (message.TheVariants.WbAck word) S is = absurd is
kind-served to (message.TheVariants.Acquire lock core) S is = refl
kind-served to (message.TheVariants.Release lock core signature) S is = refl
kind-served to (message.TheVariants.Grant lock signature) S is = refl
kind-served to (message.TheVariants.Arrived core bad) S is = refl
kind-served to (message.TheVariants.Go phase) S is = refl
kind-served to message.TheVariants.Halt S is = refl

served-one : (S : State) (o : Option (CoreId × WordId)) → IsServed S o → items_of_measure measure.Messages (served_items S o) ≡ cond (is_some o) 1 0
served-one S None is = refl
served-one S (Some (core, word)) (n, found, within) =
    ap (λ (there : Option NodeParts). items_of_measure measure.Messages (node_item core word there)) found

module _ (S : State) (known : AllNodes KnowsWords S) (coherent : Coherent S) where
  mail-one : (took : Option Mail) → ((m : Mail) → took ≡ Some m → IsExpected S m.to m.message) → items_of_measure measure.Messages (served_mail_items S took) ≡ cond (is_about_word (kind_with took)) 1 0
  mail-one None is = refl
  mail-one (Some m) is =
      let expected = is m refl in
      served-one S (served m.to m.message) (served-by S known m.to m.message expected)
      ∙ ap (λ (t : Bool). cond t 1 0) (sym (kind-served m.to m.message S expected))

  event-one : (L : SharerLists) (e : Event) → items_of_measure measure.Messages (event_items S L e) ≡ cond (is_about_word (kind_in S e)) 1 0
  unfolding event_items kind_in
  event-one L (Instr core) = access-none L (counted_in S (Instr core))
  event-one L (Evict core word) = refl
  event-one L (Arrive core) = refl
  event-one L (Handle id) =
      omega (
        arith,
        measured-weight measure.Messages (served_mail_items S (removed id S.mails).0 ++ carried_mail_items S (removed id S.mails).0),
        weight-append [] by.Run 0 (one measure.Messages) (served_mail_items S (removed id S.mails).0) (carried_mail_items S (removed id S.mails).0),
        measured-weight measure.Messages (served_mail_items S (removed id S.mails).0),
        mail-one (removed id S.mails).0 (λ m e. coherent.expected m (was-there S id m e)),
        kinds-agree-on [] by.Run 0 (one measure.Messages) zero_weight later-none S (removed id S.mails).0,
        zero-is (carried_mail_items S (removed id S.mails).0),
      )

run-messages : (events : List Event) (S : State) (L : SharerLists) → AllNodes KnowsWords S → StaysCoherent S → IsRun S events
    → items_of_measure measure.Messages (listed_from S L events) ≡ count_by is_about_word (kinds_of S events)
run-messages [] S L known coherent run = refl
run-messages (e ∷ es) S L known coherent run =
    sum_by-append (λ (x : Item). cond (same_measure measure.Messages x.measure) 1 0) (event_items S L e) (listed_from (next S e) (next_lists S e L) es)
    ∙ rw (
      event-one S known (coherent [] tt) L e,
      run-messages es (next S e) (next_lists S e L) (next-kept KnowsWords words-stay S e run.0 known) (λ more runs. coherent (e ∷ more) (run.0, runs)) run.1,
    ) (sym (sum_by-cons (λ (kind : EventKind). cond (is_about_word kind) 1 0) (kind_in S e) (kinds_of (next S e) es)))

pub messages-are-mails : (C : Setting) (events : List Event) → IsReady C → IsRun (initial_state C) events
    → number_of_both measure.Messages (initial_state C) events ≡ count_by is_about_word (kinds_of (initial_state C) events)
messages-are-mails C events ready run =
    run-messages events (initial_state C) (no_lists (initial_state C).setting.shape) (opened-known C) (λ more runs. run-coherent C more ready runs) run

-- Which numbers of a run beside lists add up.
use Rattle.std.proofs.Common.{◌≡◌, ℕ, ◌+◌, Bool, true, false, List, Option, Some, None, refl, sym, ap, ◌∙◌, arith}
use Rattle.message_net.specs.declared.event.Event.{Event}
use Rattle.machine_rules.specs.State.{State}
use Rattle.run_account.specs.declared.item.Item.{Item}
use Rattle.run_account.specs.declared.item.Grouping.{Grouping}
use Rattle.run_account.specs.declared.measure.Measure.{Measure}
use Rattle.run_account.specs.declared.measure.Measure.TheVariants.{Messages, WaitsRead, WaitsWrite, ListMessages, ListReadRequests, ListWriteRequests, ListForwards, ListReplies, ListInvalidations, ListAcknowledgements, ListPutBacks, ListPutShares, ListPutAcks, ListWaitsRead, ListWaitsWrite, WaitsHereAlone, WaitsListAlone}
use Rattle.run_account.specs.Items.{regions_from}
use Rattle.run_account.specs.declared.access.AccessKind.{AccessKind}
use Rattle.run_account.specs.declared.access.AccessKind.TheVariants.{Load, Store}
use Rattle.run_account.specs.declared.cache.Share.{Share}
use Rattle.run_account.specs.declared.cache.Share.TheVariants.{Shared, Owned}
use Rattle.run_account.specs.Counts.{asks, tells, puts}
use Rattle.run_account.specs.Lists.{no_lists}
use Rattle.run_account.specs.Runs.{listed_of_run, number_with_lists}
use Rattle.run_account.proofs.Weights.{one, kinds_weigh, waits_weigh, weight, AgreeOnRows, AgreeLater, none-later, run-agree, number-weight, weight-plus}

-- sums of weights
abbrev two : Measure → Measure → Measure → ℕ
two a b m = one a m + one b m

abbrev three : Measure → Measure → Measure → Measure → ℕ
three a b c m = two a b m + one c m

abbrev nine : Measure → ℕ
nine m =
    one ListReadRequests m + one ListWriteRequests m + one ListForwards m + one ListReplies m + one ListInvalidations m + one ListAcknowledgements m
    + one ListPutBacks m + one ListPutShares m + one ListPutAcks m

-- they agree on each row
invalidations-agree : AgreeOnRows (one ListInvalidations) (one ListAcknowledgements)
invalidations-agree = record { asks_do = asks_do; tells_do = tells_do; puts_do = puts_do; waits_do = waits_do } where
  asks_do : (kind : AccessKind) → kinds_weigh (one ListInvalidations) (asks kind) ≡ kinds_weigh (one ListAcknowledgements) (asks kind)
  asks_do Load = refl
  asks_do Store = refl

  tells_do : (kind : AccessKind) (has : Option Share) → kinds_weigh (one ListInvalidations) (tells kind has) ≡ kinds_weigh (one ListAcknowledgements) (tells kind has)
  tells_do Load None = refl
  tells_do Load (Some Shared) = refl
  tells_do Load (Some Owned) = refl
  tells_do Store None = refl
  tells_do Store (Some Shared) = refl
  tells_do Store (Some Owned) = refl

  puts_do : (share : Share) → kinds_weigh (one ListInvalidations) (puts share) ≡ kinds_weigh (one ListAcknowledgements) (puts share)
  puts_do Shared = refl
  puts_do Owned = refl

  waits_do : (kind : AccessKind) (waited hit : Bool) → waits_weigh (one ListInvalidations) kind waited hit ≡ waits_weigh (one ListAcknowledgements) kind waited hit
  waits_do Load true true = refl
  waits_do Load true false = refl
  waits_do Load false true = refl
  waits_do Load false false = refl
  waits_do Store true true = refl
  waits_do Store true false = refl
  waits_do Store false true = refl
  waits_do Store false false = refl

-- they agree on each row
messages-agree : AgreeOnRows (one ListMessages) (nine)
messages-agree = record { asks_do = asks_do; tells_do = tells_do; puts_do = puts_do; waits_do = waits_do } where
  asks_do : (kind : AccessKind) → kinds_weigh (one ListMessages) (asks kind) ≡ kinds_weigh (nine) (asks kind)
  asks_do Load = refl
  asks_do Store = refl

  tells_do : (kind : AccessKind) (has : Option Share) → kinds_weigh (one ListMessages) (tells kind has) ≡ kinds_weigh (nine) (tells kind has)
  tells_do Load None = refl
  tells_do Load (Some Shared) = refl
  tells_do Load (Some Owned) = refl
  tells_do Store None = refl
  tells_do Store (Some Shared) = refl
  tells_do Store (Some Owned) = refl

  puts_do : (share : Share) → kinds_weigh (one ListMessages) (puts share) ≡ kinds_weigh (nine) (puts share)
  puts_do Shared = refl
  puts_do Owned = refl

  waits_do : (kind : AccessKind) (waited hit : Bool) → waits_weigh (one ListMessages) kind waited hit ≡ waits_weigh (nine) kind waited hit
  waits_do Load true true = refl
  waits_do Load true false = refl
  waits_do Load false true = refl
  waits_do Load false false = refl
  waits_do Store true true = refl
  waits_do Store true false = refl
  waits_do Store false true = refl
  waits_do Store false false = refl

-- they agree on each row
requests-agree : AgreeOnRows (two ListReadRequests ListWriteRequests) (one ListReplies)
requests-agree = record { asks_do = asks_do; tells_do = tells_do; puts_do = puts_do; waits_do = waits_do } where
  asks_do : (kind : AccessKind) → kinds_weigh (two ListReadRequests ListWriteRequests) (asks kind) ≡ kinds_weigh (one ListReplies) (asks kind)
  asks_do Load = refl
  asks_do Store = refl

  tells_do : (kind : AccessKind) (has : Option Share) → kinds_weigh (two ListReadRequests ListWriteRequests) (tells kind has) ≡ kinds_weigh (one ListReplies) (tells kind has)
  tells_do Load None = refl
  tells_do Load (Some Shared) = refl
  tells_do Load (Some Owned) = refl
  tells_do Store None = refl
  tells_do Store (Some Shared) = refl
  tells_do Store (Some Owned) = refl

  puts_do : (share : Share) → kinds_weigh (two ListReadRequests ListWriteRequests) (puts share) ≡ kinds_weigh (one ListReplies) (puts share)
  puts_do Shared = refl
  puts_do Owned = refl

  waits_do : (kind : AccessKind) (waited hit : Bool) → waits_weigh (two ListReadRequests ListWriteRequests) kind waited hit ≡ waits_weigh (one ListReplies) kind waited hit
  waits_do Load true true = refl
  waits_do Load true false = refl
  waits_do Load false true = refl
  waits_do Load false false = refl
  waits_do Store true true = refl
  waits_do Store true false = refl
  waits_do Store false true = refl
  waits_do Store false false = refl

-- they agree on each row
waits-agree : AgreeOnRows (three ListWaitsRead ListWaitsWrite WaitsHereAlone) (three WaitsRead WaitsWrite WaitsListAlone)
waits-agree = record { asks_do = asks_do; tells_do = tells_do; puts_do = puts_do; waits_do = waits_do } where
  asks_do : (kind : AccessKind) → kinds_weigh (three ListWaitsRead ListWaitsWrite WaitsHereAlone) (asks kind) ≡ kinds_weigh (three WaitsRead WaitsWrite WaitsListAlone) (asks kind)
  asks_do Load = refl
  asks_do Store = refl

  tells_do : (kind : AccessKind) (has : Option Share) → kinds_weigh (three ListWaitsRead ListWaitsWrite WaitsHereAlone) (tells kind has) ≡ kinds_weigh (three WaitsRead WaitsWrite WaitsListAlone) (tells kind has)
  tells_do Load None = refl
  tells_do Load (Some Shared) = refl
  tells_do Load (Some Owned) = refl
  tells_do Store None = refl
  tells_do Store (Some Shared) = refl
  tells_do Store (Some Owned) = refl

  puts_do : (share : Share) → kinds_weigh (three ListWaitsRead ListWaitsWrite WaitsHereAlone) (puts share) ≡ kinds_weigh (three WaitsRead WaitsWrite WaitsListAlone) (puts share)
  puts_do Shared = refl
  puts_do Owned = refl

  waits_do : (kind : AccessKind) (waited hit : Bool) → waits_weigh (three ListWaitsRead ListWaitsWrite WaitsHereAlone) kind waited hit ≡ waits_weigh (three WaitsRead WaitsWrite WaitsListAlone) kind waited hit
  waits_do Load true true = refl
  waits_do Load true false = refl
  waits_do Load false true = refl
  waits_do Load false false = refl
  waits_do Store true true = refl
  waits_do Store true false = refl
  waits_do Store false true = refl
  waits_do Store false false = refl

module _ (S : State) (events : List Event) (by : Grouping) (group : ℕ) where
  abbrev regions : List ℕ
  regions = regions_from 0 S.setting.program.regions

  abbrev items : List Item
  items = listed_of_run S events

  -- the weight of the run
  abbrev W : (Measure → ℕ) → ℕ
  W v = weight regions by group v items

  abbrev N : Measure → ℕ
  N m = number_with_lists by m group S events

  -- numbers that are added one after the other
  is-number : (m : Measure) → N m ≡ W (one m)
  is-number m = number-weight regions by group m items

  plus : (v : Measure → ℕ) (m : Measure) → W (λ (x : Measure). v x + one m x) ≡ W v + N m
  plus v m = weight-plus regions by group v (one m) items ∙ ap (λ (n : ℕ). W v + n) (sym (is-number m))

  two-are : (a b : Measure) → W (two a b) ≡ N a + N b
  two-are a b = plus (one a) b ∙ ap (λ (n : ℕ). n + N b) (sym (is-number a))

  three-are : (a b c : Measure) → W (three a b c) ≡ N a + N b + N c
  three-are a b c = plus (two a b) c ∙ ap (λ (n : ℕ). n + N c) (two-are a b)

  agreed : (v w : Measure → ℕ) → AgreeOnRows v w → v Messages ≡ w Messages → AgreeLater v w → W v ≡ W w
  agreed v w agree same later = run-agree regions by group v w agree same later S (no_lists S.setting.shape) events

  pub invalidations : N ListInvalidations ≡ N ListAcknowledgements
  invalidations =
      is-number ListInvalidations ∙ agreed (one ListInvalidations) (one ListAcknowledgements) invalidations-agree refl (λ m late. rw (none-later ListInvalidations m (omega arith) late, none-later ListAcknowledgements m (omega arith) late) refl) ∙ sym (is-number ListAcknowledgements)

  pub requests : N ListReadRequests + N ListWriteRequests ≡ N ListReplies
  requests =
      sym (two-are ListReadRequests ListWriteRequests) ∙ agreed (two ListReadRequests ListWriteRequests) (one ListReplies) requests-agree refl (λ m late. rw (none-later ListReadRequests m (omega arith) late, none-later ListWriteRequests m (omega arith) late, none-later ListReplies m (omega arith) late) refl)
      ∙ sym (is-number ListReplies)

  pub waits : N ListWaitsRead + N ListWaitsWrite + N WaitsHereAlone ≡ N WaitsRead + N WaitsWrite + N WaitsListAlone
  waits =
      sym (three-are ListWaitsRead ListWaitsWrite WaitsHereAlone)
      ∙ agreed (three ListWaitsRead ListWaitsWrite WaitsHereAlone) (three WaitsRead WaitsWrite WaitsListAlone) waits-agree refl (λ m late. rw (none-later ListWaitsRead m (omega arith) late, none-later ListWaitsWrite m (omega arith) late, none-later WaitsHereAlone m (omega arith) late, none-later WaitsRead m (omega arith) late, none-later WaitsWrite m (omega arith) late, none-later WaitsListAlone m (omega arith) late) refl)
      ∙ three-are WaitsRead WaitsWrite WaitsListAlone

  -- each sum of weights, one measure more
  abbrev four : Measure → ℕ
  four m = three ListReadRequests ListWriteRequests ListForwards m + one ListReplies m

  abbrev five : Measure → ℕ
  five m = four m + one ListInvalidations m

  abbrev six : Measure → ℕ
  six m = five m + one ListAcknowledgements m

  abbrev seven : Measure → ℕ
  seven m = six m + one ListPutBacks m

  abbrev eight : Measure → ℕ
  eight m = seven m + one ListPutShares m

  pub messages : N ListMessages ≡ N ListReadRequests + N ListWriteRequests + N ListForwards + N ListReplies + N ListInvalidations + N ListAcknowledgements
      + N ListPutBacks + N ListPutShares + N ListPutAcks
  messages =
      is-number ListMessages ∙ agreed (one ListMessages) nine messages-agree refl (λ m late. rw (none-later ListMessages m (omega arith) late, none-later ListReadRequests m (omega arith) late, none-later ListWriteRequests m (omega arith) late, none-later ListForwards m (omega arith) late, none-later ListReplies m (omega arith) late, none-later ListInvalidations m (omega arith) late, none-later ListAcknowledgements m (omega arith) late, none-later ListPutBacks m (omega arith) late, none-later ListPutShares m (omega arith) late, none-later ListPutAcks m (omega arith) late) refl)
      ∙ omega (
        arith,
        three-are ListReadRequests ListWriteRequests ListForwards,
        plus (three ListReadRequests ListWriteRequests ListForwards) ListReplies,
        plus four ListInvalidations,
        plus five ListAcknowledgements,
        plus six ListPutBacks,
        plus seven ListPutShares,
        plus eight ListPutAcks,
      )

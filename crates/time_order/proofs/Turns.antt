-- A run in time order, event by event.
use Rattle.std.proofs.Common.{◌≡◌, ℕ, zero, suc, ◌+◌, ◌<◌, ◌≤◌, ◌==◌, true, if◌then◌else◌, List, [], ◌∷◌, ◌++◌, length, drop, slice_get, slice_set, replicate, Option, Some, None, refl, sym, ap, subst, ◌∙◌, arith}
use Rattle.std.specs.Prelude.{sum_by}
use Rattle.std.proofs.lemmas.Bool.Decides.{nat_tests}
use Rattle.std.proofs.lemmas.List.Sums.{sum_by-cons}
use Rattle.std.proofs.lemmas.Option.{none-some}
use Rattle.dn_base.specs.declared.ids.Shape.{Shape}
use Rattle.message_net.specs.declared.actor.Actor.{Actor}
use Rattle.message_net.specs.declared.actor.Actor.TheVariants.{Core}
use Rattle.message_net.specs.declared.actor.MailId.{MailId}
use Rattle.message_net.specs.declared.event.Event.{Event}
use Rattle.message_net.specs.declared.event.Event.TheVariants.{Instr, Evict, Arrive, Handle}
use Rattle.message_net.specs.declared.event.EventKind.{EventKind}
use Rattle.message_net.specs.declared.message.Mail.{Mail}
use Rattle.message_net.specs.Mail.{has_actor, mails_of}
use Rattle.message_net.specs.Pool.{removed}
use Rattle.message_net.proofs.PoolLemmas.{sum_by-taken, found-counted, weight-within}
use Rattle.grant_log.specs.Counts.{kind_count}
use Rattle.registration_protocol.specs.Node.{Setting}
use Rattle.machine_rules.specs.State.{State, initial_state}
use Rattle.machine_rules.specs.Flight.{mail_count}
use Rattle.machine_rules.specs.Next.{next, next_number, enabled, kind_in}
use Rattle.machine_rules.specs.Runs.{after, IsOver}
use Rattle.machine_rules.specs.Sound.{IsReady}
use Rattle.machine_rules.proofs.BoundRuns.{run-ends}
use Rattle.machine_rules.proofs.Invariant.{Invariant, is_right, is_lost}
use Rattle.machine_rules.proofs.RunsCoherent.{run-all, first_memory}
use Rattle.machine_rules.proofs.RunsKept.{memory_over, run-setting}
use Rattle.dn_machine.specs.Actors.{actor_in, receiver_of}
use Rattle.dn_machine.specs.Kept.{Made, IsKept}
use Rattle.dn_machine.specs.Log.{no_log, with_event}
use Rattle.dn_machine.specs.declared.log.Happened.{Happened}
use Rattle.dn_machine.specs.declared.log.Log.{Log}
use Rattle.dn_machine.proofs.LogLemmas.{count-within}
use Rattle.dn_machine.proofs.RunLemmas.{recorded, complete-run-of, ending-true}
use Rattle.dn_machine.specs.Ends.{noted_ending}
use Rattle.dn_machine.specs.declared.record.RunRecord.{RunRecord}
use Rattle.rv_core.specs.declared.ending.Ending.{Ending}
use Rattle.run_replay.specs.Advance.{HasAdvanced, IsAdvanceBy}
use Rattle.run_replay.proofs.UnderWay.{IsUnderWay, advanced-none, begins, goes-on, way-setting, way-ready}
use Rattle.run_timing.specs.declared.network.Network.{Network}
use Rattle.run_timing.specs.declared.ticks.Ticks.{Ticks}
use Rattle.run_timing.specs.Network.{IsWithinLatency}
use Rattle.run_timing.specs.Ticks.{ticks_of}
use Rattle.run_timing.proofs.OnRuns.{actor-there, right-there, not-lost}
use Rattle.time_order.specs.declared.choice.Choice.{Choice}
use Rattle.time_order.specs.declared.flight.Flight.{Flight}
use Rattle.time_order.specs.Actors.{AreLooked}
use Rattle.time_order.specs.Choices.{IsFirstChoice}
use Rattle.time_order.specs.Clock.{Clock, clock_at_start, clock_after_event, clock_behind}
use Rattle.time_order.specs.Flights.{AreSorted, queue_at, weight_to, left_by, weight_taken}
use Rattle.time_order.specs.Run.{HasRunInOrder, IsTimeOrderRun}
use Rattle.time_order.specs.TimeOrder.{IsNextEvent, AreInTimeOrder}
use Rattle.time_order.proofs.Clocked.{IsClocked, IsWell, clocked-none}
use Rattle.time_order.proofs.Mails.{IsSent, event-sent, numbered}
use Rattle.time_order.proofs.Moved.{IsTurn, moved}
use Rattle.time_order.proofs.Nexts.{IsPrepared, IsChosen, chosen-of, next-of, over-of}

-- ---- states of a run

pub mail-to : (S : State) (M : ℕ → ℕ) (place : ℕ) (m : Mail) → Invariant S M → slice_get S.mails place ≡ Some m → has_actor S.setting.shape.cores S.setting.shape.banks m.to ≡ true
mail-to S M place m inv here =
    let one = weight-within (mail_count (is_lost S.setting.shape.cores S.setting.shape.banks)) S.mails place m here in
    let right = not-lost (is_right S.setting.shape.cores S.setting.shape.banks m.to m.message) (omega (arith, one, inv.addressed)) in
    right-there S.setting.shape.cores S.setting.shape.banks m.to m.message inv.machine.context.some_banks right

invariant-of : (C : Setting) (events : List Event) (S : State) (made : ℕ) (log : Log) → IsReady C → IsUnderWay C events S made log → (M : ℕ → ℕ) × Invariant S M
invariant-of C events S made log ready way =
    let M = memory_over (first_memory C) (initial_state C) events in
    (M, subst (λ (X : State). Invariant X M) (sym way.leads) (run-all C events ready way.run).1)

pub well-of : (C : Setting) (events : List Event) (S : State) (made : ℕ) (log : Log) → IsUnderWay C events S made log → IsKept S made → IsWell S
well-of C events S made log way kept =
    let inv = invariant-of C events S made log (way-ready C events S made log way kept) way in
    record {
      machine = inv.1.machine;
      to = λ place m here. mail-to S inv.0 place m inv.1 here;
      cores = kept.most;
      banks = (omega (arith, kept.left.ready.context.some_banks), kept.left.ready.context.most_banks);
    }

-- the actor of an event that may come, which is one of the machine's
pub actor-of : (S : State) (e : Event) → enabled S e ≡ true → (a : Actor) × (actor_in S e ≡ Some a)
unfolding enabled actor_in
actor-of S (Instr core) may = (Core core, refl)
actor-of S (Evict core word) may = (Core core, refl)
actor-of S (Arrive core) may = (Core core, refl)
actor-of S (Handle id) may =
    let found = found-counted id S.mails (grind (arith, nat_tests, may)) in
    (found.1.to, ap (λ (p : Option Mail × List Mail). receiver_of p.0) found.2.takes)

-- ---- lists of events

order-more : (ticks : Ticks) (network : Network) (S : State) (K : Clock) (events : List Event) (e : Event) → AreInTimeOrder ticks network S K events
    → IsNextEvent (after S events) (clock_behind ticks network S K events) e → AreInTimeOrder ticks network S K (events ++ e ∷ [])
order-more ticks network S K [] e order is = (is, tt)
order-more ticks network S K (x ∷ xs) e order is = (order.0, order-more ticks network (next S x) (clock_after_event ticks network S K x) xs e order.1 is)

clock-more : (ticks : Ticks) (network : Network) (S : State) (K : Clock) (events : List Event) (e : Event)
    → clock_behind ticks network S K (events ++ e ∷ []) ≡ clock_after_event ticks network (after S events) (clock_behind ticks network S K events) e
clock-more ticks network S K [] e = refl
clock-more ticks network S K (x ∷ xs) e = clock-more ticks network (next S x) (clock_after_event ticks network S K x) xs e

-- ---- on the way

-- the clock after the events
abbrev pub clock_of : Ticks → Network → Setting → List Event → Clock
clock_of ticks network C events = clock_behind ticks network (initial_state C) clock_at_start events

pub record IsOnTime (ticks : Ticks) (network : Network) (C : Setting) (S : State) (made : ℕ) (log : Log) (free : List ℕ) (queues : List (List Flight)) (choices : List (Option Choice)) : Type 0 where
  pub way : IsUnderWay C log.events S made log
  pub kept : IsKept S made
  pub order : AreInTimeOrder ticks network (initial_state C) clock_at_start log.events
  pub clocked : IsClocked C.shape S.mails (clock_of ticks network C log.events) made free queues
  pub long : length choices ≡ C.shape.cores + C.shape.banks + 1

pub on-time-none : (ticks : Ticks) (network : Network) (C : Setting) (S : State) (made : ℕ) (log : Log) (shape : Shape) (free : List ℕ) (queues : List (List Flight)) (choices : List (Option Choice))
    → S ≡ initial_state C → made ≡ 0 → log ≡ no_log (length C.program.phases) → IsKept S made → shape ≡ C.shape
    → free ≡ replicate (shape.cores + shape.banks + 1) 0 → queues ≡ replicate (shape.cores + shape.banks + 1) [] → length choices ≡ shape.cores + shape.banks + 1
    → IsOnTime ticks network C S made log free queues choices
unfolding initial_state
on-time-none ticks network C S made log shape free queues choices opens none empty kept same free_is queues_are long =
    subst (λ (l : Log). IsOnTime ticks network C S made l free queues choices) (sym empty)
    (record {
      way = subst (λ (n : ℕ). IsUnderWay C [] S n (no_log (length C.program.phases))) (sym none) (begins C S opens);
      kept = kept;
      order = tt;
      clocked =
          subst (λ (n : ℕ). IsClocked C.shape S.mails clock_at_start n free queues) (sym none)
          (subst (λ (ms : List Mail). IsClocked C.shape ms clock_at_start 0 free queues) (sym (ap (λ (X : State). X.mails) opens))
          (subst (λ (xs : List ℕ). IsClocked C.shape [] clock_at_start 0 xs queues) (sym (free_is ∙ ap (λ (s : Shape). replicate (s.cores + s.banks + 1) 0) same))
          (subst (λ (qs : List (List Flight)). IsClocked C.shape [] clock_at_start 0 (replicate (C.shape.cores + C.shape.banks + 1) 0) qs) (sym (queues_are ∙ ap (λ (s : Shape). replicate (s.cores + s.banks + 1) []) same))
          (clocked-none C.shape))));
      long = long ∙ ap (λ (s : Shape). s.cores + s.banks + 1) same;
    })

pub few-made : (ticks : Ticks) (network : Network) (C : Setting) (S : State) (made : ℕ) (log : Log) (free : List ℕ) (queues : List (List Flight)) (choices : List (Option Choice))
    → IsOnTime ticks network C S made log free queues choices → made ≤ 25169664
few-made ticks network C S made log free queues choices on =
    omega (arith, on.way.count, run-ends C log.events (way-ready C log.events S made log on.way on.kept) on.way.run)

-- what is known once each actor was looked at
pub prepared-of : (ticks : Ticks) (network : Network) (C : Setting) (S : State) (made : ℕ) (log : Log) (free : List ℕ) (queues : List (List Flight)) (old choices : List (Option Choice)) (first : Option (ℕ × Choice))
    → IsOnTime ticks network C S made log free queues old → AreLooked S free queues (length old) choices → ((place : ℕ) → place < length old → AreSorted (queue_at queues place))
    → IsFirstChoice choices (length old) first → IsPrepared S (clock_of ticks network C log.events) made free queues choices first
prepared-of ticks network C S made log free queues old choices first on looked sorted is =
    let same : S.setting ≡ C = way-setting C log.events S made log on.way in
    let many : length old ≡ S.setting.shape.cores + S.setting.shape.banks + 1 = on.long ∙ ap (λ (X : Setting). X.shape.cores + X.shape.banks + 1) (sym same) in
    record {
      well = well-of C log.events S made log on.way on.kept;
      clocked = subst (λ (X : Setting). IsClocked X.shape S.mails (clock_of ticks network C log.events) made free queues) (sym same) on.clocked;
      sorted = λ place low. sorted place (subst (λ (n : ℕ). place < n) (sym many) low);
      looked = subst (λ (n : ℕ). AreLooked S free queues n choices) many looked;
      first = subst (λ (n : ℕ). IsFirstChoice choices n first) many is;
    }

-- the event that came is the next one, and what is kept is true again
pub on-time-more : (ticks : Ticks) (network : Network) (C : Setting) (S T : State) (made more_made : ℕ) (log more : Log) (free set_ : List ℕ) (before between after_ : List (List Flight)) (choices : List (Option Choice))
    (r : ℕ × Choice) (h : Happened) (first : ℕ) (shape : Shape) (finish : ℕ) → IsWithinLatency network → ((kind : EventKind) → ticks_of ticks kind ≤ 1000000)
    → IsOnTime ticks network C S made log free before choices → IsPrepared S (clock_of ticks network C log.events) made free before choices (Some r)
    → IsAdvanceBy (record { state = S; made = made }) (record { state = T; made = more_made }) r.1.event h → more ≡ with_event h log → first ≡ length (left_by S r.1.event) → shape ≡ C.shape
    → finish ≡ r.1.start + ticks_of ticks h.observed.kind → set_ ≡ slice_set free r.0 finish → length after_ ≡ length before
    → ((other : ℕ) (w : Flight → ℕ) → sum_by w (queue_at before other) ≡ sum_by w (queue_at between other) + (if r.0 == other then weight_taken r.1.event (queue_at before r.0) w else 0))
    → ((other : ℕ) (w : Flight → ℕ) → sum_by w (queue_at after_ other) ≡ sum_by w (queue_at between other) + weight_to network shape finish other w (drop first T.mails))
    → IsOnTime ticks network C T more_made more set_ after_ choices
on-time-more ticks network C S T made more_made log more free set_ before between after_ choices r h first shape finish latency few on prepared by noted left same finishes sets rows took put =
    subst (λ (l : Log). IsOnTime ticks network C T more_made l set_ after_ choices) (sym noted)
    (record {
      way = way;
      kept = by.kept;
      order = subst (λ (x : Event). AreInTimeOrder ticks network (initial_state C) clock_at_start (log.events ++ x ∷ [])) (sym by.event_is) (order-more ticks network (initial_state C) clock_at_start log.events e on.order next_is);
      clocked = clocked;
      long = on.long;
    })
  where
    e : Event
    e = r.1.event

    K : Clock
    K = clock_of ticks network C log.events

    same-setting-is : S.setting ≡ C
    same-setting-is = way-setting C log.events S made log on.way

    leads : T ≡ next S e
    leads = by.came.next ∙ ap (next S) by.event_is

    kind-is : h.observed.kind ≡ kind_in S e
    kind-is = ap (λ (o : _). o.kind) by.came.observed ∙ ap (kind_in S) by.event_is

    way : IsUnderWay C (log.events ++ h.event ∷ []) T more_made (with_event h log)
    way =
        subst (λ (n : ℕ). IsUnderWay C (log.events ++ h.event ∷ []) T n (with_event h log)) (sym by.made)
        (goes-on C log.events S T made log h on.way (subst (λ (x : Event). enabled S x ≡ true) (sym by.event_is) by.may) by.came (subst (λ (n : ℕ). IsKept T n) by.made by.kept))

    next_is : IsNextEvent (after (initial_state C) log.events) K e
    next_is = subst (λ (X : State). IsNextEvent X K e) on.way.leads (next-of S K made free before choices r prepared)

    actor : (a : Actor) × (actor_in S e ≡ Some a)
    actor = actor-of S e by.may

    inv : (M : ℕ → ℕ) × Invariant S M
    inv = invariant-of C log.events S made log (way-ready C log.events S made log on.way on.kept) on.way

    finish-is : finish ≡ r.1.start + ticks_of ticks (kind_in S e)
    finish-is = finishes ∙ ap (λ (k : EventKind). r.1.start + ticks_of ticks k) kind-is

    shape-is : shape ≡ S.setting.shape
    shape-is = same ∙ ap (λ (X : Setting). X.shape) (sym same-setting-is)

    put-is : (other : ℕ) (w : Flight → ℕ) → sum_by w (queue_at after_ other)
        ≡ sum_by w (queue_at between other) + weight_to network S.setting.shape (r.1.start + ticks_of ticks (kind_in S e)) other w (drop (length (left_by S e)) (next S e).mails)
    put-is other w =
        put other w
        ∙ (ap (λ (n : ℕ). sum_by w (queue_at between other) + weight_to network shape finish other w (drop n T.mails)) left
        ∙ (ap (λ (X : State). sum_by w (queue_at between other) + weight_to network shape finish other w (drop (length (left_by S e)) X.mails)) leads
        ∙ (ap (λ (s : Shape). sum_by w (queue_at between other) + weight_to network s finish other w (drop (length (left_by S e)) (next S e).mails)) shape-is
        ∙ ap (λ (t : ℕ). sum_by w (queue_at between other) + weight_to network S.setting.shape t other w (drop (length (left_by S e)) (next S e).mails)) finish-is)))

    turn : IsTurn ticks network S K made free before between after_ r.0 r.1.start e actor.0
    turn =
        record {
          well = prepared.well;
          well_then = subst IsWell leads (well-of C (log.events ++ h.event ∷ []) T more_made (with_event h log) way by.kept);
          clocked = prepared.clocked;
          chosen = chosen-of S K made free before choices r prepared;
          makes = actor.1;
          there = actor-there S inv.0 e actor.0 inv.1 by.may actor.1;
          latency = latency;
          few = few (kind_in S e);
          rows = rows;
          took = took;
          put = put-is;
        }

    clocks : clock_of ticks network C (log.events ++ h.event ∷ []) ≡ clock_after_event ticks network S K e
    clocks =
        ap (λ (x : Event). clock_of ticks network C (log.events ++ x ∷ [])) by.event_is
        ∙ (clock-more ticks network (initial_state C) clock_at_start log.events e ∙ ap (λ (X : State). clock_after_event ticks network X K e) (sym on.way.leads))

    clocked : IsClocked C.shape T.mails (clock_of ticks network C (log.events ++ h.event ∷ [])) more_made set_ after_
    clocked =
        subst (λ (X : Setting). IsClocked X.shape T.mails (clock_of ticks network C (log.events ++ h.event ∷ [])) more_made set_ after_) same-setting-is
        (subst (λ (X : State). IsClocked S.setting.shape X.mails (clock_of ticks network C (log.events ++ h.event ∷ [])) more_made set_ after_) (sym leads)
        (subst (λ (k : Clock). IsClocked S.setting.shape (next S e).mails k more_made set_ after_) (sym clocks)
        (subst (λ (n : ℕ). IsClocked S.setting.shape (next S e).mails (clock_after_event ticks network S K e) n set_ after_) (sym by.made)
        (subst (λ (xs : List ℕ). IsClocked S.setting.shape (next S e).mails (clock_after_event ticks network S K e) (made + 1) xs after_) (sym (sets ∙ ap (slice_set free r.0) finish-is))
        (moved ticks network S K made free before between after_ r.0 r.1.start e actor.0 turn)))))

-- at the end
pub at-end : (ticks : Ticks) (network : Network) (C : Setting) (first S : State) (made : ℕ) (log : Log) (free : List ℕ) (queues : List (List Flight)) (old choices : List (Option Choice)) → first ≡ initial_state C
    → IsOnTime ticks network C S made log free queues old → IsPrepared S (clock_of ticks network C log.events) made free queues choices None → HasRunInOrder ticks network first S log
at-end ticks network C first S made log free queues old choices opens on prepared =
    subst (λ (X : State). HasRunInOrder ticks network X S log) (sym opens)
    (record {
      order = on.order;
      complete = record { run = on.way.run; over = subst IsOver on.way.leads (over-of S (clock_of ticks network C log.events) made free queues choices prepared) };
      leads = on.way.leads;
      logged = on.way.logged;
    })

-- ---- how many mails stay

ones : (mails : List Mail) → sum_by (λ (m : Mail). 1) mails ≡ length mails
ones [] = refl
ones (m ∷ ms) = omega (arith, sum_by-cons (λ (x : Mail). 1) m ms, ones ms)

pub staying-one : (S : State) (id : MailId) → enabled S (Handle id) ≡ true → length (removed id S.mails).1 + 1 ≡ length S.mails
unfolding enabled
staying-one S id may =
    let found = found-counted id S.mails (grind (arith, nat_tests, may)) in
    let taken : (removed id S.mails).0 ≡ Some found.1 = ap (λ (p : Option Mail × List Mail). p.0) found.2.takes in
    omega (arith, sum_by-taken (λ (m : Mail). 1) id S.mails found.1 taken, ones (removed id S.mails).1, ones S.mails)

-- ---- one turn of the loop

pub record IsAtTurn (ticks : Ticks) (network : Network) (C : Setting) (S : State) (made : ℕ) (log : Log) (free : List ℕ) (queues : List (List Flight)) (choices : List (Option Choice)) (place : ℕ) (choice : Choice) : Type 0 where
  pub on : IsOnTime ticks network C S made log free queues choices
  pub prepared : IsPrepared S (clock_of ticks network C log.events) made free queues choices (Some (place, choice))
  pub chosen : IsChosen S (clock_of ticks network C log.events) made queues place choice.start choice.event
  pub few : made ≤ 25169664
  pub late : choice.start ≤ 176187648000000

pub on-time-same : (ticks : Ticks) (network : Network) (C : Setting) (S : State) (made : ℕ) (log : Log) (was_free free : List ℕ) (was_queues queues : List (List Flight)) (were choices : List (Option Choice))
    → IsOnTime ticks network C S made log was_free was_queues were → free ≡ was_free → queues ≡ was_queues → length choices ≡ length were → IsOnTime ticks network C S made log free queues choices
on-time-same ticks network C S made log was_free free was_queues queues were choices on a b long =
    record {
      way = on.way;
      kept = on.kept;
      order = on.order;
      clocked =
          subst (λ (xs : List ℕ). IsClocked C.shape S.mails (clock_of ticks network C log.events) made xs queues) (sym a)
          (subst (λ (qs : List (List Flight)). IsClocked C.shape S.mails (clock_of ticks network C log.events) made was_free qs) (sym b) on.clocked);
      long = long ∙ on.long;
    }

pub at-turn : (ticks : Ticks) (network : Network) (C : Setting) (S : State) (made : ℕ) (log : Log) (free : List ℕ) (queues : List (List Flight)) (choices : List (Option Choice)) (found : Option (ℕ × Choice)) (place : ℕ) (choice : Choice)
    → IsOnTime ticks network C S made log free queues choices → AreLooked S free queues (length choices) choices → ((p : ℕ) → p < length choices → AreSorted (queue_at queues p))
    → IsFirstChoice choices (length choices) found → found ≡ Some (place, choice) → IsAtTurn ticks network C S made log free queues choices place choice
at-turn ticks network C S made log free queues choices found place choice on looked sorted first is =
    let prepared = prepared-of ticks network C S made log free queues choices choices (Some (place, choice)) on looked sorted (subst (IsFirstChoice choices (length choices)) is first) in
    let chosen = chosen-of S (clock_of ticks network C log.events) made free queues choices (place, choice) prepared in
    let few = few-made ticks network C S made log free queues choices on in
    record { on = on; prepared = prepared; chosen = chosen; few = few; late = omega (arith, chosen.low, few) }

-- what is known of the messages once the event came
pub record IsAfterTurn (shape : Shape) (first : ℕ) (mails : List Mail) : Type 0 where
  pub first_is : first ≤ length mails
  pub senders : (place : ℕ) (m : Mail) → first ≤ place → slice_get mails place ≡ Some m → has_actor shape.cores shape.banks m.id.sender ≡ true
  pub receivers : (place : ℕ) (m : Mail) → slice_get mails place ≡ Some m → has_actor shape.cores shape.banks m.to ≡ true

behind-front : (xs ys : List Mail) (i : ℕ) (m : Mail) → length xs ≤ i → slice_get (xs ++ ys) i ≡ Some m → (k : ℕ) × (slice_get ys k ≡ Some m)
behind-front [] ys i m past here = (i, here)
behind-front (x ∷ xs) ys zero m past here = absurd (omega (arith, past))
behind-front (x ∷ xs) ys (suc i) m past here = behind-front xs ys i m (omega (arith, past)) here

front-within : (xs ys : List Mail) → length xs ≤ length (xs ++ ys)
front-within [] ys = omega arith
front-within (x ∷ xs) ys = omega (arith, front-within xs ys)

pub after-turn : (ticks : Ticks) (network : Network) (C : Setting) (S T : State) (made more_made : ℕ) (log : Log) (free : List ℕ) (queues : List (List Flight)) (choices : List (Option Choice)) (place : ℕ) (choice : Choice)
    (h : Happened) (shape : Shape) (first : ℕ) → IsAtTurn ticks network C S made log free queues choices place choice → shape ≡ C.shape
    → IsAdvanceBy (record { state = S; made = made }) (record { state = T; made = more_made }) choice.event h → first ≡ length (left_by S choice.event) → IsAfterTurn shape first T.mails
after-turn ticks network C S T made more_made log free queues choices place choice h shape first at by_shape by left =
    record {
      first_is =
          subst (λ (n : ℕ). n ≤ length T.mails) (sym left)
          (subst (λ (ms : List Mail). length (left_by S e) ≤ length ms) (sym mails-are) (front-within (left_by S e) (mails_of actor.0 (next_number S actor.0) sent.outs)));
      senders = λ p m past here. sender p m past here;
      receivers = λ p m here. subst (λ (s : Shape). has_actor s.cores s.banks m.to ≡ true) shape-is (well_then.to p m here);
    }
  where
    e : Event
    e = choice.event

    leads : T ≡ next S e
    leads = by.came.next ∙ ap (next S) by.event_is

    actor : (a : Actor) × (actor_in S e ≡ Some a)
    actor = actor-of S e by.may

    inv : (M : ℕ → ℕ) × Invariant S M
    inv = invariant-of C log.events S made log (way-ready C log.events S made log at.on.way at.on.kept) at.on.way

    there : has_actor S.setting.shape.cores S.setting.shape.banks actor.0 ≡ true
    there = actor-there S inv.0 e actor.0 inv.1 by.may actor.1

    sent : IsSent S (next S e) actor.0 (left_by S e)
    sent = event-sent S e actor.0 actor.1

    mails-are : T.mails ≡ left_by S e ++ mails_of actor.0 (next_number S actor.0) sent.outs
    mails-are = ap (λ (X : State). X.mails) leads ∙ sent.mails

    way : IsUnderWay C (log.events ++ h.event ∷ []) T more_made (with_event h log)
    way =
        subst (λ (n : ℕ). IsUnderWay C (log.events ++ h.event ∷ []) T n (with_event h log)) (sym by.made)
        (goes-on C log.events S T made log h at.on.way (subst (λ (x : Event). enabled S x ≡ true) (sym by.event_is) by.may) by.came (subst (λ (n : ℕ). IsKept T n) by.made by.kept))

    well_then : IsWell T
    well_then = well-of C (log.events ++ h.event ∷ []) T more_made (with_event h log) way by.kept

    shape-is : T.setting.shape ≡ shape
    shape-is = ap (λ (X : Setting). X.shape) (way-setting C (log.events ++ h.event ∷ []) T more_made (with_event h log) way) ∙ sym by_shape

    shape-was : S.setting.shape ≡ shape
    shape-was = ap (λ (X : Setting). X.shape) (way-setting C log.events S made log at.on.way) ∙ sym by_shape

    sender : (p : ℕ) (m : Mail) → first ≤ p → slice_get T.mails p ≡ Some m → has_actor shape.cores shape.banks m.id.sender ≡ true
    sender p m past here =
        let found = behind-front (left_by S e) (mails_of actor.0 (next_number S actor.0) sent.outs) p m (subst (λ (n : ℕ). n ≤ p) left past) (subst (λ (ms : List Mail). slice_get ms p ≡ Some m) mails-are here) in
        let new = numbered actor.0 (next_number S actor.0) sent.outs found.0 m found.1 in
        subst (λ (s : Shape). has_actor s.cores s.banks m.id.sender ≡ true) shape-was
        (subst (λ (a : Actor). has_actor S.setting.shape.cores S.setting.shape.banks a ≡ true) (sym new.sender) there)

pub few-noted : (ticks : Ticks) (network : Network) (C : Setting) (S : State) (made : ℕ) (log : Log) (free : List ℕ) (queues : List (List Flight)) (choices : List (Option Choice)) (place : ℕ) (choice : Choice) (k : EventKind)
    → IsAtTurn ticks network C S made log free queues choices place choice → kind_count k log.counts < 18446744073709551615
few-noted ticks network C S made log free queues choices place choice k at =
    omega (arith, at.few, at.on.way.count, count-within (initial_state C) log.events log.counts k at.on.way.logged.counted)

pub some-first : (q : List Flight) (f : Flight) → slice_get q 0 ≡ Some f → 0 < length q
some-first [] f here = absurd (none-some f here)
some-first (x ∷ xs) f here = omega arith

-- an event that may come came
pub not-refused : (before after_ : Made) (e : Event) (came : Option Happened) → enabled before.state e ≡ true → HasAdvanced before after_ e came → ((h : Happened) → came ≡ Some h → ⊥) → ⊥
not-refused before after_ e came may advanced none =
    let never = advanced-none before after_ e came none advanced in
    absurd (cc)

-- ---- the record

pub record-of : (ticks : Ticks) (network : Network) (C : Setting) (S T : State) (log : Log) (ending : Ending) (r : RunRecord) → IsReady C → S ≡ initial_state C → HasRunInOrder ticks network S T log
    → ending ≡ noted_ending log.ends T → r ≡ recorded log ending → IsTimeOrderRun ticks network S r
record-of ticks network C S T log ending r ready opens run is tells =
    subst (IsTimeOrderRun ticks network S) (sym tells)
    (subst (λ (X : State). IsTimeOrderRun ticks network X (recorded log ending)) (sym opens)
    (record {
      order = here.order;
      run =
          complete-run-of C (recorded log ending) ready here.complete
          (record { granted = here.logged.granted; counted = here.logged.counted; ends = is ∙ ending-true C T log.events log.ends ready.program here.leads here.logged.ends });
    }))
  where
    here : HasRunInOrder ticks network (initial_state C) T log
    here = subst (λ (X : State). HasRunInOrder ticks network X T log) opens run

pub setting-stays : (ticks : Ticks) (network : Network) (S T : State) (log : Log) → HasRunInOrder ticks network S T log → T.setting ≡ S.setting
setting-stays ticks network S T log run = ap (λ (X : State). X.setting) run.leads ∙ run-setting S log.events

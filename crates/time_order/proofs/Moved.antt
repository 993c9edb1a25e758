-- After an event what is kept of each actor is true again.
use Rattle.std.proofs.Common.{◌≡◌, ℕ, suc, ◌+◌, ◌*◌, ◌<◌, ◌≤◌, ◌==◌, Bool, true, false, cond, if◌then◌else◌, List, [], ◌∷◌, ◌++◌, length, drop, slice_get, slice_set, slice_index, Option, Some, refl, sym, ap, subst, ◌∙◌, arith}
use Rattle.std.specs.Prelude.{sum_by}
use Rattle.std.proofs.lemmas.Bool.{eqb-true, eqb-false}
use Rattle.std.proofs.lemmas.Bool.Decides.{nat_tests}
use Rattle.std.proofs.lemmas.List.{get_or-set_same, get_or-set_other}
use Rattle.std.proofs.lemmas.List.Sums.{sum_by-append}
use Rattle.std.proofs.lemmas.Option.{none-some, same_Some}
use Rattle.std.proofs.Math.Seq.{drop-append_seam}
use Rattle.std.proofs.Math.ListN.{length-set}
use Rattle.dn_base.specs.declared.ids.Shape.{Shape}
use Rattle.message_net.specs.declared.actor.Actor.{Actor}
use Rattle.message_net.specs.declared.actor.MailId.{MailId}
use Rattle.message_net.specs.declared.event.Event.{Event}
use Rattle.message_net.specs.declared.event.Event.TheVariants.{Instr, Evict, Arrive, Handle}
use Rattle.message_net.specs.declared.message.Mail.{Mail}
use Rattle.message_net.specs.Id.{same_id}
use Rattle.message_net.specs.Mail.{has_actor, mails_of}
use Rattle.message_net.specs.Pool.{count_of, has_id, removed}
use Rattle.message_net.proofs.PoolLemmas.{sum_by-taken, taken-of_id}
use Rattle.registration_protocol.specs.Node.{Setting}
use Rattle.machine_rules.specs.State.{State}
use Rattle.machine_rules.specs.Next.{next, kind_in, next_number}
use Rattle.machine_rules.proofs.RunsKept.{same-setting}
use Rattle.dn_machine.specs.Actors.{receiver_of, actor_in}
use Rattle.run_timing.specs.declared.network.Network.{Network}
use Rattle.run_timing.specs.declared.ticks.Ticks.{Ticks}
use Rattle.run_timing.specs.Network.{delay, IsWithinLatency}
use Rattle.run_timing.specs.Ticks.{ticks_of}
use Rattle.run_timing.proofs.Delays.{delay-most}
use Rattle.run_timing.proofs.Moves.{event-move}
use Rattle.time_order.specs.declared.flight.Flight.{Flight}
use Rattle.time_order.specs.Clock.{Clock, place_in, finish_of, delay_to, delay_in, clock_after_event}
use Rattle.time_order.specs.Flights.{flight_of, queue_at, weight_to, left_by, weight_taken}
use Rattle.time_order.proofs.Clocked.{index, of, goes, wrong, IsClocked, IsWell, IsTrueFlight, flight-true, entry-right}
use Rattle.time_order.proofs.Mails.{IsSent, event-sent, IsNumbered, numbered}
use Rattle.time_order.proofs.Nexts.{IsChosen}
use Rattle.time_order.proofs.Weights.{nowhere}

-- an event that the code makes, and what it does to what is kept
pub record IsTurn (ticks : Ticks) (network : Network) (S : State) (K : Clock) (made : ℕ) (free : List ℕ) (before between after : List (List Flight)) (place start : ℕ) (e : Event) (a : Actor) : Type 0 where
  pub well : IsWell S
  pub well_then : IsWell (next S e)
  pub clocked : IsClocked S.setting.shape S.mails K made free before
  pub chosen : IsChosen S K made before place start e
  pub makes : actor_in S e ≡ Some a
  pub there : has_actor S.setting.shape.cores S.setting.shape.banks a ≡ true
  pub latency : IsWithinLatency network
  pub few : ticks_of ticks (kind_in S e) ≤ 1000000
  pub rows : length after ≡ length before
  -- a handled message leaves its queue
  pub took : (other : ℕ) (w : Flight → ℕ) → sum_by w (queue_at before other) ≡ sum_by w (queue_at between other) + (if place == other then weight_taken e (queue_at before place) w else 0)
  -- and what the event sends is put in the queues
  pub put : (other : ℕ) (w : Flight → ℕ) → sum_by w (queue_at after other)
      ≡ sum_by w (queue_at between other) + weight_to network S.setting.shape (start + ticks_of ticks (kind_in S e)) other w (drop (length (left_by S e)) (next S e).mails)

module _ (ticks : Ticks) (network : Network) (S : State) (K : Clock) (made : ℕ) (free : List ℕ) (before between after : List (List Flight)) (place start : ℕ) (e : Event) (a : Actor)
    (turn : IsTurn ticks network S K made free before between after place start e a) where
  abbrev pub shape : Shape
  shape = S.setting.shape

  abbrev pub T : State
  T = next S e

  abbrev pub finish : ℕ
  finish = start + ticks_of ticks (kind_in S e)

  abbrev pub K' : Clock
  K' = clock_after_event ticks network S K e

  same-shape : T.setting.shape ≡ shape
  same-shape = ap (λ (C : Setting). C.shape) (same-setting S e)

  finish-is : finish ≡ finish_of ticks S K e
  finish-is = ap (λ (x : ℕ). x + ticks_of ticks (kind_in S e)) turn.chosen.start_is

  pub sent : IsSent S T a (left_by S e)
  sent = event-sent S e a turn.makes

  abbrev pub news : List Mail
  news = mails_of a (next_number S a) sent.outs

  dropped : drop (length (left_by S e)) T.mails ≡ news
  dropped = ap (drop (length (left_by S e))) sent.mails ∙ drop-append_seam (left_by S e) news

  put : (other : ℕ) (w : Flight → ℕ) → sum_by w (queue_at after other) ≡ sum_by w (queue_at between other) + weight_to network shape finish other w news
  put other w = turn.put other w ∙ ap (λ (ms : List Mail). sum_by w (queue_at between other) + weight_to network shape finish other w ms) dropped

  -- ---- the mails that stay

  if-none : (b : Bool) → (let n : ℕ = (if b then 0 else 0) in n) ≡ 0
  if-none true = refl
  if-none false = refl

  left-own : (other : ℕ) (id : MailId) → left_by S e ≡ S.mails → ((q : List Flight) → weight_taken e q (of id) ≡ 0)
      → sum_by (goes shape other id) S.mails ≡ sum_by (goes shape other id) (left_by S e) + (if place == other then weight_taken e (queue_at before place) (of id) else 0)
  left-own other id stays none =
      let zero_is : (if place == other then weight_taken e (queue_at before place) (of id) else 0) ≡ 0 =
      ap (λ (x : ℕ). if place == other then x else 0) (none (queue_at before place)) ∙ if-none (place == other)
      in
      omega (arith, ap (sum_by (goes shape other id)) stays, zero_is)

  first-is : (q : List Flight) (f : Flight) → slice_get q 0 ≡ Some f → (w : Flight → ℕ) (id : MailId) → weight_taken (Handle id) q w ≡ w f
  first-is [] f here w id = absurd (none-some f here)
  first-is (g ∷ gs) f here w id = ap w (same_Some g f here)

  left-handled : (other : ℕ) (id handled : MailId) → e ≡ Handle handled
      → sum_by (goes shape other id) S.mails ≡ sum_by (goes shape other id) (removed handled S.mails).1 + (if place == other then weight_taken (Handle handled) (queue_at before place) (of id) else 0)
  left-handled other id handled is =
      omega (arith, sum_by-taken (goes shape other id) handled S.mails m taken, weighs)
    where
      head : (f : Flight) × (slice_get (queue_at before place) 0 ≡ Some f) × (f.id ≡ handled)
      head = turn.chosen.head handled is

      entry : IsTrueFlight S K made place head.0
      entry = flight-true S K made free before place 0 head.0 turn.well turn.clocked head.1

      m : Mail
      m = entry.mail

      taken : (removed handled S.mails).0 ≡ Some m
      taken = subst (λ (x : MailId). (removed x S.mails).0 ≡ Some m) head.2 entry.taken

      weighs : goes shape other id m ≡ (if place == other then weight_taken (Handle handled) (queue_at before place) (of id) else 0)
      weighs =
          ap (λ (x : ℕ). if x == other then cond (same_id m.id id) 1 0 else 0) entry.to
          ∙ (ap (λ (x : MailId). if place == other then cond (same_id x id) 1 0 else 0) entry.id
          ∙ ap (λ (x : ℕ). if place == other then x else 0) (sym (first-is (queue_at before place) head.0 head.1 (of id) handled)))

  left-weighs : (other : ℕ) (id : MailId)
      → sum_by (goes shape other id) S.mails ≡ sum_by (goes shape other id) (left_by S e) + (if place == other then weight_taken e (queue_at before place) (of id) else 0)
  left-weighs other id = by_event e refl where
    by_event : (x : Event) → e ≡ x
        → sum_by (goes shape other id) S.mails ≡ sum_by (goes shape other id) (left_by S e) + (if place == other then weight_taken e (queue_at before place) (of id) else 0)
    by_event (Instr core) is = left-own other id (ap (left_by S) is) (λ q. ap (λ (y : Event). weight_taken y q (of id)) is)
    by_event (Evict core word) is = left-own other id (ap (left_by S) is) (λ q. ap (λ (y : Event). weight_taken y q (of id)) is)
    by_event (Arrive core) is = left-own other id (ap (left_by S) is) (λ q. ap (λ (y : Event). weight_taken y q (of id)) is)
    by_event (Handle handled) is =
        subst
        (λ (y : Event). sum_by (goes shape other id) S.mails ≡ sum_by (goes shape other id) (left_by S y) + (if place == other then weight_taken y (queue_at before place) (of id) else 0))
        (sym is) (left-handled other id handled is)

  all : (other : ℕ) (id : MailId) → sum_by (of id) (queue_at after other) ≡ sum_by (goes shape other id) T.mails
  all other id =
      let there : sum_by (goes shape other id) T.mails ≡ sum_by (goes shape other id) (left_by S e) + sum_by (goes shape other id) news =
      ap (sum_by (goes shape other id)) sent.mails ∙ sum_by-append (goes shape other id) (left_by S e) news
      in
      omega (arith, there, put other (of id), turn.took other (of id), left-weighs other id, turn.clocked.all other id)

  -- ---- the entries

  in-flight : (id : MailId) → 1 ≤ count_of id S.mails → K'.arrival id ≡ K.arrival id
  in-flight id some =
      let test : has_id id S.mails ≡ true = grind (arith, nat_tests, some) in
      rw test refl

  old-right : (other : ℕ) → sum_by (wrong shape K' (made + 1)) (queue_at before other) ≡ 0
  old-right other = nowhere (wrong shape K' (made + 1)) (queue_at before other) (λ k f here. by_flight f (flight-true S K made free before other k f turn.well turn.clocked here)) where
    by_flight : (f : Flight) → IsTrueFlight S K made other f → wrong shape K' (made + 1) f ≡ 0
    by_flight f entry = entry-right shape K' (made + 1) f (entry.arrival ∙ sym (in-flight f.id entry.count)) entry.sender (omega (arith, entry.low))

  is-new : (m : Mail) → IsNumbered a (next_number S a) m → count_of m.id S.mails ≡ 0
  is-new m new =
      let move = event-move S e a turn.well.machine turn.makes turn.there in
      let none = move.absent m.id.number new.past in
      subst (λ (x : Actor). count_of (record { sender = x; number = m.id.number }) S.mails ≡ 0) (sym new.sender) none

  new-arrival : (m : Mail) → IsNumbered a (next_number S a) m → (removed m.id T.mails).0 ≡ Some m → K'.arrival m.id ≡ finish + delay network shape m.id.sender m.to
  new-arrival m new taken =
      let test : has_id m.id S.mails ≡ false = grind (arith, nat_tests, is-new m new) in
      let there : delay_in network T m.id ≡ delay network shape m.id.sender m.to =
      ap (λ (o : Option Mail). delay_to network T m.id.sender (receiver_of o)) taken ∙ ap (λ (x : Shape). delay network x m.id.sender m.to) same-shape
      in
      new-is test there
    where
      new-is : has_id m.id S.mails ≡ false → delay_in network T m.id ≡ delay network shape m.id.sender m.to → K'.arrival m.id ≡ finish + delay network shape m.id.sender m.to
      new-is test there =
          ap (λ (b : Bool). if b then K.arrival m.id else finish_of ticks S K e + delay_in network T m.id) test
          ∙ (ap (λ (x : ℕ). x + delay_in network T m.id) (sym finish-is) ∙ ap (λ (x : ℕ). finish + x) there)

  new-right : (other : ℕ) → weight_to network shape finish other (wrong shape K' (made + 1)) news ≡ 0
  new-right other =
      nowhere (λ (m : Mail). if index shape m.to == other then wrong shape K' (made + 1) (flight_of network shape finish m) else 0) news
      (λ k m here. ap (λ (x : ℕ). if index shape m.to == other then x else 0) (entry k m here) ∙ if-none (index shape m.to == other))
    where
      entry : (k : ℕ) (m : Mail) → slice_get news k ≡ Some m → wrong shape K' (made + 1) (flight_of network shape finish m) ≡ 0
      entry k m here =
          let new = numbered a (next_number S a) sent.outs k m here in
          let spot : slice_get T.mails (length (left_by S e) + k) ≡ Some m = ap (λ (ms : List Mail). slice_get ms (length (left_by S e) + k)) sent.mails ∙ (get-behind (left_by S e) news k ∙ here) in
          let taken : (removed m.id T.mails).0 ≡ Some m = ap (λ (p : Option Mail × List Mail). p.0) (taken-of_id T.mails (length (left_by S e) + k) m turn.well_then.machine.distinct spot) in
          let to : has_actor shape.cores shape.banks m.to ≡ true = subst (λ (x : Shape). has_actor x.cores x.banks m.to ≡ true) same-shape (turn.well_then.to (length (left_by S e) + k) m spot) in
          let from : has_actor shape.cores shape.banks m.id.sender ≡ true = subst (λ (x : Actor). has_actor shape.cores shape.banks x ≡ true) (sym new.sender) turn.there in
          let late = delay-most network shape m.id.sender m.to turn.well.cores turn.well.banks turn.latency from to in
          entry-right shape K' (made + 1) (flight_of network shape finish m) (sym (new-arrival m new taken)) refl (omega (arith, late, turn.chosen.low, turn.few))
        where
          get-behind : (xs ys : List Mail) (i : ℕ) → slice_get (xs ++ ys) (length xs + i) ≡ slice_get ys i
          get-behind [] ys i = ap (slice_get ys) (let none : 0 + i ≡ i = omega arith in none)
          get-behind (x ∷ xs) ys i =
              ap (slice_get (x ∷ (xs ++ ys))) (let one : suc (length xs) + i ≡ suc (length xs + i) = omega arith in one) ∙ get-behind xs ys i

  right : (other : ℕ) → sum_by (wrong shape K' (made + 1)) (queue_at after other) ≡ 0
  right other =
      omega (arith, put other (wrong shape K' (made + 1)), new-right other, turn.took other (wrong shape K' (made + 1)), old-right other)

  -- ---- when actors are free

  within : place < length free
  within = omega (arith, turn.chosen.within, turn.clocked.frees)

  free-here : slice_index (slice_set free place finish) place ≡ finish
  free-here = get_or-set_same free place finish 0 within

  free-is : (other : ℕ) → other < shape.cores + shape.banks + 1 → slice_index (slice_set free place finish) other ≡ K'.free other
  free-is other low = by_test (other == place_in S e) refl where
    by_test : (t : Bool) → (other == place_in S e) ≡ t → slice_index (slice_set free place finish) other ≡ (if t then finish_of ticks S K e else K.free other)
    by_test true same =
        let here : place ≡ other = sym turn.chosen.place_is ∙ sym (eqb-true other (place_in S e) same) in
        subst (λ (x : ℕ). slice_index (slice_set free place finish) x ≡ finish_of ticks S K e) here (free-here ∙ finish-is)
    by_test false apart =
        let not : other ≡ place → ⊥ = λ is. eqb-false other (place_in S e) apart (is ∙ sym turn.chosen.place_is) in
        get_or-set_other free place other finish 0 not ∙ turn.clocked.free_is other low

  low : (other : ℕ) → slice_index (slice_set free place finish) other ≤ 7000000 * (made + 1)
  low other = by_test (other == place) refl where
    by_test : (t : Bool) → (other == place) ≡ t → slice_index (slice_set free place finish) other ≤ 7000000 * (made + 1)
    by_test true same =
        subst (λ (x : ℕ). slice_index (slice_set free place finish) x ≤ 7000000 * (made + 1)) (sym (eqb-true other place same)) (omega (arith, free-here, turn.chosen.low, turn.few))
    by_test false apart = omega (arith, get_or-set_other free place other finish 0 (eqb-false other place apart), turn.clocked.low other)

  pub moved : IsClocked shape T.mails K' (made + 1) (slice_set free place finish) after
  moved =
      record {
        frees = length-set free place finish ∙ turn.clocked.frees;
        rows = turn.rows ∙ turn.clocked.rows;
        free_is = free-is;
        low = low;
        all = all;
        right = right;
      }

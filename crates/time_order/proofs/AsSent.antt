-- An actor handles what any one actor sends it in the order of sending: the messages arrive in it.
use Rattle.std.proofs.Common.{◌≡◌, inl, inr, ℕ, ◌+◌, ◌≤◌, ◌<◌, max, nat_lt, ◌==◌, Bool, true, false, if◌then◌else◌, List, [], ◌∷◌, ◌++◌, Option, Some, None, refl, sym, ap, subst, ◌∙◌, arith}
use Rattle.std.proofs.lemmas.Bool.Decides.{nat_tests}
use Rattle.message_net.specs.declared.actor.Actor.{Actor}
use Rattle.message_net.specs.declared.actor.MailId.{MailId}
use Rattle.message_net.specs.declared.event.Event.{Event}
use Rattle.message_net.specs.declared.event.Event.TheVariants.{Instr, Evict, Arrive, Handle}
use Rattle.message_net.specs.declared.message.Mail.{Mail}
use Rattle.message_net.specs.Mail.{has_actor, actor_index}
use Rattle.message_net.specs.Pool.{count_of, has_id, removed}
use Rattle.message_net.proofs.MailLemmas.{actor_index-own}
use Rattle.message_net.proofs.PoolLemmas.{found-counted}
use Rattle.registration_protocol.specs.Node.{Setting}
use Rattle.machine_rules.specs.State.{State, initial_state}
use Rattle.machine_rules.specs.Next.{next, actor_index_in}
use Rattle.machine_rules.specs.Runs.{after}
use Rattle.machine_rules.specs.Sound.{IsReady}
use Rattle.machine_rules.proofs.RunsKept.{same-setting}
use Rattle.dn_machine.specs.Actors.{receiver_of, actor_in}
use Rattle.run_timing.specs.declared.network.Network.{Network}
use Rattle.run_timing.specs.declared.ticks.Ticks.{Ticks}
use Rattle.run_timing.specs.Network.{delay}
use Rattle.run_timing.proofs.Moves.{IsMove, event-move}
use Rattle.time_order.specs.Clock.{Clock, index_if_any, receiver_in, place_in, start_of, finish_of, delay_to, delay_in, clock_after_event, clock_at_start}
use Rattle.time_order.specs.Laws.{AreHandledAsSent}
use Rattle.time_order.specs.TimeOrder.{less, key_of, IsNextEvent, AreInTimeOrder}
use Rattle.time_order.proofs.Clocked.{index, IsWell, place-of}
use Rattle.time_order.proofs.Reached.{IsReached, reached-first, reached-next, well-reached}
use Rattle.time_order.proofs.Rising.{candidate-comes, handling-counted, well, actor, there, well-then, same-place}

-- ---- keys

less-more : (x y : ℕ) (xs ys : List ℕ) → x ≤ y → less xs ys ≡ true → less (x ∷ xs) (y ∷ ys) ≡ true
less-more x y xs ys low rest = by_tests (nat_lt x y) refl (x == y) refl where
  by_tests : (s : Bool) → nat_lt x y ≡ s → (t : Bool) → (x == y) ≡ t → less (x ∷ xs) (y ∷ ys) ≡ true
  by_tests true a t b = rw a refl
  by_tests false a true b = rw (a, b, rest) refl
  by_tests false a false b = absurd (grind (arith, nat_tests, a, b, low))

less-last : (x y : ℕ) → x < y → less (x ∷ []) (y ∷ []) ≡ true
less-last x y below = let test : nat_lt x y ≡ true = grind (arith, nat_tests, below) in rw test refl

-- of two messages to one actor from one sender, the one that arrives no later and has the lesser number has the lesser key
less-key : (S : State) (K : Clock) (i j : MailId) → i.sender ≡ j.sender → receiver_in S i ≡ receiver_in S j → K.arrival i ≤ K.arrival j → i.number < j.number
    → less (key_of S K (Handle i)) (key_of S K (Handle j)) ≡ true
less-key S K i j senders receivers arrives below =
    let place : place_in S (Handle i) ≡ place_in S (Handle j) = ap (index_if_any S) receivers in
    let free : K.free (place_in S (Handle i)) ≡ K.free (place_in S (Handle j)) = ap K.free place in
    let sender : actor_index_in S i.sender ≡ actor_index_in S j.sender = ap (actor_index_in S) senders in
    let numbers_i : List ℕ = i.number ∷ [] in
    let numbers_j : List ℕ = j.number ∷ [] in
    let senders_i : List ℕ = actor_index_in S i.sender ∷ numbers_i in
    let senders_j : List ℕ = actor_index_in S j.sender ∷ numbers_j in
    let arrivals_i : List ℕ = K.arrival i ∷ senders_i in
    let arrivals_j : List ℕ = K.arrival j ∷ senders_j in
    let places_i : List ℕ = 0 ∷ arrivals_i in
    let places_j : List ℕ = 0 ∷ arrivals_j in
    less-more (start_of S K (Handle i)) (start_of S K (Handle j)) (place_in S (Handle i) ∷ places_i) (place_in S (Handle j) ∷ places_j) (omega (arith, arrives, free))
    (less-more (place_in S (Handle i)) (place_in S (Handle j)) places_i places_j (omega (arith, place))
    (less-more 0 0 arrivals_i arrivals_j (omega arith)
    (less-more (K.arrival i) (K.arrival j) senders_i senders_j arrives
    (less-more (actor_index_in S i.sender) (actor_index_in S j.sender) numbers_i numbers_j (omega (arith, sender)) (less-last i.number j.number below)))))

-- ---- receivers

-- a message in flight has a receiver
record HasReceiver (S : State) (id : MailId) : Type 0 where
  to : Actor
  is : receiver_in S id ≡ Some to
  there_is : has_actor S.setting.shape.cores S.setting.shape.banks to ≡ true

has-receiver : (S : State) (id : MailId) → IsWell S → 1 ≤ count_of id S.mails → HasReceiver S id
has-receiver S id well' some =
    let found = found-counted id S.mails some in
    record {
      to = found.1.to;
      is = ap (λ (p : Option Mail × List Mail). receiver_of p.0) found.2.takes;
      there_is = well'.to found.0 found.1 found.2.here;
    }

-- the event of an actor is at its index
place-actor : (S : State) (e : Event) (a : Actor) → actor_in S e ≡ Some a → place_in S e ≡ actor_index_in S a
unfolding actor_in
place-actor S (Instr core) a is = ap (index_if_any S) is
place-actor S (Evict core word) a is = ap (index_if_any S) is
place-actor S (Arrive core) a is = ap (index_if_any S) is
place-actor S (Handle id) a is = ap (index_if_any S) is

-- no event starts before its actor is free
start-free : (S : State) (K : Clock) (e : Event) → K.free (place_in S e) ≤ start_of S K e
start-free S K (Instr core) = omega arith
start-free S K (Evict core word) = omega arith
start-free S K (Arrive core) = omega arith
start-free S K (Handle id) = omega arith

-- ---- what holds of the messages in flight

record IsOrdered (network : Network) (S : State) (K : Clock) : Type 0 where
  -- a message arrives at the latest its delay after its sender is free
  soon : (i : MailId) → 1 ≤ count_of i S.mails → K.arrival i ≤ K.free (actor_index_in S i.sender) + delay_in network S i
  -- messages from one actor to another arrive in the order of their numbers
  order : (i j : MailId) → 1 ≤ count_of i S.mails → 1 ≤ count_of j S.mails → i.sender ≡ j.sender → receiver_in S i ≡ receiver_in S j → i.number ≤ j.number → K.arrival i ≤ K.arrival j

ordered-first : (network : Network) (C : Setting) → IsOrdered network (initial_state C) clock_at_start
unfolding initial_state
ordered-first network C =
    record {
      soon = λ i some. absurd (omega (arith, some));
      order = λ i j some other senders receivers numbers. absurd (omega (arith, some));
    }

module _ (ticks : Ticks) (network : Network) (S : State) (K : Clock) (e : Event) (reached : IsReached S) (is : IsNextEvent S K e) (ordered : IsOrdered network S K) where
  abbrev S' : State
  S' = next S e

  abbrev L : Clock
  L = clock_after_event ticks network S K e

  abbrev a : Actor
  a = (actor ticks network S K e reached is).0

  abbrev finish : ℕ
  finish = finish_of ticks S K e

  move : IsMove S.setting S S' a
  move = event-move S e a (well ticks network S K e reached is).machine (actor ticks network S K e reached is).1 (there ticks network S K e reached is)

  here : place_in S e ≡ actor_index_in S a
  here = place-actor S e a (actor ticks network S K e reached is).1

  index-same : (b : Actor) → actor_index_in S' b ≡ actor_index_in S b
  index-same b = ap (λ (C : Setting). index C.shape b) (same-setting S e)

  delay-same : (from : Actor) (r : Option Actor) → delay_to network S' from r ≡ delay_to network S from r
  delay-same from None = refl
  delay-same from (Some to) = ap (λ (C : Setting). delay network C.shape from to) (same-setting S e)

  -- a message that stays in flight has the same receiver, and so the same delay
  same-receiver : (id : MailId) → 1 ≤ count_of id S.mails → 1 ≤ count_of id S'.mails → receiver_in S' id ≡ receiver_in S id
  same-receiver id before then' =
      let old = has-receiver S id (well ticks network S K e reached is) before in
      let new = has-receiver S' id (well-then ticks network S K e reached is) then' in
      let places : place_in S' (Handle id) ≡ place_in S (Handle id) = same-place ticks network S K e reached is id before then' in
      let indexes : index S.setting.shape new.to ≡ index S.setting.shape old.to =
      sym (index-same new.to) ∙ (sym (ap (index_if_any S') new.is) ∙ (places ∙ ap (index_if_any S) old.is))
      in
      let new_there : has_actor S.setting.shape.cores S.setting.shape.banks new.to ≡ true =
      subst (λ (C : Setting). has_actor C.shape.cores C.shape.banks new.to ≡ true) (same-setting S e) new.there_is
      in
      new.is ∙ (ap (λ (b : Actor). Some b) (actor_index-own S.setting.shape.cores S.setting.shape.banks new.to old.to new_there old.there_is indexes) ∙ sym old.is)

  same-delay : (id : MailId) → 1 ≤ count_of id S.mails → 1 ≤ count_of id S'.mails → delay_in network S' id ≡ delay_in network S id
  same-delay id before then' = ap (delay_to network S' id.sender) (same-receiver id before then') ∙ delay-same id.sender (receiver_in S id)

  -- messages of one sender to one receiver have one delay
  one-delay : (i j : MailId) → i.sender ≡ j.sender → receiver_in S' i ≡ receiver_in S' j → delay_in network S' i ≡ delay_in network S' j
  one-delay i j senders receivers = ap (λ (b : Actor). delay_to network S' b (receiver_in S' i)) senders ∙ ap (delay_to network S' j.sender) receivers

  -- no actor is free earlier than before, and the event's is when it finishes
  free-rises : (place : ℕ) → K.free place ≤ L.free place
  free-rises place = by_test (place == place_in S e) refl where
    by_test : (t : Bool) → (place == place_in S e) ≡ t → K.free place ≤ (if t then finish_of ticks S K e else K.free place)
    by_test true same =
        let at' : place ≡ place_in S e = grind (arith, nat_tests, same) in
        omega (arith, start-free S K e, ap K.free at')
    by_test false apart = omega arith

  free-now : (place : ℕ) → place ≡ place_in S e → L.free place ≡ finish
  free-now place same = let test : (place == place_in S e) ≡ true = grind (arith, nat_tests, same) in rw test refl

  old : (id : MailId) → has_id id S.mails ≡ true → 1 ≤ count_of id S.mails
  old id test = grind (arith, nat_tests, test)

  fresh : (id : MailId) → has_id id S.mails ≡ false → count_of id S.mails ≡ 0
  fresh id test = grind (arith, nat_tests, test)

  -- what is new was sent by the event's actor
  from-here : (id : MailId) → has_id id S.mails ≡ false → 1 ≤ count_of id S'.mails → id.sender ≡ a
  from-here id test some = (move.sends id (fresh id test) some).0

  -- and nothing that was in flight has as great a number
  not-before : (i j : MailId) → has_id i S.mails ≡ false → 1 ≤ count_of i S'.mails → 1 ≤ count_of j S.mails → i.sender ≡ j.sender → i.number ≤ j.number → ⊥
  not-before i j test some other senders numbers =
      let new = move.sends i (fresh i test) some in
      let none = move.absent j.number (omega (arith, new.1, numbers)) in
      let sender : a ≡ j.sender = sym new.0 ∙ senders in
      let absent : count_of j S.mails ≡ 0 = subst (λ (b : Actor). count_of (record { sender = b; number = j.number }) S.mails ≡ 0) sender none in
      omega (arith, absent, other)

  soon-then : (i : MailId) → 1 ≤ count_of i S'.mails → L.arrival i ≤ L.free (actor_index_in S' i.sender) + delay_in network S' i
  soon-then i some = by_before (has_id i S.mails) refl where
    by_before : (t : Bool) → has_id i S.mails ≡ t
        → (if t then K.arrival i else finish_of ticks S K e + delay_in network S' i) ≤ L.free (actor_index_in S' i.sender) + delay_in network S' i
    by_before true test =
        omega (arith, ordered.soon i (old i test), free-rises (actor_index_in S i.sender), same-delay i (old i test) some, ap L.free (index-same i.sender))
    by_before false test =
        let at' : actor_index_in S' i.sender ≡ place_in S e = index-same i.sender ∙ (ap (actor_index_in S) (from-here i test some) ∙ sym here) in
        omega (arith, free-now (actor_index_in S' i.sender) at')

  order-then : (i j : MailId) → 1 ≤ count_of i S'.mails → 1 ≤ count_of j S'.mails → i.sender ≡ j.sender → receiver_in S' i ≡ receiver_in S' j → i.number ≤ j.number → L.arrival i ≤ L.arrival j
  order-then i j some other senders receivers numbers = by_before (has_id i S.mails) refl (has_id j S.mails) refl where
    delays : delay_in network S' i ≡ delay_in network S' j
    delays = one-delay i j senders receivers

    by_before : (s : Bool) → has_id i S.mails ≡ s → (t : Bool) → has_id j S.mails ≡ t
        → (if s then K.arrival i else finish_of ticks S K e + delay_in network S' i) ≤ (if t then K.arrival j else finish_of ticks S K e + delay_in network S' j)
    by_before true first true second =
        ordered.order i j (old i first) (old j second) senders (sym (same-receiver i (old i first) some) ∙ (receivers ∙ same-receiver j (old j second) other)) numbers
    by_before true first false second =
        let at' : actor_index_in S i.sender ≡ place_in S e = ap (actor_index_in S) (senders ∙ from-here j second other) ∙ sym here in
        omega (arith, ordered.soon i (old i first), ap K.free at', start-free S K e, same-delay i (old i first) some, delays)
    by_before false first true second = absurd (not-before i j first some (old j second) senders numbers)
    by_before false first false second = omega (arith, delays)

  ordered-next : IsOrdered network S' L
  ordered-next = record { soon = soon-then; order = order-then }

-- ---- the law

-- the event that is next handles no message before one that was sent earlier
turn-as-sent : (network : Network) (S : State) (K : Clock) (id other : MailId) → IsOrdered network S K → IsNextEvent S K (Handle id) → 1 ≤ count_of id S.mails → 1 ≤ count_of other S.mails
    → other.sender ≡ id.sender → receiver_in S other ≡ receiver_in S id → id.number ≤ other.number
turn-as-sent network S K id other ordered is here some senders receivers = by_test (nat_lt other.number id.number) refl where
  by_test : (t : Bool) → nat_lt other.number id.number ≡ t → id.number ≤ other.number
  by_test true e =
      let below : other.number < id.number = grind (arith, nat_tests, e) in
      let arrives = ordered.order other id some here senders receivers (omega (arith, below)) in
      let before : less (key_of S K (Handle other)) (key_of S K (Handle id)) ≡ true = less-key S K other id senders receivers arrives below in
      let not = is.least (Handle other) (inr (other, refl, some)) in
      absurd (cc)
  by_test false e = grind (arith, nat_tests, e)

handles-counted : (S : State) (id : MailId) → IsReached S → (K : Clock) → IsNextEvent S K (Handle id) → 1 ≤ count_of id S.mails
handles-counted S id reached K is = handling-counted S id (candidate-comes S (Handle id) (well-reached S reached) is.candidate)

as-sent-from : (ticks : Ticks) (network : Network) (S : State) (K : Clock) (before rest : List Event) (id other : MailId) → IsReached S → IsOrdered network S K
    → AreInTimeOrder ticks network S K (before ++ Handle id ∷ rest) → 1 ≤ count_of other (after S before).mails → other.sender ≡ id.sender
    → receiver_in (after S before) other ≡ receiver_in (after S before) id → id.number ≤ other.number
as-sent-from ticks network S K [] rest id other reached ordered order some senders receivers =
    turn-as-sent network S K id other ordered order.0 (handles-counted S id reached K order.0) some senders receivers
as-sent-from ticks network S K (x ∷ xs) rest id other reached ordered order some senders receivers =
    as-sent-from ticks network (next S x) (clock_after_event ticks network S K x) xs rest id other
    (reached-next S x reached (candidate-comes S x (well-reached S reached) order.0.candidate)) (ordered-next ticks network S K x reached order.0 ordered) order.1 some senders receivers

pub handled-as-sent : (ticks : Ticks) (network : Network) (C : Setting) (events : List Event) → IsReady C → AreInTimeOrder ticks network (initial_state C) clock_at_start events
    → AreHandledAsSent (initial_state C) events
handled-as-sent ticks network C events ready order before rest id other parts some senders receivers =
    as-sent-from ticks network (initial_state C) clock_at_start before rest id other (reached-first C ready) (ordered-first network C)
    (subst (AreInTimeOrder ticks network (initial_state C) clock_at_start) parts order) some senders receivers

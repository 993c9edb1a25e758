-- The actor that can start first does the next event.
use Rattle.std.proofs.Common.{◌≡◌, ◌⊎◌, inl, inr, ℕ, zero, suc, ◌+◌, ◌*◌, ◌<◌, ◌≤◌, max, Bool, true, false, nat_lt, cond, List, [], ◌∷◌, slice_get, slice_index, slice_index_or, Option, Some, None, refl, sym, ap, subst, ◌∙◌, arith}
use Rattle.std.proofs.lemmas.Bool.Decides.{nat_tests}
use Rattle.std.proofs.lemmas.Option.{none-some, same_Some, slice_get_within}
use Rattle.message_net.specs.declared.actor.MailId.{MailId}
use Rattle.message_net.specs.declared.event.Event.{Event}
use Rattle.message_net.specs.declared.event.Event.TheVariants.{Instr, Evict, Arrive, Handle}
use Rattle.message_net.specs.Pool.{count_of}
use Rattle.dn_base.specs.declared.ids.WordId.{WordId}
use Rattle.registration_protocol.specs.Node.{NodeParts, Setting, need_now}
use Rattle.registration_protocol.specs.OwnEvents.{may_instr, may_evict, may_arrive, me, wanted_by, victim_for, eviction_of, eviction, arrival, own_event, IsStill}
use Rattle.std.specs.Option.{option_or}
use Rattle.machine_rules.specs.State.{State}
use Rattle.machine_rules.specs.Next.{enabled, when_there, actor_index_in}
use Rattle.machine_rules.specs.Runs.{IsOver}
use Rattle.dn_machine.specs.Pick.{own_event_of, own_event_in}
use Rattle.dn_machine.proofs.OwnEvent.{own-event-comes}
use Rattle.dn_machine.proofs.PickLaws.{own-none}
use Rattle.time_order.specs.declared.choice.Choice.{Choice}
use Rattle.time_order.specs.declared.flight.Flight.{Flight}
use Rattle.time_order.specs.Actors.{choice_at, AreLooked}
use Rattle.time_order.specs.Choices.{IsFirstChoice}
use Rattle.time_order.specs.Clock.{Clock, place_in, start_of}
use Rattle.time_order.specs.Flights.{AreSorted, order_of, queue_at}
use Rattle.time_order.specs.TimeOrder.{IsCandidate, less, key_of, IsNextEvent}
use Rattle.time_order.proofs.Choosing.{IsOwnChosen, IsMailChosen, chosen-either, own-start, mail-start}
use Rattle.time_order.proofs.Clocked.{IsClocked, IsWell, IsTrueFlight, flight-true, place-of, HasFlight, has-flight}
use Rattle.time_order.proofs.Less.{less-not, not-less}
use Rattle.time_order.proofs.Weights.{has-first}

-- ---- own events

-- an own event of the core at an index
abbrev pub IsOwnOf : ℕ → Event → Type 0
IsOwnOf place (Instr core) = core.0 ≡ place
IsOwnOf place (Evict core word) = core.0 ≡ place
IsOwnOf place (Arrive core) = core.0 ≡ place
IsOwnOf place (Handle id) = ⊥

own-form : (C : Setting) (n : NodeParts) (e : Event) → own_event C n ≡ Some e → IsOwnOf n.core e
own-form C n e is = by_instr (may_instr C n) refl is where
  by_arrive : (b : Bool) → may_arrive n ≡ b → cond b (Some (Arrive (me n))) None ≡ Some e → IsOwnOf n.core e
  by_arrive true may is = subst (IsOwnOf n.core) (same_Some (Arrive (me n)) e is) refl
  by_arrive false may is = absurd (none-some e is)

  by_evict : (v : WordId) (b : Bool) → may_evict C n v.0 ≡ b → option_or (cond b (Some (Evict (me n) v)) None) (arrival n) ≡ Some e → IsOwnOf n.core e
  by_evict v true may is = subst (IsOwnOf n.core) (same_Some (Evict (me n) v) e is) refl
  by_evict v false may is = by_arrive (may_arrive n) refl is

  by_victim : (o : Option WordId) → option_or (eviction_of C n o) (arrival n) ≡ Some e → IsOwnOf n.core e
  by_victim None is = by_arrive (may_arrive n) refl is
  by_victim (Some v) is = by_evict v (may_evict C n v.0) refl is

  by_instr : (b : Bool) → may_instr C n ≡ b → cond b (Some (Instr (me n))) (option_or (eviction C n) (arrival n)) ≡ Some e → IsOwnOf n.core e
  by_instr true may is = subst (IsOwnOf n.core) (same_Some (Instr (me n)) e is) refl
  by_instr false may is = by_victim (victim_for n (wanted_by n (need_now C n))) is

-- a core that has an own event is one of the machine's, and it is the core's
pub own-of : (S : State) (core : ℕ) (e : Event) → IsWell S → own_event_in S core ≡ Some e → (core < S.setting.shape.cores) × IsOwnOf core e
unfolding own_event_in
own-of S core e well is = by_node (slice_get S.nodes core) refl is where
  by_node : (o : Option NodeParts) → slice_get S.nodes core ≡ o → own_event_of S.setting o ≡ Some e → (core < S.setting.shape.cores) × IsOwnOf core e
  by_node None there own = absurd (none-some e own)
  by_node (Some n) there own = (
    omega (arith, slice_get_within S.nodes core n there, well.machine.nodes),
    subst (λ (x : ℕ). IsOwnOf x e) (well.machine.node core n there).core (own-form S.setting n e own),
  )

-- its key
pub own-key : (S : State) (K : Clock) (place : ℕ) (e : Event) → IsOwnOf place e → key_of S K e ≡ K.free place ∷ place ∷ 1 ∷ 0 ∷ 0 ∷ 0 ∷ []
own-key S K place (Instr core) is = rw is refl
own-key S K place (Evict core word) is = rw is refl
own-key S K place (Arrive core) is = rw is refl
own-key S K place (Handle id) is = absurd is

pub own-start-of : (S : State) (K : Clock) (place : ℕ) (e : Event) → IsOwnOf place e → start_of S K e ≡ K.free place
own-start-of S K place (Instr core) is = rw is refl
own-start-of S K place (Evict core word) is = rw is refl
own-start-of S K place (Arrive core) is = rw is refl
own-start-of S K place (Handle id) is = absurd is

pub own-place : (S : State) (place : ℕ) (e : Event) → IsOwnOf place e → place_in S e ≡ place
own-place S place (Instr core) is = is
own-place S place (Evict core word) is = is
own-place S place (Arrive core) is = is
own-place S place (Handle id) is = absurd is

-- ---- messages

-- the key of the handling of a message that stands among those to the actor at an index
pub mail-start-of : (S : State) (K : Clock) (made place : ℕ) (f : Flight) → IsTrueFlight S K made place f → start_of S K (Handle f.id) ≡ max f.arrival (K.free place)
mail-start-of S K made place f entry =
    let there = place-of S f.id entry.mail place entry.taken entry.to in
    ap (λ (x : ℕ). max (K.arrival f.id) (K.free x)) there ∙ ap (λ (x : ℕ). max x (K.free place)) (sym entry.arrival)

pub mail-key : (S : State) (K : Clock) (made place : ℕ) (f : Flight) → IsTrueFlight S K made place f
    → key_of S K (Handle f.id) ≡ max f.arrival (K.free place) ∷ place ∷ 0 ∷ order_of f
mail-key S K made place f entry =
    let there = place-of S f.id entry.mail place entry.taken entry.to in
    ap (λ (x : ℕ). x ∷ place_in S (Handle f.id) ∷ 0 ∷ K.arrival f.id ∷ actor_index_in S f.id.sender ∷ f.id.number ∷ []) (mail-start-of S K made place f entry)
    ∙ (ap (λ (x : ℕ). max f.arrival (K.free place) ∷ x ∷ 0 ∷ K.arrival f.id ∷ actor_index_in S f.id.sender ∷ f.id.number ∷ []) there
    ∙ (ap (λ (x : ℕ). max f.arrival (K.free place) ∷ place ∷ 0 ∷ x ∷ actor_index_in S f.id.sender ∷ f.id.number ∷ []) (sym entry.arrival)
    ∙ ap (λ (x : ℕ). max f.arrival (K.free place) ∷ place ∷ 0 ∷ f.arrival ∷ x ∷ f.id.number ∷ []) (sym entry.sender)))

-- the first message doesn't come after any other
sorted-first : (flights : List Flight) (k : ℕ) (f h : Flight) → AreSorted flights → slice_get flights 0 ≡ Some h → slice_get flights k ≡ Some f → less (order_of f) (order_of h) ≡ false
sorted-first flights zero f h sorted first here =
    let same : h ≡ f = same_Some h f (sym first ∙ here) in
    subst (λ (x : Flight). less (order_of x) (order_of h) ≡ false) same (not-self (order_of h))
  where
    not-self : (xs : List ℕ) → less xs xs ≡ false
    not-self [] = refl
    not-self (x ∷ xs) = less-not x x xs xs (omega arith) (λ is. not-self xs)
sorted-first flights (suc k) f h sorted first here =
    let a : slice_index_or flights 0 h ≡ h = get-is flights 0 h h first in
    let b : slice_index_or flights (suc k) h ≡ f = get-is flights (suc k) f h here in
    subst (λ (x : Flight). less (order_of x) (order_of h) ≡ false) b
    (subst (λ (x : Flight). less (order_of (slice_index_or flights (suc k) h)) (order_of x) ≡ false) a
    (sorted 0 (suc k) h (omega arith) (slice_get_within flights (suc k) f here)))
  where
    get-is : (xs : List Flight) (i : ℕ) (x d : Flight) → slice_get xs i ≡ Some x → slice_index_or xs i d ≡ x
    get-is [] i x d is = absurd (none-some x is)
    get-is (y ∷ ys) zero x d is = same_Some y x is
    get-is (y ∷ ys) (suc i) x d is = get-is ys i x d is

pub handling-comes : (S : State) (id : MailId) → 1 ≤ count_of id S.mails → enabled S (Handle id) ≡ true
unfolding enabled
handling-comes S id some = grind (arith, nat_tests, some)

same-handling : (a b : MailId) → Handle a ≡ Handle b → a ≡ b
same-handling a b is = cc is

-- ---- the first choice

-- what the code knows when it has looked at each actor
pub record IsPrepared (S : State) (K : Clock) (made : ℕ) (free : List ℕ) (queues : List (List Flight)) (choices : List (Option Choice)) (found : Option (ℕ × Choice)) : Type 0 where
  pub well : IsWell S
  pub clocked : IsClocked S.setting.shape S.mails K made free queues
  pub sorted : (place : ℕ) → place < S.setting.shape.cores + S.setting.shape.banks + 1 → AreSorted (queue_at queues place)
  pub looked : AreLooked S free queues (S.setting.shape.cores + S.setting.shape.banks + 1) choices
  pub first : IsFirstChoice choices (S.setting.shape.cores + S.setting.shape.banks + 1) found

-- what is known of the actor that can start first
pub record IsChosen (S : State) (K : Clock) (made : ℕ) (queues : List (List Flight)) (place start : ℕ) (e : Event) : Type 0 where
  pub within : place < S.setting.shape.cores + S.setting.shape.banks + 1
  pub start_is : start ≡ start_of S K e
  pub place_is : place_in S e ≡ place
  pub candidate : IsCandidate S e
  pub may : enabled S e ≡ true
  pub low : start ≤ 7000000 * made
  pub head : (id : MailId) → e ≡ Handle id → (f : Flight) × (slice_get (queue_at queues place) 0 ≡ Some f) × (f.id ≡ id)

module _ (S : State) (K : Clock) (made : ℕ) (free : List ℕ) (queues : List (List Flight)) (choices : List (Option Choice)) (r : ℕ × Choice) (prepared : IsPrepared S K made free queues choices (Some r)) where
  abbrev pub place : ℕ
  place = r.0

  abbrev pub choice : Choice
  choice = r.1

  abbrev pub actors : ℕ
  actors = S.setting.shape.cores + S.setting.shape.banks + 1

  within : place < actors
  within = prepared.first.within r refl

  -- the choice of the actor
  is : choice_at S free queues place ≡ Some choice
  is = same_Some (choice_at S free queues place) (Some choice) (sym (prepared.looked place within) ∙ prepared.first.found r refl)

  either : IsOwnChosen (own_event_in S place) (slice_index free place) (slice_get (queue_at queues place) 0) choice
      ⊎ IsMailChosen (own_event_in S place) (slice_index free place) (slice_get (queue_at queues place) 0) choice
  either = chosen-either (own_event_in S place) (slice_index free place) (slice_get (queue_at queues place) 0) choice is

  true-flight : (p k : ℕ) (f : Flight) → slice_get (queue_at queues p) k ≡ Some f → IsTrueFlight S K made p f
  true-flight p k f here = flight-true S K made free queues p k f prepared.well prepared.clocked here

  pub chosen-of : IsChosen S K made queues place choice.start choice.event
  chosen-of = by_either either where
    by_own : (own : IsOwnChosen (own_event_in S place) (slice_index free place) (slice_get (queue_at queues place) 0) choice) → (e : Event) → choice.event ≡ e → own_event_in S place ≡ Some e → IsOwnOf place e
        → IsChosen S K made queues place choice.start e
    by_own own e same event form =
        record {
          within = within;
          start_is = own.start ∙ (prepared.clocked.free_is place within ∙ sym (own-start-of S K place e form));
          place_is = own-place S place e form;
          candidate = inl (place, event);
          may = own-event-comes S place e prepared.well.machine event;
          low = omega (arith, own.start, prepared.clocked.low place);
          head = λ id handles. absurd (subst (IsOwnOf place) handles form);
        }

    by_mail : (mail : IsMailChosen (own_event_in S place) (slice_index free place) (slice_get (queue_at queues place) 0) choice) → IsChosen S K made queues place choice.start choice.event
    by_mail mail =
        let f = mail.flight in
        let entry = true-flight place 0 f mail.is_first in
        subst (λ (c : Choice). IsChosen S K made queues place c.start c.event) (sym mail.choice)
        (record {
          within = within;
          start_is = ap (max f.arrival) (prepared.clocked.free_is place within) ∙ sym (mail-start-of S K made place f entry);
          place_is = place-of S f.id entry.mail place entry.taken entry.to;
          candidate = inr (f.id, refl, entry.count);
          may = handling-comes S f.id entry.count;
          low = omega (arith, entry.low, prepared.clocked.low place);
          head = λ id handles. (f, mail.is_first, same-handling f.id id handles);
        })

    by_either : IsOwnChosen (own_event_in S place) (slice_index free place) (slice_get (queue_at queues place) 0) choice
        ⊎ IsMailChosen (own_event_in S place) (slice_index free place) (slice_get (queue_at queues place) 0) choice → IsChosen S K made queues place choice.start choice.event
    by_either (inl own) = by_own own choice.event refl own.event (own-of S place choice.event prepared.well own.event).1
    by_either (inr mail) = by_mail mail

  -- ---- no candidate comes before it

  -- its key
  abbrev IsKey : List ℕ → Type 0
  IsKey rest = key_of S K choice.event ≡ choice.start ∷ place ∷ rest

  -- a choice of another actor doesn't come before it
  later : (p : ℕ) (x : Choice) → p < actors → choice_at S free queues p ≡ Some x → (choice.start ≤ x.start) × (p < place → choice.start < x.start)
  later p x low there = (
    prepared.first.least r refl p x low (prepared.looked p low ∙ ap (λ (o : Option Choice). Some o) there),
    λ before. prepared.first.before r refl p x before (prepared.looked p low ∙ ap (λ (o : Option Choice). Some o) there),
  )

  -- keys by their first two parts
  parts : (p start : ℕ) (x : Choice) (rest mine : List ℕ) → p < actors → choice_at S free queues p ≡ Some x → x.start ≤ start → (start ≡ choice.start → p ≡ place → less rest mine ≡ false)
      → less (start ∷ p ∷ rest) (choice.start ∷ place ∷ mine) ≡ false
  parts p start x rest mine low there sooner tail =
      let after = later p x low there in
      less-not start choice.start (p ∷ rest) (place ∷ mine) (omega (arith, after.0, sooner))
      (λ same. less-not p place rest mine (not-before (λ before. omega (arith, after.1 before, sooner, same))) (λ here. tail same here))
    where
      not-before : (p < place → ⊥) → place ≤ p
      not-before never = by_test (nat_lt p place) refl where
        by_test : (t : Bool) → nat_lt p place ≡ t → place ≤ p
        by_test true e = absurd (never (grind (arith, nat_tests, e)))
        by_test false e = grind (arith, nat_tests, e)

  -- the tail of its key
  mine-own : IsOwnChosen (own_event_in S place) (slice_index free place) (slice_get (queue_at queues place) 0) choice → IsKey (1 ∷ 0 ∷ 0 ∷ 0 ∷ [])
  mine-own own =
      own-key S K place choice.event (own-of S place choice.event prepared.well own.event).1
      ∙ ap (λ (x : ℕ). x ∷ place ∷ 1 ∷ 0 ∷ 0 ∷ 0 ∷ []) (sym (prepared.clocked.free_is place within) ∙ sym own.start)

  mine-mail : (mail : IsMailChosen (own_event_in S place) (slice_index free place) (slice_get (queue_at queues place) 0) choice) → IsKey (0 ∷ order_of mail.flight)
  mine-mail mail =
      let f = mail.flight in
      subst (λ (c : Choice). key_of S K c.event ≡ c.start ∷ place ∷ 0 ∷ order_of f) (sym mail.choice)
      (mail-key S K made place f (true-flight place 0 f mail.is_first) ∙ ap (λ (x : ℕ). max f.arrival x ∷ place ∷ 0 ∷ order_of f) (sym (prepared.clocked.free_is place within)))

  -- an own event
  not-own : (core : ℕ) (o : Event) → own_event_in S core ≡ Some o → less (key_of S K o) (key_of S K choice.event) ≡ false
  not-own core o own = by_either either where
    form : (core < S.setting.shape.cores) × IsOwnOf core o
    form = own-of S core o prepared.well own

    low : core < actors
    low = omega (arith, form.0)

    there : (c : Choice) × (choice_at S free queues core ≡ Some c) × (c.start ≤ slice_index free core)
    there = own-start (own_event_in S core) (slice_index free core) (slice_get (queue_at queues core) 0) o own

    all : (mine : List ℕ) → less (1 ∷ 0 ∷ 0 ∷ 0 ∷ []) mine ≡ false → IsKey mine → less (key_of S K o) (key_of S K choice.event) ≡ false
    all mine tail key =
        rw (own-key S K core o form.1)
        (rw key (parts core (K.free core) there.0 (1 ∷ 0 ∷ 0 ∷ 0 ∷ []) mine low there.1 (omega (arith, there.2, prepared.clocked.free_is core low)) (λ a b. tail)))

    by_either : IsOwnChosen (own_event_in S place) (slice_index free place) (slice_get (queue_at queues place) 0) choice
        ⊎ IsMailChosen (own_event_in S place) (slice_index free place) (slice_get (queue_at queues place) 0) choice → less (key_of S K o) (key_of S K choice.event) ≡ false
    by_either (inl mine) = all (1 ∷ 0 ∷ 0 ∷ 0 ∷ []) refl (mine-own mine)
    by_either (inr mine) = all (0 ∷ order_of mine.flight) (less-not 1 0 (0 ∷ 0 ∷ 0 ∷ []) (order_of mine.flight) (omega arith) (λ same. absurd (omega (arith, same)))) (mine-mail mine)

  -- the handling of a message
  not-mail : (id : MailId) → 1 ≤ count_of id S.mails → less (key_of S K (Handle id)) (key_of S K choice.event) ≡ false
  not-mail id some = by_flight (has-flight S K made free queues id prepared.well prepared.clocked some) where
    by_flight : HasFlight S queues id → less (key_of S K (Handle id)) (key_of S K choice.event) ≡ false
    by_flight has = subst (λ (x : MailId). less (key_of S K (Handle x)) (key_of S K choice.event) ≡ false) has.named (by_either either) where
      f : Flight
      f = has.flight

      q : ℕ
      q = has.place

      head : (h : Flight) × (slice_get (queue_at queues q) 0 ≡ Some h)
      head = has-first (queue_at queues q) has.spot f has.here

      sorted : less (order_of f) (order_of head.0) ≡ false
      sorted = sorted-first (queue_at queues q) has.spot f head.0 (prepared.sorted q has.within_) head.1 has.here

      no_later : head.0.arrival ≤ f.arrival
      no_later = not-less f.arrival head.0.arrival (f.sender ∷ f.id.number ∷ []) (head.0.sender ∷ head.0.id.number ∷ []) sorted

      there : (c : Choice) × (choice_at S free queues q ≡ Some c) × (c.start ≤ max head.0.arrival (slice_index free q))
      there = mail-start (own_event_in S q) (slice_index free q) (slice_get (queue_at queues q) 0) head.0 head.1

      all : (mine : List ℕ) → (max f.arrival (K.free q) ≡ choice.start → q ≡ place → less (0 ∷ order_of f) mine ≡ false) → IsKey mine → less (key_of S K (Handle f.id)) (key_of S K choice.event) ≡ false
      all mine tail key =
          rw (mail-key S K made q f (true-flight q has.spot f has.here))
          (rw key (parts q (max f.arrival (K.free q)) there.0 (0 ∷ order_of f) mine has.within_ there.1 (omega (arith, there.2, no_later, prepared.clocked.free_is q has.within_)) tail))

      by_either : IsOwnChosen (own_event_in S place) (slice_index free place) (slice_get (queue_at queues place) 0) choice
          ⊎ IsMailChosen (own_event_in S place) (slice_index free place) (slice_get (queue_at queues place) 0) choice → less (key_of S K (Handle f.id)) (key_of S K choice.event) ≡ false
      by_either (inl mine) =
          all (1 ∷ 0 ∷ 0 ∷ 0 ∷ [])
          (λ same here.
          let first : slice_get (queue_at queues place) 0 ≡ Some head.0 = subst (λ (x : ℕ). slice_get (queue_at queues x) 0 ≡ Some head.0) here head.1 in
          let sooner = mine.sooner head.0 first in
          let free_is : slice_index free place ≡ K.free q = prepared.clocked.free_is place within ∙ ap K.free (sym here) in
          absurd (omega (arith, sooner, no_later, same, mine.start, free_is)))
          (mine-own mine)
      by_either (inr mine) =
          all (0 ∷ order_of mine.flight)
          (λ same here.
          let first : slice_get (queue_at queues place) 0 ≡ Some head.0 = subst (λ (x : ℕ). slice_get (queue_at queues x) 0 ≡ Some head.0) here head.1 in
          let one : head.0 ≡ mine.flight = same_Some head.0 mine.flight (sym first ∙ mine.is_first) in
          less-not 0 0 (order_of f) (order_of mine.flight) (omega arith) (λ zero_is. subst (λ (h : Flight). less (order_of f) (order_of h) ≡ false) one sorted))
          (mine-mail mine)

  pub next-of : IsNextEvent S K choice.event
  next-of = record { candidate = chosen-of.candidate; least = λ other candidate. by_kind other candidate } where
    by_kind : (other : Event) → IsCandidate S other → less (key_of S K other) (key_of S K choice.event) ≡ false
    by_kind other (inl own) = not-own own.0 other own.1
    by_kind other (inr mail) = subst (λ (x : Event). less (key_of S K x) (key_of S K choice.event) ≡ false) (sym mail.1) (not-mail mail.0 mail.2)

-- ---- where no actor can start anything the run is over

pub over-of : (S : State) (K : Clock) (made : ℕ) (free : List ℕ) (queues : List (List Flight)) (choices : List (Option Choice)) → IsPrepared S K made free queues choices None → IsOver S
unfolding enabled own_event_in
over-of S K made free queues choices prepared = by_event where
  actors : ℕ
  actors = S.setting.shape.cores + S.setting.shape.banks + 1

  none : (place : ℕ) → place < actors → choice_at S free queues place ≡ None
  none place low = same_Some (choice_at S free queues place) None (sym (prepared.looked place low) ∙ prepared.first.none refl place low)

  no_own : (core : ℕ) (n : NodeParts) → slice_get S.nodes core ≡ Some n → own_event S.setting n ≡ None
  no_own core n there = by_own (own_event S.setting n) refl where
    low : core < actors
    low = omega (arith, slice_get_within S.nodes core n there, prepared.well.machine.nodes)

    by_own : (o : Option Event) → own_event S.setting n ≡ o → own_event S.setting n ≡ None
    by_own None is = is
    by_own (Some e) is =
        let own : own_event_in S core ≡ Some e = ap (own_event_of S.setting) there ∙ is in
        let start = own-start (own_event_in S core) (slice_index free core) (slice_get (queue_at queues core) 0) e own in
        absurd (none-some start.0 (sym (none core low) ∙ start.1))

  still : (core : ℕ) (n : NodeParts) → slice_get S.nodes core ≡ Some n → IsStill S.setting n
  still core n there = own-none S.setting n (prepared.well.machine.node core n there).fits (no_own core n there)

  nowhere : (test : NodeParts → Bool) (core : ℕ) → ((n : NodeParts) → IsStill S.setting n → test n ≡ false) → (o : Option NodeParts) → slice_get S.nodes core ≡ o → when_there test o ≡ false
  nowhere test core never None there = refl
  nowhere test core never (Some n) there = never n (still core n there)

  no_mail : (id : MailId) → 1 ≤ count_of id S.mails → ⊥
  no_mail id some =
      let has = has-flight S K made free queues id prepared.well prepared.clocked some in
      let head = has-first (queue_at queues has.place) has.spot has.flight has.here in
      let start = mail-start (own_event_in S has.place) (slice_index free has.place) (slice_get (queue_at queues has.place) 0) head.0 head.1 in
      none-some start.0 (sym (none has.place has.within_) ∙ start.1)

  by_count : (id : MailId) (t : Bool) → nat_lt 0 (count_of id S.mails) ≡ t → nat_lt 0 (count_of id S.mails) ≡ false
  by_count id true e = absurd (no_mail id (grind (arith, nat_tests, e)))
  by_count id false e = e

  by_event : (e : Event) → enabled S e ≡ false
  by_event (Instr core) = nowhere (may_instr S.setting) core.0 (λ n s. s.instr) (slice_get S.nodes core.0) refl
  by_event (Evict core word) = nowhere (λ n. may_evict S.setting n word.0) core.0 (λ n s. s.evict word.0) (slice_get S.nodes core.0) refl
  by_event (Arrive core) = nowhere may_arrive core.0 (λ n s. s.arrive) (slice_get S.nodes core.0) refl
  by_event (Handle id) = by_count id (nat_lt 0 (count_of id S.mails)) refl

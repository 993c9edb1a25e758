-- What is kept of each actor is true of the state and its clock.
use Rattle.std.proofs.Common.{◌≡◌, ℕ, zero, suc, ◌+◌, ◌*◌, ◌<◌, ◌≤◌, ◌==◌, ◌&&◌, Bool, true, false, cond, nat_le, if◌then◌else◌, List, [], length, slice_get, slice_index, get_or, replicate, Option, Some, refl, sym, ap, subst, ◌∙◌, arith}
use Rattle.std.specs.Prelude.{sum_by}
use Rattle.std.specs.Int.{IsInRange}
use Rattle.std.proofs.lemmas.Bool.{eqb-true}
use Rattle.std.proofs.lemmas.Bool.Decides.{nat_tests}
use Rattle.dn_base.specs.declared.ids.Shape.{Shape}
use Rattle.message_net.specs.declared.actor.Actor.{Actor}
use Rattle.message_net.specs.declared.actor.MailId.{MailId}
use Rattle.message_net.specs.declared.event.Event.TheVariants.{Handle}
use Rattle.message_net.specs.declared.message.Mail.{Mail}
use Rattle.message_net.specs.Id.{same_id}
use Rattle.message_net.specs.Mail.{has_actor, actor_index}
use Rattle.message_net.specs.Pool.{of_id, count_of, removed}
use Rattle.message_net.proofs.MailLemmas.{actor_index-within}
use Rattle.message_net.proofs.PoolLemmas.{same_id-true, same_id-refl, place-counted, found-counted, taken-of_id}
use Rattle.machine_rules.specs.State.{State}
use Rattle.machine_rules.specs.Sound.{IsMachine}
use Rattle.dn_machine.specs.Actors.{receiver_of}
use Rattle.time_order.specs.declared.flight.Flight.{Flight}
use Rattle.time_order.specs.Clock.{Clock, clock_at_start, index_if_any, place_in}
use Rattle.time_order.specs.Flights.{queue_at}
use Rattle.time_order.proofs.Weights.{within, somewhere}

-- the index of an actor
abbrev pub index : Shape → Actor → ℕ
index shape a = actor_index shape.cores shape.banks a

-- whether a message of a queue has an id, as a number
abbrev pub of : MailId → Flight → ℕ
of id f = cond (same_id f.id id) 1 0

-- whether a mail with an id goes to the actor at an index, as a number
abbrev pub goes : Shape → ℕ → MailId → Mail → ℕ
goes shape place id m = if index shape m.to == place then cond (same_id m.id id) 1 0 else 0

-- 1 for a message whose entry isn't right, 0 for others
abbrev pub wrong : Shape → Clock → ℕ → Flight → ℕ
wrong shape K made f = cond ((f.arrival == K.arrival f.id) && ((f.sender == index shape f.id.sender) && nat_le f.arrival (7000000 * made))) 0 1

-- after `made` events what is kept is right: when each actor is free, and which messages go to it and when they arrive
pub record IsClocked (shape : Shape) (mails : List Mail) (K : Clock) (made : ℕ) (free : List ℕ) (queues : List (List Flight)) : Type 0 where
  pub frees : length free ≡ shape.cores + shape.banks + 1
  pub rows : length queues ≡ shape.cores + shape.banks + 1
  pub free_is : (place : ℕ) → place < shape.cores + shape.banks + 1 → slice_index free place ≡ K.free place
  pub low : (place : ℕ) → slice_index free place ≤ 7000000 * made
  pub all : (place : ℕ) (id : MailId) → sum_by (of id) (queue_at queues place) ≡ sum_by (goes shape place id) mails
  pub right : (place : ℕ) → sum_by (wrong shape K made) (queue_at queues place) ≡ 0

-- what holds of every state of a run
pub record IsWell (S : State) : Type 0 where
  pub machine : IsMachine S
  pub to : (place : ℕ) (m : Mail) → slice_get S.mails place ≡ Some m → has_actor S.setting.shape.cores S.setting.shape.banks m.to ≡ true
  pub cores : S.setting.shape.cores ≤ 16
  pub banks : IsInRange 1 16 S.setting.shape.banks

-- ---- at the start

no-item : {X : Type 0} (n i : ℕ) (x : X) → get_or (replicate n x) i x ≡ x
no-item zero i x = refl
no-item (suc n) zero x = refl
no-item (suc n) (suc i) x = no-item n i x

long : {X : Type 0} (n : ℕ) (x : X) → length (replicate n x) ≡ n
long zero x = refl
long (suc n) x = ap suc (long n x)

pub clocked-none : (shape : Shape) → IsClocked shape [] clock_at_start 0 (replicate (shape.cores + shape.banks + 1) 0) (replicate (shape.cores + shape.banks + 1) [])
clocked-none shape =
    record {
      frees = long {X = ℕ} actors 0;
      rows = long {X = List Flight} actors [];
      free_is = λ place low. no-item {X = ℕ} actors place 0;
      low = λ place. omega (arith, no-item {X = ℕ} actors place 0);
      all = λ place id. ap (sum_by (of id)) (no-item {X = List Flight} actors place []);
      right = λ place. ap (sum_by (wrong shape clock_at_start 0)) (no-item {X = List Flight} actors place []);
    }
  where
    actors : ℕ
    actors = shape.cores + shape.banks + 1

-- ---- messages and mails

-- a message that stands among those to the actor at an index is a mail in flight to that actor
pub record IsTrueFlight (S : State) (K : Clock) (made place : ℕ) (f : Flight) : Type 0 where
  pub count : 1 ≤ count_of f.id S.mails
  pub mail : Mail
  pub taken : (removed f.id S.mails).0 ≡ Some mail
  pub to : index S.setting.shape mail.to ≡ place
  pub id : mail.id ≡ f.id
  pub arrival : f.arrival ≡ K.arrival f.id
  pub sender : f.sender ≡ index S.setting.shape f.id.sender
  pub low : f.arrival ≤ 7000000 * made

of-own : (f : Flight) → of f.id f ≡ 1
of-own f = rw (same_id-refl f.id) refl

pub goes-to : (shape : Shape) (place : ℕ) (id : MailId) (m : Mail) → 1 ≤ goes shape place id m → (index shape m.to ≡ place) × (m.id ≡ id)
goes-to shape place id m some = by_test (index shape m.to == place) refl (same_id m.id id) refl some where
  by_test : (t : Bool) → (index shape m.to == place) ≡ t → (u : Bool) → same_id m.id id ≡ u → 1 ≤ cond t (cond u 1 0) 0 → (index shape m.to ≡ place) × (m.id ≡ id)
  by_test true a true b is = (eqb-true (index shape m.to) place a, same_id-true m.id id b)
  by_test true a false b is = absurd (omega (arith, is))
  by_test false a u b is = absurd (omega (arith, is))

pub goes-here : (shape : Shape) (place : ℕ) (id : MailId) (m : Mail) → index shape m.to ≡ place → m.id ≡ id → goes shape place id m ≡ 1
goes-here shape place id m to is =
    let test : (index shape m.to == place) ≡ true = grind (arith, nat_tests, to) in
    let same : same_id m.id id ≡ true = subst (λ (x : MailId). same_id m.id x ≡ true) is (same_id-refl m.id) in
    rw test (rw same refl)

right-entry : (shape : Shape) (K : Clock) (made : ℕ) (f : Flight) → wrong shape K made f ≡ 0 → (f.arrival ≡ K.arrival f.id) × (f.sender ≡ index shape f.id.sender) × (f.arrival ≤ 7000000 * made)
right-entry shape K made f is = by_tests (f.arrival == K.arrival f.id) refl (f.sender == index shape f.id.sender) refl (nat_le f.arrival (7000000 * made)) refl is where
  by_tests : (t : Bool) → (f.arrival == K.arrival f.id) ≡ t → (u : Bool) → (f.sender == index shape f.id.sender) ≡ u → (v : Bool) → nat_le f.arrival (7000000 * made) ≡ v
      → (let n : ℕ = cond (t && (u && v)) 0 1 in n) ≡ 0 → (f.arrival ≡ K.arrival f.id) × (f.sender ≡ index shape f.id.sender) × (f.arrival ≤ 7000000 * made)
  by_tests true a true b true c is = (eqb-true f.arrival (K.arrival f.id) a, eqb-true f.sender (index shape f.id.sender) b, grind (arith, nat_tests, c))
  by_tests true a true b false c is = absurd (omega (arith, is))
  by_tests true a false b v c is = absurd (omega (arith, is))
  by_tests false a u b v c is = absurd (omega (arith, is))

pub entry-right : (shape : Shape) (K : Clock) (made : ℕ) (f : Flight) → f.arrival ≡ K.arrival f.id → f.sender ≡ index shape f.id.sender → f.arrival ≤ 7000000 * made → wrong shape K made f ≡ 0
entry-right shape K made f arrival sender low =
    let a : (f.arrival == K.arrival f.id) ≡ true = grind (arith, nat_tests, arrival) in
    let b : (f.sender == index shape f.id.sender) ≡ true = grind (arith, nat_tests, sender) in
    let c : nat_le f.arrival (7000000 * made) ≡ true = grind (arith, nat_tests, low) in
    rw a (rw b (rw c refl))

pub flight-true : (S : State) (K : Clock) (made : ℕ) (free : List ℕ) (queues : List (List Flight)) (place k : ℕ) (f : Flight) → IsWell S → IsClocked S.setting.shape S.mails K made free queues
    → slice_get (queue_at queues place) k ≡ Some f → IsTrueFlight S K made place f
flight-true S K made free queues place k f well clocked here =
    record {
      count = place-counted (of_id f.id) S.mails found.0 found.1 found.2 (subst (λ (x : MailId). same_id found.1.id x ≡ true) goal.1 (same_id-refl found.1.id));
      mail = found.1;
      taken = ap (λ (x : MailId). (removed x S.mails).0) (sym goal.1) ∙ ap (λ (p : Option Mail × List Mail). p.0) (taken-of_id S.mails found.0 found.1 well.machine.distinct found.2);
      to = goal.0;
      id = goal.1;
      arrival = entry.0;
      sender = entry.1;
      low = entry.2;
    }
  where
    shape : Shape
    shape = S.setting.shape

    some : 1 ≤ sum_by (goes shape place f.id) S.mails
    some = omega (arith, clocked.all place f.id, within (of f.id) (queue_at queues place) k f here, of-own f)

    found : (p : ℕ) × (m : Mail) × (slice_get S.mails p ≡ Some m) × (1 ≤ goes shape place f.id m)
    found = somewhere (goes shape place f.id) S.mails some

    goal : (index shape found.1.to ≡ place) × (found.1.id ≡ f.id)
    goal = goes-to shape place f.id found.1 found.3

    entry : (f.arrival ≡ K.arrival f.id) × (f.sender ≡ index shape f.id.sender) × (f.arrival ≤ 7000000 * made)
    entry = right-entry shape K made f (omega (arith, clocked.right place, within (wrong shape K made) (queue_at queues place) k f here))

-- the place of its handling
pub place-of : (S : State) (id : MailId) (m : Mail) (place : ℕ) → (removed id S.mails).0 ≡ Some m → index S.setting.shape m.to ≡ place → place_in S (Handle id) ≡ place
place-of S id m place taken to = ap (λ (o : Option Mail). index_if_any S (receiver_of o)) taken ∙ to

-- a mail in flight stands among the messages to its receiver
pub record HasFlight (S : State) (queues : List (List Flight)) (id : MailId) : Type 0 where
  pub place : ℕ
  pub within_ : place < S.setting.shape.cores + S.setting.shape.banks + 1
  pub spot : ℕ
  pub flight : Flight
  pub here : slice_get (queue_at queues place) spot ≡ Some flight
  pub named : flight.id ≡ id

of-is : (id : MailId) (f : Flight) → 1 ≤ of id f → f.id ≡ id
of-is id f some = by_test (same_id f.id id) refl some where
  by_test : (t : Bool) → same_id f.id id ≡ t → 1 ≤ cond t 1 0 → f.id ≡ id
  by_test true e is = same_id-true f.id id e
  by_test false e is = absurd (omega (arith, is))

pub has-flight : (S : State) (K : Clock) (made : ℕ) (free : List ℕ) (queues : List (List Flight)) (id : MailId) → IsWell S → IsClocked S.setting.shape S.mails K made free queues
    → 1 ≤ count_of id S.mails → HasFlight S queues id
has-flight S K made free queues id well clocked some =
    let found = found-counted id S.mails some in
    let m = found.1 in
    let shape = S.setting.shape in
    let place = index shape m.to in
    let one = goes-here shape place id m refl found.2.named in
    let sum : 1 ≤ sum_by (of id) (queue_at queues place) = omega (arith, clocked.all place id, one, within (goes shape place id) S.mails found.0 m found.2.here) in
    let there = somewhere (of id) (queue_at queues place) sum in
    record {
      place = place;
      within_ = actor_index-within shape.cores shape.banks m.to (well.to found.0 m found.2.here);
      spot = there.0;
      flight = there.1;
      here = there.2;
      named = of-is id there.1 there.3;
    }

-- A message is put among those to its receiver, and the first one is removed.
use Rattle.std.proofs.Common.{◌≡◌, ℕ, zero, suc, ◌+◌, ◌<◌, ◌==◌, Bool, true, false, if◌then◌else◌, List, [], ◌∷◌, length, drop, slice_get, slice_set, Some, sym, ap, subst, ◌∙◌, refl, arith}
use Rattle.std.specs.Prelude.{sum_by}
use Rattle.std.proofs.lemmas.Bool.{eqb-true, eqb-false}
use Rattle.std.proofs.lemmas.List.{get_or-set_same, get_or-set_other}
use Rattle.std.proofs.lemmas.List.Sums.{sum_by-cons}
use Rattle.std.proofs.lemmas.Option.{none-some, same_Some}
use Rattle.dn_base.specs.declared.ids.Shape.{Shape}
use Rattle.message_net.specs.declared.actor.MailId.{MailId}
use Rattle.message_net.specs.declared.event.Event.{Event}
use Rattle.message_net.specs.declared.event.Event.TheVariants.{Handle}
use Rattle.message_net.specs.declared.message.Mail.{Mail}
use Rattle.message_net.specs.Mail.{has_actor, actor_index}
use Rattle.message_net.proofs.MailLemmas.{actor_index-within}
use Rattle.time_order.specs.declared.flight.Flight.{Flight}
use Rattle.run_timing.specs.declared.network.Network.{Network}
use Rattle.time_order.specs.Flights.{flight_of, queue_at, weight_taken, weight_to}

pub place-below : (shape : Shape) (m : Mail) (place rows now : ℕ) → place ≡ actor_index shape.cores shape.banks m.to → rows ≡ shape.cores + shape.banks + 1 → now ≡ rows
    → has_actor shape.cores shape.banks m.to ≡ true → place < now
place-below shape m place rows now is all same there = omega (arith, is, all, same, actor_index-within shape.cores shape.banks m.to there)

drop-cons : {X : Type 0} (xs : List X) (i : ℕ) (x : X) → slice_get xs i ≡ Some x → drop i xs ≡ x ∷ drop (suc i) xs
drop-cons [] i x here = absurd (none-some x here)
drop-cons (y ∷ ys) zero x here = ap (λ (z : _). z ∷ ys) (same_Some y x here)
drop-cons (y ∷ ys) (suc i) x here = drop-cons ys i x here

pub sent-more : (network : Network) (shape : Shape) (sent place : ℕ) (weight : Flight → ℕ) (mails : List Mail) (i : ℕ) (m : Mail) (to : ℕ) (f : Flight) (new old all : ℕ) → slice_get mails i ≡ Some m
    → to ≡ actor_index shape.cores shape.banks m.to → f ≡ flight_of network shape sent m → new ≡ old + (if to == place then weight f else 0)
    → old + weight_to network shape sent place weight (drop i mails) ≡ all → new + weight_to network shape sent place weight (drop (i + 1) mails) ≡ all
sent-more network shape sent place weight mails i m to f new old all here goes is adds was =
    omega (arith, more, adds, was, same, step)
  where
    one : i + 1 ≡ suc i
    one = omega arith

    of : Mail → ℕ
    of x = if actor_index shape.cores shape.banks x.to == place then weight (flight_of network shape sent x) else 0

    more : weight_to network shape sent place weight (drop i mails) ≡ sum_by of (m ∷ drop (suc i) mails)
    more = ap (sum_by of) (drop-cons mails i m here)

    step : sum_by of (m ∷ drop (suc i) mails) ≡ of m + weight_to network shape sent place weight (drop (i + 1) mails)
    step = sum_by-cons of m (drop (suc i) mails) ∙ ap (λ (j : ℕ). of m + sum_by of (drop j mails)) (sym one)

    same : (if to == place then weight f else 0) ≡ of m
    same = ap (λ (j : ℕ). if j == place then weight f else 0) goes ∙ ap (λ (g : Flight). if actor_index shape.cores shape.banks m.to == place then weight g else 0) is

-- the first message of a queue is removed
pub taken-first : (queues : List (List Flight)) (place : ℕ) (old new : List Flight) (e : Event) (id : MailId) → e ≡ Handle id → place < length queues → old ≡ queue_at queues place
    → ((f : Flight) → slice_get old 0 ≡ Some f → old ≡ f ∷ new) → 0 < length (queue_at queues place) → (other : ℕ) (weight : Flight → ℕ)
    → sum_by weight (queue_at queues other) ≡ sum_by weight (queue_at (slice_set queues place new) other) + (if place == other then weight_taken e (queue_at queues place) weight else 0)
taken-first queues place old new e id handles low is rest some other weight = by_test (place == other) refl where
  here : queue_at (slice_set queues place new) place ≡ new
  here = get_or-set_same queues place new [] low

  at_least : (q : List Flight) → 0 < length q → (f : Flight) × (fs : List Flight) × (q ≡ f ∷ fs)
  at_least [] none = absurd (omega (arith, none))
  at_least (f ∷ fs) one = (f, fs, refl)

  first : (f : Flight) × (fs : List Flight) × (queue_at queues place ≡ f ∷ fs)
  first = at_least (queue_at queues place) some

  whole : queue_at queues place ≡ first.0 ∷ new
  whole = sym is ∙ rest first.0 (ap (λ (q : List Flight). slice_get q 0) (is ∙ first.2))

  weighs : sum_by weight (queue_at queues place) ≡ sum_by weight new + weight first.0
  weighs = omega (arith, ap (sum_by weight) whole, sum_by-cons weight first.0 new)

  takes : weight_taken e (queue_at queues place) weight ≡ weight first.0
  takes = ap (λ (x : Event). weight_taken x (queue_at queues place) weight) handles ∙ ap (λ (q : List Flight). weight_taken (Handle id) q weight) whole

  by_test : (t : Bool) → (place == other) ≡ t → sum_by weight (queue_at queues other) ≡ sum_by weight (queue_at (slice_set queues place new) other) + (if t then weight_taken e (queue_at queues place) weight else 0)
  by_test true same =
      let to : place ≡ other = eqb-true place other same in
      subst (λ (x : ℕ). sum_by weight (queue_at queues x) ≡ sum_by weight (queue_at (slice_set queues place new) x) + weight_taken e (queue_at queues place) weight) to
      (omega (arith, weighs, takes, ap (sum_by weight) here))
  by_test false apart =
      let not : other ≡ place → ⊥ = λ back. eqb-false place other apart (sym back) in
      omega (arith, ap (sum_by weight) (get_or-set_other queues place other new [] not))

-- Replies, grants and evictions add up to the counts of their events.
use Rattle.std.proofs.Common.{◌≡◌, ℕ, ◌+◌, true, cond, List, [], ◌∷◌, Option, Some, None, refl, arith}
use Rattle.std.specs.Prelude.{position}
use Rattle.std.proofs.lemmas.List.Sums.{sum_by-cons, sum_by-append}
use Rattle.message_net.specs.declared.event.Event.{Event}
use Rattle.message_net.specs.declared.event.EventKind.{EventKind}
use Rattle.message_net.specs.declared.message.Mail.{Mail}
use Rattle.message_net.specs.Pool.{removed, removed_at, of_id}
use Rattle.machine_rules.specs.State.{State}
use Rattle.machine_rules.specs.Next.{next, enabled, kind_in}
use Rattle.machine_rules.specs.Runs.{IsRun, kinds_of}
use Rattle.machine_rules.specs.Coherent.{Coherent, IsInFlight}
use Rattle.run_account.specs.declared.measure.Measure.{Measure}
use Rattle.run_account.specs.declared.item.Item.{Item}
use Rattle.run_account.specs.Measure.{same_measure}
use Rattle.run_account.specs.Items.{items_of_measure}
use Rattle.run_account.specs.Departures.{Departures, departures_after}
use Rattle.run_account.specs.Handings.{Handings, handings_after}
use Rattle.run_account.specs.Events.{items_in}
use Rattle.run_account.specs.Account.{items_from}
use Rattle.run_account.specs.Kinds.{is_kind, events_of_kind, StaysCoherent}

-- an event of a kind is counted once by one of two measures, and no other event is
abbrev pub IsToldBy : EventKind → Measure → Measure → State → Event → List Item → Type 0
IsToldBy k a b S e items = cond (is_kind k (kind_in S e)) 1 0 ≡ items_of_measure a items + items_of_measure b items

pub all-told : (k : EventKind) (a b : Measure)
    → ((S : State) (D : Departures) (H : Handings) (e : Event) → Coherent S → enabled S e ≡ true → IsToldBy k a b S e (items_in S D H e))
    → (S : State) (D : Departures) (H : Handings) (events : List Event) → StaysCoherent S → IsRun S events
    → events_of_kind k S events ≡ items_of_measure a (items_from S D H events) + items_of_measure b (items_from S D H events)
all-told k a b each S D H [] stays run = refl
all-told k a b each S D H (e ∷ es) stays run =
    let rest = all-told k a b each (next S e) (departures_after S e D) (handings_after S e H) es (λ more runs. stays (e ∷ more) (run.0, runs)) run.1 in
    let more = items_from (next S e) (departures_after S e D) (handings_after S e H) es in
    omega (
      arith,
      rest,
      each S D H e (stays [] tt) run.0,
      sum_by-cons (λ (x : EventKind). cond (is_kind k x) 1 0) (kind_in S e) (kinds_of (next S e) es),
      sum_by-append (λ (x : Item). cond (same_measure a x.measure) 1 0) (items_in S D H e) more,
      sum_by-append (λ (x : Item). cond (same_measure b x.measure) 1 0) (items_in S D H e) more,
    )

-- a mail that is taken out was in flight
pub was-there : (S : State) (id : _) (m : Mail) → (removed id S.mails).0 ≡ Some m → IsInFlight S m
was-there S id m e = by_place (position (of_id id) S.mails) e where
  by_place : (place : Option ℕ) → (removed_at S.mails place).0 ≡ Some m → IsInFlight S m
  by_place None h = absurd (cc)
  by_place (Some place) h = (place, h)

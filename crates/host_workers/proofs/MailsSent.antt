-- How many mails the actors have sent: each was handled or may still be, and so has an event of one run.
use Rattle.std.proofs.Common.{◌≡◌, ℕ, zero, suc, ◌+◌, ◌≤◌, Bool, true, false, List, [], ◌∷◌, ◌++◌, length, length-append, replicate, slice_index, take, refl, sym, ap, subst, arith}
use Rattle.std.specs.Prelude.{sum_by}
use Rattle.std.proofs.lemmas.List.Sums.{sum_by-cons}
use Rattle.message_net.specs.declared.actor.Actor.{Actor}
use Rattle.message_net.specs.declared.event.Event.{Event}
use Rattle.message_net.specs.declared.event.Event.TheVariants.{Handle}
use Rattle.message_net.specs.declared.message.Mail.{Mail}
use Rattle.message_net.specs.Id.{same_actor}
use Rattle.message_net.proofs.PoolLemmas.{same_actor-true}
use Rattle.message_net.proofs.MailLemmas.{length-mails_of}
use Rattle.registration_protocol.specs.Node.{Setting}
use Rattle.machine_rules.specs.State.{State, initial_state}
use Rattle.machine_rules.specs.Next.{next, enabled, next_number, actor_index_in}
use Rattle.machine_rules.specs.Runs.{after, IsRun}
use Rattle.machine_rules.proofs.BoundRuns.{run-ends}
use Rattle.host_workers.specs.Members.{Member, Deed, Handles, Makes, IsIn, member, event_of}
use Rattle.host_workers.specs.Steps.{with_stamp}
use Rattle.host_workers.specs.Rounds.{Round, events_of, IsReached, IsJoined}
use Rattle.host_workers.specs.NextNumbers.{AreNumbersLow}
use Rattle.host_workers.proofs.Moving.{Moves, handled, comes, sends}
use Rattle.host_workers.proofs.MachineParts.{there}
use Rattle.host_workers.proofs.MachineMoves.{event-deed, handle-moves}
use Rattle.host_workers.proofs.Reaching.{run-append, run-front, reached-next, reached-run}
use Rattle.host_workers.proofs.RoundRuns.{round-runs}

-- ---- one deed

abbrev one : Mail → ℕ
one m = 1

count-ones : (mails : List Mail) → sum_by one mails ≡ length mails
count-ones [] = refl
count-ones (m ∷ mails) = omega (arith, count-ones mails, sum_by-cons one m mails)

one-handled : (deed : Deed) → handled one deed ≤ 1
one-handled (Handles p) = omega arith
one-handled (Makes e) = omega arith

module _ (C : Setting) (S : State) (a : Actor) (deed : Deed) (moves : Moves C S a deed) where
  abbrev then_is : State
  then_is = next S (event_of deed)

  abbrev sent : ℕ
  sent = length (comes C S a deed).sent

  pub in-flight : length then_is.mails + handled one deed ≡ length S.mails + sent
  in-flight =
      omega (
        arith,
        moves.pool one,
        count-ones then_is.mails,
        count-ones S.mails,
        count-ones (sends C S a deed),
        length-mails_of a (member S a).next (comes C S a deed).sent,
      )

  number-now : next_number then_is a ≡ next_number S a + sent
  unfolding member
  number-now = ap (λ (m : Member). m.next) moves.mine

  number-stays : (b : Actor) → IsIn C b → same_actor b a ≡ false → next_number then_is b ≡ next_number S b
  unfolding member
  number-stays b inside differ = ap (λ (m : Member). m.next) (moves.others b inside differ)

  -- what an actor has sent by then was handled, in an event each, or is in flight
  pub deed-counted : (made : ℕ) → ((b : Actor) → IsIn C b → next_number S b ≤ made + length S.mails) → (b : Actor) → IsIn C b → next_number then_is b ≤ made + 1 + length then_is.mails
  deed-counted made counted b inside = by_actor (same_actor b a) refl where
    by_actor : (t : Bool) → same_actor b a ≡ t → next_number then_is b ≤ made + 1 + length then_is.mails
    by_actor true is =
        let same : b ≡ a = same_actor-true b a is in
        let here = counted a (subst (IsIn C) same inside) in
        subst (λ x. next_number then_is x ≤ made + 1 + length then_is.mails) (sym same) (omega (arith, here, number-now, in-flight, one-handled deed))
    by_actor false is = omega (arith, counted b inside, number-stays b inside is, in-flight, one-handled deed)

-- ---- a run

abbrev AreCounted : Setting → State → ℕ → Type 0
AreCounted C S made = (a : Actor) → IsIn C a → next_number S a ≤ made + length S.mails

event-counted : (C : Setting) (S : State) (made : ℕ) (e : Event) → IsReached C S → enabled S e ≡ true → AreCounted C S made → AreCounted C (next S e) (made + 1)
event-counted C S made e reached may counted =
    let of = event-deed C S e reached may in
    subst (λ x. AreCounted C (next S x) (made + 1)) of.is (deed-counted C S of.actor of.deed of.moves made counted)

run-counted : (C : Setting) (S : State) (made : ℕ) (es : List Event) → IsReached C S → IsRun S es → AreCounted C S made → AreCounted C (after S es) (made + length es)
run-counted C S made [] reached run counted a inside = omega (arith, counted a inside)
run-counted C S made (e ∷ es) reached run counted a inside =
    omega (arith, run-counted C (next S e) (made + 1) es (reached-next C S e reached run.0) run.1 (event-counted C S made e reached run.0 counted) a inside)

-- as a run begins no actor has sent a mail
none-used : (n i : ℕ) → slice_index (replicate n 0) i ≡ 0
none-used zero i = refl
none-used (suc n) zero = refl
none-used (suc n) (suc i) = none-used n i

none-sent : (C : Setting) (i : ℕ) → slice_index (initial_state C).numbers i ≡ 0
unfolding initial_state
none-sent C i = none-used (C.shape.cores + C.shape.banks + 1) i

opened-counted : (C : Setting) → AreCounted C (initial_state C) 0
opened-counted C a inside = omega (arith, none-sent C (actor_index_in (initial_state C) a))

-- so many mails in flight may be handled one after the other
record AreHandled (S : State) (count : ℕ) : Type 0 where
  events : List Event
  run : IsRun S events
  long : length events ≡ count

handle-all : (C : Setting) (S : State) (count : ℕ) → IsReached C S → count ≤ length S.mails → AreHandled S count
handle-all C S zero reached within = record { events = []; run = tt; long = refl }
handle-all C S (suc count) reached within =
    let first = there S.mails 0 (omega (arith, within)) in
    let moves = handle-moves C S (with_stamp 0 first.0) 0 reached first.1 in
    let left = in-flight C S first.0.to (Handles (with_stamp 0 first.0)) moves in
    let rest = handle-all C (next S (Handle first.0.id)) count (reached-next C S (Handle first.0.id) reached moves.enabled) (omega (arith, within, left)) in
    record { events = Handle first.0.id ∷ rest.events; run = (moves.enabled, rest.run); long = ap suc rest.long }

module _ (C : Setting) (S : State) (reached : IsReached C S) where
  few-mails : length reached.before + length S.mails ≤ 25169664
  few-mails =
      let all = handle-all C S (length S.mails) reached (omega arith) in
      let whole : IsRun (initial_state C) (reached.before ++ all.events) = run-append (initial_state C) reached.before all.events reached.run (subst (λ (U : State). IsRun U all.events) reached.leads all.run) in
      omega (arith, run-ends C (reached.before ++ all.events) reached.ready whole, length-append reached.before all.events, all.long)

  -- no actor's number is greater than a run has events
  pub number-low : (a : Actor) → IsIn C a → next_number S a ≤ 25169664
  number-low a inside =
      let first : IsReached C (initial_state C) = record { ready = reached.ready; before = []; run = tt; leads = refl } in
      let counted = run-counted C (initial_state C) 0 reached.before first reached.run (opened-counted C) a inside in
      let here : next_number S a ≤ length reached.before + length S.mails = subst (λ (U : State). next_number U a ≤ length reached.before + length U.mails) (sym reached.leads) (omega (arith, counted)) in
      omega (arith, here, few-mails)

-- ---- a round

pub numbers-low : (C : Setting) (S T : State) (r : Round) → IsReached C S → IsJoined C S T r → AreNumbersLow C S T r
numbers-low C S T r reached joined =
    let runs = round-runs C S T r reached joined in
    let front = λ (count : ℕ). reached-run C S (take count (events_of r.merged)) reached (run-front S (events_of r.merged) count runs.run) in
    let end = reached-run C S (events_of r.merged) reached runs.run in
    record {
      along = λ count a inside. number-low C (after S (take count (events_of r.merged))) (front count) a inside;
      ended = λ a inside.
          let same : next_number T a ≡ next_number (after S (events_of r.merged)) a = ap (λ (U : State). next_number U a) runs.rest in
          omega (arith, same, number-low C (after S (events_of r.merged)) end a inside);
    }

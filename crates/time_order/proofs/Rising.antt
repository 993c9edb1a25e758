-- Starts never fall: what is next after an event starts no earlier.
use Rattle.std.proofs.Common.{◌≡◌, ◌⊎◌, inl, inr, ℕ, ◌+◌, ◌≤◌, max, ◌==◌, Bool, true, false, if◌then◌else◌, List, [], ◌∷◌, slice_get, Option, Some, None, refl, sym, ap, subst, ◌∙◌, arith}
use Rattle.std.specs.Prelude.{sum_by}
use Rattle.std.proofs.lemmas.Bool.{eqb-true, eqb-false}
use Rattle.std.proofs.lemmas.Bool.Decides.{nat_tests}
use Rattle.std.proofs.lemmas.List.Sums.{sum_by-append}
use Rattle.std.proofs.lemmas.Option.{none-some, same_Some}
use Rattle.dn_base.specs.declared.ids.CoreId.{CoreId}
use Rattle.dn_base.specs.declared.ids.Shape.{Shape}
use Rattle.message_net.specs.declared.actor.Actor.{Actor}
use Rattle.message_net.specs.declared.actor.Actor.TheVariants.{Core, Bank, Keeper}
use Rattle.message_net.specs.declared.actor.MailId.{MailId}
use Rattle.message_net.specs.declared.event.Event.{Event}
use Rattle.message_net.specs.declared.event.Event.TheVariants.{Instr, Evict, Arrive, Handle}
use Rattle.message_net.specs.declared.message.Mail.{Mail}
use Rattle.message_net.specs.Mail.{has_actor, mails_of}
use Rattle.message_net.specs.Pool.{count_of, has_id, removed, IsFound}
use Rattle.message_net.specs.Id.{same_id}
use Rattle.message_net.proofs.PoolLemmas.{sum_by-taken, found-counted, taken-of_id, same_id-true}
use Rattle.registration_protocol.specs.Node.{Setting}
use Rattle.machine_rules.specs.State.{State}
use Rattle.machine_rules.specs.Next.{next, enabled, next_number}
use Rattle.machine_rules.proofs.RunsKept.{same-setting}
use Rattle.dn_machine.specs.Actors.{receiver_of, actor_in}
use Rattle.dn_machine.specs.Log.{core_of, core_in}
use Rattle.dn_machine.specs.Pick.{own_event_of, own_event_in}
use Rattle.dn_machine.proofs.Noted.{next-frame}
use Rattle.dn_machine.proofs.OwnEvent.{own-event-comes}
use Rattle.run_timing.specs.declared.network.Network.{Network}
use Rattle.run_timing.specs.declared.ticks.Ticks.{Ticks}
use Rattle.run_timing.proofs.Moves.{event-move}
use Rattle.run_timing.proofs.OnRuns.{actor-there}
use Rattle.time_order.specs.Clock.{Clock, place_in, start_of, finish_of, delay_in, clock_after_event}
use Rattle.time_order.specs.Flights.{left_by}
use Rattle.time_order.specs.TimeOrder.{IsCandidate, less, key_of, IsNextEvent}
use Rattle.time_order.proofs.Clocked.{index, goes, goes-here, goes-to, IsWell, place-of}
use Rattle.time_order.proofs.Less.{not-less}
use Rattle.time_order.proofs.Mails.{IsSent, event-sent, numbered}
use Rattle.time_order.proofs.Nexts.{own-of, own-start-of, handling-comes}
use Rattle.time_order.proofs.Reached.{IsReached, invariant-reached, well-reached, reached-next}
use Rattle.time_order.proofs.Turns.{actor-of}
use Rattle.time_order.proofs.Weights.{within, somewhere, nowhere}

-- a candidate may come
pub candidate-comes : (S : State) (e : Event) → IsWell S → IsCandidate S e → enabled S e ≡ true
candidate-comes S e well (inl own) = own-event-comes S own.0 e well.machine own.1
candidate-comes S e well (inr mail) = subst (λ (x : Event). enabled S x ≡ true) (sym mail.1) (handling-comes S mail.0 mail.2)

pub handling-counted : (S : State) (id : MailId) → enabled S (Handle id) ≡ true → 1 ≤ count_of id S.mails
unfolding enabled
handling-counted S id may = grind (arith, nat_tests, may)

-- the first part of a key is the start
abbrev key-rest : State → Clock → Event → List ℕ
key-rest S K e = tail_of (key_of S K e) where
  tail_of : List ℕ → List ℕ
  tail_of [] = []
  tail_of (x ∷ xs) = xs

key-start : (S : State) (K : Clock) (e : Event) → key_of S K e ≡ start_of S K e ∷ key-rest S K e
key-start S K (Instr core) = refl
key-start S K (Evict core word) = refl
key-start S K (Arrive core) = refl
key-start S K (Handle id) = refl

-- no candidate can start before the next event
pub next-least : (S : State) (K : Clock) (e other : Event) → IsNextEvent S K e → IsCandidate S other → start_of S K e ≤ start_of S K other
next-least S K e other is candidate =
    not-less (start_of S K other) (start_of S K e) (key-rest S K other) (key-rest S K e)
    (subst (λ (xs : List ℕ). less xs (start_of S K e ∷ key-rest S K e) ≡ false) (key-start S K other)
    (subst (λ (xs : List ℕ). less (key_of S K other) xs ≡ false) (key-start S K e) (is.least other candidate)))

-- a core whose event it is stands at the event's place
core-place : (S : State) (e : Event) (core : CoreId) → core_in S e ≡ Some core → place_in S e ≡ core.0
unfolding actor_in
core-place S (Instr c) core is = ap (λ (x : CoreId). x.0) (same_Some c core is)
core-place S (Evict c word) core is = ap (λ (x : CoreId). x.0) (same_Some c core is)
core-place S (Arrive c) core is = ap (λ (x : CoreId). x.0) (same_Some c core is)
core-place S (Handle id) core is = by_mail (removed id S.mails).0 refl is where
  by_actor : (m : Mail) (a : Actor) → m.to ≡ a → (removed id S.mails).0 ≡ Some m → core_of (Some a) ≡ Some core → place_in S (Handle id) ≡ core.0
  by_actor m (Core c) to taken own = place-of S id m core.0 taken (ap (index S.setting.shape) to ∙ ap (λ (x : CoreId). x.0) (same_Some c core own))
  by_actor m (Bank b) to taken own = absurd (none-some core own)
  by_actor m Keeper to taken own = absurd (none-some core own)

  by_mail : (o : Option Mail) → (removed id S.mails).0 ≡ o → core_of (receiver_of o) ≡ Some core → place_in S (Handle id) ≡ core.0
  by_mail None taken own = absurd (none-some core own)
  by_mail (Some m) taken own = by_actor m m.to refl taken own

module _ (ticks : Ticks) (network : Network) (S : State) (K : Clock) (e : Event) (reached : IsReached S) (is : IsNextEvent S K e) where
  pub well : IsWell S
  well = well-reached S reached

  pub may : enabled S e ≡ true
  may = candidate-comes S e well is.candidate

  abbrev pub T : State
  T = next S e

  abbrev pub K' : Clock
  K' = clock_after_event ticks network S K e

  pub well-then : IsWell T
  well-then = well-reached T (reached-next S e reached may)

  pub actor : (a : Actor) × (actor_in S e ≡ Some a)
  actor = actor-of S e may

  pub there : has_actor S.setting.shape.cores S.setting.shape.banks actor.0 ≡ true
  there = let inv = invariant-reached S reached in actor-there S inv.0 e actor.0 inv.1 may actor.1

  -- the actor of the event isn't free before it finishes, and others are free as before
  free-then : (place : ℕ) → (place ≡ place_in S e → ⊥) → K'.free place ≡ K.free place
  free-then place apart = by_test (place == place_in S e) refl where
    by_test : (t : Bool) → (place == place_in S e) ≡ t → (if t then finish_of ticks S K e else K.free place) ≡ K.free place
    by_test true same = absurd (apart (eqb-true place (place_in S e) same))
    by_test false not = refl

  free-either : (place : ℕ) → (start_of S K e ≤ K'.free place) ⊎ ((place ≡ place_in S e → ⊥) × (K'.free place ≡ K.free place))
  free-either place = by_test (place == place_in S e) refl where
    by_test : (t : Bool) → (place == place_in S e) ≡ t
        → (start_of S K e ≤ (if t then finish_of ticks S K e else K.free place)) ⊎ ((place ≡ place_in S e → ⊥) × ((if t then finish_of ticks S K e else K.free place) ≡ K.free place))
    by_test true same = inl (omega arith)
    by_test false not = inr (eqb-false place (place_in S e) not, refl)

  -- ---- an own event

  not-of : (core : ℕ) → (core ≡ place_in S e → ⊥) → core_in S e ≡ Some (record { 0 = core }) → ⊥
  not-of core apart own = apart (sym (core-place S e (record { 0 = core }) own))

  own-then : (core : ℕ) (f : Event) → own_event_in T core ≡ Some f → (core ≡ place_in S e → ⊥) → own_event_in S core ≡ Some f
  unfolding own_event_in
  own-then core f own apart =
      ap (own_event_of S.setting) (sym (next-frame S e core (not-of core apart)))
      ∙ (ap (λ (C : Setting). own_event_of C (slice_get T.nodes core)) (sym (same-setting S e)) ∙ own)

  own-rises : (core : ℕ) (f : Event) → own_event_in T core ≡ Some f → start_of S K e ≤ start_of T K' f
  own-rises core f own = subst (λ (x : ℕ). start_of S K e ≤ x) (sym (own-start-of T K' core f (own-of T core f well-then own).1)) (by_free (free-either core)) where
    by_free : (start_of S K e ≤ K'.free core) ⊎ ((core ≡ place_in S e → ⊥) × (K'.free core ≡ K.free core)) → start_of S K e ≤ K'.free core
    by_free (inl later) = later
    by_free (inr other) =
        let before = own-then core f own other.0 in
        omega (arith, other.1, next-least S K e f is (inl (core, before)), own-start-of S K core f (own-of S core f well before).1)

  -- ---- the handling of a message

  sent : IsSent S T actor.0 (left_by S e)
  sent = event-sent S e actor.0 actor.1

  left-weighs : (w : Mail → ℕ) → sum_by w (left_by S e) ≤ sum_by w S.mails
  left-weighs w = by_event e refl where
    by_event : (x : Event) → e ≡ x → sum_by w (left_by S e) ≤ sum_by w S.mails
    by_event (Instr core) same = omega (arith, ap (λ (y : Event). sum_by w (left_by S y)) same)
    by_event (Evict core word) same = omega (arith, ap (λ (y : Event). sum_by w (left_by S y)) same)
    by_event (Arrive core) same = omega (arith, ap (λ (y : Event). sum_by w (left_by S y)) same)
    by_event (Handle id) same =
        let found = found-counted id S.mails (handling-counted S id (subst (λ (y : Event). enabled S y ≡ true) same may)) in
        omega (arith, ap (λ (y : Event). sum_by w (left_by S y)) same, sum_by-taken w id S.mails found.1 (ap (λ (p : Option Mail × List Mail). p.0) found.2.takes))

  -- a message that was in flight goes to the same actor
  pub same-place : (id : MailId) → 1 ≤ count_of id S.mails → 1 ≤ count_of id T.mails → place_in T (Handle id) ≡ place_in S (Handle id)
  same-place id before after_ =
      place-of T id m place taken (ap (λ (C : Setting). index C.shape m.to) (same-setting S e)) ∙ sym (place-of S id old.1 place old-taken (goes-to shape place id old.1 old.3).0)
    where
      shape : Shape
      shape = S.setting.shape

      found : (k : ℕ) × (x : Mail) × IsFound id T.mails k x
      found = found-counted id T.mails after_

      m : Mail
      m = found.1

      place : ℕ
      place = index shape m.to

      taken : (removed id T.mails).0 ≡ Some m
      taken = ap (λ (p : Option Mail × List Mail). p.0) found.2.takes

      none_new : sum_by (goes shape place id) (mails_of actor.0 (next_number S actor.0) sent.outs) ≡ 0
      none_new = nowhere (goes shape place id) (mails_of actor.0 (next_number S actor.0) sent.outs) (λ k x here. new k x here) where
        new : (k : ℕ) (x : Mail) → slice_get (mails_of actor.0 (next_number S actor.0) sent.outs) k ≡ Some x → goes shape place id x ≡ 0
        new k x here = by_id (same_id x.id id) refl where
          fresh : count_of x.id S.mails ≡ 0
          fresh =
              let n = numbered actor.0 (next_number S actor.0) sent.outs k x here in
              let none = (event-move S e actor.0 well.machine actor.1 there).absent x.id.number n.past in
              subst (λ (b : Actor). count_of (record { sender = b; number = x.id.number }) S.mails ≡ 0) (sym n.sender) none

          by_id : (t : Bool) → same_id x.id id ≡ t → goes shape place id x ≡ 0
          by_id true e' =
              let one : x.id ≡ id = same_id-true x.id id e' in
              absurd (omega (arith, before, subst (λ (i : MailId). count_of i S.mails ≡ 0) one fresh))
          by_id false e' = rw e' (zero_either (index shape x.to == place))
            where
              zero_either : (b : Bool) → (let n : ℕ = (if b then 0 else 0) in n) ≡ 0
              zero_either true = refl
              zero_either false = refl

      sum : 1 ≤ sum_by (goes shape place id) S.mails
      sum =
          let here = within (goes shape place id) T.mails found.0 m found.2.here in
          let all = ap (sum_by (goes shape place id)) sent.mails ∙ sum_by-append (goes shape place id) (left_by S e) (mails_of actor.0 (next_number S actor.0) sent.outs) in
          omega (arith, here, goes-here shape place id m refl found.2.named, all, none_new, left-weighs (goes shape place id))

      old : (k : ℕ) × (x : Mail) × (slice_get S.mails k ≡ Some x) × (1 ≤ goes shape place id x)
      old = somewhere (goes shape place id) S.mails sum

      old-taken : (removed id S.mails).0 ≡ Some old.1
      old-taken =
          ap (λ (x : MailId). (removed x S.mails).0) (sym (goes-to shape place id old.1 old.3).1)
          ∙ ap (λ (p : Option Mail × List Mail). p.0) (taken-of_id S.mails old.0 old.1 well.machine.distinct old.2)

  mail-rises : (id : MailId) → 1 ≤ count_of id T.mails → start_of S K e ≤ start_of T K' (Handle id)
  mail-rises id some = by_before (has_id id S.mails) refl where
    place : ℕ
    place = place_in T (Handle id)

    by_before : (t : Bool) → has_id id S.mails ≡ t → start_of S K e ≤ max (if t then K.arrival id else finish_of ticks S K e + delay_in network T id) (K'.free place)
    by_before false new = omega arith
    by_before true old = by_free (free-either place) where
      before : 1 ≤ count_of id S.mails
      before = grind (arith, nat_tests, old)

      by_free : (start_of S K e ≤ K'.free place) ⊎ ((place ≡ place_in S e → ⊥) × (K'.free place ≡ K.free place)) → start_of S K e ≤ max (K.arrival id) (K'.free place)
      by_free (inl later) = omega (arith, later)
      by_free (inr other) =
          let could = next-least S K e (Handle id) is (inr (id, refl, before)) in
          let same : K.free (place_in S (Handle id)) ≡ K'.free place = ap K.free (sym (same-place id before some)) ∙ sym other.1 in
          omega (arith, could, same)

  pub start-rises : (f : Event) → IsNextEvent T K' f → start_of S K e ≤ start_of T K' f
  start-rises f next_is = by_kind f next_is.candidate where
    by_kind : (x : Event) → IsCandidate T x → start_of S K e ≤ start_of T K' x
    by_kind x (inl own) = own-rises own.0 x own.1
    by_kind x (inr mail) = subst (λ (y : Event). start_of S K e ≤ start_of T K' y) (sym mail.1) (mail-rises mail.0 mail.2)

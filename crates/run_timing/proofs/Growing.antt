-- How the rows of a run grow, event by event.
use Rattle.std.proofs.Common.{◌≡◌, ◌⊎◌, inl, inr, ℕ, ◌+◌, ◌<◌, ◌≤◌, true, List, [], length, replicate, slice_get, Option, Some, None, sym, ap, subst, ◌∙◌, arith}
use Rattle.std.proofs.lemmas.List.{take_all}
use Rattle.dn_base.specs.declared.ids.Shape.{Shape}
use Rattle.message_net.specs.declared.actor.Actor.{Actor}
use Rattle.message_net.specs.declared.actor.MailId.{MailId}
use Rattle.message_net.specs.declared.event.Event.{Event}
use Rattle.message_net.specs.declared.event.Event.TheVariants.{Handle}
use Rattle.message_net.specs.declared.event.EventKind.{EventKind}
use Rattle.message_net.specs.Mail.{has_actor, actor_index}
use Rattle.message_net.proofs.MailLemmas.{actor_index-within}
use Rattle.registration_protocol.specs.Node.{Setting}
use Rattle.machine_rules.specs.State.{State, initial_state}
use Rattle.machine_rules.specs.Next.{next, enabled, kind_in, next_number}
use Rattle.machine_rules.specs.Runs.{after, IsRun}
use Rattle.machine_rules.specs.Sound.{IsReady}
use Rattle.dn_machine.specs.Actors.{actor_in}
use Rattle.run_timing.specs.declared.rows.Rows.{Rows}
use Rattle.run_timing.specs.declared.rows.Start.{Start}
use Rattle.run_timing.specs.declared.ticks.Ticks.{Ticks}
use Rattle.run_timing.specs.Depends.{state_at, actor_at, kind_at, IsOwnBefore, IsSender}
use Rattle.run_timing.specs.Noted.{AreRowsOf}
use Rattle.run_timing.specs.Rows.{finish_in, start_after, with_timing_row, AreNoted}
use Rattle.run_timing.specs.Steps.{step_delay}
use Rattle.run_timing.specs.Ticks.{ticks_at}
use Rattle.run_timing.specs.Ticks.{AreWithinLimits, ticks_of}
use Rattle.run_timing.specs.Tracks.{last_at, senders_at, noted_last, noted_senders, sender_in, handled_delay}
use Rattle.run_timing.proofs.Moves.{has, place}
use Rattle.run_timing.proofs.OnRuns.{enabled-at, setting-at, there-at}
use Rattle.run_timing.proofs.RowLemmas.{start-either, start-most}
use Rattle.run_timing.proofs.Timed.{IsTimed, timed-none, own-choice, mail-choice, sender-there, actor-here, number-so_far, timed-more}

-- what the tables say of an event of the actor at a place, and what is noted so far, is within bounds
pub record CanNote (shape : Shape) (last : List (Option ℕ)) (senders : List (List ℕ)) (rows : Rows) (e : Event) (a : Actor) (at' : ℕ) : Type 0 where
  pub last_within : at' < length last
  pub senders_within : at' < length senders
  pub own : (p : ℕ) → last_at last at' ≡ Some p → p < length rows.finishes
  pub sender : (p : ℕ) → sender_in shape.cores shape.banks senders e ≡ Some p → p < length rows.finishes
  pub small : (i : ℕ) → i < length rows.finishes → finish_in rows i ≤ 176187648000000
  pub there : has_actor shape.cores shape.banks a ≡ true
  pub from : (id : MailId) → e ≡ Handle id → has_actor shape.cores shape.banks id.sender ≡ true

pub can-note : (ticks : Ticks) (C : Setting) (shape : Shape) (events : List Event) (n : ℕ) (state : State) (made : ℕ) (last : List (Option ℕ)) (senders : List (List ℕ)) (rows : Rows) (e : Event) (a : Actor) (at' : ℕ)
    → C.shape ≡ shape → IsReady C → IsRun (initial_state C) events → length events ≤ 25169664 → IsTimed ticks C events n state made last senders rows → n < length events → slice_get events n ≡ Some e
    → actor_in state e ≡ Some a → at' ≡ actor_index shape.cores shape.banks a → CanNote shape last senders rows e a at'
can-note ticks C shape events n state made last senders rows e a at' same ready run few timed within here is stands =
    subst (CanNote shape last senders rows e a) (sym stands) (subst (λ (s : Shape). CanNote s last senders rows e a (actor_index s.cores s.banks a)) same own_shape)
  where
    is-here : actor_in (state_at (initial_state C) events n) e ≡ Some a
    is-here = subst (λ (X : State). actor_in X e ≡ Some a) timed.leads is

    there : has C a ≡ true
    there = there-at C events n e a ready run here is-here

    now : actor_at (initial_state C) events n ≡ Some a
    now = actor-here (initial_state C) events n e a here is-here

    may : enabled (state_at (initial_state C) events n) e ≡ true
    may = enabled-at (initial_state C) events n e run here

    low : place C a < C.shape.cores + C.shape.banks + 1
    low = actor_index-within C.shape.cores C.shape.banks a there

    own_shape : CanNote C.shape last senders rows e a (place C a)
    own_shape =
        record {
          last_within = omega (arith, low, timed.tables.lasts);
          senders_within = omega (arith, low, timed.tables.rows);
          own = λ p mine. omega (arith, (own-choice C events n last senders a p timed.tables there now mine).earlier, timed.noted.finishes);
          sender = λ p mail. omega (arith, (mail-choice C events n last senders e p timed.tables timed.have here may mail).earlier, timed.noted.finishes);
          small = λ i below. omega (arith, timed.noted.small i (omega (arith, below, timed.noted.finishes)), below, timed.noted.finishes, within, few);
          there = there;
          from = λ id handles. sender-there C events n last senders id timed.tables timed.have (subst (λ (x : Event). enabled (state_at (initial_state C) events n) x ≡ true) handles may);
        }

-- as many mails of an event's actor are noted as it has sent before the event
pub mails-noted : (ticks : Ticks) (C : Setting) (shape : Shape) (events : List Event) (n : ℕ) (state : State) (made : ℕ) (last : List (Option ℕ)) (senders : List (List ℕ)) (rows : Rows) (e : Event) (a : Actor) (at' : ℕ)
    → C.shape ≡ shape → IsReady C → IsRun (initial_state C) events → IsTimed ticks C events n state made last senders rows → slice_get events n ≡ Some e → actor_in state e ≡ Some a
    → at' ≡ actor_index shape.cores shape.banks a → length (senders_at senders at') ≡ next_number state a
mails-noted ticks C shape events n state made last senders rows e a at' same ready run timed here is stands =
    let is-here : actor_in (state_at (initial_state C) events n) e ≡ Some a = subst (λ (X : State). actor_in X e ≡ Some a) timed.leads is in
    let place-is : at' ≡ place C a = stands ∙ ap (λ (s : Shape). actor_index s.cores s.banks a) (sym same) in
    ap (λ (k : ℕ). length (senders_at senders k)) place-is
    ∙ (timed.tables.long a (there-at C events n e a ready run here is-here)
    ∙ (sym (number-so_far C (state_at (initial_state C) events n) a (setting-at C events n)) ∙ ap (λ (X : State). next_number X a) (sym timed.leads)))

pub run-more : (ticks : Ticks) (C : Setting) (shape : Shape) (events : List Event) (n : ℕ) (state new_state : State) (made new_made : ℕ) (last new_last : List (Option ℕ)) (senders new_senders : List (List ℕ)) (rows new_rows : Rows)
    (e : Event) (a : Actor) (at' count number delay : ℕ) (start : Start) (kind : EventKind) → C.shape ≡ shape → IsReady C → IsRun (initial_state C) events
    → IsTimed ticks C events n state made last senders rows → slice_get events n ≡ Some e → actor_in state e ≡ Some a → AreWithinLimits ticks → at' ≡ actor_index shape.cores shape.banks a → number ≡ n
    → delay ≡ handled_delay ticks.network shape a e → delay ≤ 6000000 → start ≡ start_after (finish_in rows) delay (last_at last at') (sender_in shape.cores shape.banks senders e) → kind ≡ kind_in state e → next_number state a + count ≡ next_number (next state e) a
    → new_state ≡ next state e → new_made ≡ made + 1 → new_last ≡ noted_last at' number last → new_senders ≡ noted_senders at' count number senders → new_rows ≡ with_timing_row kind (ticks_of ticks kind) start rows
    → IsTimed ticks C events (n + 1) new_state new_made new_last new_senders new_rows
run-more ticks C shape events n state new_state made new_made last new_last senders new_senders rows new_rows e a at' count number delay start kind same ready run timed here is limits stands numbered delay_is soon start_is kind_is counts
    state_is made_is last_is senders_is rows_is =
    subst (λ (x : State). IsTimed ticks C events (n + 1) x new_made new_last new_senders new_rows) (sym state_is)
    (subst (λ (x : ℕ). IsTimed ticks C events (n + 1) (next state e) x new_last new_senders new_rows) (sym made_is)
    (subst (λ (x : List (Option ℕ)). IsTimed ticks C events (n + 1) (next state e) (made + 1) x new_senders new_rows) (sym last_same)
    (subst (λ (x : List (List ℕ)). IsTimed ticks C events (n + 1) (next state e) (made + 1) (noted_last (place C a) n last) x new_rows) (sym senders_same)
    (subst (λ (x : Rows). IsTimed ticks C events (n + 1) (next state e) (made + 1) (noted_last (place C a) n last) (noted_senders (place C a) count n senders) x) (sym rows_same)
    (timed-more ticks C events n state made last senders rows e a count ready run timed here is counts ((limits.events (kind_in state e)).1) (omega (arith, soon, delay_same)))))))
  where
    place_is : at' ≡ place C a
    place_is = stands ∙ ap (λ (s : Shape). actor_index s.cores s.banks a) (sym same)

    last_same : new_last ≡ noted_last (place C a) n last
    last_same = last_is ∙ (ap (λ (x : ℕ). noted_last x number last) place_is ∙ ap (λ (x : ℕ). noted_last (place C a) x last) numbered)

    senders_same : new_senders ≡ noted_senders (place C a) count n senders
    senders_same = senders_is ∙ (ap (λ (x : ℕ). noted_senders x count number senders) place_is ∙ ap (λ (x : ℕ). noted_senders (place C a) count x senders) numbered)

    delay_same : delay ≡ handled_delay ticks.network C.shape a e
    delay_same = delay_is ∙ ap (λ (s : Shape). handled_delay ticks.network s a e) (sym same)

    start_same : start ≡ start_after (finish_in rows) (handled_delay ticks.network C.shape a e) (last_at last (place C a)) (sender_in C.shape.cores C.shape.banks senders e)
    start_same =
        start_is ∙ (ap (λ (x : ℕ). start_after (finish_in rows) x (last_at last at') (sender_in shape.cores shape.banks senders e)) delay_same
        ∙ (ap (λ (x : ℕ). start_after (finish_in rows) (handled_delay ticks.network C.shape a e) (last_at last x) (sender_in shape.cores shape.banks senders e)) place_is
        ∙ ap (λ (s : Shape). start_after (finish_in rows) (handled_delay ticks.network C.shape a e) (last_at last (place C a)) (sender_in s.cores s.banks senders e)) (sym same)))

    rows_same : new_rows
        ≡ with_timing_row (kind_in state e) (ticks_of ticks (kind_in state e))
        (start_after (finish_in rows) (handled_delay ticks.network C.shape a e) (last_at last (place C a)) (sender_in C.shape.cores C.shape.banks senders e)) rows
    rows_same = rows_is ∙ (ap (λ (k : EventKind). with_timing_row k (ticks_of ticks k) start rows) kind_is ∙ ap (λ (b : Start). with_timing_row (kind_in state e) (ticks_of ticks (kind_in state e)) b rows) start_same)

-- an event starts after an earlier one, if after any
pub start-within : (f : ℕ → ℕ) (delay : ℕ) (own sender : Option ℕ) (start : Start) (n : ℕ) → start ≡ start_after f delay own sender → ((p : ℕ) → own ≡ Some p → p < n)
    → ((p : ℕ) → sender ≡ Some p → p < n) → (p : ℕ) → start.event ≡ Some p → p < n
start-within f delay own sender start n is mine sent p there = by_either (start-either f delay own sender p (ap (λ (x : Start). x.event) (sym is) ∙ there)) where
  by_either : (own ≡ Some p) ⊎ (sender ≡ Some p) → p < n
  by_either (inl first) = mine p first
  by_either (inr second) = sent p second

-- it starts at most a delay after all that finished
pub start-soon : (f : ℕ → ℕ) (delay : ℕ) (own sender : Option ℕ) (start : Start) (n : ℕ) → start ≡ start_after f delay own sender → delay ≤ 6000000 → ((i : ℕ) → i < n → f i ≤ 176187648000000)
    → ((p : ℕ) → own ≡ Some p → p < n) → ((p : ℕ) → sender ≡ Some p → p < n) → start.tick ≤ 176187654000000
start-soon f delay own sender start n is low small mine sent =
    omega (arith, ap (λ (x : Start). x.tick) is, low, start-most f delay 176187648000000 own sender (λ p here. small p (mine p here)) (λ p here. small p (sent p here)))

pub run-none : (ticks : Ticks) (C : Setting) (shape : Shape) (events : List Event) (state : State) (made : ℕ) (last : List (Option ℕ)) (senders : List (List ℕ)) (rows : Rows) → C.shape ≡ shape → state ≡ initial_state C → made ≡ 0
    → last ≡ replicate (shape.cores + shape.banks + 1) None → senders ≡ replicate (shape.cores + shape.banks + 1) [] → rows ≡ record { finishes = []; befores = []; kinds = [] }
    → IsTimed ticks C events 0 state made last senders rows
run-none ticks C shape events state made last senders rows same state_is made_is last_is senders_is rows_is =
    subst (λ (x : State). IsTimed ticks C events 0 x made last senders rows) (sym state_is)
    (subst (λ (x : ℕ). IsTimed ticks C events 0 (initial_state C) x last senders rows) (sym made_is)
    (subst (λ (x : List (Option ℕ)). IsTimed ticks C events 0 (initial_state C) 0 x senders rows) (sym (last_is ∙ ap (λ (s : Shape). replicate (s.cores + s.banks + 1) None) (sym same)))
    (subst (λ (x : List (List ℕ)). IsTimed ticks C events 0 (initial_state C) 0 (replicate (C.shape.cores + C.shape.banks + 1) None) x rows) (sym (senders_is ∙ ap (λ (s : Shape). replicate (s.cores + s.banks + 1) []) (sym same)))
    (subst (λ (x : Rows). IsTimed ticks C events 0 (initial_state C) 0 (replicate (C.shape.cores + C.shape.banks + 1) None) (replicate (C.shape.cores + C.shape.banks + 1) []) x) (sym rows_is) (timed-none ticks C events)))))

pub run-end : (ticks : Ticks) (C : Setting) (events : List Event) (n : ℕ) (first state : State) (made : ℕ) (last : List (Option ℕ)) (senders : List (List ℕ)) (rows : Rows) → first ≡ initial_state C → n ≡ length events
    → IsTimed ticks C events n state made last senders rows → AreRowsOf ticks first events rows
run-end ticks C events n first state made last senders rows opens all timed =
    subst (λ (S : State). AreRowsOf ticks S events rows) (sym opens)
    (subst (λ (k : ℕ). AreNoted (IsOwnBefore (initial_state C) events) (IsSender (initial_state C) events) (ticks_at ticks (initial_state C) events) (step_delay ticks (initial_state C) events) (kind_at (initial_state C) events) k rows) all timed.noted)

pub run-led : (ticks : Ticks) (C : Setting) (events : List Event) (n : ℕ) (first state : State) (made : ℕ) (last : List (Option ℕ)) (senders : List (List ℕ)) (rows : Rows) → first ≡ initial_state C → n ≡ length events
    → IsTimed ticks C events n state made last senders rows → state ≡ after first events
run-led ticks C events n first state made last senders rows opens all timed =
    timed.leads ∙ ap (after (initial_state C)) (take_all n events (omega (arith, all))) ∙ ap (λ (S : State). after S events) (sym opens)

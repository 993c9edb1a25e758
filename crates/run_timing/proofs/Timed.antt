-- What is noted of the events of a run so far is right, and one more event.
use Rattle.std.proofs.Common.{◌≡◌, ◌≢◌, inl, inr, ℕ, zero, suc, ◌+◌, ◌<◌, ◌≤◌, ◌==◌, ◌&&◌, Bool, true, false, cond, nat_lt, List, [], length, replicate, get_or, slice_get, slice_index, Option, Some, None, refl, sym, ap, subst, ◌∙◌, arith}
use Rattle.std.proofs.lemmas.Bool.{eqb-true}
use Rattle.std.proofs.lemmas.Bool.Decides.{nat_tests}
use Rattle.std.proofs.lemmas.List.{length-replicate}
use Rattle.std.proofs.lemmas.Option.{none-some, same_Some}
use Rattle.message_net.specs.declared.actor.Actor.{Actor}
use Rattle.message_net.specs.declared.actor.MailId.{MailId}
use Rattle.message_net.specs.declared.event.Event.{Event}
use Rattle.message_net.specs.declared.event.Event.TheVariants.{Instr, Evict, Arrive, Handle}
use Rattle.message_net.specs.Mail.{has_actor}
use Rattle.message_net.specs.Pool.{count_of}
use Rattle.registration_protocol.specs.Node.{Setting}
use Rattle.machine_rules.specs.State.{State, initial_state}
use Rattle.machine_rules.specs.Next.{next, enabled, kind_in, next_number}
use Rattle.machine_rules.specs.Runs.{IsRun}
use Rattle.machine_rules.specs.Sound.{IsReady}
use Rattle.machine_rules.proofs.OpenedFacts.{opened-setting}
use Rattle.dn_machine.specs.Actors.{actor_in}
use Rattle.run_timing.specs.declared.rows.Rows.{Rows}
use Rattle.run_timing.specs.declared.ticks.Ticks.{Ticks}
use Rattle.run_timing.specs.Depends.{state_at, actor_of_event, actor_at, kind_if_any, kind_at, IsOwnBefore, Sends, IsSender, DependsOn}
use Rattle.run_timing.specs.Network.{delay}
use Rattle.run_timing.specs.Rows.{finish_in, start_after, with_timing_row, AreNoted}
use Rattle.run_timing.specs.Steps.{is_sent, delay_if_any, delay_from, step_delay}
use Rattle.run_timing.specs.Ticks.{ticks_of, ticks_with, ticks_at}
use Rattle.run_timing.specs.Tracks.{last_at, noted_last, noted_senders, sender_in, handled_delay}
use Rattle.run_timing.proofs.Moves.{has, place, sent_so_far, IsMove}
use Rattle.run_timing.proofs.OnRuns.{next-at, enabled-at, setting-at, there-at, move-at}
use Rattle.run_timing.proofs.RowLemmas.{IsChoice, AreSteps, none-noted, noted-more}
use Rattle.run_timing.proofs.Tracked.{IsLastOf, IsTurn, AreTables, tables-more}

-- ---- the tables of a run

abbrev pub AreTablesOf : Setting → List Event → ℕ → List (Option ℕ) → List (List ℕ) → Type 0
AreTablesOf C events n last senders =
    AreTables C.shape.cores C.shape.banks (actor_at (initial_state C) events) (λ k a. sent_so_far C (state_at (initial_state C) events k) a) (Sends (initial_state C) events) n last senders

turn-of : (C : Setting) (events : List Event) (n : ℕ) (a : Actor) → IsMove C (state_at (initial_state C) events n) (state_at (initial_state C) events (n + 1)) a
    → IsTurn C.shape.cores C.shape.banks (λ k b. sent_so_far C (state_at (initial_state C) events k) b) (Sends (initial_state C) events) n a
turn-of C events n a move =
    record {
      there = move.there;
      grows = move.grows;
      others = move.others;
      sends = λ id is. move.sends id is.absent is.in_flight;
      sent = λ k past below. record { absent = move.absent k past; in_flight = move.in_flight k past below };
    }

no-item : {X : Type 0} (n i : ℕ) (x : X) → get_or (replicate n x) i x ≡ x
no-item zero i x = refl
no-item (suc n) zero x = refl
no-item (suc n) (suc i) x = no-item n i x

pub no-tables : (C : Setting) (events : List Event) → AreTablesOf C events 0 (replicate (C.shape.cores + C.shape.banks + 1) None) (replicate (C.shape.cores + C.shape.banks + 1) [])
unfolding initial_state
no-tables C events =
    record {
      lasts = length-replicate actors None;
      rows = length-replicate actors [];
      last_is = λ a o has_a is. absurd (none-some o (sym (no-item actors (place C a) None) ∙ is));
      last_known = λ a o has_a is. absurd (omega (arith, is.earlier));
      long = λ a has_a. ap (λ (xs : List ℕ). length xs) (no-item actors (place C a) []) ∙ sym (no-item actors (place C a) 0);
      sender_is = λ a k p has_a is. absurd (none-some p (ap (λ (xs : List ℕ). slice_get xs k) (sym (no-item actors (place C a) [])) ∙ is));
      sender_known = λ p id below is. absurd (omega (arith, below));
    }
  where
    actors : ℕ
    actors = C.shape.cores + C.shape.banks + 1

-- a mail is in flight after event number p, and from then on until event number n
abbrev pub IsInFlight : Setting → List Event → MailId → ℕ → ℕ → Type 0
IsInFlight C events id p n = (k : ℕ) → p < k → k ≤ n → 1 ≤ count_of id (state_at (initial_state C) events k).mails

-- each mail in flight was sent by an event, and is in flight since
abbrev pub HaveSenders : Setting → List Event → ℕ → Type 0
HaveSenders C events n = (id : MailId) → 1 ≤ count_of id (state_at (initial_state C) events n).mails → (p : ℕ) × (p < n) × Sends (initial_state C) events p id × IsInFlight C events id p n

pub no-mails : (C : Setting) (events : List Event) → HaveSenders C events 0
unfolding initial_state
no-mails C events id some = absurd (omega (arith, some))

in-flight-more : (C : Setting) (events : List Event) (id : MailId) (p n : ℕ) → IsInFlight C events id p n → 1 ≤ count_of id (state_at (initial_state C) events (n + 1)).mails → IsInFlight C events id p (n + 1)
in-flight-more C events id p n was some k past below = by_test (nat_lt n k) refl where
  by_test : (t : Bool) → nat_lt n k ≡ t → 1 ≤ count_of id (state_at (initial_state C) events k).mails
  by_test true e =
      let same : n + 1 ≡ k = grind (arith, nat_tests, e, below) in
      subst (λ (x : ℕ). 1 ≤ count_of id (state_at (initial_state C) events x).mails) same some
  by_test false e = was k past (grind (arith, nat_tests, e))

mails-more : (C : Setting) (events : List Event) (n : ℕ) → HaveSenders C events n → HaveSenders C events (n + 1)
mails-more C events n were id some = by_test (nat_lt 0 (count_of id (state_at (initial_state C) events n).mails)) refl where
  by_test : (t : Bool) → nat_lt 0 (count_of id (state_at (initial_state C) events n).mails) ≡ t → (p : ℕ) × (p < n + 1) × Sends (initial_state C) events p id × IsInFlight C events id p (n + 1)
  by_test true e =
      let old = were id (grind (arith, nat_tests, e)) in
      (old.0, omega (arith, old.1), old.2, in-flight-more C events id old.0 n old.3 some)
  by_test false e =
      let none : IsInFlight C events id n n = λ k past below. absurd (omega (arith, past, below)) in
      (n, omega arith, record { absent = grind (arith, nat_tests, e); in_flight = some }, in-flight-more C events id n n none some)

-- ---- what an event depends on stands in the tables

pub own-choice : (C : Setting) (events : List Event) (n : ℕ) (last : List (Option ℕ)) (senders : List (List ℕ)) (a : Actor) (p : ℕ) → AreTablesOf C events n last senders → has C a ≡ true
    → actor_at (initial_state C) events n ≡ Some a → last_at last (place C a) ≡ Some p → IsOwnBefore (initial_state C) events p n
own-choice C events n last senders a p tables there now is =
    let was = tables.last_is a p there is in
    record { earlier = was.earlier; actor = a; makes = was.makes; makes_next = now; none_between = was.none_since }

own-known : (C : Setting) (events : List Event) (n : ℕ) (last : List (Option ℕ)) (senders : List (List ℕ)) (a : Actor) (p : ℕ) → AreTablesOf C events n last senders → has C a ≡ true
    → actor_at (initial_state C) events n ≡ Some a → IsOwnBefore (initial_state C) events p n → last_at last (place C a) ≡ Some p
own-known C events n last senders a p tables there now is =
    let same : is.actor ≡ a = same_Some is.actor a (sym is.makes_next ∙ now) in
    let was : IsLastOf (actor_at (initial_state C) events) n is.actor p = record { earlier = is.earlier; makes = is.makes; none_since = is.none_between } in
    tables.last_known a p there (subst (λ (x : Actor). IsLastOf (actor_at (initial_state C) events) n x p) same was)

pub mail-choice : (C : Setting) (events : List Event) (n : ℕ) (last : List (Option ℕ)) (senders : List (List ℕ)) (e : Event) (p : ℕ) → AreTablesOf C events n last senders → HaveSenders C events n
    → slice_get events n ≡ Some e → enabled (state_at (initial_state C) events n) e ≡ true → sender_in C.shape.cores C.shape.banks senders e ≡ Some p → IsSender (initial_state C) events p n
unfolding enabled
mail-choice C events n last senders (Instr core) p tables have here may is = absurd (none-some p is)
mail-choice C events n last senders (Evict core word) p tables have here may is = absurd (none-some p is)
mail-choice C events n last senders (Arrive core) p tables have here may is = absurd (none-some p is)
mail-choice C events n last senders (Handle id) p tables have here may is =
    let sent = have id (grind (arith, nat_tests, may)) in
    let known = tables.sender_known sent.0 id sent.1 sent.2 in
    let all = tables.sender_is id.sender id.number p known.0 is in
    let same : sent.0 ≡ p = same_Some sent.0 p (sym known.1 ∙ is) in
    record { earlier = all.0; id = id; handled = here; sent = all.1; in_flight = subst (λ (x : ℕ). IsInFlight C events id x n) same sent.3 }

mail-known : (C : Setting) (events : List Event) (n : ℕ) (last : List (Option ℕ)) (senders : List (List ℕ)) (e : Event) (p : ℕ) → AreTablesOf C events n last senders
    → slice_get events n ≡ Some e → IsSender (initial_state C) events p n → sender_in C.shape.cores C.shape.banks senders e ≡ Some p
mail-known C events n last senders e p tables here is =
    let same : Handle is.id ≡ e = same_Some (Handle is.id) e (sym is.handled ∙ here) in
    subst (λ (x : Event). sender_in C.shape.cores C.shape.banks senders x ≡ Some p) same (tables.sender_known p is.id is.earlier is.sent).1

-- ---- how long the steps to an event take

sent-test : (S : State) (events : List Event) (i : ℕ) (id : MailId) → Sends S events i id → is_sent S events i id ≡ true
sent-test S events i id sent =
    let absent : (count_of id (state_at S events i).mails == 0) ≡ true = grind (arith, nat_tests, sent.absent) in
    let in_flight : nat_lt 0 (count_of id (state_at S events (i + 1)).mails) ≡ true = grind (arith, nat_tests, sent.in_flight) in
    rw (absent, in_flight) refl

sent-is : (S : State) (events : List Event) (i : ℕ) (id : MailId) → is_sent S events i id ≡ true → Sends S events i id
sent-is S events i id is = by_tests (count_of id (state_at S events i).mails == 0) (nat_lt 0 (count_of id (state_at S events (i + 1)).mails)) refl refl is where
  by_tests : (s t : Bool) → (count_of id (state_at S events i).mails == 0) ≡ s → nat_lt 0 (count_of id (state_at S events (i + 1)).mails) ≡ t → (s && t) ≡ true → Sends S events i id
  by_tests true true e f both = record { absent = eqb-true (count_of id (state_at S events i).mails) 0 e; in_flight = grind (arith, nat_tests, f) }
  by_tests true false e f both = absurd (cc)
  by_tests false t e f both = absurd (cc)

-- the step from the sender of an event's mail takes the mail's delay
sender-step : (ticks : Ticks) (C : Setting) (events : List Event) (n : ℕ) (e : Event) (a : Actor) (p : ℕ) → slice_get events n ≡ Some e → actor_at (initial_state C) events n ≡ Some a
    → IsSender (initial_state C) events p n → step_delay ticks (initial_state C) events p n ≡ handled_delay ticks.network C.shape a e
sender-step ticks C events n e a p here now is =
    subst (λ (x : Event). step_delay ticks (initial_state C) events p n ≡ handled_delay ticks.network C.shape a x) (same_Some (Handle is.id) e (sym is.handled ∙ here))
    (ap (delay_from ticks (initial_state C) events p n) is.handled
    ∙ ap (λ (t : Bool). cond t (delay_if_any ticks (initial_state C) is.id (actor_at (initial_state C) events n)) 0) (sent-test (initial_state C) events p is.id is.sent)
    ∙ ap (delay_if_any ticks (initial_state C) is.id) now
    ∙ ap (λ (X : Setting). delay ticks.network X.shape is.id.sender a) (opened-setting C))

-- the step from another event takes no time
other-step : (ticks : Ticks) (C : Setting) (events : List Event) (n : ℕ) (last : List (Option ℕ)) (senders : List (List ℕ)) (e : Event) (p : ℕ) → AreTablesOf C events n last senders
    → slice_get events n ≡ Some e → p < n → sender_in C.shape.cores C.shape.banks senders e ≢ Some p → step_delay ticks (initial_state C) events p n ≡ 0
other-step ticks C events n last senders (Instr core) p tables here below other = ap (delay_from ticks (initial_state C) events p n) here
other-step ticks C events n last senders (Evict core word) p tables here below other = ap (delay_from ticks (initial_state C) events p n) here
other-step ticks C events n last senders (Arrive core) p tables here below other = ap (delay_from ticks (initial_state C) events p n) here
other-step ticks C events n last senders (Handle id) p tables here below other =
    ap (delay_from ticks (initial_state C) events p n) here ∙ by_test (is_sent (initial_state C) events p id) refl
  where
    by_test : (t : Bool) → is_sent (initial_state C) events p id ≡ t → cond t (delay_if_any ticks (initial_state C) id (actor_at (initial_state C) events n)) 0 ≡ 0
    by_test true e = absurd (other (tables.sender_known p id below (sent-is (initial_state C) events p id e)).1)
    by_test false e = refl

-- a mail that may be handled was sent by an actor of the machine
pub sender-there : (C : Setting) (events : List Event) (n : ℕ) (last : List (Option ℕ)) (senders : List (List ℕ)) (id : MailId) → AreTablesOf C events n last senders → HaveSenders C events n
    → enabled (state_at (initial_state C) events n) (Handle id) ≡ true → has C id.sender ≡ true
unfolding enabled
sender-there C events n last senders id tables have may =
    let sent = have id (grind (arith, nat_tests, may)) in
    (tables.sender_known sent.0 id sent.1 sent.2).0

-- ---- all together

-- before event number n the machine's state, the tables and the rows are those of the events before it
pub record IsTimed (ticks : Ticks) (C : Setting) (events : List Event) (n : ℕ) (state : State) (made : ℕ) (last : List (Option ℕ)) (senders : List (List ℕ)) (rows : Rows) : Type 0 where
  pub leads : state ≡ state_at (initial_state C) events n
  pub counts : made ≡ n
  pub tables : AreTablesOf C events n last senders
  pub have : HaveSenders C events n
  pub noted : AreNoted (IsOwnBefore (initial_state C) events) (IsSender (initial_state C) events) (ticks_at ticks (initial_state C) events) (step_delay ticks (initial_state C) events) (kind_at (initial_state C) events) n rows

pub timed-none : (ticks : Ticks) (C : Setting) (events : List Event)
    → IsTimed ticks C events 0 (initial_state C) 0 (replicate (C.shape.cores + C.shape.banks + 1) None) (replicate (C.shape.cores + C.shape.banks + 1) []) (record { finishes = []; befores = []; kinds = [] })
timed-none ticks C events =
    record {
      leads = refl;
      counts = refl;
      tables = no-tables C events;
      have = no-mails C events;
      noted = none-noted (IsOwnBefore (initial_state C) events) (IsSender (initial_state C) events) (ticks_at ticks (initial_state C) events) (step_delay ticks (initial_state C) events) (kind_at (initial_state C) events);
    }

-- what an event depends on comes before it
depends-earlier : (S : State) (events : List Event) (p i : ℕ) → DependsOn S events p i → p < i
depends-earlier S events p i (inl own) = own.earlier
depends-earlier S events p i (inr sender) = sender.earlier

-- the numbers of mails by the state or by the setting
pub number-so_far : (C : Setting) (S : State) (a : Actor) → S.setting ≡ C → next_number S a ≡ sent_so_far C S a
number-so_far C S a same = ap (λ (X : Setting). slice_index S.numbers (place X a)) same

-- the kind, the ticks and the actor of an event, in the state in which it comes
kind-here : (S : State) (events : List Event) (n : ℕ) (e : Event) → slice_get events n ≡ Some e → kind_at S events n ≡ Some (kind_in (state_at S events n) e)
kind-here S events n e here = ap (kind_if_any (state_at S events n)) here

pub actor-here : (S : State) (events : List Event) (n : ℕ) (e : Event) (a : Actor) → slice_get events n ≡ Some e → actor_in (state_at S events n) e ≡ Some a → actor_at S events n ≡ Some a
actor-here S events n e a here is = ap (actor_of_event (state_at S events n)) here ∙ is

-- what the code works with before event number n
pub record IsAtEvent (C : Setting) (events : List Event) (n : ℕ) (state : State) (e : Event) : Type 0 where
  pub may : enabled state e ≡ true
  pub there : (a : Actor) → actor_in state e ≡ Some a → has_actor state.setting.shape.cores state.setting.shape.banks a ≡ true
  pub still : (next state e).setting ≡ state.setting
  pub grows : (a : Actor) → actor_in state e ≡ Some a → next_number state a ≤ next_number (next state e) a

pub at-event : (ticks : Ticks) (C : Setting) (events : List Event) (n : ℕ) (state : State) (made : ℕ) (last : List (Option ℕ)) (senders : List (List ℕ)) (rows : Rows) (e : Event) → IsReady C
    → IsRun (initial_state C) events → IsTimed ticks C events n state made last senders rows → slice_get events n ≡ Some e → IsAtEvent C events n state e
at-event ticks C events n state made last senders rows e ready run timed here =
    subst (λ (X : State). IsAtEvent C events n X e) (sym timed.leads)
    (record {
      may = enabled-at (initial_state C) events n e run here;
      there = λ a is. subst (λ (X : Setting). has X a ≡ true) (sym same) (there-at C events n e a ready run here is);
      still = next-setting ∙ sym same;
      grows = λ a is.
          let move = move-at C events n e a ready run here is in
          let after_is : sent_so_far C (state_at (initial_state C) events (n + 1)) a ≡ next_number (next S e) a =
          ap (λ (X : State). sent_so_far C X a) (next-at (initial_state C) events n e here) ∙ sym (number-so_far C (next S e) a next-setting)
          in
          omega (arith, move.grows, after_is, number-so_far C S a same);
    })
  where
    S : State
    S = state_at (initial_state C) events n

    same : S.setting ≡ C
    same = setting-at C events n

    next-setting : (next S e).setting ≡ C
    next-setting = ap (λ (X : State). X.setting) (sym (next-at (initial_state C) events n e here)) ∙ setting-at C events (n + 1)

pub timed-more : (ticks : Ticks) (C : Setting) (events : List Event) (n : ℕ) (state : State) (made : ℕ) (last : List (Option ℕ)) (senders : List (List ℕ)) (rows : Rows) (e : Event) (a : Actor) (count : ℕ)
    → IsReady C → IsRun (initial_state C) events → IsTimed ticks C events n state made last senders rows → slice_get events n ≡ Some e → actor_in state e ≡ Some a
    → next_number state a + count ≡ next_number (next state e) a → ticks_of ticks (kind_in state e) ≤ 1000000 → handled_delay ticks.network C.shape a e ≤ 6000000
    → IsTimed ticks C events (n + 1) (next state e) (made + 1) (noted_last (place C a) n last) (noted_senders (place C a) count n senders)
    (with_timing_row (kind_in state e) (ticks_of ticks (kind_in state e))
    (start_after (finish_in rows) (handled_delay ticks.network C.shape a e) (last_at last (place C a)) (sender_in C.shape.cores C.shape.banks senders e)) rows)
timed-more ticks C events n state made last senders rows e a count ready run timed here is counts low soon =
    record {
      leads = ap (λ (X : State). next X e) timed.leads ∙ sym (next-at (initial_state C) events n e here);
      counts = omega (arith, timed.counts);
      tables =
          tables-more C.shape.cores C.shape.banks (actor_at (initial_state C) events) (λ k b. sent_so_far C (state_at (initial_state C) events k) b) (Sends (initial_state C) events) n last senders a count timed.tables
          (turn-of C events n a move) now sent;
      have = mails-more C events n timed.have;
      noted =
          noted-more (IsOwnBefore (initial_state C) events) (IsSender (initial_state C) events) (ticks_at ticks (initial_state C) events) (step_delay ticks (initial_state C) events) (kind_at (initial_state C) events) n rows
          (last_at last (place C a)) (sender_in C.shape.cores C.shape.banks senders e) (handled_delay ticks.network C.shape a e) (kind_in state e) (ticks_of ticks (kind_in state e))
          (depends-earlier (initial_state C) events) timed.noted choice steps kind takes low soon;
    }
  where
    S : State
    S = state_at (initial_state C) events n

    is-here : actor_in S e ≡ Some a
    is-here = subst (λ (X : State). actor_in X e ≡ Some a) timed.leads is

    there : has C a ≡ true
    there = there-at C events n e a ready run here is-here

    now : actor_at (initial_state C) events n ≡ Some a
    now = actor-here (initial_state C) events n e a here is-here

    move : IsMove C S (state_at (initial_state C) events (n + 1)) a
    move = move-at C events n e a ready run here is-here

    next-is : state_at (initial_state C) events (n + 1) ≡ next state e
    next-is = next-at (initial_state C) events n e here ∙ ap (λ (X : State). next X e) (sym timed.leads)

    sent : sent_so_far C S a + count ≡ sent_so_far C (state_at (initial_state C) events (n + 1)) a
    sent =
        let before : next_number state a ≡ sent_so_far C S a =
        ap (λ (X : State). next_number X a) timed.leads ∙ number-so_far C S a (setting-at C events n)
        in
        let after_it : next_number (next state e) a ≡ sent_so_far C (state_at (initial_state C) events (n + 1)) a =
        ap (λ (X : State). next_number X a) (sym next-is) ∙ number-so_far C (state_at (initial_state C) events (n + 1)) a (setting-at C events (n + 1))
        in
        omega (arith, counts, before, after_it)

    kind : kind_at (initial_state C) events n ≡ Some (kind_in state e)
    kind = kind-here (initial_state C) events n e here ∙ ap (λ (X : State). Some (kind_in X e)) (sym timed.leads)

    takes : ticks_at ticks (initial_state C) events n ≡ ticks_of ticks (kind_in state e)
    takes = ap (ticks_with ticks) kind

    may : enabled S e ≡ true
    may = enabled-at (initial_state C) events n e run here

    choice : IsChoice (IsOwnBefore (initial_state C) events) (IsSender (initial_state C) events) n (last_at last (place C a)) (sender_in C.shape.cores C.shape.banks senders e)
    choice =
        record {
          own_is = λ p mine. own-choice C events n last senders a p timed.tables there now mine;
          own_known = λ p mine. own-known C events n last senders a p timed.tables there now mine;
          sender_is = λ p mail. mail-choice C events n last senders e p timed.tables timed.have here may mail;
          sender_known = λ p mail. mail-known C events n last senders e p timed.tables here mail;
        }

    steps : AreSteps (step_delay ticks (initial_state C) events) n (handled_delay ticks.network C.shape a e) (last_at last (place C a)) (sender_in C.shape.cores C.shape.banks senders e)
    steps =
        record {
          of_sender = λ p mail. sender-step ticks C events n e a p here now (choice.sender_is p mail);
          of_own = λ p mine other. other-step ticks C events n last senders e p timed.tables here (choice.own_is p mine).earlier other;
        }

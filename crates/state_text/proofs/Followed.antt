-- Events that come one after the other, and the state to which they lead.
use Rattle.std.proofs.Common.{◌≡◌, ℕ, zero, suc, ◌+◌, ◌<◌, ◌≤◌, true, false, List, [], ◌∷◌, ◌++◌, length, take, get_or, slice_get, Option, Some, None, sym, ap, subst, ◌∙◌, arith}
use Rattle.std.proofs.lemmas.List.{take_more, take-take, length-take-le}
use Rattle.std.proofs.lemmas.Option.{slice_get-get_or}
use Rattle.dn_base.specs.declared.ids.Shape.{Shape}
use Rattle.region_table.specs.Program.{ProgramParts}
use Rattle.region_table.specs.Plan.{ArePlans}
use Rattle.message_net.specs.declared.actor.Actor.{Actor}
use Rattle.message_net.specs.declared.event.Event.{Event}
use Rattle.machine_rules.specs.State.{State, initial_state}
use Rattle.machine_rules.specs.Next.{next, enabled}
use Rattle.machine_rules.specs.Runs.{after, IsRun}
use Rattle.machine_rules.specs.declared.stepped.Stepped.{Stepped}
use Rattle.dn_machine.specs.Kept.{Made, IsKept, IsInitialMachine}
use Rattle.dn_machine.specs.Settings.{IsSettingOf}
use Rattle.dn_machine.specs.Tried.{IsTried, HasStepped}
use Rattle.dn_machine.proofs.ScheduleLaws.{after-more}
use Rattle.text_places.specs.declared.places.Places.{Places}
use Rattle.state_text.specs.declared.answer.StateAnswer.{StateAnswer}
use Rattle.state_text.specs.Shown.{shown_text}
use Rattle.state_text.specs.Reached.{IsFollowed, IsReasoned, AreListed, IsAnswerOf, state_before}
use Rattle.state_text.proofs.Exact.{none-exactly}
use Rattle.state_text.proofs.Held.{stands}
use Rattle.state_text.proofs.Listed.{listed-exactly, in-place}
use Rattle.machine_rules.specs.Sound.{IsMachine}
use Rattle.registration_protocol.specs.Node.{NodeParts}

-- what is known of an event that came, and of one that didn't
pub came-some : (S T : State) (e : Event) (o : Option (Actor × Stepped)) (x : Actor × Stepped) → o ≡ Some x → IsTried S T e o → HasStepped S T e x
came-some S T e o x is tried = subst (λ (p : Option (Actor × Stepped)). IsTried S T e p) is tried

pub came-none : (S T : State) (e : Event) (o : Option (Actor × Stepped)) → o ≡ None → IsTried S T e o → (enabled S e ≡ false) × (T ≡ S)
came-none S T e o is tried = subst (λ (p : Option (Actor × Stepped)). IsTried S T e p) is tried

run-more : (S : State) (events : List Event) (e : Event) → IsRun S events → enabled (after S events) e ≡ true → IsRun S (events ++ e ∷ [])
run-more S [] e run may = (may, tt)
run-more S (x ∷ xs) e run may = (run.0, run-more (next S x) xs e run.1 may)

-- one event more
pub one-more-run : (S T : State) (events : List Event) (i : ℕ) (d : Event) → i < length events → IsRun S (take i events) → T ≡ after S (take i events) → enabled T (get_or events i d) ≡ true
    → IsRun S (take (i + 1) events)
one-more-run S T events i d inside run leads may =
    subst (IsRun S) (sym (take_more events i d inside))
    (run-more S (take i events) (get_or events i d) run (subst (λ (x : State). enabled x (get_or events i d) ≡ true) leads may))

pub one-more-leads : (S T U : State) (events : List Event) (i : ℕ) (d : Event) → i < length events → T ≡ after S (take i events) → U ≡ next T (get_or events i d) → U ≡ after S (take (i + 1) events)
one-more-leads S T U events i d inside leads moved =
    moved ∙ ap (λ (x : State). next x (get_or events i d)) leads ∙ sym (after-more S (take i events) (get_or events i d)) ∙ ap (after S) (sym (take_more events i d inside))

-- an event that may not come
pub stopped-at : (S T U : State) (events : List Event) (i came : ℕ) (d : Event) → came ≡ i → i < length events → IsRun S (take i events) → T ≡ after S (take i events) → U ≡ T
    → enabled T (get_or events i d) ≡ false → IsFollowed S U events came
stopped-at S T U events i came d count inside run leads same not =
    subst (IsFollowed S U events) (sym count)
    (record {
      run = run;
      leads = same ∙ leads;
      within = omega (arith, inside);
      stopped = λ low. (get_or events i d, slice_get-get_or events i d inside, subst (λ (x : State). enabled x (get_or events i d) ≡ false) (sym same) not);
    })

-- all of them came
pub all-came : (S T : State) (events : List Event) (i came : ℕ) → came ≡ i → i ≤ length events → length events ≤ i → IsRun S (take i events) → T ≡ after S (take i events) → IsFollowed S T events came
all-came S T events i came count within past run leads =
    subst (IsFollowed S T events) (sym count) (record { run = run; leads = leads; within = within; stopped = λ low. absurd (omega (arith, low, past)) })

-- ---- the answer

setting-of : (P : ProgramParts) (shape : Shape) (fuel : ℕ) (m : Made) → IsInitialMachine P shape fuel m → IsKept m.state m.made → IsSettingOf P shape fuel m.state.setting
setting-of P shape fuel m at kept =
    record {
      program = at.program_is;
      plans = subst (λ (p : ProgramParts). ArePlans p m.state.setting.plans) at.program_is kept.sound.machine.context.plans;
      one_form = at.plans_are;
      shape = at.shape_is;
      fuel = at.fuel_is;
    }

get-front : {X : Type 0} (xs : List X) (n i : ℕ) (x : X) → slice_get (take n xs) i ≡ Some x → slice_get xs i ≡ Some x
get-front xs zero i x is = absurd (cc)
get-front [] (suc n) i x is = absurd (cc)
get-front (y ∷ ys) (suc n) zero x is = is
get-front (y ∷ ys) (suc n) (suc i) x is = get-front ys n i x is

-- what event_reasons says of the state of a machine
reasoned-of : (T : State) → IsMachine T → (e : Event) → IsReasoned T e
reasoned-of T machine e = record { holds = stands T e; none = none-exactly T e (λ (core : ℕ) (n : NodeParts) there. (machine.node core n there).fits) }

listed-of : (T : State) → IsMachine T → AreListed T
listed-of T machine = listed-exactly T (in-place T machine)

pub answer-of : (P : ProgramParts) (shape : Shape) (fuel : ℕ) (m : Made) (places : Places) (events before : List Event) (asked : ℕ) (T : State) (a : StateAnswer)
    → IsInitialMachine P shape fuel m → IsKept m.state m.made → before ≡ take asked events → asked ≤ length events → IsFollowed m.state T before a.event
    → IsMachine T → a.text.items ≡ shown_text places T events asked a.event → IsAnswerOf P shape fuel places events asked a
answer-of P shape fuel m places events before asked T a at kept front within followed machine shown =
    let low : a.event ≤ asked = omega (arith, followed.within, ap length front, length-take-le asked events within) in
    let long : asked ≤ length before = omega (arith, ap length front, length-take-le asked events within) in
    let same : take a.event before ≡ take a.event events = ap (take a.event) front ∙ take-take a.event asked events low in
    let leads : T ≡ state_before m.state.setting events a.event =
    followed.leads ∙ ap (λ (S : State). after S (take a.event before)) at.state ∙ ap (after (initial_state m.state.setting)) same in
    record {
      setting = m.state.setting;
      setting_is = setting-of P shape fuel m at kept;
      reached = record {
        run = subst (IsRun (initial_state m.state.setting)) same (subst (λ (S : State). IsRun S (take a.event before)) at.state followed.run);
        within = low;
        stopped = λ (before_asked : a.event < asked). (
          (followed.stopped (omega (arith, before_asked, long))).0,
          get-front events asked a.event (followed.stopped (omega (arith, before_asked, long))).0
              (ap (λ (es : List Event). slice_get es a.event) (sym front) ∙ (followed.stopped (omega (arith, before_asked, long))).1),
          subst (λ (S : State). enabled S (followed.stopped (omega (arith, before_asked, long))).0 ≡ false) leads (followed.stopped (omega (arith, before_asked, long))).2,
        );
      };
      reasoned = λ (e : Event). subst (λ (S : State). IsReasoned S e) leads (reasoned-of T machine e);
      listed = subst AreListed leads (listed-of T machine);
      text_is = shown ∙ ap (λ (S : State). shown_text places S events asked a.event) leads;
    }

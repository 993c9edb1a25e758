-- How events are replayed: those so far are a run that leads to the machine's state, and they are noted.
use Rattle.std.proofs.Common.{◌≡◌, ℕ, ◌+◌, ◌<◌, ◌≤◌, true, false, List, [], ◌∷◌, ◌++◌, length, take, drop, get_or, Option, Some, None, Result, Ok, Err, IfOk, OnOk, refl, sym, ap, subst, ◌∙◌, arith, length-append}
use Rattle.std.proofs.lemmas.List.{take-append-drop, take_more, take_all, drop_more, length-take-le}
use Rattle.std.proofs.lemmas.Bool.{true≢false}
use Rattle.region_table.specs.Program.{ProgramParts}
use Rattle.region_table.specs.Plan.{ArePlans}
use Rattle.dn_base.specs.declared.failure.Memory.{Memory}
use Rattle.dn_base.specs.declared.ids.Grant.{Grant}
use Rattle.dn_base.specs.declared.ids.Shape.{Shape}
use Rattle.rv_core.specs.declared.ending.Ending.{Ending}
use Rattle.message_net.specs.declared.actor.Actor.{Actor}
use Rattle.message_net.specs.declared.event.Event.{Event}
use Rattle.message_net.specs.declared.event.EventKind.{EventKind}
use Rattle.grant_log.specs.declared.counts.Counts.{Counts}
use Rattle.grant_log.specs.Counts.{kind_count, AreCounts}
use Rattle.grant_log.proofs.CountLemmas.{length-added}
use Rattle.grant_log.proofs.TotalLemmas.{one_counts}
use Rattle.registration_protocol.specs.Node.{Setting}
use Rattle.machine_rules.specs.State.{State, initial_state}
use Rattle.machine_rules.specs.Next.{next, enabled}
use Rattle.machine_rules.specs.Runs.{after, IsRun, IsOver, IsCompleteRun, kinds_of}
use Rattle.machine_rules.specs.Sound.{IsReady}
use Rattle.machine_rules.proofs.OpenedFacts.{opened-setting}
use Rattle.machine_rules.specs.declared.stepped.Stepped.{Stepped}
use Rattle.machine_rules.proofs.RunsKept.{run-setting, same-setting}
use Rattle.dn_machine.specs.declared.log.Happened.{Happened}
use Rattle.dn_machine.specs.declared.log.Log.{Log}
use Rattle.dn_machine.specs.Actors.{actor_in}
use Rattle.dn_machine.specs.Kept.{Made, IsKept, IsInitialMachine}
use Rattle.dn_machine.specs.Run.{IsRecord}
use Rattle.dn_machine.specs.Settings.{IsSettingOf}
use Rattle.dn_machine.specs.Tried.{IsTried}
use Rattle.dn_machine.specs.Log.{core_in, core_of, HasCome, no_log, with_event, IsLogOf}
use Rattle.dn_machine.proofs.LogLemmas.{log-more, log-opened, count-within}
use Rattle.dn_machine.proofs.RunLemmas.{in-place, ready-of, ending-true, complete-run-of}
use Rattle.dn_machine.proofs.ScheduleLaws.{after-more}
use Rattle.run_replay.specs.declared.replaying.Replayed.{Replayed}
use Rattle.run_replay.specs.declared.replaying.Replayed.TheVariants.{Complete, NotEnabled, Incomplete}
use Rattle.run_replay.specs.Advance.{HasAdvanced, IsAdvanceBy}
use Rattle.run_replay.specs.Replay.{IsRunWith, IsFirstNotEnabled, IsTrueOf, IsReplayOutcome, IsReplayOf}

-- the core that an event changes is the actor that makes it, where that is a core
pub core-in : (S : State) (e : Event) (a : Actor) → actor_in S e ≡ Some a → core_in S e ≡ core_of (Some a)
core-in S e a is = ap core_of is

-- ---- one event

-- what is known of an event that came, and of one that didn't
pub advanced-some : (before after : Made) (e : Event) (came : Option Happened) (h : Happened) → came ≡ Some h → HasAdvanced before after e came → IsAdvanceBy before after e h
advanced-some before after e came h is advanced = subst (HasAdvanced before after e) is advanced

pub advanced-none : (before after : Made) (e : Event) (came : Option Happened) → ((h : Happened) → came ≡ Some h → ⊥) → HasAdvanced before after e came → enabled before.state e ≡ false
advanced-none before after e None none advanced = advanced
advanced-none before after e (Some h) none advanced = absurd (none h refl)

-- ---- runs

run-more : (S : State) (events : List Event) (e : Event) → IsRun S events → enabled (after S events) e ≡ true → IsRun S (events ++ e ∷ [])
run-more S [] e run may = (may, tt)
run-more S (x ∷ xs) e run may = (run.0, run-more (next S x) xs e run.1 may)

-- in a run each event may come after those before it
run-at : (S : State) (before rest : List Event) (e : Event) → IsRun S (before ++ e ∷ rest) → enabled (after S before) e ≡ true
run-at S [] rest e run = run.0
run-at S (x ∷ xs) rest e run = run-at (next S x) xs rest e run.1

-- ---- on the way

-- the events so far are a run of the opened machine, which leads to this state, and they are noted
pub record IsUnderWay (C : Setting) (events : List Event) (T : State) (made : ℕ) (log : Log) : Type 0 where
  pub run : IsRun (initial_state C) events
  pub leads : T ≡ after (initial_state C) events
  pub count : made ≡ length events
  pub all : length log.counts.kinds ≡ 17
  pub logged : IsLogOf (initial_state C) events log

pub begins : (C : Setting) (T : State) → T ≡ initial_state C → IsUnderWay C [] T 0 (no_log (length C.program.phases))
begins C T opens = record { run = tt; leads = opens; count = refl; all = refl; logged = log-opened C }

pub goes-on : (C : Setting) (events : List Event) (S T : State) (made : ℕ) (log : Log) (h : Happened) → IsUnderWay C events S made log → enabled S h.event ≡ true → HasCome S T h
    → IsKept T (made + 1) → IsUnderWay C (events ++ h.event ∷ []) T (made + 1) (with_event h log)
goes-on C events S T made log h way may come kept =
    record {
      run = run-more (initial_state C) events h.event way.run (rw (← way.leads) may);
      leads = come.next ∙ ap (λ (x : State). next x h.event) way.leads ∙ sym (after-more (initial_state C) events h.event);
      count = omega (arith, way.count, length-append events (h.event ∷ []));
      all = length-added h.observed.kind log.counts ∙ way.all;
      logged = log-more (initial_state C) T events log h way.all (in-place T (made + 1) kept) (rw (← way.leads) come) way.logged;
    }

pub way-setting : (C : Setting) (events : List Event) (T : State) (made : ℕ) (log : Log) → IsUnderWay C events T made log → T.setting ≡ C
way-setting C events T made log way = ap (λ (x : State). x.setting) way.leads ∙ run-setting (initial_state C) events ∙ opened-setting C

-- the machine has the setting of the replay, whatever comes of its last step
pub setting-kept : {X E : Type 0} (C : Setting) (events : List Event) (T : State) (made : ℕ) (log : Log) (r : Result X E) → IsUnderWay C events T made log → OnOk r (T.setting ≡ C)
setting-kept C events T made log (Ok x) way = way-setting C events T made log way
setting-kept C events T made log (Err e) way = tt

-- an event that came or didn't leaves the setting
pub tried-setting : (S T : State) (e : Event) (came : Option (Actor × Stepped)) → IsTried S T e came → T.setting ≡ S.setting
tried-setting S T e None tried = ap (λ (x : State). x.setting) tried.1
tried-setting S T e (Some came) tried = ap (λ (x : State). x.setting) tried.state ∙ same-setting S e

pub way-ready : (C : Setting) (events : List Event) (T : State) (made : ℕ) (log : Log) → IsUnderWay C events T made log → IsKept T made → IsReady C
way-ready C events T made log way kept = subst IsReady (way-setting C events T made log way) (ready-of T made kept)

-- ---- at the end

pub finished : (C : Setting) (events : List Event) (T : State) (made : ℕ) (log : Log) (r : Replayed) → IsUnderWay C events T made log → IsKept T made → IsReplayOutcome T log r → IsTrueOf C events r
finished C events T made log (Complete ending grants counts) way kept last =
    let ready = way-ready C events T made log way kept in
    let complete : IsCompleteRun (initial_state C) events = record { run = way.run; over = subst IsOver way.leads last.0 } in
    let is : IsRecord (initial_state C) (record { events = events; grants = grants; counts = counts; ending = ending }) =
    record {
      granted = last.2 ∙ way.logged.granted;
      counted = subst (AreCounts (kinds_of (initial_state C) events)) (sym last.3) way.logged.counted;
      ends = last.1 ∙ ending-true C T events log.ends ready.program way.leads way.logged.ends;
    }
    in
    record { run = complete-run-of C _ ready complete is; each_kind = last.4 }
finished C events T made log (NotEnabled number) way kept last = absurd last
finished C events T made log Incomplete way kept last =
    record { run = way.run; more = last.0; may = subst (λ (x : State). enabled x last.0 ≡ true) way.leads last.1 }

-- ---- an event that may not come

pub stopped : (C : Setting) (events : List Event) (i : ℕ) (d : Event) (T : State) (made : ℕ) (log : Log) → i < length events → IsUnderWay C (take i events) T made log
    → enabled T (get_or events i d) ≡ false → IsFirstNotEnabled C events i
stopped C events i d T made log low way not =
    record {
      before = take i events;
      event = get_or events i d;
      rest = drop (i + 1) events;
      parts = sym (take-append-drop i events) ∙ ap (λ (es : List Event). take i events ++ es) (drop_more events i d low);
      place = length-take-le i events (omega (arith, low));
      run = way.run;
      stopped = subst (λ (x : State). enabled x (get_or events i d) ≡ false) way.leads not;
    }

-- ---- what the calls of a machine say

pub setting-of : (P : ProgramParts) (shape : Shape) (fuel : ℕ) (m : Made) → IsInitialMachine P shape fuel m → IsKept m.state m.made → IsSettingOf P shape fuel m.state.setting
setting-of P shape fuel m at kept =
    record {
      program = at.program_is;
      plans = subst (λ (p : ProgramParts). ArePlans p m.state.setting.plans) at.program_is kept.sound.machine.context.plans;
      one_form = at.plans_are;
      shape = at.shape_is;
      fuel = at.fuel_is;
    }

-- ---- one answer

not-both : (S : State) (e : Event) → enabled S e ≡ true → enabled S e ≡ false → ⊥
not-both S e may not = true≢false (sym may ∙ not)

-- events that stop a run at a place don't go on there
no-run : (C : Setting) (events : List Event) (number : ℕ) → IsFirstNotEnabled C events number → IsRun (initial_state C) events → ⊥
no-run C events number s run =
    not-both (after (initial_state C) s.before) s.event (run-at (initial_state C) s.before s.rest s.event (subst (IsRun (initial_state C)) s.parts run)) s.stopped

one-place : (S : State) (xs ys : List Event) (e f : Event) (r q : List Event) → xs ++ e ∷ r ≡ ys ++ f ∷ q → IsRun S xs → IsRun S ys → enabled (after S xs) e ≡ false
    → enabled (after S ys) f ≡ false → length xs ≡ length ys
one-place S [] [] e f r q is rx ry nx ny = refl
one-place S [] (y ∷ ys) e f r q is rx ry nx ny =
    let same : e ≡ y = ap (λ (es : List Event). get_or es 0 e) is in absurd (not-both S y ry.0 (subst (λ (x : Event). enabled S x ≡ false) same nx))
one-place S (x ∷ xs) [] e f r q is rx ry nx ny =
    let same : x ≡ f = ap (λ (es : List Event). get_or es 0 f) is in absurd (not-both S x rx.0 (subst (λ (z : Event). enabled S z ≡ false) (sym same) ny))
one-place S (x ∷ xs) (y ∷ ys) e f r q is rx ry nx ny =
    let same : x ≡ y = ap (λ (es : List Event). get_or es 0 x) is in
    let rest : xs ++ e ∷ r ≡ ys ++ f ∷ q = ap (λ (es : List Event). drop 1 es) is in
    let ry' : IsRun (next S x) ys = subst (λ (z : Event). IsRun (next S z) ys) (sym same) ry.1 in
    let ny' : enabled (after (next S x) ys) f ≡ false = subst (λ (z : Event). enabled (after (next S z) ys) f ≡ false) (sym same) ny in
    let k = one-place (next S x) xs ys e f r q rest rx.1 ry' nx ny' in
    omega (arith, k)

complete-one : (C : Setting) (events : List Event) (e f : Ending) (g h : List Grant) (m n : Counts) → IsRunWith C events e g m → IsRunWith C events f h n
    → ◌≡◌ {A = Replayed} (Complete e g m) (Complete f h n)
complete-one C events e f g h m n a b =
    let ending : e ≡ f = a.run.is_true.ends ∙ sym b.run.is_true.ends in
    let grants : g ≡ h = a.run.is_true.granted ∙ sym b.run.is_true.granted in
    let counts : m ≡ n = one_counts (kinds_of (initial_state C) events) m n a.each_kind b.each_kind a.run.is_true.counted b.run.is_true.counted in
    λ i. Complete (ending i) (grants i) (counts i)

over-not : (S : State) → IsOver S → (e : Event) → enabled S e ≡ true → ⊥
over-not S over e may = not-both S e may (over e)

pub one-replay : (C : Setting) (events : List Event) (r s : Replayed) → IsTrueOf C events r → IsTrueOf C events s → r ≡ s
one-replay C events (Complete e g m) (Complete f h n) a b = complete-one C events e f g h m n a b
one-replay C events (Complete e g m) (NotEnabled k) a b = absurd (no-run C events k b a.run.complete.run)
one-replay C events (Complete e g m) Incomplete a b = absurd (over-not (after (initial_state C) events) a.run.complete.over b.more b.may)
one-replay C events (NotEnabled k) (Complete e g m) a b = absurd (no-run C events k a b.run.complete.run)
one-replay C events (NotEnabled k) (NotEnabled l) a b =
    let places = one-place (initial_state C) a.before b.before a.event b.event a.rest b.rest (sym a.parts ∙ b.parts) a.run b.run a.stopped b.stopped in
    let same : k ≡ l = sym a.place ∙ places ∙ b.place in
    ap NotEnabled same
one-replay C events (NotEnabled k) Incomplete a b = absurd (no-run C events k a b.run)
one-replay C events Incomplete (Complete e g m) a b = absurd (over-not (after (initial_state C) events) b.run.complete.over a.more a.may)
one-replay C events Incomplete (NotEnabled k) a b = absurd (no-run C events k b a.run)
one-replay C events Incomplete Incomplete a b = refl

-- ---- the loop over the events

-- the event after the first `i` has come, and is noted
pub one-more : (C : Setting) (events : List Event) (i : ℕ) (d : Event) (S T : State) (made made' : ℕ) (log log' : Log) (h : Happened) → i < length events
    → IsUnderWay C (take i events) S made log → enabled S (get_or events i d) ≡ true → h.event ≡ get_or events i d → HasCome S T h → made' ≡ made + 1 → IsKept T made' → log' ≡ with_event h log
    → IsUnderWay C (take (i + 1) events) T made' log'
one-more C events i d S T made made' log log' h low way may event_is come made_is kept log_is =
    let parts : take (i + 1) events ≡ take i events ++ h.event ∷ [] =
    take_more events i d low ∙ ap (λ (x : Event). take i events ++ x ∷ []) (sym event_is) in
    let may' : enabled S h.event ≡ true = subst (λ (x : Event). enabled S x ≡ true) (sym event_is) may in
    let kept' : IsKept T (made + 1) = subst (λ (m : ℕ). IsKept T m) made_is kept in
    let next_way = goes-on C (take i events) S T made log h way may' come kept' in
    subst (λ (m : ℕ). IsUnderWay C (take (i + 1) events) T m log') (sym made_is)
    (subst (λ (l : Log). IsUnderWay C (take (i + 1) events) T (made + 1) l) (sym log_is)
    (subst (λ (es : List Event). IsUnderWay C es T (made + 1) (with_event h log)) (sym parts) next_way))

pub starts : (C : Setting) (events : List Event) (T : State) (made : ℕ) (log : Log) → T ≡ initial_state C → made ≡ 0 → log ≡ no_log (length C.program.phases) → IsUnderWay C (take 0 events) T made log
starts C events T made log opens none empty =
    subst (λ (m : ℕ). IsUnderWay C [] T m log) (sym none) (subst (λ (l : Log). IsUnderWay C [] T 0 l) (sym empty) (begins C T opens))

pub few-made : (C : Setting) (events : List Event) (i : ℕ) (T : State) (made : ℕ) (log : Log) → length events ≤ 25169664 → i ≤ length events → IsUnderWay C (take i events) T made log → made ≤ 25169664
few-made C events i T made log few low way = omega (arith, way.count, length-take-le i events low)

pub few-noted : (C : Setting) (events : List Event) (i : ℕ) (T : State) (made : ℕ) (log : Log) (k : EventKind) → length events ≤ 25169664 → i ≤ length events → IsUnderWay C (take i events) T made log
    → kind_count k log.counts < 18446744073709551615
few-noted C events i T made log k few low way =
    omega (arith, few, low, count-within (initial_state C) (take i events) log.counts k way.logged.counted, length-take-le i events low)

pub at-end : (C : Setting) (events : List Event) (i : ℕ) (T : State) (made : ℕ) (log : Log) (r : Result Replayed Memory) → length events ≤ i → IsUnderWay C (take i events) T made log → IsKept T made
    → IfOk r (IsReplayOutcome T log) → IfOk r (IsTrueOf C events)
at-end C events i T made log (Ok x) low way kept last =
    finished C events T made log x (subst (λ (es : List Event). IsUnderWay C es T made log) (take_all i events low) way) kept last
at-end C events i T made log (Err e) low way kept last = tt

pub replay-of : (P : ProgramParts) (shape : Shape) (fuel : ℕ) (events : List Event) (m : Made) (r : Result Replayed Memory) → IsInitialMachine P shape fuel m → IsKept m.state m.made
    → IfOk r (IsTrueOf m.state.setting events) → IfOk r (IsReplayOf P shape fuel events)
replay-of P shape fuel events m (Ok x) at kept is = record { setting = m.state.setting; setting_is = setting-of P shape fuel m at kept; is_true = is }
replay-of P shape fuel events m (Err e) at kept is = tt

-- How a run by a seed goes on, and what holds of it at its end.
use Rattle.std.proofs.Common.{◌≡◌, ℕ, zero, suc, ◌+◌, ◌*◌, ◌<◌, ◌≤◌, All, List, [], ◌∷◌, ◌++◌, length, take, slice_get, slice_index, Some, None, refl, sym, ap, subst, ◌∙◌, arith, length-append}
use Rattle.std.proofs.lemmas.Option.{none-some, slice_get_within, get_or_from_slice_get}
use Rattle.region_table.specs.declared.declared.TaskDecl.{TaskDecl}
use Rattle.region_table.specs.declared.declared.Phase.{Phase}
use Rattle.region_table.specs.Program.{IsTask, IsPhase, IsProgram}
use Rattle.rv_core.specs.declared.ending.TaskEnd.{TaskEnd}
use Rattle.rv_core.specs.declared.ending.Ending.{Ending}
use Rattle.rv_core.specs.Ending.{ending_of}
use Rattle.rand_pcg.specs.Lcg.{Lcg}
use Rattle.message_net.specs.declared.event.Event.{Event}
use Rattle.grant_log.proofs.CountLemmas.{length-added}
use Rattle.registration_protocol.specs.Node.{Setting}
use Rattle.machine_rules.specs.State.{State, initial_state}
use Rattle.machine_rules.specs.Next.{next}
use Rattle.machine_rules.specs.Runs.{after, IsRun, IsCompleteRun, memory_after, begun_in, ending_of_run}
use Rattle.machine_rules.specs.Memory.{memory_of}
use Rattle.machine_rules.proofs.OpenedFacts.{opened-setting}
use Rattle.machine_rules.proofs.RunsKept.{run-setting}
use Rattle.machine_rules.specs.Accesses.{actions_of}
use Rattle.machine_rules.specs.Racing.{IsDataRaceFreeAndSequential}
use Rattle.machine_rules.proofs.Sequential.{run-race_free-sequential, run-guarded}
use Rattle.machine_rules.proofs.RunsCoherent.{run-coherent, run-shows, run-loads, run-rests}
use Rattle.machine_rules.proofs.OpenedSound.{opened-sound}
use Rattle.machine_rules.proofs.AnySize.{well-formed}
use Rattle.machine_rules.proofs.BoundRuns.{run-few, run-ends}
use Rattle.machine_rules.specs.Bound.{retired_in, started_in}
use Rattle.run_agreement.proofs.PrefixAgrees.{prefix-agrees}
use Rattle.run_agreement.proofs.EndAgrees.{end-agrees}
use Rattle.run_agreement.specs.Ends.{HasFlatEnd}
use Rattle.machine_rules.specs.Sound.{IsReady, IsSound}
use Rattle.machine_rules.proofs.SoundEvents.{sound-next}
use Rattle.dn_machine.specs.declared.log.Happened.{Happened}
use Rattle.dn_machine.specs.declared.log.Log.{Log}
use Rattle.dn_machine.specs.declared.record.RunRecord.{RunRecord}
use Rattle.dn_machine.specs.Ends.{EndTable, AreLastEnds, noted_ending}
use Rattle.dn_machine.specs.Run.{IsRecord, OfEachFront, IsTrueAfter, AgreesAfter, IsCoherentRun, IsSeedsRunOf}
use Rattle.dn_machine.specs.Kept.{IsKept}
use Rattle.dn_machine.specs.Log.{HasCome, no_log, with_event, IsLogOf, HasRun}
use Rattle.dn_machine.specs.Pick.{pick}
use Rattle.dn_machine.specs.Schedule.{generator_of, word_of, after_word, after_words, ArePicked}
use Rattle.dn_machine.proofs.KeptLemmas.{kept-next}
use Rattle.dn_machine.proofs.LogLemmas.{log-more, log-opened}
use Rattle.dn_machine.proofs.Noted.{AreInPlace, listed}
use Rattle.dn_machine.proofs.PickLaws.{pick-comes}
use Rattle.dn_machine.proofs.ScheduleLaws.{picked-complete, picked-more, picked-all, after-more, after_words-more}

-- the nodes of a machine are in their places
pub in-place : (S : State) (made : ℕ) → IsKept S made → AreInPlace S
in-place S made kept =
    record {
      place = λ core n there. (kept.sound.machine.node core n there).core;
      few = λ core n there. omega (arith, slice_get_within S.nodes core n there, kept.sound.machine.nodes, kept.most);
    }

-- picked events are a run
pub picked-run : (S : State) (made : ℕ) (g : Lcg) (events : List Event) → IsSound S made → ArePicked S g events → IsRun S events
picked-run S made g [] sound are = tt
picked-run S made g (e ∷ es) sound are =
    let may = pick-comes S (word_of g) e sound.machine are.0 in
    (may, picked-run (next S e) (made + 1) (after_word g) es (sound-next S made e sound may) are.1)

-- the events so far of a run by a seed are those that its words have picked, they are noted, and the generator is behind these words
pub record IsOnTheWay (C : Setting) (seed : ℕ) (g : Lcg) (T : State) (log : Log) : Type 0 where
  pub picked : ArePicked (initial_state C) (generator_of seed) log.events
  pub words : g ≡ after_words log.events (generator_of seed)
  pub leads : T ≡ after (initial_state C) log.events
  pub kept : IsKept T (length log.events)
  pub all : length log.counts.kinds ≡ 17
  pub logged : IsLogOf (initial_state C) log.events log

pub begins : (C : Setting) (seed : ℕ) (T : State) → T ≡ initial_state C → IsKept T 0 → IsOnTheWay C seed (generator_of seed) T (no_log (length C.program.phases))
begins C seed T opens kept = record { picked = tt; words = refl; leads = opens; kept = kept; all = refl; logged = log-opened C }

pub goes-on : (C : Setting) (seed : ℕ) (g : Lcg) (S T : State) (log : Log) (h : Happened) → IsOnTheWay C seed g S log → pick S (word_of g) ≡ Some h.event → HasCome S T h
    → IsOnTheWay C seed (after_word g) T (with_event h log)
goes-on C seed g S T log h way pick_is come =
    let may = pick-comes S (word_of g) h.event way.kept.sound.machine pick_is in
    let kept : IsKept T (length log.events + 1) = kept-next S T (length log.events) h.event way.kept may come.next in
    let there : pick (after (initial_state C) log.events) (word_of (after_words log.events (generator_of seed))) ≡ Some h.event = rw (← way.leads, ← way.words) pick_is in
    let one_more : length (log.events ++ h.event ∷ []) ≡ length log.events + 1 = omega (arith, length-append log.events (h.event ∷ [])) in
    record {
      picked = picked-more (initial_state C) (generator_of seed) log.events h.event way.picked there;
      words = ap after_word way.words ∙ sym (after_words-more (generator_of seed) log.events h.event);
      leads = come.next ∙ ap (λ (x : State). next x h.event) way.leads ∙ sym (after-more (initial_state C) log.events h.event);
      kept = subst (IsKept T) (sym one_more) kept;
      all = length-added h.observed.kind log.counts ∙ way.all;
      logged = log-more (initial_state C) T log.events log h way.all (in-place T (length log.events + 1) kept) (rw (← way.leads) come) way.logged;
    }

pub ends : (C : Setting) (seed : ℕ) (g : Lcg) (T : State) (log : Log) → IsOnTheWay C seed g T log → pick T (word_of g) ≡ None → HasRun (initial_state C) seed T log
ends C seed g T log way none =
    let there : pick (after (initial_state C) log.events) (word_of (after_words log.events (generator_of seed))) ≡ None = rw (← way.leads, ← way.words) none in
    record { scheduled = picked-all (initial_state C) (generator_of seed) log.events way.picked there; leads = way.leads; machine = way.kept.sound.machine; logged = way.logged }

-- ---- the record

all-item : {X : Type 0} (P : X → Type 0) (xs : List X) (i : ℕ) (x : X) → All P xs → slice_get xs i ≡ Some x → P x
all-item P xs i x all there = subst P (get_or_from_slice_get xs i x x there) (all i x (slice_get_within xs i x there))

length-take : {X : Type 0} (k : ℕ) (xs : List X) → length (take k xs) ≤ length xs
length-take zero xs = omega arith
length-take (suc k) [] = omega arith
length-take (suc k) (x ∷ xs) = omega (arith, length-take k xs)

take-item : {X : Type 0} (xs : List X) (k i : ℕ) (x : X) → slice_get (take k xs) i ≡ Some x → slice_get xs i ≡ Some x
take-item xs zero i x there = absurd (none-some x there)
take-item [] (suc k) i x there = absurd (none-some x there)
take-item (y ∷ xs) (suc k) zero x there = there
take-item (y ∷ xs) (suc k) (suc i) x there = take-item xs k i x there

-- the ending that the noted ends and the last state tell is that of the run
pub ending-true : (C : Setting) (T : State) (events : List Event) (table : EndTable) → IsProgram C.program → T ≡ after (initial_state C) events → AreLastEnds (initial_state C) events table
    → noted_ending table T ≡ ending_of_run (initial_state C) events
ending-true C T events table program leads are =
    rw leads
    (ap (λ (ends : List TaskEnd). ending_of ends (memory_of (after (initial_state C) events)))
    (listed (initial_state C) events table 0 (begun_in (after (initial_state C) events)) are inside few))
  where
    setting : (after (initial_state C) events).setting ≡ C
    setting = run-setting (initial_state C) events ∙ opened-setting C

    phases : (after (initial_state C) events).setting.program.phases ≡ C.program.phases
    phases = ap (λ (x : Setting). x.program.phases) setting

    inside : 0 + length (begun_in (after (initial_state C) events)) ≤ length (initial_state C).setting.program.phases
    inside =
        let most = length-take ((after (initial_state C) events).keeper.phase + 1) (after (initial_state C) events).setting.program.phases in
        omega (arith, most, ap (λ (ps : List Phase). length ps) phases, ap (λ (x : Setting). length x.program.phases) (opened-setting C))

    few : (i : ℕ) (p : Phase) (d : TaskDecl) (k : ℕ) → slice_get (begun_in (after (initial_state C) events)) i ≡ Some p → slice_get p.tasks k ≡ Some d → d.core.0 < 16
    few i p d k there task =
        let at' : slice_get C.program.phases i ≡ Some p = rw (← phases) (take-item (after (initial_state C) events).setting.program.phases ((after (initial_state C) events).keeper.phase + 1) i p there) in
        let well = all-item (IsPhase (length C.program.memory) (length C.program.locks)) C.program.phases i p program.each_phase at' in
        (all-item (IsTask (length C.program.memory) (length C.program.locks)) p.tasks k d well.tasks task).core

-- the record of a whole run
abbrev pub recorded : Log → Ending → RunRecord
recorded log ending = record { events = log.events; grants = log.grants; counts = log.counts; ending = ending }

pub record-true : (C : Setting) (seed : ℕ) (T : State) (log : Log) (ending : Ending) → IsProgram C.program → HasRun (initial_state C) seed T log → ending ≡ noted_ending log.ends T
    → IsRecord (initial_state C) (recorded log ending)
record-true C seed T log ending program run is =
    record {
      granted = run.logged.granted;
      counted = run.logged.counted;
      ends = is ∙ ending-true C T log.events log.ends program run.leads run.logged.ends;
    }

-- ---- what holds of every front of a run

front-run : (S : State) (front rest : List Event) → IsRun S (front ++ rest) → IsRun S front
front-run S [] rest run = tt
front-run S (e ∷ es) rest run = (run.0, front-run (next S e) es rest run.1)

pub fronts-true : (C : Setting) (events : List Event) → IsReady C → IsRun (initial_state C) events → OfEachFront (IsTrueAfter (initial_state C)) events
fronts-true C events ready run front rest parts =
    let shorter : IsRun (initial_state C) front = front-run (initial_state C) front rest (subst (IsRun (initial_state C)) parts run) in
    let first : (initial_state C).setting.program.memory ≡ C.program.memory = ap (λ (x : Setting). x.program.memory) (opened-setting C) in
    record {
      coherent = run-coherent C front ready shorter;
      words = run-shows C front ready shorter ∙ ap (λ (m : List ℕ). memory_after m (initial_state C) front) (sym first);
      reads = λ e seen may is. run-loads C front e seen ready shorter may is ∙ ap (λ (m : List ℕ). slice_index (memory_after m (initial_state C) front) seen.word.0) (sym first);
    }

pub fronts-agree : (C : Setting) (events : List Event) → IsReady C → IsRun (initial_state C) events → OfEachFront (AgreesAfter C) events
fronts-agree C events ready run front rest parts = prefix-agrees C front ready (front-run (initial_state C) front rest (subst (IsRun (initial_state C)) parts run))

-- a machine's setting is within the limits
pub ready-of : (S : State) (made : ℕ) → IsKept S made → IsReady S.setting
ready-of S made kept = kept.left.ready

-- ---- a run ends

-- there are few events on the way
pub way-few : (C : Setting) (seed : ℕ) (g : Lcg) (T : State) (log : Log) → IsReady C → IsOnTheWay C seed g T log → length log.events ≤ 25169664
way-few C seed g T log ready way =
    run-ends C log.events ready
    (picked-run (initial_state C) 0 (generator_of seed) log.events (opened-sound C (well-formed C ready)) way.picked)

-- all that is promised of a complete run and its record
pub complete-run-of : (C : Setting) (r : RunRecord) → IsReady C → IsCompleteRun (initial_state C) r.events → IsRecord (initial_state C) r → IsCoherentRun (initial_state C) r
complete-run-of C r ready complete is =
    let same = opened-setting C in
    record {
      complete = complete;
      rests = run-rests C r.events ready complete;
      is_true = is;
      coherent = fronts-true C r.events ready complete.run;
      race_free_and_sequential = subst (λ (x : Setting). IsDataRaceFreeAndSequential x.shape.cores x.program.memory (actions_of (initial_state C) r.events)) (sym same)
          (run-race_free-sequential C r.events ready complete.run);
      guarded = run-guarded C r.events ready complete.run;
      agrees = subst (λ (x : Setting). OfEachFront (AgreesAfter x) r.events) (sym same) (fronts-agree C r.events ready complete.run);
      flat = subst (λ (x : Setting). HasFlatEnd x r.events) (sym same) (end-agrees C r.events ready complete);
      few =
          record {
            few = subst (λ (x : Setting). length r.events ≤ 12 * (retired_in (initial_state C) r.events + started_in (initial_state C) r.events) + 3 * (x.shape.cores * length x.program.phases)) (sym same) (run-few C r.events ready complete.run);
            most = run-ends C r.events ready complete.run;
          };
    }

-- all that is promised of the record of the run of a seed
pub run-of : (C : Setting) (seed : ℕ) (T : State) (log : Log) (ending : Ending) → IsReady C → HasRun (initial_state C) seed T log → ending ≡ noted_ending log.ends T
    → IsSeedsRunOf (initial_state C) seed (recorded log ending)
run-of C seed T log ending ready run is =
    let complete = picked-complete (initial_state C) 0 (generator_of seed) log.events (opened-sound C (well-formed C ready)) run.scheduled in
    record { scheduled = run.scheduled; run = complete-run-of C (recorded log ending) ready complete (record-true C seed T log ending ready.program run is) }

-- A program and options have one run, and so one output.
use Rattle.std.proofs.Common.{◌≡◌, ℕ, List, ◌++◌, length, flat_map, Option, refl, sym, ap, subst, ◌∙◌}
use Rattle.region_table.specs.Program.{ProgramParts}
use Rattle.message_net.specs.declared.event.Event.{Event}
use Rattle.grant_log.specs.Counts.{AreCounts}
use Rattle.grant_log.proofs.TotalLemmas.{one_counts}
use Rattle.registration_protocol.specs.Node.{Setting}
use Rattle.machine_rules.specs.State.{State, initial_state}
use Rattle.machine_rules.specs.Runs.{kinds_of, grants_of, ending_of_run}
use Rattle.dn_machine.specs.Run.{IsRecord, IsCoherentRun}
use Rattle.dn_machine.specs.Schedule.{generator_of}
use Rattle.dn_machine.specs.declared.record.RunRecord.{RunRecord}
use Rattle.dn_machine.proofs.OneSetting.{same-setting}
use Rattle.dn_machine.proofs.ScheduleLaws.{picked-one}
use Rattle.run_timing.specs.declared.timing.Link.{Link}
use Rattle.run_timing.specs.declared.timing.Timing.{Timing}
use Rattle.run_timing.specs.Text.{time_line, chain_line, network_line, link_line, timing_of}
use Rattle.run_timing.proofs.OneTiming.{one-timing}
use Rattle.machine_rules.specs.Sound.{IsReady}
use Rattle.machine_rules.proofs.OpenedFacts.{opened-setting}
use Rattle.time_order.specs.Clock.{clock_at_start}
use Rattle.time_order.proofs.OneOrder.{one-order}
use Rattle.time_order.proofs.Reached.{reached-first}
use Rattle.dn_top.specs.declared.options.Order.{Order}
use Rattle.dn_top.specs.declared.options.Order as order
use Rattle.dn_top.specs.declared.options.Options.{Options}
use Rattle.dn_top.specs.declared.output.Output.{Output}
use Rattle.checked_runs.specs.Runs.{summed_up}
use Rattle.dn_top.specs.Runs.{shape_for, ticks_for, network_for, ArePickedBy, IsPickedRun, IsRunFor, IsPrintedRun, IsTimedFor, IsTimedRun, output_of_run}

-- ---- the run

run-same : (r s : RunRecord) → r.events ≡ s.events → r.grants ≡ s.grants → r.counts ≡ s.counts → r.ending ≡ s.ending → r ≡ s
run-same r s e g c d =
    let same : record { events = r.events; grants = r.grants; counts = r.counts; ending = r.ending } ≡ s = rw (e, g, c, d) refl in same

-- the events of a run have one record
pub one-record : (S : State) (r s : RunRecord) → r.events ≡ s.events → length r.counts.kinds ≡ 17 → length s.counts.kinds ≡ 17 → IsRecord S r → IsRecord S s → r ≡ s
one-record S r s events each other is also =
    run-same r s events
    (is.granted ∙ ap (λ (es : List Event). grants_of S es) events ∙ sym also.granted)
    (one_counts (kinds_of S s.events) r.counts s.counts each other (subst (λ (es : List Event). AreCounts (kinds_of S es) r.counts) events is.counted) also.counted)
    (is.ends ∙ ap (λ (es : List Event). ending_of_run S es) events ∙ sym also.ends)

-- by one worker the events are picked in one way
same-events : (k : Order) (o : Options) (C : Setting) (r s : RunRecord) → ArePickedBy k o (initial_state C) r.events → ArePickedBy k o (initial_state C) s.events → IsCoherentRun (initial_state C) r → IsCoherentRun (initial_state C) s
    → r.events ≡ s.events
same-events order.TheVariants.Seed o C r s is also run other = picked-one (initial_state C) (generator_of o.seed) r.events s.events is also
same-events order.TheVariants.Time o C r s is also run other =
    let ready : IsReady C = subst IsReady (opened-setting C) is.0 in
    one-order (ticks_for o) (network_for o) (initial_state C) clock_at_start r.events s.events (reached-first C ready) is.1 run.complete.over also.1 other.complete.over

-- so a state and options have one record
same-record : (o : Options) (C : Setting) (r s : RunRecord) → length r.counts.kinds ≡ 17 → length s.counts.kinds ≡ 17 → IsPickedRun o (initial_state C) r → IsPickedRun o (initial_state C) s → r ≡ s
same-record o C r s each other is also =
    one-record (initial_state C) r s (same-events o.order o C r s is.picked also.picked is.run also.run) each other is.run.is_true also.run.is_true

by-one : (P : ProgramParts) (o : Options) (r : RunRecord) (is : IsRunFor P o r) → o.workers ≡ 1 → IsPickedRun o (initial_state is.run.setting) r
by-one P o r is one = record { run = is.run.machine; picked = is.picked one }

-- a program and options have one run, by one worker
pub one-run : (P : ProgramParts) (o : Options) (r s : RunRecord) → o.workers ≡ 1 → IsRunFor P o r → IsRunFor P o s → r ≡ s
one-run P o r s one is also =
    let same : is.run.setting ≡ also.run.setting = same-setting P (shape_for P o) o.fuel is.run.setting also.run.setting is.run.setting_is also.run.setting_is in
    same-record o also.run.setting r s is.run.each_kind also.run.each_kind
    (subst (λ (C : Setting). IsPickedRun o (initial_state C) r) same (by-one P o r is one))
    (by-one P o s also one)

-- so what is printed of it is the same
pub one-output : (P : ProgramParts) (o : Options) (print : RunRecord → List ℕ) (out other : Output) → o.workers ≡ 1 → IsPrintedRun P o print out → IsPrintedRun P o print other → out ≡ other
one-output P o print out other one is also =
    is.answer ∙ ap (λ (r : RunRecord). output_of_run (print r) r) (one-run P o is.run also.run one is.is also.is) ∙ sym also.answer

-- so is its timing
timed-text : (t u : Timing) → t.total ≡ u.total → t.network ≡ u.network → t.links.items ≡ u.links.items → timing_of t ≡ timing_of u
unfolding timing_of
timed-text t u total network links =
    ap (λ (n : ℕ). time_line n ++ chain_line (length t.links.items) ++ network_line t.network ++ flat_map link_line t.links.items) total
    ∙ ap (λ (n : Option ℕ). time_line u.total ++ chain_line (length t.links.items) ++ network_line n ++ flat_map link_line t.links.items) network
    ∙ ap (λ (ls : List Link). time_line u.total ++ chain_line (length ls) ++ network_line u.network ++ flat_map link_line ls) links

pub timed-one : (P : ProgramParts) (o : Options) (out other : Output) → o.workers ≡ 1 → IsTimedRun P o out → IsTimedRun P o other → out ≡ other
timed-one P o out other one is also =
    let run : is.run ≡ also.run = one-run P o is.run also.run one is.is also.is in
    let timed : IsTimedFor P o also.run out = subst (λ (r : RunRecord). IsTimedFor P o r out) run is.timed in
    let timing =
    one-timing P (shape_for P o) o.fuel also.run.events (ticks_for o) timed.timing also.timed.timing timed.limits timed.times also.timed.times
    in
    timed.answer
    ∙ ap (λ (text : List ℕ). output_of_run (summed_up also.run ++ text) also.run) (timed-text timed.timing also.timed.timing timing.0 timing.1 timing.2)
    ∙ sym also.timed.answer

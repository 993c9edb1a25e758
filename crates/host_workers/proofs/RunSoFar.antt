-- How the rounds of workers add up to a run, and what is noted of it.
use Rattle.std.proofs.Common.{◌≡◌, ◌+◌, ◌<◌, ◌≤◌, true, List, [], ◌∷◌, ◌++◌, length, map, Option, Some, None, refl, sym, ap, subst, ◌∙◌, arith, length-append, IsPermutation}
use Rattle.std.proofs.lemmas.List.{length-map}
use Rattle.std.proofs.lemmas.List.Sorted.{IsPermutation-refl}
use Rattle.dn_base.specs.declared.ids.Grant.{Grant}
use Rattle.rv_core.specs.declared.ending.TaskEnd.{TaskEnd}
use Rattle.rv_core.specs.declared.ending.Ending.{Ending}
use Rattle.message_net.specs.declared.event.Event.{Event}
use Rattle.message_net.specs.declared.event.Event.TheVariants.{Instr, Evict, Arrive, Handle}
use Rattle.message_net.specs.declared.event.EventKind.{EventKind}
use Rattle.message_net.specs.declared.message.Mail.{Mail}
use Rattle.message_net.specs.Pool.{count_of}
use Rattle.message_net.proofs.Orders.{weight-permuted}
use Rattle.grant_log.specs.declared.log.Stamped.{Stamped}
use Rattle.grant_log.specs.Log.{grants_in}
use Rattle.registration_protocol.specs.Node.{Setting}
use Rattle.machine_rules.specs.State.{State, initial_state}
use Rattle.machine_rules.specs.Next.{next, enabled, granted_in, kind_in}
use Rattle.machine_rules.specs.Memory.{word_value}
use Rattle.machine_rules.specs.Runs.{after, IsRun, IsOver, IsCompleteRun, read_off, grants_of, kinds_of, ending_of_run}
use Rattle.machine_rules.proofs.OpenedFacts.{opened-setting}
use Rattle.machine_rules.proofs.RunsKept.{run-setting}
use Rattle.machine_rules.proofs.BoundRuns.{run-ends}
use Rattle.dn_machine.specs.declared.log.Log.{Log}
use Rattle.dn_machine.specs.Ends.{EndTable, no_ends, noted_ending, AreLastEnds}
use Rattle.dn_machine.specs.declared.record.RunRecord.{RunRecord}
use Rattle.dn_machine.specs.Kept.{Made, IsKept}
use Rattle.dn_machine.specs.Log.{no_log}
use Rattle.dn_machine.specs.Parts.{IsReordered}
use Rattle.dn_machine.specs.Run.{IsRecord, IsCoherentRun}
use Rattle.dn_machine.proofs.LogLemmas.{log-opened}
use Rattle.dn_machine.proofs.RunLemmas.{ready-of, ending-true, complete-run-of, recorded}
use Rattle.host_workers.specs.Rounds.{IsReached, events_of, noted_kind, noted_event, end_observed}
use Rattle.host_workers.specs.declared.round.Round.{Round}
use Rattle.host_workers.specs.Ends.{with_ends, last_ends, ends_of_run}
use Rattle.host_workers.specs.Opening.{StandsFor}
use Rattle.host_workers.specs.RoundOf.{IsRoundFrom, IsRoundBy, IsTallied, HasNoted, IsRunSoFar, IsMadeByWorkers}
use Rattle.host_workers.proofs.LastEnds.{ends-noted}

-- ---- runs one after the other

after-append : (S : State) (es fs : List Event) → after S (es ++ fs) ≡ after (after S es) fs
after-append S [] fs = refl
after-append S (e ∷ es) fs = after-append (next S e) es fs

run-append : (S : State) (es fs : List Event) → IsRun S es → IsRun (after S es) fs → IsRun S (es ++ fs)
run-append S [] fs run more = more
run-append S (e ∷ es) fs run more = (run.0, run-append (next S e) es fs run.1 more)

read-append : {X : Type 0} (tell : State → Event → Option X) (S : State) (es fs : List Event) → read_off tell S (es ++ fs) ≡ read_off tell S es ++ read_off tell (after S es) fs
read-append {X} tell S [] fs = refl
read-append {X} tell S (e ∷ es) fs = by_told (tell S e) refl (read-append tell (next S e) es fs) where
  by_told : (o : Option X) → tell S e ≡ o → read_off tell (next S e) (es ++ fs) ≡ read_off tell (next S e) es ++ read_off tell (after (next S e) es) fs
      → read_off tell S (e ∷ es ++ fs) ≡ read_off tell S (e ∷ es) ++ read_off tell (after (next S e) es) fs
  by_told None is rest = rw is rest
  by_told (Some x) is rest = rw is (ap (λ (xs : List X). x ∷ xs) rest)

kinds-append : (S : State) (es fs : List Event) → kinds_of S (es ++ fs) ≡ kinds_of S es ++ kinds_of (after S es) fs
kinds-append S [] fs = refl
kinds-append S (e ∷ es) fs = ap (λ (ks : List EventKind). kind_in S e ∷ ks) (kinds-append (next S e) es fs)

ends-append : (xs ys : List TaskEnd) (table : EndTable) → with_ends (xs ++ ys) table ≡ with_ends ys (with_ends xs table)
ends-append [] ys table = refl
ends-append (x ∷ xs) ys table = ends-append xs ys _

-- ---- states with their mails in another order

pub same-enabled : (S : State) (mails : List Mail) (e : Event) → IsPermutation S.mails mails → enabled (record S { mails = mails }) e ≡ enabled S e
unfolding enabled
same-enabled S mails (Instr core) moved = refl
same-enabled S mails (Evict core word) moved = refl
same-enabled S mails (Arrive core) moved = refl
same-enabled S mails (Handle id) moved =
    let same : count_of id mails ≡ count_of id S.mails = weight-permuted _ S.mails mails moved in
    rw same refl

over-reordered : (S T : State) → IsReordered S T → IsOver T → IsOver S
over-reordered S T same over e = sym (same-enabled S T.mails e same.mails) ∙ (ap (λ (U : State). enabled U e) (sym same.rest) ∙ over e)

ending-reordered : (S T : State) (table : EndTable) → IsReordered S T → noted_ending table T ≡ noted_ending table S
unfolding word_value
ending-reordered S T table same = ap (noted_ending table) same.rest ∙ refl

last-reordered : (S T : State) → IsReordered S T → last_ends T ≡ last_ends S
last-reordered S T same = ap last_ends same.rest

setting-reordered : (S T : State) → IsReordered S T → T.setting ≡ S.setting
setting-reordered S T same = ap (λ (U : State). U.setting) same.rest

-- ---- as a run begins

pub begins : (m : Made) → IsKept m.state m.made → m.made ≡ 0 → IsRunSoFar m.state.setting m (no_log (length m.state.setting.program.phases))
begins m kept none =
    record {
      ready = ready-of m.state m.made kept;
      run = tt;
      leads = subst (λ (S : State). IsReordered S m.state) (kept.first none) (record { mails = IsPermutation-refl m.state.mails; rest = refl });
      made = none;
      grants = refl;
      counts = record { all = refl; counts = (log-opened m.state.setting).counted; few = omega arith };
      ends = ap (λ (C : Setting). no_ends (length C.program.phases)) (sym (opened-setting m.state.setting));
    }

-- ---- one round more

pub far-setting : (C : Setting) (m : Made) (log : Log) → IsRunSoFar C m log → m.state.setting ≡ C
far-setting C m log far = setting-reordered (after (initial_state C) log.events) m.state far.leads ∙ (run-setting (initial_state C) log.events ∙ opened-setting C)

-- the machine stands for the state so far
pub stands-now : (C : Setting) (m : Made) (log : Log) → IsRunSoFar C m log → (S : State) × StandsFor S m.state
stands-now C m log far =
    let reached : IsReached C (after (initial_state C) log.events) = record { ready = far.ready; before = log.events; run = far.run; leads = refl } in
    (after (initial_state C) log.events, record { reached = subst (λ (D : Setting). IsReached D (after (initial_state C) log.events)) (sym (far-setting C m log far)) reached; same = far.leads })

-- the events of a round go on from the state so far
from-here : (C : Setting) (m : Made) (log : Log) (r : Round) → IsRunSoFar C m log → IsRoundBy m r → IsRoundFrom (after (initial_state C) log.events) r
from-here C m log r far by =
    let reached : IsReached C (after (initial_state C) log.events) = record { ready = far.ready; before = log.events; run = far.run; leads = refl } in
    by.runs (after (initial_state C) log.events) (subst (λ (D : Setting). IsReached D (after (initial_state C) log.events)) (sym (far-setting C m log far)) reached) far.leads

events-count : (entries : List Stamped) → length (events_of entries) ≡ length entries
events-count entries = length-map entries noted_event

-- no run has more events than this
pub few-events : (C : Setting) (m : Made) (log : Log) → IsRunSoFar C m log → length log.events ≤ 25169664
few-events C m log far = run-ends C log.events far.ready far.run

pub few-more : (C : Setting) (m : Made) (log : Log) (r : Round) → IsRunSoFar C m log → IsRoundBy m r → length log.events + length r.merged.items ≤ 25169664
few-more C m log r far by =
    let more = run-ends C (log.events ++ events_of r.merged.items) far.ready (run-append (initial_state C) log.events (events_of r.merged.items) far.run (from-here C m log r far by).run) in
    omega (arith, more, length-append log.events (events_of r.merged.items), events-count r.merged.items)

pub goes-on : (C : Setting) (m : Made) (log noted new : Log) (r : Round) → IsRunSoFar C m log → IsRoundBy m r → HasNoted r.merged.items log noted
    → new ≡ record noted { ends = with_ends r.ends.items noted.ends } → IsRunSoFar C r.machine new
goes-on C m log noted new r far by notes is = rw is all where
  S : State
  S = after (initial_state C) log.events

  es : List Event
  es = log.events

  fs : List Event
  fs = events_of r.merged.items

  round : IsRoundFrom S r
  round = from-here C m log r far by

  run : IsRun (initial_state C) (es ++ fs)
  run = run-append (initial_state C) es fs far.run round.run

  leads : IsReordered (after (initial_state C) (es ++ fs)) r.machine.state
  leads = subst (λ (U : State). IsReordered U r.machine.state) (sym (after-append (initial_state C) es fs)) round.leads

  made : r.machine.made ≡ length noted.events
  made = omega (arith, by.made, far.made, length-append es fs, events-count r.merged.items, ap (λ (l : List Event). length l) notes.events)

  grants : noted.grants ≡ grants_of (initial_state C) (es ++ fs)
  grants =
      notes.grants
      ∙ (ap (λ (gs : List Grant). gs ++ grants_in r.merged.items) far.grants
      ∙ (ap (λ (gs : List Grant). grants_of (initial_state C) es ++ gs) round.grants
      ∙ sym (read-append granted_in (initial_state C) es fs)))

  kinds : kinds_of (initial_state C) es ++ map noted_kind r.merged.items ≡ kinds_of (initial_state C) (es ++ fs)
  kinds = ap (λ (ks : List EventKind). kinds_of (initial_state C) es ++ ks) round.kinds ∙ sym (kinds-append (initial_state C) es fs)

  tallied : IsTallied (kinds_of (initial_state C) (es ++ fs)) noted
  tallied = subst (λ (ks : List EventKind). IsTallied ks noted) kinds (notes.counts (kinds_of (initial_state C) es) far.counts)

  first : EndTable
  first = no_ends (length (initial_state C).setting.program.phases)

  ends : with_ends r.ends.items noted.ends ≡ with_ends (read_off end_observed (initial_state C) (es ++ fs)) first
  ends =
      ap (with_ends r.ends.items) (notes.ends ∙ far.ends)
      ∙ (sym (ends-append (read_off end_observed (initial_state C) es) r.ends.items first)
      ∙ ap (λ (xs : List TaskEnd). with_ends xs first) (ap (λ (xs : List TaskEnd). read_off end_observed (initial_state C) es ++ xs) round.ends ∙ sym (read-append end_observed (initial_state C) es fs)))

  all : IsRunSoFar C r.machine (record noted { ends = with_ends r.ends.items noted.ends })
  all =
      record {
        ready = far.ready;
        run = rw (notes.events) run;
        leads = rw (notes.events) leads;
        made = made;
        grants = rw (notes.events) grants;
        counts = record { all = tallied.all; counts = rw (notes.events) tallied.counts; few = subst (λ (xs : List Event). length (kinds_of (initial_state C) xs) ≤ length noted.events) (sym notes.events) tallied.few };
        ends = rw (notes.events) ends;
      }

-- a round has an event where one may come
pub some-more : (m : Made) (r : Round) (e : Event) (log noted : Log) → IsRoundBy m r → enabled m.state e ≡ true → HasNoted r.merged.items log noted → length log.events < length noted.events
some-more m r e log noted by may notes = by_items r.merged.items refl where
  by_items : (entries : List Stamped) → r.merged.items ≡ entries → length log.events < length noted.events
  by_items [] none = absurd (by.some e may none)
  by_items (x ∷ xs) is =
      omega (arith, ap (λ (l : List Event). length l) notes.events, length-append log.events (events_of r.merged.items), events-count r.merged.items, ap (λ (l : List Stamped). length l) is)

-- ---- at the end

pub whole : (C : Setting) (m : Made) (log new : Log) (ending : Ending) → C.shape.cores ≤ 16 → IsRunSoFar C m log → IsOver m.state → new ≡ record log { ends = with_ends (last_ends m.state) log.ends }
    → ending ≡ noted_ending new.ends m.state → IsCoherentRun (initial_state C) (recorded new ending)
whole C m log new ending most far over is ends = complete-run-of C (recorded new ending) far.ready complete told where
  S : State
  S = after (initial_state C) log.events

  events : new.events ≡ log.events
  events = ap (λ (l : Log). l.events) is

  complete_so_far : IsCompleteRun (initial_state C) log.events
  complete_so_far = record { run = far.run; over = over-reordered S m.state far.leads over }

  complete : IsCompleteRun (initial_state C) new.events
  complete = subst (IsCompleteRun (initial_state C)) (sym events) complete_so_far

  table : new.ends ≡ ends_of_run (initial_state C) log.events
  table =
      ap (λ (l : Log). l.ends) is
      ∙ (ap (λ (xs : List TaskEnd). with_ends xs log.ends) (last-reordered S m.state far.leads) ∙ ap (with_ends (last_ends S)) far.ends)

  noted : AreLastEnds (initial_state C) log.events new.ends
  noted = subst (AreLastEnds (initial_state C) log.events) (sym table) (ends-noted C log.events far.ready most complete_so_far)

  shows : ending ≡ ending_of_run (initial_state C) new.events
  shows =
      ends
      ∙ (ending-reordered S m.state new.ends far.leads
      ∙ (ending-true C S log.events new.ends far.ready.program refl noted
      ∙ ap (ending_of_run (initial_state C)) (sym events)))

  told : IsRecord (initial_state C) (recorded new ending)
  told =
      record {
        granted = ap (λ (l : Log). l.grants) is ∙ (far.grants ∙ ap (grants_of (initial_state C)) (sym events));
        counted = rw is far.counts.counts;
        ends = shows;
      }

-- the record of the rounds so far, beside the machine after them
pub made-by-workers : (C : Setting) (m : Made) (log : Log) (run : RunRecord) → IsRunSoFar C m log → IsCoherentRun (initial_state C) run → run.events ≡ log.events
    → IsMadeByWorkers (initial_state C) (record { run = run; machine = m })
made-by-workers C m log run far is same =
    record {
      run = is;
      leads = subst (λ (es : List Event). IsReordered (after (initial_state C) es) m.state) (sym same) far.leads;
      made = far.made ∙ ap (λ (es : List Event). length es) (sym same);
    }

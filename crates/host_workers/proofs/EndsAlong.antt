-- Along a run the table of the ends with which tasks arrived has of each task what is noted of it.
use Rattle.std.proofs.Common.{◌≡◌, ◌⊎◌, inl, inr, ℕ, zero, suc, ◌+◌, ◌*◌, ◌<◌, ◌≤◌, ◌==◌, Bool, true, false, List, [], ◌∷◌, ◌++◌, length, replicate, slice_get, Option, Some, None, refl, sym, ap, subst, ◌∙◌, arith, append_assoc}
use Rattle.std.specs.Option.{is_some, option_or}
use Rattle.std.proofs.lemmas.Bool.Decides.{nat_tests}
use Rattle.std.proofs.lemmas.Option.{same_Some, slice_get_within}
use Rattle.region_table.specs.Tasks.{declared}
use Rattle.rv_core.specs.declared.ending.TaskEnd.{TaskEnd}
use Rattle.message_net.specs.declared.event.Event.{Event}
use Rattle.registration_protocol.specs.Node.{NodeParts, Setting}
use Rattle.machine_rules.specs.State.{State, initial_state}
use Rattle.machine_rules.specs.Next.{next, enabled}
use Rattle.machine_rules.specs.Runs.{after, IsRun, read_off, end_in_phase, last_end}
use Rattle.machine_rules.specs.Sound.{IsReady, IsMachine}
use Rattle.machine_rules.proofs.OpenedFacts.{opened-setting, opened-node}
use Rattle.machine_rules.proofs.RunsKept.{memory_over, same-setting, run-setting}
use Rattle.machine_rules.proofs.RunsCoherent.{first_memory, run-all}
use Rattle.dn_machine.specs.Ends.{EndTable, end_index, with_end, no_ends, AreLastEnds}
use Rattle.dn_machine.proofs.LogLemmas.{log-opened}
use Rattle.dn_machine.proofs.ScheduleLaws.{after-more}
use Rattle.host_workers.specs.Rounds.{end_observed}
use Rattle.host_workers.specs.Ends.{with_ends}
use Rattle.host_workers.proofs.EndPlaces.{own-noted, other-noted}
use Rattle.host_workers.proofs.EndsNoted.{IsNoted, IsLast, stays-noted, begins-noted, arrives-noted}
use Rattle.host_workers.proofs.EndsMoved.{Way, Stayed, Began, Arrived, MovesNode, LeavesNodes, all-rest, moved, tasks-stay}

-- ---- how a task stood last

later-twice : {X : Type 0} (a b c : Option X) → option_or (option_or a b) c ≡ option_or a (option_or b c)
later-twice None b c = refl
later-twice (Some x) b c = refl

later-same : {X : Type 0} (a : Option X) → a ≡ option_or a a
later-same None = refl
later-same (Some x) = refl

last-more : (phase core : ℕ) (S : State) (events : List Event) (e : Event)
    → last_end phase core S (events ++ e ∷ []) ≡ option_or (end_in_phase phase (slice_get (next (after S events) e).nodes core)) (last_end phase core S events)
last-more phase core S [] e = refl
last-more phase core S (x ∷ xs) e =
    ap (λ (o : Option TaskEnd). option_or o (end_in_phase phase (slice_get S.nodes core))) (last-more phase core (next S x) xs e)
    ∙ later-twice (end_in_phase phase (slice_get (next (after (next S x) xs) e).nodes core)) (last_end phase core (next S x) xs) (end_in_phase phase (slice_get S.nodes core))

pub last-shown : (phase core : ℕ) (S : State) (events : List Event)
    → last_end phase core S events ≡ option_or (end_in_phase phase (slice_get (after S events).nodes core)) (last_end phase core S events)
last-shown phase core S [] = later-same (end_in_phase phase (slice_get S.nodes core))
last-shown phase core S (x ∷ xs) =
    ap (λ (o : Option TaskEnd). option_or o (end_in_phase phase (slice_get S.nodes core))) (last-shown phase core (next S x) xs)
    ∙ later-twice (end_in_phase phase (slice_get (after (next S x) xs).nodes core)) (last_end phase core (next S x) xs) (end_in_phase phase (slice_get S.nodes core))

-- ---- what the table has of a core's task of a phase

abbrev pub noted_by : ℕ → Option NodeParts → Option TaskEnd → Option TaskEnd → Type 0
noted_by phase None seen last = (seen ≡ None) × (last ≡ None)
noted_by phase (Some n) seen last = IsNoted phase n seen last

pub record IsNotedAt (phase : ℕ) (node : Option NodeParts) (there : Option (Option TaskEnd)) (last : Option TaskEnd) : Type 0 where
  pub seen : Option TaskEnd
  pub is : there ≡ Some seen
  pub noted : noted_by phase node seen last

pub record AreNoted (S : State) (events : List Event) (table : EndTable) : Type 0 where
  pub each : (phase core : ℕ) → phase < length S.setting.program.phases → core < 16
      → IsNotedAt phase (slice_get (after S events).nodes core) (slice_get table (end_index phase core)) (last_end phase core S events)

-- ---- one event more

-- a node that stays what it was
same-node : (phase : ℕ) (o : Option NodeParts) (there : Option (Option TaskEnd)) (last : Option TaskEnd) → last ≡ option_or (end_in_phase phase o) last → IsNotedAt phase o there last
    → IsNotedAt phase o there (option_or (end_in_phase phase o) last)
same-node phase o there last shown noted = subst (IsNotedAt phase o there) shown noted

-- the node that the event changes
own-node : (table : EndTable) (told : Option TaskEnd) (phase core : ℕ) (n m : NodeParts) (last : Option TaskEnd) → n.core ≡ core → core < 16 → (m.phase ≡ n.phase → m.task ≡ None → n.task ≡ None)
    → IsLast phase n last → Way n m told → IsNotedAt phase (Some n) (slice_get table (end_index phase core)) last
    → IsNotedAt phase (Some m) (slice_get (with_end told table) (end_index phase core)) (option_or (end_in_phase phase (Some m)) last)
own-node table told phase core n m last place small tasks shown (Stayed none stays) noted =
    rw none (record { seen = noted.seen; is = noted.is; noted = stays-noted phase n m noted.seen last (tasks stays.phase) stays shown noted.noted })
own-node table told phase core n m last place small tasks shown (Began none begins) noted =
    rw none (record { seen = noted.seen; is = noted.is; noted = begins-noted phase n m noted.seen last begins noted.noted })
own-node table told phase core n m last place small tasks shown (Arrived ended arrives) noted =
    rw ended (record {
      seen = option_or (end_in_phase phase (Some n)) noted.seen;
      is = own-noted table n phase core noted.seen place small noted.is;
      noted = arrives-noted phase n m noted.seen last arrives shown noted.noted;
    })

-- the table of another core
other-table : (table : EndTable) (told : Option TaskEnd) (phase core : ℕ) (n m : NodeParts) → n.core < 16 → core < 16 → (n.core ≡ core → ⊥) → Way n m told
    → slice_get (with_end told table) (end_index phase core) ≡ slice_get table (end_index phase core)
other-table table told phase core n m low small other (Stayed none stays) = rw none refl
other-table table told phase core n m low small other (Began none begins) = rw none refl
other-table table told phase core n m low small other (Arrived ended arrives) = rw ended (other-noted table n phase core low small other)

-- each node is in its place, has a task where the program declares one, and there are at most sixteen
record AreSeated (S : State) : Type 0 where
  place : (core : ℕ) (n : NodeParts) → slice_get S.nodes core ≡ Some n → n.core ≡ core
  task : (core : ℕ) (n : NodeParts) → slice_get S.nodes core ≡ Some n → is_some n.task ≡ is_some (declared S.setting.program n.phase n.core)
  few : length S.nodes ≤ 16

seated : (S : State) → IsMachine S → S.setting.shape.cores ≤ 16 → AreSeated S
seated S machine most =
    record {
      place = λ core n found. (machine.node core n found).core;
      task = λ core n found. (machine.node core n found).fits.task;
      few = omega (arith, machine.nodes, most);
    }

event-noted : (S T : State) (told : Option TaskEnd) (table : EndTable) (phase core : ℕ) (last : Option TaskEnd) → AreSeated S → AreSeated T → T.setting ≡ S.setting → core < 16
    → last ≡ option_or (end_in_phase phase (slice_get S.nodes core)) last
    → LeavesNodes S T told ⊎ MovesNode S T told
    → IsNotedAt phase (slice_get S.nodes core) (slice_get table (end_index phase core)) last
    → IsNotedAt phase (slice_get T.nodes core) (slice_get (with_end told table) (end_index phase core)) (option_or (end_in_phase phase (slice_get T.nodes core)) last)
event-noted S T told table phase core last before now setting small shown (inl leaves) noted =
    rw (leaves.none, leaves.nodes) (same-node phase (slice_get S.nodes core) (slice_get table (end_index phase core)) last shown noted)
event-noted S T told table phase core last before now setting small shown (inr moves) noted = by_core (moves.core == core) refl where
  by_core : (t : Bool) → (moves.core == core) ≡ t
      → IsNotedAt phase (slice_get T.nodes core) (slice_get (with_end told table) (end_index phase core)) (option_or (end_in_phase phase (slice_get T.nodes core)) last)
  by_core false test =
      let stays : slice_get T.nodes core ≡ slice_get S.nodes core = rw (test) at (moves.nodes core) in
      let low : moves.old.core < 16 = omega (arith, before.place moves.core moves.old moves.found, slice_get_within S.nodes moves.core moves.old moves.found, before.few) in
      let apart : moves.old.core ≡ core → ⊥ =
      λ same. absurd (let hit : (moves.core == core) ≡ true = grind (arith, nat_tests, same, before.place moves.core moves.old moves.found) in cc) in
      let kept = other-table table told phase core moves.old moves.new low small apart moves.way in
      rw (stays, kept) (same-node phase (slice_get S.nodes core) (slice_get table (end_index phase core)) last shown noted)
  by_core true test =
      let here : moves.core ≡ core = grind (arith, nat_tests, test) in
      let is : slice_get T.nodes core ≡ Some moves.new = rw (test) at (moves.nodes core) in
      let was : slice_get S.nodes core ≡ Some moves.old = subst (λ (c : ℕ). slice_get S.nodes c ≡ Some moves.old) here moves.found in
      let place : moves.old.core ≡ core = before.place core moves.old was in
      let same_core : moves.new.core ≡ moves.old.core = now.place core moves.new is ∙ sym place in
      let old_task = before.task core moves.old was in
      let new_task : is_some moves.new.task ≡ is_some (declared S.setting.program moves.new.phase moves.new.core) =
      subst (λ (C : Setting). is_some moves.new.task ≡ is_some (declared C.program moves.new.phase moves.new.core)) setting (now.task core moves.new is) in
      rw is (own-node table told phase core moves.old moves.new last place small
      (λ phase_same none. tasks-stay S.setting.program moves.old moves.new old_task new_task phase_same same_core none)
      (rw (was) at shown) moves.way (rw (was) at noted))

-- a run with one event more
pub run-more : (S : State) (events : List Event) (e : Event) → IsRun S events → enabled (after S events) e ≡ true → IsRun S (events ++ e ∷ [])
run-more S [] e run may = (may, tt)
run-more S (x ∷ xs) e run may = (run.0, run-more (next S x) xs e run.1 may)

reached-seated : (C : Setting) (events : List Event) → IsReady C → C.shape.cores ≤ 16 → IsRun (initial_state C) events → AreSeated (after (initial_state C) events)
reached-seated C events ready most run =
    let setting : (after (initial_state C) events).setting ≡ C = run-setting (initial_state C) events ∙ opened-setting C in
    seated (after (initial_state C) events) (run-all C events ready run).1.machine (subst (λ (D : Setting). D.shape.cores ≤ 16) (sym setting) most)

noted-more : (C : Setting) (events : List Event) (e : Event) (table : EndTable) → IsReady C → C.shape.cores ≤ 16 → IsRun (initial_state C) events → enabled (after (initial_state C) events) e ≡ true
    → AreNoted (initial_state C) events table → AreNoted (initial_state C) (events ++ e ∷ []) (with_end (end_observed (after (initial_state C) events) e) table)
noted-more C events e table ready most run may noted = record { each = each } where
  S : State
  S = after (initial_state C) events

  T : State
  T = next S e

  more : after (initial_state C) (events ++ e ∷ []) ≡ T
  more = after-more (initial_state C) events e

  before : AreSeated S
  before = reached-seated C events ready most run

  now : AreSeated T
  now = subst AreSeated more (reached-seated C (events ++ e ∷ []) ready most (run-more (initial_state C) events e run may))

  goes : LeavesNodes S T (end_observed S e) ⊎ MovesNode S T (end_observed S e)
  goes = moved S e (all-rest S (memory_over (first_memory C) (initial_state C) events) (run-all C events ready run).1) may

  each : (phase core : ℕ) → phase < length (initial_state C).setting.program.phases → core < 16
      → IsNotedAt phase (slice_get (after (initial_state C) (events ++ e ∷ [])).nodes core) (slice_get (with_end (end_observed S e) table) (end_index phase core)) (last_end phase core (initial_state C) (events ++ e ∷ []))
  each phase core low small =
      rw (more, last-more phase core (initial_state C) events e)
      (event-noted S T (end_observed S e) table phase core (last_end phase core (initial_state C) events) before now (same-setting S e) small
      (last-shown phase core (initial_state C) events) goes (noted.each phase core low small))

-- ---- as a run begins

no-item : {X : Type 0} (x : X) (k i : ℕ) → i < k → slice_get (replicate k x) i ≡ Some x
no-item x zero i low = absurd (omega (arith, low))
no-item x (suc k) zero low = refl
no-item x (suc k) (suc i) low = no-item x k i (omega (arith, low))

-- nothing is noted and nothing has been shown of a core that has just begun
new-noted : (phase : ℕ) (n : NodeParts) (last : Option TaskEnd) → n.phase ≡ 0 → n.arrived ≡ false → last ≡ None → IsNoted phase n None last
new-noted phase n last first absent none =
    record {
      past = λ low. absurd (omega (arith, low, first));
      here = λ same there. sym none;
      unseen = λ same away. refl;
      idle = λ same away no_task. none;
      ahead = λ low. refl;
      never = λ low. none;
    }

pub first-noted : (C : Setting) → AreNoted (initial_state C) [] (no_ends (length (initial_state C).setting.program.phases))
first-noted C = record { each = each } where
  phases : ℕ
  phases = length (initial_state C).setting.program.phases

  none_yet : Option TaskEnd
  none_yet = None

  same : phases ≡ length C.program.phases
  same = ap (λ (x : Setting). length x.program.phases) (opened-setting C)

  ends : AreLastEnds (initial_state C) [] (no_ends phases)
  ends = subst (λ (k : ℕ). AreLastEnds (initial_state C) [] (no_ends k)) (sym same) (log-opened C).ends

  empty : (phase core : ℕ) → phase < phases → core < 16 → slice_get (no_ends phases) (end_index phase core) ≡ Some None
  empty phase core low small = no-item none_yet (16 * phases) (16 * phase + core) (omega (arith, small, low))

  last_none : (phase core : ℕ) → phase < phases → core < 16 → last_end phase core (initial_state C) [] ≡ None
  last_none phase core low small = same_Some (last_end phase core (initial_state C) []) None (sym (ends phase core low small) ∙ empty phase core low small)

  by_node : (phase core : ℕ) → last_end phase core (initial_state C) [] ≡ None → (o : Option NodeParts) → slice_get (initial_state C).nodes core ≡ o → noted_by phase o None (last_end phase core (initial_state C) [])
  by_node phase core last None found = (refl, last)
  by_node phase core last (Some n) found =
      let new = opened-node C core n found in
      new-noted phase n (last_end phase core (initial_state C) []) (ap (λ (x : NodeParts). x.phase) new.is) (ap (λ (x : NodeParts). x.arrived) new.is) last

  each : (phase core : ℕ) → phase < phases → core < 16
      → IsNotedAt phase (slice_get (initial_state C).nodes core) (slice_get (no_ends phases) (end_index phase core)) (last_end phase core (initial_state C) [])
  each phase core low small =
      record { seen = None; is = empty phase core low small; noted = by_node phase core (last_none phase core low small) (slice_get (initial_state C).nodes core) refl }

-- ---- all events

nil-behind : {X : Type 0} (xs : List X) → xs ++ [] ≡ xs
nil-behind [] = refl
nil-behind {X} (x ∷ xs) = ap (λ (ys : List X). x ∷ ys) (nil-behind xs)

-- what is told by the first event is noted before the rest
told-first : (S : State) (e : Event) (es : List Event) (table : EndTable)
    → with_ends (read_off end_observed S (e ∷ es)) table ≡ with_ends (read_off end_observed (next S e) es) (with_end (end_observed S e) table)
told-first S e es table = by_end (end_observed S e) refl where
  by_end : (o : Option TaskEnd) → end_observed S e ≡ o → with_ends (read_off end_observed S (e ∷ es)) table ≡ with_ends (read_off end_observed (next S e) es) (with_end o table)
  by_end None is = rw is refl
  by_end (Some x) is = rw is refl

along : (C : Setting) (front rest : List Event) (table : EndTable) → IsReady C → C.shape.cores ≤ 16 → IsRun (initial_state C) front → IsRun (after (initial_state C) front) rest
    → AreNoted (initial_state C) front table → AreNoted (initial_state C) (front ++ rest) (with_ends (read_off end_observed (after (initial_state C) front) rest) table)
along C front [] table ready most run tail noted = rw (nil-behind front) noted
along C front (e ∷ es) table ready most run tail noted =
    let more = after-more (initial_state C) front e in
    let behind = along C (front ++ e ∷ []) es (with_end (end_observed (after (initial_state C) front) e) table) ready most (run-more (initial_state C) front e run tail.0)
    (subst (λ (U : State). IsRun U es) (sym more) tail.1) (noted-more C front e table ready most run tail.0 noted) in
    let together : (front ++ e ∷ []) ++ es ≡ front ++ e ∷ es = append_assoc front (e ∷ []) es in
    let same : with_ends (read_off end_observed (after (initial_state C) front) (e ∷ es)) table
    ≡ with_ends (read_off end_observed (after (initial_state C) (front ++ e ∷ [])) es) (with_end (end_observed (after (initial_state C) front) e) table) =
    told-first (after (initial_state C) front) e es table
    ∙ ap (λ (U : State). with_ends (read_off end_observed U es) (with_end (end_observed (after (initial_state C) front) e) table)) (sym more) in
    rw (same, ← together) behind

pub run-noted : (C : Setting) (events : List Event) → IsReady C → C.shape.cores ≤ 16 → IsRun (initial_state C) events
    → AreNoted (initial_state C) events (with_ends (read_off end_observed (initial_state C) events) (no_ends (length (initial_state C).setting.program.phases)))
run-noted C events ready most run = along C [] events (no_ends (length (initial_state C).setting.program.phases)) ready most tt run (first-noted C)

-- After a complete run the ends with which tasks arrived, and then how the tasks of its last state stand, are how all tasks stood
-- last.
use Rattle.std.proofs.Common.{◌≡◌, ◌⊎◌, inl, inr, ℕ, zero, suc, ◌+◌, ◌<◌, ◌≤◌, Bool, true, false, List, [], ◌∷◌, length, slice_get, Option, Some, None, refl, sym, ap, subst, ◌∙◌, arith}
use Rattle.std.specs.Option.{is_some, option_or}
use Rattle.std.proofs.lemmas.Option.{same_Some}
use Rattle.dn_base.specs.declared.ids.LockId.{LockId}
use Rattle.rv_core.specs.declared.ending.TaskEnd.{TaskEnd}
use Rattle.rv_core.specs.declared.task.End.{End}
use Rattle.rv_core.specs.declared.task.TaskState.{TaskState}
use Rattle.message_net.specs.declared.event.Event.{Event}
use Rattle.message_net.specs.declared.event.Event.TheVariants.{Instr, Evict, Arrive}
use Rattle.phase_barrier.specs.Barrier.{all_arrived}
use Rattle.registration_protocol.specs.declared.node.NodeWait as wait
use Rattle.registration_protocol.specs.Node.{NodeParts, Setting, is_running}
use Rattle.registration_protocol.specs.OwnEvents.{may_instr, may_evict, may_arrive, end_of, end_by, shown_by}
use Rattle.machine_rules.specs.State.{State, initial_state}
use Rattle.machine_rules.specs.Next.{enabled, when_there}
use Rattle.machine_rules.specs.Flight.{is_go_to}
use Rattle.machine_rules.specs.Rest.{HasOpenTask, IsAtRest}
use Rattle.machine_rules.specs.Runs.{after, IsOver, IsCompleteRun, read_off, end_in_phase, last_end}
use Rattle.machine_rules.specs.Sound.{IsReady}
use Rattle.machine_rules.proofs.Invariant.{Invariant}
use Rattle.machine_rules.proofs.OpenedFacts.{opened-setting}
use Rattle.machine_rules.proofs.RestNodes.{over-quiet, IsIdle, still-goes}
use Rattle.machine_rules.proofs.RunsKept.{memory_over, run-setting}
use Rattle.machine_rules.proofs.RunsCoherent.{first_memory, run-all, run-rests}
use Rattle.dn_machine.specs.Ends.{EndTable, end_index, no_ends, AreLastEnds}
use Rattle.host_workers.specs.Rounds.{end_observed}
use Rattle.host_workers.specs.Ends.{with_ends, node_standing, last_ends, ends_of_run}
use Rattle.host_workers.proofs.EndPlaces.{AreFrom, none-noted, one-noted}
use Rattle.host_workers.proofs.EndsNoted.{IsNoted, in-phase, out-of-phase}
use Rattle.host_workers.proofs.EndsAlong.{IsNotedAt, AreNoted, last-shown, run-noted}

-- ---- a node of a state in which no event may come

no-instr : (S : State) (c : ℕ) (n : NodeParts) → IsOver S → slice_get S.nodes c ≡ Some n → may_instr S.setting n ≡ false
unfolding enabled
no-instr S c n over found = sym (ap (when_there (may_instr S.setting)) found) ∙ over (Instr (record { 0 = c }))

no-evict : (S : State) (c : ℕ) (n : NodeParts) → IsOver S → slice_get S.nodes c ≡ Some n → (w : ℕ) → may_evict S.setting n w ≡ false
unfolding enabled
no-evict S c n over found w = sym (ap (when_there (λ (x : NodeParts). may_evict S.setting x w)) found) ∙ over (Evict (record { 0 = c }) (record { 0 = w }))

no-arrive : (S : State) (c : ℕ) (n : NodeParts) → IsOver S → slice_get S.nodes c ≡ Some n → may_arrive n ≡ false
unfolding enabled
no-arrive S c n over found = sym (ap (when_there may_arrive) found) ∙ over (Arrive (record { 0 = c }))

idle : (S : State) (M : ℕ → ℕ) (c : ℕ) (n : NodeParts) → Invariant S M → IsOver S → slice_get S.nodes c ≡ Some n → n.halted ≡ false → n.arrived ≡ false → IsIdle S M c n
idle S M c n inv over found awake absent =
    record {
      inv = inv;
      quiet = over-quiet S over;
      found = found;
      awake = awake;
      absent = absent;
      instr = no-instr S c n over found;
      evict = no-evict S c n over found;
      arrive = no-arrive S c n over found;
    }

-- a task that waits for a lock shows that
waits-shown : (n : NodeParts) (lock : LockId) → is_running n.task ≡ true → n.waiting ≡ wait.TheVariants.Locking lock → is_some (node_standing n) ≡ true
waits-shown n lock going waits = by_task n.task refl going where
  by_end : (t : TaskState) (e : Option End) → t.end ≡ e → is_running (Some t) ≡ true → is_some (end_by n t (shown_by e n.waiting)) ≡ true
  by_end t None ends going = rw (waits) refl
  by_end t (Some e) ends going = let stops : is_running (Some t) ≡ false = rw (ends) refl in absurd (cc)

  by_task : (o : Option TaskState) → n.task ≡ o → is_running o ≡ true → is_some (end_of n o) ≡ true
  by_task None is going = absurd (cc)
  by_task (Some t) is going = by_end t t.end refl going

-- a node that isn't at the barrier then is of a program without phases, or its task shows how it stands
work-shown : (S : State) (M : ℕ → ℕ) (c : ℕ) (n : NodeParts) → Invariant S M → IsOver S → IsAtRest S → slice_get S.nodes c ≡ Some n → n.arrived ≡ false → n.phase < length S.setting.program.phases
    → is_some (node_standing n) ≡ true
work-shown S M c n inv over rests found absent low = by_halted n.halted refl where
  out : n.halted ≡ true → is_some (node_standing n) ≡ true
  out halted = by_end (inv.ended c n found halted) where
    by_end : (all_arrived S.keeper ≡ true) ⊎ (length S.setting.program.phases ≡ 0) → is_some (node_standing n) ≡ true
    by_end (inl whole) = let there = inv.phases.whole whole c n found in absurd (cc)
    by_end (inr none) = absurd (omega (arith, none, low))

  by_rest : n.halted ≡ false → IsAtRest S → is_some (node_standing n) ≡ true
  by_rest awake (inl all) = let halted = all c n found in absurd (cc)
  by_rest awake (inr stuck) =
      let h = idle S M c n inv over found awake absent in
      let going = still-goes S M c n h in
      let open_task : HasOpenTask S c = record { node = n; found = found; phase = omega (arith, inv.phases.phase c n found awake, h.quiet (is_go_to c)); goes = going } in
      let locked = stuck.each c open_task in
      let same : locked.waits.0 ≡ n = same_Some locked.waits.0 n (sym locked.waits.1 ∙ found) in
      waits-shown n locked.lock going (ap (λ (x : NodeParts). x.waiting) (sym same) ∙ locked.waits.2)

  by_halted : (b : Bool) → n.halted ≡ b → is_some (node_standing n) ≡ true
  by_halted true is = out is
  by_halted false is = by_rest is rests

-- ---- the last state

-- a core's task in a phase, by its node
last-by : (phase : ℕ) (n : NodeParts) (seen last : Option TaskEnd) → (n.phase ≡ phase → n.arrived ≡ false → is_some (node_standing n) ≡ true) → last ≡ option_or (end_in_phase phase (Some n)) last
    → IsNoted phase n seen last → option_or (end_in_phase phase (Some n)) seen ≡ last
last-by phase n seen last works shown noted = by_place (grind arith) where
  apart : (n.phase ≡ phase → ⊥) → seen ≡ last → option_or (end_in_phase phase (Some n)) seen ≡ last
  apart other same = ap (λ (o : Option TaskEnd). option_or o seen) (out-of-phase phase n other) ∙ same

  by_end : (o : Option TaskEnd) → end_in_phase phase (Some n) ≡ o → is_some o ≡ true → last ≡ option_or o last → option_or o seen ≡ last
  by_end None is some there = absurd (cc)
  by_end (Some e) is some there = sym there

  by_arrived : n.phase ≡ phase → (b : Bool) → n.arrived ≡ b → option_or (end_in_phase phase (Some n)) seen ≡ last
  by_arrived same true there = ap (option_or (end_in_phase phase (Some n))) (noted.here same there) ∙ sym shown
  by_arrived same false away =
      by_end (end_in_phase phase (Some n)) refl (ap is_some (in-phase phase n same) ∙ works same away) shown

  by_place : (phase < n.phase) ⊎ (n.phase ≡ phase) ⊎ (n.phase < phase) → option_or (end_in_phase phase (Some n)) seen ≡ last
  by_place (inl past) = apart (λ same. omega (arith, same, past)) (noted.past past)
  by_place (inr (inl same)) = by_arrived same n.arrived refl
  by_place (inr (inr ahead)) = apart (λ same. omega (arith, same, ahead)) (noted.ahead ahead ∙ sym (noted.never ahead))

no-place : {X : Type 0} (xs : List X) (i : ℕ) → slice_get xs i ≡ None → length xs ≤ i
no-place [] i none = omega arith
no-place (x ∷ xs) zero none = absurd (cc)
no-place (x ∷ xs) (suc i) none = omega (arith, no-place xs i none)

pub ends-noted : (C : Setting) (events : List Event) → IsReady C → C.shape.cores ≤ 16 → IsCompleteRun (initial_state C) events
    → AreLastEnds (initial_state C) events (ends_of_run (initial_state C) events)
ends-noted C events ready most complete phase core low small = by_node (slice_get S.nodes core) refl (noted.each phase core low small) where
  S : State
  S = after (initial_state C) events

  table : EndTable
  table = with_ends (read_off end_observed (initial_state C) events) (no_ends (length (initial_state C).setting.program.phases))

  noted : AreNoted (initial_state C) events table
  noted = run-noted C events ready most complete.run

  inv : Invariant S (memory_over (first_memory C) (initial_state C) events)
  inv = (run-all C events ready complete.run).1

  setting : S.setting ≡ (initial_state C).setting
  setting = run-setting (initial_state C) events

  cores : S.setting.shape.cores ≤ 16
  cores = subst (λ (D : Setting). D.shape.cores ≤ 16) (sym (setting ∙ opened-setting C)) most

  from : AreFrom 0 S.nodes
  from = record { place = λ i n found. omega (arith, (inv.machine.node i n found).core); few = omega (arith, inv.machine.nodes, cores) }

  last : Option TaskEnd
  last = last_end phase core (initial_state C) events

  by_node : (o : Option NodeParts) → slice_get S.nodes core ≡ o → IsNotedAt phase (slice_get S.nodes core) (slice_get table (end_index phase core)) last
      → slice_get (with_ends (last_ends S) table) (end_index phase core) ≡ Some last
  by_node None found at =
      let at_none : IsNotedAt phase None (slice_get table (end_index phase core)) last = subst (λ (o : Option NodeParts). IsNotedAt phase o (slice_get table (end_index phase core)) last) found at in
      let beyond = no-place S.nodes core found in
      none-noted 0 S.nodes table phase core from small (λ i inside is. omega (arith, is, inside, beyond))
      ∙ (at_none.is ∙ ap (λ (o : Option TaskEnd). Some o) (at_none.noted.0 ∙ sym at_none.noted.1))
  by_node (Some n) found at =
      let at_some : IsNotedAt phase (Some n) (slice_get table (end_index phase core)) last = subst (λ (o : Option NodeParts). IsNotedAt phase o (slice_get table (end_index phase core)) last) found at in
      let shown : last ≡ option_or (end_in_phase phase (Some n)) last =
      subst (λ (o : Option NodeParts). last ≡ option_or (end_in_phase phase o) last) found (last-shown phase core (initial_state C) events) in
      let phases : length S.setting.program.phases ≡ length (initial_state C).setting.program.phases = ap (λ (D : Setting). length D.program.phases) setting in
      let works : n.phase ≡ phase → n.arrived ≡ false → is_some (node_standing n) ≡ true =
      λ same absent. work-shown S (memory_over (first_memory C) (initial_state C) events) core n inv complete.over (run-rests C events ready complete) found absent (omega (arith, same, low, phases)) in
      let none : 0 + core ≡ core = omega arith in
      subst (λ (c : ℕ). slice_get (with_ends (last_ends S) table) (end_index phase c) ≡ Some (option_or (end_in_phase phase (Some n)) at_some.seen)) none
      (one-noted 0 S.nodes table phase core n at_some.seen from found (subst (λ (c : ℕ). slice_get table (end_index phase c) ≡ Some at_some.seen) (sym none) at_some.is))
      ∙ ap (λ (o : Option TaskEnd). Some o) (last-by phase n at_some.seen last works shown at_some.noted)

-- The changes of an event lead from the phase, the wait and the flags that its core had to those that it has.
use Rattle.std.proofs.Common.{◌≡◌, ℕ, ◌+◌, ◌==◌, ◌&&◌, not, nat_lt, Bool, true, false, cond, length, List, [], ◌∷◌, ◌++◌, Option, Some, None, refl, sym, ◌∙◌, arith}
use Rattle.std.proofs.lemmas.Bool.Decides.{nat_tests}
use Rattle.std.specs.List.{fold}
use Rattle.std.specs.Option.{option_map}
use Rattle.dn_base.specs.declared.ids.LockId.{LockId}
use Rattle.region_table.specs.declared.declared.TaskDecl.{TaskDecl}
use Rattle.region_table.specs.Tasks.{declared}
use Rattle.rv_core.specs.declared.need.Need.{Need}
use Rattle.rv_core.specs.Task.{started}
use Rattle.write_signature.specs.Signature.{empty}
use Rattle.rv_core.specs.declared.task.End.{End}
use Rattle.dn_base.specs.declared.ids.LoadSeen.{LoadSeen}
use Rattle.message_net.specs.declared.message.Message.{Message}
use Rattle.message_net.specs.declared.message.Message.TheVariants as message
use Rattle.registration_protocol.specs.declared.node.NodeWait.TheVariants as wait
use Rattle.registration_protocol.specs.Node.{NodeParts, Setting, signature_of}
use Rattle.registration_protocol.specs.OwnEvents.{instructed, evicted, arrives}
use Rattle.registration_protocol.specs.Messages.{node_gets, go_row, halt_row, begins, becomes}
use Rattle.registration_protocol.specs.Changes.{KeepsPhase}
use Rattle.registration_protocol.proofs.PhaseLemmas.{instr-phase, evict-keeps, gets-phase}
use Rattle.registration_protocol.proofs.SignLemmas.{begin-signature}
use Rattle.run_changes.specs.declared.change.Change.{Change}
use Rattle.run_changes.specs.declared.change.Change.TheVariants as change
use Rattle.run_changes.specs.declared.look.EntryBefore.{EntryBefore}
use Rattle.run_changes.specs.Looks.{node_look}
use Rattle.run_changes.specs.Changes.{entry_changes, task_change, wait_change, same_wait, locks_held, lock_changes, flag_change, node_changes, core_changes}
use Rattle.run_changes.specs.Applied.{phase_step, wait_step, arrived_step, halted_step, StatusFollows}
use Rattle.run_changes.proofs.Applied.{Leaves, all-append, all-entries, all-task, all-locks, all-flag, all-unless, steady, skip, behind, told-all, wait-leads, arrived-leads, halted-leads, parts, leaves-parts}

-- what an event does to the flags of a node that stays in its phase, and to one for which a phase begins
pub record StatusMoves (n m : NodeParts) : Type 0 where
  pub arrives_on : (n.phase == m.phase) ≡ true → n.arrived ≡ true → m.arrived ≡ true
  pub halts_on : (n.phase == m.phase) ≡ true → n.halted ≡ true → m.halted ≡ true
  pub waits_anew : (n.phase == m.phase) ≡ false → m.waiting ≡ wait.None
  pub comes_anew : (n.phase == m.phase) ≡ false → m.arrived ≡ false
  pub stays_halted : (n.phase == m.phase) ≡ false → m.halted ≡ n.halted
  pub holds_anew : (n.phase == m.phase) ≡ false → locks_held m.task ≡ 0
  pub signs_anew : (n.phase == m.phase) ≡ false → (l : ℕ) → signature_of m l ≡ empty m.phase

-- ---- the parts of a node that stays in its phase

module _ (n m : NodeParts) (es : List EntryBefore) where
  waits-on : fold wait_step n.waiting (entry_changes m es ++ parts n m es []) ≡ m.waiting
  waits-on =
      skip wait_step n.waiting (entry_changes m es) (parts n m es []) (all-entries (Leaves wait_step) (λ w x. refl) (λ w e x. refl) m es)
      ∙ skip wait_step n.waiting (task_change n.task m.task) _ (all-task (Leaves wait_step) (λ pc x. refl) (λ by x. refl) n.task m.task)
      ∙ behind wait_step n.waiting m.waiting (wait_change n.waiting m.waiting) _ (wait-leads n.waiting m.waiting)
      (all-append (Leaves wait_step) (lock_changes (locks_held n.task) (locks_held m.task) n.signatures 0 m.signatures) _
      (all-locks (Leaves wait_step) (λ l x. refl) (λ l x. refl) (λ l s x. refl) (locks_held n.task) (locks_held m.task) n.signatures 0 m.signatures)
      (all-append (Leaves wait_step) (flag_change n.arrived m.arrived change.Arrived) _ (all-flag (Leaves wait_step) n.arrived m.arrived change.Arrived (λ x. refl))
      (all-flag (Leaves wait_step) n.halted m.halted change.Halted (λ x. refl))))

  -- a step that leaves entries, tasks, waits and locks alone comes to the flags
  to-flags : {X : Type 0} (step : X → Change → X) (x : X) → ((w : _) → Leaves step (change.Gone w)) → ((w : _) (e : _) → Leaves step (change.Holds w e)) → ((pc : ℕ) → Leaves step (change.Retired pc))
      → ((by : End) → Leaves step (change.Ended by)) → Leaves step (change.Waits m.waiting) → ((l : LockId) → Leaves step (change.Takes l)) → ((l : LockId) → Leaves step (change.Gives l))
      → ((l : LockId) (s : _) → Leaves step (change.Signed l s))
      → fold step x (entry_changes m es ++ parts n m es []) ≡ fold step x (flag_change n.arrived m.arrived change.Arrived ++ flag_change n.halted m.halted change.Halted)
  to-flags step x gone holds retired ended waits takes gives signed =
      skip step x (entry_changes m es) (parts n m es []) (all-entries (Leaves step) gone holds m es)
      ∙ skip step x (task_change n.task m.task) _ (all-task (Leaves step) retired ended n.task m.task)
      ∙ skip step x (wait_change n.waiting m.waiting) _ (all-unless (Leaves step) (same_wait n.waiting m.waiting) (change.Waits m.waiting) waits)
      ∙ skip step x (lock_changes (locks_held n.task) (locks_held m.task) n.signatures 0 m.signatures) _
      (all-locks (Leaves step) takes gives signed (locks_held n.task) (locks_held m.task) n.signatures 0 m.signatures)

  arrives-on : (n.arrived ≡ true → m.arrived ≡ true) → fold arrived_step n.arrived (entry_changes m es ++ parts n m es []) ≡ m.arrived
  arrives-on rises =
      to-flags arrived_step n.arrived (λ w x. refl) (λ w e x. refl) (λ pc x. refl) (λ by x. refl) (λ x. refl) (λ l x. refl) (λ l x. refl) (λ l s x. refl)
      ∙ behind arrived_step n.arrived m.arrived (flag_change n.arrived m.arrived change.Arrived) (flag_change n.halted m.halted change.Halted) (arrived-leads n.arrived m.arrived rises)
      (all-flag (Leaves arrived_step) n.halted m.halted change.Halted (λ x. refl))

  halts-on : (n.halted ≡ true → m.halted ≡ true) → fold halted_step n.halted (entry_changes m es ++ parts n m es []) ≡ m.halted
  halts-on rises =
      to-flags halted_step n.halted (λ w x. refl) (λ w e x. refl) (λ pc x. refl) (λ by x. refl) (λ x. refl) (λ l x. refl) (λ l x. refl) (λ l s x. refl)
      ∙ skip halted_step n.halted (flag_change n.arrived m.arrived change.Arrived) (flag_change n.halted m.halted change.Halted) (all-flag (Leaves halted_step) n.arrived m.arrived change.Arrived (λ x. refl))
      ∙ halted-leads n.halted m.halted rises

  stays : fold phase_step n.phase (entry_changes m es ++ parts n m es []) ≡ n.phase
  stays =
      behind phase_step n.phase n.phase (entry_changes m es) (parts n m es []) (steady phase_step n.phase (entry_changes m es) (all-entries (Leaves phase_step) (λ w x. refl) (λ w e x. refl) m es))
      (leaves-parts n m es [] phase_step (λ pc x. refl) (λ by x. refl) (λ y x. refl) (λ l x. refl) (λ l x. refl) (λ l s x. refl) (λ x. refl) (λ x. refl))

-- ---- a whole node

-- whether the phase is the same decides
pub by-phase : {X : Type 0} (step : X → Change → X) (x y : X) (n m : NodeParts) (needs : Option Need) (es : List EntryBefore)
    → ((n.phase == m.phase) ≡ true → fold step x (entry_changes m es ++ parts n m es []) ≡ y)
    → ((n.phase == m.phase) ≡ false → fold step (step x (change.Begins (record { 0 = m.phase }))) (entry_changes m es) ≡ y) → fold step x (node_changes (node_look n needs es) m) ≡ y
unfolding node_changes
by-phase step x y n m needs es on anew = by_test (n.phase == m.phase) refl where
  by_test : (t : Bool) → (n.phase == m.phase) ≡ t → fold step x (cond t (entry_changes m es ++ parts n m es []) (change.Begins (record { 0 = m.phase }) ∷ entry_changes m es)) ≡ y
  by_test true e = on e
  by_test false e = anew e

pub status-leads : (n m : NodeParts) (needs : Option Need) (es : List EntryBefore) (seen : Option LoadSeen) → StatusMoves n m → StatusFollows n (core_changes (node_look n needs es) seen (Some m)) m
status-leads n m needs es seen moves =
    record {
      phase =
          behind phase_step n.phase m.phase (node_changes (node_look n needs es) m) _
          (by-phase phase_step n.phase m.phase n m needs es (λ e. let same : n.phase ≡ m.phase = grind (arith, nat_tests, e) in stays n m es ∙ same)
          (λ e. steady phase_step m.phase (entry_changes m es) (all-entries (Leaves phase_step) (λ w x. refl) (λ w f x. refl) m es)))
          (told-all phase_step n m needs es seen (λ s x. refl) (λ w v x. refl));
      waiting =
          behind wait_step n.waiting m.waiting (node_changes (node_look n needs es) m) _
          (by-phase wait_step n.waiting m.waiting n m needs es (λ e. waits-on n m es)
          (λ e. steady wait_step wait.None (entry_changes m es) (all-entries (Leaves wait_step) (λ w x. refl) (λ w f x. refl) m es) ∙ sym (moves.waits_anew e)))
          (told-all wait_step n m needs es seen (λ s x. refl) (λ w v x. refl));
      arrived =
          behind arrived_step n.arrived m.arrived (node_changes (node_look n needs es) m) _
          (by-phase arrived_step n.arrived m.arrived n m needs es (λ e. arrives-on n m es (moves.arrives_on e))
          (λ e. steady arrived_step false (entry_changes m es) (all-entries (Leaves arrived_step) (λ w x. refl) (λ w f x. refl) m es) ∙ sym (moves.comes_anew e)))
          (told-all arrived_step n m needs es seen (λ s x. refl) (λ w v x. refl));
      halted =
          behind halted_step n.halted m.halted (node_changes (node_look n needs es) m) _
          (by-phase halted_step n.halted m.halted n m needs es (λ e. halts-on n m es (moves.halts_on e))
          (λ e. steady halted_step n.halted (entry_changes m es) (all-entries (Leaves halted_step) (λ w x. refl) (λ w f x. refl) m es) ∙ sym (moves.stays_halted e)))
          (told-all halted_step n m needs es seen (λ s x. refl) (λ w v x. refl));
    }

-- ---- events

pub same-phase : (a b : ℕ) → b ≡ a → (a == b) ≡ false → ⊥
same-phase a b same e = grind (arith, nat_tests, same, e)

-- a node whose phase and flags stay
keeps : (n m : NodeParts) → KeepsPhase n m → StatusMoves n m
keeps n m k =
    record {
      arrives_on = λ e a. k.arrived ∙ a;
      halts_on = λ e h. k.halted ∙ h;
      waits_anew = λ e. absurd (same-phase n.phase m.phase k.phase e);
      comes_anew = λ e. absurd (same-phase n.phase m.phase k.phase e);
      stays_halted = λ e. k.halted;
      holds_anew = λ e. absurd (same-phase n.phase m.phase k.phase e);
      signs_anew = λ e. absurd (same-phase n.phase m.phase k.phase e);
    }

rests : (n : NodeParts) → StatusMoves n n
rests n = keeps n n (record { core = refl; phase = refl; arrived = refl; halted = refl })

pub moves-instr : (C : Setting) (n : NodeParts) → StatusMoves n (instructed C n).0
moves-instr C n = keeps n (instructed C n).0 (instr-phase C n)

pub moves-evict : (C : Setting) (n : NodeParts) (word : _) → StatusMoves n (evicted C n word).0
moves-evict C n word = keeps n (evicted C n word).0 (evict-keeps C n word).phase_kept

pub moves-arrive : (n : NodeParts) → StatusMoves n (arrives n).0
moves-arrive n =
    record {
      arrives_on = λ e a. refl;
      halts_on = λ e h. h;
      waits_anew = λ e. absurd (same-phase n.phase n.phase refl e);
      comes_anew = λ e. absurd (same-phase n.phase n.phase refl e);
      stays_halted = λ e. refl;
      holds_anew = λ e. absurd (same-phase n.phase n.phase refl e);
      signs_anew = λ e. absurd (same-phase n.phase n.phase refl e);
    }

halted-now : (n : NodeParts) → StatusMoves n (record n { halted = true })
halted-now n =
    record {
      arrives_on = λ e a. a;
      halts_on = λ e h. refl;
      waits_anew = λ e. absurd (same-phase n.phase n.phase refl e);
      comes_anew = λ e. absurd (same-phase n.phase n.phase refl e);
      stays_halted = λ e. absurd (same-phase n.phase n.phase refl e);
      holds_anew = λ e. absurd (same-phase n.phase n.phase refl e);
      signs_anew = λ e. absurd (same-phase n.phase n.phase refl e);
    }

moves-halt : (n : NodeParts) → StatusMoves n (halt_row n).0
moves-halt n = by_test n.arrived where
  by_test : (t : Bool) → StatusMoves n (cond t (becomes (record n { halted = true })) (becomes n)).0
  by_test true = halted-now n
  by_test false = rests n

third : (a b c d : Bool) → (a && b && c && d) ≡ true → c ≡ true
third true true true true e = refl
third true true false d e = cc
third true false c d e = cc
third false b c d e = cc
third true true true false e = cc

-- a task that starts holds no lock
started-free : (o : Option TaskDecl) → locks_held (option_map started o) ≡ 0
started-free None = refl
started-free (Some d) = refl

moves-go : (C : Setting) (n : NodeParts) (phase : ℕ) → StatusMoves n (go_row C n phase).0
moves-go C n phase = by_test (n.arrived && not n.halted && (phase == n.phase + 1) && nat_lt phase (length C.program.phases)) refl where
  by_test : (t : Bool) → (n.arrived && not n.halted && (phase == n.phase + 1) && nat_lt phase (length C.program.phases)) ≡ t → StatusMoves n (cond t (becomes (begins C n phase)) (becomes n)).0
  by_test false e = rests n
  by_test true e =
      let test : (phase == n.phase + 1) ≡ true = third n.arrived (not n.halted) (phase == n.phase + 1) (nat_lt phase (length C.program.phases)) e in
      let later : phase ≡ n.phase + 1 = grind (arith, nat_tests, test) in
      record {
        arrives_on = λ same. absurd (grind (arith, nat_tests, later, same));
        halts_on = λ same h. h;
        waits_anew = λ other. refl;
        comes_anew = λ other. refl;
        stays_halted = λ other. refl;
        holds_anew = λ other. started-free (declared C.program phase n.core);
        signs_anew = λ other l. begin-signature C n phase l;
      }

pub moves-message : (C : Setting) (n : NodeParts) (m : Message) → StatusMoves n (node_gets C n m).0
unfolding node_gets
moves-message C n (message.Go phase) = moves-go C n phase.0
moves-message C n message.Halt = moves-halt n
moves-message C n (message.DataReply word value) = keeps n (node_gets C n (message.DataReply word value)).0 (gets-phase C n (message.DataReply word value) refl)
moves-message C n (message.RegAck word) = keeps n (node_gets C n (message.RegAck word)).0 (gets-phase C n (message.RegAck word) refl)
moves-message C n (message.RegFwd word core) = keeps n (node_gets C n (message.RegFwd word core)).0 (gets-phase C n (message.RegFwd word core) refl)
moves-message C n (message.WbAck word) = keeps n (node_gets C n (message.WbAck word)).0 (gets-phase C n (message.WbAck word) refl)
moves-message C n (message.ReadFwd word reader) = keeps n (node_gets C n (message.ReadFwd word reader)).0 (gets-phase C n (message.ReadFwd word reader) refl)
moves-message C n (message.Grant lock signature) = keeps n (node_gets C n (message.Grant lock signature)).0 (gets-phase C n (message.Grant lock signature) refl)
moves-message C n (message.ReadReq word reader) = rests n
moves-message C n (message.RegReq word core) = rests n
moves-message C n (message.WriteBack word value core) = rests n
moves-message C n (message.Acquire lock core) = rests n
moves-message C n (message.Release lock core signature) = rests n
moves-message C n (message.Arrived core bad) = rests n

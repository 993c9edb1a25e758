-- The changes of an event lead from what its core's task shows to what it shows then, where a phase begins too.
use Rattle.std.proofs.Common.{◌≡◌, ℕ, ◌+◌, ◌==◌, ◌&&◌, not, nat_lt, Bool, true, false, cond, length, List, Option, Some, None, refl, sym, ap, ◌∙◌, arith}
use Rattle.std.proofs.lemmas.Bool.Decides.{nat_tests}
use Rattle.std.specs.Option.{is_some, option_map}
use Rattle.std.specs.List.{fold}
use Rattle.dn_base.specs.declared.ids.LoadSeen.{LoadSeen}
use Rattle.region_table.specs.declared.declared.TaskDecl.{TaskDecl}
use Rattle.region_table.specs.Program.{ProgramParts}
use Rattle.region_table.specs.Tasks.{declared}
use Rattle.rv_core.specs.declared.need.Need.{Need}
use Rattle.rv_core.specs.declared.task.End.{End}
use Rattle.rv_core.specs.declared.task.TaskState.{TaskState}
use Rattle.rv_core.specs.Task.{started, retires_at}
use Rattle.message_net.specs.declared.message.Message.{Message}
use Rattle.message_net.specs.declared.message.Message.TheVariants as message
use Rattle.registration_protocol.specs.Node.{NodeParts, Setting}
use Rattle.registration_protocol.specs.OwnEvents.{instructed, evicted, arrives}
use Rattle.registration_protocol.specs.Messages.{node_gets, go_row, halt_row, begins, becomes}
use Rattle.registration_protocol.specs.Changes.{KeepsPhase}
use Rattle.registration_protocol.specs.Fit.{Fits}
use Rattle.registration_protocol.proofs.PhaseLemmas.{instr-phase, evict-keeps, gets-phase}
use Rattle.run_changes.specs.declared.change.Change.TheVariants as change
use Rattle.run_changes.specs.declared.look.EntryBefore.{EntryBefore}
use Rattle.run_changes.specs.Looks.{node_look}
use Rattle.run_changes.specs.Changes.{change_unless, entry_changes, end_change, task_change, core_changes, node_changes}
use Rattle.run_changes.specs.Applied.{TaskFollows}
use Rattle.run_changes.specs.Leads.{TaskShown, task_shown, task_started, task_step}
use Rattle.run_changes.proofs.Applied.{all-entries, Leaves, steady, behind, told-all}
use Rattle.run_changes.proofs.Status.{by-phase, same-phase}
use Rattle.run_changes.proofs.Task.{TaskMoves, to-task}

-- what an event does to a core's task where a phase begins
pub record TaskBegins (C : Setting) (n m : NodeParts) : Type 0 where
  pub core : m.core ≡ n.core
  pub starts : (n.phase == m.phase) ≡ false → option_map task_started (declared C.program m.phase n.core) ≡ option_map task_shown m.task

abbrev shown : ℕ → ℕ → Option End → Option TaskShown
shown pc retired end = Some (record { pc = pc; retired = retired; end = end })

same-shown : (p q r s : ℕ) (e f : Option End) → p ≡ q → r ≡ s → e ≡ f → shown p r e ≡ shown q s f
same-shown p q r s e f a b c = rw (a, b, c) refl

-- one change, or none
end-shown : (P : ProgramParts) (core : ℕ) (t u : TaskState) (e : Option End) → TaskFollows t (end_change t u e) u → fold (task_step P core) (Some (task_shown t)) (end_change t u e) ≡ Some (task_shown u)
end-shown P core t u None follows = by_test (t.retired == u.retired) follows where
  by_test : (b : Bool) → TaskFollows t (change_unless b (change.Retired u.pc)) u → fold (task_step P core) (Some (task_shown t)) (change_unless b (change.Retired u.pc)) ≡ Some (task_shown u)
  by_test true f = same-shown t.pc u.pc t.retired u.retired t.end u.end f.pc f.retired f.end
  by_test false f = same-shown u.pc u.pc (t.retired + 1) u.retired t.end u.end f.pc f.retired f.end
end-shown P core t u (Some by) follows = by_test (is_some t.end) follows where
  by_test : (b : Bool) → TaskFollows t (change_unless b (change.Ended by)) u → fold (task_step P core) (Some (task_shown t)) (change_unless b (change.Ended by)) ≡ Some (task_shown u)
  by_test true f = same-shown t.pc u.pc t.retired u.retired t.end u.end f.pc f.retired f.end
  by_test false f = same-shown t.pc u.pc (t.retired + retires_at by) u.retired (Some by) u.end f.pc f.retired f.end

module _ (C : Setting) (n m : NodeParts) (needs : Option Need) (es : List EntryBefore) (seen : Option LoadSeen) (moves : TaskMoves n m) (begun : TaskBegins C n m) (fit : Fits C n) (fits : Fits C m) where
  -- a core that stays in its phase has a task then if it had one
  alike : (n.phase == m.phase) ≡ true → is_some n.task ≡ is_some m.task
  alike same =
      let phase : n.phase ≡ m.phase = grind (arith, nat_tests, same) in
      fit.task ∙ ap (λ (p : ℕ). is_some (declared C.program p n.core)) phase ∙ ap (λ (c : ℕ). is_some (declared C.program m.phase c)) (sym begun.core) ∙ sym fits.task

  by_tasks : (n.phase == m.phase) ≡ true → (o p : Option TaskState) → n.task ≡ o → m.task ≡ p → is_some o ≡ is_some p
      → fold (task_step C.program n.core) (option_map task_shown o) (task_change o p) ≡ option_map task_shown p
  by_tasks same None None has is both = refl
  by_tasks same None (Some u) has is both = absurd (cc)
  by_tasks same (Some t) None has is both = absurd (cc)
  by_tasks same (Some t) (Some u) has is both = end-shown C.program n.core t u u.end (moves same t u has is)

  pub shown-leads : fold (task_step C.program n.core) (option_map task_shown n.task) (core_changes (node_look n needs es) seen (Some m)) ≡ option_map task_shown m.task
  shown-leads = by_test (n.phase == m.phase) refl where
    by_test : (t : Bool) → (n.phase == m.phase) ≡ t → fold (task_step C.program n.core) (option_map task_shown n.task) (core_changes (node_look n needs es) seen (Some m)) ≡ option_map task_shown m.task
    by_test true e =
        to-task (task_step C.program n.core) (λ w x. refl) (λ w f x. refl) (λ y x. refl) (λ l x. refl) (λ l x. refl) (λ l s x. refl) (λ x. refl) (λ x. refl) (λ s x. refl) (λ w v x. refl)
        (option_map task_shown n.task) (option_map task_shown m.task) n m needs es seen e (by_tasks e n.task m.task refl refl (alike e))
    by_test false e =
        behind (task_step C.program n.core) (option_map task_shown n.task) (option_map task_shown m.task) (node_changes (node_look n needs es) m) _
        (by-phase (task_step C.program n.core) (option_map task_shown n.task) (option_map task_shown m.task) n m needs es (λ same. absurd (cc))
        (λ other. steady (task_step C.program n.core) (option_map task_started (declared C.program m.phase n.core)) (entry_changes m es) (all-entries (Leaves (task_step C.program n.core)) (λ w x. refl) (λ w f x. refl) m es) ∙ begun.starts other))
        (told-all (task_step C.program n.core) n m needs es seen (λ s x. refl) (λ w v x. refl))

-- ---- events

kept : (C : Setting) (n m : NodeParts) → KeepsPhase n m → TaskBegins C n m
kept C n m k = record { core = k.core; starts = λ other. absurd (same-phase n.phase m.phase k.phase other) }

rests : (C : Setting) (n : NodeParts) → TaskBegins C n n
rests C n = kept C n n (record { core = refl; phase = refl; arrived = refl; halted = refl })

pub begun-instr : (C : Setting) (n : NodeParts) → TaskBegins C n (instructed C n).0
begun-instr C n = kept C n (instructed C n).0 (instr-phase C n)

pub begun-evict : (C : Setting) (n : NodeParts) (word : _) → TaskBegins C n (evicted C n word).0
begun-evict C n word = kept C n (evicted C n word).0 (evict-keeps C n word).phase_kept

pub begun-arrive : (C : Setting) (n : NodeParts) → TaskBegins C n (arrives n).0
begun-arrive C n = record { core = refl; starts = λ other. absurd (same-phase n.phase n.phase refl other) }

started-shown : (o : Option TaskDecl) → option_map task_started o ≡ option_map task_shown (option_map started o)
started-shown None = refl
started-shown (Some d) = refl

begun-go : (C : Setting) (n : NodeParts) (phase : ℕ) → TaskBegins C n (go_row C n phase).0
begun-go C n phase = by_test (n.arrived && not n.halted && (phase == n.phase + 1) && nat_lt phase (length C.program.phases)) where
  by_test : (t : Bool) → TaskBegins C n (cond t (becomes (begins C n phase)) (becomes n)).0
  by_test false = rests C n
  by_test true = record { core = refl; starts = λ other. started-shown (declared C.program phase n.core) }

begun-halt : (C : Setting) (n : NodeParts) → TaskBegins C n (halt_row n).0
begun-halt C n = by_test n.arrived where
  by_test : (t : Bool) → TaskBegins C n (cond t (becomes (record n { halted = true })) (becomes n)).0
  by_test true = record { core = refl; starts = λ other. absurd (same-phase n.phase n.phase refl other) }
  by_test false = rests C n

pub begun-message : (C : Setting) (n : NodeParts) (m : Message) → TaskBegins C n (node_gets C n m).0
unfolding node_gets
begun-message C n (message.Go phase) = begun-go C n phase.0
begun-message C n message.Halt = begun-halt C n
begun-message C n (message.DataReply word value) = kept C n (node_gets C n (message.DataReply word value)).0 (gets-phase C n (message.DataReply word value) refl)
begun-message C n (message.RegAck word) = kept C n (node_gets C n (message.RegAck word)).0 (gets-phase C n (message.RegAck word) refl)
begun-message C n (message.RegFwd word core) = kept C n (node_gets C n (message.RegFwd word core)).0 (gets-phase C n (message.RegFwd word core) refl)
begun-message C n (message.WbAck word) = kept C n (node_gets C n (message.WbAck word)).0 (gets-phase C n (message.WbAck word) refl)
begun-message C n (message.ReadFwd word reader) = kept C n (node_gets C n (message.ReadFwd word reader)).0 (gets-phase C n (message.ReadFwd word reader) refl)
begun-message C n (message.Grant lock signature) = kept C n (node_gets C n (message.Grant lock signature)).0 (gets-phase C n (message.Grant lock signature) refl)
begun-message C n (message.ReadReq word reader) = rests C n
begun-message C n (message.RegReq word core) = rests C n
begun-message C n (message.WriteBack word value core) = rests C n
begun-message C n (message.Acquire lock core) = rests C n
begun-message C n (message.Release lock core signature) = rests C n
begun-message C n (message.Arrived core bad) = rests C n

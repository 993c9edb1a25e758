-- The machine as a run begins agrees with the flat machine before any grant.
use Rattle.std.proofs.Common.{◌≡◌, ℕ, [], slice_get, Option, Some, None, refl, sym, ap, subst, ◌∙◌, arith}
use Rattle.std.specs.List.{IsAmong}
use Rattle.std.specs.Option.{option_map}
use Rattle.std.proofs.lemmas.Option.{none-some, same_Some}
use Rattle.region_table.specs.Program.{ProgramParts}
use Rattle.region_table.specs.declared.declared.TaskDecl.{TaskDecl}
use Rattle.region_table.specs.declared.declared.Phase.{Phase}
use Rattle.region_table.specs.Tasks.{declared}
use Rattle.flat_machine.proofs.InOrder.{declared-only}
use Rattle.rv_core.specs.declared.task.TaskState.{TaskState}
use Rattle.rv_core.specs.Task.{started}
use Rattle.flat_machine.specs.Step.{fresh}
use Rattle.run_agreement.proofs.CoreByCore.{agreed-opens}
use Rattle.phase_barrier.specs.Barrier.{Barrier}
use Rattle.registration_protocol.specs.Node.{NodeParts, Setting}
use Rattle.machine_rules.specs.State.{initial_state}
use Rattle.machine_rules.proofs.OpenedFacts.{opened-setting, opened-keeper, IsNewNode, opened-node}
use Rattle.machine_rules.specs.Sound.{IsWellFormed}
use Rattle.machine_rules.proofs.RunsCoherent.{first_memory}
use Rattle.run_agreement.specs.Agreed.{States, Loads, Ends, stands, IsWorldAt, AreShown, Agreed}
use Rattle.run_agreement.proofs.Acting.{world-same}

-- each task at its start
abbrev pub started_or : Option TaskDecl → TaskState
started_or None = record { regs = []; pc = 0; held = 0; retired = 0; end = None }
started_or (Some d) = started d

abbrev pub first_states : ProgramParts → States
first_states P phase core = started_or (declared P phase core)

abbrev pub no_loads : Loads
no_loads phase core = []

new-state : (o : Option TaskDecl) (t : TaskState) → option_map started o ≡ Some t → started_or o ≡ t
new-state None t is = absurd (none-some t is)
new-state (Some d) t is = same_Some (started d) t is

first-shown : (C : Setting) → AreShown (initial_state C) (first_states C.program) no_loads
first-shown C =
    record {
      here = λ c n t found task. here c n t (opened-node C c n found) task;
      ahead = λ c phase n d found later is. ap started_or (subst (λ (x : Setting). declared x.program phase c ≡ Some d) (opened-setting C) is);
      unread = λ c phase n found later. refl;
    }
  where
    here : (c : ℕ) (n : NodeParts) (t : TaskState) → IsNewNode C c n → n.task ≡ Some t → first_states C.program n.phase c ≡ t
    here c n t new task =
        let phase : n.phase ≡ 0 = ap (λ (x : NodeParts). x.phase) new.is in
        let first : option_map started (declared C.program 0 c) ≡ Some t = sym (ap (λ (x : NodeParts). x.task) new.is) ∙ task in
        ap (λ (k : ℕ). first_states C.program k c) phase ∙ new-state (declared C.program 0 c) t first

pub opened-agreed : {E : Ends} (C : Setting) (p : Phase) → IsWellFormed C → slice_get C.program.phases 0 ≡ Some p → Agreed (initial_state C) (first_memory C) [] no_loads E
opened-agreed {E} C p well there =
    record {
      states = first_states C.program;
      shown = first-shown C;
      ended = λ c q n d found before is. absurd (omega (arith, before, ap (λ (x : NodeParts). x.phase) (opened-node C c n found).is));
      memory = C.program.memory;
      same = λ w. refl;
      phase = p;
      world = subst (λ (x : Setting). IsWorldAt x [] (first_states C.program) no_loads (initial_state C).keeper.phase p C.program.memory) (sym (opened-setting C))
          (subst (λ (k : ℕ). IsWorldAt C [] (first_states C.program) no_loads k p C.program.memory) (sym (ap (λ (k : Barrier). k.phase) (opened-keeper C))) now);
    }
  where
    first : (d : TaskDecl) → IsAmong p.tasks d → stands (first_states C.program) no_loads 0 d ≡ fresh 0 d
    first d among =
        let is : first_states C.program 0 d.core.0 ≡ started d = ap started_or (declared-only C.program 0 p d well.program.order there among) in
        rw (is) refl

    now : IsWorldAt C [] (first_states C.program) no_loads 0 p C.program.memory
    now = world-same C.program C.fuel [] 0 [] [] p (fresh 0) (stands (first_states C.program) no_loads 0) C.program.memory refl first (agreed-opens C.program C.fuel p well.program.order well.checked there)

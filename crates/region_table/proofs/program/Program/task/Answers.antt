use Rattle.std.proofs.Common.{◌≡◌, ◌<◌, ℕ, List, length, Some, sym, ap, ◌∙◌, subst, arith}
use Rattle.std.proofs.lemmas.Bool.Decides.{nat_tests}
use Rattle.std.specs.Prelude.{slice_get}
use Rattle.std.specs.List.{IsAmong}
use Rattle.std.specs.Option.{option_copied}
use Rattle.region_table.specs.declared.declared.TaskDecl.{TaskDecl}
use Rattle.region_table.specs.Program.{ProgramParts, IsProgram}
use Rattle.region_table.specs.Tasks.{declared}
use Rattle.region_table.proofs.TaskLemmas.{declared-only}
use Rattle.region_table.proofs.program.Program.task.Goals as goal

pub returns-in-Some-get : goal.returns-in-Some-get
returns-in-Some-get c =
    let P : ProgramParts = c.args.self.now in
    let look = c.in-Some-get.ensures.lookup in
    let test = look.0 in
    let within : c.args.core.0 < length c.as_slice-tasks.result.now = grind (arith, nat_tests) in
    let among : IsAmong c.as_slice-tasks.result.now c.in-Some-get.task.now = (c.args.core.0, (within, look.1)) in
    let here : IsAmong c.in-Some.phase.now.tasks c.in-Some-get.task.now = subst (λ (ts : List TaskDecl). IsAmong ts c.in-Some-get.task.now) c.as_slice-tasks.ensures among in
    let there : slice_get P.phases c.args.phase.0 ≡ Some c.in-Some.phase.now =
    sym (ap (λ (p : ProgramParts). slice_get p.phases c.args.phase.0) c.self.view_is) ∙ sym c.get.ensures ∙ ap option_copied c.in-Some.is in
    let well : IsProgram P = subst IsProgram c.self.view_is c.self.invariant in
    let one = declared-only P c.args.phase.0 c.in-Some.phase.now c.in-Some-get.task.now well there here in
    sym one ∙ ap (λ (k : ℕ). declared P c.args.phase.0 k) c.if-task-core.true

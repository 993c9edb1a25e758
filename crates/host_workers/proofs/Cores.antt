-- A program needs few cores.
use Rattle.std.proofs.Common.{ℕ, ◌<◌, ◌≤◌, List, [], ◌∷◌, length, All, arith}
use Rattle.std.proofs.lemmas.List.Elements.{All-append, All-head, All-tail}
use Rattle.region_table.specs.declared.declared.Phase.{Phase}
use Rattle.region_table.specs.declared.declared.TaskDecl.{TaskDecl}
use Rattle.region_table.specs.Program.{ProgramParts, tasks_of, cores_of, IsPhase, IsProgram}
use Rattle.region_table.proofs.ProgramLemmas.{cores-within}

tasks-within : (words locks : ℕ) (phases : List Phase) → All (IsPhase words locks) phases → All (λ (t : TaskDecl). t.core.0 < 16) (tasks_of phases)
tasks-within words locks [] each = λ k d within. absurd (omega (arith, within))
tasks-within words locks (p ∷ ps) each =
    All-append (λ (t : TaskDecl). t.core.0 < 16) p.tasks (tasks_of ps) (λ k d within. ((All-head (IsPhase words locks) p ps each).tasks k d within).core) (tasks-within words locks ps (All-tail (IsPhase words locks) p ps each))

pub few-cores : (p : ProgramParts) → IsProgram p → cores_of p ≤ 16
few-cores p is = cores-within (tasks_of p.phases) (tasks-within (length p.memory) (length p.locks) p.phases is.each_phase)

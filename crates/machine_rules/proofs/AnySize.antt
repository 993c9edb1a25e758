-- A setting within the limits of the code is well formed.
use Rattle.std.proofs.Common.{arith}
use Rattle.region_table.specs.Program.{ProgramParts, IsProgram}
use Rattle.region_table.proofs.TaskLemmas.{task-among}
use Rattle.registration_protocol.specs.Node.{Setting}
use Rattle.registration_protocol.specs.Fit.{IsContext}
use Rattle.flat_machine.proofs.InOrder.{in-order}
use Rattle.machine_rules.specs.Sound.{IsOfTasks, IsShaped, IsWellFormed, IsReady}

of-tasks : (P : ProgramParts) → IsProgram P → IsOfTasks P
of-tasks P is = record { tiled = is.tiled; order = in-order P is; effects = λ p d known among. (task-among P p d is known among).effects }

shaped : (C : Setting) → IsContext C → IsShaped C
shaped C is = record { plans = is.plans; cores = omega (arith, is.cores); some_banks = is.some_banks; some_sets = is.some_sets; some_ways = is.some_ways }

pub well-formed : (C : Setting) → IsReady C → IsWellFormed C
well-formed C ready = record { context = shaped C ready.context; program = of-tasks C.program ready.program; checked = ready.checked }

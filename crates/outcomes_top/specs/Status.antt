-- The statuses of the program: their exit codes, and those that tell why there is no answer.
use Rattle.std.specs.Prelude.{ℕ}
use Rattle.program_outside.specs.declared.ends.Failure.{Failure}
use Rattle.program_outside.specs.declared.ends.Failure as failure
use Rattle.outcomes_top.specs.declared.status.OutcomesStatus as status
use Rattle.outcomes_top.specs.declared.status.OutcomesStatus.{OutcomesStatus}

abbrev pub outcomes_code : OutcomesStatus → ℕ
outcomes_code status.TheVariants.Settled = 0
outcomes_code status.TheVariants.Usage = 1
outcomes_code status.TheVariants.Refused = 2
outcomes_code status.TheVariants.Open = 3
outcomes_code status.TheVariants.ReadFault = 6
outcomes_code status.TheVariants.WriteFault = 7
outcomes_code status.TheVariants.Memory = 8

-- the status that tells a failure is the one of the same name
abbrev pub outcomes_told : Failure → OutcomesStatus
outcomes_told failure.TheVariants.Usage = status.TheVariants.Usage
outcomes_told failure.TheVariants.ReadFault = status.TheVariants.ReadFault
outcomes_told failure.TheVariants.WriteFault = status.TheVariants.WriteFault
outcomes_told failure.TheVariants.Memory = status.TheVariants.Memory

-- The statuses of the program: their exit codes, and those that tell why there is no answer.
use Rattle.std.specs.Prelude.{ℕ}
use Rattle.program_outside.specs.declared.ends.Failure.{Failure}
use Rattle.program_outside.specs.declared.ends.Failure as failure
use Rattle.sweep_top.specs.declared.status.SweepStatus as status
use Rattle.sweep_top.specs.declared.status.SweepStatus.{SweepStatus}

abbrev pub sweep_code : SweepStatus → ℕ
sweep_code status.TheVariants.Swept = 0
sweep_code status.TheVariants.Usage = 1
sweep_code status.TheVariants.Refused = 2
sweep_code status.TheVariants.ReadFault = 6
sweep_code status.TheVariants.WriteFault = 7
sweep_code status.TheVariants.Memory = 8

-- the status that tells a failure is the one of the same name
abbrev pub sweep_told : Failure → SweepStatus
sweep_told failure.TheVariants.Usage = status.TheVariants.Usage
sweep_told failure.TheVariants.ReadFault = status.TheVariants.ReadFault
sweep_told failure.TheVariants.WriteFault = status.TheVariants.WriteFault
sweep_told failure.TheVariants.Memory = status.TheVariants.Memory

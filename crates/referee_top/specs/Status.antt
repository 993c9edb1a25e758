-- The statuses of the referee: their exit codes, and those that tell why there is no answer.
use Rattle.std.specs.Prelude.{ℕ}
use Rattle.program_outside.specs.declared.ends.Failure.{Failure}
use Rattle.program_outside.specs.declared.ends.Failure as failure
use Rattle.referee_top.specs.declared.status.RefereeStatus as status
use Rattle.referee_top.specs.declared.status.RefereeStatus.{RefereeStatus}

abbrev pub referee_code : RefereeStatus → ℕ
referee_code status.TheVariants.Agrees = 0
referee_code status.TheVariants.Usage = 1
referee_code status.TheVariants.Refused = 2
referee_code status.TheVariants.Differs = 3
referee_code status.TheVariants.ReadFault = 6
referee_code status.TheVariants.WriteFault = 7
referee_code status.TheVariants.Memory = 8

-- the status that tells a failure is the one of the same name
abbrev pub referee_told : Failure → RefereeStatus
referee_told failure.TheVariants.Usage = status.TheVariants.Usage
referee_told failure.TheVariants.ReadFault = status.TheVariants.ReadFault
referee_told failure.TheVariants.WriteFault = status.TheVariants.WriteFault
referee_told failure.TheVariants.Memory = status.TheVariants.Memory

-- The statuses of the program: their exit codes, and those that tell why there is no answer.
use Rattle.std.specs.Prelude.{ℕ}
use Rattle.program_outside.specs.declared.ends.Failure.{Failure}
use Rattle.program_outside.specs.declared.ends.Failure as failure
use Rattle.program_outside.specs.declared.ends.Output as ends
use Rattle.view_top.specs.declared.status.ViewStatus as status
use Rattle.view_top.specs.declared.status.ViewStatus.{ViewStatus}

abbrev pub view_code : ViewStatus → ℕ
view_code status.TheVariants.Done = 0
view_code status.TheVariants.Usage = 1
view_code status.TheVariants.Refused = 2
view_code status.TheVariants.Unreached = 3
view_code status.TheVariants.ReadFault = 6
view_code status.TheVariants.WriteFault = 7
view_code status.TheVariants.Memory = 8

-- the status that tells a failure is the one of the same name
abbrev pub view_told : Failure → ViewStatus
view_told failure.TheVariants.Usage = status.TheVariants.Usage
view_told failure.TheVariants.ReadFault = status.TheVariants.ReadFault
view_told failure.TheVariants.WriteFault = status.TheVariants.WriteFault
view_told failure.TheVariants.Memory = status.TheVariants.Memory

-- a status, and all bytes that are to be written
abbrev pub Output : Type 0
Output = ends.Output ViewStatus

use Rattle.std.specs.Prelude.{ℕ}
use Rattle.dn_base.specs.declared.status.Status as status
use Rattle.dn_base.specs.declared.status.Status.{Status}
use Rattle.dn_base.specs.declared.status.Outcome as outcome
use Rattle.dn_base.specs.declared.status.Outcome.{Outcome}

-- the exit code of a status
abbrev pub exit_code_of : Status → ℕ
exit_code_of status.TheVariants.Done = 0
exit_code_of status.TheVariants.Usage = 1
exit_code_of status.TheVariants.SourceRefused = 2
exit_code_of status.TheVariants.Trapped = 3
exit_code_of status.TheVariants.Fuel = 4
exit_code_of status.TheVariants.Stuck = 5
exit_code_of status.TheVariants.ReadFault = 6
exit_code_of status.TheVariants.WriteFault = 7
exit_code_of status.TheVariants.Memory = 8

-- the status of an outcome is the one of the same name
abbrev pub status_of : Outcome → Status
status_of outcome.TheVariants.Done = status.TheVariants.Done
status_of outcome.TheVariants.Trapped = status.TheVariants.Trapped
status_of outcome.TheVariants.Fuel = status.TheVariants.Fuel
status_of outcome.TheVariants.Stuck = status.TheVariants.Stuck

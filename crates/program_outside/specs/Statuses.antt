-- The status that tells a failure is the one of the same name.
use Rattle.dn_base.specs.declared.status.Status as status
use Rattle.dn_base.specs.declared.status.Status.{Status}
use Rattle.program_outside.specs.declared.ends.Failure.{Failure}
use Rattle.program_outside.specs.declared.ends.Failure as failure

abbrev pub status_told : Failure → Status
status_told failure.TheVariants.Usage = status.TheVariants.Usage
status_told failure.TheVariants.ReadFault = status.TheVariants.ReadFault
status_told failure.TheVariants.WriteFault = status.TheVariants.WriteFault
status_told failure.TheVariants.Memory = status.TheVariants.Memory

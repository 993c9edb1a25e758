-- The line that says why a claim is refused.
use Rattle.std.specs.Prelude.{ℕ, List, ◌++◌, codes}
use Rattle.std.specs.Fmt.{decimal}
use Rattle.text_pieces.specs.Pieces.{newline, space}
use Rattle.claims.specs.declared.claim.ClaimFault as fault
use Rattle.claims.specs.declared.claim.ClaimFault.{ClaimFault}

-- why some bytes are no claim; out of memory is no refusal, and has no line
unfoldable pub fault_text : ClaimFault → List ℕ
fault_text fault.TheVariants.TooLarge = codes "too-large"
fault_text fault.TheVariants.Head = codes "head"
fault_text (fault.TheVariants.Grant number) = codes "grant " ++ decimal number
fault_text fault.TheVariants.Loads = codes "loads"
fault_text (fault.TheVariants.Task number) = codes "task " ++ decimal number
fault_text (fault.TheVariants.Load task number) = codes "load " ++ decimal task ++ space ++ decimal number
fault_text fault.TheVariants.Behind = codes "behind"
fault_text fault.TheVariants.Memory = codes "memory"

unfoldable pub refusal_text : ClaimFault → List ℕ
refusal_text f = codes "refused claim " ++ fault_text f ++ newline

-- The lines that say why a document is refused.
use Rattle.std.specs.Prelude.{ℕ, List, ◌++◌, codes}
use Rattle.std.specs.Fmt.{decimal}
use Rattle.text_pieces.specs.Pieces.{newline}
use Rattle.run_replay.specs.declared.trace.TraceFault as fault
use Rattle.run_replay.specs.declared.trace.TraceFault.{TraceFault}
use Rattle.run_replay.specs.declared.refusal.TraceRefusal as refusal
use Rattle.run_replay.specs.declared.refusal.TraceRefusal.{TraceRefusal}

-- why some bytes are no document; out of memory is no refusal, and has no line
unfoldable pub fault_text : TraceFault → List ℕ
fault_text fault.TheVariants.TooLarge = codes "too-large"
fault_text fault.TheVariants.Head = codes "head"
fault_text (fault.TheVariants.Line number) = codes "event " ++ decimal number
fault_text fault.TheVariants.Rest = codes "rest"
fault_text fault.TheVariants.Memory = codes "memory"

unfoldable pub refusal_text : TraceRefusal → List ℕ
refusal_text (refusal.TheVariants.Fault f) = codes "refused trace " ++ fault_text f ++ newline
refusal_text (refusal.TheVariants.NotEnabled number) = codes "refused trace not-enabled " ++ decimal number ++ newline
refusal_text refusal.TheVariants.Incomplete = codes "refused trace incomplete" ++ newline

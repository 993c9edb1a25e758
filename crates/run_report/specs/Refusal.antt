-- The lines that say why command words or a text are refused.
use Rattle.std.specs.Prelude.{ℕ, List, ◌++◌, codes}
use Rattle.std.specs.Fmt.{decimal}
use Rattle.rv_assembler.specs.declared.fault.SourceFault.{SourceFault}
use Rattle.rv_assembler.specs.declared.fault.SourceFault as source
use Rattle.effect_checker.specs.declared.fault.CheckFault.{CheckFault}
use Rattle.effect_checker.specs.declared.fault.CheckFault as conflict
use Rattle.run_report.specs.declared.refusal.Refusal.{Refusal}
use Rattle.run_report.specs.declared.refusal.Refusal as refusal
use Rattle.text_pieces.specs.Pieces.{newline}

-- a fault of a line; out of memory is no refusal, and has no line
unfoldable pub source_text : SourceFault → List ℕ
source_text source.TheVariants.TooLarge = codes "too-large"
source_text (source.TheVariants.BadByte line) = decimal line ++ codes " bad-byte"
source_text (source.TheVariants.BadNumber line) = decimal line ++ codes " bad-number"
source_text (source.TheVariants.LineLimit line) = decimal line ++ codes " line-limit"
source_text (source.TheVariants.UnknownWord line) = decimal line ++ codes " unknown-word"
source_text (source.TheVariants.BadOperand line) = decimal line ++ codes " bad-operand"
source_text (source.TheVariants.OutOfRange line) = decimal line ++ codes " out-of-range"
source_text (source.TheVariants.DoubleName line) = decimal line ++ codes " double-name"
source_text (source.TheVariants.UnknownName line) = decimal line ++ codes " unknown-name"
source_text (source.TheVariants.Misplaced line) = decimal line ++ codes " misplaced"
source_text (source.TheVariants.Limit line) = decimal line ++ codes " limit"
source_text source.TheVariants.Memory = codes "memory"

-- a conflict of a phase: its kind, two numbers with a text between them, and the word
unfoldable pub conflict_text : ℕ → List ℕ → ℕ → List ℕ → ℕ → ℕ → List ℕ
conflict_text phase kind first between second word =
    codes "phase " ++ decimal phase ++ kind ++ decimal first ++ between ++ decimal second ++ codes " word " ++ decimal word

abbrev pub check_text : CheckFault → List ℕ
check_text (conflict.TheVariants.PlainConflict phase a b word) =
    conflict_text phase.0 (codes " plain-conflict cores ") a.0 (codes " ") b.0 word.0
check_text (conflict.TheVariants.GuardedPlain phase lock core word) =
    conflict_text phase.0 (codes " guarded-plain lock ") lock.0 (codes " core ") core.0 word.0
check_text (conflict.TheVariants.TwoLocks phase a b word) =
    conflict_text phase.0 (codes " two-locks locks ") a.0 (codes " ") b.0 word.0

unfoldable pub refusal_of : Refusal → List ℕ
refusal_of refusal.TheVariants.Usage = codes "refused usage" ++ newline
refusal_of (refusal.TheVariants.Source fault) = codes "refused source " ++ source_text fault ++ newline
refusal_of (refusal.TheVariants.Check fault) = codes "refused check " ++ check_text fault ++ newline

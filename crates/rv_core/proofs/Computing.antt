-- What needs nothing is an instruction, and there is fuel left.
use Rattle.std.proofs.Common.{◌≡◌, ℕ, Option, Some, None, sym}
use Rattle.std.proofs.lemmas.Option.{none-some}
use Rattle.region_table.specs.Program.{ProgramParts}
use Rattle.region_table.specs.declared.declared.TaskDecl.{TaskDecl}
use Rattle.rv_isa.specs.Encoding.{decoded}
use Rattle.rv_isa.specs.declared.instr.Instr.{Instr}
use Rattle.rv_core.specs.declared.task.TaskState.{TaskState}
use Rattle.rv_core.specs.declared.task.End.{End as Cause}
use Rattle.rv_core.specs.declared.need.Need.{Need}
use Rattle.rv_core.specs.declared.need.Need.TheVariants.{Local, End}
use Rattle.rv_core.specs.Address.{code_at}
use Rattle.rv_core.specs.Need.{need_of, fetch_need, word_need}
use Rattle.rv_core.specs.Step.{read_instr, instr_at}
use Rattle.rv_core.proofs.Needs.{fuelled}

abbrev pub IsLocal : Need → Type 0
IsLocal n = n ≡ Local

no_end : (c : Cause) → End c ≡ Local → ⊥
no_end c e = cc

by_instr : (P : ProgramParts) (d : TaskDecl) (t : TaskState) (word : ℕ) (i : Option Instr) → i ≡ None → IsLocal (word_need P d t word i) → ⊥
by_instr P d t word None none e = no_end _ e
by_instr P d t word (Some i) none e = none-some i (sym none)

by_word : (P : ProgramParts) (d : TaskDecl) (t : TaskState) (o : Option ℕ) → read_instr o ≡ None → IsLocal (fetch_need P d t o) → ⊥
by_word P d t None none e = no_end _ e
by_word P d t (Some word) none e = by_instr P d t word (decoded word) none e

-- where no instruction is come to, something is needed
pub none-needs : (P : ProgramParts) (d : TaskDecl) (fuel : ℕ) (t : TaskState) → instr_at P t ≡ None → need_of P d fuel t ≡ Local → ⊥
none-needs P d fuel t none e = by_word P d t (code_at P.code t.pc) none (fuelled P d fuel t IsLocal (no_end _) e).1

-- and so it is where no fuel is left
pub spent-needs : (P : ProgramParts) (d : TaskDecl) (fuel : ℕ) (t : TaskState) → t.retired ≡ fuel → need_of P d fuel t ≡ Local → ⊥
spent-needs P d fuel t spent e = (fuelled P d fuel t IsLocal (no_end _) e).0 spent

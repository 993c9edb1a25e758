-- A look at an instruction that was decoded before is a look at the word.
use Rattle.std.proofs.Common.{◌≡◌, ◌⊎◌, inl, inr, ℕ, ◌<◌, ◌≤◌, length, ◌-◌, ◌/◌, ◌%◌, Bool, true, false, ◌&&◌, ◌==◌, nat_le, cond, List, map, slice_get, Option, Some, None, option_map, refl, sym, ap, ◌∙◌, arith}
use Rattle.std.proofs.lemmas.Bool.Decides.{nat_tests}
use Rattle.std.proofs.lemmas.List.{length-map}
use Rattle.std.proofs.lemmas.Option.{none-some, slice_get-map, slice_get_past}
use Rattle.region_table.specs.Program.{ProgramParts}
use Rattle.region_table.specs.declared.declared.TaskDecl.{TaskDecl}
use Rattle.rv_isa.specs.Encoding.{decoded}
use Rattle.rv_isa.specs.declared.instr.Instr.{Instr}
use Rattle.rv_core.specs.declared.task.TaskState.{TaskState}
use Rattle.rv_core.specs.declared.task.End as cause
use Rattle.rv_core.specs.declared.need.Need.{Need}
use Rattle.rv_core.specs.declared.need.Need.TheVariants.{End}
use Rattle.rv_core.specs.declared.need.Next.{Next}
use Rattle.rv_core.specs.Need.{need_of, instr_need, word_need, fetch_need}
use Rattle.rv_core.specs.Address.{code_at}
use Rattle.rv_core.specs.Step.{read_instr, instr_at}
use Rattle.rv_core.specs.Next.{IsNextOf}
use Rattle.rv_core.specs.Decoded.{decoded_entry, found_at, IsDecoded}

entry-read : (o : Option ℕ) → decoded_entry (option_map decoded o) ≡ read_instr o
entry-read None = refl
entry-read (Some word) = refl

found-read : (code : List ℕ) (pc : ℕ) → found_at (map decoded code) pc ≡ read_instr (code_at code pc)
found-read code pc = by_test (nat_le 0x1000 pc && pc % 4 == 0)
  where
    by_test : (b : Bool) → cond b (decoded_entry (slice_get (map decoded code) ((pc - 0x1000) / 4))) None ≡ read_instr (cond b (slice_get code ((pc - 0x1000) / 4)) None)
    by_test true = ap decoded_entry (slice_get-map decoded code ((pc - 0x1000) / 4)) ∙ entry-read (slice_get code ((pc - 0x1000) / 4))
    by_test false = refl

-- the entry at the program counter is the instruction there
pub found-at : (P : ProgramParts) (t : TaskState) (instrs : List (Option Instr)) → IsDecoded P instrs → found_at instrs t.pc ≡ instr_at P t
found-at P t instrs is = ap (λ (l : List (Option Instr)). found_at l t.pc) is ∙ found-read P.code t.pc

-- what an instruction that is known needs
known-need : (P : ProgramParts) (d : TaskDecl) (t : TaskState) (i : Instr) (o : Option ℕ) → read_instr o ≡ Some i → fetch_need P d t o ≡ instr_need P d t i
known-need P d t i None e = absurd (none-some i e)
known-need P d t i (Some word) e = ap (word_need P d t word) e

-- the look at an instruction that is known, where there is fuel left
pub known-next : (P : ProgramParts) (d : TaskDecl) (fuel : ℕ) (t : TaskState) (i : Instr) → (t.retired ≡ fuel → ⊥) → instr_at P t ≡ Some i
    → IsNextOf P d fuel t (record { need = instr_need P d t i; instr = Some i })
unfolding need_of
known-next P d fuel t i left is = by_test (t.retired == fuel) refl
  where
    by_test : (b : Bool) → (t.retired == fuel) ≡ b
        → ◌≡◌ {A = Next} (record { need = instr_need P d t i; instr = Some i }) (record { need = cond b (End cause.TheVariants.Fuel) (fetch_need P d t (code_at P.code t.pc)); instr = cond b None (instr_at P t) })
    by_test true e = absurd (left (grind (arith, nat_tests)))
    by_test false e =
        let with_instr : Option Instr → Next = λ o. record { need = instr_need P d t i; instr = o } in
        let with_need : Need → Next = λ n. record { need = n; instr = instr_at P t } in
        sym (ap with_need (known-need P d t i (code_at P.code t.pc) is) ∙ ap with_instr is)

-- what the instruction that the task comes to needs, where there is fuel left
pub known-need-of : (P : ProgramParts) (d : TaskDecl) (fuel : ℕ) (t : TaskState) (i : Instr) → (t.retired ≡ fuel → ⊥) → instr_at P t ≡ Some i
    → instr_need P d t i ≡ need_of P d fuel t
known-need-of P d fuel t i left is = ap (λ (n : Next). n.need) (known-next P d fuel t i left is)

-- there are as many instructions as code words
pub count-decoded : (P : ProgramParts) (instrs : List (Option Instr)) → IsDecoded P instrs → length P.code ≤ 16384 → length instrs ≤ 16384
count-decoded P instrs is few = rw (is, length-map P.code decoded) few

-- a place that is the one of a code word's address, and is too great for any other address
pub found-place : (instrs : List (Option Instr)) (pc place : ℕ) → length instrs ≤ 16384 → (4096 ≤ pc → pc % 4 ≡ 0 → place ≡ (pc - 4096) / 4) → ((pc < 4096) ⊎ (0 < pc % 4) → 65536 ≤ place)
    → decoded_entry (slice_get instrs place) ≡ found_at instrs pc
found-place instrs pc place few here nowhere = by_tests (nat_le 4096 pc) (pc % 4 == 0) refl refl
  where
    past : 65536 ≤ place → decoded_entry (slice_get instrs place) ≡ None
    past far = ap decoded_entry (slice_get_past instrs place (omega (arith, few, far)))

    by_tests : (a b : Bool) → nat_le 4096 pc ≡ a → (pc % 4 == 0) ≡ b → decoded_entry (slice_get instrs place) ≡ cond (a && b) (decoded_entry (slice_get instrs ((pc - 4096) / 4))) None
    by_tests true true x y = ap (λ (i : ℕ). decoded_entry (slice_get instrs i)) (here (grind (arith, nat_tests)) (grind (arith, nat_tests)))
    by_tests true false x y = past (nowhere (inr (grind (arith, nat_tests))))
    by_tests false b x y = past (nowhere (inl (grind (arith, nat_tests))))

-- The range that is named for a number of an instruction is the one that the language's definition tests.
use Rattle.std.proofs.Common.{◌≡◌, ℕ, ℤ, pos, neg_ℤ, ◌+ℤ◌, Bool, true, false, cond, not, ◌&&◌, List, Option, Some, None, refl, ap, ◌∙◌, option_map, find}
use Rattle.std.proofs.lemmas.Bool.{false≢true}
use Rattle.std.proofs.lemmas.Option.{none-some, same_Some}
use Rattle.rv_isa.specs.Table.{is_shift, is_stored, has_immediate}
use Rattle.rv_isa.specs.declared.instr.Instr.{Instr}
use Rattle.rv_isa.specs.declared.instr.Instr as instr
use Rattle.src_text.specs.declared.token.Token.{Token}
use Rattle.rv_assembler.specs.declared.statement.Code.{Code}
use Rattle.rv_assembler.specs.declared.statement.Code as code
use Rattle.rv_assembler.specs.declared.names.Meaning.{Meaning}
use Rattle.rv_assembler.specs.Number.{natural_of, is_within, is_immediate}
use Rattle.rv_assembler.specs.Emission.{one_if, upper_instr, emission}
use Rattle.rv_assembler.specs.Fault.{is_far}
use Rattle.sentences.specs.declared.findings.Cause.{Cause}
use Rattle.sentences.specs.declared.findings.Cause as cause
use Rattle.sentences.specs.declared.findings.Finding.{Finding}
use Rattle.sentences.specs.Findings.{finding_at, is_number_token, at_range, code_out_of_range}
use Rattle.sentences.specs.Ranges.{tested_number, has_row}

far-one : (b : Bool) (i : Instr) → is_far (one_if b i) ≡ not b
far-one true i = refl
far-one false i = refl

far-and : (a b : Bool) (i : Instr) → a ≡ true → is_far (one_if (a && b) i) ≡ not b
far-and true b i e = far-one b i
far-and false b i e = absurd (false≢true e)

-- the range of a finding at a number
range-is : (lo hi : ℤ) (ts : List Token) (x : Finding) (low high : ℤ) → at_range lo hi ts ≡ Some x → x.cause ≡ cause.TheVariants.Range low high → (lo ≡ low) × (hi ≡ high)
range-is lo hi ts x low high e is = by_found (find is_number_token ts) e
  where
    by_found : (o : Option Token) → option_map (finding_at (cause.TheVariants.Range lo hi)) o ≡ Some x → (lo ≡ low) × (hi ≡ high)
    by_found None e = absurd (none-some x e)
    by_found (Some t) e =
        let same : cause.TheVariants.Range lo hi ≡ cause.TheVariants.Range low high =
        ap (λ (y : Finding). y.cause) (same_Some (finding_at (cause.TheVariants.Range lo hi) t) x e) ∙ is in
        let from : lo ≡ low = cc in
        let to : hi ≡ high = cc in
        (from, to)

named : (lo hi : ℤ) (ts : List Token) (x : Finding) (low high z n : ℤ) → at_range lo hi ts ≡ Some x → x.cause ≡ cause.TheVariants.Range low high → Some z ≡ Some n
    → not (is_within lo (hi +ℤ pos 1) z) ≡ not (is_within low (high +ℤ pos 1) n)
named lo hi ts x low high z n e is number =
    let r = range-is lo hi ts x low high e is in
    let same = same_Some z n number in
    λ i. not (is_within (r.0 i) (r.1 i +ℤ pos 1) (same i))

pub range-tested : (text : List ℕ) (names : List ℕ → Option Meaning) (here : ℕ) (k : Code) (ts : List Token) (x : Finding) (low high n : ℤ) → code_out_of_range ts k ≡ Some x
    → x.cause ≡ cause.TheVariants.Range low high → tested_number k ≡ Some n → has_row k ≡ true → is_far (emission text names here k) ≡ not (is_within low (high +ℤ pos 1) n)
unfolding code_out_of_range
range-tested text names here (code.TheVariants.Upper adds_pc rd z) ts x low high n e is number row =
    far-one (is_within (pos 0) (pos 0x100000) z) (upper_instr adds_pc rd (natural_of z)) ∙ named (pos 0) (pos 1048575) ts x low high z n e is number
range-tested text names here (code.TheVariants.JumpRegister rd base z) ts x low high n e is number row =
    far-one (is_immediate z) (instr.TheVariants.Jalr rd base z) ∙ named (neg_ℤ (pos 2048)) (pos 2047) ts x low high z n e is number
range-tested text names here (code.TheVariants.Load w rd base z) ts x low high n e is number row =
    far-one (is_immediate z) (instr.TheVariants.Load w rd base z) ∙ named (neg_ℤ (pos 2048)) (pos 2047) ts x low high z n e is number
range-tested text names here (code.TheVariants.Store w src base z) ts x low high n e is number row =
    far-and (is_stored w) (is_immediate z) (instr.TheVariants.Store w src base z) row ∙ named (neg_ℤ (pos 2048)) (pos 2047) ts x low high z n e is number
range-tested text names here (code.TheVariants.OpImm o rd a z) ts x low high n e is number row =
    far-and (has_immediate o) (cond (is_shift o) (is_within (pos 0) (pos 32) z) (is_immediate z)) (instr.TheVariants.OpImm o rd a z) row ∙ by_shift (is_shift o) e
  where
    by_shift : (b : Bool) → cond b (at_range (pos 0) (pos 31) ts) (at_range (neg_ℤ (pos 2048)) (pos 2047) ts) ≡ Some x
        → not (cond b (is_within (pos 0) (pos 32) z) (is_immediate z)) ≡ not (is_within low (high +ℤ pos 1) n)
    by_shift true e = named (pos 0) (pos 31) ts x low high z n e is number
    by_shift false e = named (neg_ℤ (pos 2048)) (pos 2047) ts x low high z n e is number
range-tested text names here (code.TheVariants.Jump rd t) ts x low high n e is number row = absurd (none-some n number)
range-tested text names here (code.TheVariants.Branch c a b t) ts x low high n e is number row = absurd (none-some n number)
range-tested text names here (code.TheVariants.Op o rd a b) ts x low high n e is number row = absurd (none-some n number)
range-tested text names here code.TheVariants.Fence ts x low high n e is number row = absurd (none-some n number)
range-tested text names here code.TheVariants.Ecall ts x low high n e is number row = absurd (none-some n number)
range-tested text names here code.TheVariants.Ebreak ts x low high n e is number row = absurd (none-some n number)
range-tested text names here (code.TheVariants.LoadNumber rd z) ts x low high n e is number row = absurd (none-some n number)
range-tested text names here (code.TheVariants.LoadAddress rd t) ts x low high n e is number row = absurd (none-some n number)
range-tested text names here (code.TheVariants.Raw z) ts x low high n e is number row = absurd (none-some n number)

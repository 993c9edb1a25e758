-- An operand that is named as wrong.
use Rattle.std.proofs.Common.{◌≡◌, ℕ, suc, ◌+◌, Bool, true, false, if◌then◌else◌, List, [], ◌∷◌, drop, Option, Some, None, refl, sym, ap, subst, ◌∙◌, arith}
use Rattle.std.specs.Option.{is_some, unwrap_or, option_or}
use Rattle.std.proofs.lemmas.Bool.{false≢true}
use Rattle.src_text.specs.declared.token.Span.{Span}
use Rattle.src_text.specs.declared.token.Token.{Token}
use Rattle.rv_assembler.specs.Operand.{bytes_of}
use Rattle.rv_assembler.specs.Shape.{is_name}
use Rattle.sentences.specs.declared.examples.Form.{Form}
use Rattle.sentences.specs.declared.findings.Cause.{Cause}
use Rattle.sentences.specs.declared.findings.Cause as cause
use Rattle.sentences.specs.declared.findings.Finding.{Finding}
use Rattle.sentences.specs.declared.wrong_operands.OperandSort.{OperandSort}
use Rattle.sentences.specs.declared.wrong_operands.WrongOperand.{WrongOperand}
use Rattle.sentences.specs.Examples.{is_taken, form_for}
use Rattle.sentences.specs.Findings.{finding_at, behind_label, operand_or_word, operands_finding, at_first, dotted_label, label_or_statement, operand_at}
use Rattle.sentences.specs.Operands.{sorts_of, example_of, before_comma, behind_comma, operand_behind, part_over, found_sort, with_part, is_mended_by, wrong_part, wrong_operand, wrong_among, IsWrongOperand}

some-is : {X : Type 0} (a b : X) → Some a ≡ Some b → a ≡ b
some-is a b e = ap (λ o. unwrap_or o a) e

-- an operand behind so many others of these, by its tokens
record IsFound (version : ℕ) (bytes : List ℕ) (number : ℕ) (ts : List Token) (w : WrongOperand) : Type 0 where
  before : ℕ
  numbered : w.number ≡ number + before
  part : part_over (operand_behind before ts) ≡ Some w.part
  mended : is_taken version (with_part bytes w.part (example_of w.wanted)) ≡ true
  found : w.found ≡ found_sort bytes (operand_behind before ts)

mended-is : (version : ℕ) (bytes : List ℕ) (s : OperandSort) (p : Span) → is_mended_by version bytes s p ≡ true → is_taken version (with_part bytes p (example_of s)) ≡ true
unfolding is_mended_by
mended-is version bytes s p is = is

-- the operand, where it is wrong
here-found : (version : ℕ) (bytes : List ℕ) (number : ℕ) (s : OperandSort) (ts : List Token) (w : WrongOperand)
    → wrong_operand version bytes number s (before_comma ts) ≡ Some w → IsFound version bytes number ts w
here-found version bytes number s ts w e = by_part (part_over here) refl e where
  here : List Token
  here = before_comma ts

  made : Span → WrongOperand
  made p = record { part = p; number = number; found = found_sort bytes here; wanted = s }

  by_test : (p : Span) (b : Bool) → part_over here ≡ Some p → is_mended_by version bytes s p ≡ b → (if b then Some (made p) else None) ≡ Some w → IsFound version bytes number ts w
  by_test p false there is h = absurd (false≢true (ap is_some h))
  by_test p true there is h =
      subst (IsFound version bytes number ts) (some-is (made p) w h)
      (record { before = 0; numbered = omega arith; part = there; mended = mended-is version bytes s p is; found = refl })

  by_part : (o : Option Span) → part_over here ≡ o → wrong_part version bytes number s here o ≡ Some w → IsFound version bytes number ts w
  by_part None there h = absurd (false≢true (ap is_some h))
  by_part (Some p) there h = by_test p (is_mended_by version bytes s p) there refl h

one-further : (version : ℕ) (bytes : List ℕ) (number : ℕ) (ts : List Token) (w : WrongOperand) → IsFound version bytes (number + 1) (behind_comma ts) w → IsFound version bytes number ts w
one-further version bytes number ts w later =
    record { before = suc later.before; numbered = omega (arith, later.numbered); part = later.part; mended = later.mended; found = later.found }

wrong-found : (version : ℕ) (bytes : List ℕ) (number : ℕ) (ss : List OperandSort) (ts : List Token) (w : WrongOperand) → wrong_among version bytes number ss ts ≡ Some w
    → IsFound version bytes number ts w
wrong-found version bytes number [] ts w e = absurd (false≢true (ap is_some e))
wrong-found version bytes number (s ∷ ss) ts w e =
    by_first (wrong_operand version bytes number s (before_comma ts)) refl e (λ h. one-further version bytes number ts w (wrong-found version bytes (number + 1) ss (behind_comma ts) w h))
  where
    rest : Option WrongOperand
    rest = wrong_among version bytes (number + 1) ss (behind_comma ts)

    by_first : (o : Option WrongOperand) → wrong_operand version bytes number s (before_comma ts) ≡ o → option_or o rest ≡ Some w → (rest ≡ Some w → IsFound version bytes number ts w)
        → IsFound version bytes number ts w
    by_first (Some v) is h later = here-found version bytes number s ts w (is ∙ h)
    by_first None is h later = later h

-- ---- the finding

abbrev is_operand : Cause → Bool
is_operand (cause.TheVariants.Operand word w f) = true
is_operand _ = false

abbrev wrong_of : WrongOperand → Cause → WrongOperand
wrong_of d (cause.TheVariants.Operand word w f) = w
wrong_of d _ = d

module _ (version : ℕ) (bytes : List ℕ) (x : Finding) (word : Span) (w : WrongOperand) (form : Form) (is : x.cause ≡ cause.TheVariants.Operand word w form) where
  abbrev Named : List Token → Type 0
  Named ts = (x.part ≡ w.part) × IsWrongOperand version bytes ts w

  -- a finding with another cause isn't this one
  other : (y : Finding) → is_operand y.cause ≡ false → Some y ≡ Some x → ⊥
  other y is_other e = false≢true (sym is_other ∙ ap (λ (z : Finding). is_operand z.cause) (some-is y x e) ∙ ap is_operand is)

  by_wrong : (t : Token) (f : Form) (ts : List Token) (o : Option WrongOperand) → wrong_among version bytes 1 (sorts_of f) ts ≡ o → Some (operand_or_word t f o) ≡ Some x → Named ts
  by_wrong t f ts None among e = absurd (other _ refl e)
  by_wrong t f ts (Some v) among e =
      let same : operand_or_word t f (Some v) ≡ x = some-is _ x e in
      let own : v ≡ w = ap (λ (z : Finding). wrong_of v z.cause) same ∙ ap (wrong_of v) is in
      let found = wrong-found version bytes 1 (sorts_of f) ts w (among ∙ ap (λ (u : WrongOperand). Some u) own) in (
        ap (λ (z : Finding). z.part) (sym same) ∙ ap (λ (u : WrongOperand). u.part) own,
        record { before = found.before; numbered = omega (arith, found.numbered); part = found.part; mended = found.mended; found = found.found },
      )

  by_form : (t : Token) (ts : List Token) (o : Option Form) → Some (operands_finding version bytes t ts o) ≡ Some x → Named ts
  by_form t ts None e = absurd (other _ refl e)
  by_form t ts (Some f) e = by_wrong t f ts (wrong_among version bytes 1 (sorts_of f) ts) refl e

  by_name : (t : Token) (ts : List Token) (b : Bool)
      → Some (if b then operands_finding version bytes t ts (form_for version (bytes_of bytes t)) else finding_at cause.TheVariants.NoWord t) ≡ Some x → Named ts
  by_name t ts true e = by_form t ts (form_for version (bytes_of bytes t)) e
  by_name t ts false e = absurd (other _ refl e)

  by_tokens : (us : List Token) → at_first version bytes us ≡ Some x → Named (drop 1 us)
  by_tokens [] e = absurd (false≢true (ap is_some e))
  by_tokens (t ∷ ts) e = by_name t ts (is_name t.kind) e

  by_label : (ts : List Token) (o : Option Token) → label_or_statement version bytes ts o ≡ Some x → Named (drop 1 (behind_label ts))
  by_label ts None e = by_tokens (behind_label ts) e
  by_label ts (Some t) e = absurd (other _ refl e)

  pub operand-named : (ts : List Token) → operand_at version bytes ts ≡ Some x → Named (drop 1 (behind_label ts))
  unfolding operand_at
  operand-named ts e = by_label ts (dotted_label bytes ts) e

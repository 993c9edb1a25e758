use Rattle.std.proofs.Common.{◌≡◌, true, ap, ◌∙◌, arith, drop}
use Rattle.text_pieces.proofs.Fields.{if-none, seems-plain, whole-rest}
use Rattle.explained_answer.proofs.Ticks.{value-of, plain-of, rest-of, ticks-parts}
use Rattle.explained_answer.proofs.long.numeral.Goals as goal

pub returns-in_err-value-clause-none : goal.returns-in_err-value-clause-none
returns-in_err-value-clause-none c =
    if-none c.from_residual.result _ (λ n rest fits is. omega (arith, fits.high, c.in_err-value.ensures.none, value-of c.args.bytes.now n rest fits is))

pub returns-then-not-is_plain-clause-none : goal.returns-then-not-is_plain-clause-none
returns-then-not-is_plain-clause-none c = λ n rest fits is.
    let plain : c.is_plain.result ≡ true =
    c.is_plain.ensures.1 (seems-plain c.args.bytes.now c.in_ok-value.count c.in_ok-value.ensures.length (plain-of c.args.bytes.now n rest fits is)) in
    cc

pub returns-clause-within : goal.returns-clause-within
returns-clause-within c = record { low = omega arith; high = c.in_ok-value.ensures.value.1 }

pub returns-clause-parts : goal.returns-clause-parts
returns-clause-parts c =
    ticks-parts c.args.bytes.now c.in_ok-value.value c.in_ok-value.count c.in_ok-value.ensures.value.0 c.in_ok-value.ensures.length c.in_ok-value.ensures.value.1
    (c.is_plain.ensures.0 (let t : c.is_plain.result ≡ true = cc in t))

pub returns-clause-one : goal.returns-clause-one
returns-clause-one c = λ n rest fits is. (
  c.in_ok-value.ensures.value.0 ∙ value-of c.args.bytes.now n rest fits is,
  whole-rest c.args.bytes.now c.in_ok-value.count ∙ ap (λ k. drop k c.args.bytes.now) c.in_ok-value.ensures.length ∙ rest-of c.args.bytes.now n rest fits is,
)

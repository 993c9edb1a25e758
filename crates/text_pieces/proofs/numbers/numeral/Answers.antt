use Rattle.std.proofs.Common.{◌≡◌, ◌<◌, ◌^◌, true, ap, ◌∙◌, arith, drop}
use Rattle.text_pieces.proofs.Fields.{if-none, value-of, plain-of, rest-of, seems-plain, number-parts, whole-rest}
use Rattle.text_pieces.proofs.numbers.numeral.Goals as goal
use Rattle.text_pieces.proofs.numbers.numeral.Goals.{then-value-least-via-then-value-least, then-value-least-via-else-value-least+then-not-is_plain}

pub returns-in_err-value-clause-none : goal.returns-in_err-value-clause-none
returns-in_err-value-clause-none c =
    if-none c.from_residual.result _ (λ n e rest fits other is.
    let small : n < 2 ^ 32 = omega (arith, fits.high) in
    omega (arith, fits.high, c.in_err-value.ensures.none, value-of c.args.bytes.now n e rest small other is))

pub returns-then-value-least-clause-none : goal.returns-then-value-least-clause-none
returns-then-value-least-clause-none c = λ n e rest fits other is.
    let small : n < 2 ^ 32 = omega (arith, fits.high) in
    elim c.then-value-least.branch [
      | then-value-least-via-then-value-least w ↦
          omega (arith, fits.low, c.in_ok-value.ensures.value.0, value-of c.args.bytes.now n e rest small other is)
      | then-value-least-via-else-value-least+then-not-is_plain w ↦
          let plain : w.is_plain.result ≡ true =
          w.is_plain.ensures.1 (seems-plain c.args.bytes.now c.in_ok-value.count c.in_ok-value.ensures.length (plain-of c.args.bytes.now n e rest small other is)) in
          cc
    ]

pub returns-clause-parts : goal.returns-clause-parts
returns-clause-parts c =
    let small : c.in_ok-value.value < 2 ^ 32 = omega (arith, c.in_ok-value.ensures.value.1) in
    number-parts c.args.bytes.now c.in_ok-value.value c.in_ok-value.count c.in_ok-value.ensures.value.0 c.in_ok-value.ensures.length small
    (c.is_plain.ensures.0 (let t : c.is_plain.result ≡ true = cc in t))

pub returns-clause-one : goal.returns-clause-one
returns-clause-one c = λ n e rest fits other is.
    let small : n < 2 ^ 32 = omega (arith, fits.high) in (
      c.in_ok-value.ensures.value.0 ∙ value-of c.args.bytes.now n e rest small other is,
      whole-rest c.args.bytes.now c.in_ok-value.count ∙ ap (λ k. drop k c.args.bytes.now) c.in_ok-value.ensures.length ∙ rest-of c.args.bytes.now n e rest small other is,
    )

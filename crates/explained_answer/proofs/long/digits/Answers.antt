use Rattle.std.proofs.Common.{◌≡◌, ◌+◌, ◌*◌, true, drop, get_or, arith, sym, ◌∙◌}
use Rattle.std.specs.Str.Parse.{digits_value, digits_value_after}
use Rattle.std.specs.Char.{is_ascii_digit}
use Rattle.text_pieces.proofs.Digits.{value-more, length-more, no-less, front}
use Rattle.explained_answer.proofs.long.digits.Goals as goal

pub returns-then-value-gt-MOST_TICKS-clause-none : goal.returns-then-value-gt-MOST_TICKS-clause-none
returns-then-value-gt-MOST_TICKS-clause-none c =
    let is : is_ascii_digit (get_or c.args.bytes.now c.loop-byte.byte-index 0) ≡ true = grind arith in
    let next = value-more c.loop-byte.value c.loop-byte.byte-index c.args.bytes.now (omega arith) is in
    let d = c.from.ensures in
    let value' : digits_value_after 10 (c.loop-byte.value * 10 + c.from.result) (front (drop (c.loop-byte.byte-index + 1) c.args.bytes.now)) ≡ digits_value 10 (front c.args.bytes.now) =
    rw d (sym next ∙ c.loop-byte.invariant.value) in
    omega (arith, value', no-less (c.loop-byte.value * 10 + c.from.result) (front (drop (c.loop-byte.byte-index + 1) c.args.bytes.now)))

pub loop-byte-preserved : goal.loop-byte-preserved
loop-byte-preserved c =
    let is : is_ascii_digit (get_or c.args.bytes.now c.loop-byte.byte-index 0) ≡ true = grind arith in
    let next = value-more c.loop-byte.value c.loop-byte.byte-index c.args.bytes.now (omega arith) is in
    let more = length-more c.loop-byte.byte-index c.args.bytes.now (omega arith) is in
    let d = c.from.ensures in
    let value' : digits_value_after 10 (c.loop-byte.value * 10 + c.from.result) (front (drop (c.loop-byte.byte-index + 1) c.args.bytes.now)) ≡ digits_value 10 (front c.args.bytes.now) =
    rw d (sym next ∙ c.loop-byte.invariant.value) in
    record { most = omega arith; value = value'; length' = omega arith }

use Rattle.std.proofs.Common.{◌≡◌, ◌+◌, ◌≤◌, drop, length, take_while}
use Rattle.std.specs.Char.{is_ascii_digit}
use Rattle.std.specs.Str.Parse.{digits_value, digits_value_after}
use Rattle.explained_answer.proofs.long.digits.Given as goal

abbrev pub invariant-loop-byte : goal.invariant-loop-byte
invariant-loop-byte l =
    record {
      most : l.value ≤ 176187648000000;
      value : digits_value_after 10 l.value (take_while is_ascii_digit (drop l.byte-index l.bytes)) ≡ digits_value 10 (take_while is_ascii_digit l.bytes);
      length' : l.length + length (take_while is_ascii_digit (drop l.byte-index l.bytes)) ≡ length (take_while is_ascii_digit l.bytes);
    }

-- How a word is read as a number.
use Rattle.std.specs.Prelude.{ℕ, ◌^◌, Bool, ◌&&◌, nat_lt, nat_le, List, length, Option, Some, None, if◌then◌else◌}
use Rattle.std.specs.List.{list_all}
use Rattle.std.specs.Char.{is_digit}
use Rattle.std.specs.Str.Parse.{digits_value, without_leading_plus}

-- one or more decimal digits, and nothing else
abbrev pub is_numeral : List ℕ → Bool
is_numeral digits = nat_lt 0 (length digits) && list_all (λ c. is_digit c 10) digits

-- the number of 32 bits that a text writes; a plus may come first
abbrev pub number_if : List ℕ → Option ℕ
number_if digits = if is_numeral digits && nat_lt (digits_value 10 digits) (2 ^ 32) then Some (digits_value 10 digits) else None

unfoldable pub number_in_text : List ℕ → Option ℕ
number_in_text text = number_if (without_leading_plus text)

-- the number, if it is from low to high
abbrev pub if_within : ℕ → ℕ → ℕ → Option ℕ
if_within low high number = if nat_le low number && nat_le number high then Some number else None

-- What a number token says.
use Rattle.std.specs.Prelude.{ℕ, ◌+◌, ◌-◌, ◌*◌, Bool, ◌&&◌, List, [], ◌∷◌, drop, slice_index, nat_le, nat_lt, ◌==◌, if◌then◌else◌, Option, Some, None, option_map, ℤ, pos, ◌-ℤ◌}
use Rattle.src_text.specs.Byte.{is_digit, is_minus}

-- the value of a digit of base 16 of either case, and 16 for every other byte
abbrev pub digit_of : ℕ → ℕ
digit_of b =
    if is_digit b then b - 48
    else (if nat_le 97 b && nat_le b 102 then b - 87
    else (if nat_le 65 b && nat_le b 70 then b - 55
    else 16))

-- the value of digits in a base, after digits with the value v; none if a byte isn't a digit of that base
abbrev pub value_after : ℕ → ℕ → List ℕ → Option ℕ
value_after base v [] = Some v
value_after base v (b ∷ bs) = if nat_lt (digit_of b) base then value_after base (v * base + digit_of b) bs else None

-- the value of one or more digits
abbrev pub value_of : ℕ → List ℕ → Option ℕ
value_of base [] = None
value_of base (b ∷ bs) = value_after base 0 (b ∷ bs)

-- whether the bytes begin with `0x`
abbrev pub has_prefix : List ℕ → Bool
has_prefix bs = slice_index bs 0 == 48 && slice_index bs 1 == 120

-- decimal digits, or `0x` and hexadecimal digits
abbrev pub magnitude_of : List ℕ → Option ℕ
magnitude_of bs = if has_prefix bs then value_of 16 (drop 2 bs) else value_of 10 bs

-- the value, if it is at most the given one
abbrev pub if_at_most : ℕ → Option ℕ → Option ℕ
if_at_most most None = None
if_at_most most (Some v) = if nat_le v most then Some v else None

abbrev pub negated : ℕ → ℤ
negated v = pos 0 -ℤ pos v

-- the value of a number token, from -2147483648 to 4294967295; none if the bytes aren't such a number
abbrev pub number_of : List ℕ → Option ℤ
number_of bs =
    if is_minus (slice_index bs 0) then option_map negated (if_at_most 2147483648 (magnitude_of (drop 1 bs)))
    else option_map pos (if_at_most 4294967295 (magnitude_of bs))

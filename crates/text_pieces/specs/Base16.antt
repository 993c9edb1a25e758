-- Numbers of 32 bits in base 16.
use Rattle.std.specs.Prelude.{ℕ, ◌+◌, ◌*◌, ◌-◌, ◌%◌, ◌^◌, ◌<◌, nat_le, List, get_or, if◌then◌else◌}

abbrev pub IsWord : ℕ → Type 0
IsWord n = n < 2 ^ 32

-- the value of a digit of base 16; for any other byte some value below 16
abbrev pub digit_of : ℕ → ℕ
digit_of byte = if nat_le byte 57 then byte % 16 else (byte - 48 + 9) % 16

-- the number whose digits are the third to the tenth byte, if these are digits
unfoldable pub seems_word : List ℕ → ℕ
seems_word bytes =
    digit_of (get_or bytes 2 0) * 268435456 + digit_of (get_or bytes 3 0) * 16777216 + digit_of (get_or bytes 4 0) * 1048576 + digit_of (get_or bytes 5 0) * 65536
    + digit_of (get_or bytes 6 0) * 4096 + digit_of (get_or bytes 7 0) * 256 + digit_of (get_or bytes 8 0) * 16 + digit_of (get_or bytes 9 0)

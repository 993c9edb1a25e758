-- The bytes that a source text is made of.
use Rattle.std.specs.Prelude.{ℕ, Bool, not, ◌&&◌, ◌||◌, nat_le, ◌==◌}

abbrev pub is_newline : ℕ → Bool
is_newline b = b == 10

-- space, tab and carriage return
abbrev pub is_blank : ℕ → Bool
is_blank b = b == 32 || b == 9 || b == 13

-- `#`, which begins a comment
abbrev pub is_hash : ℕ → Bool
is_hash b = b == 35

abbrev pub is_letter : ℕ → Bool
is_letter b = (nat_le 65 b && nat_le b 90) || (nat_le 97 b && nat_le b 122)

abbrev pub is_digit : ℕ → Bool
is_digit b = nat_le 48 b && nat_le b 57

-- a letter of either case, a digit, `_` or `.`: the bytes with which names and numbers go on
abbrev pub is_word : ℕ → Bool
is_word b = is_letter b || is_digit b || b == 95 || b == 46

abbrev pub is_minus : ℕ → Bool
is_minus b = b == 45

-- `,`, `:`, `(` and `)`, each a token by itself
abbrev pub is_mark : ℕ → Bool
is_mark b = b == 44 || b == 58 || b == 40 || b == 41

-- the bytes of tokens
abbrev pub is_token_byte : ℕ → Bool
is_token_byte b = is_word b || is_mark b || is_minus b

-- outside comments no other byte may stand
abbrev pub is_bad : ℕ → Bool
is_bad b = not (is_blank b || is_token_byte b)

-- The operands of a statement, by the indices of their tokens. If the operands have the form of a statement, each token that is
-- asked for is there and of the right kind. The values for missing tokens are never used for a line of good form.
use Rattle.std.specs.Prelude.{ℕ, ℤ, pos, ◌&&◌, nat_le, List, [], length, slice_range, slice_index_or, Option, Some, None, if◌then◌else◌}
use Rattle.src_text.specs.Register.{register_of}
use Rattle.src_text.specs.declared.token.Token.{Token}
use Rattle.src_text.specs.declared.token.TokenKind as token
use Rattle.src_text.specs.declared.token.TokenKind.{TokenKind}

-- the bytes of a token; none if its positions aren't in the text
abbrev pub bytes_of : List ℕ → Token → List ℕ
bytes_of text t = if nat_le t.start t.end && nat_le t.end (length text) then slice_range text t.start t.end else []

-- the value for a missing token
abbrev pub no_token : Token
no_token = record { kind = token.TheVariants.Comma; start = 0; end = 0 }

abbrev pub token_at : List Token → ℕ → Token
token_at ts i = slice_index_or ts i no_token

abbrev pub number_of_kind : TokenKind → ℤ
number_of_kind (token.TheVariants.Number n) = n
number_of_kind _ = pos 0

abbrev pub number_at : List Token → ℕ → ℤ
number_at ts i = number_of_kind (token_at ts i).kind

abbrev pub register_number : Option ℕ → ℕ
register_number None = 0
register_number (Some n) = n

abbrev pub register_at : List ℕ → List Token → ℕ → ℕ
register_at text ts i = register_number (register_of (bytes_of text (token_at ts i)))

-- Part of a line, and the mark under it.
use Rattle.std.specs.Prelude.{ℕ, ◌+◌, ◌-◌, ◌<◌, ◌≤◌, ◌&&◌, ◌==◌, Bool, nat_le, List, [], ◌∷◌, ◌++◌, length, map, take, replicate, slice_range, Option, Some, None, codes, if◌then◌else◌}
use Rattle.std.specs.Fmt.{decimal}
use Rattle.text_pieces.specs.Pieces.{newline}
use Rattle.src_text.specs.Byte.{is_bad, is_hash}
use Rattle.src_text.specs.declared.token.Token.{Token}
use Rattle.src_text.specs.declared.token.Span.{Span}

-- the bytes from `start` to before `end`; none where they aren't some of these
abbrev pub bytes_between : List ℕ → ℕ → ℕ → List ℕ
bytes_between bytes start end = if nat_le start end && nat_le end (length bytes) then slice_range bytes start end else []

-- a part of the line: it has a byte, and ends within the line
abbrev pub IsPartOf : List ℕ → Span → Type 0
IsPartOf bytes p = (p.start < p.end) × (p.end ≤ length bytes)

-- a token as part of its line
abbrev pub part_by : Token → Span
part_by t = record { start = t.start; end = t.end }

-- what stands under a byte before the mark: a tab stays one, so that the mark stands under its part
abbrev pub blank_under : ℕ → ℕ
blank_under b = if b == 9 then 9 else 32

-- the line under a quoted one: `^` under each byte of the part
unfoldable pub mark_line : ℕ → List ℕ → Span → List ℕ
mark_line line bytes p =
    codes "  " ++ map blank_under (decimal line) ++ codes " | " ++ map blank_under (take p.start bytes) ++ replicate (p.end - p.start) 94 ++ newline

-- the bytes of a part, as sentences name it
unfoldable pub marked_text : List ℕ → Span → List ℕ
marked_text bytes p = codes "  `" ++ bytes_between bytes p.start p.end ++ codes "`"

-- the place of the first byte that may not stand outside of comments, where the first of these bytes has the place `place`
abbrev pub bad_place_from : ℕ → List ℕ → Option ℕ
bad_place_from place [] = None
bad_place_from place (b ∷ bs) = if is_hash b then None else (if is_bad b then Some place else bad_place_from (place + 1) bs)

-- a byte of a letter that takes several
abbrev pub is_high : ℕ → Bool
is_high b = nat_le 128 b

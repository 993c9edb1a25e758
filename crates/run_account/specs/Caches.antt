-- The cache of a core. Its sets have lines in the order of their last use, and each line is a word that is Shared or Owned.
use Rattle.std.specs.Prelude.{ℕ, ◌%◌, ◌==◌, nat_lt, Bool, not, List, [], ◌∷◌, ◌++◌, length, drop, slice_get, slice_set, slice_index_or, Option, Some, None, if◌then◌else◌}
use Rattle.std.specs.List.{filter}
use Rattle.dn_base.specs.declared.ids.WordId.{WordId}
use Rattle.run_account.specs.declared.cache.Line.{Line}
use Rattle.run_account.specs.declared.cache.Share.{Share}
use Rattle.run_account.specs.declared.cache.Share.TheVariants.{Shared}

-- ---- a set

-- whether a line is the word's
abbrev pub is_line_of : ℕ → Line → Bool
is_line_of w line = line.word.0 == w

-- what a set has of a word
abbrev pub share_in : ℕ → List Line → Option Share
share_in w [] = None
share_in w (line ∷ lines) = if is_line_of w line then Some line.share else share_in w lines

-- the set without the word
abbrev pub without_word : ℕ → List Line → List Line
without_word w lines = filter (λ (line : Line). not (is_line_of w line)) lines

-- a line that is Shared if it is the word's
abbrev pub as_shared : ℕ → Line → Line
as_shared w line = if is_line_of w line then record line { share = Shared } else line

-- the word is the most recently used one, with this share
abbrev pub most_recent : WordId → Share → List Line → List Line
most_recent word share lines = without_word word.0 lines ++ record { word = word; share = share } ∷ []

-- a set that has as many words as ways makes room: the least recently used goes
abbrev pub leaving : ℕ → List Line → Option Line
leaving ways lines = if nat_lt (length lines) ways then None else slice_get lines 0

abbrev pub with_room : ℕ → List Line → List Line
with_room ways lines = if nat_lt (length lines) ways then lines else drop 1 lines

-- ---- a cache: its sets

abbrev pub SharerCache : Type 0
SharerCache = List (List Line)

-- the set in which a word is, if the cache has it
abbrev pub set_of : SharerCache → ℕ → List Line
set_of cache w = slice_index_or cache (w % length cache) []

-- what a cache has of a word
abbrev pub share_at : SharerCache → ℕ → Option Share
share_at cache w = share_in w (set_of cache w)

-- the word's set becomes another one
abbrev pub word_set_changed : SharerCache → ℕ → (List Line → List Line) → SharerCache
word_set_changed cache w becomes = slice_set cache (w % length cache) (becomes (set_of cache w))

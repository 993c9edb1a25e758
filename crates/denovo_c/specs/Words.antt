-- The command words in a block of bytes.
use Rattle.std.specs.Prelude.{ℕ, List, [], ◌∷◌, ◌++◌, ◌==◌, length, if◌then◌else◌}
use Rattle.std.specs.Str.Lossy.{utf8_lossy}

-- the words of the block; `begun` is what was read of the first one
unfoldable pub block_words_from : List ℕ → List ℕ → List (List ℕ)
block_words_from begun [] = if length begun == 0 then [] else utf8_lossy begun ∷ []
block_words_from begun (byte ∷ rest) =
    if byte == 0 then utf8_lossy begun ∷ block_words_from [] rest else block_words_from (begun ++ byte ∷ []) rest

-- the words of a block, each ended by a zero byte; the last one may lack it
abbrev pub block_words : List ℕ → List (List ℕ)
block_words block = block_words_from [] block

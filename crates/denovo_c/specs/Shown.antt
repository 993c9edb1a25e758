-- What a buffer holds once bytes were copied to its start.
use Rattle.std.specs.Prelude.{ℕ, List, ◌++◌, length, take, drop}

-- the bytes, as far as the buffer has room, and then what the buffer held there
abbrev pub shown_in : List ℕ → List ℕ → List ℕ
shown_in bytes buffer = take (length buffer) bytes ++ drop (length bytes) buffer

-- The names that a source text may declare.
use Rattle.std.specs.Prelude.{ℕ, Bool, false, ◌&&◌, ◌||◌, ◌==◌, IsTrue, List, [], ◌∷◌}
use Rattle.std.specs.List.{All, list_all}
use Rattle.src_text.specs.Byte.{is_letter, is_word}

-- a letter or `_`, and then letters, digits, `_` and `.`
abbrev pub is_declared_name : List ℕ → Bool
is_declared_name [] = false
is_declared_name (b ∷ bs) = (is_letter b || b == 95) && list_all is_word bs

-- all names are such names
abbrev pub AreDeclaredNames : List (List ℕ) → Type 0
AreDeclaredNames names = All (λ (n : List ℕ). IsTrue (is_declared_name n)) names

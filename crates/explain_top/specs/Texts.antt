-- Texts with names, and what is read of one.
use Rattle.std.specs.Prelude.{◌≡◌, ℕ, ◌≤◌, List, length, take, Option, IfSome}

-- the state of the texts: the bytes of the text of each name, if they are told, and how many reads have failed
pub record TextsState : Type 0 where
  pub text : List ℕ → Option (List ℕ)
  pub faults : ℕ

abbrev pub texts_at : (List ℕ → Option (List ℕ)) → ℕ → TextsState
texts_at text faults = record { text = text; faults = faults }

-- all of a text was read, or its first `most` bytes were
pub record IsTextRead (told : Option (List ℕ)) (most : ℕ) (found : List ℕ) : Type 0 where
  pub within : length found ≤ most
  pub front : IfSome told (λ all. found ≡ take most all)

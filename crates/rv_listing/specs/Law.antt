-- When the listing of a program is a valid source text.
use Rattle.std.specs.Prelude.{ℕ, ◌≤◌, List, length}
use Rattle.std.specs.List.{All}
pub use Rattle.region_table.specs.Numbers.{AreCodeWords, AreCanonical, IsOfWords, HasWords}
pub use Rattle.rv_assembler.specs.Names.{is_declared_name, AreDeclaredNames}
use Rattle.dn_base.specs.declared.limits.TheConstants.{MOST_OF_TEXT}
use Rattle.rv_listing.specs.Listing.{text_of}

-- the lines are within the limits of a source text
pub record FitsSourceLimits (ls : List (List ℕ)) : Type 0 where
  pub bytes : length (text_of ls) ≤ MOST_OF_TEXT
  pub lines : length ls ≤ 65536
  pub line : All (λ (l : List ℕ). length l ≤ 1024) ls

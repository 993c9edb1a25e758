-- Where a data word stands in an answer for readers.
use Rattle.std.specs.Prelude.{◌≡◌, ℕ, List, Some, slice_get}
use Rattle.region_table.specs.declared.declared.Region.{Region}
use Rattle.text_places.specs.declared.words.WordPlace.{WordPlace}
use Rattle.text_places.specs.Words.{word_place}
use Rattle.state_text.specs.ForReaders.{words_under}

-- the data word w has this value, and stands with it under the region that has it, at its index there
pub record IsUnderItsRegion (regions : List Region) (memory : List ℕ) (w value : ℕ) : Type 0 where
  pub place : WordPlace
  pub found : word_place regions w ≡ Some place
  pub region : Region
  pub numbered : slice_get regions place.region ≡ Some region
  pub stands : slice_get (words_under memory region) place.index ≡ Some value

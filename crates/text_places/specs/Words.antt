-- Which word of which region a data word is, and which task a core has in a phase.
use Rattle.std.specs.Prelude.{◌≡◌, ℕ, zero, suc, ◌+◌, ◌-◌, ◌<◌, Bool, ◌&&◌, ◌==◌, nat_le, nat_lt, List, [], ◌∷◌, Option, Some, None, slice_get, if◌then◌else◌}
use Rattle.region_table.specs.declared.declared.Region.{Region}
use Rattle.text_places.specs.declared.places.TaskPlace.{TaskPlace}
use Rattle.text_places.specs.declared.words.WordPlace.{WordPlace}

abbrev pub region_has : Region → ℕ → Bool
region_has r w = nat_le r.start w && nat_lt (w - r.start) r.len

-- the word in the first region of the list that has it; the list's first region has the number `number`
abbrev pub word_place_from : ℕ → List Region → ℕ → Option WordPlace
word_place_from number [] w = None
word_place_from number (r ∷ rs) w =
    if region_has r w then Some (record { region = number; index = w - r.start }) else word_place_from (number + 1) rs w

abbrev pub word_place : List Region → ℕ → Option WordPlace
word_place regions w = word_place_from 0 regions w

-- the word in the region of this number, if there is such a region and it has the word
abbrev pub place_at : ℕ → Option Region → ℕ → Option WordPlace
place_at number None w = None
place_at number (Some r) w = if region_has r w then Some (record { region = number; index = w - r.start }) else None

-- the word in the last of the first `many` regions, if that one has it; the list's first region has the number `number`
abbrev pub place_before : ℕ → List Region → ℕ → ℕ → Option WordPlace
place_before number rs zero w = None
place_before number rs (suc k) w = place_at (number + k) (slice_get rs k) w

-- the data word w is this word of this region
pub record IsWordPlace (regions : List Region) (w : ℕ) (place : WordPlace) : Type 0 where
  pub region : Region
  pub numbered : slice_get regions place.region ≡ Some region
  pub word : w ≡ region.start + place.index
  pub within : place.index < region.len

abbrev pub is_task_of : ℕ → ℕ → TaskPlace → Bool
is_task_of phase core t = t.phase == phase && t.core == core

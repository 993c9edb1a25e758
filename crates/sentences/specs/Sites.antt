-- Where an address of data is: in a word of a region, before the first region, or behind the last one.
use Rattle.std.specs.Prelude.{ℕ, ◌-◌, ◌/◌, ◌==◌, nat_lt, List, [], length, Option, Some, None, slice_get, if◌then◌else◌}
use Rattle.region_table.specs.declared.declared.Region.{Region}
use Rattle.text_places.specs.declared.words.WordPlace.{WordPlace}
use Rattle.text_places.specs.Words.{word_place}
use Rattle.sentences.specs.declared.sites.Site.{Site}
use Rattle.sentences.specs.declared.sites.Site.TheVariants.{Within, Before, Behind, Nowhere}

-- where the region, which has this number and is the last one, would have a word
abbrev pub site_behind : ℕ → ℕ → Option Region → Site
site_behind number w None = Nowhere
site_behind number w (Some r) = Behind number (w - r.start)

abbrev pub site_of_word : List Region → ℕ → Option WordPlace → Site
site_of_word regions w (Some place) = Within w place
site_of_word regions w None = site_behind (length regions - 1) w (slice_get regions (length regions - 1))

abbrev pub site_of : List Region → ℕ → Site
site_of regions a =
    if length regions == 0 then Nowhere
    else (if nat_lt a 0x10000000 then Before (0x10000000 - a)
    else site_of_word regions ((a - 0x10000000) / 4) (word_place regions ((a - 0x10000000) / 4)))

-- the name of a region, and how many words it has; the name of a lock
abbrev pub name_of : Option Region → List ℕ
name_of None = []
name_of (Some r) = r.name

abbrev pub len_of : Option Region → ℕ
len_of None = 0
len_of (Some r) = r.len

abbrev pub lock_name : Option (List ℕ) → List ℕ
lock_name None = []
lock_name (Some name) = name

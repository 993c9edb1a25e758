-- In regions that lie one behind the other each word is one of a region.
use Rattle.std.proofs.Common.{◌≡◌, ℕ, suc, ◌+◌, ◌-◌, ◌<◌, ◌≤◌, Bool, true, false, cond, ◌&&◌, nat_lt, nat_le, List, [], ◌∷◌, Some, refl, ap, ◌∙◌, ⊎_elim, slice_get, lt-ltb, le-leb, arith}
use Rattle.std.proofs.lemmas.Bool.{cases_lt, and_from, le-ltb}
use Rattle.region_table.specs.declared.declared.Region.{Region}
use Rattle.region_table.specs.Program.{AreTiled}
use Rattle.text_places.specs.declared.words.WordPlace.{WordPlace}
use Rattle.text_places.specs.Words.{region_has, word_place_from, word_place, IsWordPlace}

record IsFound (number : ℕ) (rs : List Region) (w : ℕ) : Type 0 where
  pub place : WordPlace
  pub found : word_place_from number rs w ≡ Some place
  pub behind : ℕ
  pub number_is : place.region ≡ number + behind
  pub region : Region
  pub numbered : slice_get rs behind ≡ Some region
  pub word : w ≡ region.start + place.index
  pub within : place.index < region.len

both-false : (a b : Bool) → b ≡ false → (a && b) ≡ false
both-false true b e = e
both-false false b e = refl

word-found : (number from : ℕ) (rs : List Region) (end w : ℕ) → AreTiled from rs end → from ≤ w → w < end → IsFound number rs w
word-found number from [] end w tiled low high = let same : from ≡ end = tiled in absurd (omega arith)
word-found number from (r ∷ rs) end w tiled low high =
    let start : r.start ≡ from = tiled.0 in
    let from_start : r.start ≤ w = omega arith in
    ⊎_elim
    (λ (h : w - r.start < r.len).
    let has : region_has r w ≡ true = and_from (nat_le r.start w) (nat_lt (w - r.start) r.len) (le-leb r.start w from_start) (lt-ltb (w - r.start) r.len h) in
    record {
      place = record { region = number; index = w - r.start };
      found = ap (λ (b : Bool). cond b (Some (record { region = number; index = w - r.start })) (word_place_from (number + 1) rs w)) has;
      behind = 0;
      number_is = omega arith;
      region = r;
      numbered = refl;
      word = omega arith;
      within = h;
    })
    (λ (h : r.len ≤ w - r.start).
    let not_here : region_has r w ≡ false = both-false (nat_le r.start w) (nat_lt (w - r.start) r.len) (le-ltb (w - r.start) r.len h) in
    let rest = word-found (number + 1) (r.start + r.len) rs end w tiled.2 (omega arith) high in
    let count = rest.number_is in
    record {
      place = rest.place;
      found = ap (λ (b : Bool). cond b (Some (record { region = number; index = w - r.start })) (word_place_from (number + 1) rs w)) not_here ∙ rest.found;
      behind = suc rest.behind;
      number_is = omega arith;
      region = rest.region;
      numbered = rest.numbered;
      word = rest.word;
      within = rest.within;
    })
    (cases_lt (w - r.start) r.len)

pub each-word : (rs : List Region) (words w : ℕ) → AreTiled 0 rs words → w < words → (place : WordPlace) × (word_place rs w ≡ Some place) × IsWordPlace rs w place
each-word rs words w tiled low =
    let f = word-found 0 0 rs words w tiled (omega arith) low in
    let same : f.place.region ≡ f.behind = let n = f.number_is in omega arith in
    (f.place, f.found, record { region = f.region; numbered = ap (λ (k : ℕ). slice_get rs k) same ∙ f.numbered; word = f.word; within = f.within })

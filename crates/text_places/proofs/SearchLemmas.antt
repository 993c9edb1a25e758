-- In regions that lie one behind the other, the one that has a word stands in front of the first that begins behind the word.
use Rattle.std.proofs.Common.{◌≡◌, ℕ, zero, suc, ◌+◌, ◌-◌, ◌<◌, ◌≤◌, Bool, true, false, cond, ◌&&◌, nat_lt, nat_le, List, [], ◌∷◌, Option, Some, None, refl, ap, ◌∙◌, slice_get, get_or, length, arith}
use Rattle.std.proofs.lemmas.Bool.{le-ltb, lt-leb}
use Rattle.region_table.specs.declared.declared.Region.{Region}
use Rattle.region_table.specs.Program.{AreTiled}
use Rattle.text_places.specs.declared.words.WordPlace.{WordPlace}
use Rattle.text_places.specs.Words.{region_has, word_place_from, place_at, place_before}

-- no region has a word in front of all of them
none-before : (number from : ℕ) (rs : List Region) (end w : ℕ) → AreTiled from rs end → w < from → word_place_from number rs w ≡ None
none-before number from [] end w tiled low = refl
none-before number from (r ∷ rs) end w tiled low =
    let start : r.start ≡ from = tiled.0 in
    let not_here : nat_le r.start w ≡ false = lt-leb r.start w (omega arith) in
    ap (λ (b : Bool). cond (b && nat_lt (w - r.start) r.len) (Some (record { region = number; index = w - r.start })) (word_place_from (number + 1) rs w)) not_here
    ∙ none-before (number + 1) (r.start + r.len) rs end w tiled.2 (omega arith)

both-false : (a b : Bool) → b ≡ false → (a && b) ≡ false
both-false true b e = e
both-false false b e = refl

-- no region but the first has a word, where the next one begins behind the word
none-behind : (number from : ℕ) (rs : List Region) (end w : ℕ) → AreTiled from rs end → ((k : ℕ) (d : Region) → k < length rs → w < (get_or rs k d).start)
    → word_place_from number rs w ≡ None
none-behind number from [] end w tiled behind = refl
none-behind number from (r ∷ rs) end w tiled behind =
    let start : r.start ≡ from = tiled.0 in
    let low : w < r.start = behind 0 r (omega arith) in
    none-before number from (r ∷ rs) end w tiled (omega arith)

not-here : (r : Region) (w : ℕ) → r.start + r.len ≤ w → region_has r w ≡ false
not-here r w past = both-false (nat_le r.start w) (nat_lt (w - r.start) r.len) (le-ltb (w - r.start) r.len (omega arith))

-- so many regions begin at or before a word, and the others behind it
pub found-is : (number from : ℕ) (rs : List Region) (end w many : ℕ) → AreTiled from rs end → many ≤ length rs
    → ((k : ℕ) (d : Region) → k < many → (get_or rs k d).start ≤ w) → ((k : ℕ) (d : Region) → many ≤ k → k < length rs → w < (get_or rs k d).start)
    → word_place_from number rs w ≡ place_before number rs many w
found-is number from rs end w zero tiled within before behind = none-behind number from rs end w tiled (λ k d h. behind k d (omega arith) h)
found-is number from [] end w (suc many) tiled within before behind = absurd (omega arith)
found-is number from (r ∷ rs) end w (suc zero) tiled within before behind =
    let rest = none-behind (number + 1) (r.start + r.len) rs end w tiled.2 (λ k d h. behind (suc k) d (omega arith) (omega arith)) in
    let same : number ≡ number + zero = omega arith in
    ap (λ (o : Option WordPlace). cond (region_has r w) (Some (record { region = number; index = w - r.start })) o) rest
    ∙ ap (λ (n : ℕ). place_at n (Some r) w) same
found-is number from (r ∷ []) end w (suc (suc many)) tiled within before behind = absurd (omega arith)
found-is number from (r ∷ q ∷ rs) end w (suc (suc many)) tiled within before behind =
    let next : q.start ≡ r.start + r.len = tiled.2.0 in
    let low : q.start ≤ w = before 1 q (omega arith) in
    let same : number + 1 + many ≡ number + suc many = omega arith in
    ap (λ (b : Bool). cond b (Some (record { region = number; index = w - r.start })) (word_place_from (number + 1) (q ∷ rs) w)) (not-here r w (omega arith))
    ∙ found-is (number + 1) (r.start + r.len) (q ∷ rs) end w (suc many) tiled.2 (omega arith) (λ k d h. before (suc k) d (omega arith)) (λ k d l h. behind (suc k) d (omega arith) (omega arith))
    ∙ ap (λ (n : ℕ). place_at n (slice_get (q ∷ rs) many) w) same

-- each region begins behind those in front of it
pub starts_past : (from : ℕ) (rs : List Region) (end : ℕ) → AreTiled from rs end → (k : ℕ) (d : Region) → k < length rs → from ≤ (get_or rs k d).start
starts_past from [] end tiled k d h = absurd (omega arith)
starts_past from (r ∷ rs) end tiled zero d h = let start : r.start ≡ from = tiled.0 in omega arith
starts_past from (r ∷ rs) end tiled (suc k) d h =
    let start : r.start ≡ from = tiled.0 in
    let e = starts_past (r.start + r.len) rs end tiled.2 k d (omega arith) in
    omega arith

pub starts_rise : (from : ℕ) (rs : List Region) (end : ℕ) → AreTiled from rs end
    → (k j : ℕ) (d : Region) → k ≤ j → j < length rs → (get_or rs k d).start ≤ (get_or rs j d).start
starts_rise from [] end tiled k j d l h = absurd (omega arith)
starts_rise from (r ∷ rs) end tiled zero zero d l h = omega arith
starts_rise from (r ∷ rs) end tiled zero (suc j) d l h =
    let e = starts_past (r.start + r.len) rs end tiled.2 j d (omega arith) in
    omega arith
starts_rise from (r ∷ rs) end tiled (suc k) zero d l h = absurd (omega arith)
starts_rise from (r ∷ rs) end tiled (suc k) (suc j) d l h = starts_rise (r.start + r.len) rs end tiled.2 k j d (omega arith) (omega arith)

-- The words under adjacent regions are those of the memory, each in its place.
use Rattle.std.proofs.Common.{◌≡◌, ℕ, zero, suc, ◌+◌, ◌<◌, List, [], ◌∷◌, ◌++◌, length, take, drop, flat_map, slice_get, Some, refl, sym, ap, ◌∙◌, arith}
use Rattle.std.proofs.Math.Seq.{drop-length}
use Rattle.std.proofs.lemmas.List.{take-append-drop, drop_all}
use Rattle.std.proofs.lemmas.Option.{slice_get_within}
use Rattle.region_table.specs.declared.declared.Region.{Region}
use Rattle.region_table.specs.Program.{AreTiled}
use Rattle.text_places.proofs.WordLemmas.{each-word}
use Rattle.state_text.specs.ForReaders.{words_under}
use Rattle.state_text.specs.Words.{IsUnderItsRegion}

drop-sum : (a b : ℕ) (xs : List ℕ) → drop (a + b) xs ≡ drop b (drop a xs)
drop-sum zero b xs = let none : 0 + b ≡ b = omega arith in ap (λ (n : ℕ). drop n xs) none
drop-sum (suc a) b [] = drop_all (suc a + b) [] (omega arith) ∙ sym (drop_all b [] (omega arith))
drop-sum (suc a) b (x ∷ xs) = let one : suc a + b ≡ suc (a + b) = omega arith in ap (λ (n : ℕ). drop n (x ∷ xs)) one ∙ drop-sum a b xs

pub all-words : (memory : List ℕ) (from : ℕ) (rs : List Region) → AreTiled from rs (length memory) → flat_map (words_under memory) rs ≡ drop from memory
all-words memory from [] tiled = sym (drop-length memory) ∙ ap (λ (n : ℕ). drop n memory) (sym tiled)
all-words memory from (r ∷ rs) tiled =
    let rest = all-words memory (r.start + r.len) rs tiled.2 in
    ap (λ (ws : List ℕ). words_under memory r ++ ws) (rest ∙ drop-sum r.start r.len memory)
    ∙ take-append-drop r.len (drop r.start memory)
    ∙ ap (λ (n : ℕ). drop n memory) tiled.0

get-drop : (a i : ℕ) (xs : List ℕ) → slice_get (drop a xs) i ≡ slice_get xs (a + i)
get-drop zero i xs = let none : i ≡ 0 + i = omega arith in ap (λ (n : ℕ). slice_get xs n) none
get-drop (suc a) i [] = refl
get-drop (suc a) i (x ∷ xs) = let one : suc (a + i) ≡ suc a + i = omega arith in get-drop a i xs ∙ ap (λ (n : ℕ). slice_get (x ∷ xs) n) one

get-take : (n i : ℕ) (xs : List ℕ) → i < n → slice_get (take n xs) i ≡ slice_get xs i
get-take zero i xs within = absurd (omega (arith, within))
get-take (suc n) i [] within = refl
get-take (suc n) zero (x ∷ xs) within = refl
get-take (suc n) (suc i) (x ∷ xs) within = get-take n i xs (omega (arith, within))

pub word-stands : (rs : List Region) (memory : List ℕ) (w value : ℕ) → AreTiled 0 rs (length memory) → slice_get memory w ≡ Some value → IsUnderItsRegion rs memory w value
word-stands rs memory w value tiled here =
    let at = each-word rs (length memory) w tiled (slice_get_within memory w value here) in
    let place = at.0 in
    let of = at.2 in
    let stands = get-take of.region.len place.index (drop of.region.start memory) of.within
    ∙ get-drop of.region.start place.index memory
    ∙ ap (λ (n : ℕ). slice_get memory n) (sym of.word)
    ∙ here in
    record { place = place; found = at.1; region = of.region; numbered = of.numbered; stands = stands }

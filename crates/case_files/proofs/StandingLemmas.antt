-- How parts stand in bytes where there are more than one.
use Rattle.std.proofs.Common.{◌≡◌, ◌≢◌, ℕ, ◌+◌, ◌<◌, ◌≤◌, min, List, [], ◌∷◌, length, take, drop, refl, sym, ap, subst, ◌∙◌, arith}
use Rattle.std.proofs.lemmas.List.{length-take}
use Rattle.case_files.specs.Standing.{StandIn, BeginsLine, BehindLines}

pub more-parts : (part : List ℕ) (others : List (List ℕ)) (bytes : List ℕ) → others ≢ [] → StandIn (part ∷ others) bytes
    → (take (length part) bytes ≡ part) × BehindLines (StandIn others) (drop (length part) bytes)
more-parts part [] bytes some _ = absurd (some refl)
more-parts part (next ∷ others) bytes _ stands = stands

pub more-parts_stand : (part : List ℕ) (others : List (List ℕ)) (bytes : List ℕ) → others ≢ []
    → take (length part) bytes ≡ part → BehindLines (StandIn others) (drop (length part) bytes) → StandIn (part ∷ others) bytes
more-parts_stand part [] bytes some _ _ = absurd (some refl)
more-parts_stand part (next ∷ others) bytes _ front behind = (front, behind)

-- a part that stands at the front isn't longer than the bytes
pub front-fits : (part bytes : List ℕ) → take (length part) bytes ≡ part → length part ≤ length bytes
front-fits part bytes front =
    let short : length part ≡ min (length part) (length bytes) = sym (ap length front) ∙ length-take (length part) bytes in
    grind (arith, short)

-- the others stand behind the first k bytes of what follows the part at the front
pub stands-here : (parts : List (List ℕ)) (part : List ℕ) (others : List (List ℕ)) (bytes rest : List ℕ) (k : ℕ) → parts ≡ part ∷ others
    → others ≢ [] → take (length part) bytes ≡ part → rest ≡ drop (length part) bytes → k ≤ length rest
    → BeginsLine rest k → StandIn others (drop k rest) → StandIn parts bytes
stands-here parts part others bytes rest k are some front is within begins stands =
    let Stands : List (List ℕ) → Type 0 = λ all. StandIn all bytes in
    let Behind : List ℕ → Type 0 = BehindLines (StandIn others) in
    subst Stands (sym are) (more-parts_stand part others bytes some front (subst Behind is (k, within, begins, stands)))

-- they stand nowhere behind it
pub stands-nowhere : (parts : List (List ℕ)) (part : List ℕ) (others : List (List ℕ)) (bytes rest : List ℕ) → parts ≡ part ∷ others
    → others ≢ [] → rest ≡ drop (length part) bytes
    → ((k : ℕ) → k < length rest + 1 → BeginsLine rest k → StandIn others (drop k rest) → ⊥) → StandIn parts bytes → ⊥
stands-nowhere parts part others bytes rest are some is nowhere stands =
    let Stands : List (List ℕ) → Type 0 = λ all. StandIn all bytes in
    let Behind : List ℕ → Type 0 = BehindLines (StandIn others) in
    let more = more-parts part others bytes some (subst Stands are stands) in
    let behind : Behind rest = subst Behind (sym is) more.1 in
    let near : behind.0 < length rest + 1 = omega (arith, behind.1) in
    nowhere behind.0 near behind.2 behind.3

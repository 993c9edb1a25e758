-- A set of words that is cut at the borders of regions is the same set.
use Rattle.std.proofs.Common.{◌≡◌, ℕ, ◌+◌, ◌<◌, ◌≤◌, min, max, Bool, true, false, cond, leb, ltb, ◌&&◌, ◌||◌, List, [], ◌∷◌, Option, Some, None, refl, sym, ap, ◌∙◌, arith, ⊎_elim}
use Rattle.std.specs.List.{All, filter_map, cons_option, flat_map}
use Rattle.std.proofs.lemmas.Bool.{cases_lt, lt-ltb, le-ltb}
use Rattle.std.proofs.lemmas.Bool.Decides.{nat_tests}
use Rattle.std.proofs.lemmas.List.Elements.{All-nil, All-cons, All-append, All-head, All-tail}
use Rattle.region_table.specs.declared.interval.Interval.{Interval}
use Rattle.region_table.specs.declared.declared.Region.{Region}
use Rattle.region_table.specs.Words.{in_interval, has, IsCanonical}
use Rattle.region_table.specs.Program.{AreTiled, LiesIn}
use Rattle.region_table.proofs.WordLemmas.{has-append}
use Rattle.rv_assembler.specs.Union.{united}
use Rattle.rv_assembler.proofs.UnionLemmas.{IsSome, united-only}

-- the part of an interval in a region
abbrev pub cut_part : Interval → Region → Option Interval
cut_part i r =
    let lo = max i.lo r.start in
    let hi = min i.hi (r.start + r.len) in
    cond (ltb lo hi) (Some (record { lo = lo; hi = hi })) None

abbrev pub cut_parts : List Region → Interval → List Interval
cut_parts rs i = filter_map (cut_part i) rs

abbrev pub cut_set : List Region → List Interval → List Interval
cut_set rs set = flat_map (cut_parts rs) set

-- the words from one on to before another
abbrev pub between : ℕ → ℕ → ℕ → Bool
between from end w = leb from w && ltb w end

part-words : (i : Interval) (from end : ℕ) (xs : List Interval) (w : ℕ)
    → has (cons_option (cond (ltb (max i.lo from) (min i.hi end)) (Some (record { lo = max i.lo from; hi = min i.hi end })) None) xs) w ≡ ((in_interval i w && between from end w) || has xs w)
part-words i from end xs w =
    ⊎_elim
    (λ (l : max i.lo from < min i.hi end).
    let e : (leb (max i.lo from) w && ltb w (min i.hi end)) ≡ ((leb i.lo w && ltb w i.hi) && (leb from w && ltb w end)) = grind (arith, nat_tests) in
    rw (lt-ltb (max i.lo from) (min i.hi end) l) (ap (λ (b : Bool). b || has xs w) e))
    (λ (l : min i.hi end ≤ max i.lo from).
    let e : false ≡ ((leb i.lo w && ltb w i.hi) && (leb from w && ltb w end)) = grind (arith, nat_tests) in
    rw (le-ltb (max i.lo from) (min i.hi end) l) (ap (λ (b : Bool). b || has xs w) e))
    (cases_lt (max i.lo from) (min i.hi end))

join-words : (a : Bool) (from mid end w : ℕ) → from ≤ mid → mid ≤ end → ((a && between from mid w) || (a && between mid end w)) ≡ (a && between from end w)
join-words true from mid end w l m = grind (arith, nat_tests)
join-words false from mid end w l m = refl

none-words : (a : Bool) (from w : ℕ) → false ≡ (a && between from from w)
none-words true from w = grind (arith, nat_tests)
none-words false from w = refl

tiled-rises : (from : ℕ) (rs : List Region) (end : ℕ) → AreTiled from rs end → from ≤ end
tiled-rises from [] end t = omega arith
tiled-rises from (r ∷ rs) end t = let e = tiled-rises (r.start + r.len) rs end t.2 in omega arith

parts-words : (i : Interval) (from : ℕ) (rs : List Region) (end w : ℕ) → AreTiled from rs end → has (cut_parts rs i) w ≡ (in_interval i w && between from end w)
parts-words i from [] end w t = none-words (in_interval i w) from w ∙ ap (λ (e : ℕ). in_interval i w && between from e w) t
parts-words i from (r ∷ rs) end w t =
    let a = in_interval i w in
    let mid = r.start + r.len in
    part-words i r.start mid (cut_parts rs i) w
    ∙ ap (λ (b : Bool). (a && between r.start mid w) || b) (parts-words i mid rs end w t.2)
    ∙ join-words a r.start mid end w (omega arith) (tiled-rises mid rs end t.2)
    ∙ ap (λ (f : ℕ). a && between f end w) t.0

whole-words : (i : Interval) (end w : ℕ) → i.hi ≤ end → (in_interval i w && between 0 end w) ≡ in_interval i w
whole-words i end w l = grind (arith, nat_tests)

pub set-words : (rs : List Region) (end : ℕ) (set : List Interval) (w : ℕ) → AreTiled 0 rs end → LiesIn end set → has (cut_set rs set) w ≡ has set w
set-words rs end [] w t h = refl
set-words rs end (i ∷ is) w t h =
    let l : i.hi ≤ end = All-head (λ (j : Interval). j.hi ≤ end) i is h in
    has-append (cut_parts rs i) (cut_set rs is) w
    ∙ ap (λ (b : Bool). b || has (cut_set rs is) w) (parts-words i 0 rs end w t ∙ whole-words i end w l)
    ∙ ap (λ (b : Bool). in_interval i w || b) (set-words rs end is w t (All-tail (λ (j : Interval). j.hi ≤ end) i is h))

part-some : (end : ℕ) (i : Interval) (r : Region) (xs : List Interval) → r.start + r.len ≤ end → All (IsSome end) xs → All (IsSome end) (cons_option (cut_part i r) xs)
part-some end i r xs l a =
    ⊎_elim
    (λ (m : max i.lo r.start < min i.hi (r.start + r.len)).
    rw (lt-ltb (max i.lo r.start) (min i.hi (r.start + r.len)) m) (All-cons (IsSome end) (record { lo = max i.lo r.start; hi = min i.hi (r.start + r.len) }) xs (m, omega arith) a))
    (λ (m : min i.hi (r.start + r.len) ≤ max i.lo r.start). rw (le-ltb (max i.lo r.start) (min i.hi (r.start + r.len)) m) a)
    (cases_lt (max i.lo r.start) (min i.hi (r.start + r.len)))

parts-some : (i : Interval) (from : ℕ) (rs : List Region) (end : ℕ) → AreTiled from rs end → All (IsSome end) (cut_parts rs i)
parts-some i from [] end t = All-nil (IsSome end)
parts-some i from (r ∷ rs) end t =
    let e = tiled-rises (r.start + r.len) rs end t.2 in
    part-some end i r (cut_parts rs i) e (parts-some i (r.start + r.len) rs end t.2)

pub set-some : (rs : List Region) (end : ℕ) (set : List Interval) → AreTiled 0 rs end → All (IsSome end) (cut_set rs set)
set-some rs end [] t = All-nil (IsSome end)
set-some rs end (i ∷ is) t = All-append (IsSome end) (cut_parts rs i) (cut_set rs is) (parts-some i 0 rs end t) (set-some rs end is t)

-- the parts of a set, joined again, are the set
pub cut-united : (rs : List Region) (end : ℕ) (set : List Interval) → AreTiled 0 rs end → LiesIn end set → IsCanonical set → united (cut_set rs set) ≡ set
cut-united rs end set t h c = sym (united-only end (cut_set rs set) set (set-some rs end set t) c (λ w. sym (set-words rs end set w t h)))

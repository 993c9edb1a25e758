-- The parts of an interval in regions that lie one behind the other.
use Rattle.std.proofs.Common.{◌≡◌, ℕ, zero, suc, ◌+◌, ◌<◌, ◌≤◌, min, max, List, [], ◌∷◌, ◌++◌, length, get_or, drop, take, Option, Some, None, refl, sym, ap, ◌∙◌, append_assoc, append-nil, arith}
use Rattle.std.specs.List.{All, cons_option}
use Rattle.std.specs.Option.{option_to_list}
use Rattle.std.proofs.lemmas.Bool.{le-ltb}
use Rattle.std.proofs.lemmas.List.{drop_more, take_more}
use Rattle.std.proofs.lemmas.List.Concat.{flat_map-append}
use Rattle.std.proofs.lemmas.List.Elements.{All-head, All-tail, All-push}
use Rattle.src_text.specs.Laws.{ended}
use Rattle.region_table.specs.declared.interval.Interval.{Interval}
use Rattle.region_table.specs.declared.declared.Region.{Region}
use Rattle.region_table.specs.Program.{AreTiled}
use Rattle.rv_listing.specs.Listing.{text_of, part_line, interval_lines}

-- the region ends no later than a word
abbrev pub EndsBy : ℕ → Region → Type 0
EndsBy word r = r.start + r.len ≤ word

pub text-append : (a b : List (List ℕ)) → text_of (a ++ b) ≡ text_of a ++ text_of b
text-append a b = flat_map-append ended a b

cons-append : {X : Type 0} (o : Option X) (xs : List X) → cons_option o xs ≡ option_to_list o ++ xs
cons-append None xs = refl
cons-append (Some x) xs = refl

module _ (word : List ℕ) (lock : Option (List ℕ)) (i : Interval) where
  none-before : (r : Region) → EndsBy i.lo r → part_line word lock i r ≡ None
  none-before r l = rw (le-ltb (max i.lo r.start) (min i.hi (r.start + r.len)) (omega arith)) refl

  none-behind : (r : Region) → i.hi ≤ r.start → part_line word lock i r ≡ None
  none-behind r l = rw (le-ltb (max i.lo r.start) (min i.hi (r.start + r.len)) (omega arith)) refl

  -- regions that end before the interval have no part of it
  pub parts-passed : (k : ℕ) (rs : List Region) → All (EndsBy i.lo) (take k rs) → interval_lines word lock (drop k rs) i ≡ interval_lines word lock rs i
  parts-passed zero rs a = refl
  parts-passed (suc k) [] a = refl
  parts-passed (suc k) (r ∷ rs) a =
      let e : part_line word lock i r ≡ None = none-before r (All-head (EndsBy i.lo) r (take k rs) a) in
      parts-passed k rs (All-tail (EndsBy i.lo) r (take k rs) a)
      ∙ sym (ap (λ (o : Option (List ℕ)). cons_option o (interval_lines word lock rs i)) e)

  -- nor have those that begin behind it
  pub parts-behind : (from : ℕ) (rs : List Region) (end : ℕ) → AreTiled from rs end → i.hi ≤ from → interval_lines word lock rs i ≡ []
  parts-behind from [] end t l = refl
  parts-behind from (r ∷ rs) end t l =
      ap (λ (o : Option (List ℕ)). cons_option o (interval_lines word lock rs i)) (none-behind r (omega arith))
      ∙ parts-behind (r.start + r.len) rs end t.2 (omega arith)

  parts-next : (k : ℕ) (rs : List Region) (r : Region) → k < length rs → r ≡ get_or rs k r
      → interval_lines word lock (drop k rs) i ≡ option_to_list (part_line word lock i r) ++ interval_lines word lock (drop (k + 1) rs) i
  parts-next k rs r l e =
      ap (λ (xs : List Region). interval_lines word lock xs i) (drop_more rs k r l)
      ∙ ap (λ (x : Region). interval_lines word lock (x ∷ drop (k + 1) rs) i) (sym e)
      ∙ cons-append (part_line word lock i r) (interval_lines word lock (drop (k + 1) rs) i)

  pub part-more : (k : ℕ) (rs : List Region) (r : Region) (out new all : List ℕ) → k < length rs → r ≡ get_or rs k r → new ≡ out ++ text_of (option_to_list (part_line word lock i r))
      → out ++ text_of (interval_lines word lock (drop k rs) i) ≡ all → new ++ text_of (interval_lines word lock (drop (k + 1) rs) i) ≡ all
  part-more k rs r out new all l e n h =
      let rest = interval_lines word lock (drop (k + 1) rs) i in
      let here = option_to_list (part_line word lock i r) in
      ap (λ (x : List ℕ). x ++ text_of rest) n
      ∙ append_assoc out (text_of here) (text_of rest)
      ∙ ap (λ (x : List ℕ). out ++ x) (sym (text-append here rest))
      ∙ ap (λ (x : List (List ℕ)). out ++ text_of x) (sym (parts-next k rs r l e))
      ∙ h

-- what is left of tiled regions behind one of them is tiled from its end on
pub tiled-behind : (k from : ℕ) (rs : List Region) (end : ℕ) (r : Region) → AreTiled from rs end → k < length rs → r ≡ get_or rs k r → AreTiled (r.start + r.len) (drop (k + 1) rs) end
tiled-behind zero from [] end r t l e = absurd (omega arith)
tiled-behind (suc k) from [] end r t l e = absurd (omega arith)
tiled-behind zero from (x ∷ rs) end r t l e = rw e t.2
tiled-behind (suc k) from (x ∷ rs) end r t l e = let n : suc k + 1 ≡ suc (k + 1) = omega arith in rw n (tiled-behind k (x.start + x.len) rs end r t.2 (omega arith) e)

pub passed-more : (word k : ℕ) (rs : List Region) (r : Region) → k < length rs → r ≡ get_or rs k r → All (EndsBy word) (take k rs) → EndsBy word r → All (EndsBy word) (take (k + 1) rs)
passed-more word k rs r l e a h =
    let here : EndsBy word (get_or rs k r) = rw (sym e) h in
    rw (take_more rs k r l) (All-push (EndsBy word) (take k rs) (get_or rs k r) a here)

pub passed-later : (word later k : ℕ) (rs : List Region) → word ≤ later → All (EndsBy word) (take k rs) → All (EndsBy later) (take k rs)
passed-later word later k rs l a = λ j d s. let h : EndsBy word (get_or (take k rs) j d) = a j d s in omega arith

-- one region more, of which the interval has a part or not
pub part-last : (word : List ℕ) (lock : Option (List ℕ)) (i : Interval) (k : ℕ) (rs : List Region) (end : ℕ) (r : Region) (out new all : List ℕ) → AreTiled 0 rs end → k < length rs → r ≡ get_or rs k r
    → new ≡ out ++ text_of (option_to_list (part_line word lock i r)) → i.hi < r.start + r.len → out ++ text_of (interval_lines word lock (drop k rs) i) ≡ all → new ≡ all
part-last word lock i k rs end r out new all t l e n b h =
    let none : interval_lines word lock (drop (k + 1) rs) i ≡ [] = parts-behind word lock i (r.start + r.len) (drop (k + 1) rs) end (tiled-behind k 0 rs end r t l e) (omega arith) in
    let more : new ++ text_of (interval_lines word lock (drop (k + 1) rs) i) ≡ all = part-more word lock i k rs r out new all l e n h in
    sym (append-nil new) ∙ ap (λ (x : List (List ℕ)). new ++ text_of x) (sym none) ∙ more

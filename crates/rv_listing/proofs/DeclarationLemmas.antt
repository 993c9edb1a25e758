-- All regions and locks of a listing: what they add up to, and what their names mean.
use Rattle.std.proofs.Common.{◌≡◌, ℕ, ◌+◌, ◌-◌, ◌^◌, ◌<◌, ◌≤◌, min, Bool, true, false, cond, List, [], ◌∷◌, ◌++◌, length, map, Option, Some, refl, sym, ap, ◌∙◌, length-append, arith}
use Rattle.std.specs.Prelude.{ℤ, pos}
use Rattle.src_text.specs.declared.token.Token.{Token}
use Rattle.region_table.specs.declared.declared.Region.{Region}
use Rattle.region_table.specs.Program.{AreTiled}
use Rattle.rv_assembler.specs.declared.statement.Statement.{Statement}
use Rattle.rv_assembler.specs.declared.parsing.Reading.{Reading}
use Rattle.rv_assembler.specs.declared.names.Meaning.{Meaning}
use Rattle.rv_assembler.specs.declared.draft.Draft.{Draft}
use Rattle.rv_assembler.specs.declared.names.Count.{Count}
use Rattle.rv_assembler.specs.declared.statement.Statement as in_statement
use Rattle.rv_assembler.specs.declared.names.Meaning as in_meaning
use Rattle.rv_assembler.specs.Gathering.{more}
use Rattle.rv_assembler.specs.Operand.{bytes_of}
use Rattle.rv_assembler.specs.Counts.{region_words}
use Rattle.rv_assembler.specs.Gathering.{count_behind, meaning_in}
use Rattle.rv_assembler.specs.Fault.{most_regions}
use Rattle.rv_assembler.specs.Adding.{total}
use Rattle.rv_listing.proofs.ReadLemmas.{sayings}
use Rattle.rv_listing.proofs.RegionSection.{length-pos, region_statement, add_region, add_lock, IsWithin, total-region, total-lock}
use Rattle.rv_listing.proofs.NameSection.{Differs, region-other, region-same, lock-other, lock-same}

-- one statement for each region, of the token that names it
abbrev pub region_statements : List Token → List Region → List Statement
region_statements [] rs = []
region_statements (t ∷ ts) [] = []
region_statements (t ∷ ts) (r ∷ rs) = region_statement t r ∷ region_statements ts rs

abbrev pub RegionsNamed : List ℕ → List Token → List Region → Type 0
RegionsNamed text [] [] = Unit {0}
RegionsNamed text [] (r ∷ rs) = ⊥
RegionsNamed text (t ∷ ts) [] = ⊥
RegionsNamed text (t ∷ ts) (r ∷ rs) = (bytes_of text t ≡ r.name) × RegionsNamed text ts rs

-- the names mean these regions, numbered from one on
abbrev pub KnowRegions : (List ℕ → Option Meaning) → ℕ → List Region → Type 0
KnowRegions names k [] = Unit {0}
KnowRegions names k (r ∷ rs) = (names r.name ≡ Some (in_meaning.TheVariants.Region k r.start (pos r.len))) × KnowRegions names (k + 1) rs

abbrev pub add_regions : Draft → List Region → Draft
add_regions d [] = d
add_regions d (r ∷ rs) = add_regions (add_region d r) rs

tiled-end : (from : ℕ) (rs : List Region) (end : ℕ) → AreTiled from rs end → from ≤ end
tiled-end from [] end t = omega arith
tiled-end from (r ∷ rs) end t = let e = tiled-end (r.start + r.len) rs end t.2 in omega arith

most-within : (v : Bool) → most_regions v ≤ 4096
most-within true = omega arith
most-within false = omega arith

module _ (v : Bool) (text : List ℕ) (names : List ℕ → Option Meaning) where
  pub total-regions : (d : Draft) (n : ℕ) (ts : List Token) (rs : List Region) (left : List Reading) (end : ℕ) → RegionsNamed text ts rs → AreTiled d.count.words rs end → end ≤ 65536 → d.count.regions ≡ length d.regions
      → length d.regions + length rs ≤ most_regions v → KnowRegions names d.count.regions rs → IsWithin v d
      → total v text names d (sayings n (region_statements ts rs) ++ left) ≡ total v text names (add_regions d rs) left
  total-regions d n [] [] left end h t most c few k w = refl
  total-regions d n [] (r ∷ rs) left end h t most c few k w = absurd h
  total-regions d n (x ∷ ts) [] left end h t most c few k w = absurd h
  total-regions d n (x ∷ ts) (r ∷ rs) left end h t most c few k w =
      let e = tiled-end (r.start + r.len) rs end t.2 in
      let long : length (d.regions ++ r ∷ []) ≡ length d.regions + 1 = length-append d.regions (r ∷ []) in
      let m = most-within v in
      let begins : r.start + r.len ≡ d.count.words + r.len = omega arith in
      let tiled : AreTiled (d.count.words + r.len) rs end = rw begins at t.2 in
      let next : IsWithin v (add_region d r) = record { code = w.code; words = omega arith; regions = omega arith; locks = w.locks; phases = w.phases; tasks = w.tasks } in
      total-region v text names d n x r (sayings (n + 1) (region_statements ts rs) ++ left) h.0 (sym t.0) t.1 (omega arith) (omega arith) k.0 next
      ∙ total-regions (add_region d r) (n + 1) ts rs left end h.1 tiled most (omega arith) (omega arith) k.1 next

-- one name differs from others, and names differ from one another
abbrev pub DiffersFrom : List ℕ → List (List ℕ) → Type 0
DiffersFrom q [] = Unit {0}
DiffersFrom q (m ∷ ms) = Differs q m × DiffersFrom q ms

abbrev pub AreDistinct : List (List ℕ) → Type 0
AreDistinct [] = Unit {0}
AreDistinct (m ∷ ms) = DiffersFrom m ms × AreDistinct ms

abbrev pub region_names : List Region → List (List ℕ)
region_names rs = map (λ (r : Region). r.name) rs

-- two tables that agree on the names of regions
know-same : (f g : List ℕ → Option Meaning) (first : List ℕ) (k : ℕ) (rs : List Region) → ((q : List ℕ) → Differs first q → f q ≡ g q) → DiffersFrom first (region_names rs) → KnowRegions g k rs → KnowRegions f k rs
know-same f g first k [] h d w = tt
know-same f g first k (r ∷ rs) h d w = (h r.name d.0 ∙ w.0, know-same f g first (k + 1) rs h d.1 w.1)

count-region : (c : Count) (r : Region) (t : Token) → 0 < r.len → c.words + r.len ≤ 65536 → c.regions ≤ 4096 → count_behind c (region_statement t r) ≡ record { code = c.code; words = c.words + r.len; regions = c.regions + 1; locks = c.locks }
count-region c r t l m few =
    let long : region_words (pos r.len) ≡ r.len = ap (λ (b : Bool). cond b r.len 0) (length-pos r.len l (omega arith)) in
    let words : more c.words (region_words (pos r.len)) ≡ c.words + r.len = ap (more c.words) long ∙ (let s : min (c.words + r.len) (2 ^ 32 - 1) ≡ c.words + r.len = omega arith in s) in
    let count : more c.regions 1 ≡ c.regions + 1 = (let s : min (c.regions + 1) (2 ^ 32 - 1) ≡ c.regions + 1 = omega arith in s) in
    ap (λ (x : ℕ). let q : Count = record { code = c.code; words = x; regions = more c.regions 1; locks = c.locks } in q) words
    ∙ ap (λ (x : ℕ). let q : Count = record { code = c.code; words = c.words + r.len; regions = x; locks = c.locks } in q) count

same-meaning : (k k' s s' : ℕ) (z : ℤ) → k ≡ k' → s ≡ s' → Some (in_meaning.TheVariants.Region k s z) ≡ Some (in_meaning.TheVariants.Region k' s' z)
same-meaning k k' s s' z e f = ap (λ (x : ℕ). Some (in_meaning.TheVariants.Region x s z)) e ∙ ap (λ (x : ℕ). Some (in_meaning.TheVariants.Region k' x z)) f

-- the names of the regions mean them
pub know-regions : (text : List ℕ) (c : Count) (n : ℕ) (ts : List Token) (rs : List Region) (left : List Reading) (end : ℕ) → RegionsNamed text ts rs → AreTiled c.words rs end → end ≤ 65536 → c.regions + length rs ≤ 4096 → AreDistinct (region_names rs)
    → KnowRegions (meaning_in text c (sayings n (region_statements ts rs) ++ left)) c.regions rs
know-regions text c n [] [] left end h t most few d = tt
know-regions text c n [] (r ∷ rs) left end h t most few d = absurd h
know-regions text c n (x ∷ ts) [] left end h t most few d = absurd h
know-regions text c n (x ∷ ts) (r ∷ rs) left end h t most few d =
    let e = tiled-end (r.start + r.len) rs end t.2 in
    let begins : r.start + r.len ≡ c.words + r.len = omega arith in
    let tiled : AreTiled (c.words + r.len) rs end = rw begins at t.2 in
    let rest = sayings (n + 1) (region_statements ts rs) ++ left in
    let c' : Count = record { code = c.code; words = c.words + r.len; regions = c.regions + 1; locks = c.locks } in
    let next = know-regions text c' (n + 1) ts rs left end h.1 tiled most (omega arith) d.1 in (
      region-same text c n rest r.name x r h.0 refl ∙ same-meaning c.regions c.regions c.words r.start (pos r.len) refl (sym t.0),
      know-same (meaning_in text c (sayings n (region_statements (x ∷ ts) (r ∷ rs)) ++ left)) (meaning_in text c' rest) r.name (c.regions + 1) rs
          (λ q o. region-other text c n rest q x r h.0 o ∙ ap (λ (y : Count). meaning_in text y rest q) (count-region c r x t.1 (omega arith) (omega arith))) d.0 next,
    )

-- ---- locks, and names past the regions

abbrev pub EachDiffers : List ℕ → List Region → Type 0
EachDiffers q [] = Unit {0}
EachDiffers q (r ∷ rs) = Differs r.name q × EachDiffers q rs

same-count : (c : Count) (w r w' r' : ℕ) → w ≡ w' → r ≡ r' → (let q : Count = record { code = c.code; words = w; regions = r; locks = c.locks } in q) ≡ record { code = c.code; words = w'; regions = r'; locks = c.locks }
same-count c w r w' r' e f =
    ap (λ (x : ℕ). let q : Count = record { code = c.code; words = x; regions = r; locks = c.locks } in q) e
    ∙ ap (λ (x : ℕ). let q : Count = record { code = c.code; words = w'; regions = x; locks = c.locks } in q) f

pub skip-regions : (text : List ℕ) (c : Count) (n : ℕ) (ts : List Token) (rs : List Region) (left : List Reading) (end : ℕ) (q : List ℕ) → RegionsNamed text ts rs → AreTiled c.words rs end → end ≤ 65536 → c.regions + length rs ≤ 4096 → EachDiffers q rs
    → meaning_in text c (sayings n (region_statements ts rs) ++ left) q ≡ meaning_in text (record { code = c.code; words = end; regions = c.regions + length rs; locks = c.locks }) left q
skip-regions text c n [] [] left end q h t most few d =
    let f : c.regions ≡ c.regions + 0 = omega arith in
    ap (λ (y : Count). meaning_in text y left q) (same-count c c.words c.regions end (c.regions + 0) t f)
skip-regions text c n [] (r ∷ rs) left end q h t most few d = absurd h
skip-regions text c n (x ∷ ts) [] left end q h t most few d = absurd h
skip-regions text c n (x ∷ ts) (r ∷ rs) left end q h t most few d =
    let e = tiled-end (r.start + r.len) rs end t.2 in
    let begins : r.start + r.len ≡ c.words + r.len = omega arith in
    let tiled : AreTiled (c.words + r.len) rs end = rw begins at t.2 in
    let rest = sayings (n + 1) (region_statements ts rs) ++ left in
    let c' : Count = record { code = c.code; words = c.words + r.len; regions = c.regions + 1; locks = c.locks } in
    let f : c.regions + 1 + length rs ≡ c.regions + length (r ∷ rs) = omega arith in
    region-other text c n rest q x r h.0 d.0
    ∙ ap (λ (y : Count). meaning_in text y rest q) (count-region c r x t.1 (omega arith) (omega arith))
    ∙ skip-regions text c' (n + 1) ts rs left end q h.1 tiled most (omega arith) d.1
    ∙ ap (λ (y : Count). meaning_in text y left q) (same-count c end (c.regions + 1 + length rs) end (c.regions + length (r ∷ rs)) refl f)

abbrev pub lock_statements : List Token → List Statement
lock_statements ts = map (λ (t : Token). in_statement.TheVariants.Lock t) ts

abbrev pub LocksNamed : List ℕ → List Token → List (List ℕ) → Type 0
LocksNamed text [] [] = Unit {0}
LocksNamed text [] (l ∷ ls) = ⊥
LocksNamed text (t ∷ ts) [] = ⊥
LocksNamed text (t ∷ ts) (l ∷ ls) = (bytes_of text t ≡ l) × LocksNamed text ts ls

abbrev pub KnowLocks : (List ℕ → Option Meaning) → ℕ → List (List ℕ) → Type 0
KnowLocks names k [] = Unit {0}
KnowLocks names k (l ∷ ls) = (names l ≡ Some (in_meaning.TheVariants.Lock k)) × KnowLocks names (k + 1) ls

abbrev pub add_locks : Draft → List (List ℕ) → Draft
add_locks d [] = d
add_locks d (l ∷ ls) = add_locks (add_lock d l) ls

pub total-locks : (v : Bool) (text : List ℕ) (names : List ℕ → Option Meaning) (d : Draft) (n : ℕ) (ts : List Token) (ls : List (List ℕ)) (left : List Reading) → LocksNamed text ts ls → d.count.locks ≡ length d.locks
    → length d.locks + length ls ≤ 32 → KnowLocks names d.count.locks ls → IsWithin v d → total v text names d (sayings n (lock_statements ts) ++ left) ≡ total v text names (add_locks d ls) left
total-locks v text names d n [] [] left h c few k w = refl
total-locks v text names d n [] (l ∷ ls) left h c few k w = absurd h
total-locks v text names d n (x ∷ ts) [] left h c few k w = absurd h
total-locks v text names d n (x ∷ ts) (l ∷ ls) left h c few k w =
    let long : length (d.locks ++ l ∷ []) ≡ length d.locks + 1 = length-append d.locks (l ∷ []) in
    let next : IsWithin v (add_lock d l) = record { code = w.code; words = w.words; regions = w.regions; locks = omega arith; phases = w.phases; tasks = w.tasks } in
    total-lock v text names d n x l (sayings (n + 1) (lock_statements ts) ++ left) h.0 (omega arith) k.0 next
    ∙ total-locks v text names (add_lock d l) (n + 1) ts ls left h.1 (omega arith) (omega arith) k.1 next

know-same-locks : (f g : List ℕ → Option Meaning) (first : List ℕ) (k : ℕ) (ls : List (List ℕ)) → ((q : List ℕ) → Differs first q → f q ≡ g q) → DiffersFrom first ls → KnowLocks g k ls → KnowLocks f k ls
know-same-locks f g first k [] h d w = tt
know-same-locks f g first k (l ∷ ls) h d w = (h l d.0 ∙ w.0, know-same-locks f g first (k + 1) ls h d.1 w.1)

count-lock : (c : Count) (t : Token) → c.locks ≤ 32 → count_behind c (in_statement.TheVariants.Lock t) ≡ record { code = c.code; words = c.words; regions = c.regions; locks = c.locks + 1 }
count-lock c t few =
    let count : more c.locks 1 ≡ c.locks + 1 = (let s : min (c.locks + 1) (2 ^ 32 - 1) ≡ c.locks + 1 = omega arith in s) in
    ap (λ (x : ℕ). let q : Count = record { code = c.code; words = c.words; regions = c.regions; locks = x } in q) count

-- the names of the locks mean them
pub know-locks : (text : List ℕ) (c : Count) (n : ℕ) (ts : List Token) (ls : List (List ℕ)) (left : List Reading) → LocksNamed text ts ls → c.locks + length ls ≤ 32 → AreDistinct ls
    → KnowLocks (meaning_in text c (sayings n (lock_statements ts) ++ left)) c.locks ls
know-locks text c n [] [] left h few d = tt
know-locks text c n [] (l ∷ ls) left h few d = absurd h
know-locks text c n (x ∷ ts) [] left h few d = absurd h
know-locks text c n (x ∷ ts) (l ∷ ls) left h few d =
    let rest = sayings (n + 1) (lock_statements ts) ++ left in
    let c' : Count = record { code = c.code; words = c.words; regions = c.regions; locks = c.locks + 1 } in
    let next = know-locks text c' (n + 1) ts ls left h.1 (omega arith) d.1 in (
      lock-same text c n rest l x l h.0 refl,
      know-same-locks (meaning_in text c (sayings n (lock_statements (x ∷ ts)) ++ left)) (meaning_in text c' rest) l (c.locks + 1) ls
          (λ q o. lock-other text c n rest q x l h.0 o ∙ ap (λ (y : Count). meaning_in text y rest q) (count-lock c x (omega arith))) d.0 next,
    )

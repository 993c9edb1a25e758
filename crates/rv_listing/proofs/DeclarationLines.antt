-- The lines of regions, of their first values, and of locks.
use Rattle.std.proofs.Common.{◌≡◌, ℕ, zero, suc, ◌+◌, ◌-◌, ◌^◌, ◌<◌, ◌≤◌, Bool, true, List, [], ◌∷◌, ◌++◌, length, map, take, drop, Option, sym, ap, append_assoc, append-nil, length-append, length-take, codes, arith}
use Rattle.std.specs.Prelude.{pos}
use Rattle.std.specs.List.{flat_map, slice_range}
use Rattle.src_text.specs.declared.token.Token.{Token}
use Rattle.region_table.specs.declared.declared.Region.{Region}
use Rattle.region_table.specs.Program.{AreTiled}
use Rattle.rv_assembler.specs.declared.names.Meaning.{Meaning}
use Rattle.rv_assembler.specs.declared.draft.FirstValue.{FirstValue}
use Rattle.rv_listing.specs.Listing.{text_of, region_line, lock_line, region_values}
use Rattle.rv_listing.specs.Law.{AreCodeWords, is_declared_name}
use Rattle.rv_listing.proofs.TokenLemmas.{IsGoodLine, statement-good}
use Rattle.rv_listing.proofs.KindLemmas.{region-kind, lock-kind}
use Rattle.rv_listing.proofs.CodeLemmas.{num, num-op}
use Rattle.rv_listing.proofs.CodeSection.{AreShort}
use Rattle.rv_listing.proofs.ReadLemmas.{SaidFrom}
use Rattle.rv_listing.proofs.DirectiveLemmas.{nm, name-op, region-said, lock-said}
use Rattle.rv_listing.proofs.RegionSection.{IsWithin}
use Rattle.rv_listing.proofs.MemoryLemmas.{region_first_values}
use Rattle.rv_listing.proofs.DeclarationLemmas.{region_statements, RegionsNamed, lock_statements, LocksNamed, KnowRegions}
use Rattle.rv_listing.proofs.SetLines.{AreNamed}
use Rattle.rv_listing.proofs.GuardedLines.{LocksDeclared}
use Rattle.rv_listing.proofs.ValueLines.{behind-line, behind-lines, add_values, within-values, values-adds}
use Rattle.rv_listing.proofs.EffectLines.{short-left, short-right, front-text, back-text, back-place}
use Rattle.rv_listing.proofs.AddsLemmas.{Adds, size, adds-none, adds-join, adds-as}

region-good : (r : Region) → is_declared_name r.name ≡ true → r.len < 2 ^ 32 → IsGoodLine (region_line r)
unfolding region_line
region-good r h l = statement-good (nm (codes ".region")) (nm r.name ∷ num (pos r.len) ∷ []) region-kind.op (name-op r.name h, (num-op (pos r.len) l, tt))

lock-good : (n : List ℕ) → is_declared_name n ≡ true → IsGoodLine (lock_line n)
unfolding lock_line
lock-good n h = statement-good (nm (codes ".lock")) (nm n ∷ []) lock-kind.op (name-op n h, tt)

next-place : (before l : List ℕ) (place : ℕ) → place ≡ length before → place + (length l + 1) ≡ length (before ++ (l ++ 10 ∷ []))
next-place before l place s =
    let b = length-append before (l ++ 10 ∷ []) in
    let c = length-append l (10 ∷ []) in
    omega arith

tiled-last : (a : ℕ) (xs : List Region) (b : ℕ) → AreTiled a xs b → a ≤ b
tiled-last a [] b t = omega arith
tiled-last a (x ∷ xs) b t = let e = tiled-last (x.start + x.len) xs b t.2 in omega arith

-- the lines of regions say that they are declared
pub record RegionsSaid (text : List ℕ) (place : ℕ) (rs : List Region) : Type 0 where
  pub tokens : List Token
  pub said : SaidFrom text place (map region_line rs) (region_statements tokens rs)
  pub named : RegionsNamed text tokens rs

pub regions-said : (text : List ℕ) (rs : List Region) (from end : ℕ) (before rest : List ℕ) (place : ℕ) → AreTiled from rs end → end ≤ 65536 → AreNamed rs → place ≡ length before → text ≡ before ++ (text_of (map region_line rs) ++ rest) → AreShort (map region_line rs) → RegionsSaid text place rs
regions-said text [] from end before rest place t most n s e short = record { tokens = []; said = tt; named = tt }
regions-said text (r ∷ rs) from end before rest place t most n s e short =
    let last = tiled-last (r.start + r.len) rs end t.2 in
    let line = region_line r in
    let lines = map region_line rs in
    let one = region-said text before (10 ∷ (text_of lines ++ rest)) place s r n.0 (omega arith) (behind-line text before line lines rest e) in
    let others = regions-said text rs (r.start + r.len) end (before ++ (line ++ 10 ∷ [])) rest (place + (length line + 1)) t.2 most n.1 (next-place before line place s) (behind-lines text before line lines rest e) short.1 in
    record { tokens = one.token ∷ others.tokens; said = (region-good r n.0 (omega arith), short.0, one.said, others.said); named = (one.bytes, others.named) }

-- the lines of locks say that they are declared
pub record LocksSaid (text : List ℕ) (place : ℕ) (ls : List (List ℕ)) : Type 0 where
  pub tokens : List Token
  pub said : SaidFrom text place (map lock_line ls) (lock_statements tokens)
  pub named : LocksNamed text tokens ls

pub locks-said : (text : List ℕ) (ls : List (List ℕ)) (before rest : List ℕ) (place : ℕ) → LocksDeclared ls → place ≡ length before → text ≡ before ++ (text_of (map lock_line ls) ++ rest) → AreShort (map lock_line ls) → LocksSaid text place ls
locks-said text [] before rest place n s e short = record { tokens = []; said = tt; named = tt }
locks-said text (l ∷ ls) before rest place n s e short =
    let line = lock_line l in
    let lines = map lock_line ls in
    let one = lock-said text before (10 ∷ (text_of lines ++ rest)) place s l n.0 (behind-line text before line lines rest e) in
    let others = locks-said text ls (before ++ (line ++ 10 ∷ [])) rest (place + (length line + 1)) n.1 (next-place before line place s) (behind-lines text before line lines rest e) short.1 in
    record { tokens = one.token ∷ others.tokens; said = (lock-good l n.0, short.0, one.said, others.said); named = (one.bytes, others.named) }

-- ---- first values

words-drop : (n : ℕ) (xs : List ℕ) → AreCodeWords xs → AreCodeWords (drop n xs)
words-drop zero xs h = h
words-drop (suc n) [] h = tt
words-drop (suc n) (x ∷ xs) h = words-drop n xs h.1

words-take : (n : ℕ) (xs : List ℕ) → AreCodeWords xs → AreCodeWords (take n xs)
words-take zero xs h = tt
words-take (suc n) [] h = tt
words-take (suc n) (x ∷ xs) h = (h.0, words-take n xs h.1)

pub region-values-add : (v : Bool) (text : List ℕ) (names : List ℕ → Option Meaning) (memory : List ℕ) (rs : List Region) (k from : ℕ) (before rest : List ℕ) (place : ℕ) → AreTiled from rs (length memory) → length memory ≤ 65536 → AreCodeWords memory → AreNamed rs → KnowRegions names k rs
    → place ≡ length before → text ≡ before ++ (text_of (flat_map (region_values memory) rs) ++ rest) → AreShort (flat_map (region_values memory) rs)
    → Adds v text names place (flat_map (region_values memory) rs) (IsWithin v) (λ d. add_values d (flat_map (region_first_values memory) rs))
region-values-add v text names memory [] k from before rest place t most w n known s e short =
    adds-as v text names place [] (IsWithin v) (IsWithin v) (λ d. d) (λ d. add_values d []) (adds-none v text names place (IsWithin v)) (λ d h. h)
    (λ d. ap (λ (l : List FirstValue). record d { values = l }) (sym (append-nil d.values)))
region-values-add v text names memory (r ∷ rs) k from before rest place t most w n known s e short =
    let last = tiled-last (r.start + r.len) rs (length memory) t.2 in
    let xs = slice_range memory r.start (r.start + r.len) in
    let a = region_values memory r in
    let b = flat_map (region_values memory) rs in
    let vs = region_first_values memory r in
    let ws = flat_map (region_first_values memory) rs in
    let fits : 0 + length xs ≤ r.len = omega (arith, length-take {A = ℕ} (r.start + r.len - r.start) (drop r.start memory)) in
    let zero-more : r.start + 0 ≡ r.start = omega arith in
    let x0 = values-adds v text names r k known.0 n.0 (omega arith) before (text_of b ++ rest) place 0 xs s (front-text text before a b rest e) fits (words-take (r.start + r.len - r.start) (drop r.start memory) (words-drop r.start memory w)) (short-left a b short) in
    let x : Adds v text names place a (IsWithin v) (λ d. add_values d vs) = rw zero-more at x0 in
    let y = region-values-add v text names memory rs (k + 1) (r.start + r.len) (before ++ text_of a) rest (place + size a) t.2 most w n.1 known.1 (back-place before a place s) (back-text text before a b rest e) (short-right a b short) in
    adds-as v text names place (a ++ b) (λ d. IsWithin v d × IsWithin v (add_values d vs)) (IsWithin v) (λ d. add_values (add_values d vs) ws) (λ d. add_values d (vs ++ ws))
    (adds-join v text names place a b (IsWithin v) (IsWithin v) (λ d. add_values d vs) (λ d. add_values d ws) x y)
    (λ d h. (h, within-values v d vs h)) (λ d. ap (λ (l : List FirstValue). record d { values = l }) (append_assoc d.values vs ws))

-- The rows of a word are found among those whose words begin with its first byte.
use Rattle.std.proofs.Common.{◌≡◌, ℕ, Bool, true, false, not, ◌||◌, cond, eqb, List, [], ◌∷◌, ◌++◌, get_or, Option, Some, None, option_map, find, bytes_eq, refl, sym, ap, ◌∙◌, arith}
use Rattle.std.specs.Option.{option_or}
use Rattle.std.specs.List.{filter, list_any, list_all}
use Rattle.std.proofs.lemmas.Bool.{and_parts}
use Rattle.std.proofs.lemmas.Bool.Decides.{nat_tests}
use Rattle.std.proofs.lemmas.List.Folds.{find-append, list_any-append}
use Rattle.std.proofs.lemmas.Map.Views.{any-filter_same}
use Rattle.std.proofs.lemmas.Slice.Eq.{bytes_eq-Decides}
use Rattle.src_text.specs.declared.token.Token.{Token}
use Rattle.rv_assembler.specs.declared.kind.Kind.{Kind}
use Rattle.rv_assembler.specs.Shape.{Shape, memory_rows, operation_rows, short_rows, directive_rows, later_rows, shape_has_word, fits, is_row, knows, knows_word, kind_in_rows, kind_for}
use Rattle.rv_assembler.specs.ShapeRow.{all_rows, begins_with, rows_from}

same-byte : (n : ℕ) → eqb n n ≡ true
same-byte n = grind (arith, nat_tests)

begins : (v : Bool) (w : List ℕ) (s : Shape) → shape_has_word v w s ≡ true → begins_with (get_or w 0 0) s ≡ true
begins v w s e =
    let same = (bytes_eq-Decides s.word w).0 (and_parts (bytes_eq s.word w) (v || not s.later) e).0 in
    ap (λ (bs : List ℕ). eqb (get_or bs 0 0) (get_or w 0 0)) same ∙ same-byte (get_or w 0 0)

-- ---- whether some row has the word

knows-append : (v : Bool) (w : List ℕ) (xs ys : List Shape) (rest : Bool) → knows v w ys ≡ rest → knows v w (xs ++ ys) ≡ (knows v w xs || rest)
knows-append v w xs ys rest e = list_any-append (shape_has_word v w) xs ys ∙ ap (λ (b : Bool). knows v w xs || b) e

knows-all : (v : Bool) (w : List ℕ) → knows v w all_rows ≡ knows_word v w
knows-all v w =
    knows-append v w memory_rows _ _
    (knows-append v w operation_rows _ _ (knows-append v w short_rows _ _ (knows-append v w directive_rows later_rows _ refl)))

pub known-from : (v : Bool) (w : List ℕ) → knows v w (rows_from (get_or w 0 0)) ≡ knows_word v w
unfolding rows_from
known-from v w = any-filter_same (shape_has_word v w) (begins_with (get_or w 0 0)) true (begins v w) all_rows ∙ knows-all v w

-- ---- the first row that fits

-- a filter that keeps what a test may find keeps what it finds
find-filter : (p q : Shape → Bool) → ((s : Shape) → p s ≡ true → q s ≡ true) → (ss : List Shape) → find p (filter q ss) ≡ find p ss
find-filter p q h [] = refl
find-filter p q h (s ∷ ss) = step (p s) (q s) refl refl (find-filter p q h ss)
  where
    step : (b c : Bool) → p s ≡ b → q s ≡ c → find p (filter q ss) ≡ find p ss → find p (cond c (s ∷ filter q ss) (filter q ss)) ≡ cond b (Some s) (find p ss)
    step true true e f same = rw e refl
    step true false e f same = absurd (cc (h s e, f))
    step false true e f same = rw e same
    step false false e f same = same

map-or : (a b : Option Shape) → option_map (λ (s : Shape). s.kind) (option_or a b) ≡ option_or (option_map (λ (s : Shape). s.kind) a) (option_map (λ (s : Shape). s.kind) b)
map-or None b = refl
map-or (Some s) b = refl

kind-append : (v : Bool) (text w : List ℕ) (ts : List Token) (xs ys : List Shape) (rest : Option Kind) → kind_in_rows v text w ts ys ≡ rest → kind_in_rows v text w ts (xs ++ ys) ≡ option_or (kind_in_rows v text w ts xs) rest
kind-append v text w ts xs ys rest e =
    ap (option_map (λ (s : Shape). s.kind)) (find-append (is_row v text w ts) xs ys)
    ∙ map-or (find (is_row v text w ts) xs) (find (is_row v text w ts) ys)
    ∙ ap (λ (k : Option Kind). option_or (kind_in_rows v text w ts xs) k) e

kind-all : (v : Bool) (text w : List ℕ) (ts : List Token) → kind_in_rows v text w ts all_rows ≡ kind_for v text w ts
kind-all v text w ts =
    kind-append v text w ts memory_rows _ _
    (kind-append v text w ts operation_rows _ _ (kind-append v text w ts short_rows _ _ (kind-append v text w ts directive_rows later_rows _ refl)))

pub kind-from : (v : Bool) (text w : List ℕ) (ts : List Token) → kind_in_rows v text w ts (rows_from (get_or w 0 0)) ≡ kind_for v text w ts
unfolding rows_from
kind-from v text w ts =
    ap (option_map (λ (s : Shape). s.kind))
    (find-filter (is_row v text w ts) (begins_with (get_or w 0 0)) (λ s e. begins v w s (and_parts (shape_has_word v w s) (fits text s.operands ts) e).0) all_rows)
    ∙ kind-all v text w ts

-- ---- a word that has a row that fits is one that some row has

or-true : (b : Bool) → (b || true) ≡ true
or-true true = refl
or-true false = refl

has-kind : (v : Bool) (text w : List ℕ) (ts : List Token) (k : Kind) (ss : List Shape) → kind_in_rows v text w ts ss ≡ Some k → knows v w ss ≡ true
has-kind v text w ts k [] e = absurd cc
has-kind v text w ts k (s ∷ ss) e = step (is_row v text w ts s) refl e (has-kind v text w ts k ss)
  where
    step : (b : Bool) → is_row v text w ts s ≡ b → option_map (λ (s : Shape). s.kind) (cond b (Some s) (find (is_row v text w ts) ss)) ≡ Some k
        → (kind_in_rows v text w ts ss ≡ Some k → knows v w ss ≡ true) → (shape_has_word v w s || knows v w ss) ≡ true
    step true e f later = ap (λ (b : Bool). b || knows v w ss) (and_parts (shape_has_word v w s) (fits text s.operands ts) e).0
    step false e f later = ap (λ (b : Bool). shape_has_word v w s || b) (later f) ∙ or-true (shape_has_word v w s)

pub kind_known : (v : Bool) (text w : List ℕ) (ts : List Token) (k : Kind) → kind_for v text w ts ≡ Some k → knows_word v w ≡ true
kind_known v text w ts k e = sym (knows-all v w) ∙ has-kind v text w ts k all_rows (kind-all v text w ts ∙ e)

-- ---- no word begins with another byte than these: `.` and twelve letters

abbrev first_bytes : List ℕ
first_bytes = 46 ∷ 97 ∷ 98 ∷ 101 ∷ 102 ∷ 106 ∷ 108 ∷ 109 ∷ 110 ∷ 111 ∷ 114 ∷ 115 ∷ 120 ∷ []

abbrev is_first : ℕ → Bool
is_first b = list_any (eqb b) first_bytes

abbrev begins_listed : Shape → Bool
begins_listed s = is_first (get_or s.word 0 0)

all-listed : list_all begins_listed all_rows ≡ true
unfolding memory_rows operation_rows short_rows directive_rows later_rows
all-listed = refl

none-left : (first : ℕ) → is_first first ≡ false → (ss : List Shape) → list_all begins_listed ss ≡ true → filter (begins_with first) ss ≡ []
none-left first other [] e = refl
none-left first other (s ∷ ss) e = step (begins_with first s) refl (none-left first other ss parts.1)
  where
    parts : (begins_listed s ≡ true) × (list_all begins_listed ss ≡ true)
    parts = and_parts (begins_listed s) (list_all begins_listed ss) e

    step : (b : Bool) → begins_with first s ≡ b → filter (begins_with first) ss ≡ [] → cond b (s ∷ filter (begins_with first) ss) (filter (begins_with first) ss) ≡ []
    step true e same = absurd (let f : get_or s.word 0 0 ≡ first = grind (arith, nat_tests, e) in cc (parts.0, other, f))
    step false e same = same

pub none-other : (first : ℕ) → is_first first ≡ false → rows_from first ≡ []
unfolding rows_from
none-other first other = none-left first other all_rows all-listed

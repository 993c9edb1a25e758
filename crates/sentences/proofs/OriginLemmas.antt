-- Each origin is that of a row which a line gives.
use Rattle.std.proofs.Common.{◌≡◌, ℕ, zero, suc, ◌+◌, List, [], ◌∷◌, ◌++◌, length, flat_map, Some, slice_get, refl, sym, ap, subst, append_assoc, append-nil, length-append, ◌⊎◌, inl, inr, ⊎_elim, arith}
use Rattle.rv_assembler.specs.declared.parsing.Saying.{Saying}
use Rattle.rv_assembler.specs.Placed.{Placed, placed_behind}
use Rattle.rv_assembler.proofs.TableLemmas.{place}
use Rattle.text_places.specs.Places.{each_part, places_at, places_of}
use Rattle.sentences.specs.Origins.{IsRowOfLine}

get-parts : {X : Type 0} (xs ys : List X) (n : ℕ) (x : X) → slice_get (xs ++ ys) n ≡ Some x → (slice_get xs n ≡ Some x) ⊎ ((m : ℕ) × (n ≡ length xs + m) × (slice_get ys m ≡ Some x))
get-parts [] ys n x e = inr (n, omega arith, e)
get-parts (y ∷ xs) ys zero x e = inl e
get-parts (y ∷ xs) ys (suc n) x e =
    ⊎_elim (λ h. inl h) (λ h. let more = h.1 in inr (h.0, omega arith, h.2)) (get-parts xs ys n x e)

module _ {Row Place : Type 0} (rows_at : Placed Saying → List Row) (origin : ℕ → ℕ → Row → Place) where
  row-part : (line k : ℕ) (rows : List Row) (n : ℕ) (p : Place) → slice_get (each_part (origin line) k rows) n ≡ Some p
      → (r : Row) × (slice_get rows n ≡ Some r) × ((m : ℕ) × (m ≡ k + n) × (p ≡ origin line m r))
  row-part line k [] n p e = absurd cc
  row-part line k (r ∷ rs) zero p e =
      let same : origin line k r ≡ p = cc in
      (r, refl, (k, omega arith, sym same))
  row-part line k (r ∷ rs) (suc n) p e =
      let h = row-part line (k + 1) rs n p e in
      let place = h.2.1 in
      (h.0, h.1, (h.2.0, omega (arith, place), h.2.2))

  length-parts : (f : ℕ → Row → Place) (k : ℕ) (rows : List Row) → length (each_part f k rows) ≡ length rows
  length-parts f k [] = refl
  length-parts f k (r ∷ rs) = ap suc (length-parts f (k + 1) rs)

  record IsFound (earlier ss : List Saying) (n : ℕ) (p : Place) : Type 0 where
    pub middle : List Saying
    pub here : Saying
    pub behind : List Saying
    pub lines_are : ss ≡ middle ++ here ∷ behind
    pub part : ℕ
    pub row : Row
    pub given : slice_get (rows_at (place (earlier ++ middle) here)) part ≡ Some row
    pub counted : n ≡ length (flat_map rows_at (placed_behind earlier middle)) + part
    pub is : p ≡ origin here.line part row

  found : (earlier ss : List Saying) (n : ℕ) (p : Place) → slice_get (flat_map (places_at rows_at origin) (placed_behind earlier ss)) n ≡ Some p → IsFound earlier ss n p
  found earlier [] n p e = absurd cc
  found earlier (s ∷ ss) n p e =
      ⊎_elim
      (λ (h : slice_get mine n ≡ Some p).
      let row = row-part s.line 0 rows n p h in
      let same : row.2.0 ≡ n = (let m = row.2.1 in omega (arith, m)) in
      record {
        middle = [];
        here = s;
        behind = ss;
        lines_are = refl;
        part = n;
        row = row.0;
        given = subst (λ (b : List Saying). slice_get (rows_at (place b s)) n ≡ Some row.0) (sym (append-nil earlier)) row.1;
        counted = omega arith;
        is = subst (λ (m : ℕ). p ≡ origin s.line m row.0) same row.2.2;
      })
      (λ (h : (m : ℕ) × (n ≡ length mine + m) × (slice_get (flat_map (places_at rows_at origin) (placed_behind now ss)) m ≡ Some p)).
      let rest = found now ss h.0 p h.2 in
      let behind_mine = h.1 in
      let same : length mine ≡ length rows = length-parts (origin s.line) 0 rows in
      let counted = rest.counted in
      let all = length-append rows (flat_map rows_at (placed_behind now rest.middle)) in
      record {
        middle = s ∷ rest.middle;
        here = rest.here;
        behind = rest.behind;
        lines_are = ap (λ (l : List Saying). s ∷ l) rest.lines_are;
        part = rest.part;
        row = rest.row;
        given = subst (λ (b : List Saying). slice_get (rows_at (place b rest.here)) rest.part ≡ Some rest.row) (append_assoc earlier (s ∷ []) rest.middle) rest.given;
        counted = omega (arith, behind_mine, same, counted, all);
        is = rest.is;
      })
      (get-parts mine (flat_map (places_at rows_at origin) (placed_behind now ss)) n p e)
    where
      now : List Saying
      now = earlier ++ s ∷ []

      rows : List Row
      rows = rows_at (place earlier s)

      mine : List Place
      mine = places_at rows_at origin (place earlier s)

  pub row-of_line : (ss : List Saying) (n : ℕ) (p : Place) → slice_get (places_of rows_at origin ss) n ≡ Some p → IsRowOfLine rows_at origin ss n p
  row-of_line ss n p e =
      let f = found [] ss n p e in
      record {
        before = f.middle;
        here = f.here;
        behind = f.behind;
        lines_are = f.lines_are;
        part = f.part;
        row = f.row;
        given = f.given;
        counted = f.counted;
        is = f.is;
      }

-- The rows that a chart keeps, and the lines on which their arrows begin.
use Rattle.std.proofs.Common.{◌≡◌, ℕ, zero, suc, ◌+◌, ◌<◌, ◌≤◌, ◌==◌, Bool, true, false, List, [], ◌∷◌, map, filter, slice_get, Option, Some, None, if◌then◌else◌, refl, sym, ap, subst, ◌∙◌, arith}
use Rattle.std.proofs.lemmas.Bool.{eqb-true}
use Rattle.std.proofs.lemmas.Bool.Decides.{nat_tests}
use Rattle.std.proofs.lemmas.Option.{none-some, same_Some}
use Rattle.dn_base.specs.declared.ids.Shape.{Shape}
use Rattle.run_chart.specs.declared.parts.ChartRow.{ChartRow}
use Rattle.run_chart.specs.declared.keeping.Keeping.{Keeping}
use Rattle.run_chart.specs.Arrows.{line_of_event}
use Rattle.run_chart.specs.Keeping.{event_on_line, is_kept, kept_lines, line_after, moved_from, row_from, rows_from, with_origin, with_origins}

-- ---- their events

module _ (K : Keeping) (shape : Shape) where
  pub kept-events : (line : ℕ) (rows : List ChartRow) → map (λ (r : ChartRow). r.event) (rows_from K shape line rows) ≡ map (λ (r : ChartRow). r.event) (filter (is_kept K shape) rows)
  kept-events line [] = refl
  kept-events line (row ∷ rows) = by_test (is_kept K shape row) refl (kept-events (line + kept_lines K.words row) rows) (kept-events line rows) where
    by_test : (t : Bool) → is_kept K shape row ≡ t
        → map (λ (r : ChartRow). r.event) (rows_from K shape (line + kept_lines K.words row) rows) ≡ map (λ (r : ChartRow). r.event) (filter (is_kept K shape) rows)
        → map (λ (r : ChartRow). r.event) (rows_from K shape line rows) ≡ map (λ (r : ChartRow). r.event) (filter (is_kept K shape) rows)
        → map (λ (r : ChartRow). r.event) (rows_from K shape line (row ∷ rows)) ≡ map (λ (r : ChartRow). r.event) (filter (is_kept K shape) (row ∷ rows))
    by_test true e below here = rw e (ap (λ (l : List ℕ). row.event ∷ l) below)
    by_test false e below here = rw e here

  -- ---- their lines

  pub kept-above : (line : ℕ) (rows : List ChartRow) (i : ℕ) (a : ChartRow) → slice_get (rows_from K shape line rows) i ≡ Some a → line ≤ a.line
  kept-above line [] i a here = absurd (none-some a here)
  kept-above line (row ∷ rows) i a here = by_test (is_kept K shape row) refl (kept-above (line + kept_lines K.words row) rows) (kept-above line rows) i here where
    by_test : (t : Bool) → is_kept K shape row ≡ t
        → ((i : ℕ) (a : ChartRow) → slice_get (rows_from K shape (line + kept_lines K.words row) rows) i ≡ Some a → line + kept_lines K.words row ≤ a.line)
        → ((i : ℕ) (a : ChartRow) → slice_get (rows_from K shape line rows) i ≡ Some a → line ≤ a.line)
        → (i : ℕ) → slice_get (rows_from K shape line (row ∷ rows)) i ≡ Some a → line ≤ a.line
    by_test true e below same zero here = subst (λ (x : ChartRow). line ≤ x.line) (same_Some (row_from K.words line row) a (subst (λ (t : Bool). slice_get (if t then row_from K.words line row ∷ rows_from K shape (line + kept_lines K.words row) rows else rows_from K shape line rows) 0 ≡ Some a) e here)) (omega arith)
    by_test true e below same (suc i) here = omega (arith, below i a (subst (λ (t : Bool). slice_get (if t then row_from K.words line row ∷ rows_from K shape (line + kept_lines K.words row) rows else rows_from K shape line rows) (suc i) ≡ Some a) e here))
    by_test false e below same i here = same i a (subst (λ (t : Bool). slice_get (if t then row_from K.words line row ∷ rows_from K shape (line + kept_lines K.words row) rows else rows_from K shape line rows) i ≡ Some a) e here)

  pub kept-apart : (line : ℕ) (rows : List ChartRow) (i j : ℕ) (a b : ChartRow) → i < j → slice_get (rows_from K shape line rows) i ≡ Some a → slice_get (rows_from K shape line rows) j ≡ Some b
      → a.line + a.lines ≤ b.line
  kept-apart line [] i j a b less here there = absurd (none-some a here)
  kept-apart line (row ∷ rows) i j a b less here there =
      by_test (is_kept K shape row) refl (kept-apart (line + kept_lines K.words row) rows) (kept-apart line rows) i j less here there
    where
      step : Bool → List ChartRow
      step t = if t then row_from K.words line row ∷ rows_from K shape (line + kept_lines K.words row) rows else rows_from K shape line rows

      by_test : (t : Bool) → is_kept K shape row ≡ t
          → ((i j : ℕ) (a b : ChartRow) → i < j → slice_get (rows_from K shape (line + kept_lines K.words row) rows) i ≡ Some a → slice_get (rows_from K shape (line + kept_lines K.words row) rows) j ≡ Some b
          → a.line + a.lines ≤ b.line)
          → ((i j : ℕ) (a b : ChartRow) → i < j → slice_get (rows_from K shape line rows) i ≡ Some a → slice_get (rows_from K shape line rows) j ≡ Some b → a.line + a.lines ≤ b.line)
          → (i j : ℕ) → i < j → slice_get (rows_from K shape line (row ∷ rows)) i ≡ Some a → slice_get (rows_from K shape line (row ∷ rows)) j ≡ Some b → a.line + a.lines ≤ b.line
      by_test true e below same i zero less here there = absurd (omega (arith, less))
      by_test true e below same zero (suc j) less here there =
          let first : row_from K.words line row ≡ a = same_Some (row_from K.words line row) a (subst (λ (t : Bool). slice_get (step t) 0 ≡ Some a) e here) in
          let under : line + kept_lines K.words row ≤ b.line = kept-above (line + kept_lines K.words row) rows j b (subst (λ (t : Bool). slice_get (step t) (suc j) ≡ Some b) e there) in
          subst (λ (x : ChartRow). x.line + x.lines ≤ b.line) first under
      by_test true e below same (suc i) (suc j) less here there =
          below i j a b (omega (arith, less)) (subst (λ (t : Bool). slice_get (step t) (suc i) ≡ Some a) e here) (subst (λ (t : Bool). slice_get (step t) (suc j) ≡ Some b) e there)
      by_test false e below same i j less here there =
          same i j a b less (subst (λ (t : Bool). slice_get (step t) i ≡ Some a) e here) (subst (λ (t : Bool). slice_get (step t) j ≡ Some b) e there)

  -- they end above the line after them
  pub after-above : (line : ℕ) (rows : List ChartRow) → line ≤ line_after K shape line rows
  after-above line [] = omega arith
  after-above line (row ∷ rows) = by_test (is_kept K shape row) refl (after-above (line + kept_lines K.words row) rows) (after-above line rows) where
    by_test : (t : Bool) → is_kept K shape row ≡ t → line + kept_lines K.words row ≤ line_after K shape (line + kept_lines K.words row) rows → line ≤ line_after K shape line rows
        → line ≤ line_after K shape line (row ∷ rows)
    by_test true e below same = rw e (omega (arith, below))
    by_test false e below same = rw e same

  pub kept-ends : (line : ℕ) (rows : List ChartRow) (i : ℕ) (a : ChartRow) → slice_get (rows_from K shape line rows) i ≡ Some a → a.line + a.lines ≤ line_after K shape line rows
  kept-ends line [] i a here = absurd (none-some a here)
  kept-ends line (row ∷ rows) i a here = by_test (is_kept K shape row) refl (kept-ends (line + kept_lines K.words row) rows) (kept-ends line rows) i here where
    step : Bool → List ChartRow
    step t = if t then row_from K.words line row ∷ rows_from K shape (line + kept_lines K.words row) rows else rows_from K shape line rows

    by_test : (t : Bool) → is_kept K shape row ≡ t
        → ((i : ℕ) (a : ChartRow) → slice_get (rows_from K shape (line + kept_lines K.words row) rows) i ≡ Some a → a.line + a.lines ≤ line_after K shape (line + kept_lines K.words row) rows)
        → ((i : ℕ) (a : ChartRow) → slice_get (rows_from K shape line rows) i ≡ Some a → a.line + a.lines ≤ line_after K shape line rows)
        → (i : ℕ) → slice_get (rows_from K shape line (row ∷ rows)) i ≡ Some a → a.line + a.lines ≤ line_after K shape line (row ∷ rows)
    by_test true e below same zero here =
        let first : row_from K.words line row ≡ a = same_Some (row_from K.words line row) a (subst (λ (t : Bool). slice_get (step t) 0 ≡ Some a) e here) in
        rw e (subst (λ (x : ChartRow). x.line + x.lines ≤ line_after K shape (line + kept_lines K.words row) rows) first (after-above (line + kept_lines K.words row) rows))
    by_test true e below same (suc i) here = rw e (below i a (subst (λ (t : Bool). slice_get (step t) (suc i) ≡ Some a) e here))
    by_test false e below same i here = rw e (same i a (subst (λ (t : Bool). slice_get (step t) i ≡ Some a) e here))

  -- ---- where they come from

  -- a row that is kept is one of the rows, from another line on
  pub record IsKeptFrom (rows : List ChartRow) (kept : ChartRow) : Type 0 where
    pub place : ℕ
    pub row : ChartRow
    pub line : ℕ
    pub here : slice_get rows place ≡ Some row
    pub passes : is_kept K shape row ≡ true
    pub is : row_from K.words line row ≡ kept

  from-later : (first : ChartRow) (rows : List ChartRow) (kept : ChartRow) → IsKeptFrom rows kept → IsKeptFrom (first ∷ rows) kept
  from-later first rows kept from =
      record { place = suc from.place; row = from.row; line = from.line; here = from.here; passes = from.passes; is = from.is }

  pub kept-from : (line : ℕ) (rows : List ChartRow) (i : ℕ) (a : ChartRow) → slice_get (rows_from K shape line rows) i ≡ Some a → IsKeptFrom rows a
  kept-from line [] i a here = absurd (none-some a here)
  kept-from line (row ∷ rows) i a here = by_test (is_kept K shape row) refl (kept-from (line + kept_lines K.words row) rows) (kept-from line rows) i here where
    step : Bool → List ChartRow
    step t = if t then row_from K.words line row ∷ rows_from K shape (line + kept_lines K.words row) rows else rows_from K shape line rows

    by_test : (t : Bool) → is_kept K shape row ≡ t
        → ((i : ℕ) (a : ChartRow) → slice_get (rows_from K shape (line + kept_lines K.words row) rows) i ≡ Some a → IsKeptFrom rows a)
        → ((i : ℕ) (a : ChartRow) → slice_get (rows_from K shape line rows) i ≡ Some a → IsKeptFrom rows a)
        → (i : ℕ) → slice_get (rows_from K shape line (row ∷ rows)) i ≡ Some a → IsKeptFrom (row ∷ rows) a
    by_test true e below same zero here =
        record { place = 0; row = row; line = line; here = refl; passes = e; is = same_Some (row_from K.words line row) a (subst (λ (t : Bool). slice_get (step t) 0 ≡ Some a) e here) }
    by_test true e below same (suc i) here = from-later row rows a (below i a (subst (λ (t : Bool). slice_get (step t) (suc i) ≡ Some a) e here))
    by_test false e below same i here = from-later row rows a (same i a (subst (λ (t : Bool). slice_get (step t) i ≡ Some a) e here))

  -- an event without a row has none among those that are kept
  pub none-kept : (event line : ℕ) (rows : List ChartRow) → line_of_event event rows ≡ None → line_of_event event (rows_from K shape line rows) ≡ None
  none-kept event line [] none = refl
  none-kept event line (row ∷ rows) none =
      by_event (row.event == event) refl (is_kept K shape row) refl (none-kept event (line + kept_lines K.words row) rows) (none-kept event line rows)
    where
      by_event : (s : Bool) → (row.event == event) ≡ s → (t : Bool) → is_kept K shape row ≡ t
          → (line_of_event event rows ≡ None → line_of_event event (rows_from K shape (line + kept_lines K.words row) rows) ≡ None)
          → (line_of_event event rows ≡ None → line_of_event event (rows_from K shape line rows) ≡ None) → line_of_event event (rows_from K shape line (row ∷ rows)) ≡ None
      by_event true e t f below same = absurd (none-some row.line (sym (subst (λ (s : Bool). (if s then Some row.line else line_of_event event rows) ≡ None) e none)))
      by_event false e true f below same = rw (f, e) (below (subst (λ (s : Bool). (if s then Some row.line else line_of_event event rows) ≡ None) e none))
      by_event false e false f below same = rw f (same (subst (λ (s : Bool). (if s then Some row.line else line_of_event event rows) ≡ None) e none))

-- ---- their arrows

-- each row begins below those before it
abbrev pub AreBelow : List ChartRow → Type 0
AreBelow rows = (i j : ℕ) (a b : ChartRow) → i < j → slice_get rows i ≡ Some a → slice_get rows j ≡ Some b → a.line < b.line

below-later : (row : ChartRow) (rows : List ChartRow) → AreBelow (row ∷ rows) → AreBelow rows
below-later row rows all i j a b less here there = all (suc i) (suc j) a b (omega (arith, less)) here there

-- the row of an event that has one
row-there : (event line : ℕ) (rows : List ChartRow) → line_of_event event rows ≡ Some line → (j : ℕ) × (b : ChartRow) × (slice_get rows j ≡ Some b) × (b.line ≡ line)
row-there event line [] is = absurd (none-some line is)
row-there event line (row ∷ rows) is = by_test (row.event == event) refl (row-there event line rows) where
  by_test : (s : Bool) → (row.event == event) ≡ s → (line_of_event event rows ≡ Some line → (j : ℕ) × (b : ChartRow) × (slice_get rows j ≡ Some b) × (b.line ≡ line))
      → (j : ℕ) × (b : ChartRow) × (slice_get (row ∷ rows) j ≡ Some b) × (b.line ≡ line)
  by_test true e later = (0, row, refl, same_Some row.line line (subst (λ (s : Bool). (if s then Some row.line else line_of_event event rows) ≡ Some line) e is))
  by_test false e later =
      let at = later (subst (λ (s : Bool). (if s then Some row.line else line_of_event event rows) ≡ Some line) e is) in
      (suc at.0, at.1, at.2, at.3)

-- the line of an event's row is that of no other
pub on-line : (event line : ℕ) (rows : List ChartRow) → AreBelow rows → line_of_event event rows ≡ Some line → event_on_line line rows ≡ Some event
on-line event line [] apart is = absurd (none-some line is)
on-line event line (row ∷ rows) apart is = by_test (row.event == event) refl (on-line event line rows (below-later row rows apart)) where
  by_test : (s : Bool) → (row.event == event) ≡ s → (line_of_event event rows ≡ Some line → event_on_line line rows ≡ Some event) → event_on_line line (row ∷ rows) ≡ Some event
  by_test true e later =
      let same : row.line ≡ line = same_Some row.line line (subst (λ (s : Bool). (if s then Some row.line else line_of_event event rows) ≡ Some line) e is) in
      let here : (row.line == line) ≡ true = grind (arith, nat_tests, same) in
      rw here (ap (λ (x : ℕ). Some x) (eqb-true row.event event e))
  by_test false e later =
      let behind : line_of_event event rows ≡ Some line = subst (λ (s : Bool). (if s then Some row.line else line_of_event event rows) ≡ Some line) e is in
      let at = row-there event line rows behind in
      let less : row.line < line = subst (λ (x : ℕ). row.line < x) at.3 (apart 0 (suc at.0) row at.1 (omega arith) refl at.2) in
      let other : (row.line == line) ≡ false = grind (arith, nat_tests, less) in
      rw other (later behind)

-- the origins of mails change no line
pub lines-stay : (whole kept rows : List ChartRow) (event : ℕ) → line_of_event event (map (with_origin whole kept) rows) ≡ line_of_event event rows
lines-stay whole kept [] event = refl
lines-stay whole kept (row ∷ rows) event = by_test (row.event == event) refl (lines-stay whole kept rows event) where
  by_test : (s : Bool) → (row.event == event) ≡ s → line_of_event event (map (with_origin whole kept) rows) ≡ line_of_event event rows
      → line_of_event event (map (with_origin whole kept) (row ∷ rows)) ≡ line_of_event event (row ∷ rows)
  by_test true e later = rw e refl
  by_test false e later = rw e later

-- nor any event
pub events-stay : (whole kept rows : List ChartRow) → map (λ (r : ChartRow). r.event) (map (with_origin whole kept) rows) ≡ map (λ (r : ChartRow). r.event) rows
events-stay whole kept [] = refl
events-stay whole kept (row ∷ rows) = ap (λ (l : List ℕ). row.event ∷ l) (events-stay whole kept rows)

-- what stands in a mapped list is made of an item
pub map-there : {X Y : Type 0} (f : X → Y) (xs : List X) (i : ℕ) (y : Y) → slice_get (map f xs) i ≡ Some y → (x : X) × (slice_get xs i ≡ Some x) × (f x ≡ y)
map-there f [] i y here = absurd (none-some y here)
map-there f (x ∷ xs) zero y here = (x, refl, same_Some (f x) y here)
map-there f (x ∷ xs) (suc i) y here = map-there f xs i y here

pub drawn-apart : (K : Keeping) (shape : Shape) (whole : List ChartRow) (i j : ℕ) (a b : ChartRow) → i < j → slice_get (with_origins whole (rows_from K shape 0 whole)) i ≡ Some a
    → slice_get (with_origins whole (rows_from K shape 0 whole)) j ≡ Some b → a.line + a.lines ≤ b.line
drawn-apart K shape whole i j a b less here there =
    let kept = rows_from K shape 0 whole in
    let first = map-there (with_origin whole kept) kept i a here in
    let second = map-there (with_origin whole kept) kept j b there in
    subst (λ (x : ChartRow). x.line + x.lines ≤ b.line) first.2
    (subst (λ (x : ChartRow). first.0.line + first.0.lines ≤ x.line) second.2 (kept-apart K shape 0 whole i j first.0 second.0 less first.1 second.1))

-- an arrow that began on the line of an event's row begins on the line that this row has now, or at no row
pub arrow-moves : (K : Keeping) (shape : Shape) (event : ℕ) (whole : List ChartRow) → AreBelow whole
    → moved_from whole (rows_from K shape 0 whole) (line_of_event event whole) ≡ line_of_event event (with_origins whole (rows_from K shape 0 whole))
arrow-moves K shape event whole apart = by_line (line_of_event event whole) refl ∙ sym (lines-stay whole (rows_from K shape 0 whole) (rows_from K shape 0 whole) event) where
  by_line : (o : Option ℕ) → line_of_event event whole ≡ o → moved_from whole (rows_from K shape 0 whole) o ≡ line_of_event event (rows_from K shape 0 whole)
  by_line None e = sym (none-kept K shape event 0 whole e)
  by_line (Some line) e = rw (on-line event line whole apart e) refl

-- The rows of a slide follow each other among those that are kept.
use Rattle.std.proofs.Common.{◌≡◌, ◌⊎◌, inl, inr, ℕ, zero, suc, ◌+◌, ◌-◌, ◌<◌, ◌≤◌, ◌&&◌, min, Bool, true, false, nat_le, nat_lt, List, [], ◌∷◌, length, map, filter, take, drop, slice_get, Option, Some, None, if◌then◌else◌, refl, sym, ap, subst, ◌∙◌, arith}
use Rattle.std.proofs.lemmas.Bool.Decides.{nat_tests}
use Rattle.std.proofs.lemmas.List.{length-drop, length-take}
use Rattle.std.specs.List.{range_with_len}
use Rattle.dn_base.specs.declared.ids.Shape.{Shape}
use Rattle.message_net.specs.declared.event.Event.{Event}
use Rattle.registration_protocol.specs.Node.{Setting}
use Rattle.machine_rules.specs.State.{initial_state}
use Rattle.machine_rules.specs.Runs.{IsRun}
use Rattle.run_chart.specs.declared.charting.Frame.{Frame}
use Rattle.run_chart.specs.declared.drawing.Drawing.{Drawing}
use Rattle.run_chart.specs.declared.drawing.Range.{Range}
use Rattle.run_chart.specs.declared.finishing.Columns.{Columns}
use Rattle.run_chart.specs.declared.keeping.Keeping.{Keeping}
use Rattle.run_chart.specs.declared.keeping.Window.{Window}
use Rattle.run_chart.specs.declared.parts.Chart.{Chart}
use Rattle.run_chart.specs.declared.parts.ChartRow.{ChartRow}
use Rattle.run_chart.specs.declared.parts.Fit.{Fit}
use Rattle.run_chart.specs.Charts.{chart_in, chart_of, drawn, inside}
use Rattle.run_chart.specs.Keeping.{is_asked_for, is_in_window, is_kept, kept_chart, kept_rows}
use Rattle.run_chart.specs.Slides.{event_or, from_first, first_place, place_or_first, window_of, within, within_rows}
use Rattle.run_chart.proofs.KeptRows.{events-stay, kept-events}
use Rattle.run_chart.proofs.RangeRows.{numbered-rows}

-- ---- numbers that rise

-- the numbers of a list rise, from one on and below another
abbrev Rise : ℕ → ℕ → List ℕ → Type 0
Rise low high [] = low ≤ high
Rise low high (x ∷ xs) = (low ≤ x) × (x < high) × Rise (x + 1) high xs

rise-lower : (low lower high : ℕ) (xs : List ℕ) → lower ≤ low → Rise low high xs → Rise lower high xs
rise-lower low lower high [] less rise = omega (arith, less, rise)
rise-lower low lower high (x ∷ xs) less rise = (omega (arith, less, rise.0), rise.1, rise.2)

-- the number at a place; the bound where there is none
abbrev number_at : ℕ → List ℕ → ℕ → ℕ
number_at high [] n = high
number_at high (x ∷ xs) zero = x
number_at high (x ∷ xs) (suc n) = number_at high xs n

at-least : (low high : ℕ) (xs : List ℕ) (n : ℕ) → Rise low high xs → low ≤ number_at high xs n
at-least low high [] n rise = rise
at-least low high (x ∷ xs) zero rise = rise.0
at-least low high (x ∷ xs) (suc n) rise = let later : x + 1 ≤ number_at high xs n = at-least (x + 1) high xs n rise.2 in omega (arith, later, rise.0)

-- ---- the numbers of a span

abbrev in_span : ℕ → ℕ → ℕ → Bool
in_span a b x = nat_le a x && nat_lt x b

never : (t : Bool) → (t && false) ≡ false
never true = refl
never false = refl

above-span : (a b x : ℕ) → b ≤ x → in_span a b x ≡ false
above-span a b x less = let test : nat_lt x b ≡ false = grind (arith, nat_tests, less) in ap (λ (t : Bool). nat_le a x && t) test ∙ never (nat_le a x)

below-span : (a b x : ℕ) → x < a → in_span a b x ≡ false
below-span a b x less = let test : nat_le a x ≡ false = grind (arith, nat_tests, less) in ap (λ (t : Bool). t && nat_lt x b) test

within-span : (a b x : ℕ) → a ≤ x → x < b → in_span a b x ≡ true
within-span a b x least most =
    let first : nat_le a x ≡ true = grind (arith, nat_tests, least) in
    let second : nat_lt x b ≡ true = grind (arith, nat_tests, most) in
    ap (λ (t : Bool). t && nat_lt x b) first ∙ second

none-in-span : (a b low high : ℕ) (xs : List ℕ) → Rise low high xs → b ≤ low → filter (in_span a b) xs ≡ []
none-in-span a b low high [] rise less = refl
none-in-span a b low high (x ∷ xs) rise less =
    rw (above-span a b x (omega (arith, less, rise.0))) (none-in-span a b (x + 1) high xs rise.2 (omega (arith, less, rise.0)))

first-of-span : (a low high : ℕ) (xs : List ℕ) (n : ℕ) → Rise low high xs → a ≤ low → filter (in_span a (number_at high xs n)) xs ≡ take n xs
first-of-span a low high [] zero rise least = refl
first-of-span a low high [] (suc n) rise least = refl
first-of-span a low high (x ∷ xs) zero rise least = none-in-span a x x high (x ∷ xs) (omega arith, rise.1, rise.2) (omega arith)
first-of-span a low high (x ∷ xs) (suc n) rise least =
    let later : x + 1 ≤ number_at high xs n = at-least (x + 1) high xs n rise.2 in
    rw (within-span a (number_at high xs n) x (omega (arith, least, rise.0)) (omega (arith, later)))
    (ap (λ (l : List ℕ). x ∷ l) (first-of-span a (x + 1) high xs n rise.2 (omega (arith, least, rise.0))))

-- the numbers from one place up to another
span-is : (low high : ℕ) (xs : List ℕ) (s n : ℕ) → Rise low high xs → filter (in_span (number_at high xs s) (number_at high xs (s + n))) xs ≡ take n (drop s xs)
span-is low high [] zero zero rise = refl
span-is low high [] zero (suc n) rise = refl
span-is low high [] (suc s) zero rise = refl
span-is low high [] (suc s) (suc n) rise = refl
span-is low high (x ∷ xs) zero n rise =
    let all : n ≡ 0 + n = omega arith in
    subst (λ (k : ℕ). filter (in_span (number_at high (x ∷ xs) 0) (number_at high (x ∷ xs) k)) (x ∷ xs) ≡ take n (x ∷ xs)) all
    (first-of-span x x high (x ∷ xs) n (omega arith, rise.1, rise.2) (omega arith))
span-is low high (x ∷ xs) (suc s) n rise =
    let later : x + 1 ≤ number_at high xs s = at-least (x + 1) high xs s rise.2 in
    let next : suc (s + n) ≡ suc s + n = omega arith in
    subst (λ (k : ℕ). filter (in_span (number_at high xs s) (number_at high (x ∷ xs) k)) (x ∷ xs) ≡ take n (drop s xs)) next
    (rw (below-span (number_at high xs s) (number_at high xs (s + n)) x (omega (arith, later))) (span-is (x + 1) high xs s n rise.2))

-- ---- the events of rows

abbrev event_of : ChartRow → ℕ
event_of = λ (row : ChartRow). row.event

numbered-place : (high : ℕ) (rows : List ChartRow) (n : ℕ) → event_or high (slice_get rows n) ≡ number_at high (map event_of rows) n
numbered-place high [] n = refl
numbered-place high (row ∷ rows) zero = refl
numbered-place high (row ∷ rows) (suc n) = numbered-place high rows n

dropped-place : (rows : List ChartRow) (s n : ℕ) → slice_get (drop s rows) n ≡ slice_get rows (s + n)
dropped-place [] zero n = refl
dropped-place [] (suc s) n = refl
dropped-place (row ∷ rows) zero n =
    let all : n ≡ 0 + n = omega arith in
    ap (λ (k : ℕ). slice_get (row ∷ rows) k) all
dropped-place (row ∷ rows) (suc s) n =
    let next : suc (s + n) ≡ suc s + n = omega arith in
    dropped-place rows s n ∙ ap (λ (k : ℕ). slice_get (row ∷ rows) k) next

dropped-events : (rows : List ChartRow) (s : ℕ) → map event_of (drop s rows) ≡ drop s (map event_of rows)
dropped-events [] zero = refl
dropped-events [] (suc s) = refl
dropped-events (row ∷ rows) zero = refl
dropped-events (row ∷ rows) (suc s) = dropped-events rows s

-- the event behind so many rows, which are left of more
event-behind : (high : ℕ) (rows : List ChartRow) (s n : ℕ) → event_or high (slice_get (drop s rows) n) ≡ number_at high (map event_of rows) (s + n)
event-behind high rows s n = ap (event_or high) (dropped-place rows s n) ∙ numbered-place high rows (s + n)

rise-filter : (p : ChartRow → Bool) (low high : ℕ) (rows : List ChartRow) → Rise low high (map event_of rows) → Rise low high (map event_of (filter p rows))
rise-filter p low high [] rise = rise
rise-filter p low high (row ∷ rows) rise = by_test (p row) refl (rise-filter p (row.event + 1) high rows rise.2) where
  by_test : (t : Bool) → p row ≡ t → Rise (row.event + 1) high (map event_of (filter p rows)) → Rise low high (map event_of (filter p (row ∷ rows)))
  by_test true e later = rw e (rise.0, rise.1, later)
  by_test false e later = rw e (rise-lower (row.event + 1) low high (map event_of (filter p rows)) (omega (arith, rise.0)) later)

rise-range : (first n high : ℕ) → first + n ≤ high → Rise first high (range_with_len first n)
rise-range first zero high most = omega (arith, most)
rise-range first (suc n) high most = (omega arith, omega (arith, most), rise-range (first + 1) n high (omega (arith, most)))

-- ---- the window

module _ (K : Keeping) (shape : Shape) (window : Window) (none : K.window ≡ None) where
  kept-asked : (row : ChartRow) → is_kept K shape row ≡ is_asked_for K shape row
  kept-asked row = ap (λ (o : Option Window). is_in_window o row.event && is_asked_for K shape row) none

  abbrev span : ℕ → Bool
  span = in_span window.first window.behind

  within-kept : (row : ChartRow) → is_kept (within K window) shape row ≡ (span row.event && is_kept K shape row)
  within-kept row = ap (λ (b : Bool). span row.event && b) (sym (kept-asked row))

  window-events : (rows : List ChartRow) → map event_of (filter (is_kept (within K window) shape) rows) ≡ filter span (map event_of (filter (is_kept K shape) rows))
  window-events [] = refl
  window-events (row ∷ rows) = by_tests (span row.event) refl (is_kept K shape row) refl (window-events rows) where
    tested : (s t : Bool) → span row.event ≡ s → is_kept K shape row ≡ t → is_kept (within K window) shape row ≡ (s && t)
    tested s t e f = within-kept row ∙ ap (λ (b : Bool). b && is_kept K shape row) e ∙ ap (λ (b : Bool). s && b) f

    by_tests : (s : Bool) → span row.event ≡ s → (t : Bool) → is_kept K shape row ≡ t
        → map event_of (filter (is_kept (within K window) shape) rows) ≡ filter span (map event_of (filter (is_kept K shape) rows))
        → map event_of (filter (is_kept (within K window) shape) (row ∷ rows)) ≡ filter span (map event_of (filter (is_kept K shape) (row ∷ rows)))
    by_tests true e true f later = rw (tested true true e f, f, e) (ap (λ (l : List ℕ). row.event ∷ l) later)
    by_tests true e false f later = rw (tested true false e f, f) later
    by_tests false e true f later = rw (tested false true e f, f, e) later
    by_tests false e false f later = rw (tested false false e f, f) later

-- the events of so many of the rows
module _ (K : Keeping) (chart : Chart) (none : K.window ≡ None) (rise : Rise 0 chart.events (map event_of chart.rows)) where
  abbrev whole : List ℕ
  whole = map event_of (kept_rows K chart)

  whole-is : whole ≡ map event_of (filter (is_kept K chart.shape) chart.rows)
  whole-is = kept-events K chart.shape 0 chart.rows

  whole-rises : Rise 0 chart.events whole
  whole-rises = subst (Rise 0 chart.events) (sym whole-is) (rise-filter (is_kept K chart.shape) 0 chart.events chart.rows rise)

  pub rows-follow : (shown : Columns) (fit : Fit) (note : List ℕ) (count : ℕ)
      → map event_of (kept_chart (within_rows K chart count) shown fit note chart).rows ≡ take count (map event_of (from_first (kept_rows K chart)))
  rows-follow shown fit note count =
      events-stay chart.rows (kept_rows (within_rows K chart count) chart) (kept_rows (within_rows K chart count) chart)
      ∙ kept-events (within_rows K chart count) chart.shape 0 chart.rows
      ∙ window-events K chart.shape (window_of (from_first (kept_rows K chart)) chart.events count) none chart.rows
      ∙ ap (filter (in_span first behind)) (sym whole-is)
      ∙ ap (λ (a : ℕ). filter (in_span a behind) whole) (event-behind chart.events (kept_rows K chart) place 0 ∙ ap (number_at chart.events whole) no-more)
      ∙ ap (λ (b : ℕ). filter (in_span (number_at chart.events whole place) b) whole) (event-behind chart.events (kept_rows K chart) place count)
      ∙ span-is 0 chart.events whole place count whole-rises
      ∙ ap (take count) (sym (dropped-events (kept_rows K chart) place))
    where
      place : ℕ
      place = place_or_first (first_place (kept_rows K chart))

      no-more : place + 0 ≡ place
      no-more = omega arith

      first : ℕ
      first = event_or chart.events (slice_get (from_first (kept_rows K chart)) 0)

      behind : ℕ
      behind = event_or chart.events (slice_get (from_first (kept_rows K chart)) count)

-- ---- in a run

chart-events : (frame : Frame) (o : Option Drawing) → (chart_in frame o).events ≡ frame.events
chart-events frame None = refl
chart-events frame (Some d) = refl

pub run-rises : (C : Setting) (events : List Event) (range : Range) (chain : List ℕ) (columns : Columns) → IsRun (initial_state C) events
    → Rise 0 (chart_of C events range chain columns).events (map event_of (chart_of C events range chain columns).rows)
run-rises C events range chain columns run =
    subst (λ (high : ℕ). Rise 0 high (map event_of (chart_of C events range chain columns).rows)) (sym count) (subst (Rise 0 (length events)) (sym (numbered-rows C events range chain columns run)) (by_length (length (inside range events)) refl))
  where
    frame : Frame
    frame = record { shape = C.shape; fuel = C.fuel; range = range; events = length events; columns = columns }

    count : (chart_of C events range chain columns).events ≡ length events
    count = chart-events frame (drawn (record { state = initial_state C; made = 0 }) range chain events)

    most : length (inside range events) ≤ length events - range.first
    most = omega (arith, length-take range.most (drop range.first events), length-drop range.first events)

    by_length : (n : ℕ) → length (inside range events) ≡ n → Rise 0 (length events) (range_with_len range.first n)
    by_length zero e = omega arith
    by_length (suc n) e = rise-lower range.first 0 (length events) (range_with_len range.first (suc n)) (omega arith) (rise-range range.first (suc n) (length events) (omega (arith, most, e)))

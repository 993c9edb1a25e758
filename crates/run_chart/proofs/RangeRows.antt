-- What holds of the rows of a range: their numbers, their lines and their marks.
use Rattle.std.proofs.Common.{◌≡◌, ◌⊎◌, inl, inr, ℕ, zero, suc, ◌+◌, ◌<◌, ◌≤◌, Bool, true, false, nat_lt, List, [], ◌∷◌, ◌++◌, length, map, take, drop, slice_get, Option, Some, None, refl, sym, ap, subst, ◌∙◌, arith, append_assoc}
use Rattle.std.specs.List.{range_with_len}
use Rattle.std.proofs.lemmas.Bool.Decides.{nat_tests}
use Rattle.std.proofs.lemmas.List.{take_all, drop_all, length-take, append-nil, map-append}
use Rattle.std.proofs.lemmas.Option.{none-some, same_Some, slice_get_within}
use Rattle.message_net.specs.declared.event.Event.{Event}
use Rattle.registration_protocol.specs.Node.{Setting}
use Rattle.machine_rules.specs.State.{State, initial_state}
use Rattle.machine_rules.specs.Next.{next, enabled}
use Rattle.machine_rules.specs.Runs.{IsRun}
use Rattle.dn_machine.specs.Kept.{Made}
use Rattle.run_chart.specs.declared.parts.ChartRow.{ChartRow}
use Rattle.run_chart.specs.declared.charting.Frame.{Frame}
use Rattle.run_chart.specs.declared.drawing.Drawing.{Drawing}
use Rattle.run_chart.specs.declared.drawing.Range.{Range}
use Rattle.run_chart.specs.declared.finishing.Columns.{Columns}
use Rattle.run_chart.specs.Charts.{before, inside, drawn, drawn_behind, chart_in, chart_of}
use Rattle.run_chart.specs.Drawing.{moved, row_of, with_row, with_rows, led_to, begun}
use Rattle.run_chart.specs.Marks.{is_on_chain}

-- ---- one row more

-- what stands in a list with one item more is an item of it or the new one
get-pushed : {X : Type 0} (xs : List X) (x y : X) (k : ℕ) → slice_get (xs ++ x ∷ []) k ≡ Some y → (slice_get xs k ≡ Some y) ⊎ ((k ≡ length xs) × (x ≡ y))
get-pushed [] x y zero here = inr (refl, same_Some x y here)
get-pushed [] x y (suc k) here = absurd (none-some y here)
get-pushed (z ∷ xs) x y zero here = inl here
get-pushed (z ∷ xs) x y (suc k) here = one (get-pushed xs x y k here) where
  one : (slice_get xs k ≡ Some y) ⊎ ((k ≡ length xs) × (x ≡ y)) → (slice_get xs k ≡ Some y) ⊎ ((suc k ≡ suc (length xs)) × (x ≡ y))
  one (inl there) = inl there
  one (inr last) = inr (ap suc last.0, last.1)

-- what holds of each row
abbrev pub OfEach : (ChartRow → Type 0) → List ChartRow → Type 0
OfEach Q rows = (i : ℕ) (row : ChartRow) → slice_get rows i ≡ Some row → Q row

pub no-row : (Q : ChartRow → Type 0) → OfEach Q []
no-row Q i row here = absurd (none-some row here)

pub one-more : (Q : ChartRow → Type 0) (rows : List ChartRow) (last : ChartRow) → OfEach Q rows → Q last → OfEach Q (rows ++ last ∷ [])
one-more Q rows last all new i row here = by_case (get-pushed rows last row i here) where
  by_case : (slice_get rows i ≡ Some row) ⊎ ((i ≡ length rows) × (last ≡ row)) → Q row
  by_case (inl there) = all i row there
  by_case (inr is) = subst Q is.1 new

-- the rows of what is drawn
abbrev pub rows_in : Option Drawing → List ChartRow
rows_in None = []
rows_in (Some d) = d.rows

pub chart-rows : (frame : Frame) (o : Option Drawing) → (chart_in frame o).rows ≡ rows_in o
chart-rows frame None = refl
chart-rows frame (Some d) = refl

-- ---- each row by itself

module _ (chain : List ℕ) (Q : ChartRow → Type 0) (each : (d : Drawing) (e : Event) → Q (row_of chain d e)) where
  rows-have : (d : Drawing) (es : List Event) → OfEach Q d.rows → OfEach Q (with_rows chain d es).rows
  rows-have d [] all = all
  rows-have d (e ∷ es) all = by_test (enabled d.machine.state e) refl (rows-have (with_row chain d e) es (one-more Q d.rows (row_of chain d e) all (each d e))) where
    by_test : (t : Bool) → enabled d.machine.state e ≡ t → OfEach Q (with_rows chain (with_row chain d e) es).rows → OfEach Q (with_rows chain d (e ∷ es)).rows
    by_test true may later = rw may later
    by_test false may later = rw may all

  drawn-have : (event : ℕ) (wanted : List Event) (o : Option Made) → OfEach Q (rows_in (drawn_behind chain event wanted o))
  drawn-have event wanted None = no-row Q
  drawn-have event wanted (Some m) = rows-have (begun m event) wanted (no-row Q)

  pub chart-have : (C : Setting) (events : List Event) (range : Range) (columns : Columns) → OfEach Q (chart_of C events range chain columns).rows
  chart-have C events range columns =
      let m : Made = record { state = initial_state C; made = 0 } in
      let frame : Frame = record { shape = C.shape; fuel = C.fuel; range = range; events = length events; columns = columns } in
      subst (OfEach Q) (sym (chart-rows frame (drawn m range chain events))) (drawn-have (length (before range events)) (inside range events) (led_to m (before range events)))

pub marked-rows : (C : Setting) (events : List Event) (range : Range) (chain : List ℕ) (columns : Columns) → OfEach (λ row. row.on_chain ≡ is_on_chain chain row.event) (chart_of C events range chain columns).rows
marked-rows C events range chain columns = chart-have chain (λ row. row.on_chain ≡ is_on_chain chain row.event) (λ d e. refl) C events range columns

-- ---- their lines

-- rows one below the other, all above a line
pub record AreStacked (rows : List ChartRow) (line : ℕ) : Type 0 where
  pub apart : (i j : ℕ) (a b : ChartRow) → i < j → slice_get rows i ≡ Some a → slice_get rows j ≡ Some b → a.line + a.lines ≤ b.line
  pub above : (i : ℕ) (a : ChartRow) → slice_get rows i ≡ Some a → a.line + a.lines ≤ line

no-stack : (line : ℕ) → AreStacked [] line
no-stack line = record { apart = λ i j a b less here there. absurd (none-some a here); above = λ i a here. absurd (none-some a here) }

stack-more : (rows : List ChartRow) (line : ℕ) (last : ChartRow) → last.line ≡ line → AreStacked rows line → AreStacked (rows ++ last ∷ []) (line + last.lines)
stack-more rows line last at stacked =
    record {
      apart = λ i j a b less here there. by_both i j a b less (get-pushed rows last a i here) (get-pushed rows last b j there);
      above = λ i a here. by_case i a (get-pushed rows last a i here);
    }
  where
    by_case : (i : ℕ) (a : ChartRow) → (slice_get rows i ≡ Some a) ⊎ ((i ≡ length rows) × (last ≡ a)) → a.line + a.lines ≤ line + last.lines
    by_case i a (inl here) = omega (arith, stacked.above i a here)
    by_case i a (inr is) = subst (λ (r : ChartRow). r.line + r.lines ≤ line + last.lines) is.1 (omega (arith, at))

    by_both : (i j : ℕ) (a b : ChartRow) → i < j → (slice_get rows i ≡ Some a) ⊎ ((i ≡ length rows) × (last ≡ a)) → (slice_get rows j ≡ Some b) ⊎ ((j ≡ length rows) × (last ≡ b)) → a.line + a.lines ≤ b.line
    by_both i j a b less (inl here) (inl there) = stacked.apart i j a b less here there
    by_both i j a b less (inl here) (inr is) = subst (λ (r : ChartRow). a.line + a.lines ≤ r.line) is.1 (omega (arith, at, stacked.above i a here))
    by_both i j a b less (inr is) (inl there) = absurd (omega (arith, less, is.0, slice_get_within rows j b there))
    by_both i j a b less (inr is) (inr is') = absurd (omega (arith, less, is.0, is'.0))

module _ (chain : List ℕ) where
  stacked : (d : Drawing) (es : List Event) → AreStacked d.rows d.line → AreStacked (with_rows chain d es).rows (with_rows chain d es).line
  stacked d [] so_far = so_far
  stacked d (e ∷ es) so_far = by_test (enabled d.machine.state e) refl (stacked (with_row chain d e) es (stack-more d.rows d.line (row_of chain d e) refl so_far)) where
    by_test : (t : Bool) → enabled d.machine.state e ≡ t → AreStacked (with_rows chain (with_row chain d e) es).rows (with_rows chain (with_row chain d e) es).line
        → AreStacked (with_rows chain d (e ∷ es)).rows (with_rows chain d (e ∷ es)).line
    by_test true may later = rw may later
    by_test false may later = rw may so_far

  drawn-stacked : (event : ℕ) (wanted : List Event) (o : Option Made) → (line : ℕ) × AreStacked (rows_in (drawn_behind chain event wanted o)) line
  drawn-stacked event wanted None = (0, no-stack 0)
  drawn-stacked event wanted (Some m) = ((with_rows chain (begun m event) wanted).line, stacked (begun m event) wanted (no-stack 0))

  pub apart-rows : (C : Setting) (events : List Event) (range : Range) (columns : Columns) (i j : ℕ) (a b : ChartRow) → i < j → slice_get (chart_of C events range chain columns).rows i ≡ Some a
      → slice_get (chart_of C events range chain columns).rows j ≡ Some b → a.line + a.lines ≤ b.line
  apart-rows C events range columns =
      let m : Made = record { state = initial_state C; made = 0 } in
      let frame : Frame = record { shape = C.shape; fuel = C.fuel; range = range; events = length events; columns = columns } in
      let all = drawn-stacked (length (before range events)) (inside range events) (led_to m (before range events)) in
      (subst (λ (rows : List ChartRow). AreStacked rows all.0) (sym (chart-rows frame (drawn m range chain events))) all.1).apart

-- each begins below those before it, since a row has a line at least
pub below-rows : (chain : List ℕ) (C : Setting) (events : List Event) (range : Range) (columns : Columns) (i j : ℕ) (a b : ChartRow) → i < j → slice_get (chart_of C events range chain columns).rows i ≡ Some a
    → slice_get (chart_of C events range chain columns).rows j ≡ Some b → a.line < b.line
below-rows chain C events range columns i j a b less here there =
    let tall : 1 ≤ a.lines = chart-have chain (λ row. 1 ≤ row.lines) (λ d e. omega arith) C events range columns i a here in
    omega (arith, tall, apart-rows chain C events range columns i j a b less here there)

-- ---- their numbers

module _ (chain : List ℕ) where
  numbered : (d : Drawing) (es : List Event) → IsRun d.machine.state es → map (λ (r : ChartRow). r.event) (with_rows chain d es).rows ≡ map (λ (r : ChartRow). r.event) d.rows ++ range_with_len d.event (length es)
  numbered d [] run = sym (append-nil (map (λ (r : ChartRow). r.event) d.rows))
  numbered d (e ∷ es) run =
      rw run.0
      (numbered (with_row chain d e) es run.1
      ∙ ap (λ (l : List ℕ). l ++ range_with_len (d.event + 1) (length es)) (map-append (λ (r : ChartRow). r.event) d.rows (row_of chain d e ∷ []))
      ∙ append_assoc (map (λ (r : ChartRow). r.event) d.rows) (d.event ∷ []) (range_with_len (d.event + 1) (length es)))

take-none : (n : ℕ) → ◌≡◌ {A = List Event} (take n []) []
take-none n = take_all n [] (omega arith)

drop-none : (n : ℕ) → ◌≡◌ {A = List Event} (drop n []) []
drop-none n = drop_all n [] (omega arith)

-- the first events of a run lead on, and the others are a run behind them
run-split : (m : Made) (events : List Event) (n : ℕ) → IsRun m.state events → (k : Made) × (led_to m (take n events) ≡ Some k) × IsRun k.state (drop n events)
run-split m [] n run = (m, rw (take-none n) refl, rw (drop-none n) tt)
run-split m (e ∷ es) zero run = (m, refl, run)
run-split m (e ∷ es) (suc n) run = one (run-split (moved m e) es n run.1) where
  one : (k : Made) × (led_to (moved m e) (take n es) ≡ Some k) × IsRun k.state (drop n es) → (k : Made) × (led_to m (e ∷ take n es) ≡ Some k) × IsRun k.state (drop n es)
  one (k, led, rest) = (k, rw run.0 led, rest)

pub run-first : (S : State) (events : List Event) (n : ℕ) → IsRun S events → IsRun S (take n events)
run-first S [] n run = rw (take-none n) tt
run-first S (e ∷ es) zero run = tt
run-first S (e ∷ es) (suc n) run = (run.0, run-first (next S e) es n run.1)

pub numbered-rows : (C : Setting) (events : List Event) (range : Range) (chain : List ℕ) (columns : Columns) → IsRun (initial_state C) events
    → map (λ (r : ChartRow). r.event) (chart_of C events range chain columns).rows ≡ range_with_len range.first (length (inside range events))
numbered-rows C events range chain columns run = by_split (run-split m events range.first run) where
  m : Made
  m = record { state = initial_state C; made = 0 }

  frame : Frame
  frame = record { shape = C.shape; fuel = C.fuel; range = range; events = length events; columns = columns }

  from : length (before range events) ≡ range.first ⊎ (length (inside range events) ≡ 0)
  from = by_test (nat_lt (length events) range.first) refl where
    by_test : (t : Bool) → nat_lt (length events) range.first ≡ t → length (before range events) ≡ range.first ⊎ (length (inside range events) ≡ 0)
    by_test true e =
        let none : drop range.first events ≡ [] = drop_all range.first events (grind (arith, nat_tests, e)) in
        inr (ap (λ (l : List Event). length (take range.most l)) none ∙ ap (λ (l : List Event). length l) (take_all range.most [] (omega arith)))
    by_test false e =
        let enough : range.first ≤ length events = grind (arith, nat_tests, e) in
        inl (omega (arith, length-take range.first events, enough))

  same-range : length (before range events) ≡ range.first ⊎ (length (inside range events) ≡ 0)
      → range_with_len (length (before range events)) (length (inside range events)) ≡ range_with_len range.first (length (inside range events))
  same-range (inl at) = ap (λ (n : ℕ). range_with_len n (length (inside range events))) at
  same-range (inr none) = rw none refl

  by_split : (k : Made) × (led_to m (before range events) ≡ Some k) × IsRun k.state (drop range.first events)
      → map (λ (r : ChartRow). r.event) (chart_of C events range chain columns).rows ≡ range_with_len range.first (length (inside range events))
  by_split (k, led, rest) =
      ap (λ (rows : List ChartRow). map (λ (r : ChartRow). r.event) rows) (chart-rows frame (drawn m range chain events))
      ∙ ap (λ (o : Option Made). map (λ (r : ChartRow). r.event) (rows_in (drawn_behind chain (length (before range events)) (inside range events) o))) led
      ∙ numbered chain (begun k (length (before range events))) (inside range events) (run-first k.state (drop range.first events) range.most rest)
      ∙ same-range from

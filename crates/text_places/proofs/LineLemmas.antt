-- Each row of a program's tables has a place, and the place of a code word names the line that gives it.
use Rattle.std.proofs.Common.{◌≡◌, ℕ, zero, suc, ◌+◌, ◌<◌, List, [], ◌∷◌, ◌++◌, length, Option, Some, Ok, refl, sym, ap, ◌∙◌, subst, append_assoc, append-nil, length-append, flat_map, ◌⊎◌, inl, inr, ⊎_elim, slice_get, arith}
use Rattle.std.specs.List.{range_with_len}
use Rattle.std.proofs.lemmas.List.{length-map}
use Rattle.std.proofs.lemmas.List.FromFn.{length-range_with_len}
use Rattle.region_table.specs.declared.declared.Phase.{Phase}
use Rattle.region_table.specs.Program.{ProgramParts}
use Rattle.rv_assembler.specs.declared.parsing.Saying.{Saying}
use Rattle.rv_assembler.specs.declared.names.Meaning.{Meaning}
use Rattle.rv_assembler.specs.Placed.{Placed, placed_behind}
use Rattle.rv_assembler.specs.Counts.{phases_in}
use Rattle.rv_assembler.specs.Declarations.{meaning_of}
use Rattle.rv_assembler.specs.Tables.{placed_code, region_at, lock_name_at, tables}
use Rattle.rv_assembler.specs.Program.{phase_of}
use Rattle.rv_assembler.specs.Source.{readings, sayings, source}
use Rattle.rv_assembler.proofs.TableLemmas.{place}
use Rattle.text_places.specs.declared.places.CodePlace.{CodePlace}
use Rattle.text_places.specs.Places.{each_part, places_at, code_place, own_line, text_places}
use Rattle.text_places.specs.Lines.{IsLineOfCode}
use Rattle.text_places.proofs.PlaceLemmas.{phase-count, has-program}

-- ---- as many places as rows

module _ {Row Place : Type 0} where
  length-parts : (f : ℕ → Row → Place) (k : ℕ) (rows : List Row) → length (each_part f k rows) ≡ length rows
  length-parts f k [] = refl
  length-parts f k (r ∷ rs) = ap suc (length-parts f (k + 1) rs)

  length-behind : (rows_at : Placed Saying → List Row) (f : ℕ → ℕ → Row → Place) (before ss : List Saying) → length (flat_map (places_at rows_at f) (placed_behind before ss)) ≡ length (flat_map rows_at (placed_behind before ss))
  length-behind rows_at f before [] = refl
  length-behind rows_at f before (s ∷ ss) =
      let p = place before s in
      let now : List Saying = before ++ s ∷ [] in
      let here : length (places_at rows_at f p) ≡ length (rows_at p) = length-parts (f s.line) 0 (rows_at p) in
      let rest = length-behind rows_at f now ss in
      let places = length-append (places_at rows_at f p) (flat_map (places_at rows_at f) (placed_behind now ss)) in
      let rows = length-append (rows_at p) (flat_map rows_at (placed_behind now ss)) in
      omega arith

module _ (text : List ℕ) (P : ProgramParts) (is : source text ≡ Ok P) where
  abbrev said : List Saying
  said = sayings (readings text)

  abbrev names : List ℕ → Option Meaning
  names = meaning_of text said

  pub all-code : length (text_places text).code ≡ length P.code
  all-code = length-behind (placed_code text names) code_place [] said ∙ ap (λ (p : ProgramParts). length p.code) (has-program text P is).program

  pub all-regions : length (text_places text).regions ≡ length P.regions
  all-regions = length-behind (region_at text) own_line [] said ∙ ap (λ (p : ProgramParts). length p.regions) (has-program text P is).program

  pub all-locks : length (text_places text).locks ≡ length P.locks
  all-locks = length-behind (lock_name_at text) own_line [] said ∙ ap (λ (p : ProgramParts). length p.locks) (has-program text P is).program

  pub all-phases : length (text_places text).phases ≡ length P.phases
  all-phases =
      let d = tables text names said in
      let f : ℕ → Phase = phase_of (length d.locks) d.claims d.tasks in
      phase-count said
      ∙ sym (length-map (range_with_len 1 (phases_in said)) f ∙ length-range_with_len 1 (phases_in said))
      ∙ ap (λ (p : ProgramParts). length p.phases) (has-program text P is).program

-- ---- the line of a code word

get-parts : {X : Type 0} (xs ys : List X) (n : ℕ) (x : X) → slice_get (xs ++ ys) n ≡ Some x → (slice_get xs n ≡ Some x) ⊎ ((m : ℕ) × (n ≡ length xs + m) × (slice_get ys m ≡ Some x))
get-parts [] ys n x e = inr (n, omega arith, e)
get-parts (y ∷ xs) ys zero x e = inl e
get-parts (y ∷ xs) ys (suc n) x e =
    ⊎_elim (λ h. inl h) (λ h. let more = h.1 in inr (h.0, omega arith, h.2)) (get-parts xs ys n x e)

code-part : (line k : ℕ) (words : List ℕ) (n : ℕ) (p : CodePlace) → slice_get (each_part (code_place line) k words) n ≡ Some p → (line ≡ p.line) × (k + n ≡ p.part) × (n < length words)
code-part line k [] n p e = absurd cc
code-part line k (w ∷ ws) zero p e =
    let same : code_place line k w ≡ p = cc in
    let part : k ≡ p.part = ap (λ (q : CodePlace). q.part) same in
    (ap (λ (q : CodePlace). q.line) same, omega arith, omega arith)
code-part line k (w ∷ ws) (suc n) p e = let h = code-part line (k + 1) ws n p e in let part = h.1 in let within = h.2 in (h.0, omega arith, omega arith)

record IsFound (text : List ℕ) (names : List ℕ → Option Meaning) (earlier ss : List Saying) (n : ℕ) (p : CodePlace) : Type 0 where
  pub middle : List Saying
  pub here : Saying
  pub behind : List Saying
  pub lines_are : ss ≡ middle ++ here ∷ behind
  pub named : here.line ≡ p.line
  pub words : n ≡ length (flat_map (placed_code text names) (placed_behind earlier middle)) + p.part
  pub own : p.part < length (placed_code text names (place (earlier ++ middle) here))

code-found : (text : List ℕ) (names : List ℕ → Option Meaning) (earlier ss : List Saying) (n : ℕ) (p : CodePlace) → slice_get (flat_map (places_at (placed_code text names) code_place) (placed_behind earlier ss)) n ≡ Some p → IsFound text names earlier ss n p
code-found text names earlier [] n p e = absurd cc
code-found text names earlier (s ∷ ss) n p e =
    ⊎_elim
    (λ (h : slice_get mine n ≡ Some p).
    let found = code-part s.line 0 rows n p h in
    let part = found.1 in
    let within = found.2 in
    let own : p.part < length rows = omega arith in
    record {
      middle = [];
      here = s;
      behind = ss;
      lines_are = refl;
      named = found.0;
      words = omega arith;
      own = subst (λ (b : List Saying). p.part < length (placed_code text names (place b s))) (sym (append-nil earlier)) own;
    })
    (λ h.
    let found = code-found text names now ss h.0 p h.2 in
    let before = h.1 in
    let same : length mine ≡ length rows = length-parts (code_place s.line) 0 rows in
    let words = found.words in
    let all = length-append rows (flat_map (placed_code text names) (placed_behind now found.middle)) in
    record {
      middle = s ∷ found.middle;
      here = found.here;
      behind = found.behind;
      lines_are = ap (λ (l : List Saying). s ∷ l) found.lines_are;
      named = found.named;
      words = omega arith;
      own = subst (λ (b : List Saying). p.part < length (placed_code text names (place b found.here))) (append_assoc earlier (s ∷ []) found.middle) found.own;
    })
    (get-parts mine (flat_map (places_at (placed_code text names) code_place) (placed_behind now ss)) n p e)
  where
    now : List Saying
    now = earlier ++ s ∷ []

    rows : List ℕ
    rows = placed_code text names (place earlier s)

    mine : List CodePlace
    mine = places_at (placed_code text names) code_place (place earlier s)

pub code-of_line : (text : List ℕ) (n : ℕ) (p : CodePlace) → slice_get (text_places text).code n ≡ Some p → IsLineOfCode text n p
code-of_line text n p e =
    let ss = sayings (readings text) in
    let found = code-found text (meaning_of text ss) [] ss n p e in
    record { before = found.middle; here = found.here; behind = found.behind; lines_are = found.lines_are; named = found.named; earlier = found.words; own = found.own }

-- Each line that is said to claim a word for a task gives the tables such a claim.
use Rattle.std.proofs.Common.{◌≡◌, ◌≢◌, ◌⊎◌, inl, inr, ℕ, zero, suc, ◌+◌, ◌-◌, ◌<◌, ◌≤◌, ◌==◌, ℤ, pos, negsuc, int_le, int_lt, Bool, true, false, ◌&&◌, cond, nat_le, nat_lt, bytes_eq, if◌then◌else◌, List, [], ◌∷◌, ◌++◌, map, filter_map, flat_map, find, get_or, slice_get, length, Option, Some, None, Ok, option_map, IfSome, is_none, refl, sym, ap, subst, ◌∙◌, ⊎_elim, arith, append_assoc, length-append}
use Rattle.std.specs.List.{IsAmong, range_with_len, cons_option}
use Rattle.std.proofs.lemmas.Bool.{true≢false, false≢true, and_parts, or_parts, eqb-true, eqb-false, leb-true, ltb-true, lt-ltb, le-leb, cases_order}
use Rattle.std.proofs.lemmas.List.{append-nil, length-map, get_or_append_left, get_or-map}
use Rattle.std.proofs.lemmas.List.Elements.{filter_map-append}
use Rattle.std.proofs.lemmas.Option.{none-some, same_Some, slice_get_within, get_or_from_slice_get}
use Rattle.std.proofs.lemmas.Slice.Eq.{bytes_eq-Decides}
use Rattle.src_text.specs.Line.{lines_of}
use Rattle.src_text.specs.declared.token.Token.{Token}
use Rattle.region_table.specs.declared.declared.Region.{Region}
use Rattle.region_table.specs.Program.{ProgramParts, IsProgram, names_of}
use Rattle.region_table.proofs.RegionLemmas.{regions-within}
use Rattle.effect_checker.specs.declared.fault.CheckFault.{CheckFault}
use Rattle.effect_checker.specs.declared.fault.CheckFault.TheVariants.{PlainConflict, GuardedPlain, TwoLocks}
use Rattle.rv_assembler.specs.declared.fault.SourceFault.{SourceFault}
use Rattle.rv_assembler.specs.declared.statement.Statement.{Statement}
use Rattle.rv_assembler.specs.declared.statement.Statement as statement
use Rattle.rv_assembler.specs.declared.statement.Effect.{Effect}
use Rattle.rv_assembler.specs.declared.statement.Extent.{Extent}
use Rattle.rv_assembler.specs.declared.parsing.Saying.{Saying}
use Rattle.rv_assembler.specs.declared.parsing.Reading.{Reading}
use Rattle.rv_assembler.specs.declared.parsing.Reading.TheVariants.{Bad, Good}
use Rattle.rv_assembler.specs.declared.names.Meaning.{Meaning}
use Rattle.rv_assembler.specs.declared.names.Meaning as meaning
use Rattle.rv_assembler.specs.declared.draft.Start.{Start}
use Rattle.rv_assembler.specs.declared.draft.Claim.{Claim}
use Rattle.rv_assembler.specs.declared.draft.Cores.{Cores}
use Rattle.rv_assembler.specs.declared.draft.Span.{Span}
use Rattle.rv_assembler.specs.declared.draft.Usage.{Usage}
use Rattle.rv_assembler.specs.Number.{natural_of}
use Rattle.rv_assembler.specs.Operand.{bytes_of}
use Rattle.rv_assembler.specs.Named.{region_span, lock_number, task_entry, usage_of, usage_by, plain_usage, under_lock}
use Rattle.rv_assembler.specs.Rows.{start_at, use_at, uses_of}
use Rattle.rv_assembler.specs.Placed.{Placed, placed, placed_behind}
use Rattle.rv_assembler.specs.Counts.{data_words, regions_in, locks_in, code_words, is_phase, phases_in, family_in, current_family}
use Rattle.rv_assembler.specs.Declarations.{Declaration, label_by, named_by, declared_at, declarations, meaning_of}
use Rattle.rv_assembler.specs.Tables.{region_by, region_at, tasks_by, tasks_at, claim_by, claim_at, tables}
use Rattle.rv_assembler.specs.Fault.{out_of_range, doubled, unknown, misplaced, lock_lost, extent_far, early_fault, limit_fault}
use Rattle.rv_assembler.specs.Reading.{version_line}
use Rattle.rv_assembler.specs.Source.{good, sayings, readings, line_fault, fault_at, source}
use Rattle.rv_assembler.proofs.DoubledLemmas.{AreRising}
use Rattle.rv_assembler.proofs.RisingLemmas.{lines-rise}
use Rattle.rv_assembler.proofs.TableLemmas.{place, sum-same, tally, family-same, family-new}
use Rattle.rv_assembler.proofs.UseLemmas.{both-none}
use Rattle.rv_assembler.proofs.WellFormed.{source-well-formed}
use Rattle.text_places.specs.declared.places.TaskPlace.{TaskPlace}
use Rattle.text_places.specs.declared.words.WordPlace.{WordPlace}
use Rattle.text_places.specs.Places.{each_part, places_at, task_place, text_places}
use Rattle.text_places.specs.declared.places.Located.{Located}
use Rattle.text_places.specs.declared.places.Places.{Places}
use Rattle.text_places.specs.Words.{is_task_of, region_has, word_place_from, word_place, IsWordPlace}
use Rattle.text_places.proofs.PlaceLemmas.{has-program}
use Rattle.sentences.specs.declared.claims.Contender.{Contender}
use Rattle.sentences.specs.declared.claims.Way.{Way}
use Rattle.sentences.specs.declared.claims.Way.TheVariants.{Stores, Plainly, Under}
use Rattle.sentences.specs.Claims.{extent_has, claim_has, gives_to, names_region, names_lock, uses_so, effect_claims, statement_claims, line_if, family_by, claims_behind, claims_of, claims_in, contending, contender_at}
use Rattle.sentences.specs.Guards.{guarded_in}
use Rattle.sentences.specs.Conflicts.{contending_task, task_on, first_contender, second_contender}
use Rattle.sentences.specs.TableClaims.{IsTaskOf, IsUsedSo, IsClaimedOn, conflict_word}
use Rattle.sentences.proofs.ClaimLemmas.{claims-words}

-- ---- items of lists

pub among-cons : {X : Type 0} (x : X) (xs : List X) (y : X) → IsAmong (x ∷ xs) y → (y ≡ x) ⊎ IsAmong xs y
among-cons x xs y (zero, rest) = inl rest.1
among-cons x xs y (suc i, rest) = let within = rest.0 in inr (i, (omega (arith, within), rest.1))

pub among-head : {X : Type 0} (x : X) (xs : List X) → IsAmong (x ∷ xs) x
among-head x xs = (0, (omega arith, refl))

pub among-tail : {X : Type 0} (x : X) (xs : List X) (y : X) → IsAmong xs y → IsAmong (x ∷ xs) y
among-tail x xs y h = let within = h.1.0 in (suc h.0, (omega (arith, within), h.1.1))

pub among-none : {X : Type 0} (y : X) → IsAmong [] y → ⊥
among-none y h = let within = h.1.0 in omega (arith, within)

pub among-either : {X : Type 0} (xs ys : List X) (y : X) → IsAmong (xs ++ ys) y → IsAmong xs y ⊎ IsAmong ys y
among-either [] ys y h = inr h
among-either (x ∷ xs) ys y h =
    ⊎_elim (λ (e : y ≡ x). inl (subst (IsAmong (x ∷ xs)) (sym e) (among-head x xs)))
    (λ (k : IsAmong (xs ++ ys) y).
    ⊎_elim (λ (a : IsAmong xs y). inl (among-tail x xs y a)) (λ (b : IsAmong ys y). inr b) (among-either xs ys y k))
    (among-cons x (xs ++ ys) y h)

pub among-left : {X : Type 0} (xs ys : List X) (y : X) → IsAmong xs y → IsAmong (xs ++ ys) y
among-left [] ys y h = absurd (among-none y h)
among-left (x ∷ xs) ys y h =
    ⊎_elim (λ (e : y ≡ x). subst (IsAmong (x ∷ (xs ++ ys))) (sym e) (among-head x (xs ++ ys)))
    (λ (k : IsAmong xs y). among-tail x (xs ++ ys) y (among-left xs ys y k))
    (among-cons x xs y h)

pub among-right : {X : Type 0} (xs ys : List X) (y : X) → IsAmong ys y → IsAmong (xs ++ ys) y
among-right [] ys y h = h
among-right (x ∷ xs) ys y h = among-tail x (xs ++ ys) y (among-right xs ys y h)

found-among : {X : Type 0} (p : X → Bool) (xs : List X) (y : X) → find p xs ≡ Some y → IsAmong xs y × (p y ≡ true)
found-among p [] y e = absurd (none-some y e)
found-among {X} p (x ∷ xs) y e = by_test (p x) refl e (found-among p xs y) where
  by_test : (b : Bool) → p x ≡ b → cond b (Some x) (find p xs) ≡ Some y → (find p xs ≡ Some y → IsAmong xs y × (p y ≡ true)) → IsAmong (x ∷ xs) y × (p y ≡ true)
  by_test true is e later =
      let same = same_Some x y e in
      (subst (IsAmong (x ∷ xs)) same (among-head x xs), subst (λ (z : X). p z ≡ true) same is)
  by_test false is e later = let rest = later e in (among-tail x xs y rest.0, rest.1)

range-among : {X : Type 0} (f : ℕ → X) (n first k : ℕ) → k < n → IsAmong (map f (range_with_len first n)) (f (first + k))
range-among f zero first k within = absurd (omega (arith, within))
range-among f (suc n) first zero within =
    let same : first ≡ first + 0 = omega arith in
    subst (IsAmong (map f (range_with_len first (suc n)))) (ap f same) (among-head (f first) (map f (range_with_len (first + 1) n)))
range-among f (suc n) first (suc k) within =
    let same : first + 1 + k ≡ first + suc k = omega arith in
    among-tail (f first) (map f (range_with_len (first + 1) n)) (f (first + suc k))
    (subst (IsAmong (map f (range_with_len (first + 1) n))) (ap f same) (range-among f n (first + 1) k (omega (arith, within))))

each-among : {X : Type 0} (f : ℕ → X) (n k : ℕ) → k < n → IsAmong (map f (range_with_len 0 n)) (f k)
each-among f n k within =
    let same : 0 + k ≡ k = omega arith in subst (IsAmong (map f (range_with_len 0 n))) (ap f same) (range-among f n 0 k within)

-- ---- the tasks of a line

-- a task among those of a line
record IsPart (line phase first count : ℕ) (t : TaskPlace) : Type 0 where
  line_is : t.line ≡ line
  within : t.part < count
  core : t.core ≡ first + t.part
  phase_is : t.phase ≡ phase - 1

parts-of : (line : ℕ) (start : Start) (step n k : ℕ) (t : TaskPlace) → IsAmong (each_part (task_place line) k (map (start_at start step) (range_with_len k n))) t
    → IsPart line start.phase start.core (k + n) t
parts-of line start step zero k t h = absurd (among-none t h)
parts-of line start step (suc n) k t h =
    ⊎_elim
    (λ (e : t ≡ task_place line k (start_at start step k)).
    let part : t.part ≡ k = ap (λ (x : TaskPlace). x.part) e in
    record {
      line_is = ap (λ (x : TaskPlace). x.line) e;
      within = omega (arith, part);
      core = let core : t.core ≡ start.core + k = ap (λ (x : TaskPlace). x.core) e in omega (arith, part, core);
      phase_is = ap (λ (x : TaskPlace). x.phase) e;
    })
    (λ (later : IsAmong (each_part (task_place line) (k + 1) (map (start_at start step) (range_with_len (k + 1) n))) t).
    let rest = parts-of line start step n (k + 1) t later in
    record { line_is = rest.line_is; within = let within = rest.within in omega (arith, within); core = rest.core; phase_is = rest.phase_is })
    (among-cons (task_place line k (start_at start step k)) (each_part (task_place line) (k + 1) (map (start_at start step) (range_with_len (k + 1) n))) t h)

part-line : (line k : ℕ) (rows : List Start) (t : TaskPlace) → IsAmong (each_part (task_place line) k rows) t → t.line ≡ line
part-line line k [] t h = absurd (among-none t h)
part-line line k (r ∷ rs) t h =
    ⊎_elim (λ (e : t ≡ task_place line k r). ap (λ (x : TaskPlace). x.line) e)
    (λ (later : IsAmong (each_part (task_place line) (k + 1) rs) t). part-line line (k + 1) rs t later)
    (among-cons (task_place line k r) (each_part (task_place line) (k + 1) rs) t h)

-- ---- lines rise

module _ (rows : Placed Saying → List Start) where
  abbrev places_in : List (Placed Saying) → List TaskPlace
  places_in ps = flat_map (places_at rows task_place) ps

  low-line : (lo : ℕ) (b ss : List Saying) (t : TaskPlace) → AreRising lo ss → IsAmong (places_in (placed_behind b ss)) t → lo ≤ t.line
  low-line lo b [] t rising h = absurd (among-none t h)
  low-line lo b (s ∷ ss) t rising h =
      let low = rising.0 in
      ⊎_elim
      (λ (here : IsAmong (each_part (task_place s.line) 0 (rows (place b s))) t). let own = part-line s.line 0 (rows (place b s)) t here in omega (arith, low, own))
      (λ (behind : IsAmong (places_in (placed_behind (b ++ s ∷ []) ss)) t).
      let later = low-line (s.line + 1) (b ++ s ∷ []) ss t rising.1 behind in omega (arith, low, later))
      (among-either (places_at rows task_place (place b s)) (places_in (placed_behind (b ++ s ∷ []) ss)) t h)

  behind-line : (lo : ℕ) (xs : List Saying) (s : Saying) (ys : List Saying) → AreRising lo (xs ++ s ∷ ys) → lo ≤ s.line
  behind-line lo [] s ys rising = rising.0
  behind-line lo (x ∷ xs) s ys rising = let low = rising.0 in let later = behind-line (x.line + 1) xs s ys rising.1 in omega (arith, low, later)

  -- a task of the line is one of the line's
  own-line : (lo : ℕ) (b xs : List Saying) (s : Saying) (ys : List Saying) (t : TaskPlace) → AreRising lo (xs ++ s ∷ ys) → IsAmong (places_in (placed_behind b (xs ++ s ∷ ys))) t → t.line ≡ s.line
      → IsAmong (each_part (task_place s.line) 0 (rows (place (b ++ xs) s))) t
  own-line lo b [] s ys t rising h is =
      ⊎_elim
      (λ (here : IsAmong (each_part (task_place s.line) 0 (rows (place b s))) t).
      subst (λ (before : List Saying). IsAmong (each_part (task_place s.line) 0 (rows (place before s))) t) (sym (append-nil b)) here)
      (λ (behind : IsAmong (places_in (placed_behind (b ++ s ∷ []) ys)) t).
      let later = low-line (s.line + 1) (b ++ s ∷ []) ys t rising.1 behind in absurd (omega (arith, later, is)))
      (among-either (places_at rows task_place (place b s)) (places_in (placed_behind (b ++ s ∷ []) ys)) t h)
  own-line lo b (x ∷ xs) s ys t rising h is =
      ⊎_elim
      (λ (here : IsAmong (each_part (task_place x.line) 0 (rows (place b x))) t).
      let own = part-line x.line 0 (rows (place b x)) t here in
      let later = behind-line (x.line + 1) xs s ys rising.1 in
      absurd (omega (arith, own, later, is)))
      (λ (behind : IsAmong (places_in (placed_behind (b ++ x ∷ []) (xs ++ s ∷ ys))) t).
      subst (λ (before : List Saying). IsAmong (each_part (task_place s.line) 0 (rows (place before s))) t) (append_assoc b (x ∷ []) xs)
      (own-line (x.line + 1) (b ++ x ∷ []) xs s ys t rising.1 behind is))
      (among-either (places_at rows task_place (place b x)) (places_in (placed_behind (b ++ x ∷ []) (xs ++ s ∷ ys))) t h)

-- ---- a region by its name

module _ (text : List ℕ) where
  abbrev IsRegionRow : List ℕ → ℕ → ℤ → Region → Type 0
  IsRegionRow name start len r = (r.name ≡ name) × (r.start ≡ start) × (r.len ≡ natural_of len)

  named-row : (b : List Saying) (st : Statement) (d : Declaration) (number start : ℕ) (len : ℤ) → IsAmong (named_by text b st) d → d.meaning ≡ meaning.TheVariants.Region number start len
      → (r : Region) × (IsAmong (region_by text (data_words b) st) r × IsRegionRow d.name start len r)
  named-row b (statement.TheVariants.Region name l) d number start len h is =
      let r : Region = record { name = bytes_of text name; start = data_words b; len = natural_of l } in
      ⊎_elim
      (λ (e : d ≡ record { name = bytes_of text name; meaning = meaning.TheVariants.Region (regions_in b) (data_words b) l }).
      let same : meaning.TheVariants.Region (regions_in b) (data_words b) l ≡ meaning.TheVariants.Region number start len =
      ap (λ (x : Declaration). x.meaning) (sym e) ∙ is in
      let begins : data_words b ≡ start = cc in
      let long : l ≡ len = cc in
      (r, (among-head r [], (ap (λ (x : Declaration). x.name) (sym e), begins, ap natural_of long))))
      (λ (none : IsAmong [] d). absurd (among-none d none))
      (among-cons (record { name = bytes_of text name; meaning = meaning.TheVariants.Region (regions_in b) (data_words b) l }) [] d h)
  named-row b (statement.TheVariants.Lock name) d number start len h is =
      ⊎_elim
      (λ (e : d ≡ record { name = bytes_of text name; meaning = meaning.TheVariants.Lock (locks_in b) }).
      let other : meaning.TheVariants.Lock (locks_in b) ≡ meaning.TheVariants.Region number start len = ap (λ (x : Declaration). x.meaning) (sym e) ∙ is in absurd cc)
      (λ (none : IsAmong [] d). absurd (among-none d none))
      (among-cons (record { name = bytes_of text name; meaning = meaning.TheVariants.Lock (locks_in b) }) [] d h)
  named-row b statement.TheVariants.Nothing d number start len h is = absurd (among-none d h)
  named-row b (statement.TheVariants.Instruction k) d number start len h is = absurd (among-none d h)
  named-row b (statement.TheVariants.Word region index value) d number start len h is = absurd (among-none d h)
  named-row b statement.TheVariants.Phase d number start len h is = absurd (among-none d h)
  named-row b (statement.TheVariants.Tasks f) d number start len h is = absurd (among-none d h)
  named-row b (statement.TheVariants.Uses e) d number start len h is = absurd (among-none d h)

  no-label : (b : List Saying) (line : ℕ) (o : Option Token) (d : Declaration) (number start : ℕ) (len : ℤ) → IsAmong (label_by text b line o) d
      → d.meaning ≡ meaning.TheVariants.Region number start len → ⊥
  no-label b line None d number start len h is = among-none d h
  no-label b line (Some t) d number start len h is =
      ⊎_elim
      (λ (e : d ≡ record { name = bytes_of text t; meaning = meaning.TheVariants.Label line (code_words b) }).
      let other : meaning.TheVariants.Label line (code_words b) ≡ meaning.TheVariants.Region number start len = ap (λ (x : Declaration). x.meaning) (sym e) ∙ is in cc)
      (λ (none : IsAmong [] d). among-none d none)
      (among-cons (record { name = bytes_of text t; meaning = meaning.TheVariants.Label line (code_words b) }) [] d h)

  declared-row : (ps : List (Placed Saying)) (d : Declaration) (number start : ℕ) (len : ℤ) → IsAmong (flat_map (declared_at text) ps) d → d.meaning ≡ meaning.TheVariants.Region number start len
      → (r : Region) × (IsAmong (flat_map (region_at text) ps) r × IsRegionRow d.name start len r)
  declared-row [] d number start len h is = absurd (among-none d h)
  declared-row (p ∷ ps) d number start len h is =
      ⊎_elim
      (λ (here : IsAmong (declared_at text p) d).
      ⊎_elim (λ (label : IsAmong (label_by text p.before p.here.line p.here.label) d). absurd (no-label p.before p.here.line p.here.label d number start len label is))
      (λ (own : IsAmong (named_by text p.before p.here.statement) d).
      let row = named-row p.before p.here.statement d number start len own is in
      (row.0, (among-left (region_at text p) (flat_map (region_at text) ps) row.0 row.1.0, row.1.1)))
      (among-either (label_by text p.before p.here.line p.here.label) (named_by text p.before p.here.statement) d here))
      (λ (behind : IsAmong (flat_map (declared_at text) ps) d).
      let row = declared-row ps d number start len behind is in
      (row.0, (among-right (region_at text p) (flat_map (region_at text) ps) row.0 row.1.0, row.1.1)))
      (among-either (declared_at text p) (flat_map (declared_at text) ps) d h)

-- two regions of a program with one name are one
module _ (P : ProgramParts) (program : IsProgram P) where
  name-at : (i : ℕ) (r : Region) (d : List ℕ) → i < length P.regions → r ≡ get_or P.regions i r → get_or (names_of P) i d ≡ r.name
  name-at i r d within is =
      get_or_append_left (map (λ (x : Region). x.name) P.regions) P.locks d i (omega (arith, within, length-map P.regions (λ (x : Region). x.name)))
      ∙ get_or-map (λ (x : Region). x.name) P.regions i r d within ∙ ap (λ (x : Region). x.name) (sym is)

  inside : (i : ℕ) → i < length P.regions → i < length (names_of P)
  inside i within =
      omega (arith, within, length-append (map (λ (x : Region). x.name) P.regions) P.locks, length-map P.regions (λ (x : Region). x.name))

  one-region : (r q : Region) → IsAmong P.regions r → IsAmong P.regions q → r.name ≡ q.name → r ≡ q
  one-region r q a b same =
      let first = name-at a.0 r r.name a.1.0 a.1.1 in
      let second = name-at b.0 q r.name b.1.0 b.1.1 in
      ⊎_elim
      (λ (e : a.0 ≡ b.0). a.1.1 ∙ ap (λ (k : ℕ). get_or P.regions k r) e ∙ default q b.1.0 b.1.1)
      (λ (apart : (a.0 < b.0) ⊎ (b.0 < a.0)).
      ⊎_elim (λ (l : a.0 < b.0). absurd (program.names a.0 b.0 r.name l (inside b.0 b.1.0) (first ∙ same ∙ sym second)))
      (λ (l : b.0 < a.0). absurd (program.names b.0 a.0 r.name l (inside a.0 a.1.0) (second ∙ sym same ∙ sym first))) apart)
      (cases_order a.0 b.0)
    where
      default : (x : Region) → b.0 < length P.regions → x ≡ get_or P.regions b.0 x → get_or P.regions b.0 r ≡ x
      default x within is = other P.regions b.0 r x within ∙ sym is
        where
          other : (xs : List Region) (k : ℕ) (d e : Region) → k < length xs → get_or xs k d ≡ get_or xs k e
          other [] k d e h = absurd (omega (arith, h))
          other (y ∷ ys) zero d e h = refl
          other (y ∷ ys) (suc k) d e h = other ys k d e (omega (arith, h))

-- ---- what a line without a fault tells

record IsFaultless (text : List ℕ) (names : List ℕ → Option Meaning) (before : List Saying) (st : Statement) : Type 0 where
  near : out_of_range text names (tables text names before) st ≡ false
  known : unknown text names (code_words before) st ≡ false
  placed_well : misplaced (tables text names before) st ≡ false

four-none : (a b c e : Bool) (w x y z : SourceFault) → cond a (Some w) (cond b (Some x) (cond c (Some y) (cond e (Some z) None))) ≡ None → (a ≡ false) × (c ≡ false) × (e ≡ false)
four-none true b c e w x y z h = absurd cc
four-none false true c e w x y z h = absurd cc
four-none false false true e w x y z h = absurd cc
four-none false false false true w x y z h = absurd cc
four-none false false false false w x y z h = (refl, refl, refl)

faultless : (text : List ℕ) (names : List ℕ → Option Meaning) (before : List Saying) (s : Saying) → early_fault text names before s ≡ None → IsFaultless text names before s.statement
faultless text names before s e =
    let d = tables text names before in
    let none = four-none (out_of_range text names d s.statement) (doubled text before s) (unknown text names d.count.code s.statement) (misplaced d s.statement) _ _ _ _ e in
    record { near = none.0; known = none.1; placed_well = none.2 }

first-of-none : (o : Option SourceFault) (fs : List SourceFault) → cons_option o fs ≡ [] → (o ≡ None) × (fs ≡ [])
first-of-none None fs e = (refl, e)
first-of-none (Some f) fs e = absurd cc

-- ---- an effect that is said to claim the word

some-span : (o : Option Span) → is_none o ≡ false → (p : Span) × (o ≡ Some p)
some-span None e = absurd (true≢false e)
some-span (Some p) e = (p, refl)

some-lock : (o : Option ℕ) → is_none o ≡ false → (k : ℕ) × (o ≡ Some k)
some-lock None e = absurd (true≢false e)
some-lock (Some k) e = (k, refl)

-- a region that a name means
span-of : (o : Option Meaning) (p : Span) → region_span o ≡ Some p → (number : ℕ) × (o ≡ Some (meaning.TheVariants.Region number p.start p.len))
span-of None p e = absurd (none-some p e)
span-of (Some (meaning.TheVariants.Region number start len)) p e =
    let same = same_Some (record { start = start; len = len }) p e in
    (number, λ i. Some (meaning.TheVariants.Region number (same i).start (same i).len))
span-of (Some (meaning.TheVariants.Label line place)) p e = absurd (none-some p e)
span-of (Some (meaning.TheVariants.Lock number)) p e = absurd (none-some p e)

given-by : (family : ℕ) (e : Extent) (index : ℕ) (o : Option TaskPlace) → gives_to family e index o ≡ true
    → (t : TaskPlace) × ((o ≡ Some t) × ((t.line ≡ family) × (extent_has e t.part index ≡ true)))
given-by family e index None h = absurd (false≢true h)
given-by family e index (Some t) h =
    let both = and_parts (t.line == family) (extent_has e t.part index) h in
    (t, (refl, (eqb-true t.line family both.0, both.1)))

at-some : {X : Type 0} (Holds : X → Type 0) (o : Option X) (x : X) → o ≡ Some x → IfSome o Holds → Holds x
at-some Holds None x e h = absurd (none-some x e)
at-some Holds (Some y) x e h = subst Holds (same_Some y x e) h

-- an effect of some way gives a use of that way
used-so : (text : List ℕ) (names : List ℕ → Option Meaning) (locks : List (List ℕ)) (way : Way) (writes : Bool) (lock : Option Token) (u : Usage)
    → uses_so text locks way writes lock ≡ true → usage_by text names writes lock ≡ Some u → IsUsedSo names locks way u
used-so text names locks Stores true None u so is = sym (same_Some (plain_usage true) u is)
used-so text names locks Stores false None u so is = absurd (false≢true so)
used-so text names locks Stores true (Some t) u so is = absurd (false≢true so)
used-so text names locks Stores false (Some t) u so is = absurd (false≢true so)
used-so text names locks Plainly true None u so is = inr (sym (same_Some (plain_usage true) u is))
used-so text names locks Plainly false None u so is = inl (sym (same_Some (plain_usage false) u is))
used-so text names locks Plainly writes (Some t) u so is = absurd (false≢true so)
used-so text names locks (Under number) writes None u so is = absurd (false≢true so)
used-so text names locks (Under number) writes (Some t) u so is = by_name (slice_get locks number) refl so
  where
    by_use : (name : List ℕ) (k : ℕ) (w : Bool) → slice_get locks number ≡ Some name → lock_number (names name) ≡ Some k → under_lock w k ≡ u → IsUsedSo names locks (Under number) u
    by_use name k true there means e = (name, k, there, means, inr (sym e))
    by_use name k false there means e = (name, k, there, means, inl (sym e))

    by_lock : (name : List ℕ) (o : Option ℕ) → slice_get locks number ≡ Some name → lock_number (names name) ≡ o → option_map (under_lock writes) o ≡ Some u
        → IsUsedSo names locks (Under number) u
    by_lock name None there means e = absurd (none-some u e)
    by_lock name (Some k) there means e = by_use name k writes there means (same_Some (under_lock writes k) u e)

    by_name : (o : Option (List ℕ)) → slice_get locks number ≡ o → names_lock text (Some t) o ≡ true → IsUsedSo names locks (Under number) u
    by_name None there h = absurd (false≢true h)
    by_name (Some name) there h =
        let same : bytes_of text t ≡ name = (bytes_eq-Decides (bytes_of text t) name).0 h in
        by_lock name (lock_number (names name)) there refl (ap (λ (n : List ℕ). option_map (under_lock writes) (lock_number (names n))) (sym same) ∙ is)

-- a length of a region, as a number of the text
small-length : (len : ℤ) (index long : ℕ) → long ≡ natural_of len → index < long → long ≤ 65536 → (int_lt (pos index) len ≡ true) × (int_le len (pos 65536) ≡ true)
small-length (pos n) index long is within few = (lt-ltb index n (omega (arith, is, within)), le-leb n 65536 (omega (arith, is, few)))
small-length (negsuc n) index long is within few = absurd (omega (arith, is, within))

module _ (text : List ℕ) (P : ProgramParts) (is : source text ≡ Ok P) (c : Contender) (word : ℕ) (at' : IsWordPlace P.regions word c.place) (tasks : IsTaskOf text c) where
  abbrev all : List Saying
  all = sayings (readings text)

  abbrev names : List ℕ → Option Meaning
  names = meaning_of text all

  program : IsProgram P
  program = source-well-formed text P is

  abbrev text_tasks : List TaskPlace
  text_tasks = (text_places text).tasks

  -- the region of the word
  region-among : IsAmong P.regions at'.region
  region-among =
      (c.place.region, (slice_get_within P.regions c.place.region at'.region at'.numbered, sym (get_or_from_slice_get P.regions c.place.region at'.region at'.region at'.numbered)))

  short-region : at'.region.len ≤ 65536
  short-region =
      let fits = regions-within 0 P.regions (length P.memory) program.tiled region-among.0 at'.region region-among.1.0 in
      let inside : (0 < at'.region.len) × (at'.region.start + at'.region.len ≤ length P.memory) =
      subst (λ (r : Region). (0 < r.len) × (r.start + r.len ≤ length P.memory)) (sym region-among.1.1) fits in
      let few = program.memory in
      omega (arith, inside.1, few)

  -- a name that means a region and is this region's means this region
  same-span : (name : List ℕ) (p : Span) → region_span (names name) ≡ Some p → name ≡ at'.region.name
      → (p.start ≡ at'.region.start) × ((int_lt (pos c.place.index) p.len ≡ true) × (int_le p.len (pos 65536) ≡ true))
  same-span name p means same =
      let told = span-of (names name) p means in
      by_found (find (λ (d : Declaration). bytes_eq d.name name) (declarations text all)) refl told.1
    where
      by_found : (o : Option Declaration) → find (λ (d : Declaration). bytes_eq d.name name) (declarations text all) ≡ o
          → option_map (λ (d : Declaration). d.meaning) o ≡ Some (meaning.TheVariants.Region (span-of (names name) p means).0 p.start p.len)
          → (p.start ≡ at'.region.start) × ((int_lt (pos c.place.index) p.len ≡ true) × (int_le p.len (pos 65536) ≡ true))
      by_found None found e = absurd (none-some _ e)
      by_found (Some d) found e =
          let there = found-among (λ (x : Declaration). bytes_eq x.name name) (declarations text all) d found in
          let called : d.name ≡ name = (bytes_eq-Decides d.name name).0 there.1 in
          let row = declared-row text (placed all) d (span-of (names name) p means).0 p.start p.len there.0 (same_Some d.meaning _ e) in
          let known : IsAmong P.regions row.0 = subst (λ (Q : ProgramParts). IsAmong Q.regions row.0) (has-program text P is).program row.1.0 in
          let one : row.0 ≡ at'.region = one-region P program row.0 at'.region known region-among (row.1.1.0 ∙ called ∙ same) in
          let start : p.start ≡ at'.region.start = sym row.1.1.1 ∙ ap (λ (r : Region). r.start) one in
          let long : at'.region.len ≡ natural_of p.len = ap (λ (r : Region). r.len) (sym one) ∙ row.1.1.2 in
          (start, small-length p.len c.place.index at'.region.len long at'.within short-region)

  -- ---- the current tasks

  -- a task of the text is one of the current tasks behind some lines
  record IsCurrent (before : List Saying) (t : TaskPlace) : Type 0 where
    part : t.part < (family_in before).count
    core : t.core ≡ (family_in before).first + t.part
    phase : phases_in before ≡ t.phase + 1

  -- the tasks of a line are the current ones
  abbrev AreCurrent : List Saying → ℕ → Type 0
  AreCurrent before family = (t : TaskPlace) → IsAmong text_tasks t → t.line ≡ family → IsCurrent before t

  rising : AreRising 1 all
  rising = lines-rise text

  none-current : (before : List Saying) → AreCurrent before 0
  none-current before t known is_line =
      let low = low-line (tasks_at text names) 1 [] all t rising known in absurd (omega (arith, low, is_line))

  -- another statement leaves them as they are
  same-current : (before : List Saying) (s : Saying) (family : ℕ) → current_family s.statement ≡ None → tally (is_phase s.statement) ≡ 0 → AreCurrent before family
      → AreCurrent (before ++ s ∷ []) family
  same-current before s family none same h t known line =
      let old = h t known line in
      let cores = sym (family-same before s none) in
      let phases : phases_in (before ++ s ∷ []) ≡ phases_in before = sum-same (λ (x : Saying). tally (is_phase x.statement)) before s same in
      record {
        part = subst (λ (k : Cores). t.part < k.count) cores old.part;
        core = old.core ∙ ap (λ (k : Cores). k.first + t.part) cores;
        phase = phases ∙ old.phase;
      }

  current-behind : (before : List Saying) (s : Saying) (behind : List Saying) (family : ℕ) → all ≡ before ++ s ∷ behind → IsFaultless text names before s.statement → AreCurrent before family
      → AreCurrent (before ++ s ∷ []) (family_by family s.line s.statement)
  current-behind before s behind family lines well h = by_statement s.statement refl well
    where
      by_statement : (st : Statement) → s.statement ≡ st → IsFaultless text names before st → AreCurrent (before ++ s ∷ []) (family_by family s.line st)
      by_statement statement.TheVariants.Phase e well = none-current (before ++ s ∷ [])
      by_statement (statement.TheVariants.Tasks f) e well = λ t known line.
          let opened : Cores = record { first = natural_of f.core; count = natural_of f.count } in
          let cores = sym (family-new before s opened (ap current_family e)) in
          let none : tally (is_phase s.statement) ≡ 0 = ap (λ (st : Statement). tally (is_phase st)) e in
          let phases : phases_in (before ++ s ∷ []) ≡ phases_in before = sum-same (λ (x : Saying). tally (is_phase x.statement)) before s none in
          let there = subst (λ (ss : List Saying). IsAmong (places_in (tasks_at text names) (placed ss)) t) lines known in
          let own = own-line (tasks_at text names) 1 [] before s behind t (subst (AreRising 1) lines rising) there line in
          let row : tasks_at text names (place before s) ≡ tasks_by text names (phases_in before) (statement.TheVariants.Tasks f) = ap (tasks_by text names (phases_in before)) e in
          let mine = subst (λ (rows : List Start). IsAmong (each_part (task_place s.line) 0 rows) t) row own in
          let first : Start = record { phase = phases_in before; core = natural_of f.core; entry = task_entry text names f.entry; arg = f.arg } in
          let part = parts-of s.line first f.step (natural_of f.count) 0 t mine in
          let begun : phases_in before ≢ 0 = eqb-false (phases_in before) 0 (or_parts (phases_in before == 0) _ well.placed_well).0 in
          let number = part.phase_is in
          let within = part.within in
          record {
            part = subst (λ (k : Cores). t.part < k.count) cores (omega (arith, within));
            core = part.core ∙ ap (λ (k : Cores). k.first + t.part) cores;
            phase = phases ∙ omega (arith, begun, number);
          }
      by_statement statement.TheVariants.Nothing e well = same-current before s family (ap current_family e) (ap (λ (st : Statement). tally (is_phase st)) e) h
      by_statement (statement.TheVariants.Instruction k) e well = same-current before s family (ap current_family e) (ap (λ (st : Statement). tally (is_phase st)) e) h
      by_statement (statement.TheVariants.Region name len) e well = same-current before s family (ap current_family e) (ap (λ (st : Statement). tally (is_phase st)) e) h
      by_statement (statement.TheVariants.Word region index value) e well = same-current before s family (ap current_family e) (ap (λ (st : Statement). tally (is_phase st)) e) h
      by_statement (statement.TheVariants.Lock name) e well = same-current before s family (ap current_family e) (ap (λ (st : Statement). tally (is_phase st)) e) h
      by_statement (statement.TheVariants.Uses u) e well = same-current before s family (ap current_family e) (ap (λ (st : Statement). tally (is_phase st)) e) h

  -- ---- the line of an effect

  module _ (before : List Saying) (s : Saying) (behind : List Saying) (family : ℕ) (lines : all ≡ before ++ s ∷ behind) (current : AreCurrent before family) (e : Effect)
      (stands : s.statement ≡ statement.TheVariants.Uses e) (well : IsFaultless text names before (statement.TheVariants.Uses e))
    where
      abbrev cores : Cores
      cores = family_in before

      span : (p : Span) × (region_span (names (bytes_of text e.region)) ≡ Some p)
      span = some-span (region_span (names (bytes_of text e.region))) (or_parts (is_none (region_span (names (bytes_of text e.region)))) (lock_lost text names e.lock) well.known).0

      usage : (u : Usage) × (usage_of text names e ≡ Some u)
      usage = by_lock e.lock (or_parts (is_none (region_span (names (bytes_of text e.region)))) (lock_lost text names e.lock) well.known).1 where
        by_lock : (o : Option Token) → lock_lost text names o ≡ false → (u : Usage) × (usage_by text names e.writes o ≡ Some u)
        by_lock None h = (_, refl)
        by_lock (Some t) h =
            let lock = some-lock (lock_number (names (bytes_of text t))) h in
            (under_lock e.writes lock.0, ap (option_map (under_lock e.writes)) lock.1)

      named-as : names_region text e.region (slice_get P.regions c.place.region) ≡ true → bytes_of text e.region ≡ at'.region.name
      named-as h =
          let here : bytes_eq (bytes_of text e.region) at'.region.name ≡ true = ap (names_region text e.region) (sym at'.numbered) ∙ h in
          (bytes_eq-Decides (bytes_of text e.region) at'.region.name).0 here

      -- the claim for one of the tasks
      claimed-for : (t : TaskPlace) → IsAmong text_tasks t → c.task ≡ Some t → t.line ≡ family → extent_has e.extent t.part c.place.index ≡ true
          → uses_so text P.locks c.way e.writes e.lock ≡ true → names_region text e.region (slice_get P.regions c.place.region) ≡ true → IsClaimedOn text P.locks c word s.line
      claimed-for t known one own gives so named =
          let mine = current t known own in
          let p = span.0 in
          let u = usage.0 in
          let same = same-span (bytes_of text e.region) p span.1 (named-as named) in
          let near : extent_far (Some p) e.extent cores.count ≡ false = ap (λ (o : Option Span). extent_far o e.extent cores.count) (sym span.1) ∙ well.near in
          let k : Claim = use_at (phases_in before) cores u p e.extent t.part in
          let row : claim_at text names (place before s) ≡ uses_of (phases_in before) cores (Some p) (Some u) e.extent =
          ap (claim_by text names (phases_in before) cores) stands ∙ (λ i. uses_of (phases_in before) cores (span.1 i) (usage.1 i) e.extent) in
          let at_word : p.start + c.place.index ≡ word = ap (λ (n : ℕ). n + c.place.index) same.0 ∙ sym at'.word in
          record {
            before = before;
            here = s;
            behind = behind;
            lines_are = lines;
            named = refl;
            claim = k;
            given = subst (λ (ks : List Claim). IsAmong ks k) (sym row) (each-among (use_at (phases_in before) cores u p e.extent) cores.count t.part mine.part);
            has =
                ap (claim_has k) (sym at_word)
                ∙ sym (claims-words (phases_in before) cores u p e.extent t.part c.place.index mine.part same.1.0 same.1.1 near) ∙ gives;
            task = t;
            one = one;
            own = record { phase = mine.phase; core = sym mine.core };
            way = used-so text names P.locks c.way e.writes e.lock u so usage.1;
          }

      claimed-line : effect_claims text P c family e ≡ true → IsClaimedOn text P.locks c word s.line
      claimed-line h =
          let both =
          and_parts (names_region text e.region (slice_get P.regions c.place.region))
          (uses_so text P.locks c.way e.writes e.lock && gives_to family e.extent c.place.index c.task) h in
          let so = and_parts (uses_so text P.locks c.way e.writes e.lock) (gives_to family e.extent c.place.index c.task) both.1 in
          let t = given-by family e.extent c.place.index c.task so.1 in
          claimed-for t.0 (at-some (IsAmong text_tasks) c.task t.0 t.1.0 tasks) t.1.0 t.1.1.0 t.1.1.1 so.0 both.0

  statement-line : (before : List Saying) (s : Saying) (behind : List Saying) (family : ℕ) → all ≡ before ++ s ∷ behind → AreCurrent before family → IsFaultless text names before s.statement
      → statement_claims text P c family s.statement ≡ true → IsClaimedOn text P.locks c word s.line
  statement-line before s behind family lines current well h = by_statement s.statement refl well h
    where
      by_statement : (st : Statement) → s.statement ≡ st → IsFaultless text names before st → statement_claims text P c family st ≡ true → IsClaimedOn text P.locks c word s.line
      by_statement (statement.TheVariants.Uses e) is well h = claimed-line before s behind family lines current e is well h
      by_statement statement.TheVariants.Nothing is well h = absurd (false≢true h)
      by_statement (statement.TheVariants.Instruction k) is well h = absurd (false≢true h)
      by_statement (statement.TheVariants.Region name len) is well h = absurd (false≢true h)
      by_statement (statement.TheVariants.Word region index value) is well h = absurd (false≢true h)
      by_statement (statement.TheVariants.Lock name) is well h = absurd (false≢true h)
      by_statement statement.TheVariants.Phase is well h = absurd (false≢true h)
      by_statement (statement.TheVariants.Tasks f) is well h = absurd (false≢true h)

  -- the line of a list that is there if a test passes
  tested-line : (b : Bool) (n line : ℕ) → IsAmong (line_if b n) line → (b ≡ true) × (line ≡ n)
  tested-line true n line h = ⊎_elim (λ (e : line ≡ n). (refl, e)) (λ (none : IsAmong [] line). absurd (among-none line none)) (among-cons n [] line h)
  tested-line false n line h = absurd (among-none line h)

  -- ---- all lines

  abbrev v : Bool
  v = nat_lt 0 (version_line text (lines_of text))

  walk : (rs done : List Reading) (before : List Saying) (family : ℕ) → sayings done ≡ before → filter_map (fault_at v text names) (placed_behind done rs) ≡ []
      → all ≡ before ++ sayings rs → AreCurrent before family → (line : ℕ) → IsAmong (claims_behind text P c family rs) line → IsClaimedOn text P.locks c word line
  walk [] done before family same none lines current line h = absurd (among-none line h)
  walk (Bad f ∷ rs) done before family same none lines current line h = absurd cc
  walk (Good s ∷ rs) done before family same none lines current line h =
      let now : List Saying = before ++ s ∷ [] in
      let parts = first-of-none (line_fault v text names (sayings done) (Good s)) (filter_map (fault_at v text names) (placed_behind (done ++ Good s ∷ []) rs)) none in
      let here : line_fault v text names before (Good s) ≡ None = subst (λ (ss : List Saying). line_fault v text names ss (Good s) ≡ None) same parts.0 in
      let early = both-none (early_fault text names before s) (limit_fault v (tables text names now) s.line) here in
      let well = faultless text names before s early.0 in
      let said : sayings (done ++ Good s ∷ []) ≡ now = filter_map-append good done (Good s ∷ []) ∙ ap (λ (ss : List Saying). ss ++ s ∷ []) same in
      let later : all ≡ now ++ sayings rs = lines ∙ sym (append_assoc before (s ∷ []) (sayings rs)) in
      ⊎_elim
      (λ (this : IsAmong (line_if (statement_claims text P c family s.statement) s.line) line).
      let test = tested-line (statement_claims text P c family s.statement) s.line line this in
      subst (IsClaimedOn text P.locks c word) (sym test.1) (statement-line before s (sayings rs) family lines current well test.0))
      (λ (behind : IsAmong (claims_behind text P c (family_by family s.line s.statement) rs) line).
      walk rs (done ++ Good s ∷ []) now (family_by family s.line s.statement) said parts.1 later
      (current-behind before s (sayings rs) family lines well current) line behind)
      (among-either (line_if (statement_claims text P c family s.statement) s.line) (claims_behind text P c (family_by family s.line s.statement) rs) line h)

  of-all : (line : ℕ) → IsAmong (claims_of text P c) line → IsClaimedOn text P.locks c word line
  unfolding claims_of
  of-all line h = walk (readings text) [] [] 0 refl (has-program text P is).none refl (none-current []) line h

  pub claimed-on : (line : ℕ) → IsAmong (claims_in text P c) line → IsClaimedOn text P.locks c word line
  claimed-on line h = by_size (nat_lt 1048576 (length text)) h where
    by_size : (b : Bool) → IsAmong (if b then [] else claims_of text P c) line → IsClaimedOn text P.locks c word line
    by_size true h = absurd (among-none line h)
    by_size false h = of-all line h

-- ---- the effects that are quoted of a conflict

-- the word is one of a region of these, the first of which has the number `from`
record IsWordFrom (from : ℕ) (rs : List Region) (w : ℕ) (at' : WordPlace) : Type 0 where
  ahead : ℕ
  numbered : at'.region ≡ from + ahead
  region : Region
  there : slice_get rs ahead ≡ Some region
  word : w ≡ region.start + at'.index
  within : at'.index < region.len

found-word : (from : ℕ) (rs : List Region) (w : ℕ) (at' : WordPlace) → word_place_from from rs w ≡ Some at' → IsWordFrom from rs w at'
found-word from [] w at' e = absurd (none-some at' e)
found-word from (r ∷ rs) w at' e = by_test (region_has r w) refl e (found-word (from + 1) rs w at') where
  by_test : (b : Bool) → region_has r w ≡ b → (if b then Some (record { region = from; index = w - r.start }) else word_place_from (from + 1) rs w) ≡ Some at'
      → (word_place_from (from + 1) rs w ≡ Some at' → IsWordFrom (from + 1) rs w at') → IsWordFrom from (r ∷ rs) w at'
  by_test true has e later =
      let same : record { region = from; index = w - r.start } ≡ at' = same_Some _ at' e in
      let both = and_parts (nat_le r.start w) (nat_lt (w - r.start) r.len) has in
      let low = leb-true r.start w both.0 in
      let high = ltb-true (w - r.start) r.len both.1 in
      let region : from ≡ at'.region = ap (λ (x : WordPlace). x.region) same in
      let index : w - r.start ≡ at'.index = ap (λ (x : WordPlace). x.index) same in
      record {
        ahead = 0;
        numbered = omega (arith, region);
        region = r;
        there = refl;
        word = omega (arith, low, index);
        within = omega (arith, high, index);
      }
  by_test false has e later =
      let rest = later e in
      record {
        ahead = suc rest.ahead;
        numbered = let number = rest.numbered in omega (arith, number);
        region = rest.region;
        there = rest.there;
        word = rest.word;
        within = rest.within;
      }

word-place : (rs : List Region) (w : ℕ) (at' : WordPlace) → word_place rs w ≡ Some at' → IsWordPlace rs w at'
word-place rs w at' e =
    let found = found-word 0 rs w at' e in
    let same : found.ahead ≡ at'.region = omega (arith, found.numbered) in
    record {
      region = found.region;
      numbered = ap (slice_get rs) (sym same) ∙ found.there;
      word = found.word;
      within = found.within;
    }

found-task : (p : TaskPlace → Bool) (ts : List TaskPlace) → IfSome (find p ts) (IsAmong ts)
found-task p ts = by_found (find p ts) refl where
  by_found : (o : Option TaskPlace) → find p ts ≡ o → IfSome o (IsAmong ts)
  by_found None e = tt
  by_found (Some t) e = (found-among p ts t e).0

module _ (text : List ℕ) (l : Located) (is : source text ≡ Ok l.program) (places : l.places ≡ text_places text) where
  of-text : (o : Option TaskPlace) → IfSome o (IsAmong l.places.tasks) → IfSome o (IsAmong (text_places text).tasks)
  of-text o h = subst (λ (ps : Places). IfSome o (IsAmong ps.tasks)) places h

  known-task : (phase core : ℕ) → IfSome (contending_task l phase core) (IsAmong (text_places text).tasks)
  known-task phase core = of-text (contending_task l phase core) (found-task (is_task_of phase core) l.places.tasks)

  guarded : (phase : ℕ) (core : Option ℕ) → IfSome (task_on l.places phase core) (IsAmong (text_places text).tasks)
  guarded phase None = tt
  guarded phase (Some core) = known-task phase core

  of-contender : (task : Option TaskPlace) (way : Way) (w : ℕ) (c : Contender) (line : ℕ) → IfSome task (IsAmong (text_places text).tasks)
      → contender_at l.program.regions w task way ≡ Some c → IsAmong (claims_in text l.program c) line → IsClaimedOn text l.program.locks c w line
  of-contender task way w c line known e among = by_place (word_place l.program.regions w) refl e
    where
      by_place : (o : Option WordPlace) → word_place l.program.regions w ≡ o → option_map (contending task way) o ≡ Some c → IsClaimedOn text l.program.locks c w line
      by_place None found e = absurd (none-some c e)
      by_place (Some at') found e =
          let same = same_Some (contending task way at') c e in
          let there : IsAmong (claims_in text l.program (contending task way at')) line =
          subst (λ (x : Contender). IsAmong (claims_in text l.program x) line) (sym same) among in
          subst (λ (x : Contender). IsClaimedOn text l.program.locks x w line) same
          (claimed-on text l.program is (contending task way at') w (word-place l.program.regions w at' found) known line there)

  pub first-claim : (f : CheckFault) (c : Contender) (line : ℕ) → first_contender l f ≡ Some c → IsAmong (claims_in text l.program c) line
      → IsClaimedOn text l.program.locks c (conflict_word f) line
  first-claim (PlainConflict phase a b w) c line e among = of-contender (contending_task l phase.0 a.0) Stores w.0 c line (known-task phase.0 a.0) e among
  first-claim (GuardedPlain phase lock core w) c line e among =
      of-contender (task_on l.places phase.0 (guarded_in l.program phase.0 lock.0 w.0)) (Under lock.0) w.0 c line (guarded phase.0 (guarded_in l.program phase.0 lock.0 w.0)) e among
  first-claim (TwoLocks phase a b w) c line e among =
      of-contender (task_on l.places phase.0 (guarded_in l.program phase.0 a.0 w.0)) (Under a.0) w.0 c line (guarded phase.0 (guarded_in l.program phase.0 a.0 w.0)) e among

  pub second-claim : (f : CheckFault) (c : Contender) (line : ℕ) → second_contender l f ≡ Some c → IsAmong (claims_in text l.program c) line
      → IsClaimedOn text l.program.locks c (conflict_word f) line
  second-claim (PlainConflict phase a b w) c line e among = of-contender (contending_task l phase.0 b.0) Plainly w.0 c line (known-task phase.0 b.0) e among
  second-claim (GuardedPlain phase lock core w) c line e among = of-contender (contending_task l phase.0 core.0) Plainly w.0 c line (known-task phase.0 core.0) e among
  second-claim (TwoLocks phase a b w) c line e among =
      of-contender (task_on l.places phase.0 (guarded_in l.program phase.0 b.0 w.0)) (Under b.0) w.0 c line (guarded phase.0 (guarded_in l.program phase.0 b.0 w.0)) e among

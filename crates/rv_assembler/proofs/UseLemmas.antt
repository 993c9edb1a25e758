-- In a text without a fault, first values and uses of words are the same modulo 2^32.
use Rattle.std.proofs.Common.{◌≡◌, ℕ, zero, suc, ◌+◌, ◌%◌, ◌^◌, ◌<◌, ◌≤◌, Bool, true, false, cond, ◌&&◌, ltb, leb, ltb-true, leb-true, lt-ltb, le-leb, ℤ, pos, negsuc, ◌+ℤ◌, int_le, int_lt, List, [], ◌∷◌, ◌++◌, Option, Some, None, Ok, flat_map, bytes_eq, refl, sym, ap, subst, ◌∙◌, append_assoc, append-nil, arith}
use Rattle.std.specs.Option.{option_or}
use Rattle.std.specs.List.{All, filter_map, cons_option}
use Rattle.std.proofs.lemmas.Bool.{and_parts, and_from, cond_both}
use Rattle.std.proofs.lemmas.List.Elements.{filter_map-append, All-nil, All-cons, All-append}
use Rattle.std.proofs.lemmas.List.Sums.{sum_by_push, sum_by-append}
use Rattle.region_table.specs.Program.{ProgramParts}
use Rattle.src_text.specs.declared.token.Token.{Token}
use Rattle.rv_assembler.specs.declared.fault.SourceFault.{SourceFault}
use Rattle.rv_assembler.specs.declared.fault.SourceFault as fault
use Rattle.rv_assembler.specs.declared.statement.Statement.{Statement}
use Rattle.rv_assembler.specs.declared.statement.Statement as statement
use Rattle.rv_assembler.specs.declared.statement.Extent.{Extent}
use Rattle.rv_assembler.specs.declared.statement.Extent as extent
use Rattle.rv_assembler.specs.declared.parsing.Saying.{Saying}
use Rattle.rv_assembler.specs.declared.parsing.Reading.{Reading}
use Rattle.rv_assembler.specs.declared.parsing.Reading.TheVariants.{Bad, Good}
use Rattle.rv_assembler.specs.declared.names.Meaning.{Meaning}
use Rattle.rv_assembler.specs.declared.names.Meaning as meaning
use Rattle.rv_assembler.specs.declared.draft.FirstValue.{FirstValue}
use Rattle.rv_assembler.specs.declared.draft.Usage.{Usage}
use Rattle.rv_assembler.specs.declared.draft.Claim.{Claim}
use Rattle.rv_assembler.specs.declared.draft.Cores.{Cores}
use Rattle.rv_assembler.specs.declared.draft.Span.{Span}
use Rattle.rv_assembler.specs.declared.draft.Draft.{Draft}
use Rattle.rv_assembler.specs.Number.{natural_of, wrapped, is_length, is_interval}
use Rattle.rv_assembler.specs.Gathering.{more}
use Rattle.rv_assembler.specs.Operand.{bytes_of}
use Rattle.rv_assembler.specs.Named.{no_cores, region_span, usage_of}
use Rattle.rv_assembler.specs.Drafting.{next_claim, claimed, claims_for, values_for}
use Rattle.rv_assembler.specs.Rows.{first_values, from_index, to_index, moved_by, uses_of}
use Rattle.rv_assembler.proofs.IndexLemmas.{fits_from, fits-index, uses_from, uses-index}
use Rattle.rv_assembler.specs.Fault.{stepped_fits, extent_far, word_far, out_of_range, doubled, unknown, misplaced, first_fault, early_fault, over_limit, limit_fault}
use Rattle.rv_assembler.specs.Placed.{placed_behind}
use Rattle.rv_assembler.specs.Counts.{region_words, data_size, code_words, data_words, regions_in, locks_in, phases_in, family_in}
use Rattle.rv_assembler.specs.Declarations.{Declaration, label_by, named_by, declared_at, meaning_among, meaning_of}
use Rattle.rv_assembler.specs.Tables.{value_by, claim_by, value_at, claim_at, tables}
use Rattle.rv_assembler.specs.Program.{program_of}
use Rattle.rv_assembler.specs.Finishing as finishing
use Rattle.rv_assembler.specs.Source.{good, sayings, line_fault, fault_at, faults, without_faults}
use Rattle.rv_assembler.proofs.SoundLemmas.{not-false, first-none, within}
use Rattle.rv_assembler.proofs.TableLemmas.{place, family-same, family-new}
use Rattle.rv_assembler.proofs.DeclarationLemmas.{found-append, found-one}
use Rattle.rv_assembler.proofs.WrappedTables.{wrapped_value_by, wrapped_claim_by, wrapped_value_at, wrapped_claim_at, wrapped_tables}
use Rattle.rv_assembler.proofs.RangeLemmas.{moved, family-cores}
use Rattle.rv_assembler.proofs.KeptLemmas.{IsInMemory}
use Rattle.rv_assembler.proofs.MemoryLemmas.{finished}

-- ---- one statement

record Inside (lo hi len : ℤ) : Type 0 where
  low : int_le (pos 0) lo ≡ true
  high : int_le (pos 0) hi ≡ true
  order : natural_of lo < natural_of hi
  first : natural_of lo ≤ natural_of len
  last : natural_of hi ≤ natural_of len

inside-interval : (lo hi len : ℤ) → is_interval lo hi len ≡ true → Inside lo hi len
inside-interval lo hi len e =
    let p = and_parts (int_le (pos 0) lo && int_lt lo hi) (int_le hi len) e in
    let q = and_parts (int_le (pos 0) lo) (int_lt lo hi) p.0 in
    by_signs lo hi len q.0 q.1 p.1
  where
    by_signs : (lo hi len : ℤ) → int_le (pos 0) lo ≡ true → int_lt lo hi ≡ true → int_le hi len ≡ true → Inside lo hi len
    by_signs (negsuc a) hi len x y z = let no : false ≡ true = x in absurd cc
    by_signs (pos a) (negsuc b) len x y z = let no : false ≡ true = y in absurd cc
    by_signs (pos a) (pos b) (negsuc c) x y z = let no : false ≡ true = z in absurd cc
    by_signs (pos a) (pos b) (pos c) x y z =
        let l : a < b = ltb-true a b y in
        let m : b ≤ c = leb-true b c z in
        record { low = le-leb 0 a (omega arith); high = le-leb 0 b (omega arith); order = l; first = omega arith; last = omega arith }

moved-on : (start : ℕ) (z step : ℤ) (a : ℕ) → a ≡ start + natural_of z → int_le (pos 0) z ≡ true → start + natural_of z ≤ 65536 → int_le (pos 0) (z +ℤ step) ≡ true → start + natural_of (z +ℤ step) ≤ 65536
    → (a + wrapped step) % 2 ^ 32 ≡ start + natural_of (z +ℤ step)
moved-on start (negsuc k) step a e n l m b = let no : false ≡ true = n in absurd cc
moved-on start (pos k) step a e n l m b = ap (λ (x : ℕ). (x + wrapped step) % 2 ^ 32) e ∙ moved start k step l m b

module _ (start : ℕ) (len step : ℤ) (few : start + natural_of len ≤ 65536) where
  claimed-stepped : (n : ℕ) (c : Claim) (lo hi : ℤ) → c.lo ≡ start + natural_of lo → c.hi ≡ start + natural_of hi → c.core + n ≤ 16 → fits_from len step lo hi n ≡ true
      → claimed c (wrapped step) n ≡ uses_from c.phase c.core c.usage start lo hi step n
  claimed-stepped zero c lo hi a b k e = refl
  claimed-stepped (suc zero) c lo hi a b k e = λ i. record { phase = c.phase; core = c.core; usage = c.usage; lo = a i; hi = b i } ∷ []
  claimed-stepped (suc (suc n)) c lo hi a b k e =
      let p = and_parts (is_interval lo hi len) (fits_from len step (lo +ℤ step) (hi +ℤ step) (suc n)) e in
      let q = and_parts (is_interval (lo +ℤ step) (hi +ℤ step) len) (fits_from len step ((lo +ℤ step) +ℤ step) ((hi +ℤ step) +ℤ step) n) p.1 in
      let here = inside-interval lo hi len p.0 in
      let next = inside-interval (lo +ℤ step) (hi +ℤ step) len q.0 in
      let f1 = here.first in
      let f2 = here.last in
      let f3 = next.first in
      let f4 = next.last in
      let core : more c.core 1 ≡ c.core + 1 = omega arith in
      let rest =
      claimed-stepped (suc n) (next_claim c (wrapped step)) (lo +ℤ step) (hi +ℤ step) (moved-on start lo step c.lo a here.low (omega arith) next.low (omega arith)) (moved-on start hi step c.hi b here.high (omega arith) next.high (omega arith)) (omega arith) p.1
      ∙ ap (λ (m : ℕ). uses_from c.phase m c.usage start (lo +ℤ step) (hi +ℤ step) step (suc n)) core in
      λ i. record { phase = c.phase; core = c.core; usage = c.usage; lo = a i; hi = b i } ∷ rest i

claimed-flat : (n : ℕ) (c : Claim) (start a b : ℕ) → c.lo ≡ start + a → c.hi ≡ start + b → start + a ≤ 65536 → start + b ≤ 65536 → c.core + n ≤ 16
    → claimed c 0 n ≡ uses_from c.phase c.core c.usage start (pos a) (pos b) (pos 0) n
claimed-flat zero c start a b d e f g k = refl
claimed-flat (suc n) c start a b d e f g k =
    let core : more c.core 1 ≡ c.core + 1 = omega arith in
    let rest =
    claimed-flat n (next_claim c 0) start (a + 0) (b + 0) (omega arith) (omega arith) (omega arith) (omega arith) (omega arith)
    ∙ ap (λ (m : ℕ). uses_from c.phase m c.usage start (pos (a + 0)) (pos (b + 0)) (pos 0) n) core in
    λ i. record { phase = c.phase; core = c.core; usage = c.usage; lo = d i; hi = e i } ∷ rest i

-- a region in the memory
record IsRegion (words start : ℕ) (len : ℤ) : Type 0 where
  sized : is_length len ≡ true
  reach : start + natural_of len ≤ words
  few : words ≤ 65536

flat-uses : (phase : ℕ) (family : Cores) (u : Usage) (start : ℕ) (len lo hi : ℤ) (first past : ℕ) → start + natural_of len ≤ 65536 → family.first + family.count ≤ 16 → is_interval lo hi len ≡ true
    → (int_le (pos 0) lo ≡ true → natural_of lo ≤ 65536 → first ≡ start + natural_of lo) → (int_le (pos 0) hi ≡ true → natural_of hi ≤ 65536 → past ≡ start + natural_of hi)
    → claimed (record { phase = phase; core = family.first; usage = u; lo = first; hi = past }) 0 family.count ≡ uses_from phase family.first u start lo hi (pos 0) family.count
flat-uses phase family u start len lo hi first past few k e a b =
    let here = inside-interval lo hi len e in
    by_signs lo hi here (a here.low (let x = here.first in omega arith)) (b here.high (let x = here.last in omega arith))
  where
    by_signs : (lo hi : ℤ) → Inside lo hi len → first ≡ start + natural_of lo → past ≡ start + natural_of hi
        → claimed (record { phase = phase; core = family.first; usage = u; lo = first; hi = past }) 0 family.count ≡ uses_from phase family.first u start lo hi (pos 0) family.count
    by_signs (negsuc x) hi i a b = let no : false ≡ true = i.low in absurd cc
    by_signs (pos x) (negsuc y) i a b = let no : false ≡ true = i.high in absurd cc
    by_signs (pos x) (pos y) i a b =
        let f = i.first in
        let g = i.last in
        claimed-flat family.count (record { phase = phase; core = family.first; usage = u; lo = first; hi = past }) start x y a b (omega arith) (omega arith) k

counted-small : (start : ℕ) (z : ℤ) → start ≤ 65536 → int_le (pos 0) z ≡ true → natural_of z ≤ 65536 → (start + wrapped z) % 2 ^ 32 ≡ start + natural_of z
counted-small start (pos n) l e f = omega arith
counted-small start (negsuc n) l e f = let no : false ≡ true = e in absurd cc

whole-interval : (len : ℤ) → is_length len ≡ true → is_interval (pos 0) len len ≡ true
whole-interval (pos n) e =
    let p = and_parts (int_le (pos 1) (pos n)) (int_le (pos n) (pos 65536)) e in
    let low : 1 ≤ n = leb-true 1 n p.0 in
    and_from (ltb 0 n) (leb n n) (lt-ltb 0 n (omega arith)) (le-leb n n (omega arith))
whole-interval (negsuc n) e =
    let p = and_parts (int_le (pos 1) (negsuc n)) (int_le (negsuc n) (pos 65536)) e in
    let no : false ≡ true = p.0 in
    absurd cc

abbrev first_claim : ℕ → Cores → Span → Usage → ℤ → ℤ → Claim
first_claim phase family p u lo hi = record { phase = phase; core = family.first; usage = u; lo = (p.start + wrapped lo) % 2 ^ 32; hi = (p.start + wrapped hi) % 2 ^ 32 }

stepped-uses : (words phase : ℕ) (family : Cores) (p : Span) (u : Usage) (lo hi step : ℤ) → IsRegion words p.start p.len → (n : ℕ) → family.first + n ≤ 16 → fits_from p.len step lo hi n ≡ true
    → claimed (first_claim phase family p u lo hi) (wrapped step) n ≡ uses_from phase family.first u p.start lo hi step n
stepped-uses words phase family p u lo hi step r zero k e = refl
stepped-uses words phase family p u lo hi step r (suc n) k e =
    let q = and_parts (is_interval lo hi p.len) (fits_from p.len step (lo +ℤ step) (hi +ℤ step) n) e in
    let here = inside-interval lo hi p.len q.0 in
    let f = here.first in
    let g = here.last in
    let l = r.reach in
    let m = r.few in
    claimed-stepped p.start p.len step (omega arith) (suc n) (first_claim phase family p u lo hi) lo hi (counted-small p.start lo (omega arith) here.low (omega arith)) (counted-small p.start hi (omega arith) here.high (omega arith)) k e

made-same : (words phase : ℕ) (family : Cores) (p : Span) (u : Usage) (e : Extent) → IsRegion words p.start p.len → family.first + family.count ≤ 16 → extent_far (Some p) e family.count ≡ false
    → claims_for phase family (Some p) (Some u) e ≡ uses_from phase family.first u p.start (from_index e) (to_index p.len e) (moved_by e) family.count
made-same words phase family p u extent.TheVariants.Whole r k e =
    let l = r.reach in
    let m = r.few in
    flat-uses phase family u p.start p.len (pos 0) p.len p.start ((p.start + wrapped p.len) % 2 ^ 32) (omega arith) k (whole-interval p.len r.sized) (λ a b. omega arith) (counted-small p.start p.len (omega arith))
made-same words phase family p u (extent.TheVariants.Part lo hi) r k e =
    let l = r.reach in
    let m = r.few in
    flat-uses phase family u p.start p.len lo hi ((p.start + wrapped lo) % 2 ^ 32) ((p.start + wrapped hi) % 2 ^ 32) (omega arith) k (not-false (is_interval lo hi p.len) e) (counted-small p.start lo (omega arith)) (counted-small p.start hi (omega arith))
made-same words phase family p u (extent.TheVariants.Stepped lo hi step) r k e =
    stepped-uses words phase family p u lo hi step r family.count k (sym (fits-index p.len step lo hi family.count) ∙ not-false (stepped_fits p.len step lo hi family.count) e)

uses-same : (words phase : ℕ) (family : Cores) (p : Span) (u : Usage) (e : Extent) → IsRegion words p.start p.len → family.first + family.count ≤ 16 → extent_far (Some p) e family.count ≡ false
    → claims_for phase family (Some p) (Some u) e ≡ uses_of phase family (Some p) (Some u) e
uses-same words phase family p u e r k f = made-same words phase family p u e r k f ∙ sym (uses-index phase family u p e)

abbrev value_row : ℕ → ℕ → List FirstValue
value_row word value = record { word = word; value = value } ∷ []

word-same : (words : ℕ) (p : Span) (i : ℤ) (v : ℕ) → IsRegion words p.start p.len → word_far (Some p) i ≡ false → values_for (Some p) i v ≡ first_values (Some p) i v
word-same words p i v r e =
    let q = and_parts (int_le (pos 0) i) (int_lt i p.len) (not-false (int_le (pos 0) i && int_lt i p.len) e) in
    let l = r.reach in
    let m = r.few in
    ap (λ (w : ℕ). value_row w v) (counted-small p.start i (omega arith) q.0 (let b = below i p.len q.0 q.1 in omega arith))
  where
    below : (i len : ℤ) → int_le (pos 0) i ≡ true → int_lt i len ≡ true → natural_of i ≤ natural_of len
    below (negsuc a) len x y = let no : false ≡ true = x in absurd cc
    below (pos a) (negsuc b) x y = let no : false ≡ true = y in absurd cc
    below (pos a) (pos b) x y = let l : a < b = ltb-true a b y in omega arith

-- a family on some of sixteen cores
abbrev Few : Cores → Type 0
Few c = c.first + c.count ≤ 16

abbrev saying : ℕ → Option Token → Statement → Saying
saying line label st = record { line = line; label = label; statement = st }

-- ---- names

abbrev IsInside : ℕ → Option Meaning → Type 0
IsInside words None = Unit {0}
IsInside words (Some (meaning.TheVariants.Label line at)) = Unit {0}
IsInside words (Some (meaning.TheVariants.Region number start len)) = IsRegion words start len
IsInside words (Some (meaning.TheVariants.Lock number)) = Unit {0}

abbrev IsSpanInside : ℕ → Option Span → Type 0
IsSpanInside words None = Unit {0}
IsSpanInside words (Some p) = IsRegion words p.start p.len

span-inside : (words : ℕ) (m : Option Meaning) → IsInside words m → IsSpanInside words (region_span m)
span-inside words None h = tt
span-inside words (Some (meaning.TheVariants.Label line at)) h = tt
span-inside words (Some (meaning.TheVariants.Region number start len)) h = record { sized = h.sized; reach = h.reach; few = h.few }
span-inside words (Some (meaning.TheVariants.Lock number)) h = tt

inside-first : (words : ℕ) (a b : Option Meaning) → IsInside words a → IsInside words b → IsInside words (option_or a b)
inside-first words None b h k = k
inside-first words (Some m) b h k = h

-- ---- claims of words of the memory

flat-held : (words phase start : ℕ) (u : Usage) (n core a b : ℕ) → a < b → start + b ≤ words → All (IsInMemory words) (uses_from phase core u start (pos a) (pos b) (pos 0) n)
flat-held words phase start u zero core a b l m = All-nil (IsInMemory words)
flat-held words phase start u (suc n) core a b l m =
    All-cons (IsInMemory words) _ (uses_from phase (core + 1) u start (pos (a + 0)) (pos (b + 0)) (pos 0) n) (omega arith, omega arith) (flat-held words phase start u n (core + 1) (a + 0) (b + 0) (omega arith) (omega arith))

plain-held : (words phase start : ℕ) (u : Usage) (n core : ℕ) (lo hi len : ℤ) → is_interval lo hi len ≡ true → start + natural_of len ≤ words → All (IsInMemory words) (uses_from phase core u start lo hi (pos 0) n)
plain-held words phase start u n core lo hi len e m = by_signs lo hi (inside-interval lo hi len e)
  where
    by_signs : (lo hi : ℤ) → Inside lo hi len → All (IsInMemory words) (uses_from phase core u start lo hi (pos 0) n)
    by_signs (negsuc x) hi i = let no : false ≡ true = i.low in absurd cc
    by_signs (pos x) (negsuc y) i = let no : false ≡ true = i.high in absurd cc
    by_signs (pos x) (pos y) i = let l = i.order in let g = i.last in flat-held words phase start u n core x y (omega arith) (omega arith)

stepped-held : (words phase start : ℕ) (u : Usage) (len step : ℤ) → start + natural_of len ≤ words → (n core : ℕ) (lo hi : ℤ) → fits_from len step lo hi n ≡ true → All (IsInMemory words) (uses_from phase core u start lo hi step n)
stepped-held words phase start u len step m zero core lo hi e = All-nil (IsInMemory words)
stepped-held words phase start u len step m (suc n) core lo hi e =
    let p = and_parts (is_interval lo hi len) (fits_from len step (lo +ℤ step) (hi +ℤ step) n) e in
    let here = inside-interval lo hi len p.0 in
    let o = here.order in
    let g = here.last in
    All-cons (IsInMemory words) _ (uses_from phase (core + 1) u start (lo +ℤ step) (hi +ℤ step) step n) (omega arith, omega arith) (stepped-held words phase start u len step m n (core + 1) (lo +ℤ step) (hi +ℤ step) p.1)

made-held : (words phase : ℕ) (family : Cores) (p : Span) (u : Usage) (e : Extent) → IsRegion words p.start p.len → extent_far (Some p) e family.count ≡ false → All (IsInMemory words) (uses_from phase family.first u p.start (from_index e) (to_index p.len e) (moved_by e) family.count)
made-held words phase family p u extent.TheVariants.Whole r e = plain-held words phase p.start u family.count family.first (pos 0) p.len p.len (whole-interval p.len r.sized) r.reach
made-held words phase family p u (extent.TheVariants.Part lo hi) r e = plain-held words phase p.start u family.count family.first lo hi p.len (not-false (is_interval lo hi p.len) e) r.reach
made-held words phase family p u (extent.TheVariants.Stepped lo hi step) r e = stepped-held words phase p.start u p.len step r.reach family.count family.first lo hi (sym (fits-index p.len step lo hi family.count) ∙ not-false (stepped_fits p.len step lo hi family.count) e)

uses-held : (words phase : ℕ) (family : Cores) (p : Span) (u : Usage) (e : Extent) → IsRegion words p.start p.len → extent_far (Some p) e family.count ≡ false → All (IsInMemory words) (uses_of phase family (Some p) (Some u) e)
uses-held words phase family p u e r f = subst (All (IsInMemory words)) (sym (uses-index phase family u p e)) (made-held words phase family p u e r f)

-- each statement is in its range
abbrev AreClean : List ℕ → (List ℕ → Option Meaning) → List Saying → List Saying → Type 0
AreClean text names before [] = Unit {0}
AreClean text names before (s ∷ ss) = (out_of_range text names (tables text names before) s.statement ≡ false) × AreClean text names (before ++ s ∷ []) ss

module _ (text : List ℕ) (names : List ℕ → Option Meaning) (words : ℕ) (few : words ≤ 65536) where
  inside-label : (before : List Saying) (line : ℕ) (label : Option Token) (q : List ℕ) → IsInside words (meaning_among (label_by text before line label) q)
  inside-label before line None q = tt
  inside-label before line (Some t) q =
      let d : Declaration = record { name = bytes_of text t; meaning = meaning.TheVariants.Label line (code_words before) } in
      subst (IsInside words) (sym (found-one d q)) (cond_both (bytes_eq d.name q) (Some d.meaning) None (IsInside words) (λ e. tt) (λ e. tt))

  inside-name : (before : List Saying) (st : Statement) (q : List ℕ) → out_of_range text names (tables text names before) st ≡ false → data_words before + data_size st ≤ words → IsInside words (meaning_among (named_by text before st) q)
  inside-name before statement.TheVariants.Nothing q e l = tt
  inside-name before (statement.TheVariants.Instruction k) q e l = tt
  inside-name before (statement.TheVariants.Region name len) q e l =
      let is : is_length len ≡ true = not-false (is_length len) e in
      let size : region_words len ≡ natural_of len = ap (λ (b : Bool). cond b (natural_of len) 0) is in
      let d : Declaration = record { name = bytes_of text name; meaning = meaning.TheVariants.Region (regions_in before) (data_words before) len } in
      subst (IsInside words) (sym (found-one d q)) (cond_both (bytes_eq d.name q) (Some d.meaning) None (IsInside words) (λ e. record { sized = is; reach = omega arith; few = few }) (λ e. tt))
  inside-name before (statement.TheVariants.Word region index value) q e l = tt
  inside-name before (statement.TheVariants.Lock name) q e l =
      let d : Declaration = record { name = bytes_of text name; meaning = meaning.TheVariants.Lock (locks_in before) } in
      subst (IsInside words) (sym (found-one d q)) (cond_both (bytes_eq d.name q) (Some d.meaning) None (IsInside words) (λ e. tt) (λ e. tt))
  inside-name before statement.TheVariants.Phase q e l = tt
  inside-name before (statement.TheVariants.Tasks f) q e l = tt
  inside-name before (statement.TheVariants.Uses u) q e l = tt

  inside-all : (ss before : List Saying) (q : List ℕ) → AreClean text names before ss → data_words (before ++ ss) ≤ words → IsInside words (meaning_among (flat_map (declared_at text) (placed_behind before ss)) q)
  inside-all [] before q h l = tt
  inside-all (s ∷ ss) before q h l =
      let now : List Saying = before ++ s ∷ [] in
      let all : data_words (now ++ ss) ≡ data_words (before ++ s ∷ ss) = ap data_words (append_assoc before (s ∷ []) ss) in
      let parts : data_words (now ++ ss) ≡ data_words now + data_words ss = sum_by-append (λ (s : Saying). data_size s.statement) now ss in
      let here : data_words now ≡ data_words before + data_size s.statement = sum_by_push (λ (s : Saying). data_size s.statement) before s in
      let mine : IsInside words (meaning_among (declared_at text (place before s)) q) =
      subst (IsInside words) (sym (found-append (label_by text before s.line s.label) (named_by text before s.statement) q))
      (inside-first words (meaning_among (label_by text before s.line s.label) q) (meaning_among (named_by text before s.statement) q) (inside-label before s.line s.label q) (inside-name before s.statement q h.0 (omega arith))) in
      subst (IsInside words) (sym (found-append (declared_at text (place before s)) (flat_map (declared_at text) (placed_behind now ss)) q))
      (inside-first words (meaning_among (declared_at text (place before s)) q) (meaning_among (flat_map (declared_at text) (placed_behind now ss)) q) mine (inside-all ss now q h.1 (omega arith)))

  -- ---- all statements
  module _ (inside : (q : List ℕ) → IsInside words (names q)) where
    claim-here : (st : Statement) (phase : ℕ) (family : Cores) (d : Draft) → family.first + family.count ≤ 16 → family.count ≡ d.family.count → out_of_range text names d st ≡ false → wrapped_claim_by text names phase family st ≡ claim_by text names phase family st
    claim-here statement.TheVariants.Nothing phase family d k c e = refl
    claim-here (statement.TheVariants.Instruction i) phase family d k c e = refl
    claim-here (statement.TheVariants.Region name len) phase family d k c e = refl
    claim-here (statement.TheVariants.Word region index value) phase family d k c e = refl
    claim-here (statement.TheVariants.Lock name) phase family d k c e = refl
    claim-here statement.TheVariants.Phase phase family d k c e = refl
    claim-here (statement.TheVariants.Tasks f) phase family d k c e = refl
    claim-here (statement.TheVariants.Uses u) phase family d k c e =
        by_place (region_span (names (bytes_of text u.region))) (usage_of text names u) (span-inside words (names (bytes_of text u.region)) (inside (bytes_of text u.region))) (ap (λ (n : ℕ). extent_far (region_span (names (bytes_of text u.region))) u.extent n) c ∙ e)
      where
        by_place : (o : Option Span) (w : Option Usage) → IsSpanInside words o → extent_far o u.extent family.count ≡ false → claims_for phase family o w u.extent ≡ uses_of phase family o w u.extent
        by_place None w h f = refl
        by_place (Some p) None h f = refl
        by_place (Some p) (Some w) h f = uses-same words phase family p w u.extent h k f

    claim-held : (st : Statement) (phase : ℕ) (family : Cores) (d : Draft) → family.count ≡ d.family.count → out_of_range text names d st ≡ false → All (IsInMemory words) (claim_by text names phase family st)
    claim-held statement.TheVariants.Nothing phase family d c e = All-nil (IsInMemory words)
    claim-held (statement.TheVariants.Instruction i) phase family d c e = All-nil (IsInMemory words)
    claim-held (statement.TheVariants.Region name len) phase family d c e = All-nil (IsInMemory words)
    claim-held (statement.TheVariants.Word region index value) phase family d c e = All-nil (IsInMemory words)
    claim-held (statement.TheVariants.Lock name) phase family d c e = All-nil (IsInMemory words)
    claim-held statement.TheVariants.Phase phase family d c e = All-nil (IsInMemory words)
    claim-held (statement.TheVariants.Tasks f) phase family d c e = All-nil (IsInMemory words)
    claim-held (statement.TheVariants.Uses u) phase family d c e =
        by_place (region_span (names (bytes_of text u.region))) (usage_of text names u) (span-inside words (names (bytes_of text u.region)) (inside (bytes_of text u.region))) (ap (λ (n : ℕ). extent_far (region_span (names (bytes_of text u.region))) u.extent n) c ∙ e)
      where
        by_place : (o : Option Span) (w : Option Usage) → IsSpanInside words o → extent_far o u.extent family.count ≡ false → All (IsInMemory words) (uses_of phase family o w u.extent)
        by_place None w h f = All-nil (IsInMemory words)
        by_place (Some p) None h f = All-nil (IsInMemory words)
        by_place (Some p) (Some w) h f = uses-held words phase family p w u.extent h f

    claims-held : (ss before : List Saying) → AreClean text names before ss → All (IsInMemory words) (flat_map (claim_at text names) (placed_behind before ss))
    claims-held [] before h = All-nil (IsInMemory words)
    claims-held (s ∷ ss) before h =
        All-append (IsInMemory words) (claim_by text names (phases_in before) (family_in before) s.statement) (flat_map (claim_at text names) (placed_behind (before ++ s ∷ []) ss))
        (claim-held s.statement (phases_in before) (family_in before) (tables text names before) refl h.0) (claims-held ss (before ++ s ∷ []) h.1)

    value-here : (st : Statement) (d : Draft) → out_of_range text names d st ≡ false → wrapped_value_by text names st ≡ value_by text names st
    value-here statement.TheVariants.Nothing d e = refl
    value-here (statement.TheVariants.Instruction i) d e = refl
    value-here (statement.TheVariants.Region name len) d e = refl
    value-here (statement.TheVariants.Word region index value) d e =
        by_place (region_span (names (bytes_of text region))) (span-inside words (names (bytes_of text region)) (inside (bytes_of text region))) e
      where
        by_place : (o : Option Span) → IsSpanInside words o → word_far o index ≡ false → values_for o index value ≡ first_values o index value
        by_place None h f = refl
        by_place (Some p) h f = word-same words p index value h f
    value-here (statement.TheVariants.Lock name) d e = refl
    value-here statement.TheVariants.Phase d e = refl
    value-here (statement.TheVariants.Tasks f) d e = refl
    value-here (statement.TheVariants.Uses u) d e = refl

    few-more : (before : List Saying) (line : ℕ) (label : Option Token) (d : Draft) → Few (family_in before) → (st : Statement) → out_of_range text names d st ≡ false → Few (family_in (before ++ saying line label st ∷ []))
    few-more before line label d k statement.TheVariants.Nothing e = subst Few (sym (family-same before (saying line label statement.TheVariants.Nothing) refl)) k
    few-more before line label d k (statement.TheVariants.Instruction c) e = subst Few (sym (family-same before (saying line label (statement.TheVariants.Instruction c)) refl)) k
    few-more before line label d k (statement.TheVariants.Region name len) e = subst Few (sym (family-same before (saying line label (statement.TheVariants.Region name len)) refl)) k
    few-more before line label d k (statement.TheVariants.Word region index value) e = subst Few (sym (family-same before (saying line label (statement.TheVariants.Word region index value)) refl)) k
    few-more before line label d k (statement.TheVariants.Lock name) e = subst Few (sym (family-same before (saying line label (statement.TheVariants.Lock name)) refl)) k
    few-more before line label d k statement.TheVariants.Phase e = subst Few (sym (family-new before (saying line label statement.TheVariants.Phase) no_cores refl)) (omega arith)
    few-more before line label d k (statement.TheVariants.Tasks f) e =
        let few = family-cores f e in
        let a = few.core in
        let b = few.count in
        let c = few.few in
        subst Few (sym (family-new before (saying line label (statement.TheVariants.Tasks f)) (record { first = natural_of f.core; count = natural_of f.count }) refl)) (omega arith)
    few-more before line label d k (statement.TheVariants.Uses u) e = subst Few (sym (family-same before (saying line label (statement.TheVariants.Uses u)) refl)) k

    claims-same : (ss before : List Saying) → AreClean text names before ss → Few (family_in before)
        → flat_map (wrapped_claim_at text names) (placed_behind before ss) ≡ flat_map (claim_at text names) (placed_behind before ss)
    claims-same [] before h k = refl
    claims-same (s ∷ ss) before h k =
        let here = claim-here s.statement (phases_in before) (family_in before) (tables text names before) k refl h.0 in
        let rest = claims-same ss (before ++ s ∷ []) h.1 (few-more before s.line s.label (tables text names before) k s.statement h.0) in
        λ i. here i ++ rest i

    values-same : (ss before : List Saying) → AreClean text names before ss → flat_map (wrapped_value_at text names) (placed_behind before ss) ≡ flat_map (value_at text names) (placed_behind before ss)
    values-same [] before h = refl
    values-same (s ∷ ss) before h =
        let here = value-here s.statement (tables text names before) h.0 in
        let rest = values-same ss (before ++ s ∷ []) h.1 in
        λ i. here i ++ rest i

-- ---- a text without a fault

none-of : (o : Option SourceFault) (fs : List SourceFault) → cons_option o fs ≡ [] → (o ≡ None) × (fs ≡ [])
none-of None fs e = (refl, e)
none-of (Some f) fs e = absurd cc

pub both-none : (a b : Option SourceFault) → option_or a b ≡ None → (a ≡ None) × (b ≡ None)
both-none None b e = (refl, e)
both-none (Some f) b e = absurd cc

pub within-limits : (v : Bool) (d : Draft) (line : ℕ) → limit_fault v d line ≡ None → over_limit v d ≡ false
within-limits v d line e = step (over_limit v d) e
  where
    step : (b : Bool) → cond b (Some (fault.TheVariants.Limit line)) None ≡ None → b ≡ false
    step true e = absurd cc
    step false e = refl

-- a line without a fault has no number out of its range
pub in-range : (again : Bool) (text : List ℕ) (names : List ℕ → Option Meaning) (d : Draft) (s : Saying) → first_fault again text names d s ≡ None → out_of_range text names d s.statement ≡ false
in-range again text names d s e = (first-none (out_of_range text names d s.statement) again (unknown text names d.count.code s.statement) (misplaced d s.statement) _ _ _ _ e).0

clean-from : (v : Bool) (text : List ℕ) (names : List ℕ → Option Meaning) (rs done : List Reading) (before : List Saying) → sayings done ≡ before → data_words before ≤ 65536 → filter_map (fault_at v text names) (placed_behind done rs) ≡ []
    → AreClean text names before (sayings rs) × (data_words (before ++ sayings rs) ≤ 65536)
clean-from v text names [] done before same small e = let all : data_words (before ++ []) ≡ data_words before = ap data_words (append-nil before) in (tt, omega arith)
clean-from v text names (Bad f ∷ rs) done before same small e = absurd cc
clean-from v text names (Good s ∷ rs) done before same small e =
    let now : List Saying = before ++ s ∷ [] in
    let parts = none-of (line_fault v text names (sayings done) (Good s)) (filter_map (fault_at v text names) (placed_behind (done ++ Good s ∷ []) rs)) e in
    let here : line_fault v text names before (Good s) ≡ None = subst (λ (ss : List Saying). line_fault v text names ss (Good s) ≡ None) same parts.0 in
    let none = both-none (early_fault text names before s) (limit_fault v (tables text names now) s.line) here in
    let words : data_words now ≤ 65536 = (within v (tables text names now) (within-limits v (tables text names now) s.line none.1)).words in
    let said : sayings (done ++ Good s ∷ []) ≡ now = filter_map-append good done (Good s ∷ []) ∙ ap (λ (ss : List Saying). ss ++ s ∷ []) same in
    let rest = clean-from v text names rs (done ++ Good s ∷ []) now said words parts.1 in
    let all : data_words (now ++ sayings rs) ≡ data_words (before ++ s ∷ sayings rs) = ap data_words (append_assoc before (s ∷ []) (sayings rs)) in
    let small_all = rest.1 in
    ((in-range (doubled text before s) text names (tables text names before) s none.0, rest.0), omega arith)

clean-program : (v : Bool) (text : List ℕ) (rs : List Reading) → faults v text (meaning_of text (sayings rs)) rs ≡ []
    → finishing.finished_program (wrapped_tables text (meaning_of text (sayings rs)) (sayings rs)) ≡ program_of (tables text (meaning_of text (sayings rs)) (sayings rs))
clean-program v text rs e =
    let names : List ℕ → Option Meaning = meaning_of text (sayings rs) in
    let words = data_words (sayings rs) in
    let clean = clean-from v text names rs [] [] refl (omega arith) e in
    let inside : (q : List ℕ) → IsInside words (names q) = λ q. inside-all text names words clean.1 (sayings rs) [] q clean.0 (omega arith) in
    let values = values-same text names words clean.1 inside (sayings rs) [] clean.0 in
    let claims = claims-same text names words clean.1 inside (sayings rs) [] clean.0 (omega arith) in
    (λ i. finishing.finished_program (record (tables text names (sayings rs)) { values = values i; claims = claims i }))
    ∙ finished (tables text names (sayings rs)) (claims-held text names words clean.1 inside (sayings rs) [] clean.0)

pub same-program : (v : Bool) (text : List ℕ) (rs : List Reading)
    → without_faults (faults v text (meaning_of text (sayings rs)) rs) (finishing.finished_program (wrapped_tables text (meaning_of text (sayings rs)) (sayings rs)))
    ≡ without_faults (faults v text (meaning_of text (sayings rs)) rs) (program_of (tables text (meaning_of text (sayings rs)) (sayings rs)))
same-program v text rs = by_faults (faults v text (meaning_of text (sayings rs)) rs) refl
  where
    by_faults : (fs : List SourceFault) → faults v text (meaning_of text (sayings rs)) rs ≡ fs
        → without_faults fs (finishing.finished_program (wrapped_tables text (meaning_of text (sayings rs)) (sayings rs))) ≡ without_faults fs (program_of (tables text (meaning_of text (sayings rs)) (sayings rs)))
    by_faults [] e = ap (λ (p : ProgramParts). Ok p) (clean-program v text rs e)
    by_faults (f ∷ fs) e = refl

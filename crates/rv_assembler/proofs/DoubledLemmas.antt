-- The assembler finds that a name is declared twice by what it means first: it finds just the names that are declared before.
use Rattle.std.proofs.Common.{◌≡◌, ℕ, ℤ, ◌+◌, ◌<◌, ◌≤◌, Bool, true, false, not, ◌||◌, cond, eqb, List, [], ◌∷◌, ◌++◌, Option, Some, None, is_some, option_map, find, flat_map, bytes_eq, refl, sym, subst, ap, ◌∙◌, arith}
use Rattle.std.proofs.lemmas.Bool.Decides.{nat_tests}
use Rattle.std.proofs.lemmas.List.Sums.{sum_by_push}
use Rattle.std.proofs.lemmas.Slice.Eq.{bytes_eq-Decides}
use Rattle.src_text.specs.declared.token.Token.{Token}
use Rattle.rv_assembler.specs.declared.statement.Statement.{Statement}
use Rattle.rv_assembler.specs.declared.statement.Statement as statement
use Rattle.rv_assembler.specs.declared.parsing.Saying.{Saying}
use Rattle.rv_assembler.specs.declared.names.Meaning.{Meaning}
use Rattle.rv_assembler.specs.declared.names.Meaning as meaning
use Rattle.rv_assembler.specs.Operand.{bytes_of}
use Rattle.std.specs.Option.{option_or}
use Rattle.rv_assembler.specs.Placed.{placed_behind}
use Rattle.rv_assembler.specs.Counts.{code_words, data_words, is_region, is_lock, regions_in, locks_in, counts_in}
use Rattle.rv_assembler.specs.Declarations.{Declaration, label_by, named_by, declared_at, declarations, declares, declare_again, meaning_among, meaning_of}
use Rattle.rv_assembler.specs.Fault.{doubled}
use Rattle.rv_assembler.specs.Testing.{label_doubled, region_doubled, lock_doubled, name_doubled, label_of_doubled, doubled_by_meaning}
use Rattle.rv_assembler.proofs.NameLemmas.{first-group}
use Rattle.rv_assembler.proofs.TableLemmas.{tally, place, table-more}
use Rattle.rv_assembler.proofs.DeclarationLemmas.{found-append, found-one}

-- a meaning that is declared by a line before the number `line`, of a region or lock below these
abbrev IsOld : ℕ → ℕ → ℕ → Option Meaning → Type 0
IsOld regions locks line None = Unit {0}
IsOld regions locks line (Some (meaning.TheVariants.Label first at)) = first < line
IsOld regions locks line (Some (meaning.TheVariants.Region number start len)) = number < regions
IsOld regions locks line (Some (meaning.TheVariants.Lock number)) = number < locks

old-more : (r r' l l' n n' : ℕ) (m : Option Meaning) → r ≤ r' → l ≤ l' → n ≤ n' → IsOld r l n m → IsOld r' l' n' m
old-more r r' l l' n n' None a b c h = tt
old-more r r' l l' n n' (Some (meaning.TheVariants.Label first at)) a b c h = omega arith
old-more r r' l l' n n' (Some (meaning.TheVariants.Region number start len)) a b c h = omega arith
old-more r r' l l' n n' (Some (meaning.TheVariants.Lock number)) a b c h = omega arith

old-first : (r l n : ℕ) (a b : Option Meaning) → IsOld r l n a → IsOld r l n b → IsOld r l n (option_or a b)
old-first r l n None b h k = k
old-first r l n (Some m) b h k = h

-- the numbers of the lines rise
abbrev pub AreRising : ℕ → List Saying → Type 0
AreRising lo [] = Unit {0}
AreRising lo (s ∷ ss) = (lo ≤ s.line) × AreRising (s.line + 1) ss

-- names mean what the lines declare, of which these were before
pub record AreTold (text : List ℕ) (names : List ℕ → Option Meaning) (before ss : List Saying) (lo : ℕ) : Type 0 where
  pub means : (q : List ℕ) → names q ≡ option_or (meaning_among (declarations text before) q) (meaning_among (flat_map (declared_at text) (placed_behind before ss)) q)
  pub old : (q : List ℕ) → IsOld (regions_in before) (locks_in before) lo (meaning_among (declarations text before) q)
  pub rising : AreRising lo ss

pub told-first : (text : List ℕ) (ss : List Saying) (lo : ℕ) → AreRising lo ss → AreTold text (meaning_of text ss) [] ss lo
told-first text ss lo h = record { means = λ q. refl; old = λ q. tt; rising = h }

-- ---- one line more

old-label : (text : List ℕ) (before : List Saying) (r l line : ℕ) (label : Option Token) (q : List ℕ) → IsOld r l (line + 1) (meaning_among (label_by text before line label) q)
old-label text before r l line None q = tt
old-label text before r l line (Some t) q = step (bytes_eq (bytes_of text t) q)
  where
    step : (b : Bool) → IsOld r l (line + 1) (option_map (λ (d : Declaration). d.meaning) (cond b (Some (record { name = bytes_of text t; meaning = meaning.TheVariants.Label line (code_words before) })) None))
    step true = omega arith
    step false = tt

old-named : (text : List ℕ) (before : List Saying) (st : Statement) (q : List ℕ) (r l n : ℕ) → r ≡ regions_in before + tally (is_region st) → l ≡ locks_in before + tally (is_lock st) → IsOld r l n (meaning_among (named_by text before st) q)
old-named text before statement.TheVariants.Nothing q r l n e f = tt
old-named text before (statement.TheVariants.Instruction k) q r l n e f = tt
old-named text before (statement.TheVariants.Region name len) q r l n e f =
    subst (IsOld r l n) (sym (found-one (record { name = bytes_of text name; meaning = meaning.TheVariants.Region (regions_in before) (data_words before) len }) q)) (step (bytes_eq (bytes_of text name) q))
  where
    step : (b : Bool) → IsOld r l n (cond b (Some (meaning.TheVariants.Region (regions_in before) (data_words before) len)) None)
    step true = omega arith
    step false = tt
old-named text before (statement.TheVariants.Word region index value) q r l n e f = tt
old-named text before (statement.TheVariants.Lock name) q r l n e f =
    subst (IsOld r l n) (sym (found-one (record { name = bytes_of text name; meaning = meaning.TheVariants.Lock (locks_in before) }) q)) (step (bytes_eq (bytes_of text name) q))
  where
    step : (b : Bool) → IsOld r l n (cond b (Some (meaning.TheVariants.Lock (locks_in before))) None)
    step true = omega arith
    step false = tt
old-named text before statement.TheVariants.Phase q r l n e f = tt
old-named text before (statement.TheVariants.Tasks f') q r l n e f = tt
old-named text before (statement.TheVariants.Uses e') q r l n e f = tt

pub told-next : (text : List ℕ) (names : List ℕ → Option Meaning) (before ss : List Saying) (s : Saying) (lo : ℕ) → AreTold text names before (s ∷ ss) lo → AreTold text names (before ++ s ∷ []) ss (s.line + 1)
told-next text names before ss s lo h = record { means = means; old = old; rising = h.rising.1 }
  where
    now : List Saying
    now = before ++ s ∷ []

    mine : List Declaration
    mine = declared_at text (place before s)

    later : List Declaration
    later = flat_map (declared_at text) (placed_behind now ss)

    more : (q : List ℕ) → meaning_among (declarations text now) q ≡ option_or (meaning_among (declarations text before) q) (meaning_among mine q)
    more q = ap (λ (ds : List Declaration). meaning_among ds q) (table-more (declared_at text) before s) ∙ found-append (declarations text before) mine q

    means : (q : List ℕ) → names q ≡ option_or (meaning_among (declarations text now) q) (meaning_among later q)
    means q =
        h.means q ∙ ap (option_or (meaning_among (declarations text before) q)) (found-append mine later q)
        ∙ sym (first-group (meaning_among (declarations text before) q) (meaning_among mine q) (meaning_among later q))
        ∙ ap (λ (m : Option Meaning). option_or m (meaning_among later q)) (sym (more q))

    old : (q : List ℕ) → IsOld (regions_in now) (locks_in now) (s.line + 1) (meaning_among (declarations text now) q)
    old q =
        let r : regions_in now ≡ regions_in before + tally (is_region s.statement) = sum_by_push (λ (s : Saying). tally (is_region s.statement)) before s in
        let l : locks_in now ≡ locks_in before + tally (is_lock s.statement) = sum_by_push (λ (s : Saying). tally (is_lock s.statement)) before s in
        let low = h.rising.0 in
        let was = old-more (regions_in before) (regions_in now) (locks_in before) (locks_in now) lo (s.line + 1) (meaning_among (declarations text before) q) (omega arith) (omega arith) (omega arith) (h.old q) in
        let label = old-label text before (regions_in now) (locks_in now) s.line s.label q in
        let named = old-named text before s.statement q (regions_in now) (locks_in now) (s.line + 1) r l in
        let is : IsOld (regions_in now) (locks_in now) (s.line + 1) (meaning_among mine q) =
        subst (IsOld (regions_in now) (locks_in now) (s.line + 1)) (sym (found-append (label_by text before s.line s.label) (named_by text before s.statement) q))
        (old-first (regions_in now) (locks_in now) (s.line + 1) (meaning_among (label_by text before s.line s.label) q) (meaning_among (named_by text before s.statement) q) label named) in
        subst (IsOld (regions_in now) (locks_in now) (s.line + 1)) (sym (more q))
        (old-first (regions_in now) (locks_in now) (s.line + 1) (meaning_among (declarations text before) q) (meaning_among mine q) was is)

-- ---- the test

declared-some : (ds : List Declaration) (q : List ℕ) → declares ds q ≡ is_some (meaning_among ds q)
declared-some [] q = refl
declared-some (d ∷ ds) q = step (bytes_eq d.name q) (declared-some ds q)
  where
    step : (b : Bool) → declares ds q ≡ is_some (meaning_among ds q) → (b || declares ds q) ≡ is_some (option_map (λ (d : Declaration). d.meaning) (cond b (Some d) (find (λ (d : Declaration). bytes_eq d.name q) ds)))
    step true e = refl
    step false e = e

itself : (d : Declaration) (ds : List Declaration) → meaning_among (d ∷ ds) d.name ≡ Some d.meaning
itself d ds = ap (λ (b : Bool). option_map (λ (d : Declaration). d.meaning) (cond b (Some d) (find (λ (e : Declaration). bytes_eq e.name d.name) ds))) ((bytes_eq-Decides d.name d.name).1 refl)

not-same : (n : ℕ) → not (eqb n n) ≡ false
not-same n = grind (arith, nat_tests)

not-less : (m n : ℕ) → m < n → not (eqb m n) ≡ true
not-less m n h = grind (arith, nat_tests)

-- what is declared first is what this line declares, where no earlier one declares the name
label-test : (r l line at : ℕ) (m : Option Meaning) → IsOld r l line m → label_doubled (option_or m (Some (meaning.TheVariants.Label line at))) line ≡ is_some m
label-test r l line at None h = not-same line
label-test r l line at (Some (meaning.TheVariants.Label first place)) h = not-less first line h
label-test r l line at (Some (meaning.TheVariants.Region number start len)) h = refl
label-test r l line at (Some (meaning.TheVariants.Lock number)) h = refl

region-test : (l line start : ℕ) (len : ℤ) (r : ℕ) (m : Option Meaning) → IsOld r l line m → region_doubled (option_or m (Some (meaning.TheVariants.Region r start len))) r ≡ is_some m
region-test l line start len r None h = not-same r
region-test l line start len r (Some (meaning.TheVariants.Label first place)) h = refl
region-test l line start len r (Some (meaning.TheVariants.Region number start' len')) h = not-less number r h
region-test l line start len r (Some (meaning.TheVariants.Lock number)) h = refl

lock-test : (r line l : ℕ) (m : Option Meaning) → IsOld r l line m → lock_doubled (option_or m (Some (meaning.TheVariants.Lock l))) l ≡ is_some m
lock-test r line l None h = not-same l
lock-test r line l (Some (meaning.TheVariants.Label first place)) h = refl
lock-test r line l (Some (meaning.TheVariants.Region number start len)) h = refl
lock-test r line l (Some (meaning.TheVariants.Lock number)) h = not-less number l h

or-false : (b : Bool) → (b || false) ≡ b
or-false true = refl
or-false false = refl

-- what is declared by then, and what the statement declares
module _ (text : List ℕ) (names : List ℕ → Option Meaning) (before : List Saying) (earlier later : List Declaration) (line : ℕ) (old : (q : List ℕ) → IsOld (regions_in before) (locks_in before) line (meaning_among earlier q)) where
  abbrev Means : List Declaration → Type 0
  Means ds = (q : List ℕ) → names q ≡ option_or (meaning_among earlier q) (meaning_among (ds ++ later) q)

  first-here : (d : Declaration) → Means (d ∷ []) → names d.name ≡ option_or (meaning_among earlier d.name) (Some d.meaning)
  first-here d means = means d.name ∙ ap (option_or (meaning_among earlier d.name)) (itself d later)

  one-again : (d : Declaration) (b : Bool) → b ≡ is_some (meaning_among earlier d.name) → b ≡ declare_again earlier (d ∷ [])
  one-again d b e = e ∙ sym (declared-some earlier d.name) ∙ sym (or-false (declares earlier d.name))

  name-again : (st : Statement) → Means (named_by text before st) → name_doubled text names (counts_in before) st ≡ declare_again earlier (named_by text before st)
  name-again statement.TheVariants.Nothing means = refl
  name-again (statement.TheVariants.Instruction k) means = refl
  name-again (statement.TheVariants.Region name len) means =
      let d : Declaration = record { name = bytes_of text name; meaning = meaning.TheVariants.Region (regions_in before) (data_words before) len } in
      one-again d (region_doubled (names d.name) (regions_in before))
      (ap (λ (m : Option Meaning). region_doubled m (regions_in before)) (first-here d means) ∙ region-test (locks_in before) line (data_words before) len (regions_in before) (meaning_among earlier d.name) (old d.name))
  name-again (statement.TheVariants.Word region index value) means = refl
  name-again (statement.TheVariants.Lock name) means =
      let d : Declaration = record { name = bytes_of text name; meaning = meaning.TheVariants.Lock (locks_in before) } in
      one-again d (lock_doubled (names d.name) (locks_in before))
      (ap (λ (m : Option Meaning). lock_doubled m (locks_in before)) (first-here d means) ∙ lock-test (regions_in before) line (locks_in before) (meaning_among earlier d.name) (old d.name))
  name-again statement.TheVariants.Phase means = refl
  name-again (statement.TheVariants.Tasks f) means = refl
  name-again (statement.TheVariants.Uses e) means = refl

pub doubled-same : (text : List ℕ) (names : List ℕ → Option Meaning) (before ss : List Saying) (s : Saying) (lo : ℕ) → AreTold text names before (s ∷ ss) lo → doubled_by_meaning text names (counts_in before) s ≡ doubled text before s
doubled-same text names before ss s lo h = by_label s.label h.means
  where
    earlier : List Declaration
    earlier = declarations text before

    later : List Declaration
    later = flat_map (declared_at text) (placed_behind (before ++ s ∷ []) ss)

    old : (q : List ℕ) → IsOld (regions_in before) (locks_in before) (s.line + 1) (meaning_among earlier q)
    old q = let low = h.rising.0 in old-more (regions_in before) (regions_in before) (locks_in before) (locks_in before) lo (s.line + 1) (meaning_among earlier q) (omega arith) (omega arith) (omega arith) (h.old q)

    by_label : (label : Option Token) → ((q : List ℕ) → names q ≡ option_or (meaning_among earlier q) (meaning_among ((label_by text before s.line label ++ named_by text before s.statement) ++ later) q))
        → (label_of_doubled text names s.line label || name_doubled text names (counts_in before) s.statement) ≡ declare_again earlier (label_by text before s.line label ++ named_by text before s.statement)
    by_label None means = name-again text names before earlier later (s.line + 1) old s.statement means
    by_label (Some t) means =
        let d : Declaration = record { name = bytes_of text t; meaning = meaning.TheVariants.Label s.line (code_words before) } in
        let named = named_by text before s.statement in
        let label : label_doubled (names d.name) s.line ≡ declares earlier d.name =
        ap (λ (m : Option Meaning). label_doubled m s.line) (means d.name ∙ ap (option_or (meaning_among earlier d.name)) (itself d (named ++ later)))
        ∙ label-test (regions_in before) (locks_in before) s.line (code_words before) (meaning_among earlier d.name) (let low = h.rising.0 in old-more (regions_in before) (regions_in before) (locks_in before) (locks_in before) lo s.line (meaning_among earlier d.name) (omega arith) (omega arith) low (h.old d.name))
        ∙ sym (declared-some earlier d.name) in
        let with_label : (q : List ℕ) → names q ≡ option_or (meaning_among (earlier ++ d ∷ []) q) (meaning_among (named ++ later) q) =
        λ q. means q ∙ ap (option_or (meaning_among earlier q)) (found-append (d ∷ []) (named ++ later) q) ∙ sym (first-group (meaning_among earlier q) (meaning_among (d ∷ []) q) (meaning_among (named ++ later) q))
        ∙ ap (λ (m : Option Meaning). option_or m (meaning_among (named ++ later) q)) (sym (found-append earlier (d ∷ []) q)) in
        let older : (q : List ℕ) → IsOld (regions_in before) (locks_in before) (s.line + 1) (meaning_among (earlier ++ d ∷ []) q) =
        λ q. subst (IsOld (regions_in before) (locks_in before) (s.line + 1)) (sym (found-append earlier (d ∷ []) q))
        (old-first (regions_in before) (locks_in before) (s.line + 1) (meaning_among earlier q) (meaning_among (d ∷ []) q) (old q) (old-label text before (regions_in before) (locks_in before) s.line (Some t) q)) in
        let name = name-again text names before (earlier ++ d ∷ []) later (s.line + 1) older s.statement with_label in
        λ i. label i || name i

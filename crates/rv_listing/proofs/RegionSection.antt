-- The lines of regions and of locks give the regions and the locks.
use Rattle.std.proofs.Common.{◌≡◌, ℕ, ◌+◌, ◌-◌, ◌^◌, ◌<◌, ◌≤◌, min, Bool, true, false, not, cond, eqb, List, [], ◌∷◌, ◌++◌, length, Option, Some, None, refl, ap, ◌∙◌, arith}
use Rattle.std.specs.Prelude.{pos, int_le}
use Rattle.std.proofs.lemmas.Bool.{le-ltb}
use Rattle.std.proofs.lemmas.Bool.Decides.{nat_tests}
use Rattle.std.proofs.lemmas.Int.{ints}
use Rattle.src_text.specs.declared.token.Token.{Token}
use Rattle.region_table.specs.declared.declared.Region.{Region}
use Rattle.rv_assembler.specs.declared.fault.SourceFault as fault
use Rattle.rv_assembler.specs.declared.statement.Statement.{Statement}
use Rattle.rv_assembler.specs.declared.parsing.Reading.{Reading}
use Rattle.rv_assembler.specs.declared.names.Meaning.{Meaning}
use Rattle.rv_assembler.specs.declared.draft.Draft.{Draft}
use Rattle.rv_assembler.specs.declared.statement.Statement as in_statement
use Rattle.rv_assembler.specs.declared.names.Meaning as in_meaning
use Rattle.rv_assembler.specs.Number.{wrapped, is_length}
use Rattle.rv_assembler.specs.Gathering.{more}
use Rattle.rv_assembler.specs.Operand.{bytes_of}
use Rattle.rv_assembler.specs.Counts.{region_words}
use Rattle.rv_assembler.specs.Adding.{draft_after, total}
use Rattle.rv_assembler.specs.Fault.{most_regions, over_limit}
use Rattle.rv_assembler.specs.Testing.{region_doubled, lock_doubled, draft_fault}
use Rattle.rv_listing.proofs.MoreLines.{total-more}
use Rattle.rv_listing.proofs.CodeLemmas.{wrapped-pos}
use Rattle.rv_listing.proofs.ReadLemmas.{sayings}

pub length-pos : (n : ℕ) → 0 < n → n ≤ 65536 → is_length (pos n) ≡ true
length-pos n l m =
    let a : int_le (pos 1) (pos n) ≡ true = grind (arith, ints) in
    let b : int_le (pos n) (pos 65536) ≡ true = grind (arith, ints) in
    rw (a, b) refl

same-number : (n : ℕ) → eqb n n ≡ true
same-number n = grind (arith, nat_tests)

-- a region declared by a token, and its statement
abbrev pub region_statement : Token → Region → Statement
region_statement t r = in_statement.TheVariants.Region t (pos r.len)

abbrev pub add_region : Draft → Region → Draft
add_region d r = record d { regions = d.regions ++ r ∷ []; count = record { code = d.count.code; words = d.count.words + r.len; regions = d.count.regions + 1; locks = d.count.locks } }

abbrev pub add_lock : Draft → List ℕ → Draft
add_lock d l = record d { locks = d.locks ++ l ∷ []; count = record { code = d.count.code; words = d.count.words; regions = d.count.regions; locks = d.count.locks + 1 } }

-- within the limits
pub record IsWithin (v : Bool) (d : Draft) : Type 0 where
  pub code : length d.code ≤ 16384
  pub words : d.count.words ≤ 65536
  pub regions : length d.regions ≤ most_regions v
  pub locks : length d.locks ≤ 32
  pub phases : d.phases ≤ 64
  pub tasks : length d.tasks ≤ 64

pub within-limits : (v : Bool) (d : Draft) → IsWithin v d → over_limit v d ≡ false
within-limits v d h =
    rw (le-ltb 16384 (length d.code) h.code, le-ltb 65536 d.count.words h.words, le-ltb (most_regions v) (length d.regions) h.regions, le-ltb 32 (length d.locks) h.locks, le-ltb 64 d.phases h.phases, le-ltb 64 (length d.tasks) h.tasks)
    refl

same-region : (name : List ℕ) (start len : ℕ) (r : Region) → name ≡ r.name → start ≡ r.start → len ≡ r.len → record { name = name; start = start; len = len } ≡ r
same-region name start len r e f g =
    ap (λ (x : List ℕ). let q : Region = record { name = x; start = start; len = len } in q) e
    ∙ ap (λ (x : ℕ). let q : Region = record { name = r.name; start = x; len = len } in q) f
    ∙ ap (λ (x : ℕ). let q : Region = record { name = r.name; start = r.start; len = x } in q) g

module _ (v : Bool) (text : List ℕ) (names : List ℕ → Option Meaning) where
  region-fault : (d : Draft) (n : ℕ) (t : Token) (r : Region) → 0 < r.len → r.len ≤ 65536 → names (bytes_of text t) ≡ Some (in_meaning.TheVariants.Region d.count.regions r.start (pos r.len))
      → draft_fault text names d (record { line = n; label = None; statement = region_statement t r }) ≡ None
  region-fault d n t r l m e =
      ap (λ (b : Bool). cond (not b) (Some (fault.TheVariants.OutOfRange n)) (cond (region_doubled (names (bytes_of text t)) d.count.regions) (Some (fault.TheVariants.DoubleName n)) None)) (length-pos r.len l m)
      ∙ ap (λ (o : Option Meaning). cond (region_doubled o d.count.regions) (Some (fault.TheVariants.DoubleName n)) None) e
      ∙ ap (λ (b : Bool). cond (not b) (Some (fault.TheVariants.DoubleName n)) None) (same-number d.count.regions)

  after-region : (d : Draft) (t : Token) (r : Region) → bytes_of text t ≡ r.name → d.count.words ≡ r.start → 0 < r.len → r.start + r.len ≤ 65536 → d.count.regions ≤ 4096 → draft_after text names d (region_statement t r) ≡ add_region d r
  after-region d t r e f l m few =
      let w : wrapped (pos r.len) ≡ r.len = wrapped-pos r.len (omega arith) in
      let long : region_words (pos r.len) ≡ r.len = ap (λ (b : Bool). cond b r.len 0) (length-pos r.len l (omega arith)) in
      let words : more d.count.words (region_words (pos r.len)) ≡ d.count.words + r.len = ap (more d.count.words) long ∙ (let s : min (d.count.words + r.len) (2 ^ 32 - 1) ≡ d.count.words + r.len = omega arith in s) in
      let count : more d.count.regions 1 ≡ d.count.regions + 1 = (let s : min (d.count.regions + 1) (2 ^ 32 - 1) ≡ d.count.regions + 1 = omega arith in s) in
      ap (λ (q : Region). record d { regions = d.regions ++ q ∷ []; count = record { code = d.count.code; words = more d.count.words (region_words (pos r.len)); regions = more d.count.regions 1; locks = d.count.locks } })
      (same-region (bytes_of text t) d.count.words (wrapped (pos r.len)) r e f w)
      ∙ ap (λ (x : ℕ). record d { regions = d.regions ++ r ∷ []; count = record { code = d.count.code; words = x; regions = more d.count.regions 1; locks = d.count.locks } }) words
      ∙ ap (λ (x : ℕ). record d { regions = d.regions ++ r ∷ []; count = record { code = d.count.code; words = d.count.words + r.len; regions = x; locks = d.count.locks } }) count

  -- one region more
  pub total-region : (d : Draft) (n : ℕ) (t : Token) (r : Region) (rs : List Reading) → bytes_of text t ≡ r.name → d.count.words ≡ r.start → 0 < r.len → r.start + r.len ≤ 65536 → d.count.regions ≤ 4096
      → names r.name ≡ Some (in_meaning.TheVariants.Region d.count.regions r.start (pos r.len)) → IsWithin v (add_region d r)
      → total v text names d (sayings n (region_statement t r ∷ []) ++ rs) ≡ total v text names (add_region d r) rs
  total-region d n t r rs e f l m few g w =
      let a = after-region d t r e f l m few in
      let found : names (bytes_of text t) ≡ Some (in_meaning.TheVariants.Region d.count.regions r.start (pos r.len)) = ap names e ∙ g in
      total-more v text names d (record { line = n; label = None; statement = region_statement t r }) rs (region-fault d n t r l (omega arith) found) (ap (over_limit v) a ∙ within-limits v (add_region d r) w)
      ∙ ap (λ (x : Draft). total v text names x rs) a

  lock-fault : (d : Draft) (n : ℕ) (t : Token) → names (bytes_of text t) ≡ Some (in_meaning.TheVariants.Lock d.count.locks) → draft_fault text names d (record { line = n; label = None; statement = in_statement.TheVariants.Lock t }) ≡ None
  lock-fault d n t e =
      ap (λ (o : Option Meaning). cond (lock_doubled o d.count.locks) (Some (fault.TheVariants.DoubleName n)) None) e
      ∙ ap (λ (b : Bool). cond (not b) (Some (fault.TheVariants.DoubleName n)) None) (same-number d.count.locks)

  after-lock : (d : Draft) (t : Token) (l : List ℕ) → bytes_of text t ≡ l → d.count.locks ≤ 32 → draft_after text names d (in_statement.TheVariants.Lock t) ≡ add_lock d l
  after-lock d t l e few =
      let count : more d.count.locks 1 ≡ d.count.locks + 1 = (let s : min (d.count.locks + 1) (2 ^ 32 - 1) ≡ d.count.locks + 1 = omega arith in s) in
      ap (λ (x : List ℕ). record d { locks = d.locks ++ x ∷ []; count = record { code = d.count.code; words = d.count.words; regions = d.count.regions; locks = more d.count.locks 1 } }) e
      ∙ ap (λ (x : ℕ). record d { locks = d.locks ++ l ∷ []; count = record { code = d.count.code; words = d.count.words; regions = d.count.regions; locks = x } }) count

  -- one lock more
  pub total-lock : (d : Draft) (n : ℕ) (t : Token) (l : List ℕ) (rs : List Reading) → bytes_of text t ≡ l → d.count.locks ≤ 32 → names l ≡ Some (in_meaning.TheVariants.Lock d.count.locks) → IsWithin v (add_lock d l)
      → total v text names d (sayings n (in_statement.TheVariants.Lock t ∷ []) ++ rs) ≡ total v text names (add_lock d l) rs
  total-lock d n t l rs e few g w =
      let a = after-lock d t l e few in
      let found : names (bytes_of text t) ≡ Some (in_meaning.TheVariants.Lock d.count.locks) = ap names e ∙ g in
      total-more v text names d (record { line = n; label = None; statement = in_statement.TheVariants.Lock t }) rs (lock-fault d n t found) (ap (over_limit v) a ∙ within-limits v (add_lock d l) w)
      ∙ ap (λ (x : Draft). total v text names x rs) a

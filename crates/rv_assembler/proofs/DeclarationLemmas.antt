-- The names that the assembler gathers line by line mean what the first lines that declare them say.
use Rattle.std.proofs.Common.{◌≡◌, ℕ, ◌+◌, ◌-◌, ◌^◌, ◌≤◌, min, Bool, true, false, cond, List, [], ◌∷◌, ◌++◌, length, Option, Some, None, option_map, find, flat_map, bytes_eq, refl, sym, ap, ◌∙◌, length-append, arith}
use Rattle.std.specs.Option.{option_or}
use Rattle.std.proofs.lemmas.List.Sums.{sum_by_push, count_by-le-length}
use Rattle.src_text.specs.declared.token.Token.{Token}
use Rattle.rv_assembler.specs.declared.statement.Statement.{Statement}
use Rattle.rv_assembler.specs.declared.statement.Statement as statement
use Rattle.rv_assembler.specs.declared.parsing.Saying.{Saying}
use Rattle.rv_assembler.specs.declared.parsing.Reading.{Reading}
use Rattle.rv_assembler.specs.declared.parsing.Reading.TheVariants.{Bad, Good}
use Rattle.rv_assembler.specs.declared.names.Meaning.{Meaning}
use Rattle.rv_assembler.specs.declared.names.Meaning as meaning
use Rattle.rv_assembler.specs.declared.names.Count.{Count}
use Rattle.rv_assembler.specs.Operand.{bytes_of}
use Rattle.rv_assembler.specs.Size.{code_word_count}
use Rattle.rv_assembler.specs.Gathering.{more, no_count, count_behind, label_of_means, name_means, meaning_in}
use Rattle.rv_assembler.specs.Placed.{placed_behind}
use Rattle.rv_assembler.specs.Counts.{region_words, code_size, data_size, is_region, is_lock, code_words, data_words, regions_in, locks_in}
use Rattle.rv_assembler.specs.Declarations.{Declaration, label_by, named_by, declared_at, meaning_among, meaning_of}
use Rattle.rv_assembler.specs.Source.{sayings}
use Rattle.rv_assembler.proofs.TableLemmas.{tally, place, code-bound, data-bound, sum-same}

pub found-append : (ds es : List Declaration) (q : List ℕ) → meaning_among (ds ++ es) q ≡ option_or (meaning_among ds q) (meaning_among es q)
found-append [] es q = refl
found-append (d ∷ ds) es q = step (found-append ds es q) (bytes_eq d.name q)
  where
    step : meaning_among (ds ++ es) q ≡ option_or (meaning_among ds q) (meaning_among es q) → (b : Bool) → option_map (λ (d : Declaration). d.meaning) (cond b (Some d) (find (λ (d : Declaration). bytes_eq d.name q) (ds ++ es)))
        ≡ option_or (option_map (λ (d : Declaration). d.meaning) (cond b (Some d) (find (λ (d : Declaration). bytes_eq d.name q) ds))) (meaning_among es q)
    step rest true = refl
    step rest false = rest

pub found-one : (d : Declaration) (q : List ℕ) → meaning_among (d ∷ []) q ≡ cond (bytes_eq d.name q) (Some d.meaning) None
found-one d q = step (bytes_eq d.name q)
  where
    step : (b : Bool) → option_map (λ (d : Declaration). d.meaning) (cond b (Some d) None) ≡ cond b (Some d.meaning) None
    step true = refl
    step false = refl

-- the assembler's counts are those of the lines before, but not above the greatest number of 32 bits
record AreCapped (before : List Saying) (c : Count) : Type 0 where
  code : c.code ≡ min (code_words before) (2 ^ 32 - 1)
  words : c.words ≡ min (data_words before) (2 ^ 32 - 1)
  regions : c.regions ≡ min (regions_in before) (2 ^ 32 - 1)
  locks : c.locks ≡ min (locks_in before) (2 ^ 32 - 1)

none-capped : AreCapped [] no_count
none-capped = record { code = omega arith; words = omega arith; regions = omega arith; locks = omega arith }

capped-more : (sum by all : ℕ) (c : ℕ) → c ≡ min sum (2 ^ 32 - 1) → all ≡ sum + by → more c by ≡ min all (2 ^ 32 - 1)
capped-more sum by all c e f = omega arith

capped-same : (sum all : ℕ) (c : ℕ) → c ≡ min sum (2 ^ 32 - 1) → all ≡ sum → c ≡ min all (2 ^ 32 - 1)
capped-same sum all c e f = omega arith

module _ (before : List Saying) (line : ℕ) (label : Option Token) (c : Count) (h : AreCapped before c) where
  abbrev said : Statement → Saying
  said st = record { line = line; label = label; statement = st }

  abbrev Code : Statement → Type 0
  Code st = c.code ≡ min (code_words (before ++ said st ∷ [])) (2 ^ 32 - 1)

  abbrev Words : Statement → Type 0
  Words st = c.words ≡ min (data_words (before ++ said st ∷ [])) (2 ^ 32 - 1)

  abbrev Regions : Statement → Type 0
  Regions st = c.regions ≡ min (regions_in (before ++ said st ∷ [])) (2 ^ 32 - 1)

  abbrev Locks : Statement → Type 0
  Locks st = c.locks ≡ min (locks_in (before ++ said st ∷ [])) (2 ^ 32 - 1)

  code-same : (st : Statement) → code_size st ≡ 0 → Code st
  code-same st e = capped-same (code_words before) _ c.code h.code (sum-same (λ (s : Saying). code_size s.statement) before (said st) e)

  words-same : (st : Statement) → data_size st ≡ 0 → Words st
  words-same st e = capped-same (data_words before) _ c.words h.words (sum-same (λ (s : Saying). data_size s.statement) before (said st) e)

  regions-same : (st : Statement) → tally (is_region st) ≡ 0 → Regions st
  regions-same st e = capped-same (regions_in before) _ c.regions h.regions (sum-same (λ (s : Saying). tally (is_region s.statement)) before (said st) e)

  locks-same : (st : Statement) → tally (is_lock st) ≡ 0 → Locks st
  locks-same st e = capped-same (locks_in before) _ c.locks h.locks (sum-same (λ (s : Saying). tally (is_lock s.statement)) before (said st) e)

  all-same : (st : Statement) → code_size st ≡ 0 → data_size st ≡ 0 → tally (is_region st) ≡ 0 → tally (is_lock st) ≡ 0 → AreCapped (before ++ said st ∷ []) c
  all-same st a b r l = record { code = code-same st a; words = words-same st b; regions = regions-same st r; locks = locks-same st l }

  capped-after : (st : Statement) → AreCapped (before ++ said st ∷ []) (count_behind c st)
  capped-after statement.TheVariants.Nothing = all-same statement.TheVariants.Nothing refl refl refl refl
  capped-after (statement.TheVariants.Instruction k) =
      let st = statement.TheVariants.Instruction k in
      record {
        code = capped-more (code_words before) (code_word_count k) _ c.code h.code (sum_by_push (λ (s : Saying). code_size s.statement) before (said st));
        words = words-same st refl;
        regions = regions-same st refl;
        locks = locks-same st refl;
      }
  capped-after (statement.TheVariants.Region name len) =
      let st = statement.TheVariants.Region name len in
      record {
        code = code-same st refl;
        words = capped-more (data_words before) (region_words len) _ c.words h.words (sum_by_push (λ (s : Saying). data_size s.statement) before (said st));
        regions = capped-more (regions_in before) 1 _ c.regions h.regions (sum_by_push (λ (s : Saying). tally (is_region s.statement)) before (said st));
        locks = locks-same st refl;
      }
  capped-after (statement.TheVariants.Word region index value) = all-same (statement.TheVariants.Word region index value) refl refl refl refl
  capped-after (statement.TheVariants.Lock name) =
      let st = statement.TheVariants.Lock name in
      record {
        code = code-same st refl;
        words = words-same st refl;
        regions = regions-same st refl;
        locks = capped-more (locks_in before) 1 _ c.locks h.locks (sum_by_push (λ (s : Saying). tally (is_lock s.statement)) before (said st));
      }
  capped-after statement.TheVariants.Phase = all-same statement.TheVariants.Phase refl refl refl refl
  capped-after (statement.TheVariants.Tasks f) = all-same (statement.TheVariants.Tasks f) refl refl refl refl
  capped-after (statement.TheVariants.Uses e) = all-same (statement.TheVariants.Uses e) refl refl refl refl

-- what a line declares, where the counts are those of the lines before
module _ (text : List ℕ) (before : List Saying) (c : Count) (q : List ℕ) (code : c.code ≡ code_words before) (words : c.words ≡ data_words before) (regions : c.regions ≡ regions_in before) (locks : c.locks ≡ locks_in before) where
  label-same : (line : ℕ) (label : Option Token) → label_of_means text c line label q ≡ meaning_among (label_by text before line label) q
  label-same line None = refl
  label-same line (Some t) =
      ap (λ (n : ℕ). cond (bytes_eq (bytes_of text t) q) (Some (meaning.TheVariants.Label line n)) None) code
      ∙ sym (found-one (record { name = bytes_of text t; meaning = meaning.TheVariants.Label line (code_words before) }) q)

  name-same : (st : Statement) → name_means text c st q ≡ meaning_among (named_by text before st) q
  name-same statement.TheVariants.Nothing = refl
  name-same (statement.TheVariants.Instruction k) = refl
  name-same (statement.TheVariants.Region name len) =
      ap (λ (n : ℕ). cond (bytes_eq (bytes_of text name) q) (Some (meaning.TheVariants.Region n c.words len)) None) regions
      ∙ ap (λ (n : ℕ). cond (bytes_eq (bytes_of text name) q) (Some (meaning.TheVariants.Region (regions_in before) n len)) None) words
      ∙ sym (found-one (record { name = bytes_of text name; meaning = meaning.TheVariants.Region (regions_in before) (data_words before) len }) q)
  name-same (statement.TheVariants.Word region index value) = refl
  name-same (statement.TheVariants.Lock name) =
      ap (λ (n : ℕ). cond (bytes_eq (bytes_of text name) q) (Some (meaning.TheVariants.Lock n)) None) locks
      ∙ sym (found-one (record { name = bytes_of text name; meaning = meaning.TheVariants.Lock (locks_in before) }) q)
  name-same statement.TheVariants.Phase = refl
  name-same (statement.TheVariants.Tasks f) = refl
  name-same (statement.TheVariants.Uses e) = refl

  line-same : (s : Saying) → option_or (label_of_means text c s.line s.label q) (name_means text c s.statement q) ≡ meaning_among (declared_at text (place before s)) q
  line-same s =
      ap (λ (m : Option Meaning). option_or m (name_means text c s.statement q)) (label-same s.line s.label)
      ∙ ap (λ (m : Option Meaning). option_or (meaning_among (label_by text before s.line s.label) q) m) (name-same s.statement)
      ∙ sym (found-append (label_by text before s.line s.label) (named_by text before s.statement) q)

gathered-from : (text : List ℕ) (rs : List Reading) (before : List Saying) (c : Count) (q : List ℕ) → AreCapped before c → length before + length (sayings rs) ≤ 65536
    → meaning_in text c rs q ≡ meaning_among (flat_map (declared_at text) (placed_behind before (sayings rs))) q
gathered-from text [] before c q h few = refl
gathered-from text (Bad f ∷ rs) before c q h few = gathered-from text rs before c q h few
gathered-from text (Good s ∷ rs) before c q h few =
    let a = code-bound before in
    let b = data-bound before in
    let r : regions_in before ≤ length before = count_by-le-length (λ (s : Saying). is_region s.statement) before in
    let l : locks_in before ≤ length before = count_by-le-length (λ (s : Saying). is_lock s.statement) before in
    let code = h.code in
    let words = h.words in
    let regions = h.regions in
    let locks = h.locks in
    let here = line-same text before c q (omega arith) (omega arith) (omega arith) (omega arith) s in
    let longer : length (before ++ s ∷ []) ≡ length before + 1 = length-append before (s ∷ []) in
    let rest = gathered-from text rs (before ++ s ∷ []) (count_behind c s.statement) q (capped-after before s.line s.label c h s.statement) (omega arith) in
    ap (λ (m : Option Meaning). option_or m (meaning_in text (count_behind c s.statement) rs q)) here
    ∙ ap (λ (m : Option Meaning). option_or (meaning_among (declared_at text (place before s)) q) m) rest
    ∙ sym (found-append (declared_at text (place before s)) (flat_map (declared_at text) (placed_behind (before ++ s ∷ []) (sayings rs))) q)

pub gathered : (text : List ℕ) (rs : List Reading) (q : List ℕ) → length (sayings rs) ≤ 65536 → meaning_in text no_count rs q ≡ meaning_of text (sayings rs) q
gathered text rs q few = gathered-from text rs [] no_count q none-capped (omega arith)

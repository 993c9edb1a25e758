-- The lines of code give the code.
use Rattle.std.proofs.Common.{◌≡◌, ℕ, ◌+◌, ◌-◌, ◌^◌, ◌≤◌, min, Bool, false, cond, ltb, ◌||◌, List, [], ◌∷◌, ◌++◌, length, map, Option, Some, None, refl, sym, ap, ◌∙◌, append_assoc, append-nil, length-append, arith}
use Rattle.std.specs.Prelude.{Ok}
use Rattle.std.specs.List.{All}
use Rattle.std.proofs.lemmas.Bool.{le-ltb}
use Rattle.std.proofs.lemmas.List.Elements.{All-head, All-tail}
use Rattle.rv_assembler.specs.declared.fault.SourceFault as fault
use Rattle.rv_assembler.specs.declared.statement.Code.{Code}
use Rattle.rv_assembler.specs.declared.draft.Draft.{Draft}
use Rattle.rv_assembler.specs.declared.emission.Emission.{Emission}
use Rattle.rv_assembler.specs.declared.names.Meaning.{Meaning}
use Rattle.rv_assembler.specs.declared.statement.Statement.{Statement}
use Rattle.rv_assembler.specs.declared.emission.Emission as in_emission
use Rattle.rv_assembler.specs.declared.statement.Statement as in_statement
use Rattle.rv_assembler.specs.Gathering.{more}
use Rattle.rv_assembler.specs.Size.{code_word_count}
use Rattle.rv_assembler.specs.Emission.{emission, words_in}
use Rattle.rv_assembler.specs.Adding.{draft_after, total}
use Rattle.rv_assembler.specs.Fault.{is_far, is_lost, most_regions, over_limit}
use Rattle.rv_assembler.specs.Testing.{draft_fault}
use Rattle.rv_assembler.specs.Finishing.{finished_program}
use Rattle.rv_listing.proofs.MoreLines.{total-more}
use Rattle.rv_listing.specs.Instruction.{code_line}
use Rattle.rv_listing.specs.Listing.{text_of}
use Rattle.rv_listing.specs.Law.{AreCodeWords, FitsSourceLimits}
use Rattle.rv_listing.proofs.CodeLemmas.{code-gives, code-good}
use Rattle.rv_listing.proofs.ReadLemmas.{SaidFrom, sayings}

-- the statements give these words, whatever the names are and wherever they stand
abbrev pub GiveWords : List ℕ → List Code → List ℕ → Type 0
GiveWords text [] [] = Unit {0}
GiveWords text [] (w ∷ ws) = ⊥
GiveWords text (k ∷ ks) [] = ⊥
GiveWords text (k ∷ ks) (w ∷ ws) =
    ((names : List ℕ → Option Meaning) (here : ℕ) → emission text names here k ≡ in_emission.TheVariants.One w) × (code_word_count k ≡ 1) × GiveWords text ks ws

abbrev pub instructions : List Code → List Statement
instructions ks = map (λ (k : Code). in_statement.TheVariants.Instruction k) ks

abbrev pub AreShort : List (List ℕ) → Type 0
AreShort [] = Unit {0}
AreShort (l ∷ ls) = (length l ≤ 1024) × AreShort ls

pub record CodeSaid (text : List ℕ) (place : ℕ) (ws : List ℕ) : Type 0 where
  pub codes : List Code
  pub said : SaidFrom text place (map code_line ws) (instructions codes)
  pub gives : GiveWords text codes ws

pub code-said : (text before : List ℕ) (place : ℕ) (ws : List ℕ) → AreCodeWords ws → AreShort (map code_line ws) → place ≡ length before → text ≡ before ++ text_of (map code_line ws) → CodeSaid text place ws
code-said text before place [] all short s e = record { codes = []; said = tt; gives = tt }
code-said text before place (w ∷ ws) all short s e =
    let l = code_line w in
    let rest = text_of (map code_line ws) in
    let split : text ≡ before ++ (l ++ (10 ∷ rest)) = e ∙ ap (λ (x : List ℕ). before ++ x) (append_assoc l (10 ∷ []) rest) in
    let one = code-gives text before (10 ∷ rest) place s w all.0 split in
    let b = before ++ (l ++ 10 ∷ []) in
    let again : text ≡ b ++ rest = e ∙ sym (append_assoc before (l ++ 10 ∷ []) rest) in
    let long : length b ≡ length before + (length l + 1) = length-append before (l ++ 10 ∷ []) ∙ ap (λ (n : ℕ). length before + n) (length-append l (10 ∷ [])) in
    let more' = code-said text b (place + (length l + 1)) ws all.1 short.1 (omega arith) again in
    record {
      codes = one.code ∷ more'.codes;
      said = (code-good w all.0, short.0, one.said, more'.said);
      gives = (one.emits, one.size, more'.gives);
    }

-- the draft behind a code word
abbrev pub add_word : Draft → ℕ → Draft
add_word d w = record d { code = d.code ++ w ∷ []; count = record { code = d.count.code + 1; words = d.count.words; regions = d.count.regions; locks = d.count.locks } }

abbrev pub add_words : Draft → List ℕ → Draft
add_words d [] = d
add_words d (w ∷ ws) = add_words (add_word d w) ws

-- the other limits
abbrev pub other_limits : Bool → Draft → Bool
other_limits v d =
    ltb 65536 d.count.words || (ltb (most_regions v) (length d.regions) || (ltb 32 (length d.locks) || (ltb 64 d.phases || ltb 64 (length d.tasks))))

module _ (v : Bool) (text : List ℕ) (names : List ℕ → Option Meaning) where
  word-fault : (d : Draft) (n : ℕ) (k : Code) (w : ℕ) → emission text names d.count.code k ≡ in_emission.TheVariants.One w → draft_fault text names d (record { line = n; label = None; statement = in_statement.TheVariants.Instruction k }) ≡ None
  word-fault d n k w e =
      ap (λ (x : Emission). cond (is_far x) (Some (fault.TheVariants.OutOfRange n)) (cond (is_lost x) (Some (fault.TheVariants.UnknownName n)) None)) e

  after-word : (d : Draft) (k : Code) (w : ℕ) → emission text names d.count.code k ≡ in_emission.TheVariants.One w → code_word_count k ≡ 1 → d.count.code + 1 ≤ 16384 → draft_after text names d (in_statement.TheVariants.Instruction k) ≡ add_word d w
  after-word d k w e s l =
      let n : more d.count.code (code_word_count k) ≡ d.count.code + 1 = ap (λ (x : ℕ). more d.count.code x) s ∙ (let m : min (d.count.code + 1) (2 ^ 32 - 1) ≡ d.count.code + 1 = omega arith in m) in
      ap (λ (x : Emission). record d { code = d.code ++ words_in x; count = record { code = more d.count.code (code_word_count k); words = d.count.words; regions = d.count.regions; locks = d.count.locks } }) e
      ∙ ap (λ (x : ℕ). record d { code = d.code ++ w ∷ []; count = record { code = x; words = d.count.words; regions = d.count.regions; locks = d.count.locks } }) n

  pub total-code : (d : Draft) (n : ℕ) (ks : List Code) (ws : List ℕ) → GiveWords text ks ws → length d.code + length ws ≤ 16384 → d.count.code ≡ length d.code → other_limits v d ≡ false
      → total v text names d (sayings n (instructions ks)) ≡ Ok (add_words d ws)
  total-code d n [] [] g l c o = refl
  total-code d n [] (w ∷ ws) g l c o = absurd g
  total-code d n (k ∷ ks) [] g l c o = absurd g
  total-code d n (k ∷ ks) (w ∷ ws) g l c o =
      let s : Statement = in_statement.TheVariants.Instruction k in
      let e = g.0 names d.count.code in
      let long : length (d.code ++ w ∷ []) ≡ length d.code + 1 = length-append d.code (w ∷ []) in
      let a : draft_after text names d s ≡ add_word d w = after-word d k w e g.1 (omega arith) in
      let within : ltb 16384 (length (d.code ++ w ∷ [])) ≡ false = le-ltb 16384 (length (d.code ++ w ∷ [])) (omega arith) in
      let over : over_limit v (add_word d w) ≡ false = ap (λ (x : Bool). x || other_limits v d) within ∙ o in
      total-more v text names d (record { line = n; label = None; statement = s }) (sayings (n + 1) (instructions ks)) (word-fault d n k w e) (ap (over_limit v) a ∙ over)
      ∙ ap (λ (x : Draft). total v text names x (sayings (n + 1) (instructions ks))) a
      ∙ total-code (add_word d w) (n + 1) ks ws g.2 (omega arith) (omega arith) o

-- only the code is another
pub program-words : (d : Draft) (ws : List ℕ) → finished_program (add_words d ws) ≡ record (finished_program d) { code = d.code ++ ws }
program-words d [] = ap (λ (c : List ℕ). record (finished_program d) { code = c }) (sym (append-nil d.code))
program-words d (w ∷ ws) =
    program-words (add_word d w) ws ∙ ap (λ (c : List ℕ). record (finished_program d) { code = c }) (append_assoc d.code (w ∷ []) ws)

short-lines : (ls : List (List ℕ)) → All (λ (l : List ℕ). length l ≤ 1024) ls → AreShort ls
short-lines [] h = tt
short-lines (l ∷ ls) h = (All-head (λ (l : List ℕ). length l ≤ 1024) l ls h, short-lines ls (All-tail (λ (l : List ℕ). length l ≤ 1024) l ls h))

pub all-short : (ls : List (List ℕ)) → FitsSourceLimits ls → AreShort ls
all-short ls h = short-lines ls h.line

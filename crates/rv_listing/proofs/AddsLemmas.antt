-- Lines that add to a draft, one section behind another.
use Rattle.std.proofs.Common.{◌≡◌, ℕ, ◌+◌, ◌<◌, ◌≤◌, Bool, cond, ltb, List, [], ◌∷◌, ◌++◌, length, map, Option, None, refl, ap, ◌∙◌, append_assoc, length-append, arith}
use Rattle.src_text.specs.Line.{numbered}
use Rattle.src_text.specs.declared.line.Line.{Line}
use Rattle.rv_assembler.specs.declared.statement.Statement.{Statement}
use Rattle.rv_assembler.specs.declared.parsing.Reading.{Reading}
use Rattle.rv_assembler.specs.declared.names.Meaning.{Meaning}
use Rattle.rv_assembler.specs.declared.draft.Draft.{Draft}
use Rattle.rv_assembler.specs.declared.names.Count.{Count}
use Rattle.rv_assembler.specs.declared.parsing.Reading as in_reading
use Rattle.rv_assembler.specs.declared.statement.Statement as in_statement
use Rattle.rv_assembler.specs.Gathering.{meaning_in}
use Rattle.rv_assembler.specs.Reading.{reading_of, read_line}
use Rattle.rv_assembler.specs.Adding.{total}
use Rattle.rv_listing.specs.Listing.{text_of}
use Rattle.rv_listing.proofs.ReadLemmas.{SaidFrom, sayings, tokens_at, line-read, other-line}
use Rattle.rv_listing.proofs.KindLemmas.{IsSaid}
use Rattle.rv_listing.proofs.TokenLemmas.{IsGoodLine}

pub sayings-append : (n : ℕ) (ss ts : List Statement) → sayings n (ss ++ ts) ≡ sayings n ss ++ sayings (n + length ss) ts
sayings-append n [] ts = let e : n ≡ n + 0 = omega arith in ap (λ (k : ℕ). sayings k ts) e
sayings-append n (s ∷ ss) ts =
    let e : n + 1 + length ss ≡ n + length (s ∷ ss) = omega arith in
    ap (λ (rs : List Reading). in_reading.TheVariants.Good (record { line = n; label = None; statement = s }) ∷ rs) (sayings-append (n + 1) ss ts ∙ ap (λ (k : ℕ). sayings (n + 1) ss ++ sayings k ts) e)

abbrev pub size : List (List ℕ) → ℕ
size ls = length (text_of ls)

pub size-cons : (l : List ℕ) (ls : List (List ℕ)) → size (l ∷ ls) ≡ length l + 1 + size ls
size-cons l ls = length-append (l ++ 10 ∷ []) (text_of ls) ∙ ap (λ (n : ℕ). n + size ls) (length-append l (10 ∷ []))

pub said-append : (text : List ℕ) (place : ℕ) (a : List (List ℕ)) (ss : List Statement) (b : List (List ℕ)) (ts : List Statement) → SaidFrom text place a ss → SaidFrom text (place + size a) b ts → SaidFrom text place (a ++ b) (ss ++ ts)
said-append text place [] [] b ts h k = let e : place + 0 ≡ place = omega arith in rw e at k
said-append text place [] (s ∷ ss) b ts h k = absurd h
said-append text place (l ∷ a) [] b ts h k = absurd h
said-append text place (l ∷ a) (s ∷ ss) b ts h k =
    let e : place + size (l ∷ a) ≡ place + (length l + 1) + size a = (let f = size-cons l a in omega arith) in
    (h.0, h.1, h.2, said-append text (place + (length l + 1)) a ss b ts h.3 (rw e at k))

-- the first of some lines say these statements
pub front-readings : (text : List ℕ) (version number place : ℕ) (a : List (List ℕ)) (ss : List Statement) (b : List (List ℕ)) → version < number → number + length a ≤ 65537 → SaidFrom text place a ss
    → map (reading_of version text) (numbered number place (a ++ b)) ≡ sayings number ss ++ map (reading_of version text) (numbered (number + length a) (place + size a) b)
front-readings text version number place [] [] b l few h =
    let e : number ≡ number + 0 = omega arith in
    let f : place ≡ place + 0 = omega arith in
    ap (λ (n : ℕ). map (reading_of version text) (numbered n place b)) e ∙ ap (λ (n : ℕ). map (reading_of version text) (numbered (number + 0) n b)) f
front-readings text version number place [] (s ∷ ss) b l few h = absurd h
front-readings text version number place (x ∷ a) [] b l few h = absurd h
front-readings text version number place (x ∷ a) (s ∷ ss) b l few h =
    let rest = map (reading_of version text) (numbered (number + 1) (place + (length x + 1)) (a ++ b)) in
    let e : number + 1 + length a ≡ number + length (x ∷ a) = omega arith in
    let f : place + (length x + 1) + size a ≡ place + size (x ∷ a) = (let g = size-cons x a in omega arith) in
    let first : Reading = in_reading.TheVariants.Good (record { line = number; label = None; statement = s }) in
    ap (λ (y : Line). reading_of version text y ∷ rest) (line-read number place x h.0 h.1 (omega arith))
    ∙ ap (λ (b' : Bool). cond b' (in_reading.TheVariants.Good (record { line = number; label = None; statement = in_statement.TheVariants.Nothing })) (read_line (ltb 0 version) text number (tokens_at place x) None) ∷ rest) (other-line version number l)
    ∙ ap (λ (r : Reading). r ∷ rest) (h.2.read (ltb 0 version) number)
    ∙ ap (λ (rs : List Reading). first ∷ rs) (front-readings text version (number + 1) (place + (length x + 1)) a ss b (omega arith) (omega arith) h.3
    ∙ ap (λ (n : ℕ). sayings (number + 1) ss ++ map (reading_of version text) (numbered n (place + (length x + 1) + size a) b)) e
    ∙ ap (λ (n : ℕ). sayings (number + 1) ss ++ map (reading_of version text) (numbered (number + length (x ∷ a)) n b)) f)

-- lines that declare nothing, and add to a draft for which a condition holds
pub record Adds (v : Bool) (text : List ℕ) (names : List ℕ → Option Meaning) (place : ℕ) (lines : List (List ℕ)) (Pre : Draft → Type 0) (F : Draft → Draft) : Type 0 where
  pub statements : List Statement
  pub said : SaidFrom text place lines statements
  pub adds : (d : Draft) (n : ℕ) (left : List Reading) → Pre d → total v text names d (sayings n statements ++ left) ≡ total v text names (F d) left
  pub silent : (c : Count) (q : List ℕ) (n : ℕ) (left : List Reading) → meaning_in text c (sayings n statements ++ left) q ≡ meaning_in text c left q

module _ (v : Bool) (text : List ℕ) (names : List ℕ → Option Meaning) where
  pub adds-none : (place : ℕ) (Pre : Draft → Type 0) → Adds v text names place [] Pre (λ d. d)
  adds-none place Pre = record { statements = []; said = tt; adds = λ d n left h. refl; silent = λ c q n left. refl }

  pub adds-join : (place : ℕ) (a b : List (List ℕ)) (P Q : Draft → Type 0) (F G : Draft → Draft) → Adds v text names place a P F → Adds v text names (place + size a) b Q G → Adds v text names place (a ++ b) (λ d. P d × Q (F d)) (λ d. G (F d))
  adds-join place a b P Q F G x y = record {
    statements = x.statements ++ y.statements;
    said = said-append text place a x.statements b y.statements x.said y.said;
    adds = λ d n left h.
        ap (λ (rs : List Reading). total v text names d (rs ++ left)) (sayings-append n x.statements y.statements)
        ∙ ap (total v text names d) (append_assoc (sayings n x.statements) (sayings (n + length x.statements) y.statements) left)
        ∙ x.adds d n (sayings (n + length x.statements) y.statements ++ left) h.0
        ∙ y.adds (F d) (n + length x.statements) left h.1;
    silent = λ c q n left.
        ap (λ (rs : List Reading). meaning_in text c (rs ++ left) q) (sayings-append n x.statements y.statements)
        ∙ ap (λ (rs : List Reading). meaning_in text c rs q) (append_assoc (sayings n x.statements) (sayings (n + length x.statements) y.statements) left)
        ∙ x.silent c q n (sayings (n + length x.statements) y.statements ++ left)
        ∙ y.silent c q (n + length x.statements) left;
  }

  pub adds-as : (place : ℕ) (a : List (List ℕ)) (P Q : Draft → Type 0) (F G : Draft → Draft) → Adds v text names place a P F → ((d : Draft) → Q d → P d) → ((d : Draft) → F d ≡ G d) → Adds v text names place a Q G
  adds-as place a P Q F G x f g = record {
    statements = x.statements;
    said = x.said;
    adds = λ d n left h. x.adds d n left (f d h) ∙ ap (λ (y : Draft). total v text names y left) (g d);
    silent = x.silent;
  }

  pub adds-one : (place : ℕ) (line : List ℕ) (s : Statement) (P : Draft → Type 0) (F : Draft → Draft) → IsGoodLine line → length line ≤ 1024 → IsSaid text (tokens_at place line) s
      → ((d : Draft) (n : ℕ) (left : List Reading) → P d → total v text names d (sayings n (s ∷ []) ++ left) ≡ total v text names (F d) left)
      → ((c : Count) (q : List ℕ) (n : ℕ) (left : List Reading) → meaning_in text c (sayings n (s ∷ []) ++ left) q ≡ meaning_in text c left q) → Adds v text names place (line ∷ []) P F
  adds-one place line s P F good short said a b = record { statements = s ∷ []; said = (good, short, said, tt); adds = a; silent = b }

-- From the lines of a listing to what they say.
use Rattle.std.proofs.Common.{◌≡◌, ℕ, ◌+◌, ◌<◌, ◌≤◌, Bool, false, cond, eqb, ltb, ◌||◌, List, [], ◌∷◌, length, map, Some, None, refl, ap, ◌∙◌, arith}
use Rattle.std.specs.List.{filter_map, list_any}
use Rattle.std.proofs.lemmas.Bool.{le-ltb}
use Rattle.std.proofs.lemmas.Bool.Decides.{nat_tests}
use Rattle.src_text.specs.Byte.{is_bad}
use Rattle.src_text.specs.Lexeme.{lexemes_after, lexemes_of, token_of, is_bad_number}
use Rattle.src_text.specs.Line.{fault_of, is_over_limit, line_of, line_with, numbered}
use Rattle.src_text.specs.declared.line.Line.{Line}
use Rattle.src_text.specs.declared.line.LineFault.TheVariants.{BadByte, BadNumber, LineLimit}
use Rattle.src_text.specs.declared.token.Token.{Token}
use Rattle.rv_assembler.specs.declared.parsing.Reading.{Reading}
use Rattle.rv_assembler.specs.declared.statement.Statement.{Statement}
use Rattle.rv_assembler.specs.declared.parsing.Reading as in_reading
use Rattle.rv_assembler.specs.declared.statement.Statement as in_statement
use Rattle.rv_assembler.specs.Reading.{read_line, reading_of, is_version_of, version_line}
use Rattle.rv_listing.proofs.LexLemmas.{code-plain, none-bad}
use Rattle.rv_listing.proofs.TokenLemmas.{IsGoodLine}
use Rattle.rv_listing.proofs.KindLemmas.{IsSaid}

-- a good line within the limits has its tokens
abbrev pub tokens_at : ℕ → List ℕ → List Token
tokens_at place l = filter_map token_of (lexemes_after 32 place l)

abbrev pub read_at : ℕ → ℕ → List ℕ → Line
read_at number place l = record { number = number; tokens = tokens_at place l; fault = None }

no-fault : (number : ℕ) (l : List ℕ) → IsGoodLine l → length l ≤ 1024 → number ≤ 65536 → fault_of number l ≡ None
no-fault number l g short few =
    let a : ltb 1024 (length l) ≡ false = le-ltb 1024 (length l) short in
    let b : ltb 65536 number ≡ false = le-ltb 65536 number few in
    let over : is_over_limit number l ≡ false = ap (λ (x : Bool). x || ltb 65536 number) a ∙ b in
    ap (λ (c : List ℕ). cond (list_any is_bad c) (Some BadByte) (cond (list_any is_bad_number (lexemes_after 32 0 c)) (Some BadNumber) (cond (is_over_limit number l) (Some LineLimit) None))) (code-plain l g.plain)
    ∙ ap (λ (x : Bool). cond x (Some BadByte) (cond (list_any is_bad_number (lexemes_after 32 0 l)) (Some BadNumber) (cond (is_over_limit number l) (Some LineLimit) None))) (none-bad l g.plain)
    ∙ ap (λ (x : Bool). cond x (Some BadNumber) (cond (is_over_limit number l) (Some LineLimit) None)) g.numbers
    ∙ ap (λ (x : Bool). cond x (Some LineLimit) None) over

pub line-read : (number place : ℕ) (l : List ℕ) → IsGoodLine l → length l ≤ 1024 → number ≤ 65536 → line_of number place l ≡ read_at number place l
line-read number place l g short few =
    ap (line_with number (filter_map token_of (lexemes_of place l))) (no-fault number l g short few)
    ∙ ap (λ (c : List ℕ). record { number = number; tokens = filter_map token_of (lexemes_after 32 place c); fault = None }) (code-plain l g.plain)

-- lines from a place of the text on say these statements
abbrev pub SaidFrom : List ℕ → ℕ → List (List ℕ) → List Statement → Type 0
SaidFrom text place [] [] = Unit {0}
SaidFrom text place [] (s ∷ ss) = ⊥
SaidFrom text place (l ∷ ls) [] = ⊥
SaidFrom text place (l ∷ ls) (s ∷ ss) =
    IsGoodLine l × (length l ≤ 1024) × IsSaid text (tokens_at place l) s × SaidFrom text (place + (length l + 1)) ls ss

abbrev pub sayings : ℕ → List Statement → List Reading
sayings number [] = []
sayings number (s ∷ ss) = in_reading.TheVariants.Good (record { line = number; label = None; statement = s }) ∷ sayings (number + 1) ss

pub other-line : (version number : ℕ) → version < number → eqb number version ≡ false
other-line version number l = grind (arith, nat_tests)

pub said-readings : (text : List ℕ) (version number place : ℕ) (ls : List (List ℕ)) (ss : List Statement) → version < number → number + length ls ≤ 65537 → SaidFrom text place ls ss
    → map (reading_of version text) (numbered number place ls) ≡ sayings number ss
said-readings text version number place [] [] l few h = refl
said-readings text version number place [] (s ∷ ss) l few h = absurd h
said-readings text version number place (x ∷ ls) [] l few h = absurd h
said-readings text version number place (x ∷ ls) (s ∷ ss) l few h =
    let rest = map (reading_of version text) (numbered (number + 1) (place + (length x + 1)) ls) in
    let v = ltb 0 version in
    ap (λ (y : Line). reading_of version text y ∷ rest) (line-read number place x h.0 h.1 (omega arith))
    ∙ ap (λ (b : Bool). cond b (in_reading.TheVariants.Good (record { line = number; label = None; statement = in_statement.TheVariants.Nothing })) (read_line v text number (tokens_at place x) None) ∷ rest) (other-line version number l)
    ∙ ap (λ (r : Reading). r ∷ rest) (h.2.read v number)
    ∙ ap (λ (rs : List Reading). in_reading.TheVariants.Good (record { line = number; label = None; statement = s }) ∷ rs) (said-readings text version (number + 1) (place + (length x + 1)) ls ss (omega arith) (omega arith) h.3)

pub no-version-line : (text : List ℕ) (ls : List (List ℕ)) (ss : List Statement) → SaidFrom text 0 ls ss → version_line text (numbered 1 0 ls) ≡ 0
no-version-line text [] ss h = refl
no-version-line text (x ∷ ls) [] h = absurd h
no-version-line text (x ∷ ls) (s ∷ ss) h =
    let rest = numbered (1 + 1) (0 + (length x + 1)) ls in
    ap (λ (y : Line). version_line text (y ∷ rest)) (line-read 1 0 x h.0 h.1 (omega arith))
    ∙ ap (λ (b : Bool). cond b (version_line text rest) (cond (is_version_of text (tokens_at 0 x)) 1 0)) h.2.some
    ∙ ap (λ (b : Bool). cond b 1 0) h.2.version

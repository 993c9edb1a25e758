-- A text has at most 65,536 lines of good form.
use Rattle.std.proofs.Common.{◌≡◌, ℕ, ◌+◌, ◌-◌, ◌<◌, ◌≤◌, Bool, true, false, cond, nat_eq, nat_lt, ◌||◌, List, [], ◌∷◌, map, length, Option, Some, None, refl, sym, ap, ◌∙◌, ⊎_elim, arith, lt-ltb}
use Rattle.std.specs.List.{filter_map, cons_option, list_any}
use Rattle.std.proofs.lemmas.Bool.{cond_both, cases_lt}
use Rattle.std.proofs.lemmas.Bool.Decides.{nat_tests}
use Rattle.src_text.specs.Byte.{is_bad}
use Rattle.src_text.specs.Lexeme.{before_comment, lexemes_of, is_bad_number, token_of}
use Rattle.src_text.specs.Line as line_of_text
use Rattle.src_text.specs.Line.{cut, line_with, line_of, is_over_limit, numbered, lines_of}
use Rattle.src_text.specs.declared.line.Line.{Line}
use Rattle.src_text.specs.declared.line.LineFault.{LineFault}
use Rattle.src_text.specs.declared.token.Token.{Token}
use Rattle.rv_assembler.specs.declared.statement.Statement as statement
use Rattle.rv_assembler.specs.declared.parsing.Saying.{Saying}
use Rattle.rv_assembler.specs.declared.parsing.Reading.TheVariants.{Bad, Good}
use Rattle.rv_assembler.specs.Reading.{fault_of_line, reading_of, is_version, is_blank_line, version_line}
use Rattle.rv_assembler.specs.Source.{good, sayings}

-- a line of a number above 65,536 has a fault, and no tokens
third : (a b c : Bool) (x y z : LineFault) → c ≡ true → (f : LineFault) × (cond a (Some x) (cond b (Some y) (cond c (Some z) None)) ≡ Some f)
third true b c x y z e = (x, refl)
third false true c x y z e = (y, refl)
third false false true x y z e = (z, refl)
third false false false x y z e = absurd cc

right : (a b : Bool) → b ≡ true → (a || b) ≡ true
right true b e = refl
right false b e = e

abbrev bad_line : ℕ → LineFault → Line
bad_line number f = record { number = number; tokens = []; fault = Some f }

late : (number place : ℕ) (l : List ℕ) → 65536 < number → (f : LineFault) × (line_of number place l ≡ bad_line number f)
late number place l h =
    let over : is_over_limit number l ≡ true = right (nat_lt 1024 (length l)) (nat_lt 65536 number) (lt-ltb 65536 number h) in
    let found = third (list_any is_bad (before_comment l)) (list_any is_bad_number (lexemes_of 0 l)) (is_over_limit number l) _ _ _ over in
    (found.0, ap (λ (o : Option LineFault). line_with number (filter_map token_of (lexemes_of place l)) o) found.1)

pub number-of : (number : ℕ) (ts : List Token) (o : Option LineFault) → (line_with number ts o).number ≡ number
number-of number ts None = refl
number-of number ts (Some f) = refl

-- the version line is one of the first 65,536
version-of_line : (text : List ℕ) (number place : ℕ) (l : List ℕ) → is_version text (line_of number place l) ≡ true → (line_of number place l).number ≤ 65536
version-of_line text number place l e =
    ⊎_elim
    (λ (h : 65536 < number).
    let found = late number place l h in
    let no : false ≡ true = sym (ap (λ (x : Line). is_version text x) found.1) ∙ e in
    absurd cc)
    (λ (h : number ≤ 65536). let n = number-of number (filter_map token_of (lexemes_of place l)) (line_of_text.fault_of number l) in omega arith)
    (cases_lt 65536 number)

pub version-bound : (text : List ℕ) (number place : ℕ) (ls : List (List ℕ)) → version_line text (numbered number place ls) ≤ 65536
version-bound text number place [] = omega arith
version-bound text number place (l ∷ ls) =
    let line = line_of number place l in
    let rest = numbered (number + 1) (place + (length l + 1)) ls in
    cond_both (is_blank_line line) (version_line text rest) (cond (is_version text line) line.number 0) (λ (n : ℕ). n ≤ 65536)
    (λ e. version-bound text (number + 1) (place + (length l + 1)) ls)
    (λ e. cond_both (is_version text line) line.number 0 (λ (n : ℕ). n ≤ 65536) (version-of_line text number place l) (λ f. omega arith))

-- so a line of a greater number says nothing
late-bad : (version : ℕ) (text : List ℕ) (number place : ℕ) (l : List ℕ) → version ≤ 65536 → 65536 < number → good (reading_of version text (line_of number place l)) ≡ None
late-bad version text number place l v h =
    let found = late number place l h in
    let other : nat_eq number version ≡ false = grind (arith, nat_tests) in
    ap (λ (x : Line). good (reading_of version text x)) found.1
    ∙ ap (λ (b : Bool). good (cond b (Good (record { line = number; label = None; statement = statement.TheVariants.Nothing })) (Bad (fault_of_line number found.0)))) other

longer : (o : Option Saying) (ss : List Saying) → length (cons_option o ss) ≤ 1 + length ss
longer None ss = omega arith
longer (Some s) ss = omega arith

few-from : (version : ℕ) (text : List ℕ) (number place : ℕ) (ls : List (List ℕ)) → version ≤ 65536 → length (sayings (map (reading_of version text) (numbered number place ls))) ≤ 65537 - number
few-from version text number place [] v = omega arith
few-from version text number place (l ∷ ls) v =
    let rest = sayings (map (reading_of version text) (numbered (number + 1) (place + (length l + 1)) ls)) in
    let o = good (reading_of version text (line_of number place l)) in
    let h : length rest ≤ 65537 - (number + 1) = few-from version text (number + 1) (place + (length l + 1)) ls v in
    let more = longer o rest in
    ⊎_elim
    (λ (g : 65536 < number).
    let none : length (cons_option o rest) ≡ length rest = ap (λ (x : Option Saying). length (cons_option x rest)) (late-bad version text number place l v g) in
    omega arith)
    (λ (g : number ≤ 65536). omega arith)
    (cases_lt 65536 number)

-- the lines of good form of a text
pub few-lines : (text : List ℕ) → length (sayings (map (reading_of (version_line text (lines_of text)) text) (lines_of text))) ≤ 65536
few-lines text = few-from (version_line text (lines_of text)) text 1 0 (cut text) (version-bound text 1 0 (cut text))

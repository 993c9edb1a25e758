-- The lines of a text.
use Rattle.std.proofs.Common.{◌≡◌, ℕ, suc, ◌+◌, ◌<◌, Bool, true, false, not, cond, List, [], ◌∷◌, length, drop, take, Some, None, refl, ◌∙◌, ap, arith}
use Rattle.std.specs.List.{before_first, position_or_len, list_any}
use Rattle.src_text.specs.Byte.{is_newline, is_bad}
use Rattle.src_text.specs.Lexeme.{before_comment, lexemes_of, is_bad_number}
use Rattle.std.proofs.lemmas.List.{drop-drop, length-drop}
use Rattle.src_text.specs.Line.{cut, numbered, onto_first, fault_of, line_of, is_over_limit}
use Rattle.src_text.specs.declared.line.LineFault.TheVariants.{BadNumber, LineLimit}
use Rattle.src_text.proofs.LexemeLemmas.{bad_number_anywhere}

-- the first line of bytes, of which the first n stand before a newline
FirstIs : ℕ → List ℕ → Type 0
FirstIs n bs = cut bs ≡ take n bs ∷ cut (drop (length (take n bs) + 1) bs)

cut_one : (b : ℕ) (c : Bool) → cond c ([] ∷ []) ((b ∷ []) ∷ []) ≡ take (cond (not c) (1 + 0) 0) (b ∷ []) ∷ cut (drop (length (take (cond (not c) (1 + 0) 0) (b ∷ [])) + 1) (b ∷ []))
cut_one b true = refl
cut_one b false = refl

cut_more : (b : ℕ) (c : Bool) (rest : List ℕ) (n : ℕ) → cut rest ≡ take n rest ∷ cut (drop (length (take n rest) + 1) rest) → cond c ([] ∷ cut rest) (onto_first b (cut rest)) ≡ take (cond (not c) (1 + n) 0) (b ∷ rest) ∷ cut (drop (length (take (cond (not c) (1 + n) 0) (b ∷ rest)) + 1) (b ∷ rest))
cut_more b true rest n first = refl
cut_more b false rest n first =
    let one : 1 + n ≡ suc n = omega arith in
    let more : suc (length (take n rest)) + 1 ≡ suc (length (take n rest) + 1) = omega arith in
    rw one (rw more (ap (onto_first b) first))

-- a text that has a byte is its first line and the lines behind that line's newline
pub cut-first : (bs : List ℕ) → 0 < length bs → cut bs ≡ before_first is_newline bs ∷ cut (drop (length (before_first is_newline bs) + 1) bs)
cut-first [] some = absurd (omega arith)
cut-first (b ∷ []) some = cut_one b (is_newline b)
cut-first (b ∷ c ∷ bs) some = cut_more b (is_newline b) (c ∷ bs) (position_or_len is_newline (c ∷ bs)) (cut-first (c ∷ bs) (omega arith))

-- the three faults, each where none before it is
pub fault-bad_number : (number place : ℕ) (line : List ℕ) → list_any is_bad (before_comment line) ≡ false → list_any is_bad_number (lexemes_of place line) ≡ true → fault_of number line ≡ Some BadNumber
fault-bad_number number place line bytes numbers = let here = bad_number_anywhere 32 0 place (before_comment line) ∙ numbers in rw bytes (rw here refl)

pub fault-limit : (number place : ℕ) (line : List ℕ) → list_any is_bad (before_comment line) ≡ false → list_any is_bad_number (lexemes_of place line) ≡ false → is_over_limit number line ≡ true → fault_of number line ≡ Some LineLimit
fault-limit number place line bytes numbers limit = let here = bad_number_anywhere 32 0 place (before_comment line) ∙ numbers in rw bytes (rw here (rw limit refl))

pub no_fault : (number place : ℕ) (line : List ℕ) → list_any is_bad (before_comment line) ≡ false → list_any is_bad_number (lexemes_of place line) ≡ false → is_over_limit number line ≡ false → fault_of number line ≡ None
no_fault number place line bytes numbers limit = let here = bad_number_anywhere 32 0 place (before_comment line) ∙ numbers in rw bytes (rw here (rw limit refl))

-- the lines from the start of one on
pub numbered_more : (number start : ℕ) (text line : List ℕ) → start < length text → line ≡ before_first is_newline (drop start text) → numbered number start (cut (drop start text)) ≡ line_of number start line ∷ numbered (number + 1) (start + (length line + 1)) (cut (drop (start + (length line + 1)) text))
numbered_more number start text line here is =
    let some : 0 < length (drop start text) = omega (arith, length-drop start text) in
    let first : cut (drop start text) ≡ line ∷ cut (drop (length line + 1) (drop start text)) = rw is (cut-first (drop start text) some) in
    let rest : drop (length line + 1) (drop start text) ≡ drop (start + (length line + 1)) text = drop-drop (length line + 1) start text in
    ap (numbered number start) (first ∙ ap (λ (w : List ℕ). line ∷ cut w) rest)

-- The lexemes of a listed line.
use Rattle.std.proofs.Common.{◌≡◌, ℕ, ◌+◌, Bool, true, false, not, cond, ◌||◌, ◌&&◌, List, [], ◌∷◌, ◌++◌, length, refl, sym, ap, ◌∙◌, append_assoc, arith}
use Rattle.std.specs.List.{take_while, list_any}
use Rattle.std.proofs.lemmas.Bool.Decides.{nat_tests}
use Rattle.std.proofs.lemmas.List.Sums.{take_while-cons}
use Rattle.src_text.specs.Byte.{is_newline, is_blank, is_hash, is_word, is_mark, is_minus, is_bad}
use Rattle.src_text.specs.Lexeme.{Lexeme, continues_token, begins_token, front, before_comment, lexemes_after}
use Rattle.src_text.specs.Line.{cut, onto_first}
use Rattle.src_text.proofs.ByteLemmas.{no_mark, no_minus}
use Rattle.rv_listing.specs.Listing.{text_of}

-- every byte goes on with a word
abbrev pub AreWords : List ℕ → Type 0
AreWords [] = Unit {0}
AreWords (b ∷ bs) = (is_word b ≡ true) × AreWords bs

-- the bytes are a name or a number, one token
abbrev pub IsWordToken : List ℕ → Type 0
IsWordToken [] = ⊥
IsWordToken (b ∷ bs) = (continues_token b ≡ true) × AreWords bs

-- no word and no number goes on with what follows
abbrev pub Stops : List ℕ → Type 0
Stops [] = Unit {0}
Stops (b ∷ bs) = (is_word b ≡ false) × (is_minus b ≡ false)

pub AreWords-append : (a b : List ℕ) → AreWords a → AreWords b → AreWords (a ++ b)
AreWords-append [] b h k = k
AreWords-append (x ∷ a) b h k = (h.0, AreWords-append a b h.1 k)

pub word_goes_on : (b : ℕ) → is_word b ≡ true → continues_token b ≡ true
word_goes_on b h = ap (λ (w : Bool). w || is_minus b) h

minus_no_mark : (b : ℕ) → is_minus b ≡ true → is_mark b ≡ false
minus_no_mark b h = grind (arith, nat_tests)

either_no_mark : (w n m : Bool) → (w ≡ true → m ≡ false) → (n ≡ true → m ≡ false) → (w || n) ≡ true → m ≡ false
either_no_mark true n m f g h = f refl
either_no_mark false n m f g h = g h

no_mark_goes_on : (b : ℕ) → continues_token b ≡ true → is_mark b ≡ false
no_mark_goes_on b h = either_no_mark (is_word b) (is_minus b) (is_mark b) (no_mark b) (minus_no_mark b) h

-- where nothing goes on it doesn't matter what stands before
abbrev pub lexeme_here : ℕ → ℕ → List ℕ → Bool → List Lexeme
lexeme_here place b bs c = cond c (record { start = place; bytes = front (b ∷ bs) } ∷ []) []

begins-stop : (before b : ℕ) → is_word b ≡ false → begins_token before b ≡ begins_token 32 b
begins-stop before b h =
    ap (λ (w : Bool). is_mark b || is_minus b || (w && not (continues_token before))) h
    ∙ sym (ap (λ (w : Bool). is_mark b || is_minus b || (w && not (continues_token 32))) h)

pub lexemes-stop : (before place : ℕ) (bs : List ℕ) → Stops bs → lexemes_after before place bs ≡ lexemes_after 32 place bs
lexemes-stop before place [] h = refl
lexemes-stop before place (b ∷ bs) h =
    ap (λ (c : Bool). lexeme_here place b bs c ++ lexemes_after b (place + 1) bs) (begins-stop before b h.0)

begins-apart : (before b : ℕ) → continues_token before ≡ false → begins_token before b ≡ begins_token 32 b
begins-apart before b h = ap (λ (g : Bool). is_mark b || is_minus b || (is_word b && not g)) h

pub lexemes-apart : (before place : ℕ) (bs : List ℕ) → continues_token before ≡ false → lexemes_after before place bs ≡ lexemes_after 32 place bs
lexemes-apart before place [] h = refl
lexemes-apart before place (b ∷ bs) h =
    ap (λ (c : Bool). lexeme_here place b bs c ++ lexemes_after b (place + 1) bs) (begins-apart before b h)

none-begins : (m n w g : Bool) → m ≡ false → n ≡ false → g ≡ true → (m || n || (w && not g)) ≡ false
none-begins m n true g a b c = rw (a, b, c) refl
none-begins m n false g a b c = rw (a, b) refl

within-word : (before b : ℕ) → continues_token before ≡ true → is_word b ≡ true → begins_token before b ≡ false
within-word before b g h = none-begins (is_mark b) (is_minus b) (is_word b) (continues_token before) (no_mark b h) (no_minus b h) g

-- the bytes of a word behind its first have no lexeme of their own
pub lexemes-word : (before place : ℕ) (word rest : List ℕ) → continues_token before ≡ true → AreWords word → Stops rest
    → lexemes_after before place (word ++ rest) ≡ lexemes_after 32 (place + length word) rest
lexemes-word before place [] rest g h s =
    let e : place ≡ place + 0 = omega arith in
    lexemes-stop before place rest s ∙ ap (λ (p : ℕ). lexemes_after 32 p rest) e
lexemes-word before place (b ∷ word) rest g h s =
    let e : place + 1 + length word ≡ place + length (b ∷ word) = omega arith in
    ap (λ (c : Bool). lexeme_here place b (word ++ rest) c ++ lexemes_after b (place + 1) (word ++ rest)) (within-word before b g h.0)
    ∙ lexemes-word b (place + 1) word rest (word_goes_on b h.0) h.1 s
    ∙ ap (λ (p : ℕ). lexemes_after 32 p rest) e

take-stop : (rest : List ℕ) → Stops rest → take_while is_word rest ≡ []
take-stop [] s = refl
take-stop (b ∷ bs) s = take_while-cons is_word b bs ∙ ap (λ (c : Bool). cond c (b ∷ take_while is_word bs) []) s.0

pub take-word : (word rest : List ℕ) → AreWords word → Stops rest → take_while is_word (word ++ rest) ≡ word
take-word [] rest h s = take-stop rest s
take-word (b ∷ word) rest h s =
    take_while-cons is_word b (word ++ rest)
    ∙ ap (λ (c : Bool). cond c (b ∷ take_while is_word (word ++ rest)) []) h.0
    ∙ ap (λ (w : List ℕ). b ∷ w) (take-word word rest h.1 s)

front-word : (b : ℕ) (word rest : List ℕ) → continues_token b ≡ true → AreWords word → Stops rest → front (b ∷ (word ++ rest)) ≡ b ∷ word
front-word b word rest g h s =
    ap (λ (c : Bool). cond c (b ∷ []) (b ∷ take_while is_word (word ++ rest))) (no_mark_goes_on b g)
    ∙ ap (λ (w : List ℕ). b ∷ w) (take-word word rest h s)

some-begins : (m n w : Bool) → (w || n) ≡ true → (m || n || (w && true)) ≡ true
some-begins true n w h = refl
some-begins false true w h = refl
some-begins false false true h = refl
some-begins false false false h = absurd cc

-- a name or a number behind a blank is one lexeme
pub lexemes-token : (place : ℕ) (token rest : List ℕ) → IsWordToken token → Stops rest
    → lexemes_after 32 place (token ++ rest) ≡ record { start = place; bytes = token } ∷ lexemes_after 32 (place + length token) rest
lexemes-token place [] rest h s = absurd h
lexemes-token place (b ∷ word) rest h s =
    let e : place + 1 + length word ≡ place + length (b ∷ word) = omega arith in
    let one : begins_token 32 b ≡ true = some-begins (is_mark b) (is_minus b) (is_word b) h.0 in
    ap (λ (c : Bool). lexeme_here place b (word ++ rest) c ++ lexemes_after b (place + 1) (word ++ rest)) one
    ∙ ap (λ (w : List ℕ). record { start = place; bytes = w } ∷ lexemes_after b (place + 1) (word ++ rest)) (front-word b word rest h.0 h.1 s)
    ∙ ap (λ (ls : List Lexeme). record { start = place; bytes = b ∷ word } ∷ ls)
    (lexemes-word b (place + 1) word rest h.0 h.1 s ∙ ap (λ (p : ℕ). lexemes_after 32 p rest) e)

-- the bytes of listed lines: they end no line, begin no comment, and may stand outside one
abbrev pub ArePlain : List ℕ → Type 0
ArePlain [] = Unit {0}
ArePlain (b ∷ bs) = (is_newline b ≡ false) × (is_hash b ≡ false) × (is_bad b ≡ false) × ArePlain bs

pub ArePlain-append : (a b : List ℕ) → ArePlain a → ArePlain b → ArePlain (a ++ b)
ArePlain-append [] b h k = k
ArePlain-append (x ∷ a) b h k = (h.0, h.1, h.2, ArePlain-append a b h.3 k)

word_no_newline : (b : ℕ) → is_word b ≡ true → is_newline b ≡ false
word_no_newline b h = grind (arith, nat_tests)

word_no_hash : (b : ℕ) → is_word b ≡ true → is_hash b ≡ false
word_no_hash b h = grind (arith, nat_tests)

good : (k w m n : Bool) → w ≡ true → not (k || (w || m || n)) ≡ false
good true w m n h = refl
good false w m n h = rw h refl

word_no_bad : (b : ℕ) → is_word b ≡ true → is_bad b ≡ false
word_no_bad b h = good (is_blank b) (is_word b) (is_mark b) (is_minus b) h

pub ArePlain-words : (bs : List ℕ) → AreWords bs → ArePlain bs
ArePlain-words [] h = tt
ArePlain-words (b ∷ bs) h = (word_no_newline b h.0, word_no_hash b h.0, word_no_bad b h.0, ArePlain-words bs h.1)

minus_plain : (b : ℕ) → is_minus b ≡ true → (is_newline b ≡ false) × (is_hash b ≡ false) × (is_bad b ≡ false)
minus_plain b h = (grind (arith, nat_tests), grind (arith, nat_tests), grind (arith, nat_tests))

first_plain : (b : ℕ) (w n : Bool) → is_word b ≡ w → is_minus b ≡ n → (w || n) ≡ true → (is_newline b ≡ false) × (is_hash b ≡ false) × (is_bad b ≡ false)
first_plain b true n e f h = (word_no_newline b e, word_no_hash b e, word_no_bad b e)
first_plain b false true e f h = minus_plain b f
first_plain b false false e f h = absurd cc

pub ArePlain-token : (bs : List ℕ) → IsWordToken bs → ArePlain bs
ArePlain-token [] h = absurd h
ArePlain-token (b ∷ bs) h =
    let f = first_plain b (is_word b) (is_minus b) refl refl h.0 in
    (f.0, f.1, f.2, ArePlain-words bs h.1)

-- a listed line has no comment
pub code-plain : (line : List ℕ) → ArePlain line → before_comment line ≡ line
code-plain [] h = refl
code-plain (b ∷ bs) h =
    take_while-cons (λ (x : ℕ). not (is_hash x)) b bs
    ∙ ap (λ (c : Bool). cond (not c) (b ∷ before_comment bs) []) h.1
    ∙ ap (λ (w : List ℕ). b ∷ w) (code-plain bs h.3)

pub none-bad : (line : List ℕ) → ArePlain line → list_any is_bad line ≡ false
none-bad [] h = refl
none-bad (b ∷ bs) h = ap (λ (c : Bool). c || list_any is_bad bs) h.2 ∙ none-bad bs h.3

-- a line is cut off where its newline stands
cut-line : (line rest : List ℕ) → ArePlain line → cut (line ++ 10 ∷ rest) ≡ line ∷ cut rest
cut-line [] rest h = refl
cut-line (b ∷ line) rest h =
    ap (λ (c : Bool). cond c ([] ∷ cut (line ++ 10 ∷ rest)) (onto_first b (cut (line ++ 10 ∷ rest)))) h.0
    ∙ ap (onto_first b) (cut-line line rest h.3)

abbrev pub AllPlain : List (List ℕ) → Type 0
AllPlain [] = Unit {0}
AllPlain (l ∷ ls) = ArePlain l × AllPlain ls

-- the lines of a listing are its lines
pub cut-text : (lines : List (List ℕ)) → AllPlain lines → cut (text_of lines) ≡ lines
cut-text [] h = refl
cut-text (l ∷ ls) h =
    ap cut (append_assoc l (10 ∷ []) (text_of ls))
    ∙ cut-line l (text_of ls) h.0
    ∙ ap (λ (x : List (List ℕ)). l ∷ x) (cut-text ls h.1)

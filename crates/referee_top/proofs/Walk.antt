-- The walk agrees exactly with the lines of memories that have what is known.
use Rattle.std.proofs.Common.{◌≡◌, ℕ, ◌+◌, ◌*◌, ◌/◌, ◌%◌, ◌==◌, ◌^◌, ◌<◌, ◌≤◌, Bool, true, false, if◌then◌else◌, List, [], ◌∷◌, ◌++◌, length, drop, codes, Option, Some, None, refl, sym, ap, ◌∙◌, arith, append_assoc}
use Rattle.std.specs.Prelude.{option_and_then, unwrap_or}
use Rattle.std.proofs.lemmas.Bool.{eqb-true}
use Rattle.text_pieces.specs.Pieces.{newline, space, hexadecimal, hex_digit}
use Rattle.text_pieces.specs.Base16.{seems_word}
use Rattle.text_pieces.proofs.Words.{word-read, word-one}
use Rattle.common_outcomes.specs.declared.value.Kind.{Kind}
use Rattle.common_outcomes.specs.declared.value.Kind.TheVariants.{Known, Offset, Varying}
use Rattle.common_outcomes.specs.declared.value.Value.{Value}
use Rattle.claims.specs.declared.verdict.Verdict.{Verdict}
use Rattle.claims.specs.declared.verdict.Verdict.TheVariants.{Agrees, Answer}
use Rattle.run_report.specs.Answer.{word_line, word_lines}
use Rattle.referee_top.specs.Settled.{behind_prefix, behind_value, behind_any, behind_by, word_front, word_bytes, settled_lines, rest_verdict, verdict_or, words_verdict}
use Rattle.referee_top.proofs.Behind.{behind-front, behind-is, behind-none}

-- a word has a value that is known of it
abbrev pub FitsKind : Kind → ℕ → ℕ → Type 0
FitsKind Known n m = m ≡ n
FitsKind _ n m = Unit {0}

abbrev pub FitValues : List Value → List ℕ → Type 0
FitValues [] [] = Unit {0}
FitValues [] (m ∷ ms) = ⊥
FitValues (v ∷ vs) [] = ⊥
FitValues (v ∷ vs) (m ∷ ms) = FitsKind v.kind v.number m × FitValues vs ms

-- ---- numbers beyond 32 bits are printed as their last 32 bits

pub last-digits : (n : ℕ) → hexadecimal n ≡ hexadecimal (n % 4294967296)
unfolding hexadecimal
last-digits n =
    let d0 : n / 16 ^ 0 % 16 ≡ n % 4294967296 / 16 ^ 0 % 16 = omega arith in
    let d1 : n / 16 ^ 1 % 16 ≡ n % 4294967296 / 16 ^ 1 % 16 = omega arith in
    let d2 : n / 16 ^ 2 % 16 ≡ n % 4294967296 / 16 ^ 2 % 16 = omega arith in
    let d3 : n / 16 ^ 3 % 16 ≡ n % 4294967296 / 16 ^ 3 % 16 = omega arith in
    let d4 : n / 16 ^ 4 % 16 ≡ n % 4294967296 / 16 ^ 4 % 16 = omega arith in
    let d5 : n / 16 ^ 5 % 16 ≡ n % 4294967296 / 16 ^ 5 % 16 = omega arith in
    let d6 : n / 16 ^ 6 % 16 ≡ n % 4294967296 / 16 ^ 6 % 16 = omega arith in
    let d7 : n / 16 ^ 7 % 16 ≡ n % 4294967296 / 16 ^ 7 % 16 = omega arith in
    λ i. 48 ∷ 120 ∷ hex_digit (d7 i) ∷ hex_digit (d6 i) ∷ hex_digit (d5 i) ∷ hex_digit (d4 i) ∷ hex_digit (d3 i) ∷ hex_digit (d2 i) ∷ hex_digit (d1 i) ∷ hex_digit (d0 i) ∷ []

same-last : (m n : ℕ) → m % 4294967296 ≡ n % 4294967296 → hexadecimal m ≡ hexadecimal n
same-last m n is = last-digits m ∙ ap hexadecimal is ∙ sym (last-digits n)

-- ---- the line of a word

joined : (a b c d e rest : List ℕ) → (a ++ b ++ c ++ d ++ e) ++ rest ≡ (a ++ b ++ c) ++ ((d ++ e) ++ rest)
joined a b c d e rest = simp append_assoc refl

pub line-parts : (w m : ℕ) (rest : List ℕ) → (m == 0) ≡ false → word_line w m ++ rest ≡ word_front w ++ ((hexadecimal m ++ newline) ++ rest)
unfolding word_line word_front
line-parts w m rest is =
    ap (λ (t : Bool). (if t then [] else codes "word " ++ hexadecimal (268435456 + 4 * w) ++ space ++ hexadecimal m ++ newline) ++ rest) is
    ∙ joined (codes "word ") (hexadecimal (268435456 + 4 * w)) space (hexadecimal m) newline rest

zero-line : (w : ℕ) (rest : List ℕ) → word_line w 0 ++ rest ≡ rest
unfolding word_line
zero-line w rest = refl

more-line : (w s : ℕ) (rest : List ℕ) → word_line w (4294967296 + s) ++ rest ≡ word_front w ++ ((hexadecimal s ++ newline) ++ rest)
more-line w s rest =
    let big : ((4294967296 + s) == 0) ≡ false = grind arith in
    let digits : hexadecimal (4294967296 + s) ≡ hexadecimal s = same-last (4294967296 + s) s (omega arith) in
    line-parts w (4294967296 + s) rest big ∙ ap (λ (d : List ℕ). word_front w ++ ((d ++ newline) ++ rest)) digits

-- ---- what is found of a word that may vary is the line of some value

record HasLine (w : ℕ) (text : List ℕ) : Type 0 where
  value : ℕ
  parts : text ≡ word_line w value ++ behind_any w text

line-by : (w : ℕ) (text r : List ℕ) (o : Option (List ℕ)) → text ≡ word_front w ++ r → behind_value r ≡ o → behind_any w text ≡ unwrap_or o text → HasLine w text
line-by w text r None is found any =
    record { value = 0; parts = sym any ∙ sym (zero-line w (behind_any w text)) }
line-by w text r (Some rest) is found any =
    record {
      value = 4294967296 + seems_word r;
      parts =
          is ∙ ap (λ (t : List ℕ). word_front w ++ t) (behind-is (hexadecimal (seems_word r) ++ newline) r rest found)
          ∙ sym (more-line w (seems_word r) rest) ∙ ap (λ (t : List ℕ). word_line w (4294967296 + seems_word r) ++ t) (sym any);
    }

has-by : (w : ℕ) (text : List ℕ) (o : Option (List ℕ)) → behind_prefix (word_front w) text ≡ o → HasLine w text
has-by w text None found =
    let any : behind_any w text ≡ text = ap (λ (o : Option (List ℕ)). unwrap_or (option_and_then behind_value o) text) found in
    record { value = 0; parts = sym any ∙ sym (zero-line w (behind_any w text)) }
has-by w text (Some r) found =
    line-by w text r (behind_value r) (behind-is (word_front w) text r found) refl
    (ap (λ (o : Option (List ℕ)). unwrap_or (option_and_then behind_value o) text) found)

has-line : (w : ℕ) (text : List ℕ) → HasLine w text
has-line w text = has-by w text (behind_prefix (word_front w) text) refl

-- ---- and the line of any value is found

value-found : (m : ℕ) (rest : List ℕ) → behind_value ((hexadecimal m ++ newline) ++ rest) ≡ Some rest
value-found m rest =
    let low : ℕ = m % 4294967296 in
    let digits : hexadecimal m ≡ hexadecimal low = last-digits m in
    let text : (hexadecimal m ++ newline) ++ rest ≡ hexadecimal low ++ (newline ++ rest) = ap (λ (d : List ℕ). (d ++ newline) ++ rest) digits ∙ append_assoc (hexadecimal low) newline rest in
    let read : seems_word ((hexadecimal m ++ newline) ++ rest) ≡ low = ap seems_word text ∙ word-read low (newline ++ rest) (omega arith) in
    ap (λ (k : ℕ). behind_prefix (hexadecimal k ++ newline) ((hexadecimal m ++ newline) ++ rest)) read
    ∙ ap (λ (d : List ℕ). behind_prefix (d ++ newline) ((hexadecimal m ++ newline) ++ rest)) (sym digits)
    ∙ behind-front (hexadecimal m ++ newline) rest

line-found : (w m : ℕ) (rest : List ℕ) → (m == 0) ≡ false → behind_any w (word_line w m ++ rest) ≡ rest
line-found w m rest is =
    let text = word_line w m ++ rest in
    let front : behind_prefix (word_front w) text ≡ Some ((hexadecimal m ++ newline) ++ rest) = ap (behind_prefix (word_front w)) (line-parts w m rest is) ∙ behind-front (word_front w) _ in
    ap (λ (o : Option (List ℕ)). unwrap_or (option_and_then behind_value o) text) front ∙ ap (λ (o : Option (List ℕ)). unwrap_or o text) (value-found m rest)

none-found : (w : ℕ) (rest : List ℕ) → behind_prefix (word_front w) rest ≡ None → behind_any w rest ≡ rest
none-found w rest none = ap (λ (o : Option (List ℕ)). unwrap_or (option_and_then behind_value o) rest) none

-- ---- no line of a later word is taken for that of this one

parted : (a b c rest : List ℕ) → (a ++ b ++ c) ++ rest ≡ a ++ (b ++ (c ++ rest))
parted a b c rest = simp append_assoc refl

front-parts : (w : ℕ) (rest : List ℕ) → word_front w ++ rest ≡ codes "word " ++ (hexadecimal (268435456 + 4 * w) ++ (space ++ rest))
unfolding word_front
front-parts w rest = parted (codes "word ") (hexadecimal (268435456 + 4 * w)) space rest

one-front : (w k : ℕ) (r q : List ℕ) → w < 65536 → k < 65536 → word_front w ++ r ≡ word_front k ++ q → w ≡ k
one-front w k r q low high is =
    let parts = sym (front-parts w r) ∙ is ∙ front-parts k q in
    let same = word-one (268435456 + 4 * w) (268435456 + 4 * k) (space ++ r) (space ++ q) (omega arith) (omega arith) (ap (drop 5) parts) in
    omega (arith, same.0)

other-front : (w k m : ℕ) (rest : List ℕ) → w < k → k < 65536 → (m == 0) ≡ false → behind_prefix (word_front w) (word_line k m ++ rest) ≡ None
other-front w k m rest less high is =
    behind-none (word_front w) (word_line k m ++ rest) (λ q same.
    let one : w ≡ k = one-front w k q ((hexadecimal m ++ newline) ++ rest) (omega arith) high (sym same ∙ line-parts k m rest is) in
    omega (arith, one))

later-by : (t : Bool) (w k m : ℕ) (ms : List ℕ) → (m == 0) ≡ t → w < k → k < 65536 → behind_prefix (word_front w) (word_lines (k + 1) ms) ≡ None → behind_prefix (word_front w) (word_line k m ++ word_lines (k + 1) ms) ≡ None
later-by true w k m ms is less high later =
    let none : m ≡ 0 = eqb-true m 0 is in
    ap (λ (n : ℕ). behind_prefix (word_front w) (word_line k n ++ word_lines (k + 1) ms)) none ∙ ap (behind_prefix (word_front w)) (zero-line k (word_lines (k + 1) ms)) ∙ later
later-by false w k m ms is less high later = other-front w k m (word_lines (k + 1) ms) less high is

front-nothing : (w : ℕ) → behind_prefix (word_front w) [] ≡ None
unfolding word_front
front-nothing w = refl

later-front : (w k : ℕ) (ms : List ℕ) → w < k → k + length ms ≤ 65536 → behind_prefix (word_front w) (word_lines k ms) ≡ None
later-front w k [] less room = front-nothing w
later-front w k (m ∷ ms) less room =
    later-by (m == 0) w k m ms refl less (omega (arith, room)) (later-front w (k + 1) ms (omega (arith, less)) (omega (arith, room)))

-- ---- agreement

-- the words of a text are those of some memory that has what is known
pub record AreWords (w : ℕ) (vs : List Value) (text : List ℕ) : Type 0 where
  pub memory : List ℕ
  pub fit : FitValues vs memory
  pub lines : text ≡ word_lines w memory

any-by : (t : Bool) (w m : ℕ) (ms : List ℕ) → (m == 0) ≡ t → w + 1 + length ms ≤ 65536 → behind_any w (word_line w m ++ word_lines (w + 1) ms) ≡ word_lines (w + 1) ms
any-by true w m ms is room =
    let none : m ≡ 0 = eqb-true m 0 is in
    ap (λ (n : ℕ). behind_any w (word_line w n ++ word_lines (w + 1) ms)) none ∙ ap (behind_any w) (zero-line w (word_lines (w + 1) ms))
    ∙ none-found w (word_lines (w + 1) ms) (later-front w (w + 1) ms (omega arith) room)
any-by false w m ms is room = line-found w m (word_lines (w + 1) ms) is

word-found : (k : Kind) (n w m : ℕ) (ms : List ℕ) → FitsKind k n m → w + 1 + length ms ≤ 65536 → behind_by k n w (word_line w m ++ word_lines (w + 1) ms) ≡ Some (word_lines (w + 1) ms)
word-found Known n w m ms fits room =
    ap (λ (j : ℕ). behind_prefix (word_line w n) (word_line w j ++ word_lines (w + 1) ms)) fits ∙ behind-front (word_line w n) (word_lines (w + 1) ms)
word-found (Offset v) n w m ms fits room = ap Some (any-by (m == 0) w m ms refl room)
word-found Varying n w m ms fits room = ap Some (any-by (m == 0) w m ms refl room)

pub words-agree : (line w : ℕ) (vs : List Value) (ms : List ℕ) → FitValues vs ms → w + length ms ≤ 65536 → words_verdict line w vs (word_lines w ms) ≡ Agrees
words-agree line w [] [] fit room = refl
words-agree line w [] (m ∷ ms) fit room = absurd fit
words-agree line w (v ∷ vs) [] fit room = absurd fit
words-agree line w (v ∷ vs) (m ∷ ms) fit room =
    ap (λ (o : Option (List ℕ)). verdict_or o (λ rest. words_verdict (line + settled_lines v) (w + 1) vs rest) (Answer line (Some (word_bytes w v.number))))
    (word-found v.kind v.number w m ms fit.0 (omega (arith, room)))
    ∙ words-agree (line + settled_lines v) (w + 1) vs ms fit.1 (omega (arith, room))

not-agrees : (line : ℕ) (right : Option (List ℕ)) → Answer line right ≡ Agrees → ⊥
not-agrees line right is = cc

with-word : (w m : ℕ) (v : Value) (vs : List Value) (text rest : List ℕ) → FitsKind v.kind v.number m → text ≡ word_line w m ++ rest → AreWords (w + 1) vs rest → AreWords w (v ∷ vs) text
with-word w m v vs text rest fits is later =
    record { memory = m ∷ later.memory; fit = (fits, later.fit); lines = is ∙ ap (λ (t : List ℕ). word_line w m ++ t) later.lines }

agree-end : (line w : ℕ) (text : List ℕ) → rest_verdict line text ≡ Agrees → AreWords w [] text
agree-end line w [] is = record { memory = []; fit = tt; lines = refl }
agree-end line w (b ∷ bs) is = absurd (not-agrees line None is)

known-by : (o : Option (List ℕ)) (go : List ℕ → Verdict) (line w n : ℕ) (right : Option (List ℕ)) (text : List ℕ) → behind_prefix (word_line w n) text ≡ o → verdict_or o go (Answer line right) ≡ Agrees
    → (rest : List ℕ) × (text ≡ word_line w n ++ rest) × (go rest ≡ Agrees)
known-by None go line w n right text found is = absurd (not-agrees line right is)
known-by (Some rest) go line w n right text found is = (rest, behind-is (word_line w n) text rest found, is)

agree-by : (k : Kind) (n line w : ℕ) (right : Option (List ℕ)) (text : List ℕ) (go : List ℕ → Verdict) → verdict_or (behind_by k n w text) go (Answer line right) ≡ Agrees
    → (m : ℕ) × (rest : List ℕ) × FitsKind k n m × (text ≡ word_line w m ++ rest) × (go rest ≡ Agrees)
agree-by Known n line w right text go is =
    let h = known-by (behind_prefix (word_line w n) text) go line w n right text refl is in
    (n, h.0, refl, h.1, h.2)
agree-by (Offset v) n line w right text go is =
    let h = has-line w text in
    (h.value, behind_any w text, tt, h.parts, is)
agree-by Varying n line w right text go is =
    let h = has-line w text in
    (h.value, behind_any w text, tt, h.parts, is)

pub agree-words : (line w : ℕ) (vs : List Value) (text : List ℕ) → words_verdict line w vs text ≡ Agrees → AreWords w vs text
agree-words line w [] text is = agree-end line w text is
agree-words line w (v ∷ vs) text is =
    let h = agree-by v.kind v.number line w (Some (word_bytes w v.number)) text (λ rest. words_verdict (line + settled_lines v) (w + 1) vs rest) is in
    with-word w h.0 v vs text h.1 h.2 h.3 (agree-words (line + settled_lines v) (w + 1) vs h.1 h.4)

-- ---- where the line of a word with a value begins a text

joined-line : (a b c d e : List ℕ) → a ++ b ++ c ++ d ++ e ≡ (a ++ b ++ c) ++ (d ++ e)
joined-line a b c d e = simp append_assoc refl

pub line-of : (w m : ℕ) → (m == 0) ≡ false → word_line w m ≡ word_front w ++ (hexadecimal m ++ newline)
unfolding word_line word_front
line-of w m is =
    ap (λ (t : Bool). if t then [] else codes "word " ++ hexadecimal (268435456 + 4 * w) ++ space ++ hexadecimal m ++ newline) is
    ∙ joined-line (codes "word ") (hexadecimal (268435456 + 4 * w)) space (hexadecimal m) newline

pub line-of_zero : (w m : ℕ) (text : List ℕ) → m ≡ 0 → behind_prefix (word_line w m) text ≡ Some text
unfolding word_line
line-of_zero w m text is = ap (λ (n : ℕ). behind_prefix (word_line w n) text) is

-- What the classes of bytes have to do with one another.
use Rattle.std.proofs.Common.{◌≡◌, ℕ, ◌+◌, ◌-◌, ◌≤◌, Bool, true, false, not, cond, ◌||◌, ◌&&◌, List, [], ◌∷◌, length, refl, arith}
use Rattle.std.proofs.lemmas.Bool.Decides.{nat_tests}
use Rattle.std.proofs.lemmas.List.Folds.{length-prefix_len}
use Rattle.std.specs.List.{prefix_len}
use Rattle.src_text.specs.Byte.{is_word, is_mark, is_minus, is_token_byte}
use Rattle.src_text.specs.Lexeme.{continues_token, begins_token, front}

pub no_mark : (b : ℕ) → is_word b ≡ true → is_mark b ≡ false
no_mark b word = grind (arith, nat_tests)

pub no_minus : (b : ℕ) → is_word b ≡ true → is_minus b ≡ false
no_minus b word = grind (arith, nat_tests)

pub mark_no_word : (b : ℕ) → is_mark b ≡ true → is_word b ≡ false
mark_no_word b mark = grind (arith, nat_tests)

pub mark_no_minus : (b : ℕ) → is_mark b ≡ true → is_minus b ≡ false
mark_no_minus b mark = grind (arith, nat_tests)

-- how many of the bytes go on with what stands before them
abbrev pub reach : ℕ → List ℕ → ℕ
reach before bs = cond (continues_token before) (prefix_len is_word bs) 0

-- the same facts of tests: a mark, a minus, a word, a word or minus before
ends : (m n w g : Bool) (k : ℕ) → (w ≡ true → m ≡ false) → (w ≡ true → n ≡ false) → (m || n || (w && not g)) ≡ true → cond g (cond w k 0) 0 ≡ 0
ends m n w false k mark minus begun = refl
ends m n false true k mark minus begun = refl
ends m n true true k mark minus begun = let a = mark refl in let b = minus refl in absurd (grind arith)

begin : (m n w g : Bool) (k : ℕ) → (w || m || n) ≡ true → cond g (cond w (1 + k) 0) 0 ≤ 0 → (m || n || (w && not g)) ≡ true
begin true n w g k solid none = refl
begin false true w g k solid none = refl
begin false false true false k solid none = refl
begin false false true true k solid none = absurd (omega arith)
begin false false false g k solid none = absurd (grind arith)

-- a token begins only where nothing goes on
pub begins_ends : (before b : ℕ) (bs : List ℕ) → begins_token before b ≡ true → reach before (b ∷ bs) ≡ 0
begins_ends before b bs begun = ends (is_mark b) (is_minus b) (is_word b) (continues_token before) (1 + prefix_len is_word bs) (no_mark b) (no_minus b) begun

-- and wherever nothing does and a token's byte stands
pub begins_there : (before b : ℕ) (bs : List ℕ) → is_token_byte b ≡ true → reach before (b ∷ bs) ≤ 0 → begins_token before b ≡ true
begins_there before b bs solid none = begin (is_mark b) (is_minus b) (is_word b) (continues_token before) (prefix_len is_word bs) solid none

length_front : (m n w g : Bool) (b : ℕ) (bs word : List ℕ) (k : ℕ) → (m ≡ true → w ≡ false) → (m ≡ true → n ≡ false) → length word ≡ k → (m || n || (w && not g)) ≡ true → length (cond m (b ∷ []) (b ∷ word)) ≡ 1 + cond (w || n) k 0
length_front true n w g b bs word k no_word no_minus is begun = let a = no_word refl in let c = no_minus refl in rw a (rw c refl)
length_front false true true g b bs word k no_word no_minus is begun = omega arith
length_front false true false g b bs word k no_word no_minus is begun = omega arith
length_front false false true g b bs word k no_word no_minus is begun = omega arith
length_front false false false g b bs word k no_word no_minus is begun = absurd (grind arith)

-- a token's bytes are its first one and those that go on behind it
pub length-front : (before b : ℕ) (bs : List ℕ) → begins_token before b ≡ true → length (front (b ∷ bs)) ≡ 1 + reach b bs
length-front before b bs begun = length_front (is_mark b) (is_minus b) (is_word b) (continues_token before) b bs _ (prefix_len is_word bs) (mark_no_word b) (mark_no_minus b) (length-prefix_len is_word bs) begun

passes : (m n w g : Bool) (k : ℕ) → (m || n || (w && not g)) ≡ false → cond (w || n) k 0 ≤ cond g (cond w (1 + k) 0) 0 - 1
passes true n w g k begun = absurd (grind arith)
passes false true w g k begun = absurd (grind arith)
passes false false true true k begun = omega arith
passes false false true false k begun = absurd (grind arith)
passes false false false true k begun = omega arith
passes false false false false k begun = omega arith

-- where no token begins, what goes on behind the byte went on before it
pub reach_back : (before b : ℕ) (bs : List ℕ) → begins_token before b ≡ false → reach b bs ≤ reach before (b ∷ bs) - 1
reach_back before b bs begun = passes (is_mark b) (is_minus b) (is_word b) (continues_token before) (prefix_len is_word bs) begun

onward : (n w g : Bool) (k : ℕ) → cond g (cond w (1 + k) 0) 0 ≤ 1 + cond (w || n) k 0
onward n true true k = omega arith
onward n true false k = omega arith
onward n false true k = omega arith
onward n false false k = omega arith

pub reach_on : (before b : ℕ) (bs : List ℕ) → reach before (b ∷ bs) ≤ 1 + reach b bs
reach_on before b bs = onward (is_minus b) (is_word b) (continues_token before) (prefix_len is_word bs)

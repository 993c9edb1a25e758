-- Numbers that follow one another are read as they were written.
use Rattle.std.proofs.Common.{◌≡◌, ℕ, ◌+◌, ◌*◌, ◌<◌, false, List, [], ◌∷◌, ◌++◌, codes, sym, ap, ◌∙◌, refl, arith, append_assoc}
use Rattle.std.proofs.lemmas.List.{append_cancel_left}
use Rattle.std.proofs.lemmas.Bool.Decides.{nat_tests}
use Rattle.std.specs.Char.{is_ascii_digit}
use Rattle.text_pieces.specs.Pieces.{newline, space, hexadecimal}
use Rattle.text_pieces.specs.Field.{field}
use Rattle.text_pieces.proofs.Forms.{field-one}
use Rattle.text_pieces.proofs.Words.{word-one}
use Rattle.run_report.specs.Answer.{word_line}
use Rattle.explained_answer.specs.declared.tasks.Trapped.{Trapped}
use Rattle.explained_answer.specs.Parts.{IsNumber, pair_fields, StandPair}
use Rattle.explained_answer.specs.AnswerLines.{trap_rest, address_line, IsShownWord, StandWord}

pub two-parts : (first second : List ℕ) (e a b : ℕ) (r : List ℕ) → pair_fields first second e a b ++ r ≡ field first space a ++ (field second (e ∷ []) b ++ r)
unfolding pair_fields
two-parts first second e a b r = append_assoc (field first space a) (field second (e ∷ []) b) r

-- where two numbers were found in front of some bytes, other two there are the same
pub two-next : (first second : List ℕ) (e : ℕ) → is_ascii_digit e ≡ false → (bytes : List ℕ) (a b : ℕ) (r : List ℕ) → StandPair first second e bytes a b r
    → (x y : ℕ) (q : List ℕ) → IsNumber x → IsNumber y → bytes ≡ pair_fields first second e x y ++ q → (a ≡ x) × (b ≡ y) × (r ≡ q)
two-next first second e other bytes a b r found x y q fx fy is =
    let parts = sym (two-parts first second e a b r) ∙ sym found.parts ∙ is ∙ two-parts first second e x y q in
    let one = field-one first 32 0 4294967295 refl (omega arith) a x _ _ found.first_from fx parts in
    let two = field-one second e 0 4294967295 other (omega arith) b y r q found.second_from fy one.1 in
    (one.0, two.0, two.1)

-- two numbers and what stands behind them, as a line groups them
pub two-regroup : (name a b tail r : List ℕ) → (name ++ a ++ space ++ b ++ space ++ tail) ++ r ≡ ((name ++ a ++ space) ++ (b ++ space)) ++ (tail ++ r)
two-regroup name a b tail r = simp append_assoc

pub trap-parts : (front : List ℕ) (t : Trapped) (r : List ℕ)
    → trap_rest front t ++ r ≡ front ++ (hexadecimal t.pc ++ (codes " value " ++ (hexadecimal t.value ++ (field (codes " retired ") newline t.retired ++ r))))
unfolding trap_rest
trap-parts front t r = simp append_assoc

pub address-parts : (a v : ℕ) (r : List ℕ) → address_line a v ++ r ≡ codes "word " ++ (hexadecimal a ++ (space ++ (hexadecimal v ++ (newline ++ r))))
unfolding address_line
address-parts a v r = simp append_assoc

-- where an address and a value were found in front of some bytes, others there are the same
pub address-next : (bytes : List ℕ) (a v : ℕ) (r : List ℕ) → StandWord bytes a v r → (b w : ℕ) (q : List ℕ) → StandWord bytes b w q → (a ≡ b) × (v ≡ w)
address-next bytes a v r found b w q other =
    let is = sym (address-parts a v r) ∙ sym found.parts ∙ other.parts ∙ address-parts b w q in
    let address = word-one a b _ _ found.address_word other.address_word (append_cancel_left (codes "word ") _ _ is) in
    let value = word-one v w _ _ found.value_word other.value_word (append_cancel_left space _ _ address.1) in
    (address.0, value.0)

-- the line of a word whose value isn't 0
pub word-is : (w v : ℕ) → 0 < v → word_line w v ≡ address_line (268435456 + 4 * w) v
unfolding word_line address_line
word-is w v some = grind (arith, nat_tests)

pub word-stands : (bytes : List ℕ) (w v : ℕ) (rest : List ℕ) → IsShownWord w v → bytes ≡ word_line w v ++ rest → StandWord bytes (268435456 + 4 * w) v rest
word-stands bytes w v rest s is =
    record { address_word = omega (arith, s.word_fits); value_word = s.value_fits; parts = is ∙ ap (λ xs. xs ++ rest) (word-is w v s.some) }

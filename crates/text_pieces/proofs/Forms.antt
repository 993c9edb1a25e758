-- What is written in one way is read in one way: two values whose texts begin the same bytes are one, and so is what stands behind them.
use Rattle.std.proofs.Common.{◌≡◌, ℕ, ◌^◌, ◌<◌, false, List, [], ◌∷◌, ◌++◌, length, get_or, drop, codes, refl, sym, ap, ◌∙◌, arith, append_assoc}
use Rattle.std.proofs.lemmas.List.{append_cancel_left}
use Rattle.std.proofs.lemmas.Fmt.{decimal_injective}
use Rattle.std.specs.Char.{is_ascii_digit}
use Rattle.std.specs.Fmt.{decimal}
use Rattle.text_pieces.specs.Pieces.{newline}
use Rattle.text_pieces.specs.Field.{field, IsFrom, Stands}
use Rattle.text_pieces.specs.Parts.{IsSource, source_part}
use Rattle.text_pieces.proofs.Digits.{front, front-decimal}
use Rattle.text_pieces.proofs.Fields.{field-parts}

-- two values that are written in front of the same bytes are one, and what stands behind them is the same
abbrev pub IsOne : {X : Type 0} → (X → Type 0) → (X → List ℕ) → Type 0
IsOne {X} Fits write = (x y : X) (r q : List ℕ) → Fits x → Fits y → write x ++ r ≡ write y ++ q → (x ≡ y) × (r ≡ q)

-- ---- a number

number-one : (e m n : ℕ) (r q : List ℕ) → is_ascii_digit e ≡ false → m < 2 ^ 32 → n < 2 ^ 32 → decimal m ++ e ∷ r ≡ decimal n ++ e ∷ q → (m ≡ n) × (r ≡ q)
number-one e m n r q other small low is =
    let digits : decimal m ≡ decimal n =
    sym (front-decimal m e r (omega arith) other) ∙ ap front is ∙ front-decimal n e q (omega arith) other in
    let same : m ≡ n = decimal_injective m n (omega arith) (omega arith) digits in
    let rest : e ∷ r ≡ e ∷ q = append_cancel_left (decimal n) (e ∷ r) (e ∷ q) (ap (λ ds. ds ++ e ∷ r) (sym digits) ∙ is) in
    (same, ap (drop 1) rest)

pub field-one : (name : List ℕ) (e least most : ℕ) → is_ascii_digit e ≡ false → most < 2 ^ 32 → IsOne (IsFrom least most) (field name (e ∷ []))
field-one name e least most other small m n r q fit fits is =
    number-one e m n r q other (omega (arith, fit.high)) (omega (arith, fits.high))
    (append_cancel_left name (decimal m ++ e ∷ r) (decimal n ++ e ∷ q) (sym (field-parts name e m r) ∙ is ∙ field-parts name e n q))

-- where a number was found in front of some bytes, another one there is the same
pub field-next : (name : List ℕ) (e least most : ℕ) → is_ascii_digit e ≡ false → most < 2 ^ 32 → (bytes : List ℕ) (m : ℕ) (r : List ℕ) → Stands (IsFrom least most) (field name (e ∷ [])) bytes m r
    → (n : ℕ) (q : List ℕ) → IsFrom least most n → bytes ≡ field name (e ∷ []) n ++ q → (m ≡ n) × (r ≡ q)
field-next name e least most other small bytes m r found n q fits is = field-one name e least most other small m n r q found.fits fits (sym found.parts ∙ is)

-- the same for any value that is written in one way
pub next : {X : Type 0} (Fits : X → Type 0) (write : X → List ℕ) → IsOne Fits write → (bytes : List ℕ) (x : X) (r : List ℕ) → Stands Fits write bytes x r
    → (y : X) (q : List ℕ) → Fits y → bytes ≡ write y ++ q → (x ≡ y) × (r ≡ q)
next Fits write one bytes x r found y q fits is = one x y r q found.fits fits (sym found.parts ∙ is)

-- ---- a source text

pub source-parts : (text r : List ℕ) → source_part text ++ r ≡ field (codes "source ") newline (length text) ++ (text ++ (10 ∷ r))
unfolding source_part
source-parts text r = simp append_assoc

same-length : (xs ys r q : List ℕ) → length xs ≡ length ys → xs ++ r ≡ ys ++ q → (xs ≡ ys) × (r ≡ q)
same-length [] [] r q same is = (refl, is)
same-length [] (y ∷ ys) r q same is = absurd (omega (arith, same))
same-length (x ∷ xs) [] r q same is = absurd (omega (arith, same))
same-length (x ∷ xs) (y ∷ ys) r q same is =
    let heads : x ≡ y = ap (λ zs. get_or zs 0 0) is in
    let rest = same-length xs ys r q (omega (arith, same)) (ap (drop 1) is) in
    (λ i. heads i ∷ rest.0 i, rest.1)

pub source-one : IsOne IsSource source_part
source-one text other r q ft fo is =
    let parts = sym (source-parts text r) ∙ is ∙ source-parts other q in
    let from : IsFrom 0 1048576 (length text) = record { low = omega arith; high = ft } in
    let from' : IsFrom 0 1048576 (length other) = record { low = omega arith; high = fo } in
    let count = field-one (codes "source ") 10 0 1048576 refl (omega arith) (length text) (length other) (text ++ (10 ∷ r)) (other ++ (10 ∷ q)) from from' parts in
    let both = same-length text other (10 ∷ r) (10 ∷ q) count.0 count.1 in
    (both.0, ap (drop 1) both.1)

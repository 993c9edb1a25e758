-- What follows the beginning of a text.
use Rattle.std.proofs.Common.{◌≡◌, ◌≢◌, ℕ, ◌==◌, ◌<◌, Bool, true, false, if◌then◌else◌, List, [], ◌∷◌, ◌++◌, Option, Some, None, option_map, IfSome, IfNone, refl, sym, ap, ◌∙◌, arith}
use Rattle.std.specs.Prelude.{option_and_then, is_some}
use Rattle.std.proofs.lemmas.Bool.{eqb-true, eq-eqb}
use Rattle.std.proofs.lemmas.Bool.Decides.{nat_tests}
use Rattle.std.specs.Prelude.{get_or}
use Rattle.std.proofs.lemmas.Option.{none-some, same_Some}
use Rattle.text_pieces.specs.Pieces.{newline, hexadecimal}
use Rattle.text_pieces.specs.Base16.{IsWord, digit_of, seems_word}
use Rattle.text_pieces.specs.Field.{Stands, NoneStands}
use Rattle.text_pieces.proofs.Words.{word-read}
use Rattle.referee_top.specs.Settled.{behind_prefix, behind_value}

pub behind-front : (front rest : List ℕ) → behind_prefix front (front ++ rest) ≡ Some rest
behind-front [] rest = refl
behind-front (b ∷ bs) rest = ap (λ (t : Bool). if t then behind_prefix bs (bs ++ rest) else None) (eq-eqb b b refl) ∙ behind-front bs rest

is-by : (t : Bool) (b c : ℕ) (bs cs rest : List ℕ) → (b == c) ≡ t → (behind_prefix bs cs ≡ Some rest → cs ≡ bs ++ rest) → (if t then behind_prefix bs cs else None) ≡ Some rest → c ∷ cs ≡ b ∷ (bs ++ rest)
is-by true b c bs cs rest same later is =
    let head : c ≡ b = sym (eqb-true b c same) in
    let tail = later is in
    λ i. head i ∷ tail i
is-by false b c bs cs rest same later is = absurd (none-some rest is)

pub behind-is : (front text rest : List ℕ) → behind_prefix front text ≡ Some rest → text ≡ front ++ rest
behind-is [] text rest is = same_Some text rest is
behind-is (b ∷ bs) [] rest is = absurd (none-some rest is)
behind-is (b ∷ bs) (c ∷ cs) rest is = is-by (b == c) b c bs cs rest refl (behind-is bs cs rest) is

pub behind-some : (front text rest : List ℕ) → text ≡ front ++ rest → behind_prefix front text ≡ Some rest
behind-some front text rest is = ap (behind_prefix front) is ∙ behind-front front rest

none-by : (front text : List ℕ) (o : Option (List ℕ)) → ((rest : List ℕ) → text ≢ front ++ rest) → behind_prefix front text ≡ o → behind_prefix front text ≡ None
none-by front text None none is = is
none-by front text (Some rest) none is = absurd (none rest (behind-is front text rest is))

pub behind-none : (front text : List ℕ) → ((rest : List ℕ) → text ≢ front ++ rest) → behind_prefix front text ≡ None
behind-none front text none = none-by front text (behind_prefix front text) none refl

append-by : (t : Bool) (bs more cs : List ℕ) → behind_prefix (bs ++ more) cs ≡ option_and_then (behind_prefix more) (behind_prefix bs cs)
    → (if t then behind_prefix (bs ++ more) cs else None) ≡ option_and_then (behind_prefix more) (if t then behind_prefix bs cs else None)
append-by true bs more cs later = later
append-by false bs more cs later = refl

pub behind-append : (front more text : List ℕ) → behind_prefix (front ++ more) text ≡ option_and_then (behind_prefix more) (behind_prefix front text)
behind-append [] more text = refl
behind-append (b ∷ bs) more [] = refl
behind-append (b ∷ bs) more (c ∷ cs) = append-by (b == c) bs more cs (behind-append bs more cs)

-- a search that finds what follows, or nothing
pub behind-told : {X : Type 0} (now : X → List ℕ) (r : Option X) (front text : List ℕ) → IfSome r (λ (x : X). text ≡ front ++ now x) → IfNone r ((rest : List ℕ) → text ≢ front ++ rest)
    → option_map now r ≡ behind_prefix front text
behind-told now (Some x) front text some none = sym (behind-some front text (now x) some)
behind-told now None front text some none = sym (behind-none front text none)

-- ---- a value

digit-small : (byte : ℕ) → digit_of byte < 16
digit-small byte = grind (arith, nat_tests)

seems-small : (text : List ℕ) → IsWord (seems_word text)
unfolding seems_word
seems-small text =
    let d2 = digit-small (get_or text 2 0) in
    let d3 = digit-small (get_or text 3 0) in
    let d4 = digit-small (get_or text 4 0) in
    let d5 = digit-small (get_or text 5 0) in
    let d6 = digit-small (get_or text 6 0) in
    let d7 = digit-small (get_or text 7 0) in
    let d8 = digit-small (get_or text 8 0) in
    let d9 = digit-small (get_or text 9 0) in
    omega arith

pub value-some : (text rest : List ℕ) (n : ℕ) → Stands IsWord hexadecimal text n rest → behind_value text ≡ behind_prefix newline rest
value-some text rest n st =
    let read : seems_word text ≡ n = ap seems_word st.parts ∙ word-read n rest st.fits in
    ap (λ (m : ℕ). behind_prefix (hexadecimal m ++ newline) text) read ∙ behind-append (hexadecimal n) newline text
    ∙ ap (option_and_then (behind_prefix newline)) (behind-some (hexadecimal n) text rest st.parts)

pub value-none : (text : List ℕ) → NoneStands IsWord hexadecimal text → behind_value text ≡ None
value-none text none =
    behind-append (hexadecimal (seems_word text)) newline text
    ∙ ap (option_and_then (behind_prefix newline)) (behind-none (hexadecimal (seems_word text)) text (λ rest is. none (seems_word text) rest (record { fits = seems-small text; parts = is })))

-- ---- one part after the other

pub behind-then : (front more text rest : List ℕ) → Some rest ≡ behind_prefix front text → behind_prefix (front ++ more) text ≡ behind_prefix more rest
behind-then front more text rest is = behind-append front more text ∙ ap (option_and_then (behind_prefix more)) (sym is)

pub behind-stops : (front more text : List ℕ) → None ≡ behind_prefix front text → behind_prefix (front ++ more) text ≡ None
behind-stops front more text is = behind-append front more text ∙ ap (option_and_then (behind_prefix more)) (sym is)

pub some-told : {X : Type 0} (now : X → List ℕ) (r : Option X) → is_some r ≡ is_some (option_map now r)
some-told now (Some x) = refl
some-told now None = refl

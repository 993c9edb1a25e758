-- A number in base 16 is read as it was written.
use Rattle.std.proofs.Common.{◌≡◌, ℕ, ◌/◌, ◌%◌, ◌^◌, ◌<◌, ◌≤◌, List, ◌++◌, length, drop, sym, ap, ◌∙◌, arith}
use Rattle.std.proofs.lemmas.Bool.Decides.{nat_tests}
use Rattle.text_pieces.specs.Pieces.{hex_digit, hex_at, hexadecimal}
use Rattle.text_pieces.specs.Base16.{IsWord, digit_of, seems_word}
use Rattle.text_pieces.proofs.Forms.{IsOne}

pub digit-read : (d : ℕ) → d < 16 → digit_of (hex_digit d) ≡ d
digit-read d low = grind (arith, nat_tests)

at-read : (n k : ℕ) → digit_of (hex_at n k) ≡ n / 16 ^ k % 16
at-read n k = digit-read (n / 16 ^ k % 16) (omega arith)

pub word-read : (n : ℕ) (rest : List ℕ) → IsWord n → seems_word (hexadecimal n ++ rest) ≡ n
unfolding seems_word hexadecimal
word-read n rest small =
    let d0 = at-read n 0 in
    let d1 = at-read n 1 in
    let d2 = at-read n 2 in
    let d3 = at-read n 3 in
    let d4 = at-read n 4 in
    let d5 = at-read n 5 in
    let d6 = at-read n 6 in
    let d7 = at-read n 7 in
    omega arith

pub word-length : (n : ℕ) (rest : List ℕ) → 10 ≤ length (hexadecimal n ++ rest)
unfolding hexadecimal
word-length n rest = omega arith

pub word-one : IsOne IsWord hexadecimal
unfolding hexadecimal
word-one m n r q low small is =
    (sym (word-read m r low) ∙ ap seems_word is ∙ word-read n q small, ap (drop 10) is)

-- A text and its lines.
use Rattle.std.proofs.Common.{◌≡◌, ℕ, zero, suc, ◌+◌, ◌-◌, ◌<◌, ◌≤◌, Bool, true, false, not, cond, ◌||◌, List, [], ◌∷◌, ◌++◌, length, take, drop, get_or, Some, refl, sym, ◌∙◌, ap, append_assoc, arith}
use Rattle.std.specs.List.{list_any, All, flat_map, slice_get}
use Rattle.std.proofs.lemmas.Bool.{eqb-true}
use Rattle.std.proofs.lemmas.List.{length-append, length-drop, drop-append-le, take-append-le, drop-drop, take_at, drop_at}
use Rattle.std.proofs.lemmas.List.Sums.{sum_by-cons}
use Rattle.std.proofs.lemmas.List.Elements.{All-nil, All-cons, All-head, All-tail}
use Rattle.src_text.specs.Byte.{is_newline}
use Rattle.src_text.specs.Line.{cut, onto_first, numbered, line_of}
use Rattle.src_text.specs.Laws.{ended, is_open, AreLinesOf, line_start, AreNumbered}
use Rattle.src_text.proofs.LineLemmas.{cut-first}

-- the newline that a text may lack
abbrev lacking : List ℕ → List ℕ
lacking text = cond (is_open text) (10 ∷ []) []

Joins : List ℕ → Type 0
Joins text = flat_map ended (cut text) ≡ text ++ lacking text

joins_one : (b : ℕ) (c : Bool) → is_newline b ≡ c → flat_map ended (cond c ([] ∷ []) ((b ∷ []) ∷ [])) ≡ b ∷ cond (not c) (10 ∷ []) []
joins_one b true newline = ap (λ (w : ℕ). w ∷ []) (sym (eqb-true b 10 newline))
joins_one b false newline = refl

onto : (b : ℕ) (lines : List (List ℕ)) (first : List ℕ) (rest : List (List ℕ)) (text : List ℕ) → lines ≡ first ∷ rest → flat_map ended lines ≡ text → flat_map ended (onto_first b lines) ≡ b ∷ text
onto b lines first rest text is joined =
    ap (λ (ls : List (List ℕ)). flat_map ended (onto_first b ls)) is ∙ ap (λ (w : List ℕ). b ∷ w) (sym (ap (flat_map ended) is) ∙ joined)

joins_more : (b : ℕ) (c : Bool) (lines : List (List ℕ)) (first : List ℕ) (rest : List (List ℕ)) (text : List ℕ) → is_newline b ≡ c → lines ≡ first ∷ rest → flat_map ended lines ≡ text → flat_map ended (cond c ([] ∷ lines) (onto_first b lines)) ≡ b ∷ text
joins_more b true lines first rest text newline is joined = let ten = eqb-true b 10 newline in rw ten (ap (λ (w : List ℕ). 10 ∷ w) joined)
joins_more b false lines first rest text newline is joined = onto b lines first rest text is joined

joins : (text : List ℕ) → flat_map ended (cut text) ≡ text ++ lacking text
joins [] = refl
joins (b ∷ []) = joins_one b (is_newline b) refl
joins (b ∷ c ∷ bs) = joins_more b (is_newline b) (cut (c ∷ bs)) _ _ ((c ∷ bs) ++ lacking (c ∷ bs)) refl (cut-first (c ∷ bs) (omega arith)) (joins (c ∷ bs))

abbrev Single : List ℕ → Type 0
Single line = list_any is_newline line ≡ false

single_onto : (b : ℕ) (lines : List (List ℕ)) → is_newline b ≡ false → All Single lines → All Single (onto_first b lines)
single_onto b [] no_newline all = All-cons Single (b ∷ []) [] (ap (λ (t : Bool). t || false) no_newline) (All-nil Single)
single_onto b (l ∷ ls) no_newline all = All-cons Single (b ∷ l) ls (ap (λ (t : Bool). t || list_any is_newline l) no_newline ∙ All-head Single l ls all) (All-tail Single l ls all)

single_more : (b : ℕ) (c : Bool) (lines : List (List ℕ)) → is_newline b ≡ c → All Single lines → All Single (cond c ([] ∷ lines) (onto_first b lines))
single_more b true lines newline all = All-cons Single [] lines refl all
single_more b false lines newline all = single_onto b lines newline all

single : (text : List ℕ) → All Single (cut text)
single [] = All-nil Single
single (b ∷ bs) = single_more b (is_newline b) (cut bs) refl (single bs)

pub AreLinesOf-cut : (text : List ℕ) → AreLinesOf text (cut text)
AreLinesOf-cut text = record { joined = joins text; single = single text }

-- numbers and places

length-numbered : (number place : ℕ) (lines : List (List ℕ)) → length (numbered number place lines) ≡ length lines
length-numbered number place [] = refl
length-numbered number place (l ∷ ls) = ap (λ (n : ℕ). suc n) (length-numbered (number + 1) (place + (length l + 1)) ls)

same_line : (n n' p p' : ℕ) (line : List ℕ) → n ≡ n' → p ≡ p' → Some (line_of n p line) ≡ Some (line_of n' p' line)
same_line n n' p p' line same_number same_place = ap (λ (w : ℕ). Some (line_of w p line)) same_number ∙ ap (λ (w : ℕ). Some (line_of n' w line)) same_place

place_next : (k : ℕ) (l : List ℕ) (ls : List (List ℕ)) → line_start (suc k) (l ∷ ls) ≡ length l + 1 + line_start k ls
place_next k l ls = sum_by-cons (λ (line : List ℕ). length line + 1) l (take k ls)

at_index : (number place : ℕ) (lines : List (List ℕ)) (k : ℕ) → k < length lines → slice_get (numbered number place lines) k ≡ Some (line_of (number + k) (place + line_start k lines) (get_or lines k []))
at_index number place [] k short = absurd (omega arith)
at_index number place (l ∷ ls) zero short = same_line number (number + 0) place (place + 0) l (omega arith) (omega arith)
at_index number place (l ∷ ls) (suc k) short =
    at_index (number + 1) (place + (length l + 1)) ls k (omega arith)
    ∙ same_line (number + 1 + k) (number + suc k) (place + (length l + 1) + line_start k ls) (place + line_start (suc k) (l ∷ ls)) (get_or ls k []) (omega arith) (omega (arith, place_next k l ls))

-- the lines from an index on, with their newlines, begin at that line's place
from_place : (lines : List (List ℕ)) (k : ℕ) → k < length lines → drop (line_start k lines) (flat_map ended lines) ≡ get_or lines k [] ++ (10 ∷ flat_map ended (drop (suc k) lines))
from_place [] k short = absurd (omega arith)
from_place (l ∷ ls) zero short = append_assoc l (10 ∷ []) (flat_map ended ls)
from_place (l ∷ ls) (suc k) short =
    let next : line_start (suc k) (l ∷ ls) ≡ length (ended l) + line_start k ls = place_next k l ls ∙ ap (λ (n : ℕ). n + line_start k ls) (sym (length-append l (10 ∷ []))) in
    let behind : drop (length (ended l)) (ended l ++ flat_map ended ls) ≡ flat_map ended ls = drop_at (ended l) (flat_map ended ls) (length (ended l)) refl in
    ap (λ (n : ℕ). drop n (ended l ++ flat_map ended ls)) next
    ∙ sym (drop-drop (line_start k ls) (length (ended l)) (ended l ++ flat_map ended ls))
    ∙ ap (drop (line_start k ls)) behind
    ∙ from_place ls k (omega arith)

length-lacking : (c : Bool) → length {A = ℕ} (cond c (10 ∷ []) []) ≤ 1
length-lacking true = omega arith
length-lacking false = omega arith

-- a part of a list that goes on within it stays where more follows
part : (text more whole line rest : List ℕ) (place : ℕ) → length more ≤ 1 → whole ≡ text ++ more → drop place whole ≡ line ++ (10 ∷ rest) → take (place + length line - place) (drop place text) ≡ line
part text more whole line rest place short is found =
    let size : length whole ≡ length text + length more = ap length is ∙ length-append text more in
    let left : length whole - place ≡ length line + length (10 ∷ rest) = sym (length-drop place whole) ∙ ap length found ∙ length-append line (10 ∷ rest) in
    let within : place ≤ length text = omega arith in
    let fits : length line ≤ length (drop place text) = omega (arith, length-drop place text) in
    let count : place + length line - place ≡ length line = omega arith in
    let split : drop place text ++ more ≡ line ++ (10 ∷ rest) = sym (drop-append-le place text more within) ∙ sym (ap (drop place) is) ∙ found in
    ap (λ (n : ℕ). take n (drop place text)) count
    ∙ sym (take-append-le (length line) (drop place text) more fits)
    ∙ ap (take (length line)) split
    ∙ take_at line (10 ∷ rest) (length line) refl

pub AreNumbered-lines_of : (text : List ℕ) → AreNumbered text
AreNumbered-lines_of text = record {
  count = length-numbered 1 0 (cut text);
  each = λ k short. at_index 1 0 (cut text) k short ∙ same_line (1 + k) (k + 1) (0 + line_start k (cut text)) (line_start k (cut text)) (get_or (cut text) k []) (omega arith) (omega arith);
  bytes = λ k short. part text (lacking text) (flat_map ended (cut text)) (get_or (cut text) k []) (flat_map ended (drop (suc k) (cut text))) (line_start k (cut text)) (length-lacking (is_open text)) (joins text) (from_place (cut text) k short);
}

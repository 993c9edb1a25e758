-- What a number's digits come to.
use Rattle.std.proofs.Common.{◌≡◌, ℕ, ◌+◌, ◌*◌, ◌<◌, ◌≤◌, Bool, true, false, cond, ltb, List, [], ◌∷◌, length, get_or, drop, None, refl, sym, ◌∙◌, ap, arith}
use Rattle.std.proofs.lemmas.Bool.Decides.{nat_tests}
use Rattle.std.proofs.lemmas.List.{at_drop_more}
use Rattle.src_text.specs.Number.{value_after, value_of, if_at_most, digit_of}

grown : (most v base d : ℕ) → 1 ≤ base → most < v → most < v * base + d
grown most v base d some above = grind arith

alone : (most v : ℕ) → most < v → if_at_most most (value_after 10 v []) ≡ None
alone most v above = grind (arith, nat_tests)

either : (most : ℕ) (c : Bool) (v : ℕ) (base : ℕ) (bs : List ℕ) → if_at_most most (value_after base v bs) ≡ None → if_at_most most (cond c (value_after base v bs) None) ≡ None
either most true v base bs rest = rest
either most false v base bs rest = refl

-- once the value is too great, more digits leave it so
pub too_great : (most base v : ℕ) (bs : List ℕ) → 1 ≤ base → most < v → if_at_most most (value_after base v bs) ≡ None
too_great most base v [] some above = alone most v above
too_great most base v (b ∷ bs) some above =
    either most (ltb (digit_of b) base) (v * base + digit_of b) base bs (too_great most base (v * base + digit_of b) bs some (grown most v base (digit_of b) some above))

value_of_some : (base : ℕ) (bs : List ℕ) → 0 < length bs → value_of base bs ≡ value_after base 0 bs
value_of_some base [] some = absurd (omega arith)
value_of_some base (b ∷ bs) some = refl

-- a digit at which the value gets too great
pub too_great_at : (most base v : ℕ) (bs : List ℕ) (i : ℕ) → 1 ≤ base → i < length bs → digit_of (get_or bs i 0) < base → most < v * base + digit_of (get_or bs i 0) → if_at_most most (value_after base v (drop i bs)) ≡ if_at_most most (value_after base 0 bs) → None ≡ if_at_most most (value_of base bs)
too_great_at most base v bs i some here fits above same =
    let d = digit_of (get_or bs i 0) in
    let step : if_at_most most (value_after base v (drop i bs)) ≡ if_at_most most (cond (ltb d base) (value_after base (v * base + d) (drop (i + 1) bs)) None) = at_drop_more (λ xs. if_at_most most (value_after base v xs)) bs i 0 here in
    let none = either most (ltb d base) (v * base + d) base (drop (i + 1) bs) (too_great most base (v * base + d) (drop (i + 1) bs) some above) in
    let whole : value_of base bs ≡ value_after base 0 bs = value_of_some base bs (omega arith) in
    sym (ap (if_at_most most) whole ∙ sym same ∙ step ∙ none)

-- Copies of a list, one more at the end.
use Rattle.std.proofs.Common.{◌≡◌, ℕ, ◌+◌, suc, zero, List, ◌++◌, sym, ap, ◌∙◌, add-one}
use Rattle.std.proofs.lemmas.List.{append_assoc, append-nil}
use Rattle.std.specs.List.{repeat}

pub repeat_behind : (n : ℕ) (xs : List ℕ) → repeat n xs ++ xs ≡ xs ++ repeat n xs
repeat_behind zero xs = sym (append-nil xs)
repeat_behind (suc n) xs = append_assoc xs (repeat n xs) xs ∙ ap (λ ys. xs ++ ys) (repeat_behind n xs)

pub repeat_more : (n : ℕ) (xs : List ℕ) → repeat (n + 1) xs ≡ repeat n xs ++ xs
repeat_more n xs = ap (λ k. repeat k xs) (add-one n) ∙ sym (repeat_behind n xs)

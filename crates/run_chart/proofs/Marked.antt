-- Marks, as the numbers of a chain are gone through.
use Rattle.std.proofs.Common.{◌≡◌, ℕ, ◌+◌, ◌<◌, ◌==◌, ◌||◌, Bool, true, false, List, length, get_or, drop, refl, sym, ap, ◌∙◌}
use Rattle.std.proofs.lemmas.List.{at_drop_more}
use Rattle.run_chart.specs.Marks.{is_on_chain}

or-move : (p q b : Bool) → (q || (p || b)) ≡ ((p || q) || b)
or-move true true b = refl
or-move true false b = refl
or-move false true b = refl
or-move false false b = refl

pub or-false : (b : Bool) → (b || false) ≡ b
or-false true = refl
or-false false = refl

pub marked-step : (chain : List ℕ) (k n : ℕ) (b whole : Bool) → k < length chain → (is_on_chain (drop k chain) n || b) ≡ whole
    → (is_on_chain (drop (k + 1) chain) n || ((get_or chain k 0 == n) || b)) ≡ whole
marked-step chain k n b whole within so_far =
    let on : is_on_chain (drop k chain) n ≡ ((get_or chain k 0 == n) || is_on_chain (drop (k + 1) chain) n) = at_drop_more (λ (l : List ℕ). is_on_chain l n) chain k 0 within in
    or-move (get_or chain k 0 == n) (is_on_chain (drop (k + 1) chain) n) b ∙ ap (λ (t : Bool). t || b) (sym on) ∙ so_far

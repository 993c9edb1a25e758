use Rattle.std.proofs.Common.{◌≡◌, ◌∙◌, ℕ, nat_eq, List, ap, take, arith}
use Rattle.std.proofs.lemmas.List.{take_all}
use Rattle.std.proofs.lemmas.Map.Made.{length-from_keys}
use Rattle.std.specs.Cmp.{nat_eq_equiv}
use Rattle.std.specs.List.{list_any}
use Rattle.sweep_top.proofs.summary.different.Goals as goal

pub returns : goal.returns
returns c =
    let xs = c.args.numbers.now in
    let all : take c.loop-number.number-index xs ≡ xs = take_all c.loop-number.number-index xs (omega (arith, c.loop-number-test.false)) in
    c.len.ensures.len
    ∙ length-from_keys nat_eq_equiv c.loop-number.set.keys xs c.loop-number.invariant.unique
    (λ (q : ℕ). c.loop-number.invariant.same q ∙ ap (λ (ys : List ℕ). list_any (nat_eq q) ys) all)

use Rattle.std.proofs.Common.{◌≡◌, ℕ, take, sym, ap, ◌∙◌, arith}
use Rattle.explained_answer.proofs.Alike.{alike-end}
use Rattle.explained_answer.proofs.fronts.alike.Goals as goal

pub returns-clause-front : goal.returns-clause-front
returns-clause-front c =
    let left = c.args.left.now in
    let same : c.min-both.result ≡ c.loop-place.place = omega arith in
    ap (λ (k : ℕ). take k left) same ∙ sym (c.loop-place.invariant ∙ alike-end left c.args.right.now c.loop-place.place (omega arith))

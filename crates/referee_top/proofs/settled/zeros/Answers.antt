use Rattle.std.proofs.Common.{ℕ, List, [], ◌∷◌, ◌++◌, map, take, sym, ap, ◌∙◌}
use Rattle.std.proofs.lemmas.List.{map_more}
use Rattle.common_outcomes.specs.Values.{known}
use Rattle.referee_top.specs.Settled.{no_number}
use Rattle.referee_top.proofs.settled.zeros.Goals as goal

pub loop-value-preserved : goal.loop-value-preserved
loop-value-preserved c =
    let vs = c.args.memory.now in
    let k = c.loop-value.value-index in
    c.in_ok-push.ensures.ok ∙ ap (λ (l : List ℕ). l ++ c.no_number.result ∷ []) c.loop-value.invariant
    ∙ ap (λ (x : ℕ). map no_number (take k vs) ++ x ∷ []) c.no_number.ensures ∙ sym (map_more no_number vs k (known 0) c.loop-value-test.true)

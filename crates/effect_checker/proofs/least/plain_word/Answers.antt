use Rattle.region_table.specs.Words.{has}
use Rattle.effect_checker.proofs.LeastLemmas.{least_right}
use Rattle.effect_checker.proofs.least.plain_word.Goals as goal

pub returns : goal.returns
returns c =
    let user = c.args.user.now in
    least_right (λ w. has c.args.set.now w) (λ w. has user.effects.reads w) (λ w. has user.effects.writes w) c.common_word.result c.common_word-2.result c.lesser.result
    c.lesser.ensures c.common_word.ensures c.common_word-2.ensures

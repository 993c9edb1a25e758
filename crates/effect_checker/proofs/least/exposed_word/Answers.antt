use Rattle.region_table.specs.Words.{has}
use Rattle.effect_checker.specs.Checked.{lock_guards}
use Rattle.effect_checker.proofs.LeastLemmas.{least_right}
use Rattle.effect_checker.proofs.least.exposed_word.Goals as goal

pub returns : goal.returns
returns c =
    let user = c.args.user.now in
    least_right (λ w. lock_guards c.args.tasks.now c.args.lock w) (λ w. has user.effects.reads w) (λ w. has user.effects.writes w) c.guarded_word.result c.guarded_word-2.result c.lesser.result
    c.lesser.ensures c.guarded_word.ensures c.guarded_word-2.ensures

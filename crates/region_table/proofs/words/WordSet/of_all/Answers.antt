use Rattle.std.proofs.Common.{ap, ◌∙◌}
use Rattle.region_table.specs.Words.{has}
use Rattle.region_table.proofs.JoinLemmas.{has-permutation, some-permutation}
use Rattle.region_table.proofs.words.WordSet.of_all.Goals as goal

pub all_joined-requires-clause-some : goal.all_joined-requires-clause-some
all_joined-requires-clause-some c =
    rw c.as_slice.ensures.value (some-permutation c.args.intervals.items c.by_starts-rising.result.items c.by_starts-rising.ensures.same c.requires)

pub returns : goal.returns
returns c = λ w.
    c.in_ok-intervals.ensures.words w ∙ ap (λ s. has s w) c.as_slice.ensures.value ∙ has-permutation c.args.intervals.items c.by_starts-rising.result.items w c.by_starts-rising.ensures.same

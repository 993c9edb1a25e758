use Rattle.std.proofs.Common.{sym, ◌∙◌}
use Rattle.std.proofs.lemmas.Bool.{true≢false}
use Rattle.effect_prover.specs.Table.{row_at}
use Rattle.effect_prover.proofs.TableLemmas.{row-known, put-taken, put-some, taken-itself}
use Rattle.effect_prover.proofs.sweep.put.Goals as goal

pub takes_in-requires-clause-old : goal.takes_in-requires-clause-old
takes_in-requires-clause-old c = row-known (row_at c.args.rows.now c.args.place) c.requires.rows

pub joined_to-joined-requires-clause-old : goal.joined_to-joined-requires-clause-old
joined_to-joined-requires-clause-old c = row-known (row_at c.args.rows.now c.args.place) c.requires.rows

pub returns-then-takes_in : goal.returns-then-takes_in
returns-then-takes_in c = put-taken c.args.head c.args.argument c.args.rows.now c.args.place c.args.given.now (c.takes_in.ensures.0 c.if-takes_in.true)

pub returns : goal.returns
returns c =
    let old = row_at c.args.rows.now c.args.place in
    put-some c.args.head c.args.argument c.args.rows.now c.args.place c.args.given.now c.joined_to-joined.result c.joined_to-joined.ensures
    (λ e. true≢false (sym (c.takes_in.ensures.1 (taken-itself c.args.head c.args.argument old c.args.given.now c.joined_to-joined.result e c.joined_to-joined.ensures)) ∙ c.if-takes_in.false))

use Rattle.std.proofs.Common.{sym, ◌∙◌}
use Rattle.word_cache.specs.Row.{pairs_by_use}
use Rattle.word_cache.proofs.ApartLemmas.{words_differ}
use Rattle.word_cache.proofs.GrantLemmas.{dropped-word}
use Rattle.word_cache.proofs.grant.drop_word.Goals as goal

pub returns-then-is_stale-clause-pairs : goal.returns-then-is_stale-clause-pairs
returns-then-is_stale-clause-pairs c =
    let apart = words_differ c.args.sets c.args.ways c.args.places.now c.requires.row in
    let stale = sym c.is_stale.ensures ∙ c.if-is_stale.true in
    c.take_out.ensures.pairs ∙ sym (rw stale at (dropped-word c.args.signature.now c.args.phase.0 c.args.word.0 (pairs_by_use c.args.places.now) apart))

pub returns-else-is_stale-clause-pairs : goal.returns-else-is_stale-clause-pairs
returns-else-is_stale-clause-pairs c =
    let apart = words_differ c.args.sets c.args.ways c.args.places.now c.requires.row in
    let stale = sym c.is_stale.ensures ∙ c.if-is_stale.false in
    sym (rw stale at (dropped-word c.args.signature.now c.args.phase.0 c.args.word.0 (pairs_by_use c.args.places.now) apart))

use Rattle.std.proofs.Common.{ap, ◌∙◌, sym, get_or}
use Rattle.word_cache.specs.declared.row.Place.{Place}
use Rattle.word_cache.specs.Cache.{lookup}
use Rattle.word_cache.specs.Row.{pairs_by_use}
use Rattle.word_cache.proofs.RowLemmas.{pair_there, get_some, get_none, place_of_word, nowhere_else, may_hold}
use Rattle.word_cache.proofs.EditLemmas.{wrote, touched_is}
use Rattle.word_cache.proofs.edits.use_again.Goals as goal

pub returns-in-Some-clause-row : goal.returns-in-Some-clause-row
returns-in-Some-clause-row c =
    let within = c.in-Some.ensures.0 in
    let here = c.in-Some.ensures.1 c.at-pair.result in
    let mine = pair_there c.args.word (get_or c.tick-now.new.places c.in-Some.place c.at-pair.result).pair here in
    let same = ap (λ (p : Place). p.pair) (c.at-pair.ensures c.at-pair.result) ∙ mine.1 in
    let did = wrote c.args.sets c.args.ways c.in-Some.place c.tick-now.result c.at-pair.result c.args.word mine.0 c.tick-now.new.places c.tick-now.ensures.row within c.tick-now.ensures.before
    (place_of_word c.args.sets c.args.ways c.args.word.0 c.in-Some.place c.at-pair.result c.tick-now.new.places c.tick-now.ensures.row within here)
    (may_hold c.args.word.0 (get_or c.tick-now.new.places c.in-Some.place c.at-pair.result).pair here)
    (nowhere_else c.args.sets c.args.ways c.args.word.0 c.in-Some.place c.at-pair.result c.tick-now.new.places c.tick-now.ensures.row within here) in
    rw (c.set.ensures, same, c.tick-now.ensures.clock) did.0

pub returns-in-Some-clause-pairs : goal.returns-in-Some-clause-pairs
returns-in-Some-clause-pairs c =
    let within = c.in-Some.ensures.0 in
    let here = c.in-Some.ensures.1 c.at-pair.result in
    let mine = pair_there c.args.word (get_or c.tick-now.new.places c.in-Some.place c.at-pair.result).pair here in
    let same = ap (λ (p : Place). p.pair) (c.at-pair.ensures c.at-pair.result) ∙ mine.1 in
    let did = wrote c.args.sets c.args.ways c.in-Some.place c.tick-now.result c.at-pair.result c.args.word mine.0 c.tick-now.new.places c.tick-now.ensures.row within c.tick-now.ensures.before
    (place_of_word c.args.sets c.args.ways c.args.word.0 c.in-Some.place c.at-pair.result c.tick-now.new.places c.tick-now.ensures.row within here)
    (may_hold c.args.word.0 (get_or c.tick-now.new.places c.in-Some.place c.at-pair.result).pair here)
    (nowhere_else c.args.sets c.args.ways c.args.word.0 c.in-Some.place c.at-pair.result c.tick-now.new.places c.tick-now.ensures.row within here) in
    let found = get_some c.args.sets c.args.ways c.in-Some.place c.at-pair.result c.args.word mine.0 c.tick-now.new.places c.tick-now.ensures.row within mine.1 in
    rw (c.set.ensures, same, ← c.tick-now.ensures.pairs) (did.1 ∙ sym (touched_is c.args.word mine.0 (pairs_by_use c.tick-now.new.places) found))

pub returns-in_default-clause-pairs : goal.returns-in_default-clause-pairs
returns-in_default-clause-pairs c =
    let absent = rw c.in_default.is at c.place_near.ensures in
    let none = get_none c.args.word.0 c.tick-now.new.places absent in
    absurd (c.requires.there (ap (lookup c.args.word.0) (sym c.tick-now.ensures.pairs) ∙ none))

use Rattle.std.proofs.Common.{Some, get_or, ap, refl}
use Rattle.word_cache.specs.declared.row.Place.{Place}
use Rattle.word_cache.proofs.RowLemmas.{pair_there, changed_there, others_lack, get_none}
use Rattle.word_cache.proofs.EditLemmas.{kept_row, keeps_word}
use Rattle.word_cache.proofs.edits.change_entry.Goals as goal

pub returns-in-Some-clause-row : goal.returns-in-Some-clause-row
returns-in-Some-clause-row c clock good =
    let here = c.in-Some.ensures.1 c.at-used.result in
    let within = c.in-Some.ensures.0 in
    rw c.set.ensures
    (kept_row c.args.sets c.args.ways c.in-Some.place clock c.at-used.result (record { pair = Some (c.args.word, c.args.entry); used = c.at-used.result.used }) c.args.places.now good within (ap (λ (p : Place). p.used) (c.at-used.ensures c.at-used.result)) (keeps_word c.args.word c.args.entry (get_or c.args.places.now c.in-Some.place c.at-used.result).pair here))

pub returns-in-Some-clause-pairs : goal.returns-in-Some-clause-pairs
returns-in-Some-clause-pairs c =
    let here = c.in-Some.ensures.1 c.at-used.result in
    let within = c.in-Some.ensures.0 in
    let mine = pair_there c.args.word (get_or c.args.places.now c.in-Some.place c.at-used.result).pair here in
    rw c.set.ensures
    (changed_there c.args.sets c.args.ways c.in-Some.place c.at-used.result c.args.word mine.0 c.args.entry (record { pair = Some (c.args.word, c.args.entry); used = c.at-used.result.used }) c.args.places.now c.requires.row within mine.1 refl (ap (λ (p : Place). p.used) (c.at-used.ensures c.at-used.result))
    (others_lack c.args.sets c.args.ways c.in-Some.place c.at-used.result c.args.word.0 c.args.places.now c.requires.row within here))

pub returns-in_default-clause-pairs : goal.returns-in_default-clause-pairs
returns-in_default-clause-pairs c =
    let absent = rw c.in_default.is at c.place_near.ensures in
    absurd (c.requires.there (get_none c.args.word.0 c.args.places.now absent))

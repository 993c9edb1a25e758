use Rattle.std.proofs.Common.{None, ap, sym, refl}
use Rattle.word_cache.specs.declared.row.Place.{Place}
use Rattle.word_cache.proofs.RowLemmas.{removed_there, absent}
use Rattle.word_cache.proofs.EditLemmas.{kept_row}
use Rattle.word_cache.proofs.edits.take_out.Goals as goal

pub returns-in-Some-clause-row : goal.returns-in-Some-clause-row
returns-in-Some-clause-row c clock good =
    let within = c.in-Some.ensures.0 in
    rw c.set.ensures (kept_row c.args.sets c.args.ways c.in-Some.place clock c.at-used.result (record { pair = None; used = c.at-used.result.used }) c.args.places.now good within (ap (λ (p : Place). p.used) (c.at-used.ensures c.at-used.result)) tt)

pub returns-in-Some-clause-pairs : goal.returns-in-Some-clause-pairs
returns-in-Some-clause-pairs c =
    let here = c.in-Some.ensures.1 c.at-used.result in
    let within = c.in-Some.ensures.0 in
    rw c.set.ensures
    (removed_there c.args.sets c.args.ways c.in-Some.place c.at-used.result c.args.word (record { pair = None; used = c.at-used.result.used }) c.args.places.now c.requires.row within here refl (ap (λ (p : Place). p.used) (c.at-used.ensures c.at-used.result)))

pub returns-in_default-clause-pairs : goal.returns-in_default-clause-pairs
returns-in_default-clause-pairs c =
    let none = rw c.in_default.is at c.place_near.ensures in
    sym (absent c.args.word.0 c.args.places.now none)

use Rattle.std.proofs.Common.{None, ◌∙◌, sym}
use Rattle.word_cache.specs.declared.row.Place.{Place}
use Rattle.word_cache.proofs.RowLemmas.{get_none}
use Rattle.word_cache.proofs.EditLemmas.{entry_found}
use Rattle.word_cache.proofs.looks.entry_of.Goals as goal

-- any place
some_place : Place
some_place = record { pair = None; used = 0 }

pub returns-in-Some : goal.returns-in-Some
returns-in-Some c =
    let mine = rw c.in-Some.is at c.pair_place.ensures in
    rw c.as_slice.ensures.value at (c.entry_at.ensures some_place) ∙ entry_found c.args.sets c.args.ways c.in-Some.place some_place c.args.word c.args.row.now c.requires mine.0 (mine.1 some_place)

pub returns-in-None : goal.returns-in-None
returns-in-None c =
    let none = rw c.in-None.is at c.pair_place.ensures in
    sym (get_none c.args.word.0 c.args.row.now none)

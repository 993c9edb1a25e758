use Rattle.std.proofs.Common.{None, arith}
use Rattle.std.proofs.lemmas.Bool.Decides.{nat_tests}
use Rattle.word_cache.specs.declared.row.Place.{Place}
use Rattle.word_cache.proofs.CountLemmas.{is_full, is_short}
use Rattle.word_cache.proofs.looks.has_free.Goals as goal

-- any place
some_place : Place
some_place = record { pair = None; used = 0 }

pub returns-in-Some : goal.returns-in-Some
returns-in-Some c =
    let free = rw c.in-Some.is at c.free_place.ensures in
    let fewer = is_short c.args.sets c.args.ways c.args.word.0 c.in-Some.field-0 some_place c.args.row.now c.requires free.0 free.1 (free.2 some_place) in
    grind (arith, nat_tests, fewer)

pub returns-in-None : goal.returns-in-None
returns-in-None c =
    let none = rw c.in-None.is at c.free_place.ensures in
    let full = is_full c.args.sets c.args.ways c.args.word.0 c.args.row.now c.requires none in
    grind (arith, nat_tests, full)

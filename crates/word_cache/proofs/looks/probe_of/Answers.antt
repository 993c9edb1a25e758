use Rattle.std.proofs.Common.{◌≡◌, None, Some, ap, arith, sym, ◌∙◌, get_or}
use Rattle.std.proofs.lemmas.Bool.Decides.{nat_tests}
use Rattle.std.specs.Option.{option_map}
use Rattle.word_cache.specs.declared.row.Place.{Place}
use Rattle.word_cache.specs.Cache.{Pair}
use Rattle.word_cache.proofs.RowLemmas.{get_none, pair_there}
use Rattle.word_cache.proofs.EditLemmas.{entry_found}
use Rattle.word_cache.proofs.CountLemmas.{is_full, is_short}
use Rattle.word_cache.proofs.looks.probe_of.Goals as goal

-- any place
some_place : Place
some_place = record { pair = None; used = 0 }

pub returns-in-Some : goal.returns-in-Some
returns-in-Some c =
    sym (rw c.as_slice.ensures.value at (c.entry_at.ensures some_place) ∙ entry_found c.args.sets c.args.ways c.in-Pair.place some_place c.args.word c.args.row.now c.requires c.in-Pair.ensures.0 (c.in-Pair.ensures.1 some_place)) ∙ c.in-Some.is

pub unreachable-requires : goal.unreachable-requires
unreachable-requires c =
    let mine = pair_there c.args.word (get_or c.args.row.now c.in-Pair.place some_place).pair (c.in-Pair.ensures.1 some_place) in
    let never : None ≡ Some mine.0 = sym c.in-None.is ∙ rw c.as_slice.ensures.value at (c.entry_at.ensures some_place) ∙ ap (option_map (λ (p : Pair). p.1)) mine.1 in
    absurd (cc)

pub returns-in-Free : goal.returns-in-Free
returns-in-Free c =
    let fewer = is_short c.args.sets c.args.ways c.args.word.0 c.in-Free.place some_place c.args.row.now c.requires c.in-Free.ensures.1.0 c.in-Free.ensures.1.1 (c.in-Free.ensures.1.2 some_place) in
    (get_none c.args.word.0 c.args.row.now c.in-Free.ensures.0, grind (arith, nat_tests, fewer))

pub returns-in-Nowhere : goal.returns-in-Nowhere
returns-in-Nowhere c =
    let full = is_full c.args.sets c.args.ways c.args.word.0 c.args.row.now c.requires c.in-Nowhere.ensures.1 in
    (get_none c.args.word.0 c.args.row.now c.in-Nowhere.ensures.0, grind (arith, nat_tests, full))

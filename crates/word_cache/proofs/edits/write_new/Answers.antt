use Rattle.std.proofs.Common.{None, ap, ◌∙◌}
use Rattle.word_cache.specs.declared.row.Place.{Place}
use Rattle.word_cache.specs.Cache.{put}
use Rattle.word_cache.proofs.EditLemmas.{wrote}
use Rattle.word_cache.proofs.edits.write_new.Goals as goal

-- any place
some_place : Place
some_place = record { pair = None; used = 0 }

pub returns : goal.returns
returns c =
    let within = c.choose_free-place.ensures.within in
    let may = c.choose_free-place.ensures.may some_place in
    let others = c.choose_free-place.ensures.others in
    let did = wrote c.args.sets c.args.ways c.choose_free-place.result c.tick-used.result some_place c.args.word c.args.entry c.tick-used.new.places c.tick-used.ensures.row within c.tick-used.ensures.before c.choose_free-place.ensures.set may others in
    record { row = rw (c.set.ensures, c.tick-used.ensures.clock) did.0; pairs = rw c.set.ensures (did.1 ∙ ap (put c.args.word c.args.entry) c.tick-used.ensures.pairs) }

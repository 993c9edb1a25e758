use Rattle.std.proofs.Common.{◌≡◌, ◌%◌, ◌+◌, ◌*◌, ◌≤◌, None, true, false, get_or, length, ◌<◌, ◌∙◌, sym, arith}
use Rattle.word_cache.specs.declared.row.Place.{Place}
use Rattle.word_cache.specs.Row.{place_gives_way}
use Rattle.word_cache.proofs.TimeLemmas.{first_more, first_pass, same_read}
use Rattle.word_cache.proofs.SetLemmas.{in_set}
use Rattle.word_cache.proofs.CountLemmas.{counted}
use Rattle.word_cache.proofs.EditLemmas.{way_given}
use Rattle.word_cache.proofs.places.victim_place.Goals as goal
use Rattle.word_cache.proofs.places.victim_place.Goals.{then-may_go, else-may_go}

pub loop-index-preserved : goal.loop-index-preserved
loop-index-preserved c =
    let fits = (counted c.args.sets c.args.ways c.args.word.0 c.args.row.now c.requires).1 in
    let within : c.loop-index.index < length c.args.row.now = omega (arith, c.loop-index-test.true, c.start_of-start.ensures, fits) in
    let low : c.args.word.0 % c.args.sets * c.args.ways ≤ c.loop-index.index = omega (arith, c.loop-index.auto.index, c.start_of-start.ensures) in
    let high : c.loop-index.index < c.args.word.0 % c.args.sets * c.args.ways + c.args.ways = omega (arith, c.loop-index-test.true, c.start_of-start.ensures) in
    let at = in_set (c.args.word.0 % c.args.sets) c.args.ways c.loop-index.index c.requires.some_ways low high in
    let way = λ (d : Place). way_given c.args.sets c.args.ways c.args.word.0 c.loop-index.index (get_or c.args.row.now c.loop-index.index d) (c.requires.placed c.loop-index.index d within) at in
    elim c.if-may_go.branch [
      | then-may_go w ↦
          let passing : (d : Place) → place_gives_way c.args.sets c.args.word.0 (get_or c.args.row.now c.loop-index.index d) ≡ true = λ d. way d ∙ rw (same_read c.args.row.now c.loop-index.index d (record { pair = None; used = 0 }) within) (sym c.may_go.ensures ∙ w.if-may_go.true) in
          rw (w.best-is, w.earlier_of.ensures (record { pair = None; used = 0 })) (first_pass (place_gives_way c.args.sets c.args.word.0) c.args.row.now c.start_of-start.result c.loop-index.index c.loop-index.best (record { pair = None; used = 0 }) c.loop-index.invariant c.loop-index.auto.index within passing)
      | else-may_go w ↦
          let missing : (d : Place) → place_gives_way c.args.sets c.args.word.0 (get_or c.args.row.now c.loop-index.index d) ≡ false = λ d. way d ∙ rw (same_read c.args.row.now c.loop-index.index d (record { pair = None; used = 0 }) within) (sym c.may_go.ensures ∙ w.if-may_go.false) in
          rw w.best-is (first_more (place_gives_way c.args.sets c.args.word.0) c.args.row.now c.start_of-start.result c.loop-index.index c.loop-index.best c.loop-index.invariant missing)
    ]

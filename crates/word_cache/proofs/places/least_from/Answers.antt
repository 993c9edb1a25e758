use Rattle.std.proofs.Common.{◌≡◌, None, true, false, get_or, length, ◌<◌, arith}
use Rattle.std.proofs.lemmas.Bool.Decides.{nat_tests}
use Rattle.word_cache.specs.declared.row.Place.{Place}
use Rattle.word_cache.specs.Row.{is_from}
use Rattle.word_cache.proofs.TimeLemmas.{first_more, first_pass, same_read}
use Rattle.word_cache.proofs.places.least_from.Goals as goal
use Rattle.word_cache.proofs.places.least_from.Goals.{then-row-index, else-row-index}

pub loop-index-preserved : goal.loop-index-preserved
loop-index-preserved c =
    let within : c.loop-index.index < length c.args.row.now = omega (arith, c.loop-index-test.true) in
    elim c.if-row-index.branch [
      | then-row-index w ↦
          let passing : (d : Place) → is_from c.args.time (get_or c.args.row.now c.loop-index.index d) ≡ true = λ d. rw (same_read c.args.row.now c.loop-index.index d (record { pair = None; used = 0 }) within) (grind (arith, nat_tests, w.if-row-index.true)) in
          rw (w.best-is, w.earlier_of.ensures (record { pair = None; used = 0 })) (first_pass (is_from c.args.time) c.args.row.now 0 c.loop-index.index c.loop-index.best (record { pair = None; used = 0 }) c.loop-index.invariant (omega arith) within passing)
      | else-row-index w ↦
          let missing : (d : Place) → is_from c.args.time (get_or c.args.row.now c.loop-index.index d) ≡ false = λ d. rw (same_read c.args.row.now c.loop-index.index d (record { pair = None; used = 0 }) within) (grind (arith, nat_tests, w.if-row-index.false)) in
          rw w.best-is (first_more (is_from c.args.time) c.args.row.now 0 c.loop-index.index c.loop-index.best c.loop-index.invariant missing)
    ]

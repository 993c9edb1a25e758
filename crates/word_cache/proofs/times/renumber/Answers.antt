use Rattle.std.proofs.Common.{◌≡◌, ◌≤◌, ℕ, true, get_or, refl, ap, ◌∙◌, arith}
use Rattle.std.proofs.lemmas.Bool.Decides.{nat_tests}
use Rattle.word_cache.specs.declared.row.Place.{Place}
use Rattle.word_cache.specs.Row.{is_from}
use Rattle.word_cache.proofs.TimeLemmas.{new_time, one_fewer, elsewhere_used, all_from, none_from}
use Rattle.word_cache.proofs.times.renumber.Goals as goal

pub loop-place-init : goal.loop-place-init
loop-place-init c =
    record { row = c.requires; pairs = refl; count = omega (arith, all_from 1 c.args.places.now c.requires.numbered, c.requires.whole); first = omega arith }

pub loop-place-smaller : goal.loop-place-smaller
loop-place-smaller c =
    let first = rw c.as_slice.ensures.value at c.in-Some.ensures in
    let from : c.loop-place.time ≤ (get_or c.loop-place.places c.in-Some.place c.at-pair.result).used = grind (arith, nat_tests, first.2 c.at-pair.result) in
    let later : (j : ℕ) (e : Place) → c.loop-place.time ≤ (get_or c.loop-place.places j e).used → is_from c.loop-place.time (get_or c.loop-place.places j e) ≡ true = λ j e h. grind (arith, nat_tests) in
    let other = elsewhere_used c.args.sets c.args.ways c.in-Some.place c.loop-place.time c.at-pair.result c.loop-place.places c.loop-place.invariant.row first.1 from (λ j e below h. first.3 j e c.at-pair.result (omega arith) below (later j e h)) in
    let fewer = one_fewer c.in-Some.place c.loop-place.time c.at-pair.result (record { pair = c.at-pair.result.pair; used = c.loop-place.time }) c.loop-place.places first.1 refl from other in
    rw c.set.ensures (omega (arith, fewer))

pub loop-place-preserved : goal.loop-place-preserved
loop-place-preserved c =
    let first = rw c.as_slice.ensures.value at c.in-Some.ensures in
    let from : c.loop-place.time ≤ (get_or c.loop-place.places c.in-Some.place c.at-pair.result).used = grind (arith, nat_tests, first.2 c.at-pair.result) in
    let later : (j : ℕ) (e : Place) → c.loop-place.time ≤ (get_or c.loop-place.places j e).used → is_from c.loop-place.time (get_or c.loop-place.places j e) ≡ true = λ j e h. grind (arith, nat_tests) in
    let other = elsewhere_used c.args.sets c.args.ways c.in-Some.place c.loop-place.time c.at-pair.result c.loop-place.places c.loop-place.invariant.row first.1 from (λ j e below h. first.3 j e c.at-pair.result (omega arith) below (later j e h)) in
    let fewer = one_fewer c.in-Some.place c.loop-place.time c.at-pair.result (record { pair = c.at-pair.result.pair; used = c.loop-place.time }) c.loop-place.places first.1 refl from other in
    let moved = new_time c.args.sets c.args.ways c.in-Some.place c.loop-place.time c.at-pair.result (record { pair = c.at-pair.result.pair; used = c.loop-place.time }) c.loop-place.places c.loop-place.invariant.row first.1 (ap (λ (p : Place). p.pair) (c.at-pair.ensures c.at-pair.result)) refl c.loop-place.invariant.first from (λ j e below h. first.3 j e c.at-pair.result (omega arith) below (later j e h)) in
    rw c.set.ensures
    record { row = moved.1; pairs = moved.0 ∙ c.loop-place.invariant.pairs; count = omega (arith, fewer, c.loop-place.invariant.count); first = omega (arith, c.loop-place.invariant.first) }

pub returns-clause-next : goal.returns-clause-next
returns-clause-next c =
    let none = rw c.as_slice.ensures.value at (rw c.in_default.is at c.least_from.ensures) in
    omega (arith, c.loop-place.invariant.count, none_from c.loop-place.time c.loop-place.places none)

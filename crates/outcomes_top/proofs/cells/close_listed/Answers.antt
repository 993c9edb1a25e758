use Rattle.std.proofs.Common.{◌≡◌, ℕ, take, length, if◌then◌else◌, ap, ◌∙◌, arith}
use Rattle.std.proofs.Math.Seq.{take-length}
use Rattle.common_outcomes.specs.Alone.{cell_at, closed_by}
use Rattle.outcomes_top.specs.Tracks.{is_listed}
use Rattle.outcomes_top.proofs.TrackLemmas.{all-closed}
use Rattle.outcomes_top.proofs.cells.close_listed.Goals as goal

pub returns : goal.returns
returns c =
    let S = c.args.place.now in
    let lock = c.args.lock in
    let listed = c.args.listed.now in
    let old = c.args.cells.now in
    let count : c.loop-word.word-index ≡ length listed = omega arith in
    let whole : take c.loop-word.word-index listed ≡ listed = ap (λ (i : ℕ). take i listed) count ∙ take-length listed in
    all-closed S lock old c.loop-word.cells listed c.requires c.loop-word.invariant.words
    (λ w. c.loop-word.invariant.each w ∙ ap (λ (xs : _). if is_listed xs w then closed_by S lock w (cell_at old w) else cell_at old w) whole)

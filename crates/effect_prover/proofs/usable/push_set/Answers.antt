use Rattle.std.proofs.Common.{◌||◌, sym, ap, ◌∙◌, subst}
use Rattle.std.specs.List.{All}
use Rattle.std.proofs.lemmas.List.Elements.{All-append}
use Rattle.region_table.specs.Words.{has}
use Rattle.region_table.proofs.WordLemmas.{has-append}
use Rattle.effect_prover.specs.Stretch.{HasWord}
use Rattle.effect_prover.proofs.StretchLemmas.{words-some}
use Rattle.effect_prover.proofs.usable.push_set.Goals as goal

pub returns-clause-some : goal.returns-clause-some
returns-clause-some c =
    let old = c.args.intervals.now.items in
    let own = subst (All HasWord) (sym c.intervals.ensures.value) (words-some 0 c.args.set.now c.intervals.ensures.canonical) in
    subst (All HasWord) (sym c.in_ok-extend_from_slice.ensures.items) (All-append HasWord old c.intervals.result.now c.requires own)

pub returns-clause-words : goal.returns-clause-words
returns-clause-words c = λ w.
    let old = c.args.intervals.now.items in
    ap (λ is. has is w) c.in_ok-extend_from_slice.ensures.items
    ∙ (has-append old c.intervals.result.now w ∙ ap (λ is. has old w || has is w) c.intervals.ensures.value)

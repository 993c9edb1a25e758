use Rattle.std.proofs.Common.{ltb, ap, sym, ◌∙◌}
use Rattle.std.specs.List.{find}
use Rattle.region_table.specs.declared.interval.Interval.{Interval}
use Rattle.region_table.proofs.WordLemmas.{has-found, has-missing}
use Rattle.region_table.proofs.words.WordSet.contains.Goals as goal

pub returns-in-Some : goal.returns-in-Some
returns-in-Some c =
    has-found 0 c.args.self.now c.args.word.0 c.in-Some.interval c.intervals.ensures.canonical
    (ap (λ s. find (λ (i : Interval). ltb c.args.word.0 i.hi) s) (sym c.intervals.ensures.value) ∙ sym c.first_past.ensures ∙ c.in-Some.is)

pub returns-in-None : goal.returns-in-None
returns-in-None c =
    sym (has-missing c.args.self.now c.args.word.0
    (ap (λ s. find (λ (i : Interval). ltb c.args.word.0 i.hi) s) (sym c.intervals.ensures.value) ∙ sym c.first_past.ensures ∙ c.in-None.is))

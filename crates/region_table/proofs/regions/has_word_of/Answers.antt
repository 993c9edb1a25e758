use Rattle.std.proofs.Common.{sym, ◌∙◌}
use Rattle.region_table.proofs.RegionLemmas.{overlaps-found, overlaps-missing}
use Rattle.region_table.proofs.regions.has_word_of.Goals as goal

pub returns-in-Some : goal.returns-in-Some
returns-in-Some c =
    overlaps-found 0 c.args.words.now c.args.region.now c.in-Some.interval c.requires.canonical (sym c.first_past.ensures ∙ c.in-Some.is)

pub returns-in-None : goal.returns-in-None
returns-in-None c = sym (overlaps-missing c.args.words.now c.args.region.now (sym c.first_past.ensures ∙ c.in-None.is))

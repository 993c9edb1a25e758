use Rattle.std.proofs.Common.{ap, ◌∙◌}
use Rattle.rv_assembler.specs.Source.{source}
use Rattle.rv_listing.specs.Listing.{listed_lines}
use Rattle.rv_listing.proofs.ListingLaw.{listing-again}
use Rattle.rv_listing.proofs.writing.listing.Goals as goal

pub returns-clause-again : goal.returns-clause-again
unfolding listed_lines
returns-clause-again c =
    λ names limits. ap source c.in_ok-text.ensures.text ∙ listing-again c.args.program.now c.in_ok-text.ensures.well_formed c.in_ok-text.ensures.words names limits

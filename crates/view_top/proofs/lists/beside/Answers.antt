use Rattle.std.proofs.Common.{◌++◌}
use Rattle.region_table.specs.Program.{ProgramParts}
use Rattle.checked_runs.specs.Documents.{shape_told}
use Rattle.view_top.specs.Status.{Output}
use Rattle.view_top.specs.Answers.{heading_of, text_of_numbers, IsBeside, IsListingOf}
use Rattle.view_top.proofs.Counted.{answer-is}
use Rattle.view_top.proofs.lists.beside.Goals as goal

pub returns : goal.returns
returns c =
    let k = c.args.kept.now in
    let o = c.args.options.now in
    let tallies = c.in_ok-listing.listing.tallies in
    answer-is k (λ (P : ProgramParts). IsListingOf P (shape_told P k.sizes) k.sizes.fuel k.run.events o.by tallies)
    (λ (P : ProgramParts). heading_of o.form k.run ++ text_of_numbers c.args.which o.form P tallies) (λ (P : ProgramParts) (out : Output). IsBeside c.args.which P k.sizes o k.run out)
    (λ P out counted answer. record { tallies = tallies; counted = counted; answer = answer }) c.print.result c.in_ok-listing.ensures.listing c.print.ensures

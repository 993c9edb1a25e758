use Rattle.view_top.specs.Answers.{text_of_numbers}
use Rattle.view_top.proofs.Counted.{printed-is}
use Rattle.view_top.proofs.lists.print.Goals as goal

pub returns : goal.returns
returns c =
    printed-is (text_of_numbers c.args.which) c.args.kept.now c.args.machine.now c.args.form c.args.listing.now.tallies c.table.result.now c.program.result.now c.in_ok-text.text.items c.push_numbers.new.out.items c.done_with.result
    c.requires.machine c.program.ensures c.table.ensures c.in_ok-text.ensures c.in_ok-push_numbers.ensures c.done_with.ensures

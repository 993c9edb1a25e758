use Rattle.run_account.specs.declared.measure.Measure as measure
use Rattle.run_account.specs.Events.{item_at, has_untold_copy}
use Rattle.run_account.specs.Account.{adding}
use Rattle.std.proofs.Common.{replicate}
use Rattle.std.specs.Prelude.{count_by}
use Rattle.run_account.proofs.Counted.{one-node}
use Rattle.run_account.proofs.account.Account.note_untold.Goals as goal

pub loop-core-preserved : goal.loop-core-preserved
loop-core-preserved c =
    one-node (has_untold_copy c.args.node.now c.args.word.0) (item_at measure.TheVariants.UntoldCopies c.args.node.now c.args.word) c.loop-core.self c.note_if_untold.new.self
    (adding c.args.self.now (replicate (count_by (has_untold_copy c.args.node.now c.args.word.0) c.args.machine.now.state.nodes) (item_at measure.TheVariants.UntoldCopies c.args.node.now c.args.word)))
    c.args.machine.now.state.nodes c.loop-core.core c.node.result.now c.node.ensures.node c.note_if_untold.ensures c.loop-core.invariant

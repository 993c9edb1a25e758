use Rattle.std.proofs.Common.{◌≡◌, drop, replicate}
use Rattle.std.specs.Prelude.{count_by}
use Rattle.run_account.specs.declared.measure.Measure as measure
use Rattle.run_account.specs.Events.{item_at, has_untold_copy}
use Rattle.run_account.specs.Account.{adding}
use Rattle.run_account.proofs.account.Account.note_untold.Given as goal

-- what is left to be counted leads to the end
abbrev pub invariant-loop-core : goal.invariant-loop-core
invariant-loop-core l =
    adding l.self (replicate (count_by (has_untold_copy l.node l.word.0) (drop l.core l.machine.state.nodes)) (item_at measure.TheVariants.UntoldCopies l.node l.word))
    ≡ adding l.fn.self (replicate (count_by (has_untold_copy l.node l.word.0) l.machine.state.nodes) (item_at measure.TheVariants.UntoldCopies l.node l.word))

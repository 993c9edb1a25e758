use Rattle.std.proofs.Common.{◌≡◌, ◌-◌}
use Rattle.run_account.specs.Copies.{pairs_noted}
use Rattle.run_account.proofs.Walks.{of_sets}
use Rattle.run_account.proofs.account.Account.note_copies.Given as goal

-- the sets that are left lead to the end
abbrev pub invariant-loop-set : goal.invariant-loop-set
invariant-loop-set l =
    pairs_noted l.machine.state l.node l.occasion l.words l.self (of_sets l.node.cache.sets l.set (l.node.cache.sets - l.set) l.node.cache.pairs)
    ≡ pairs_noted l.machine.state l.node l.occasion l.words l.fn.self (of_sets l.node.cache.sets 0 l.node.cache.sets l.node.cache.pairs)

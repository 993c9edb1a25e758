use Rattle.std.proofs.Common.{◌≡◌, ◌++◌, drop}
use Rattle.run_changes.specs.Changes.{entry_changes}
use Rattle.run_changes.proofs.parts.note_entries.Given as goal

abbrev pub invariant-loop-before : goal.invariant-loop-before
invariant-loop-before l = l.out.items ++ entry_changes l.node (drop l.before-index l.befores) ≡ l.fn.out.items ++ entry_changes l.node l.befores

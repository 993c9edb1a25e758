use Rattle.std.proofs.Common.{◌≡◌, ◌≤◌, replicate}
use Rattle.dn_machine.proofs.starting.zeros.Given as goal

abbrev pub invariant-loop-done : goal.invariant-loop-done
invariant-loop-done l = (l._done ≤ l.fn.count) × (l.numbers ≡ replicate l._done 0)

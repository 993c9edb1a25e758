use Rattle.std.proofs.Common.{◌-◌, ◌≡◌, ℕ, ◌+◌, ◌*◌, length, nat_lt, cond, Some, None}
use Rattle.queue_lock.specs.Lock.{free_lock}
use Rattle.registry_bank.proofs.Strides.{AreStrided}
use Rattle.registry_bank.proofs.bank.own_locks.Given as goal

abbrev pub invariant-loop-next : goal.invariant-loop-next
invariant-loop-next l = record {
  strided : AreStrided (λ (n : ℕ). cond (nat_lt n l.locks) (Some (free_lock l.cores)) None) l.bank l.banks l.homes.items;
  next : l.next ≡ l.bank + l.banks * length l.homes.items;
}

abbrev pub decreases-loop-next : goal.decreases-loop-next
decreases-loop-next l = l.locks - l.next

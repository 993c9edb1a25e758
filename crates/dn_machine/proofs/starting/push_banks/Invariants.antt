use Rattle.std.proofs.Common.{◌≡◌, ◌≤◌, ℕ, map}
use Rattle.std.specs.List.{range_with_len}
use Rattle.registry_bank.specs.Bank.{initial_bank}
use Rattle.dn_machine.proofs.starting.push_banks.Given as goal

abbrev pub invariant-loop-bank : goal.invariant-loop-bank
invariant-loop-bank l =
    (l.bank ≤ l.fn.shape.banks) × (l.banks.items ≡ map (λ (bank : ℕ). initial_bank bank l.fn.shape.banks l.fn.shape.cores l.fn.memory l.fn.locks) (range_with_len 0 l.bank))

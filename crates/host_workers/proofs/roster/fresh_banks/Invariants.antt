use Rattle.std.proofs.Common.{◌≡◌, ℕ, [], length, slice_get, Some}
use Rattle.host_workers.specs.declared.crew.BankLog.{BankLog}
use Rattle.host_workers.proofs.roster.fresh_banks.Given as goal

abbrev pub invariant-loop-number : goal.invariant-loop-number
invariant-loop-number l = record {
  count : length l.banks.items ≡ l.number;
  each : (i : ℕ) (b : BankLog) → slice_get l.banks.items i ≡ Some b → (b.bank.0 ≡ i) × (b.log.items ≡ []);
}

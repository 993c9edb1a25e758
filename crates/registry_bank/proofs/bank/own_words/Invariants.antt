use Rattle.std.proofs.Common.{length, ◌-◌, ◌≡◌, ℕ, ◌+◌, ◌*◌, slice_get}
use Rattle.registry_bank.specs.Bank.{first_word}
use Rattle.registry_bank.proofs.Strides.{AreStrided}
use Rattle.registry_bank.proofs.bank.own_words.Given as goal

abbrev pub invariant-loop-next : goal.invariant-loop-next
invariant-loop-next l = record {
  strided : AreStrided (λ (n : ℕ). first_word (slice_get l.memory n)) l.bank l.banks l.words.items;
  next : l.next ≡ l.bank + l.banks * length l.words.items;
}

abbrev pub decreases-loop-next : goal.decreases-loop-next
decreases-loop-next l = length l.memory - l.next

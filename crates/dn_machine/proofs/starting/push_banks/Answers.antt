use Rattle.std.proofs.Common.{ℕ, sym, ◌∙◌, arith}
use Rattle.registry_bank.specs.Bank.{initial_bank}
use Rattle.dn_machine.proofs.ListItems.{made-first}
use Rattle.dn_machine.proofs.starting.push_banks.Goals as goal

pub loop-bank-preserved : goal.loop-bank-preserved
loop-bank-preserved c =
    (omega arith, c.in_ok-push_bank.ensures ∙ (rw c.loop-bank.invariant.1 (sym (made-first (λ (bank : ℕ). initial_bank bank c.args.shape.banks c.args.shape.cores c.args.memory.now c.args.locks) c.loop-bank.bank))))

use Rattle.std.proofs.Common.{◌≡◌, List, length, refl, ap, arith}
use Rattle.std.proofs.lemmas.List.{with_items_is}
use Rattle.queue_lock.specs.Lock.{Lock}
use Rattle.registry_bank.specs.Bank.{BankParts, releases, bank_lock}
use Rattle.registry_bank.proofs.BankLemmas.{release_found}
use Rattle.registry_bank.proofs.bank.Bank.release.Goals as goal

row : (c : goal.After-self-1) → releases c.args.self.now c.args.lock c.args.core c.args.signature (bank_lock c.args.self.now c.args.lock.0) ≡ (record c.args.self.now { locks = c.release_at.new.locks }, c.release_at.result)
row c =
    rw (← c.self.view_is)
    (let found = rw (← c.self.view_is) at c.in_ok-index.ensures in
    let does = rw c.as_mut_slice.ensures.value at c.release_at.ensures in
    release_found (record { bank = c.self.inside.bank.0; banks = c.self.inside.banks; cores = c.self.inside.cores; words = c.self.inside.words.items; locks = c.self.inside.locks.items }) c.args.lock c.args.core c.args.signature c.in_ok-index.index c.release_at.new.locks c.release_at.result found does)

pub returns-clause-bank : goal.returns-clause-bank
returns-clause-bank c =
    let same : length c.release_at.new.locks ≡ c.self.inside.locks.len = omega (arith, c.release_at.auto.locks, c.as_mut_slice.ensures.len) in
    rw (row c, ← c.self.view_is)
    (ap (λ (ls : List Lock). let b : BankParts = record { bank = c.self.inside.bank.0; banks = c.self.inside.banks; cores = c.self.inside.cores; words = c.self.inside.words.items; locks = ls } in b) (with_items_is c.self.inside.locks c.release_at.new.locks same))

pub returns-clause-sent : goal.returns-clause-sent
returns-clause-sent c = rw (row c) refl

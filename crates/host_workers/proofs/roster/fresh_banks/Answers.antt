use Rattle.std.proofs.Common.{◌≡◌, ℕ, ◌+◌, [], length, slice_get, Some, sym, ap, ◌∙◌, subst, arith}
use Rattle.std.proofs.lemmas.List.{length_push}
use Rattle.host_workers.specs.declared.crew.BankLog.{BankLog}
use Rattle.host_workers.proofs.Dealing.{each-push}
use Rattle.host_workers.proofs.roster.fresh_banks.Goals as goal

pub loop-number-preserved : goal.loop-number-preserved
loop-number-preserved c =
    let had = c.loop-number.invariant in
    let items = c.in_ok-push.ensures.items in
    let one : BankLog = record { bank = record { 0 = c.loop-number.number }; log = c.new.result } in
    record {
      count = ap length items ∙ (length_push c.loop-number.banks.items one ∙ ap (λ n. n + 1) had.count);
      each = λ i b there.
          each-push (λ (k : ℕ) (x : BankLog). (x.bank.0 ≡ k) × (x.log.items ≡ []))
          c.loop-number.banks.items one had.each (sym had.count, c.new.ensures.items)
          i b (subst (λ l. slice_get l i ≡ Some b) items there);
    }

pub returns-clause-count : goal.returns-clause-count
returns-clause-count c = let count = c.loop-number.invariant.count in omega (arith, count)

pub returns-clause-places : goal.returns-clause-places
returns-clause-places c = λ i b there. (c.loop-number.invariant.each i b there).0

pub returns-clause-fresh : goal.returns-clause-fresh
returns-clause-fresh c = λ i b there. (c.loop-number.invariant.each i b there).1

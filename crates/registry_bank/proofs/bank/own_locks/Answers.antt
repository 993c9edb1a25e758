use Rattle.std.proofs.Common.{◌≡◌, ℕ, ◌+◌, ◌*◌, ◌≤◌, Some, None, true, cond, nat_lt, arith, length, refl}
use Rattle.std.proofs.lemmas.Bool.Decides.{nat_tests}
use Rattle.queue_lock.specs.Lock.{free_lock}
use Rattle.std.specs.Prelude.{replicate}
use Rattle.registry_bank.specs.Bank.{own_of}
use Rattle.registry_bank.proofs.Strides.{strided-push, strided-next}
use Rattle.registry_bank.proofs.Opened.{strided-same, opened-locks}
use Rattle.registry_bank.proofs.bank.own_locks.Goals as goal

pub loop-next-preserved : goal.loop-next-preserved
loop-next-preserved c =
    let items = c.in_ok-push.ensures.items in
    let below : nat_lt c.loop-next.next c.args.locks ≡ true = grind (arith, nat_tests, c.loop-next-test.true) in
    let here : cond (nat_lt (c.args.bank + c.args.banks * length c.loop-next.homes.items) c.args.locks) (Some (free_lock c.args.cores)) None ≡ Some c.in_ok-new.field-0 = rw (← c.loop-next.invariant.next, below, c.in_ok-new.ensures) refl in
    rw items record {
      strided = strided-push (λ (n : ℕ). cond (nat_lt n c.args.locks) (Some (free_lock c.args.cores)) None) c.args.bank c.args.banks c.loop-next.homes.items c.in_ok-new.field-0 c.loop-next.invariant.strided here;
      next = strided-next c.args.bank c.args.banks c.loop-next.next c.loop-next.homes.items c.in_ok-new.field-0 c.loop-next.invariant.next;
    }

pub returns : goal.returns
returns c =
    let whole : c.args.locks ≤ c.args.bank + c.args.banks * length c.loop-next.homes.items = omega (arith, c.loop-next.invariant.next, c.loop-next-test.false) in
    strided-same (λ (n : ℕ). cond (nat_lt n c.args.locks) (Some (free_lock c.args.cores)) None) c.args.bank c.args.banks c.args.locks c.loop-next.homes.items
    (own_of c.args.bank c.args.banks 0 (replicate c.args.locks (free_lock c.args.cores))) c.loop-next.invariant.strided whole
    (λ n past. grind (arith, nat_tests, past))
    (λ k. opened-locks c.args.bank c.args.banks c.args.cores c.args.locks k c.requires.bank)

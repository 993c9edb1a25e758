-- What the order of entries comes to.
use Rattle.std.proofs.Common.{◌≡◌, ℕ, ◌<◌, refl, arith}
use Rattle.std.specs.Cmp.{IsTotalOrder}
use Rattle.std.specs.Ordering.{nat_cmp, ordering_then}
use Rattle.std.specs.declared.cmp.Ordering.{Ordering}
use Rattle.std.specs.declared.cmp.Ordering.TheVariants.{Less, Equal, Greater}
use Rattle.std.proofs.lemmas.Cmp.{nat_cmp_total, on_total, then_total}
use Rattle.std.proofs.lemmas.Bool.Decides.{nat_tests}
use Rattle.message_net.specs.declared.actor.Actor.{Actor}
use Rattle.message_net.specs.declared.actor.Actor.TheVariants.{Core, Bank, Keeper}
use Rattle.message_net.specs.Order.{group, number, actor_order}
use Rattle.grant_log.specs.declared.log.Stamped.{Stamped}
use Rattle.grant_log.specs.Order.{entry_order, IsBefore}

-- the order is one in which any two entries compare
pub entry_order_total : IsTotalOrder entry_order
entry_order_total =
    then_total (on_total (λ (e : Stamped). e.stamp) nat_cmp_total)
    (then_total (on_total (λ (e : Stamped). group e.actor) nat_cmp_total) (on_total (λ (e : Stamped). number e.actor) nat_cmp_total))

-- numbers that compare as equal are
nat_equal : (a b : ℕ) → nat_cmp a b ≡ Equal → a ≡ b
nat_equal a b e = grind (arith, nat_tests)

-- two answers of which the second counts where the first is Equal
then_equal : (o p : Ordering) → ordering_then o p ≡ Equal → (o ≡ Equal) × (p ≡ Equal)
then_equal Less p e = cc
then_equal Equal p e = (refl, e)
then_equal Greater p e = cc

-- an actor is known by its group and its number
by_number : (a b : Actor) → group a ≡ group b → number a ≡ number b → a ≡ b
by_number (Core a) (Core b) e f = grind arith
by_number (Core a) (Bank b) e f = absurd (omega (arith, e))
by_number (Core a) Keeper e f = absurd (omega (arith, e))
by_number (Bank a) (Core b) e f = absurd (omega (arith, e))
by_number (Bank a) (Bank b) e f = grind arith
by_number (Bank a) Keeper e f = absurd (omega (arith, e))
by_number Keeper (Core b) e f = absurd (omega (arith, e))
by_number Keeper (Bank b) e f = absurd (omega (arith, e))
by_number Keeper Keeper e f = refl

actors_equal : (a b : Actor) → actor_order a b ≡ Equal → a ≡ b
actors_equal a b e =
    let parts = then_equal (nat_cmp (group a) (group b)) (nat_cmp (number a) (number b)) e in
    by_number a b (nat_equal (group a) (group b) parts.0) (nat_equal (number a) (number b) parts.1)

-- entries that compare as equal have one stamp and one actor
pub tied : (a b : Stamped) → entry_order a b ≡ Equal → (a.stamp ≡ b.stamp) × (a.actor ≡ b.actor)
tied a b e =
    let parts = then_equal (nat_cmp a.stamp b.stamp) (actor_order a.actor b.actor) e in
    (nat_equal a.stamp b.stamp parts.0, actors_equal a.actor b.actor parts.1)

-- an entry with a smaller stamp stands before
pub by_stamp : (a b : Stamped) → a.stamp < b.stamp → IsBefore a b
by_stamp a b less = by_ranked (nat_cmp a.stamp b.stamp) refl where
  by_ranked : (o : Ordering) → nat_cmp a.stamp b.stamp ≡ o → IsBefore a b
  by_ranked Less e = rw e refl
  by_ranked Equal e = absurd (omega (arith, less, nat_equal a.stamp b.stamp e))
  by_ranked Greater e = absurd (grind (arith, nat_tests))

-- The order of actors.
use Rattle.std.specs.Prelude.{ℕ}
use Rattle.std.specs.declared.cmp.Ordering.{Ordering}
use Rattle.std.specs.Ordering.{nat_cmp, ordering_then}
use Rattle.message_net.specs.declared.actor.Actor.{Actor}
use Rattle.message_net.specs.declared.actor.Actor.TheVariants.{Core, Bank, Keeper}

-- an actor's group, and its number in it
abbrev pub group : Actor → ℕ
group (Core core) = 0
group (Bank bank) = 1
group Keeper = 2

abbrev pub number : Actor → ℕ
number (Core core) = core.0
number (Bank bank) = bank.0
number Keeper = 0

-- cores come first, then banks, each by number, then the keeper
abbrev pub actor_order : Actor → Actor → Ordering
actor_order a b = ordering_then (nat_cmp (group a) (group b)) (nat_cmp (number a) (number b))

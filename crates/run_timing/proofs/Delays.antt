-- A message is under way for at most 6,000,000 ticks.
use Rattle.std.proofs.Common.{◌≡◌, ℕ, ◌+◌, ◌-◌, ◌*◌, ◌/◌, ◌%◌, ◌<◌, ◌≤◌, true, arith, mul-le-mul}
use Rattle.std.specs.Int.{IsInRange}
use Rattle.std.proofs.Math.Nat.{div-lt_iff_lt-mul}
use Rattle.std.proofs.lemmas.Bool.Decides.{nat_tests}
use Rattle.dn_base.specs.declared.ids.Shape.{Shape}
use Rattle.message_net.specs.declared.actor.Actor.{Actor}
use Rattle.message_net.specs.declared.actor.Actor.TheVariants.{Core, Bank, Keeper}
use Rattle.message_net.specs.Mail.{has_actor}
use Rattle.run_timing.specs.declared.network.Net.{Net}
use Rattle.run_timing.specs.declared.network.Net.TheVariants.{Uniform, Mesh}
use Rattle.run_timing.specs.declared.network.Network.{Network}
use Rattle.run_timing.specs.Network.{tile_of, tile_column, tile_row, difference, hops, delay, IsWithinLatency}

-- an actor of the machine is on a tile of the mesh
tile-within : (shape : Shape) (a : Actor) → shape.cores ≤ 16 → IsInRange 1 16 shape.banks → has_actor shape.cores shape.banks a ≡ true → tile_of shape a < 16
tile-within shape (Core core) cores banks there = grind (arith, nat_tests)
tile-within shape (Bank bank) cores banks there =
    let below : bank.0 < shape.banks = grind (arith, nat_tests) in
    (div-lt_iff_lt-mul (omega (arith, below))).1 (omega (arith, below))
tile-within shape Keeper cores banks there = omega arith

hops-most : (net : Net) (shape : Shape) (a b : Actor) → tile_of shape a < 16 → tile_of shape b < 16 → hops net shape a b ≤ 6
hops-most Uniform shape a b from to = omega arith
hops-most Mesh shape a b from to = omega (arith, from, to)

times : (latency count : ℕ) → latency ≤ 1000000 → count ≤ 6 → latency * count ≤ 6000000
times latency count low few = mul-le-mul low few

pub delay-most : (network : Network) (shape : Shape) (a b : Actor) → shape.cores ≤ 16 → IsInRange 1 16 shape.banks → IsWithinLatency network
    → has_actor shape.cores shape.banks a ≡ true → has_actor shape.cores shape.banks b ≡ true → delay network shape a b ≤ 6000000
delay-most network shape a b cores banks low from to =
    times network.latency (hops network.net shape a b) low (hops-most network.net shape a b (tile-within shape a cores banks from) (tile-within shape b cores banks to))

-- How long a message is under way: its network's latency for each hop.
use Rattle.std.specs.Prelude.{◌≡◌, ℕ, ◌+◌, ◌-◌, ◌*◌, ◌/◌, ◌%◌, ◌==◌, ◌≤◌, Option, Some, None, if◌then◌else◌}
use Rattle.dn_base.specs.declared.ids.Shape.{Shape}
use Rattle.message_net.specs.declared.actor.Actor.{Actor}
use Rattle.message_net.specs.declared.actor.Actor.TheVariants.{Core, Bank, Keeper}
use Rattle.run_timing.specs.declared.network.Net.{Net}
use Rattle.run_timing.specs.declared.network.Net.TheVariants.{Uniform, Mesh}
use Rattle.run_timing.specs.declared.network.Network.{Network}

-- the tile of an actor on a mesh of 4 × 4 tiles: core i is on tile i, the banks are spread over the tiles in their order, and the
-- barrier controller is on tile 5
abbrev pub tile_of : Shape → Actor → ℕ
tile_of shape (Core core) = core.0
tile_of shape (Bank bank) = (16 * bank.0) / shape.banks
tile_of shape Keeper = 5

-- the column and the row of a tile
abbrev pub tile_column : ℕ → ℕ
tile_column tile = tile % 4

abbrev pub tile_row : ℕ → ℕ
tile_row tile = tile / 4

-- how far two numbers are apart
abbrev pub difference : ℕ → ℕ → ℕ
difference a b = (a - b) + (b - a)

-- how many hops a message takes: one in a uniform network; in a mesh as many as columns and rows are between the two tiles
abbrev pub hops : Net → Shape → Actor → Actor → ℕ
hops Uniform shape from to = 1
hops Mesh shape from to =
    difference (tile_column (tile_of shape from)) (tile_column (tile_of shape to)) + difference (tile_row (tile_of shape from)) (tile_row (tile_of shape to))

-- how many ticks a message is under way
abbrev pub delay : Network → Shape → Actor → Actor → ℕ
delay network shape from to = network.latency * hops network.net shape from to

-- messages take no time on their way
abbrev pub no_latency : Network
no_latency = record { net = Uniform; latency = 0 }

-- how much messages are under way, told of a network with a latency alone
abbrev pub told_delay : Network → ℕ → Option ℕ
told_delay network n = if network.latency == 0 then None else Some n

-- a hop takes at most 1,000,000 ticks
abbrev pub IsWithinLatency : Network → Type 0
IsWithinLatency network = network.latency ≤ 1000000

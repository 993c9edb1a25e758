-- The command `denovo`: its options, which command words it takes, and what they ask for.
use Rattle.std.specs.Prelude.{◌≡◌, ℕ, ◌==◌, Bool, List, codes, bytes_eq, Option, Some, None, option_and_then, if◌then◌else◌}
use Rattle.std.specs.Int.{IsInRange}
use Rattle.clap.specs.Walk.{Row, Text, first_of}
use Rattle.clap.specs.Simple.{App, new_app, with_rule}
use Rattle.run_timing.specs.declared.network.Net.{Net}
use Rattle.run_timing.specs.declared.network.Net as net
use Rattle.dn_top.specs.declared.options.Mode.{Mode}
use Rattle.dn_top.specs.declared.options.Mode as mode
use Rattle.dn_top.specs.declared.options.Order.{Order}
use Rattle.dn_top.specs.declared.options.Order as order
use Rattle.dn_top.specs.declared.options.Options.{Options}
use Rattle.program_outside.specs.Words.{bare, faults_in, number_in, number_rule, switch_in, text_rule, values_in, where_taken}

-- the command `denovo` with its fifteen options
unfoldable pub command : App
command =
    with_rule (with_rule (with_rule (with_rule (with_rule (with_rule (with_rule (with_rule (with_rule (with_rule (with_rule (with_rule (with_rule (with_rule (with_rule (bare (new_app (codes "denovo")))
    (text_rule (codes "mode") (codes "run")))
    (text_rule (codes "addresses") (codes "off")))
    (number_rule (codes "seed") (codes "1")))
    (number_rule (codes "workers") (codes "1")))
    (number_rule (codes "banks") (codes "4")))
    (number_rule (codes "sets") (codes "64")))
    (number_rule (codes "ways") (codes "4")))
    (number_rule (codes "fuel") (codes "32768")))
    (number_rule (codes "size") (codes "4")))
    (number_rule (codes "tick-core") (codes "1")))
    (number_rule (codes "tick-bank") (codes "10")))
    (number_rule (codes "tick-mail") (codes "5")))
    (text_rule (codes "order") (codes "seed")))
    (number_rule (codes "latency") (codes "0")))
    (text_rule (codes "net") (codes "uniform"))

-- the mode with this name
abbrev pub mode_named : Text → Option Mode
mode_named text =
    if bytes_eq text (codes "run") then Some mode.TheVariants.Run
    else if bytes_eq text (codes "work") then Some mode.TheVariants.Work
    else if bytes_eq text (codes "check") then Some mode.TheVariants.Check
    else if bytes_eq text (codes "list") then Some mode.TheVariants.List
    else if bytes_eq text (codes "flat") then Some mode.TheVariants.Flat
    else if bytes_eq text (codes "trace") then Some mode.TheVariants.Trace
    else if bytes_eq text (codes "replay") then Some mode.TheVariants.Replay
    else if bytes_eq text (codes "time") then Some mode.TheVariants.Time
    else if bytes_eq text (codes "prove") then Some mode.TheVariants.Prove
    else None

-- the mode that the command's values name
abbrev pub mode_in : List Row → Option Mode
mode_in rows = option_and_then mode_named (first_of (codes "mode") rows)

-- the order with this name
abbrev pub order_named : Text → Option Order
order_named text =
    if bytes_eq text (codes "seed") then Some order.TheVariants.Seed
    else if bytes_eq text (codes "time") then Some order.TheVariants.Time
    else None

-- a run in time order is made by one worker
abbrev pub order_by : ℕ → Order → Option Order
order_by workers order.TheVariants.Seed = Some order.TheVariants.Seed
order_by workers order.TheVariants.Time = if workers == 1 then Some order.TheVariants.Time else None

-- the order that the command's values name, for this many workers
abbrev pub order_in : ℕ → List Row → Option Order
order_in workers rows = option_and_then (order_by workers) (option_and_then order_named (first_of (codes "order") rows))

-- the network with this name
abbrev pub net_named : Text → Option Net
net_named text =
    if bytes_eq text (codes "uniform") then Some net.TheVariants.Uniform
    else if bytes_eq text (codes "mesh") then Some net.TheVariants.Mesh
    else None

-- the network that the command's values name
abbrev pub net_in : List Row → Option Net
net_in rows = option_and_then net_named (first_of (codes "net") rows)

-- the options that the command's values give, if the mode is one of the nine, each number is in its range, a run in time order has
-- one worker, and the network is one of the two
unfoldable pub options_from : List Row → Option Options
options_from rows =
    option_and_then (λ (mode : Mode).
    option_and_then (λ (addresses : Bool).
    option_and_then (λ (seed : ℕ).
    option_and_then (λ (workers : ℕ).
    option_and_then (λ (banks : ℕ).
    option_and_then (λ (sets : ℕ).
    option_and_then (λ (ways : ℕ).
    option_and_then (λ (fuel : ℕ).
    option_and_then (λ (size : ℕ).
    option_and_then (λ (tick_core : ℕ).
    option_and_then (λ (tick_bank : ℕ).
    option_and_then (λ (tick_mail : ℕ).
    option_and_then (λ (order : Order).
    option_and_then (λ (latency : ℕ).
    option_and_then (λ (net : Net).
    Some (record { mode = mode; addresses = addresses; order = order; seed = seed; workers = workers; banks = banks; sets = sets; ways = ways; fuel = fuel; size = size; tick_core = tick_core; tick_bank = tick_bank; tick_mail = tick_mail; latency = latency; net = net }))
    (net_in rows))
    (number_in rows (codes "latency") 0 1000000))
    (order_in workers rows))
    (number_in rows (codes "tick-mail") 1 1000000))
    (number_in rows (codes "tick-bank") 1 1000000))
    (number_in rows (codes "tick-core") 1 1000000))
    (number_in rows (codes "size") 1 128))
    (number_in rows (codes "fuel") 1 32768))
    (number_in rows (codes "ways") 1 16))
    (number_in rows (codes "sets") 1 256))
    (number_in rows (codes "banks") 1 16))
    (number_in rows (codes "workers") 1 16))
    (number_in rows (codes "seed") 0 4294967295))
    (switch_in rows (codes "addresses")))
    (mode_in rows)

-- the options that these words ask for, if the command takes the words
unfoldable pub options_of : List Text → Option Options
options_of words = where_taken (faults_in command words) (options_from (values_in command words))

-- each number is within its limits
pub record OptionsInRange (o : Options) : Type 0 where
  pub workers : IsInRange 1 16 o.workers
  pub banks : IsInRange 1 16 o.banks
  pub sets : IsInRange 1 256 o.sets
  pub ways : IsInRange 1 16 o.ways
  pub fuel : IsInRange 1 32768 o.fuel
  pub size : IsInRange 1 128 o.size
  pub tick_core : IsInRange 1 1000000 o.tick_core
  pub tick_bank : IsInRange 1 1000000 o.tick_bank
  pub tick_mail : IsInRange 1 1000000 o.tick_mail
  pub latency : IsInRange 0 1000000 o.latency
  pub alone : o.order ≡ order.TheVariants.Time → o.workers ≡ 1

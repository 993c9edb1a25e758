-- Where the columns of a chart stand.
use Rattle.std.specs.Prelude.{◌≡◌, ℕ, ◌+◌, ◌-◌, ◌<◌, Bool, true, false, ◌&&◌, nat_lt, List, slice_get, Option, Some, None, count_by, if◌then◌else◌}
use Rattle.std.specs.List.{range_with_len}
use Rattle.dn_base.specs.declared.ids.Shape.{Shape}
use Rattle.message_net.specs.declared.actor.Actor.{Actor}
use Rattle.message_net.specs.declared.actor.Actor.TheVariants.{Core, Bank, Keeper}
use Rattle.message_net.specs.Mail.{actor_index}
use Rattle.run_chart.specs.declared.parts.Chart.{Chart}
use Rattle.run_chart.specs.Elements.{x_of}

-- the actor with an index: cores come first, then banks, then the keeper
abbrev pub actor_with : Shape → ℕ → Actor
actor_with shape index =
    if nat_lt index shape.cores then Core (record { 0 = index })
    else if nat_lt index (shape.cores + shape.banks) then Bank (record { 0 = index - shape.cores })
    else Keeper

-- whether the actor with an index has a column
abbrev pub shown_at : Option Bool → Bool
shown_at None = false
shown_at (Some shown) = shown

abbrev pub is_shown : List Bool → ℕ → Bool
is_shown shown index = shown_at (slice_get shown index)

-- how many of the 32 possible cores and banks have a column and a lower index
abbrev pub shown_below : List Bool → ℕ → ℕ
shown_below shown index = count_by (λ (i : ℕ). nat_lt i index && is_shown shown i) (range_with_len 0 32)

-- the number of an actor's column: the cores that are shown come first, then the banks that are, then the keeper
abbrev pub place_of : Chart → Actor → ℕ
place_of chart actor = shown_below chart.shown (actor_index chart.shape.cores chart.shape.banks actor)

-- its middle
abbrev pub column : Chart → Actor → ℕ
column chart actor = x_of (place_of chart actor)

-- whether an actor has a column
abbrev pub IsShownAt : List Bool → ℕ → Type 0
IsShownAt shown index = (index < 32) × (is_shown shown index ≡ true)

abbrev pub HasColumn : Chart → Actor → Type 0
HasColumn chart (Core core) = (core.0 < chart.shape.cores) × IsShownAt chart.shown core.0
HasColumn chart (Bank bank) = (bank.0 < chart.shape.banks) × IsShownAt chart.shown (chart.shape.cores + bank.0)
HasColumn chart Keeper = Unit {0}

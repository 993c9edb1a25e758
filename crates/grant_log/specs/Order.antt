-- The order of the entries of all logs.
use Rattle.std.specs.Prelude.{◌≡◌}
use Rattle.std.specs.declared.cmp.Ordering.{Ordering}
use Rattle.std.specs.declared.cmp.Ordering.TheVariants.{Less}
use Rattle.std.specs.Ordering.{nat_cmp, ordering_then}
use Rattle.message_net.specs.Order.{actor_order}
use Rattle.grant_log.specs.declared.log.Stamped.{Stamped}

-- entries are ordered by their stamps, and those with the same stamp by their actors
abbrev pub entry_order : Stamped → Stamped → Ordering
entry_order a b = ordering_then (nat_cmp a.stamp b.stamp) (actor_order a.actor b.actor)

abbrev pub IsBefore : Stamped → Stamped → Type 0
IsBefore a b = entry_order a b ≡ Less

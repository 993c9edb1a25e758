-- The account while a core's copies are looked at one by one, at a Go or at a Grant.
use Rattle.std.specs.Prelude.{ℕ, Bool, ◌&&◌, not, List, if◌then◌else◌}
use Rattle.std.specs.List.{fold}
use Rattle.region_table.specs.declared.interval.Interval.{Interval}
use Rattle.write_signature.specs.Signature.{may_hold}
use Rattle.word_cache.specs.Cache.{Pair, is_valid}
use Rattle.registration_protocol.specs.Node.{NodeParts}
use Rattle.machine_rules.specs.State.{State}
use Rattle.run_account.specs.Tallies.{with_items}
use Rattle.run_account.specs.declared.departure.Departure.{Departure}
use Rattle.run_account.specs.declared.departure.Departure.TheVariants as why
use Rattle.run_account.specs.declared.departure.Occasion.{Occasion}
use Rattle.run_account.specs.declared.departure.Occasion.TheVariants.{Go, Grant}
use Rattle.run_account.specs.Departures.{Departures, departed}
use Rattle.run_account.specs.Events.{remains, pair_items}
use Rattle.run_account.specs.Account.{Accounted}

-- whether a pair is a copy that is dropped, and why
abbrev pub has_gone : NodeParts → Occasion → List Interval → Pair → Bool
has_gone n o words p = is_valid p.1 && not (remains n o words p)

abbrev pub why_at : Occasion → Departure
why_at Go = why.Phase
why_at (Grant signature) = why.Lock

abbrev pub gone_pair : NodeParts → Occasion → List Interval → Departures → Pair → Departures
gone_pair n o words D p = if has_gone n o words p then departed D n.core p.0.0 (why_at o) else D

-- one pair, and several
unfoldable pub pair_noted : State → NodeParts → Occasion → List Interval → Accounted → Pair → Accounted
pair_noted S n o words A p =
    record A { tallies = with_items A.tallies (pair_items S n o words p); departures = gone_pair n o words A.departures p }

abbrev pub pairs_noted : State → NodeParts → Occasion → List Interval → Accounted → List Pair → Accounted
pairs_noted S n o words A ps = fold (pair_noted S n o words) A ps

-- whether a copy of one of the words stays
abbrev pub spared : NodeParts → Occasion → ℕ → Bool → Bool
spared n Go w marked = marked
spared n (Grant signature) w marked = not (may_hold signature w n.phase)

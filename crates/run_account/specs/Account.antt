-- The account of a run: the items of its events, and their numbers.
use Rattle.std.specs.Prelude.{ℕ, nat_lt, Bool, List, [], ◌∷◌, ◌++◌}
use Rattle.message_net.specs.declared.event.Event.{Event}
use Rattle.machine_rules.specs.State.{State}
use Rattle.machine_rules.specs.Next.{next}
use Rattle.run_account.specs.declared.item.Item.{Item}
use Rattle.run_account.specs.declared.item.Grouping.{Grouping}
use Rattle.run_account.specs.declared.measure.Measure.{Measure}
use Rattle.run_account.specs.Measure.{measure_index}
use Rattle.run_account.specs.Items.{regions_from, groups_in, count_in, items_of_measure, sum_of_groups}
use Rattle.run_account.specs.Tallies.{Tallies, no_tallies, with_items}
use Rattle.registration_protocol.specs.Node.{Setting}
use Rattle.run_account.specs.Departures.{Departures, no_departures, departures_after}
use Rattle.run_account.specs.Handings.{Handings, no_handings, handings_after}
use Rattle.run_account.specs.Events.{items_in}

-- the items of the events from a state on, event by event
abbrev pub items_from : State → Departures → Handings → List Event → List Item
items_from S D H [] = []
items_from S D H (e ∷ es) = items_in S D H e ++ items_from (next S e) (departures_after S e D) (handings_after S e H) es

-- the items of a run's events
abbrev pub items_of_run : State → List Event → List Item
items_of_run S events = items_from S (no_departures S.setting) (no_handings S.setting) events

-- the number of a measure in a group of a run, and in the whole run
abbrev pub number_in_run : Grouping → Measure → ℕ → State → List Event → ℕ
number_in_run by m group S events = count_in (regions_from 0 S.setting.program.regions) by m group (items_of_run S events)

abbrev pub number_of_run : Measure → State → List Event → ℕ
number_of_run m S events = items_of_measure m (items_of_run S events)

-- the sum of the numbers of all groups of a run
abbrev pub sum_of_run : Grouping → Measure → State → List Event → ℕ
sum_of_run by m S events =
    sum_of_groups (regions_from 0 S.setting.program.regions) by (groups_in S.setting.program S.setting.shape.cores by) m (items_of_run S events)

-- whether each item of a measure of an account has a word: all but those of grants
abbrev pub is_of_words : Measure → Bool
is_of_words m = nat_lt (measure_index m) 24

-- the account of the events so far: the table of its numbers, what last happened to each core's entries, and how each lock was
-- last granted
pub record Accounted : Type 0 where
  pub tallies : Tallies
  pub departures : Departures
  pub handings : Handings

abbrev pub no_account : Setting → Grouping → Accounted
no_account C by = record { tallies = no_tallies C.program C.shape.cores by; departures = no_departures C; handings = no_handings C }

-- the same with these items added
abbrev pub adding : Accounted → List Item → Accounted
adding A items = record A { tallies = with_items A.tallies items }

-- the same after an event that comes in a state, and after several
unfoldable pub account_after : State → Event → Accounted → Accounted
account_after S e A = record {
  tallies = with_items A.tallies (items_in S A.departures A.handings e);
  departures = departures_after S e A.departures;
  handings = handings_after S e A.handings;
}

abbrev pub account_of_run : State → Accounted → List Event → Accounted
account_of_run S A [] = A
account_of_run S A (e ∷ es) = account_of_run (next S e) (account_after S e A) es

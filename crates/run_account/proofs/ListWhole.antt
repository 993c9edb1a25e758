-- The count of a run is the count of its items.
use Rattle.std.proofs.Common.{◌≡◌, ℕ, ◌<◌, List, [], ◌∷◌, ◌++◌, refl, sym, ap, ◌∙◌}
use Rattle.message_net.specs.declared.event.Event.{Event}
use Rattle.machine_rules.specs.State.{State}
use Rattle.machine_rules.specs.Next.{next}
use Rattle.run_account.specs.declared.item.Grouping.{Grouping}
use Rattle.run_account.specs.declared.measure.Measure.{Measure}
use Rattle.run_account.specs.Items.{groups_in}
use Rattle.run_account.specs.Tallies.{Tallies, capped, tally_of, with_items}
use Rattle.run_account.proofs.Numbers.{number-is}
use Rattle.run_account.proofs.Tallied.{items-then}
use Rattle.run_account.specs.Runs.{event_items, next_lists, listed_from, listed_of_run, number_with_lists, Listed, nothing_listed, listed_after, count_of_run}

run-tallies : (events : List Event) (S : State) (A : Listed) → (count_of_run S A events).tallies ≡ with_items A.tallies (listed_from S A.lists events)
unfolding listed_after
run-tallies [] S A = refl
run-tallies (e ∷ es) S A = run-tallies es (next S e) (listed_after S e A) ∙ one where
  one : with_items (listed_after S e A).tallies (listed_from (next S e) (listed_after S e A).lists es)
      ≡ with_items A.tallies (event_items S A.lists e ++ listed_from (next S e) (next_lists S e A.lists) es)
  one = sym (items-then A.tallies (event_items S A.lists e) (listed_from (next S e) (next_lists S e A.lists) es))

pub number-of-run : (S : State) (events : List Event) (by : Grouping) (m : Measure) (group : ℕ) → group < groups_in S.setting.program S.setting.shape.cores by
    → tally_of m group (count_of_run S (nothing_listed S.setting by) events).tallies ≡ capped (number_with_lists by m group S events)
number-of-run S events by m group inside =
    ap (λ (t : Tallies). tally_of m group t) (run-tallies events S (nothing_listed S.setting by))
    ∙ number-is S.setting.program S.setting.shape.cores by (listed_of_run S events) m group inside

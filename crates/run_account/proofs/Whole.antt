-- The account of a run is the account of its items.
use Rattle.std.proofs.Common.{◌≡◌, ℕ, suc, ◌+◌, ◌<◌, true, length, get_or, drop, List, [], ◌∷◌, ◌++◌, Option, Some, refl, sym, ap, subst, ◌∙◌, arith}
use Rattle.std.proofs.Math.Seq.{drop-cons}
use Rattle.message_net.specs.declared.event.Event.{Event}
use Rattle.message_net.specs.declared.actor.Actor.{Actor}
use Rattle.machine_rules.specs.declared.stepped.Stepped.{Stepped}
use Rattle.dn_machine.specs.Tried.{IsTried, HasStepped}
use Rattle.machine_rules.specs.State.{State}
use Rattle.machine_rules.specs.Next.{next, enabled}
use Rattle.machine_rules.specs.Runs.{IsRun}
use Rattle.machine_rules.proofs.RunsKept.{same-setting}
use Rattle.run_account.specs.declared.item.Grouping.{Grouping}
use Rattle.run_account.specs.declared.measure.Measure.{Measure}
use Rattle.run_account.specs.Items.{groups_in}
use Rattle.run_account.specs.Tallies.{Tallies, capped, tally_of, with_items}
use Rattle.run_account.proofs.Numbers.{number-is}
use Rattle.run_account.specs.Events.{items_in}
use Rattle.run_account.specs.Departures.{departures_after}
use Rattle.run_account.specs.Handings.{handings_after}
use Rattle.run_account.specs.Account.{Accounted, items_from, items_of_run, number_in_run, no_account, account_after, account_of_run}
use Rattle.run_account.proofs.Tallied.{items-then}

run-tallies : (events : List Event) (S : State) (A : Accounted) → (account_of_run S A events).tallies ≡ with_items A.tallies (items_from S A.departures A.handings events)
unfolding account_after
run-tallies [] S A = refl
run-tallies (e ∷ es) S A = run-tallies es (next S e) (account_after S e A) ∙ one where
  one : with_items (account_after S e A).tallies (items_from (next S e) (account_after S e A).departures (account_after S e A).handings es)
      ≡ with_items A.tallies (items_in S A.departures A.handings e ++ items_from (next S e) (departures_after S e A.departures) (handings_after S e A.handings) es)
  one = sym (items-then A.tallies (items_in S A.departures A.handings e) (items_from (next S e) (departures_after S e A.departures) (handings_after S e A.handings) es))

pub number-of-run : (S : State) (events : List Event) (by : Grouping) (m : Measure) (group : ℕ) → group < groups_in S.setting.program S.setting.shape.cores by
    → tally_of m group (account_of_run S (no_account S.setting by) events).tallies ≡ capped (number_in_run by m group S events)
number-of-run S events by m group inside =
    ap (λ (t : Tallies). tally_of m group t) (run-tallies events S (no_account S.setting by))
    ∙ number-is S.setting.program S.setting.shape.cores by (items_of_run S events) m group inside

-- one event more of a list
drop-next : (es : List Event) (i : ℕ) (d : Event) → i < length es → drop i es ≡ get_or es i d ∷ drop (i + 1) es
drop-next es i d inside =
    let next : suc i ≡ i + 1 = omega arith in
    drop-cons es i d inside ∙ ap (λ (k : ℕ). get_or es i d ∷ drop k es) next

pub tried-some : (S T : State) (e : Event) (came : Option (Actor × Stepped)) (x : Actor × Stepped) → came ≡ Some x → IsTried S T e came → HasStepped S T e x
tried-some S T e came x is tried = subst (λ (o : Option (Actor × Stepped)). IsTried S T e o) is tried

-- an event leaves the setting
pub setting-next : (S T : State) (e : Event) → T ≡ next S e → T.setting ≡ S.setting
setting-next S T e is = ap (λ (U : State). U.setting) is ∙ same-setting S e

pub one-led : (S T : State) (A B X : Accounted) (es : List Event) (i : ℕ) (d : Event) → i < length es → T ≡ next S (get_or es i d) → B ≡ account_after S (get_or es i d) A
    → account_of_run S A (drop i es) ≡ X → account_of_run T B (drop (i + 1) es) ≡ X
one-led S T A B X es i d inside moved pair_noted led =
    ap (λ (U : State). account_of_run U B (drop (i + 1) es)) moved ∙ ap (λ (C : Accounted). account_of_run (next S (get_or es i d)) C (drop (i + 1) es)) pair_noted
    ∙ ap (λ (fs : List Event). account_of_run S A fs) (sym (drop-next es i d inside)) ∙ led

pub one-comes : (S T : State) (X : Type 0) (es : List Event) (i : ℕ) (d : Event) → i < length es → T ≡ next S (get_or es i d) → enabled S (get_or es i d) ≡ true
    → (IsRun S (drop i es) → X) → IsRun T (drop (i + 1) es) → X
one-comes S T X es i d inside moved may before run =
    before (subst (λ (fs : List Event). IsRun S fs) (sym (drop-next es i d inside)) (may, subst (λ (U : State). IsRun U (drop (i + 1) es)) moved run))

pub one-came : (S T : State) (X : Type 0) (es : List Event) (i : ℕ) (d : Event) → i < length es → T ≡ next S (get_or es i d)
    → (X → IsRun S (drop i es)) → X → IsRun T (drop (i + 1) es)
one-came S T X es i d inside moved before x =
    subst (λ (U : State). IsRun U (drop (i + 1) es)) (sym moved) (subst (λ (fs : List Event). IsRun S fs) (drop-next es i d inside) (before x)).1

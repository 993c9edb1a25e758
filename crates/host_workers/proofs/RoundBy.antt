-- A round that workers made goes on with a run, and has an event where one may come.
use Rattle.std.proofs.Common.{◌≡◌, ◌≢◌, ℕ, ◌+◌, true, List, [], ◌∷◌, ◌++◌, length, map, slice_get, None, refl, sym, ap, subst, ◌∙◌, true≢false}
use Rattle.std.specs.Prelude.{filter}
use Rattle.message_net.specs.declared.message.Mail.{Mail}
use Rattle.message_net.specs.declared.event.Event.{Event}
use Rattle.grant_log.specs.declared.log.Stamped.{Stamped}
use Rattle.grant_log.specs.Log.{grants_in, of_actor}
use Rattle.registration_protocol.specs.Node.{Setting}
use Rattle.registration_protocol.specs.OwnEvents.{own_event}
use Rattle.machine_rules.specs.State.{State}
use Rattle.machine_rules.specs.Next.{enabled}
use Rattle.machine_rules.specs.Runs.{after, IsRun, read_off, grants_of, kinds_of}
use Rattle.dn_machine.specs.Kept.{Made}
use Rattle.dn_machine.specs.Parts.{IsReordered}
use Rattle.dn_machine.specs.Pick.{pick, picked, known_events, handlings}
use Rattle.dn_machine.proofs.PickLaws.{known-own, pick-none}
use Rattle.message_net.specs.declared.actor.Actor.{Actor}
use Rattle.message_net.specs.declared.actor.Actor.TheVariants.{Core}
use Rattle.host_workers.specs.Beginnings.{AllHaveActed, HasEvent}
use Rattle.host_workers.specs.Rounds as rules
use Rattle.host_workers.specs.Rounds.{IsReached, events_of, noted_kind, end_observed}
use Rattle.host_workers.proofs.Reaching.{reached-machine, reached-setting}
use Rattle.host_workers.specs.declared.round.Round.{Round}
use Rattle.host_workers.specs.Opening.{StandsFor}
use Rattle.host_workers.specs.MadeRounds.{IsMadeRound}
use Rattle.host_workers.specs.RoundOf.{IsRoundBy}
use Rattle.host_workers.proofs.RunSoFar.{same-enabled}

-- a round without an event has none of any actor
no-events : (r : rules.Round) (a : Actor) → r.merged ≡ [] → HasEvent r a → ⊥
no-events r a none has = has (ap (filter (of_actor a)) none)

-- where an event may come, an actor has something to do, and a round has an event
some-event : (C : Setting) (S : State) (r : rules.Round) (e : Event) → IsReached C S → AllHaveActed C S r → enabled S e ≡ true → r.merged ≢ []
unfolding pick
some-event C S r e reached acted may none = by_mails S.mails refl where
  set : S.setting ≡ C
  set = reached-setting C S reached

  over : pick S 0 ≡ None → ⊥
  over nothing = true≢false (sym may ∙ pick-none S 0 (reached-machine C S reached) nothing e)

  by_own : (mails : List Mail) → S.mails ≡ [] → (own : List Event) → known_events (map (own_event S.setting) S.nodes) ≡ own → ⊥
  by_own mails empty [] is = over (ap (λ (es : List Event). picked es 0) (ap (λ (ms : List Mail). known_events (map (own_event S.setting) S.nodes) ++ handlings ms) empty ∙ ap (λ (es : List Event). es ++ []) is))
  by_own mails empty (y ∷ ys) is =
      let own = known-own S.setting S.nodes 0 y (ap (λ (es : List Event). slice_get es 0) is) in
      no-events r (Core (record { 0 = own.core })) none (acted.own (record { 0 = own.core }) own.node y own.found (ap (λ (D : Setting). own_event D own.node) (sym set) ∙ own.own))

  by_mails : (mails : List Mail) → S.mails ≡ mails → ⊥
  by_mails [] is = by_own [] is (known_events (map (own_event S.setting) S.nodes)) refl
  by_mails (m ∷ ms) is = no-events r m.to none (acted.mails 0 m (ap (λ (l : List Mail). slice_get l 0) is))

pub round-by : (m : Made) (workers : ℕ) (r : Round) (S : State) → StandsFor S m.state → ((U : State) → StandsFor U m.state → IsMadeRound U m.state m.made workers r) → IsRoundBy m r
round-by m workers r S stands all = record {
  runs = λ U reached same.
      let made = all U (record { reached = reached; same = same }) in record {
        run = subst (λ (ms : List Stamped). IsRun U (events_of ms)) made.merged made.run.run;
        leads = subst (λ (ms : List Stamped). IsReordered (after U (events_of ms)) r.machine.state) made.merged made.stands.same;
        kinds = subst (λ (ms : List Stamped). map noted_kind ms ≡ kinds_of U (events_of ms)) made.merged made.run.kinds;
        grants = subst (λ (ms : List Stamped). grants_in ms ≡ grants_of U (events_of ms)) made.merged made.run.grants;
        ends = subst (λ (ms : List Stamped). r.ends.items ≡ read_off end_observed U (events_of ms)) made.merged made.ends;
      };
  setting = (all S stands).joined.alike.setting;
  made = (all S stands).made_are ∙ ap (λ (ms : List Stamped). m.made + length ms) (all S stands).merged;
  some = λ e may none.
      let made = all S stands in
      let there : enabled S e ≡ true = sym (same-enabled S m.state.mails e stands.same.mails) ∙ (ap (λ (U : State). enabled U e) (sym stands.same.rest) ∙ may) in
      some-event m.state.setting S made.round e stands.reached made.acted there (made.merged ∙ none);
}

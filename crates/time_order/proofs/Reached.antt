-- The states that runs of the initial machine lead to.
use Rattle.std.proofs.Common.{◌≡◌, ℕ, ◌+◌, true, List, [], ◌∷◌, ◌++◌, length, refl, sym, ap, subst, ◌∙◌, arith}
use Rattle.message_net.specs.declared.event.Event.{Event}
use Rattle.registration_protocol.specs.Node.{Setting}
use Rattle.machine_rules.specs.State.{State, initial_state}
use Rattle.machine_rules.specs.Next.{next, enabled}
use Rattle.machine_rules.specs.Runs.{after, IsRun}
use Rattle.machine_rules.specs.Sound.{IsReady}
use Rattle.machine_rules.proofs.Invariant.{Invariant}
use Rattle.dn_machine.specs.Kept.{IsLeftByRun}
use Rattle.dn_machine.proofs.LeftLemmas.{left-first, left-next, kept-left}
use Rattle.run_replay.proofs.ToldMails.{AreSent, sent-next, opened-sent}
use Rattle.time_order.proofs.Clocked.{IsWell}
use Rattle.time_order.proofs.Turns.{mail-to}
use Rattle.machine_rules.proofs.RunsCoherent.{run-all, first_memory}
use Rattle.machine_rules.proofs.RunsKept.{memory_over}
use Rattle.dn_machine.proofs.ScheduleLaws.{after-more}

-- a state to which a run of the initial machine leads
pub record IsReached (S : State) : Type 0 where
  pub setting : Setting
  pub ready : IsReady setting
  pub events : List Event
  pub run : IsRun (initial_state setting) events
  pub leads : S ≡ after (initial_state setting) events
  pub left : IsLeftByRun S (length events)
  pub sent : AreSent S

pub reached-first : (C : Setting) → IsReady C → IsReached (initial_state C)
reached-first C ready =
    record { setting = C; ready = ready; events = []; run = tt; leads = refl; left = left-first C ready; sent = opened-sent C }

run-more : (S : State) (events : List Event) (e : Event) → IsRun S events → enabled (after S events) e ≡ true → IsRun S (events ++ e ∷ [])
run-more S [] e run may = (may, tt)
run-more S (x ∷ xs) e run may = (run.0, run-more (next S x) xs e run.1 may)

long-more : (events : List Event) (e : Event) → length events + 1 ≡ length (events ++ e ∷ [])
long-more [] e = refl
long-more (x ∷ xs) e = omega (arith, long-more xs e)

pub reached-next : (S : State) (e : Event) → IsReached S → enabled S e ≡ true → IsReached (next S e)
reached-next S e reached may =
    record {
      setting = reached.setting;
      ready = reached.ready;
      events = reached.events ++ e ∷ [];
      run = run-more (initial_state reached.setting) reached.events e reached.run (subst (λ (X : State). enabled X e ≡ true) reached.leads may);
      leads = ap (λ (X : State). next X e) reached.leads ∙ sym (after-more (initial_state reached.setting) reached.events e);
      left = subst (λ (n : ℕ). IsLeftByRun (next S e) n) (long-more reached.events e) (left-next S (length reached.events) e reached.left may);
      sent = sent-next S e (kept-left S (length reached.events) reached.left).sound.machine may reached.sent;
    }

pub invariant-reached : (S : State) → IsReached S → (M : ℕ → ℕ) × Invariant S M
invariant-reached S reached =
    let C = reached.setting in
    let M = memory_over (first_memory C) (initial_state C) reached.events in
    (M, subst (λ (X : State). Invariant X M) (sym reached.leads) (run-all C reached.events reached.ready reached.run).1)

pub well-reached : (S : State) → IsReached S → IsWell S
well-reached S reached =
    let inv = invariant-reached S reached in
    record {
      machine = inv.1.machine;
      to = λ place m here. mail-to S inv.0 place m inv.1 here;
      cores = (kept-left S (length reached.events) reached.left).most;
      banks = (omega (arith, reached.left.ready.context.some_banks), reached.left.ready.context.most_banks);
    }

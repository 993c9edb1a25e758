-- What a run leaves, and what is true of it.
use Rattle.std.proofs.Common.{◌≡◌, ℕ, ◌+◌, ◌≤◌, true, List, [], ◌∷◌, ◌++◌, length, refl, sym, ap, subst, ◌∙◌, arith, length-append}
use Rattle.std.specs.List.{All}
use Rattle.std.proofs.lemmas.List.Elements.{All-head, All-tail}
use Rattle.std.proofs.lemmas.List.Sorted.{length_permutation}
use Rattle.region_table.specs.declared.declared.Phase.{Phase}
use Rattle.region_table.specs.Program.{cores_in, tasks_of, IsPhase}
use Rattle.region_table.proofs.ProgramLemmas.{cores-some, cores-within, cores-below, cores-append}
use Rattle.message_net.specs.declared.event.Event.{Event}
use Rattle.message_net.specs.declared.message.Mail.{Mail}
use Rattle.registration_protocol.specs.Node.{Setting}
use Rattle.machine_rules.specs.State.{State, initial_state}
use Rattle.machine_rules.specs.Next.{next, enabled}
use Rattle.machine_rules.specs.Runs.{after, IsRun}
use Rattle.machine_rules.specs.Sound.{IsReady, IsSound}
use Rattle.machine_rules.specs.Reordered.{IsReordered}
use Rattle.machine_rules.proofs.OpenedFacts.{opened-setting}
use Rattle.machine_rules.proofs.RunsKept.{same-setting}
use Rattle.machine_rules.proofs.RunsCoherent.{run-all, run-coherent}
use Rattle.machine_rules.proofs.Reordered.{reordered-itself, reordered-on, enabled-reordered, next-reordered, sound-reordered}
use Rattle.machine_rules.proofs.ReorderedCoherent.{coherent-reordered}
use Rattle.dn_machine.specs.Kept.{IsLeftByRun, IsKept}
use Rattle.dn_machine.proofs.ScheduleLaws.{after-more}

-- ---- how a run goes on

left-of : (C : Setting) (S : State) (made : ℕ) (events : List Event) → S.setting ≡ C → IsReady C → IsRun (initial_state C) events → length events ≡ made → IsReordered (after (initial_state C) events) S
    → IsLeftByRun S made
left-of C S made events is =
    subst (λ (D : Setting). IsReady D → IsRun (initial_state D) events → length events ≡ made → IsReordered (after (initial_state D) events) S → IsLeftByRun S made) is
    (λ ready run count leads. record { ready = ready; events = events; run = run; count = count; leads = leads })

pub left-first : (C : Setting) → IsReady C → IsLeftByRun (initial_state C) 0
left-first C ready = left-of C (initial_state C) 0 [] (opened-setting C) ready tt refl (reordered-itself (initial_state C))

pub left-reordered : (S T : State) (made : ℕ) → IsLeftByRun S made → IsReordered S T → IsLeftByRun T made
left-reordered S T made left same =
    left-of S.setting T made left.events (ap (λ (U : State). U.setting) same.rest) left.ready left.run left.count (reordered-on (after (initial_state S.setting) left.events) S T left.leads same)

run-one : (S : State) (events : List Event) (e : Event) → IsRun S events → enabled (after S events) e ≡ true → IsRun S (events ++ e ∷ [])
run-one S [] e run may = (may, tt)
run-one S (x ∷ xs) e run may = (run.0, run-one (next S x) xs e run.1 may)

pub left-next : (S : State) (made : ℕ) (e : Event) → IsLeftByRun S made → enabled S e ≡ true → IsLeftByRun (next S e) (made + 1)
left-next S made e left may =
    left-of S.setting (next S e) (made + 1) (left.events ++ e ∷ []) (same-setting S e) left.ready (run-one (initial_state S.setting) left.events e left.run before) more leads
  where
    run : State
    run = after (initial_state S.setting) left.events

    before : enabled run e ≡ true
    before = enabled-reordered run S e left.leads ∙ may

    more : length (left.events ++ e ∷ []) ≡ made + 1
    more = omega (arith, length-append left.events (e ∷ []), left.count)

    leads : IsReordered (after (initial_state S.setting) (left.events ++ e ∷ [])) (next S e)
    leads =
        let on = next-reordered run S e (run-all S.setting left.events left.ready left.run).0.machine.distinct left.leads in
        subst (λ (U : State). IsReordered U (next S e)) (sym (after-more (initial_state S.setting) left.events e)) on

-- ---- what is true of what a run leaves

-- a well-formed program needs 16 cores at the most
cores-most : (words locks : ℕ) (phases : List Phase) → All (IsPhase words locks) phases → cores_in (tasks_of phases) ≤ 16
cores-most words locks [] all = omega arith
cores-most words locks (p ∷ ps) all =
    let here = cores-within p.tasks (cores-below words locks p (All-head (IsPhase words locks) p ps all)) in
    let rest = cores-most words locks ps (All-tail (IsPhase words locks) p ps all) in
    omega (arith, here, rest, cores-append p.tasks (tasks_of ps))

-- no mails have no other order
none-reordered : (S T : State) → S.mails ≡ [] → IsReordered S T → T ≡ S
none-reordered S T none same = by_mails T.mails refl where
  by_mails : (mails : List Mail) → T.mails ≡ mails → T ≡ S
  by_mails [] is = same.rest ∙ (rw (is, ← none) refl)
  by_mails (m ∷ ms) is =
      let long : length S.mails ≡ length T.mails = omega (arith, length_permutation S.mails T.mails same.mails) in
      let some : length T.mails ≡ length (m ∷ ms) = ap length is in
      let empty : length S.mails ≡ 0 = ap length none in
      absurd (omega (arith, long, some, empty))

opened-none : (C : Setting) → (initial_state C).mails ≡ []
unfolding initial_state
opened-none C = refl

-- where no event has come it is the opened machine
left-opened : (S : State) (made : ℕ) → IsLeftByRun S made → made ≡ 0 → S ≡ initial_state S.setting
left-opened S made left none = by_events left.events refl where
  by_events : (events : List Event) → left.events ≡ events → S ≡ initial_state S.setting
  by_events [] is =
      none-reordered (initial_state S.setting) S (opened-none S.setting) (subst (λ (es : List Event). IsReordered (after (initial_state S.setting) es) S) is left.leads)
  by_events (e ∷ es) is = absurd (omega (arith, none, left.count, ap length is))

pub kept-left : (S : State) (made : ℕ) → IsLeftByRun S made → IsKept S made
kept-left S made left =
    record {
      left = left;
      some = rw left.ready.context.cores (cores-some (tasks_of S.setting.program.phases));
      most =
          rw left.ready.context.cores (cores-most (length S.setting.program.memory) (length S.setting.program.locks) S.setting.program.phases left.ready.program.each_phase);
      sound = subst (IsSound S) left.count (sound-reordered run S (length left.events) (run-all S.setting left.events left.ready left.run).0 left.leads);
      coherent = coherent-reordered run S left.leads (run-coherent S.setting left.events left.ready left.run);
      first = left-opened S made left;
    }
  where
    run : State
    run = after (initial_state S.setting) left.events

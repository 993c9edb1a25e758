-- The change of an event of the keeper leads from what the keeper was to what it is.
use Rattle.std.proofs.Common.{◌≡◌, ℕ, zero, suc, ◌+◌, ◌<◌, ◌≤◌, ◌==◌, nat_lt, Bool, true, false, cond, List, ◌++◌, length, slice_get, slice_index_or, Option, Some, None, refl, sym, ap, ◌∙◌, arith}
use Rattle.std.specs.List.{fold, list_any}
use Rattle.std.proofs.lemmas.Bool.{ltb-true, ltb-false}
use Rattle.std.proofs.lemmas.Bool.Decides.{nat_tests}
use Rattle.std.proofs.lemmas.Option.{none-some, same_Some, slice_get_past, slice_get-get_or}
use Rattle.dn_base.specs.declared.ids.CoreId.{CoreId}
use Rattle.message_net.specs.declared.actor.Actor.TheVariants.{Core, Keeper}
use Rattle.message_net.specs.declared.actor.MailId.{MailId}
use Rattle.message_net.specs.declared.event.Event.{Event}
use Rattle.message_net.specs.declared.event.Event.TheVariants.{Instr, Evict, Arrive, Handle}
use Rattle.message_net.specs.declared.message.Mail.{Mail}
use Rattle.message_net.specs.Pool.{removed}
use Rattle.queue_lock.specs.Lock.{is_core}
use Rattle.registry_bank.proofs.Opened.{same-items}
use Rattle.phase_barrier.specs.Barrier.{Barrier, has_arrived, flag_is_set, keeper_gets}
use Rattle.phase_barrier.proofs.CountLemmas.{phases-kept, cores-kept}
use Rattle.machine_rules.specs.State.{State}
use Rattle.machine_rules.specs.Next.{next, enabled}
use Rattle.machine_rules.proofs.Steps.{Handled, handled, keeper-step}
use Rattle.machine_rules.proofs.OpenedFacts.{get-made}
use Rattle.dn_machine.specs.Actors.{actor_in}
use Rattle.run_changes.specs.declared.look.Look.TheVariants.{Keeper as KeeperAt}
use Rattle.run_changes.specs.Looks.{look_at}
use Rattle.run_changes.specs.Changes.{arrived_core, arrived_from, barrier_change, changes_by}
use Rattle.run_changes.specs.Events.{event_changes}
use Rattle.run_changes.specs.Applied.{marks_of, keeper_step}

module _ (k : Barrier) (core : ℕ) where
  one-else : (first : ℕ) (b : Bool) (rest : List CoreId) → (first == core) ≡ false → list_any (is_core core) (arrived_core first b ++ rest) ≡ list_any (is_core core) rest
  one-else first true rest out = rw (out) refl
  one-else first false rest out = refl

  one-here : (first : ℕ) (b : Bool) (rest : List CoreId) → (first == core) ≡ true → list_any (is_core core) rest ≡ false → list_any (is_core core) (arrived_core first b ++ rest) ≡ b
  one-here first true rest same none = rw (same) refl
  one-here first false rest same none = none

  -- of cores behind this one none is this one
  listed-past : (first count : ℕ) → core < first → list_any (is_core core) (arrived_from k first count) ≡ false
  listed-past first zero past = refl
  listed-past first (suc count) past =
      one-else first (has_arrived first k) (arrived_from k (first + 1) count) (grind (arith, nat_tests, past)) ∙ listed-past (first + 1) count (omega (arith, past))

  listed-from : (first count : ℕ) → first ≤ core → core < first + count → list_any (is_core core) (arrived_from k first count) ≡ has_arrived core k
  listed-from first zero from within = absurd (omega (arith, from, within))
  listed-from first (suc count) from within = by_test (first == core) refl (λ more. listed-from (first + 1) count more (omega (arith, within))) where
    by_test : (t : Bool) → (first == core) ≡ t → (first + 1 ≤ core → list_any (is_core core) (arrived_from k (first + 1) count) ≡ has_arrived core k)
        → list_any (is_core core) (arrived_from k first (suc count)) ≡ has_arrived core k
    by_test true e rest =
        let same : first ≡ core = grind (arith, nat_tests, e) in
        one-here first (has_arrived first k) (arrived_from k (first + 1) count) e (listed-past (first + 1) count (omega (arith, same))) ∙ ap (λ (c : ℕ). has_arrived c k) same
    by_test false e rest = one-else first (has_arrived first k) (arrived_from k (first + 1) count) e ∙ rest (grind (arith, nat_tests, e, from))

-- the marks are those of the cores that are told
marked : (k : Barrier) → marks_of (length k.arrived) (arrived_from k 0 (length k.arrived)) ≡ k.arrived
marked k = same-items (marks_of (length k.arrived) (arrived_from k 0 (length k.arrived))) k.arrived each where
  by_mark : (core : ℕ) (o : Option Bool) → slice_get k.arrived core ≡ o → nat_lt core (length k.arrived) ≡ true → Some (list_any (is_core core) (arrived_from k 0 (length k.arrived))) ≡ o
  by_mark core None is within = absurd (none-some (slice_index_or k.arrived core false) (sym is ∙ slice_get-get_or k.arrived core false (ltb-true core (length k.arrived) within)))
  by_mark core (Some b) is within =
      ap (λ (x : Bool). Some x) (listed-from k core 0 (length k.arrived) (omega arith) (omega (arith, ltb-true core (length k.arrived) within)) ∙ ap flag_is_set is)

  by_test : (core : ℕ) (t : Bool) → nat_lt core (length k.arrived) ≡ t → cond t (Some (list_any (is_core core) (arrived_from k 0 (length k.arrived)))) None ≡ slice_get k.arrived core
  by_test core true e = by_mark core (slice_get k.arrived core) refl e
  by_test core false e = sym (slice_get_past k.arrived core (ltb-false core (length k.arrived) e))

  each : (core : ℕ) → slice_get (marks_of (length k.arrived) (arrived_from k 0 (length k.arrived))) core ≡ slice_get k.arrived core
  each core = get-made (λ (c : ℕ). list_any (is_core c) (arrived_from k 0 (length k.arrived))) (length k.arrived) core ∙ by_test core (nat_lt core (length k.arrived)) refl

-- the keeper is told whole
pub keeper-told : (k m : Barrier) → m.phases ≡ k.phases → length m.arrived ≡ length k.arrived → keeper_step k (barrier_change m) ≡ m
keeper-told k m phases cores =
    ap (λ (count : ℕ). counted count k.phases) (sym cores) ∙ ap (λ (arrived : List Bool). made k.phases m.phase arrived m.bad) (marked m) ∙ ap (λ (count : ℕ). made count m.phase m.arrived m.bad) (sym phases)
  where
    made : ℕ → ℕ → List Bool → Bool → Barrier
    made phases phase arrived bad = record { phases = phases; phase = phase; arrived = arrived; bad = bad }

    counted : ℕ → ℕ → Barrier
    counted count phases = record { phases = phases; phase = m.phase; arrived = marks_of count (arrived_from m 0 (length m.arrived)); bad = m.bad }

looks-keeper : (S : State) (id : MailId) (m : Mail) → (removed id S.mails).0 ≡ Some m → m.to ≡ Keeper → look_at S (Handle id) ≡ KeeperAt
unfolding look_at
looks-keeper S id m took to = rw (took, to) refl

by-mail : (S : State) (id : MailId) (m : Mail) → Handled S id m → m.to ≡ Keeper → fold keeper_step S.keeper (event_changes S (Handle id)) ≡ (next S (Handle id)).keeper
unfolding event_changes changes_by
by-mail S id m h to =
    let after : (next S (Handle id)).keeper ≡ (keeper_gets S.keeper m.message).0 = (keeper-step S id m h to).keeper in
    rw (looks-keeper S id m h.took to)
    (keeper-told S.keeper (next S (Handle id)).keeper (ap (λ (k : Barrier). k.phases) after ∙ phases-kept S.keeper m.message) (ap (λ (k : Barrier). length k.arrived) after ∙ cores-kept S.keeper m.message))

no-core : {A : Type 0} (c : CoreId) → Some (Core c) ≡ Some Keeper → A
no-core c e = cc

pub keeper-led : (S : State) (e : Event) → enabled S e ≡ true → actor_in S e ≡ Some Keeper → fold keeper_step S.keeper (event_changes S e) ≡ (next S e).keeper
unfolding actor_in
keeper-led S (Instr c) may is = no-core c is
keeper-led S (Evict c word) may is = no-core c is
keeper-led S (Arrive c) may is = no-core c is
keeper-led S (Handle id) may is =
    let took = handled S id may in
    by-mail S id took.0 took.1 (same_Some took.0.to Keeper (rw (took.1.took) at is))

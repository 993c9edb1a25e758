-- A run whose grants are a list, and after which only acquires are left, goes on to one whose grants are the list with one more.
use Rattle.std.proofs.Common.{◌≡◌, ◌⊎◌, inl, inr, ℕ, ◌+◌, true, List, [], ◌∷◌, ◌++◌, length, slice_get, Option, Some, None, refl, sym, ap, subst, ◌∙◌, arith}
use Rattle.std.proofs.lemmas.List.{append-nil}
use Rattle.std.proofs.lemmas.Option.{none-some, same_Some}
use Rattle.dn_base.specs.declared.ids.Grant.{Grant}
use Rattle.region_table.specs.Program.{ProgramParts}
use Rattle.region_table.specs.declared.declared.Phase.{Phase}
use Rattle.message_net.specs.declared.event.Event.{Event}
use Rattle.message_net.specs.declared.event.Event.TheVariants.{Instr}
use Rattle.flat_machine.specs.Phases.{Flat}
use Rattle.flat_machine.specs.Grants.{so_far}
use Rattle.flat_machine.specs.Laws.{IsLegal}
use Rattle.registration_protocol.specs.declared.node.NodeWait as wait
use Rattle.registration_protocol.specs.declared.node.NodeWait.{NodeWait}
use Rattle.registration_protocol.specs.Node.{Setting}
use Rattle.registration_protocol.specs.OwnEvents.{may_instr}
use Rattle.machine_rules.specs.State.{State, initial_state}
use Rattle.machine_rules.specs.Sound.{IsSound, IsReady}
use Rattle.machine_rules.specs.Next.{next, granted_in}
use Rattle.machine_rules.specs.Memory.{store_in}
use Rattle.machine_rules.specs.Runs.{after, IsRun, IsOver, grants_of}
use Rattle.machine_rules.proofs.Invariant.{Invariant}
use Rattle.machine_rules.proofs.Outcomes.{stored_to}
use Rattle.machine_rules.proofs.SoundEvents.{sound-next}
use Rattle.machine_rules.proofs.Kept.{kept}
use Rattle.machine_rules.proofs.RunsCoherent.{run-all}
use Rattle.run_agreement.specs.Ends.{HasFlatEnd}
use Rattle.run_agreement.proofs.EndAgrees.{end-agrees}
use Rattle.run_agreement.proofs.PrefixAgrees.{prefix-agrees}
use Rattle.run_agreement.specs.Reached.{AcquiresNothing}
use Rattle.run_agreement.proofs.Appending.{after-append, run-append, grants-append}
use Rattle.run_agreement.proofs.Growing.{Grows}
use Rattle.run_agreement.proofs.Choosing.{IsPoised, grow-poised}
use Rattle.run_agreement.proofs.Waits.{awaits, awaited, awaited_by}
use Rattle.run_agreement.proofs.Turns.{NobodyWaits, GrantsNotYet, GrantsOne, turn-run}
use Rattle.run_agreement.proofs.Poised.{SomeOpen, over-or-open}
use Rattle.run_agreement.proofs.FlatGrants.{IsNextGrant, next-grant, whole-none}
use Rattle.run_agreement.proofs.Takers.{state_of, memory_of_run, stands-at, IsTaker, taker, IsSent, sends, not-locking}

-- a run whose grants are these, after which no message is in flight, only acquires may come, and nobody waits for a lock
pub record Follows (C : Setting) (gs : List Grant) : Type 0 where
  pub events : List Event
  pub run : IsRun (initial_state C) events
  pub grants : grants_of (initial_state C) events ≡ gs
  pub poised : IsPoised (after (initial_state C) events)
  pub free : NobodyWaits (after (initial_state C) events)

-- ---- one more grant

-- where a further grant is legal, some core goes on
goes-on : (C : Setting) (gs : List Grant) (g : Grant) (F : Flat) → IsReady C → (f : Follows C gs) → so_far C.program C.fuel gs ≡ Some F → IsLegal C.program C.fuel F g → SomeOpen (state_of C f.events)
goes-on C gs g F ready f leads legal = by_way (over-or-open (state_of C f.events) f.poised) where
  by_way : IsOver (state_of C f.events) ⊎ SomeOpen (state_of C f.events) → SomeOpen (state_of C f.events)
  by_way (inr some) = some
  by_way (inl over) =
      let e : HasFlatEnd C f.events = end-agrees C f.events ready (record { run = f.run; over = over }) in
      absurd (whole-none C.program C.fuel (grants_of (initial_state C) f.events) e.end' F g e.run (ap (so_far C.program C.fuel) f.grants ∙ leads) legal)

-- a run that goes on by the acquire of a core, and then without acquires
record GoesOn (C : Setting) (gs : List Grant) (g : Grant) : Type 0 where
  events : List Event
  run : IsRun (initial_state C) events
  poised : IsPoised (state_of C events)
  more : List Grant
  grants : grants_of (initial_state C) events ≡ gs ++ more
  way : ((more ≡ []) × (awaited_by (state_of C events) g.core.0 ≡ Some g.lock))
      ⊎ (((phase : ℕ) × (more ≡ record { phase = record { 0 = phase }; core = g.core; lock = g.lock } ∷ [])) × NobodyWaits (state_of C events))

acquires : (C : Setting) (gs : List Grant) (g : Grant) → IsReady C → (f : Follows C gs) → IsSent (state_of C f.events) g.core g.lock → GoesOn C gs g
acquires C gs g ready f sent =
    record {
      events = all;
      run = run-append (initial_state C) f.events (e ∷ grown.events) f.run (sent.may, grown.run);
      poised = subst IsPoised (sym last) grown.done;
      more = grants_of T grown.events;
      grants = grants-append (initial_state C) f.events (e ∷ grown.events) ∙ ap (λ (x : List Grant). x ++ grants_of S (e ∷ grown.events)) f.grants ∙ ap (λ (x : List Grant). gs ++ x) first;
      way = by_way (turn-run T (stored_to (store_in S e) (memory_of_run C f.events)) (length f.events + 1) g.core.0 g.lock grown.events later (kept S (memory_of_run C f.events) e base.1 sent.may later.machine) grown.run grown.fine sent.only);
    }
  where
    S : State
    S = state_of C f.events

    e : Event
    e = Instr g.core

    T : State
    T = next S e

    base : IsSound S (length f.events) × Invariant S (memory_of_run C f.events)
    base = run-all C f.events ready f.run

    later : IsSound T (length f.events + 1)
    later = sound-next S (length f.events) e base.0 sent.may

    grown : Grows T AcquiresNothing IsPoised
    grown =
        subst (λ (x : State). Grows x AcquiresNothing IsPoised) (after-append (initial_state C) f.events (e ∷ []))
        (grow-poised C (f.events ++ e ∷ []) ready (run-append (initial_state C) f.events (e ∷ []) f.run (sent.may, tt)))

    all : List Event
    all = f.events ++ e ∷ grown.events

    last : state_of C all ≡ after T grown.events
    last = after-append (initial_state C) f.events (e ∷ grown.events)

    first : grants_of S (e ∷ grown.events) ≡ grants_of T grown.events
    first = by_told (granted_in S e) sent.told where
      by_told : (o : Option Grant) → granted_in S e ≡ None → grants_of S (e ∷ grown.events) ≡ grants_of T grown.events
      by_told o told = rw (told) refl

    by_way : GrantsNotYet T grown.events g.core.0 g.lock ⊎ GrantsOne T grown.events g.core.0 g.lock
        → ((grants_of T grown.events ≡ []) × (awaited_by (state_of C all) g.core.0 ≡ Some g.lock))
        ⊎ (((phase : ℕ) × (grants_of T grown.events ≡ record { phase = record { 0 = phase }; core = g.core; lock = g.lock } ∷ [])) × NobodyWaits (state_of C all))
    by_way (inl r) = inl (r.none, ap (λ (x : State). awaited_by x g.core.0) last ∙ r.only.own)
    by_way (inr r) = inr ((r.phase, r.one), λ c. ap (λ (x : State). awaited_by x c) last ∙ r.free c)

same-grant : (F : Flat) (P : ProgramParts) (fuel : ℕ) (g : Grant) (phase : ℕ) → IsLegal P fuel F g → IsLegal P fuel F (record { phase = record { 0 = phase }; core = g.core; lock = g.lock }) → record { phase = record { 0 = phase }; core = g.core; lock = g.lock } ≡ g
same-grant F P fuel g phase one two =
    let same : phase ≡ g.phase.0 = omega (arith, one.current, two.current) in
    ap (λ (x : ℕ). record { phase = record { 0 = x }; core = g.core; lock = g.lock }) same

next-follows : (C : Setting) (p : Phase) (gs : List Grant) (g : Grant) (F : Flat) → IsReady C → slice_get C.program.phases 0 ≡ Some p → so_far C.program C.fuel gs ≡ Some F → IsLegal C.program C.fuel F g
    → GoesOn C gs g → Follows C (gs ++ g ∷ [])
next-follows C p gs g F ready first leads legal on = by_way on.way where
  by_way : ((on.more ≡ []) × (awaited_by (state_of C on.events) g.core.0 ≡ Some g.lock))
      ⊎ (((phase : ℕ) × (on.more ≡ record { phase = record { 0 = phase }; core = g.core; lock = g.lock } ∷ [])) × NobodyWaits (state_of C on.events)) → Follows C (gs ++ g ∷ [])
  by_way (inl (none, waits)) =
      let same : grants_of (initial_state C) on.events ≡ gs = on.grants ∙ ap (λ (x : List Grant). gs ++ x) none ∙ append-nil gs in
      absurd (not-locking C p on.events F g ready first on.run on.poised (ap (so_far C.program C.fuel) same ∙ leads) legal waits)
  by_way (inr (one, free)) =
      let h : Grant = record { phase = record { 0 = one.0 }; core = g.core; lock = g.lock } in
      let is : grants_of (initial_state C) on.events ≡ gs ++ h ∷ [] = on.grants ∙ ap (λ (x : List Grant). gs ++ x) one.1 in
      let front = prefix-agrees C on.events ready on.run in
      let n : IsNextGrant C.program C.fuel gs h = next-grant C.program C.fuel gs h front.0 (ap (so_far C.program C.fuel) (sym is) ∙ front.1.leads) in
      let flat : n.flat ≡ F = same_Some n.flat F (sym n.front ∙ leads) in
      let same : h ≡ g = same-grant F C.program C.fuel g one.0 legal (subst (λ (x : Flat). IsLegal C.program C.fuel x h) flat n.legal) in
      record { events = on.events; run = on.run; grants = is ∙ ap (λ (x : Grant). gs ++ x ∷ []) same; poised = on.poised; free = free }

pub follows-more : (C : Setting) (p : Phase) (gs : List Grant) (g : Grant) (G : Flat) → IsReady C → slice_get C.program.phases 0 ≡ Some p → Follows C gs → so_far C.program C.fuel (gs ++ g ∷ []) ≡ Some G → Follows C (gs ++ g ∷ [])
follows-more C p gs g G ready first f is = next-follows C p gs g n.flat ready first n.front n.legal (acquires C gs g ready f sent) where
  S : State
  S = state_of C f.events

  n : IsNextGrant C.program C.fuel gs g
  n = next-grant C.program C.fuel gs g G is

  leads : so_far C.program C.fuel (grants_of (initial_state C) f.events) ≡ Some n.flat
  leads = ap (so_far C.program C.fuel) f.grants ∙ n.front

  t : IsTaker S g
  t = taker C f.events n.flat g (stands-at C p f.events ready first f.run f.poised (goes-on C gs g n.flat ready f n.front n.legal)) leads n.legal

  may : may_instr S.setting t.node ≡ true
  may = by_way t.way where
    by_way : (may_instr S.setting t.node ≡ true) ⊎ (t.node.waiting ≡ wait.TheVariants.Locking g.lock) → may_instr S.setting t.node ≡ true
    by_way (inl may) = may
    by_way (inr waits) = absurd (none-some g.lock (sym (f.free g.core.0) ∙ ap awaited t.open'.found ∙ ap awaits waits))

  sent : IsSent S g.core g.lock
  sent = sends S g.core t.node g.lock t.open'.found t.needs may f.free

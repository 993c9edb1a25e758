-- What the keeper's events do to the phases: it counts an arrival, and the last one lets all cores go on, or halts them.
use Rattle.std.proofs.Common.{◌≡◌, inl, ℕ, zero, suc, ◌+◌, ◌≤◌, ◌<◌, ◌==◌, ◌&&◌, ◌||◌, not, nat_lt, nat_le, Bool, true, false, List, length, slice_get, slice_index_or, Option, Some, None, refl, sym, ap, subst, ◌∙◌, arith}
use Rattle.std.specs.Prelude.{replicate}
use Rattle.std.specs.List.{list_all}
use Rattle.std.proofs.lemmas.Bool.{eqb-true}
use Rattle.std.proofs.lemmas.Bool.Decides.{nat_tests}
use Rattle.std.proofs.lemmas.List.{length-set}
use Rattle.dn_base.specs.declared.ids.CoreId.{CoreId}
use Rattle.message_net.specs.declared.message.Message.{Message}
use Rattle.message_net.specs.declared.message.Message.TheVariants.{Arrived, Go, Halt}
use Rattle.phase_barrier.specs.Barrier.{Barrier, with_arrival, in_next_phase, all_arrived, is_over}
use Rattle.registration_protocol.specs.Node.{NodeParts}
use Rattle.registration_protocol.specs.OwnEvents.{task_ended_badly}
use Rattle.registration_protocol.specs.Parts.{held_locks}
use Rattle.machine_rules.specs.State.{State}
use Rattle.machine_rules.specs.Sound.{IsMachine}
use Rattle.machine_rules.specs.Flight.{bit, flight, is_arrival_of, is_go_to, is_halt_to}
use Rattle.machine_rules.specs.Coherent.{is_alive, waits_at_keeper, counts_bad}
use Rattle.machine_rules.proofs.Invariant.{PhasesGood, is_astray, is_lie, is_lost, bad_in}
use Rattle.machine_rules.proofs.Outcomes.{BarrierStep, at_keeper, to_all}
use Rattle.machine_rules.proofs.WordCore.{same-number}
use Rattle.machine_rules.proofs.PhaseRows.{marked, counts-is}
use Rattle.machine_rules.proofs.PhaseWhole.{nothing-posted, none-posted, one-posted, alive-arrived, Arriving, arriving, in-flight, said, IsWhole, is-whole, there-within, holds-none, no-go}

-- ---- What is counted as bad.

counts-are : (S : State) (c : ℕ) → counts_bad S c ≡ (marked S c && bad_in (slice_get S.nodes c))
counts-are S c = by_node (slice_get S.nodes c) refl where
  by_node : (o : Option NodeParts) → slice_get S.nodes c ≡ o → counts_bad S c ≡ (marked S c && bad_in (slice_get S.nodes c))
  by_node None is = rw (is) refl
  by_node (Some n) is = rw (is) refl

-- the state once an arrival has been counted, by the marks that the keeper has then
counts-now : (S T : State) (core : ℕ) (bad : Bool) → T.nodes ≡ S.nodes → T.keeper ≡ with_arrival core bad S.keeper → Arriving S core bad
    → (c : ℕ) → counts_bad T c ≡ (((core == c) || marked S c) && bad_in (slice_get S.nodes c))
counts-now S T core bad nodes keeper a c =
    let marks : marked T c ≡ ((core == c) || marked S c) = ap (λ (k : Barrier). slice_index_or k.arrived c false) keeper ∙ a.marks c in
    counts-are T c ∙ rw (marks, nodes) refl

counts-more : (x m b : Bool) → (m && b) ≡ true → ((x || m) && b) ≡ true
counts-more true true true e = refl
counts-more true true false e = absurd (cc)
counts-more true false b e = absurd (cc)
counts-more false m b e = e

bad-now : (S T : State) (core : ℕ) (bad : Bool) → T.nodes ≡ S.nodes → T.keeper ≡ with_arrival core bad S.keeper → Arriving S core bad → PhasesGood S → bad ≡ bad_in (slice_get S.nodes core)
    → T.keeper.bad ≡ true → (c : ℕ) × (counts_bad T c ≡ true)
bad-now S T core bad nodes keeper a g says is = by_old S.keeper.bad refl (sym (ap (λ (k : Barrier). k.bad) keeper) ∙ is) where
  by_old : (x : Bool) → S.keeper.bad ≡ x → (x || bad) ≡ true → (c : ℕ) × (counts_bad T c ≡ true)
  by_old true old now =
      let one = g.bad old in
      (one.0, counts-now S T core bad nodes keeper a one.0 ∙ counts-more (core == one.0) (marked S one.0) (bad_in (slice_get S.nodes one.0)) (sym (counts-are S one.0) ∙ one.1))
  by_old false old now =
      let here : bad_in (slice_get S.nodes core) ≡ true = sym says ∙ now in
      (core, counts-now S T core bad nodes keeper a core ∙ rw (same-number core, here) refl)

and-false : (x : Bool) → (x && false) ≡ false
and-false true = refl
and-false false = refl

or-false : (x y : Bool) → (x || y) ≡ false → (x ≡ false) × (y ≡ false)
or-false true y e = absurd (cc)
or-false false y e = (refl, e)

good-now : (S T : State) (core : ℕ) (bad : Bool) → T.nodes ≡ S.nodes → T.keeper ≡ with_arrival core bad S.keeper → Arriving S core bad → PhasesGood S → bad ≡ bad_in (slice_get S.nodes core)
    → T.keeper.bad ≡ false → (c : ℕ) → counts_bad T c ≡ false
good-now S T core bad nodes keeper a g says is c = counts-now S T core bad nodes keeper a c ∙ by_test (core == c) refl where
  parts : (S.keeper.bad ≡ false) × (bad ≡ false)
  parts = or-false S.keeper.bad bad (sym (ap (λ (k : Barrier). k.bad) keeper) ∙ is)

  by_test : (x : Bool) → (core == c) ≡ x → ((x || marked S c) && bad_in (slice_get S.nodes c)) ≡ false
  by_test true e = sym (subst (λ (x : ℕ). bad ≡ bad_in (slice_get S.nodes x)) (eqb-true core c e) says) ∙ parts.1
  by_test false e = sym (counts-are S c) ∙ g.good parts.0 c

-- ---- An arrival is counted, and nobody is told to go on.

-- what isn't the same for the last arrival and the others
pub record CountedGood (S T : State) : Type 0 where
  pub row : (c : ℕ) → flight T (is_arrival_of c) + waits_at_keeper T c + (flight T (is_go_to c) + flight T (is_halt_to c)) ≡ bit (is_alive (slice_get S.nodes c))
  pub over : all_arrived T.keeper ≡ true → (c : ℕ) → flight T (is_arrival_of c) + flight T (is_go_to c) ≡ 0
  pub halting : (c : ℕ) → 1 ≤ flight T (is_halt_to c) → all_arrived T.keeper ≡ true
  pub whole : all_arrived T.keeper ≡ true → (c : ℕ) (n : NodeParts) → slice_get S.nodes c ≡ Some n → n.arrived ≡ true

phases-counted : (S T : State) (core : CoreId) (bad : Bool) (sent : Option Message) → BarrierStep S T (with_arrival core.0 bad S.keeper) (at_keeper (Arrived core bad)) sent
    → Arriving S core.0 bad → PhasesGood S
    → ((c : ℕ) → to_all (is_go_to c) S.setting.shape.cores sent ≡ 0) → to_all (is_astray S.keeper.phase) S.setting.shape.cores sent ≡ 0 → to_all (is_lie S.nodes) S.setting.shape.cores sent ≡ 0
    → CountedGood S T → PhasesGood T
phases-counted S T core bad sent step a g goes_none astray_none lie_none good =
    record {
      row = λ c. record { one = good.row c ∙ sym (ap (λ (o : Option NodeParts). bit (is_alive o)) (nodes-at c)) };
      phase = λ c n found awake. omega (arith, g.phase c n (old c n found) awake, going c, phase_is);
      astray = rw (phase_is) (omega (arith, g.astray, step.flown (is_astray S.keeper.phase), astray_none));
      arrived = λ c n found. g.arrived c n (old c n found);
      asleep = λ c n found. g.asleep c n (old c n found);
      truly = rw (step.nodes) (omega (arith, g.truly, step.flown (is_lie S.nodes), lie_none));
      bad = bad-now S T core.0 bad step.nodes step.keeper a g says;
      good = good-now S T core.0 bad step.nodes step.keeper a g says;
      over = good.over;
      halting = good.halting;
      whole = λ is c n found. good.whole is c n (old c n found);
      finished = λ c n t found. g.finished c n t (old c n found);
      unlocked = λ c n found some. g.unlocked c n (old c n found) (omega (arith, some, going c));
      within = rw (phase_is, step.setting) g.within;
    }
  where
    says : bad ≡ bad_in (slice_get S.nodes core.0)
    says = said S T (with_arrival core.0 bad S.keeper) core bad sent step g lie_none

    nodes-at : (c : ℕ) → slice_get T.nodes c ≡ slice_get S.nodes c
    nodes-at c = ap (λ (ns : List NodeParts). slice_get ns c) step.nodes

    old : (c : ℕ) (n : NodeParts) → slice_get T.nodes c ≡ Some n → slice_get S.nodes c ≡ Some n
    old c n found = sym (nodes-at c) ∙ found

    phase_is : T.keeper.phase ≡ S.keeper.phase
    phase_is = ap (λ (k : Barrier). k.phase) step.keeper

    going : (c : ℕ) → flight T (is_go_to c) ≡ flight S (is_go_to c)
    going c = omega (arith, step.flown (is_go_to c), goes_none c)

-- others are missing
pub counted-node : (S T : State) (core : CoreId) (bad : Bool) → BarrierStep S T (with_arrival core.0 bad S.keeper) (at_keeper (Arrived core bad)) None
    → IsMachine S → PhasesGood S → slice_get S.keeper.arrived core.0 ≡ Some false → all_arrived (with_arrival core.0 bad S.keeper) ≡ false → PhasesGood T
counted-node S T core bad step machine g new missing =
    phases-counted S T core bad None step a g (λ c. nothing-posted (is_go_to c) S.setting.shape.cores) (nothing-posted (is_astray S.keeper.phase) S.setting.shape.cores)
    (nothing-posted (is_lie S.nodes) S.setting.shape.cores)
    (record {
      row = row;
      over = λ is. absurd (never is);
      halting = λ c some. (
          let old = g.halting c (omega (arith, some, step.flown (is_halt_to c), nothing-posted (is_halt_to c) S.setting.shape.cores)) in
          let not_yet = a.missing in
          absurd (cc)
          );
      whole = λ is. absurd (never is);
    })
  where
    a : Arriving S core.0 bad
    a = arriving S core.0 bad machine new

    still : all_arrived T.keeper ≡ false
    still = ap all_arrived step.keeper ∙ missing

    never : all_arrived T.keeper ≡ true → ⊥
    never is = let not_yet = still in absurd (cc)

    row : (c : ℕ) → flight T (is_arrival_of c) + waits_at_keeper T c + (flight T (is_go_to c) + flight T (is_halt_to c)) ≡ bit (is_alive (slice_get S.nodes c))
    row c = by_test (core.0 == c) refl (marked S c) refl where
      now : (x : Bool) → (core.0 == c) ≡ x → waits_at_keeper T c ≡ bit (x || marked S c)
      now x e = rw (still, ap (λ (k : Barrier). slice_index_or k.arrived c false) step.keeper ∙ a.marks c, e) refl

      before : waits_at_keeper S c ≡ bit (marked S c)
      before = rw (a.missing) refl

      by_test : (x : Bool) → (core.0 == c) ≡ x → (y : Bool) → marked S c ≡ y → flight T (is_arrival_of c) + waits_at_keeper T c + (flight T (is_go_to c) + flight T (is_halt_to c)) ≡ bit (is_alive (slice_get S.nodes c))
      by_test true e y f =
          let mine : marked S c ≡ false = subst (λ (x : ℕ). marked S x ≡ false) (eqb-true core.0 c e) a.own in
          omega (
            arith,
            g.row c,
            now true e,
            before,
            ap bit mine,
            ap bit e,
            step.flown (is_arrival_of c),
            step.flown (is_go_to c),
            step.flown (is_halt_to c),
            nothing-posted (is_arrival_of c) S.setting.shape.cores,
            nothing-posted (is_go_to c) S.setting.shape.cores,
            nothing-posted (is_halt_to c) S.setting.shape.cores,
          )
      by_test false e y f =
          omega (
            arith,
            g.row c,
            now false e,
            before,
            ap bit e,
            step.flown (is_arrival_of c),
            step.flown (is_go_to c),
            step.flown (is_halt_to c),
            nothing-posted (is_arrival_of c) S.setting.shape.cores,
            nothing-posted (is_go_to c) S.setting.shape.cores,
            nothing-posted (is_halt_to c) S.setting.shape.cores,
          )

-- all have arrived, and the run is over
pub halting-all : (S T : State) (core : CoreId) (bad : Bool) → BarrierStep S T (with_arrival core.0 bad S.keeper) (at_keeper (Arrived core bad)) (Some Halt)
    → IsMachine S → PhasesGood S → slice_get S.keeper.arrived core.0 ≡ Some false → all_arrived (with_arrival core.0 bad S.keeper) ≡ true → PhasesGood T
halting-all S T core bad step machine g new whole =
    phases-counted S T core bad (Some Halt) step a g (λ c. none-posted (is_go_to c) Halt (λ d. refl) cores) (none-posted (is_astray S.keeper.phase) Halt (λ d. refl) cores)
    (none-posted (is_lie S.nodes) Halt (λ d. refl) cores)
    (record {
      row = λ c. omega (arith, arrivals c, waits c, goings c, halts-now c, all.alive c);
      over = λ is c. omega (arith, arrivals c, goings c);
      halting = λ c some. ap all_arrived step.keeper ∙ whole;
      whole = λ is c n found. alive-arrived S c n found (omega (arith, all.alive c, there-within S c n machine found));
    })
  where
    cores : ℕ
    cores = S.setting.shape.cores

    a : Arriving S core.0 bad
    a = arriving S core.0 bad machine new

    all : IsWhole S core.0
    all = is-whole S core.0 bad machine g a (in-flight S T (with_arrival core.0 bad S.keeper) core bad (Some Halt) step (none-posted (is_arrival_of core.0) Halt (λ d. refl) cores)) whole

    arrivals : (c : ℕ) → flight T (is_arrival_of c) ≡ 0
    arrivals c = omega (arith, step.flown (is_arrival_of c), none-posted (is_arrival_of c) Halt (λ d. refl) cores, all.arriving c)

    goings : (c : ℕ) → flight T (is_go_to c) ≡ 0
    goings c = omega (arith, step.flown (is_go_to c), none-posted (is_go_to c) Halt (λ d. refl) cores, all.going c)

    halts-now : (c : ℕ) → flight T (is_halt_to c) ≡ bit (nat_lt c cores)
    halts-now c = omega (arith, step.flown (is_halt_to c), one-posted (is_halt_to c) Halt c (λ d. refl) cores, all.halting c)

    waits : (c : ℕ) → waits_at_keeper T c ≡ 0
    waits c = rw (ap all_arrived step.keeper ∙ whole) refl

-- ---- All have arrived, and the next phase begins.

no-marks : (n c : ℕ) → slice_index_or (replicate n false) c false ≡ false
no-marks zero c = refl
no-marks (suc n) zero = refl
no-marks (suc n) (suc c) = no-marks n c

not-all : (n : ℕ) → 1 ≤ n → list_all (λ (a : Bool). a) (replicate n false) ≡ false
not-all zero some = absurd (omega (arith, some))
not-all (suc n) some = refl

pub going-all : (S T : State) (core : CoreId) (bad : Bool)
    → BarrierStep S T (in_next_phase (with_arrival core.0 bad S.keeper)) (at_keeper (Arrived core bad)) (Some (Go (record { 0 = S.keeper.phase + 1 })))
    → IsMachine S → flight S (is_lost S.setting.shape.cores S.setting.shape.banks) ≡ 0 → PhasesGood S
    → slice_get S.keeper.arrived core.0 ≡ Some false → all_arrived (with_arrival core.0 bad S.keeper) ≡ true → is_over (with_arrival core.0 bad S.keeper) ≡ false → PhasesGood T
going-all S T core bad step machine addressed g new whole on =
    record {
      row = λ c. record { one = omega (arith, arrivals c, waits c, goings c, halts-now c, all.alive c, ap (λ (o : Option NodeParts). bit (is_alive o)) (nodes-at c)) };
      phase = λ c n found awake. omega (arith, g.phase c n (old c n found) awake, all.going c, goings c, there-within S c n machine (old c n found), phase_is);
      astray = rw (phase_is) (omega (arith, step.flown (is_astray (S.keeper.phase + 1)), none-posted (is_astray (S.keeper.phase + 1)) go (λ d. right) cores, no-go S addressed all.going (S.keeper.phase + 1)));
      arrived = λ c n found. g.arrived c n (old c n found);
      asleep = λ c n found. g.asleep c n (old c n found);
      truly = rw (step.nodes) (omega (arith, g.truly, step.flown (is_lie S.nodes), none-posted (is_lie S.nodes) go (λ d. refl) cores));
      bad = λ is. (let fine = bad_is in absurd (cc));
      good = λ is c. counts-are T c ∙ rw (marks c) refl;
      over = λ is. absurd (never is);
      halting = λ c some. absurd (omega (arith, some, halts-now c));
      whole = λ is. absurd (never is);
      finished = λ c n t found. g.finished c n t (old c n found);
      unlocked = λ c n found some. free c n (old c n found);
      within = inl (rw (phase_is, step.setting) later);
    }
  where
    cores : ℕ
    cores = S.setting.shape.cores

    go : Message
    go = Go (record { 0 = S.keeper.phase + 1 })

    k : Barrier
    k = in_next_phase (with_arrival core.0 bad S.keeper)

    a : Arriving S core.0 bad
    a = arriving S core.0 bad machine new

    all : IsWhole S core.0
    all = is-whole S core.0 bad machine g a (in-flight S T k core bad (Some go) step (none-posted (is_arrival_of core.0) go (λ d. refl) cores)) whole

    says : bad ≡ bad_in (slice_get S.nodes core.0)
    says = said S T k core bad (Some go) step g (none-posted (is_lie S.nodes) go (λ d. refl) cores)

    right : not (S.keeper.phase + 1 == S.keeper.phase + 1) ≡ false
    right = rw (same-number (S.keeper.phase + 1)) refl

    nodes-at : (c : ℕ) → slice_get T.nodes c ≡ slice_get S.nodes c
    nodes-at c = ap (λ (ns : List NodeParts). slice_get ns c) step.nodes

    old : (c : ℕ) (n : NodeParts) → slice_get T.nodes c ≡ Some n → slice_get S.nodes c ≡ Some n
    old c n found = sym (nodes-at c) ∙ found

    phase_is : T.keeper.phase ≡ S.keeper.phase + 1
    phase_is = ap (λ (k : Barrier). k.phase) step.keeper

    arrivals : (c : ℕ) → flight T (is_arrival_of c) ≡ 0
    arrivals c = omega (arith, step.flown (is_arrival_of c), none-posted (is_arrival_of c) go (λ d. refl) cores, all.arriving c)

    goings : (c : ℕ) → flight T (is_go_to c) ≡ bit (nat_lt c cores)
    goings c = omega (arith, step.flown (is_go_to c), one-posted (is_go_to c) go c (λ d. refl) cores, all.going c)

    halts-now : (c : ℕ) → flight T (is_halt_to c) ≡ 0
    halts-now c = omega (arith, step.flown (is_halt_to c), none-posted (is_halt_to c) go (λ d. refl) cores, all.halting c)

    marks : (c : ℕ) → marked T c ≡ false
    marks c = ap (λ (k : Barrier). slice_index_or k.arrived c false) step.keeper ∙ no-marks (length (with_arrival core.0 bad S.keeper).arrived) c

    waits : (c : ℕ) → waits_at_keeper T c ≡ 0
    waits c = rw (marks c, and-false (not (all_arrived T.keeper))) refl

    some-core : 1 ≤ length (with_arrival core.0 bad S.keeper).arrived
    some-core = omega (arith, length-set S.keeper.arrived core.0 true, machine.cores, a.within)

    never : all_arrived T.keeper ≡ true → ⊥
    never is = let none : all_arrived T.keeper ≡ false = ap all_arrived step.keeper ∙ not-all (length (with_arrival core.0 bad S.keeper).arrived) some-core in absurd (cc)

    parts : ((S.keeper.bad || bad) ≡ false) × (nat_le S.keeper.phases (S.keeper.phase + 1) ≡ false)
    parts = or-false (S.keeper.bad || bad) (nat_le S.keeper.phases (S.keeper.phase + 1)) on

    fine : (S.keeper.bad ≡ false) × (bad ≡ false)
    fine = or-false S.keeper.bad bad parts.0

    bad_is : T.keeper.bad ≡ false
    bad_is = ap (λ (k : Barrier). k.bad) step.keeper ∙ parts.0

    later : S.keeper.phase + 1 < length S.setting.program.phases
    later = grind (arith, nat_tests, parts.1, machine.phases)

    -- every task is over and not bad
    fine-at : (c : ℕ) (n : NodeParts) → slice_get S.nodes c ≡ Some n → (x : Bool) → (core.0 == c) ≡ x → task_ended_badly n.task ≡ false
    fine-at c n found true e =
        let here = subst (λ (x : ℕ). bad ≡ bad_in (slice_get S.nodes x)) (eqb-true core.0 c e) says in
        sym (ap bad_in found) ∙ sym here ∙ fine.1
    fine-at c n found false e =
        let mark = all.marked c e (grind (arith, nat_tests, there-within S c n machine found)) in
        rw (mark) at (sym (counts-is S c n found) ∙ g.good fine.0 c)

    free : (c : ℕ) (n : NodeParts) → slice_get S.nodes c ≡ Some n → held_locks n.task ≡ 0
    free c n found =
        let there = alive-arrived S c n found (omega (arith, all.alive c, there-within S c n machine found)) in
        holds-none S c n g found (g.arrived c n found there).over (fine-at c n found (core.0 == c) refl)

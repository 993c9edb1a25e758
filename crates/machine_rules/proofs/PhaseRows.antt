-- Events of a core, as the phases see them: the node's own row, and the mails of the barrier that come and go.
use Rattle.std.proofs.Common.{◌≡◌, ℕ, ◌+◌, ◌≤◌, ◌==◌, ◌&&◌, Bool, true, false, cond, List, slice_get, slice_index_or, Option, Some, None, refl, sym, ap, subst, ◌∙◌, arith}
use Rattle.std.proofs.lemmas.Bool.{eqb-true}
use Rattle.std.proofs.lemmas.Bool.Decides.{nat_tests}
use Rattle.std.proofs.lemmas.List.Sums.{sum_by-le-sum_by}
use Rattle.message_net.specs.declared.actor.Actor.{Actor}
use Rattle.message_net.specs.declared.message.Mail.{Mail}
use Rattle.message_net.specs.declared.message.Message.{Message}
use Rattle.message_net.specs.declared.message.Message.TheVariants.{Arrived, Go, Halt}
use Rattle.message_net.specs.declared.message.Outgoing.{Outgoing}
use Rattle.message_net.proofs.PoolLemmas.{weight-both}
use Rattle.phase_barrier.specs.Barrier.{Barrier, all_arrived}
use Rattle.rv_core.specs.declared.task.TaskState.{TaskState}
use Rattle.rv_core.specs.declared.task.End.TheVariants.{Finished}
use Rattle.registration_protocol.specs.Node.{NodeParts}
use Rattle.registration_protocol.specs.OwnEvents.{task_ended_badly}
use Rattle.registration_protocol.specs.Parts.{held_locks}
use Rattle.machine_rules.specs.State.{State}
use Rattle.machine_rules.specs.Flight.{Test, bit, mail_count, flight, is_arrival_of, is_go_to, is_halt_to}
use Rattle.machine_rules.specs.Coherent.{HasArrived, is_alive, waits_at_keeper, counts_bad}
use Rattle.machine_rules.proofs.Bits.{passes}
use Rattle.machine_rules.proofs.Invariant.{PhasesGood, is_astray, is_lie, bad_in}
use Rattle.machine_rules.proofs.Steps.{NodeStep}

-- a mail, if there is one, that isn't one of the barrier's
pub record IsOther (out : Option Outgoing) : Type 0 where
  pub arriving : (d : ℕ) → passes (is_arrival_of d) out ≡ 0
  pub going : (d : ℕ) → passes (is_go_to d) out ≡ 0
  pub halting : (d : ℕ) → passes (is_halt_to d) out ≡ 0
  pub astray : (p : ℕ) → passes (is_astray p) out ≡ 0
  pub lie : (nodes : List NodeParts) → passes (is_lie nodes) out ≡ 0

abbrev pub of_barrier : Message → Bool
of_barrier (Arrived core bad) = true
of_barrier (Go phase) = true
of_barrier Halt = true
of_barrier _ = false

pub other-none : IsOther None
other-none = record { arriving = λ d. refl; going = λ d. refl; halting = λ d. refl; astray = λ p. refl; lie = λ nodes. refl }

pub other-some : (to : Actor) (message : Message) → of_barrier message ≡ false → IsOther (Some (record { to = to; message = message }))
other-some to (Arrived core bad) e = absurd (cc)
other-some to (Go phase) e = absurd (cc)
other-some to Halt e = absurd (cc)
other-some to _ e = record { arriving = λ d. refl; going = λ d. refl; halting = λ d. refl; astray = λ p. refl; lie = λ nodes. refl }

-- a mail, if there is one, that says nothing to another core and nothing of one
pub record IsApart (core : ℕ) (out : Option Outgoing) : Type 0 where
  pub arriving : (d : ℕ) → (core == d) ≡ false → passes (is_arrival_of d) out ≡ 0
  pub going : (d : ℕ) → (core == d) ≡ false → passes (is_go_to d) out ≡ 0
  pub halting : (d : ℕ) → (core == d) ≡ false → passes (is_halt_to d) out ≡ 0

pub other-apart : (core : ℕ) (out : Option Outgoing) → IsOther out → IsApart core out
other-apart core out other = record { arriving = λ d e. other.arriving d; going = λ d e. other.going d; halting = λ d e. other.halting d }

-- ---- Bad tasks that the keeper has counted.

abbrev pub marked : State → ℕ → Bool
marked S c = slice_index_or S.keeper.arrived c false

pub counts-is : (S : State) (c : ℕ) (n : NodeParts) → slice_get S.nodes c ≡ Some n → counts_bad S c ≡ (marked S c && task_ended_badly n.task)
counts-is S c n found = rw (found) refl

-- ---- What has to be shown of the node whose event it is: n becomes m.

pub record OwnGood (S T : State) (core : ℕ) (n m : NodeParts) : Type 0 where
  pub row : flight T (is_arrival_of core) + waits_at_keeper S core + (flight T (is_go_to core) + flight T (is_halt_to core)) ≡ bit (is_alive (Some m))
  pub phase : m.halted ≡ false → m.phase + flight T (is_go_to core) ≡ S.keeper.phase
  pub arrived : m.arrived ≡ true → HasArrived m
  pub asleep : m.halted ≡ true → HasArrived m
  pub counts : (marked S core && task_ended_badly m.task) ≡ (marked S core && task_ended_badly n.task)
  pub over : all_arrived S.keeper ≡ true → flight T (is_arrival_of core) + flight T (is_go_to core) ≡ 0
  pub halting : 1 ≤ flight T (is_halt_to core) → all_arrived S.keeper ≡ true
  pub whole : all_arrived S.keeper ≡ true → m.arrived ≡ true
  pub finished : (t : TaskState) → m.task ≡ Some t → t.end ≡ Some Finished → t.held ≡ 0
  pub unlocked : 1 ≤ flight T (is_go_to core) → held_locks m.task ≡ 0

-- each node of the state afterwards is m, or another one that was there before
pub node-case : (S T : State) (core : ℕ) (n m : NodeParts) (left sent : Option Outgoing) → NodeStep S T core n m left sent → (P : ℕ → NodeParts → Type 0) → P core m
    → ((c : ℕ) (k : NodeParts) → (core == c) ≡ false → slice_get S.nodes c ≡ Some k → P c k) → (c : ℕ) (k : NodeParts) → slice_get T.nodes c ≡ Some k → P c k
node-case S T core n m left sent step P own others c k found = by_test (core == c) refl where
  by_test : (x : Bool) → (core == c) ≡ x → P c k
  by_test false e = others c k e (sym (rw (e) at (step.nodes c)) ∙ found)
  by_test true e =
      let here : Some m ≡ Some k = sym (rw (e) at (step.nodes c)) ∙ found in
      let same : m ≡ k = cc in
      subst (λ (x : ℕ). P x k) (eqb-true core c e) (subst (λ (x : NodeParts). P core x) same own)

-- the phases after a core's event
pub phases-node : (S T : State) (core : ℕ) (n m : NodeParts) (left sent : Option Outgoing) → NodeStep S T core n m left sent → PhasesGood S → OwnGood S T core n m
    → IsApart core left → IsApart core sent → flight T (is_astray S.keeper.phase) ≡ 0 → flight T (is_lie T.nodes) ≡ 0 → PhasesGood T
phases-node S T core n m left sent step g own came went astray truly =
    record {
      row = λ c. record { one = row c (core == c) refl };
      phase = node-case S T core n m left sent step (λ c k. k.halted ≡ false → k.phase + flight T (is_go_to c) ≡ T.keeper.phase)
          (λ awake. own.phase awake ∙ phase_back)
          (λ c k e found awake. omega (arith, g.phase c k found awake, going c e, phase_back));
      astray = rw (step.keeper) astray;
      arrived = node-case S T core n m left sent step (λ c k. k.arrived ≡ true → HasArrived k) own.arrived (λ c k e. g.arrived c k);
      asleep = node-case S T core n m left sent step (λ c k. k.halted ≡ true → HasArrived k) own.asleep (λ c k e. g.asleep c k);
      truly = truly;
      bad = λ is. (
          let old = g.bad (subst (λ (k : Barrier). k.bad ≡ true) step.keeper is) in
          (old.0, counts old.0 (core == old.0) refl ∙ old.1)
          );
      good = λ is c. counts c (core == c) refl ∙ g.good (subst (λ (k : Barrier). k.bad ≡ false) step.keeper is) c;
      over = λ is c. over (keeper-whole is) c (core == c) refl;
      halting = λ c some. subst (λ (k : Barrier). all_arrived k ≡ true) (sym step.keeper) (halting c some (core == c) refl);
      whole = λ is. node-case S T core n m left sent step (λ c k. k.arrived ≡ true) (own.whole (keeper-whole is)) (λ c k e found. g.whole (keeper-whole is) c k found);
      finished = λ c k t found. node-case S T core n m left sent step (λ c k. k.task ≡ Some t → t.end ≡ Some Finished → t.held ≡ 0) (own.finished t) (λ d j e there. g.finished d j t there) c k found;
      unlocked = node-case S T core n m left sent step (λ c k. 1 ≤ flight T (is_go_to c) → held_locks k.task ≡ 0) own.unlocked (λ c k e found some. g.unlocked c k found (omega (arith, some, going c e)));
      within = rw (step.keeper, step.setting) g.within;
    }
  where
    phase_back : S.keeper.phase ≡ T.keeper.phase
    phase_back = ap (λ (k : Barrier). k.phase) (sym step.keeper)

    keeper-whole : all_arrived T.keeper ≡ true → all_arrived S.keeper ≡ true
    keeper-whole is = subst (λ (k : Barrier). all_arrived k ≡ true) step.keeper is

    arriving : (c : ℕ) → (core == c) ≡ false → flight T (is_arrival_of c) ≡ flight S (is_arrival_of c)
    arriving c e = omega (arith, step.flown (is_arrival_of c), came.arriving c e, went.arriving c e)

    going : (c : ℕ) → (core == c) ≡ false → flight T (is_go_to c) ≡ flight S (is_go_to c)
    going c e = omega (arith, step.flown (is_go_to c), came.going c e, went.going c e)

    stopping : (c : ℕ) → (core == c) ≡ false → flight T (is_halt_to c) ≡ flight S (is_halt_to c)
    stopping c e = omega (arith, step.flown (is_halt_to c), came.halting c e, went.halting c e)

    waiting : (c : ℕ) → waits_at_keeper T c ≡ waits_at_keeper S c
    waiting c = rw (step.keeper) refl

    alive : (c : ℕ) (x : Bool) → (core == c) ≡ x → slice_get T.nodes c ≡ cond x (Some m) (slice_get S.nodes c)
    alive c x e = rw (e) at (step.nodes c)

    row : (c : ℕ) (x : Bool) → (core == c) ≡ x → flight T (is_arrival_of c) + waits_at_keeper T c + (flight T (is_go_to c) + flight T (is_halt_to c)) ≡ bit (is_alive (slice_get T.nodes c))
    row c false e = omega (arith, g.row c, arriving c e, going c e, stopping c e, waiting c, ap (λ (o : Option NodeParts). bit (is_alive o)) (alive c false e))
    row c true e =
        let same : core ≡ c = eqb-true core c e in
        let mine : flight T (is_arrival_of c) + waits_at_keeper S c + (flight T (is_go_to c) + flight T (is_halt_to c)) ≡ bit (is_alive (Some m)) =
        subst (λ (x : ℕ). flight T (is_arrival_of x) + waits_at_keeper S x + (flight T (is_go_to x) + flight T (is_halt_to x)) ≡ bit (is_alive (Some m))) same own.row in
        omega (arith, mine, waiting c, ap (λ (o : Option NodeParts). bit (is_alive o)) (alive c true e))

    counts : (c : ℕ) (x : Bool) → (core == c) ≡ x → counts_bad T c ≡ counts_bad S c
    counts c false e = rw (step.keeper, alive c false e) refl
    counts c true e =
        let same : core ≡ c = eqb-true core c e in
        let here : slice_get S.nodes c ≡ Some n = subst (λ (x : ℕ). slice_get S.nodes x ≡ Some n) same step.found in
        let mine : (marked S c && task_ended_badly m.task) ≡ (marked S c && task_ended_badly n.task) = subst (λ (x : ℕ). (marked S x && task_ended_badly m.task) ≡ (marked S x && task_ended_badly n.task)) same own.counts in
        counts-is T c m (alive c true e) ∙ ap (λ (k : Barrier). slice_index_or k.arrived c false && task_ended_badly m.task) step.keeper ∙ mine ∙ sym (counts-is S c n here)

    over : all_arrived S.keeper ≡ true → (c : ℕ) (x : Bool) → (core == c) ≡ x → flight T (is_arrival_of c) + flight T (is_go_to c) ≡ 0
    over is c false e = omega (arith, g.over is c, arriving c e, going c e)
    over is c true e = subst (λ (x : ℕ). flight T (is_arrival_of x) + flight T (is_go_to x) ≡ 0) (eqb-true core c e) (own.over is)

    halting : (c : ℕ) → 1 ≤ flight T (is_halt_to c) → (x : Bool) → (core == c) ≡ x → all_arrived S.keeper ≡ true
    halting c some false e = g.halting c (omega (arith, some, stopping c e))
    halting c some true e = own.halting (subst (λ (x : ℕ). 1 ≤ flight T (is_halt_to x)) (sym (eqb-true core c e)) some)

-- ---- Arrivals that say whether a task was bad.

-- by other nodes an arrival lies only of a core whose task isn't as it was
lie-le : (old new : List NodeParts) (core : ℕ) → ((d : ℕ) → (core == d) ≡ false → bad_in (slice_get new d) ≡ bad_in (slice_get old d))
    → (m : Mail) → mail_count (is_lie new) m ≤ mail_count (is_lie old) m + mail_count (is_arrival_of core) m
lie-le old new core same m = by_message m.message where
  by_message : (message : Message) → bit (is_lie new m.to message) ≤ bit (is_lie old m.to message) + bit (is_arrival_of core m.to message)
  by_message (Arrived c bad) = by_test (core == c.0) refl where
    bit-one : (b : Bool) → bit b ≤ 1
    bit-one true = omega arith
    bit-one false = omega arith

    by_test : (x : Bool) → (core == c.0) ≡ x → bit (is_lie new m.to (Arrived c bad)) ≤ bit (is_lie old m.to (Arrived c bad)) + bit (is_arrival_of core m.to (Arrived c bad))
    by_test false e = rw (same c.0 e) (omega arith)
    by_test true e =
        let back : (c.0 == core) ≡ true = grind (arith, nat_tests, e) in
        rw (back) (omega (arith, bit-one (is_lie new m.to (Arrived c bad))))
  by_message _ = omega arith

pub lies-le : (S : State) (new : List NodeParts) (core : ℕ) → ((d : ℕ) → (core == d) ≡ false → bad_in (slice_get new d) ≡ bad_in (slice_get S.nodes d))
    → flight S (is_lie new) ≤ flight S (is_lie S.nodes) + flight S (is_arrival_of core)
lies-le S new core same =
    let each = sum_by-le-sum_by (mail_count (is_lie new)) (λ (m : Mail). mail_count (is_lie S.nodes) m + mail_count (is_arrival_of core) m) S.mails (lie-le S.nodes new core same) in
    omega (arith, each, weight-both (mail_count (is_lie S.nodes)) (mail_count (is_arrival_of core)) S.mails)

lie-same : (old new : List NodeParts) → ((d : ℕ) → bad_in (slice_get new d) ≡ bad_in (slice_get old d)) → (m : Mail) → mail_count (is_lie new) m ≤ mail_count (is_lie old) m
lie-same old new same m = by_message m.message where
  by_message : (message : Message) → bit (is_lie new m.to message) ≤ bit (is_lie old m.to message)
  by_message (Arrived c bad) = rw (same c.0) (omega arith)
  by_message _ = omega arith

pub lies-same : (S : State) (new : List NodeParts) → ((d : ℕ) → bad_in (slice_get new d) ≡ bad_in (slice_get S.nodes d)) → flight S (is_lie new) ≤ flight S (is_lie S.nodes)
lies-same S new same = sum_by-le-sum_by (mail_count (is_lie new)) (mail_count (is_lie S.nodes)) S.mails (lie-same S.nodes new same)

-- ---- An event that changes no node, nor the keeper.

pub phases-still : (S T : State) (left sent : Option Outgoing) → T.setting ≡ S.setting → T.nodes ≡ S.nodes → T.keeper ≡ S.keeper
    → ((p : Test) → flight T p + passes p left ≡ flight S p + passes p sent) → PhasesGood S → IsOther left → IsOther sent → PhasesGood T
phases-still S T left sent setting nodes keeper flown g came went =
    record {
      row = λ c. record { one = omega (arith, g.row c, arriving c, going c, stopping c, waiting c, ap (λ (o : Option NodeParts). bit (is_alive o)) (nodes-at c)) };
      phase = λ c n found awake. omega (arith, g.phase c n (old c n found) awake, going c, ap (λ (k : Barrier). k.phase) keeper);
      astray = rw (keeper) (omega (arith, g.astray, flown (is_astray S.keeper.phase), came.astray S.keeper.phase, went.astray S.keeper.phase));
      arrived = λ c n found. g.arrived c n (old c n found);
      asleep = λ c n found. g.asleep c n (old c n found);
      truly = rw (nodes) (omega (arith, g.truly, flown (is_lie S.nodes), came.lie S.nodes, went.lie S.nodes));
      bad = λ is. (let one = g.bad (subst (λ (k : Barrier). k.bad ≡ true) keeper is) in (one.0, counts one.0 ∙ one.1));
      good = λ is c. counts c ∙ g.good (subst (λ (k : Barrier). k.bad ≡ false) keeper is) c;
      over = λ is c. omega (arith, g.over (whole is) c, arriving c, going c);
      halting = λ c some. subst (λ (k : Barrier). all_arrived k ≡ true) (sym keeper) (g.halting c (omega (arith, some, stopping c)));
      whole = λ is c n found. g.whole (whole is) c n (old c n found);
      finished = λ c n t found. g.finished c n t (old c n found);
      unlocked = λ c n found some. g.unlocked c n (old c n found) (omega (arith, some, going c));
      within = rw (keeper, setting) g.within;
    }
  where
    nodes-at : (c : ℕ) → slice_get T.nodes c ≡ slice_get S.nodes c
    nodes-at c = ap (λ (ns : List NodeParts). slice_get ns c) nodes

    old : (c : ℕ) (n : NodeParts) → slice_get T.nodes c ≡ Some n → slice_get S.nodes c ≡ Some n
    old c n found = sym (nodes-at c) ∙ found

    whole : all_arrived T.keeper ≡ true → all_arrived S.keeper ≡ true
    whole is = subst (λ (k : Barrier). all_arrived k ≡ true) keeper is

    arriving : (c : ℕ) → flight T (is_arrival_of c) ≡ flight S (is_arrival_of c)
    arriving c = omega (arith, flown (is_arrival_of c), came.arriving c, went.arriving c)

    going : (c : ℕ) → flight T (is_go_to c) ≡ flight S (is_go_to c)
    going c = omega (arith, flown (is_go_to c), came.going c, went.going c)

    stopping : (c : ℕ) → flight T (is_halt_to c) ≡ flight S (is_halt_to c)
    stopping c = omega (arith, flown (is_halt_to c), came.halting c, went.halting c)

    waiting : (c : ℕ) → waits_at_keeper T c ≡ waits_at_keeper S c
    waiting c = rw (keeper) refl

    counts : (c : ℕ) → counts_bad T c ≡ counts_bad S c
    counts c = rw (keeper, nodes) refl

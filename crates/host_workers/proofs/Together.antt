-- What is left of a round, as the rules of rounds have it.
use Rattle.std.proofs.Common.{◌≡◌, ℕ, zero, suc, ◌+◌, ◌<◌, List, [], ◌∷◌, ◌++◌, length, map, Some, slice_get, slice_index, drop, All, refl, sym, ap, subst, ◌∙◌, arith}
use Rattle.std.specs.List.{range_with_len}
use Rattle.std.proofs.lemmas.List.{length-append, get_or_append_left, get_or-append-add, get_or-drop}
use Rattle.std.proofs.lemmas.List.FromFn.{length-range_with_len}
use Rattle.std.proofs.lemmas.Option.{slice_get_within, get_or_from_slice_get}
use Rattle.dn_base.specs.declared.ids.CoreId.{CoreId}
use Rattle.message_net.specs.declared.actor.Actor.{Actor}
use Rattle.message_net.specs.declared.actor.Actor.TheVariants.{Core, Bank, Keeper}
use Rattle.grant_log.specs.declared.log.Stamped.{Stamped}
use Rattle.registration_protocol.specs.Node.{Setting}
use Rattle.machine_rules.specs.State.{State}
use Rattle.machine_rules.specs.Next.{next_number}
use Rattle.machine_rules.specs.Sound.{IsMachine}
use Rattle.grant_log.specs.declared.posted.Posted.{Posted}
use Rattle.turn_lock.specs.History.{Legal}
use Rattle.turn_lock.specs.Passes.{Sharing}
use Rattle.bank_hall.specs.Banks.{BankActorParts}
use Rattle.bank_hall.specs.Ports.{PortParts}
use Rattle.bank_hall.specs.Keepers.{KeeperActorParts}
use Rattle.bank_hall.specs.Halls.{HallView, bank_answer, bank_next, port_answer, port_next, keeper_answer, keeper_next, PassView, IsNewPass, AreNewPasses}
use Rattle.bank_hall.specs.Closing.{IsToldPass, history_of}
use Rattle.host_workers.specs.Members.{member}
use Rattle.host_workers.specs.Acts.{Act, steps_by}
use Rattle.host_workers.specs.Steps.{Goes}
use Rattle.host_workers.specs.Passes.{held_member}
use Rattle.host_workers.specs.Rounds as rules
use Rattle.host_workers.specs.Rounds.{owner, core_at, bank_at, bank_in, keeper_in, HasSameSizes, IsBankClosed, IsKeeperClosed, IsPortClosed, IsHallClosed, HaveWorked}
use Rattle.host_workers.proofs.MachineParts.{there}
use Rattle.host_workers.proofs.Numbers.{remainder}
use Rattle.host_workers.proofs.Mapped.{long-map}
use Rattle.host_workers.specs.declared.finishing.Finished.{Finished}
use Rattle.host_workers.specs.declared.owned.Owned.{Owned}
use Rattle.host_workers.specs.Crews.{held_of}
use Rattle.host_workers.specs.Rosters.{RosterParts, IsRoster, IsCrewOf, node_of, next_of}
use Rattle.host_workers.specs.Inboxes.{inboxes_of, inbox_at_first, inbox_of}
use Rattle.host_workers.specs.Opening.{crew_of, pass_of}
use Rattle.host_workers.specs.Finishing.{IsRoundLeft, bank_histories, port_histories, left_in}
use Rattle.host_workers.proofs.HallObjects.{mapped-at, range-at, bank-there, inbox-there, port-there, number-there, keeper-number, banks-long, ports-long, numbers-long}
use Rattle.host_workers.proofs.Leaving.{bank-left, port-left}
use Rattle.host_workers.proofs.Chosen.{chosen, same-some, nothing-stands}
use Rattle.host_workers.proofs.Workers.{WorkerAt, place-all, works-own, works-call, core-went}

new-at : (hall : HallView) (number : ℕ) (passes : List PassView) (k n : ℕ) (p : PassView) → n ≡ number + k → AreNewPasses hall number passes → slice_get passes k ≡ Some p → IsNewPass hall n p
new-at hall number [] k n p is all at = absurd (nothing-stands k p at)
new-at hall number (q ∷ qs) zero n p is all at =
    let same : number ≡ n = omega (arith, is) in
    subst (λ m. IsNewPass hall m p) same (subst (IsNewPass hall number) (same-some q p at) all.0)
new-at hall number (q ∷ qs) (suc k) n p is all at = new-at hall (number + 1) qs k n p (omega (arith, is)) all.1 at

-- the same core by its number
pub same-core : (a b : CoreId) → a.0 ≡ b.0 → a ≡ b
same-core a b e = ap (λ (n : ℕ). record { 0 = n }) e

module _ (S M : State) (made workers : ℕ) (f : Finished) (left : IsRoundLeft S M made workers f) where
  abbrev pub C : Setting
  C = M.setting

  abbrev pub T : State
  T = left_in C f

  abbrev pub had : RosterParts
  had = left.opened.roster

  abbrev pub has : RosterParts
  has = left.finished.roster

  abbrev pub machine : IsMachine M
  machine = left.kept.sound.machine

  jobs-count : length left.jobs ≡ workers
  jobs-count = sym (long-map crew_of left.jobs) ∙ left.opened.crews.count

  dones-count : length left.dones ≡ workers
  dones-count = left.done.count ∙ jobs-count

  pub whole : IsRoster C.shape.cores C.shape.banks had
  whole = subst (λ n. IsRoster n C.shape.banks had) machine.nodes left.opened.fresh.whole

  pub whole-then : IsRoster C.shape.cores C.shape.banks has
  whole-then = left.finished.whole

  abbrev pub Worker : ℕ → List Act × List Act → Type 0
  Worker k acts = WorkerAt C left.hall workers had has (bank_histories f) (port_histories f) f.keeper.items k acts

  worker-at : (k : ℕ) → k < workers → (acts : List Act × List Act) × Worker k acts
  worker-at k below =
      let job = there left.jobs k (omega (arith, below, jobs-count)) in
      let done = there left.dones k (omega (arith, below, dones-count)) in
      let did = left.done.each k job.0 done.0 job.1 done.1 in
      let new : IsNewPass left.hall k job.0.pass = new-at left.hall 0 (map pass_of left.jobs) k k job.0.pass (omega arith) left.opened.passes (mapped-at pass_of left.jobs k job.0 job.1) in (
        (did.worked.first, did.worked.rest),
        record {
          job = job.0;
          done = done.0;
          crew = left.opened.crews.each k job.0.crew (mapped-at crew_of left.jobs k job.0 job.1);
          crew_then = subst (λ n. IsCrewOf n has k done.0.crew) dones-count (left.finished.crews.each k done.0.crew (mapped-at crew_of left.dones k done.0 done.1));
          new = new;
          told = place-all (IsToldPass (bank_histories f) (port_histories f) f.keeper.items) (map pass_of left.dones) k done.0.pass left.finished.told (mapped-at pass_of left.dones k done.0 done.1);
          number = did.pass.1 ∙ new.banks.numbered;
          work = did.worked.work;
          begun = did.worked.begun;
        },
      )

  workers-are : (acts : ℕ → List Act × List Act) × ((k : ℕ) → k < workers → Worker k (acts k))
  workers-are = chosen Worker ([], []) workers worker-at

  pub acts : ℕ → List Act × List Act
  acts = workers-are.0

  pub each : (k : ℕ) → k < workers → Worker k (acts k)
  unfolding acts workers-are
  each = workers-are.1

  abbrev pub work : ℕ → List Act
  work k = (acts k).0 ++ (acts k).1

  -- the round, with what was noted of all events in one list
  abbrev pub round_with : List Stamped → rules.Round
  round_with merged =
      record {
        workers = workers;
        work = work;
        histories = record { banks = history_of (bank_histories f); ports = history_of (port_histories f); keeper = f.keeper.items };
        began = inbox_at_first M.mails;
        left = inbox_of (inboxes_of f.objects.inboxes);
        merged = merged;
      }

  -- ---- the state for which the machine stands

  pub same-nodes : M.nodes ≡ S.nodes
  same-nodes = ap (λ (U : State). U.nodes) left.stands.same.rest

  pub same-banks : M.banks ≡ S.banks
  same-banks = ap (λ (U : State). U.banks) left.stands.same.rest

  pub same-keeper : M.keeper ≡ S.keeper
  same-keeper = ap (λ (U : State). U.keeper) left.stands.same.rest

  pub same-numbers : M.numbers ≡ S.numbers
  same-numbers = ap (λ (U : State). U.numbers) left.stands.same.rest

  pub same-setting : C ≡ S.setting
  same-setting = ap (λ (U : State). U.setting) left.stands.same.rest

  -- ---- the cores

  pub owns : (a : Actor) → owner workers a < workers
  owns (Core core) = remainder core.0 workers left.some
  owns (Bank bank) = remainder bank.0 workers left.some
  owns Keeper = omega (arith, left.some)

  member-first : (core : CoreId) (o : Owned) → slice_get had.cores core.0 ≡ Some o → held_member (held_of o) ≡ member S (Core core)
  unfolding member
  member-first core o at =
      let fresh = left.opened.fresh.cores core.0 o at in
      let node : slice_get S.nodes core.0 ≡ Some o.node = ap (λ l. slice_get l core.0) (sym same-nodes) ∙ fresh.node in
      let next : o.next ≡ next_number S (Core core) = fresh.next_is ∙ ap (λ l. slice_index l core.0) same-numbers in
      rw (node, next) refl

  member-then : (core : CoreId) (p : Owned) → slice_get has.cores core.0 ≡ Some p → held_member (held_of p) ≡ member T (Core core)
  unfolding member
  member-then core p at =
      let node : slice_get T.nodes core.0 ≡ Some p.node = ap (λ l. slice_get l core.0) left.finished.nodes ∙ mapped-at node_of has.cores core.0 p at in
      let there : slice_get (map next_of has.cores) core.0 ≡ Some p.next = mapped-at next_of has.cores core.0 p at in
      let within = slice_get_within (map next_of has.cores) core.0 p.next there in
      let next : next_number T (Core core) ≡ p.next =
      ap (λ l. slice_index (l ++ f.objects.next.items) core.0) left.finished.next
      ∙ (get_or_append_left (map next_of has.cores) f.objects.next.items 0 core.0 within
      ∙ get_or_from_slice_get (map next_of has.cores) core.0 p.next 0 there) in
      rw (node, next) refl

  core-goes : (core : CoreId) → core.0 < C.shape.cores → Goes C (Core core) 0 (member S (Core core)) (steps_by core (work (owner workers (Core core)))) (member T (Core core))
  core-goes core below =
      let o = there had.cores core.0 (omega (arith, below, whole.core_count)) in
      let p = there has.cores core.0 (omega (arith, below, whole-then.core_count)) in
      let is : o.0.core ≡ core = same-core o.0.core core (whole.core_at core.0 o.0 o.1) in
      let fresh = left.opened.fresh.cores core.0 o.0 o.1 in
      let went = core-went C left.hall workers had has (bank_histories f) (port_histories f) f.keeper.items left.some whole whole-then acts each core.0 o.0 p.0 o.1 p.1 (owns (Core o.0.core)) in
      let gone : Goes C (Core core) o.0.clock (held_member (held_of o.0)) (steps_by core (work (owner workers (Core core)))) (held_member (held_of p.0)) =
      subst (λ (c : CoreId). Goes C (Core c) o.0.clock (held_member (held_of o.0)) (steps_by c (work (owner workers (Core c)))) (held_member (held_of p.0))) is went.goes in
      subst (λ x. Goes C (Core core) 0 x (steps_by core (work (owner workers (Core core)))) (member T (Core core))) (member-first core o.0 o.1)
      (subst (λ y. Goes C (Core core) 0 (held_member (held_of o.0)) (steps_by core (work (owner workers (Core core)))) y) (member-then core p.0 p.1)
      (subst (λ n. Goes C (Core core) n (held_member (held_of o.0)) (steps_by core (work (owner workers (Core core)))) (held_member (held_of p.0))) fresh.clock gone))

  pub worked : (merged : List Stamped) → HaveWorked C S T (round_with merged)
  worked merged = record {
    own = works-own C left.hall workers had has (bank_histories f) (port_histories f) f.keeper.items left.some whole whole-then acts each;
    calls = works-call C left.hall workers had has (bank_histories f) (port_histories f) f.keeper.items left.some whole whole-then acts each;
    named = record {
      banks = subst (λ n. (b : ℕ) → All (λ e. e.pass < n) (history_of (bank_histories f) b)) dones-count left.finished.banks_closed.named;
      ports = subst (λ n. (c : ℕ) → All (λ e. e.pass < n) (history_of (port_histories f) c)) dones-count left.finished.ports_closed.named;
      keeper = subst (λ n. All (λ e. e.pass < n) f.keeper.items) dones-count (left.finished.keeper_closed.named 0);
    };
    cores = core-goes;
  }

  -- ---- the objects of the hall

  abbrev began : Actor → List Posted
  began = inbox_at_first M.mails

  abbrev left_there : Actor → List Posted
  left_there = inbox_of (inboxes_of f.objects.inboxes)

  first-number : (b : ℕ) (o : BankActorParts) → slice_get left.opened.objects.banks b ≡ Some o → next_number S (bank_at b) ≡ o.state.next
  first-number b o at =
      ap (λ (D : Setting). slice_index S.numbers (D.shape.cores + b)) (sym same-setting)
      ∙ (ap (λ l. slice_index l (C.shape.cores + b)) (sym same-numbers)
      ∙ (sym (get_or-drop C.shape.cores M.numbers b 0)
      ∙ number-there _ _ _ _ _ _ _ left.opened.hold b o at))

  first-bank : (b : ℕ) (o : BankActorParts) → b < C.shape.banks → slice_get left.opened.objects.banks b ≡ Some o → o.state ≡ bank_in S b o.state.bank (began (bank_at b)) 0
  first-bank b o below at =
      let inbox : o.state.inbox ≡ began (bank_at b) =
      same-some o.state.inbox (began (bank_at b)) (sym (inbox-there _ _ _ _ _ _ _ left.opened.hold b o at) ∙ (ap (λ l. slice_get l b) left.opened.first.banks ∙ mapped-at _ (range_with_len 0 C.shape.banks) b b (range-at C.shape.banks b below))) in
      rw (← inbox, first-number b o at, ← left.opened.at_first.banks b o at) refl

  next-number : (b : ℕ) (o : BankActorParts) → slice_get left.finished.objects.banks b ≡ Some o → next_number T (bank_at b) ≡ o.state.next
  next-number b o at =
      let long : length f.parted.next.items ≡ C.shape.cores = ap length left.finished.next ∙ (long-map next_of has.cores ∙ whole-then.core_count) in
      ap (λ n. slice_index (f.parted.next.items ++ f.objects.next.items) (n + b)) (sym long)
      ∙ (get_or-append-add f.parted.next.items f.objects.next.items b 0
      ∙ number-there _ _ _ _ _ _ _ left.finished.hold b o at)

  next-bank : (b : ℕ) (o : BankActorParts) → slice_get left.finished.objects.banks b ≡ Some o → o.state ≡ bank_in T b o.state.bank (left_there (bank_at b)) o.state.clock
  next-bank b o at =
      let inbox : left_there (bank_at b) ≡ o.state.inbox = bank-left _ _ _ _ _ _ _ left.finished.hold b o at in
      rw (inbox, next-number b o at) refl

  bank-closed : (merged : List Stamped) (b : ℕ) → b < C.shape.banks → IsBankClosed S T (round_with merged) b
  bank-closed merged b below =
      let banks-first : length left.opened.objects.banks ≡ C.shape.banks = banks-long _ _ _ _ _ _ _ left.opened.hold ∙ machine.banks in
      let turns : length left.hall.banks ≡ C.shape.banks = sym (long-map _ left.hall.banks) ∙ (ap length left.opened.opened.banks_shared.opened ∙ banks-first) in
      let turn = there left.hall.banks b (omega (arith, below, turns)) in
      let last = there left.finished.objects.banks b (omega (arith, below, turns, left.finished.banks_closed.object_count)) in
      let opening : slice_get left.opened.objects.banks b ≡ Some turn.0.opening = ap (λ l. slice_get l b) (sym left.opened.opened.banks_shared.opened) ∙ mapped-at (λ (t : Sharing BankActorParts). t.opening) left.hall.banks b turn.0 turn.1 in
      let legal = left.finished.banks_closed.legal b turn.0 last.0 turn.1 last.1 in
      record {
        first = turn.0.opening.state.bank;
        last = last.0.state.bank;
        was = ap (λ l. slice_get l b) (sym same-banks) ∙ bank-there _ _ _ _ _ _ _ left.opened.hold b turn.0.opening opening;
        is = bank-there _ _ _ _ _ _ _ left.finished.hold b last.0 last.1;
        clock = last.0.state.clock;
        legal = subst (λ x. Legal bank_answer bank_next x (history_of (bank_histories f) b) (bank_in T b last.0.state.bank (left_there (bank_at b)) last.0.state.clock)) (first-bank b turn.0.opening below opening)
            (subst (λ y. Legal bank_answer bank_next turn.0.opening.state (history_of (bank_histories f) b) y) (next-bank b last.0 last.1) legal);
      }

  first-keeper : left.opened.objects.keeper.state ≡ keeper_in S (began Keeper) 0
  first-keeper =
      let o = left.opened.objects.keeper in
      let inbox : o.state.inbox ≡ began Keeper = left.opened.hold.keeper_inbox ∙ left.opened.first.keeper in
      let keeper : o.state.keeper ≡ S.keeper = left.opened.hold.keeper_parts ∙ same-keeper in
      let count : length left.opened.objects.banks ≡ C.shape.banks = banks-long _ _ _ _ _ _ _ left.opened.hold ∙ machine.banks in
      let number : next_number S Keeper ≡ o.state.next =
      ap (λ (D : Setting). slice_index S.numbers (D.shape.cores + D.shape.banks)) (sym same-setting)
      ∙ (ap (λ l. slice_index l (C.shape.cores + C.shape.banks)) (sym same-numbers)
      ∙ (sym (get_or-drop C.shape.cores M.numbers C.shape.banks 0)
      ∙ (ap (λ n. slice_index (drop C.shape.cores M.numbers) n) (sym count)
      ∙ keeper-number _ _ _ _ _ _ _ left.opened.hold))) in
      rw (← inbox, ← keeper, number, ← left.opened.at_first.keeper) refl

  next-keeper : left.finished.objects.keeper.state ≡ keeper_in T (left_there Keeper) left.finished.objects.keeper.state.clock
  next-keeper =
      let o = left.finished.objects.keeper in
      let inbox : o.state.inbox ≡ left_there Keeper = left.finished.hold.keeper_inbox in
      let keeper : o.state.keeper ≡ T.keeper = left.finished.hold.keeper_parts in
      let banks-first : length left.opened.objects.banks ≡ C.shape.banks = banks-long _ _ _ _ _ _ _ left.opened.hold ∙ machine.banks in
      let turns : length left.hall.banks ≡ C.shape.banks = sym (long-map _ left.hall.banks) ∙ (ap length left.opened.opened.banks_shared.opened ∙ banks-first) in
      let count : length left.finished.objects.banks ≡ C.shape.banks = left.finished.banks_closed.object_count ∙ turns in
      let long : length f.parted.next.items ≡ C.shape.cores = ap length left.finished.next ∙ (long-map next_of has.cores ∙ whole-then.core_count) in
      let number : next_number T Keeper ≡ o.state.next =
      ap (λ n. slice_index (f.parted.next.items ++ f.objects.next.items) (n + C.shape.banks)) (sym long)
      ∙ (get_or-append-add f.parted.next.items f.objects.next.items C.shape.banks 0
      ∙ (ap (λ n. slice_index f.objects.next.items n) (sym count)
      ∙ keeper-number _ _ _ _ _ _ _ left.finished.hold)) in
      rw (← inbox, ← keeper, number) refl

  keeper-closed : (merged : List Stamped) → IsKeeperClosed S T (round_with merged)
  keeper-closed merged =
      let turns : length left.hall.keeper ≡ 1 = sym (long-map _ left.hall.keeper) ∙ ap length left.opened.opened.keeper_shared.opened in
      let turn = there left.hall.keeper 0 (omega (arith, turns)) in
      let is : turn.0.opening ≡ left.opened.objects.keeper =
      same-some turn.0.opening left.opened.objects.keeper (sym (mapped-at (λ (t : Sharing KeeperActorParts). t.opening) left.hall.keeper 0 turn.0 turn.1) ∙ ap (λ l. slice_get l 0) left.opened.opened.keeper_shared.opened) in
      let legal = left.finished.keeper_closed.legal 0 turn.0 left.finished.objects.keeper turn.1 refl in
      record {
        clock = left.finished.objects.keeper.state.clock;
        legal = subst (λ x. Legal keeper_answer keeper_next x f.keeper.items (keeper_in T (left_there Keeper) left.finished.objects.keeper.state.clock)) (ap (λ (k : KeeperActorParts). k.state) is ∙ first-keeper)
            (subst (λ y. Legal keeper_answer keeper_next turn.0.opening.state f.keeper.items y) next-keeper legal);
      }

  port-closed : (merged : List Stamped) (c : ℕ) → c < C.shape.cores → IsPortClosed (round_with merged) c
  port-closed merged c below =
      let cores-first : length left.opened.inboxes.cores ≡ C.shape.cores = ap length left.opened.first.cores ∙ (long-map _ (range_with_len 0 C.shape.cores) ∙ length-range_with_len 0 C.shape.cores) in
      let ports-first : length left.opened.objects.ports ≡ C.shape.cores = ports-long _ _ _ _ _ _ _ left.opened.hold ∙ cores-first in
      let turns : length left.hall.ports ≡ C.shape.cores = sym (long-map _ left.hall.ports) ∙ (ap length left.opened.opened.ports_shared.opened ∙ ports-first) in
      let turn = there left.hall.ports c (omega (arith, below, turns)) in
      let last = there left.finished.objects.ports c (omega (arith, below, turns, left.finished.ports_closed.object_count)) in
      let opening : slice_get left.opened.objects.ports c ≡ Some turn.0.opening = ap (λ l. slice_get l c) (sym left.opened.opened.ports_shared.opened) ∙ mapped-at (λ (t : Sharing PortParts). t.opening) left.hall.ports c turn.0 turn.1 in
      let first : turn.0.opening.inbox ≡ began (core_at c) =
      same-some turn.0.opening.inbox (began (core_at c)) (sym (port-there _ _ _ _ _ _ _ left.opened.hold c turn.0.opening opening) ∙ (ap (λ l. slice_get l c) left.opened.first.cores ∙ mapped-at _ (range_with_len 0 C.shape.cores) c c (range-at C.shape.cores c below))) in
      let now : left_there (core_at c) ≡ last.0.inbox = port-left _ _ _ _ _ _ _ left.finished.hold c last.0 last.1 in
      subst (λ x. Legal port_answer port_next x (history_of (port_histories f) c) (left_there (core_at c))) first
      (subst (λ y. Legal port_answer port_next turn.0.opening.inbox (history_of (port_histories f) c) y) (sym now) (left.finished.ports_closed.legal c turn.0 last.0 turn.1 last.1))

  pub closed : (merged : List Stamped) → IsHallClosed C S T (round_with merged)
  closed merged = record { banks = bank-closed merged; ports = port-closed merged; keeper = keeper-closed merged }

  -- ---- as many of each

  pub alike : HasSameSizes C S T
  alike = record {
    setting = refl;
    nodes = ap length left.finished.nodes ∙ (long-map node_of has.cores ∙ (whole-then.core_count ∙ (sym machine.nodes ∙ ap length same-nodes)));
    banks =
        let banks-first : length left.opened.objects.banks ≡ C.shape.banks = banks-long _ _ _ _ _ _ _ left.opened.hold ∙ machine.banks in
        let turns : length left.hall.banks ≡ C.shape.banks = sym (long-map _ left.hall.banks) ∙ (ap length left.opened.opened.banks_shared.opened ∙ banks-first) in
        sym (banks-long _ _ _ _ _ _ _ left.finished.hold) ∙ (left.finished.banks_closed.object_count ∙ (turns ∙ (sym machine.banks ∙ ap length same-banks)));
    numbers =
        let banks-first : length left.opened.objects.banks ≡ C.shape.banks = banks-long _ _ _ _ _ _ _ left.opened.hold ∙ machine.banks in
        let turns : length left.hall.banks ≡ C.shape.banks = sym (long-map _ left.hall.banks) ∙ (ap length left.opened.opened.banks_shared.opened ∙ banks-first) in
        let objects : length left.finished.objects.banks ≡ C.shape.banks = left.finished.banks_closed.object_count ∙ turns in
        let cores : length f.parted.next.items ≡ C.shape.cores = ap length left.finished.next ∙ (long-map next_of has.cores ∙ whole-then.core_count) in
        let others : length f.objects.next.items ≡ length left.finished.objects.banks + 1 = numbers-long _ _ _ _ _ _ _ left.finished.hold in
        let before : length S.numbers ≡ C.shape.cores + C.shape.banks + 1 = ap length (sym same-numbers) ∙ machine.numbers in
        length-append f.parted.next.items f.objects.next.items ∙ omega (arith, cores, others, objects, before);
  }

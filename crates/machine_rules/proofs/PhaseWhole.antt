-- What the keeper knows of the cores when it counts an arrival, and what it knows once their set is whole.
use Rattle.std.proofs.Common.{◌≡◌, ◌⊎◌, inl, inr, ℕ, zero, suc, ◌≤◌, ◌<◌, ◌==◌, ◌&&◌, ◌||◌, not, nat_lt, Bool, true, false, List, [], ◌∷◌, length, set, get_or, slice_get, slice_index_or, Option, Some, None, refl, sym, ap, subst, ◌∙◌, arith}
use Rattle.std.proofs.lemmas.Bool.{eqb-true}
use Rattle.std.proofs.lemmas.Bool.Decides.{nat_tests}
use Rattle.std.proofs.lemmas.List.{length-set}
use Rattle.std.proofs.lemmas.List.Sums.{AllPass-from_list_all}
use Rattle.std.proofs.lemmas.Option.{slice_get_within, get_or_from_slice_get, slice_get_cases}
use Rattle.dn_base.specs.declared.ids.CoreId.{CoreId}
use Rattle.message_net.specs.declared.actor.Actor.{Actor}
use Rattle.message_net.specs.declared.actor.Actor.TheVariants.{Core, Bank, Keeper}
use Rattle.message_net.specs.declared.message.Mail.{Mail}
use Rattle.message_net.specs.declared.message.Message.{Message}
use Rattle.message_net.specs.declared.message.Message.TheVariants.{Arrived, Go}
use Rattle.message_net.proofs.PoolLemmas.{weight-somewhere, weight-within}
use Rattle.phase_barrier.specs.Barrier.{Barrier, with_arrival, all_arrived}
use Rattle.rv_core.specs.declared.task.TaskState.{TaskState}
use Rattle.rv_core.specs.declared.task.End.{End}
use Rattle.rv_core.specs.declared.task.End.TheVariants.{Finished, Fuel, Trap}
use Rattle.registration_protocol.specs.Node.{NodeParts, is_running}
use Rattle.registration_protocol.specs.OwnEvents.{task_ended_badly}
use Rattle.registration_protocol.specs.Parts.{held_locks}
use Rattle.machine_rules.specs.State.{State}
use Rattle.machine_rules.specs.Sound.{IsMachine}
use Rattle.machine_rules.specs.Flight.{Test, bit, mail_count, flight, is_arrival_of, is_go_to, is_halt_to}
use Rattle.machine_rules.specs.Coherent.{is_alive, waits_at_keeper}
use Rattle.machine_rules.proofs.Bits.{passes}
use Rattle.machine_rules.proofs.Invariant.{PhasesGood, is_astray, is_lie, is_lost, same_truth, bad_in}
use Rattle.machine_rules.proofs.Outcomes.{BarrierStep, at_keeper, to_all}
use Rattle.machine_rules.proofs.WordCore.{same-number}
use Rattle.machine_rules.proofs.PhaseRows.{marked}
use Rattle.machine_rules.proofs.PhaseNodes.{false-else}

-- ---- What the keeper posts to all cores.

pub nothing-posted : (p : Test) (cores : ℕ) → to_all p cores None ≡ 0
nothing-posted p zero = refl
nothing-posted p (suc c) = refl

pub none-posted : (p : Test) (message : Message) → ((c : ℕ) → p (Core (record { 0 = c })) message ≡ false) → (cores : ℕ) → to_all p cores (Some message) ≡ 0
none-posted p message fails zero = refl
none-posted p message fails (suc c) = omega (arith, none-posted p message fails c, ap bit (fails c))

-- what is for core d goes there once
pub one-posted : (p : Test) (message : Message) (d : ℕ) → ((c : ℕ) → p (Core (record { 0 = c })) message ≡ (c == d)) → (cores : ℕ) → to_all p cores (Some message) ≡ bit (nat_lt d cores)
one-posted p message d at zero = grind (arith, nat_tests)
one-posted p message d at (suc c) = grind (arith, nat_tests, one-posted p message d at c, ap bit (at c))

-- ---- Who is there.

-- a core that isn't there is not alive
alive-within : (S : State) (c : ℕ) → length S.nodes ≤ c → bit (is_alive (slice_get S.nodes c)) ≡ 0
alive-within S c past = by_case (slice_get_cases S.nodes c).1 where
  by_case : ((x : NodeParts) × (c < length S.nodes) × (slice_get S.nodes c ≡ Some x) × (get_or S.nodes c x ≡ x)) ⊎ ((length S.nodes ≤ c) × (slice_get S.nodes c ≡ None))
      → bit (is_alive (slice_get S.nodes c)) ≡ 0
  by_case (inl (n, within, is, same)) = absurd (omega (arith, within, past))
  by_case (inr (out, is)) = rw (is) refl

alive-one : (o : Option NodeParts) → bit (is_alive o) ≤ 1
alive-one None = omega arith
alive-one (Some n) = by_bit (n.arrived && not n.halted) where
  by_bit : (b : Bool) → bit b ≤ 1
  by_bit true = omega arith
  by_bit false = omega arith

pub alive-arrived : (S : State) (c : ℕ) (n : NodeParts) → slice_get S.nodes c ≡ Some n → 1 ≤ bit (is_alive (slice_get S.nodes c)) → n.arrived ≡ true
alive-arrived S c n found some = by_flag n.arrived refl (rw (found) at some) where
  by_flag : (x : Bool) → n.arrived ≡ x → 1 ≤ bit (n.arrived && not n.halted) → n.arrived ≡ true
  by_flag true is one = is
  by_flag false is one = absurd (omega (arith, rw (is) at one))

-- ---- The marks.

-- an arrival of a core that isn't marked yet: not all are, and now this one is too
mark-set : (marks : List Bool) (core c : ℕ) → core < length marks → slice_index_or (set marks core true) c false ≡ ((core == c) || slice_index_or marks c false)
mark-set [] core c within = absurd (omega (arith, within))
mark-set (x ∷ xs) zero zero within = refl
mark-set (x ∷ xs) zero (suc c) within = let apart : (0 == suc c) ≡ false = grind (arith, nat_tests) in rw (apart) refl
mark-set (x ∷ xs) (suc core) zero within = let apart : (suc core == 0) ≡ false = grind (arith, nat_tests) in rw (apart) refl
mark-set (x ∷ xs) (suc core) (suc c) within =
    let same : (suc core == suc c) ≡ (core == c) = grind (arith, nat_tests) in
    rw (same) (mark-set xs core c (omega (arith, within)))

pub record Arriving (S : State) (core : ℕ) (bad : Bool) : Type 0 where
  pub within : core < S.setting.shape.cores
  pub missing : all_arrived S.keeper ≡ false
  pub own : marked S core ≡ false
  pub marks : (c : ℕ) → slice_index_or (with_arrival core bad S.keeper).arrived c false ≡ ((core == c) || marked S c)

pub arriving : (S : State) (core : ℕ) (bad : Bool) → IsMachine S → slice_get S.keeper.arrived core ≡ Some false → Arriving S core bad
arriving S core bad machine new =
    let inside : core < length S.keeper.arrived = slice_get_within S.keeper.arrived core false new in
    let own : marked S core ≡ false = get_or_from_slice_get S.keeper.arrived core false false new in
    record {
      within = omega (arith, inside, machine.cores);
      missing = false-else (all_arrived S.keeper) (λ whole. (let marked_too = AllPass-from_list_all (λ (a : Bool). a) S.keeper.arrived whole core false inside in absurd (cc)));
      own = own;
      marks = λ c. mark-set S.keeper.arrived core c inside;
    }

-- the arrival is in flight
pub in-flight : (S T : State) (k : Barrier) (core : CoreId) (bad : Bool) (sent : Option Message) → BarrierStep S T k (at_keeper (Arrived core bad)) sent → to_all (is_arrival_of core.0) S.setting.shape.cores sent ≡ 0
    → 1 ≤ flight S (is_arrival_of core.0)
in-flight S T k core bad sent step none =
    let one : passes (is_arrival_of core.0) (at_keeper (Arrived core bad)) ≡ 1 = rw (same-number core.0) refl in
    omega (arith, step.flown (is_arrival_of core.0), none, one)

-- it says truly whether the task was bad
pub said : (S T : State) (k : Barrier) (core : CoreId) (bad : Bool) (sent : Option Message) → BarrierStep S T k (at_keeper (Arrived core bad)) sent → PhasesGood S
    → to_all (is_lie S.nodes) S.setting.shape.cores sent ≡ 0 → bad ≡ bad_in (slice_get S.nodes core.0)
said S T k core bad sent step g none = true_same bad (bad_in (slice_get S.nodes core.0)) (omega (arith, step.flown (is_lie S.nodes), none, g.truly)) where
  true_same : (a b : Bool) → bit (not (same_truth a b)) ≤ 0 → a ≡ b
  true_same true true none_is = refl
  true_same true false none_is = absurd (omega (arith, none_is))
  true_same false true none_is = absurd (omega (arith, none_is))
  true_same false false none_is = refl

-- ---- Once the set is whole.

pub record IsWhole (S : State) (core : ℕ) : Type 0 where
  pub arriving : (c : ℕ) → flight S (is_arrival_of c) ≡ bit (core == c)
  pub going : (c : ℕ) → flight S (is_go_to c) ≡ 0
  pub halting : (c : ℕ) → flight S (is_halt_to c) ≡ 0
  pub alive : (c : ℕ) → bit (is_alive (slice_get S.nodes c)) ≡ bit (nat_lt c S.setting.shape.cores)
  pub marked : (c : ℕ) → (core == c) ≡ false → c < S.setting.shape.cores → marked S c ≡ true

-- what is known of one core
record IsIn (S : State) (core c : ℕ) : Type 0 where
  arriving : flight S (is_arrival_of c) ≡ bit (core == c)
  going : flight S (is_go_to c) ≡ 0
  halting : flight S (is_halt_to c) ≡ 0
  alive : bit (is_alive (slice_get S.nodes c)) ≡ bit (nat_lt c S.setting.shape.cores)
  marked : (core == c) ≡ false → c < S.setting.shape.cores → marked S c ≡ true

whole-at : (S : State) (core : ℕ) (bad : Bool) → IsMachine S → PhasesGood S → Arriving S core bad → 1 ≤ flight S (is_arrival_of core) → all_arrived (with_arrival core bad S.keeper) ≡ true
    → (c : ℕ) → IsIn S core c
whole-at S core bad machine g a one whole c = by_tests (nat_lt c S.setting.shape.cores) refl (core == c) refl where
  by_tests : (x : Bool) → nat_lt c S.setting.shape.cores ≡ x → (y : Bool) → (core == c) ≡ y → IsIn S core c
  by_tests false e y f =
      let past : length S.nodes ≤ c = grind (arith, nat_tests, e, machine.nodes) in
      let apart : (core == c) ≡ false = grind (arith, nat_tests, e, a.within) in
      let none = alive-within S c past in
      record {
        arriving = omega (arith, g.row c, none, ap bit apart);
        going = omega (arith, g.row c, none);
        halting = omega (arith, g.row c, none);
        alive = omega (arith, none, ap bit e);
        marked = λ other inside. absurd (grind (arith, nat_tests, e, inside));
      }
  by_tests true e true f =
      let same : core ≡ c = eqb-true core c f in
      let here : 1 ≤ flight S (is_arrival_of c) = subst (λ (x : ℕ). 1 ≤ flight S (is_arrival_of x)) same one in
      let most = alive-one (slice_get S.nodes c) in
      record {
        arriving = omega (arith, g.row c, here, most, ap bit f);
        going = omega (arith, g.row c, here, most);
        halting = omega (arith, g.row c, here, most);
        alive = omega (arith, g.row c, here, most, ap bit e);
        marked = λ other inside. absurd (cc);
      }
  by_tests true e false f =
      let inside : c < length (with_arrival core bad S.keeper).arrived = grind (arith, nat_tests, e, length-set S.keeper.arrived core true, machine.cores) in
      let now : slice_index_or (with_arrival core bad S.keeper).arrived c false ≡ true = AllPass-from_list_all (λ (a : Bool). a) (with_arrival core bad S.keeper).arrived whole c false inside in
      let mark : marked S c ≡ true = sym (rw (f) at (a.marks c)) ∙ now in
      let waits : waits_at_keeper S c ≡ 1 = rw (a.missing, mark) refl in
      let most = alive-one (slice_get S.nodes c) in
      record {
        arriving = omega (arith, g.row c, waits, most, ap bit f);
        going = omega (arith, g.row c, waits, most);
        halting = omega (arith, g.row c, waits, most);
        alive = omega (arith, g.row c, waits, most, ap bit e);
        marked = λ other within. mark;
      }

pub is-whole : (S : State) (core : ℕ) (bad : Bool) → IsMachine S → PhasesGood S → Arriving S core bad → 1 ≤ flight S (is_arrival_of core) → all_arrived (with_arrival core bad S.keeper) ≡ true → IsWhole S core
is-whole S core bad machine g a one whole =
    record {
      arriving = λ c. (whole-at S core bad machine g a one whole c).arriving;
      going = λ c. (whole-at S core bad machine g a one whole c).going;
      halting = λ c. (whole-at S core bad machine g a one whole c).halting;
      alive = λ c. (whole-at S core bad machine g a one whole c).alive;
      marked = λ c. (whole-at S core bad machine g a one whole c).marked;
    }

-- a node that is there
pub there-within : (S : State) (c : ℕ) (n : NodeParts) → IsMachine S → slice_get S.nodes c ≡ Some n → bit (nat_lt c S.setting.shape.cores) ≡ 1
there-within S c n machine found = grind (arith, nat_tests, slice_get_within S.nodes c n found, machine.nodes)

-- a task that is over and not bad holds no lock
pub holds-none : (S : State) (c : ℕ) (n : NodeParts) → PhasesGood S → slice_get S.nodes c ≡ Some n → is_running n.task ≡ false → task_ended_badly n.task ≡ false → held_locks n.task ≡ 0
holds-none S c n g found over fine = by_task n.task refl where
  by_end : (t : TaskState) → n.task ≡ Some t → (o : Option End) → t.end ≡ o → held_locks n.task ≡ 0
  by_end t is None ends = let on : is_running n.task ≡ true = rw (is, ends) refl in absurd (cc)
  by_end t is (Some Finished) ends = ap held_locks is ∙ g.finished c n t found is ends
  by_end t is (Some Fuel) ends = let wrong : task_ended_badly n.task ≡ true = rw (is, ends) refl in absurd (cc)
  by_end t is (Some (Trap kind pc value)) ends = let wrong : task_ended_badly n.task ≡ true = rw (is, ends) refl in absurd (cc)

  by_task : (o : Option TaskState) → n.task ≡ o → held_locks n.task ≡ 0
  by_task None is = rw (is) refl
  by_task (Some t) is = by_end t is t.end refl

-- no Go is in flight where none is for a core
pub no-go : (S : State) → flight S (is_lost S.setting.shape.cores S.setting.shape.banks) ≡ 0 → ((c : ℕ) → flight S (is_go_to c) ≡ 0) → (p : ℕ) → flight S (is_astray p) ≡ 0
no-go S addressed none p = by_count (flight S (is_astray p)) refl where
  by_mail : (place : ℕ) (m : Mail) → slice_get S.mails place ≡ Some m → (to : Actor) → m.to ≡ to → (message : Message) → m.message ≡ message → 1 ≤ bit (is_astray p to message) → ⊥
  by_mail place m there (Core c) at (Go phase) is some =
      let one = rw (at, is, same-number c.0) at (weight-within (mail_count (is_go_to c.0)) S.mails place m there) in
      omega (arith, none c.0, one)
  by_mail place m there (Bank b) at (Go phase) is some =
      let one = rw (at, is) at (weight-within (mail_count (is_lost S.setting.shape.cores S.setting.shape.banks)) S.mails place m there) in
      omega (arith, addressed, one)
  by_mail place m there Keeper at (Go phase) is some =
      let one = rw (at, is) at (weight-within (mail_count (is_lost S.setting.shape.cores S.setting.shape.banks)) S.mails place m there) in
      omega (arith, addressed, one)
  by_mail place m there to at _ is some = omega (arith, some)

  by_count : (x : ℕ) → flight S (is_astray p) ≡ x → flight S (is_astray p) ≡ 0
  by_count zero is = is
  by_count (suc x) is =
      let some = weight-somewhere (mail_count (is_astray p)) S.mails (omega (arith, is)) in
      absurd (by_mail some.0 some.1 some.2 some.1.to refl some.1.message refl some.3)

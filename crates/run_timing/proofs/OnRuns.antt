-- The states of a run, event by event, and what each event of it sends.
use Rattle.std.proofs.Common.{◌≡◌, ℕ, zero, suc, ◌+◌, ◌%◌, ◌<◌, not, Bool, true, false, nat_lt, List, [], ◌∷◌, take, slice_get, Option, Some, None, refl, sym, ap, subst, ◌∙◌, arith}
use Rattle.std.proofs.lemmas.Bool.{eqb-true}
use Rattle.std.proofs.lemmas.Bool.Decides.{nat_tests}
use Rattle.std.proofs.lemmas.Option.{none-some, same_Some, slice_get_within}
use Rattle.message_net.specs.declared.actor.Actor.{Actor}
use Rattle.message_net.specs.declared.actor.Actor.TheVariants.{Core, Bank, Keeper}
use Rattle.message_net.specs.declared.actor.MailId.{MailId}
use Rattle.message_net.specs.declared.event.Event.{Event}
use Rattle.message_net.specs.declared.event.Event.TheVariants.{Instr, Evict, Arrive, Handle}
use Rattle.message_net.specs.declared.message.Mail.{Mail}
use Rattle.message_net.specs.declared.message.Message.{Message}
use Rattle.message_net.specs.declared.message.Message.TheVariants.{ReadReq, ReadFwd, DataReply, RegReq, RegFwd, RegAck, WriteBack, WbAck, Acquire, Release, Grant, Arrived, Go, Halt}
use Rattle.message_net.specs.Mail.{has_actor}
use Rattle.message_net.specs.Pool.{removed}
use Rattle.message_net.proofs.PoolLemmas.{taken-place, weight-within}
use Rattle.registration_protocol.specs.Node.{NodeParts, Setting}
use Rattle.registration_protocol.specs.OwnEvents.{may_instr, may_evict, may_arrive}
use Rattle.machine_rules.specs.State.{State, initial_state}
use Rattle.machine_rules.specs.Flight.{mail_count, bit}
use Rattle.machine_rules.specs.Next.{next, enabled, when_there}
use Rattle.machine_rules.specs.Runs.{IsRun}
use Rattle.machine_rules.specs.Sound.{IsReady, IsMachine}
use Rattle.machine_rules.proofs.Invariant.{Invariant, is_bank, is_core, is_keeper, is_right, is_lost}
use Rattle.machine_rules.proofs.OpenedFacts.{opened-setting}
use Rattle.machine_rules.proofs.RunsKept.{run-setting, memory_over}
use Rattle.machine_rules.proofs.RunsCoherent.{run-all, first_memory}
use Rattle.dn_machine.specs.Actors.{receiver_of, actor_in}
use Rattle.run_timing.specs.Depends.{state_at}
use Rattle.run_timing.proofs.Moves.{has, IsMove, event-move}

-- ---- states

next-suc : (S : State) (events : List Event) (n : ℕ) (e : Event) → slice_get events n ≡ Some e → state_at S events (suc n) ≡ next (state_at S events n) e
next-suc S [] n e here = absurd (none-some e here)
next-suc S (x ∷ xs) zero e here = ap (next S) (same_Some x e here)
next-suc S (x ∷ xs) (suc n) e here = next-suc (next S x) xs n e here

-- an event leads from the state in which it comes to the one in which the event behind it comes
pub next-at : (S : State) (events : List Event) (n : ℕ) (e : Event) → slice_get events n ≡ Some e → state_at S events (n + 1) ≡ next (state_at S events n) e
next-at S events n e here =
    let one : suc n ≡ n + 1 = omega arith in
    subst (λ (k : ℕ). state_at S events k ≡ next (state_at S events n) e) one (next-suc S events n e here)

pub enabled-at : (S : State) (events : List Event) (n : ℕ) (e : Event) → IsRun S events → slice_get events n ≡ Some e → enabled (state_at S events n) e ≡ true
enabled-at S [] n e run here = absurd (none-some e here)
enabled-at S (x ∷ xs) zero e run here = subst (λ (y : Event). enabled S y ≡ true) (same_Some x e here) run.0
enabled-at S (x ∷ xs) (suc n) e run here = enabled-at (next S x) xs n e run.1 here

front-run : (S : State) (events : List Event) (n : ℕ) → IsRun S events → IsRun S (take n events)
front-run S events zero run = tt
front-run S [] (suc n) run = tt
front-run S (x ∷ xs) (suc n) run = (run.0, front-run (next S x) xs n run.1)

pub setting-at : (C : Setting) (events : List Event) (n : ℕ) → (state_at (initial_state C) events n).setting ≡ C
setting-at C events n = run-setting (initial_state C) (take n events) ∙ opened-setting C

-- ---- actors

bank-there : (cores banks w : ℕ) (to : Actor) → 0 < banks → is_bank (w % banks) to ≡ true → has_actor cores banks to ≡ true
bank-there cores banks w (Bank bank) some is =
    let same : bank.0 ≡ w % banks = eqb-true bank.0 (w % banks) is in
    let less : w % banks < banks = omega (arith, some) in
    grind (arith, nat_tests, same, less)
bank-there cores banks w (Core core) some is = absurd (cc)
bank-there cores banks w Keeper some is = refl

core-there : (cores banks : ℕ) (to : Actor) → is_core cores to ≡ true → has_actor cores banks to ≡ true
core-there cores banks (Core core) is = is
core-there cores banks (Bank bank) is = absurd (cc)
core-there cores banks Keeper is = refl

keeper-there : (cores banks : ℕ) (to : Actor) → is_keeper to ≡ true → has_actor cores banks to ≡ true
keeper-there cores banks Keeper is = refl
keeper-there cores banks (Core core) is = absurd (cc)
keeper-there cores banks (Bank bank) is = absurd (cc)

-- a mail that goes the right way goes to an actor of the machine
pub right-there : (cores banks : ℕ) (to : Actor) (m : Message) → 0 < banks → is_right cores banks to m ≡ true → has_actor cores banks to ≡ true
right-there cores banks to (ReadReq word reader) some is = bank-there cores banks word.0 to some is
right-there cores banks to (RegReq word core) some is = bank-there cores banks word.0 to some is
right-there cores banks to (WriteBack word value core) some is = bank-there cores banks word.0 to some is
right-there cores banks to (Acquire lock core) some is = bank-there cores banks lock.0 to some is
right-there cores banks to (Release lock core signature) some is = bank-there cores banks lock.0 to some is
right-there cores banks to (Arrived core bad) some is = keeper-there cores banks to is
right-there cores banks to (ReadFwd word reader) some is = core-there cores banks to is
right-there cores banks to (DataReply word value) some is = core-there cores banks to is
right-there cores banks to (RegFwd word core) some is = core-there cores banks to is
right-there cores banks to (RegAck word) some is = core-there cores banks to is
right-there cores banks to (WbAck word) some is = core-there cores banks to is
right-there cores banks to (Grant lock signature) some is = core-there cores banks to is
right-there cores banks to (Go phase) some is = core-there cores banks to is
right-there cores banks to Halt some is = core-there cores banks to is

pub not-lost : (b : Bool) → bit (not b) ≡ 0 → b ≡ true
not-lost true none = refl
not-lost false none = absurd (omega (arith, none))

node-there : (S : State) (place : ℕ) (test : NodeParts → Bool) → IsMachine S → when_there test (slice_get S.nodes place) ≡ true → nat_lt place S.setting.shape.cores ≡ true
node-there S place test good may = by_node (slice_get S.nodes place) refl may where
  by_node : (o : Option NodeParts) → slice_get S.nodes place ≡ o → when_there test o ≡ true → nat_lt place S.setting.shape.cores ≡ true
  by_node None is may = absurd (cc)
  by_node (Some n) is may = grind (arith, nat_tests, slice_get_within S.nodes place n is, good.nodes)

mail-there : (S : State) (M : ℕ → ℕ) (id : MailId) (a : Actor) → Invariant S M → receiver_of (removed id S.mails).0 ≡ Some a → has S.setting a ≡ true
mail-there S M id a inv is = by_mail (removed id S.mails).0 refl is where
  by_mail : (o : Option Mail) → (removed id S.mails).0 ≡ o → receiver_of o ≡ Some a → has S.setting a ≡ true
  by_mail None e is = absurd (none-some a is)
  by_mail (Some m) e is =
      let found = taken-place id S.mails m e in
      let one = weight-within (mail_count (is_lost S.setting.shape.cores S.setting.shape.banks)) S.mails found.0 m found.1.here in
      let right = not-lost (is_right S.setting.shape.cores S.setting.shape.banks m.to m.message) (omega (arith, one, inv.addressed)) in
      subst (λ (x : Actor). has S.setting x ≡ true) (same_Some m.to a is)
      (right-there S.setting.shape.cores S.setting.shape.banks m.to m.message inv.machine.context.some_banks right)

-- an event that may come is one of the machine's actors'
pub actor-there : (S : State) (M : ℕ → ℕ) (e : Event) (a : Actor) → Invariant S M → enabled S e ≡ true → actor_in S e ≡ Some a → has S.setting a ≡ true
unfolding enabled actor_in
actor-there S M (Instr core) a inv may is = subst (λ (x : Actor). has S.setting x ≡ true) (same_Some (Core core) a is) (node-there S core.0 (may_instr S.setting) inv.machine may)
actor-there S M (Evict core word) a inv may is =
    subst (λ (x : Actor). has S.setting x ≡ true) (same_Some (Core core) a is) (node-there S core.0 (λ n. may_evict S.setting n word.0) inv.machine may)
actor-there S M (Arrive core) a inv may is = subst (λ (x : Actor). has S.setting x ≡ true) (same_Some (Core core) a is) (node-there S core.0 may_arrive inv.machine may)
actor-there S M (Handle id) a inv may is = mail-there S M id a inv is

-- ---- what an event of a run sends

pub there-at : (C : Setting) (events : List Event) (n : ℕ) (e : Event) (a : Actor) → IsReady C → IsRun (initial_state C) events → slice_get events n ≡ Some e
    → actor_in (state_at (initial_state C) events n) e ≡ Some a → has C a ≡ true
there-at C events n e a ready run here is =
    let all = run-all C (take n events) ready (front-run (initial_state C) events n run) in
    let there = actor-there (state_at (initial_state C) events n) (memory_over (first_memory C) (initial_state C) (take n events)) e a all.1 (enabled-at (initial_state C) events n e run here) is in
    subst (λ (X : Setting). has X a ≡ true) (setting-at C events n) there

pub move-at : (C : Setting) (events : List Event) (n : ℕ) (e : Event) (a : Actor) → IsReady C → IsRun (initial_state C) events → slice_get events n ≡ Some e
    → actor_in (state_at (initial_state C) events n) e ≡ Some a → IsMove C (state_at (initial_state C) events n) (state_at (initial_state C) events (n + 1)) a
move-at C events n e a ready run here is =
    let S = state_at (initial_state C) events n in
    let all = run-all C (take n events) ready (front-run (initial_state C) events n run) in
    let there : has S.setting a ≡ true = subst (λ (X : Setting). has X a ≡ true) (sym (setting-at C events n)) (there-at C events n e a ready run here is) in
    subst (λ (X : Setting). IsMove X S (state_at (initial_state C) events (n + 1)) a) (setting-at C events n)
    (subst (λ (T : State). IsMove S.setting S T a) (sym (next-at (initial_state C) events n e here)) (event-move S e a all.0.machine is there))

-- What is kept of locks beside the rows: the signatures at their homes and in mails.
use Rattle.std.proofs.Common.{◌≡◌, ℕ, zero, suc, ◌+◌, ◌≤◌, ◌==◌, ◌&&◌, not, nat_lt, Bool, true, false, cond, slice_get, Option, Some, refl, sym, subst, ◌∙◌, arith}
use Rattle.std.proofs.lemmas.Bool.{eqb-true}
use Rattle.std.proofs.lemmas.Bool.Decides.{nat_tests}
use Rattle.std.proofs.lemmas.List.Sums.{sum_by-le-sum_by}
use Rattle.dn_base.specs.declared.ids.CoreId.{CoreId}
use Rattle.dn_base.specs.declared.ids.LockId.{LockId}
use Rattle.write_signature.specs.declared.signature.Signature.{Signature}
use Rattle.write_signature.specs.Signature.{tag, joined}
use Rattle.write_signature.proofs.SignatureLemmas.{tag-joined_below}
use Rattle.message_net.specs.declared.actor.Actor.{Actor}
use Rattle.message_net.specs.declared.actor.Actor.TheVariants.{Core, Bank, Keeper}
use Rattle.message_net.specs.declared.message.Mail.{Mail}
use Rattle.message_net.specs.declared.message.Message.{Message}
use Rattle.message_net.specs.declared.message.Message.TheVariants.{ReadReq, ReadFwd, DataReply, RegReq, RegFwd, RegAck, WriteBack, WbAck, Acquire, Release, Grant, Arrived, Go, Halt}
use Rattle.message_net.specs.declared.message.Outgoing.{Outgoing}
use Rattle.message_net.proofs.PoolLemmas.{weight-somewhere, weight-within}
use Rattle.queue_lock.specs.Lock.{Lock}
use Rattle.machine_rules.specs.State.{State, lock_at}
use Rattle.machine_rules.specs.Flight.{Test, bit, mail_count, flight, is_grant_to}
use Rattle.machine_rules.proofs.Bits.{passes, same_signature}
use Rattle.machine_rules.proofs.Invariant.{LocksGood, LockRow, lock_counts, is_unlike, is_late, is_lost, is_core}
use Rattle.machine_rules.proofs.WordEvents.{Flown}
use Rattle.machine_rules.proofs.WordCore.{same-number}

-- the signatures of a state: none is of a later phase, and each grant carries the kept one
pub record Signs (S : State) : Type 0 where
  pub kept : (l : ℕ) (h : Lock) → lock_at S l ≡ Some h → tag h.kept ≤ S.keeper.phase
  pub released : flight S (is_late S.keeper.phase) ≡ 0
  pub granted : (l : ℕ) (h : Lock) → lock_at S l ≡ Some h → flight S (is_unlike l h.kept) ≡ 0

pub signs-of : (S : State) → LocksGood S → Signs S
signs-of S g = record { kept = g.kept; released = g.released; granted = g.granted }

pub with-rows : (S : State) → ((l c : ℕ) → LockRow (lock_counts S l c)) → Signs S → LocksGood S
with-rows S rows signs = record { row = rows; kept = signs.kept; released = signs.released; granted = signs.granted }

-- an event that leaves each lock's state, the keeper's phase, and what is counted of signatures
pub signs-stay : (S T : State) → Signs S → ((l : ℕ) → lock_at T l ≡ lock_at S l) → T.keeper.phase ≡ S.keeper.phase
    → flight T (is_late S.keeper.phase) ≤ flight S (is_late S.keeper.phase) → ((l : ℕ) (s : Signature) → flight T (is_unlike l s) ≤ flight S (is_unlike l s)) → Signs T
signs-stay S T g locks phase late unlike =
    record {
      kept = λ l h is. rw (phase) (g.kept l h (sym (locks l) ∙ is));
      released = rw (phase) (omega (arith, late, g.released));
      granted = λ l h is. omega (arith, unlike l h.kept, g.granted l h (sym (locks l) ∙ is));
    }

-- a test of which nothing is sent counts no more than before
pub no-more : (S T : State) (left sent : Option Outgoing) (p : Test) → Flown S T left sent → passes p sent ≡ 0 → flight T p ≤ flight S p
no-more S T left sent p flown none = omega (arith, flown p, none)

pub same-sign : (s : Signature) → same_signature s s ≡ true
same-sign s = rw (same-number s.low, same-number s.high, same-number s.phase.0) refl

-- ---- no grant of a lock is in flight

not-lost : (b : Bool) → bit (not b) ≤ 0 → b ≡ true
not-lost true none = refl
not-lost false none = absurd (omega (arith, none))

-- a grant goes to a core
grant-to : (cores : ℕ) (to : Actor) → is_core cores to ≡ true → (c : CoreId) × (to ≡ Core c)
grant-to cores (Core c) is = (c, refl)
grant-to cores (Bank bank) is = absurd (cc)
grant-to cores Keeper is = absurd (cc)

pub no-grants : (S : State) (l : ℕ) (s : Signature) → flight S (is_lost S.setting.shape.cores S.setting.shape.banks) ≡ 0 → ((c : ℕ) → flight S (is_grant_to l c) ≡ 0) → flight S (is_unlike l s) ≡ 0
no-grants S l s addressed none = by_count (flight S (is_unlike l s)) refl where
  by_count : (x : ℕ) → flight S (is_unlike l s) ≡ x → flight S (is_unlike l s) ≡ 0
  by_count zero is = is
  by_count (suc x) is = absurd (somewhere (weight-somewhere (mail_count (is_unlike l s)) S.mails (omega (arith, is))))
    where
      by_message : (m : Mail) (place : ℕ) (message : Message) → m.message ≡ message → slice_get S.mails place ≡ Some m → 1 ≤ bit (is_unlike l s m.to message) → ⊥
      by_message m place (Grant lock t) is there some =
          let right = rw (is) at (weight-within (mail_count (is_lost S.setting.shape.cores S.setting.shape.banks)) S.mails place m there) in
          let to = grant-to S.setting.shape.cores m.to (not-lost (is_core S.setting.shape.cores m.to) (omega (arith, right, addressed))) in
          by_core to.0 to.1
        where
          by_lock : (x y : Bool) → 1 ≤ bit (x && y) → bit (x && true) ≤ 0 → ⊥
          by_lock true y one zero_bits = absurd (omega (arith, zero_bits))
          by_lock false y one zero_bits = absurd (omega (arith, one))

          by_core : (c : CoreId) → m.to ≡ Core c → ⊥
          by_core c to =
              let within = rw (is, to, same-number c.0) at (weight-within (mail_count (is_grant_to l c.0)) S.mails place m there) in
              by_lock (lock.0 == l) (not (same_signature s t)) some (omega (arith, within, none c.0))
      by_message m place (ReadReq word reader) is there some = absurd (omega (arith, some))
      by_message m place (ReadFwd word reader) is there some = absurd (omega (arith, some))
      by_message m place (DataReply word value) is there some = absurd (omega (arith, some))
      by_message m place (RegReq word core) is there some = absurd (omega (arith, some))
      by_message m place (RegFwd word core) is there some = absurd (omega (arith, some))
      by_message m place (RegAck word) is there some = absurd (omega (arith, some))
      by_message m place (WriteBack word value core) is there some = absurd (omega (arith, some))
      by_message m place (WbAck word) is there some = absurd (omega (arith, some))
      by_message m place (Acquire lock core) is there some = absurd (omega (arith, some))
      by_message m place (Release lock core t) is there some = absurd (omega (arith, some))
      by_message m place (Arrived core bad) is there some = absurd (omega (arith, some))
      by_message m place (Go phase) is there some = absurd (omega (arith, some))
      by_message m place Halt is there some = absurd (omega (arith, some))

      somewhere : (place : ℕ) × (m : Mail) × (slice_get S.mails place ≡ Some m) × (1 ≤ mail_count (is_unlike l s) m) → ⊥
      somewhere (place, m, there, some) = by_message m place m.message refl there some

-- ---- later phases

late-le : (p : ℕ) (m : Mail) → mail_count (is_late (p + 1)) m ≤ mail_count (is_late p) m
late-le p m = by_message m.message where
  by_message : (message : Message) → bit (is_late (p + 1) m.to message) ≤ bit (is_late p m.to message)
  by_message (Release lock core s) = by_tests (nat_lt (p + 1) (tag s)) refl (nat_lt p (tag s)) refl where
    by_tests : (x : Bool) → nat_lt (p + 1) (tag s) ≡ x → (y : Bool) → nat_lt p (tag s) ≡ y → bit x ≤ bit y
    by_tests true e true f = omega arith
    by_tests true e false f = absurd (grind (arith, nat_tests, e, f))
    by_tests false e y f = omega arith
  by_message (ReadReq word reader) = omega arith
  by_message (ReadFwd word reader) = omega arith
  by_message (DataReply word value) = omega arith
  by_message (RegReq word core) = omega arith
  by_message (RegFwd word core) = omega arith
  by_message (RegAck word) = omega arith
  by_message (WriteBack word value core) = omega arith
  by_message (WbAck word) = omega arith
  by_message (Acquire lock core) = omega arith
  by_message (Grant lock s) = omega arith
  by_message (Arrived core bad) = omega arith
  by_message (Go phase) = omega arith
  by_message Halt = omega arith

pub later-le : (S : State) (p : ℕ) → flight S (is_late (p + 1)) ≤ flight S (is_late p)
later-le S p = sum_by-le-sum_by (mail_count (is_late (p + 1))) (mail_count (is_late p)) S.mails (late-le p)

-- ---- what a lock's home does

-- the home of a lock gets another state, which keeps the signature; no release is sent, and a grant with that signature at the most
pub signs-kept : (S T : State) (lock : LockId) (h k : Lock) (left sent : Option Outgoing) → Signs S → lock_at S lock.0 ≡ Some h → ((l : ℕ) → lock_at T l ≡ cond (lock.0 == l) (Some k) (lock_at S l))
    → T.keeper.phase ≡ S.keeper.phase → Flown S T left sent → k.kept ≡ h.kept → passes (is_late S.keeper.phase) sent ≡ 0
    → ((l : ℕ) (s : Signature) → (lock.0 == l) ≡ false → passes (is_unlike l s) sent ≡ 0) → passes (is_unlike lock.0 h.kept) sent ≡ 0 → Signs T
signs-kept S T lock h k left sent g was now phase flown same late others own =
    record {
      kept = λ l x is. rw (phase) (by_kept l x (lock.0 == l) refl is);
      released = rw (phase) (omega (arith, flown (is_late S.keeper.phase), late, g.released));
      granted = λ l x is. by_granted l x (lock.0 == l) refl is;
    }
  where
    by_kept : (l : ℕ) (x : Lock) (t : Bool) → (lock.0 == l) ≡ t → lock_at T l ≡ Some x → tag x.kept ≤ S.keeper.phase
    by_kept l x true e is =
        let state : Some k ≡ Some x = sym (rw (e) at (now l)) ∙ is in
        let one : k ≡ x = cc in
        subst (λ (y : Lock). tag y.kept ≤ S.keeper.phase) one (rw (same) (g.kept lock.0 h was))
    by_kept l x false e is = g.kept l x (sym (rw (e) at (now l)) ∙ is)

    by_granted : (l : ℕ) (x : Lock) (t : Bool) → (lock.0 == l) ≡ t → lock_at T l ≡ Some x → flight T (is_unlike l x.kept) ≡ 0
    by_granted l x true e is =
        let state : Some k ≡ Some x = sym (rw (e) at (now l)) ∙ is in
        let one : k ≡ x = cc in
        let here : flight T (is_unlike lock.0 h.kept) ≡ 0 = omega (arith, flown (is_unlike lock.0 h.kept), own, g.granted lock.0 h was) in
        subst (λ (y : ℕ). flight T (is_unlike y x.kept) ≡ 0) (eqb-true lock.0 l e)
        (subst (λ (y : Lock). flight T (is_unlike lock.0 y.kept) ≡ 0) one (rw (same) here))
    by_granted l x false e is = omega (arith, flown (is_unlike l x.kept), others l x.kept e, g.granted l x (sym (rw (e) at (now l)) ∙ is))

-- the home of a lock joins a signature to the kept one, while no grant of the lock is in flight
pub signs-joined : (S T : State) (lock : LockId) (core : CoreId) (s : Signature) (h k : Lock) (to : Actor) (sent : Option Outgoing) → Signs S → lock_at S lock.0 ≡ Some h
    → ((l : ℕ) → lock_at T l ≡ cond (lock.0 == l) (Some k) (lock_at S l)) → T.keeper.phase ≡ S.keeper.phase → Flown S T (Some (record { to = to; message = Release lock core s })) sent
    → k.kept ≡ joined h.kept s → passes (is_late S.keeper.phase) sent ≡ 0 → ((l : ℕ) (t : Signature) → (lock.0 == l) ≡ false → passes (is_unlike l t) sent ≡ 0)
    → passes (is_unlike lock.0 k.kept) sent ≡ 0 → flight S (is_unlike lock.0 k.kept) ≡ 0 → Signs T
signs-joined S T lock core s h k to sent g was now phase flown is_joined late others own none =
    record {
      kept = λ l x is. rw (phase) (by_kept l x (lock.0 == l) refl is);
      released = rw (phase) (omega (arith, flown (is_late S.keeper.phase), late, g.released));
      granted = λ l x is. by_granted l x (lock.0 == l) refl is;
    }
  where
    early : tag s ≤ S.keeper.phase
    early = by_test (nat_lt S.keeper.phase (tag s)) refl (flown (is_late S.keeper.phase)) where
      by_test : (t : Bool) → nat_lt S.keeper.phase (tag s) ≡ t → flight T (is_late S.keeper.phase) + bit (nat_lt S.keeper.phase (tag s)) ≡ flight S (is_late S.keeper.phase) + passes (is_late S.keeper.phase) sent → tag s ≤ S.keeper.phase
      by_test true e moved = let one = rw (e) at moved in absurd (omega (arith, one, late, g.released))
      by_test false e moved = grind (arith, nat_tests, e)

    by_kept : (l : ℕ) (x : Lock) (t : Bool) → (lock.0 == l) ≡ t → lock_at T l ≡ Some x → tag x.kept ≤ S.keeper.phase
    by_kept l x true e is =
        let state : Some k ≡ Some x = sym (rw (e) at (now l)) ∙ is in
        let one : k ≡ x = cc in
        subst (λ (y : Lock). tag y.kept ≤ S.keeper.phase) one (rw (is_joined) (tag-joined_below h.kept s S.keeper.phase (g.kept lock.0 h was) early))
    by_kept l x false e is = g.kept l x (sym (rw (e) at (now l)) ∙ is)

    by_granted : (l : ℕ) (x : Lock) (t : Bool) → (lock.0 == l) ≡ t → lock_at T l ≡ Some x → flight T (is_unlike l x.kept) ≡ 0
    by_granted l x true e is =
        let state : Some k ≡ Some x = sym (rw (e) at (now l)) ∙ is in
        let one : k ≡ x = cc in
        let here : flight T (is_unlike lock.0 k.kept) ≡ 0 = omega (arith, flown (is_unlike lock.0 k.kept), own, none) in
        subst (λ (y : ℕ). flight T (is_unlike y x.kept) ≡ 0) (eqb-true lock.0 l e) (subst (λ (y : Lock). flight T (is_unlike lock.0 y.kept) ≡ 0) one here)
    by_granted l x false e is = omega (arith, flown (is_unlike l x.kept), others l x.kept e, g.granted l x (sym (rw (e) at (now l)) ∙ is))

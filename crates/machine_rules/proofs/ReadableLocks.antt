-- What is kept says that the locks are coherent.
use Rattle.std.proofs.Common.{◌≡◌, ℕ, ◌≤◌, ◌%◌, ◌==◌, not, Bool, true, false, slice_get, Option, Some, None, refl, sym, ap, ◌∙◌, arith}
use Rattle.std.proofs.lemmas.Bool.{eqb-true}
use Rattle.std.proofs.lemmas.Bool.Decides.{nat_tests}
use Rattle.dn_base.specs.declared.ids.CoreId.{CoreId}
use Rattle.dn_base.specs.declared.ids.LockId.{LockId}
use Rattle.write_signature.specs.declared.signature.Signature.{Signature}
use Rattle.write_signature.specs.Signature.{tag}
use Rattle.message_net.specs.declared.message.Mail.{Mail}
use Rattle.message_net.specs.declared.message.Message.TheVariants.{Release, Grant}
use Rattle.message_net.proofs.PoolLemmas.{weight-within}
use Rattle.queue_lock.specs.Lock.{Lock, IsLockOf}
use Rattle.registry_bank.specs.Bank.{BankParts}
use Rattle.machine_rules.specs.State.{State, lock_in, lock_at}
use Rattle.machine_rules.specs.Sound.{IsMachine}
use Rattle.machine_rules.specs.Flight.{bit, mail_count}
use Rattle.machine_rules.specs.Coherent.{AreLocks, IsInFlight}
use Rattle.machine_rules.proofs.Bits.{same_signature}
use Rattle.machine_rules.proofs.Invariant.{Invariant, LocksGood, is_unlike, is_late}
use Rattle.machine_rules.proofs.WordCore.{same-number}

-- signatures with the same bits and phase are one
same-is : (a b : Signature) → bit (not (same_signature a b)) ≤ 0 → a ≡ b
same-is a b none = by_low (a.low == b.low) refl (a.high == b.high) refl (a.phase.0 == b.phase.0) refl where
  by_low : (x : Bool) → (a.low == b.low) ≡ x → (y : Bool) → (a.high == b.high) ≡ y → (z : Bool) → (a.phase.0 == b.phase.0) ≡ z → a ≡ b
  by_low true e true f true g =
      ap (λ (x : ℕ). record { low = x; high = a.high; phase = a.phase }) (eqb-true a.low b.low e)
      ∙ (ap (λ (x : ℕ). record { low = b.low; high = x; phase = a.phase }) (eqb-true a.high b.high f)
      ∙ ap (λ (x : ℕ). record { low = b.low; high = b.high; phase = record { 0 = x } }) (eqb-true a.phase.0 b.phase.0 g))
  by_low false e y f z g = let one = rw (e) at none in absurd (omega (arith, one))
  by_low true e false f z g = let one = rw (e, f) at none in absurd (omega (arith, one))
  by_low true e true f false g = let one = rw (e, f, g) at none in absurd (omega (arith, one))

-- a lock's home keeps it well
pub lock-well : (S : State) → IsMachine S → (l : ℕ) (h : Lock) → lock_at S l ≡ Some h → IsLockOf S.setting.shape.cores h
lock-well S machine l h is = by_bank (slice_get S.banks (l % S.setting.shape.banks)) refl is where
  by_bank : (o : Option BankParts) → slice_get S.banks (l % S.setting.shape.banks) ≡ o → lock_in l o ≡ Some h → IsLockOf S.setting.shape.cores h
  by_bank None found at = absurd (cc)
  by_bank (Some b) found at =
      let home = machine.bank (l % S.setting.shape.banks) b found in
      rw (home.cores) at ((home.well).locks l h at)

granted : (S : State) → LocksGood S → (m : Mail) (lock : LockId) (s : Signature) → IsInFlight S m → m.message ≡ Grant lock s
    → (h : Lock) → lock_at S lock.0 ≡ Some h → s ≡ h.kept
granted S g m lock s (place, there) is h at =
    let within = rw (is, same-number lock.0) at (weight-within (mail_count (is_unlike lock.0 h.kept)) S.mails place m there) in
    sym (same-is h.kept s (omega (arith, within, g.granted lock.0 h at)))

sent : (S : State) → LocksGood S → (m : Mail) (lock : LockId) (core : CoreId) (s : Signature) → IsInFlight S m → m.message ≡ Release lock core s → tag s ≤ S.keeper.phase
sent S g m lock core s (place, there) is =
    let within = rw (is) at (weight-within (mail_count (is_late S.keeper.phase)) S.mails place m there) in
    grind (arith, nat_tests, within, g.released)

pub locks : (S : State) (M : ℕ → ℕ) → Invariant S M → AreLocks S
locks S M inv =
    record {
      free = λ l h is. (lock-well S inv.machine l h is).lock.free;
      held = λ l c. (inv.locks.row l c).held;
      awaited = λ l c. (inv.locks.row l c).awaited;
      granted = granted S inv.locks;
      kept = inv.locks.kept;
      sent = sent S inv.locks;
      own = λ c n found. ((inv.machine.node c n found).fits).tags;
      behind = inv.behind;
    }

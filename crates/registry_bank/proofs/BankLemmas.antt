-- What acquires and releases come to at a bank.
use Rattle.std.proofs.Common.{◌≡◌, ℕ, ◌/◌, ◌<◌, Bool, true, false, nat_lt, List, length, slice_get, Option, Some, None, refl, arith}
use Rattle.std.specs.Prelude.{slice_set}
use Rattle.std.proofs.lemmas.Bool.Decides.{nat_tests}
use Rattle.std.proofs.lemmas.Option.{slice_get_cases}
use Rattle.dn_base.specs.declared.ids.CoreId.{CoreId}
use Rattle.dn_base.specs.declared.ids.LockId.{LockId}
use Rattle.write_signature.specs.declared.signature.Signature.{Signature}
use Rattle.message_net.specs.declared.message.Outgoing.{Outgoing}
use Rattle.queue_lock.specs.Lock.{Lock, acquired, released}
use Rattle.registry_bank.specs.Bank.{BankParts, is_here, bank_lock, lock_index, acquires, releases, grants, hands_on}

-- a lock of the bank stands at its place
pub lock_at : (b : BankParts) (l place : ℕ) → Some place ≡ lock_index b l → (place ≡ l / b.banks) × (place < length b.locks) × (bank_lock b l ≡ slice_get b.locks place)
lock_at b l place found = by_test (is_here b l) (nat_lt (l / b.banks) (length b.locks)) refl refl where
  by_test : (t u : Bool) → is_here b l ≡ t → nat_lt (l / b.banks) (length b.locks) ≡ u → (place ≡ l / b.banks) × (place < length b.locks) × (bank_lock b l ≡ slice_get b.locks place)
  by_test false u e f = let never = rw e at found in absurd (cc)
  by_test true false e f = let never = rw (e, f) at found in absurd (cc)
  by_test true true e f =
      let at = rw (e, f) at found in
      let same : place ≡ l / b.banks = cc in
      (same, grind (arith, nat_tests), rw (e, same) refl)

-- the state of the lock at a place
state_at : (locks : List Lock) (place : ℕ) → place < length locks → (state : Lock) × (slice_get locks place ≡ Some state)
state_at locks place within = by_case (slice_get locks place) refl where
  by_case : (o : Option Lock) → slice_get locks place ≡ o → (state : Lock) × (slice_get locks place ≡ Some state)
  by_case None e = absurd (grind (arith, slice_get_cases locks place))
  by_case (Some state) e = (state, e)

pub acquire_found : (b : BankParts) (lock : LockId) (core : CoreId) (place : ℕ) (locks : List Lock) (sent : Option Outgoing) → Some place ≡ lock_index b lock.0 → ((state : Lock) → slice_get b.locks place ≡ Some state → (locks ≡ slice_set b.locks place (acquired state core).0) × (sent ≡ grants lock core (acquired state core).1)) → acquires b lock core (bank_lock b lock.0) ≡ (record b { locks = locks }, sent)
acquire_found b lock core place locks sent found does =
    let at = lock_at b lock.0 place found in
    let held = state_at b.locks place at.1 in
    let done = does held.0 held.1 in
    finish held.0 held.1 at.0 at.2 done.0 done.1 where
      finish : (state : Lock) → slice_get b.locks place ≡ Some state → place ≡ lock.0 / b.banks → bank_lock b lock.0 ≡ slice_get b.locks place → locks ≡ slice_set b.locks place (acquired state core).0 → sent ≡ grants lock core (acquired state core).1 → acquires b lock core (bank_lock b lock.0) ≡ (record b { locks = locks }, sent)
      finish state here same at after answer = rw (at, here, after, answer, same) refl

pub release_found : (b : BankParts) (lock : LockId) (core : CoreId) (signature : Signature) (place : ℕ) (locks : List Lock) (sent : Option Outgoing) → Some place ≡ lock_index b lock.0 → ((state : Lock) → slice_get b.locks place ≡ Some state → (locks ≡ slice_set b.locks place (released state core signature).0) × (sent ≡ hands_on lock (released state core signature).1)) → releases b lock core signature (bank_lock b lock.0) ≡ (record b { locks = locks }, sent)
release_found b lock core signature place locks sent found does =
    let at = lock_at b lock.0 place found in
    let held = state_at b.locks place at.1 in
    let done = does held.0 held.1 in
    finish held.0 held.1 at.0 at.2 done.0 done.1 where
      finish : (state : Lock) → slice_get b.locks place ≡ Some state → place ≡ lock.0 / b.banks → bank_lock b lock.0 ≡ slice_get b.locks place → locks ≡ slice_set b.locks place (released state core signature).0 → sent ≡ hands_on lock (released state core signature).1 → releases b lock core signature (bank_lock b lock.0) ≡ (record b { locks = locks }, sent)
      finish state here same at after answer = rw (at, here, after, answer, same) refl

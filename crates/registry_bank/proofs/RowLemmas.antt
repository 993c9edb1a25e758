-- What each message comes to at a bank.
use Rattle.std.proofs.Common.{◌≡◌, ◌≢◌, ℕ, ◌<◌, ◌≤◌, ◌==◌, Bool, true, false, cond, nat_lt, Option, Some, None, refl, ◌∙◌, arith}
use Rattle.std.proofs.lemmas.Bool.{eqb-true}
use Rattle.std.proofs.lemmas.Bool.Decides.{nat_tests}
use Rattle.dn_base.specs.declared.ids.CoreId.{CoreId}
use Rattle.dn_base.specs.declared.ids.WordId.{WordId}
use Rattle.dn_base.specs.declared.ids.LockId.{LockId}
use Rattle.write_signature.specs.declared.signature.Signature.{Signature}
use Rattle.message_net.specs.declared.message.Message.TheVariants.{ReadReq, ReadFwd, DataReply, RegReq, RegFwd, RegAck, WriteBack, WbAck, Acquire, Release}
use Rattle.message_net.specs.declared.message.Outgoing.{Outgoing}
use Rattle.message_net.specs.Mail.{to_core}
use Rattle.queue_lock.specs.Lock.{Lock, acquired, released}
use Rattle.registry_bank.specs.declared.bank.BankWord.{BankWord}
use Rattle.registry_bank.specs.declared.bank.BankWord.TheVariants.{Home, Reg}
use Rattle.registry_bank.specs.Bank.{BankParts, is_same_core, bank_word, bank_lock, with_word, with_lock, reads, registers, takes_back, acquires, releases, grants, hands_on, from_core, bank_gets, after_register, after_write_back, after_acquire, after_release}
use Rattle.registry_bank.proofs.ChangeLemmas.{word-changed, lock-changed}

from_core-there : (b : BankParts) (core : CoreId) (row : BankParts × Option Outgoing) → core.0 < b.cores → from_core b core row ≡ row
from_core-there b core row there =
    let is : nat_lt core.0 b.cores ≡ true = grind (arith, nat_tests) in
    rw is refl

from_core-missing : (b : BankParts) (core : CoreId) (row : BankParts × Option Outgoing) → b.cores ≤ core.0 → from_core b core row ≡ (b, None)
from_core-missing b core row past =
    let is : nat_lt core.0 b.cores ≡ false = grind (arith, nat_tests) in
    rw is refl

-- the row of a message from a core of the machine
pub read-row : (b : BankParts) (word : WordId) (reader : CoreId) → reader.0 < b.cores → bank_gets b (ReadReq word reader) ≡ reads b word reader (bank_word b word.0)
unfolding bank_gets
read-row b word reader there =
    from_core-there b reader (reads b word reader (bank_word b word.0)) there

pub register-row : (b : BankParts) (word : WordId) (core : CoreId) → core.0 < b.cores → bank_gets b (RegReq word core) ≡ registers b word core (bank_word b word.0)
unfolding bank_gets
register-row b word core there =
    from_core-there b core (registers b word core (bank_word b word.0)) there

pub write_back-row : (b : BankParts) (word : WordId) (value : ℕ) (core : CoreId) → core.0 < b.cores → bank_gets b (WriteBack word value core) ≡ takes_back b word value core (bank_word b word.0)
unfolding bank_gets
write_back-row b word value core there =
    from_core-there b core (takes_back b word value core (bank_word b word.0)) there

pub acquire-row : (b : BankParts) (lock : LockId) (core : CoreId) → core.0 < b.cores → bank_gets b (Acquire lock core) ≡ acquires b lock core (bank_lock b lock.0)
unfolding bank_gets
acquire-row b lock core there =
    from_core-there b core (acquires b lock core (bank_lock b lock.0)) there

pub release-row : (b : BankParts) (lock : LockId) (core : CoreId) (signature : Signature) → core.0 < b.cores → bank_gets b (Release lock core signature) ≡ releases b lock core signature (bank_lock b lock.0)
unfolding bank_gets
release-row b lock core signature there =
    from_core-there b core (releases b lock core signature (bank_lock b lock.0)) there

-- the rows by what the bank holds
pub read-home : (b : BankParts) (word : WordId) (reader : CoreId) (value : ℕ) → reader.0 < b.cores → bank_word b word.0 ≡ Some (Home value) → bank_gets b (ReadReq word reader) ≡ (b, to_core reader (DataReply word value))
read-home b word reader value there held = read-row b word reader there ∙ rw held refl

pub read-registered : (b : BankParts) (word : WordId) (reader registrant : CoreId) → reader.0 < b.cores → bank_word b word.0 ≡ Some (Reg registrant) → bank_gets b (ReadReq word reader) ≡ (b, to_core registrant (ReadFwd word reader))
read-registered b word reader registrant there held = read-row b word reader there ∙ rw held refl

pub register-home : (b : BankParts) (word : WordId) (core : CoreId) (value : ℕ) → core.0 < b.cores → bank_word b word.0 ≡ Some (Home value) → bank_gets b (RegReq word core) ≡ (with_word b word.0 (Reg core), to_core core (RegAck word))
register-home b word core value there held = register-row b word core there ∙ rw held refl

pub register-own : (b : BankParts) (word : WordId) (core registrant : CoreId) → core.0 < b.cores → bank_word b word.0 ≡ Some (Reg registrant) → registrant.0 ≡ core.0 → bank_gets b (RegReq word core) ≡ (with_word b word.0 (Reg core), to_core core (RegAck word))
register-own b word core registrant there held same =
    let is : is_same_core registrant core ≡ true = grind (arith, nat_tests) in
    register-row b word core there ∙ rw (held, is) refl

pub register-other : (b : BankParts) (word : WordId) (core registrant : CoreId) → core.0 < b.cores → bank_word b word.0 ≡ Some (Reg registrant) → registrant.0 ≢ core.0 → bank_gets b (RegReq word core) ≡ (with_word b word.0 (Reg core), to_core registrant (RegFwd word core))
register-other b word core registrant there held other =
    let is : is_same_core registrant core ≡ false = grind (arith, nat_tests) in
    register-row b word core there ∙ rw (held, is) refl

pub write_back-own : (b : BankParts) (word : WordId) (value : ℕ) (core registrant : CoreId) → core.0 < b.cores → bank_word b word.0 ≡ Some (Reg registrant) → registrant.0 ≡ core.0 → bank_gets b (WriteBack word value core) ≡ (with_word b word.0 (Home value), to_core core (WbAck word))
write_back-own b word value core registrant there held same =
    let is : is_same_core registrant core ≡ true = grind (arith, nat_tests) in
    write_back-row b word value core there ∙ rw (held, is) refl

pub write_back-other : (b : BankParts) (word : WordId) (value : ℕ) (core registrant : CoreId) → core.0 < b.cores → bank_word b word.0 ≡ Some (Reg registrant) → registrant.0 ≢ core.0 → bank_gets b (WriteBack word value core) ≡ (b, to_core core (WbAck word))
write_back-other b word value core registrant there held other =
    let is : is_same_core registrant core ≡ false = grind (arith, nat_tests) in
    write_back-row b word value core there ∙ rw (held, is) refl

pub write_back-home : (b : BankParts) (word : WordId) (value old : ℕ) (core : CoreId) → core.0 < b.cores → bank_word b word.0 ≡ Some (Home old) → bank_gets b (WriteBack word value core) ≡ (b, to_core core (WbAck word))
write_back-home b word value old core there held = write_back-row b word value core there ∙ rw held refl

pub acquire-here : (b : BankParts) (lock : LockId) (core : CoreId) (state : Lock) → core.0 < b.cores → bank_lock b lock.0 ≡ Some state → bank_gets b (Acquire lock core) ≡ (with_lock b lock.0 (acquired state core).0, grants lock core (acquired state core).1)
acquire-here b lock core state there held = acquire-row b lock core there ∙ rw held refl

pub release-here : (b : BankParts) (lock : LockId) (core : CoreId) (signature : Signature) (state : Lock) → core.0 < b.cores → bank_lock b lock.0 ≡ Some state → bank_gets b (Release lock core signature) ≡ (with_lock b lock.0 (released state core signature).0, hands_on lock (released state core signature).1)
release-here b lock core signature state there held = release-row b lock core signature there ∙ rw held refl

-- what each word has after a message
pub word-registered : (b : BankParts) (word : WordId) (core : CoreId) (w : ℕ) → 0 < b.banks → core.0 < b.cores → bank_word (bank_gets b (RegReq word core)).0 w ≡ cond (word.0 == w) (after_register core (bank_word b w)) (bank_word b w)
word-registered b word core w some there =
    rw (register-row b word core there) (by_content (bank_word b word.0) refl (word.0 == w) refl) where
      by_content : (o : Option BankWord) → bank_word b word.0 ≡ o → (t : Bool) → (word.0 == w) ≡ t → bank_word (registers b word core o).0 w ≡ cond (word.0 == w) (after_register core (bank_word b w)) (bank_word b w)
      by_content None e true f =
          let same : word.0 ≡ w = eqb-true word.0 w f in
          rw (f, ← same, e) refl
      by_content None e false f = rw f refl
      by_content (Some (Home value)) e true f =
          let same : word.0 ≡ w = eqb-true word.0 w f in
          word-changed b word.0 w (Home value) (Reg core) some e ∙ rw (f, ← same, e) refl
      by_content (Some (Home value)) e false f =
          word-changed b word.0 w (Home value) (Reg core) some e ∙ rw f refl
      by_content (Some (Reg registrant)) e true f =
          let same : word.0 ≡ w = eqb-true word.0 w f in
          word-changed b word.0 w (Reg registrant) (Reg core) some e ∙ rw (f, ← same, e) refl
      by_content (Some (Reg registrant)) e false f =
          word-changed b word.0 w (Reg registrant) (Reg core) some e ∙ rw f refl

pub word-written_back : (b : BankParts) (word : WordId) (value : ℕ) (core : CoreId) (w : ℕ) → 0 < b.banks → core.0 < b.cores → bank_word (bank_gets b (WriteBack word value core)).0 w ≡ cond (word.0 == w) (after_write_back core value (bank_word b w)) (bank_word b w)
word-written_back b word value core w some there =
    rw (write_back-row b word value core there) (by_content (bank_word b word.0) refl (word.0 == w) refl) where
      by_registrant : (registrant : CoreId) → bank_word b word.0 ≡ Some (Reg registrant) → (own t : Bool) → is_same_core registrant core ≡ own → (word.0 == w) ≡ t → bank_word (takes_back b word value core (Some (Reg registrant))).0 w ≡ cond (word.0 == w) (after_write_back core value (bank_word b w)) (bank_word b w)
      by_registrant registrant e true true g f =
          let same : word.0 ≡ w = eqb-true word.0 w f in
          rw g (word-changed b word.0 w (Reg registrant) (Home value) some e ∙ rw (f, ← same, e, g) refl)
      by_registrant registrant e true false g f =
          rw g (word-changed b word.0 w (Reg registrant) (Home value) some e ∙ rw f refl)
      by_registrant registrant e false true g f =
          let same : word.0 ≡ w = eqb-true word.0 w f in
          rw (g, f, ← same, e, g) refl
      by_registrant registrant e false false g f = rw (g, f) refl

      by_content : (o : Option BankWord) → bank_word b word.0 ≡ o → (t : Bool) → (word.0 == w) ≡ t → bank_word (takes_back b word value core o).0 w ≡ cond (word.0 == w) (after_write_back core value (bank_word b w)) (bank_word b w)
      by_content None e true f =
          let same : word.0 ≡ w = eqb-true word.0 w f in
          rw (f, ← same, e) refl
      by_content None e false f = rw f refl
      by_content (Some (Home old)) e true f =
          let same : word.0 ≡ w = eqb-true word.0 w f in
          rw (f, ← same, e) refl
      by_content (Some (Home old)) e false f = rw f refl
      by_content (Some (Reg registrant)) e t f =
          by_registrant registrant e (is_same_core registrant core) t refl f

-- what each lock has after a message
pub lock-acquired : (b : BankParts) (lock : LockId) (core : CoreId) (l : ℕ) → 0 < b.banks → core.0 < b.cores → bank_lock (bank_gets b (Acquire lock core)).0 l ≡ cond (lock.0 == l) (after_acquire core (bank_lock b l)) (bank_lock b l)
lock-acquired b lock core l some there =
    rw (acquire-row b lock core there) (by_state (bank_lock b lock.0) refl (lock.0 == l) refl) where
      by_state : (o : Option Lock) → bank_lock b lock.0 ≡ o → (t : Bool) → (lock.0 == l) ≡ t → bank_lock (acquires b lock core o).0 l ≡ cond (lock.0 == l) (after_acquire core (bank_lock b l)) (bank_lock b l)
      by_state None e true f =
          let same : lock.0 ≡ l = eqb-true lock.0 l f in
          rw (f, ← same, e) refl
      by_state None e false f = rw f refl
      by_state (Some state) e true f =
          let same : lock.0 ≡ l = eqb-true lock.0 l f in
          lock-changed b lock.0 l state (acquired state core).0 some e ∙ rw (f, ← same, e) refl
      by_state (Some state) e false f =
          lock-changed b lock.0 l state (acquired state core).0 some e ∙ rw f refl

pub lock-released : (b : BankParts) (lock : LockId) (core : CoreId) (signature : Signature) (l : ℕ) → 0 < b.banks → core.0 < b.cores → bank_lock (bank_gets b (Release lock core signature)).0 l ≡ cond (lock.0 == l) (after_release core signature (bank_lock b l)) (bank_lock b l)
lock-released b lock core signature l some there =
    rw (release-row b lock core signature there) (by_state (bank_lock b lock.0) refl (lock.0 == l) refl) where
      by_state : (o : Option Lock) → bank_lock b lock.0 ≡ o → (t : Bool) → (lock.0 == l) ≡ t → bank_lock (releases b lock core signature o).0 l ≡ cond (lock.0 == l) (after_release core signature (bank_lock b l)) (bank_lock b l)
      by_state None e true f =
          let same : lock.0 ≡ l = eqb-true lock.0 l f in
          rw (f, ← same, e) refl
      by_state None e false f = rw f refl
      by_state (Some state) e true f =
          let same : lock.0 ≡ l = eqb-true lock.0 l f in
          lock-changed b lock.0 l state (released state core signature).0 some e ∙ rw (f, ← same, e) refl
      by_state (Some state) e false f =
          lock-changed b lock.0 l state (released state core signature).0 some e ∙ rw f refl

-- a message of a core that the machine lacks
pub read-missing : (b : BankParts) (word : WordId) (reader : CoreId) → b.cores ≤ reader.0 → bank_gets b (ReadReq word reader) ≡ (b, None)
unfolding bank_gets
read-missing b word reader past =
    from_core-missing b reader (reads b word reader (bank_word b word.0)) past

pub register-missing : (b : BankParts) (word : WordId) (core : CoreId) → b.cores ≤ core.0 → bank_gets b (RegReq word core) ≡ (b, None)
unfolding bank_gets
register-missing b word core past =
    from_core-missing b core (registers b word core (bank_word b word.0)) past

pub write_back-missing : (b : BankParts) (word : WordId) (value : ℕ) (core : CoreId) → b.cores ≤ core.0 → bank_gets b (WriteBack word value core) ≡ (b, None)
unfolding bank_gets
write_back-missing b word value core past =
    from_core-missing b core (takes_back b word value core (bank_word b word.0)) past

pub acquire-missing : (b : BankParts) (lock : LockId) (core : CoreId) → b.cores ≤ core.0 → bank_gets b (Acquire lock core) ≡ (b, None)
unfolding bank_gets
acquire-missing b lock core past =
    from_core-missing b core (acquires b lock core (bank_lock b lock.0)) past

pub release-missing : (b : BankParts) (lock : LockId) (core : CoreId) (signature : Signature) → b.cores ≤ core.0 → bank_gets b (Release lock core signature) ≡ (b, None)
unfolding bank_gets
release-missing b lock core signature past =
    from_core-missing b core (releases b lock core signature (bank_lock b lock.0)) past

-- what a message leaves alone
same-from_core : {X : Type 0} (f : BankParts → X) (b : BankParts) (core : CoreId) (row : BankParts × Option Outgoing) → f row.0 ≡ f b → f (from_core b core row).0 ≡ f b
same-from_core f b core row same = by_test (nat_lt core.0 b.cores) where
  by_test : (t : Bool) → f (cond t row (b, None)).0 ≡ f b
  by_test true = same
  by_test false = refl

pub read-changes_nothing : (b : BankParts) (word : WordId) (reader : CoreId) → (bank_gets b (ReadReq word reader)).0 ≡ b
unfolding bank_gets
read-changes_nothing b word reader =
    same-from_core (λ (c : BankParts). c) b reader (reads b word reader (bank_word b word.0)) (by_content (bank_word b word.0)) where
      by_content : (o : Option BankWord) → (reads b word reader o).0 ≡ b
      by_content None = refl
      by_content (Some (Home value)) = refl
      by_content (Some (Reg registrant)) = refl

pub lock-at_register : (b : BankParts) (word : WordId) (core : CoreId) (l : ℕ) → bank_lock (bank_gets b (RegReq word core)).0 l ≡ bank_lock b l
unfolding bank_gets
lock-at_register b word core l =
    same-from_core (λ (c : BankParts). bank_lock c l) b core (registers b word core (bank_word b word.0)) (by_content (bank_word b word.0)) where
      by_content : (o : Option BankWord) → bank_lock (registers b word core o).0 l ≡ bank_lock b l
      by_content None = refl
      by_content (Some (Home value)) = refl
      by_content (Some (Reg registrant)) = refl

pub lock-at_write_back : (b : BankParts) (word : WordId) (value : ℕ) (core : CoreId) (l : ℕ) → bank_lock (bank_gets b (WriteBack word value core)).0 l ≡ bank_lock b l
unfolding bank_gets
lock-at_write_back b word value core l =
    same-from_core (λ (c : BankParts). bank_lock c l) b core (takes_back b word value core (bank_word b word.0)) (by_content (bank_word b word.0)) where
      by_test : (t : Bool) → bank_lock (cond t (with_word b word.0 (Home value)) b) l ≡ bank_lock b l
      by_test true = refl
      by_test false = refl

      by_content : (o : Option BankWord) → bank_lock (takes_back b word value core o).0 l ≡ bank_lock b l
      by_content None = refl
      by_content (Some (Home old)) = refl
      by_content (Some (Reg registrant)) = by_test (is_same_core registrant core)

pub word-at_acquire : (b : BankParts) (lock : LockId) (core : CoreId) (w : ℕ) → bank_word (bank_gets b (Acquire lock core)).0 w ≡ bank_word b w
unfolding bank_gets
word-at_acquire b lock core w =
    same-from_core (λ (c : BankParts). bank_word c w) b core (acquires b lock core (bank_lock b lock.0)) (by_state (bank_lock b lock.0)) where
      by_state : (o : Option Lock) → bank_word (acquires b lock core o).0 w ≡ bank_word b w
      by_state None = refl
      by_state (Some state) = refl

pub word-at_release : (b : BankParts) (lock : LockId) (core : CoreId) (signature : Signature) (w : ℕ) → bank_word (bank_gets b (Release lock core signature)).0 w ≡ bank_word b w
unfolding bank_gets
word-at_release b lock core signature w =
    same-from_core (λ (c : BankParts). bank_word c w) b core (releases b lock core signature (bank_lock b lock.0)) (by_state (bank_lock b lock.0)) where
      by_state : (o : Option Lock) → bank_word (releases b lock core signature o).0 w ≡ bank_word b w
      by_state None = refl
      by_state (Some state) = refl
